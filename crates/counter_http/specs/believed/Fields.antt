-- What the fields of a head say of the body's length and of the connection. Names are compared without regard
-- to ASCII case.
use Rattle.std.specs.Prelude.{ℕ, List, [], ◌∷◌, Option, Some, None, Bool, ◌&&◌, ◌==◌, nat_lt, nat_le, length}
use Rattle.std.specs.Prelude.{map, filter, codes, bytes_eq, if◌then◌else◌}
use Rattle.std.specs.List.{list_any, list_all, slice_split}
use Rattle.std.specs.Char.{is_ascii_digit}
use Rattle.std.specs.Str.{str_to_ascii_lowercase}
use Rattle.std.specs.Str.Parse.{digits_value}
use Rattle.httparse.specs.Ascii.{comma}
use Rattle.httparse.specs.Grammar.{RequestHead, trim_ows}
use Rattle.httparse.specs.Spans.{name_and_value}
use Rattle.counter_http.specs.declared.limits.TheConstants.{MAX_BODY}

-- a field's name, and its value without the white space around it
abbrev pub NamedValue : Type 0
NamedValue = List ℕ × List ℕ

abbrev pub named_values : RequestHead → List NamedValue
named_values h = map name_and_value h.fields

-- two texts are the same but for the case of their ASCII letters
abbrev pub is_alike : List ℕ → List ℕ → Bool
is_alike a b = bytes_eq (str_to_ascii_lowercase a) (str_to_ascii_lowercase b)

abbrev pub is_named : List ℕ → NamedValue → Bool
is_named name field = is_alike field.0 name

abbrev pub value_in : NamedValue → List ℕ
value_in field = field.1

-- the values of the fields of a name, in order
abbrev pub values_of : List ℕ → List NamedValue → List (List ℕ)
values_of name fields = map value_in (filter (is_named name) fields)

-- ---- the body's length

-- one or more digits, of a value up to MAX_BODY
abbrev pub is_length : List ℕ → Bool
is_length digits =
    nat_lt 0 (length digits) && list_all is_ascii_digit digits && nat_le (digits_value 10 digits) MAX_BODY

abbrev pub stated_length : List ℕ → Option ℕ
stated_length digits = if is_length digits then Some (digits_value 10 digits) else None

-- by the values of the fields `Content-Length`: 0 without one, none where there are several
abbrev pub length_by : List (List ℕ) → Option ℕ
length_by [] = Some 0
length_by (value ∷ []) = stated_length value
length_by (value ∷ other ∷ values) = None

-- how long the body is; none where the fields can't say it, or name another coding
abbrev pub body_length : List NamedValue → Option ℕ
body_length fields =
    if list_any (is_named (codes "transfer-encoding")) fields then None
    else length_by (values_of (codes "content-length") fields)

-- ---- the end of a connection

abbrev pub is_close : List ℕ → Bool
is_close part = is_alike (trim_ows part) (codes "close")

-- one of the parts between the commas is `close`
abbrev pub has_close : List ℕ → Bool
has_close value = list_any is_close (slice_split (λ b. b == comma) value)

-- some field `Connection` asks for the connection to end
abbrev pub asks_to_close : List NamedValue → Bool
asks_to_close fields = list_any has_close (values_of (codes "connection") fields)
