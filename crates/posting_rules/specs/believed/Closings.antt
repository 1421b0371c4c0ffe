-- Closed books: which numbers they decided, and whether these books are sealed.
use Rattle.std.specs.Prelude.{ℕ, ◌/◌, ◌%◌, List, [], ◌∷◌, Bool, not, ◌&&◌, ◌||◌, ◌==◌, nat_le, nat_lt, if◌then◌else◌}
use Rattle.std.specs.List.{list_any}
use Rattle.posting_rules.specs.declared.judgments.Books.{Books}
use Rattle.posting_rules.specs.declared.judgments.Books.TheVariants.{Current, Closed, Sealed}
use Rattle.posting_rules.specs.declared.limits.TheConstants.{NUMBERS_PER_TELLER}
use Rattle.posting_rules.specs.declared.rows.ClosingRow.{ClosingRow}
use Rattle.posting_rules.specs.believed.Commands.{Command, Open, Post, Close, number_key}

-- a run has one of these numbers
abbrev pub meets : ℕ → ℕ → ClosingRow → Bool
meets first last r = nat_le r.first last && nat_le first r.last

abbrev pub is_closed_in : List ClosingRow → ℕ → Bool
is_closed_in runs x = list_any (meets x x) runs

-- these numbers are in order, and no run has one of them
abbrev pub are_free : List ClosingRow → ℕ → ℕ → Bool
are_free runs first last = nat_le first last && not (list_any (meets first last) runs)

abbrev pub run_of : ℕ → ℕ → ClosingRow
run_of first last = record { last = last; first = first }

-- the seal closes the key 0, which no teller's number has
abbrev pub seal : ClosingRow
seal = run_of 0 0

-- the keys of two numbers of one teller, the first not above the last
abbrev pub is_run : ℕ → ℕ → Bool
is_run first last =
    nat_le first last && (nat_le NUMBERS_PER_TELLER first && (nat_lt 0 (first % NUMBERS_PER_TELLER)
    && (first / NUMBERS_PER_TELLER == last / NUMBERS_PER_TELLER)))

-- that, or a seal, which closes the key 0
abbrev pub is_closing : ℕ → ℕ → Bool
is_closing first last = (first == 0 && last == 0) || is_run first last

-- the runs of numbers that a log closes, the newest first: a closing takes effect where its numbers are free
abbrev pub closings : List Command → List ClosingRow
closings [] = []
closings (Open branch terms ∷ log) = closings log
closings (Post moment bytes ∷ log) = closings log
closings (Close first last ∷ log) =
    if are_free (closings log) first last then run_of first last ∷ closings log else closings log

-- closed books decided this number of the teller
abbrev pub closed : List Command → ℕ → ℕ → Bool
closed log t n = is_closed_in (closings log) (number_key t n)

-- the seal is among them
abbrev pub sealed : List Command → Bool
sealed log = is_closed_in (closings log) 0

-- what closed books say of a teller's number
abbrev pub books_of : List ClosingRow → ℕ → ℕ → Books
books_of runs t n =
    if is_closed_in runs (number_key t n) then Closed else if is_closed_in runs 0 then Sealed else Current
