-- The answer to each message.
use Rattle.std.specs.Prelude.{ℕ, zero, suc, ◌-◌, ℤ, List, [], ◌∷◌, ◌++◌, length, Option, Some, None}
use Rattle.std.specs.Prelude.{Bool, true, false, not, ◌&&◌, ◌||◌, ◌==◌, nat_lt, nat_le, codes, bytes_eq}
use Rattle.std.specs.Prelude.{unwrap_or, get_or, replicate, if◌then◌else◌}
use Rattle.std.specs.Option.{option_and_then}
use Rattle.std.specs.Fmt.{decimal, signed_decimal}
use Rattle.http.specs.StatusCode.{reason_phrase, code_digits}
use Rattle.message_records.specs.declared.limits.TheConstants.{MAX_ACCOUNT, MAX_TELLER}
use Rattle.message_records.specs.believed.Ranges.{whole_within}
use Rattle.message_records.specs.believed.Reading.{number_of}
use Rattle.message_records.specs.believed.Spelling.{reply_spelling}
use Rattle.posting_rules.specs.declared.limits.TheConstants.{LAST_BRANCH}
use Rattle.posting_rules.specs.believed.Commands.{Command, opened, Terms}
use Rattle.posting_rules.specs.believed.Entries.{reply, balance_after, branch_balance, decided}
use Rattle.message_records.specs.declared.limits.TheConstants.{REQUEST_BYTES}
use Rattle.posting_core.specs.believed.LogEntries.{entries_given}
use Rattle.posting_core.specs.believed.Tills.{teller_after}
use Rattle.counter_http.specs.declared.limits.TheConstants.{ACCOUNT_DIGITS, PLACE_DIGITS, TELLER_DIGITS}
use Rattle.counter_http.specs.declared.routes.Route.{Route}
use Rattle.counter_http.specs.declared.routes.Route.TheVariants.{Posting, Account, Teller, Branches, Health, Log, Metrics}
use Rattle.counter_http.specs.declared.routes.Route.TheVariants.{Plan}
use Rattle.counter_http.specs.believed.Paths.{path_of, account_in, place_in, route_of, teller_in}
use Rattle.counter_http.specs.believed.Messages.{Message, closes, Ending, Finished, Closed, No_head, No_body}
use Rattle.counter_http.specs.believed.Messages.{is_head_request}

-- what a message asks for
pub record Asked : Type 0 where
  pub method : List ℕ
  pub target : List ℕ
  pub body : List ℕ
  pub closes : Bool

abbrev pub asked_by : Message → Asked
asked_by m = record { method = m.head.method; target = m.head.target; body = m.body; closes = closes m.head }

-- ---- answers

pub record Answer : Type 0 where
  pub code : ℕ
  pub media : List ℕ
  -- the methods that the route takes, where they are listed
  pub allow : Option (List ℕ)
  pub body : List ℕ

unfoldable pub status_words : ℕ → List ℕ
status_words code = code_digits code ++ codes " " ++ unwrap_or (reason_phrase code) []

abbrev pub plain : List ℕ → Answer
plain body = record { code = 200; media = codes "text/plain"; allow = None; body = body }

abbrev pub octets : List ℕ → Answer
octets body = record { code = 200; media = codes "application/octet-stream"; allow = None; body = body }

abbrev pub csv : List ℕ → Answer
csv body = record { code = 200; media = codes "text/csv"; allow = None; body = body }

-- an answer that says no more than its code
abbrev pub bare : ℕ → Answer
bare code =
    record { code = code; media = codes "text/plain"; allow = None; body = status_words code ++ codes "\n" }

abbrev pub not_allowed : List ℕ → Answer
not_allowed methods = record (bare 405) { allow = Some methods }

abbrev pub is_reading : List ℕ → Bool
is_reading method = bytes_eq method (codes "GET") || bytes_eq method (codes "HEAD")

-- a record was submitted
abbrev pub posted_answer : List Command → List ℕ → Answer
posted_answer log body =
    if length body == REQUEST_BYTES
    then octets (reply_spelling (reply log body))
    else bare 400

-- the number from 1 on that up to so many digits name, the first not 0
abbrev pub is_number_long : ℕ → List ℕ → Bool
is_number_long digits id = nat_lt 0 (length id) && nat_le (length id) digits && not (get_or id 0 0 == 48)

abbrev pub number_named : ℕ → ℕ → List ℕ → Option ℕ
number_named digits most id =
    if is_number_long digits id then option_and_then (whole_within 1 most) (number_of id) else None

abbrev pub account_named : List ℕ → Option ℕ
account_named id = number_named ACCOUNT_DIGITS MAX_ACCOUNT id

abbrev pub teller_named : List ℕ → Option ℕ
teller_named id = number_named TELLER_DIGITS MAX_TELLER id

abbrev pub account_line : ℕ → ℤ → List ℕ
account_line account balance =
    codes "account " ++ decimal account ++ codes " balance " ++ signed_decimal balance ++ codes "\n"

abbrev pub teller_line : ℕ → ℤ → List ℕ
teller_line teller balance =
    codes "teller " ++ decimal teller ++ codes " balance " ++ signed_decimal balance ++ codes "\n"

-- of an account or a teller that is open
abbrev pub balance_answer : (ℤ → List ℕ) → Option ℤ → Answer
balance_answer line None = bare 404
balance_answer line (Some balance) = plain (line balance)

abbrev pub account_answer : List Command → Option ℕ → Answer
account_answer log None = bare 404
account_answer log (Some account) = balance_answer (account_line account) (balance_after log account)

abbrev pub teller_answer : List Command → Option ℕ → Answer
teller_answer log None = bare 404
teller_answer log (Some teller) = balance_answer (teller_line teller) (teller_after log teller)

abbrev pub spaces : ℕ → List ℕ
spaces n = replicate n 32

-- filled with spaces on the left
abbrev pub right_in : ℕ → List ℕ → List ℕ
right_in n text = spaces (n - length text) ++ text

abbrev pub branch_line : ℕ → ℕ → ℤ → List ℕ
branch_line branch accounts balance =
    right_in 6 (decimal branch) ++ codes " " ++ right_in 7 (decimal accounts) ++ codes " "
    ++ right_in 14 (signed_decimal balance) ++ codes "\n"

abbrev pub line_if_open : (Terms → List ℕ) → Option Terms → List ℕ
line_if_open line None = []
line_if_open line (Some terms) = line terms

-- the lines of the open branches up to one, ascending
abbrev pub lines_up_to : (ℕ → Terms → List ℕ) → List Command → ℕ → List ℕ
lines_up_to line log zero = []
lines_up_to line log (suc b) = lines_up_to line log b ++ line_if_open (line (suc b)) (opened log (suc b))

abbrev pub balance_line : List Command → ℕ → Terms → List ℕ
balance_line log branch terms = branch_line branch terms.accounts (branch_balance (decided log) branch)

unfoldable pub branch_lines : List Command → List ℕ
branch_lines log = lines_up_to (balance_line log) log LAST_BRANCH

abbrev pub floor_text : Option ℤ → List ℕ
floor_text None = []
floor_text (Some lowest) = signed_decimal lowest

abbrev pub plan_line : ℕ → Terms → List ℕ
plan_line branch terms =
    decimal branch ++ codes "," ++ decimal terms.accounts ++ codes "," ++ floor_text terms.floor ++ codes "\n"

abbrev pub plan_names : List ℕ
plan_names = codes "branch,accounts,floor\n"

-- the open branches as a plan, which opens the same branches again
unfoldable pub plan_lines : List Command → List ℕ
plan_lines log = plan_names ++ lines_up_to plan_line log LAST_BRANCH

-- the number that 1 to 13 digits name, the first not 0 where there are more
abbrev pub is_place_long : List ℕ → Bool
is_place_long id =
    nat_lt 0 (length id) && nat_le (length id) PLACE_DIGITS && (not (get_or id 0 0 == 48) || length id == 1)

abbrev pub place_named : List ℕ → Option ℕ
place_named id = if is_place_long id then number_of id else None

-- the entries of the log after so many
abbrev pub entries_answer : Option (List ℕ) → Answer
entries_answer None = bare 404
entries_answer (Some entries) = octets entries

abbrev pub log_answer : List Command → Option ℕ → Answer
log_answer log None = bare 404
log_answer log (Some after) = entries_answer (entries_given log after)

abbrev pub answer_on : List Command → Option Route → Asked → Answer
answer_on log None asked = bare 404
answer_on log (Some Posting) asked =
    if bytes_eq asked.method (codes "POST") then posted_answer log asked.body else not_allowed (codes "POST")
answer_on log (Some Account) asked =
    if is_reading asked.method then account_answer log (account_named (account_in (path_of asked.target)))
    else not_allowed (codes "GET, HEAD")
answer_on log (Some Teller) asked =
    if is_reading asked.method then teller_answer log (teller_named (teller_in (path_of asked.target)))
    else not_allowed (codes "GET, HEAD")
answer_on log (Some Branches) asked =
    if is_reading asked.method then plain (branch_lines log) else not_allowed (codes "GET, HEAD")
answer_on log (Some Health) asked =
    if is_reading asked.method then plain (codes "ok\n") else not_allowed (codes "GET, HEAD")
answer_on log (Some Log) asked =
    if is_reading asked.method then log_answer log (place_named (place_in (path_of asked.target)))
    else not_allowed (codes "GET, HEAD")
answer_on log (Some Plan) asked =
    if is_reading asked.method then csv (plan_lines log) else not_allowed (codes "GET, HEAD")
-- a connection that is served by itself has no figures
answer_on log (Some Metrics) asked = if is_reading asked.method then bare 404 else not_allowed (codes "GET, HEAD")

unfoldable pub answer_to : List Command → Asked → Answer
answer_to log asked = answer_on log (route_of (path_of asked.target)) asked

-- a record is sent
abbrev pub is_record : Asked → Bool
is_record asked = bytes_eq asked.method (codes "POST") && length asked.body == REQUEST_BYTES

-- the record that a message submits, if it submits one
abbrev pub submits : Option Route → Asked → Bool
submits (Some Posting) asked = is_record asked
submits _ asked = false

unfoldable pub is_posting : Asked → Bool
is_posting asked = submits (route_of (path_of asked.target)) asked

-- ---- their bytes

abbrev pub allow_line : Option (List ℕ) → List ℕ
allow_line None = []
allow_line (Some methods) = codes "Allow: " ++ methods ++ codes "\r\n"

abbrev pub close_line : Bool → List ℕ
close_line true = codes "Connection: close\r\n"
close_line false = []

abbrev pub body_if : Bool → List ℕ → List ℕ
body_if true body = body
body_if false body = []

-- the bytes of an answer, with its body or without, and after which the connection ends or goes on
unfoldable pub answer_text : Answer → Bool → Bool → List ℕ
answer_text a shows closes =
    codes "HTTP/1.1 " ++ status_words a.code ++ codes "\r\nContent-Type: " ++ a.media
    ++ codes "\r\nContent-Length: " ++ decimal (length a.body) ++ codes "\r\n"
    ++ allow_line a.allow ++ close_line closes ++ codes "\r\n" ++ body_if shows a.body

abbrev pub shows : Asked → Bool
shows asked = not (bytes_eq asked.method (codes "HEAD"))

abbrev pub answer_of : List Command → Asked → List ℕ
answer_of log asked = answer_text (answer_to log asked) (shows asked) asked.closes

-- where the bank fails, whatever was asked
abbrev pub unavailable : Asked → List ℕ
unavailable asked = answer_text (bare 503) (shows asked) true

-- the answer to what is no message
abbrev pub refusal : Bool → List ℕ
refusal shows = answer_text (bare 400) shows true

abbrev pub final_answer : Ending → List (List ℕ)
final_answer Finished = []
final_answer Closed = []
final_answer No_head = refusal true ∷ []
final_answer (No_body h) = refusal (not (is_head_request h)) ∷ []
