-- What is written of a bank: its requests as records, and its branches as a plan.
use Rattle.std.specs.Prelude.{◌≡◌, ◌≢◌, ◌⊎◌, ◌++◌, ℕ, ℤ, pos, Bool, List, [], ◌∷◌, drop, filter, map, codes}
use Rattle.std.specs.Prelude.{Option, Some, None, Result, Ok, Err, IfErr, OnErr, OnOk, int_lt, option_map, true, ⊤}
use Rattle.std.specs.Fmt.{signed_decimal}
use Rattle.std.specs.List.{AllByRecursion, flat_map}
use Rattle.std.specs.Io.KnownBytes.{Appends}
use Rattle.message_records.specs.believed.Spelling.{request_spelling}
use Rattle.posting_core.specs.believed.EndCalls.{EndsWith}
use Rattle.posting_core.specs.EndCalls.{HasMore, HasWriteFailed, IsFlush, WriteCall}
use Rattle.posting_rules.specs.declared.fault.Fault.TheVariants.{Damaged, Down, Memory, Store}
use Rattle.posting_rules.specs.declared.fault.Rule.{Rule}
use Rattle.posting_rules.specs.declared.fault.Rule.TheVariants.{Request}
use Rattle.report_contents.specs.Lines.{text_of}
use Rattle.report_contents.specs.Written.{AppendsPart}
use Rattle.sql_meanings.specs.believed.Entries.{Entry}
use Rattle.store_rows.specs.believed.Columns.{number_at}
use Rattle.walked_rows.specs.KeptRows.{BreaksKept, KeptItem, kept_key}
use Rattle.walked_rows.specs.Pairs.{row_under}
use Rattle.walked_rows.specs.declared.floors.StoredFloor.{StoredFloor}
use Rattle.bank_replays.specs.Visiting.{AreTooMany}
use Rattle.posting_core.specs.believed.LogEntries.{AnsweredRequest}
use Rattle.walked_rows.specs.Requests.{IsRequestRow, request_in}
use Rattle.bank_replays.specs.declared.fault.ReplayFault.{ReplayFault}
use Rattle.bank_replays.specs.declared.fault.ReplayFault.TheVariants.{Bank, Write}

-- all of a text was written, or at a fault a prefix of it
abbrev pub WritesText : List ℕ → Option (List ℕ) → Option (List ℕ) → Result (Unit {0}) ReplayFault → Type 0
WritesText text old new (Ok done) = Appends old new text
WritesText text old new (Err fault) = AppendsPart old new text

-- Bytes were written, and calls of the writer were made; or a prefix of them was, and its last call failed, or
-- it was asked too often.
pub record Puts (bytes : List ℕ) (old new : Option (List ℕ)) (t t' : Option (List WriteCall))
    (result : Result (Unit {0}) ReplayFault) : Type 0 where
  pub text : WritesText bytes old new result
  pub more : OnOk result (HasMore t t')
  pub failed : OnErr result (HasWriteFailed t t')
  pub only : IfErr result (λ fault. fault ≡ Write)

-- a text was written, and calls of the writer were made
abbrev pub Wrote : List ℕ → Option (List ℕ) → Option (List ℕ) → Option (List WriteCall)
    → Option (List WriteCall) → Type 0
Wrote text old new t t' = Appends old new text × HasMore t t'

-- a prefix of it was, and where the writer is said to have failed it did
abbrev pub WrotePart : List ℕ → Option (List ℕ) → Option (List ℕ) → Option (List WriteCall)
    → Option (List WriteCall) → ReplayFault → Type 0
WrotePart text old new t t' fault = AppendsPart old new text × (fault ≡ Write → HasWriteFailed t t')

-- all of it was, and nothing more, before a fault of the bank; or a prefix of it and of more, where the writer failed
abbrev pub WroteUpTo : (text more : List ℕ) → Option (List ℕ) → Option (List ℕ) → Option (List WriteCall)
    → Option (List WriteCall) → ReplayFault → Type 0
WroteUpTo text more old new t t' Write = AppendsPart old new (text ++ more) × HasWriteFailed t t'
WroteUpTo text more old new t t' (Bank fault) = Wrote text old new t t'

-- what is left of the writer, by what its calls returned: after Ok all is flushed, and where it is said to have
-- failed its last call did, or it was asked too often
pub record LeavesWriter (old new : Option (List WriteCall)) (result : Result (Unit {0}) ReplayFault) : Type 0 where
  pub flushed : OnOk result (EndsWith IsFlush old new)
  pub failed : result ≡ Err Write → HasWriteFailed old new

-- ---- kept requests

-- the row's ordinal is above this one
abbrev pub is_after : ℕ → KeptItem → Bool
is_after after k = int_lt (pos after) (kept_key k)

-- a text of each of the kept rows after an ordinal, one after another
abbrev pub texts_after : (KeptItem → List ℕ) → ℕ → List KeptItem → List ℕ
texts_after text after items = flat_map text (filter (is_after after) items)

-- the record that a row came as
abbrev pub record_of : KeptItem → List ℕ
record_of k = request_spelling (request_in k)

-- a row after an ordinal is such a one
abbrev pub IsWritten : (KeptItem → Type 0) → ℕ → KeptItem → Type 0
IsWritten Is after k = is_after after k ≡ true → Is k

-- the texts of these rows were written, of such alone
pub record WroteRows (Is : KeptItem → Type 0) (text : KeptItem → List ℕ) (after : ℕ) (items : List KeptItem)
    (old new : Option (List ℕ)) (t t' : Option (List WriteCall)) : Type 0 where
  pub wrote : Wrote (texts_after text after items) old new t t'
  pub each : AllByRecursion (IsWritten Is after) items

-- and then this fault came, at the next row if there is one
pub record WroteSomeRows (Is : KeptItem → Type 0) (text : KeptItem → List ℕ) (after : ℕ) (items next : List KeptItem)
    (old new : Option (List ℕ)) (t t' : Option (List WriteCall)) (fault : ReplayFault) : Type 0 where
  pub wrote : WroteUpTo (texts_after text after items) (texts_after text after next) old new t t' fault
  pub each : AllByRecursion (IsWritten Is after) items
  -- so is the next, where the writer failed at it
  pub last : fault ≡ Write → AllByRecursion (IsWritten Is after) next
  pub many : fault ≡ Bank Memory → AreTooMany items

-- the row can't be read, or it is after the ordinal and no such one
abbrev pub BreaksWritten : (KeptItem → Type 0) → ℕ → Rule → KeptItem → Type 0
BreaksWritten Is after rule k = BreaksKept rule k ⊎ ((rule ≡ Request) × (is_after after k ≡ true) × (Is k → ⊥))

-- why no more rows were written: there are no more, or the next one breaks the rule
abbrev pub WhyNoMore : (KeptItem → Type 0) → ℕ → (given rest : List KeptItem) → Result (Unit {0}) ReplayFault → Type 0
WhyNoMore Is after given rest (Ok done) = rest ≡ []
WhyNoMore Is after given rest (Err Write) = ⊤
WhyNoMore Is after given rest (Err (Bank Memory)) = AreTooMany given
WhyNoMore Is after given rest (Err (Bank Store)) = ⊤
WhyNoMore Is after given rest (Err (Bank Down)) = ⊤
WhyNoMore Is after given rest (Err (Bank (Damaged rule))) =
    (k : KeptItem) × (more : List KeptItem) × (rest ≡ k ∷ more) × BreaksWritten Is after rule k

-- their text was written, or where the writer failed a prefix of it
abbrev pub WritesUpTo : List ℕ → Option (List ℕ) → Option (List ℕ) → Result (Unit {0}) ReplayFault → Type 0
WritesUpTo text old new (Ok done) = Appends old new text
WritesUpTo text old new (Err Write) = AppendsPart old new text
WritesUpTo text old new (Err (Bank fault)) = Appends old new text

-- of these rows the first were written, as far as they are after the ordinal, and the rest weren't
pub record WritesRows (Is : KeptItem → Type 0) (text : KeptItem → List ℕ) (after : ℕ) (all : List KeptItem)
    (old new : Option (List ℕ)) (result : Result (Unit {0}) ReplayFault) : Type 0 where
  pub given : List KeptItem
  pub rest : List KeptItem
  pub are : given ++ rest ≡ all
  -- each of them that is written is such a one
  pub each : AllByRecursion (IsWritten Is after) given
  pub wrote : WritesUpTo (texts_after text after given) old new result
  pub why : WhyNoMore Is after given rest result

-- the records of rows of requests
abbrev pub ExportsRows : ℕ → List KeptItem → (old new : Option (List ℕ)) → Result (Unit {0}) ReplayFault → Type 0
ExportsRows = WritesRows IsRequestRow record_of

-- a text of a bank that shows a log is never cut short by damage
abbrev pub WritesSound : List ℕ → Option (List ℕ) → Option (List ℕ) → Result (Unit {0}) ReplayFault → Type 0
WritesSound text old new (Ok done) = Appends old new text
WritesSound text old new (Err Write) = AppendsPart old new text
WritesSound text old new (Err (Bank (Damaged rule))) = ⊥
WritesSound text old new (Err (Bank fault)) = AppendsPart old new text

-- the records of all but the first so many requests
abbrev pub records_of : ℕ → List AnsweredRequest → List ℕ
records_of after requests = flat_map (λ a. request_spelling a.request) (drop after requests)

-- ---- branches

-- the branch that a row of floors is of, and the floor
abbrev pub branch_of : StoredFloor → ℕ
branch_of f = f.branch

abbrev pub lowest_of : StoredFloor → ℤ
lowest_of f = f.lowest

-- a floor in digits, and nothing where there is none
abbrev pub text_of_floor : Option ℤ → List ℕ
text_of_floor None = []
text_of_floor (Some lowest) = signed_decimal lowest

-- the line of a branch with such a text: its number, how many accounts it has, and the text
abbrev pub line_with : Entry → List ℕ → List ℕ
line_with e floor =
    signed_decimal e.key ++ (44 ∷ (signed_decimal (number_at 0 e) ++ (44 ∷ (floor ++ (10 ∷ [])))))

-- and with the floor that a row has under its number
abbrev pub plan_line : List Entry → Entry → List ℕ
plan_line floors e = line_with e (text_of_floor (option_map (number_at 0) (row_under floors e.key)))

-- the lines of branches
abbrev pub plan_lines : List Entry → List Entry → List ℕ
plan_lines floors branches = text_of (map (plan_line floors) branches)

-- the first line
abbrev pub plan_names : List ℕ
plan_names = codes "branch,accounts,floor\n"

-- the plan that rows of `branch` and of `branch_floor` are
abbrev pub plan_text : List Entry → List Entry → List ℕ
plan_text floors branches = plan_names ++ plan_lines floors branches

-- It was written, or at a fault a prefix of it. Memory is asked for where there is a floor, and is at its end only there, or
-- where there would be no room for so many branches.
pub record WritesPlan (floors branches : List Entry) (old new : Option (List ℕ)) (result : Result (Unit {0}) ReplayFault)
    : Type 0 where
  pub text : WritesText (plan_text floors branches) old new result
  pub frugal : result ≡ Err (Bank Memory) → (floors ≢ []) ⊎ AreTooMany branches
