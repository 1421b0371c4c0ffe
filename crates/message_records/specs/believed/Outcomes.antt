-- What becomes of a request: the code and the name that its reply carries.
use Rattle.std.specs.Prelude.{ℕ, List, [], ◌∷◌, codes, Bool, true, false, ◌==◌, Option}
use Rattle.std.specs.List.{find}
use Rattle.message_records.specs.declared.records.Outcome.{Outcome}
use Rattle.message_records.specs.declared.records.Outcome.TheVariants.{Posted, NoTeller, WrongBranch}
use Rattle.message_records.specs.declared.records.Outcome.TheVariants.{NoAccount, BelowFloor, OverLimit}
use Rattle.message_records.specs.declared.records.Outcome.TheVariants.{ReusedNumber, Closed, Sealed, Full, Malformed}

abbrev pub code_of : Outcome → ℕ
code_of Posted = 0
code_of NoTeller = 11
code_of WrongBranch = 12
code_of NoAccount = 13
code_of BelowFloor = 17
code_of OverLimit = 14
code_of ReusedNumber = 15
code_of Closed = 18
code_of Sealed = 19
code_of Full = 16
code_of Malformed = 90

-- all of them
abbrev pub outcomes : List Outcome
outcomes = Posted ∷ NoTeller ∷ WrongBranch ∷ NoAccount ∷ BelowFloor ∷ OverLimit ∷ ReusedNumber ∷ Closed ∷ Sealed ∷ Full ∷
    Malformed ∷ []

-- the outcome that has this code
abbrev pub outcome_with : ℕ → Option Outcome
outcome_with code = find (λ o. code_of o == code) outcomes

abbrev pub name_of : Outcome → List ℕ
name_of Posted = codes "POSTED"
name_of NoTeller = codes "NO TELLER"
name_of WrongBranch = codes "WRONG BRANCH"
name_of NoAccount = codes "NO ACCOUNT"
name_of BelowFloor = codes "BELOW FLOOR"
name_of OverLimit = codes "OVER LIMIT"
name_of ReusedNumber = codes "REUSED NUMBER"
name_of Closed = codes "CLOSED"
name_of Sealed = codes "SEALED"
name_of Full = codes "FULL"
name_of Malformed = codes "MALFORMED"

-- a reply has the account's new balance where the request was posted
abbrev pub has_balance : Outcome → Bool
has_balance Posted = true
has_balance _ = false
