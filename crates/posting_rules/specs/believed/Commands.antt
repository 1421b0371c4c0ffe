-- The commands of a bank, and which branches, tellers and accounts they open. A log is the list of the
-- commands so far, the newest first: what came before a command is the list after it.
use Rattle.std.specs.Prelude.{◌≡◌, ◌≤◌, ◌<◌, ◌+◌, ◌*◌, ◌⊎◌, ℕ, ℤ, pos, ◌≤ℤ◌, nat_abs, length, List, [], ◌∷◌}
use Rattle.std.specs.Prelude.{Option, Some, None}
use Rattle.std.specs.Prelude.{Bool, false, is_some, ◌==◌, ◌&&◌, nat_le, if◌then◌else◌, IfSome, option_and_then}
use Rattle.std.specs.List.{AllByRecursion}
use Rattle.std.specs.Option.{option_or}
use Rattle.posting_rules.specs.declared.limits.TheConstants.{LAST_BRANCH, MAX_ACCOUNTS, NUMBERS_PER_TELLER}
use Rattle.message_records.specs.declared.limits.TheConstants.{MAX_BALANCE, MAX_MOMENT, MAX_NUMBER, MAX_TELLER}
use Rattle.message_records.specs.declared.limits.TheConstants.{REQUEST_BYTES}
use Rattle.posting_rules.specs.believed.Numbering.{branch_of_teller, branch_of_account, place_of_account}

-- what a branch is opened with
pub record Terms : Type 0 where
  -- how many accounts it has
  pub accounts : ℕ
  -- the floor of its accounts: the lowest balance that they may have, in cents; none where they have none
  pub floor : Option ℤ

abbrev pub opened_with : ℕ → Option ℤ → Terms
opened_with count floor = record { accounts = count; floor = floor }

pub data Command : Type 0 where
  -- a branch, and what it is opened with
  Open : ℕ → Terms → Command
  -- the moment, and the bytes of a record
  Post : ℕ → List ℕ → Command
  -- the keys of the first and the last of some numbers of a teller, which closed books decided; from 0 to 0 it
  -- seals these books, which decide nothing more
  Close : ℕ → ℕ → Command

-- a floor is at most zero, and within the limit of a balance
abbrev pub IsFloor : ℤ → Type 0
IsFloor z = (z ≤ℤ pos 0) × (nat_abs z ≤ MAX_BALANCE)

-- the key of a teller's number among the numbers of all tellers
abbrev pub number_key : ℕ → ℕ → ℕ
number_key t n = NUMBERS_PER_TELLER * t + n

-- the keys of two numbers of one teller, the first not above the last
pub record IsRun (first last : ℕ) : Type 0 where
  pub teller : ℕ
  pub teller_above : 1 ≤ teller
  pub teller_within : teller ≤ MAX_TELLER
  pub above : number_key teller 0 < first
  pub ordered : first ≤ last
  pub within : last ≤ number_key teller MAX_NUMBER

-- a branch, a count of accounts and a floor that can be opened; a moment within its range, and as many bytes
-- as a record has; numbers of a teller, or a seal
abbrev pub IsCommand : Command → Type 0
IsCommand (Open branch terms) = (1 ≤ branch) × (branch ≤ LAST_BRANCH) × (1 ≤ terms.accounts) ×
    (terms.accounts ≤ MAX_ACCOUNTS) × IfSome terms.floor IsFloor
IsCommand (Post moment bytes) = (moment ≤ MAX_MOMENT) × (length bytes ≡ REQUEST_BYTES)
IsCommand (Close first last) = ((first ≡ 0) × (last ≡ 0)) ⊎ IsRun first last

abbrev pub AreCommands : List Command → Type 0
AreCommands log = AllByRecursion IsCommand log

-- what a branch was first opened with, none where it isn't open
abbrev pub opened : List Command → ℕ → Option Terms
opened [] b = None
opened (Open branch terms ∷ log) b = option_or (opened log b) (if branch == b then Some terms else None)
opened (Post moment bytes ∷ log) b = opened log b
opened (Close first last ∷ log) b = opened log b

-- a teller is open if its branch is
abbrev pub is_teller_open : (ℕ → Option Terms) → ℕ → Bool
is_teller_open opened t = nat_le 1 t && is_some (opened (branch_of_teller t))

abbrev pub is_within : ℕ → Option Terms → Bool
is_within place None = false
is_within place (Some terms) = nat_le place terms.accounts

-- an account is open if its place is within the count of its branch
abbrev pub is_account_open : (ℕ → Option Terms) → ℕ → Bool
is_account_open opened a = nat_le 1 a && is_within (place_of_account a) (opened (branch_of_account a))

-- the floor of a branch's accounts, none where they have none or the branch isn't open
abbrev pub floor_of : (ℕ → Option Terms) → ℕ → Option ℤ
floor_of opened b = option_and_then (λ terms. terms.floor) (opened b)
