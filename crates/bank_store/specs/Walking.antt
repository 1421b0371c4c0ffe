-- What a walk has yet to give, and what a step of it gives.
use Rattle.std.specs.Prelude.{◌≡◌, ◌++◌, ◌≤ℤ◌, ◌+ℤ◌, pos, ℕ, ℤ, Bool, List, [], ◌∷◌, map, drop, filter}
use Rattle.std.specs.Prelude.{Option, Some, None, Result, Ok, Err, IfOk, IfErr, OnOk, ⊤}
use Rattle.std.specs.Borrow.{GName}
use Rattle.std.specs.Result.{IsErrOf}
use Rattle.sqlite_trees.specs.declared.store.Store.{Ghosts}
use Rattle.sqlite.specs.Effect.{Database}
use Rattle.sqlite.specs.Held.{state}
use Rattle.sqlite.specs.State.{State, HasCleanDisk, Survives}
use Rattle.sqlite.specs.declared.error.Error.{Error}
use Rattle.posting_rules.specs.declared.fault.Fault.{Fault}
use Rattle.posting_rules.specs.declared.fault.Fault.TheVariants as faults
use Rattle.posting_rules.specs.declared.fault.Rule.{Rule}
use Rattle.sql_meanings.specs.StatementAnswers.{IsStoreError}
use Rattle.walked_rows.specs.Pairs.{Pair, pair_key}
use Rattle.walked_rows.specs.Rising.{RisesFrom}
use Rattle.walked_rows.specs.Rows.{LEAST, items_after}
use Rattle.walked_rows.specs.Stored.{is_stated_of, stated_pair}
use Rattle.walked_rows.specs.declared.stated.StatedPosting.{StatedPosting}
use Rattle.bank_store.specs.believed.Seen.{bank_seen, connection_of, database_of}
use Rattle.bank_store.specs.Seen.{fault_of}
use Rattle.bank_store.specs.Walks.{IsStill, IsUntouchedIfOpen}
use Rattle.bank_store.specs.declared.bank.Bank.{Bank}
use Rattle.bank_store.specs.declared.walks.Walk.{Walk}
use Rattle.bank_store.specs.declared.walks.Stage.{Stage}
use Rattle.bank_store.specs.declared.walks.Stage.TheVariants.{Going, Ended, Failed}

-- ---- what a walk borrows

-- the bank, as it is
abbrev pub lent : {S R : Type 0} {g : Ghosts S} → Walk S R g → Bank S g
lent w = w.bank.now

-- the name of the loan
abbrev pub loan_of : {S R : Type 0} {g : Ghosts S} → Walk S R g → GName
loan_of w = w.bank.ghost_name

-- what the bank's connection shows
abbrev pub lent_state : {S R : Type 0} (g : Ghosts S) → Walk S R g → State
lent_state g w = state g (connection_of (lent w))

-- ---- how far it is

-- none are to come where all were given
abbrev pub coming : {X : Type 0} → Stage → List X → List X
coming Going items = items
coming Ended items = []
coming Failed items = items

-- all of them, or those of an account where one is named
abbrev pub given_of : {X : Type 0} → (Option ℕ → X → Bool) → Option ℕ → List X → List X
given_of is_given None items = items
given_of is_given (Some account) items = filter (is_given (Some account)) items

-- those that were read ahead and not given yet, and those after them
abbrev pub items_to_come : {S R X : Type 0} {g : Ghosts S} → (X → ℤ) → (R → X) → (Option ℕ → X → Bool)
    → List X → Walk S R g → List X
items_to_come key item is_given items w =
    coming w.stage (map item (drop w.given w.rows.items) ++ items_after key w.rest
    (filter (is_given w.of) items))

-- the same of an account's postings, each with the reference of its request
abbrev pub postings_to_come : {S : Type 0} {g : Ghosts S} → List Pair → Walk S StatedPosting g → List Pair
postings_to_come = items_to_come pair_key stated_pair is_stated_of

-- the keys of those to come rise from a number on
abbrev pub ComesFrom : {S R : Type 0} {g : Ghosts S} → (R → ℤ) → ℤ → Walk S R g → Type 0
ComesFrom key from w = RisesFrom from (map key (drop w.given w.rows.items)) w.rest

-- it has a key from a number on, and the keys of those to come are above it
abbrev pub GivesFrom : {S R : Type 0} {g : Ghosts S} → (R → ℤ) → ℤ → Walk S R g → Option R → Type 0
GivesFrom key from w None = ⊤
GivesFrom key from w (Some r) = (from ≤ℤ key r) × ComesFrom key (key r +ℤ pos 1) w

-- all rows were given
abbrev pub IsEnded : {S R : Type 0} {g : Ghosts S} → Walk S R g → Type 0
IsEnded w = w.stage ≡ Ended

-- it has ended with a fault
abbrev pub HasToldFault : {S R : Type 0} {g : Ghosts S} → Walk S R g → Type 0
HasToldFault w = w.stage ≡ Failed

-- ---- its prefix

-- A walk over such items, all of them or those of an account, begins over a bank that is not down, and borrows
-- it under this name; no other fault is reported.
pub record BeginsWalk {S R X : Type 0} (g : Ghosts S) (key : X → ℤ) (item : R → X)
    (is_given : Option ℕ → X → Bool) (HasItems : Database → List X → Type 0) (of : Option ℕ) (name : GName)
    (old : Bank S g) (result : Result (Walk S R g) Fault) : Type 0 where
  pub same_reference : IfOk result (λ it. loan_of it ≡ name)
  pub same : IfOk result (λ it. lent it ≡ old)
  -- all that are given are to come
  pub all : IfOk result (λ it. (items : List X) → HasItems (database_of g old) items
      → items_to_come key item is_given items it ≡ given_of is_given of items)
  pub rises : IfOk result (λ it. ComesFrom (λ r. key (item r)) LEAST it)
  pub fresh : IfOk result (λ it. HasToldFault it → ⊥)
  pub fault : IfErr result (λ f. (f ≡ faults.Down) × (bank_seen g old).is_down)
  pub down : (bank_seen g old).is_down → IsErrOf result faults.Down

-- ---- a step

-- The first row to come was given; or there is none; or the first row to come breaks the rule.
abbrev pub Steps : {R X : Type 0} → (R → X) → (Rule → X → Type 0) → List X → List X
    → Result (Option R) Fault → Type 0
Steps item Breaks old new (Ok (Some r)) = old ≡ item r ∷ new
Steps item Breaks old new (Ok None) = (old ≡ []) × (new ≡ [])
Steps {R} {X} item Breaks old new (Err (faults.Damaged broken)) =
    (e : X) × (more : List X) × (old ≡ e ∷ more) × Breaks broken e
Steps item Breaks old new (Err faults.Store) = ⊤
Steps item Breaks old new (Err faults.Down) = new ≡ old
Steps item Breaks old new (Err faults.Memory) = ⊥

-- What a step leaves of the bank that the walk borrows: the walk still borrows it, it is no more down than it
-- was, its connection sees what it saw, where the step failed as long as the store is open, and a crash leaves
-- nothing new.
pub record LeavesLent {S R A : Type 0} (g : Ghosts S) (old new : Walk S R g) (result : Result A Fault) : Type 0
  where
    pub same_reference : loan_of new ≡ loan_of old
    pub same : HasCleanDisk (lent_state g new) → OnOk result (IsStill (lent_state g old) (lent_state g new))
    pub undone : HasCleanDisk (lent_state g new) → IsUntouchedIfOpen (lent_state g old) (lent_state g new)
    pub up : fault_of (lent new) ≡ fault_of (lent old)
    pub survives : Survives (lent_state g old) (lent_state g new) (λ _. ⊥)

-- How far a step leaves the walk: after the last row it has ended and stays so, after a fault it is over, and
-- each step from then on says so and changes nothing.
pub record GoesOn {S R : Type 0} {g : Ghosts S} (old new : Walk S R g) (result : Result (Option R) Fault)
    : Type 0 where
  pub ended : result ≡ Ok None → IsEnded new
  pub again : IsEnded old → (result ≡ Ok None) × (new ≡ old)
  pub failed : IfErr result (λ _. HasToldFault new)
  pub going : OnOk result (HasToldFault new → ⊥)
  pub down : (HasToldFault old → IsErrOf result faults.Down)
      × (IsErrOf result faults.Down → HasToldFault old × (new ≡ old))

-- the store failed, or refused memory or steps
abbrev pub StoreFailed : State → State → Type 0
StoreFailed old new = (e : Error) × IsStoreError old new e

-- the fault is of the store, with an error of which this holds, or the first to come breaks the rule
abbrev pub IsToldFault : {X : Type 0} → (Error → Type 0) → (Rule → X → Type 0) → List X → Fault → Type 0
IsToldFault {X} Because Breaks old (faults.Damaged broken) =
    (e : X) × (more : List X) × (old ≡ e ∷ more) × Breaks broken e
IsToldFault Because Breaks old faults.Store = (e : Error) × Because e
IsToldFault Because Breaks old faults.Down = ⊥
IsToldFault Because Breaks old faults.Memory = ⊥
