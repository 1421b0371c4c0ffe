-- Why a part of a call failed, and what its damage says.
use Rattle.std.proofs.Common.{◌≡◌, ℕ, List, Ok, Err, Result, refl, sym, subst, ◌∙◌, arith, inl, inr}
use Rattle.std.specs.Prelude.{IsTrue}
use Rattle.sqlite.specs.{State.State, State.Fails, State.Survives, Steps.FailsToCommit, Held.Held, Held.state}
use Rattle.sqlite.specs.{Effect.Database, Order.Row, Tree.Trees, declared.error.Error.Error}
use Rattle.sqlite_trees.specs.declared.store.Store.{Ghosts}
use Rattle.store_rows.specs.believed.{Failures.Additions, Failures.HasFailed, Failures.HasMet}
use Rattle.bank_transactions.specs.believed.Stray.{IsDamage}
use Rattle.store_rows.specs.Failures.{Puts}
use Rattle.store_rows.specs.declared.fault.TableFault.{TableFault, TheVariants.Sqlite, TheVariants.Damaged}
use Rattle.posting_rules.specs.declared.fault.Rule.{Rule}
use Rattle.posting_rules.specs.declared.fault.Rule.TheVariants.{Meta, Teller, Account, Balance, Request, Value, Key}
use Rattle.posting_rules.specs.declared.fault.Rule.TheVariants.{Closing, Floor, Reference}
use Rattle.bank_transactions.specs.believed.Causes.{IsBefore, HasFailedBetween, HasMetBetween, Damage, IsBrokenOrMet}
use Rattle.bank_transactions.specs.Causes.{IsFault, Blames}

-- nothing is forgotten by a call
pub comes : {P : Trees → Type 0} {old new : State} → Survives old new P → IsBefore old new
comes s = record { faults = s.counts; limit = s.limit }

pub same_moment : (s : State) → IsBefore s s
same_moment s = record { faults = omega arith; limit = refl }

pub then_moment : (old mid new : State) → IsBefore old mid → IsBefore mid new → IsBefore old new
then_moment old mid new one two =
    record { faults = let a = one.faults in let b = two.faults in omega arith; limit = two.limit ∙ one.limit }

-- a transaction that goes on is leaves from its commit by the store alone
pub commit_fails : (last new : State) (e : Error) → IsTrue last.in_transaction → FailsToCommit last new e
    → Fails last new ⊥ e
commit_fails last new e live (inl fails) = fails
commit_fails last new e live (inr late) = absurd (let none = late.1 in let goes = live in cc)

-- the failing call is the whole part
pub failed_here : {S : Type 0} (g : Ghosts S) (old new : Held S) (e : Error)
    → HasFailed (state g old) (state g new) e → HasFailedBetween g old new e
failed_here g old new e failed =
    record {
      at = old;
      then = new;
      before = same_moment (state g old);
      failed = failed;
      after = same_moment (state g new);
    }

-- a part that failed, after others and before others
pub failed_within : {S : Type 0} (g : Ghosts S) (old mid end new : Held S) (e : Error)
    → IsBefore (state g old) (state g mid)
    → IsBefore (state g end) (state g new) → HasFailedBetween g mid end e → HasFailedBetween g old new e
failed_within g old mid end new e one two it = record {
  at = it.at;
  then = it.then;
  before = then_moment (state g old) (state g mid) (state g it.at) one it.before;
  failed = it.failed;
  after = then_moment (state g it.then) (state g end) (state g new) it.after two;
}

-- the same of damage that was met
pub met_within : {S : Type 0} {Adds : Additions} (g : Ghosts S) (old mid end new : Held S) (rule : Rule)
    → IsBefore (state g old) (state g mid)
    → IsBefore (state g end) (state g new) → HasMetBetween g Adds mid end rule → HasMetBetween g Adds old new rule
met_within g old mid end new rule one two it = record {
  at = it.at;
  then = it.then;
  before = then_moment (state g old) (state g mid) (state g it.at) one it.before;
  met = it.met;
  after = then_moment (state g it.then) (state g end) (state g new) it.after two;
}

-- damage that says the same of a whole as of this part of it
abbrev pub Widens : {S : Type 0} → Damage S → Held S → Held S → Held S → Held S → Type 0
Widens Met old mid end new = (rule : Rule) → Met mid end rule → Met old new rule

pub fault_within : {S : Type 0} (Met : Damage S) (g : Ghosts S) (old mid end new : Held S)
    (fault : TableFault) → Widens Met old mid end new
    → IsBefore (state g old) (state g mid) → IsBefore (state g end) (state g new)
    → IsFault Met g mid end fault → IsFault Met g old new fault
fault_within Met g old mid end new (Sqlite e) wide one two it = failed_within g old mid end new e one two it
fault_within Met g old mid end new (Damaged rule) wide one two it = wide rule it

pub blames_after : {S X : Type 0} (Met : Damage S) (g : Ghosts S) (old mid new : Held S)
    (r : Result X TableFault) → Widens Met old mid new new
    → IsBefore (state g old) (state g mid) → Blames Met g mid new r → Blames Met g old new r
blames_after Met g old mid new (Ok x) wide one it = tt
blames_after Met g old mid new (Err fault) wide one it =
    fault_within Met g old mid new new fault wide one (same_moment (state g new)) it

-- a part that only writes
pub met_after : {S X : Type 0} (Adds : Additions) (g : Ghosts S) (old mid new : Held S) (r : Result X TableFault)
    → IsBefore (state g old) (state g mid)
    → Blames (HasMetBetween g Adds) g mid new r → Blames (HasMetBetween g Adds) g old new r
met_after Adds g old mid new r one =
    blames_after (HasMetBetween g Adds) g old mid new r
    (λ rule. met_within g old mid new new rule one (same_moment (state g new))) one

-- the statement is the whole part
pub met_here : {S : Type 0} {Adds : Additions} (g : Ghosts S) (old new : Held S) (rule : Rule)
    → HasMet Adds (state g old) (state g new) rule → HasMetBetween g Adds old new rule
met_here g old new rule met =
    record {
      at = old;
      then = new;
      before = same_moment (state g old);
      met = met;
      after = same_moment (state g new);
    }

pub blames_put : {S : Type 0} (Adds : Additions) (g : Ghosts S) (old new : Held S) (text : List ℕ) (values : Row)
    (r : Result (Unit {0}) TableFault) → Adds text values → Puts text values (state g old) (state g new) r
    → Blames (HasMetBetween g Adds) g old new r
blames_put Adds g old new text values (Ok done) own leaves = tt
blames_put Adds g old new text values (Err (Sqlite e)) own leaves = failed_here g old new e leaves.1
blames_put Adds g old new text values (Err (Damaged rule)) own leaves =
    subst (λ (x : Rule). HasMetBetween g Adds old new x) (sym leaves.1.0)
    (met_here g old new Key (text, values, own, leaves.1.1))

-- ---- what is so of the rows that are put in

met_also : {Adds Adds' : Additions} (old new : State) (rule : Rule)
    → ((text : List ℕ) (values : Row) → Adds text values → Adds' text values)
    → HasMet Adds old new rule → HasMet Adds' old new rule
met_also old new Meta also met = (met.0, met.1, also met.0 met.1 met.2, met.3, met.4)
met_also old new Teller also met = (met.0, met.1, also met.0 met.1 met.2, met.3, met.4)
met_also old new Account also met = (met.0, met.1, also met.0 met.1 met.2, met.3, met.4)
met_also old new Balance also met = absurd met.3
met_also old new Request also met = absurd met.3
met_also old new Value also met = absurd met.3
met_also old new Key also met = (met.0, met.1, also met.0 met.1 met.2, met.3)
met_also old new Floor also met = absurd met.3
met_also old new Reference also met = absurd met.3
met_also old new Closing also met = absurd met.3

pub between_also : {S : Type 0} {Adds Adds' : Additions} (g : Ghosts S) (old new : Held S) (rule : Rule)
    → ((text : List ℕ) (values : Row) → Adds text values → Adds' text values)
    → HasMetBetween g Adds old new rule → HasMetBetween g Adds' old new rule
between_also g old new rule also it = record {
  at = it.at;
  then = it.then;
  before = it.before;
  met = met_also (state g it.at) (state g it.then) rule also it.met;
  after = it.after;
}

pub blames_also : {S X : Type 0} {Adds Adds' : Additions} (g : Ghosts S) (old new : Held S)
    (r : Result X TableFault) → ((text : List ℕ) (values : Row) → Adds text values → Adds' text values)
    → Blames (HasMetBetween g Adds) g old new r → Blames (HasMetBetween g Adds') g old new r
blames_also g old new (Ok x) also it = tt
blames_also g old new (Err (Sqlite e)) also it = it
blames_also g old new (Err (Damaged rule)) also it = between_also g old new rule also it

-- what is said of rows that were there, or was met
pub broken_or_met : {S X : Type 0} {Adds : Additions} (Met : Damage S) (g : Ghosts S) (old new : Held S)
    (r : Result X TableFault)
    → ((rule : Rule) → Met old new rule → IsBrokenOrMet g Adds old new rule) → Blames Met g old new r
    → Blames (IsBrokenOrMet g Adds) g old new r
broken_or_met Met g old new (Ok x) weaker it = tt
broken_or_met Met g old new (Err (Sqlite e)) weaker it = it
broken_or_met Met g old new (Err (Damaged rule)) weaker it = weaker rule it

-- ---- what a part says that begins with the rows of the whole

since : {S : Type 0} (Adds : Database → Additions) (g : Ghosts S) (old mid new : Held S)
    → IsBefore (state g old) (state g mid) → (state g mid).now ≡ (state g old).now → (rule : Rule)
    → IsBrokenOrMet g (Adds (state g mid).now) mid new rule → IsBrokenOrMet g (Adds (state g old).now) old new rule
since Adds g old mid new before same rule (inl broken) = inl (subst (IsDamage rule) same broken)
since Adds g old mid new before same rule (inr met) = inr (met_within g old mid new new rule before
    (same_moment (state g new)) (subst (λ (db : Database). HasMetBetween g (Adds db) mid new rule) same met))

pub blames_since : {S X : Type 0} (Adds : Database → Additions) (g : Ghosts S) (old mid new : Held S)
    → IsBefore (state g old) (state g mid) → (state g mid).now ≡ (state g old).now → (r : Result X TableFault)
    → Blames (IsBrokenOrMet g (Adds (state g mid).now)) g mid new r
    → Blames (IsBrokenOrMet g (Adds (state g old).now)) g old new r
blames_since Adds g old mid new before same (Ok x) it = tt
blames_since Adds g old mid new before same (Err (Sqlite e)) it =
    failed_within g old mid new new e before (same_moment (state g new)) it
blames_since Adds g old mid new before same (Err (Damaged rule)) it = since Adds g old mid new before same rule it
