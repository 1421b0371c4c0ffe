-- Parts of a call that write, one after another, and what they ran.
use Rattle.std.proofs.Common.{◌≡◌, ◌++◌, true, false, List, [], ◌∷◌, Ok, Err, Result, refl, subst, arith}
use Rattle.std.specs.Prelude.{Bool, IsTrue, ℕ}
use Rattle.std.proofs.lemmas.Result.{on_ok_weaker}
use Rattle.sqlite.specs.{Effect.Database, Held.state, Order.Row, State.HasCleanDisk, State.Survives, Table.Table}
use Rattle.sqlite.specs.{declared.error.Error.Error, declared.transaction.Transaction.Transaction}
use Rattle.sqlite_trees.specs.declared.store.Store.{Ghosts}
use Rattle.posting_rules.specs.{believed.Tables.Tables, declared.fault.Rule.Rule}
use Rattle.store_rows.specs.{Calls.AddsRow, Calls.SetsNumber, Sparing.MakesIfOk, declared.fault.TableFault.TableFault}
use Rattle.store_rows.specs.believed.{Failures.Additions, Failures.IsUpdateOf, Made.Makes}
use Rattle.bank_transactions.specs.{Doing.expected, Running.Leads, Running.RunsIfOk, Running.Writes}
use Rattle.bank_transactions.specs.believed.Ran.{LeadTo, Runs, Statements}
use Rattle.bank_transactions.proofs.Chained.{does_adds, does_err, does_for, does_none, does_then, still_in}
use Rattle.bank_transactions.proofs.{Leading.lead_then, Statements.does_add, Statements.does_write}
use Rattle.bank_transactions.proofs.Wrote.{writes_also, writes_one, writes_same, writes_then as wrote_then}

-- ---- what was run

-- nothing was, where nothing was written
pub runs_same : (Adds : Additions) (All : Statements → Type 0) (old new : Database) → new ≡ old → All []
    → Runs Adds All old new
unfolding writes_same
runs_same Adds All old new same all = record { only = writes_same Adds old new same; all = all }

runs_one : (Adds : Additions) (All : Statements → Type 0) (text : List ℕ) (values : Row) (old new : Database)
    → Adds text values → All ((text, values) ∷ []) → Makes text values old new → Runs Adds All old new
unfolding writes_one
runs_one Adds All text values old new own all makes =
    record { only = writes_one Adds text values own old new makes; all = all }

runs_then : (Adds : Additions) (One Two All : Statements → Type 0) (old mid new : Database)
    → ((some more : Statements) → One some → Two more → All (some ++ more)) → Runs Adds One old mid
    → Runs Adds Two mid new → Runs Adds All old new
unfolding wrote_then
runs_then Adds One Two All old mid new both one two = record {
  only = wrote_then Adds old mid new one.only two.only;
  all = both one.only.statements two.only.statements one.all two.all;
}

-- the same, said in other words
pub runs_for : {Adds Adds' : Additions} {All All' : Statements → Type 0} {old new : Database}
    → ((text : List ℕ) (values : Row) → Adds text values → Adds' text values)
    → ((statements : Statements) → All statements → All' statements) → Runs Adds All old new → Runs Adds' All' old new
unfolding writes_also
runs_for also so it = record { only = writes_also also it.only; all = so it.only.statements it.all }

-- what was run since the database was this, where a part before it left that as it was
pub ran_since : {Adds Adds' : Additions} {All : Statements → Type 0} {old mid new : Database} → mid ≡ old
    → ((text : List ℕ) (values : Row) → Adds text values → Adds' text values) → Runs Adds All mid new
    → Runs Adds' All old new
ran_since {Adds} {Adds'} {All} {old} {mid} {new} same also it =
    subst (λ (db : Database). Runs Adds' All db new) same
    (runs_for {Adds = Adds} {Adds' = Adds'} {All = All} {All' = All} also (λ statements all. all) it)

-- ---- parts

-- nothing yet
pub writes_none : {S : Type 0} {g : Ghosts S} {Adds : Additions} {tx : Transaction S} {So : Tables → Type 0}
    → Survives (state g tx.conn.now) (state g tx.conn.now) (λ _. ⊥)
    → Writes g Adds tx tx So (λ t. t) (Ok (tt {0}))
writes_none stays = record {
  does = does_none stays;
  ran = λ clean live. runs_same _ _ _ _ refl (λ t so. refl);
}

-- one part, and then another
pub writes_then : {S : Type 0} {g : Ghosts S} {Adds : Additions} {old mid new : Transaction S} {So So' : Tables → Type 0}
    {after after' : Tables → Tables} {r : Result (Unit {0}) TableFault}
    → Writes g Adds old mid So after (Ok (tt {0})) → Writes g Adds mid new So' after' r
    → ((t : Tables) → So t → So' (after t)) → Writes g Adds old new So (λ t. after' (after t)) r
writes_then {S} {g} {Adds} {old} {mid} {new} {So} {So'} {after} {after'} {r} one two ready = record {
  does = does_then one.does two.does ready;
  ran = on_ok_weaker r (λ last clean live.
      let before : HasCleanDisk (state g mid.conn.now) = omega (arith, two.does.says.survives.clean, clean) in
      let on = (one.does.says.leaves before live).0 in
      runs_then Adds (Leads So after) (Leads So' after') (Leads So (λ t. after' (after t))) _ _ _
      (λ some more first second t so. lead_then some more t (after t) (after' (after t)) (first t so)
      (second (after t) (ready t so)))
      (one.ran before live) (last clean (still_in (state g old.conn.now) (state g mid.conn.now) on live))) two.ran;
}

-- an error of a part is that of the whole
pub writes_err : {S : Type 0} {g : Ghosts S} {old new : Transaction S} {So So' : Tables → Type 0}
    {after after' : Tables → Tables} {e : TableFault} {Adds : Additions} → Writes g Adds old new So after (Err e)
    → ((t : Tables) → So' t → So t) → Writes g Adds old new So' after' (Err e)
writes_err part so = record { does = does_err part.does so; ran = tt }

-- the same, said in other words
pub writes_for : {S : Type 0} {g : Ghosts S} {old new : Transaction S} {So So' : Tables → Type 0}
    {after after' : Tables → Tables} {r : Result (Unit {0}) TableFault} {Adds : Additions}
    → Writes g Adds old new So after r → ((t : Tables) → So' t → So t × (after t ≡ after' t))
    → Writes g Adds old new So' after' r
writes_for {S} {g} {old} {new} {So} {So'} {after} {after'} {r} {Adds} part same = record {
  does = does_for part.does (λ t so. let is = same t so in (is.0, is.1, refl));
  ran = on_ok_weaker r (λ it clean live. runs_for {Adds = Adds} {Adds' = Adds} {All = Leads So after} {All' = Leads So' after'} (λ text values own. own)
      (λ statements lead t so. subst (λ (u : Tables). LeadTo t u statements) (same t so).1 (lead t (same t so).0))
      (it clean live)) part.ran;
}

-- it puts in no other rows than these
pub writes_adds : {S : Type 0} {g : Ghosts S} {Adds Adds' : Additions} {old new : Transaction S} {So : Tables → Type 0}
    {after : Tables → Tables} {r : Result (Unit {0}) TableFault}
    → (HasCleanDisk (state g new.conn.now) → (text : List ℕ) (values : Row) → Adds text values → Adds' text values)
    → Writes g Adds old new So after r → Writes g Adds' old new So after r
writes_adds {S} {g} {Adds} {Adds'} {old} {new} {So} {after} {r} also part = record {
  does = does_adds also part.does;
  ran = on_ok_weaker r (λ it clean live. runs_for {Adds = Adds} {Adds' = Adds'} {All = Leads So after} {All' = Leads So after} (also clean)
      (λ statements lead. lead) (it clean live)) part.ran;
}

-- ---- statements

module _ {S : Type 0} {So : Tables → Type 0} (Adds : Additions) (g : Ghosts S) (old new : Transaction S)
    (text : List ℕ) (values : Row) (after : Tables → Tables) (own : Adds text values)
    (lead : (t : Tables) → So t → LeadTo t (after t) ((text, values) ∷ [])) where
  ran_add : (r : Result (Unit {0}) TableFault) → (HasCleanDisk (state g new.conn.now)
      → IsTrue (state g old.conn.now).in_transaction → MakesIfOk text values (state g old.conn.now) (state g new.conn.now) r)
      → RunsIfOk g Adds old new So after r
  ran_add (Ok done) makes = λ clean live. runs_one Adds (Leads So after) text values _ _ own lead (makes clean live)
  ran_add (Err e) makes = tt

  ran_write : (answer : Result Bool Error) (rule : Rule) (r : Result (Unit {0}) TableFault) → r ≡ expected answer rule
      → (HasCleanDisk (state g new.conn.now) → IsTrue (state g old.conn.now).in_transaction
      → MakesIfOk text values (state g old.conn.now) (state g new.conn.now) answer)
      → RunsIfOk g Adds old new So after r
  ran_write answer rule (Err e) is makes = tt
  ran_write (Ok true) rule (Ok done) is makes =
      λ clean live. runs_one Adds (Leads So after) text values _ _ own lead (makes clean live)
  ran_write (Ok false) rule (Ok done) is makes = absurd cc
  ran_write (Err e) rule (Ok done) is makes = absurd cc

  -- a row is put in under a key that is free
  pub writes_add : (table : Table) (taken : Tables → Bool) (r : Result (Unit {0}) TableFault)
      → AddsRow g old new text values table taken after r → ((t : Tables) → So t → taken t ≡ false)
      → Writes g Adds old new So after r
  writes_add table taken r says free = record {
    does = does_add g old new text values table taken after r says own free;
    ran = ran_add r (λ clean live. (says.leaves clean live).2);
  }

  -- a row that is there is written
  pub writes_write : (table : Table) (there : Tables → Bool) (answer : Result Bool Error) (rule : Rule)
      (r : Result (Unit {0}) TableFault) → IsUpdateOf rule text → r ≡ expected answer rule
      → SetsNumber g old new table text values there after answer → ((t : Tables) → So t → IsTrue (there t))
      → Writes g Adds old new So after r
  writes_write table there answer rule r of is says so = record {
    does = does_write g old new table there after answer rule r text values own of is says so;
    ran = ran_write answer rule r is (λ clean live. (says.leaves clean live).2);
  }
