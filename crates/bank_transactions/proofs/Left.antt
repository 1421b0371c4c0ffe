-- What parts of a call leave, one after another, of whatever tables are shown.
use Rattle.std.proofs.Common.{◌≡◌, Ok, Err, Result, refl, sym, ap, subst, arith}
use Rattle.std.specs.Prelude.{Bool, OnOk, IfOk, IsTrue, true}
use Rattle.sqlite.specs.{Effect.Database, Held.Held, Held.state, State.State, State.HasCleanDisk, Table.Table}
use Rattle.sqlite.specs.{declared.transaction.Transaction.Transaction}
use Rattle.sqlite_trees.specs.declared.store.Store.{Ghosts}
use Rattle.posting_rules.specs.believed.Tables.{Tables}
use Rattle.sql_meanings.specs.Calls.{Inside, Says}
use Rattle.store_rows.specs.{Calls.OfTables, believed.Failures.Additions, TableAnswers.PutsOneRow}
use Rattle.store_rows.specs.{believed.View.Shows, declared.fault.TableFault.TableFault}
use Rattle.bank_transactions.specs.{believed.Causes.Damage, Doing.Does, Doing.DoesBy, Doing.Ends, Doing.Leaves}
use Rattle.bank_transactions.proofs.Chained.{still_in}

-- nothing yet
pub leaves_none : {S X : Type 0} {g : Ghosts S} {tx : Transaction S} {r : Result X TableFault}
    → Leaves g tx tx (λ t. t) r
leaves_none {S} {X} {g} {tx} {r} = record { shown = none r }
  where
    none : (r : Result X TableFault) → OnOk r (HasCleanDisk (state g tx.conn.now)
        → IsTrue (state g tx.conn.now).in_transaction → (t : Tables) → Shows (state g tx.conn.now).now t
        → Shows (state g tx.conn.now).now t)
    none (Ok x) = λ clean live t shows. shows
    none (Err e) = tt

-- at an error nothing is said
pub leaves_err : {S X : Type 0} {g : Ghosts S} {old new : Transaction S} {after : Tables → Tables}
    {e : TableFault} → Leaves {X = X} g old new after (Err e)
leaves_err = record { shown = tt }

-- a row that is put in
pub leaves_add : {S : Type 0} {Left : State → State → Type 0} (g : Ghosts S) (old new : Transaction S) (table : Table) (taken : Tables → Bool)
    (more : Tables → Tables) (r : Result (Unit {0}) TableFault)
    → Says g old new (Inside (OfTables (λ before now t. PutsOneRow before now table (taken t) (more t) r)))
    (Inside Left)
    → Leaves g old new more r
leaves_add g old new table taken more (Ok done) says =
    record { shown = λ clean live t shows. (says.answers clean live t shows).1 }
leaves_add g old new table taken more (Err e) says = record { shown = tt }

-- one part, and then another
pub leaves_then : {S X Y : Type 0} {g : Ghosts S} {old mid new : Transaction S} {So So' : Tables → Type 0}
    {one two after after' : Tables → Tables} {w : Tables → X} {w' : Tables → Y} {x : X} {r : Result Y TableFault}
    {Bad Met : Damage S} {Adds Adds' : Additions} → DoesBy Bad Met Adds g old mid So one w (Ok x)
    → Does g Adds' mid new So' two w' r
    → Leaves {X = X} g old mid after (Ok x) → Leaves g mid new after' r
    → Leaves g old new (λ t. after' (after t)) r
leaves_then {S} {X} {Y} {g} {old} {mid} {new} {r = Ok y} first second left more = record {
  shown = λ clean live t shows.
      let before : HasCleanDisk (state g mid.conn.now) = omega (arith, second.says.survives.clean) in
      let on = (first.says.leaves before live).0 in
      more.shown clean (still_in (state g old.conn.now) (state g mid.conn.now) on live) _
      (left.shown before live t shows);
}
leaves_then {r = Err e} first second left more = record { shown = tt }

-- the same, said in other words
pub leaves_for : {S X : Type 0} {g : Ghosts S} {old new : Transaction S} {after after' : Tables → Tables}
    {r : Result X TableFault} → Leaves g old new after r → ((t : Tables) → after t ≡ after' t)
    → Leaves g old new after' r
leaves_for {S} {X} {g} {old} {new} {r = Ok x} left same = record {
  shown = λ clean live t shows.
      subst (λ (u : Tables). Shows (state g new.conn.now).now u) (same t) (left.shown clean live t shows);
}
leaves_for {r = Err e} left same = record { shown = tt }

-- what an answer says of the rows before a transaction's parts and after them is so of those before the
-- transaction and after it
pub opens_after : {S X : Type 0} (g : Ghosts S) (Q : Database → Database → X → Type 0)
    (old begun last end new : Held S) (answer result : Result X TableFault)
    → begun ≡ record old { in_transaction = true } → Ends g last end answer result → end ≡ new
    → IfOk answer (λ x. HasCleanDisk (state g last) → IsTrue (state g begun).in_transaction
    → Q (state g begun).now (state g last).now x)
    → IfOk result (λ x. HasCleanDisk (state g new) → Q (state g old).now (state g new).now x)
opens_after g Q old begun last end new answer (Err fault) is ends same said = tt
opens_after g Q old begun last end new (Err fault) (Ok y) is ends same said =
    absurd (let no = ends.given in cc)
opens_after {S} {X} g Q old begun last end new (Ok x) (Ok y) is ends same said =
    subst (λ (h : Held S). HasCleanDisk (state g h) → Q (state g old).now (state g h).now y) same (λ clean.
    let before : HasCleanDisk (state g last) = omega (arith, ends.survives.clean) in
    let given : x ≡ y = (let it = ends.given in cc) in
    subst (λ (z : X). Q (state g old).now (state g end).now z) given
    (subst (λ (db : Database). Q (state g old).now db x) (sym (ends.answers clean).0)
    (subst (λ (db : Database). Q db (state g last).now x) (ap (λ (h : Held S). (state g h).now) is)
    (said before (rw is refl)))))
