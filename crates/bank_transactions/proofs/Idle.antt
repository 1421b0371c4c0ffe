-- A batch in a transaction of its own, and one in which nothing is decided.
use Rattle.std.proofs.Common.{◌≡◌, ℕ, List, Result, Ok, Err, true, ap, sym, subst, ◌∙◌, arith}
use Rattle.std.specs.Prelude.{OnOk, length}
use Rattle.smallvec.specs.SmallVec.{SmallVec}
use Rattle.sqlite.specs.{Effect.Database, State.HasCleanDisk, Held.Held, Held.state}
use Rattle.sqlite_trees.specs.declared.store.Store.{Ghosts}
use Rattle.posting_rules.specs.believed.Tables.{Tables}
use Rattle.bank_transactions.specs.believed.Batches.{HasRoomFor}
use Rattle.store_rows.specs.{believed.View.Shows, declared.fault.TableFault.TableFault}
use Rattle.bank_transactions.specs.{Doing.Ends, believed.Batches.DecidesNone}
use Rattle.bank_transactions.specs.Batches.{items_of, WritesNothing, KeepsOnly}

-- the replies without where they lie in memory end the same way
pub ends_items : {S : Type 0} (g : Ghosts S) (last new : Held S)
    (answer result : Result (SmallVec (List ℕ)) TableFault)
    → Ends g last new answer result → Ends g last new (items_of answer) (items_of result)
ends_items g last new (Ok x) (Ok y) ends =
    record { mode = ends.mode; given = ap items_of ends.given; answers = ends.answers; survives = ends.survives }
ends_items g last new (Ok x) (Err fault) ends =
    record { mode = ends.mode; given = tt; answers = ends.answers; survives = ends.survives }
ends_items g last new (Err fault) (Ok y) ends = record {
  mode = ends.mode;
  given = ap items_of ends.given;
  answers = λ clean. let it = ends.answers clean in (ap items_of it.0, it.1);
  survives = ends.survives;
}
ends_items g last new (Err fault) (Err other) ends = record {
  mode = ends.mode;
  given = tt;
  answers = λ clean. let it = ends.answers clean in (ap items_of it.0, it.1);
  survives = ends.survives;
}

-- what a batch leaves in which nothing is decided, of these records
module _ (Made : List (List ℕ) → Type 0) (moment : ℕ) {S : Type 0} (g : Ghosts S) where
  -- within its transaction
  abbrev IdleWithin : Held S → Held S → Type 0
  IdleWithin begun last = HasCleanDisk (state g last) → (records : List (List ℕ)) → Made records
      → (t : Tables)
      → Shows (state g begun).now t → HasRoomFor (length records) t → DecidesNone t moment records
      → WritesNothing (state g begun) (state g last) t moment records

  -- after it
  abbrev IdleAfter : Held S → Held S → Type 0
  IdleAfter old new = HasCleanDisk (state g new) → (records : List (List ℕ)) → Made records → (t : Tables)
      → Shows (state g old).now t → HasRoomFor (length records) t → DecidesNone t moment records
      → KeepsOnly (state g old) (state g new) t moment records

  pub idle_after : {X : Type 0} (old begun last end new : Held S) (answer result : Result X TableFault)
      → begun ≡ record old { in_transaction = true } → Ends g last end answer result
      → ((records : List (List ℕ)) → Made records → end ≡ new)
      → OnOk answer (IdleWithin begun last) → OnOk result (IdleAfter old new)
  idle_after old begun last end new answer (Err fault) is ends same idle = tt
  idle_after old begun last end new (Err fault) (Ok y) is ends same idle = absurd (let no = ends.given in cc)
  idle_after old begun last end new (Ok x) (Ok y) is ends same idle = λ clean records made t shows so none.
      let ended : HasCleanDisk (state g end) = subst (λ (h : Held S). HasCleanDisk (state g h))
      (sym (same records made)) clean in
      let before : HasCleanDisk (state g last) = omega (arith, ends.survives.clean) in
      let first : Shows (state g begun).now t = rw is shows in
      let it = idle before records made t first so none in
      let answers = ends.answers ended in
      let left = answers.2 t (subst (λ (db : Database). Shows db t) (sym it.stays.now) first) in
      subst (λ (h : Held S). KeepsOnly (state g old) (state g h) t moment records)
      (same records made) (record {
        leads = it.leads;
        same = answers.0 ∙ it.stays.now ∙ ap (λ (h : Held S). (state g h).now) is;
        shows = left.0;
        survives = left.1;
      })
