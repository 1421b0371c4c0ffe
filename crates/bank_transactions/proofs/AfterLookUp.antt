-- A look-up whose answer is let go, and then a part that acts: it is as if there had been that part alone.
use Rattle.std.proofs.Common.{◌∙◌, ℕ, List, length, Result, Ok, sym, subst}
use Rattle.std.specs.Prelude.{IfSome, IsTrue, OnOk}
use Rattle.std.proofs.lemmas.Option.{IfSome_then}
use Rattle.sqlite.specs.{Effect.Database, Held.state, declared.transaction.Transaction.Transaction}
use Rattle.sqlite.specs.State.{HasCleanDisk, KeepsCommit}
use Rattle.sqlite_trees.specs.declared.store.Store.{Ghosts}
use Rattle.posting_rules.specs.believed.Changes.{replies_past_all, tables_past_all}
use Rattle.posting_rules.specs.believed.Tables.{Tables}
use Rattle.bank_transactions.specs.believed.Batches.{HasRoomFor}
use Rattle.sql_meanings.specs.Calls.{Inside, Says}
use Rattle.sql_meanings.proofs.Saying.{clean_between, says_then}
use Rattle.store_rows.specs.believed.Made.{WritesOnly}
use Rattle.store_rows.specs.believed.View.{Shows}
use Rattle.store_rows.specs.declared.fault.TableFault.{TableFault}
use Rattle.bank_transactions.specs.believed.{Additions.AddsForRecords, Batches.DecidesNone}
use Rattle.bank_transactions.specs.{Doing.Acts, Doing.ReadsWhere, Tries.answer_of, Tries.replies_of}
use Rattle.bank_transactions.specs.{believed.Answered.AnswersAll, declared.first_try.Tried.Tried}
use Rattle.bank_transactions.proofs.{Blamed.blames_since, Blamed.comes, Chained.keeps_then, Chained.of_bad, Chained.still_in}
use Rattle.bank_transactions.specs.{Causes.IsFirstDamaged, believed.Stray.IsDamage}

module _ {S X : Type 0} {g : Ghosts S} {old mid new : Transaction S} {So : Tables → Type 0} {w : Tables → X} {x : X}
    (look : ReadsWhere g old mid So w (Ok x)) where
  -- a part that acts, and puts in what records may
  acts_since : {Y : Type 0} {Of : Tables → Type 0} {after : Tables → Tables} {wanted : Tables → Y}
      {r : Result Y TableFault} (records : List (List ℕ))
      → Acts g (AddsForRecords (state g mid.conn.now).now records) mid new Of after wanted r
      → Acts g (AddsForRecords (state g old.conn.now).now records) old new Of after wanted r
  acts_since {after = after} {wanted = wanted} {r = r} records acts = record {
    says = says_then g old mid new look.says acts.says
        (λ answers leaves answers' live t shows so.
        of_bad (IsFirstDamaged g mid.conn.now new.conn.now) (IsFirstDamaged g old.conn.now new.conn.now)
        (state g new.conn.now) (after t) (wanted t) r (λ rule. subst (IsDamage rule) leaves.0.now)
        (answers' (still_in (state g old.conn.now) (state g mid.conn.now) leaves.0.goes_on live) t
        (subst (λ (db : Database). Shows db t) (sym leaves.0.now) shows) so))
        (λ leaves leaves' live.
        let on = leaves.0.goes_on in
        let it = leaves' (still_in (state g old.conn.now) (state g mid.conn.now) on live) in (
          keeps_then (state g old.conn.now) (state g mid.conn.now) (state g new.conn.now) r on it.0,
          blames_since (λ (db : Database). AddsForRecords db records) g old.conn.now mid.conn.now new.conn.now
              (comes look.says.survives) leaves.0.now r it.1,
          subst (λ (db : Database). OnOk r (WritesOnly (AddsForRecords db records) db (state g new.conn.now).now))
              leaves.0.now it.2,
        ));
  }

  module _ (Made : List (List ℕ) → Type 0) (moment : ℕ) (tried : Result Tried TableFault)
      (quiet : Says g mid new (λ _ _. Unit {0}) (Inside KeepsCommit)) where
    pub quiet_since : Says g old new (λ _ _. Unit {0}) (Inside KeepsCommit)
    quiet_since = says_then g old mid new look.says quiet (λ answers leaves answers'. tt) (λ leaves leaves' live.
        let on = leaves.0.goes_on in
        let it = leaves' (still_in (state g old.conn.now) (state g mid.conn.now) on live) in
        record { was_open = λ h. on.opened (it.was_open h); committed = λ h. it.committed h ∙ on.committed })

    abbrev ActsFrom : Transaction S → Result (List (List ℕ)) TableFault → Type 0
    ActsFrom begun answer = (records : List (List ℕ)) → Made records
        → Acts g (AddsForRecords (state g begun.conn.now).now records) begun new (HasRoomFor (length records))
        (λ tables. tables_past_all tables moment records) (λ tables. replies_past_all tables moment records) answer

    pub says_since : IfSome (answer_of tried) (ActsFrom mid) → IfSome (answer_of tried) (ActsFrom old)
    says_since says = IfSome_then (answer_of tried) {P = ActsFrom mid} {Q = ActsFrom old} says
        (λ answer acts records made. acts_since records (acts records made))

    abbrev IsBusy : Transaction S → List (List ℕ) → Type 0
    IsBusy begun replies = HasCleanDisk (state g new.conn.now) → IsTrue (state g begun.conn.now).in_transaction
        → (records : List (List ℕ)) → Made records → (t : Tables) → Shows (state g begun.conn.now).now t
        → HasRoomFor (length records) t → DecidesNone t moment records → ⊥

    pub busy_since : IfSome (replies_of tried) (IsBusy mid) → IfSome (replies_of tried) (IsBusy old)
    busy_since is = IfSome_then (replies_of tried) {P = IsBusy mid} {Q = IsBusy old} is
        (λ replies busy clean live records made t shows so none.
        let stays = (look.says.leaves (clean_between g old mid new look.says quiet clean)).0 in
        busy clean (still_in (state g old.conn.now) (state g mid.conn.now) stays.goes_on live) records made t
        (subst (λ (db : Database). Shows db t) (sym stays.now) shows) so none)

    abbrev AreStored : Transaction S → List (List ℕ) → Type 0
    AreStored begun replies = HasCleanDisk (state g new.conn.now) → IsTrue (state g begun.conn.now).in_transaction
        → (records : List (List ℕ)) → Made records
        → AnswersAll (state g begun.conn.now).now (state g new.conn.now).now moment records replies

    pub stored_since : IfSome (replies_of tried) (AreStored mid) → IfSome (replies_of tried) (AreStored old)
    stored_since are = IfSome_then (replies_of tried) {P = AreStored mid} {Q = AreStored old} are
        (λ replies stored clean live records made.
        let stays = (look.says.leaves (clean_between g old mid new look.says quiet clean)).0 in
        subst (λ (db : Database). AnswersAll db (state g new.conn.now).now moment records replies) stays.now
        (stored clean (still_in (state g old.conn.now) (state g mid.conn.now) stays.goes_on live) records made))
