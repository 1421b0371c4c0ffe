-- A try that was given up, and then a call: it is as if there had been the call alone.
use Rattle.std.proofs.Common.{◌≡◌, ◌∙◌, ℕ, List, Result, Ok, Err, refl, sym, ap, subst, arith}
use Rattle.std.specs.Prelude.{false, true, length, None, IfOk, IfSome, IsTrue, OnOk}
use Rattle.std.proofs.lemmas.Result.{IfOk-weaker, on_err_weaker, on_ok_weaker}
use Rattle.sqlite.specs.{Effect.Database, Held.Held, Held.state, Tree.Trees}
use Rattle.sqlite.specs.declared.error.Error.{Error}
use Rattle.sqlite.specs.State.{Fails, IsRolledBack, IsUnchanged, KeepsCommit, State, HasCleanDisk, Survives}
use Rattle.sqlite.proofs.{Callers.survives_begin, StateLemmas.survives_then}
use Rattle.sqlite.specs.declared.transaction.Transaction.{Transaction}
use Rattle.sqlite_trees.specs.declared.store.Store.{Ghosts}
use Rattle.posting_rules.specs.believed.Changes.{replies_past_all, tables_past_all}
use Rattle.posting_rules.specs.believed.Tables.{Tables}
use Rattle.bank_transactions.specs.believed.Batches.{HasRoomFor}
use Rattle.sql_meanings.specs.Calls.{Inside, Says}
use Rattle.sql_meanings.proofs.Saying.{survives_both}
use Rattle.store_rows.specs.believed.Failures.{Additions, Committing}
use Rattle.store_rows.specs.believed.{Made.WritesOnly, Sparing.SparesOthers, View.Shows}
use Rattle.bank_transactions.specs.believed.Stray.{IsDamage}
use Rattle.store_rows.specs.declared.fault.TableFault.{TableFault}
use Rattle.store_rows.specs.declared.fault.TableFault.TheVariants.{Sqlite, Damaged}
use Rattle.bank_transactions.specs.believed.{Additions.AddsForRecords, Batches.DecidesNone}
use Rattle.bank_transactions.specs.{Batches.KeepsOnly, believed.Doing.LeavesOthers}
use Rattle.bank_transactions.specs.{believed.Answered.AnswersAll, believed.Answered.KeepsWhole, declared.first_try.Tried.Tried}
use Rattle.bank_transactions.specs.believed.Causes.{IsBefore}
use Rattle.bank_transactions.specs.Doing.{Acts, Completes, Ends, MayLeaveAfter, Transacts, Undoes}
use Rattle.bank_transactions.specs.Tries.{IsAsBefore, answer_of, batch_of, replies_of}
use Rattle.bank_transactions.specs.Undone.{UndoesFaults}
use Rattle.bank_transactions.specs.declared.first_try.Tried.TheVariants.{Answered, Again}
use Rattle.bank_transactions.proofs.Blamed.{blames_since, comes, same_moment, then_moment}
use Rattle.bank_transactions.proofs.Transacted.{rolled, transacts_records, undoes, whole_after}

undoes_again : {X : Type 0} (old mid new : State) (r : Result X TableFault) → IsTrue old.is_open
    → mid.now ≡ old.now → Undoes mid new r → Undoes old new r
undoes_again old mid new (Ok x) there same undone = tt
undoes_again old mid new (Err (Sqlite e)) there same undone = tt
undoes_again old mid new (Err (Damaged rule)) there same undone = λ still. (there, (undone still).1 ∙ same)

completes_again : {X : Type 0} (old mid new : State) (after : Tables) (wanted : X) (r : Result X TableFault)
    → mid.now ≡ old.now → Completes mid new after wanted r → Completes old new after wanted r
completes_again old mid new after wanted (Ok x) same answers = answers
completes_again old mid new after wanted (Err (Sqlite e)) same answers = tt
completes_again old mid new after wanted (Err (Damaged rule)) same answers = subst (IsDamage rule) same answers

module _ {S : Type 0} (g : Ghosts S) (old mid new : Held S) (before : IsAsBefore g old mid) where
  module _ {X : Type 0} {So : Tables → Type 0} {after : Tables → Tables} {w : Tables → X}
      {r : Result X TableFault} (records : List (List ℕ))
      (does : Transacts g (AddsForRecords (state g mid).now records) mid new So after w r) where
    there : HasCleanDisk (state g new) → HasCleanDisk (state g mid)
    there clean = omega (arith, does.survives.clean)

    same_rows : HasCleanDisk (state g new) → (state g mid).now ≡ (state g old).now
    same_rows clean = (before.same (there clean)).2

    was_open : HasCleanDisk (state g new) → IsTrue (state g old).is_open
    was_open clean = (before.same (there clean)).1

    pub transacts_again : Transacts g (AddsForRecords (state g old).now records) old new So after w r
    transacts_again = record {
      answers = λ clean t shows so.
          completes_again (state g old) (state g mid) (state g new) (after t) (w t) r (same_rows clean)
          (does.answers clean t (subst (λ (db : Database). Shows db t) (sym (same_rows clean)) shows) so);
      undone = λ clean.
          undoes_again (state g old) (state g mid) (state g new) r (was_open clean) (same_rows clean)
          (does.undone clean);
      survives = survives_then (state g old) (state g mid) (state g new) (λ _. ⊥)
          (MayLeaveAfter (state g mid) So after) (MayLeaveAfter (state g old) So after)
          (λ clean left none. absurd none)
          (λ clean left may t shows so.
          may t (subst (λ (db : Database). Shows db t) (sym (same_rows clean)) shows) so)
          before.survives does.survives;
      cause = λ clean. blames_since (λ (db : Database). AddsForRecords db records) g old mid new
          (comes before.survives) (same_rows clean) r (does.cause clean);
      wrote = λ clean. subst (λ (db : Database).
          OnOk r (WritesOnly (AddsForRecords db records) db (state g new).now)) (same_rows clean) (does.wrote clean);
      mode = does.mode;
      spares = record {
        now = λ clean. subst (λ (db : Database). OnOk r (SparesOthers db (state g new).now)) (same_rows clean)
            (does.spares.now clean);
        opened = λ clean. on_ok_weaker r (λ _. was_open clean) (does.spares.opened clean);
        left = survives_then (state g old) (state g mid) (state g new) (λ _. ⊥)
            (LeavesOthers (state g mid).now) (LeavesOthers (state g old).now)
            (λ clean left none. absurd none)
            (λ clean left others. subst (λ (db : Database). LeavesOthers db left) (same_rows clean) others)
            before.survives does.spares.left;
      };
    }

  module _ (Made Again : List (List ℕ) → Type 0)
      (from : (records : List (List ℕ)) → Made records → Again records)
      (there : (records : List (List ℕ)) → Again records → HasCleanDisk (state g new)
      → HasCleanDisk (state g mid)) where
    same_there : (records : List (List ℕ)) → Made records → HasCleanDisk (state g new)
        → IsTrue (state g mid).is_open × IsTrue (state g old).is_open × ((state g mid).now ≡ (state g old).now)
    same_there records made clean = before.same (there records (from records made) clean)

    pub faults_undone : {X : Type 0} (r : Result X TableFault) (records : List (List ℕ)) → Made records
        → UndoesFaults g mid new r → UndoesFaults g old new r
    faults_undone r records made undone = λ clean.
        let it = same_there records made clean in
        on_err_weaker r (λ same is_open. (it.1, (same is_open).1 ∙ it.2)) (undone clean)

    pub idle_again : {X : Type 0} (moment : ℕ) (r : Result X TableFault)
        → OnOk r (HasCleanDisk (state g new) → (records : List (List ℕ)) → Again records → (t : Tables)
        → Shows (state g mid).now t → HasRoomFor (length records) t → DecidesNone t moment records
        → KeepsOnly (state g mid) (state g new) t moment records)
        → OnOk r (HasCleanDisk (state g new) → (records : List (List ℕ)) → Made records → (t : Tables)
        → Shows (state g old).now t → HasRoomFor (length records) t → DecidesNone t moment records
        → KeepsOnly (state g old) (state g new) t moment records)
    idle_again moment r = on_ok_weaker r (λ idle clean records made t shows so none.
        let same = (same_there records made clean).2 in
        let it = idle clean records (from records made) t (subst (λ (db : Database). Shows db t) (sym same) shows) so
        none in
        record { leads = it.leads; same = it.same ∙ same; shows = it.shows; survives = it.survives })

    pub stored_again : {X : Type 0} (Q : Database → List (List ℕ) → X → Type 0) (r : Result X TableFault)
        → IfOk r (λ x. HasCleanDisk (state g new) → (records : List (List ℕ)) → Again records
        → Q (state g mid).now records x)
        → IfOk r (λ x. HasCleanDisk (state g new) → (records : List (List ℕ)) → Made records
        → Q (state g old).now records x)
    stored_again Q r = IfOk-weaker r _ _ (λ x stored clean records made.
        subst (λ (db : Database). Q db records x) (same_there records made clean).2
        (stored clean records (from records made)))

  pub whole_again : {m : ℕ} (records : List (List ℕ))
      → Survives (state g mid) (state g new) (KeepsWhole (state g mid).now m records)
      → Survives (state g old) (state g new) (KeepsWhole (state g old).now m records)
  whole_again {m} records whole = survives_then (state g old) (state g mid) (state g new) (λ _. ⊥)
      (KeepsWhole (state g mid).now m records) (KeepsWhole (state g old).now m records) (λ clean left none. absurd none)
      (λ clean left it. subst (λ (db : Database). KeepsWhole db m records left)
      (before.same (omega (arith, whole.clean, clean))).2 it) before.survives whole

-- ---- a try that is given up

-- the connection, the transaction as it begins and after its parts, the connection after it and after a probe
module _ {S : Type 0} (g : Ghosts S) (old : Held S) (begun last : Transaction S) (mid new : Held S)
    (is : begun.conn.now ≡ record old { in_transaction = true })
    (settled : IsTrue (state g old).is_open → (state g old).now ≡ (state g old).committed)
    (says : Says g begun last (λ _ _. Unit {0}) (Inside KeepsCommit))
    (back : HasCleanDisk (state g mid) → IsRolledBack (state g last.conn.now) (state g mid))
    (left : Survives (state g last.conn.now) (state g mid) (λ _. ⊥))
    (mode : new.in_transaction ≡ false) (more : Survives (state g mid) (state g new) (λ _. ⊥)) where
  abbrev start : Held S
  start = record old { in_transaction = true }

  -- nothing was committed
  pub quiet_so : (P : Trees → Type 0) → Survives (state g old) (state g new) P
  quiet_so P = survives_begin g old (state g new) P (subst (λ (h : Held S). Survives (state g h) (state g new) P) is
      (survives_then (state g begun.conn.now) (state g last.conn.now) (state g new) (λ _. ⊥) (λ _. ⊥) P
      (λ clean db none. absurd none) (λ clean db none. absurd none) says.survives
      (survives_both (state g last.conn.now) (state g mid) (state g new) left more)))

  kept_so : HasCleanDisk (state g mid) → KeepsCommit (state g start) (state g last.conn.now)
  kept_so clean =
      let before : HasCleanDisk (state g last.conn.now) = omega (arith, left.clean, clean) in
      subst (λ (h : Held S). KeepsCommit (state g h) (state g last.conn.now)) is (says.leaves before (rw is refl))

  was_clean : HasCleanDisk (state g new) → HasCleanDisk (state g mid)
  was_clean clean = omega (arith, more.clean)

  -- the store answered
  pub as_before : (HasCleanDisk (state g new) → IsUnchanged (state g mid) (state g new)) → IsAsBefore g old new
  as_before same = record {
    mode = mode;
    survives = quiet_so (λ _. ⊥);
    same = λ clean.
        let it = (same clean).0 in
        let was = rolled (state g start) (state g last.conn.now) (state g mid) settled (kept_so (was_clean clean))
        (back (was_clean clean)) it.was_open in
        (it.is_open, was.0, it.now_is ∙ was.1);
  }

  -- it failed
  pub not_asked : {X : Type 0} {Adds : Additions} {So : Tables → Type 0} {after : Tables → Tables} {w : Tables → X}
      (e : Error) → (HasCleanDisk (state g new) → Fails (state g mid) (state g new) ⊥ e)
      → Transacts {X = X} g Adds old new So after w (Err (Sqlite e))
  not_asked e fails = record {
    answers = λ clean t shows so. tt;
    undone = λ clean. tt;
    survives = quiet_so _;
    cause = λ clean. record {
      at = mid;
      then = new;
      before = then_moment (state g old) (state g start) (state g mid) (record { faults = omega arith; limit = refl })
          (then_moment (state g start) (state g last.conn.now) (state g mid)
          (subst (λ (h : Held S). IsBefore (state g h) (state g last.conn.now)) is (comes says.survives))
          (comes left));
      failed = Committing (fails clean);
      after = same_moment (state g new);
    };
    mode = mode;
    spares = record { now = λ clean. tt; opened = λ clean. tt; left = quiet_so _ };
    wrote = λ clean. tt;
  }

-- ---- a try that has answered

-- what is so of its replies is so where it answered
if_answered : {Said : List (List ℕ) → Type 0} (P : Type 0) (tried : Result Tried TableFault) → batch_of tried ≡ None
    → ((replies : List (List ℕ)) → Said replies → P) → IfSome (replies_of tried) Said → IfOk tried (λ x. P)
if_answered P (Ok (Answered replies)) none so it = so replies.items it
if_answered P (Ok (Again batch)) none so it = absurd cc
if_answered P (Err fault) none so it = tt

-- its replies are those of the parts
pub of_tried : {P Q : List (List ℕ) → Type 0} (tried result : Result Tried TableFault)
    → IfOk result (λ x. tried ≡ Ok x) → ((replies : List (List ℕ)) → P replies → Q replies)
    → IfSome (replies_of tried) P → IfSome (replies_of result) Q
of_tried {P} tried (Ok (Answered replies)) given so it =
    so replies.items (subst (λ (r : Result Tried TableFault). IfSome (replies_of r) P) given it)
of_tried tried (Ok (Again batch)) given so it = tt
of_tried tried (Err fault) given so it = tt

-- and what the connection shows then is what it showed
of_answered : {S : Type 0} {g : Ghosts S} {last new : Held S} {P Q : List (List ℕ) → Type 0}
    (tried result : Result Tried TableFault) → Ends g last new tried result
    → ((replies : List (List ℕ)) → P replies
    → (HasCleanDisk (state g new) → (state g new).now ≡ (state g last).now) → Q replies)
    → IfSome (replies_of tried) P → IfSome (replies_of result) Q
of_answered {P = P} (Ok x) (Ok (Answered replies)) ends so it =
    so replies.items
    (subst (λ (r : Result Tried TableFault). IfSome (replies_of r) P) (let given = ends.given in given) it)
    (λ clean. (ends.answers clean).0)
of_answered tried (Ok (Again batch)) ends so it = tt
of_answered (Err fault) (Ok (Answered replies)) ends so it = absurd (let given = ends.given in cc)
of_answered tried (Err fault) ends so it = tt

-- it ends as the parts do
ends_tried : {S : Type 0} (g : Ghosts S) (last new : Held S) {P Q : Result (List (List ℕ)) TableFault → Type 0}
    (tried result : Result Tried TableFault) → batch_of tried ≡ None → Ends g last new tried result
    → ((answer answered : Result (List (List ℕ)) TableFault) → P answer → Ends g last new answer answered
    → Q answered)
    → IfSome (answer_of tried) P → IfSome (answer_of result) Q
ends_tried g last new (Ok (Again batch)) result none ends so it = absurd cc
ends_tried g last new {Q = Q} (Ok (Answered replies)) (Ok x) none ends so it =
    let same : Answered replies ≡ x = (let given = ends.given in cc) in
    subst (λ (y : Tried). IfSome (answer_of (Ok y)) Q) same (so (Ok replies.items) (Ok replies.items) it (record {
      mode = ends.mode;
      given = refl;
      answers = ends.answers;
      survives = ends.survives;
    }))
ends_tried g last new (Ok (Answered replies)) (Err fault) none ends so it =
    so (Ok replies.items) (Err fault) it
    (record { mode = ends.mode; given = tt; answers = ends.answers; survives = ends.survives })
ends_tried g last new (Err fault) (Ok x) none ends so it = absurd (let given = ends.given in cc)
ends_tried g last new (Err fault) (Err other) none ends so it = so (Err fault) (Err other) it (record {
  mode = ends.mode;
  given = tt;
  answers = λ clean.
      let is = ends.answers clean in
      let same : other ≡ fault = (let it = is.0 in cc) in
      (ap Err same, is.1);
  survives = ends.survives;
})

module _ {S : Type 0} (g : Ghosts S) (Made : List (List ℕ) → Type 0) (moment : ℕ) (old : Held S)
    (begun last : Transaction S) (end new : Held S) (tried result : Result Tried TableFault)
    (is : begun.conn.now ≡ record old { in_transaction = true })
    (settled : IsTrue (state g old).is_open → (state g old).now ≡ (state g old).committed)
    (ends : Ends g last.conn.now end tried result)
    (same : (records : List (List ℕ)) → Made records → end ≡ new) where
  was_clean_at : (records : List (List ℕ)) → Made records → HasCleanDisk (state g new)
      → HasCleanDisk (state g last.conn.now)
  was_clean_at records made clean =
      let ended : HasCleanDisk (state g end) =
      subst (λ (h : Held S). HasCleanDisk (state g h)) (sym (same records made)) clean in
      omega (arith, ends.survives.clean)

  abbrev ActsFor : Result (List (List ℕ)) TableFault → Type 0
  ActsFor answer = (records : List (List ℕ)) → Made records
      → Acts g (AddsForRecords (state g begun.conn.now).now records) begun last (HasRoomFor (length records))
      (λ tables. tables_past_all tables moment records) (λ tables. replies_past_all tables moment records) answer

  pub tried_says : batch_of tried ≡ None
      → IfSome (answer_of tried) ActsFor
      → IfSome (answer_of result) (λ answer. (records : List (List ℕ)) → Made records
      → Transacts g (AddsForRecords (state g old).now records) old new (HasRoomFor (length records))
      (λ tables. tables_past_all tables moment records) (λ tables. replies_past_all tables moment records) answer)
  tried_says none it = ends_tried g last.conn.now end {P = ActsFor} tried result none ends
      (λ answer answered acts its records made.
      transacts_records (λ (db : Database). AddsForRecords db records) g old begun last end new is settled
      (acts records made) its (same records made)) it

  pub tried_undone : batch_of tried ≡ None → IfSome (answer_of tried) ActsFor
      → IfSome (answer_of result) (λ answer. (records : List (List ℕ)) → Made records → UndoesFaults g old new answer)
  tried_undone none it = ends_tried g last.conn.now end {P = ActsFor} tried result none ends
      (λ answer answered acts its records made.
      undoes g old begun last end new is settled (acts records made) its (same records made)) it

  pub tried_busy : IfSome (replies_of tried) (λ replies. HasCleanDisk (state g last.conn.now)
      → IsTrue (state g begun.conn.now).in_transaction → (records : List (List ℕ)) → Made records → (t : Tables)
      → Shows (state g begun.conn.now).now t → HasRoomFor (length records) t → DecidesNone t moment records → ⊥)
      → IfSome (replies_of result) (λ replies. HasCleanDisk (state g new) → (records : List (List ℕ)) → Made records
      → (t : Tables) → Shows (state g old).now t → HasRoomFor (length records) t → DecidesNone t moment records → ⊥)
  tried_busy = of_tried tried result ends.given (λ replies busy clean records made t shows so none.
      busy (was_clean_at records made clean) (rw is refl) records made t (rw is shows) so none)

  pub tried_whole : (records : List (List ℕ)) → Made records → batch_of tried ≡ None
      → Survives (state g begun.conn.now) (state g last.conn.now) (λ _. ⊥)
      → IfSome (replies_of tried) (λ replies. HasCleanDisk (state g last.conn.now)
      → IsTrue (state g begun.conn.now).in_transaction → (records : List (List ℕ)) → Made records
      → AnswersAll (state g begun.conn.now).now (state g last.conn.now).now moment records replies)
      → Survives (state g old) (state g new) (KeepsWhole (state g old).now moment records)
  tried_whole records made none quiet it = whole_after g
      (λ old after. (replies : List (List ℕ)) × AnswersAll old after moment records replies) old begun.conn.now
      last.conn.now end new tried is quiet ends.survives (same records made)
      (if_answered _ tried none (λ replies stored clean live. (replies, stored clean live records made)) it)

  pub tried_stored : IfSome (replies_of tried) (λ replies. HasCleanDisk (state g last.conn.now)
      → IsTrue (state g begun.conn.now).in_transaction → (records : List (List ℕ)) → Made records
      → AnswersAll (state g begun.conn.now).now (state g last.conn.now).now moment records replies)
      → IfSome (replies_of result) (λ replies. HasCleanDisk (state g new) → (records : List (List ℕ)) → Made records
      → AnswersAll (state g old).now (state g new).now moment records replies)
  tried_stored = of_answered tried result ends (λ replies stored shown clean records made.
      let ended : HasCleanDisk (state g end) =
      subst (λ (h : Held S). HasCleanDisk (state g h)) (sym (same records made)) clean in
      subst (λ (h : Held S). AnswersAll (state g old).now (state g h).now moment records replies)
      (same records made)
      (subst (λ (db : Database). AnswersAll (state g old).now db moment records replies) (sym (shown ended))
      (subst (λ (db : Database). AnswersAll db (state g last.conn.now).now moment records replies)
      (ap (λ (h : Held S). (state g h).now) is)
      (stored (was_clean_at records made clean) (rw is refl) records made))))
