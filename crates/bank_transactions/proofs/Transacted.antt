-- A transaction from its start to its end: what it tells, what a crash may leave of it, and why it failed.
use Rattle.std.proofs.Common.{◌≡◌, ℕ, List, Result, Ok, Err, refl, sym, ap, subst, arith, inl, inr, ◌∙◌}
use Rattle.std.specs.Prelude.{false, true, IfOk, IsTrue, OnErr, OnOk}
use Rattle.sqlite.specs.State.{State, HasCleanDisk, IsRolledBack, KeepsCommit, Survives}
use Rattle.sqlite.specs.{Effect.Database, Held.Held, Held.state, Tree.Trees, declared.transaction.Transaction.Transaction}
use Rattle.sqlite_trees.specs.declared.store.Store.{Ghosts}
use Rattle.sqlite.proofs.{Callers.survives_begin, StateLemmas.survives_then}
use Rattle.posting_rules.specs.{believed.Tables.Tables, Sound.AreSound, declared.fault.Rule.Rule}
use Rattle.store_rows.specs.believed.{Sparing.SparesOthers, View.Shows, View.ShowsTrees}
use Rattle.bank_transactions.specs.believed.Stray.{IsDamage}
use Rattle.store_rows.specs.believed.{Failures.Additions, Failures.Committing, Made.WritesOnly}
use Rattle.store_rows.specs.declared.fault.TableFault.{TableFault, TheVariants.Sqlite, TheVariants.Damaged}
use Rattle.bank_transactions.specs.believed.Doing.{LeavesOthers, LeavesSo}
use Rattle.bank_transactions.specs.believed.Causes.{Damage, IsBefore, IsBrokenOrMet}
use Rattle.bank_transactions.specs.Causes.{Blames, IsFirstBroken, IsFirstDamaged}
use Rattle.bank_transactions.specs.Doing.{Acts, ChangesNothing, LeavesAndAnswers, Completes, DoesBy, Ends, EndsBy}
use Rattle.bank_transactions.specs.Doing.{CommitsNothing}
use Rattle.bank_transactions.specs.Doing.{MayLeaveAfter, MayCommit, Reads, Undoes, Consults, SparesTheirs, Transacts}
use Rattle.bank_transactions.specs.{Doing.TransactsBy, Doing.WritesIfOk, Undone.IsUndone, Undone.UndoesFaults}
use Rattle.bank_transactions.proofs.Blamed.{Widens, comes, commit_fails, fault_within, met_within, same_moment}
use Rattle.bank_transactions.proofs.Blamed.{between_also, broken_or_met, then_moment}
use Rattle.bank_transactions.proofs.Wrote.{writes_also}
use Rattle.std.proofs.lemmas.Result.{IfOk-weaker, on_ok_weaker}
use Rattle.sqlite.specs.Order.{Row}
use Rattle.bank_transactions.proofs.LookUps.{does_read}

-- ---- by what its parts answered, and with what it ended

-- damage is of the rows that this database has
abbrev IsOf : Database → Rule → Type 0
IsOf db rule = IsDamage rule db

not_done : {X : Type 0} (old last new : State) (after : Tables) (wanted : X) (fault : TableFault)
    → LeavesAndAnswers (IsOf old.now) last after wanted (Err fault) → Completes old new after wanted (Err fault)
not_done old last new after wanted (Sqlite e) answers = tt
not_done old last new after wanted (Damaged rule) answers = answers

completes : {X : Type 0} (old last new : State) (after : Tables) (wanted : X)
    (answer result : Result X TableFault)
    → IfOk result (λ x. answer ≡ Ok x) → LeavesAndAnswers (IsOf old.now) last after wanted answer
    → EndsBy last new answer result
    → Completes old new after wanted result
completes old last new after wanted (Ok x) (Ok y) given answers ends =
    let same : y ≡ x = (let is = given in cc) in
    let committed = ends.2 after answers.1 in
    (same ∙ answers.0, committed.0, committed.1)
completes old last new after wanted (Ok x) (Err (Sqlite e)) given answers ends = tt
completes old last new after wanted (Ok x) (Err (Damaged rule)) given answers ends = absurd ends
completes {X} old last new after wanted (Err fault) result given answers ends =
    subst (λ (r : Result X TableFault). Completes old new after wanted r) (sym ends.0)
    (not_done old last new after wanted fault answers)

-- after a fault all is as it was
pub rolled : (old last new : State) → (IsTrue old.is_open → old.now ≡ old.committed) → KeepsCommit old last
    → IsRolledBack last new → IsUndone old new
rolled old last new settled leaves back = λ is_open.
    let last_open = back.was_open is_open in
    let was_open = leaves.was_open last_open in
    (was_open, (back.undone is_open).0 ∙ leaves.committed last_open ∙ sym (settled was_open))

by_end : {X : Type 0} (old last new : State) (answer result : Result X TableFault)
    → (IsTrue old.is_open → old.now ≡ old.committed) → IsTrue old.in_transaction
    → CommitsNothing old last answer → EndsBy last new answer result → OnErr result (IsUndone old new)
by_end old last new (Ok x) (Ok y) settled live leaves ends = tt
by_end old last new (Ok x) (Err (Sqlite e)) settled live leaves (inl failed) =
    rolled old last new settled (record { was_open = leaves.opened; committed = λ _. leaves.committed }) failed.3
by_end old last new (Ok x) (Err (Sqlite e)) settled live leaves (inr idle) =
    absurd (let bad : true ≡ false = sym (leaves.mode ∙ live) ∙ idle.1 in cc)
by_end old last new (Ok x) (Err (Damaged rule)) settled live leaves ends = absurd ends
by_end old last new (Err e) (Ok y) settled live leaves ends = absurd (let is = ends.0 in cc)
by_end old last new (Err e) (Err f) settled live leaves ends = rolled old last new settled leaves ends.1

-- so it is after damage
of_damage : {X : Type 0} (old new : State) (r : Result X TableFault) → OnErr r (IsUndone old new) → Undoes old new r
of_damage old new (Ok x) it = tt
of_damage old new (Err (Sqlite e)) it = tt
of_damage old new (Err (Damaged rule)) it = it

left_by : {X : Type 0} (Bad : Rule → Type 0) (last : State) (after : Tables) (wanted : X)
    (answer : Result X TableFault) (left : Trees)
    → LeavesAndAnswers Bad last after wanted answer → MayCommit last answer left → ShowsTrees left after
left_by Bad last after wanted (Ok x) left answers made = made.1 after answers.1
left_by Bad last after wanted (Err fault) left answers made = absurd made

-- an answer leaves the tables of other products
spared_now : {X : Type 0} (old last new : State) (answer result : Result X TableFault)
    → IfOk result (λ x. answer ≡ Ok x) → CommitsNothing old last answer → EndsBy last new answer result
    → OnOk result (SparesOthers old.now new.now)
spared_now old last new (Ok x) (Ok y) given leaves ends = subst (SparesOthers old.now) (sym ends.0) leaves.spares
spared_now old last new (Err e) (Ok y) given leaves ends = absurd (let is = given in cc)
spared_now old last new answer (Err e) given leaves ends = tt

-- the store was open, as it committed
was_open : {X : Type 0} (old last new : State) (answer result : Result X TableFault)
    → IfOk result (λ x. answer ≡ Ok x) → CommitsNothing old last answer → EndsBy last new answer result
    → OnOk result (IsTrue old.is_open)
was_open old last new (Ok x) (Ok y) given leaves ends = leaves.opened ends.1
was_open old last new (Err e) (Ok y) given leaves ends = absurd (let is = given in cc)
was_open old last new answer (Err e) given leaves ends = tt

-- and was made of what there was
wrote_by : {X : Type 0} (Adds : Additions) (old last new : State) (answer result : Result X TableFault)
    → IfOk result (λ x. answer ≡ Ok x) → WritesIfOk Adds old last answer → EndsBy last new answer result
    → WritesIfOk Adds old new result
wrote_by Adds old last new (Ok x) (Ok y) given wrote ends = subst (WritesOnly Adds old.now) (sym ends.0) wrote
wrote_by Adds old last new (Err e) (Ok y) given wrote ends = absurd (let is = given in cc)
wrote_by Adds old last new answer (Err e) given wrote ends = tt

-- and so does what its commit may leave
spared_left : {X : Type 0} (old last : State) (answer : Result X TableFault) (left : Trees)
    → CommitsNothing old last answer → MayCommit last answer left → LeavesOthers old.now left
spared_left old last (Ok x) left leaves made = (last.now, made.0, leaves.spares)
spared_left old last (Err e) left leaves made = absurd made

blamed : {S X : Type 0} (Met : Damage S) (g : Ghosts S) (old start last new : Held S)
    (answer result : Result X TableFault)
    → IsBefore (state g old) (state g start) → IsBefore (state g start) (state g last)
    → IsBefore (state g last) (state g new)
    → IsTrue (state g start).in_transaction → CommitsNothing (state g start) (state g last) answer
    → Widens Met old start last new → Blames Met g start last answer
    → EndsBy (state g last) (state g new) answer result
    → Blames Met g old new result
blamed Met g old start last new (Ok x) (Ok y) first then end live leaves wide it ends = tt
blamed Met g old start last new (Ok x) (Err (Sqlite e)) first then end live leaves wide it ends = record {
  at = last;
  then = new;
  before = then_moment (state g old) (state g start) (state g last) first then;
  failed = Committing (commit_fails (state g last) (state g new) e (leaves.mode ∙ live) ends);
  after = same_moment (state g new);
}
blamed Met g old start last new (Ok x) (Err (Damaged rule)) first then end live leaves wide it ends = absurd ends
blamed {S} {X} Met g old start last new (Err fault) result first then end live leaves wide it ends =
    subst (λ (r : Result X TableFault). Blames Met g old new r) (sym ends.0)
    (fault_within Met g old start last new fault wide first end it)

-- ---- the whole transaction

-- the connection, the transaction as it begins and after its parts, the connection after it
module _ {S X : Type 0} {Met : Damage S} {Adds : Additions} {So : Tables → Type 0} {after : Tables → Tables}
    {w : Tables → X} {answer result : Result X TableFault} (g : Ghosts S) (old : Held S) (begun last : Transaction S)
    (new : Held S)
    (is : begun.conn.now ≡ record old { in_transaction = true })
    (settled : IsTrue (state g old).is_open → (state g old).now ≡ (state g old).committed)
    (does : DoesBy (IsFirstDamaged g) Met Adds g begun last So after w answer) (ends : Ends g last.conn.now new answer result)
  where
    abbrev start : Held S
    start = record old { in_transaction = true }

    clean_before : HasCleanDisk (state g new) → HasCleanDisk (state g last.conn.now)
    clean_before clean = omega (arith, ends.survives.clean)

    told_so : HasCleanDisk (state g last.conn.now) → (t : Tables) → Shows (state g old).now t → So t
        → LeavesAndAnswers (IsOf (state g old).now) (state g last.conn.now) (after t) (w t) answer
    told_so clean t shows so =
        subst (λ (h : Held S). LeavesAndAnswers (IsOf (state g h).now) (state g last.conn.now) (after t) (w t) answer) is
        (does.says.answers clean (rw is refl) t (rw is shows) so)

    kept_so : HasCleanDisk (state g last.conn.now)
        → CommitsNothing (state g start) (state g last.conn.now) answer
        × Blames Met g start last.conn.now answer × WritesIfOk Adds (state g start) (state g last.conn.now) answer
    kept_so clean =
        subst (λ (h : Held S). CommitsNothing (state g h) (state g last.conn.now) answer
        × Blames Met g h last.conn.now answer × WritesIfOk Adds (state g h) (state g last.conn.now) answer) is
        (does.says.leaves clean (rw is refl))

    from_start : IsBefore (state g old) (state g start)
    from_start = record { faults = omega arith; limit = refl }

    within : IsBefore (state g start) (state g last.conn.now)
    within = subst (λ (h : Held S). IsBefore (state g h) (state g last.conn.now)) is (comes does.says.survives)

    stop_so : Survives (state g old) (state g new) (MayLeaveAfter (state g old) So after)
    stop_so =
        survives_begin g old (state g new) (MayLeaveAfter (state g old) So after)
        (subst (λ (h : Held S). Survives (state g h) (state g new) (MayLeaveAfter (state g old) So after)) is
        (survives_then (state g begun.conn.now) (state g last.conn.now) (state g new) (λ _. ⊥)
        (MayCommit (state g last.conn.now) answer) (MayLeaveAfter (state g old) So after)
        (λ clean left none. absurd none)
        (λ clean left made t shows so.
        left_by (IsOf (state g old).now) (state g last.conn.now) (after t) (w t) answer left
        (told_so (clean_before clean) t shows so) made)
        does.says.survives ends.survives))

    theirs_so : SparesTheirs g old new result
    theirs_so = record {
      now = λ clean. spared_now (state g start) (state g last.conn.now) (state g new) answer result ends.given
          (kept_so (clean_before clean)).0 (ends.answers clean);
      opened = λ clean. was_open (state g start) (state g last.conn.now) (state g new) answer result ends.given
          (kept_so (clean_before clean)).0 (ends.answers clean);
      left = survives_begin g old (state g new) (LeavesOthers (state g old).now)
          (subst (λ (h : Held S). Survives (state g h) (state g new) (LeavesOthers (state g old).now)) is
          (survives_then (state g begun.conn.now) (state g last.conn.now) (state g new) (λ _. ⊥)
          (MayCommit (state g last.conn.now) answer) (LeavesOthers (state g old).now)
          (λ clean left none. absurd none)
          (λ clean left made. spared_left (state g start) (state g last.conn.now) answer left
          (kept_so (clean_before clean)).0 made)
          does.says.survives ends.survives));
    }

    undone_so : UndoesFaults g old new result
    undone_so clean = by_end (state g start) (state g last.conn.now) (state g new) answer result settled refl
        (kept_so (clean_before clean)).0 (ends.answers clean)

    transacted : Widens Met old start last.conn.now new → TransactsBy Met Adds g old new So after w result
    transacted wide = record {
      answers = λ clean t shows so.
          completes (state g old) (state g last.conn.now) (state g new) (after t) (w t) answer result
          ends.given (told_so (clean_before clean) t shows so) (ends.answers clean);
      undone = λ clean. of_damage (state g old) (state g new) result (undone_so clean);
      survives = stop_so;
      cause = λ clean.
          blamed Met g old start last.conn.now new answer result from_start within (comes ends.survives) refl
          (kept_so (clean_before clean)).0 wide (kept_so (clean_before clean)).1 (ends.answers clean);
      mode = ends.mode;
      spares = theirs_so;
      wrote = λ clean. wrote_by Adds (state g start) (state g last.conn.now) (state g new) answer result ends.given
          (kept_so (clean_before clean)).2 (ends.answers clean);
    }

-- of parts that read and then write
pub transacts : {S X : Type 0} {Adds : Additions} {So : Tables → Type 0} {after : Tables → Tables} {w : Tables → X}
    {answer result : Result X TableFault} (g : Ghosts S) (old : Held S) (begun last : Transaction S)
    (end new : Held S)
    → begun.conn.now ≡ record old { in_transaction = true }
    → (IsTrue (state g old).is_open → (state g old).now ≡ (state g old).committed)
    → Acts g Adds begun last So after w answer → Ends g last.conn.now end answer result → end ≡ new
    → Transacts g Adds old new So after w result
transacts {S} {X} {Adds} {So} {after} {w} {answer} {result} g old begun last end new is settled does ends same =
    subst (λ (h : Held S). Transacts g Adds old h So after w result) same
    (transacted g old begun last end is settled does ends (λ rule it. elim it [
      | inl broken ↦ inl broken
      | inr met ↦ inr (met_within g old (record old { in_transaction = true }) last.conn.now end rule
          (from_start g old begun last end is settled does ends) (comes ends.survives) met)
    ]))

-- the same where the rows that were there say what is put in
pub transacts_records : {S X : Type 0} {So : Tables → Type 0} {after : Tables → Tables} {w : Tables → X}
    {answer result : Result X TableFault} (Adds : Database → Additions) (g : Ghosts S) (old : Held S) (begun last : Transaction S)
    (end new : Held S)
    → begun.conn.now ≡ record old { in_transaction = true }
    → (IsTrue (state g old).is_open → (state g old).now ≡ (state g old).committed)
    → Acts g (Adds (state g begun.conn.now).now) begun last So after w answer
    → Ends g last.conn.now end answer result → end ≡ new
    → Transacts g (Adds (state g old).now) old new So after w result
transacts_records {S} {X} {So} {after} {w} {answer} Adds g old begun last end new is settled does ends same =
    transacts g old begun last end new is settled
    (subst (λ (h : Held S). Acts g (Adds (state g h).now) begun last So after w answer) is does)
    ends same

-- it puts in no other rows than these
pub transacts_also : {S X : Type 0} {Adds Adds' : Additions} {g : Ghosts S} {old new : Held S} {So : Tables → Type 0}
    {after : Tables → Tables} {w : Tables → X} {result : Result X TableFault}
    → ((text : List ℕ) (values : Row) → Adds text values → Adds' text values)
    → Transacts g Adds old new So after w result → Transacts g Adds' old new So after w result
transacts_also {S} {X} {Adds} {Adds'} {g} {old} {new} {So} {after} {w} {result} also it = record {
  answers = it.answers;
  undone = it.undone;
  survives = it.survives;
  cause = λ clean. broken_or_met (IsBrokenOrMet g Adds) g old new result (λ rule why. elim why [
    | inl broken ↦ inl broken
    | inr met ↦ inr (between_also g old new rule also met)
  ]) (it.cause clean);
  mode = it.mode;
  spares = it.spares;
  wrote = λ clean. on_ok_weaker result (writes_also also) (it.wrote clean);
}

-- of parts that only read
pub consults : {S X : Type 0} {w : Tables → X} {answer result : Result X TableFault} (g : Ghosts S)
    (old : Held S)
    (begun last : Transaction S) (end new : Held S) → begun.conn.now ≡ record old { in_transaction = true }
    → (IsTrue (state g old).is_open → (state g old).now ≡ (state g old).committed)
    → Reads g begun last w answer → Ends g last.conn.now end answer result → end ≡ new
    → Consults g old new AreSound w result
consults {S} {X} {w} {answer} {result} g old begun last end new is settled reads ends same =
    subst (λ (h : Held S). Consults g old h AreSound w result) same
    (transacted {Met = IsFirstBroken g} {So = AreSound} {after = λ t. t}
    {w = w} g old begun last end is settled
    (does_read reads) ends (λ rule it. it))

-- what the commit of what was read may leave is what was there
read_left : {X : Type 0} (old last : State) (answer : Result X TableFault) (left : Trees)
    → ChangesNothing old last answer → MayCommit last answer left → left ≡ old.now.trees
read_left old last (Ok x) left stays made = made.0 ∙ ap (λ (db : Database). db.trees) stays.now
read_left old last (Err e) left stays made = absurd made

pub commits_read : {S X : Type 0} {w : Tables → X} {answer result : Result X TableFault} (g : Ghosts S)
    (old : Held S) (begun last : Transaction S) (end new : Held S)
    → begun.conn.now ≡ record old { in_transaction = true }
    → Reads g begun last w answer → Ends g last.conn.now end answer result → end ≡ new
    → Survives (state g old) (state g new) (λ left. left ≡ (state g old).now.trees)
commits_read {S} {X} {w} {answer} {result} g old begun last end new is reads ends same =
    subst (λ (h : Held S). Survives (state g old) (state g h) IsFound) same
    (survives_begin g old (state g end) IsFound
    (subst (λ (h : Held S). Survives (state g h) (state g end) IsFound) is
    (survives_then (state g begun.conn.now) (state g last.conn.now) (state g end) (λ _. ⊥)
    (MayCommit (state g last.conn.now) answer) IsFound (λ clean left none. absurd none)
    (λ clean left made. read_left start (state g last.conn.now) answer left
    (from_start (omega (arith, ends.survives.clean, clean))) made)
    reads.says.survives ends.survives)))
  where
    IsFound : Trees → Type 0
    IsFound left = left ≡ (state g old).now.trees

    start : State
    start = state g (record old { in_transaction = true })

    from_start : HasCleanDisk (state g last.conn.now) → ChangesNothing start (state g last.conn.now) answer
    from_start clean =
        subst (λ (h : Held S). ChangesNothing (state g h) (state g last.conn.now) answer) is (reads.says.leaves clean).0

-- what the commit of an answer may leave is a database of which that is so which was said of the parts
committed : {X : Type 0} (Q : Database → Type 0) (last : State) (answer : Result X TableFault) (left : Trees)
    → IfOk answer (λ x. Q last.now) → MayCommit last answer left → LeavesSo Q left
committed Q last (Ok x) left said made = (last.now, made.0, said)
committed Q last (Err e) left said made = absurd made

pub whole_after : {S X : Type 0} (g : Ghosts S) (Q : Database → Database → Type 0) (old begun last end new : Held S)
    (answer : Result X TableFault) → begun ≡ record old { in_transaction = true }
    → Survives (state g begun) (state g last) (λ _. ⊥)
    → Survives (state g last) (state g end) (MayCommit (state g last) answer) → end ≡ new
    → IfOk answer (λ x. HasCleanDisk (state g last) → IsTrue (state g begun).in_transaction
    → Q (state g begun).now (state g last).now)
    → Survives (state g old) (state g new) (LeavesSo (Q (state g old).now))
whole_after {S} g Q old begun last end new answer is before after same said =
    subst (λ (h : Held S). Survives (state g old) (state g h) Left) same
    (survives_begin g old (state g end) Left
    (subst (λ (h : Held S). Survives (state g h) (state g end) Left) is
    (survives_then (state g begun) (state g last) (state g end) (λ _. ⊥) (MayCommit (state g last) answer) Left
    (λ clean left none. absurd none)
    (λ clean left made. committed (Q (state g old).now) (state g last) answer left
    (IfOk-weaker answer _ _ (λ x it. subst (λ (db : Database). Q db (state g last).now)
    (ap (λ (h : Held S). (state g h).now) is) (it (omega (arith, after.clean, clean)) (rw is refl))) said) made)
    before after)))
  where
    Left : Trees → Type 0
    Left = LeavesSo (Q (state g old).now)

-- after a fault all is undone, whatever the parts do
pub undoes : {S X : Type 0} {Met : Damage S} {Adds : Additions} {So : Tables → Type 0} {after : Tables → Tables} {w : Tables → X}
    {answer result : Result X TableFault} (g : Ghosts S) (old : Held S) (begun last : Transaction S)
    (end new : Held S)
    → begun.conn.now ≡ record old { in_transaction = true }
    → (IsTrue (state g old).is_open → (state g old).now ≡ (state g old).committed)
    → DoesBy (IsFirstDamaged g) Met Adds g begun last So after w answer → Ends g last.conn.now end answer result
    → end ≡ new
    → UndoesFaults g old new result
undoes {result = result} g old begun last end new is settled does ends same =
    subst (λ (h : Held _). UndoesFaults g old h result) same (undone_so g old begun last end is settled does ends)

-- what is so of the answer of the parts is so of what is given
pub of_given : {X : Type 0} (P : X → Type 0) (answer result : Result X TableFault)
    → IfOk result (λ x. answer ≡ Ok x) → IfOk answer P → IfOk result P
of_given P (Ok x) (Ok y) given so = let same : x ≡ y = (let is = given in cc) in subst P same so
of_given P (Err fault) (Ok y) given so = absurd (let is = given in cc)
of_given P answer (Err fault) given so = tt
