-- A try in a transaction of its own, which is dropped where a request may be kept.
use Rattle.std.proofs.Common.{◌≡◌, Err, None, Ok, arith, false, refl, rules, true}
use Rattle.std.specs.Prelude.{Bool}
use Rattle.sqlite.specs.State.{IsUnchanged, State}
use Rattle.sqlite.specs.Table.{Table}
use Rattle.sql_meanings.specs.StatementAnswers.{TellsProbe}
use Rattle.posting_batch.specs.View.{IsMadeOf}
use Rattle.store_rows.specs.declared.fault.TableFault.TheVariants.{Sqlite}
use Rattle.bank_transactions.specs.Tries.{batch_of}
use Rattle.bank_transactions.proofs.Remembered.{begins, recalls_undone, tried_ends}
use Rattle.bank_transactions.proofs.Tries.{as_before, not_asked, quiet_so, tried_busy, tried_says, tried_stored}
use Rattle.bank_transactions.proofs.Tries.{tried_undone, tried_whole}
use Rattle.bank_transactions.proofs.first_try.try_new.Goals.{in-Ok+in-Answered-1, in-Err-1}
use Rattle.bank_transactions.proofs.first_try.try_new.Goals as goal

pub returns-in_err-probe_table-clause-says : goal.returns-in_err-probe_table-clause-says
returns-in_err-probe_table-clause-says g c =
    let same : c.from_residual.result ≡ Err (Sqlite c.in_err-probe_table.field-0.0) = search rules in
    let back : c.rollback.new.self.0 ≡ c.conn-1.given.0 = search rules in
    rw same (λ records made. not_asked g.S.Store c.args.conn.now c.begin-tx.result c.answer_new-tried.new.tx
    c.conn-1.given.0 c.probe_table.new.conn c.begin-tx.ensures.begun c.begin-tx.ensures.settled
    c.in-Ok-Again.ensures.quiet (rw back at c.rollback.ensures.undone) (rw back at c.rollback.ensures.survives)
    (c.probe_table.ensures.mode (rw back at c.rollback.ensures.ended)) c.probe_table.ensures.survives
    c.in_err-probe_table.field-0.0 (λ clean. rw c.in_err-probe_table.was at c.probe_table.ensures.answers clean))

pub returns-in_err-probe_table-clause-whole : goal.returns-in_err-probe_table-clause-whole
returns-in_err-probe_table-clause-whole g c records made =
    let back : c.rollback.new.self.0 ≡ c.conn-1.given.0 = search rules in
    quiet_so g.S.Store c.args.conn.now c.begin-tx.result c.answer_new-tried.new.tx
    c.conn-1.given.0 c.probe_table.new.conn c.begin-tx.ensures.begun c.begin-tx.ensures.settled
    c.in-Ok-Again.ensures.quiet (rw back at c.rollback.ensures.undone) (rw back at c.rollback.ensures.survives)
    (c.probe_table.ensures.mode (rw back at c.rollback.ensures.ended)) c.probe_table.ensures.survives _

pub returns-clause-says : goal.returns-clause-says
returns-clause-says g c =
    let same : c.match-tried.tried ≡ c.answer_new-tried.result = elim c.match-tried.branch [
      | in-Ok+in-Answered-1 w ↦ search rules
      | in-Err-1 w ↦ w.tried-is
    ] in
    let none : batch_of c.answer_new-tried.result ≡ None = elim c.match-tried.branch [
      | in-Ok+in-Answered-1 w ↦ search rules
      | in-Err-1 w ↦ search rules
    ] in
    tried_says g.S.Store (IsMadeOf c.args.batch) c.args.moment c.args.conn.now c.begin-tx.result
    c.answer_new-tried.new.tx c.finish.new.tx.0 c.conn-2-1.given.0 c.answer_new-tried.result c.finish.result
    c.begin-tx.ensures.begun c.begin-tx.ensures.settled (rw same at c.finish.ensures)
    (λ records made. search rules) none c.answer_new-tried.ensures.says

pub returns-clause-undone : goal.returns-clause-undone
returns-clause-undone g c =
    let same : c.match-tried.tried ≡ c.answer_new-tried.result = elim c.match-tried.branch [
      | in-Ok+in-Answered-1 w ↦ search rules
      | in-Err-1 w ↦ w.tried-is
    ] in
    let none : batch_of c.answer_new-tried.result ≡ None = elim c.match-tried.branch [
      | in-Ok+in-Answered-1 w ↦ search rules
      | in-Err-1 w ↦ search rules
    ] in
    tried_undone g.S.Store (IsMadeOf c.args.batch) c.args.moment c.args.conn.now c.begin-tx.result
    c.answer_new-tried.new.tx c.finish.new.tx.0 c.conn-2-1.given.0 c.answer_new-tried.result c.finish.result
    c.begin-tx.ensures.begun c.begin-tx.ensures.settled (rw same at c.finish.ensures)
    (λ records made. search rules) none c.answer_new-tried.ensures.says

pub returns-clause-busy : goal.returns-clause-busy
returns-clause-busy g c =
    let same : c.match-tried.tried ≡ c.answer_new-tried.result = elim c.match-tried.branch [
      | in-Ok+in-Answered-1 w ↦ search rules
      | in-Err-1 w ↦ w.tried-is
    ] in
    tried_busy g.S.Store (IsMadeOf c.args.batch) c.args.moment c.args.conn.now c.begin-tx.result
    c.answer_new-tried.new.tx c.finish.new.tx.0 c.conn-2-1.given.0 c.answer_new-tried.result c.finish.result
    c.begin-tx.ensures.begun c.begin-tx.ensures.settled (rw same at c.finish.ensures)
    (λ records made. search rules) c.answer_new-tried.ensures.busy

pub returns-clause-stored : goal.returns-clause-stored
returns-clause-stored g c =
    let same : c.match-tried.tried ≡ c.answer_new-tried.result = elim c.match-tried.branch [
      | in-Ok+in-Answered-1 w ↦ search rules
      | in-Err-1 w ↦ w.tried-is
    ] in
    tried_stored g.S.Store (IsMadeOf c.args.batch) c.args.moment c.args.conn.now c.begin-tx.result
    c.answer_new-tried.new.tx c.finish.new.tx.0 c.conn-2-1.given.0 c.answer_new-tried.result c.finish.result
    c.begin-tx.ensures.begun c.begin-tx.ensures.settled (rw same at c.finish.ensures)
    (λ records made. search rules) c.answer_new-tried.ensures.stored

pub returns-clause-whole : goal.returns-clause-whole
returns-clause-whole g c records made =
    let same : c.match-tried.tried ≡ c.answer_new-tried.result = elim c.match-tried.branch [
      | in-Ok+in-Answered-1 w ↦ search rules
      | in-Err-1 w ↦ w.tried-is
    ] in
    let none : batch_of c.answer_new-tried.result ≡ None = elim c.match-tried.branch [
      | in-Ok+in-Answered-1 w ↦ search rules
      | in-Err-1 w ↦ search rules
    ] in
    tried_whole g.S.Store (IsMadeOf c.args.batch) c.args.moment c.args.conn.now c.begin-tx.result
    c.answer_new-tried.new.tx c.finish.new.tx.0 c.conn-2-1.given.0 c.answer_new-tried.result c.finish.result
    c.begin-tx.ensures.begun c.begin-tx.ensures.settled (rw same at c.finish.ensures)
    (λ records made. search rules) records made none c.answer_new-tried.ensures.quiet.survives
    c.answer_new-tried.ensures.stored

-- ---- what is remembered

pub answer_new-tried-requires : goal.answer_new-tried-requires
answer_new-tried-requires g c =
    begins g.S.Store c.args.conn.now c.begin-tx.result.conn.now c.args.memory.now c.begin-tx.ensures.begun
    c.requires.remembers

pub returns-clause-remembers : goal.returns-clause-remembers
returns-clause-remembers g c =
    let same : c.match-tried.tried ≡ c.answer_new-tried.result = elim c.match-tried.branch [
      | in-Ok+in-Answered-1 w ↦ search rules
      | in-Err-1 w ↦ w.tried-is
    ] in
    let none : batch_of c.answer_new-tried.result ≡ None = elim c.match-tried.branch [
      | in-Ok+in-Answered-1 w ↦ search rules
      | in-Err-1 w ↦ search rules
    ] in
    tried_ends g.S.Store c.begin-tx.result c.answer_new-tried.new.tx c.finish.new.tx.0
    c.conn-2-1.given.0 c.answer_new-tried.result c.finish.result c.answer_new-tried.new.memory
    (rw same at c.finish.ensures) (search rules) none (rw c.begin-tx.ensures.begun refl)
    c.answer_new-tried.ensures.remembers

-- a probe changes nothing, whether it is understood or not
unchanged_by : (old new : State) (table : Table) (is_understood : Bool) → TellsProbe old new table (Ok is_understood)
    → IsUnchanged old new
unchanged_by old new table true answers = answers.1
unchanged_by old new table false answers = answers.1

pub returns-in-Ok-Again : goal.returns-in-Ok-Again
returns-in-Ok-Again g c =
    let back : c.rollback.new.self.0 ≡ c.conn-1.given.0 = search rules in
    let left = rw back at c.rollback.ensures.survives in
    let more = c.probe_table.ensures.survives in
    let before = as_before g.S.Store c.args.conn.now c.begin-tx.result c.answer_new-tried.new.tx c.conn-1.given.0
    c.probe_table.new.conn c.begin-tx.ensures.begun c.begin-tx.ensures.settled c.in-Ok-Again.ensures.quiet
    (rw back at c.rollback.ensures.undone) left (c.probe_table.ensures.mode (rw back at c.rollback.ensures.ended)) more
    (λ clean. unchanged_by _ _ _ c.in_ok-probe_table.field-0 (c.in_ok-probe_table.ensures.answers clean)) in
    record {
      says = tt;
      count = tt;
      busy = tt;
      stored = tt;
      whole = λ records made. quiet_so g.S.Store c.args.conn.now c.begin-tx.result c.answer_new-tried.new.tx
          c.conn-1.given.0 c.probe_table.new.conn c.begin-tx.ensures.begun c.begin-tx.ensures.settled
          c.in-Ok-Again.ensures.quiet (rw back at c.rollback.ensures.undone) left
          (c.probe_table.ensures.mode (rw back at c.rollback.ensures.ended)) more _;
      undone = tt;
      again = (rw c.in-Ok-Again.field-0-is at c.in-Ok-Again.ensures.again, before);
      remembers = recalls_undone g.S.Store c.args.conn.now c.begin-tx.result c.answer_new-tried.new.tx
          c.probe_table.new.conn c.answer_new-tried.new.memory c.begin-tx.ensures.begun before
          (λ clean. omega (arith, left.clean, more.clean, clean))
          (rw c.in-Ok-Again.field-0-is at c.in-Ok-Again.ensures.recalls);
    }
