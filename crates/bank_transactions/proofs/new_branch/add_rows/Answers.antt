-- One row more.
use Rattle.std.proofs.Common.{◌≡◌, ◌+◌, ◌<◌, ℕ, add-one, Ok, false, sym, subst, arith}
use Rattle.bank_transactions.specs.{believed.Additions.AddsRange, Doing.Leaves, Running.Writes}
use Rattle.bank_transactions.specs.NewRows.{is_taken, with_new_rows}
use Rattle.bank_transactions.proofs.Running.{writes_adds, writes_err, writes_none, writes_then}
use Rattle.bank_transactions.proofs.Left.{leaves_err, leaves_none, leaves_then}
use Rattle.bank_transactions.proofs.Exits.{handed_on, survives_itself}
use Rattle.bank_transactions.proofs.new_branch.add_rows.Goals as goal

pub loop-place-init : goal.loop-place-init
loop-place-init g c = record { writes = writes_none (survives_itself _); leaves = leaves_none }

pub loop-place-preserved : goal.loop-place-preserved
loop-place-preserved g c =
    let lt : c.loop-place.place < c.args.count = omega arith in
    let first = c.args.first in
    let kind = c.args.kind in
    let count = c.args.count in
    let so_far = c.loop-place.invariant in
    let one = c.in_ok-add_new.ensures in
    let next = sym (add-one c.loop-place.place) in
    record {
      writes =
          subst (λ n. Writes g.S.Store (AddsRange kind first count) c.args.tx.now c.add_new.new.tx
          (λ t. (m : ℕ) → m < count → is_taken kind (first + m) (with_new_rows kind first m t) ≡ false)
          (λ t. with_new_rows kind first n t) (Ok (tt {0}))) next
          (writes_then so_far.writes
          (writes_adds (λ clean text values own. (c.loop-place.place, lt, own)) one.writes)
          (λ t free. free c.loop-place.place lt));
      leaves =
          subst (λ n. Leaves {X = Unit {0}} g.S.Store c.args.tx.now c.add_new.new.tx
          (λ t. with_new_rows kind first n t) (Ok (tt {0}))) next
          (leaves_then so_far.writes.does one.writes.does so_far.leaves one.leaves);
    }

pub returns-in_err-add_new-clause-writes : goal.returns-in_err-add_new-clause-writes
returns-in_err-add_new-clause-writes g c =
    let lt : c.loop-place.place < c.args.count = omega arith in
    let same = handed_on c.from_residual.result c.from_residual.ensures.1 in
    rw same (writes_err
    (writes_then c.loop-place.invariant.writes
    (writes_adds (λ clean text values own. (c.loop-place.place, lt, own)) c.in_err-add_new.ensures.writes)
    (λ t free. free c.loop-place.place lt))
    (λ t free. free))

pub returns-in_err-add_new-clause-leaves : goal.returns-in_err-add_new-clause-leaves
returns-in_err-add_new-clause-leaves g c =
    let same = handed_on c.from_residual.result c.from_residual.ensures.1 in
    rw same leaves_err

pub returns : goal.returns
returns g c =
    let at_end : c.loop-place.place ≡ c.args.count = omega arith in record {
      writes = rw at_end at c.loop-place.invariant.writes;
      leaves = rw at_end at c.loop-place.invariant.leaves;
    }
