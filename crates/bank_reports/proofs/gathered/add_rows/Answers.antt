-- One more row, and what ends the walk.
use Rattle.std.proofs.Common.{rules, ◌≡◌, ◌<◌, ℕ, [], inl, Err, refl, sym, ap, ◌∙◌, arith, subst}
use Rattle.sqlite.specs.{Effect.Database, State.HasCleanDisk}
use Rattle.bank_store.specs.Walking.{ComesFrom, items_to_come}
use Rattle.bank_store.specs.believed.Seen.{file_of}
use Rattle.bank_store.proofs.ReadsLeave.{clean_before}
use Rattle.walked_rows.specs.Rows.{LEAST}
use Rattle.bank_reports.proofs.AddedRows.{all_given, along_more, damaged_row, one_more_row, room_for}
use Rattle.bank_reports.proofs.BankReads.{has_before, reads_failed, reads_nothing, reads_still, reads_then}
use Rattle.bank_reports.proofs.gathered.add_rows.Goals as goal

pub rows-init : goal.rows-init
rows-init g c = record {
  reference = refl;
  fresh = c.requires.fresh;
  reads = reads_nothing c.args.walk.now.bank.now;
  gathered = record { given = []; many = refl; are = λ clean items has. refl; added = λ rows none. none };
  along = record { next = LEAST; comes = c.requires.rises; after = inl refl; few = omega arith };
}

-- ---- a step that failed

pub returns-in_err-row : goal.returns-in_err-row
returns-in_err-row g c =
    let mid = c.rows.walk.bank.now in
    let new = c.next.new.self.bank.now in
    let it = c.rows.invariant in
    let step = c.next.ensures.bank in
    let fault = c.in_err-row.field-0.0 in
    let same : c.from_residual.result ≡ Err fault = search rules in
    record {
      same_reference = step.same_reference ∙ it.reference;
      added = rw same tt;
      reads = rw same (reads_then it.reads (reads_failed mid new step.up step.survives fault
          (λ is. c.in_err-row.ensures.frugal (ap Err is))
          (λ is. it.fresh (c.next.ensures.stage.down.1 (rw (c.in_err-row.was, is) refl)).0) step.undone
          (λ is clean all has. c.in_err-row.ensures.store clean all has (ap Err is))
          (λ rule is clean all has.
          let before = clean_before (file_of mid) (file_of new) step.survives clean in
          damaged_row (λ (b : HasCleanDisk (file_of mid)). b) it.gathered g.R.WalkedRow.Breaks before all
          (subst (λ (db : Database). g.R.WalkedRow.HasItems db all) (it.reads.still before tt).0 has) _ fault
          (c.in_err-row.ensures.answers clean all has) rule is)));
    }

-- ---- the end of the walk

pub returns-in_default : goal.returns-in_default
returns-in_default g c =
    let mid = c.rows.walk.bank.now in
    let new = c.next.new.self.bank.now in
    let it = c.rows.invariant in
    let step = c.next.ensures.bank in
    record {
      same_reference = step.same_reference ∙ it.reference;
      added = (
        it.gathered.given,
        it.gathered.added,
        λ clean all has.
            let before = clean_before (file_of mid) (file_of new) step.survives clean in
            all_given (λ (b : HasCleanDisk (file_of mid)). b) it.gathered before all has
            (rw c.in_default.is at (c.in_ok-row.ensures.answers clean all
            (has_before it.reads new step.survives clean all has))).0,
      );
      reads = reads_then it.reads (reads_still mid new step.up step.survives c.in_ok-row.ensures.bank.same);
    }

-- ---- there are no more rows than can be

pub returns : goal.returns
returns g c =
    let few = c.rows.invariant.along.few in
    let many = c.rows-test.false in
    absurd (omega (arith, few, many))

-- ---- one more row

pub add_to-requires : goal.add_to-requires
add_to-requires g c =
    let it = c.rows.invariant.gathered in
    let along = c.rows.invariant.along in
    let rises = rw c.in-Some.is at (c.in_ok-row.ensures.rises along.next along.comes) in
    let key = g.R.WalkedRow.key (g.R.WalkedRow.item c.in-Some.row) in
    let number = c.number-number.ensures in (
      c.requires.has.0,
      it.given,
      it.added c.requires.has.0 c.requires.has.1,
      subst (λ (n : ℕ). n < g.R.Summed.most) (sym it.many)
          (room_for (λ k. ComesFrom (λ r. g.R.WalkedRow.key (g.R.WalkedRow.item r)) k c.rows.walk)
          (λ k. Unit {0}) c.rows.counter key along rises.0 c.number-number.result number.key number.least
          g.R.Summed.most number.most),
    )

pub rows-preserved : goal.rows-preserved
rows-preserved g c =
    let mid = c.rows.walk.bank.now in
    let new = c.next.new.self.bank.now in
    let it = c.rows.invariant in
    let step = c.next.ensures.bank in
    let before = λ (clean : HasCleanDisk (file_of new)). clean_before (file_of mid) (file_of new) step.survives clean in
    let rises = rw c.in-Some.is at (c.in_ok-row.ensures.rises it.along.next it.along.comes) in
    record {
      reference = step.same_reference ∙ it.reference;
      fresh = c.in_ok-row.ensures.stage.going;
      reads = reads_then it.reads (reads_still mid new step.up step.survives c.in_ok-row.ensures.bank.same);
      gathered = one_more_row before it.gathered c.add_to.new.sums
          (λ all. items_to_come g.R.WalkedRow.key g.R.WalkedRow.item g.R.WalkedRow.is_given all c.next.new.self)
          c.in-Some.row
          (λ clean all has. rw c.in-Some.is at (c.in_ok-row.ensures.answers clean all
          (has_before it.reads new step.survives clean all has)))
          c.add_to.ensures;
      along = along_more (λ k. ComesFrom (λ r. g.R.WalkedRow.key (g.R.WalkedRow.item r)) k c.rows.walk)
          (λ k. ComesFrom (λ r. g.R.WalkedRow.key (g.R.WalkedRow.item r)) k c.next.new.self) c.rows.counter
          (g.R.WalkedRow.key (g.R.WalkedRow.item c.in-Some.row)) it.along rises.0 c.number-number.result
          c.number-number.ensures.key c.number-number.ensures.least rises.1 c.number-number.ensures.within;
    }
