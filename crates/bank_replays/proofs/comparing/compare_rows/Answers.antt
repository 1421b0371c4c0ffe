-- Two rows more, and what ends the two walks.
use Rattle.std.proofs.Common.{◌≡◌, [], Some, Err, refl, sym, ap, subst, ◌∙◌}
use Rattle.std.proofs.lemmas.Result.{err_from_is_err_and}
use Rattle.posting_rules.specs.declared.fault.Fault.TheVariants.{Memory}
use Rattle.bank_transactions.proofs.Blamed.{comes}
use Rattle.bank_replays.proofs.Comparisons.{along_more, not_none, ok_not_err, same_end, same_step}
use Rattle.bank_replays.proofs.Visits.{why_among, why_stopped}
use Rattle.bank_replays.proofs.Comparisons.{one_difference, some_not_none}
use Rattle.bank_replays.proofs.FirstDifference.{so_far_more, so_far_same, told_first}
use Rattle.bank_replays.specs.declared.difference.Difference.{Difference}
use Rattle.bank_replays.proofs.Read.{clean_before, none_read, read_any, read_fails, read_then, step_reads}
use Rattle.bank_replays.proofs.comparing.compare_rows.Goals as goal

pub rows-init : goal.rows-init
rows-init g c = record {
  reference = refl;
  reference_due = refl;
  bank = none_read _ _;
  due = none_read _ _;
  fresh = c.requires.fresh;
  along = λ clean all has. ([], refl);
  same = λ clean clean_due all others has has_due. record { given = []; are = refl; are_due = refl };
}

-- the first walk failed
pub returns-in_err-stands : goal.returns-in_err-stands
returns-in_err-stands g c =
    let it = c.rows.invariant in
    let fault = c.in_err-stands.field-0.0 in
    let p = err_from_is_err_and c.from_residual.result c.from_residual.ensures.1 in
    let same : c.from_residual.result ≡ Err fault = p.1 ∙ ap Err p.2 in
    record {
      same_reference = c.next.ensures.bank.same_reference ∙ it.reference;
      same_reference_due = it.reference_due;
      bank = rw same (read_fails fault (read_then it.bank (step_reads c.next.ensures.bank)));
      due = read_any it.due _;
      same = λ clean clean_due none. absurd (not_none _ fault same none);
      differs = λ clean clean_due d is. absurd (ok_not_err (Some d) _ fault is same);
      why = λ clean all has.
          let step = step_reads c.next.ensures.bank in
          let before = clean_before step clean in
          let there = subst (λ db. g.R.WalkedRow.HasItems db all) (sym (it.bank.still before).0) has in
          let given = it.along before all has in
          rw same (why_among g.R.WalkedRow.item g.R.WalkedRow.Breaks _ _ given.0 _ _ given.1 fault
          (why_stopped g.R.WalkedRow.item g.R.WalkedRow.Breaks _ _ g.R.WalkedRow.Breaks (λ rule x breaks. breaks) _ _
          fault (c.in_err-stands.ensures.answers clean all there)
          (λ is. record {
            at = c.rows.stood.bank.now.conn;
            before = comes it.bank.survives;
            failed = c.in_err-stands.ensures.store clean all there (ap Err is);
          })
          (λ is. it.fresh (c.next.ensures.stage.down.1 (c.in_err-stands.was ∙ ap Err is)).0)));
    }

-- the second walk failed
pub returns-in_default : goal.returns-in_default
returns-in_default g c =
    let it = c.rows.invariant in
    record {
      same_reference = c.next.ensures.bank.same_reference ∙ it.reference;
      same_reference_due = c.next-in-rows.ensures.bank.same_reference ∙ it.reference_due;
      bank = read_any (read_then it.bank (step_reads c.in_ok-stands.ensures.bank)) _;
      due = read_fails Memory (read_then it.due (step_reads c.next-in-rows.ensures.bank));
      same = λ clean clean_due none. absurd (not_none _ Memory refl none);
      differs = λ clean clean_due d is. absurd (ok_not_err (Some d) _ Memory is refl);
      why = λ clean all has. tt;
    }

-- both ended
pub returns-in-Ended : goal.returns-in-Ended
returns-in-Ended g c =
    let it = c.rows.invariant in
    let one = step_reads c.in_ok-stands.ensures.bank in
    let two = step_reads c.in-Ok.ensures.bank in
    let ended = rw c.in-Ended.is at c.compare_next.ensures in
    record {
      same_reference = c.next.ensures.bank.same_reference ∙ it.reference;
      same_reference_due = c.next-in-rows.ensures.bank.same_reference ∙ it.reference_due;
      bank = read_any (read_then it.bank one) _;
      due = read_any (read_then it.due two) _;
      same = λ clean clean_due none all others has has_due.
          let before = clean_before one clean in
          let before_due = clean_before two clean_due in
          so_far_same _ _ _ _ (it.same before before_due all others has has_due)
          (same_end g.R.WalkedRow.item g.R.WalkedRow.Breaks _ _ _ _ _ _
          (c.in_ok-stands.ensures.answers clean all
          (subst (λ db. g.R.WalkedRow.HasItems db all) (sym (it.bank.still before).0) has))
          (c.in-Ok.ensures.answers clean_due others
          (subst (λ db. g.R.WalkedRow.HasItems db others) (sym (it.due.still before_due).0) has_due))
          ended.0 ended.1);
      differs = λ clean clean_due d is. absurd (some_not_none d _ is refl);
      why = λ clean all has. tt;
    }

-- they differ
pub returns-in-Differs : goal.returns-in-Differs
returns-in-Differs g c =
    let it = c.rows.invariant in
    let one = step_reads c.in_ok-stands.ensures.bank in
    let two = step_reads c.in-Ok.ensures.bank in
    let set = rw c.in-Differs.is at c.compare_next.ensures in
    record {
      same_reference = c.next.ensures.bank.same_reference ∙ it.reference;
      same_reference_due = c.next-in-rows.ensures.bank.same_reference ∙ it.reference_due;
      bank = read_any (read_then it.bank one) _;
      due = read_any (read_then it.due two) _;
      same = λ clean clean_due none. absurd (some_not_none _ _ refl none);
      differs = λ clean clean_due d is. record {
        sides = set.0;
        says = subst (λ (e : Difference). g.R.Compared.Says e set.0) (one_difference _ d is) set.2;
        are = λ all others has has_due.
            let before = clean_before one clean in
            let before_due = clean_before two clean_due in
            told_first g.R.WalkedRow.key g.R.WalkedRow.item g.R.WalkedRow.Breaks _ _ _ _ _ _ _ _ set.0
            (it.same before before_due all others has has_due)
            (c.in_ok-stands.ensures.answers clean all
            (subst (λ db. g.R.WalkedRow.HasItems db all) (sym (it.bank.still before).0) has))
            (c.in-Ok.ensures.answers clean_due others
            (subst (λ db. g.R.WalkedRow.HasItems db others) (sym (it.due.still before_due).0) has_due))
            set.1;
      };
      why = λ clean all has. tt;
    }

-- there would be no room
pub returns : goal.returns
returns g c =
    let it = c.rows.invariant in
    record {
      same_reference = it.reference;
      same_reference_due = it.reference_due;
      bank = read_any it.bank _;
      due = read_any it.due _;
      same = λ clean clean_due none. absurd (not_none _ Memory refl none);
      differs = λ clean clean_due d is. absurd (ok_not_err (Some d) _ Memory is refl);
      why = λ clean all has. tt;
    }

pub rows-preserved : goal.rows-preserved
rows-preserved g c =
    let it = c.rows.invariant in
    let one = step_reads c.in_ok-stands.ensures.bank in
    let two = step_reads c.in-Ok.ensures.bank in
    let set = rw c.in-Same.is at c.compare_next.ensures in
    record {
      reference = c.next.ensures.bank.same_reference ∙ it.reference;
      reference_due = c.next-in-rows.ensures.bank.same_reference ∙ it.reference_due;
      bank = read_any (read_then it.bank one) _;
      due = read_any (read_then it.due two) _;
      fresh = c.in_ok-stands.ensures.stage.going;
      along = λ clean all has.
          let before = clean_before one clean in
          let given = it.along before all has in
          along_more g.R.WalkedRow.item g.R.WalkedRow.Breaks _ _ _ given.0 _
          (c.in_ok-stands.ensures.answers clean all
          (subst (λ db. g.R.WalkedRow.HasItems db all) (sym (it.bank.still before).0) has)) given.1 set.0 set.2;
      same = λ clean clean_due all others has has_due.
          let before = clean_before one clean in
          let before_due = clean_before two clean_due in
          so_far_more _ _ _ _ _ _ _ (it.same before before_due all others has has_due)
          (same_step g.R.WalkedRow.item g.R.WalkedRow.Breaks _ _ _ _ _ _
          (c.in_ok-stands.ensures.answers clean all
          (subst (λ db. g.R.WalkedRow.HasItems db all) (sym (it.bank.still before).0) has))
          (c.in-Ok.ensures.answers clean_due others
          (subst (λ db. g.R.WalkedRow.HasItems db others) (sym (it.due.still before_due).0) has_due))
          set.0 set.1 set.2 set.3 set.4);
    }
