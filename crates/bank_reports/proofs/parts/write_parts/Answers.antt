-- The postings of one account after those of another.
use Rattle.std.proofs.Common.{rules, ◌≡◌, ◌<◌, List, [], ◌∷◌, Option, None, Some, Ok, Err, drop, leb, length, refl, sym, ap, subst, ◌∙◌}
use Rattle.std.proofs.Common.{arith, false, slice_get, slice_index_or, take, true}
use Rattle.std.specs.List.Sorted.{IsPartitionPoint}
use Rattle.std.proofs.lemmas.List.{length-drop}
use Rattle.std.proofs.lemmas.List.Sorted.{IsPartitionPoint-from_clause, IsPartitionedBy-leb}
use Rattle.posting_core.proofs.Telling.{more_more, more_none}
use Rattle.walked_rows.specs.declared.stated.StatedPosting.{StatedPosting}
use Rattle.report_contents.proofs.Written.{later_failed}
use Rattle.bank_reports.specs.declared.fault.ReportFault.TheVariants.{Write}
use Rattle.bank_reports.specs.{Gathering.account_of, Parts.WritesListed}
use Rattle.bank_reports.proofs.ByAccount.{PartsSoFar, all_parts, last_part, next_part, no_parts, some_own}
use Rattle.bank_reports.proofs.Further.{error_is}
use Rattle.bank_reports.proofs.ReportEnds.{not_ok}
use Rattle.bank_reports.proofs.Refused.{err_is}
use Rattle.bank_reports.proofs.parts.write_parts.Goals as goal

-- the first of some
head_is : (left : List StatedPosting) (first : StatedPosting) → Some first ≡ slice_get left 0
    → (0 < length left) × (slice_index_or left 0 first ≡ first)
head_is [] first is = absurd cc
head_is (s ∷ left) first is = (omega arith, let same : first ≡ s = cc in sym same)

no_length : (left : List StatedPosting) → length left ≡ 0 → left ≡ []
no_length [] is = refl
no_length (s ∷ left) is = absurd (omega (arith, is))

none_first : (left : List StatedPosting) → (let none : Option StatedPosting = None in none) ≡ slice_get left 0 → left ≡ []
none_first [] is = refl
none_first (s ∷ left) is = absurd cc

pub accounts-init : goal.accounts-init
accounts-init g c = record {
  parts = no_parts c.args.query.now c.args.rows.now _ c.requires.rise c.requires.numbers;
  few = search rules;
  more = more_none _;
}

pub returns-in_default : goal.returns-in_default
returns-in_default g c =
    let so_far = c.accounts.invariant in
    let none = none_first c.accounts.left.now (rw c.in_default.is at c.first.ensures.value) in
    record {
      written = all_parts c.args.query.now c.args.rows.now _ _ c.requires.numbers
          (subst (λ l. PartsSoFar c.args.query.now c.args.rows.now l (g.W.Sink.contents c.args.writer.now)
          (g.W.Sink.contents c.accounts.writer)) none so_far.parts);
      more = so_far.more;
      failed = λ write. absurd (not_ok _ _ _ refl write);
    }

pub returns-in_err-write_listed : goal.returns-in_err-write_listed
returns-in_err-write_listed g c =
    let mid = g.W.Sink.contents c.accounts.writer in
    let new = g.W.Sink.contents c.write_listed.new.writer in
    let so_far = c.accounts.invariant in
    let left = c.accounts.left.now in
    let first = c.in-Some.first.now in
    let head = head_is left first (rw c.in-Some.is at c.first.ensures.value) in
    let number_is : c.unsigned_abs-number.result ≡ account_of first = search rules in
    let count = c.partition_point-count.result in
    let point = subst (λ n. IsPartitionPoint (λ (s : StatedPosting). leb (account_of s) n ≡ true)
    (λ s. leb (account_of s) n ≡ false) left count) number_is
    (IsPartitionPoint-from_clause (λ s. leb (account_of s) c.unsigned_abs-number.result) left count
    c.partition_point-count.ensures.partitioned
    (IsPartitionedBy-leb account_of left c.unsigned_abs-number.result so_far.parts.rise) (λ a r q k. search rules)) in
    let own_is : c.split_at.result.0.now ≡ take count left = c.split_at.ensures.front in
    let account_is : c.unwrap-account.result ≡ account_of first = search rules in
    let fault = c.in_err-write_listed.field-0.0 in
    let same : c.from_residual.result ≡ Err fault = err_is _ c.from_residual.ensures.1 in
    let says = c.in_err-write_listed.ensures in
    record {
      written = rw same (last_part c.args.query.now c.args.rows.now left (g.W.Sink.contents c.args.writer.now) mid
          c.requires.numbers so_far.parts first head.0 head.1 count c.partition_point-count.ensures.bound point new fault
          (subst (λ l. WritesListed c.args.query.now (account_of first) l mid new (Err fault)) own_is
          (subst (λ n. WritesListed c.args.query.now n c.split_at.result.0.now mid new (Err fault)) account_is
          says.written)));
      more = rw same tt;
      failed = λ write. later_failed so_far.more (says.failed (ap Err (error_is fault Write (sym same ∙ write))));
    }

pub accounts-preserved : goal.accounts-preserved
accounts-preserved g c =
    let mid = g.W.Sink.contents c.accounts.writer in
    let new = g.W.Sink.contents c.write_listed.new.writer in
    let so_far = c.accounts.invariant in
    let left = c.accounts.left.now in
    let first = c.in-Some.first.now in
    let head = head_is left first (rw c.in-Some.is at c.first.ensures.value) in
    let number_is : c.unsigned_abs-number.result ≡ account_of first = search rules in
    let count = c.partition_point-count.result in
    let point = subst (λ n. IsPartitionPoint (λ (s : StatedPosting). leb (account_of s) n ≡ true)
    (λ s. leb (account_of s) n ≡ false) left count) number_is
    (IsPartitionPoint-from_clause (λ s. leb (account_of s) c.unsigned_abs-number.result) left count
    c.partition_point-count.ensures.partitioned
    (IsPartitionedBy-leb account_of left c.unsigned_abs-number.result so_far.parts.rise) (λ a r q k. search rules)) in
    let own_is : c.split_at.result.0.now ≡ take count left = c.split_at.ensures.front in
    let later_is : c.split_at.result.1.now ≡ drop count left = c.split_at.ensures.back in
    let account_is : c.unwrap-account.result ≡ account_of first = search rules in
    let says = c.in_ok-write_listed.ensures in
    let some = some_own c.args.query.now c.args.rows.now left (g.W.Sink.contents c.args.writer.now) mid
    c.requires.numbers so_far.parts first head.0 head.1 count c.partition_point-count.ensures.bound point in
    record {
      parts = subst (λ l. PartsSoFar c.args.query.now c.args.rows.now l (g.W.Sink.contents c.args.writer.now) new)
          (sym later_is)
          (next_part c.args.query.now c.args.rows.now left (g.W.Sink.contents c.args.writer.now) mid c.requires.numbers
          so_far.parts first head.0 head.1 count c.partition_point-count.ensures.bound point new
          (subst (λ l. WritesListed c.args.query.now (account_of first) l mid new (Ok tt)) own_is
          (subst (λ n. WritesListed c.args.query.now n c.split_at.result.0.now mid new (Ok tt)) account_is
          says.written)));
      few =
          let len = ap (λ l. length l) later_is ∙ length-drop count left in
          omega (arith, len, some, so_far.few, head.0);
      more = more_more so_far.more says.more;
    }

pub returns : goal.returns
returns g c =
    let so_far = c.accounts.invariant in
    let left = c.accounts.left.now in
    let ended : length left ≡ 0 = omega (arith, so_far.few, c.accounts-test.false) in
    record {
      written = all_parts c.args.query.now c.args.rows.now _ _ c.requires.numbers
          (subst (λ l. PartsSoFar c.args.query.now c.args.rows.now l (g.W.Sink.contents c.args.writer.now)
          (g.W.Sink.contents c.accounts.writer)) (no_length left ended) so_far.parts);
      more = so_far.more;
      failed = λ write. absurd (not_ok _ _ _ refl write);
    }
