-- The run at the place ends above the key, and those before it don't.
use Rattle.std.proofs.Common.{rules, ◌≡◌, ◌∙◌, ◌<◌, ℕ, Option, None, leb, sym, subst, arith}
use Rattle.std.specs.Prelude.{IfSome, MatchOption}
use Rattle.std.proofs.lemmas.List.Sorted.{IsPartitionedBy-leb, IsPartitionPoint-from_clause}
use Rattle.posting_rules.specs.declared.rows.ClosingRow.{ClosingRow}
use Rattle.posting_rules.specs.Numbers.{NextAbove, NoneAbove, RiseFrom}
use Rattle.posting_rules.proofs.Sought.{ends_above, free_between, lasts_rise}
use Rattle.posting_rules.proofs.number_runs.NumberRuns.next_above.Goals as goal

pub returns-then-run-key : goal.returns-then-run-key
returns-then-run-key c =
    let runs = c.deref.result.now in
    let place = c.partition_point-place.result in
    let key = c.args.key in
    let is : runs ≡ c.args.self.now = search rules in
    let rise : RiseFrom 0 runs = subst (RiseFrom 0) (sym c.deref.ensures.value) c.self.invariant in
    let at = IsPartitionPoint-from_clause (λ (r : ClosingRow). leb r.last key) runs place
    c.partition_point-place.ensures.partitioned (IsPartitionedBy-leb (λ r. r.last) runs key (lasts_rise 0 runs rise))
    (λ a r q k. search rules) in
    let same = c.deref-2.ensures.value ∙ sym c.deref.ensures.value in
    let it = ends_above c.args.self.now runs c.deref-2.result.now place key c.run_at.result c.in_ok-run.run' is same rise at
    c.run_at.ensures c.in_ok-run.was in
    let first = c.in_ok-run.run'.first in
    record {
      above = c.if-run-key.true;
      one = it.has first (omega arith) it.own;
      least = λ z over under. free_between c.args.self.now runs c.deref-2.result.now place key z c.run_at.result is same rise at
          c.run_at.ensures over (subst (λ (o : Option ClosingRow). IfSome o (λ r. z < r.first)) (sym c.in_ok-run.was) under);
    }

pub returns-in-Some : goal.returns-in-Some
returns-in-Some c =
    let runs = c.deref.result.now in
    let place = c.partition_point-place.result in
    let key = c.args.key in
    let is : runs ≡ c.args.self.now = search rules in
    let rise : RiseFrom 0 runs = subst (RiseFrom 0) (sym c.deref.ensures.value) c.self.invariant in
    let at = IsPartitionPoint-from_clause (λ (r : ClosingRow). leb r.last key) runs place
    c.partition_point-place.ensures.partitioned (IsPartitionedBy-leb (λ r. r.last) runs key (lasts_rise 0 runs rise))
    (λ a r q k. search rules) in
    let same = c.deref-2.ensures.value ∙ sym c.deref.ensures.value in
    let it = ends_above c.args.self.now runs c.deref-2.result.now place key c.run_at.result c.in_ok-run.run' is same rise at
    c.run_at.ensures c.in_ok-run.was in
    let above = it.above in
    record {
      above = omega arith;
      one = it.has c.in-Some.next (omega arith) (omega (arith, above));
      least = λ z over under. absurd (omega (arith, over, under));
    }

pub returns-in_err-run : goal.returns-in_err-run
returns-in_err-run c =
    let runs = c.deref.result.now in
    let place = c.partition_point-place.result in
    let key = c.args.key in
    let is : runs ≡ c.args.self.now = search rules in
    let rise : RiseFrom 0 runs = subst (RiseFrom 0) (sym c.deref.ensures.value) c.self.invariant in
    let at = IsPartitionPoint-from_clause (λ (r : ClosingRow). leb r.last key) runs place
    c.partition_point-place.ensures.partitioned (IsPartitionedBy-leb (λ r. r.last) runs key (lasts_rise 0 runs rise))
    (λ a r q k. search rules) in
    let same = c.deref-2.ensures.value ∙ sym c.deref.ensures.value in
    let none : c.from_residual.result ≡ None = search rules in
    subst (λ (o : Option ℕ). MatchOption o (NoneAbove c.args.self.now key) (NextAbove c.args.self.now key)) (sym none)
    (λ y over. free_between c.args.self.now runs c.deref-2.result.now place key y c.run_at.result is same rise at
    c.run_at.ensures over (subst (λ (o : Option ClosingRow). IfSome o (λ r. y < r.first)) (sym c.in_err-run.was) tt))

pub returns-in-None : goal.returns-in-None
returns-in-None c =
    let runs = c.deref.result.now in
    let place = c.partition_point-place.result in
    let key = c.args.key in
    let is : runs ≡ c.args.self.now = search rules in
    let rise : RiseFrom 0 runs = subst (RiseFrom 0) (sym c.deref.ensures.value) c.self.invariant in
    let at = IsPartitionPoint-from_clause (λ (r : ClosingRow). leb r.last key) runs place
    c.partition_point-place.ensures.partitioned (IsPartitionedBy-leb (λ r. r.last) runs key (lasts_rise 0 runs rise))
    (λ a r q k. search rules) in
    let same = c.deref-2.ensures.value ∙ sym c.deref.ensures.value in
    let it = ends_above c.args.self.now runs c.deref-2.result.now place key c.run_at.result c.in_ok-run.run' is same rise at
    c.run_at.ensures c.in_ok-run.was in
    let above = it.above in
    absurd (omega (arith, above))
