-- The run at the place has the number, or none has.
use Rattle.std.proofs.Common.{rules, ◌≡◌, ◌∙◌, ltb, sym, subst, ap}
use Rattle.std.proofs.lemmas.List.Sorted.{IsPartitionedBy-ltb, IsPartitionPoint-from_clause}
use Rattle.posting_rules.specs.declared.rows.ClosingRow.{ClosingRow}
use Rattle.posting_rules.specs.Numbers.{RiseFrom}
use Rattle.posting_rules.proofs.Sought.{begins_by, has_is, lasts_rise}
use Rattle.posting_rules.proofs.number_runs.NumberRuns.has.Goals as goal

pub returns-in-Some : goal.returns-in-Some
returns-in-Some c =
    let runs = c.deref.result.now in
    let place = c.partition_point-place.result in
    let key = c.args.key in
    let is : runs ≡ c.args.self.now = search rules in
    let rise : RiseFrom 0 runs = subst (RiseFrom 0) (sym c.deref.ensures.value) c.self.invariant in
    let at = IsPartitionPoint-from_clause (λ (r : ClosingRow). ltb r.last key) runs place
    c.partition_point-place.ensures.partitioned (IsPartitionedBy-ltb (λ r. r.last) runs key (lasts_rise 0 runs rise))
    (λ a r q k. search rules) in
    sym (has_is c.args.self.now runs c.deref-2.result.now place key c.run_at.result is
    (c.deref-2.ensures.value ∙ sym c.deref.ensures.value) rise at c.run_at.ensures ∙ ap (begins_by key) c.in-Some.is)

pub returns-in-None : goal.returns-in-None
returns-in-None c =
    let runs = c.deref.result.now in
    let place = c.partition_point-place.result in
    let key = c.args.key in
    let is : runs ≡ c.args.self.now = search rules in
    let rise : RiseFrom 0 runs = subst (RiseFrom 0) (sym c.deref.ensures.value) c.self.invariant in
    let at = IsPartitionPoint-from_clause (λ (r : ClosingRow). ltb r.last key) runs place
    c.partition_point-place.ensures.partitioned (IsPartitionedBy-ltb (λ r. r.last) runs key (lasts_rise 0 runs rise))
    (λ a r q k. search rules) in
    sym (has_is c.args.self.now runs c.deref-2.result.now place key c.run_at.result is
    (c.deref-2.ensures.value ∙ sym c.deref.ensures.value) rise at c.run_at.ensures ∙ ap (begins_by key) c.in-None.is)
