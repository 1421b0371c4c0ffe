-- The sums that are tested are those of the definition.
use Rattle.std.proofs.Common.{◌≡◌, refl, sym, rules}
use Rattle.message_records.specs.declared.records.Outcome.TheVariants as outcome
use Rattle.posting_rules.specs.declared.judgments.Verdict.TheVariants.{Refused}
use Rattle.posting_rules.specs.believed.Cases.{posting_of}
use Rattle.posting_rules.proofs.cases.judge_posting.Goals as goal

pub returns-in-Some-Some-Some-clause-value : goal.returns-in-Some-Some-Some-clause-value
returns-in-Some-Some-Some-clause-value c =
    let new = c.in-Some-Some-Some in
    rw (
      sym c.if-falls_below.ensures,
      sym c.plus.ensures,
      sym c.plus-2.ensures,
      sym c.plus-3.ensures,
      new.is-0,
      new.is-1,
      new.is-2,
    ) refl

pub returns-in_default-clause-value : goal.returns-in_default-clause-value
returns-in_default-clause-value c =
    let over : Refused outcome.OverLimit ≡ posting_of c.plus.result c.plus-2.result c.plus-3.result = search
    rules in
    rw (sym c.if-falls_below.ensures, sym c.plus.ensures, sym c.plus-2.ensures, sym c.plus-3.ensures) over
