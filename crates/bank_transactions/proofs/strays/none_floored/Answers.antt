-- A floor without its branch is stray.
use Rattle.std.proofs.Common.{None, Some, inr, refl, subst, sym, ◌∙◌}
use Rattle.posting_rules.specs.declared.fault.Rule.TheVariants.{Key}
use Rattle.bank_transactions.specs.believed.Stored.{HoldsFloor}
use Rattle.bank_transactions.proofs.LookUps.{finds_so, reads_met, reads_wider}
use Rattle.bank_transactions.proofs.Exits.{clean_at, handed_on, reads_fail}
use Rattle.bank_transactions.proofs.strays.none_floored.Goals as goal

pub returns-in_err-floor_at : goal.returns-in_err-floor_at
returns-in_err-floor_at g c =
    rw (handed_on c.from_residual.result c.from_residual.ensures.1)
    (record { looks = reads_wider (reads_fail c.in_err-floor_at.ensures.says); none = tt })

pub returns-in-Some : goal.returns-in-Some
returns-in-Some g c =
    let it = c.in_ok-floor_at.ensures in
    record {
      looks = reads_met Key it.says (λ clean. inr (
        refl,
        λ rows has none.
            let row = subst (λ n. HoldsFloor rows n (Some c.in-Some.field-0)) c.get.ensures.value
            ((rw c.in-Some.is at it.stored) clean rows has) in
            let no = none.floors c.args.branch (c.requires (clean_at it.says.says.survives clean) rows has) in
            absurd (let both = sym row.2 ∙ no in cc),
      ));
      none = tt;
    }

pub returns-in-None : goal.returns-in-None
returns-in-None g c =
    let it = c.in_ok-floor_at.ensures in
    record {
      looks = reads_wider (finds_so it.says (λ clean t shows so. refl));
      none = λ clean rows has. subst (λ n. HoldsFloor rows n None) c.get.ensures.value
          ((rw c.in-None.is at it.stored) clean rows has);
    }
