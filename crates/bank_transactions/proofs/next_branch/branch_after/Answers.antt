-- The row of the next branch, and then its floor.
use Rattle.std.proofs.Common.{◌≡◌, ◌∙◌, ap, subst, sym}
use Rattle.std.specs.Option.{option_map}
use Rattle.sqlite.specs.Effect.{Database}
use Rattle.posting_rules.specs.{Branches.line_in, believed.LookUps.floor_in}
use Rattle.bank_transactions.specs.believed.Stored.{IsStoredFloor}
use Rattle.bank_transactions.proofs.LookUps.{reads_both, reads_but, reads_so}
use Rattle.bank_transactions.proofs.Exits.{clean_at, handed_on, reads_fail}
use Rattle.bank_transactions.proofs.next_branch.branch_after.Goals as goal

pub returns-in_err-row : goal.returns-in_err-row
returns-in_err-row g c = rw (handed_on c.from_residual.result c.from_residual.ensures.1) (record {
  says = reads_fail c.in_err-row.ensures.says;
  within = tt;
  stored = tt;
})

pub returns-in_default : goal.returns-in_default
returns-in_default g c = record {
  says = reads_so c.in_ok-row.ensures.says
      (λ t sound. (sound, λ row. ap (option_map (line_in t)) (sym c.in_default.is ∙ row)));
  within = tt;
  stored = rw c.in_default.is at c.in_ok-row.ensures.stored;
}

pub returns-in_err-floor : goal.returns-in_err-floor
returns-in_err-floor g c =
    let same = handed_on c.from_residual-in_err-floor.result c.from_residual-in_err-floor.ensures.1 in
    rw same (record {
      says = reads_but c.in_ok-row.ensures.says c.in_err-floor.ensures.says;
      within = tt;
      stored = tt;
    })

pub returns-clause-says : goal.returns-clause-says
returns-clause-says g c =
    reads_both c.in_ok-row.ensures.says c.in_ok-floor.ensures.says (λ t sound row. sound) (λ t sound row floor.
    let its : c.in_ok-floor.floor ≡ floor_in t c.in-Some.row.branch = floor ∙ ap (floor_in t) c.get.ensures.value in
    rw its (ap (option_map (line_in t)) (sym c.in-Some.is ∙ row)))

pub returns-clause-stored : goal.returns-clause-stored
returns-clause-stored g c clean =
    let mid = clean_at c.in_ok-floor.ensures.says.says.survives clean in
    let still = (c.in_ok-row.ensures.says.says.leaves mid).0.now in
    let floor = subst (λ (d : Database). IsStoredFloor d c.get.result c.in_ok-floor.floor) still
    (c.in_ok-floor.ensures.stored clean) in
    (rw c.in-Some.is at c.in_ok-row.ensures.stored mid, rw c.get.ensures.value at floor)

pub returns-clause-within : goal.returns-clause-within
returns-clause-within g c =
    let row = rw c.in-Some.is at c.in_ok-row.ensures.within in record {
      above = row.above;
      branch = row.branch;
      some = row.some;
      few = row.few;
      floor = c.in_ok-floor.ensures.within;
    }
