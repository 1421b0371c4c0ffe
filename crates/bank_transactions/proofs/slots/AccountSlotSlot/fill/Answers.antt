-- The balance of an account is looked up, by the row of its branch and by its floor.
use Rattle.std.proofs.Common.{◌∙◌, ap, refl, subst, sym}
use Rattle.std.specs.Prelude.{Option, ℤ}
use Rattle.posting_rules.specs.believed.Numbering.{branch_of_account}
use Rattle.posting_rules.specs.declared.rows.BranchRow.{BranchRow}
use Rattle.bank_transactions.specs.{Filling.HoldsBranch, believed.Stored.HoldsFloor}
use Rattle.bank_transactions.proofs.{Exits.handed_on, Exits.reads_fail, LookUps.reads_so}
use Rattle.bank_transactions.proofs.slots.AccountSlotSlot.fill.Goals as goal

pub account_within-requires : goal.account_within-requires
account_within-requires g c = c.requires

pub returns-in_err-stored : goal.returns-in_err-stored
returns-in_err-stored g c = rw (handed_on c.from_residual.result c.from_residual.ensures.1) (record {
  says = reads_fail c.in_err-stored.ensures.says;
  same = tt;
  stored = tt;
  own = tt;
  remembers = tt;
})

pub returns : goal.returns
returns g c =
    let found = c.in_ok-stored.ensures in
    let n = branch_of_account c.args.self.account in
    let is = c.branch_of_account-number.ensures in
    let row = rw is at c.stored_branch-branch.ensures in
    let floor = rw is at c.stored_floor-floor.ensures in
    record {
      says = reads_so found.says (λ t so. (
        (so.0, row ∙ so.1),
        λ e. ap (λ (balance : Option ℤ). record c.args.self { stored = balance }) e,
      ));
      same = refl;
      stored = λ clean rows has held. found.stored clean rows has (
        subst (λ (branch : Option BranchRow). HoldsBranch rows n branch) (sym row) held.0,
        subst (λ (lowest : Option ℤ). HoldsFloor rows n lowest) (sym floor) held.1,
      );
      own = λ clean. tt;
      remembers = found.remembers;
    }
