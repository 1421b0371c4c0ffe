-- The balance of a teller is looked up, by the row of its branch.
use Rattle.std.proofs.Common.{◌∙◌, ap, refl, subst, sym, ℕ}
use Rattle.std.specs.Prelude.{Option, ℤ}
use Rattle.posting_rules.specs.{believed.Numbering.branch_of_teller, believed.Tables.row_at}
use Rattle.posting_rules.specs.declared.rows.BranchRow.{BranchRow}
use Rattle.posting_batch.specs.Slots.{branch_slot_key, in_slot, row_of_slot}
use Rattle.bank_transactions.specs.Filling.{HoldsBranch}
use Rattle.bank_transactions.proofs.{Exits.handed_on, Exits.reads_fail, LookUps.reads_so}
use Rattle.bank_transactions.proofs.slots.TellerSlotSlot.fill.Goals as goal

pub teller_within-requires : goal.teller_within-requires
teller_within-requires g c = c.requires

pub returns-in_err-stored : goal.returns-in_err-stored
returns-in_err-stored g c = rw (handed_on c.from_residual.result c.from_residual.ensures.1) (record {
  says = reads_fail c.in_err-stored.ensures.says;
  same = tt;
  stored = tt;
  own = tt;
  remembers = tt;
})

pub returns : goal.returns
returns g c =
    let found = c.in_ok-stored.ensures in
    let n = branch_of_teller c.args.self.teller in
    let row = c.stored_branch-branch.ensures
    ∙ ap (λ (k : ℕ). in_slot row_of_slot (row_at branch_slot_key c.args.branches.now k)) c.branch_of_teller.ensures in
    record {
      says = reads_so found.says (λ t so. (
        (so.0, row ∙ so.1),
        λ e. ap (λ (balance : Option ℤ). record c.args.self { stored = balance }) e,
      ));
      same = refl;
      stored = λ clean rows has held. found.stored clean rows has
          (subst (λ (branch : Option BranchRow). HoldsBranch rows n branch) (sym row) held);
      own = λ clean. tt;
      remembers = found.remembers;
    }
