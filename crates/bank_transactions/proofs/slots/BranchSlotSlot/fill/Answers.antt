-- The row of a branch is looked up.
use Rattle.std.proofs.Common.{ap, refl}
use Rattle.std.specs.Prelude.{Option}
use Rattle.posting_rules.specs.declared.rows.BranchRow.{BranchRow}
use Rattle.bank_transactions.proofs.{Exits.handed_on, Exits.reads_fail, LookUps.reads_so}
use Rattle.bank_transactions.proofs.slots.BranchSlotSlot.fill.Goals as goal

pub known_branch-requires : goal.known_branch-requires
known_branch-requires g c = c.requires

pub returns-in_err-stored : goal.returns-in_err-stored
returns-in_err-stored g c = rw (handed_on c.from_residual.result c.from_residual.ensures.1) (record {
  says = reads_fail c.in_err-stored.ensures.says;
  same = tt;
  stored = tt;
  own = tt;
  remembers = tt;
})

pub returns : goal.returns
returns g c =
    let found = c.in_ok-stored.ensures in record {
      says = reads_so found.says
          (λ t so. (so.0, λ e. ap (λ (row : Option BranchRow). record c.args.self { stored = row }) e));
      same = refl;
      stored = λ clean rows has asked. found.stored clean rows has;
      own = λ clean. found.own;
      remembers = found.remembers;
    }
