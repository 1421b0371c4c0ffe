-- What is kept of a request is looked up, and what is remembered stays so.
use Rattle.std.proofs.Common.{ap, refl}
use Rattle.std.specs.Prelude.{Option}
use Rattle.posting_rules.specs.believed.Kept.{KeptFields}
use Rattle.bank_transactions.proofs.{Exits.handed_on, Exits.reads_fail, LookUps.reads_so, Remembered.keeps_read}
use Rattle.bank_transactions.proofs.slots.RequestSlotSlot.fill.Goals as goal

pub returns-in_err-kept : goal.returns-in_err-kept
returns-in_err-kept g c = rw (handed_on c.from_residual.result c.from_residual.ensures.1) (record {
  says = reads_fail c.in_err-kept.ensures.says;
  same = tt;
  stored = tt;
  own = tt;
  remembers = tt;
})

pub returns : goal.returns
returns g c =
    let found = c.in_ok-kept.ensures in record {
      says = reads_so found.says
          (λ t so. (so.0, λ e. ap (λ (kept : Option KeptFields). record c.args.self { kept = kept }) e));
      same = refl;
      stored = λ clean rows has asked. found.stored clean rows has;
      own = λ clean. tt;
      remembers = keeps_read c.args._memory.now found.says c.requires;
    }
