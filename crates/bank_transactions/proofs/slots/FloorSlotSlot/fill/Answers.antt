-- The floor of a branch is looked up.
use Rattle.std.proofs.Common.{ap, refl}
use Rattle.std.specs.Prelude.{Option, ℤ}
use Rattle.bank_transactions.proofs.{Exits.handed_on, Exits.reads_fail, LookUps.reads_so}
use Rattle.bank_transactions.proofs.slots.FloorSlotSlot.fill.Goals as goal

pub known_floor-requires : goal.known_floor-requires
known_floor-requires g c = c.requires

pub returns-in_err-floor : goal.returns-in_err-floor
returns-in_err-floor g c = rw (handed_on c.from_residual.result c.from_residual.ensures.1) (record {
  says = reads_fail c.in_err-floor.ensures.says;
  same = tt;
  stored = tt;
  own = tt;
  remembers = tt;
})

pub returns : goal.returns
returns g c =
    let found = c.in_ok-floor.ensures in record {
      says = reads_so found.says
          (λ t so. (so.0, λ e. ap (λ (floor : Option ℤ). record c.args.self { floor = floor }) e));
      same = refl;
      stored = λ clean rows has asked. found.stored clean rows has;
      own = λ clean. tt;
      remembers = found.remembers;
    }
