-- What is left of the bank, and why not all floors were listed.
use Rattle.std.proofs.Common.{sym, ◌∙◌}
use Rattle.bank_replays.proofs.{Planned.some_floor, Read.read_any, Read.read_fails, Whys.err_is, Whys.why_err, Whys.why_none}
use Rattle.bank_replays.proofs.plan.floors_of.Goals as goal

pub returns-in-Ok-clause-bank : goal.returns-in-Ok-clause-bank
returns-in-Ok-clause-bank g c = read_any c.in-Ok.ensures.bank _

pub returns-in-Ok-clause-why : goal.returns-in-Ok-clause-why
returns-in-Ok-clause-why g c = why_none _

pub returns-in-Err : goal.returns-in-Err
returns-in-Err g c = record {
  bank = read_fails _ c.in-Err.ensures.bank;
  rows = λ clean floors has. tt;
  frugal = λ clean floors has is.
      let it = c.in-Err.ensures.visits in
      let more = it.4 clean floors has in
      some_floor it.0 it.1 c.in-Err.fault it.2 more.0 floors more.1 (sym c.bank_fault.ensures ∙ err_is _ _ is);
  why = why_err c.in-Err.fault _ (sym c.bank_fault.ensures) c.in-Err.ensures.why;
}
