-- The balance of an account, of what is found with its floor.
use Rattle.std.proofs.Common.{ap}
use Rattle.std.specs.Prelude.{Option, ℤ}
use Rattle.bank_transactions.proofs.{Exits.handed_on, Exits.reads_fail, LookUps.reads_so}
use Rattle.bank_transactions.proofs.slots.account_beside.Goals as goal

pub returns-in_err-balance : goal.returns-in_err-balance
returns-in_err-balance g c = rw (handed_on c.from_residual.result c.from_residual.ensures.1) (record {
  says = reads_fail c.in_err-balance.ensures.says;
  stored = tt;
})

pub returns : goal.returns
returns g c = record {
  says = reads_so c.in_ok-balance.ensures.says (λ t sound. (sound, λ e. ap (λ (both : Option ℤ × Option ℤ). both.0) e));
  stored = λ clean. (c.in_ok-balance.ensures.stored clean).0;
}
