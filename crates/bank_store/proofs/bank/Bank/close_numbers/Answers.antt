-- Numbers of one teller are a run.
use Rattle.std.proofs.Common.{inr}
use Rattle.bank_store.proofs.ApartRows.{row_sound}
use Rattle.bank_store.proofs.bank.Bank.close_numbers.Goals as goal

pub of_numbers-requires : goal.of_numbers-requires
of_numbers-requires g c = c.requires

pub close_run-requires : goal.close_run-requires
close_run-requires g c = row_sound c.of_numbers.result (inr c.of_numbers.ensures.run)

pub returns : goal.returns
returns g c =
    let it = rw c.of_numbers.ensures.row at c.close_run.ensures in
    record {
      answer = it.answer;
      call = it.call;
      frugal = it.frugal;
      stored = it.stored;
      own = it.own;
      spares = it.spares;
    }
