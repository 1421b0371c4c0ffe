-- The first request is looked up, and then the batch is answered as if none were kept.
use Rattle.std.proofs.Common.{refl}
use Rattle.posting_batch.specs.View.{IsMadeOf}
use Rattle.bank_transactions.proofs.AfterLookUp.{busy_since, quiet_since, says_since, stored_since}
use Rattle.bank_transactions.proofs.{Chained.acts_read, LookUps.does_fail, LookUps.does_look, NewBatch.quiet}
use Rattle.bank_transactions.proofs.{Remembered.keeps_read, Remembered.since}
use Rattle.bank_transactions.proofs.{Remembered.recalls_itself, Remembered.recalls_since}
use Rattle.bank_transactions.proofs.Exits.{handed_on}
use Rattle.bank_transactions.proofs.first_try.answer_new.Goals as goal

pub returns-in_err-keeps_first : goal.returns-in_err-keeps_first
returns-in_err-keeps_first g c = rw (handed_on c.from_residual.result c.from_residual.ensures.1) (record {
  says = λ records made. acts_read (does_fail c.in_err-keeps_first.ensures);
  count = tt;
  busy = tt;
  stored = tt;
  again = tt;
  quiet = quiet (does_look {Adds = λ text values. ⊥} c.in_err-keeps_first.ensures);
  remembers = tt;
  recalls = tt;
})

pub returns-clause-says : goal.returns-clause-says
returns-clause-says g c =
    says_since c.in_ok-keeps_first.ensures (IsMadeOf c.args.batch) c.args.moment c.answer_unkept.result
    c.answer_unkept.ensures.quiet c.answer_unkept.ensures.says

pub returns-clause-busy : goal.returns-clause-busy
returns-clause-busy g c =
    busy_since c.in_ok-keeps_first.ensures (IsMadeOf c.args.batch) c.args.moment c.answer_unkept.result
    c.answer_unkept.ensures.quiet c.answer_unkept.ensures.busy

pub returns-clause-stored : goal.returns-clause-stored
returns-clause-stored g c =
    stored_since c.in_ok-keeps_first.ensures (IsMadeOf c.args.batch) c.args.moment c.answer_unkept.result
    c.answer_unkept.ensures.quiet c.answer_unkept.ensures.stored

pub returns-clause-quiet : goal.returns-clause-quiet
returns-clause-quiet g c =
    quiet_since c.in_ok-keeps_first.ensures (IsMadeOf c.args.batch) c.args.moment c.answer_unkept.result
    c.answer_unkept.ensures.quiet

pub answer_unkept-requires : goal.answer_unkept-requires
answer_unkept-requires g c = keeps_read c.args.memory.now c.in_ok-keeps_first.ensures c.requires

pub returns-clause-remembers : goal.returns-clause-remembers
returns-clause-remembers g c =
    since c.answer_unkept.new.tx c.in_ok-keeps_first.ensures c.answer_unkept.result c.answer_unkept.new.memory
    c.answer_unkept.ensures.quiet.survives c.answer_unkept.ensures.remembers

pub returns-then-branch : goal.returns-then-branch
returns-then-branch g c = record {
  says = tt;
  count = tt;
  busy = tt;
  stored = tt;
  again = record { reads = refl; made = λ records made. made };
  quiet = quiet (does_look {Adds = λ text values. ⊥} c.in_ok-keeps_first.ensures);
  remembers = tt;
  recalls = recalls_itself c.args.memory.now c.in_ok-keeps_first.ensures c.requires;
}

pub returns-clause-recalls : goal.returns-clause-recalls
returns-clause-recalls g c =
    recalls_since c.answer_unkept.new.tx c.in_ok-keeps_first.ensures c.answer_unkept.result c.answer_unkept.new.memory
    c.answer_unkept.ensures.quiet.survives c.answer_unkept.ensures.recalls

pub returns-clause-count : goal.returns-clause-count
returns-clause-count g c = c.answer_unkept.ensures.count

pub returns-clause-again : goal.returns-clause-again
returns-clause-again g c = c.answer_unkept.ensures.again
