use Rattle.std.proofs.Common.{refl}
use Rattle.posting_core.specs.Plain.{plain_tables}
use Rattle.posting_core.proofs.InMemory.{memory_refused, requests_as_before}
use Rattle.posting_core.proofs.plain_bank.PlainBank.make_room.Goals as goal

pub returns-in_err-reserve : goal.returns-in_err-reserve
returns-in_err-reserve c = rw (memory_refused _ c.from_residual.ensures.1) (record {
  requests = tt;
  history = tt;
  references = tt;
  memory = refl;
  stays = rw c.reserve.ensures.items refl;
})

pub returns-in_err-reserve-2 : goal.returns-in_err-reserve-2
returns-in_err-reserve-2 c = rw (memory_refused _ c.from_residual-in_err-reserve-2.ensures.1) (record {
  requests = tt;
  history = tt;
  references = tt;
  memory = refl;
  stays = rw (c.reserve.ensures.items, c.reserve-2.ensures.items) refl;
})

pub returns-in_err-reserve-3 : goal.returns-in_err-reserve-3
returns-in_err-reserve-3 c = rw (memory_refused _ c.from_residual-in_err-reserve-3.ensures.1) (record {
  requests = tt;
  history = tt;
  references = tt;
  memory = refl;
  stays = rw (c.reserve.ensures.items, c.reserve-2.ensures.items, c.reserve-3.ensures.items) refl;
})

pub returns : goal.returns
returns c = record {
  requests = c.in_ok-reserve-2.ensures.ok;
  history = c.in_ok-reserve.ensures.ok;
  references = c.in_ok-reserve-3.ensures.ok;
  memory = tt;
  stays = requests_as_before (plain_tables c.args.self.now) _ _ _ refl c.reserve.ensures.items
      c.reserve-2.ensures.items c.reserve-3.ensures.items;
}
