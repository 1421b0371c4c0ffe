-- The count of a log's requests, and what is left of the bank.
use Rattle.std.proofs.Common.{inl, refl, sym, ◌∙◌}
use Rattle.std.proofs.lemmas.Result.{on_ok_weaker}
use Rattle.bank_store.specs.believed.Seen.{database_of}
use Rattle.bank_replays.proofs.{Exits.tested_up, Leaves.none_read, Leaves.only_read, Logged.counts_log}
use Rattle.bank_replays.proofs.logs.count_requests.Goals as goal

pub returns-then-is_down : goal.returns-then-is_down
returns-then-is_down g c = record {
  rows = λ clean version decided has. tt;
  log = λ clean log shows. tt;
  sound = λ clean log shows rule is. absurd cc;
  why = record { answers = λ clean f has. inl (sym c.is_down.ensures ∙ c.if-is_down.true) };
  frugal = λ is. absurd cc;
  reads = none_read g.S.Store c.args.bank.now _;
  same = λ clean. tt;
  down = λ down. (refl, refl);
}

pub returns : goal.returns
returns g c =
    let says = c.stored_count.ensures in
    record {
      rows = says.rows;
      log = λ clean log shows.
          let db = database_of g.S.Store c.args.bank.now in
          counts_log db shows.tables log shows.are shows.shows _ (says.rows clean);
      sound = says.sound;
      why = says.why;
      frugal = says.frugal;
      reads = only_read _ says.bank;
      same = λ clean. on_ok_weaker c.stored_count.result (λ still. still.0) (says.bank.still clean);
      down = λ down. absurd (tested_up _ _ c.is_down.ensures c.if-is_down.false down);
    }
