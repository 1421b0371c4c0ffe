-- The entries of a log, and what is left of the bank.
use Rattle.std.proofs.Common.{[], refl, sym, ◌∙◌}
use Rattle.posting_rules.specs.declared.fault.Fault.TheVariants.{Down}
use Rattle.report_contents.proofs.Written.{nothing_written}
use Rattle.bank_store.specs.believed.Seen.{database_of}
use Rattle.bank_store.proofs.{LogRows.has_kept, LogRows.kept_of}
use Rattle.bank_replays.specs.Prefixes.{wrote_none}
use Rattle.bank_replays.proofs.{Exits.tested_up, Leaves.none_read, Leaves.only_read, Logged.logs_log}
use Rattle.bank_replays.proofs.{SoundLogs.sound_log, Wrote.bank_err}
use Rattle.bank_replays.proofs.logs.write_log.Goals as goal

pub returns-then-is_down : goal.returns-then-is_down
returns-then-is_down g c = record {
  rows = λ clean all has. record {
    rows = record {
      given = [];
      rest = all;
      are = refl;
      each = tt;
      wrote = (wrote_none (g.W.Sink.contents c.args.writer.now) (g.W.Sink.calls c.args.writer.now)).0;
      why = tt;
    };
    kept = tt;
  };
  log = λ clean log shows. record { text = nothing_written _ _; kept = tt };
  writer = bank_err Down;
  why = record { answers = λ clean f has. sym c.is_down.ensures ∙ c.if-is_down.true };
  reads = none_read g.S.Store c.args.bank.now _;
  down = λ down. (refl, refl, refl);
}

pub returns : goal.returns
returns g c =
    let says = c.write_entries.ensures in
    record {
      rows = says.rows;
      log = λ clean log shows.
          let db = database_of g.S.Store c.args.bank.now in
          logs_log db shows.tables log shows.are shows.shows c.args.after _ _ _
          (says.rows clean (kept_of db shows.tables log shows.are shows.shows)
          (has_kept db shows.tables log shows.are shows.shows))
          (λ rule is. sound_log clean log shows c.write_entries.result _ says.why is rule refl);
      writer = says.writer;
      why = says.why;
      reads = only_read _ says.bank;
      down = λ down. absurd (tested_up _ _ c.is_down.ensures c.if-is_down.false down);
    }
