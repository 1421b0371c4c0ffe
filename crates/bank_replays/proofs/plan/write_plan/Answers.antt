-- A log's plan is never cut short by damage, and what is left of the bank.
use Rattle.std.proofs.Common.{refl, sym, ◌∙◌}
use Rattle.posting_rules.specs.declared.fault.Fault.TheVariants.{Down}
use Rattle.report_contents.proofs.Written.{nothing_written}
use Rattle.bank_replays.proofs.{Exits.tested_up, Leaves.none_read, Leaves.only_read}
use Rattle.bank_replays.proofs.{SoundLogs.sound_log, Wrote.bank_err}
use Rattle.bank_replays.proofs.plan.write_plan.Goals as goal

pub returns-then-is_down : goal.returns-then-is_down
returns-then-is_down g c = record {
  rows = λ clean floors branches has_floors has. record { text = nothing_written _ _; frugal = λ is. absurd cc };
  sound = λ clean log shows rule is. absurd cc;
  writer = bank_err Down;
  why = record { answers = λ clean f has. sym c.is_down.ensures ∙ c.if-is_down.true };
  reads = none_read g.S.Store c.args.bank.now _;
  down = λ down. (refl, refl, refl);
}

pub returns : goal.returns
returns g c =
    let says = c.write_branches.ensures in
    record {
      rows = says.rows;
      sound = λ clean log shows rule is.
          sound_log clean log shows c.write_branches.result _ says.why is rule refl;
      writer = says.writer;
      why = says.why;
      reads = only_read _ says.bank;
      down = λ down. absurd (tested_up _ _ c.is_down.ensures c.if-is_down.false down);
    }
