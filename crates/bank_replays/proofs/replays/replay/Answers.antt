-- What a replay says and leaves.
use Rattle.std.proofs.Common.{rules, ◌≡◌, ◌∙◌, Err, arith, refl, sym}
use Rattle.posting_rules.specs.declared.fault.{Fault.Fault, Fault.TheVariants.Damaged, Fault.TheVariants.Memory, Rule.Rule}
use Rattle.sqlite.specs.State.{HasCleanDisk}
use Rattle.bank_store.specs.believed.Seen.{file_of}
use Rattle.bank_replays.proofs.AllKept.{has_tables}
use Rattle.bank_replays.proofs.{InMemory.never_in_doubt, Digested.agrees_log, Exits.tested_up}
use Rattle.bank_replays.proofs.Leaves.{none_read, only_read}
use Rattle.bank_replays.proofs.{SoundLogs.sound_log, Whys.err_is, Whys.why_memory}
use Rattle.bank_replays.proofs.replays.replay.Goals as goal

memory_not_damaged : (fault : Fault) (rule : Rule) → fault ≡ Memory → fault ≡ Damaged rule → ⊥
memory_not_damaged fault rule memory damaged = cc

pub returns-then-is_down : goal.returns-then-is_down
returns-then-is_down g c = record {
  agrees = λ clean kept. tt;
  digest = λ clean. tt;
  differs = λ clean. tt;
  why = record { answers = λ clean f has. sym c.is_down.ensures ∙ c.if-is_down.true };
  bank = record {
    log = λ clean log shows. tt;
    sound = λ rule is. absurd cc;
    same = λ clean. tt;
  };
  down = λ down. (refl, refl);
  reads = none_read g.S.Store c.args.bank.now _;
}

pub returns-in_err-pages : goal.returns-in_err-pages
returns-in_err-pages g c =
    let same : c.from_residual.result ≡ Err c.in_err-pages.field-0.0 = search rules in
    record {
      agrees = λ clean kept. rw same tt;
      digest = λ clean. rw same tt;
      differs = λ clean. rw same tt;
      why = rw same (why_memory c.in_err-pages.field-0.0 c.in_err-pages.ensures.memory);
      bank = record {
        log = λ clean log shows. rw same tt;
        sound = λ rule is. absurd (memory_not_damaged _ rule c.in_err-pages.ensures.memory (err_is _ _ (sym same ∙ is)));
        same = λ clean. rw same tt;
      };
      down = λ down. absurd (tested_up _ _ c.is_down.ensures c.if-is_down.false down);
      reads = none_read g.S.Store c.args.bank.now _;
    }

pub replay_over-requires : goal.replay_over-requires
replay_over-requires g c = record {
  clean = record { clean = never_in_doubt (λ file. refl) };
  new = c.in_ok-pages.ensures.new;
}

pub returns : goal.returns
returns g c =
    let says = c.replay_over.ensures in
    let file = file_of c.args.bank.now in
    record {
      agrees = λ clean kept.
          let before : HasCleanDisk file = omega (arith, says.bank.survives.clean, clean) in
          let it = has_tables file (c.tables_law.ensures before kept.is_open) kept in
          says.agrees clean it.0 it.1;
      digest = says.digest;
      differs = says.differs;
      why = says.why;
      bank = record {
        log = λ clean log shows.
            agrees_log file.now log shows.tables shows.are shows.shows _ (says.digest clean);
        sound = λ rule is clean log shows.
            sound_log clean log shows c.replay_over.result (Damaged rule) says.why is rule refl;
        same = says.same;
      };
      down = λ down. absurd (tested_up _ _ c.is_down.ensures c.if-is_down.false down);
      reads = only_read _ says.bank;
    }
