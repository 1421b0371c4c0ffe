-- The digest, or none where there are fewer, and what a log makes of it.
use Rattle.std.proofs.Common.{rules, ◌≡◌, ◌∙◌, Ok, Err, Option, Some, None, refl, sym, ap}
use Rattle.posting_rules.specs.declared.fault.Fault.{Fault}
use Rattle.bank_store.specs.believed.Seen.{database_of}
use Rattle.posting_core.specs.believed.LogEntries.{answered_after}
use Rattle.bank_replays.proofs.Digested.{digests_err, digests_log, rows_enough, rows_fewer}
use Rattle.bank_replays.proofs.{SoundLogs.sound_log, Whys.err_is, Whys.why_err, Whys.why_none}
use Rattle.bank_store.proofs.LogRows.{has_kept}
use Rattle.bank_replays.proofs.{Exits.tested_up, Leaves.none_read, Leaves.only_read}
use Rattle.bank_store.proofs.LogRows.{kept_answered, kept_of}
use Rattle.bank_replays.proofs.{Read.read_any, Read.read_fails}
use Rattle.bank_replays.specs.declared.chain.Digest.{Digest}
use Rattle.bank_replays.proofs.digests.digest.Goals as goal

pub returns-then-is_down : goal.returns-then-is_down
returns-then-is_down g c = record {
  rows = λ clean all has. tt;
  log = λ clean log shows. tt;
  why = record { answers = λ clean f has. sym c.is_down.ensures ∙ c.if-is_down.true };
  frugal = λ is. absurd cc;
  reads = none_read g.S.Store c.args.bank.now _;
  down = λ down. (refl, refl);
}

pub returns-in_err-digest : goal.returns-in_err-digest
returns-in_err-digest g c =
    let fault = c.in_err-digest.field-0.0 in
    let same : c.from_residual.result ≡ Err fault = search rules in
    let reads = c.in_err-digest.ensures.bank in
    record {
      rows = λ clean all has. rw same tt;
      log = λ clean log shows.
          rw same (digests_err c.args.count (answered_after log) fault
          (sound_log clean log shows (Err fault) fault c.in_err-digest.ensures.why refl));
      why = rw same (why_err fault fault refl c.in_err-digest.ensures.why);
      frugal = λ is. c.in_err-digest.ensures.frugal (ap Err (err_is fault _ (sym same ∙ is)));
      reads = rw same (only_read {X = Option Digest} (Err fault) (read_fails fault reads));
      down = λ down. absurd (tested_up _ _ c.is_down.ensures c.if-is_down.false down);
    }

pub returns-then-digest-count : goal.returns-then-digest-count
returns-then-digest-count g c =
    let reads = c.in_ok-digest.ensures.bank in
    let db = database_of g.S.Store c.args.bank.now in
    record {
      rows = λ clean all has.
          rows_fewer c.args.count all c.in_ok-digest.digest (c.in_ok-digest.ensures.rows clean all has)
          c.if-digest-count.true;
      log = λ clean log shows.
          let all = kept_of db shows.tables log shows.are shows.shows in
          digests_log c.args.count all _ (kept_answered db shows.tables log shows.are shows.shows) None
          (rows_fewer c.args.count all c.in_ok-digest.digest
          (c.in_ok-digest.ensures.rows clean all (has_kept db shows.tables log shows.are shows.shows))
          c.if-digest-count.true);
      why = why_none None;
      frugal = λ is. absurd cc;
      reads = only_read {X = Option Digest} {E = Fault} (Ok None) (read_any reads (Ok None));
      down = λ down. absurd (tested_up _ _ c.is_down.ensures c.if-is_down.false down);
    }

pub returns : goal.returns
returns g c =
    let reads = c.in_ok-digest.ensures.bank in
    let db = database_of g.S.Store c.args.bank.now in
    let digest = c.in_ok-digest.digest in
    record {
      rows = λ clean all has.
          let is = c.in_ok-digest.ensures.rows clean all has in
          (rows_enough c.args.count all digest is c.if-digest-count.false, is);
      log = λ clean log shows.
          let all = kept_of db shows.tables log shows.are shows.shows in
          let is = c.in_ok-digest.ensures.rows clean all (has_kept db shows.tables log shows.are shows.shows) in
          digests_log c.args.count all _ (kept_answered db shows.tables log shows.are shows.shows) (Some digest)
          (rows_enough c.args.count all digest is c.if-digest-count.false, is);
      why = why_none (Some digest);
      frugal = λ is. absurd cc;
      reads = only_read {X = Option Digest} {E = Fault} (Ok (Some digest)) (read_any reads (Ok (Some digest)));
      down = λ down. absurd (tested_up _ _ c.is_down.ensures c.if-is_down.false down);
    }
