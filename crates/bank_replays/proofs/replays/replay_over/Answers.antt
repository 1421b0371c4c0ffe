-- Where no difference was found, the file has the rows of the log that the second bank shows, and its requests are
-- digested.
use Rattle.std.proofs.Common.{rules, ◌≡◌, ◌∙◌, Err, refl, sym, ap, subst}
use Rattle.std.proofs.lemmas.Result.{err_from_is_err_and}
use Rattle.sqlite.specs.Effect.{Database}
use Rattle.bank_store.specs.believed.Seen.{connection_of, file_of}
use Rattle.posting_rules.specs.believed.Tables.{Tables}
use Rattle.walked_rows.specs.Rows.{entry_key}
use Rattle.bank_replays.specs.{Differences.rows_of, FileTables.HasTables, FileTables.SameTables, FileTables.rows_due}
use Rattle.bank_replays.specs.Replays.{AreDigestsIn}
use Rattle.bank_replays.proofs.{FilledBank.replay_same, Tables.due_tables}
use Rattle.bank_replays.proofs.SameRows.{no_difference, tables_same}
use Rattle.bank_replays.proofs.{Read.clean_before, Read.none_read, Read.read_any, Read.read_fails, Read.read_then, Tables.same_log}
use Rattle.bank_replays.proofs.Whys.{why_err, why_memory, why_none, why_then}
use Rattle.bank_replays.proofs.replays.replay_over.Goals as goal

pub returns-in_err-empty : goal.returns-in_err-empty
returns-in_err-empty g c =
    let same : c.from_residual.result ≡ Err c.in_err-empty.field-0.0 = search rules in
    record {
      bank = none_read _ _;
      why = rw same (why_memory c.in_err-empty.field-0.0 c.in_err-empty.ensures.memory);
      agrees = λ clean f has. rw same tt;
      digest = λ clean. rw same tt;
      differs = λ clean. rw same tt;
      same = λ clean. rw same tt;
    }

pub returns-in_err-due : goal.returns-in_err-due
returns-in_err-due g c =
    let same : c.from_residual-in_err-due.result ≡ Err c.in_err-due.field-0.0 = search rules in
    record {
      bank = rw same (read_fails c.in_err-due.field-0.0 c.in_err-due.ensures.bank);
      why = rw same (why_err c.in_err-due.field-0.0 c.in_err-due.field-0.0 refl c.in_err-due.ensures.why);
      agrees = λ clean f has. rw same tt;
      digest = λ clean. rw same tt;
      differs = λ clean. rw same tt;
      same = λ clean. rw same tt;
    }

pub returns-in_err-difference : goal.returns-in_err-difference
returns-in_err-difference g c =
    let fault = c.in_err-difference.field-0.0 in
    let same : c.from_residual-in_err-difference.result ≡ Err fault = search rules in
    record {
      bank = rw same (read_fails fault (read_then c.in_ok-due.ensures.bank c.in_err-difference.ensures.bank));
      why = rw same (why_err fault fault refl
          (why_then c.in_ok-due.ensures.bank c.in_err-difference.ensures.bank c.in_err-difference.ensures.why));
      agrees = λ clean f has. rw same tt;
      digest = λ clean. rw same tt;
      differs = λ clean. rw same tt;
      same = λ clean. rw same tt;
    }

pub returns-in-Some : goal.returns-in-Some
returns-in-Some g c =
    let filled = c.in_ok-due.ensures in
    let compared = c.in_ok-difference.ensures in
    let sure = c.requires.clean.clean in
    record {
      bank = read_any (read_then filled.bank compared.bank) _;
      why = why_none _;
      agrees = λ clean f has. tt;
      digest = λ clean. tt;
      differs = λ clean f has.
          let earlier = clean_before compared.bank clean in
          let it = filled.replays earlier c.requires.clean (c.in_ok-empty.ensures.shows c.requires.clean) f has in
          record {
            log = it.0;
            replays = it.2;
            tables = it.1.tables;
            are = it.1.shows;
            first = compared.differs clean (sure (connection_of c.compare_all.new.due)) c.in-Some.difference
                (rw c.in-Some.is refl) f (rows_due it.1.tables)
                (subst (λ (db : Database). HasTables db f) (sym (filled.bank.still earlier).0) has)
                (due_tables (file_of c.in_ok-due.due).now it.1.tables it.1.are);
          };
      same = λ clean log shown.
          let earlier = clean_before compared.bank clean in
          let db = (file_of c.args.bank.now).now in
          let due = (file_of c.in_ok-due.due).now in
          let f = rows_due shown.tables in
          let has = due_tables db shown.tables shown.are in
          let it = filled.replays earlier c.requires.clean (c.in_ok-empty.ensures.shows c.requires.clean) f has in
          let same = replay_same db shown.tables log shown.commands shown.are shown.shows it.0 it.2 in
          let d = c.in-Some.difference in
          no_difference entry_key (rows_of d f) (rows_of d (rows_due it.1.tables)) _ _
          (compared.differs clean (sure (connection_of c.compare_all.new.due)) d (rw c.in-Some.is refl) f
          (rows_due it.1.tables) (subst (λ (db : Database). HasTables db f) (sym (filled.bank.still earlier).0) has)
          (due_tables due it.1.tables it.1.are)).rows
          (ap (λ (t : Tables). rows_of d (rows_due t))
          (tables_same log it.0 same db due shown.tables it.1.tables shown.are it.1.are shown.shows it.1.shows));
    }

pub returns-in_err-digest_each : goal.returns-in_err-digest_each
returns-in_err-digest_each g c =
    let fault = c.in_err-digest_each.field-0.0 in
    let is = err_from_is_err_and c.from_residual-in_err-digest_each.result
    c.from_residual-in_err-digest_each.ensures.1 in
    let same : c.from_residual-in_err-digest_each.result ≡ Err fault = is.1 ∙ ap Err is.2 in
    record {
      bank = rw same (read_fails fault
          (read_then (read_then c.in_ok-due.ensures.bank c.in_ok-difference.ensures.bank)
          c.in_err-digest_each.ensures.bank));
      why = rw same (why_err fault fault refl
          (why_then (read_then c.in_ok-due.ensures.bank c.in_ok-difference.ensures.bank) c.in_err-digest_each.ensures.bank
          c.in_err-digest_each.ensures.why));
      agrees = λ clean f has. rw same tt;
      digest = λ clean. rw same tt;
      differs = λ clean. rw same tt;
      same = λ clean. rw same tt;
    }

pub returns : goal.returns
returns g c =
    let filled = c.in_ok-due.ensures in
    let compared = c.in_ok-difference.ensures in
    let digested = c.in_ok-digest_each.ensures in
    let both = read_then filled.bank compared.bank in
    let sure = c.requires.clean.clean in
    record {
      bank = read_any (read_then both digested.bank) _;
      why = why_none _;
      agrees = λ clean f has.
          let before = clean_before digested.bank clean in
          let earlier = clean_before compared.bank before in
          let due = file_of c.in_ok-due.due in
          let same = subst (λ (d : Database). SameTables d due.now) (filled.bank.still earlier).0
          (compared.same before (sure (connection_of c.compare_all.new.due)) (rw c.in_default.is refl)) in
          let it = filled.replays earlier c.requires.clean (c.in_ok-empty.ensures.shows c.requires.clean) f has in
          (it.0, same_log (file_of c.args.bank.now) due _ _ f has same it.0 it.1);
      digest = λ clean.
          subst (λ (d : Database). AreDigestsIn d c.in_ok-digest_each.field-0) (both.still (clean_before digested.bank clean)).0 (digested.rows clean);
      differs = λ clean. tt;
      same = λ clean. tt;
    }
