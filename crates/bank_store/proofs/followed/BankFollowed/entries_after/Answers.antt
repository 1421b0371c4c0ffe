-- What the entries after a number come to.
use Rattle.std.proofs.Common.{◌≡◌, ◌<◌, ◌∙◌, [], ℕ, None, Err, false, refl, sym, arith}
use Rattle.std.proofs.lemmas.Result.{err_from_is_err_and}
use Rattle.std.specs.Prelude.{nat_le}
use Rattle.std.proofs.lemmas.Bool.Decides.{nat_tests}
use Rattle.walked_rows.specs.KeptRows.{holds_kept}
use Rattle.bank_store.specs.believed.Seen.{database_of}
use Rattle.bank_store.proofs.LogRows.{has_kept, kept_of}
use Rattle.posting_rules.proofs.{Calls.stays, ChangesByKey.sound_tables}
use Rattle.bank_store.proofs.AsFound.{idle_reads, reads_done, reads_down}
use Rattle.bank_store.proofs.OtherTables.{spares_done, spares_down, spares_untouched}
use Rattle.bank_store.proofs.Refusing.{answered_call, committed_call, consult_refused, of_memory, is_up, refused_call}
use Rattle.bank_store.proofs.Refusing.{spared_call, untried_call}
use Rattle.posting_rules.specs.declared.fault.Fault.TheVariants.{Down}
use Rattle.bank_transactions.proofs.Remembered.{blank}
use Rattle.bank_store.proofs.FileTables.{tables_kept}
use Rattle.bank_store.proofs.EntriesGiven.{beyond_given, enough_given, fewer_given}
use Rattle.bank_store.proofs.followed.BankFollowed.entries_after.Goals as goal

fewer : (a n : ℕ) → nat_le a n ≡ false → n < a
fewer a n is = grind (arith, nat_tests, is)

pub invariant_of-self : goal.invariant_of-self
invariant_of-self g c = record {
  idle = c.read_log.ensures.says.mode;
  remembers = blank g.S.Store c.read_log.new.conn c.forget.new.self c.forget.ensures.blank;
  tables = tables_kept g.S.Store c.args.self.now.conn c.read_log.new.conn c.read_log.result c.read_log.ensures.says.spares
      c.read_log.ensures.undone c.args.self.now.tables;
}

pub read_log-requires : goal.read_log-requires
read_log-requires g c = record {
  idle = c.args.self.now.idle;
  after = c.if-after-gt-MAX_DECIDED.false;
  room = omega (arith, c.in_ok-entries.ensures.len, c.in_ok-entries.ensures.capacity);
}

pub returns-then-is_down : goal.returns-then-is_down
returns-then-is_down g c =
    let down = sym c.is_down.ensures ∙ c.if-is_down.true in
    record {
      answer = tt;
      call = untried_call g.S.Store c.args.self.now [] down;
      spares = spares_untouched g.S.Store c.args.self.now;
      stored = tt;
      reads = idle_reads g.S.Store c.args.self.now (Err Down);
      broken = tt;
    }

pub returns-in_err-entries : goal.returns-in_err-entries
returns-in_err-entries g c =
    let p = err_from_is_err_and c.from_residual.result c.from_residual.ensures.1 in
    rw p.1 (record {
      answer = tt;
      call = spared_call g.S.Store c.args.self.now [] (Err p.0) p.0 refl p.2 (is_up c.args.self.now.fault c.is_down.ensures c.if-is_down.false);
      spares = spares_untouched g.S.Store c.args.self.now;
      stored = tt;
      reads = idle_reads g.S.Store c.args.self.now (Err p.0);
      broken = of_memory _ p.0 p.2;
    })

-- more are asked for than a bank decides
pub returns-then-after-gt-MAX_DECIDED : goal.returns-then-after-gt-MAX_DECIDED
returns-then-after-gt-MAX_DECIDED g c = record {
  answer = λ clean log s. beyond_given s.tables log s.commands s.shows c.args.after c.if-after-gt-MAX_DECIDED.true;
  call = answered_call g.S.Store c.args.self.now c.args.self.now [] None (is_up c.args.self.now.fault c.is_down.ensures c.if-is_down.false) (is_up c.args.self.now.fault c.is_down.ensures c.if-is_down.false)
      (record { shows = λ clean log s. s; stands = λ clean log at. at }) (λ clean. clean);
  spares = spares_untouched g.S.Store c.args.self.now;
  stored = λ clean low. absurd (omega (arith, low, c.if-after-gt-MAX_DECIDED.true));
  reads = idle_reads g.S.Store c.args.self.now _;
  broken = tt;
}

pub returns : goal.returns
returns g c =
    let no = consult_refused g.S.Store c.args.self.now c.go_down.new.self c.read_log.new.conn sound_tables [] stays
    tt c.in-Err.fault
    c.go_down.result c.go_down.ensures.down c.go_down.ensures.survives c.in-Err.ensures.undone
    c.go_down.ensures.undone c.in-Err.ensures.says in
    record {
      answer = tt;
      call = refused_call g.S.Store c.args.self.now c.go_down.new.self [] c.go_down.result no (is_up c.args.self.now.fault c.is_down.ensures c.if-is_down.false);
      spares = spares_down g.S.Store c.args.self.now c.go_down.new.self c.read_log.new.conn c.in-Err.fault
          c.go_down.result (is_up c.args.self.now.fault c.is_down.ensures c.if-is_down.false) c.in-Err.ensures.says.spares c.in-Err.ensures.undone
          c.go_down.ensures.down c.go_down.ensures.undone c.go_down.ensures.survives;
      stored = tt;
      reads = reads_down g.S.Store c.args.self.now c.go_down.new.self c.read_log.new.conn c.go_down.result
          c.in-Err.ensures.undone c.in-Err.ensures.left c.go_down.ensures.undone c.go_down.ensures.survives;
      broken = no.broken;
    }

-- ---- it was answered

pub returns-then-enough : goal.returns-then-enough
returns-then-enough g c =
    let it = c.in-Ok.ensures in
    let up = is_up c.args.self.now.fault c.is_down.ensures c.if-is_down.false in
    let old = database_of g.S.Store c.args.self.now in
    record {
      answer = λ clean log s.
          let enough = (it.says.answers clean s.tables s.are (sound_tables s.tables log s.commands s.shows)).0 in
          let all = kept_of old s.tables log s.are s.shows in
          let given = it.answers clean all (holds_kept (has_kept old s.tables log s.are s.shows)) in
          enough_given old s.tables log s.are s.shows c.args.after c.read_log.new.entries.items
          (sym c.if-enough.true ∙ enough)
          (rw c.in_ok-entries.ensures.items at given.0);
      call =
          committed_call g.S.Store c.args.self.now _ sound_tables [] stays tt _ up up
          it.says;
      spares = spares_done g.S.Store c.args.self.now _ _ up it.says.spares;
      stored = λ clean all has. rw c.in_ok-entries.ensures.items at (it.answers clean all has);
      reads = reads_done g.S.Store c.args.self.now _ _ it.still it.left;
      broken = tt;
    }

pub returns-in-Ok : goal.returns-in-Ok
returns-in-Ok g c =
    let it = c.in-Ok.ensures in
    let up = is_up c.args.self.now.fault c.is_down.ensures c.if-is_down.false in
    record {
      answer = λ clean log s.
          fewer_given s.tables log s.shows c.args.after (sym (c.if-enough.false)
          ∙ (it.says.answers clean s.tables s.are (sound_tables s.tables log s.commands s.shows)).0);
      call =
          committed_call g.S.Store c.args.self.now _ sound_tables [] stays tt _ up up
          it.says;
      spares = spares_done g.S.Store c.args.self.now _ _ up it.says.spares;
      stored = λ clean low rows has decided holds.
          fewer c.args.after decided (sym (it.stored clean rows has decided holds) ∙ c.if-enough.false);
      reads = reads_done g.S.Store c.args.self.now _ _ it.still it.left;
      broken = tt;
    }
