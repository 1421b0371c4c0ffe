-- The version comes first.
use Rattle.std.proofs.Common.{◌≡◌, map, [], ◌∷◌, Some, Result, Err, rules, sym, ap, subst, ◌∙◌}
use Rattle.sqlite.specs.Held.{state}
use mir.Val.{to_z, of_z}
use mir.Syntax.{w64}
use Rattle.bank_store.specs.{Connections.IsAsBefore, FoundBank.LooksAtVersion, TablePresence.IsPresent}
use Rattle.bank_store.specs.{StoreFaults.KnowsCause, declared.presence.Presence.Presence}
use Rattle.store_rows.specs.Probes.{probe_of}
use Rattle.posting_rules.specs.declared.open_fault.BankTable.TheVariants.{Meta}
use Rattle.posting_rules.specs.declared.open_fault.OpenFault.{OpenFault, TheVariants.Store}
use Rattle.bank_store.proofs.{Causes.looks_then, Causes.still_clean, FoundBank.other_read}
use Rattle.bank_store.proofs.FoundBank.{no_other_read, no_version, not_of_ours}
use Rattle.bank_store.proofs.Probed.{as_before}
use Rattle.bank_store.proofs.adoption.refuse_other_version.Goals as goal

pub count_tables-requires : goal.count_tables-requires
count_tables-requires g c = c.requires

pub settled_meta-requires : goal.settled_meta-requires
settled_meta-requires g c = c.count_tables.ensures.looks.mode

pub returns-in_err-count_tables : goal.returns-in_err-count_tables
returns-in_err-count_tables g c =
    let old = state g.S.Store c.args.conn.now in
    let new = state g.S.Store c.count_tables.new.conn in
    let e = c.in_err-count_tables in
    let seen = c.count_tables.ensures.looks in
    let is : c.from_residual.result ≡ Err e.field-0.0 = search rules in
    record {
      answers =
          λ clean. subst (λ (r : Result (Unit {0}) OpenFault). LooksAtVersion old new r)
          (sym (is ∙ ap Err e.ensures.fault))
          (tt, e.ensures.answers clean);
      looks = rw is (record { cause = e.ensures.looks.cause; mode = seen.mode; survives = seen.survives });
    }

pub returns-in_default : goal.returns-in_default
returns-in_default g c =
    let seen = c.count_tables.ensures.looks in
    record {
      answers = λ clean.
          let there = c.in_ok-count_tables.ensures.answers clean in
          (no_version (state g.S.Store c.args.conn.now) _ there.0 c.in_default.not-Whole, there.1);
      looks = record { cause = tt; mode = seen.mode; survives = seen.survives };
    }

pub returns-in-Ok-Some : goal.returns-in-Ok-Some
returns-in-Ok-Some g c =
    let old = state g.S.Store c.args.conn.now in
    let mid = state g.S.Store c.count_tables.new.conn in
    let new = state g.S.Store c.settled_meta.new.conn in
    let row = c.in-Ok-Some in
    let m = row.meta in
    record {
      answers = λ clean.
          let there =
          subst (λ (p : Presence). IsPresent old.now (map probe_of (Meta ∷ [])) p × IsAsBefore old mid) c.in-Whole.is
          (c.in_ok-count_tables.ensures.answers (still_clean c.settled_meta.ensures.looks.survives clean)) in
          let same : to_z w64 (of_z w64 m.version) ≡ m.version = search rules in
          other_read old mid new m (to_z w64 (of_z w64 m.version)) there.0.0 there.1
          (λ rows has. sym row.field-0-is ∙ row.ensures.reads.answers clean rows has) (row.ensures.same clean) same
          (λ one. c.if-meta-ne-VERSION.true (ap (of_z w64) (sym same ∙ one)));
      looks =
          looks_then g.S.Store c.args.conn.now c.count_tables.new.conn c.settled_meta.new.conn c.settled_meta.result _
          (λ _. tt) c.count_tables.ensures.looks.survives c.settled_meta.ensures.looks;
    }

pub returns-in-Err-Store : goal.returns-in-Err-Store
returns-in-Err-Store g c =
    let old = c.args.conn.now in
    let mid = c.count_tables.new.conn in
    let new = c.settled_meta.new.conn in
    let s = state g.S.Store in
    let failed = c.in-Err-Store in
    record {
      answers = λ clean.
          let there = c.in_ok-count_tables.ensures.answers (still_clean c.settled_meta.ensures.looks.survives clean) in (
            tt,
            λ still. as_before (s old) (s mid) (s new) there.1
                ((rw failed.field-0-is at (failed.ensures.same clean)) still),
          );
      looks =
          looks_then g.S.Store old mid new (Err failed.field-0) (Err Store)
          (subst (λ (f : OpenFault). KnowsCause g.S.Store old new f) failed.field-0-is)
          c.count_tables.ensures.looks.survives failed.ensures.looks;
    }

-- the row is of our version
pub returns-in_default-settled_meta : goal.returns-in_default-settled_meta
returns-in_default-settled_meta g c =
    let s = state g.S.Store in
    let old = s c.args.conn.now in
    let mid = s c.count_tables.new.conn in
    let row = c.in-Ok-Some in
    let m = row.meta in
    let looks = c.settled_meta.ensures.looks in
    let same : to_z w64 (of_z w64 m.version) ≡ m.version = search rules in
    record {
      answers = λ clean.
          let there = c.in_ok-count_tables.ensures.answers (still_clean looks.survives clean) in (
            no_other_read old mid there.1 (Some m)
                (λ n. not_of_ours m n (sym same ∙ ap (to_z w64) c.if-meta-ne-VERSION.false))
                (λ rows has. sym row.field-0-is ∙ row.ensures.reads.answers clean rows has),
            as_before old mid (s c.settled_meta.new.conn) there.1 (row.ensures.same clean),
          );
      looks =
          looks_then g.S.Store c.args.conn.now c.count_tables.new.conn c.settled_meta.new.conn c.settled_meta.result _
          (λ _. tt) c.count_tables.ensures.looks.survives looks;
    }
