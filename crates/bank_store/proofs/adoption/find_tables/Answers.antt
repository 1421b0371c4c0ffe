-- What is found of a bank.
use Rattle.std.proofs.Common.{◌≡◌, Some, None, Err, Result, rules, refl, sym, ap, ◌∙◌, subst, inl}
use Rattle.sqlite.specs.Held.{state}
use Rattle.store_rows.specs.Probes.{all_probes, all_tables}
use Rattle.posting_rules.specs.declared.fault.Rule.TheVariants.{Meta}
use Rattle.bank_store.specs.{Connections.IsAsBefore, TablePresence.IsPresent, declared.presence.Presence.Presence}
use Rattle.bank_store.specs.FoundBank.{Misses, SeeksTables}
use Rattle.posting_rules.specs.declared.open_fault.OpenFault.{OpenFault, TheVariants.Damaged}
use Rattle.bank_store.proofs.Causes.{checks_known, looks_then, other_known, still_clean}
use Rattle.bank_store.proofs.FoundBank.{looked, missed, not_made}
use Rattle.bank_store.proofs.adoption.find_tables.Goals as goal

pub returns-in_err-tables_there : goal.returns-in_err-tables_there
returns-in_err-tables_there g c =
    let old = state g.S.Store c.args.conn.now in
    let new = state g.S.Store c.tables_there.new.conn in
    let e = c.in_err-tables_there in
    let seen = c.tables_there.ensures.looks in
    let is : c.from_residual.result ≡ Err e.field-0.0 = search rules in
    record {
      answers =
          λ clean. subst (λ (r : Result (Unit {0}) OpenFault). SeeksTables old new r)
          (sym (is ∙ ap Err e.ensures.fault))
          (tt, e.ensures.answers clean);
      looks = rw is (record { cause = e.ensures.looks.cause; mode = seen.mode; survives = seen.survives });
    }

pub returns-in-Absent : goal.returns-in-Absent
returns-in-Absent g c =
    let old = state g.S.Store c.args.conn.now in
    let new = state g.S.Store c.tables_there.new.conn in
    let seen = c.tables_there.ensures.looks in
    record {
      answers =
          λ clean.
          subst (λ (p : Presence). IsPresent old.now all_probes p × IsAsBefore old new) c.in-Absent.is
          (c.in_ok-tables_there.ensures.answers clean);
      looks = record { cause = tt; mode = seen.mode; survives = seen.survives };
    }

pub returns-in-Partial : goal.returns-in-Partial
returns-in-Partial g c =
    let old = state g.S.Store c.args.conn.now in
    let new = state g.S.Store c.tables_there.new.conn in
    let seen = c.tables_there.ensures.looks in
    record {
      answers =
          λ clean.
          let there =
          subst (λ (p : Presence). IsPresent old.now all_probes p × IsAsBefore old new) c.in-Partial.is
          (c.in_ok-tables_there.ensures.answers clean) in
          ((there.0, c.requires.ours (still_clean seen.survives clean)), there.1);
      looks = record { cause = tt; mode = seen.mode; survives = seen.survives };
    }

pub returns-in_err-check_tables-in-Whole : goal.returns-in_err-check_tables-in-Whole
returns-in_err-check_tables-in-Whole g c =
    let old = state g.S.Store c.args.conn.now in
    let new = state g.S.Store c.tables_there.new.conn in
    let seen = c.tables_there.ensures.looks in
    let e = c.in_err-check_tables-in-Whole in
    let is : c.from_residual-in_err-check_tables-in-Whole.result ≡ Err e.field-0.0 = search rules in
    record {
      answers =
          λ clean.
          let there =
          subst (λ (p : Presence). IsPresent old.now all_probes p × IsAsBefore old new) c.in-Whole.is
          (c.in_ok-tables_there.ensures.answers clean) in
          subst (λ (r : Result (Unit {0}) OpenFault). SeeksTables old new r) (sym is)
          (not_made old new there.0 there.1 (c.requires.ours (still_clean seen.survives clean)) e.field-0.0 e.ensures);
      looks = rw is (record {
        cause = other_known g.S.Store c.args.conn.now c.tables_there.new.conn new.now.schema all_tables
            e.field-0.0 e.ensures;
        mode = seen.mode;
        survives = seen.survives;
      });
    }

pub returns-in_err-settled_meta-in-Whole : goal.returns-in_err-settled_meta-in-Whole
returns-in_err-settled_meta-in-Whole g c =
    let old = state g.S.Store c.args.conn.now in
    let mid = state g.S.Store c.tables_there.new.conn in
    let new = state g.S.Store c.settled_meta.new.conn in
    let e = c.in_err-settled_meta-in-Whole in
    let is : c.from_residual-in_err-settled_meta-in-Whole.result ≡ Err e.field-0.0 = search rules in
    record {
      answers =
          λ clean.
          let there =
          subst (λ (p : Presence). IsPresent old.now all_probes p × IsAsBefore old mid) c.in-Whole.is
          (c.in_ok-tables_there.ensures.answers (still_clean e.ensures.looks.survives clean)) in
          subst (λ (r : Result (Unit {0}) OpenFault). SeeksTables old new r) (sym is)
          (missed old mid new there.1 (Misses old) tt (λ none other. (there.0, none, other)) e.field-0.0
          e.ensures.reads.fault (e.ensures.reads.answers clean) (e.ensures.reads.other clean) (e.ensures.same clean));
      looks =
          rw is (looks_then g.S.Store c.args.conn.now c.tables_there.new.conn c.settled_meta.new.conn
          (Err e.field-0.0) (Err e.field-0.0) (λ knows. knows) c.tables_there.ensures.looks.survives e.ensures.looks);
    }

pub returns-in-None : goal.returns-in-None
returns-in-None g c =
    let old = state g.S.Store c.args.conn.now in
    let mid = state g.S.Store c.tables_there.new.conn in
    let new = state g.S.Store c.settled_meta.new.conn in
    let read = c.in_ok-settled_meta-in-Whole.ensures in
    record {
      answers =
          λ clean.
          let there =
          subst (λ (p : Presence). IsPresent old.now all_probes p × IsAsBefore old mid) c.in-Whole.is
          (c.in_ok-tables_there.ensures.answers (still_clean read.looks.survives clean)) in
          looked old mid new None there.0 c.in_ok-check_tables-in-Whole.ensures there.1 (λ rows has. sym c.in-None.is ∙ read.reads.answers clean rows has)
          (read.same clean) (Err (Damaged Meta)) (inl refl);
      looks =
          looks_then g.S.Store c.args.conn.now c.tables_there.new.conn c.settled_meta.new.conn c.settled_meta.result
          (Err (Damaged Meta)) (λ _. tt) c.tables_there.ensures.looks.survives c.settled_meta.ensures.looks;
    }

pub returns-in-Some : goal.returns-in-Some
returns-in-Some g c =
    let old = state g.S.Store c.args.conn.now in
    let mid = state g.S.Store c.tables_there.new.conn in
    let new = state g.S.Store c.settled_meta.new.conn in
    let read = c.in_ok-settled_meta-in-Whole.ensures in
    let meta = Some c.in-Some.meta in
    record {
      answers =
          λ clean.
          let there =
          subst (λ (p : Presence). IsPresent old.now all_probes p × IsAsBefore old mid) c.in-Whole.is
          (c.in_ok-tables_there.ensures.answers (still_clean read.looks.survives clean)) in
          looked old mid new meta there.0 c.in_ok-check_tables-in-Whole.ensures there.1 (λ rows has. sym c.in-Some.is ∙ read.reads.answers clean rows has)
          (read.same clean) c.check_meta.result c.check_meta.ensures;
      looks =
          looks_then g.S.Store c.args.conn.now c.tables_there.new.conn c.settled_meta.new.conn c.settled_meta.result
          c.check_meta.result
          (λ _. checks_known g.S.Store c.args.conn.now c.settled_meta.new.conn meta c.check_meta.result
          c.check_meta.ensures)
          c.tables_there.ensures.looks.survives c.settled_meta.ensures.looks;
    }
