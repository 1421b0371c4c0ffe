-- Whether the row of the bank is the only row of `meta`, and why that isn't known.
use Rattle.std.proofs.Common.{◌≡◌, rules, refl, sym, ap, subst, ◌∙◌, inl}
use mir.Val.{to_z, of_z}
use mir.Syntax.{w64}
use Rattle.std.proofs.lemmas.Int.{to_z-of_z}
use Rattle.std.specs.Prelude.{Option}
use Rattle.sqlite.specs.Held.{state}
use Rattle.store_rows.specs.declared.metas.StoredMeta.{StoredMeta}
use Rattle.walked_rows.specs.OnlyMeta.{TellsOnly}
use Rattle.bank_transactions.proofs.Blamed.{failed_here}
use Rattle.bank_store.proofs.{Causes.count_known, StepsKeep.read_undone}
use Rattle.bank_store.proofs.OnlyRow.{none_only, only_counted, other_only}
use Rattle.bank_store.proofs.adoption.check_only.Goals as goal

pub note_settled-requires : goal.note_settled-requires
note_settled-requires g c = c.requires

pub returns-in_default : goal.returns-in_default
returns-in_default g c =
    let old = state g.S.Store c.args.conn.now in
    let new = state g.S.Store c.only_meta.new.conn in
    let reads = c.only_meta.ensures.reads in
    let e = c.in_default.field-0 in
    record {
      answers = λ clean. inl (
        refl,
        read_undone old new c.only_meta.result (reads.same clean) c.note_settled.ensures c.requires (reads.err clean),
      );
      looks = record {
        cause = λ clean.
            (e, failed_here g.S.Store c.args.conn.now c.only_meta.new.conn e (c.in_default.ensures.failed clean));
        mode = reads.mode c.requires;
        survives = reads.survives;
      };
    }

pub returns-in_default-only : goal.returns-in_default-only
returns-in_default-only g c =
    let old = state g.S.Store c.args.conn.now in
    let new = state g.S.Store c.only_meta.new.conn in
    let read = c.in-Ok.ensures in
    record {
      answers = λ clean.
          none_only c.args.version old new (read.reads.same clean).0
          (λ checks rows has.
          subst (λ (o : Option StoredMeta). TellsOnly rows o) c.in_default-only.is (read.answers clean checks rows has));
      looks = record { cause = tt; mode = read.reads.mode c.requires; survives = read.reads.survives };
    }

pub returns-then-meta-version : goal.returns-then-meta-version
returns-then-meta-version g c =
    let old = state g.S.Store c.args.conn.now in
    let new = state g.S.Store c.only_meta.new.conn in
    let read = c.in-Ok.ensures in
    record {
      answers = λ clean.
          other_only c.args.version old new (read.reads.same clean).0 c.in-Some.meta
          (λ checks rows has.
          subst (λ (o : Option StoredMeta). TellsOnly rows o) c.in-Some.is (read.answers clean checks rows has))
          (λ is. c.if-meta-version.true (ap (of_z w64) is));
      looks = record { cause = tt; mode = read.reads.mode c.requires; survives = read.reads.survives };
    }

pub returns : goal.returns
returns g c =
    let old = state g.S.Store c.args.conn.now in
    let new = state g.S.Store c.only_meta.new.conn in
    let m = c.in-Some.meta in
    let read = c.in-Ok.ensures in
    let version : to_z w64 (of_z w64 m.version) ≡ m.version = search rules in
    let wanted : to_z w64 (of_z w64 c.args.version) ≡ c.args.version =
    to_z-of_z w64 c.args.version c.ranges.version in
    record {
      answers = λ clean.
          only_counted c.args.version old new (read.reads.same clean).0 m
          (λ checks rows has.
          subst (λ (o : Option StoredMeta). TellsOnly rows o) c.in-Some.is (read.answers clean checks rows has))
          (sym version ∙ (ap (to_z w64) c.if-meta-version.false ∙ wanted)) c.check_count.result c.check_count.ensures;
      looks = record {
        cause = count_known g.S.Store c.args.conn.now c.only_meta.new.conn m.decided c.check_count.result
            c.check_count.ensures;
        mode = read.reads.mode c.requires;
        survives = read.reads.survives;
      };
    }
