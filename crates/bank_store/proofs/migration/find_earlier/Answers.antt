-- What is found of a bank of an earlier version.
use Rattle.std.proofs.Common.{◌≡◌, ◌+◌, ℕ, List, ◌∷◌, map, take, drop, Ok, Err, Result, rules, refl, sym, ◌∙◌, ap, subst}
use Rattle.sqlite.specs.{Held.state, Schema.Schema, State.State}
use Rattle.posting_rules.specs.declared.open_fault.OpenFault.{OpenFault}
use Rattle.posting_rules.specs.declared.open_fault.OpenFault.TheVariants.{Damaged}
use Rattle.posting_rules.specs.declared.fault.Rule.TheVariants as rule
use Rattle.store_rows.specs.{Probes.all_tables, Probes.probe_of}
use Rattle.posting_rules.specs.declared.open_fault.BankTable.{BankTable}
use Rattle.posting_rules.specs.declared.open_fault.BankTable.TheVariants as table
use Rattle.bank_store.specs.{Connections.IsAsBefore, TablePresence.IsPresent, declared.presence.Presence.Presence}
use Rattle.bank_store.specs.TablePresence.{ChecksTables}
use Rattle.bank_store.specs.declared.presence.Presence.TheVariants.{Whole}
use Rattle.bank_store.specs.Migration.{MissesEarlier, SeeksEarlier, earlier_probes}
use Rattle.bank_store.proofs.Causes.{count_known, looks_then, other_known, still_clean}
use Rattle.bank_store.proofs.FoundBank.{missed}
use Rattle.bank_store.proofs.FoundEarlier.{counted, meta_first, missing, not_made, one_and, some_lacking}
use Rattle.bank_store.proofs.migration.find_earlier.Goals as goal

-- what was checked of them
earlier_checks : (from : ℕ) (others : List BankTable) (schema : Schema) (r : Result (Unit {0}) OpenFault)
    → others ≡ take (4 + from) (drop 1 all_tables) → ChecksTables schema (table.Meta ∷ others) r
    → ChecksTables schema (take (5 + from) all_tables) r
earlier_checks from others schema r is =
    subst (λ tables. ChecksTables schema tables r)
    (ap (λ others. table.Meta ∷ others) is ∙ ap (λ n. take n all_tables) (one_and from))

-- how many there are of them
of_earlier : (from : ℕ) (others : List BankTable) (old mid : State) (p q : Presence) → p ≡ q
    → others ≡ take (4 + from) (drop 1 all_tables)
    → IsPresent old.now (map probe_of (table.Meta ∷ others)) p × IsAsBefore old mid
    → IsPresent old.now (earlier_probes from) q × IsAsBefore old mid
of_earlier from others old mid p q same is there =
    subst (λ (p : Presence). IsPresent old.now (earlier_probes from) p × IsAsBefore old mid) same
    (subst (λ probes. IsPresent old.now probes p × IsAsBefore old mid)
    (ap (λ others. map probe_of (table.Meta ∷ others)) is ∙ meta_first from) there)

pub count_tables-requires : goal.count_tables-requires
count_tables-requires g c = c.requires.mode

pub after_meta-requires : goal.after_meta-requires
after_meta-requires g c = c.requires.earlier

pub settled_meta-requires : goal.settled_meta-requires
settled_meta-requires g c = c.count_tables.ensures.looks.mode

pub returns-in_err-count_tables : goal.returns-in_err-count_tables
returns-in_err-count_tables g c =
    let old = state g.S.Store c.args.conn.now in
    let new = state g.S.Store c.count_tables.new.conn in
    let e = c.in_err-count_tables in
    let seen = c.count_tables.ensures.looks in
    let is : c.from_residual.result ≡ Err e.field-0.0 = search rules in
    rw is (record {
      answers = λ clean.
          subst (λ (f : OpenFault). SeeksEarlier c.args.from old new (Err f)) (sym e.ensures.fault)
          (tt, e.ensures.answers clean);
      looks = record { cause = e.ensures.looks.cause; mode = seen.mode; survives = seen.survives };
    })

pub returns-in_default : goal.returns-in_default
returns-in_default g c =
    let there = c.in_ok-count_tables.ensures in
    let p = c.in_ok-count_tables.field-0 in
    let old = state g.S.Store c.args.conn.now in
    let new = state g.S.Store c.count_tables.new.conn in
    record {
      answers = λ clean.
          let answers = of_earlier c.args.from c.after_meta.result.now old new p p refl c.after_meta.ensures
          (there.answers clean) in
          (some_lacking c.args.from old.now p c.in_default.not-Whole answers.0, answers.1);
      looks = record { cause = tt; mode = there.looks.mode; survives = there.looks.survives };
    }

pub returns-in_err-check_tables : goal.returns-in_err-check_tables
returns-in_err-check_tables g c =
    let old = state g.S.Store c.args.conn.now in
    let new = state g.S.Store c.count_tables.new.conn in
    let seen = c.count_tables.ensures.looks in
    let e = c.in_err-check_tables in
    let is : c.from_residual-in_err-check_tables.result ≡ Err e.field-0.0 = search rules in
    let checks = earlier_checks c.args.from c.after_meta-2.result.now new.now.schema (Err e.field-0.0)
    c.after_meta-2.ensures e.ensures in
    rw is (record {
      answers = λ clean.
          let there = of_earlier c.args.from c.after_meta.result.now old new _ Whole c.in-Whole.is c.after_meta.ensures
          (c.in_ok-count_tables.ensures.answers clean) in
          not_made c.args.from old new there.0 there.1 e.field-0.0 checks;
      looks = record {
        cause = other_known g.S.Store c.args.conn.now c.count_tables.new.conn new.now.schema
            (table.Meta ∷ c.after_meta-2.result.now) e.field-0.0 e.ensures;
        mode = seen.mode;
        survives = seen.survives;
      };
    })

pub returns-in_err-settled_meta : goal.returns-in_err-settled_meta
returns-in_err-settled_meta g c =
    let old = state g.S.Store c.args.conn.now in
    let mid = state g.S.Store c.count_tables.new.conn in
    let new = state g.S.Store c.settled_meta.new.conn in
    let e = c.in_err-settled_meta in
    let is : c.from_residual-in_err-settled_meta.result ≡ Err e.field-0.0 = search rules in
    rw is (record {
      answers = λ clean.
          let there = of_earlier c.args.from c.after_meta.result.now old mid _ Whole c.in-Whole.is c.after_meta.ensures
          (c.in_ok-count_tables.ensures.answers (still_clean e.ensures.looks.survives clean)) in
          missed old mid new there.1 (MissesEarlier c.args.from old.now) tt (λ none other. (there.0, none, other))
          e.field-0.0 e.ensures.reads.fault (e.ensures.reads.answers clean) (e.ensures.reads.other clean)
          (e.ensures.same clean);
      looks =
          looks_then g.S.Store c.args.conn.now c.count_tables.new.conn c.settled_meta.new.conn (Err e.field-0.0)
          (Err e.field-0.0) (λ knows. knows) c.count_tables.ensures.looks.survives e.ensures.looks;
    })

pub returns-in-None : goal.returns-in-None
returns-in-None g c =
    let old = state g.S.Store c.args.conn.now in
    let mid = state g.S.Store c.count_tables.new.conn in
    let new = state g.S.Store c.settled_meta.new.conn in
    let checked = earlier_checks c.args.from c.after_meta-2.result.now mid.now.schema (Ok c.in_ok-check_tables.field-0)
    c.after_meta-2.ensures c.in_ok-check_tables.ensures in
    let read = c.in_ok-settled_meta.ensures in
    record {
      answers = λ clean.
          let there = of_earlier c.args.from c.after_meta.result.now old mid _ Whole c.in-Whole.is c.after_meta.ensures
          (c.in_ok-count_tables.ensures.answers (still_clean read.looks.survives clean)) in
          missing c.args.from old mid new there.0 there.1 checked (read.same clean)
          (λ rows has. sym c.in-None.is ∙ read.reads.answers clean rows has);
      looks =
          looks_then g.S.Store c.args.conn.now c.count_tables.new.conn c.settled_meta.new.conn c.settled_meta.result
          (Err (Damaged rule.Meta)) (λ _. tt) c.count_tables.ensures.looks.survives c.settled_meta.ensures.looks;
    }

pub returns-in-Some : goal.returns-in-Some
returns-in-Some g c =
    let old = state g.S.Store c.args.conn.now in
    let mid = state g.S.Store c.count_tables.new.conn in
    let new = state g.S.Store c.settled_meta.new.conn in
    let checked = earlier_checks c.args.from c.after_meta-2.result.now mid.now.schema (Ok c.in_ok-check_tables.field-0)
    c.after_meta-2.ensures c.in_ok-check_tables.ensures in
    let read = c.in_ok-settled_meta.ensures in
    let meta = c.in-Some.meta in
    record {
      answers = λ clean.
          let there = of_earlier c.args.from c.after_meta.result.now old mid _ Whole c.in-Whole.is c.after_meta.ensures
          (c.in_ok-count_tables.ensures.answers (still_clean read.looks.survives clean)) in
          counted c.args.from old mid new there.0 there.1 checked (read.same clean) meta
          (λ rows has. sym c.in-Some.is ∙ read.reads.answers clean rows has) c.check_count.result c.check_count.ensures;
      looks =
          looks_then g.S.Store c.args.conn.now c.count_tables.new.conn c.settled_meta.new.conn c.settled_meta.result
          c.check_count.result
          (λ _. count_known g.S.Store c.args.conn.now c.settled_meta.new.conn meta.decided c.check_count.result
          c.check_count.ensures)
          c.count_tables.ensures.looks.survives c.settled_meta.ensures.looks;
    }
