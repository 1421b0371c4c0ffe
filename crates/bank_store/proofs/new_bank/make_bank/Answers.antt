-- None of the tables was there.
use Rattle.std.proofs.Common.{◌≡◌, Ok, Err, Result, rules, refl, sym, subst, inl, inr, ◌∙◌}
use Rattle.std.specs.Prelude.{OnOk}
use Rattle.sqlite.specs.{State.HasCleanDisk, Held.state}
use Rattle.sqlite.proofs.StateLemmas.{survives_weaker}
use Rattle.store_rows.specs.{Creation.HasNewBank, Probes.all_probes}
use Rattle.bank_store.specs.{Connections.IsAsBefore, NewBank.LeavesAll, TablePresence.IsPresent}
use Rattle.bank_store.proofs.{Causes.still_clean, Causes.unmade_as_known, NewBank.makes_then, Probed.as_before}
use Rattle.bank_store.proofs.Unmade.{if_err, some_there}
use Rattle.bank_store.proofs.new_bank.make_bank.Goals as goal

on_ok : {X E : Type 0} (P : Type 0) → P → (r : Result X E) → OnOk r P
on_ok P holds (Ok x) = holds
on_ok P holds (Err e) = tt

pub returns-in-Absent : goal.returns-in-Absent
returns-in-Absent g c =
    let s = state g.S.Store in
    let old = c.args.conn.now in
    let mid = c.tables_there.new.conn in
    let new = c.make_settled.new.conn in
    let made = c.make_settled.ensures in
    let looked = c.tables_there.ensures.looks.survives in
    let there : HasCleanDisk (s mid) → IsPresent (s old).now all_probes c.in_ok-tables_there.field-0
    × IsAsBefore (s old) (s mid) = c.in_ok-tables_there.ensures.answers in
    let same : HasCleanDisk (s mid) → IsAsBefore (s old) (s mid) = λ clean. (there clean).1 in
    record {
      blank = λ clean.
          on_ok _ (subst (IsPresent (s old).now all_probes) c.in-Absent.is
          (there (still_clean made.makes.survives clean)).0) c.make_settled.result;
      makes = makes_then g.S.Store old mid new same looked c.make_settled.result made.makes;
      same = λ clean.
          if_err (LeavesAll (s mid) (s new)) (LeavesAll (s old) (s new))
          (λ fault left taken.
          as_before (s old) (s mid) (s new) (same (still_clean made.makes.survives clean)) (left taken))
          c.make_settled.result (made.same clean);
    }

pub returns-in_default : goal.returns-in_default
returns-in_default g c =
    let s = state g.S.Store in
    let old = c.args.conn.now in
    let new = c.tables_there.new.conn in
    let looks = c.tables_there.ensures.looks in
    let there = c.in_ok-tables_there in
    record {
      blank = λ clean. tt;
      makes = record {
        made = λ clean. tt;
        undone = λ clean still. (there.ensures.answers clean).1;
        fault = inr refl;
        refused = λ clean taken.
            inl (some_there (s old).now there.field-0 c.in_default.not-Absent (there.ensures.answers clean).0);
        cause = tt;
        survives = survives_weaker (s old) (s new) (λ _. ⊥) (HasNewBank (s old).now) (λ clean left none. absurd none)
            looks.survives;
        mode = looks.mode;
      };
      same = λ clean taken. (there.ensures.answers clean).1;
    }

pub returns-in_err-tables_there : goal.returns-in_err-tables_there
returns-in_err-tables_there g c =
    let s = state g.S.Store in
    let old = c.args.conn.now in
    let new = c.tables_there.new.conn in
    let e = c.in_err-tables_there in
    let looks = c.tables_there.ensures.looks in
    let is : c.from_residual.result ≡ Err e.field-0.0 = search rules in
    rw is (record {
      blank = λ clean. tt;
      makes = record {
        made = λ clean. tt;
        undone = e.ensures.answers;
        fault = inl e.ensures.fault;
        refused = λ clean taken. absurd (let it = sym e.ensures.fault ∙ taken in cc);
        cause = unmade_as_known g.S.Store old new e.field-0.0 e.ensures.looks.cause;
        survives = survives_weaker (s old) (s new) (λ _. ⊥) (HasNewBank (s old).now) (λ clean left none. absurd none)
            looks.survives;
        mode = looks.mode;
      };
      same = λ clean taken. absurd (let it = sym e.ensures.fault ∙ taken in cc);
    })
