-- Where the tables can't be made, the store still answers and everything is as it was, or it is told to have
-- failed.
use Rattle.std.proofs.Common.{refl, sym, ◌∙◌, inl}
use Rattle.sqlite.specs.Held.{state}
use Rattle.sqlite.proofs.StateLemmas.{survives_then}
use Rattle.store_rows.specs.{Creation.HasNewBank, Probes.probe_of}
use Rattle.posting_rules.specs.declared.open_fault.BankTable.TheVariants.{Meta}
use Rattle.bank_transactions.proofs.Blamed.{comes, same_moment}
use Rattle.posting_rules.specs.declared.open_fault.OpenFault.TheVariants.{Store}
use Rattle.bank_store.proofs.Causes.{known_within, probe_failed, still_clean, unmade_as_known, unmade_within}
use Rattle.bank_store.proofs.{Probed.as_before, Probed.probed, Settled.back}
use Rattle.bank_store.proofs.new_bank.make_settled.Goals as goal

pub returns-in_default-probe_table-clause-makes : goal.returns-in_default-probe_table-clause-makes
returns-in_default-probe_table-clause-makes g c =
    let old = c.args.conn.now in
    let mid = c.make_tables.new.conn in
    let new = c.probe_table.new.conn in
    let s = state g.S.Store in
    let tried = c.in-Err.ensures in
    let asked = c.probe_table.ensures.survives in
    let mode = c.probe_table.ensures.mode tried.mode in
    record {
      made = λ clean. tt;
      undone =
          λ clean.
          back (s old) (s mid) (s new) c.in_default-probe_table.field-0 c.note_settled.ensures
          (tried.undone (still_clean asked clean)) (mode ∙ sym c.requires)
          (c.in_default-probe_table.ensures.answers clean);
      fault = inl refl;
      refused = λ clean taken. absurd (let it = taken in cc);
      cause =
          unmade_as_known g.S.Store old new Store
          (known_within g.S.Store old mid new new (comes tried.survives) (λ clean. clean) (same_moment (s new)) Store
          (probe_failed g.S.Store mid new (probe_of Meta) c.in_default-probe_table.field-0
          c.in_default-probe_table.ensures));
      survives =
          survives_then (s old) (s mid) (s new) (HasNewBank (s old).now) (λ _. ⊥) (HasNewBank (s old).now)
          (λ clean trees made. made) (λ clean trees none. absurd none) tried.survives asked;
      mode = mode;
    }

pub returns-clause-makes : goal.returns-clause-makes
returns-clause-makes g c =
    let old = c.args.conn.now in
    let mid = c.make_tables.new.conn in
    let new = c.probe_table.new.conn in
    let s = state g.S.Store in
    let tried = c.in-Err.ensures in
    let asked = c.probe_table.ensures.survives in
    record {
      made = λ clean. tt;
      undone =
          λ clean is_open.
          let still = (probed (s mid) (s new) (probe_of Meta) c.in-Ok.field-0 (c.in-Ok.ensures.answers clean)
          (c.in-Ok.ensures.text clean)).1 in
          as_before (s old) (s mid) (s new) (tried.undone (still_clean asked clean) still.was_open) still;
      fault = tried.fault;
      refused = λ clean. tried.refused (still_clean asked clean);
      cause =
          unmade_within g.S.Store old old mid new (same_moment (s old)) (still_clean asked) (comes asked)
          c.in-Err.fault tried.cause;
      survives =
          survives_then (s old) (s mid) (s new) (HasNewBank (s old).now) (λ _. ⊥) (HasNewBank (s old).now)
          (λ clean trees made. made) (λ clean trees none. absurd none) tried.survives asked;
      mode = c.probe_table.ensures.mode tried.mode;
    }
