-- One kind of row after another, and then the rest.
use Rattle.std.proofs.Common.{rules, ◌≡◌, ℕ, Option, List, Result, Ok, Err, sym, subst}
use Rattle.std.specs.Prelude.{OnOk}
use Rattle.sqlite.specs.Effect.{Database}
use Rattle.sqlite_trees.specs.declared.store.Store.{Ghosts}
use Rattle.posting_rules.specs.believed.Commands.{Command, Terms}
use Rattle.store_rows.specs.believed.BankTables.{floor}
use Rattle.walked_rows.specs.{KeptRows.HasKept, KeptRows.kept_all, Rows.HasStoredRows}
use Rattle.bank_store.specs.{believed.Seen.database_of, declared.bank.Bank.Bank}
use Rattle.bank_replays.specs.Refilling.{Holds, IsPlan, OpensRest}
use Rattle.bank_replays.specs.{Replayed.ShowsFilled}
use Rattle.bank_replays.specs.declared.{fault.ReplayFault.ReplayFault, refill.Refill.Refill}
use Rattle.bank_replays.proofs.FilledBank.{filled, has_kept_of}
use Rattle.bank_replays.proofs.{Read.clean_before, Read.read_any, Read.read_then, Whys.why_memories, Whys.why_then}
use Rattle.bank_replays.proofs.replays.fill.Goals as goal

pub returns-in_err-visit_all : goal.returns-in_err-visit_all
returns-in_err-visit_all g c =
    let same : c.from_residual.result ≡ Err c.in_err-visit_all.field-0.0 = search rules in
    record {
      bank = rw same c.in_err-visit_all.ensures.bank;
      why = rw same c.in_err-visit_all.ensures.why;
      replays = λ clean sure none new. rw same tt;
    }

pub returns-in_err-visit_all-2 : goal.returns-in_err-visit_all-2
returns-in_err-visit_all-2 g c =
    let same : c.from_residual-in_err-visit_all-2.result ≡ Err c.in_err-visit_all-2.field-0.0 = search rules in
    record {
      bank = rw same (read_then c.in_ok-visit_all.ensures.bank c.in_err-visit_all-2.ensures.bank);
      why = rw same (why_then c.in_ok-visit_all.ensures.bank c.in_err-visit_all-2.ensures.bank
          c.in_err-visit_all-2.ensures.why);
      replays = λ clean sure none new. rw same tt;
    }

pub returns-in_err-visit_all-3 : goal.returns-in_err-visit_all-3
returns-in_err-visit_all-3 g c =
    let same : c.from_residual-in_err-visit_all-3.result ≡ Err c.in_err-visit_all-3.field-0.0 = search rules in
    record {
      bank =
          rw same (read_then (read_then c.in_ok-visit_all.ensures.bank c.in_ok-visit_all-2.ensures.bank)
          c.in_err-visit_all-3.ensures.bank);
      why = rw same (why_then (read_then c.in_ok-visit_all.ensures.bank c.in_ok-visit_all-2.ensures.bank)
          c.in_err-visit_all-3.ensures.bank c.in_err-visit_all-3.ensures.why);
      replays = λ clean sure none new. rw same tt;
    }

-- the rest, where all went well
finished : {S T W : Type 0} {g : Ghosts S} {h : Ghosts T} (old : Bank S g) (last : Bank T h) (end : Refill T W h)
    (r : Result (Unit {0}) ReplayFault)
    → ((plan : ℕ → Option Terms) → IsPlan plan → (log : List Command) → Holds h plan log end
    → OnOk r (OpensRest h plan log last))
    → (((plan : ℕ → Option Terms) → IsPlan plan → (log : List Command) → Holds h plan log end → OpensRest h plan log last)
    → ShowsFilled g h old last) → OnOk r (ShowsFilled g h old last)
finished old last end (Ok done) rest then = then rest
finished old last end (Err fault) rest then = tt

pub returns : goal.returns
returns g c =
    let one = c.in_ok-visit_all.ensures in
    let two = c.in_ok-visit_all-2.ensures in
    let three = c.in_ok-visit_all-3.ensures in
    record {
      bank = read_any (read_then (read_then one.bank two.bank) three.bank) _;
      why = why_memories c.finish.result c.finish.ensures.memory;
      replays = λ clean sure none new.
          finished c.args.bank.now c.finish.new.self.bank c.visit_all-3.new.target c.finish.result
          (c.finish.ensures.rest sure) (λ rest f has.
          let db = database_of g.S.Store c.args.bank.now in
          let clean2 = clean_before three.bank clean in
          let clean1 = clean_before two.bank clean2 in
          let kept = has_kept_of db f has in
          filled c.args.bank.now sure c.args.refill.now c.visit_all.new.target c.visit_all-2.new.target c.visit_all-3.new.target none new
          one.visits.0 two.visits.0 three.visits.0 one.visits.1 two.visits.1 three.visits.1 f has
          (one.visits.2 clean1 _ has.branches)
          (two.visits.2 clean2 _ (subst (λ (d : Database). HasStoredRows d floor f.floors)
          (sym (one.bank.still clean1).0) has.floors))
          (three.visits.2 clean _ (subst (λ (d : Database). HasKept d (kept_all f.history f.references f.requests))
          (sym ((read_then one.bank two.bank).still clean2).0) kept))
          c.finish.new.self.bank rest);
    }
