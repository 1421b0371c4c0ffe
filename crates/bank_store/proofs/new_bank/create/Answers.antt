-- The new bank stands at the empty log, and no bank was there. In an empty file none is refused but by the
-- store.
use Rattle.std.proofs.Common.{sym, subst, inl, inr}
use Rattle.std.specs.Prelude.{IsSome}
use Rattle.sqlite.specs.{State.HasCleanDisk, State.Survives, Held.state}
use Rattle.store_rows.specs.{Creation.HasNewBank, Probes.all_probes}
use Rattle.bank_store.specs.{NewBank.BankIsMade, TablePresence.IsPresent}
use Rattle.bank_store.specs.{declared.presence.Presence.TheVariants.Absent}
use Rattle.bank_store.proofs.{FoundBank.no_bank, Unmade.not_taken, NewBank.stands_empty}
use Rattle.store_rows.proofs.BankTables.{shown_tables}
use Rattle.bank_store.proofs.new_bank.create.Goals as goal

pub over-requires : goal.over-requires
over-requires g c = record {
  idle = c.in-Ok.ensures.makes.mode;
  tables = λ clean is_open. shown_tables _ _ (c.in-Ok.ensures.makes.made clean).shows;
}

pub returns-in-Ok : goal.returns-in-Ok
returns-in-Ok g c =
    let old = state g.S.Store c.args.conn in
    let new = state g.S.Store c.over.result.conn in
    let Down = IsSome c.over.result.fault in
    let same = sym c.over.ensures.conn in
    let made : HasCleanDisk new → BankIsMade old new =
    subst (λ h. HasCleanDisk (state g.S.Store h) → BankIsMade old (state g.S.Store h)) same
    c.in-Ok.ensures.makes.made in
    let blank : HasCleanDisk new → IsPresent old.now all_probes Absent =
    subst (λ h. HasCleanDisk (state g.S.Store h) → IsPresent old.now all_probes Absent) same
    c.in-Ok.ensures.blank in
    let up : Down → ⊥ = λ some. (let none = c.over.ensures.up in let h = rw none at some in cc) in
    record {
      made = record {
        stands = λ clean. stands_empty old new Down up (made clean);
        keeps = λ clean. (made clean).keeps;
        alone = λ clean. (made clean).alone;
        blank = blank;
        new = λ clean t. no_bank old.now t (blank clean);
        up = up;
      };
      alloc = c.over.ensures.alloc;
      fault = tt;
      refused = tt;
      cause = tt;
      empty = tt;
      back = tt;
      survives =
          subst (λ h. Survives old (state g.S.Store h) (HasNewBank old.now)) same
          c.in-Ok.ensures.makes.survives;
    }

pub returns-in-Err : goal.returns-in-Err
returns-in-Err g c =
    let makes = c.in-Err.ensures.makes in
    record {
      made = tt;
      alloc = tt;
      fault = makes.fault;
      refused = makes.refused;
      cause = makes.cause;
      empty = λ clean empty. elim makes.fault [
        | inl store ↦ store
        | inr taken ↦ absurd (not_taken (state g.S.Store c.args.conn) empty (makes.refused clean taken))
      ];
      back = record {
        idle = makes.mode;
        same = λ clean other. elim makes.fault [
          | inl store ↦ absurd (other store)
          | inr taken ↦ c.in-Err.ensures.same clean taken
        ];
        undone = makes.undone;
      };
      survives = makes.survives;
    }
