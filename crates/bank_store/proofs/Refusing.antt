-- A call of the bank, as the one record of it: what became of a transaction, or nothing was tried.
use Rattle.std.proofs.Common.{◌≡◌, ℕ, List, length, Bool, false, is_some, Option, None, Result, Ok, Err, arith, refl, sym, ap, subst, ◌∙◌, inl, inr}
use Rattle.std.specs.Prelude.{IsSome, ◌≢◌}
use Rattle.sqlite.specs.{State.State, State.HasCleanDisk, State.Survives, Held.Held, Held.state}
use Rattle.sqlite_trees.specs.declared.store.Store.{Ghosts}
use Rattle.posting_rules.specs.{declared.fault.Fault.Fault, declared.fault.Rule.Rule, believed.Tables.Tables}
use Rattle.posting_rules.specs.declared.fault.Fault.TheVariants.{Memory, Store, Down, Damaged as Broken}
use Rattle.posting_rules.specs.believed.Commands.{Command, AreCommands, Terms}
use Rattle.posting_rules.specs.believed.Counter.{Refuses, Takes, TellsDamage}
use Rattle.posting_rules.proofs.Calls.{IsChange}
use Rattle.posting_rules.proofs.CounterCalls.{call_answered, call_refused, call_spared, call_untried, unchanged_seen}
use Rattle.store_rows.specs.believed.Failures.{Additions}
use Rattle.store_rows.specs.declared.fault.TableFault.{TableFault, TheVariants.Sqlite, TheVariants.Damaged}
use Rattle.bank_transactions.specs.{Doing.Transacts, Doing.TransactsBy}
use Rattle.bank_transactions.specs.believed.{Additions.AddsBranch, Additions.AddsForRecords, Additions.AnyRow}
use Rattle.bank_transactions.specs.believed.{Batches.HasRoomFor}
use Rattle.posting_rules.specs.believed.AnyTables.{IsReadyToOpen}
use Rattle.bank_transactions.specs.{believed.Causes.Damage, believed.Causes.IsBrokenOrMet, Causes.IsFirstBroken}
use Rattle.bank_transactions.proofs.{Blamed.between_also, NoStrays.no_damage}
use Rattle.bank_store.specs.believed.Down.{BreaksOpening, BreaksRule, IsBankCall, KeepsCause, OfDamage}
use Rattle.bank_store.specs.believed.Down.{WasBrokenOrMet, bank_reason}
use Rattle.bank_transactions.specs.Undone.{IsUndone}
use Rattle.bank_store.specs.{Down.GoesDown, Seen.fault_of, Walks.IsUntouchedIfOpen, declared.bank.Bank.Bank}
use Rattle.bank_store.specs.believed.Seen.{bank_seen, cause_of, connection_of, database_of}
use Rattle.bank_store.proofs.Broke.{BreaksShown, consulted, transacted}
use Rattle.bank_store.proofs.Causes.{still_clean}
use Rattle.bank_store.proofs.Countered.{HoldsOfLogs, failed_between, has_room, keeps_file, cause_error, no_error, refuses}
use Rattle.bank_store.proofs.Countered.{takes}

-- It is refused as the trait says, for its reason; damage leaves the file as it was, and says this; neither
-- memory nor an earlier fault is told; and what is honest was.
pub record Refusal {S : Type 0} (g : Ghosts S) (old new : Bank S g) (cs : List Command) (Met : Damage S)
    (refused : Fault) : Type 0 where
  pub fault : Refuses refused (bank_seen g old) (bank_seen g new) cs
  pub why : bank_reason g refused old new
  pub unchanged : TellsDamage refused → HasCleanDisk (state g (connection_of new))
      → database_of g new ≡ database_of g old
  pub broken : OfDamage refused (λ rule. HasCleanDisk (state g (connection_of new))
      → Met (connection_of old) (connection_of new) rule)
  pub frugal : refused ≢ Memory
  pub tried : refused ≢ Down
  pub honest : HasCleanDisk (state g (connection_of new)) → HasCleanDisk (state g (connection_of old))

-- so the call is one of the bank
pub refused_call : {S X : Type 0} (g : Ghosts S) (old new : Bank S g) (cs : List Command) {Met : Damage S}
    (refused : Fault) → Refusal g old new cs Met refused → ((bank_seen g old).is_down → ⊥)
    → IsBankCall {X = X} g old new cs (Err refused)
refused_call g old new cs refused it up =
    call_refused (bank_seen g) (database_of g) (bank_reason g) old new cs up it.honest refused it.frugal it.tried
    it.fault it.why it.unchanged

-- a call that was answered
pub answered_call : {S X : Type 0} (g : Ghosts S) (old new : Bank S g) (cs : List Command) (x : X)
    → ((bank_seen g old).is_down → ⊥) → ((bank_seen g new).is_down → ⊥)
    → Takes (bank_seen g old) (bank_seen g new) cs
    → (HasCleanDisk (state g (connection_of new)) → HasCleanDisk (state g (connection_of old)))
    → IsBankCall g old new cs (Ok x)
answered_call g old new cs x was_up up takes honest =
    call_answered (bank_seen g) (database_of g) (bank_reason g) old new cs was_up honest x up takes

-- one whose transaction was committed
pub committed_call : {S X Y : Type 0} {So : Tables → Type 0} {after : Tables → Tables} {wanted : Tables → X} {x : X}
    {Met : Damage S} {Adds : Additions} (g : Ghosts S) (old new : Bank S g) (holds : HoldsOfLogs So)
    (cs : List Command) → IsChange after cs → AreCommands cs → (y : Y) → ((bank_seen g old).is_down → ⊥)
    → ((bank_seen g new).is_down → ⊥)
    → TransactsBy Met Adds g (connection_of old) (connection_of new) So after wanted (Ok x)
    → IsBankCall g old new cs (Ok y)
committed_call g old new holds cs is are y was_up up does =
    answered_call g old new cs y was_up up
    (takes holds cs is are (bank_seen g old).is_down (bank_seen g new).is_down up does) (still_clean does.survives)

-- a bank tells whether it is down
pub is_up : (fault : Option TableFault) {tells : Bool} → tells ≡ is_some fault → tells ≡ false → IsSome fault → ⊥
is_up fault says up down = let both = sym up ∙ says ∙ down in cc

-- a call of a bank that was down
pub untried_call : {S X : Type 0} (g : Ghosts S) (bank : Bank S g) (cs : List Command) → (bank_seen g bank).is_down
    → IsBankCall {X = X} g bank bank cs (Err Down)
untried_call g bank cs was = call_untried (bank_seen g) (database_of g) (bank_reason g) bank cs was tt

-- a call that was refused memory before anything was tried
pub spared_call : {S X : Type 0} (g : Ghosts S) (bank : Bank S g) (cs : List Command)
    (result : Result X Fault) (fault : Fault) → result ≡ Err fault → fault ≡ Memory
    → ((bank_seen g bank).is_down → ⊥)
    → IsBankCall g bank bank cs result
spared_call {S} {X} g bank cs result fault is tells up =
    subst (λ (r : Result X Fault). IsBankCall g bank bank cs r)
    (sym (is ∙ ap (λ (f : Fault). let r : Result X Fault = Err f in r) tells))
    (call_spared (bank_seen g) (database_of g) (bank_reason g) bank bank cs up (λ honest. honest)
    (unchanged_seen (bank_seen g bank)) tt refl)

never_memory : (old new : State) (e : TableFault) (cause : Option TableFault) (fault : Fault)
    → GoesDown old new e cause fault → fault ≢ Memory
never_memory old new (Sqlite error) cause fault went memory = let both = sym went.1 ∙ memory in cc
never_memory old new (Damaged rule) cause fault (inl went) memory = let both = sym went.1 ∙ memory in cc
never_memory old new (Damaged rule) cause fault (inr went) memory = let both = sym went.0 ∙ memory in cc

never_down : (old new : State) (e : TableFault) (cause : Option TableFault) (fault : Fault)
    → GoesDown old new e cause fault → fault ≢ Down
never_down old new (Sqlite error) cause fault went down = let both = sym went.1 ∙ down in cc
never_down old new (Damaged rule) cause fault (inl went) down = let both = sym went.1 ∙ down in cc
never_down old new (Damaged rule) cause fault (inr went) down = let both = sym went.0 ∙ down in cc

-- what the bank's fault says of the call
reason_of : {S : Type 0} (g : Ghosts S) (old new : Bank S g) (refused : Fault)
    → (refused ≡ Store → KeepsCause g old new) → OfDamage refused (WasBrokenOrMet g AnyRow old new)
    → (TellsDamage refused → cause_of new ≡ None) → bank_reason g refused old new
reason_of g old new Memory cause broken none = tt
reason_of g old new Store cause broken none = cause refl
reason_of g old new Down cause broken none = tt
reason_of g old new (Broken rule) cause broken none = (broken, none tt)

-- damage that says one thing says another that follows
of_wider : (refused : Fault) (P Q : Rule → Type 0) → ((rule : Rule) → P rule → Q rule) → OfDamage refused P
    → OfDamage refused Q
of_wider Memory P Q wide is = tt
of_wider Store P Q wide is = tt
of_wider Down P Q wide is = tt
of_wider (Broken rule) P Q wide is = wide rule is

-- one that was refused memory tells of none
pub of_memory : (P : Rule → Type 0) (refused : Fault) → refused ≡ Memory → OfDamage refused P
of_memory P refused is = rw is tt

-- of records: both are so of it, and tables that are ready for them break none
pub breaks : {S : Type 0} (g : Ghosts S) (records : List (List ℕ)) (old new : Bank S g) (refused : Fault)
    → OfDamage refused (WasBrokenOrMet g (AddsForRecords (database_of g old) records) old new)
    → OfDamage refused (BreaksShown (HasRoomFor (length records)) (database_of g old)
    (HasCleanDisk (state g (connection_of new))))
    → OfDamage refused (BreaksRule g records old new)
breaks g records old new Memory met broken = tt
breaks g records old new Store met broken = tt
breaks g records old new Down met broken = tt
breaks g records old new (Broken rule) met broken = record {
  met = met;
  broken = broken;
  unfit = λ clean t shows ready. no_damage t (ready 0).0 (λ count. (ready count).1) (database_of g old) shows rule
      (broken clean t shows (has_room (length records) t (ready (length records))));
}

-- of an opening
pub breaks_opening : {S : Type 0} (g : Ghosts S) (branch : ℕ) (terms : Terms) (old new : Bank S g) (refused : Fault)
    → OfDamage refused (WasBrokenOrMet g (AddsBranch branch terms) old new)
    → OfDamage refused (BreaksShown (IsReadyToOpen branch terms) (database_of g old)
    (HasCleanDisk (state g (connection_of new))))
    → OfDamage refused (BreaksOpening g branch terms old new)
breaks_opening g branch terms old new Memory met broken = tt
breaks_opening g branch terms old new Store met broken = tt
breaks_opening g branch terms old new Down met broken = tt
breaks_opening g branch terms old new (Broken rule) met broken = record { met = met; broken = broken }

module _ {S X : Type 0} {So : Tables → Type 0} {after : Tables → Tables} {wanted : Tables → X} (g : Ghosts S)
    (old new : Bank S g) (mid : Held S)
    (holds : HoldsOfLogs So) (cs : List Command) (is : IsChange after cs) (are : AreCommands cs)
    (e : TableFault) (refused : Fault)
    (down : GoesDown (state g mid) (state g (connection_of new)) e (fault_of new) refused)
    (quiet : Survives (state g mid) (state g (connection_of new)) (λ _. ⊥))
    (undone : HasCleanDisk (state g mid) → IsUndone (state g (connection_of old)) (state g mid))
    (back : HasCleanDisk (state g (connection_of new))
    → IsUntouchedIfOpen (state g mid) (state g (connection_of new))) where
  refusal : (Met : Damage S) {Adds : Additions}
      → ((rule : Rule) → Met (connection_of old) (connection_of new) rule
      → IsBrokenOrMet g AnyRow (connection_of old) (connection_of new) rule)
      → TransactsBy {X = X} Met Adds g (connection_of old) mid So after wanted (Err e)
      → OfDamage refused (λ rule. HasCleanDisk (state g (connection_of new))
      → Met (connection_of old) (connection_of new) rule)
      → Refusal g old new cs Met refused
  refusal Met wide does broken =
      let a = connection_of old in
      let c = connection_of new in
      record {
        fault =
            refuses g a mid c holds cs is are (IsSome (fault_of old)) e (fault_of new) refused does down quiet;
        why =
            reason_of g old new refused (λ tells. record {
              cause = cause_error _ _ (fault_of new) refused e down tells;
              failed = failed_between g a mid c (fault_of new) refused quiet e does down;
              undone = λ clean is_open.
                  let same = back clean is_open in
                  same.now_is ∙ (undone (omega (arith, quiet.clean, clean)) same.was_open).1;
            })
            (of_wider refused (λ rule. HasCleanDisk (state g c) → Met a c rule) (WasBrokenOrMet g AnyRow old new)
            (λ rule met clean. wide rule (met clean)) broken)
            (no_error _ _ (fault_of new) refused e down);
        unchanged = λ damage clean. keeps_file g a mid c e (fault_of new) refused does down quiet damage clean;
        broken = broken;
        frugal = never_memory (state g mid) (state g c) e (fault_of new) refused down;
        tried = never_down (state g mid) (state g c) e (fault_of new) refused down;
        honest = λ clean. omega (arith, quiet.clean, does.survives.clean);
      }

  -- of a call that only reads
  pub consult_refused : {Adds : Additions}
      → TransactsBy {X = X} (IsFirstBroken g) Adds g (connection_of old) mid So after wanted (Err e)
      → Refusal g old new cs (IsFirstBroken g) refused
  consult_refused does =
      refusal (IsFirstBroken g) (λ rule it. inl (inl it)) does
      (consulted g (connection_of old) mid (connection_of new) (fault_of new) refused quiet e does down)

  -- of a call that writes
  pub transaction_refused : {Adds : Additions}
      → Transacts {X = X} g Adds (connection_of old) mid So after wanted (Err e)
      → Refusal g old new cs (IsBrokenOrMet g Adds) refused
  transaction_refused {Adds} does =
      refusal (IsBrokenOrMet g Adds) (λ rule it. elim it [
        | inl broken ↦ inl broken
        | inr met ↦ inr (between_also g (connection_of old) (connection_of new) rule (λ text values own. tt) met)
      ]) does
      (transacted g (connection_of old) mid (connection_of new) (fault_of new) refused quiet e does down)
