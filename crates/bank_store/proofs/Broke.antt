-- The rule that is told to be broken: what a transaction says of it is what the call says.
use Rattle.std.proofs.Common.{Option, Err, sym, subst, arith, inl, inr}
use Rattle.sqlite.specs.{Effect.Database, State.HasCleanDisk, State.Survives, Held.Held, Held.state}
use Rattle.sqlite_trees.specs.declared.store.Store.{Ghosts}
use Rattle.posting_rules.specs.{declared.fault.Fault.Fault, declared.fault.Rule.Rule, believed.Tables.Tables}
use Rattle.store_rows.specs.believed.{Failures.Additions, View.Shows}
use Rattle.bank_transactions.specs.believed.Stray.{IsDamage}
use Rattle.store_rows.specs.declared.fault.TableFault.{TableFault, TheVariants.Sqlite, TheVariants.Damaged}
use Rattle.bank_transactions.specs.believed.Causes.{Damage, IsBrokenOrMet}
use Rattle.bank_transactions.specs.{Causes.IsFirstBroken, Doing.Transacts, Doing.TransactsBy}
use Rattle.bank_transactions.proofs.Blamed.{comes, met_within, same_moment}
use Rattle.bank_store.specs.{believed.Down.OfDamage, Down.GoesDown}

-- on an honest disk tables that are so break the rule, where the database shows them
abbrev pub BreaksShown : (Tables → Type 0) → Database → Type 0 → Rule → Type 0
BreaksShown So db Clean rule = Clean → (t : Tables) → Shows db t → So t → IsDamage rule db

module _ {S X : Type 0} {So : Tables → Type 0} {after : Tables → Tables} {wanted : Tables → X} (g : Ghosts S)
    (old mid new : Held S)
    (cause : Option TableFault) (fault : Fault) (quiet : Survives (state g mid) (state g new) (λ _. ⊥)) where
  of_damage : {Adds : Additions} (Met : Damage S) → ((rule : Rule) → Met old mid rule → Met old new rule) → (e : TableFault)
      → TransactsBy {X = X} Met Adds g old mid So after wanted (Err e)
      → GoesDown (state g mid) (state g new) e cause fault
      → OfDamage fault (λ rule. HasCleanDisk (state g new) → Met old new rule)
  of_damage Met wide (Sqlite error) does went =
      subst (λ (f : Fault). OfDamage f (λ rule. HasCleanDisk (state g new) → Met old new rule)) (sym went.1)
      tt
  of_damage Met wide (Damaged rule) does (inl went) =
      subst (λ (f : Fault). OfDamage f (λ rule. HasCleanDisk (state g new) → Met old new rule)) (sym went.1)
      (λ clean. wide rule (does.cause (omega (arith, quiet.clean))))
  of_damage Met wide (Damaged rule) does (inr went) =
      subst (λ (f : Fault). OfDamage f (λ rule. HasCleanDisk (state g new) → Met old new rule)) (sym went.0)
      tt

  -- and tables that are so break it
  pub breaks_shown : {Adds : Additions} (Met : Damage S) (e : TableFault)
      → TransactsBy {X = X} Met Adds g old mid So after wanted (Err e)
      → GoesDown (state g mid) (state g new) e cause fault
      → OfDamage fault (BreaksShown So (state g old).now (HasCleanDisk (state g new)))
  breaks_shown Met (Sqlite error) does went =
      subst (λ (f : Fault). OfDamage f (BreaksShown So (state g old).now (HasCleanDisk (state g new)))) (sym went.1) tt
  breaks_shown Met (Damaged rule) does (inl went) =
      subst (λ (f : Fault). OfDamage f (BreaksShown So (state g old).now (HasCleanDisk (state g new)))) (sym went.1)
      (λ clean t shows so. does.answers (omega (arith, quiet.clean)) t shows so)
  breaks_shown Met (Damaged rule) does (inr went) =
      subst (λ (f : Fault). OfDamage f (BreaksShown So (state g old).now (HasCleanDisk (state g new)))) (sym went.0) tt

  -- of a call that only reads
  pub consulted : {Adds : Additions} (e : TableFault)
      → TransactsBy {X = X} (IsFirstBroken g) Adds g old mid So after wanted (Err e)
      → GoesDown (state g mid) (state g new) e cause fault
      → OfDamage fault (λ rule. HasCleanDisk (state g new) → IsFirstBroken g old new rule)
  consulted e does went = of_damage (IsFirstBroken g) (λ rule it. it) e does went

  -- of a call that writes
  pub transacted : {Adds : Additions} (e : TableFault) → Transacts {X = X} g Adds old mid So after wanted (Err e)
      → GoesDown (state g mid) (state g new) e cause fault
      → OfDamage fault (λ rule. HasCleanDisk (state g new) → IsBrokenOrMet g Adds old new rule)
  transacted {Adds} e does went = of_damage (IsBrokenOrMet g Adds) (λ rule it. elim it [
    | inl broken ↦ inl broken
    | inr met ↦ inr (met_within g old old mid new rule (same_moment (state g old)) (comes quiet) met)
  ]) e does went
