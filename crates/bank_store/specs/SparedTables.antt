-- The tables of other products are spared where nothing was called, and after two calls.
use Rattle.std.specs.Prelude.{◌⊎◌, ◌≤◌, Option, IsSome, is_some}
use Rattle.std.proofs.Common.{inl, inr, refl, subst, sym}
use Rattle.std.proofs.Math.Arith.{le-zero}
use Rattle.std.proofs.Math.Nat.{le_refl}
use Rattle.std.proofs.lemmas.Bool.{both_ways, cases_Bool}
use Rattle.sqlite.specs.State.{State, HasCleanDisk, Survives}
use Rattle.sqlite.specs.Tree.{Trees}
use Rattle.sqlite.proofs.StateLemmas.{survives_then}
use Rattle.sqlite_trees.specs.View.{doubt}
use Rattle.sql_meanings.proofs.Sparing.{spares_itself, spares_then}
use Rattle.store_rows.specs.believed.Sparing.{SparesOthers, bank_names}
use Rattle.bank_transactions.specs.believed.Doing.{LeavesOthers}
use Rattle.bank_store.specs.believed.BankSparing.{SparesTables}

-- nothing was done
survives_itself : (s : State) (P : Trees → Type 0) → Survives s s P
survives_itself s P = record {
  clean = le_refl (doubt s.is_clean);
  shield = λ h. h;
  counts = le_refl s.faults;
  limit = refl;
  closes = λ clean was. inl was;
  crash = λ clean left may. inl may;
}

pub some_or_none : {X : Type 0} (o : Option X) → IsSome o ⊎ (IsSome o → ⊥)
some_or_none o = elim (cases_Bool (is_some o)) [
  | inl some ↦ inl some
  | inr none ↦ inr (λ some. both_ways (is_some o) none some)
]

module _ {B : Type 0} (is_down : B → Type 0) (file : B → State) where
  pub spared_itself : (b : B) → SparesTables is_down file b b
  spared_itself b = record {
    untried = λ down. refl;
    now = λ clean shown. spares_itself bank_names (file b).now;
    left = survives_itself (file b) (LeavesOthers (file b).now);
  }

  both_spared : (a b c : B) → (is_down b → ⊥) → SparesTables is_down file a b → SparesTables is_down file b c
      → SparesTables is_down file a c
  both_spared a b c up one two = record {
    untried = λ down. absurd (up (subst is_down (sym (one.untried down)) down));
    now = λ clean shown. spares_then bank_names (file a).now (file b).now (file c).now (first clean)
        (two.now clean shown);
    left = survives_then (file a) (file b) (file c) (LeavesOthers (file a).now) (LeavesOthers (file b).now)
        (LeavesOthers (file a).now) (λ clean db h. h)
        (λ clean db h. (h.0, h.1, spares_then bank_names (file a).now (file b).now h.0 (first clean) h.2))
        one.left two.left;
  }
    where
      first : HasCleanDisk (file c) → SparesOthers (file a).now (file b).now
      first clean =
          one.now (le-zero (subst (λ n. doubt (file b).is_clean ≤ n) clean two.left.clean))
          (λ down. absurd (up down))

  pub spared_then : ((b : B) → is_down b ⊎ (is_down b → ⊥)) → (a b c : B) → SparesTables is_down file a b
      → SparesTables is_down file b c → SparesTables is_down file a c
  spared_then decide a b c one two = elim (decide b) [
    | inl down ↦ subst (SparesTables is_down file a) (sym (two.untried down)) one
    | inr up ↦ both_spared a b c up one two
  ]
