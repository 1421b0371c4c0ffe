-- One more place is empty.
use Rattle.std.proofs.Common.{◌≡◌, ◌≢◌, ◌<◌, ◌+◌, ◌∙◌, ℕ, List, None, Option, arith, get_or, inl, inr, length, nat_eq, set}
use Rattle.std.proofs.lemmas.{Bool.Decides.nat_tests, Bool.cases_Bool, Bool.eqb-true, Grind.get_or-set_at}
use Rattle.std.proofs.lemmas.List.{get_or-set_other}
use Rattle.bank_transactions.proofs.known_rows.entry.empty_all.Goals as goal

emptied : {V : Type 0} (places : List (Option V)) (n i : ℕ) → n < length places
    → (i < n → get_or places i None ≡ None) → i < n + 1 → get_or (set places n None) i None ≡ None
emptied places n i within below lt =
    elim (cases_Bool (nat_eq i n)) [
      | inl same ↦ get_or-set_at places n i None None (eqb-true i n same) within
      | inr other ↦
          let apart : i ≢ n = grind (arith, nat_tests) in
          get_or-set_other places n i None None apart ∙ below (omega (arith, apart))
    ]

pub loop-entry-preserved : goal.loop-entry-preserved
loop-entry-preserved g c i lt =
    emptied c.loop-entry.entries c.loop-entry.entry-index i (omega arith) (c.loop-entry.invariant i) lt
