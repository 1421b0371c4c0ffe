-- There is one reply.
use Rattle.std.proofs.Common.{◌≡◌, ℕ, List, [], ◌∷◌, get_or, length, refl, sym, ap, ◌∙◌}
use Rattle.bank_store.proofs.bank.only_reply.Goals as goal

only : (items : List (List ℕ)) (d : List ℕ) → length items ≡ 1 → items ≡ get_or items 0 d ∷ []
only [] d many = absurd cc
only (y ∷ []) d many = refl
only (y ∷ z ∷ items) d many = absurd cc

pub returns : goal.returns
returns c = sym c.deref.ensures ∙ only c.deref.result.now _ (ap length c.deref.ensures ∙ c.requires)
