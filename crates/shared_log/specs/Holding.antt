-- What is known of a log, and more.
use Rattle.std.proofs.Common.{◌≡◌, ℕ, List, [], ◌++◌, ◌∙◌, Some, None, refl, sym, ap, append-nil, append_assoc}
use Rattle.shared_log.specs.Known.{HoldsOn, Known, with_more}

pub more_none : (k : Known) → k ≡ with_more k []
more_none None = refl
more_none (Some entries) = ap (λ (l : List (List ℕ)). let one : Known = Some l in one) (sym (append-nil entries))

pub more_more : (k : Known) (xs ys : List (List ℕ)) → with_more (with_more k xs) ys ≡ with_more k (xs ++ ys)
more_more None xs ys = refl
more_more (Some entries) xs ys =
    ap (λ (l : List (List ℕ)). let one : Known = Some l in one) (append_assoc entries xs ys)

pub holds_itself : (k : Known) → HoldsOn k k
holds_itself k = record { more = []; grows = more_none k }

pub holds_then : (a b c : Known) → HoldsOn a b → HoldsOn b c → HoldsOn a c
holds_then a b c one two = record {
  more = one.more ++ two.more;
  grows = two.grows ∙ ap (λ (k : Known). with_more k two.more) one.grows ∙ more_more a one.more two.more;
}

pub holds_same : (a b : Known) → b ≡ a → HoldsOn a b
holds_same a b same = record { more = []; grows = same ∙ more_none a }

pub holds_more : (a b : Known) (more : List (List ℕ)) → b ≡ with_more a more → HoldsOn a b
holds_more a b more grown = record { more = more; grows = grown }
