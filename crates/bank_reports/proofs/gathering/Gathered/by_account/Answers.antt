-- A stable sort leaves the postings of each account in their order.
use Rattle.std.proofs.Common.{rules, ◌≡◌, ◌==◌, ◌&&◌, ℕ, Bool, List, [], ◌∷◌, None, filter, nat_cmp, is_lt, not, refl, sym, ◌∙◌, arith}
use Rattle.std.specs.Prelude.{pos, All, slice_index_or}
use Rattle.std.specs.List.Sorted.{IsStableBy}
use Rattle.std.proofs.lemmas.List.Elements.{All-head, All-tail}
use Rattle.std.proofs.lemmas.List.Sorted.{All-permutation, IsNonDecreasingBy-from_sort, answers_always}
use Rattle.walked_rows.specs.declared.stated.StatedPosting.{StatedPosting}
use Rattle.report_contents.specs.AllStatements.{is_posting_of, postings_of}
use Rattle.bank_reports.specs.{AllPostings.IsOfAccount, Gathering.account_of}
use Rattle.bank_reports.proofs.ByAccount.{own_is}
use Rattle.bank_reports.proofs.gathering.Gathered.by_account.Goals as goal

filter_same : {X : Type 0} (p q : X → Bool) (xs : List X) → All (λ x. p x ≡ q x) xs → filter p xs ≡ filter q xs
filter_same p q [] all = refl
filter_same p q (x ∷ xs) all =
    rw (All-head (λ x. p x ≡ q x) x xs all, filter_same p q xs (All-tail (λ x. p x ≡ q x) x xs all)) refl

ties_is : (a n : ℕ) → (not (is_lt (nat_cmp a n)) && not (is_lt (nat_cmp n a))) ≡ (n == a)
ties_is a n = grind arith

-- any posting of an account
some_posting : ℕ → StatedPosting
some_posting a = record {
  posting = record { ordinal = 1; account = pos a; teller = pos 0; branch = pos 0; delta = pos 0; moment = 0 };
  reference = None;
}

module _ (xs ys : List StatedPosting) (of_xs : All IsOfAccount xs) (of_ys : All IsOfAccount ys)
    (stable : IsStableBy (λ x y. is_lt (nat_cmp (account_of x) (account_of y))) xs ys) where
  tied : (a : ℕ) (l : List StatedPosting) → All IsOfAccount l
      → postings_of a l ≡ filter (λ y. not (is_lt (nat_cmp a (account_of y))) && not (is_lt (nat_cmp (account_of y) a))) l
  tied a l of_l = filter_same (is_posting_of a) _ l
      (λ i d low. own_is a (slice_index_or l i d) (of_l i d low) ∙ sym (ties_is a (account_of (slice_index_or l i d))))

  same_postings : (a : ℕ) → postings_of a ys ≡ postings_of a xs
  unfolding some_posting
  same_postings a = tied a ys of_ys ∙ stable (some_posting a) ∙ sym (tied a xs of_xs)

pub returns : goal.returns
returns c =
    let keys = answers_always _ _ _ (λ f a r next called. search rules) in
    let says = c.in_ok-sort_by_key.ensures in
    let of_all = All-permutation IsOfAccount _ _ says.permutation c.requires in
    record {
      sorted = record {
        rise = IsNonDecreasingBy-from_sort account_of _ (says.sorted account_of keys);
        numbers = of_all;
        same = same_postings _ _ c.requires of_all (says.stable account_of keys);
      };
      refused = tt;
    }
