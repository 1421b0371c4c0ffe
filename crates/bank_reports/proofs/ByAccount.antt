-- Postings that stand by rising accounts, and the statements of those accounts.
use Rattle.std.proofs.Common.{◌≡◌, ◌≤◌, ◌<◌, ◌+◌, ◌-◌, ◌++◌, ℕ, Bool, true, false, cond, List, [], ◌∷◌, length, take}
use Rattle.std.proofs.Common.{drop, leb, Option, Result, Ok, Err, refl, sym, ap, subst, ◌∙◌, inl, inr, arith, append-nil, append_assoc}
use Rattle.std.specs.Prelude.{ℤ, pos, negsuc, ◌==◌, ◌≤ℤ◌, All, nat_abs, slice_index_or}
use Rattle.std.specs.{Bool.MatchBool, Io.KnownBytes.Appends, List.list_any, Ordering.int_eq}
use Rattle.std.specs.List.Sorted.{IsNonDecreasingBy, IsPartitionPoint}
use Rattle.std.proofs.lemmas.List.Sorted.{IsNonDecreasingBy-drop}
use Rattle.std.proofs.{KnownBytes.Appends-nil, KnownBytes.Appends-trans, lemmas.Int.ints}
use Rattle.std.proofs.lemmas.Bool.{cases_lt, eq-eqb, leb-false, leb-true, ne_eqb}
use Rattle.std.proofs.lemmas.List.{get_or-drop, get_or-take, length-drop, length-take-le, take-append-drop}
use Rattle.std.proofs.lemmas.List.Concat.{flat_map-append}
use Rattle.std.proofs.lemmas.List.Elements.{All-append, All-drop, All-from_get_or, All-take, filter-append}
use Rattle.message_records.specs.declared.limits.TheConstants.{MAX_ACCOUNT}
use Rattle.walked_rows.specs.declared.stated.StatedPosting.{StatedPosting}
use Rattle.report_contents.specs.AllStatements.{AreListed, account_text, is_listed, is_posting_of, postings_of, text_up_to}
use Rattle.report_contents.specs.Queries.{is_selected}
use Rattle.report_contents.specs.declared.{query.Query.Query, query.Selection.Selection}
use Rattle.report_contents.proofs.Below.{below, below_begins, below_gap, below_has, below_more, below_none}
use Rattle.report_contents.proofs.Below.{below_only, below_rises}
use Rattle.report_contents.proofs.Below.{filter_all, filter_none}
use Rattle.report_contents.proofs.Written.{first_part, same_all, same_part, then_part}
use Rattle.bank_reports.specs.declared.fault.ReportFault.{ReportFault}
use Rattle.bank_reports.specs.declared.fault.ReportFault.TheVariants.{Bank, Write}
use Rattle.posting_rules.specs.declared.fault.{Fault.TheVariants.Damaged, Rule.TheVariants.Balance}
use Rattle.bank_reports.specs.{AllPostings.IsOfAccount, Gathering.account_of, Parts.WritesAccount}
use Rattle.bank_reports.specs.Parts.{WritesListed, WritesParts, parts_text}

-- ---- whose a posting is

number_is : (s : StatedPosting) → IsOfAccount s → s.posting.account ≡ pos (account_of s)
number_is s is = of_number s.posting.account is.0
  where
    of_number : (z : ℤ) → pos 1 ≤ℤ z → z ≡ pos (nat_abs z)
    of_number (pos n) low = refl
    of_number (negsuc n) low = absurd (omega (arith, ints, low))

account_low : (s : StatedPosting) → IsOfAccount s → account_of s ≤ MAX_ACCOUNT
account_low s is =
    let high : pos (account_of s) ≤ℤ pos MAX_ACCOUNT = subst (λ (z : ℤ). z ≤ℤ pos MAX_ACCOUNT) (number_is s is) is.1 in
    omega (arith, ints, high)

pub own_is : (k : ℕ) (s : StatedPosting) → IsOfAccount s → is_posting_of k s ≡ (account_of s == k)
own_is k s is = ap (λ (z : ℤ). int_eq z (pos k)) (number_is s is) ∙ same (account_of s)
  where
    same : (m : ℕ) → int_eq (pos m) (pos k) ≡ (m == k)
    same m = grind (arith, ints)

module _ (k : ℕ) (xs : List StatedPosting) (numbers : All IsOfAccount xs) where
  pub postings_all : All (λ s. account_of s ≡ k) xs → postings_of k xs ≡ xs
  postings_all own =
      filter_all (is_posting_of k) xs
      (λ i d low. own_is k (slice_index_or xs i d) (numbers i d low) ∙ eq-eqb _ _ (own i d low))

  pub postings_none : All (λ s. account_of s ≡ k → ⊥) xs → postings_of k xs ≡ []
  postings_none none =
      filter_none (is_posting_of k) xs
      (λ i d low. own_is k (slice_index_or xs i d) (numbers i d low) ∙ ne_eqb _ _ (none i d low))

-- ---- whose postings are selected

module _ (selection : Selection) (rows : List StatedPosting) (numbers : All IsOfAccount rows) where
  unlisted : (k : ℕ) → All (λ s. account_of s ≡ k → ⊥) rows → is_listed selection rows k ≡ false
  unlisted k none = ap (list_any (is_selected selection)) (postings_none k rows numbers none)

  pub are_listed : (n : ℕ) → All (λ s. account_of s < n) rows → AreListed selection rows (below (is_listed selection rows) n)
  are_listed n low = record {
    rise = below_rises (is_listed selection rows) n;
    are = λ a. (
      λ has. (below_only (is_listed selection rows) n a has).1,
      λ is. below_has (is_listed selection rows) n a (within a is) is,
    );
  }
    where
      within : (a : ℕ) → is_listed selection rows a ≡ true → a < n
      within a is = elim (cases_lt a n) [
        | inl under ↦ under
        | inr above ↦ absurd (let never = unlisted a (λ i d at same.
            let less = low i d at in omega (arith, less, same, above)) in cc)
      ]

  -- there are such accounts
  pub listing : (accounts : List ℕ) × AreListed selection rows accounts
  listing = (below (is_listed selection rows) (MAX_ACCOUNT + 1), are_listed (MAX_ACCOUNT + 1) within_numbers)
    where
      within_numbers : All (λ s. account_of s < MAX_ACCOUNT + 1) rows
      within_numbers i d low = let most = account_low (slice_index_or rows i d) (numbers i d low) in omega (arith, most)

-- ---- the statements of the first accounts

-- the statements of the accounts below a number were written, and the postings of the others are left
pub record PartsSoFar (query : Query) (rows left : List StatedPosting) (old now : Option (List ℕ)) : Type 0 where
  pub next : ℕ
  pub done : List StatedPosting
  pub are : rows ≡ done ++ left
  pub of_done : All IsOfAccount done
  pub of_left : All IsOfAccount left
  pub before : All (λ s. account_of s < next) done
  pub after : All (λ s. next ≤ account_of s) left
  pub rise : IsNonDecreasingBy account_of left
  pub wrote : Appends old now (parts_text query rows (below (is_listed query.selection rows) next))

pub no_parts : (query : Query) (rows : List StatedPosting) (old : Option (List ℕ)) → IsNonDecreasingBy account_of rows
    → All IsOfAccount rows → PartsSoFar query rows rows old old
no_parts query rows old rise numbers = record {
  next = 0;
  done = [];
  are = refl;
  of_done = λ i d low. absurd (omega (arith, low));
  of_left = numbers;
  before = λ i d low. absurd (omega (arith, low));
  after = λ i d low. omega arith;
  rise = rise;
  wrote = same_all old old (ap (parts_text query rows) (sym (below_none (is_listed query.selection rows)))) (Appends-nil old);
}

-- none is left
pub all_parts : (query : Query) (rows : List StatedPosting) (old now : Option (List ℕ)) → All IsOfAccount rows
    → PartsSoFar query rows [] old now → WritesParts query rows old now (Ok tt)
all_parts query rows old now numbers it =
    let all : rows ≡ it.done = it.are ∙ append-nil it.done in (
      below (is_listed query.selection rows) it.next,
      are_listed query.selection rows numbers it.next
          (subst (λ l. All (λ s. account_of s < it.next) l) (sym all) it.before),
      it.wrote,
    )

-- one account more: its postings are the first of those that are left
module _ (query : Query) (rows left : List StatedPosting) (old mid : Option (List ℕ)) (numbers : All IsOfAccount rows)
    (it : PartsSoFar query rows left old mid) (first : StatedPosting) (nonempty : 0 < length left)
    (head : slice_index_or left 0 first ≡ first) (count : ℕ) (bound : count ≤ length left)
    (point : IsPartitionPoint (λ s. leb (account_of s) (account_of first) ≡ true)
    (λ s. leb (account_of s) (account_of first) ≡ false) left count) where
  abbrev a : ℕ
  a = account_of first

  abbrev own : List StatedPosting
  own = take count left

  abbrev later : List StatedPosting
  later = drop count left

  abbrev listed : ℕ → Bool
  listed = is_listed query.selection rows

  least : All (λ s. a ≤ account_of s) left
  least = All-from_get_or (λ s. a ≤ account_of s) left first
      (λ j low. let above = it.rise 0 j first (omega arith) low in
      let same = ap account_of head in omega (arith, above, same))

  not_below : it.next ≤ a
  not_below = let above = it.after 0 first nonempty in let same = ap account_of head in omega (arith, above, same)

  of_own : All (λ s. account_of s ≡ a) own
  of_own i d low =
      let len = length-take-le count left bound in
      let same = get_or-take count left i d (omega (arith, low, len)) in
      let most = leb-true _ _ (point.0 i d (omega arith) (omega (arith, low, len))) in
      let least_is = least i d (omega (arith, low, len, bound)) in
      ap account_of same ∙ omega (arith, most, least_is)

  of_later : All (λ s. a < account_of s) later
  of_later i d low =
      let len = length-drop count left in
      let same = get_or-drop count left i d in
      let above = leb-false _ _ (point.1 (count + i) d (omega arith) (omega (arith, low, len))) in
      subst (λ (s : StatedPosting). a < account_of s) (sym same) above

  -- there is one
  pub some_own : 0 < count
  some_own = elim (cases_lt 0 count) [
    | inl some ↦ some
    | inr none ↦ absurd (
        let zero : count ≤ 0 = omega (arith, none) in
        let beyond = leb-false _ _ (point.1 0 first zero nonempty) in
        let same = ap account_of head in omega (arith, beyond, same))
  ]

  rows_are : rows ≡ it.done ++ (own ++ later)
  rows_are = it.are ∙ ap (λ l. it.done ++ l) (sym (take-append-drop count left))

  -- they are the account's
  own_are : postings_of a rows ≡ own
  own_are =
      let of_rest = All-drop IsOfAccount count left it.of_left in
      ap (postings_of a) rows_are ∙ filter-append (is_posting_of a) it.done (own ++ later)
      ∙ ap (λ l. l ++ postings_of a (own ++ later)) (postings_none a it.done it.of_done
      (λ i d low same. let under = it.before i d low in omega (arith, under, same, not_below)))
      ∙ filter-append (is_posting_of a) own later
      ∙ ap (λ l. l ++ postings_of a later) (postings_all a own (All-take IsOfAccount count left it.of_left) of_own)
      ∙ ap (λ l. own ++ l) (postings_none a later of_rest
      (λ i d low same. let above = of_later i d low in omega (arith, above, same)))
      ∙ append-nil own

  -- no account lies between
  between : (k : ℕ) → it.next ≤ k → k < a → All (λ s. account_of s ≡ k → ⊥) rows
  between k from until =
      subst (λ l. All (λ s. account_of s ≡ k → ⊥) l) (sym it.are) (All-append (λ s. account_of s ≡ k → ⊥) it.done left
      (λ i d low same. let under = it.before i d low in omega (arith, under, same, from))
      (λ i d low same. let above = least i d low in omega (arith, above, same, until)))

  gap : below listed a ≡ below listed it.next
  gap = ap (below listed) (omega (arith, not_below))
      ∙ below_gap listed it.next (a - it.next)
      (λ k from until. unlisted query.selection rows numbers k (between k from (omega (arith, until, not_below))))

  -- the accounts up to this one
  up_to : below listed (a + 1) ≡ below listed it.next ++ cond (list_any (is_selected query.selection) own) (a ∷ []) []
  up_to = below_more listed a
      ∙ ap (λ l. l ++ cond (listed a) (a ∷ []) []) gap
      ∙ ap (λ b. below listed it.next ++ cond b (a ∷ []) []) (ap (list_any (is_selected query.selection)) own_are)

  abbrev texts_of : List ℕ → List ℕ
  texts_of accounts = parts_text query rows accounts

  texts-append : (xs ys : List ℕ) → texts_of (xs ++ ys) ≡ texts_of xs ++ texts_of ys
  texts-append xs ys = flat_map-append (λ k. account_text query k (postings_of k rows)) xs ys

  one_text : account_text query a own ≡ texts_of (a ∷ [])
  one_text = ap (account_text query a) (sym own_are) ∙ sym (append-nil (account_text query a (postings_of a rows)))

  -- its statement was written, if it has one
  pub next_part : (new : Option (List ℕ)) → WritesListed query a own mid new (Ok tt)
      → PartsSoFar query rows later old new
  next_part new listed_is = record {
    next = a + 1;
    done = it.done ++ own;
    are = rows_are ∙ sym (append_assoc it.done own later);
    of_done = All-append IsOfAccount it.done own it.of_done (All-take IsOfAccount count left it.of_left);
    of_left = All-drop IsOfAccount count left it.of_left;
    before = All-append (λ s. account_of s < a + 1) it.done own
        (λ i d low. let under = it.before i d low in omega (arith, under, not_below))
        (λ i d low. let same = of_own i d low in omega (arith, same));
    after = λ i d low. let above = of_later i d low in omega (arith, above);
    rise = IsNonDecreasingBy-drop account_of count left it.rise;
    wrote = same_all old new
        (sym (texts-append (below listed it.next) (cond (list_any (is_selected query.selection) own) (a ∷ []) []))
        ∙ ap texts_of (sym up_to))
        (Appends-trans old mid new _ _ it.wrote (by_test (list_any (is_selected query.selection) own) listed_is));
  }
    where
      by_test : (b : Bool) → MatchBool b (WritesAccount query a own mid new (Ok tt)) ((let r : Result (Unit {0}) ReportFault = Ok tt in r ≡ Ok tt) × (new ≡ mid))
          → Appends mid new (texts_of (cond b (a ∷ []) []))
      by_test true wrote = same_all mid new one_text wrote
      by_test false idle = subst (λ (o : Option (List ℕ)). Appends mid o []) (sym idle.1) (Appends-nil mid)

  -- ---- it wasn't, or not all of it

  low_enough : a ≤ MAX_ACCOUNT
  low_enough = let is = account_low first (subst IsOfAccount head (it.of_left 0 first nonempty)) in omega (arith, is)

  -- the accounts after it
  others : (more : List ℕ) × (below listed (MAX_ACCOUNT + 1) ≡ below listed (a + 1) ++ more)
  others =
      let begins = below_begins listed (a + 1) (MAX_ACCOUNT - a) in
      (begins.0, ap (below listed) (omega (arith, low_enough)) ∙ begins.1)

  all_of : list_any (is_selected query.selection) own ≡ true
      → below listed (MAX_ACCOUNT + 1) ≡ (below listed it.next ++ a ∷ []) ++ others.0
  all_of is = others.1 ∙ ap (λ l. l ++ others.0) (up_to ∙ ap (λ b. below listed it.next ++ cond b (a ∷ []) []) is)

  pub last_part : (new : Option (List ℕ)) (fault : ReportFault) → WritesListed query a own mid new (Err fault)
      → WritesParts query rows old new (Err fault)
  unfolding listing
  last_part new fault = by_test (list_any (is_selected query.selection) own) refl
    where
      listing_is : AreListed query.selection rows (below listed (MAX_ACCOUNT + 1))
      listing_is = (listing query.selection rows numbers).1

      failed : (f : ReportFault) → list_any (is_selected query.selection) own ≡ true
          → WritesAccount query a own mid new (Err f) → WritesParts query rows old new (Err f)
      failed Write is part = (
        below listed (MAX_ACCOUNT + 1),
        listing_is,
        same_part old new
            (ap (λ l. l ++ texts_of others.0) (sym (texts-append (below listed it.next) (a ∷ [])))
            ∙ sym (texts-append (below listed it.next ++ a ∷ []) others.0) ∙ ap texts_of (sym (all_of is)))
            (first_part old new (texts_of (below listed it.next) ++ texts_of (a ∷ [])) (texts_of others.0)
            (then_part old mid new (texts_of (below listed it.next)) (texts_of (a ∷ [])) it.wrote
            (same_part mid new one_text part))),
      )
      failed (Bank (Damaged Balance)) is stops = (
        below listed it.next,
        a,
        others.0,
        subst (λ l. AreListed query.selection rows l)
            (all_of is ∙ append_assoc (below listed it.next) (a ∷ []) others.0) listing_is,
        record {
          given = stops.given;
          next = stops.next;
          more = stops.more;
          are = own_are ∙ stops.are;
          beyond = stops.beyond;
          wrote = Appends-trans old mid new (texts_of (below listed it.next)) _ it.wrote
              (same_all mid new (ap (λ rs. text_up_to query a rs stops.given) (sym own_are)) stops.wrote);
        },
      )
      failed other is never = absurd never

      by_test : (b : Bool) → list_any (is_selected query.selection) own ≡ b
          → MatchBool b (WritesAccount query a own mid new (Err fault)) ((let r : Result (Unit {0}) ReportFault = Err fault in r ≡ Ok tt) × (new ≡ mid))
          → WritesParts query rows old new (Err fault)
      by_test true is wrote = failed fault is wrote
      by_test false is idle = absurd (let none = idle.0 in cc)
