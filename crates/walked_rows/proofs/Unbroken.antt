-- The rows of the tables of a log are broken in none, and which row is broken where a pair or a kept request is.
use Rattle.std.proofs.Common.{◌≡◌, ◌≤◌, ◌++◌, ◌∙◌, ◌⊎◌, ℕ, pos, Bool, true, List, [], ◌∷◌, map, find, Some}
use Rattle.std.proofs.Common.{Ok, refl, sym, ap, subst, inl, inr, arith}
use Rattle.std.specs.{Prelude.◌&&◌, Prelude.nat_le, Prelude.nat_abs, Prelude.IsSomeAnd, Prelude.⊤}
use Rattle.std.specs.{List.AllByRecursion, List.Contains}
use Rattle.std.proofs.lemmas.{Bool.cases_Bool, Bool.Decides.nat_tests}
use Rattle.std.proofs.lemmas.List.Elements.{All-contains_itself, recursion_from_All}
use Rattle.message_records.proofs.References.{reference_again}
use Rattle.message_records.specs.believed.{Outcomes.code_of, Ranges.whole_within}
use Rattle.message_records.specs.declared.limits.TheConstants.{MAX_MOMENT}
use Rattle.posting_rules.specs.believed.{Commands.Command, Commands.AreCommands, Damage.IsSoundReference, Damage.IsUndamaged}
use Rattle.posting_rules.specs.believed.Tables.{AreTablesOf, Tables}
use Rattle.posting_rules.specs.declared.fault.Rule.{Rule}
use Rattle.posting_rules.specs.declared.rows.ReferenceRow.{ReferenceRow}
use Rattle.posting_rules.specs.declared.limits.TheConstants.{LAST_BRANCH, LAST_KEY, MAX_DECIDED}
use Rattle.posting_rules.proofs.Undamaged.{undamaged}
use Rattle.sql_meanings.specs.believed.Entries.{Entry}
use Rattle.store_rows.specs.believed.SeveralRows.{given}
use Rattle.store_rows.specs.believed.View as view
use Rattle.store_rows.specs.declared.metas.TheConstants.{VERSION}
use Rattle.walked_rows.specs.{Broken.HasBroken, Kinds.Kind, StepOutcomes.BreaksBy}
use Rattle.walked_rows.specs.KeptRows.{BreaksKept, kept_all, kept_with}
use Rattle.walked_rows.specs.Pairs.{BreaksPair, pair_with, paired}
use Rattle.walked_rows.specs.References.{BreaksReference, reference_kind}
use Rattle.walked_rows.specs.Stored.{account_kind, branch_kind, posting_entry, posting_kind, posting_of, request_kind}
use Rattle.walked_rows.specs.Stored.{request_of, teller_kind}
use Rattle.walked_rows.specs.StoredBeside.{closing_kind, floor_kind, meta_kind}
use Rattle.walked_rows.specs.declared.limits.TheConstants.{LAST_ACCOUNT, LAST_TELLER, MAX_COUNTED}
use Rattle.walked_rows.specs.declared.postings.StoredPosting.{StoredPosting}

-- ---- lists

abbrev first_of : {X : Type 0} → X → List X → X
first_of x [] = x
first_of x (y ∷ ys) = y

abbrev rest_of : {X : Type 0} → List X → List X
rest_of [] = []
rest_of (x ∷ xs) = xs

-- what stands among images is the image of what stands there
pub split_map : {X Y : Type 0} (f : X → Y) (xs : List X) (before : List Y) (y : Y) (more : List Y)
    → map f xs ≡ before ++ y ∷ more
    → (front : List X) × (x : X) × (rest : List X) × (xs ≡ front ++ x ∷ rest) × (y ≡ f x)
split_map f [] [] y more same = absurd cc
split_map f [] (z ∷ before) y more same = absurd cc
split_map f (x ∷ xs) [] y more same = ([], x, xs, refl, sym (ap (first_of y) same))
split_map f (x ∷ xs) (z ∷ before) y more same =
    let it = split_map f xs before y more (ap rest_of same) in
    (x ∷ it.0, it.1, it.2, ap (λ l. x ∷ l) it.3, it.4)

pub all_after : {X : Type 0} (P : X → Type 0) (xs ys : List X) → AllByRecursion P (xs ++ ys)
    → AllByRecursion P ys
all_after P [] ys all = all
all_after P (x ∷ xs) ys all = all_after P xs ys all.1

-- ---- which row is broken

pub found_broken : (Breaks : Entry → Type 0) (p : Entry → Bool) (es : List Entry)
    → IsSomeAnd (find p es) Breaks → HasBroken Breaks es
found_broken Breaks p [] h = absurd h
found_broken Breaks p (e ∷ es) h = elim (cases_Bool (p e)) [
  | inl t ↦ ([], e, es, refl, rw t at h)
  | inr f ↦ let it = found_broken Breaks p es (rw f at h) in
      (e ∷ it.0, it.1, it.2, ap (λ l. e ∷ l) it.3, it.4)
]

-- of broken pairs the row or the one beside it is broken
pub pair_broken : (Breaks BreaksOther : Rule → Entry → Type 0) (rule : Rule) (os rs : List Entry)
    → HasBroken (BreaksPair Breaks BreaksOther rule) (paired os rs)
    → HasBroken (Breaks rule) rs ⊎ HasBroken (BreaksOther rule) os
pair_broken Breaks BreaksOther rule os rs h =
    let it = split_map (pair_with os) rs h.0 h.1 h.2 h.3 in
    broken it.1 it.0 it.2 it.3 (subst (λ p. BreaksPair Breaks BreaksOther rule p) it.4 h.4)
  where
    broken : (e : Entry) (front rest : List Entry) → rs ≡ front ++ e ∷ rest
        → BreaksPair Breaks BreaksOther rule (pair_with os e)
        → HasBroken (Breaks rule) rs ⊎ HasBroken (BreaksOther rule) os
    broken e front rest is (inl own) = inl (front, e, rest, is, own)
    broken e front rest is (inr other) = inr (found_broken (BreaksOther rule) _ os other)

-- of broken kept requests the row is, or the posting or the reference under an ordinal
pub kept_broken : (rule : Rule) (ps fs rs : List Entry) → HasBroken (BreaksKept rule) (kept_all ps fs rs)
    → HasBroken (BreaksBy request_of rule) rs ⊎ HasBroken (BreaksBy posting_of rule) ps
    ⊎ HasBroken (BreaksReference rule) fs
kept_broken rule ps fs rs h =
    let it = split_map (kept_with ps fs) rs h.0 h.1 h.2 h.3 in
    broken it.1 it.0 it.2 it.3 (subst (λ k. BreaksKept rule k) it.4 h.4)
  where
    broken : (e : Entry) (front rest : List Entry) → rs ≡ front ++ e ∷ rest → BreaksKept rule (kept_with ps fs e)
        → HasBroken (BreaksBy request_of rule) rs ⊎ HasBroken (BreaksBy posting_of rule) ps
        ⊎ HasBroken (BreaksReference rule) fs
    broken e front rest is (inl (inl own)) = inl (front, e, rest, is, own)
    broken e front rest is (inl (inr posting)) = inr (inl (found_broken (BreaksBy posting_of rule) _ ps posting))
    broken e front rest is (inr reference) = inr (inr (found_broken (BreaksReference rule) _ fs reference.1))

-- ---- none of a log's is

pub in_range : (least most n : ℕ) → least ≤ n → n ≤ most → whole_within least most n ≡ Some n
in_range least most n low high = let test : (nat_le least n && nat_le n most) ≡ true =
    grind (arith, nat_tests) in rw test refl

pub reads_posting : (r : StoredPosting) → 1 ≤ r.ordinal → r.ordinal ≤ MAX_DECIDED → r.moment ≤ MAX_MOMENT
    → posting_of (given (posting_entry r)) ≡ Ok r
reads_posting r some most moment =
    rw (in_range 1 MAX_DECIDED r.ordinal some most, in_range 0 MAX_MOMENT r.moment (omega arith) moment) refl

-- rows that can be read aren't
pub none_broken : {X R : Type 0} (entry : X → Entry) (f : X → R) (kind : Kind R) (broken : Rule) (P : X → Type 0)
    → ((x : X) → P x → kind.reading (given (entry x)) ≡ Ok (f x))
    → (xs : List X) → ((x : X) → Contains xs x → P x) → HasBroken (BreaksBy kind.reading broken) (map entry xs)
    → ⊥
none_broken entry f kind broken P reads xs each breaks =
    let all = recursion_from_All P xs (λ k d low. each _ (All-contains_itself xs k d low)) in
    let it = split_map entry xs breaks.0 breaks.1 breaks.2 breaks.3 in
    let here = all_after P it.0 (it.1 ∷ it.2) (subst (AllByRecursion P) it.3 all) in
    let none = sym (reads it.1 here.0) ∙ subst (BreaksBy kind.reading broken) it.4 breaks.4 in cc

module _ (t : Tables) (log : List Command) (are : AreCommands log) (shows : AreTablesOf t log) (broken : Rule) where
  sound : IsUndamaged t
  sound = undamaged t log are shows

  pub no_branch : HasBroken (BreaksBy branch_kind.reading broken) (map view.branch_entry t.branches) → ⊥
  no_branch = none_broken view.branch_entry
      (λ r. record { branch = r.branch; accounts = r.accounts; balance = r.balance }) branch_kind broken _
      (λ r s. rw (in_range 1 LAST_BRANCH r.branch s.some s.most, in_range 1 MAX_COUNTED r.accounts s.few s.many) refl)
      t.branches sound.each_branch

  pub no_teller : HasBroken (BreaksBy teller_kind.reading broken) (map view.teller_entry t.tellers) → ⊥
  no_teller = none_broken view.teller_entry (λ r. record { teller = r.teller; balance = r.balance }) teller_kind broken _
      (λ r s. rw (in_range 1 LAST_TELLER r.teller s.some s.most) refl) t.tellers sound.each_teller

  pub no_account : HasBroken (BreaksBy account_kind.reading broken) (map view.account_entry t.accounts) → ⊥
  no_account = none_broken view.account_entry (λ r. record { account = r.account; balance = r.balance }) account_kind
      broken _ (λ r s. rw (in_range 1 LAST_ACCOUNT r.account s.some s.most) refl) t.accounts sound.each_account

  pub no_posting : HasBroken (BreaksBy posting_kind.reading broken) (map view.history_entry t.history) → ⊥
  no_posting = none_broken view.history_entry (λ r. record {
    ordinal = r.ordinal;
    account = pos r.account;
    teller = pos r.teller;
    branch = pos r.branch;
    delta = r.delta;
    moment = r.moment;
  }) posting_kind broken _ (λ r s. reads_posting _ s.ordinal_above s.ordinal s.moment) t.history sound.each_posting

  pub no_request : HasBroken (BreaksBy request_kind.reading broken) (map view.request_entry t.requests) → ⊥
  no_request = none_broken view.request_entry (λ r. record {
    ordinal = r.ordinal;
    teller = pos r.teller;
    number = pos r.number;
    account = pos r.decision.account;
    branch = pos r.decision.branch;
    delta = r.decision.delta;
    outcome = pos (code_of r.decision.outcome);
    balance = r.decision.balance;
  }) request_kind broken _ (λ r s. rw (in_range 1 MAX_DECIDED r.ordinal s.ordinal_above s.ordinal) refl)
      t.requests sound.each_request

  pub no_floor : HasBroken (BreaksBy floor_kind.reading broken) (map view.floor_entry t.floors) → ⊥
  no_floor = none_broken view.floor_entry (λ r. record { branch = r.branch; lowest = r.lowest }) floor_kind broken _
      (λ r s. rw (in_range 1 LAST_BRANCH r.branch s.some s.most) refl) t.floors sound.each_floor

  pub no_closing : HasBroken (BreaksBy closing_kind.reading broken) (map view.closing_entry t.closings) → ⊥
  no_closing = none_broken view.closing_entry (λ r. record { last = r.last; first = pos r.first }) closing_kind broken _
      (λ r s. rw (in_range 0 LAST_KEY r.last (omega arith) s.last) refl) t.closings sound.each_closing

  pub no_reference : HasBroken (BreaksBy reference_kind.reading broken) (map view.reference_entry t.references) → ⊥
  no_reference = none_broken view.reference_entry (λ r. record { ordinal = r.ordinal; reference = r.reference })
      reference_kind broken _
      (λ r s. rw (in_range 1 MAX_DECIDED r.ordinal s.ordinal_above s.ordinal, reference_again r.reference s.reference) refl)
      t.references sound.each_reference

  pub no_meta : HasBroken (BreaksBy meta_kind.reading broken)
      (view.meta_entry (pos (nat_abs VERSION)) t.decided ∷ []) → ⊥
  no_meta = none_broken (view.meta_entry (pos (nat_abs VERSION)))
      (λ n. record { id = 1; version = pos (nat_abs VERSION); decided = pos n }) meta_kind broken (λ n. ⊤) (λ n s. refl)
      (t.decided ∷ []) (λ n has. tt)

  -- nor is the text of a reference
  pub no_text : HasBroken (BreaksReference broken) (map view.reference_entry t.references) → ⊥
  no_text breaks =
      let P = λ (r : ReferenceRow). IsSoundReference r in
      let rs = t.references in
      let all = recursion_from_All P rs (λ k d low. sound.each_reference _ (All-contains_itself rs k d low)) in
      let it = split_map view.reference_entry rs breaks.0 breaks.1 breaks.2 breaks.3 in
      let here = all_after P it.0 (it.1 ∷ it.2) (subst (AllByRecursion P) it.3 all) in
      let broke = subst (BreaksReference broken) it.4 breaks.4 in
      let it = rw (reference_again it.1.reference here.0.reference) at broke in cc

  -- no kept request is
  pub no_kept : HasBroken (BreaksKept broken) (kept_all (map view.history_entry t.history)
      (map view.reference_entry t.references) (map view.request_entry t.requests)) → ⊥
  no_kept h = elim (kept_broken broken (map view.history_entry t.history) (map view.reference_entry t.references)
      (map view.request_entry t.requests) h) [
        | inl own ↦ no_request own
        | inr (inl posting) ↦ no_posting posting
        | inr (inr reference) ↦ no_text reference
      ]
