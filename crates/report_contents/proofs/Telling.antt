-- The audit says that stored tables are consistent exactly where they are.
use Rattle.std.proofs.Common.{◌≡◌, ℕ, true, false, not, List, [], ◌∷◌, map, filter, length, Option, Some, None, refl}
use Rattle.std.proofs.Common.{ap, subst, ◌∙◌}
use Rattle.std.specs.{Prelude.is_some, Prelude.nat_eq, Ordering.int_eq, List.AllByRecursion}
use Rattle.std.proofs.lemmas.Bool.{not-false, not_from_true}
use Rattle.walked_rows.proofs.RisingRows.{found_under}
use Rattle.walked_rows.specs.declared.{branches.StoredBranch.StoredBranch, postings.StoredPosting.StoredPosting}
use Rattle.walked_rows.specs.declared.{requests.StoredRequest.StoredRequest}
use Rattle.report_contents.specs.{declared.audit.Audit.Audit, Stored.StoredTables}
use Rattle.report_contents.specs.Audit.{is_matched, request_under, posting_under, is_odd_request, is_odd_posting}
use Rattle.report_contents.specs.Audit.{unmatched, lines_of, line_of, differs, teller_sum, request_ordinal}
use Rattle.report_contents.specs.Audit.{posting_ordinal, is_sound, audit_of}
use Rattle.report_contents.specs.Consistency.{TellsOfStored, IsSoundFile, HasOrdinals}
use Rattle.report_contents.proofs.Lists.{five, all_five, same_int, int_same, none_pass, pass_none, no_map, no_parts}
use Rattle.report_contents.proofs.{EachOrdinal.each_found, Lists.empty_list}

module _ (t : StoredTables) where
  -- ---- ordinals

  matched_by : (o : ℕ) (a : Option StoredRequest) (b : Option StoredPosting) → request_under t o ≡ a
      → posting_under t o ≡ b
      → AllByRecursion (λ r. is_odd_request t r ≡ false) t.requests
      → AllByRecursion (λ h. is_odd_posting t h ≡ false) t.history → is_matched a b ≡ true
  matched_by o None None p q rs hs = refl
  matched_by o (Some r) b p q rs hs =
      let it = found_under request_ordinal (λ r. is_odd_request t r ≡ false) t.requests o r p rs in
      subst (λ x. is_matched (Some r) x ≡ true) (ap (posting_under t) it.0 ∙ q) (not-false _ it.1)
  matched_by o None (Some h) p q rs hs =
      let it = found_under posting_ordinal (λ h. is_odd_posting t h ≡ false) t.history o h q hs in
      let none : request_under t h.ordinal ≡ None = ap (request_under t) it.0 ∙ p in
      absurd (let odd = rw none at it.1 in cc)

  all_matched : unmatched t ≡ [] → (o : ℕ) → is_matched (request_under t o) (posting_under t o)
      ≡ true
  all_matched none o =
      let parts = no_parts (map request_ordinal (filter (is_odd_request t) t.requests))
      (map posting_ordinal (filter (is_odd_posting t) t.history)) none in
      matched_by o (request_under t o) (posting_under t o) refl refl
      (none_pass (is_odd_request t) t.requests
      (no_map request_ordinal (filter (is_odd_request t) t.requests) parts.0))
      (none_pass (is_odd_posting t) t.history
      (no_map posting_ordinal (filter (is_odd_posting t) t.history) parts.1))

  there : (a : Option StoredRequest) (h : StoredPosting) → is_matched a (Some h) ≡ true
      → not (is_some a) ≡ false
  there None h is = absurd cc
  there (Some r) h is = refl

  none_odd : HasOrdinals t → ((o : ℕ) → is_matched (request_under t o) (posting_under t o) ≡ true)
      → unmatched t ≡ []
  none_odd keys each =
      let rs = each_found request_ordinal (λ r. is_odd_request t r ≡ false) t.requests keys.requests
      (λ r is. not_from_true _ (subst (λ x. is_matched x (posting_under t r.ordinal) ≡ true) is
      (each r.ordinal))) in
      let hs = each_found posting_ordinal (λ h. is_odd_posting t h ≡ false) t.history keys.history
      (λ h is. there (request_under t h.ordinal) h
      (subst (λ x. is_matched (request_under t h.ordinal) x ≡ true) is (each h.ordinal))) in
      rw (pass_none (is_odd_request t) t.requests rs, pass_none (is_odd_posting t) t.history hs) refl

  -- ---- branches

  no_lines : (bs : List StoredBranch) → filter differs (map (line_of t.tellers) bs) ≡ []
      → AllByRecursion (λ r. teller_sum t.tellers r.branch ≡ r.balance) bs
  no_lines bs h = go bs (none_pass differs (map (line_of t.tellers) bs) h)
    where
      go : (bs : List StoredBranch)
          → AllByRecursion (λ l. differs l ≡ false) (map (line_of t.tellers) bs)
          → AllByRecursion (λ r. teller_sum t.tellers r.branch ≡ r.balance) bs
      go [] all = tt
      go (b ∷ bs) all = (same_int _ _ (not-false _ all.0), go bs all.1)

  lines_none : (bs : List StoredBranch)
      → AllByRecursion (λ r. teller_sum t.tellers r.branch ≡ r.balance) bs
      → filter differs (map (line_of t.tellers) bs) ≡ []
  lines_none bs all = pass_none differs (map (line_of t.tellers) bs) (go bs all)
    where
      go : (bs : List StoredBranch) → AllByRecursion (λ r. teller_sum t.tellers r.branch ≡ r.balance) bs
          → AllByRecursion (λ l. differs l ≡ false) (map (line_of t.tellers) bs)
      go [] all = tt
      go (b ∷ bs) all = (not_from_true _ (int_same _ _ all.0), go bs all.1)

-- the audit says so exactly where it is so
pub tells : TellsOfStored
tells t keys = (so, back)
  where
    A : Audit
    A = audit_of t

    so : is_sound (audit_of t) ≡ true → IsSoundFile t
    so h =
        let it = five (int_eq A.teller_sum A.account_sum) (int_eq A.branch_sum A.account_sum)
        (int_eq A.history_sum A.account_sum) (nat_eq (length A.lines) 0) (nat_eq A.unmatched 0) h in
        record {
          tellers = same_int A.teller_sum A.account_sum it.0;
          branches = same_int A.branch_sum A.account_sum it.1;
          each_branch = no_lines t t.branches (empty_list (lines_of t.tellers t.branches) it.3);
          matched = all_matched t (empty_list (unmatched t) it.4);
          history = same_int A.history_sum A.account_sum it.2;
        }

    back : IsSoundFile t → is_sound (audit_of t) ≡ true
    back s =
        all_five (int_eq A.teller_sum A.account_sum) (int_eq A.branch_sum A.account_sum)
        (int_eq A.history_sum A.account_sum) (nat_eq (length A.lines) 0) (nat_eq A.unmatched 0)
        (int_same A.teller_sum A.account_sum s.tellers) (int_same A.branch_sum A.account_sum s.branches)
        (int_same A.history_sum A.account_sum s.history)
        (ap (λ l. nat_eq (length l) 0) (lines_none t t.branches s.each_branch))
        (ap (λ l. nat_eq (length l) 0) (none_odd t keys s.matched))
