-- The same of tables of a bank.
use Rattle.std.proofs.Common.{◌≡◌, ℕ, pos, Bool, true, eqb, List, [], ◌∷◌, map, filter, Option, Some, None, refl, sym}
use Rattle.std.proofs.Common.{ap, subst, ◌∙◌, inl, inr, arith}
use Rattle.std.specs.Prelude.{◌&&◌, nat_eq, nat_le, option_map}
use Rattle.std.specs.{List.AllByRecursion, List.IsDistinct, Ordering.int_eq}
use Rattle.std.proofs.lemmas.{Bool.cases_Bool, Int.ints}
use Rattle.message_records.specs.{believed.Outcomes.code_of, believed.Outcomes.has_balance}
use Rattle.message_records.specs.{declared.records.Outcome.Outcome}
use Rattle.message_records.specs.declared.records.Outcome.TheVariants.{Posted}
use Rattle.posting_rules.specs.{declared.rows.HistoryRow.HistoryRow, believed.Numbering.branch_of_teller}
use Rattle.posting_rules.specs.declared.rows.{RequestRow.RequestRow, TellerRow.TellerRow, BranchRow.BranchRow}
use Rattle.posting_rules.specs.believed.Laws.{total, tellers_of, Match, IsConsistent}
use Rattle.posting_rules.specs.believed.LookUps.{balance_of_teller, balance_of_account, balance_of_branch}
use Rattle.posting_rules.specs.believed.Tables.{Tables, row_at, history_key, request_key}
use Rattle.report_contents.specs.Stored.{StoredTables, stored, posting_stored, request_stored, teller_stored}
use Rattle.report_contents.specs.Stored.{branch_stored, account_stored}
use Rattle.report_contents.specs.Audit.{is_matched, teller_sum, teller_balance, branch_balance, account_balance}
use Rattle.report_contents.specs.Audit.{delta_of, request_under, posting_under, posting_ordinal, request_ordinal}
use Rattle.report_contents.specs.Consistency.{TellsOfTables, IsSoundFile, HasOrdinals}
use Rattle.report_contents.proofs.{Lists.one_four, Lists.all_one_four, Lists.same_int, Lists.int_same, Telling.tells}

-- a value of each row
values : {X Y Z : Type 0} (f : X → Y) (v : Y → Z) (w : X → Z) → ((x : X) → v (f x) ≡ w x)
    → (xs : List X) → map v (map f xs) ≡ map w xs
values f v w same [] = refl
values f v w same (x ∷ xs) = rw (same x, values f v w same xs) refl

-- the row under a key
under : {X Y : Type 0} (f : X → Y) (v : Y → ℕ) (w : X → ℕ) → ((x : X) → v (f x) ≡ w x)
    → (xs : List X) (o : ℕ) → row_at v (map f xs) o ≡ option_map f (row_at w xs o)
under f v w same [] o = refl
under f v w same (x ∷ xs) o =
    rw (same x) (elim (cases_Bool (eqb (w x) o)) [
      | inl t ↦ rw t refl
      | inr g ↦ rw g (under f v w same xs o)
    ])

tellers_kept : (b : ℕ) (rows : List TellerRow)
    → filter (λ r. nat_le 1 r.teller && nat_eq (branch_of_teller r.teller) b) (map teller_stored rows)
    ≡ map teller_stored (tellers_of b rows)
tellers_kept b [] = refl
tellers_kept b (r ∷ rows) =
    elim (cases_Bool (nat_le 1 r.teller && nat_eq (branch_of_teller r.teller) b)) [
      | inl t ↦ rw t (ap (λ l. teller_stored r ∷ l) (tellers_kept b rows))
      | inr f ↦ rw f (tellers_kept b rows)
    ]

sum_is : (b : ℕ) (rows : List TellerRow) → teller_sum (map teller_stored rows) b
    ≡ total (map balance_of_teller (tellers_of b rows))
sum_is b rows = ap (λ l. total (map teller_balance l)) (tellers_kept b rows)
    ∙ ap total (values teller_stored teller_balance balance_of_teller (λ x. refl) (tellers_of b rows))

-- ---- ordinals

posted_is : (o : Outcome) → int_eq (pos (code_of o)) (pos 0) ≡ has_balance o
posted_is Posted = refl
posted_is other = refl

same_pos : (a b : ℕ) → int_eq (pos a) (pos b) ≡ true → a ≡ b
same_pos a b h = grind (arith, ints, h)

pos_same : (a b : ℕ) → a ≡ b → int_eq (pos a) (pos b) ≡ true
pos_same a b h = grind (arith, ints, h)

abbrev both : Option RequestRow → Option HistoryRow → Bool
both a b = is_matched (option_map request_stored a) (option_map posting_stored b)

match_is : (a : Option RequestRow) (b : Option HistoryRow) → both a b ≡ true → Match a b
match_is None None h = tt
match_is (Some r) None h = λ posted. absurd (let e = rw (posted_is r.decision.outcome, posted) at h in cc)
match_is None (Some x) h = absurd cc
match_is (Some r) (Some x) h =
    let it = one_four (int_eq (pos (code_of r.decision.outcome)) (pos 0))
    (int_eq (pos x.account) (pos r.decision.account)) (int_eq (pos x.teller) (pos r.teller))
    (int_eq (pos x.branch) (pos r.decision.branch)) (int_eq x.delta r.decision.delta) h in (
      sym (posted_is r.decision.outcome) ∙ it.0,
      same_pos _ _ it.1,
      same_pos _ _ it.2,
      same_pos _ _ it.3,
      same_int _ _ it.4,
    )

is_match : (a : Option RequestRow) (b : Option HistoryRow) → Match a b → both a b ≡ true
is_match None None m = refl
is_match (Some r) None m =
    elim (cases_Bool (has_balance r.decision.outcome))
    [ inl t ↦ absurd (m t) | inr f ↦ rw (posted_is r.decision.outcome, f) refl ]
is_match None (Some x) m = absurd m
is_match (Some r) (Some x) m =
    all_one_four (int_eq (pos (code_of r.decision.outcome)) (pos 0)) (int_eq (pos x.account) (pos r.decision.account))
    (int_eq (pos x.teller) (pos r.teller)) (int_eq (pos x.branch) (pos r.decision.branch))
    (int_eq x.delta r.decision.delta)
    (posted_is r.decision.outcome ∙ m.0) (pos_same _ _ m.1) (pos_same _ _ m.2) (pos_same _ _ m.3)
    (int_same _ _ m.4)

module _ (t : Tables) where
  abbrev f : StoredTables
  f = stored t

  accounts_are : map account_balance f.accounts ≡ map balance_of_account t.accounts
  accounts_are = values account_stored account_balance balance_of_account (λ x. refl) t.accounts

  tellers_are : map teller_balance f.tellers ≡ map balance_of_teller t.tellers
  tellers_are = values teller_stored teller_balance balance_of_teller (λ x. refl) t.tellers

  branches_are : map branch_balance f.branches ≡ map balance_of_branch t.branches
  branches_are = values branch_stored branch_balance balance_of_branch (λ x. refl) t.branches

  history_is : map delta_of f.history ≡ map Rattle.posting_rules.specs.believed.Laws.delta_of t.history
  history_is = values posting_stored delta_of Rattle.posting_rules.specs.believed.Laws.delta_of (λ x. refl) t.history

  under_both : (o : ℕ) → is_matched (request_under f o) (posting_under f o)
      ≡ both (row_at request_key t.requests o) (row_at history_key t.history o)
  under_both o = rw (
    under request_stored request_ordinal request_key (λ x. refl) t.requests o,
    under posting_stored posting_ordinal history_key (λ x. refl) t.history o,
  ) refl

  to : (bs : List BranchRow)
      → AllByRecursion (λ r. teller_sum f.tellers r.branch ≡ r.balance) (map branch_stored bs)
      → AllByRecursion (λ r. total (map balance_of_teller (tellers_of r.branch t.tellers)) ≡ r.balance)
      bs
  to [] all = tt
  to (b ∷ bs) all = (sym (sum_is b.branch t.tellers) ∙ all.0, to bs all.1)

  from : (bs : List BranchRow)
      → AllByRecursion (λ r. total (map balance_of_teller (tellers_of r.branch t.tellers)) ≡ r.balance)
      bs → AllByRecursion (λ r. teller_sum f.tellers r.branch ≡ r.balance) (map branch_stored bs)
  from [] all = tt
  from (b ∷ bs) all = (sum_is b.branch t.tellers ∙ all.0, from bs all.1)

  consistent : IsSoundFile f → IsConsistent t
  consistent s = record {
    tellers = ap total (sym tellers_are) ∙ s.tellers ∙ ap total accounts_are;
    branches = ap total (sym branches_are) ∙ s.branches ∙ ap total accounts_are;
    each_branch = to t.branches s.each_branch;
    matched = λ o. match_is _ _ (sym (under_both o) ∙ s.matched o);
    history = ap total (sym history_is) ∙ s.history ∙ ap total accounts_are;
  }

  sound : IsConsistent t → IsSoundFile f
  sound c = record {
    tellers = ap total tellers_are ∙ c.tellers ∙ ap total (sym accounts_are);
    branches = ap total branches_are ∙ c.branches ∙ ap total (sym accounts_are);
    each_branch = from t.branches c.each_branch;
    matched = λ o. under_both o ∙ is_match _ _ (c.matched o);
    history = ap total history_is ∙ c.history ∙ ap total (sym accounts_are);
  }

-- the audit of tables says that they are consistent exactly where they are
pub tells_of_tables : TellsOfTables
tells_of_tables t hs rs =
    let keys : HasOrdinals (stored t) = record {
      requests = subst (IsDistinct nat_eq)
          (sym (values request_stored request_ordinal request_key (λ x. refl) t.requests)) rs;
      history = subst (IsDistinct nat_eq)
          (sym (values posting_stored posting_ordinal history_key (λ x. refl) t.history)) hs;
    } in
    let it = tells (stored t) keys in
    (λ h. consistent t (it.0 h), λ c. it.1 (sound t c))
