-- Tables that carry others on show logs that do.
use Rattle.std.proofs.Common.{◌≡◌, ◌≤◌, ◌<◌, ◌∙◌, ◌⊎◌, ℕ, Bool, true, false, cond, eqb, leb, List, [], ◌∷◌, map}
use Rattle.std.proofs.Common.{Option, Some, None, refl, sym, ap, inl, inr, arith}
use Rattle.std.specs.Prelude.{ℤ, pos, is_some, ◌&&◌, ◌||◌}
use Rattle.std.specs.Option.{option_map}
use Rattle.std.specs.List.{AllByRecursion, find, list_any}
use Rattle.std.proofs.lemmas.{Bool.and_parts, Bool.eq-eqb, Bool.eqb-true, Bool.leb-true}
use Rattle.std.proofs.lemmas.Bool.Decides.{nat_tests}
use Rattle.message_records.specs.declared.limits.TheConstants.{MAX_NUMBER}
use Rattle.posting_rules.specs.declared.rows.{RequestRow.RequestRow}
use Rattle.posting_rules.specs.believed.ClosedBooks.{StandAlike, used}
use Rattle.posting_rules.specs.believed.Closings.{closed, closings, is_closed_in, meets}
use Rattle.posting_rules.specs.believed.Commands.{Command, Terms, is_account_open, is_teller_open, number_key, opened}
use Rattle.posting_rules.specs.believed.Entries.{account_balance, branch_balance, decided, kept, teller_balance}
use Rattle.posting_rules.specs.believed.LookUps.{balance_of_account, balance_of_branch, balance_of_teller, floor_in}
use Rattle.posting_rules.specs.believed.LookUps.{kept_of_row, lowest_of, terms_of_branch}
use Rattle.posting_rules.specs.believed.Numbering.{branch_of_teller}
use Rattle.posting_rules.specs.believed.Tables.{AreTablesOf, Tables, branch_key, branch_row_of, row_at, teller_row_of}
use Rattle.posting_rules.proofs.Closings.{closed_shown, closing_keys}
use Rattle.posting_rules.proofs.Keyed.{by_test}
use Rattle.posting_rules.proofs.Looked.{account_balance_shown, terms_shown}
use Rattle.posting_rules.proofs.NamedOpen.{all_name_open}
use Rattle.posting_rules.proofs.NoBalance.{account_none, branch_none, teller_none}
use Rattle.posting_rules.proofs.Requests.{are_new, kept_shown}
use Rattle.carried_books.specs.Carrying.{CarriesShown, is_of_desk, SameStanding, number_of, used_runs}
use Rattle.posting_rules.proofs.Runs.{any-append}

-- ---- balances

-- what is open is shown, and what isn't has no balance
opened_same : (open_one open_two : Bool) (x y : ℤ) → cond open_two (Some y) None ≡ cond open_one (Some x) None
    → (open_one ≡ false → x ≡ pos 0) → (open_two ≡ false → y ≡ pos 0) → y ≡ x
opened_same true true x y same zero_one zero_two = cc
opened_same true false x y same zero_one zero_two = absurd cc
opened_same false true x y same zero_one zero_two = absurd cc
opened_same false false x y same zero_one zero_two = zero_two refl ∙ sym (zero_one refl)

teller_shown : (b : Bool) (n : ℕ) (z : ℤ)
    → option_map balance_of_teller (cond b (Some (teller_row_of n z)) None) ≡ cond b (Some z) None
teller_shown true n z = refl
teller_shown false n z = refl

branch_shown : (b : ℕ) (o : Option Terms) (z : ℤ)
    → option_map balance_of_branch (option_map (branch_row_of b z) o) ≡ cond (is_some o) (Some z) None
branch_shown b (Some terms) z = refl
branch_shown b None z = refl

none_is : (o : Option Terms) → is_some o ≡ false → o ≡ None
none_is None f = refl
none_is (Some terms) f = absurd cc

module _ (old new : Tables) (one two : List Command) (shows_one : AreTablesOf old one) (shows_two : AreTablesOf new two)
    (same : SameStanding old new) where
  terms_same : (b : ℕ) → opened two b ≡ opened one b
  terms_same b =
      sym (terms_shown new (λ x. opened two x) (decided two) b shows_two.rows)
      ∙ ap (λ o. option_map (terms_of_branch (option_map lowest_of o)) (row_at branch_key new.branches b)) (same.floors b)
      ∙ ap (option_map (terms_of_branch (floor_in old b))) (same.branches b)
      ∙ terms_shown old (λ x. opened one x) (decided one) b shows_one.rows

  account_same : (a : ℕ) → account_balance (decided two) a ≡ account_balance (decided one) a
  account_same a =
      opened_same (is_account_open (λ b. opened one b) a) (is_account_open (λ b. opened two b) a)
      (account_balance (decided one) a) (account_balance (decided two) a)
      (sym (account_balance_shown new (λ b. opened two b) (decided two) a shows_two.rows)
      ∙ ap (option_map balance_of_account) (same.accounts a)
      ∙ account_balance_shown old (λ b. opened one b) (decided one) a shows_one.rows)
      (account_none (λ b. opened one b) (decided one) a (all_name_open one))
      (account_none (λ b. opened two b) (decided two) a (all_name_open two))

  teller_same : (t : ℕ) → teller_balance (decided two) t ≡ teller_balance (decided one) t
  teller_same t =
      opened_same (is_teller_open (λ b. opened one b) t) (is_teller_open (λ b. opened two b) t)
      (teller_balance (decided one) t) (teller_balance (decided two) t)
      (sym (teller_shown (is_teller_open (λ b. opened two b) t) t (teller_balance (decided two) t))
      ∙ ap (option_map balance_of_teller) (sym (shows_two.rows.tellers t) ∙ same.tellers t ∙ shows_one.rows.tellers t)
      ∙ teller_shown (is_teller_open (λ b. opened one b) t) t (teller_balance (decided one) t))
      (teller_none (λ b. opened one b) (decided one) t (all_name_open one))
      (teller_none (λ b. opened two b) (decided two) t (all_name_open two))

  branch_same : (b : ℕ) → branch_balance (decided two) b ≡ branch_balance (decided one) b
  branch_same b =
      opened_same (is_some (opened one b)) (is_some (opened two b))
      (branch_balance (decided one) b) (branch_balance (decided two) b)
      (sym (branch_shown b (opened two b) (branch_balance (decided two) b))
      ∙ ap (option_map balance_of_branch) (sym (shows_two.rows.branches b) ∙ same.branches b ∙ shows_one.rows.branches b)
      ∙ branch_shown b (opened one b) (branch_balance (decided one) b))
      (λ f. branch_none (λ x. opened one x) (decided one) b (all_name_open one) (none_is (opened one b) f))
      (λ f. branch_none (λ x. opened two x) (decided two) b (all_name_open two) (none_is (opened two b) f))

  pub stand_alike : StandAlike one two
  stand_alike = record { terms = terms_same; accounts = account_same; tellers = teller_same; branches = branch_same }

-- ---- numbers

-- one key is one number of one teller
one_key : (t u m n : ℕ) → m ≤ MAX_NUMBER → n ≤ MAX_NUMBER → number_key u m ≡ number_key t n → (u ≡ t) × (m ≡ n)
one_key t u m n few low same = (
  elim (by_test (leb u t)) [
    | inl a ↦ elim (by_test (leb t u)) [
      | inl b ↦ let c : u ≤ t = leb-true u t a in let d : t ≤ u = leb-true t u b in omega arith
      | inr b ↦ let c : u < t = grind (arith, nat_tests) in absurd (omega arith)
    ]
    | inr a ↦ let c : t < u = grind (arith, nat_tests) in absurd (omega arith)
  ],
  omega arith,
)

-- a request has the number where its key is the number's
same_test : (t u m n : ℕ) → m ≤ MAX_NUMBER → n ≤ MAX_NUMBER
    → (eqb u t && eqb m n) ≡ (leb (number_key u m) (number_key t n) && leb (number_key t n) (number_key u m))
same_test t u m n few low = elim (by_test (eqb u t && eqb m n)) [
  | inl e ↦
      let both = and_parts (eqb u t) (eqb m n) e in
      let one : u ≡ t = eqb-true u t both.0 in
      let two : m ≡ n = eqb-true m n both.1 in
      let low_key : leb (number_key u m) (number_key t n) ≡ true = grind (arith, nat_tests) in
      let high_key : leb (number_key t n) (number_key u m) ≡ true = grind (arith, nat_tests) in
      e ∙ sym (rw (low_key, high_key) refl)
  | inr f ↦ elim (by_test (leb (number_key u m) (number_key t n) && leb (number_key t n) (number_key u m))) [
    | inr g ↦ f ∙ sym g
    | inl g ↦
        let both = and_parts (leb (number_key u m) (number_key t n)) (leb (number_key t n) (number_key u m)) g in
        let one : number_key u m ≤ number_key t n = leb-true (number_key u m) (number_key t n) both.0 in
        let two : number_key t n ≤ number_key u m = leb-true (number_key t n) (number_key u m) both.1 in
        let same = one_key t u m n few low (omega arith) in
        let it : (eqb u t && eqb m n) ≡ true = rw (eq-eqb u t same.0, eq-eqb m n same.1) refl in
        absurd (let h = sym it ∙ f in cc)
  ]
]

abbrev has_number : ℕ → ℕ → RequestRow → Bool
has_number t n r = eqb r.teller t && eqb r.number n

numbers_are : (t n : ℕ) (rows : List RequestRow) → n ≤ MAX_NUMBER → AllByRecursion (λ r. r.number ≤ MAX_NUMBER) rows
    → list_any (has_number t n) rows ≡ is_closed_in (map number_of rows) (number_key t n)
numbers_are t n [] high all = refl
numbers_are t n (r ∷ rows) high all = elim (by_test (has_number t n r)) [
  | inl e ↦ rw (e, sym (same_test t r.teller r.number n all.0 high) ∙ e) refl
  | inr f ↦ rw (f, sym (same_test t r.teller r.number n all.0 high) ∙ f) (numbers_are t n rows high all.1)
]

any_found : {R : Type 0} (test : R → Bool) (rows : List R) → is_some (find test rows) ≡ list_any test rows
any_found test [] = refl
any_found test (r ∷ rows) = elim (by_test (test r)) [ inl t ↦ rw t refl | inr f ↦ rw f (any_found test rows) ]

mapped : {A B : Type 0} (f : A → B) (o : Option A) → is_some (option_map f o) ≡ is_some o
mapped f None = refl
mapped f (Some x) = refl

-- a number is kept where a row has it
kept_by_rows : (t : Tables) (log : List Command) → AreTablesOf t log → (teller n : ℕ)
    → is_some (kept (decided log) teller n) ≡ list_any (has_number teller n) t.requests
kept_by_rows t log shows teller n =
    ap is_some (sym (kept_shown t.requests t.references (decided log) shows.rows.request_keys shows.rows.requests
    shows.rows.references (are_new log) teller n))
    ∙ mapped (kept_of_row t.references) (find (has_number teller n) t.requests)
    ∙ any_found (has_number teller n) t.requests

closed_by_rows : (t : Tables) (log : List Command) → AreTablesOf t log → (x : ℕ)
    → is_closed_in (closings log) x ≡ is_closed_in t.closings x
closed_by_rows t log shows x =
    sym (closed_shown t.closings (closings log) shows.rows.closing_keys (closing_keys log) shows.rows.closings x)

or_swap : (a b : Bool) → (a || b) ≡ (b || a)
or_swap true true = refl
or_swap true false = refl
or_swap false true = refl
or_swap false false = refl

-- a number is used where the runs of the used ones have it
used_by_rows : (t : Tables) (log : List Command) → AreTablesOf t log → AllByRecursion (λ r. r.number ≤ MAX_NUMBER) t.requests
    → (teller n : ℕ) → n ≤ MAX_NUMBER → used log teller n ≡ is_closed_in (used_runs t) (number_key teller n)
used_by_rows t log shows in_range teller n high =
    rw (
      kept_by_rows t log shows teller n ∙ numbers_are teller n t.requests high in_range,
      closed_by_rows t log shows (number_key teller n),
    )
    (or_swap (is_closed_in (map number_of t.requests) (number_key teller n)) (is_closed_in t.closings (number_key teller n))
    ∙ sym (any-append (meets (number_key teller n) (number_key teller n)) t.closings (map number_of t.requests)))

-- what holds of each row holds of the one that has a number
of_number : (P : RequestRow → Type 0) (rows : List RequestRow) (t n : ℕ) → AllByRecursion P rows
    → list_any (has_number t n) rows ≡ true → (r : RequestRow) × P r × (r.teller ≡ t) × (r.number ≡ n)
of_number P [] t n all some = absurd cc
of_number P (r ∷ rows) t n all some = elim (by_test (has_number t n r)) [
  | inl e ↦
      let both = and_parts (eqb r.teller t) (eqb r.number n) e in
      (r, all.0, eqb-true r.teller t both.0, eqb-true r.number n both.1)
  | inr f ↦ of_number P rows t n all.1 (let g = rw f at some in g)
]

or_right : (a b : Bool) → b ≡ true → (a || b) ≡ true
or_right true b t = refl
or_right false b t = t

key_above : (t n : ℕ) → 1 ≤ n → 1 ≤ number_key t n
key_above t n low = omega (arith, low)

pub carries_shown : CarriesShown
carries_shown desk old new one two shows_one shows_two carry =
    let used_one = used_by_rows old one shows_one carry.in_range in
    let closed_two = closed_by_rows new two shows_two in
    record {
      stand = stand_alike old new one two shows_one shows_two carry.stand;
      refuses = record {
        numbers = λ t n low high is.
            or_right (is_some (kept (decided two) t n)) (closed two t n)
            (closed_two (number_key t n) ∙ carry.numbers (number_key t n) (key_above t n low) ∙ sym (used_one t n high) ∙ is);
        only = λ t n low high is.
            used_one t n high ∙ sym (carry.numbers (number_key t n) (key_above t n low))
            ∙ sym (closed_two (number_key t n)) ∙ is;
      };
      old_sealed = closed_by_rows old one shows_one 0 ∙ carry.old_sealed;
      new_unsealed = closed_two 0 ∙ carry.new_unsealed;
      desk_alone = λ t n low high is.
          let has = of_number (λ r. is_of_desk desk (used_runs old) r ≡ true) new.requests t n carry.desk_alone
          (sym (kept_by_rows new two shows_two t n) ∙ is) in
          of_desk has.0 t n high has.1 has.2 has.3;
    }
  where
    of_desk : (r : RequestRow) (t n : ℕ) → n ≤ MAX_NUMBER → is_of_desk desk (used_runs old) r ≡ true → r.teller ≡ t
        → r.number ≡ n → (branch_of_teller t ≡ desk) ⊎ (used one t n ≡ true)
    of_desk r t n high is teller number = elim (by_test (eqb (branch_of_teller r.teller) desk)) [
      | inl its ↦ inl (ap branch_of_teller (sym teller) ∙ eqb-true (branch_of_teller r.teller) desk its)
      | inr other ↦
          let was : is_closed_in (used_runs old) (number_key r.teller r.number) ≡ true = (let g = rw other at is in g) in
          inr (used_by_rows old one shows_one carry.in_range t n high
          ∙ ap (λ (u : ℕ). is_closed_in (used_runs old) (number_key u n)) (sym teller)
          ∙ ap (λ (m : ℕ). is_closed_in (used_runs old) (number_key r.teller m)) (sym number) ∙ was)
    ]
