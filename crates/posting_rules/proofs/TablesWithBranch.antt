-- Tables of a log to which a branch is added are the tables of the log with the opening.
use Rattle.std.proofs.Common.{◌≡◌, ℕ, ◌≤◌, Bool, true, false, cond, eqb, leb, List, ◌∷◌, Option, Some, None, refl}
use Rattle.std.proofs.Common.{sym, ap, subst, ◌∙◌, inl, inr}
use mathlib.Core.Path.{fun_ext}
use Rattle.std.specs.Prelude.{ℤ, pos, ◌⊎◌, is_some, ◌&&◌, option_and_then}
use Rattle.std.specs.Option.{option_map, option_or}
use Rattle.std.proofs.lemmas.Bool.{and_parts, eqb-true}
use Rattle.posting_rules.specs.declared.{limits.TheConstants.MAX_ACCOUNTS, rows.FloorRow.FloorRow}
use Rattle.posting_rules.specs.believed.Commands.{Command, Open, opened, is_within, is_teller_open, is_account_open}
use Rattle.posting_rules.specs.believed.Commands.{Terms}
use Rattle.posting_rules.specs.believed.Entries.{DecidedRequest, teller_balance, branch_balance, account_balance}
use Rattle.posting_rules.specs.believed.Entries.{decided}
use Rattle.posting_rules.specs.believed.Tables.{Tables, HasRows, AreTablesOf, branch_row_of, teller_row_of}
use Rattle.posting_rules.specs.believed.Tables.{account_row_of, HasKeys, row_at, floor_key, floor_row, floor_row_of}
use Rattle.posting_rules.specs.ChangesByKey.{OpensBranch, AddsFloor, is_from}
use Rattle.posting_rules.specs.believed.Numbering.{branch_of_teller, branch_of_account, place_of_account}
use Rattle.posting_rules.specs.believed.Numbering.{first_teller, first_account}
use Rattle.posting_rules.proofs.{Keyed.by_test, NumbersInARow.tellers_in_a_row, NumbersInARow.accounts_in_a_row}
use Rattle.posting_rules.proofs.NamedOpen.{AllNameOpen, with_branch, all_name_open, teller_stays, account_stays}
use Rattle.posting_rules.proofs.NoBalance.{teller_none, account_none, branch_none}
use Rattle.posting_rules.specs.declared.rows.ClosingRow.{ClosingRow}
use Rattle.posting_rules.specs.believed.Closings.{closings}

-- ---- the rows with a branch more

now_open : (low : Bool) (o : Option Terms) (new : Bool) (terms : Terms) → (low && is_some o) ≡ false
    → (low && is_some (option_or o (cond new (Some terms) None))) ≡ (low && new)
now_open true (Some n) new terms h = absurd cc
now_open true None true terms h = refl
now_open true None false terms h = refl
now_open false o new terms h = refl

now_within : (low : Bool) (place : ℕ) (o : Option Terms) (new : Bool) (terms : Terms)
    → (o ≡ None) ⊎ (new ≡ false)
    → (low && is_within place o) ≡ false
    → (low && is_within place (option_or o (cond new (Some terms) None)))
    ≡ (low && (new && leb place terms.accounts))
now_within false place o new terms c h = refl
now_within true place None true terms c h = refl
now_within true place None false terms c h = refl
now_within true place (Some n) false terms c h = h
now_within true place (Some n) true terms (inl e) h = absurd cc
now_within true place (Some n) true terms (inr e) h = absurd cc

-- a row that is new, or one that was there
row_put : {R : Type 0} (row : ℕ → ℤ → R) (was is new : Bool) (n : ℕ) (z : ℤ) → (new ≡ true → was ≡ false)
    → (was ≡ true → is ≡ true) → (was ≡ false → is ≡ new) → (was ≡ false → z ≡ pos 0)
    → cond new (Some (row n (pos 0))) (cond was (Some (row n z)) None) ≡ cond is (Some (row n z)) None
row_put row true is true n z closed kept fresh zeroed = absurd (let h = closed refl in cc)
row_put row true is false n z closed kept fresh zeroed = rw (kept refl) refl
row_put row false is true n z closed kept fresh zeroed = rw (fresh refl)
    (ap (λ (v : ℤ). Some (row n v)) (sym (zeroed refl)))
row_put row false is false n z closed kept fresh zeroed = rw (fresh refl) refl

branch_put : (o : Option Terms) (new : Bool) (b n : ℕ) (terms : Terms) (z : ℤ) → (new ≡ true → b ≡ n)
    → (new ≡ true → o ≡ None) → (o ≡ None → z ≡ pos 0)
    → cond new (Some (branch_row_of b (pos 0) terms)) (option_map (branch_row_of n z) o) ≡ option_map
    (branch_row_of n z) (option_or o (cond new (Some terms) None))
branch_put (Some k) true b n terms z same closed zeroed = absurd (let h = closed refl in cc)
branch_put (Some k) false b n terms z same closed zeroed = refl
branch_put None false b n terms z same closed zeroed = refl
branch_put None true b n terms z same closed zeroed =
    ap (λ (x : ℕ). Some (branch_row_of x (pos 0) terms)) (same refl) ∙ ap
    (λ (v : ℤ). Some (branch_row_of n v terms)) (sym (zeroed refl))

pub closed_teller : (opened : ℕ → Option Terms) (b n : ℕ) → opened b ≡ None → 1 ≤ b
    → is_from (first_teller b) 10 n ≡ true → is_teller_open opened n ≡ false
closed_teller opened b n closed hb e =
    let two = and_parts (leb 1 n) (eqb b (branch_of_teller n)) (tellers_in_a_row b n hb ∙ e) in
    let none : opened (branch_of_teller n) ≡ None = ap opened (sym (eqb-true b (branch_of_teller n) two.1))
    ∙ closed in
    rw (two.0, none) refl

pub closed_account : (opened : ℕ → Option Terms) (b n count : ℕ) → opened b ≡ None → 1 ≤ b
    → count ≤ MAX_ACCOUNTS
    → is_from (first_account b) count n ≡ true → is_account_open opened n ≡ false
closed_account opened b n count closed hb hc e =
    let one = and_parts (leb 1 n) (eqb b (branch_of_account n) && leb (place_of_account n) count)
    (accounts_in_a_row b n count hb hc ∙ e) in
    let two = and_parts (eqb b (branch_of_account n)) (leb (place_of_account n) count) one.1 in
    let none : opened (branch_of_account n) ≡ None = ap opened (sym (eqb-true b (branch_of_account n) two.0))
    ∙ closed in
    rw (one.0, none) refl

-- the floor of a branch that is opened, among those that were there
floor_put : (o : Option Terms) (new : Bool) (b n : ℕ) (terms : Terms) (lowest : ℤ) → (new ≡ true → b ≡ n)
    → (new ≡ true → o ≡ None) → terms.floor ≡ Some lowest
    → cond new (Some (floor_row_of b lowest)) (option_map (floor_row_of n) (option_and_then (λ k. k.floor) o))
    ≡ option_map (floor_row_of n)
    (option_and_then (λ k. k.floor) (option_or o (cond new (Some terms) None)))
floor_put (Some k) true b n terms lowest same closed its = absurd (let h = closed refl in cc)
floor_put (Some k) false b n terms lowest same closed its = refl
floor_put None false b n terms lowest same closed its = refl
floor_put None true b n terms lowest same closed its =
    ap (λ (x : ℕ). Some (floor_row_of x lowest)) (same refl) ∙ sym (ap (option_map (floor_row_of n)) its)

-- and where it has none
no_floor_put : (o : Option Terms) (new : Bool) (n : ℕ) (terms : Terms) → (new ≡ true → o ≡ None)
    → terms.floor ≡ None
    → option_map (floor_row_of n) (option_and_then (λ k. k.floor) o) ≡ option_map (floor_row_of n)
    (option_and_then (λ k. k.floor) (option_or o (cond new (Some terms) None)))
no_floor_put (Some k) new n terms closed its = refl
no_floor_put None false n terms closed its = refl
no_floor_put None true n terms closed its = sym (ap (option_map (floor_row_of n)) its)

floors_added : (old new : List FloorRow) (opened : ℕ → Option Terms) (b : ℕ) (terms : Terms)
    → (floor : Option ℤ) → terms.floor ≡ floor → opened b ≡ None → AddsFloor b floor old new
    → ((n : ℕ) → row_at floor_key old n ≡ floor_row opened n) → (n : ℕ)
    → row_at floor_key new n ≡ floor_row (λ x. with_branch opened b terms x) n
floors_added old new opened b terms None its closed adds shown n =
    ap (λ (rows : List FloorRow). row_at floor_key rows n) adds ∙ shown n
    ∙ no_floor_put (opened n) (eqb b n) n terms (λ t. ap opened (sym (eqb-true b n t)) ∙ closed) its
floors_added old new opened b terms (Some lowest) its closed adds shown n =
    adds.rows n ∙ ap (cond (eqb b n) (Some (floor_row_of b lowest))) (shown n)
    ∙ floor_put (opened n) (eqb b n) b n terms lowest (eqb-true b n)
    (λ t. ap opened (sym (eqb-true b n t)) ∙ closed) its

floor_keys_added : (old new : List FloorRow) (b : ℕ) (floor : Option ℤ) → AddsFloor b floor old new
    → HasKeys floor_key old → HasKeys floor_key new
floor_keys_added old new b None adds keys = subst (λ (rows : List FloorRow). HasKeys floor_key rows) (sym adds) keys
floor_keys_added old new b (Some lowest) adds keys = adds.keys

either_none : (opened : ℕ → Option Terms) (b x : ℕ) → opened b ≡ None → (opened x ≡ None) ⊎ (eqb b x ≡ false)
either_none opened b x closed =
    elim (by_test (eqb b x)) [ inl t ↦ inl (ap opened (sym (eqb-true b x t)) ∙ closed) | inr f ↦ inr f ]

branch_added : {runs : List ClosingRow} (old new : Tables) (opened : ℕ → Option Terms) (es : List DecidedRequest) (b : ℕ)
    (terms : Terms)
    → AllNameOpen opened es → opened b ≡ None → 1 ≤ b → terms.accounts ≤ MAX_ACCOUNTS
    → HasRows old opened runs es → OpensBranch old new b terms
    → HasRows new (λ x. with_branch opened b terms x) runs es
branch_added old new opened es b terms all closed hb hc s step = record {
  decided = step.decided ∙ s.decided;
  branches = λ n. step.branches.rows n
      ∙ ap (cond (eqb b n) (Some (branch_row_of b (pos 0) terms)))
      (s.branches n)
      ∙ branch_put (opened n) (eqb b n) b n terms (branch_balance es n) (eqb-true b n)
      (λ t. ap opened (sym (eqb-true b n t)) ∙ closed) (branch_none opened es n all);
  tellers = λ n. step.tellers.rows n ∙ ap
      (cond (is_from (first_teller b) 10 n) (Some (teller_row_of n (pos 0)))) (s.tellers n)
      ∙ row_put teller_row_of (is_teller_open opened n)
      (is_teller_open (λ x. with_branch opened b terms x) n)
      (is_from (first_teller b) 10 n) n (teller_balance es n)
      (closed_teller opened b n closed hb) (teller_stays opened b terms n)
      (λ f. now_open (leb 1 n) (opened (branch_of_teller n)) (eqb b (branch_of_teller n)) terms f
      ∙ tellers_in_a_row b n hb)
      (teller_none opened es n all);
  accounts = λ n. step.accounts.rows n ∙ ap
      (cond (is_from (first_account b) terms.accounts n) (Some (account_row_of n (pos 0)))) (s.accounts n)
      ∙ row_put account_row_of (is_account_open opened n)
      (is_account_open (λ x. with_branch opened b terms x) n)
      (is_from (first_account b) terms.accounts n) n
      (account_balance es n)
      (closed_account opened b n terms.accounts closed hb hc) (account_stays opened b terms n)
      (λ f. now_within (leb 1 n) (place_of_account n) (opened (branch_of_account n))
      (eqb b (branch_of_account n)) terms (either_none opened b (branch_of_account n) closed) f
      ∙ accounts_in_a_row b n terms.accounts hb hc)
      (account_none opened es n all);
  history = λ o. rw step.history (s.history o);
  requests = λ o. rw step.requests (s.requests o);
  references = λ o. rw step.references (s.references o);
  closings = λ x. rw step.closings (s.closings x);
  floors = floors_added old.floors new.floors opened b terms terms.floor refl closed step.floors s.floors;
  branch_keys = step.branches.keys;
  teller_keys = step.tellers.keys;
  account_keys = step.accounts.keys;
  history_keys = rw step.history s.history_keys;
  request_keys = rw step.requests s.request_keys;
  floor_keys = floor_keys_added old.floors new.floors b terms.floor step.floors s.floor_keys;
  reference_keys = rw step.references s.reference_keys;
  closing_keys = rw step.closings s.closing_keys;
}

-- a branch that wasn't open is added
pub opening_shown : (old new : Tables) (log : List Command) (b : ℕ) (terms : Terms) → opened log b ≡ None
    → 1 ≤ b → terms.accounts ≤ MAX_ACCOUNTS → AreTablesOf old log → OpensBranch old new b terms
    → AreTablesOf new (Open b terms ∷ log)
opening_shown old new log b terms closed hb hc s step =
    record {
      rows = branch_added old new (λ x. opened log x) (decided log) b terms (all_name_open log) closed
          hb hc s.rows step;
    }

opened_first : (o p : Option Terms) (n : Terms) → o ≡ Some n → option_or o p ≡ o
opened_first (Some k) p n e = refl
opened_first None p n e = absurd cc

-- a branch that was open stays as it was
opened_again : (log : List Command) (b : ℕ) (terms n : Terms) → opened log b ≡ Some n → (x : ℕ)
    → opened (Open b terms ∷ log) x ≡ opened log x
opened_again log b terms n h x =
    elim (by_test (eqb b x)) [
      | inl t ↦ let same : opened log x ≡ Some n = ap (λ (y : ℕ). opened log y) (sym (eqb-true b x t))
          ∙ h in opened_first (opened log x) (cond (eqb b x) (Some terms) None) n same
      | inr f ↦ rw f (none_more (opened log x))
    ]
  where
    none_more : (o : Option Terms) → option_or o None ≡ o
    none_more None = refl
    none_more (Some y) = refl

pub already_open_shown : (t : Tables) (log : List Command) (b : ℕ) (terms n : Terms) → opened log b ≡ Some n
    → AreTablesOf t log → AreTablesOf t (Open b terms ∷ log)
already_open_shown t log b terms n h s =
    record {
      rows = subst (λ (o : ℕ → Option Terms). HasRows t o (closings log) (decided log))
          (sym (fun_ext (opened_again log b terms n h))) s.rows;
    }
