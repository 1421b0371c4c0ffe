-- An account that was looked up beside its branch fits that branch, and beside its floor isn't below it.
use Rattle.std.proofs.Common.{◌≡◌, ◌≤ℤ◌, ℕ, ℤ, pos, Bool, true, Option, Some, None, Ok, refl, sym, ap, subst, ◌∙◌}
use Rattle.std.proofs.Common.{arith}
use Rattle.std.specs.Prelude.{false, int_lt, is_some, nat_le, option_map}
use Rattle.std.proofs.lemmas.{Int.ints, Bool.Decides.nat_tests}
use Rattle.posting_rules.specs.{believed.Commands.is_within, believed.LookUps.terms_of_branch}
use Rattle.posting_rules.specs.believed.Numbering.{branch_of_account, place_of_account}
use Rattle.posting_rules.specs.declared.rows.BranchRow.{BranchRow}
use Rattle.sql_meanings.specs.believed.Entries.{Entry}
use Rattle.store_rows.specs.believed.{Columns.number_at, Readings.read_balance, Readings.read_branch}
use Rattle.store_rows.specs.believed.Rules.{AccountFits, IsAbove, StoredRows, branch_under, row_under}
use Rattle.store_rows.specs.believed.Stored.{FindsStored}
use Rattle.store_rows.proofs.Readings.{balance_is, branch_is, floor_is}
use Rattle.bank_transactions.specs.{Floors.falls_below, believed.Stored.HoldsFloor}

-- the test on numbers, said of the whole numbers that a row holds
pub le_number : (a b : ℕ) → nat_le a b ≡ true → pos a ≤ℤ pos b
le_number a b le = grind (arith, nat_tests, ints)

pub le_test : (a b : ℕ) → pos a ≤ℤ pos b → nat_le a b ≡ true
le_test a b le = grind (arith, nat_tests, ints)

-- what was found twice is one row
pub same_entry : (o : Option Entry) (r s : Entry) → o ≡ Some r → o ≡ Some s → s ≡ r
same_entry o r s one two = cc

module _ (rows : StoredRows) (n : ℕ) where
  abbrev Finds : Option ℤ → Type 0
  Finds balance = FindsStored (row_under rows.accounts n) read_balance (Ok balance)

  abbrev Has : Option BranchRow → Type 0
  Has branch = FindsStored (branch_under rows (branch_of_account n)) read_branch (Ok branch)

  pub fits : (balance : Option ℤ) (branch : Option BranchRow) → Finds balance → Has branch
      → is_some balance ≡ is_within (place_of_account n) (option_map (terms_of_branch None) branch)
      → AccountFits rows n
  fits None None finds has is = (λ there. absurd cc, λ within. absurd (let found = within.1 in cc))
  fits None (Some b) finds has is = (
    λ there. absurd cc,
    λ within. absurd (let same = same_entry _ has.0 within.0 has.1 within.1 in
        let count = subst (λ (e : Entry). pos (place_of_account n) ≤ℤ number_at 0 e) same within.2 in
        let le = le_test (place_of_account n) b.accounts
        (subst (λ (k : ℤ). pos (place_of_account n) ≤ℤ k) (branch_is has.0 b has.2).1 count) in
        cc),
  )
  fits (Some z) None finds has is = absurd cc
  fits (Some z) (Some b) finds has is = (
    λ there.
        let le = le_number (place_of_account n) b.accounts (sym is) in
        (has.0, has.1, subst (λ (k : ℤ). pos (place_of_account n) ≤ℤ k) (sym (branch_is has.0 b has.2).1) le),
    λ within. (let found = finds.1 in cc),
  )

  -- and where it does, it was looked up so
  pub fitting : (balance : Option ℤ) (branch : Option BranchRow) → Finds balance → Has branch → AccountFits rows n
      → is_some balance ≡ is_within (place_of_account n) (option_map (terms_of_branch None) branch)
  fitting None None finds has fit = refl
  fitting None (Some b) finds has fit = go (nat_le (place_of_account n) b.accounts) refl
    where
      go : (t : Bool) → nat_le (place_of_account n) b.accounts ≡ t → false ≡ nat_le (place_of_account n) b.accounts
      go true le = absurd (let there = fit.1 (
        has.0,
        has.1,
        subst (λ (k : ℤ). pos (place_of_account n) ≤ℤ k)
            (sym (branch_is has.0 b has.2).1) (le_number (place_of_account n) b.accounts le),
      ) in cc)
      go false not = sym not
  fitting (Some z) None finds has fit = absurd (let within = fit.0 (ap is_some finds.1) in let is = within.1 in cc)
  fitting (Some z) (Some b) finds has fit =
      let within = fit.0 (ap is_some finds.1) in
      let same = same_entry _ has.0 within.0 has.1 within.1 in
      let count = subst (λ (e : Entry). pos (place_of_account n) ≤ℤ number_at 0 e) same within.2 in
      sym (le_test (place_of_account n) b.accounts
      (subst (λ (k : ℤ). pos (place_of_account n) ≤ℤ k) (branch_is has.0 b has.2).1 count))

  at_least : (balance lowest : ℤ) → int_lt balance lowest ≡ false → lowest ≤ℤ balance
  at_least balance lowest not = grind (arith, ints)

  pub is_above : (balance floor : Option ℤ) → Finds balance → HoldsFloor rows (branch_of_account n) floor
      → falls_below balance floor ≡ false → IsAbove rows n
  is_above None floor finds holds not account its there has = absurd cc
  is_above (Some z) None finds holds not account its there has = absurd cc
  is_above (Some z) (Some lowest) finds holds not account its there has =
      let first : number_at 0 account ≡ z =
      ap (number_at 0) (same_entry _ finds.0 account finds.1 there) ∙ balance_is finds.0 z finds.2 in
      let second : number_at 0 its ≡ lowest =
      ap (number_at 0) (same_entry _ holds.0 its holds.2 has) ∙ floor_is holds.0 holds.1 holds.3 ∙ sym holds.4 in
      subst (λ (k : ℤ). k ≤ℤ number_at 0 account) (sym second)
      (subst (λ (k : ℤ). lowest ≤ℤ k) (sym first) (at_least z lowest not))
