-- What lies under a key is what a look-up of it finds among the rows that a file holds.
use Rattle.std.proofs.Common.{◌≡◌, ◌∙◌, ℕ, ℤ, pos, List, [], ◌∷◌, map, Some, None, Option, Ok, Err}
use Rattle.std.proofs.Common.{Result, refl, sym, ap, subst, inl, inr}
use Rattle.std.proofs.Math.Logic.{∥∥₁_elim, ∥∥₁_map}
use Rattle.std.specs.Coded.{Coded, code_by, coded×, coded_ℕ, coded_ℤ}
use base.Stored.{Coded-set}
use Rattle.sqlite.specs.{Effect.Database, Order.Row, Order.column, Table.Table}
use Rattle.sqlite_rules.specs.Lists.{Has}
use Rattle.posting_rules.specs.declared.fault.Rule.{Rule}
use Rattle.posting_rules.specs.declared.rows.{BranchRow.BranchRow, ClosingRow.ClosingRow, FloorRow.FloorRow}
use Rattle.sql_meanings.specs.{Entries.listed}
use Rattle.sql_meanings.specs.believed.{Entries.Entry, Entries.stored, Tables.Holds}
use Rattle.store_rows.specs.believed.BankTables as bank
use Rattle.store_rows.specs.believed.BankTables.{bank_tables}
use Rattle.store_rows.specs.{Holders.entry_under, Lying.BalanceLies, Lying.BranchLies, Lying.FloorLies, Lying.LiesAs}
use Rattle.store_rows.specs.Lying.{IsBankFile}
use Rattle.store_rows.specs.believed.Readings.{Reading, balance_of, branch_of, closing_of, floor_of, read_balance, read_branch}
use Rattle.store_rows.specs.believed.Readings.{read_closing, read_floor}
use Rattle.store_rows.specs.believed.{Rules.HoldsBank, Rules.StoredRows, Rules.row_under, Rules.stored_lists}
use Rattle.store_rows.specs.believed.Stored.{FindsStored}
use Rattle.store_rows.specs.declared.holders.{Member.Member, Member.TheVariants.Account, Member.TheVariants.Teller}
use Rattle.store_rows.proofs.{Counted.under_is, Lying.all_defined, Lying.defined_file, StoredRows.holds_list}

-- a file that holds a bank's rows is a bank's
pub held_file : (db : Database) (rows : StoredRows) → HoldsBank db rows → IsBankFile db
held_file db rows has = defined_file db has.sound (all_defined db bank_tables (stored_lists rows) has.each)

no_entry : (e : Entry) → map stored (e ∷ []) ≡ [] → ⊥
no_entry e is = cc

module _ {X : Type 0} (coded : Coded X) (table : Table) (shown : Row → Row) (read : Reading X)
    (held : Entry → Result X Rule) (same : (e : Entry) → read (shown (stored e)) ≡ held e) (k : ℕ) (db : Database)
    (es : List Entry) (holds : Holds db table es) where
  its_row : (e : Entry) (row : Row) → Has (map stored (e ∷ [])) row → row ≡ stored e
  its_row e row (inl is) = is
  its_row e row (inr none) = absurd none

  no_fault : (x : X) (rule : Rule) → ◌≡◌ {A = Result X Rule} (Err rule) (Ok x) → ⊥
  no_fault x rule is = cc

  same_value : (x y : X) → ◌≡◌ {A = Result X Rule} (Ok y) (Ok x) → y ≡ x
  same_value x y is = cc

  -- what was read lies there
  reads_as : (o : Option Entry) → row_under es k ≡ o → (x : X) → LiesAs table shown read k db (Some x)
      → (e : Entry) × (o ≡ Some e) × (held e ≡ Ok x)
  reads_as None is x lies = absurd (subst (λ (l : List Row). Has l lies.0)
      (under_is db table es holds (pos k) ∙ ap (λ (o : Option Entry). map stored (listed o)) is) lies.1)
  reads_as (Some e) is x lies =
      let row = its_row e lies.0 (subst (λ (l : List Row). Has l lies.0)
      (under_is db table es holds (pos k) ∙ ap (λ (o : Option Entry). map stored (listed o)) is) lies.1) in
      (e, refl, sym (same e) ∙ ap (λ (r : Row). read (shown r)) (sym row) ∙ lies.2)

  its_reading : (e : Entry) (x : X) → ∥ held e ≡ Ok x ∥₁ → (r : Result X Rule) → held e ≡ r → r ≡ Ok x
  its_reading e x lies (Err rule) is = absurd (∥∥₁_elim lies (λ a b. absurd a) (λ it. no_fault x rule (sym is ∙ it)))
  its_reading e x lies (Ok y) is =
      ap (λ (z : X). Ok z) (∥∥₁_elim lies (Coded-set coded y x) (λ it. same_value x y (sym is ∙ it)))

  pub finds_lying : (o : Option X) → ∥ LiesAs table shown read k db o ∥₁ → FindsStored (row_under es k) held (Ok o)
  finds_lying None lies = go (row_under es k) refl
    where
      go : (o : Option Entry) → row_under es k ≡ o → o ≡ None
      go None is = refl
      go (Some e) is = absurd (∥∥₁_elim lies (λ a b. absurd a) (λ none. no_entry e
          (sym (under_is db table es holds (pos k) ∙ ap (λ (o : Option Entry). map stored (listed o)) is) ∙ none)))
  finds_lying (Some x) lies = go (row_under es k) refl
    where
      go : (o : Option Entry) → row_under es k ≡ o → (e : Entry) × (o ≡ Some e) × (held e ≡ Ok x)
      go None is = absurd (∥∥₁_elim lies (λ a b. absurd a) (λ it. let no = (reads_as None is x it).1 in cc))
      go (Some e) is = (
        e,
        refl,
        its_reading e x (∥∥₁_map lies (λ it.
            let found = reads_as (Some e) is x it in
            ap held (let same_entry = found.1 in cc) ∙ found.2)) (held e) refl,
      )

coded_branch : Coded BranchRow
coded_branch = code_by (ℕ × (ℕ × ℤ)) (coded× coded_ℕ (coded× coded_ℕ coded_ℤ))
    (λ r. (r.branch, (r.accounts, r.balance)))
    (λ it. record { branch = it.0; accounts = it.1.0; balance = it.1.1 }) (λ r. refl)

coded_floor : Coded FloorRow
coded_floor = code_by (ℕ × ℤ) (coded× coded_ℕ coded_ℤ) (λ r. (r.branch, r.lowest))
    (λ it. record { branch = it.0; lowest = it.1 }) (λ r. refl)

coded_closing : Coded ClosingRow
coded_closing = code_by (ℕ × ℕ) (coded× coded_ℕ coded_ℕ) (λ r. (r.last, r.first))
    (λ it. record { last = it.0; first = it.1 }) (λ r. refl)

-- the row that seals the books
pub finds_seal : (db : Database) (rows : List Entry) → Holds db bank.closing rows → (o : Option ClosingRow)
    → LiesAs bank.closing (λ row. column row 0 ∷ column row 2 ∷ []) closing_of 0 db o
    → FindsStored (row_under rows 0) read_closing (Ok o)
finds_seal db rows holds o lies = finds_lying coded_closing bank.closing (λ row. column row 0 ∷ column row 2 ∷ [])
    closing_of read_closing (λ e. refl) 0 db rows holds o ∣ lies ∣₁

module _ (db : Database) (rows : StoredRows) (has : HoldsBank db rows) where
  pub finds_branch : (n : ℕ) (o : Option BranchRow) → ∥ BranchLies n db o ∥₁
      → FindsStored (row_under rows.branches n) read_branch (Ok o)
  finds_branch n = finds_lying coded_branch bank.branch (λ row. column row 0 ∷ column row 2 ∷ column row 3 ∷ [])
      branch_of read_branch (λ e. refl) n db rows.branches
      (holds_list db rows has 1 bank.branch rows.branches refl refl)

  pub finds_floor : (n : ℕ) (o : Option FloorRow) → ∥ FloorLies n db o ∥₁
      → FindsStored (row_under rows.floors n) read_floor (Ok o)
  finds_floor n = finds_lying coded_floor bank.floor (λ row. column row 0 ∷ column row 2 ∷ []) floor_of read_floor (λ e. refl) n db rows.floors
      (holds_list db rows has 6 bank.floor rows.floors refl refl)

  pub finds_balance : (m : Member) (o : Option ℤ) → ∥ BalanceLies m db o ∥₁
      → FindsStored (entry_under m rows) read_balance (Ok o)
  finds_balance (Account n) = finds_lying coded_ℤ bank.account (λ row. column row 2 ∷ []) balance_of read_balance (λ e. refl) n db rows.accounts
      (holds_list db rows has 3 bank.account rows.accounts refl refl)
  finds_balance (Teller n) = finds_lying coded_ℤ bank.teller (λ row. column row 2 ∷ []) balance_of read_balance (λ e. refl) n db rows.tellers
      (holds_list db rows has 2 bank.teller rows.tellers refl refl)
