-- What lies in a file lies there still after a write of another row.
use Rattle.std.proofs.Common.{◌≡◌, ◌∙◌, ◌+◌, ◌*◌, ℕ, ℤ, pos, true, false, nat_eq, List, [], ◌∷◌, length, Some, None, Option, filter}
use Rattle.std.proofs.Common.{refl, sym, ap, subst, inl, inr, arith}
use Rattle.std.proofs.lemmas.Bool.{Decides.nat_tests}
use Rattle.std.specs.Prelude.{◌≢◌, IfSome}
use Rattle.sqlite.specs.{Effect.Database, Order.Row, Order.column, Table.Table}
use Rattle.sqlite_rules.specs.Lists.{Has}
use Rattle.posting_rules.specs.declared.rows.{BranchRow.BranchRow, ClosingRow.ClosingRow, FloorRow.FloorRow}
use Rattle.sql_meanings.specs.Under.{rows_of, rows_under}
use Rattle.store_rows.specs.believed.BankTables as bank
use Rattle.store_rows.specs.believed.BankTables.{bank_tables}
use Rattle.store_rows.specs.Lying.{BalanceLies, BranchLies, CountLies, FloorLies, IsBankFile, LeavesBeside, LeavesOthers, LiesAs}
use Rattle.sql_meanings.specs.believed.{Entries.IsTree, Tables.width_of}
use Rattle.sqlite.specs.Tree.{has_rowid}
use Rattle.store_rows.specs.believed.Readings.{Reading, balance_of, branch_of, floor_of}
use Rattle.store_rows.specs.declared.holders.Member.TheVariants.{Account, Teller}
use Rattle.store_rows.specs.believed.Inserts.{meta_key}
use Rattle.bank_transactions.specs.Known.{KnowsNothing}
use Rattle.bank_transactions.specs.KnownRows.{AllKnown}
use Rattle.bank_transactions.specs.Memory.{Fits, IsBlank, NumbersLie}
use Rattle.bank_transactions.specs.declared.known_rows.table.Known.{Known}
use Rattle.bank_transactions.specs.declared.memory.Memory.{Memory}
use Rattle.bank_transactions.proofs.KnownRows.{known_none}

-- nothing was written
pub leaves_same : (table : Table) (key : ℕ) (db : Database) → IsBankFile db → LeavesOthers table key db db
leaves_same table key db file = record {
  beside = record { file = file; beside = λ other among apart. refl };
  others = λ k other. refl;
}

-- ---- what is remembered of one row

module _ (was now : Database) where
  lies_still : {X : Type 0} (table : Table) (shown : Row → Row) (read : Reading X) (k : ℕ) (o : Option X)
      → rows_under now table (pos k) ≡ rows_under was table (pos k) → LiesAs table shown read k was o
      → LiesAs table shown read k now o
  lies_still table shown read k None same lies = same ∙ lies
  lies_still table shown read k (Some x) same lies =
      (lies.0, subst (λ (l : List Row). Has l lies.0) (sym same) lies.1, lies.2)

  pub branch_still : (k : ℕ) (o : Option BranchRow) → rows_under now bank.branch (pos k) ≡ rows_under was bank.branch (pos k)
      → BranchLies k was o → BranchLies k now o
  branch_still k o = lies_still bank.branch (λ row. column row 0 ∷ column row 2 ∷ column row 3 ∷ []) branch_of k o

  pub floor_still : (k : ℕ) (o : Option FloorRow) → rows_under now bank.floor (pos k) ≡ rows_under was bank.floor (pos k)
      → FloorLies k was o → FloorLies k now o
  floor_still k o = lies_still bank.floor (λ row. column row 0 ∷ column row 2 ∷ []) floor_of k o

  pub teller_still : (k : ℕ) (o : Option ℤ) → rows_under now bank.teller (pos k) ≡ rows_under was bank.teller (pos k)
      → BalanceLies (Teller k) was o → BalanceLies (Teller k) now o
  teller_still k o = lies_still bank.teller (λ row. column row 2 ∷ []) balance_of k o

  pub account_still : (k : ℕ) (o : Option ℤ) → rows_under now bank.account (pos k) ≡ rows_under was bank.account (pos k)
      → BalanceLies (Account k) was o → BalanceLies (Account k) now o
  account_still k o = lies_still bank.account (λ row. column row 2 ∷ []) balance_of k o

  pub count_still : (o : Option ℕ) → rows_under now bank.meta (pos meta_key) ≡ rows_under was bank.meta (pos meta_key)
      → IfSome o (CountLies was) → IfSome o (CountLies now)
  count_still None same lies = tt
  count_still (Some n) same lies = (lies.0, subst (λ (l : List Row). Has l lies.0) (sym same) lies.1, lies.2)

  pub closed_still : (o : Option (List ClosingRow)) → rows_of now bank.closing ≡ rows_of was bank.closing
      → IfSome o (NumbersLie was) → IfSome o (NumbersLie now)
  closed_still None same lies = tt
  closed_still (Some runs) same lies = λ rows tree.
      lies rows (subst (λ (l : List Row). IsTree (width_of bank.closing) l rows) same tree)

-- ---- after a write of one table

-- names of different lengths, or that begin otherwise, differ
abbrev mark : List ℕ → ℕ
mark [] = 0
mark (c ∷ cs) = c + 1000 * length cs

names_apart : (a b : List ℕ) → nat_eq (mark a) (mark b) ≡ false → a ≢ b
names_apart a b other is = differ (mark a) (mark b) other (ap mark is)
  where
    differ : (m n : ℕ) → nat_eq m n ≡ false → m ≡ n → ⊥
    differ m n other is = let same : nat_eq m n ≡ true = grind (arith, nat_tests) in let no = sym other ∙ same in cc

-- the table is none of those of which rows are remembered
pub record IsApart (table : Table) : Type 0 where
  pub meta : bank.meta.name ≢ table.name
  pub branch : bank.branch.name ≢ table.name
  pub teller : bank.teller.name ≢ table.name
  pub account : bank.account.name ≢ table.name
  pub floor : bank.floor.name ≢ table.name
  pub closing : bank.closing.name ≢ table.name

pub requests_apart : IsApart bank.request
requests_apart = record {
  meta = names_apart bank.meta.name bank.request.name refl;
  branch = names_apart bank.branch.name bank.request.name refl;
  teller = names_apart bank.teller.name bank.request.name refl;
  account = names_apart bank.account.name bank.request.name refl;
  floor = names_apart bank.floor.name bank.request.name refl;
  closing = names_apart bank.closing.name bank.request.name refl;
}

pub history_apart : IsApart bank.history
history_apart = record {
  meta = names_apart bank.meta.name bank.history.name refl;
  branch = names_apart bank.branch.name bank.history.name refl;
  teller = names_apart bank.teller.name bank.history.name refl;
  account = names_apart bank.account.name bank.history.name refl;
  floor = names_apart bank.floor.name bank.history.name refl;
  closing = names_apart bank.closing.name bank.history.name refl;
}

pub references_apart : IsApart bank.reference
references_apart = record {
  meta = names_apart bank.meta.name bank.reference.name refl;
  branch = names_apart bank.branch.name bank.reference.name refl;
  teller = names_apart bank.teller.name bank.reference.name refl;
  account = names_apart bank.account.name bank.reference.name refl;
  floor = names_apart bank.floor.name bank.reference.name refl;
  closing = names_apart bank.closing.name bank.reference.name refl;
}

module _ (table : Table) (was now : Database) (left : LeavesBeside table was now) (m : Memory) (fits : Fits was m) where
  -- those under a key
  under_beside : (other : Table) → Has bank_tables other → other.name ≢ table.name → (k : ℤ)
      → rows_under now other k ≡ rows_under was other k
  under_beside other among apart k = ap (filter (has_rowid k)) (left.beside other among apart)

  pub count_beside : bank.meta.name ≢ table.name → IfSome m.decided (CountLies now)
  count_beside apart = count_still was now m.decided (under_beside bank.meta (inl refl) apart (pos meta_key)) fits.decided

  pub branches_beside : bank.branch.name ≢ table.name → AllKnown m.branches (λ k row. BranchLies k now row)
  branches_beside apart k row known =
      branch_still was now k row (under_beside bank.branch (inr (inl refl)) apart (pos k)) (fits.branches k row known)

  pub tellers_beside : bank.teller.name ≢ table.name → AllKnown m.tellers (λ k balance. BalanceLies (Teller k) now balance)
  tellers_beside apart k balance known = teller_still was now k balance
      (under_beside bank.teller (inr (inr (inl refl))) apart (pos k)) (fits.tellers k balance known)

  pub accounts_beside : bank.account.name ≢ table.name
      → AllKnown m.accounts (λ k balance. BalanceLies (Account k) now balance)
  accounts_beside apart k balance known = account_still was now k balance
      (under_beside bank.account (inr (inr (inr (inl refl)))) apart (pos k)) (fits.accounts k balance known)

  pub floors_beside : bank.floor.name ≢ table.name → AllKnown m.floors (λ k row. FloorLies k now row)
  floors_beside apart k row known = floor_still was now k row
      (under_beside bank.floor (inr (inr (inr (inr (inr (inr (inl refl))))))) apart (pos k)) (fits.floors k row known)

  pub closed_beside : bank.closing.name ≢ table.name → IfSome m.closed (NumbersLie now)
  closed_beside apart = closed_still was now m.closed
      (left.beside bank.closing (inr (inr (inr (inr (inr (inr (inr (inr (inl refl))))))))) apart) fits.closed

  pub fits_beside : IsApart table → Fits now m
  fits_beside apart = record {
    decided = count_beside apart.meta;
    closed = closed_beside apart.closing;
    branches = branches_beside apart.branch;
    floors = floors_beside apart.floor;
    tellers = tellers_beside apart.teller;
    accounts = accounts_beside apart.account;
  }

-- ---- after a row was read or written

apart_keys : (k key : ℕ) → k ≢ key → pos k ≢ pos key
apart_keys k key other is = other (let same : k ≡ key = cc in same)

-- what is remembered of the other tables is what it was
module _ (m n : Memory) (was now : Database) (fits : Fits was m) where
  -- the count
  pub count_noted : n.closed ≡ m.closed → n.branches ≡ m.branches → n.floors ≡ m.floors → n.tellers ≡ m.tellers → n.accounts ≡ m.accounts
      → LeavesOthers bank.meta meta_key was now → IfSome n.decided (CountLies now) → Fits now n
  count_noted sl bs fs ts accts left lies = record {
    decided = lies;
    closed = subst (λ (o : Option (List ClosingRow)). IfSome o (NumbersLie now)) (sym sl)
        (closed_beside bank.meta was now left.beside m fits (names_apart bank.closing.name bank.meta.name refl));
    branches = subst (λ (rows : Known (Option BranchRow)). AllKnown rows (λ k row. BranchLies k now row)) (sym bs)
        (branches_beside bank.meta was now left.beside m fits (names_apart bank.branch.name bank.meta.name refl));
    floors = subst (λ (rows : Known (Option FloorRow)). AllKnown rows (λ k row. FloorLies k now row)) (sym fs)
        (floors_beside bank.meta was now left.beside m fits (names_apart bank.floor.name bank.meta.name refl));
    tellers = subst (λ (rows : Known (Option ℤ)). AllKnown rows (λ k z. BalanceLies (Teller k) now z)) (sym ts)
        (tellers_beside bank.meta was now left.beside m fits (names_apart bank.teller.name bank.meta.name refl));
    accounts = subst (λ (rows : Known (Option ℤ)). AllKnown rows (λ k z. BalanceLies (Account k) now z)) (sym accts)
        (accounts_beside bank.meta was now left.beside m fits (names_apart bank.account.name bank.meta.name refl));
  }

  -- branches
  pub branches_noted : (key : ℕ) → n.closed ≡ m.closed → n.decided ≡ m.decided → n.floors ≡ m.floors → n.tellers ≡ m.tellers
      → n.accounts ≡ m.accounts → LeavesOthers bank.branch key was now
      → (((k : ℕ) (row : Option BranchRow) → k ≢ key → BranchLies k was row → BranchLies k now row)
      → AllKnown n.branches (λ k row. BranchLies k now row)) → Fits now n
  branches_noted key sl d fs ts accts left own = record {
    closed = subst (λ (o : Option (List ClosingRow)). IfSome o (NumbersLie now)) (sym sl)
        (closed_beside bank.branch was now left.beside m fits (names_apart bank.closing.name bank.branch.name refl));
    decided = subst (λ (o : Option ℕ). IfSome o (CountLies now)) (sym d)
        (count_beside bank.branch was now left.beside m fits (names_apart bank.meta.name bank.branch.name refl));
    branches = own (λ k row other. branch_still was now k row (left.others (pos k) (apart_keys k key other)));
    floors = subst (λ (rows : Known (Option FloorRow)). AllKnown rows (λ k row. FloorLies k now row)) (sym fs)
        (floors_beside bank.branch was now left.beside m fits (names_apart bank.floor.name bank.branch.name refl));
    tellers = subst (λ (rows : Known (Option ℤ)). AllKnown rows (λ k z. BalanceLies (Teller k) now z)) (sym ts)
        (tellers_beside bank.branch was now left.beside m fits (names_apart bank.teller.name bank.branch.name refl));
    accounts = subst (λ (rows : Known (Option ℤ)). AllKnown rows (λ k z. BalanceLies (Account k) now z)) (sym accts)
        (accounts_beside bank.branch was now left.beside m fits (names_apart bank.account.name bank.branch.name refl));
  }

  -- floors
  pub floors_noted : (key : ℕ) → n.closed ≡ m.closed → n.decided ≡ m.decided → n.branches ≡ m.branches → n.tellers ≡ m.tellers
      → n.accounts ≡ m.accounts → LeavesOthers bank.floor key was now
      → (((k : ℕ) (row : Option FloorRow) → k ≢ key → FloorLies k was row → FloorLies k now row)
      → AllKnown n.floors (λ k row. FloorLies k now row)) → Fits now n
  floors_noted key sl d bs ts accts left own = record {
    closed = subst (λ (o : Option (List ClosingRow)). IfSome o (NumbersLie now)) (sym sl)
        (closed_beside bank.floor was now left.beside m fits (names_apart bank.closing.name bank.floor.name refl));
    decided = subst (λ (o : Option ℕ). IfSome o (CountLies now)) (sym d)
        (count_beside bank.floor was now left.beside m fits (names_apart bank.meta.name bank.floor.name refl));
    branches = subst (λ (rows : Known (Option BranchRow)). AllKnown rows (λ k row. BranchLies k now row)) (sym bs)
        (branches_beside bank.floor was now left.beside m fits (names_apart bank.branch.name bank.floor.name refl));
    floors = own (λ k row other. floor_still was now k row (left.others (pos k) (apart_keys k key other)));
    tellers = subst (λ (rows : Known (Option ℤ)). AllKnown rows (λ k z. BalanceLies (Teller k) now z)) (sym ts)
        (tellers_beside bank.floor was now left.beside m fits (names_apart bank.teller.name bank.floor.name refl));
    accounts = subst (λ (rows : Known (Option ℤ)). AllKnown rows (λ k z. BalanceLies (Account k) now z)) (sym accts)
        (accounts_beside bank.floor was now left.beside m fits (names_apart bank.account.name bank.floor.name refl));
  }

  -- tellers
  pub tellers_noted : (key : ℕ) → n.closed ≡ m.closed → n.decided ≡ m.decided → n.branches ≡ m.branches → n.floors ≡ m.floors
      → n.accounts ≡ m.accounts → LeavesOthers bank.teller key was now
      → (((k : ℕ) (z : Option ℤ) → k ≢ key → BalanceLies (Teller k) was z → BalanceLies (Teller k) now z)
      → AllKnown n.tellers (λ k z. BalanceLies (Teller k) now z)) → Fits now n
  tellers_noted key sl d bs fs accts left own = record {
    closed = subst (λ (o : Option (List ClosingRow)). IfSome o (NumbersLie now)) (sym sl)
        (closed_beside bank.teller was now left.beside m fits (names_apart bank.closing.name bank.teller.name refl));
    decided = subst (λ (o : Option ℕ). IfSome o (CountLies now)) (sym d)
        (count_beside bank.teller was now left.beside m fits (names_apart bank.meta.name bank.teller.name refl));
    branches = subst (λ (rows : Known (Option BranchRow)). AllKnown rows (λ k row. BranchLies k now row)) (sym bs)
        (branches_beside bank.teller was now left.beside m fits (names_apart bank.branch.name bank.teller.name refl));
    floors = subst (λ (rows : Known (Option FloorRow)). AllKnown rows (λ k row. FloorLies k now row)) (sym fs)
        (floors_beside bank.teller was now left.beside m fits (names_apart bank.floor.name bank.teller.name refl));
    tellers = own (λ k z other. teller_still was now k z (left.others (pos k) (apart_keys k key other)));
    accounts = subst (λ (rows : Known (Option ℤ)). AllKnown rows (λ k z. BalanceLies (Account k) now z)) (sym accts)
        (accounts_beside bank.teller was now left.beside m fits (names_apart bank.account.name bank.teller.name refl));
  }

  -- accounts
  pub accounts_noted : (key : ℕ) → n.closed ≡ m.closed → n.decided ≡ m.decided → n.branches ≡ m.branches → n.floors ≡ m.floors
      → n.tellers ≡ m.tellers → LeavesOthers bank.account key was now
      → (((k : ℕ) (z : Option ℤ) → k ≢ key → BalanceLies (Account k) was z → BalanceLies (Account k) now z)
      → AllKnown n.accounts (λ k z. BalanceLies (Account k) now z)) → Fits now n
  accounts_noted key sl d bs fs ts left own = record {
    closed = subst (λ (o : Option (List ClosingRow)). IfSome o (NumbersLie now)) (sym sl)
        (closed_beside bank.account was now left.beside m fits (names_apart bank.closing.name bank.account.name refl));
    decided = subst (λ (o : Option ℕ). IfSome o (CountLies now)) (sym d)
        (count_beside bank.account was now left.beside m fits (names_apart bank.meta.name bank.account.name refl));
    branches = subst (λ (rows : Known (Option BranchRow)). AllKnown rows (λ k row. BranchLies k now row)) (sym bs)
        (branches_beside bank.account was now left.beside m fits (names_apart bank.branch.name bank.account.name refl));
    floors = subst (λ (rows : Known (Option FloorRow)). AllKnown rows (λ k row. FloorLies k now row)) (sym fs)
        (floors_beside bank.account was now left.beside m fits (names_apart bank.floor.name bank.account.name refl));
    tellers = subst (λ (rows : Known (Option ℤ)). AllKnown rows (λ k z. BalanceLies (Teller k) now z)) (sym ts)
        (tellers_beside bank.account was now left.beside m fits (names_apart bank.teller.name bank.account.name refl));
    accounts = own (λ k z other. account_still was now k z (left.others (pos k) (apart_keys k key other)));
  }

-- ---- where nothing is remembered

-- it lies in any file
pub fits_nothing : (m : Memory) → m.closed ≡ None → m.decided ≡ None → KnowsNothing m.branches → KnowsNothing m.floors
    → KnowsNothing m.tellers → KnowsNothing m.accounts → IsBlank m
fits_nothing m unsealed none branches floors tellers accounts db = record {
  closed = subst (λ (o : Option (List ClosingRow)). IfSome o (NumbersLie db)) (sym unsealed) tt;
  decided = subst (λ (o : Option ℕ). IfSome o (CountLies db)) (sym none) tt;
  branches = known_none _ m.branches branches;
  floors = known_none _ m.floors floors;
  tellers = known_none _ m.tellers tellers;
  accounts = known_none _ m.accounts accounts;
}
