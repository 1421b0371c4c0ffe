-- What lies in the tables of a bank under a key, whatever rows they have and in whatever order. So it is said of a file
-- whose rows are damaged, too, that what was read or written under a key is still there.
use Rattle.std.specs.Prelude.{◌≡◌, ◌≢◌, ℕ, ℤ, pos, List, [], ◌∷◌, find, true, false, Bool, Option, Some, None, Result, Ok, Err}
use Rattle.std.specs.Prelude.{IfOk, IsTrue, OnOk, ⊤}
use Rattle.std.specs.List.{AllByRecursion}
use Rattle.sqlite.specs.Effect.{Database}
use Rattle.sqlite.specs.Held.{state}
use Rattle.sqlite.specs.Order.{Row, column}
use Rattle.sqlite.specs.State.{HasCleanDisk}
use Rattle.sqlite.specs.Table.{Table}
use Rattle.sqlite.specs.declared.transaction.Transaction.{Transaction}
use Rattle.sqlite.specs.declared.types.Value.TheVariants.{Int}
use Rattle.sqlite_rules.specs.Lists.{Has}
use Rattle.sqlite_trees.specs.declared.store.Store.{Ghosts}
use Rattle.posting_rules.specs.declared.rows.BranchRow.{BranchRow}
use Rattle.posting_rules.specs.declared.rows.ClosingRow.{ClosingRow}
use Rattle.posting_rules.specs.declared.rows.FloorRow.{FloorRow}
use Rattle.sql_meanings.specs.Entries.{is_above}
use Rattle.sql_meanings.specs.Under.{IsStored, rows_of, rows_under}
use Rattle.sql_meanings.specs.believed.Entries.{Entry}
use Rattle.sql_meanings.specs.believed.Tables.{Holds}
use Rattle.store_rows.specs.believed.BankTables as bank
use Rattle.store_rows.specs.believed.BankTables.{bank_tables}
use Rattle.store_rows.specs.believed.Readings.{Reading, balance_of, branch_of, floor_of, read_closing}
use Rattle.store_rows.specs.believed.Rules.{row_under}
use Rattle.store_rows.specs.believed.Stored.{FindsStored}
use Rattle.store_rows.specs.Columns.{meta_of}
use Rattle.store_rows.specs.declared.holders.Holder.{Holder}
use Rattle.store_rows.specs.declared.holders.Holder.TheVariants as holder
use Rattle.store_rows.specs.declared.holders.Member.{Member}
use Rattle.store_rows.specs.declared.holders.Member.TheVariants.{Account, Teller}
use Rattle.store_rows.specs.declared.metas.StoredMeta.{StoredMeta}
use Rattle.store_rows.specs.declared.metas.TheConstants.{META_ID}

-- its schema defines each table of a bank, and keeps its rows
abbrev pub IsBankFile : Database → Type 0
IsBankFile db = AllByRecursion (IsStored db.schema) bank_tables

-- ---- what lies under a key

-- a row of the table that reads as this, by what a look-up shows of it; or none
abbrev pub LiesAs : {X : Type 0} → Table → (Row → Row) → Reading X → ℕ → Database → Option X → Type 0
LiesAs table shown read k db None = rows_under db table (pos k) ≡ []
LiesAs table shown read k db (Some x) = (row : Row) × Has (rows_under db table (pos k)) row × (read (shown row) ≡ Ok x)

-- a row as it lies has its key, an empty place in the key's column, and its other columns

-- the row of a branch
abbrev pub BranchLies : ℕ → Database → Option BranchRow → Type 0
BranchLies = LiesAs bank.branch (λ row. column row 0 ∷ column row 2 ∷ column row 3 ∷ []) branch_of

-- the floor of a branch
abbrev pub FloorLies : ℕ → Database → Option FloorRow → Type 0
FloorLies = LiesAs bank.floor (λ row. column row 0 ∷ column row 2 ∷ []) floor_of

-- the balance of an account or of a teller
abbrev pub BalanceLies : Member → Database → Option ℤ → Type 0
BalanceLies (Account account) = LiesAs bank.account (λ row. column row 2 ∷ []) balance_of account
BalanceLies (Teller teller) = LiesAs bank.teller (λ row. column row 2 ∷ []) balance_of teller

-- the row of the bank
abbrev pub MetaLies : Database → Option StoredMeta → Type 0
MetaLies = LiesAs bank.meta (λ row. column row 2 ∷ column row 3 ∷ []) meta_of META_ID

-- the row of the bank counts so many decided requests, whatever else it has
abbrev pub CountLies : Database → ℕ → Type 0
CountLies db n = (row : Row) × Has (rows_under db bank.meta (pos META_ID)) row × (column row 3 ≡ Int (pos n))

-- ---- the closed numbers, all of which are read

-- whatever rows of numbers their table has, by rising keys
abbrev pub OfClosings : (List Entry → Type 0) → Database → Type 0
OfClosings P db = (rows : List Entry) → Holds db bank.closing rows → P rows

-- the row that seals the books reads as this
abbrev pub SealLies : Database → Option ClosingRow → Type 0
SealLies db found = OfClosings (λ rows. FindsStored (row_under rows 0) read_closing (Ok found)) db

-- the first row above a key does
abbrev pub NextLies : ℕ → Database → Option ClosingRow → Type 0
NextLies after db found = OfClosings (λ rows. FindsStored (find (is_above (pos after)) rows) read_closing (Ok found)) db

-- ---- what a look-up finds

-- in a bank's file it lies there
abbrev pub FindsLying : {S X E : Type 0} → Ghosts S → Transaction S → Transaction S → (Database → X → Type 0)
    → Result X E → Type 0
FindsLying g old new Lies result = IfOk result (λ found. HasCleanDisk (state g new.conn.now)
    → IsBankFile (state g old.conn.now).now → Lies (state g old.conn.now).now found)

-- ---- what a write leaves

-- it is a bank's file still, whose other tables have under each key what they had
pub record LeavesBeside (table : Table) (old new : Database) : Type 0 where
  pub file : IsBankFile new
  pub beside : (other : Table) → Has bank_tables other → other.name ≢ table.name
      → rows_of new other ≡ rows_of old other

-- the table too, but for one key
pub record LeavesOthers (table : Table) (key : ℕ) (old new : Database) : Type 0 where
  pub beside : LeavesBeside table old new
  pub others : (k : ℤ) → k ≢ pos key → rows_under new table k ≡ rows_under old table k

-- what is so of a bank's file as a call inside a transaction was done
abbrev pub AfterWrite : {S : Type 0} → Ghosts S → Transaction S → Transaction S → (Database → Database → Type 0)
    → Type 0
AfterWrite g old new Left = HasCleanDisk (state g new.conn.now) → IsTrue (state g old.conn.now).in_transaction
    → IsBankFile (state g old.conn.now).now → Left (state g old.conn.now).now (state g new.conn.now).now

-- a row was put in
abbrev pub PutsLying : {S X E : Type 0} → Ghosts S → Transaction S → Transaction S → Table → Result X E → Type 0
PutsLying g old new table result = OnOk result (AfterWrite g old new (LeavesBeside table))

-- the row under a key was changed, and this is so of it
abbrev pub SetsLying : {S E : Type 0} → Ghosts S → Transaction S → Transaction S → Table → ℕ
    → (Database → Database → Type 0) → Result Bool E → Type 0
SetsLying g old new table key Set (Ok true) = AfterWrite g old new (λ before now. LeavesOthers table key before now
    × Set before now)
SetsLying g old new table key Set (Ok false) = ⊤
SetsLying g old new table key Set (Err e) = ⊤

-- the number of its row
abbrev pub holder_key : Holder → ℕ
holder_key (holder.Account account) = account
holder_key (holder.Teller teller) = teller
holder_key (holder.Branch branch) = branch

-- this is its balance now; a branch has the count that it had
abbrev pub SetsBalance : Holder → ℤ → Database → Database → Type 0
SetsBalance (holder.Account account) balance old new = BalanceLies (Account account) new (Some balance)
SetsBalance (holder.Teller teller) balance old new = BalanceLies (Teller teller) new (Some balance)
SetsBalance (holder.Branch branch) balance old new = (row : BranchRow) → BranchLies branch old (Some row)
    → BranchLies branch new (Some (record row { balance = balance }))

-- this is the count of the bank's row now, and it has the version that it had
abbrev pub SetsDecided : ℕ → Database → Database → Type 0
SetsDecided decided old new = (row : StoredMeta) → MetaLies old (Some row)
    → MetaLies new (Some (record row { decided = pos decided }))

-- this is the version of the bank's row now, and it has the count that it had
abbrev pub SetsItsVersion : ℤ → Database → Database → Type 0
SetsItsVersion version old new = (row : StoredMeta) → MetaLies old (Some row)
    → MetaLies new (Some (record row { version = version }))

-- after a call inside a transaction the row of the bank counts so many, if the file is a bank's
abbrev pub Counts : {S : Type 0} → Ghosts S → Transaction S → Transaction S → ℕ → Type 0
Counts g old new n = HasCleanDisk (state g new.conn.now) → IsTrue (state g old.conn.now).in_transaction
    → IsBankFile (state g new.conn.now).now → CountLies (state g new.conn.now).now n

-- it was written
abbrev pub SetsCount : {S E : Type 0} → Ghosts S → Transaction S → Transaction S → ℕ → Result Bool E → Type 0
SetsCount g old new n (Ok true) = Counts g old new n
SetsCount g old new n (Ok false) = ⊤
SetsCount g old new n (Err e) = ⊤
