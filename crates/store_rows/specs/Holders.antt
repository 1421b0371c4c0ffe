-- Whose balance it is: of an account, of a teller or of a branch (TPC-B 1.2).
use Rattle.std.specs.Prelude.{ℕ, ℤ, Bool, List, Option, IsTrue, is_some, option_map}
use Rattle.sqlite.specs.Table.{Table}
use Rattle.posting_rules.specs.believed.Changes.{with_account_balance, with_teller_balance, with_branch_balance}
use Rattle.posting_rules.specs.Changes.{with_account, with_teller}
use Rattle.posting_rules.specs.believed.LookUps.{account_balance_in, balance_of_teller}
use Rattle.posting_rules.specs.believed.Tables.{Tables, row_at, account_key, teller_key, branch_key, account_row_of}
use Rattle.posting_rules.specs.believed.Tables.{teller_row_of}
use Rattle.sql_meanings.specs.believed.Entries.{Entry}
use Rattle.store_rows.specs.believed.Rules.{StoredRows, row_under}
use Rattle.store_rows.specs.believed.BankTables as bank
use Rattle.store_rows.specs.believed.View.{account_entry, teller_entry}
use Rattle.store_rows.specs.declared.holders.Holder.{Holder}
use Rattle.store_rows.specs.declared.holders.Holder.TheVariants.{Account, Teller, Branch}
use Rattle.store_rows.specs.declared.holders.Member.{Member}
use Rattle.store_rows.specs.declared.holders.Member.TheVariants as member
use Rattle.store_rows.specs.declared.texts.TheConstants.{ADD_ACCOUNT, ADD_TELLER, SET_ACCOUNT, SET_BRANCH, SET_TELLER}

-- the table of its row
abbrev pub holder_table : Holder → Table
holder_table (Account account) = bank.account
holder_table (Teller teller) = bank.teller
holder_table (Branch branch) = bank.branch

-- the text that writes its balance
abbrev pub holder_update : Holder → List ℕ
holder_update (Account account) = SET_ACCOUNT.now
holder_update (Teller teller) = SET_TELLER.now
holder_update (Branch branch) = SET_BRANCH.now

-- whether its row is there
abbrev pub is_there : Holder → Tables → Bool
is_there (Account account) t = is_some (row_at account_key t.accounts account)
is_there (Teller teller) t = is_some (row_at teller_key t.tellers teller)
is_there (Branch branch) t = is_some (row_at branch_key t.branches branch)

-- it is
abbrev pub HasRow : Holder → Tables → Type 0
HasRow holder t = IsTrue (is_there holder t)

-- it has this balance
abbrev pub with_balance : Holder → ℤ → Tables → Tables
with_balance (Account account) balance t = with_account_balance account balance t
with_balance (Teller teller) balance t = with_teller_balance teller balance t
with_balance (Branch branch) balance t = with_branch_balance branch balance t

-- ---- what belongs to a branch

-- it as a holder
abbrev pub holder_of : Member → Holder
holder_of (member.Account account) = Account account
holder_of (member.Teller teller) = Teller teller

-- the text that puts its row in
abbrev pub member_insert : Member → List ℕ
member_insert (member.Account account) = ADD_ACCOUNT.now
member_insert (member.Teller teller) = ADD_TELLER.now

-- its row with this balance, as it is put in
abbrev pub member_entry : Member → ℤ → Entry
member_entry (member.Account account) balance = account_entry (account_row_of account balance)
member_entry (member.Teller teller) balance = teller_entry (teller_row_of teller balance)

-- its balance
abbrev pub balance_in : Member → Tables → Option ℤ
balance_in (member.Account account) t = account_balance_in t account
balance_in (member.Teller teller) t = option_map balance_of_teller (row_at teller_key t.tellers teller)

-- its row as a file holds it
abbrev pub entry_under : Member → StoredRows → Option Entry
entry_under (member.Account account) rows = row_under rows.accounts account
entry_under (member.Teller teller) rows = row_under rows.tellers teller

-- its row more, with this balance
abbrev pub with_row : Member → ℤ → Tables → Tables
with_row (member.Account account) balance t = with_account (account_row_of account balance) t
with_row (member.Teller teller) balance t = with_teller (teller_row_of teller balance) t
