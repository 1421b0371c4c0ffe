-- What is remembered of the rows of a bank's file.
use Rattle.std.specs.Prelude.{◌≡◌, ⊤, ℕ, ℤ, Bool, false, List, [], ◌∷◌, nat_lt, Option, Some, None, IfSome, IsTrue, OnOk}
use Rattle.std.specs.Prelude.{Result, Ok, Err, ◌==◌, ◌||◌, if◌then◌else◌}
use Rattle.sqlite.specs.Effect.{Database}
use Rattle.sqlite.specs.Held.{Held, state}
use Rattle.sqlite.specs.State.{State, HasCleanDisk}
use Rattle.sqlite.specs.declared.transaction.Transaction.{Transaction}
use Rattle.sqlite_trees.specs.declared.store.Store.{Ghosts}
use Rattle.posting_rules.specs.declared.fault.Rule.{Rule}
use Rattle.posting_rules.specs.declared.rows.ClosingRow.{ClosingRow}
use Rattle.sql_meanings.specs.Calls.{Says}
use Rattle.sql_meanings.specs.StatementAnswers.{WriteFails}
use Rattle.sql_meanings.specs.Under.{rows_of}
use Rattle.sql_meanings.specs.believed.Entries.{Entry, IsTree}
use Rattle.sql_meanings.specs.believed.Tables.{width_of}
use Rattle.store_rows.specs.believed.BankTables.{closing}
use Rattle.store_rows.specs.Calls.{OfStored}
use Rattle.store_rows.specs.Failures.{HasReason}
use Rattle.store_rows.specs.believed.Rules.{StoredRows}
use Rattle.store_rows.specs.believed.Stored.{FindsStored}
use Rattle.store_rows.specs.declared.fault.TableFault.{TableFault}
use Rattle.store_rows.specs.Lying.{AfterWrite, BalanceLies, BranchLies, CountLies, FloorLies, IsBankFile}
use Rattle.store_rows.specs.declared.holders.Member.{Member, TheVariants.Account, TheVariants.Teller}
use Rattle.bank_transactions.specs.Known.{known_under, places}
use Rattle.bank_transactions.specs.declared.known_rows.table.Known.{Known}
use Rattle.posting_batch.specs.declared.slots.RequestSlot.{RequestSlot}
use Rattle.bank_transactions.specs.KnownRows.{AllKnown}
use Rattle.bank_transactions.specs.Doing.{Stays}
use Rattle.bank_transactions.specs.believed.Stored.{HasNumbers}
use Rattle.bank_transactions.specs.declared.memory.Memory.{Memory}
use Rattle.bank_transactions.specs.declared.memory.TheConstants.{SENT_AGAIN}

-- whatever rows of numbers lie in the table of closed numbers by rising keys
abbrev pub OfClosingTree : (List Entry → Type 0) → Database → Type 0
OfClosingTree P db = (rows : List Entry) → IsTree (width_of closing) (rows_of db closing) rows → P rows

-- these runs have the numbers that they close
abbrev pub NumbersLie : Database → List ClosingRow → Type 0
NumbersLie db runs = OfClosingTree (λ rows. HasNumbers rows runs) db

-- It lies in the database, whatever other rows that has: so many decided requests the row of the bank counts, the closed
-- numbers, and the rows that are known, and where it is known that there is none.
pub record Fits (db : Database) (memory : Memory) : Type 0 where
  pub decided : IfSome memory.decided (CountLies db)
  pub closed : IfSome memory.closed (NumbersLie db)
  pub branches : AllKnown memory.branches (λ branch row. BranchLies branch db row)
  pub floors : AllKnown memory.floors (λ branch row. FloorLies branch db row)
  pub tellers : AllKnown memory.tellers (λ teller balance. BalanceLies (Teller teller) db balance)
  pub accounts : AllKnown memory.accounts (λ account balance. BalanceLies (Account account) db balance)

-- the balances that are remembered of accounts, or of tellers
abbrev pub balances_of : Memory → Member → Known (Option ℤ)
balances_of memory (Account account) = memory.accounts
balances_of memory (Teller teller) = memory.tellers

-- as many rows can be remembered as before
pub record KeepsRoom (old new : Memory) : Type 0 where
  pub branches : places new.branches ≡ places old.branches
  pub floors : places new.floors ≡ places old.floors
  pub tellers : places new.tellers ≡ places old.tellers
  pub accounts : places new.accounts ≡ places old.accounts
  pub numbers : places new.numbers ≡ places old.numbers

-- it is said of a request that is sent alone
abbrev pub IfSingle : List RequestSlot → (RequestSlot → Type 0) → Type 0
IfSingle (slot ∷ []) P = P slot
IfSingle _ P = ⊤

-- the highest number that a teller is known to have sent, with this one; after a try in vain, this one
abbrev pub highest_sent : Option ℕ → ℕ → ℕ
highest_sent None number = number
highest_sent (Some highest) number = if nat_lt highest number || (highest == SENT_AGAIN) then number else highest

-- a number is above the one that is known, if one is
abbrev pub is_above : Option ℕ → ℕ → Bool
is_above None number = false
is_above (Some highest) number = nat_lt highest number

-- a single request, whose number is above the highest that its teller is known to have sent
abbrev pub is_single_above : Known ℕ → List RequestSlot → Bool
is_single_above numbers (slot ∷ []) = is_above (known_under numbers slot.teller) slot.number
is_single_above numbers _ = false

-- nothing is remembered that a database would have to hold
abbrev pub IsBlank : Memory → Type 0
IsBlank memory = (db : Database) → Fits db memory

-- it lies in the file behind a connection, if that is a bank's
abbrev pub Remembers : {S : Type 0} → Ghosts S → Held S → Memory → Type 0
Remembers g conn memory = HasCleanDisk (state g conn) → IsBankFile (state g conn).now → Fits (state g conn).now memory

-- it does after a part of a transaction, as long as that goes on
abbrev pub Keeps : {S : Type 0} → Ghosts S → Transaction S → Transaction S → Memory → Type 0
Keeps g old new memory = IsTrue (state g old.conn.now).in_transaction → Remembers g new.conn.now memory

-- it lies in the file as that was before a part of a transaction, whatever the part wrote
abbrev pub FitsBefore : {S : Type 0} → Ghosts S → Transaction S → Transaction S → Memory → Type 0
FitsBefore g old new memory = HasCleanDisk (state g new.conn.now) → IsBankFile (state g old.conn.now).now
    → Fits (state g old.conn.now).now memory

-- as a part that writes is done, what lay in the file before it lies there again, as it was changed with it
abbrev pub IsFollowed : {S : Type 0} → Ghosts S → Transaction S → Transaction S → Memory → Memory → Type 0
IsFollowed g old new before after = AfterWrite g old new (λ was now. IsBankFile now × (Fits was before → Fits now after))

abbrev pub Follows : {S X E : Type 0} → Ghosts S → Transaction S → Transaction S → Memory → Memory → Result X E → Type 0
Follows g old new before after result = OnOk result (IsFollowed g old new before after)

-- ---- a look-up of a row, whether the tables are asked or not

-- nothing has changed, or the statement failed
abbrev pub StaysOrFails : {X : Type 0} → State → State → Result X TableFault → Type 0
StaysOrFails old new (Ok x) = Stays old new
StaysOrFails old new (Err fault) = WriteFails old new × HasReason old new fault

-- what is remembered is answered, and the tables aren't asked
abbrev pub AsksOnce : {S X E : Type 0} → Transaction S → Transaction S → Option X → Result X E → Type 0
AsksOnce old new remembered result = IfSome remembered (λ x. (result ≡ Ok x) × (new.conn.now ≡ old.conn.now))

-- what the row reads as is reported, whatever rows are held
abbrev pub Recalls : {S X : Type 0} → Ghosts S → Transaction S → Transaction S → (StoredRows → Option Entry)
    → (Entry → Result X Rule) → Result (Option X) TableFault → Type 0
Recalls g old new stored read result =
    Says g old new (OfStored (λ old new rows. FindsStored (stored rows) read result))
    (λ old new. StaysOrFails old new result)
