-- What a statement says of a bank, and of any file, and what it leaves of its writer.
use Rattle.std.specs.Prelude.{◌≡◌, ◌≢◌, ◌⊎◌, ℕ, List, map, Option, None, Result, Err, IsSome, OnErr, OnOk}
use Rattle.std.specs.Io.KnownBytes.{Appends}
use Rattle.sqlite_trees.specs.declared.store.Store.{Ghosts}
use Rattle.posting_rules.specs.believed.Commands.{Command}
use Rattle.posting_rules.specs.believed.Counter.{Seen, ShowsLog}
use Rattle.posting_rules.specs.believed.Entries.{balance_after}
use Rattle.posting_rules.specs.believed.Tables.{Tables}
use Rattle.posting_rules.specs.declared.fault.Fault.{Fault}
use Rattle.posting_rules.specs.declared.fault.Fault.TheVariants.{Damaged, Store}
use Rattle.posting_rules.specs.declared.fault.Rule.{Rule}
use Rattle.posting_core.specs.believed.EndCalls.{EndsWith}
use Rattle.posting_core.specs.EndCalls.{HasWriteFailed, IsFlush, WriteCall}
use Rattle.store_rows.specs.believed.BankTables.{history as history_table, reference as reference_table}
use Rattle.store_rows.specs.believed.View.{history_entry, reference_entry}
use Rattle.bank_transactions.specs.believed.Stored.{IsStoredBalance}
use Rattle.walked_rows.specs.Pairs.{HasPairs, Pair, paired}
use Rattle.report_contents.specs.Written.{AppendsPart}
use Rattle.bank_store.specs.believed.Down.{KeepsCause}
use Rattle.bank_store.specs.Down.{WasBroken}
use Rattle.bank_store.specs.believed.Seen.{bank_seen, connection_of, database_of}
use Rattle.bank_store.specs.declared.bank.Bank.{Bank}
use Rattle.bank_reports.specs.declared.fault.ReportFault.{ReportFault}
use Rattle.bank_reports.specs.declared.fault.ReportFault.TheVariants.{Bank as OfBank, NoAccount, Write}
use Rattle.report_contents.specs.declared.query.Query.{Query}
use Rattle.report_contents.specs.Queries.{whole_query}
use Rattle.bank_reports.specs.StatedLines.{statement_after}
use Rattle.bank_store.specs.Failures.{HasFailedToRead}
use Rattle.bank_store.specs.Leaving.{TakesNone}
use Rattle.bank_reports.specs.Postings.{HasAnswered, StatesRows}

-- what is asked for of an account of a bank was stated; w and w' are the known bytes of the writer before and after
pub record StatesSelected (old new : Seen) (account : ℕ) (query : Query) (w w' : Option (List ℕ))
    (end : Result (Unit {0}) ReportFault) : Type 0 where
  -- the statement after the bank's log was written
  pub text : OnOk end (new.honest → (log : List Command) → ShowsLog old log
      → Appends w w' (statement_after log account query))
  -- of an account that is open
  pub found : OnOk end (new.honest → (log : List Command) → ShowsLog old log
      → IsSome (balance_after log account))
  -- where it isn't that is told, and nothing was written
  pub missing : end ≡ Err NoAccount → new.honest → (log : List Command) → ShowsLog old log
      → balance_after log account ≡ None
  pub silent : end ≡ Err NoAccount → w' ≡ w
  -- at a fault a prefix of it was
  pub part : OnErr end (new.honest → (log : List Command) → ShowsLog old log
      → AppendsPart w w' (statement_after log account query))
  -- a bank that shows a log is never told to be damaged
  pub sound : (rule : Rule) → end ≡ Err (OfBank (Damaged rule)) → new.honest → (log : List Command)
      → ShowsLog old log → ⊥
  pub takes : TakesNone old new (HasAnswered end)

-- the whole statement of an account of a bank was written
abbrev pub States : Seen → Seen → ℕ → Option (List ℕ) → Option (List ℕ) → Result (Unit {0}) ReportFault → Type 0
States old new account w w' end = StatesSelected old new account whole_query w w' end

-- what is asked for of an account of a file was stated, whatever rows it has
pub record StatesFileSelected {S : Type 0} (g : Ghosts S) (old new : Bank S g) (account : ℕ) (query : Query) (w w' : Option (List ℕ))
    (end : Result (Unit {0}) ReportFault) : Type 0 where
  -- of the rows of history that the file holds, the account's are written by their ordinals, each with the
  -- reference that is held under its ordinal, all of them or, at a fault, the first, and then the balance
  -- that its row has
  pub rows : end ≢ Err NoAccount → (rows : List Pair)
      → HasPairs (database_of g old) history_table reference_table rows
      → StatesRows (database_of g old) account query rows w w' end
  -- so are those of a bank's tables, be they of a log or not
  pub tables : end ≢ Err NoAccount → (t : Tables) → (bank_seen g old).tables t
      → StatesRows (database_of g old) account query
      (paired (map reference_entry t.references) (map history_entry t.history)) w w' end
  -- or the account has no row, and none is due by its branch's count
  pub absent : end ≡ Err NoAccount → IsStoredBalance (database_of g old) account None
  -- the store is said to have failed where a read of the postings did
  pub store : end ≡ Err (OfBank Store) → (rows : List Pair)
      → HasPairs (database_of g old) history_table reference_table rows
      → HasFailedToRead g (connection_of old) (connection_of new)

-- the whole statement of an account of a file was written
abbrev pub StatesFile : {S : Type 0} (g : Ghosts S) (old new : Bank S g) → ℕ → Option (List ℕ) → Option (List ℕ)
    → Result (Unit {0}) ReportFault → Type 0
StatesFile g old new account w w' end = StatesFileSelected g old new account whole_query w w' end

-- the bank is down after a statement: it refused the balance, or was down before
pub record RefusesBalance {S : Type 0} (g : Ghosts S) (old new : Bank S g)
    (end : Result (Unit {0}) ReportFault) : Type 0 where
  -- a fault of the bank is told
  pub fault : (fault : Fault) × (end ≡ Err (OfBank fault))
  -- the store is said to have failed where the bank went down with its error
  pub cause : end ≡ Err (OfBank Store) → KeepsCause g old new
  -- it is told to be damaged where the rows that the file held break that rule, and it holds them yet
  pub broken : (rule : Rule) → end ≡ Err (OfBank (Damaged rule)) → WasBroken g old new rule
  pub unchanged : (rule : Rule) → end ≡ Err (OfBank (Damaged rule)) → (bank_seen g new).honest
      → database_of g new ≡ database_of g old

-- what is left of the writer, of which it is known what its calls returned
pub record LeavesWriter {W : Type 0} (calls : W → Option (List WriteCall)) (old new : W) (refused : Type 0)
    (end : Result (Unit {0}) ReportFault) : Type 0 where
  -- where the account isn't open, or its balance was refused, nothing was written
  pub silent : (end ≡ Err NoAccount) ⊎ refused → new ≡ old
  -- after Ok all is flushed
  pub flushed : OnOk end (EndsWith IsFlush (calls old) (calls new))
  -- the last write or flush failed, or it was asked too often
  pub failed : end ≡ Err Write → HasWriteFailed (calls old) (calls new)
