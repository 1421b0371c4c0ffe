-- What the statements of all accounts say of a bank, and of any file.
use Rattle.std.specs.Prelude.{◌≡◌, ◌≢◌, ℕ, List, map, Option, Result, Err, OnErr, OnOk}
use Rattle.std.specs.Io.KnownBytes.{Appends}
use Rattle.sqlite_trees.specs.declared.store.Store.{Ghosts}
use Rattle.posting_rules.specs.believed.Commands.{Command}
use Rattle.posting_rules.specs.believed.Counter.{Seen, ShowsLog}
use Rattle.posting_rules.specs.believed.Entries.{decided}
use Rattle.posting_rules.specs.believed.Tables.{Tables}
use Rattle.posting_rules.specs.declared.fault.Fault.TheVariants.{Damaged, Store}
use Rattle.posting_rules.specs.declared.fault.Rule.{Rule}
use Rattle.store_rows.specs.believed.BankTables.{history as history_table, reference as reference_table}
use Rattle.store_rows.specs.believed.View.{history_entry, reference_entry}
use Rattle.walked_rows.specs.Pairs.{HasPairs, Pair, paired}
use Rattle.report_contents.specs.AllStatements.{AreStatements}
use Rattle.report_contents.specs.Written.{AppendsPart}
use Rattle.report_contents.specs.declared.query.Query.{Query}
use Rattle.bank_store.specs.believed.Seen.{bank_seen, connection_of, database_of}
use Rattle.bank_store.specs.declared.bank.Bank.{Bank}
use Rattle.bank_store.specs.Failures.{HasFailedToRead}
use Rattle.bank_store.specs.Leaving.{TakesNone}
use Rattle.bank_reports.specs.declared.fault.ReportFault.{ReportFault}
use Rattle.bank_reports.specs.declared.fault.ReportFault.TheVariants.{Bank as OfBank, NoAccount}
use Rattle.bank_reports.specs.AllPostings.{WritesStatements}
use Rattle.bank_reports.specs.Postings.{HasAnswered}
use Rattle.bank_reports.specs.StatedLines.{all_postings}

-- a text is that of all statements after a log
abbrev pub AreStatementsAfter : List Command → Query → List ℕ → Type 0
AreStatementsAfter log query text = AreStatements query (all_postings (decided log)) text

-- what is asked for of all accounts of a bank was stated; w and w' are the known bytes of the writer before and after
pub record StatesAll (old new : Seen) (query : Query) (w w' : Option (List ℕ))
    (end : Result (Unit {0}) ReportFault) : Type 0 where
  -- the statements after the bank's log were written
  pub text : OnOk end (new.honest → (log : List Command) → ShowsLog old log
      → (text : List ℕ) × AreStatementsAfter log query text × Appends w w' text)
  -- at a fault a prefix of them was
  pub part : OnErr end (new.honest → (log : List Command) → ShowsLog old log
      → (text : List ℕ) × AreStatementsAfter log query text × AppendsPart w w' text)
  -- whether an account is open isn't asked
  pub found : end ≢ Err NoAccount
  -- a bank that shows a log is never told to be damaged
  pub sound : (rule : Rule) → end ≡ Err (OfBank (Damaged rule)) → new.honest → (log : List Command)
      → ShowsLog old log → ⊥
  pub takes : TakesNone old new (HasAnswered end)

-- what is asked for of all accounts of a file was stated, whatever rows it has
pub record StatesAllOfFile {S : Type 0} (g : Ghosts S) (old new : Bank S g) (query : Query) (w w' : Option (List ℕ))
    (end : Result (Unit {0}) ReportFault) : Type 0 where
  -- the rows of history that the file holds are gathered, each with the reference that is held under its ordinal,
  -- and then their statements are written
  pub rows : (rows : List Pair) → HasPairs (database_of g old) history_table reference_table rows
      → WritesStatements query rows w w' end
  -- so are those of a bank's tables, be they of a log or not
  pub tables : (t : Tables) → (bank_seen g old).tables t
      → WritesStatements query (paired (map reference_entry t.references) (map history_entry t.history)) w w' end
  -- the store is said to have failed where a read of the postings did
  pub store : end ≡ Err (OfBank Store) → (rows : List Pair)
      → HasPairs (database_of g old) history_table reference_table rows
      → HasFailedToRead g (connection_of old) (connection_of new)
