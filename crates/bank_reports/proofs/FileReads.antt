-- What reads of a file's five tables leave, one table after another.
use Rattle.std.proofs.Common.{Ok, Result, inl, inr, refl, sym, subst}
use Rattle.sqlite.specs.{Effect.Database, State.HasCleanDisk}
use Rattle.sqlite_trees.specs.declared.store.Store.{Ghosts}
use Rattle.posting_rules.specs.declared.fault.Rule.{Rule}
use Rattle.store_rows.specs.believed.BankTables.{account as account_table, branch as branch_table}
use Rattle.store_rows.specs.believed.BankTables.{history as history_table, request as request_table}
use Rattle.store_rows.specs.believed.BankTables.{teller as teller_table}
use Rattle.walked_rows.specs.{Broken.HasBroken, Pairs.HasPairs, Pairs.paired, Rows.HasStoredRows, StepOutcomes.BreaksBy}
use Rattle.walked_rows.specs.Stored.{BreaksAsked, BreaksPosted, account_of, branch_of, posting_of, request_of, teller_of}
use Rattle.walked_rows.proofs.Unbroken.{pair_broken}
use Rattle.bank_store.specs.believed.Seen.{database_of, file_of}
use Rattle.bank_store.specs.declared.bank.Bank.{Bank}
use Rattle.bank_reports.specs.declared.fault.ReportFault.{ReportFault}
use Rattle.bank_reports.specs.{Files.FileRows, Files.HasBrokenRow, Files.HasFile, Leaving.ReadsFile, Leaving.ReadsTable}
use Rattle.bank_reports.proofs.BankReads.{reads_among}

-- ---- pairs of rows

module _ {db : Database} {f : FileRows} (has : HasFile db f) where
  pub asked_in : HasPairs db request_table history_table (paired f.history f.requests)
  asked_in = record {
    rows = f.requests;
    others = f.history;
    has = has.requests;
    has_others = has.history;
    are = refl;
  }

  pub posted_in : HasPairs db history_table request_table (paired f.requests f.history)
  posted_in = record {
    rows = f.history;
    others = f.requests;
    has = has.history;
    has_others = has.requests;
    are = refl;
  }

module _ (f : FileRows) (rule : Rule) where
  broken_asked : HasBroken (BreaksAsked rule) (paired f.history f.requests) → HasBrokenRow rule f
  broken_asked h = elim (pair_broken (BreaksBy request_of) (BreaksBy posting_of) rule f.history f.requests h)
      [ inl own ↦ inr (inr (inr (inr own))) | inr other ↦ inr (inr (inr (inl other))) ]

  broken_posted : HasBroken (BreaksPosted rule) (paired f.requests f.history) → HasBrokenRow rule f
  broken_posted h = elim (pair_broken (BreaksBy posting_of) (BreaksBy request_of) rule f.requests f.history h)
      [ inl own ↦ inr (inr (inr (inl own))) | inr other ↦ inr (inr (inr (inr other))) ]

-- ---- what is told of a table's rows is told of the file's

module _ {S : Type 0} {g : Ghosts S} {old new : Bank S g} {end : Result (Unit {0}) ReportFault} where
  pub tellers_read : ReadsTable g (λ db rows. HasStoredRows db teller_table rows) (BreaksBy teller_of) old new end
      → ReadsFile g old new end
  tellers_read reads = reads_among reads _ _ (λ (f : FileRows) has. (f.tellers, has.tellers, λ rule h. inr (inl h)))

  pub branches_read : ReadsTable g (λ db rows. HasStoredRows db branch_table rows) (BreaksBy branch_of) old new end
      → ReadsFile g old new end
  branches_read reads = reads_among reads _ _ (λ (f : FileRows) has. (f.branches, has.branches, λ rule h. inl h))

  pub accounts_read : ReadsTable g (λ db rows. HasStoredRows db account_table rows) (BreaksBy account_of) old new end
      → ReadsFile g old new end
  accounts_read reads = reads_among reads _ _ (λ (f : FileRows) has. (f.accounts, has.accounts, λ rule h. inr (inr (inl h))))

  pub asked_read : ReadsTable g (λ db rows. HasPairs db request_table history_table rows) BreaksAsked old new end
      → ReadsFile g old new end
  asked_read reads = reads_among reads _ _ (λ (f : FileRows) has. (paired f.history f.requests, asked_in has, broken_asked f))

  pub posted_read : ReadsTable g (λ db rows. HasPairs db history_table request_table rows) BreaksPosted old new end
      → ReadsFile g old new end
  posted_read reads = reads_among reads _ _ (λ (f : FileRows) has. (paired f.requests f.history, posted_in has, broken_posted f))

-- the file has the rows that it had
pub file_kept : {S : Type 0} {g : Ghosts S} {old new : Bank S g} → ReadsFile g old new (Ok tt)
    → HasCleanDisk (file_of new) → (f : FileRows) → HasFile (database_of g old) f → HasFile (database_of g new) f
file_kept reads clean f has = subst (λ (db : Database). HasFile db f) (sym (reads.still clean tt).0) has
