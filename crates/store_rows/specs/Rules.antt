-- The tables of a bank as a file holds them.
use Rattle.std.specs.Prelude.{[], ◌∷◌, map}
use Rattle.posting_rules.specs.believed.Tables.{Tables}
use Rattle.store_rows.specs.believed.View.{account_entry, branch_entry, floor_entry, history_entry, meta_entry}
use Rattle.store_rows.specs.believed.View.{closing_entry, reference_entry, request_entry, teller_entry}
use Rattle.store_rows.specs.declared.metas.TheConstants.{VERSION}
use Rattle.store_rows.specs.believed.Rules.{StoredRows}

-- the tables of a bank as a file holds them
abbrev pub stored_rows : Tables → StoredRows
stored_rows t = record {
  meta = meta_entry VERSION t.decided ∷ [];
  branches = map branch_entry t.branches;
  tellers = map teller_entry t.tellers;
  accounts = map account_entry t.accounts;
  history = map history_entry t.history;
  requests = map request_entry t.requests;
  floors = map floor_entry t.floors;
  references = map reference_entry t.references;
  closings = map closing_entry t.closings;
}
