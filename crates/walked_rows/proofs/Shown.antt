-- What the tables hold of a bank that shows tables.
use Rattle.std.proofs.Common.{List, [], ◌∷◌, map, pos, refl}
use Rattle.std.specs.Prelude.{nat_abs}
use Rattle.sqlite.specs.Effect.{Database}
use Rattle.posting_rules.specs.believed.Tables.{Tables}
use Rattle.store_rows.specs.believed.BankTables as bank
use Rattle.store_rows.specs.believed.View.{Shows, account_entry, branch_entry, floor_entry, history_entry, meta_entry}
use Rattle.store_rows.specs.believed.View.{closing_entry, reference_entry, request_entry, teller_entry}
use Rattle.store_rows.specs.declared.metas.TheConstants.{VERSION}
use Rattle.store_rows.proofs.TableKinds.{Kind, holds, table_of}
use Rattle.store_rows.proofs.TheTables as the
use Rattle.walked_rows.specs.Rows.{HasStoredRows, HaveKeys, entry_key}

-- keys of a bank's rows are numbers of 64 bits
whole_keys : {R : Type 0} (kind : Kind R) (rs : List R) → HaveKeys entry_key (map kind.entry rs)
whole_keys kind [] = tt
whole_keys kind (r ∷ rs) = (rw (kind.keyed r) refl, whole_keys kind rs)

module _ (db : Database) (t : Tables) (shows : Shows db t) where
  -- a table has the rows that are shown of it
  has_rows : {R : Type 0} (kind : Kind R) → HasStoredRows db (table_of kind) (map kind.entry (kind.rows t))
  has_rows kind = record {
    sound = shows.sound;
    holds = holds kind db t shows;
    least = whole_keys kind (kind.rows t);
  }

  pub has_branches : HasStoredRows db bank.branch (map branch_entry t.branches)
  has_branches = has_rows the.branches

  pub has_tellers : HasStoredRows db bank.teller (map teller_entry t.tellers)
  has_tellers = has_rows the.tellers

  pub has_accounts : HasStoredRows db bank.account (map account_entry t.accounts)
  has_accounts = has_rows the.accounts

  pub has_history : HasStoredRows db bank.history (map history_entry t.history)
  has_history = has_rows the.history

  pub has_requests : HasStoredRows db bank.request (map request_entry t.requests)
  has_requests = has_rows the.requests

  pub has_references : HasStoredRows db bank.reference (map reference_entry t.references)
  has_references = has_rows the.references

  pub has_floors : HasStoredRows db bank.floor (map floor_entry t.floors)
  has_floors = has_rows the.floors

  pub has_closings : HasStoredRows db bank.closing (map closing_entry t.closings)
  has_closings = has_rows the.closings

  pub has_meta : HasStoredRows db bank.meta (meta_entry (pos (nat_abs VERSION)) t.decided ∷ [])
  has_meta = record { sound = shows.sound; holds = shows.each.0; least = (refl, tt) }
