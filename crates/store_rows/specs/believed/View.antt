-- The one view of a database as the tables of a bank.
use Rattle.std.specs.Prelude.{◌≡◌, ◌<◌, ◌+◌, ℕ, ℤ, pos, nat_abs, List, [], ◌∷◌, map, take}
use Rattle.sqlite.specs.Schema.{Schema}
use Rattle.sqlite.specs.Table.{Table}
use Rattle.sqlite.specs.Tree.{Trees}
use Rattle.sqlite.specs.Effect.{Database, IsDatabase}
use Rattle.message_records.specs.believed.Outcomes.{code_of}
use Rattle.posting_rules.specs.believed.Tables.{Tables}
use Rattle.posting_rules.specs.declared.rows.BranchRow.{BranchRow}
use Rattle.posting_rules.specs.declared.rows.TellerRow.{TellerRow}
use Rattle.posting_rules.specs.declared.rows.AccountRow.{AccountRow}
use Rattle.posting_rules.specs.declared.rows.HistoryRow.{HistoryRow}
use Rattle.posting_rules.specs.declared.rows.RequestRow.{RequestRow}
use Rattle.posting_rules.specs.declared.rows.FloorRow.{FloorRow}
use Rattle.posting_rules.specs.declared.rows.ReferenceRow.{ReferenceRow}
use Rattle.posting_rules.specs.declared.rows.ClosingRow.{ClosingRow}
use Rattle.sql_meanings.specs.believed.Entries.{Entry}
use Rattle.sql_meanings.specs.believed.Contents.{HoldsEach}
use Rattle.store_rows.specs.declared.metas.TheConstants.{META_ID, VERSION}
use Rattle.store_rows.specs.believed.BankTables.{bank_tables}

-- ---- how a file holds the rows: the key, and the other columns in their order

-- the one row of `meta`: the version of the tables, and how many requests are decided
abbrev pub meta_entry : ℤ → ℕ → Entry
meta_entry version decided = record { key = pos META_ID; values = version ∷ pos decided ∷ []; texts = [] }

-- a row of `branch`
abbrev pub branch_entry : BranchRow → Entry
branch_entry r = record { key = pos r.branch; values = pos r.accounts ∷ r.balance ∷ []; texts = [] }

-- a row of `teller`
abbrev pub teller_entry : TellerRow → Entry
teller_entry r = record { key = pos r.teller; values = r.balance ∷ []; texts = [] }

-- a row of `account`
abbrev pub account_entry : AccountRow → Entry
account_entry r = record { key = pos r.account; values = r.balance ∷ []; texts = [] }

-- a row of `history`
abbrev pub history_entry : HistoryRow → Entry
history_entry r = record {
  key = pos r.ordinal;
  values = pos r.account ∷ pos r.teller ∷ pos r.branch ∷ r.delta
      ∷ pos r.moment ∷ [];
  texts = [];
}

-- an outcome is held as its code
abbrev pub request_entry : RequestRow → Entry
request_entry r = record {
  key = pos r.ordinal;
  values = pos r.teller ∷ pos r.number ∷ pos r.decision.account ∷ pos r.decision.branch ∷ r.decision.delta
      ∷ pos (code_of r.decision.outcome) ∷ r.decision.balance ∷ [];
  texts = [];
}

-- a row of `branch_floor`
abbrev pub floor_entry : FloorRow → Entry
floor_entry r = record { key = pos r.branch; values = r.lowest ∷ []; texts = [] }

-- a row of `request_reference`
abbrev pub reference_entry : ReferenceRow → Entry
reference_entry r = record { key = pos r.ordinal; values = []; texts = r.reference ∷ [] }

-- a row of `closing`
abbrev pub closing_entry : ClosingRow → Entry
closing_entry r = record { key = pos r.last; values = pos r.first ∷ []; texts = [] }

-- the rows of each table but `meta` as a file holds them, in the order of `bank_tables`
abbrev pub rows_of : Tables → List (List Entry)
rows_of t =
    map branch_entry t.branches ∷ map teller_entry t.tellers ∷ map account_entry t.accounts
    ∷ map history_entry t.history ∷ map request_entry t.requests ∷ map floor_entry t.floors
    ∷ map reference_entry t.references ∷ map closing_entry t.closings ∷ []

-- the tables of a version: those of the version before it, and one more after them
abbrev pub tables_of : ℕ → List Table
tables_of version = take (5 + version) bank_tables

-- the rows of each of them as a file holds them
abbrev pub contents_of : ℕ → Tables → List (List Entry)
contents_of version t = (meta_entry (pos version) t.decided ∷ []) ∷ take (4 + version) (rows_of t)

-- a sound database defines the tables of a version and holds these rows by rising keys, whatever else it has; before
-- version 4 no numbers were closed, and no books sealed
pub record ShowsAs (version : ℕ) (db : Database) (t : Tables) : Type 0 where
  pub sound : ∥ IsDatabase db ∥₁
  pub each : HoldsEach db (tables_of version) (contents_of version t)
  pub early : version < 4 → t.closings ≡ []

-- a sound database has the tables of a bank with these rows
abbrev pub Shows : Database → Tables → Type 0
Shows = ShowsAs (nat_abs VERSION)

-- the same of bare trees, which hold their schema: this is what a crash may leave
abbrev pub ShowsTrees : Trees → Tables → Type 0
ShowsTrees trees t = (schema : Schema) × Shows (record { schema = schema; trees = trees }) t
