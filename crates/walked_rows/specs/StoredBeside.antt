-- The stored rows of `meta`, of `branch_floor` and of `closing`: keys within their ranges, the other numbers whatever they are.
use Rattle.std.specs.Prelude.{pos, [], ◌∷◌, Ok}
use Rattle.sqlite.specs.Order.{column}
use Rattle.message_records.specs.believed.Reading.{◌>>=◌}
use Rattle.posting_rules.specs.declared.fault.Rule.TheVariants.{Value as OfValue}
use Rattle.posting_rules.specs.declared.limits.TheConstants.{LAST_BRANCH, LAST_KEY}
use Rattle.sql_meanings.specs.believed.Entries.{Entry}
use Rattle.store_rows.specs.believed.BankTables.{closing, floor, meta}
use Rattle.store_rows.specs.believed.Readings.{Reading, number, whole}
use Rattle.walked_rows.specs.Kinds.{Kind, given_all}
use Rattle.walked_rows.specs.declared.closings.StoredClosing.{StoredClosing}
use Rattle.walked_rows.specs.declared.floors.StoredFloor.{StoredFloor}
use Rattle.walked_rows.specs.declared.metas.StoredMeta.{StoredMeta}

-- id, version, decided
abbrev pub meta_entry : StoredMeta → Entry
meta_entry r = record { key = pos r.id; values = r.version ∷ r.decided ∷ []; texts = [] }

abbrev pub meta_of : Reading StoredMeta
meta_of row = do
  id ← whole 1 1 OfValue (column row 0)
  version ← number (column row 1)
  decided ← number (column row 2)
  Ok (record { id = id; version = version; decided = decided })

-- bid, lowest
abbrev pub floor_entry : StoredFloor → Entry
floor_entry r = record { key = pos r.branch; values = r.lowest ∷ []; texts = [] }

abbrev pub floor_of : Reading StoredFloor
floor_of row = do
  branch ← whole 1 LAST_BRANCH OfValue (column row 0)
  lowest ← number (column row 1)
  Ok (record { branch = branch; lowest = lowest })

-- last, first
abbrev pub closing_entry : StoredClosing → Entry
closing_entry r = record { key = pos r.last; values = r.first ∷ []; texts = [] }

abbrev pub closing_of : Reading StoredClosing
closing_of row = do
  last ← whole 0 LAST_KEY OfValue (column row 0)
  first ← number (column row 1)
  Ok (record { last = last; first = first })

-- ---- what walks go by

abbrev pub meta_kind : Kind StoredMeta
meta_kind = given_all meta meta_entry meta_of

abbrev pub floor_kind : Kind StoredFloor
floor_kind = given_all floor floor_entry floor_of

abbrev pub closing_kind : Kind StoredClosing
closing_kind = given_all closing closing_entry closing_of
