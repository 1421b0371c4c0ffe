-- What is reported of a stored row, whatever values it has.
use Rattle.std.specs.Prelude.{◌≡◌, Option, Some, None, Result, Ok, Err, ⊤}
use Rattle.posting_rules.specs.declared.fault.Rule.{Rule}
use Rattle.sql_meanings.specs.believed.Entries.{Entry}
use Rattle.store_rows.specs.declared.fault.TableFault.{TableFault}
use Rattle.store_rows.specs.declared.fault.TableFault.TheVariants.{Sqlite, Damaged}

-- the stored row is reported as it reads, and that there is none; or it reads as breaking the rule; or the store
-- failed
abbrev pub FindsStored : {X : Type 0} → Option Entry → (Entry → Result X Rule) → Result (Option X) TableFault
    → Type 0
FindsStored stored read (Ok None) = stored ≡ None
FindsStored stored read (Ok (Some x)) = (r : Entry) × (stored ≡ Some r) × (read r ≡ Ok x)
FindsStored stored read (Err (Sqlite e)) = ⊤
FindsStored stored read (Err (Damaged rule)) = (r : Entry) × (stored ≡ Some r) × (read r ≡ Err rule)
