-- The references of requests, each under the ordinal of its request, whatever the texts are.
use Rattle.std.specs.Prelude.{◌≡◌, ℕ, pos, List, [], ◌∷◌, slice_index_or, Option, Some, None, Result, Ok, Err, ⊤}
use Rattle.sqlite.specs.Order.{Row, column}
use Rattle.sqlite.specs.State.{State, IsUnchanged}
use Rattle.sqlite.specs.declared.types.Value.TheVariants.{Text}
use Rattle.message_records.specs.believed.Reading.{◌>>=◌}
use Rattle.posting_rules.specs.declared.fault.Rule.{Rule}
use Rattle.sql_meanings.specs.believed.Entries.{Entry}
use Rattle.store_rows.specs.TableAnswers.{Gives}
use Rattle.store_rows.specs.believed.BankTables.{reference as reference_table}
use Rattle.store_rows.specs.believed.Readings.{Reading, reference, reference_of}
use Rattle.store_rows.specs.believed.SeveralRows.{given}
use Rattle.store_rows.specs.declared.fault.TableFault.{TableFault}
use Rattle.store_rows.specs.declared.fault.TableFault.TheVariants.{Sqlite, Damaged}
use Rattle.walked_rows.specs.Kinds.{Kind, given_all}
use Rattle.walked_rows.specs.declared.listed.StoredReference.{StoredReference}

-- a row of `request_reference`
abbrev pub text_entry : ℕ → List ℕ → Entry
text_entry ordinal text = record { key = pos ordinal; values = []; texts = text ∷ [] }

-- the text of such a row
abbrev pub text_after : Entry → List ℕ
text_after e = slice_index_or e.texts 0 []

-- its text breaks the rule
abbrev pub BreaksReference : Rule → Entry → Type 0
BreaksReference broken e = reference (column (given e) 1) ≡ Err broken

-- a row of it, with an ordinal in its range
abbrev pub listed_entry : StoredReference → Entry
listed_entry r = text_entry r.ordinal r.reference

abbrev pub listed_of : Reading StoredReference
listed_of row = do
  r ← reference_of row
  Ok (record { ordinal = r.ordinal; reference = r.reference })

abbrev pub reference_kind : Kind StoredReference
reference_kind = given_all reference_table listed_entry listed_of

-- the reference that the first row shows, or none where there is no row
abbrev pub ReadsFirst : List Row → Result (Option (List ℕ)) TableFault → Type 0
ReadsFirst [] r = r ≡ Ok None
ReadsFirst (row ∷ more) (Ok (Some text)) = column row 0 ≡ Text text
ReadsFirst (row ∷ more) (Ok None) = ⊥
ReadsFirst (row ∷ more) (Err fault) = Gives (reference (column row 0)) (Err fault)

-- damage leaves everything as it was
abbrev pub KeepsAtDamage : State → State → TableFault → Type 0
KeepsAtDamage old new (Sqlite e) = ⊤
KeepsAtDamage old new (Damaged broken) = IsUnchanged old new
