-- What a write of the version leaves.
use Rattle.std.proofs.Common.{◌≡◌, ℕ, ℤ, pos, Bool, nat_eq, List, [], ◌∷◌, find, is_some, Some, None, Option}
use Rattle.std.proofs.Common.{option_map, Ok, Err, Result, lit≤, refl, ◌∙◌}
use Rattle.sqlite.specs.State.{State, ExecutesInside}
use Rattle.sqlite.specs.declared.{error.Error.Error, types.Value.TheVariants.Int}
use Rattle.posting_rules.specs.believed.Tables.{Tables}
use Rattle.sql_meanings.specs.believed.{Entries.Entry, Entries.has_key, Tables.Holds}
use Rattle.sql_meanings.specs.Making.{SparesStanding}
use Rattle.sql_meanings.specs.StatementAnswers.{Forbids, GoesOn, SetFails}
use Rattle.sql_meanings.proofs.{Contents.held, SetFailures.refuses_update, SetRows.sets_row}
use Rattle.sql_meanings.proofs.{TableWrites.spares_standing}
use Rattle.store_rows.specs.believed.BankTables as bank
use Rattle.store_rows.specs.{believed.BankTables.bank_tables, Migration.HoldsTables, Migration.SetsVersion}
use Rattle.store_rows.specs.{Statements.MeetsOne, believed.View.meta_entry, believed.View.rows_of, View.HoldsRows}
use Rattle.store_rows.specs.{declared.metas.TheConstants.META_ID, declared.texts.TheConstants.SET_VERSION}
use Rattle.store_rows.specs.believed.Columns.{meta_in, meta_numbers}
use Rattle.store_rows.proofs.{Failing.key_fits, MetaRow.is_plain, MetaRow.meta_written}
use Rattle.store_rows.proofs.Lookups.{one_written as one_met}
use Rattle.store_rows.proofs.Setting.{set_version, sets}

mapped : (o : Option Entry) → is_some o ≡ is_some (option_map meta_numbers o)
mapped None = refl
mapped (Some e) = refl

module _ (old new : State) (v : ℤ) where
  -- whether the row is there
  there_is : (rows : List Entry) → HoldsRows old.now bank.meta rows → (count : ℕ)
      → ExecutesInside 0 SET_VERSION.now (Int (pos META_ID) ∷ Int v ∷ []) old new (Ok count)
      → nat_eq count 1 ≡ is_some (meta_in rows)
  there_is rows has count h =
      let done = sets_row old new bank.meta is_plain has.sound rows has.holds SET_VERSION.now (pos META_ID) _
      (set_version v) (sets.version v) count h.0 in
      one_met count _ done.1 ∙ mapped (find (has_key (pos META_ID)) rows)

  module _ (written : ℤ) (t : Tables) (has : HoldsTables written old.now t) where
    abbrev before : List Entry
    before = meta_entry written t.decided ∷ []

    one : Holds old.now bank.meta before
    one = held old.now bank_tables (before ∷ rows_of t) has.each 0 bank.meta before refl refl

    set_in : (count : ℕ) → ExecutesInside 0 SET_VERSION.now (Int (pos META_ID) ∷ Int v ∷ []) old new (Ok count)
        → HoldsTables v new.now t × GoesOn old new × SparesStanding old.now new.now bank.meta.name
    set_in count h =
        let done = sets_row old new bank.meta is_plain has.sound before one SET_VERSION.now (pos META_ID) _
        (set_version v) (sets.version v) count h.0 in (
          record {
            sound = ∣ done.0.sound ∣₁;
            each = meta_written old new (before ∷ rows_of t) has.each before _ refl done.0;
          },
          (h.1, done.0.marks),
          spares_standing old new bank.meta _ done.0,
        )

    fails : (e : Error) → ExecutesInside 0 SET_VERSION.now (Int (pos META_ID) ∷ Int v ∷ []) old new (Err e)
        → SetFails old new bank.meta (Forbids old.now.schema bank.meta (meta_entry v t.decided ∷ [])) e
    fails e h = refuses_update old new bank.meta is_plain has.sound before one SET_VERSION.now (pos META_ID) _
        (set_version v) (sets.version v) (key_fits META_ID (lit≤ tt)) e h

  -- it is written, or why it can't be
  pub tells_version : (answer : Result Bool Error)
      → MeetsOne SET_VERSION.now (Int (pos META_ID) ∷ Int v ∷ []) old new answer → SetsVersion v old new answer
  tells_version (Ok there) h = (
    λ rows has. h.2 ∙ there_is rows has h.0 h.1,
    λ written t has. set_in written t has h.0 h.1,
  )
  tells_version (Err e) h = λ written t has. fails written t has e h
