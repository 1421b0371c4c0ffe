-- Rows, each with the reference under its ordinal.
use Rattle.std.specs.Prelude.{◌≡◌, ◌++◌, ℤ, List, map, Option}
use Rattle.sql_meanings.specs.believed.Entries.{Entry}
use Rattle.walked_rows.specs.KeptRows.{KeptItem}
use Rattle.walked_rows.specs.Pairs.{Pair, row_under}
use Rattle.walked_rows.specs.Rows.{rows_after, rows_from}

-- a row, and this one beside it
abbrev pub pair_beside : Entry → Option Entry → Pair
pair_beside e beside = record { entry = e; beside = beside }

-- a row of `request` with that of `history`, and this reference
abbrev pub kept_joined : Pair → Option Entry → KeptItem
kept_joined p reference = record { entry = p.entry; posting = p.beside; reference = reference }

-- each of the rows, by what a file has of it, with the reference under its key
abbrev pub referred_all : {Own Item : Type 0} → (Own → Option Entry → Item) → (Entry → Own) → List Entry → List Entry
    → List Item
referred_all joined view references = map (λ e. joined (view e) (row_under references e.key))

-- these are those from a number on, up to those that follow
abbrev pub AreReferred : {Own Item R : Type 0} → (Own → Option Entry → Item) → (Entry → Own) → (R → Item)
    → List Entry → List Entry → ℤ → List R → Option ℤ → Type 0
AreReferred joined view item references rows from done rest =
    referred_all joined view references (rows_from from rows)
    ≡ map item done ++ referred_all joined view references (rows_after rest rows)
