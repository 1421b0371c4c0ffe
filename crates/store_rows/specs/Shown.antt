-- What a text that only reads shows of a database, be the tables that it names a bank's or not.
use Rattle.std.specs.Prelude.{◌≡◌, ◌⊎◌, ℕ, List, [], ◌∷◌, slice_get, Some, Ok}
use Rattle.sqlite.specs.Command.{Command}
use Rattle.sqlite.specs.Effect.{Database, Reads, ReadsFirst}
use Rattle.sqlite.specs.Listing.{IsSourceOf, reads_listing, understood}
use Rattle.sqlite.specs.Order.{Row}
use Rattle.sqlite_resolve.specs.declared.compiled.Compiled.{Compiled}

-- the first row that the query answers
abbrev pub AnswersFirst : Command → Database → Row → Row → Type 0
AnswersFirst command source params row = ReadsFirst command source params (row ∷ [])
    ⊎ ((rows : List Row) × Reads command source params rows × (slice_get rows 0 ≡ Some row))

-- run on this database with these values, the text shows this row first
abbrev pub ShowsFirst : List ℕ → Row → Database → Row → Type 0
ShowsFirst text params db first = (c : Compiled) × (understood db.schema text ≡ Ok c) × (source : Database)
    × IsSourceOf (reads_listing db.schema text) db source × AnswersFirst c.command source params first
