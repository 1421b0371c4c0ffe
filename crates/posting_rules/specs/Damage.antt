-- No log of commands leads to damaged tables.
use Rattle.std.specs.Prelude.{List}
use Rattle.posting_rules.specs.believed.Commands.{Command, AreCommands}
use Rattle.posting_rules.specs.believed.Damage.{IsUndamaged}
use Rattle.posting_rules.specs.believed.Tables.{Tables, AreTablesOf}

abbrev pub TablesAreUndamaged : Type 0
TablesAreUndamaged = (t : Tables) (log : List Command) → AreCommands log → AreTablesOf t log → IsUndamaged t
