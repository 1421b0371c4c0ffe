-- What a shared log is known to hold, and tables of a bank whose entries it holds.
use Rattle.std.specs.Prelude.{◌≡◌, ℕ, List, ◌++◌, Option, IfSome, option_map}
use Rattle.posting_rules.specs.believed.Commands.{AreCommands, Command}
use Rattle.posting_rules.specs.believed.Tables.{AreTablesOf, Tables}
use Rattle.posting_core.specs.believed.LogEntries.{log_entries}

-- entries from the log's first on, the oldest first, as far as they are known; none where nothing is known of it
abbrev pub Known : Type 0
Known = Option (List (List ℕ))

-- and these behind them
abbrev pub with_more : Known → List (List ℕ) → Known
with_more known more = option_map (λ entries. entries ++ more) known

-- what was known stands, and others may stand behind it
pub record HoldsOn (old new : Known) : Type 0 where
  pub more : List (List ℕ)
  pub grows : new ≡ with_more old more

-- the tables of a log whose entries are those that are known, where some are
pub record AreHeld (known : Known) (t : Tables) : Type 0 where
  pub log : List Command
  pub commands : AreCommands log
  pub shows : AreTablesOf t log
  pub held : IfSome known (λ entries. log_entries log ≡ entries)
