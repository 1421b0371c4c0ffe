use Rattle.std.proofs.Common.{◌≡◌, ◌-◌, List, take, drop}
use Rattle.posting_rules.specs.believed.{Commands.AreCommands, Commands.Command, Tables.AreTablesOf}
use Rattle.posting_core.specs.Plain.{plain_tables}
use Rattle.posting_core.specs.believed.{Batches.joined, LogEntries.log_entries}
use Rattle.posting_core.proofs.plain_bank.PlainBank.entries_between.Given as goal

-- the entries before the place
abbrev pub invariant-loop-place : goal.invariant-loop-place
invariant-loop-place l = (log : List Command) → AreCommands log → AreTablesOf (plain_tables l.self) log
    → l.bytes.items ≡ joined (take (l.place - l.from) (drop l.from (log_entries log)))
