-- The exit statuses of the program.
use Rattle.std.specs.Prelude.{ℕ, Result, Ok, Err}
use Rattle.posting_core.specs.declared.once.OnceFault.{OnceFault}
use Rattle.posting_core.specs.declared.once.OnceFault.TheVariants.{Short, Read, Write, Bank}

-- the reply was written; the input ended within the record; or a read, a write or the bank failed
abbrev pub status_after : Result (Unit {0}) OnceFault → ℕ
status_after (Ok done) = 0
status_after (Err Short) = 4
status_after (Err Read) = 3
status_after (Err Write) = 3
status_after (Err (Bank fault)) = 3
