-- What a teller's till holds.
use Rattle.std.specs.Prelude.{ℕ, ℤ, List, Option, Some, None, if◌then◌else◌}
use Rattle.posting_rules.specs.believed.Commands.{Command, is_teller_open, opened}
use Rattle.posting_rules.specs.believed.Entries.{decided, teller_balance}

-- the balance of an open teller after a log
abbrev pub teller_after : List Command → ℕ → Option ℤ
teller_after log t = if is_teller_open (λ b. opened log b) t then Some (teller_balance (decided log) t) else None
