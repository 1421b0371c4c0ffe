-- A bank in memory that fails.
use Rattle.std.specs.Prelude.{◌≡◌, true}
use Rattle.posting_rules.specs.believed.Counter.{Seen}
use Rattle.posting_core.specs.Plain.{plain_seen}
use Rattle.failing_ends.specs.declared.bank.FailingBank.{FailingBank}

-- it shows what the bank in memory shows, until it is down
abbrev pub failing_seen : FailingBank → Seen
failing_seen b = record (plain_seen b.bank) { is_down = b.down ≡ true }
