-- Whose balance is read.
use Rattle.std.specs.Prelude.{ℕ, ℤ, List, Option}
use Rattle.posting_rules.specs.believed.Commands.{Command}
use Rattle.posting_rules.specs.believed.Entries.{balance_after}
use Rattle.posting_core.specs.believed.Tills.{teller_after}
use Rattle.counter_http.specs.believed.Answers.{account_line, teller_line}
use Rattle.counter_http.specs.declared.holders.Holder.{Holder}
use Rattle.counter_http.specs.declared.holders.Holder.TheVariants.{Account, Teller}

abbrev pub balance_of : List Command → Holder → Option ℤ
balance_of log (Account account) = balance_after log account
balance_of log (Teller teller) = teller_after log teller

abbrev pub holder_line : Holder → ℤ → List ℕ
holder_line (Account account) balance = account_line account balance
holder_line (Teller teller) balance = teller_line teller balance
