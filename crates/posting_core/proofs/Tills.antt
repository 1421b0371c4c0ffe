-- The balance that a teller shows is its balance after the log.
use Rattle.std.proofs.Common.{◌≡◌, ℕ, Bool, true, false, cond, List, Option, Some, None, refl, ap, ◌∙◌}
use Rattle.std.specs.{Prelude.ℤ, Option.option_map}
use Rattle.posting_rules.specs.believed.Commands.{Command, is_teller_open, opened}
use Rattle.posting_rules.specs.believed.Entries.{decided, teller_balance}
use Rattle.posting_rules.specs.believed.LookUps.{balance_of_teller}
use Rattle.posting_rules.specs.believed.Tables.{AreTablesOf, Tables, row_at, teller_key, teller_row_of}
use Rattle.posting_core.specs.believed.Tills.{teller_after}

balance_if : (b : Bool) (t : ℕ) (z : ℤ)
    → option_map balance_of_teller (cond b (Some (teller_row_of t z)) None) ≡ cond b (Some z) None
balance_if true t z = refl
balance_if false t z = refl

pub teller_shown : (t : Tables) (log : List Command) (n : ℕ) → AreTablesOf t log
    → option_map balance_of_teller (row_at teller_key t.tellers n) ≡ teller_after log n
teller_shown t log n s =
    ap (option_map balance_of_teller) (s.rows.tellers n)
    ∙ balance_if (is_teller_open (λ b. opened log b) n) n (teller_balance (decided log) n)
