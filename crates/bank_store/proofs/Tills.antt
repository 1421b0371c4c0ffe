-- The balance that a teller shows beside its branch's is its balance after the log.
use Rattle.std.proofs.Common.{◌≡◌, ℕ, Bool, true, false, cond, List, Some, None, refl, ap, ◌∙◌}
use Rattle.std.specs.{Prelude.ℤ, Option.option_map}
use Rattle.posting_rules.specs.believed.Commands.{Command, is_teller_open, opened}
use Rattle.posting_rules.specs.believed.Entries.{branch_balance, decided, teller_balance}
use Rattle.posting_rules.specs.believed.LookUps.{teller_balances_in}
use Rattle.posting_rules.specs.believed.Numbering.{branch_of_teller}
use Rattle.posting_rules.specs.believed.Tables.{AreTablesOf, Tables}
use Rattle.posting_rules.proofs.Looked.{teller_balances_shown}
use Rattle.posting_core.specs.believed.Tills.{teller_after}
use Rattle.bank_store.specs.Tills.{own_balance}

own_if : (b : Bool) (x y : ℤ) → option_map own_balance (cond b (Some (x, y)) None) ≡ cond b (Some x) None
own_if true x y = refl
own_if false x y = refl

pub till_shown : (t : Tables) (log : List Command) (n : ℕ) → AreTablesOf t log
    → option_map own_balance (teller_balances_in t n) ≡ teller_after log n
till_shown t log n s =
    ap (option_map own_balance) (teller_balances_shown t (λ b. opened log b) (decided log) n s.rows)
    ∙ own_if (is_teller_open (λ b. opened log b) n) (teller_balance (decided log) n)
    (branch_balance (decided log) (branch_of_teller n))
