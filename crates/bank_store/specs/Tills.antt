-- What a teller's row holds, whatever rows there are.
use Rattle.std.specs.Prelude.{◌≡◌, ℕ, ℤ, Option}
use Rattle.std.specs.Option.{option_map}
use Rattle.sqlite.specs.Effect.{Database}
use Rattle.bank_transactions.specs.believed.Stored.{IsStoredTeller}

-- of the balances of a teller and of its branch the teller's
abbrev pub own_balance : ℤ × ℤ → ℤ
own_balance both = both.0

-- the balance in its row, none where it has no row; and it has one just where its branch does
pub record IsStoredTill (db : Database) (teller : ℕ) (balance : Option ℤ) : Type 0 where
  pub balances : Option (ℤ × ℤ)
  pub stored : IsStoredTeller db teller balances
  pub own : balance ≡ option_map own_balance balances
