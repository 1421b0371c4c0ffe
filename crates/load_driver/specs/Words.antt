-- The four words of a record.
use Rattle.std.specs.Prelude.{◌≡◌, ◌+◌, ◌*◌, ℕ}
use Rattle.rand_pcg.specs.Lcg.{Lcg}
use Rattle.load_driver.specs.declared.draws.Words.{Words}
use Rattle.load_driver.specs.believed.Draw.{word, words_after}

-- these are the words of record n, and the generator goes on after them
pub record TakesWords (seed n : ℕ) (words : Words) (after : Lcg) : Type 0 where
  pub teller : words.teller ≡ word seed (4 * n)
  pub choice : words.choice ≡ word seed (4 * n + 1)
  pub account : words.account ≡ word seed (4 * n + 2)
  pub amount : words.amount ≡ word seed (4 * n + 3)
  pub left : after ≡ words_after seed (4 * (n + 1))
