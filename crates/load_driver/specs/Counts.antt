-- What a driver has given so far.
use Rattle.std.specs.Prelude.{◌≡◌, ◌<◌, ◌≤◌, ◌*◌, ℕ, List, get_or, length}
use Rattle.posting_rules.specs.declared.limits.TheConstants.{TELLERS_PER_BRANCH}
use Rattle.rand_pcg.specs.Lcg.{Lcg}
use Rattle.branch_loader.specs.believed.Plans.{Rows}
use Rattle.branch_loader.specs.Plans.{IsPlan}
use Rattle.load_driver.specs.declared.driver.TheConstants.{MAX_RECORDS}
use Rattle.load_driver.specs.believed.Draw.{words_after}
use Rattle.load_driver.specs.believed.Requests.{earlier, teller_of}

-- a driver: its rows, its seed and how many records it gave
pub record Driving : Type 0 where
  pub rows : Rows
  pub seed : ℕ
  pub given : ℕ

-- the count of each teller after n records
pub record Counts (rows : Rows) (seed n : ℕ) (counts : List ℕ) : Type 0 where
  pub len : length counts ≡ TELLERS_PER_BRANCH * length rows
  pub of_each : (place : ℕ) → place < TELLERS_PER_BRANCH * length rows
      → get_or counts place 0 ≡ earlier rows seed (teller_of rows place) n

-- words and counts are those after so many records of a plan that has a branch
pub record IsReady (rows : Rows) (seed given : ℕ) (words : Lcg) (counts : List ℕ) : Type 0 where
  pub plan : IsPlan rows
  pub some : 0 < length rows
  pub within : given ≤ MAX_RECORDS
  pub words_at : words ≡ words_after seed (4 * given)
  pub counts_at : Counts rows seed given counts
