-- No branch of a plan is open.
use Rattle.std.specs.Prelude.{◌≡◌, ℕ, List, None}
use Rattle.posting_rules.specs.believed.Commands.{Command, opened}

-- ---- the branches

-- no branch is open
abbrev pub NoneOpen : List Command → Type 0
NoneOpen log = (branch : ℕ) → opened log branch ≡ None
