-- What one reading of a clock is.
use Rattle.std.specs.Prelude.{◌≡◌, ℕ, List, Option}
use Rattle.posting_core.specs.believed.Clock.{IsNextReading, after_one}

-- this moment was read, where these readings were to come and those are now
abbrev pub IsReading : Option (List ℕ) → Option (List ℕ) → ℕ → Type 0
IsReading old new moment = IsNextReading old moment × (new ≡ after_one old)
