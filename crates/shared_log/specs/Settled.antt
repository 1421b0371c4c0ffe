-- An append of which it is asked what became of it.
use Rattle.std.specs.Prelude.{◌≡◌, ◌≢◌, ℕ, List, []}
use Rattle.shared_log.specs.Known.{Known, with_more}
use Rattle.shared_log.specs.declared.log.LogFault.{LogFault}
use Rattle.shared_log.specs.declared.log.LogFault.TheVariants.{Refused}
use Rattle.shared_log.specs.declared.settled.Standing.{Standing}
use Rattle.shared_log.specs.declared.settled.Standing.TheVariants.{Nothing, Ours, Others}

-- others than these entries stand behind those that were known
pub record HasOthers (old new : Known) (entries : List (List ℕ)) : Type 0 where
  pub others : List (List ℕ)
  pub grows : new ≡ with_more old others
  pub some : others ≢ []
  pub differ : others ≢ entries

-- what is found behind the entries that were known, where these were to be appended
abbrev pub Stands : (old new : Known) → List (List ℕ) → Standing → Type 0
Stands old new entries Nothing = new ≡ old
Stands old new entries Ours = new ≡ with_more old entries
Stands old new entries Others = HasOthers old new entries

-- why entries weren't appended: others stand there, or nothing more is known
abbrev pub IsUnappended : (old new : Known) → List (List ℕ) → LogFault → Type 0
IsUnappended old new entries Refused = HasOthers old new entries
IsUnappended old new entries _ = new ≡ old
