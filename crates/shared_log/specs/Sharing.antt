-- Any number of machines over one log, at any moments: the log never loses an entry, and has one order.
use Rattle.std.specs.Prelude.{◌≡◌, ◌⊎◌, ◌++◌, ℕ, List, Some}
use Rattle.posting_rules.specs.believed.Commands.{Command}
use Rattle.posting_rules.specs.believed.Counter.{Seen, ShowsLog, Takes}
use Rattle.posting_rules.specs.believed.Runs.{followed_by}
use Rattle.posting_core.specs.believed.LogEntries.{log_entries}
use Rattle.shared_log.specs.Known.{Known}
use Rattle.shared_log.specs.Replicated.{replicated_seen}
use Rattle.shared_log.specs.declared.replicated.Replicated.{Replicated}

-- these come first among those
pub record Begins (first all : List (List ℕ)) : Type 0 where
  pub more : List (List ℕ)
  pub are : all ≡ first ++ more

-- what a machine knows at a moment, of a log that holds these entries then or later
pub record Knows (known : Known) (entries : List (List ℕ)) : Type 0 where
  pub first : List (List ℕ)
  pub known_first : known ≡ Some first
  pub begins : Begins first entries

module _ {C L : Type 0} (seen : C → Seen) (known : L → Known) where
  -- a machine at a moment shows a log, and what it knows is of those entries
  pub record IsMachine (r : Replicated C L) (log : List Command) (entries : List (List ℕ)) : Type 0 where
    pub shows : ShowsLog (replicated_seen seen known r) log
    pub knows : Knows (known r.log) entries

  -- what it shows stands in the shared log, from its first entry on
  abbrev pub AreShared : Type 0
  AreShared = (r : Replicated C L) (log : List Command) (entries : List (List ℕ)) → IsMachine r log entries
      → Begins (log_entries log) entries

  -- a machine that took some commands, as it answers each: a batch, a stream, or all rounds of its clients
  pub record HasAnswered (old new : Replicated C L) (log commands : List Command) (entries : List (List ℕ)) : Type 0
    where
      pub was : ShowsLog (replicated_seen seen known old) log
      pub takes : Takes (replicated_seen seen known old) (replicated_seen seen known new) commands
      pub honest : (seen new.counter).honest
      pub knows : Knows (known new.log) entries

  -- what it answered stands there, behind all that it answered before
  abbrev pub AnsweredAreShared : Type 0
  AnsweredAreShared = (old new : Replicated C L) (log commands : List Command) (entries : List (List ℕ))
      → HasAnswered old new log commands entries → Begins (log_entries (followed_by log commands)) entries

  -- one that knows all entries has all that any machine answered before
  abbrev pub AllAreHad : Type 0
  AllAreHad = (old new : Replicated C L) (log commands : List Command) (entries : List (List ℕ))
      → HasAnswered old new log commands entries → (r : Replicated C L) (all : List Command) → IsMachine r all entries
      → known r.log ≡ Some entries → Begins (log_entries (followed_by log commands)) (log_entries all)

  -- where others appended behind what it showed, it answers nothing as new but what they appended
  abbrev pub NoneIsAnsweredBehind : Type 0
  NoneIsAnsweredBehind = (old new : Replicated C L) (log commands : List Command) (entries others own : List (List ℕ))
      → HasAnswered old new log commands entries → Begins (log_entries log ++ others) entries
      → log_entries (followed_by log commands) ≡ log_entries log ++ own
      → Begins others own ⊎ Begins own others

  -- of two machines one has all that the other one answered, in the same order
  abbrev pub AreOfOneOrder : Type 0
  AreOfOneOrder = (one two : Replicated C L) (a b : List Command) (entries : List (List ℕ)) → IsMachine one a entries
      → IsMachine two b entries → Begins (log_entries a) (log_entries b) ⊎ Begins (log_entries b) (log_entries a)
