-- A counter over a counter, whose entries a shared log holds before they are answered.
use Rattle.std.specs.Prelude.{◌≡◌, ◌⊎◌, List, true}
use Rattle.posting_rules.specs.declared.fault.Fault.{Fault}
use Rattle.posting_rules.specs.declared.fault.Fault.TheVariants.{Down, Store}
use Rattle.posting_rules.specs.believed.{Commands.Command, Counter.Seen, Tables.AreTablesOf, Tables.Tables}
use Rattle.shared_log.specs.Known.{AreHeld, HoldsOn, Known}
use Rattle.shared_log.specs.declared.replicated.Replicated.{Replicated}

abbrev pub counter_of : {C L : Type 0} → Replicated C L → C
counter_of r = r.counter

abbrev pub log_of : {C L : Type 0} → Replicated C L → L
log_of r = r.log

-- it answers nothing until it joins
abbrev pub is_stopped : {C L : Type 0} → Replicated C L → Type 0
is_stopped r = r.is_down ≡ true

-- tables that show the same logs
pub record ShowSame (t u : Tables) : Type 0 where
  pub there : (log : List Command) → AreTablesOf t log → AreTablesOf u log
  pub back : (log : List Command) → AreTablesOf u log → AreTablesOf t log

-- It shows what its counter shows, where that is a log and the shared log is known to hold its entries and no others. A
-- crash leaves what it leaves of its counter, said by the logs that it shows; the shared log may lack the last batch.
abbrev pub replicated_seen : {C L : Type 0} → (C → Seen) → (L → Known) → Replicated C L → Seen
replicated_seen seen known r = record (seen r.counter) {
  tables = λ t. (seen r.counter).tables t × AreHeld (known r.log) t;
  is_down = (r.is_down ≡ true) ⊎ (seen r.counter).is_down;
  found = λ remains t. (u : Tables) × (seen r.counter).found remains u × ShowSame u t;
}

-- Why it refused a call: its counter did; or what the counter took wasn't appended, and it is down from then on; or it
-- was down.
abbrev pub replicated_reason : {C L : Type 0} → (Fault → C → C → Type 0) → Fault → (old new : Replicated C L) → Type 0
replicated_reason reason fault old new = reason fault old.counter new.counter
    ⊎ (((fault ≡ Store) × (new.is_down ≡ true)) ⊎ ((fault ≡ Down) × (old.is_down ≡ true)))

-- no call touches what its counter leaves alone, nor an entry that the log is known to hold
abbrev pub replicated_spares : {C L : Type 0} → (C → C → Type 0) → (L → Known) → (old new : Replicated C L) → Type 0
replicated_spares spares known old new = spares old.counter new.counter × HoldsOn (known old.log) (known new.log)
