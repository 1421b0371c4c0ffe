-- What a fault says of a bank that was read, after other reads, and in other words.
use Rattle.std.proofs.Common.{◌≡◌, ◌++◌, ℕ, Result, Ok, Err, List, Option, map, refl, sym, subst}
use Rattle.std.specs.Prelude.{IfErr, IsSome}
use Rattle.sqlite.specs.{Effect.Database, State.HasCleanDisk, Held.Held, Held.state}
use Rattle.sqlite_trees.specs.declared.store.Store.{Ghosts}
use Rattle.posting_rules.specs.declared.fault.{Fault.Fault, Rule.Rule}
use Rattle.posting_rules.specs.declared.fault.Fault.TheVariants as faults
use Rattle.bank_transactions.specs.believed.Causes.{IsBefore}
use Rattle.bank_transactions.proofs.Blamed.{comes, then_moment}
use Rattle.bank_store.specs.{Failures.HasFailedToRead, believed.Seen.bank_seen, believed.Seen.connection_of}
use Rattle.bank_store.specs.{believed.Seen.database_of, believed.Seen.file_of, declared.bank.Bank.Bank}
use Rattle.bank_replays.specs.Damaged.{AreHeld, HasBrokenRow, Stops, Tells, TellsWhy, fault_in}
use Rattle.bank_replays.specs.Visiting.{VisitsSome, Why, refused_of}
use Rattle.bank_replays.specs.declared.fault.ReplayFault.{ReplayFault, TheVariants.Bank as OfBank, TheVariants.Write}
use Rattle.bank_replays.specs.{FileTables.FileTables, FileTables.HasTables, Reading.ReadsBank}
use Rattle.walked_rows.specs.Broken.{HasBroken}
use Rattle.bank_replays.proofs.{Visits.why_among, Read.clean_before}

-- a read that failed later has failed since before
pub failed_later : {S : Type 0} (g : Ghosts S) (old mid new : Held S) → IsBefore (state g old) (state g mid)
    → HasFailedToRead g mid new → HasFailedToRead g old new
failed_later g old mid new later failed = record {
  at = failed.at;
  before = then_moment (state g old) (state g mid) (state g failed.at) later failed.before;
  failed = failed.failed;
}

pub err_is : {X E : Type 0} (a b : E) → (let r : Result X E = Err a in r) ≡ Err b → a ≡ b
err_is a b is = cc

module _ {S : Type 0} {g : Ghosts S} where
  -- there was no fault
  pub why_none : {X E : Type 0} {fault_of : E → Fault} {old new : Bank S g} (x : X)
      → TellsWhy g fault_of old new (Ok x)
  why_none x = record { answers = λ clean f has. tt }

  -- memory is no row's fault
  pub why_memory : {X E : Type 0} {fault_of : E → Fault} {old new : Bank S g} (e : E) → fault_of e ≡ faults.Memory
      → TellsWhy {X = X} g fault_of old new (Err e)
  why_memory {old = old} {new = new} e is = record { answers = λ clean f has. rw is tt }

  -- nor is it where a second bank was filled
  pub why_memories : {X : Type 0} {old new : Bank S g} (r : Result X ReplayFault)
      → IfErr r (λ fault. fault ≡ OfBank faults.Memory) → TellsWhy g fault_in old new r
  why_memories (Ok x) memory = why_none x
  why_memories (Err e) memory = why_memory e (rw memory refl)

  -- the same fault in other words
  pub why_err : {X Y E F : Type 0} {fault_of : E → Fault} {fault_of' : F → Fault} {old new : Bank S g} (e : E) (e' : F)
      → fault_of e ≡ fault_of' e' → TellsWhy {X = X} g fault_of old new (Err e)
      → TellsWhy {X = Y} g fault_of' old new (Err e')
  why_err {old = old} {new = new} e e' same why =
      record { answers = λ clean f has. subst (Tells g old new f) same (why.answers clean f has) }

  tells_later : (old mid new : Bank S g) (f : FileTables) → IsBefore (file_of old) (file_of mid)
      → ((bank_seen g mid).is_down → (bank_seen g old).is_down) → (fault : Fault) → Tells g mid new f fault
      → Tells g old new f fault
  tells_later old mid new f later down faults.Memory tells = tt
  tells_later old mid new f later down faults.Store tells =
      failed_later g (connection_of old) (connection_of mid) (connection_of new) later tells
  tells_later old mid new f later down faults.Down tells = down tells
  tells_later old mid new f later down (faults.Damaged rule) tells = tells

  -- a read more
  pub why_then : {X Y Z E F G : Type 0} {fault_of : F → Fault} {old mid new : Bank S g} {x : X} {r : Result Y F}
      {r' : Result Z G} → ReadsBank {E = E} g old mid (Ok x) → ReadsBank g mid new r'
      → TellsWhy g fault_of mid new r → TellsWhy g fault_of old new r
  why_then {fault_of = fault_of} {old = old} {mid = mid} {new = new} {r = r} one two why = record {
    answers = λ clean f has.
        later fault_of f r (why.answers clean f
        (subst (λ (db : Database). HasTables db f) (sym (one.still (clean_before two clean)).0) has));
  }
    where
      later : {Y F : Type 0} (fault_of : F → Fault) (f : FileTables) (r : Result Y F)
          → IfErr r (λ e. Tells g mid new f (fault_of e)) → IfErr r (λ e. Tells g old new f (fault_of e))
      later fault_of f (Ok y) tells = tt
      later fault_of f (Err e) tells =
          tells_later old mid new f (comes one.survives) (subst (λ cause. IsSome cause) one.up) (fault_of e) tells

  -- where the rows of a kind are held by the file, what stops among them is told of it
  pub stop_tells : {X : Type 0} {Breaks : Rule → X → Type 0} (old new : Bank S g) (f : FileTables) (all : List X)
      → ((rule : Rule) → HasBroken (Breaks rule) all → HasBrokenRow rule f) → (fault : Fault)
      → Stops Breaks (HasFailedToRead g (connection_of old) (connection_of new)) (bank_seen g old).is_down all fault
      → Tells g old new f fault
  stop_tells old new f all broken faults.Memory stops = tt
  stop_tells old new f all broken faults.Store stops = stops
  stop_tells old new f all broken faults.Down stops = stops
  stop_tells old new f all broken (faults.Damaged rule) stops = broken rule stops

-- ---- rows that were visited

module _ {S R X : Type 0} {g : Ghosts S} (old new : Bank S g) (item : R → X) (Breaks : Rule → X → Type 0) where
  abbrev WhyNot : List X → ReplayFault → Type 0
  WhyNot = Why Breaks (HasFailedToRead g (connection_of old) (connection_of new)) (bank_seen g old).is_down

  refusal_tells : (f : FileTables) (before coming all : List X) → before ++ coming ≡ all
      → ((rule : Rule) → HasBroken (Breaks rule) all → HasBrokenRow rule f) → (fault : ReplayFault)
      → WhyNot coming fault → Tells g old new f (fault_in fault)
  refusal_tells f before coming all are broken Write why = tt
  refusal_tells f before coming all are broken (OfBank fault) why =
      stop_tells old new f all broken fault
      (why_among item Breaks (HasFailedToRead g (connection_of old) (connection_of new)) (bank_seen g old).is_down
      before coming all are fault why)

  module _ (Visited : List R → Type 0) (Part : List R → Option R → ReplayFault → Type 0)
      (HasItems : Database → List X → Type 0) (held : AreHeld HasItems Breaks) where
    pub visited_why : (most : ℕ) (r : Result ℕ ReplayFault)
        → VisitsSome item Visited Part WhyNot (HasCleanDisk (file_of new)) (HasItems (database_of g old)) (λ all. all) most r
        → TellsWhy g fault_in old new r
    visited_why most (Ok count) it = why_none count
    visited_why most (Err fault) it = record {
      answers = λ clean f has.
          let rows = held (database_of g old) f has in
          let more = it.4 clean rows.0 rows.1 in
          refusal_tells f (map item it.0) (refused_of item it.1 ++ more.0) rows.0 more.1 rows.2 fault more.2;
    }

-- ---- a walk that stopped

pub stopped_why : {S X A : Type 0} {g : Ghosts S} {old new : Bank S g} (Breaks : Rule → X → Type 0)
    (HasItems : Database → List X → Type 0) → AreHeld HasItems Breaks → (r : Result A Fault)
    → (HasCleanDisk (file_of new) → (all : List X) → HasItems (database_of g old) all
    → IfErr r (Stops Breaks (HasFailedToRead g (connection_of old) (connection_of new)) (bank_seen g old).is_down all))
    → TellsWhy g (λ fault. fault) old new r
stopped_why Breaks HasItems held (Ok x) stops = why_none x
stopped_why {g = g} {old = old} {new = new} Breaks HasItems held (Err fault) stops = record {
  answers = λ clean f has.
      let rows = held (database_of g old) f has in
      stop_tells old new f rows.0 rows.2 fault (stops clean rows.0 rows.1);
}
