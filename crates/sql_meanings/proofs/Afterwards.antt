-- What a failure says of the states before it and after it.
use Rattle.sql_meanings.specs.Names.{ℕ, Bool, IsTrue, State, Fails, HasCause, IsRolledBack, KeepsCounts, Error}
use Rattle.sql_meanings.specs.Names.{StoreError, OutOfMemory, Io, Corrupt, Full, Broken, Unstorable}
use Rattle.sql_meanings.proofs.Names.{◌∙◌, arith}
use Rattle.sqlite.specs.Disk.{MoreFaults}
use Rattle.sqlite.specs.State.{Shows as StateShows}
use Rattle.sql_meanings.specs.StatementAnswers.{IsUndone, NamesCause}
use Rattle.std.specs.Prelude.{◌≤◌}

faults_since : (a b c : ℕ) → a ≤ b → MoreFaults b c → MoreFaults a c
faults_since a b c more h = omega arith

faults_on : (a b c : ℕ) → MoreFaults a b → b ≤ c → MoreFaults a c
faults_on a b c h more = omega arith

module _ (old mid new : State) where
  -- a rollback undoes what went on before it too
  pub rolled_since : (mode : Bool) → StateShows old mid mid.now old.committed mode → KeepsCounts old mid
      → IsRolledBack mid new
      → IsRolledBack old new
  rolled_since mode shows counts back = record {
    was_open = λ live. shows.was_open;
    undone = λ live. let undone = back.undone live in
        (undone.0 ∙ shows.committed_is, undone.1 ∙ shows.committed_is);
    autocommit = back.autocommit;
    unmarked = back.unmarked;
    counts = record {
      changes = back.counts.changes ∙ counts.changes;
      last_rowid = back.counts.last_rowid ∙ counts.last_rowid;
    };
  }

  -- a rollback undoes all that was not committed
  pub undone_since : (mode : Bool) → StateShows old mid mid.now old.committed mode → IsRolledBack mid new
      → IsUndone old new
  undone_since mode shows back = (
    λ live. let undone = back.undone live in (
      shows.was_open,
      undone.0 ∙ shows.committed_is,
      undone.1
          ∙ shows.committed_is,
    ),
    back.autocommit,
    back.unmarked,
  )

  -- so does a rollback after another
  pub undone_twice : IsRolledBack old mid → IsRolledBack mid new → IsUndone old new
  undone_twice first second = (
    λ live. let before = first.undone (second.was_open live) in let after = second.undone live in
        (first.was_open (second.was_open live), after.0 ∙ before.1, after.1 ∙ before.1),
    second.autocommit,
    second.unmarked,
  )

  module _ (P Q : Type 0) (then : P → Q) where
    cause_since : IsTrue mid.is_open → old.faults ≤ mid.faults → (kind : StoreError) → HasCause mid new P kind
        → HasCause old new Q kind
    cause_since open_then more OutOfMemory c = c
    cause_since open_then more Io c = faults_since _ _ _ more c
    cause_since open_then more Corrupt c = faults_since _ _ _ more c
    cause_since open_then more Full c = faults_since _ _ _ more c
    cause_since open_then more Broken c = absurd (let shut = c in cc)
    cause_since open_then more Unstorable c = then c

    -- a failure of the store is one since each state that led to it
    pub fails_since : (e : Error) (mode : Bool) → StateShows old mid mid.now old.committed mode
        → KeepsCounts old mid
        → old.faults ≤ mid.faults → Fails mid new P e → Fails old new Q e
    fails_since e mode shows counts more h =
        (h.0, h.1, cause_since shows.is_open more h.0 h.2, rolled_since mode shows counts h.3, h.4)

    -- what it names has happened since each state that led to it
    pub names_since : (e : Error) → IsTrue mid.is_open → old.faults ≤ mid.faults → Fails mid new P e
        → NamesCause old new Q e
    names_since e open_then more h = (h.0, h.1, cause_since open_then more h.0 h.2)

    cause_on : mid.faults ≤ new.faults → (kind : StoreError) → HasCause old mid P kind
        → HasCause old new Q kind
    cause_on more OutOfMemory c = c
    cause_on more Io c = faults_on _ _ _ c more
    cause_on more Corrupt c = faults_on _ _ _ c more
    cause_on more Full c = faults_on _ _ _ c more
    cause_on more Broken c = c
    cause_on more Unstorable c = then c

    -- what it names has happened for all that follows
    pub names_on : (e : Error) → mid.faults ≤ new.faults → Fails old mid P e → NamesCause old new Q e
    names_on e more h = (h.0, h.1, cause_on more h.0 h.2)
