-- What a log over etcd asked, and what it takes from the answer.
use Rattle.std.specs.Prelude.{◌≡◌, ◌≤◌, ◌++◌, ◌/◌, ◌%◌, ℕ, List, [], length, Option}
use Rattle.std.specs.{Io.KnownBytes.Appends, Simd.first_chunks}
use Rattle.shared_log.specs.etcd.Answers.{HasCome, Says}
use Rattle.shared_log.specs.etcd.Texts.{request_text}
use Rattle.shared_log.specs.declared.etcd.log.EtcdLog.{EtcdLog}
use Rattle.shared_log.specs.declared.etcd.meanings.Said.{Said}
use Rattle.shared_log.specs.declared.etcd.meanings.Said.TheVariants.{Done, Holds, Nothing}

-- the entries that answers gave it or acknowledged so far
abbrev pub told_by : {R W : Type 0} → EtcdLog R W → List (List ℕ)
told_by log = log.held.told.entries

-- It was asked for these entries at the place that was the end: a transaction was written, an answer came, and says so.
pub record HasAsked {R W : Type 0} (remaining : R → Option (List ℕ)) (contents : W → Option (List ℕ))
    (old new : EtcdLog R W) (entries : List (List ℕ)) (said : Said) : Type 0 where
  pub body : List ℕ
  pub wrote : Appends (contents old.writer) (contents new.writer)
      (request_text old.name.items (length (told_by old)) entries)
  pub came : HasCome (remaining old.reader) (remaining new.reader) body
  pub says : Says body said

-- the answer says that the log ended there, and that they stand there
pub record HasAppended {R W : Type 0} (remaining : R → Option (List ℕ)) (contents : W → Option (List ℕ))
    (old new : EtcdLog R W) (entries : List (List ℕ)) : Type 0 where
  pub asked : HasAsked remaining contents old new entries Done
  pub told : told_by new ≡ told_by old ++ entries

-- these entries are just those bytes
pub record AreEntries (bytes : List ℕ) (entries : List (List ℕ)) : Type 0 where
  pub are : entries ≡ first_chunks 308 (length bytes / 308) bytes
  pub all : length bytes % 308 ≡ 0
  pub some : 1 ≤ length entries

-- none where the answer says that the log ends there, and those of its value where it says which stands there
abbrev pub AreGiven : Said → List (List ℕ) → Type 0
AreGiven Done given = given ≡ []
AreGiven (Holds value) given = AreEntries value.items given
AreGiven Nothing given = ⊥

pub record HasRead {R W : Type 0} (remaining : R → Option (List ℕ)) (contents : W → Option (List ℕ))
    (old new : EtcdLog R W) (given : List (List ℕ)) : Type 0 where
  pub said : Said
  pub asked : HasAsked remaining contents old new [] said
  pub gives : AreGiven said given
  pub told : told_by new ≡ told_by old ++ given
