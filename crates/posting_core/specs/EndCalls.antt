-- What the calls of a source and of a sink returned, call by call.
use Rattle.std.specs.Prelude.{◌≡◌, ◌≢◌, ◌≤◌, ◌⊎◌, ◌-◌, ◌^◌, ℕ, List, [], ◌++◌, length, ⊤, Option}
use Rattle.std.specs.Prelude.{None, Result, Ok, Err, take}
use Rattle.std.specs.List.{AllByRecursion}
use Rattle.std.specs.Io.KnownBytes.{Appends}
use Rattle.std.specs.IoError.{error_kind}
use Rattle.std.specs.declared.io.Error.{Error}
use Rattle.std.specs.declared.io.ErrorKind.{ErrorKind}
use Rattle.std.specs.declared.io.ErrorKind.TheVariants.{Interrupted}
use Rattle.posting_core.specs.believed.EndCalls.{EndsWith, Failed, Gave, GrowsBy, ReadCall}

pub data WriteCall : Type 0 where
  -- of so many bytes it took so many
  Took : ℕ → ℕ → WriteCall
  -- it took none, with an error of this kind
  Refused : ErrorKind → WriteCall
  -- what it took before is through, or it isn't
  Flushed : WriteCall
  Unflushed : WriteCall

abbrev pub read_call : Result ℕ Error → ReadCall
read_call (Ok n) = Gave n
read_call (Err e) = Failed (error_kind e)

abbrev pub write_call : List ℕ → Result ℕ Error → WriteCall
write_call bytes (Ok n) = Took (length bytes) n
write_call bytes (Err e) = Refused (error_kind e)

abbrev pub flush_call : {A : Type 0} → Result A Error → WriteCall
flush_call (Ok done) = Flushed
flush_call (Err e) = Unflushed

-- some calls were made, or none
pub record HasMore {A : Type 0} (old new : Option (List A)) : Type 0 where
  pub calls : List A
  pub made : GrowsBy old new calls

-- 2^64 - 1 calls were made, or more
pub record IsWornOut {A : Type 0} (old new : Option (List A)) : Type 0 where
  pub calls : List A
  pub made : GrowsBy old new calls
  pub many : 2 ^ 64 - 1 ≤ length calls

-- calls were made, and P holds of what each of the last 2^64 - 1 returned
pub record EndsWithMany {A : Type 0} (P : A → Type 0) (old new : Option (List A)) : Type 0 where
  pub earlier : List A
  pub last : List A
  pub made : GrowsBy old new (earlier ++ last)
  pub many : 2 ^ 64 - 1 ≤ length last
  pub are : AllByRecursion P last

-- ---- a source

-- an error, but one that asks for the read to be made again
abbrev pub IsReadFailure : ReadCall → Type 0
IsReadFailure (Gave n) = ⊥
IsReadFailure (Failed kind) = kind ≢ Interrupted

-- the last read failed, or the source was asked too often
abbrev pub HasReadFailed : Option (List ReadCall) → Option (List ReadCall) → Type 0
HasReadFailed old new = EndsWith IsReadFailure old new ⊎ IsWornOut old new

-- ---- a sink

-- no byte of some, an error but one that asks for the write to be made again, or any error of a flush
abbrev pub IsWriteFailure : WriteCall → Type 0
IsWriteFailure (Took offered n) = (1 ≤ offered) × (n ≡ 0)
IsWriteFailure (Refused kind) = kind ≢ Interrupted
IsWriteFailure Flushed = ⊥
IsWriteFailure Unflushed = ⊤

abbrev pub IsFlush : WriteCall → Type 0
IsFlush (Took offered n) = ⊥
IsFlush (Refused kind) = ⊥
IsFlush Flushed = ⊤
IsFlush Unflushed = ⊥

-- it asks for the write to be made again
abbrev pub IsInterrupted : WriteCall → Type 0
IsInterrupted (Took offered n) = ⊥
IsInterrupted (Refused kind) = kind ≡ Interrupted
IsInterrupted Flushed = ⊥
IsInterrupted Unflushed = ⊥

-- the last write or flush failed, or one write was made 2^64 - 1 times in a row and interrupted each time
abbrev pub HasWriteFailed : Option (List WriteCall) → Option (List WriteCall) → Type 0
HasWriteFailed old new = EndsWith IsWriteFailure old new ⊎ EndsWithMany IsInterrupted old new

-- it was asked nothing, or to flush after all else
abbrev pub IsThrough : Option (List WriteCall) → Option (List WriteCall) → Type 0
IsThrough old new = GrowsBy old new [] ⊎ EndsWith IsFlush old new

-- ---- a source beside a sink

-- what was known of a sink as a read was made beside it: the bytes that it held, and what its calls had returned
pub record Beside : Type 0 where
  pub contents : Option (List ℕ)
  pub calls : Option (List WriteCall)

-- of a sink of which nothing is known
abbrev pub unknown : Beside
unknown = record { contents = None; calls = None }

-- since w and t the first n bytes of what was written were written, no others were, and they were flushed
pub record HoldsFlushed (w : Option (List ℕ)) (t : Option (List WriteCall)) (written : List ℕ) (n : ℕ)
    (sink : Beside) : Type 0 where
  pub there : n ≤ length written
  pub wrote : Appends w sink.contents (take n written)
  pub through : IsThrough t sink.calls
