-- What a read of a client does, that is served beside others: of its ends known says what is known.
use Rattle.std.specs.Prelude.{◌≡◌, ◌≢◌, ◌⊎◌, ℕ, List, [], ◌∷◌, ◌++◌, length, true, false, Option, Some, None, Result}
use Rattle.std.specs.Io.KnownBytes.{Consumes}
use Rattle.std.specs.declared.io.Error.{Error}
use Rattle.posting_core.specs.Stream.{given}
use Rattle.posting_core.specs.EndCalls.{Beside, IsReadFailure, read_call}
use Rattle.posting_core.specs.believed.EndCalls.{GrowsBy, IsEndOfInput, ReadCall}
use Rattle.std.specs.Io.KnownBytes.{IsAtEnd}
use Rattle.counter_http.specs.Connections.{Known}
use Rattle.counter_http.specs.together.Standing.{pending, unread}
use Rattle.counter_http.specs.believed.Answers.{answer_text, bare}
use Rattle.counter_http.specs.declared.client.Client.{Client}
use Rattle.counter_http.specs.declared.parting.Parting.TheVariants as parting

-- one read was made, where no whole message was left and all answers were written, and it gave these bytes
pub record MakesRead {R W : Type 0} (known : R × W → Known) (old new : Client R W) (answer : Result ℕ Error)
    (bytes : List ℕ) : Type 0 where
  pub going : old.parting ≡ None
  pub waited : old.has_more ≡ false
  pub written : pending old ≡ []
  pub number : new.number ≡ old.number
  pub reader : Option (List ℕ)
  pub reads : Option (List ReadCall)
  pub beside : Option (List Beside)
  pub ends : known (new.reader, new.writer)
      ≡ record (known (old.reader, old.writer)) { reader = reader; reads = reads; beside = beside }
  pub got : Consumes (known (old.reader, old.writer)).reader reader bytes
  pub tells : GrowsBy (known (old.reader, old.writer)).reads reads (read_call answer ∷ [])
  pub sink : GrowsBy (known (old.reader, old.writer)).beside beside
      (record {
        contents = (known (old.reader, old.writer)).writer;
        calls = (known (old.reader, old.writer)).writes;
      } ∷ [])
  pub long : given (read_call answer ∷ []) ≡ length bytes

-- bytes came, or none for now
pub record ReadsSome {R W : Type 0} (known : R × W → Known) (old new : Client R W) : Type 0 where
  pub answer : Result ℕ Error
  pub bytes : List ℕ
  pub made : MakesRead known old new answer bytes
  pub goes_on : new.parting ≡ None
  pub more : new.has_more ≡ false → bytes ≡ []
  pub shows : new.shows_body ≡ old.shows_body
  pub added : unread new ≡ unread old ++ bytes
  pub none : pending new ≡ []

-- what is said at the end of the input: nothing, or that what is left is no message; or memory was refused for that
pub data SaysAtEnd {R W : Type 0} (old new : Client R W) : Type 0 where
  Silent : unread old ≡ [] → pending new ≡ [] → new.parting ≡ Some parting.Served → SaysAtEnd old new
  Refused : unread old ≢ [] → pending new ≡ answer_text (bare 400) old.shows_body true
      → new.parting ≡ Some parting.Served → SaysAtEnd old new
  Lost : pending new ≡ [] → new.parting ≡ Some parting.Memory → SaysAtEnd old new

-- the input ended
pub record ReadsEnd {R W : Type 0} (known : R × W → Known) (old new : Client R W) : Type 0 where
  pub answer : Result ℕ Error
  pub made : MakesRead known old new answer []
  pub end : IsEndOfInput (read_call answer)
  pub none : IsAtEnd made.reader
  pub says : SaysAtEnd old new

-- the reader failed
pub record ReadsLast {R W : Type 0} (known : R × W → Known) (old new : Client R W) : Type 0 where
  pub answer : Result ℕ Error
  pub made : MakesRead known old new answer []
  pub failed : IsReadFailure (read_call answer)
  pub none : pending new ≡ []
  pub parting : new.parting ≡ Some parting.Read

abbrev pub Reads : {R W : Type 0} → (R × W → Known) → Client R W → Client R W → Type 0
Reads known old new = (new ≡ old) ⊎ (ReadsSome known old new ⊎ (ReadsEnd known old new ⊎ ReadsLast known old new))
