-- What the calls of what gives clients returned, where it is known: whom it waited for, its openings and its closings, and
-- whom it said to give up.
use Rattle.std.specs.Prelude.{ℕ, List, [], ◌∷◌, Option, Some, None, Result, Ok, Err}
use Rattle.std.specs.IoError.{error_kind}
use Rattle.std.specs.declared.io.Error.{Error}
use Rattle.std.specs.declared.io.ErrorKind.{ErrorKind}

pub data ClientsCall (E : Type 0) : Type 0 where
  -- a wait was for the clients of these numbers, whose ends stood so
  Waited : List (ℕ × E) → ClientsCall E
  -- an opening gave the client of this number, by its two ends
  Gave : ℕ → E → ClientsCall E
  -- an opening gave none: nobody waited to be taken in
  Nobody : ClientsCall E
  -- an opening failed, with an error of this kind
  Refused : ErrorKind → ClientsCall E
  -- the connection of the client of this number was closed, and its ends were these
  Closed : ℕ → E → ClientsCall E
  -- a wait said to give up the client of this number
  Gave_up : ℕ → ClientsCall E

abbrev pub given_up_told : {E : Type 0} → List ℕ → List (ClientsCall E)
given_up_told [] = []
given_up_told (n ∷ ns) = Gave_up n ∷ given_up_told ns

abbrev pub waited_told : {E : Type 0} → List (ℕ × E) → (given_up : List ℕ) → List (ClientsCall E)
waited_told ends ns = Waited ends ∷ given_up_told ns

abbrev pub opened_told : {E : Type 0} → ℕ → Result (Option E) Error → List (ClientsCall E)
opened_told number (Ok (Some ends)) = Gave number ends ∷ []
opened_told number (Ok None) = Nobody ∷ []
opened_told number (Err e) = Refused (error_kind e) ∷ []
