-- What is known of the two ends of a connection.
use Rattle.std.specs.Prelude.{ℕ, List, Option}
use Rattle.posting_core.specs.believed.EndCalls.{ReadCall}
use Rattle.posting_core.specs.EndCalls.{Beside, WriteCall}

-- the bytes of its reader and of its writer, what the calls of each returned, and what the writer held as each read
-- was made
pub record Known : Type 0 where
  pub reader : Option (List ℕ)
  pub reads : Option (List ReadCall)
  pub beside : Option (List Beside)
  pub writer : Option (List ℕ)
  pub writes : Option (List WriteCall)

-- of a pair of ends of any kind, whose ghosts these are
abbrev pub known_ends : {R W : Type 0} → (R → Option (List ℕ)) → (R → Option (List ReadCall))
    → (R → Option (List Beside)) → (W → Option (List ℕ)) → (W → Option (List WriteCall)) → R × W → Known
known_ends remaining reads beside contents writes ends = record {
  reader = remaining ends.0;
  reads = reads ends.0;
  beside = beside ends.0;
  writer = contents ends.1;
  writes = writes ends.1;
}
