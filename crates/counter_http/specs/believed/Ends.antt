-- What the ends of a connection returned: the reader from r to r', and the writer from w to w'.
use Rattle.std.specs.Prelude.{ℕ, List, Option}
use Rattle.std.specs.Io.KnownBytes.{IsAtEnd}
use Rattle.posting_core.specs.believed.EndCalls.{ReadCall, EndsWith}
use Rattle.posting_core.specs.believed.EndCalls.{IsEndOfInput}

-- the input ended: no known byte remains, and the last read returned its end
pub record HasEnded (remaining : Option (List ℕ)) (r r' : Option (List ReadCall)) : Type 0 where
  pub none : IsAtEnd remaining
  pub read : EndsWith IsEndOfInput r r'
