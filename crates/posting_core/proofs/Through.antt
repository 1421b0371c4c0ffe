-- What was written was flushed, batch by batch.
use Rattle.std.proofs.Common.{ℕ, List, Option, Err, sym, subst, inl, inr}
use Rattle.posting_core.specs.declared.stream.StreamFault.{StreamFault}
use Rattle.posting_core.specs.declared.stream.StreamFault.TheVariants.{Truncated, Read, Write, Bank}
use Rattle.posting_rules.specs.believed.Counter.{Seen}
use Rattle.posting_core.specs.{Batches.BreaksOff, Stream.StreamFaultIsOfItsEnd, Stream.TellsBreak}
use Rattle.posting_core.specs.believed.EndCalls.{ReadCall, EndsWith}
use Rattle.posting_core.specs.EndCalls.{WriteCall, HasMore, IsFlush, IsThrough, IsWriteFailure}
use Rattle.posting_core.proofs.Telling.{adds-none, last_some, more_failed, more_last}

pub through_first : (w : Option (List WriteCall)) → IsThrough w w
through_first w = inl (adds-none w)

pub through_more : {w w' : Option (List WriteCall)} → IsThrough w w' → HasMore w w'
through_more (inl none) = record { calls = _; made = none }
through_more (inr flushed) = last_some IsFlush flushed

-- a batch more was written and flushed
pub through_batch : {w w' w'' : Option (List WriteCall)} → IsThrough w w' → EndsWith IsFlush w' w''
    → IsThrough w w''
through_batch h flushed = inr (more_last IsFlush (through_more h) flushed)

-- a batch broke off
pub ends_broken : (r r' : Option (List ReadCall)) (w w' w'' : Option (List WriteCall))
    (k k' : Option (List ℕ)) (c c' : Seen) (m : ℕ) (rs : List (List ℕ)) (fault : StreamFault)
    → IsThrough w w' → BreaksOff fault k k' c c' m rs → TellsBreak fault w' w''
    → StreamFaultIsOfItsEnd (Err fault) r r' w w''
ends_broken r r' w w' w'' k k' c c' m rs Write h a failed = more_failed IsWriteFailure (through_more h) failed
ends_broken r r' w w' w'' k k' c c' m rs (Bank fault) h a same =
    subst (λ (t : Option (List WriteCall)). IsThrough w t) (sym same) h
ends_broken r r' w w' w'' k k' c c' m rs Read h a fault = absurd a
ends_broken r r' w w' w'' k k' c c' m rs (Truncated n) h a fault = absurd a
