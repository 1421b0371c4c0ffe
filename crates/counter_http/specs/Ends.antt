-- What was taken from a reader and sent to a writer, and which end failed.
use Rattle.std.specs.Prelude.{ℕ, List, [], Option, Bool, true, false, Result, Ok, Err}
use Rattle.posting_core.specs.believed.EndCalls.{ReadCall, GrowsBy, EndsWith}
use Rattle.posting_core.specs.EndCalls.{WriteCall, HasMore, HasReadFailed}
use Rattle.posting_core.specs.EndCalls.{HasWriteFailed, IsFlush, IsThrough}
use Rattle.counter_http.specs.declared.fault.ServeFault.{ServeFault}
use Rattle.counter_http.specs.declared.fault.ServeFault.TheVariants.{Read, Write, Bank, Memory}

-- what was to be written was taken or is held, or the writer failed
abbrev pub HasTaken : Bool → Option (List WriteCall) → Option (List WriteCall) → Type 0
HasTaken true w w' = HasMore w w'
HasTaken false w w' = HasWriteFailed w w'

-- one answer was flushed, or the writer failed
abbrev pub HasSent : {E : Type 0} → Result (Unit {0}) E → Option (List WriteCall) → Option (List WriteCall)
    → Type 0
HasSent (Ok done) w w' = EndsWith IsFlush w w'
HasSent (Err e) w w' = HasWriteFailed w w'

-- one answer was flushed, that of a fault of the bank too, or the writer failed
abbrev pub SendsAs : Result (Unit {0}) ServeFault → Option (List WriteCall) → Option (List WriteCall)
    → Type 0
SendsAs (Ok done) w w' = EndsWith IsFlush w w'
SendsAs (Err Write) w w' = HasWriteFailed w w'
SendsAs (Err (Bank fault)) w w' = EndsWith IsFlush w w'
SendsAs (Err Read) w w' = ⊥
SendsAs (Err Memory) w w' = ⊥

-- a fault of an end comes where that end failed; every answer was flushed, wherever the writer didn't fail;
-- neither was asked for anything where memory was refused
abbrev pub ServeFaultIsOfItsEnd : Result ℕ ServeFault → Option (List ReadCall) → Option (List ReadCall)
    → Option (List WriteCall) → Option (List WriteCall) → Type 0
ServeFaultIsOfItsEnd (Ok count) r r' w w' = IsThrough w w'
ServeFaultIsOfItsEnd (Err Read) r r' w w' = HasReadFailed r r' × IsThrough w w'
ServeFaultIsOfItsEnd (Err Write) r r' w w' = HasWriteFailed w w'
ServeFaultIsOfItsEnd (Err (Bank fault)) r r' w w' = EndsWith IsFlush w w'
ServeFaultIsOfItsEnd (Err Memory) r r' w w' = GrowsBy r r' [] × GrowsBy w w' []
