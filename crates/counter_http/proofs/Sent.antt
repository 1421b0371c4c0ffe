-- What the ends told, answer by answer.
use Rattle.std.proofs.Common.{◌≡◌, ℕ, Bool, List, [], ◌∷◌, Option, Result, Ok, Err, subst}
use Rattle.std.specs.Prelude.{IfOk, OnOk, OnErr, is_ok}
use Rattle.std.specs.{Io.KnownBytes.IsAtEnd, declared.io.Error.Error}
use Rattle.posting_core.specs.believed.EndCalls.{ReadCall, GrowsBy, EndsWith}
use Rattle.posting_core.specs.EndCalls.{WriteCall, HasMore, HasWriteFailed, IsFlush, IsThrough, IsWriteFailure, read_call}
use Rattle.posting_core.proofs.Telling.{HasMade, more_failed, more_last, more_more, read_ended}
use Rattle.posting_core.proofs.{Streaming.at_ok, Through.through_more}
use Rattle.counter_http.specs.{declared.fault.ServeFault.ServeFault, believed.Ends.HasEnded}
use Rattle.counter_http.specs.declared.fault.ServeFault.TheVariants.{Read, Write, Bank, Memory}
use Rattle.counter_http.specs.Ends.{HasSent, HasTaken, SendsAs, ServeFaultIsOfItsEnd}

-- the input ended
pub ended_at : {remaining : Option (List ℕ)} {a b c : Option (List ReadCall)} {count : ℕ} (r : Result ℕ Error)
    (n : ℕ)
    → HasMade a b count → GrowsBy b c (read_call r ∷ []) → r ≡ Ok n → n ≡ 0
    → IfOk r (λ m. m ≡ 0 → IsAtEnd remaining)
    → HasEnded remaining a c
ended_at r n made tells is none end = record
    { none = at_ok _ r n is end none; read = read_ended r n made tells is none }

-- ---- within an answer

pub taken_as : (a b : Option (List WriteCall)) {going going' : Bool} → going ≡ going' → HasTaken going a b
    → HasTaken going' a b
taken_as a b e h = subst (λ (x : Bool). HasTaken x a b) e h

-- more is written at once
pub taken_each : {A E : Type 0} (a b c : Option (List WriteCall)) (done : Bool) (r : Result A E) → HasMore a b
    → OnOk r (HasMore b c) → OnErr r (HasWriteFailed b c) → done ≡ is_ok r → HasTaken done a c
taken_each a b c done (Ok x) h more failed e = rw e (more_more h more)
taken_each a b c done (Err x) h more failed e = rw e (more_failed IsWriteFailure h failed)

-- the rest is written and flushed
pub sent_after : {E : Type 0} (a b c : Option (List WriteCall)) (r : Result (Unit {0}) E) → HasMore a b
    → OnOk r (EndsWith IsFlush b c) → OnErr r (HasWriteFailed b c) → HasSent r a c
sent_after a b c (Ok x) h flushed failed = more_last IsFlush h flushed
sent_after a b c (Err x) h flushed failed = more_failed IsWriteFailure h failed

-- ---- answers one after another

-- a fault after them
pub sent_broken : (fault : ServeFault) (r r' : Option (List ReadCall)) (w w' w'' : Option (List WriteCall))
    → IsThrough w w'
    → SendsAs (Err fault) w' w'' → ServeFaultIsOfItsEnd (Err fault) r r' w w''
sent_broken Write r r' w w' w'' h a = more_failed IsWriteFailure (through_more h) a
sent_broken (Bank fault) r r' w w' w'' h a = more_last IsFlush (through_more h) a
sent_broken Read r r' w w' w'' h a = absurd a
sent_broken Memory r r' w w' w'' h a = absurd a

-- ---- errors

pub error_is : {A E : Type 0} (e f : E) → (let r : Result A E = Err e in r) ≡ Err f → e ≡ f
error_is e f same = cc

pub ok_is_no_error : {A E : Type 0} (a : A) (f : E) → (let r : Result A E = Ok a in r) ≡ Err f → ⊥
ok_is_no_error a f same = cc
