-- What becomes of a client in a part of a round, in which messages were answered and the bank may have refused a call.
use Rattle.std.specs.Prelude.{◌≡◌, ◌⊎◌, ℕ, List, [], Option, None, Some, false, Contains}
use Rattle.std.specs.List.{slice_get}
use Rattle.posting_rules.specs.declared.fault.Fault.{Fault}
use Rattle.counter_http.specs.together.Order.{Step, clients_of}
use Rattle.counter_http.specs.together.Serving.{IsWhyTold}
use Rattle.counter_http.specs.declared.client.Client.{Client}
use Rattle.counter_http.specs.declared.parting.Parting.{Parting}
use Rattle.counter_http.specs.declared.parting.Parting.TheVariants as parting

-- if it was told that the bank refused its message, there is a cause
pub record IsToldSo (fault : Option Fault) (refused : List Step) (n : ℕ) (p : Option Parting) : Type 0 where
  pub why : (why : Fault) → p ≡ Some (parting.Bank why) → IsWhyTold fault refused n why

-- its whole messages are answered, or no more of them are
abbrev pub HasNoMore : {R W : Type 0} → Client R W → Type 0
HasNoMore client = (client.has_more ≡ false) ⊎ ((p : Parting) × (client.parting ≡ Some p))

pub record Fares {R W : Type 0} (fault : Option Fault) (refused steps : List Step) (old new : Client R W) : Type 0 where
  -- nothing was done for it, or all that could be, or one of its messages was answered
  pub did : (new ≡ old) ⊎ (HasNoMore new ⊎ Contains (clients_of steps) old.number)
  pub told : IsToldSo None [] old.number old.parting → IsToldSo fault refused old.number new.parting

-- so do clients at each place
abbrev pub AllFare : {R W : Type 0} → Option Fault → (refused steps : List Step) → (here here' : List (Client R W)) → Type 0
AllFare {R} {W} fault refused steps here here' =
    (p : ℕ) (client client' : Client R W) → slice_get here p ≡ Some client → slice_get here' p ≡ Some client'
    → Fares fault refused steps client client'
