-- Rows that are visited one by one.
use Rattle.std.specs.Prelude.{◌≡◌, ◌≢◌, ◌⊎◌, ◌≤◌, ◌<◌, ◌-◌, ◌^◌, ◌++◌, ℕ, List, [], ◌∷◌, length, map, take, Result, Ok, Err}
use Rattle.std.specs.Prelude.{Option, Some, None, ⊤}
use Rattle.posting_rules.specs.declared.fault.Fault.TheVariants.{Damaged, Down, Memory, Store}
use Rattle.posting_rules.specs.declared.fault.Rule.{Rule}
use Rattle.bank_replays.specs.declared.fault.ReplayFault.{ReplayFault}
use Rattle.bank_replays.specs.declared.fault.ReplayFault.TheVariants.{Bank, Write}

-- no list in memory has so many
abbrev pub AreTooMany : {R : Type 0} → List R → Type 0
AreTooMany rows = 2 ^ 64 - 1 ≤ length rows

-- it isn't the writer's fault, and memory is at its end where a row has to be kept, or there would be no room for so many
abbrev pub AsksMemory : {R : Type 0} → List R → Option R → ReplayFault → Type 0
AsksMemory rows next fault = (fault ≢ Write) × (fault ≡ Bank Memory → (next ≢ None) ⊎ AreTooMany rows)

-- why a row is refused: it breaks a rule, or memory or the writer is at its end
abbrev pub IsRefusal : (Rule → Type 0) → ReplayFault → Type 0
IsRefusal Breaks Write = ⊤
IsRefusal Breaks (Bank Memory) = ⊤
IsRefusal Breaks (Bank Store) = ⊥
IsRefusal Breaks (Bank Down) = ⊥
IsRefusal Breaks (Bank (Damaged rule)) = Breaks rule

-- a row can't be read, by this rule, or was read and is refused
abbrev pub Bars : {R X : Type 0} → (R → X) → (Rule → X → Type 0) → (Rule → R → Type 0) → Rule → X → Type 0
Bars {R} item Breaks Refuses rule x = Breaks rule x ⊎ ((r : R) × (x ≡ item r) × Refuses rule r)

-- the row that was refused, if one was
abbrev pub refused_of : {R X : Type 0} → (R → X) → Option R → List X
refused_of item None = []
refused_of item (Some r) = item r ∷ []

-- why the first of these rows wasn't taken: it breaks the rule, or a read failed, or the bank was down
abbrev pub Why : {X : Type 0} → (Rule → X → Type 0) → (Failed WasDown : Type 0) → List X → ReplayFault → Type 0
Why Breaks Failed WasDown coming Write = ⊤
Why Breaks Failed WasDown coming (Bank Memory) = ⊤
Why Breaks Failed WasDown coming (Bank Store) = Failed
Why Breaks Failed WasDown coming (Bank Down) = WasDown
Why {X} Breaks Failed WasDown coming (Bank (Damaged rule)) =
    (x : X) × (more : List X) × (coming ≡ x ∷ more) × Breaks rule x

module _ {R X : Type 0} (item : R → X) (Visited : List R → Type 0) (Part : List R → Option R → ReplayFault → Type 0)
    (WhyNot : List X → ReplayFault → Type 0) (Clean : Type 0) (HasItems : List X → Type 0) where
  -- at a fault the first of these were taken, so many as may be, and it came at the next of them
  abbrev pub VisitsPart : (List X → List X) → (ℕ → Type 0) → ReplayFault → Type 0
  VisitsPart coming Few fault =
      (given : List R) × (next : Option R) × Part given next fault × Few (length given)
      × (Clean → (all : List X) → HasItems all → (rest : List X)
      × (map item given ++ (refused_of item next ++ rest) ≡ coming all) × WhyNot (refused_of item next ++ rest) fault)

  -- of all that were to come the first so many were taken, or all, if there are no more
  abbrev pub VisitsSome : (List X → List X) → ℕ → Result ℕ ReplayFault → Type 0
  VisitsSome coming most (Ok count) =
      (given : List R) × Visited given × (length given ≡ count)
      × (Clean → (all : List X) → HasItems all → map item given ≡ take most (coming all))
  VisitsSome coming most (Err fault) = VisitsPart coming (λ count. fault ≡ Bank Memory → count < most) fault

  -- all were taken
  abbrev pub VisitsAll : Result (Unit {0}) ReplayFault → Type 0
  VisitsAll (Ok done) =
      (given : List R) × Visited given × (Clean → (all : List X) → HasItems all → map item given ≡ all)
  VisitsAll (Err fault) = VisitsPart (λ all. all) (λ count. ⊤) fault
