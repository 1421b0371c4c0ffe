-- Rows that are visited, one more.
use Rattle.std.proofs.Common.{◌≡◌, ◌≤◌, ◌<◌, ◌+◌, ◌++◌, ℕ, List, [], ◌∷◌, map, take, drop, length, Option, Ok, Err, Some, None}
use Rattle.std.proofs.Common.{refl, sym, ap, subst, ◌∙◌, append-nil, arith, inl, inr}
use Rattle.std.specs.Prelude.{◌≢◌, ◌-◌, ◌^◌}
use Rattle.std.proofs.lemmas.List.{length-append, length-map, length-take, take-append-drop, take-append-le, take_all}
use Rattle.posting_rules.specs.declared.fault.Rule.{Rule}
use Rattle.bank_store.specs.Walking.{Steps}
use Rattle.posting_rules.specs.declared.fault.Fault.{Fault}
use Rattle.posting_rules.specs.declared.fault.Fault.TheVariants.{Damaged, Down, Memory, Store}
use Rattle.bank_replays.specs.Damaged.{Stops, fault_in}
use Rattle.bank_replays.specs.Visiting.{AreTooMany, AsksMemory, Bars, VisitsAll, VisitsSome, IsRefusal, Why}
use Rattle.bank_replays.specs.Prefixes.{memory_is}
use Rattle.bank_replays.specs.declared.fault.ReplayFault.{ReplayFault}
use Rattle.bank_replays.specs.declared.fault.ReplayFault.TheVariants.{Bank, Write}

-- so many rows were visited, of those that were to come, and these are to come yet
pub record IsVisited {R X : Type 0} (item : R → X) (Visited : List R → Type 0) (Clean : Type 0)
    (HasItems : List X → Type 0) (coming rest : List X → List X) (count : ℕ) : Type 0 where
  pub given : List R
  pub visited : Visited given
  pub many : length given ≡ count
  pub are : Clean → (all : List X) → HasItems all → map item given ++ rest all ≡ coming all

map_after : {R X : Type 0} (item : R → X) (xs : List R) (r : R) (more : List X)
    → map item (xs ++ r ∷ []) ++ more ≡ map item xs ++ item r ∷ more
map_after item [] r more = refl
map_after item (x ∷ xs) r more = ap (λ l. item x ∷ l) (map_after item xs r more)

-- those that were taken are all, where they are fewer than the most
pub whole : {X : Type 0} (most : ℕ) (xs all : List X) → xs ≡ take most all → length xs ≢ most → xs ≡ all
whole {X} most xs all is few =
    is ∙ take_all most all (omega (arith, ap (λ (l : List X). length l) is, length-take most all, few))

-- where there are too many among them, there are too many
pub too_many : {R X : Type 0} (item : R → X) (rows : List R) (more all : List X) → map item rows ++ more ≡ all
    → AreTooMany rows → AreTooMany all
too_many {X = X} item rows more all are many =
    omega (arith, many, length-map rows item, length-append (map item rows) more, ap (λ (l : List X). length l) are)

-- ---- why no more are visited

-- where no row is kept, fewer than can be counted never end for want of memory
pub never_memory : {R : Type 0} (rows : List R) (fault : ReplayFault) → AsksMemory rows None fault
    → (fault ≡ Bank Memory → length rows < 2 ^ 64 - 1) → fault_in fault ≡ Memory → ⊥
never_memory rows Write asks few is = asks.0 refl
never_memory rows (Bank fault) asks few is =
    let memory = ap (λ (f : Fault). let r : ReplayFault = Bank f in r) is in
    elim (asks.1 memory) [
      | inl some ↦ some refl
      | inr many ↦ let low = few memory in omega (arith, many, low)
    ]

-- the row was refused
pub why_refused : {R X : Type 0} (item : R → X) (Breaks : Rule → X → Type 0) (Refuses : Rule → R → Type 0)
    (Failed WasDown : Type 0) (r : R) (fault : ReplayFault) → IsRefusal (λ rule. Refuses rule r) fault → (more : List X)
    → Why (Bars item Breaks Refuses) Failed WasDown (item r ∷ more) fault
why_refused item Breaks Refuses Failed WasDown r Write refusal more = tt
why_refused item Breaks Refuses Failed WasDown r (Bank Memory) refusal more = tt
why_refused item Breaks Refuses Failed WasDown r (Bank Store) refusal more = absurd refusal
why_refused item Breaks Refuses Failed WasDown r (Bank Down) refusal more = absurd refusal
why_refused item Breaks Refuses Failed WasDown r (Bank (Damaged rule)) refusal more =
    (item r, more, refl, inr (r, refl, refusal))

module _ {R X : Type 0} (item : R → X) (Breaks : Rule → X → Type 0) (Failed WasDown : Type 0) where
  module _ (Reads : Rule → X → Type 0) (reads : (rule : Rule) (x : X) → Reads rule x → Breaks rule x)
      (coming left : List X) where
    -- the walk failed
    pub why_stopped : (fault : Fault) → Steps {R = R} item Reads coming left (Err fault) → (fault ≡ Store → Failed)
        → (fault ≡ Down → WasDown) → Why Breaks Failed WasDown coming (Bank fault)
    why_stopped Memory step failed down = tt
    why_stopped Store step failed down = failed refl
    why_stopped Down step failed down = down refl
    why_stopped (Damaged rule) step failed down = (step.0, step.1, step.2, reads rule step.0 step.3)

  -- so a row that breaks the rule is among all
  pub why_among : (before coming all : List X) → before ++ coming ≡ all → (fault : Fault)
      → Why Breaks Failed WasDown coming (Bank fault) → Stops Breaks Failed WasDown all fault
  why_among before coming all are Memory why = tt
  why_among before coming all are Store why = why
  why_among before coming all are Down why = why
  why_among before coming all are (Damaged rule) why =
      (before, why.0, why.1, sym are ∙ ap (λ l. before ++ l) why.2, why.3)

pub not_memory : (fault : Fault) → fault ≡ Down → fault ≡ Memory → ⊥
not_memory fault down memory = cc

-- ---- rows

module _ {R X : Type 0} (item : R → X) (Visited : List R → Type 0) (Part : List R → Option R → ReplayFault → Type 0)
    (WhyNot : List X → ReplayFault → Type 0) (Breaks : Rule → X → Type 0)
    (Clean Later : Type 0) (HasItems : List X → Type 0) (coming rest rest' : List X → List X) (count : ℕ)
    (before : Later → Clean) (it : IsVisited item Visited Clean HasItems coming rest count) where
  are_more : (r : R) → (Later → (all : List X) → HasItems all → Steps item Breaks (rest all) (rest' all) (Ok (Some r)))
      → Later → (all : List X) → HasItems all → map item (it.given ++ r ∷ []) ++ rest' all ≡ coming all
  are_more r step late all items =
      map_after item it.given r (rest' all)
      ∙ ap (λ l. map item it.given ++ l) (sym (step late all items))
      ∙ it.are (before late) all items

  -- a row more
  pub visits_more : (Visited' : List R → Type 0) (r : R) → Visited' (it.given ++ r ∷ [])
      → (Later → (all : List X) → HasItems all → Steps item Breaks (rest all) (rest' all) (Ok (Some r)))
      → IsVisited item Visited' Later HasItems coming rest' (count + 1)
  visits_more Visited' r visited step = record {
    given = it.given ++ r ∷ [];
    visited = visited;
    many = length-append it.given (r ∷ []) ∙ ap (λ (n : ℕ). n + 1) it.many;
    are = are_more r step;
  }

  -- the end
  pub visits_end : (most : ℕ) → count ≤ most
      → (Later → (all : List X) → HasItems all → Steps {R = R} item Breaks (rest all) (rest' all) (Ok None))
      → VisitsSome item Visited Part WhyNot Later HasItems coming most (Ok count)
  visits_end most low step = (
    it.given,
    it.visited,
    it.many,
    λ late all items.
        let same : map item it.given ≡ coming all = sym (append-nil (map item it.given))
        ∙ ap (λ l. map item it.given ++ l) (sym (step late all items).0) ∙ it.are (before late) all items in
        same ∙ sym (take_all most (coming all)
        (omega (arith, low, it.many, length-map it.given item, ap (λ (l : List X). length l) same))),
  )

  -- the row was refused
  pub visits_refused : (most : ℕ) → count < most → (r : R) (fault : ReplayFault) → Part it.given (Some r) fault
      → ((more : List X) → WhyNot (item r ∷ more) fault)
      → (Later → (all : List X) → HasItems all → Steps item Breaks (rest all) (rest' all) (Ok (Some r)))
      → VisitsSome item Visited Part WhyNot Later HasItems coming most (Err fault)
  visits_refused most few r fault part why step = (
    it.given,
    Some r,
    part,
    λ is. omega (arith, few, it.many),
    λ late all items. (
      rest' all,
      ap (λ l. map item it.given ++ l) (sym (step late all items)) ∙ it.are (before late) all items,
      why (rest' all),
    ),
  )

  -- the walk failed
  pub visits_part : (most : ℕ) (fault : Fault) → (fault ≡ Memory → ⊥) → Part it.given None (Bank fault)
      → (Later → (all : List X) → HasItems all → WhyNot (rest all) (Bank fault))
      → VisitsSome item Visited Part WhyNot Later HasItems coming most (Err (Bank fault))
  visits_part most fault frugal part why = (
    it.given,
    None,
    part,
    λ is. absurd (frugal (memory_is fault is)),
    λ late all items. (rest all, it.are (before late) all items, why late all items),
  )

  -- there are as many as were asked for
  pub visits_most : VisitsSome item Visited Part WhyNot Later HasItems coming count (Ok count)
  visits_most = (
    it.given,
    it.visited,
    it.many,
    λ late all items.
        let own = map item it.given in
        let long : length own ≡ count = length-map it.given item ∙ it.many in
        sym (take_all count own (omega (arith, long)))
        ∙ sym (take-append-le count own (rest all) (omega (arith, long)))
        ∙ ap (take count) (it.are (before late) all items),
  )

module _ {R X : Type 0} (item : R → X) (Visited : List R → Type 0) (Part : List R → Option R → ReplayFault → Type 0)
    (WhyNot : List X → ReplayFault → Type 0) (Clean : Type 0) (HasItems : List X → Type 0) (most : ℕ) where
  -- the bank was down
  pub visits_down : (fault : Fault) → fault ≡ Down → Part [] None (Bank fault) → ((coming : List X) → WhyNot coming (Bank Down))
      → VisitsSome item Visited Part WhyNot Clean HasItems (λ all. all) most (Err (Bank fault))
  visits_down fault down part why = (
    [],
    None,
    part,
    λ is. absurd (not_memory fault down (memory_is fault is)),
    λ clean all items. (all, refl, subst (λ (f : Fault). WhyNot all (Bank f)) (sym down) (why all)),
  )

  -- a fault came before all were taken
  pub some_visited : (fault : ReplayFault)
      → VisitsSome item Visited Part WhyNot Clean HasItems (λ all. all) most (Err fault)
      → VisitsAll item Visited Part WhyNot Clean HasItems (Err fault)
  some_visited fault it = (it.0, it.1, it.2, tt, it.4)

  module _ (count : ℕ) (it : VisitsSome item Visited Part WhyNot Clean HasItems (λ all. all) most (Ok count)) where
    -- fewer than the most are all
    pub all_visited : count ≢ most → VisitsAll item Visited Part WhyNot Clean HasItems (Ok tt)
    all_visited few = (
      it.0,
      it.1,
      λ clean all items.
          whole most (map item it.0) all (it.3 clean all items)
          (λ is. few (sym (length-map it.0 item ∙ it.2) ∙ is)),
    )

    -- as many as the most may be but some
    pub part_visited : (fault : ReplayFault) → Part it.0 None fault → ((more : List X) → WhyNot more fault)
        → VisitsAll item Visited Part WhyNot Clean HasItems (Err fault)
    part_visited fault part why = (
      it.0,
      None,
      part,
      tt,
      λ clean all items. (
        drop most all,
        ap (λ l. l ++ drop most all) (it.3 clean all items) ∙ take-append-drop most all,
        why (drop most all),
      ),
    )
