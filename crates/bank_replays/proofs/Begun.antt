-- What is told of the rows that are to come of a bank that was lent is told of all its rows.
use Rattle.std.proofs.Common.{◌≡◌, ◌++◌, ℕ, ℤ, Bool, Option, None, List, Result, Ok, Err, take, sym, ap, subst, ◌∙◌}
use Rattle.std.specs.{Borrow.GName, Prelude.IfErr, Prelude.option_map}
use Rattle.sqlite.specs.{Effect.Database, Held.Held}
use Rattle.sqlite_trees.specs.declared.store.Store.{Ghosts}
use Rattle.bank_store.specs.{believed.Seen.database_of, declared.bank.Bank.Bank, declared.walks.Walk.Walk}
use Rattle.bank_store.specs.Walking.{BeginsWalk, items_to_come, lent}
use Rattle.posting_rules.specs.declared.fault.{Fault.Fault, Rule.Rule}
use Rattle.posting_rules.specs.declared.fault.Fault.TheVariants.{Damaged, Down, Memory, Store}
use Rattle.walked_rows.specs.Broken.{HasBroken}
use Rattle.bank_store.specs.{Failures.HasFailedToRead, believed.Seen.connection_of}
use Rattle.bank_replays.specs.{Comparing.DiffersAmong, Comparing.DiffersIn, Damaged.Stops, Visiting.VisitsSome}
use Rattle.bank_replays.specs.Visiting.{Why, refused_of}
use Rattle.bank_replays.specs.declared.fault.ReplayFault.TheVariants.{Bank as OfBank, Write}
use Rattle.bank_replays.specs.{NextRows.DifferFirst, NextRows.HaveRisingKeys, declared.fault.ReplayFault.ReplayFault}
use Rattle.bank_replays.specs.declared.difference.{Difference.Difference, Sides.Sides}

-- the bank as it was before, and the walk that it was lent to
module _ {S R X : Type 0} {g : Ghosts S} {key : X → ℤ} {item : R → X} {is_given : Option ℕ → X → Bool}
    {HasItems : Database → List X → Type 0} {name : GName} {old : Bank S g} {walk : Walk S R g}
    (begins : BeginsWalk g key item is_given HasItems None name old (Ok walk)) where
  there : (all : List X) → HasItems (database_of g old) all → HasItems (database_of g (lent walk)) all
  there all = subst (λ bank. HasItems (database_of g bank) all) (sym begins.same)

  -- at the end of the loan and after it
  module _ (Breaks : Rule → X → Type 0) {last new : Held S} (two : last ≡ new) where
    failed : HasFailedToRead g (connection_of (lent walk)) last → HasFailedToRead g (connection_of old) new
    failed it = subst (λ conn. HasFailedToRead g (connection_of old) conn) two
        (subst (λ bank. HasFailedToRead g (connection_of bank) last) begins.same it)

    why_of_all : (WasDown : Type 0) (coming : List X) (fault : ReplayFault)
        → Why Breaks (HasFailedToRead g (connection_of (lent walk)) last) ⊥ coming fault
        → Why Breaks (HasFailedToRead g (connection_of old) new) WasDown coming fault
    why_of_all WasDown coming Write why = tt
    why_of_all WasDown coming (OfBank Memory) why = tt
    why_of_all WasDown coming (OfBank Store) why = failed why
    why_of_all WasDown coming (OfBank Down) why = absurd why
    why_of_all WasDown coming (OfBank (Damaged rule)) why = why

    pub visits_of_all : (Visited : List R → Type 0) (Part : List R → Option R → ReplayFault → Type 0)
        (WasDown : Type 0) {Clean Later : Type 0} (most : ℕ) (r : Result ℕ ReplayFault)
        → VisitsSome item Visited Part (Why Breaks (HasFailedToRead g (connection_of (lent walk)) last) ⊥) Clean
        (HasItems (database_of g (lent walk))) (λ all. items_to_come key item is_given all walk) most r
        → (Later → Clean)
        → VisitsSome item Visited Part (Why Breaks (HasFailedToRead g (connection_of old) new) WasDown) Later
        (HasItems (database_of g old)) (λ all. all) most r
    visits_of_all Visited Part WasDown most (Ok count) it before = (
      it.0,
      it.1,
      it.2,
      λ late all has. it.3 (before late) all (there all has) ∙ ap (take most) (begins.all all has),
    )
    visits_of_all Visited Part WasDown most (Err fault) it before = (
      it.0,
      it.1,
      it.2,
      it.3,
      λ late all has.
          let more = it.4 (before late) all (there all has) in (
            more.0,
            more.1 ∙ begins.all all has,
            why_of_all WasDown (refused_of item it.1 ++ more.0) fault more.2,
          ),
    )

    -- so is what stopped a walk
    pub stops_of_all : (WasDown : Type 0) {Clean Later : Type 0} {A : Type 0} (r : Result A Fault)
        → (Clean → (all : List X) → HasItems (database_of g (lent walk)) all
        → IfErr r (Stops Breaks (HasFailedToRead g (connection_of (lent walk)) last) ⊥
        (items_to_come key item is_given all walk))) → (Later → Clean) → Later → (all : List X)
        → HasItems (database_of g old) all
        → IfErr r (Stops Breaks (HasFailedToRead g (connection_of old) new) WasDown all)
    stops_of_all WasDown (Ok x) stops before late all has = tt
    stops_of_all WasDown (Err Memory) stops before late all has = tt
    stops_of_all WasDown (Err Store) stops before late all has = failed (stops (before late) all (there all has))
    stops_of_all WasDown (Err Down) stops before late all has = absurd (stops (before late) all (there all has))
    stops_of_all WasDown (Err (Damaged rule)) stops before late all has =
        subst (λ xs. HasBroken (Breaks rule) xs) (begins.all all has) (stops (before late) all (there all has))

-- two banks, and the walks that they were lent to
module _ {S T R X : Type 0} {g : Ghosts S} {h : Ghosts T} {key : X → ℤ} {item : R → X}
    {is_given : Option ℕ → X → Bool} {HasItems : Database → List X → Type 0} {name name' : GName} {old : Bank S g}
    {other : Bank T h} {walk : Walk S R g} {due : Walk T R h}
    (begins : BeginsWalk g key item is_given HasItems None name old (Ok walk))
    (begins_due : BeginsWalk h key item is_given HasItems None name' other (Ok due)) where
  pub differs_of_all : (Says : Difference → Sides R → Type 0)
      → ((db : Database) (all : List X) → HasItems db all → HaveRisingKeys key all) → (d : Difference)
      → DiffersAmong key item Says (HasItems (database_of g (lent walk))) (HasItems (database_of h (lent due)))
      (λ all. items_to_come key item is_given all walk) (λ all. items_to_come key item is_given all due) d
      → DiffersIn key item Says HasItems (database_of g old) (database_of h other) d
  differs_of_all Says rise d it = record {
    sides = it.sides;
    says = it.says;
    are = λ all others has has_due.
        let stands : Option X = option_map item it.sides.stands in
        let ruled : Option X = option_map item it.sides.due in
        let come = begins.all all has in
        let come_due = begins_due.all others has_due in
        subst (λ (l : List X). DifferFirst key l others stands ruled) come
        (subst (λ (l : List X). DifferFirst key (items_to_come key item is_given all walk) l stands ruled) come_due
        (it.are all others (there begins all has) (there begins_due others has_due)
        (subst (HaveRisingKeys key) (sym come) (rise (database_of g old) all has))
        (subst (HaveRisingKeys key) (sym come_due) (rise (database_of h other) others has_due))));
  }
