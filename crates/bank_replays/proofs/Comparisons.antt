-- Comparisons, one after another.
use Rattle.std.proofs.Common.{◌≡◌, ◌++◌, List, [], ◌∷◌, Option, Some, None, Ok, Err, Result, refl, sym, ap, subst, ◌∙◌, inl, inr}
use Rattle.sqlite.specs.Effect.{Database}
use Rattle.sqlite_trees.specs.declared.store.Store.{Ghosts}
use Rattle.posting_rules.specs.declared.fault.{Fault.Fault, Rule.Rule}
use Rattle.bank_store.specs.{Walking.Steps, believed.Seen.database_of, declared.bank.Bank.Bank}
use Rattle.bank_replays.specs.{Comparing.Both, Comparing.Compares, Comparing.Either}
use Rattle.bank_replays.specs.declared.difference.Difference.{Difference}
use Rattle.bank_replays.specs.Damaged.{TellsWhy}
use Rattle.bank_replays.proofs.{FirstDifference.row_after, Read.clean_before, Read.none_read, Read.read_then, Whys.why_then}

-- nothing was read
pub compared_none : {S T : Type 0} {g : Ghosts S} {h : Ghosts T} {Same : Database → Database → Type 0}
    {Differ : Database → Database → Difference → Type 0} {old new : Bank S g} {due due' : Bank T h}
    {r : Result (Option Difference) Fault} (fault : Fault) → r ≡ Err fault → new ≡ old → due' ≡ due
    → TellsWhy {X = Option Difference} g (λ f. f) old old (Err fault) → Compares g h old new due due' Same Differ r
compared_none {old = old} {due = due} fault is left left_due why = rw (is, left, left_due) (record {
  bank = none_read old (Err fault);
  due = none_read due (Err fault);
  same = λ clean clean_due none. absurd cc;
  differs = λ clean clean_due d some. absurd cc;
  why = why;
})

module _ {S T : Type 0} {g : Ghosts S} {h : Ghosts T} {One Other : Database → Database → Type 0}
    {First Second : Database → Database → Difference → Type 0} where
  -- a fault, or a difference, in the first ends it
  pub compared_first : {old new : Bank S g} {due due' : Bank T h} {r : Result (Option Difference) Fault}
      → Compares g h old new due due' One First r → (r ≡ Ok None → ⊥)
      → Compares g h old new due due' (Both One Other) (Either One First Second) r
  compared_first it ended = record {
    bank = it.bank;
    due = it.due;
    same = λ clean clean_due is. absurd (ended is);
    differs = λ clean clean_due d is. inl (it.differs clean clean_due d is);
    why = it.why;
  }

  -- no difference in the first
  pub compared_both : {old mid new : Bank S g} {due due' due'' : Bank T h} {r : Result (Option Difference) Fault}
      → Compares g h old mid due due' One First (Ok None) → Compares g h mid new due' due'' Other Second r
      → Compares g h old new due due'' (Both One Other) (Either One First Second) r
  compared_both {old} {mid} {new} {due} {due'} {due''} {r} one two = record {
    bank = read_then one.bank two.bank;
    due = read_then one.due two.due;
    same = λ clean clean_due is.
        let before = clean_before two.bank clean in
        let before_due = clean_before two.due clean_due in (
          one.same before before_due refl,
          subst (λ (d : Database). Other d (database_of h due)) (one.bank.still before).0
              (subst (λ (d : Database). Other (database_of g mid) d) (one.due.still before_due).0
              (two.same clean clean_due is)),
        );
    differs = λ clean clean_due d is.
        let before = clean_before two.bank clean in
        let before_due = clean_before two.due clean_due in
        inr (
          one.same before before_due refl,
          subst (λ (db : Database). Second db (database_of h due) d) (one.bank.still before).0
              (subst (λ (db : Database). Second (database_of g mid) db d) (one.due.still before_due).0
              (two.differs clean clean_due d is)),
        );
    why = why_then one.bank two.bank two.why;
  }

  -- what is told in one way is told in another
  pub compared_as : {old new : Bank S g} {due due' : Bank T h} {r : Result (Option Difference) Fault}
      → ((db other : Database) → One db other → Other db other)
      → ((db other : Database) (d : Difference) → First db other d → Second db other d)
      → Compares g h old new due due' One First r → Compares g h old new due due' Other Second r
  compared_as then so it = record {
    bank = it.bank;
    due = it.due;
    same = λ clean clean_due is. then _ _ (it.same clean clean_due is);
    differs = λ clean clean_due d is. so _ _ d (it.differs clean clean_due d is);
    why = it.why;
  }

-- ---- a step of two walks

-- one row more of a walk was given
pub along_more : {R X : Type 0} (item : R → X) (Breaks : Rule → X → Type 0) (old new start given : List X)
    (next : Option R) → Steps item Breaks old new (Ok next) → given ++ old ≡ start → (a : R) → next ≡ Some a
    → (more : List X) × (more ++ new ≡ start)
along_more item Breaks old new start given next step are a is =
    let first : old ≡ item a ∷ new = subst (λ o. Steps item Breaks old new (Ok o)) is step in
    (given ++ item a ∷ [], row_after given (item a) new ∙ ap (λ l. given ++ l) (sym first) ∙ are)

module _ {R X : Type 0} (item : R → X) (Breaks : Rule → X → Type 0) (old new old' new' : List X)
    (stands due : Option R) (one : Steps item Breaks old new (Ok stands))
    (two : Steps item Breaks old' new' (Ok due)) where
  -- both gave the same row
  pub same_step : (a b : R) → stands ≡ Some a → due ≡ Some b → item a ≡ item b
      → (old ≡ item a ∷ new) × (old' ≡ item a ∷ new')
  same_step a b is is' same =
      let first : old ≡ item a ∷ new = subst (λ o. Steps item Breaks old new (Ok o)) is one in
      let second : old' ≡ item b ∷ new' = subst (λ o. Steps item Breaks old' new' (Ok o)) is' two in
      (first, second ∙ ap (λ x. x ∷ new') (sym same))

  -- both have ended
  pub same_end : stands ≡ None → due ≡ None → old ≡ old'
  same_end is is' =
      let first : (old ≡ []) × (new ≡ []) = subst (λ o. Steps item Breaks old new (Ok o)) is one in
      let second : (old' ≡ []) × (new' ≡ []) = subst (λ o. Steps item Breaks old' new' (Ok o)) is' two in
      first.0 ∙ sym second.0

-- ---- answers

pub not_none : {X E : Type 0} (r : Result (Option X) E) (e : E) → r ≡ Err e → r ≡ Ok None → ⊥
not_none r e is none = cc

pub some_not_none : {X E : Type 0} (x : X) (r : Result (Option X) E) → r ≡ Ok (Some x) → r ≡ Ok None → ⊥
some_not_none x r is none = cc

pub ok_not_err : {X E : Type 0} (x : X) (r : Result X E) (e : E) → r ≡ Ok x → r ≡ Err e → ⊥
ok_not_err x r e is error = cc

pub one_difference : {E : Type 0} (d e : Difference)
    → (let r : Result (Option Difference) E = Ok (Some d) in r) ≡ Ok (Some e) → d ≡ e
one_difference d e is = cc
