-- What a step of a walk gives, of what was read ahead.
use Rattle.std.proofs.Common.{◌≡◌, ◌≤◌, ◌≤ℤ◌, ◌+ℤ◌, ◌+◌, pos, subst, ℕ, ℤ, zero, suc, List, [], ◌∷◌, ◌++◌, map, drop}
use Rattle.std.proofs.Common.{length, slice_get, Some, None, Option, Result, Ok, Err, sym, ap, ◌∙◌, arith}
use Rattle.std.proofs.lemmas.List.{drop_all}
use Rattle.std.specs.Prelude.{◌≢◌}
use Rattle.posting_rules.specs.declared.fault.{Fault.Fault, Rule.Rule}
use Rattle.posting_rules.specs.declared.fault.Fault.TheVariants as fault
use Rattle.sqlite.specs.declared.error.Error.{Error}
use Rattle.store_rows.specs.declared.fault.TableFault.{TableFault, TheVariants.Sqlite, TheVariants.Damaged}
use Rattle.walked_rows.specs.{StepOutcomes.BreaksFirst, Rising.RisesFrom, Rows.items_after, Rows.items_from}
use Rattle.walked_rows.proofs.Rises.{from_lower}
use Rattle.bank_store.specs.{Walks.TellsFault, declared.walks.Stage.Stage}
use Rattle.bank_store.specs.Walking.{IsToldFault, Steps, coming}
use Rattle.bank_store.specs.declared.walks.Stage.TheVariants.{Going, Ended, Failed}

-- what is told of a fault is the walk's fault
pub told_of : {X : Type 0} (Because : Error → Type 0) (Breaks : Rule → X → Type 0) (items : List X) (f : TableFault)
    (fault : Fault) → TellsFault f fault
    → BreaksFirst Because Breaks items f → IsToldFault Because Breaks items fault
told_of Because Breaks items (Sqlite e) fault tells broke = rw tells (e, broke)
told_of Because Breaks items (Damaged broken) fault tells broke = rw tells broke

-- and is of this walk, and not of memory
pub told_of_this : (f : TableFault) (told : Fault) → TellsFault f told
    → (told ≢ fault.Down) × (told ≢ fault.Memory)
told_of_this (Sqlite e) told tells =
    ((λ down. let both = sym tells ∙ down in cc), (λ memory. let both = sym tells ∙ memory in cc))
told_of_this (Damaged broken) told tells =
    ((λ down. let both = sym tells ∙ down in cc), (λ memory. let both = sym tells ∙ memory in cc))

-- the fault that is told is a step's
pub faulty_step : {R X : Type 0} (item : R → X) (Because : Error → Type 0) (Breaks : Rule → X → Type 0)
    (old new : List X) (f : Fault) → IsToldFault Because Breaks old f → Steps item Breaks old new (Err f)
faulty_step item Because Breaks old new (fault.Damaged broken) is = is
faulty_step item Because Breaks old new fault.Store is = tt
faulty_step item Because Breaks old new fault.Down is = absurd is
faulty_step item Because Breaks old new fault.Memory is = is

-- where the store is told of, it failed
pub store_told : {X : Type 0} (Because : Error → Type 0) (Breaks : Rule → X → Type 0) (items : List X) (f : Fault)
    → IsToldFault Because Breaks items f → f ≡ fault.Store → (e : Error) × Because e
store_told Because Breaks items f is same = subst (IsToldFault Because Breaks items) same is

-- a walk on its way has not ended, nor failed
pub not_ended : (stage : Stage) → stage ≡ Going → stage ≡ Ended → ⊥
not_ended stage going ended = let it = sym going ∙ ended in cc

pub not_failed : (stage : Stage) → stage ≡ Going → stage ≡ Failed → ⊥
not_failed stage going failed = let it = sym going ∙ failed in cc

-- one that has failed has not ended
pub failed_not_ended : (stage : Stage) → stage ≡ Failed → stage ≡ Ended → ⊥
failed_not_ended stage failed ended = let it = sym failed ∙ ended in cc

-- a value is no fault, and what is given is not nothing
pub ok_no_err : {A : Type 0} (a : A) (f : Fault) → Ok a ≡ Err f → ⊥
ok_no_err a f is = cc

pub some_not_none : {A : Type 0} (a : A) (r : Result (Option A) Fault) → r ≡ Ok (Some a) → r ≡ Ok None → ⊥
some_not_none a r some none = let it = sym some ∙ none in cc

pub err_not_ok : {A : Type 0} (r : Result A Fault) (f : Fault) (a : A) → r ≡ Err f → r ≡ Ok a → ⊥
err_not_ok r f a fault is = let it = sym fault ∙ is in cc

pub same_fault : {A : Type 0} (r : Result A Fault) (f other : Fault) → r ≡ Err f → r ≡ Err other → f ≡ other
same_fault r f other is that = let it = sym is ∙ that in cc

-- after the last row none is to come
pub none_after_end : {X : Type 0} (stage : Stage) → stage ≡ Ended → (items : List X) → coming stage items ≡ []
none_after_end stage is items = ap (λ s. coming s items) is

next_of : {X : Type 0} (n : ℕ) (xs : List X) (x : X) → slice_get xs n ≡ Some x
    → drop n xs ≡ x ∷ drop (suc n) xs
next_of n [] x is = absurd (cc)
next_of zero (y ∷ ys) x is = ap (λ z. z ∷ ys) (let it = is in cc)
next_of (suc n) (y ∷ ys) x is = next_of n ys x is

none_of : {X : Type 0} (n : ℕ) (xs : List X) → slice_get xs n ≡ None → length xs ≤ n
none_of n [] is = omega arith
none_of zero (y ∷ ys) is = absurd (cc)
none_of (suc n) (y ∷ ys) is = let it = none_of n ys is in omega arith

module _ {R X : Type 0} (key : X → ℤ) (entry : R → X) (stage : Stage) (going : stage ≡ Going) where
  -- where nothing that was read is left, those to come are those after
  pub only_rest : (rs : List R) (given : ℕ) (rest : List X) → length rs ≤ given
      → coming stage (map entry (drop given rs) ++ rest) ≡ rest
  only_rest rs given rest low =
      ap (λ s. coming s (map entry (drop given rs) ++ rest)) going
      ∙ ap (λ l. map entry l ++ rest) (drop_all given rs low)

  -- the next of those that were read ahead is the first to come
  pub gives_next : (rs : List R) (given : ℕ) (rest : List X) (r : R) → slice_get rs given ≡ Some r
      → coming stage (map entry (drop given rs) ++ rest)
      ≡ entry r ∷ coming stage (map entry (drop (given + 1) rs) ++ rest)
  gives_next rs given rest r is =
      let more : suc given ≡ given + 1 = omega arith in
      ap (λ s. coming s (map entry (drop given rs) ++ rest)) going
      ∙ ap (λ l. map entry l ++ rest) (next_of given rs r is)
      ∙ ap (λ n. entry r ∷ (map entry (drop n rs) ++ rest)) more
      ∙ ap (λ s. entry r ∷ coming s (map entry (drop (given + 1) rs) ++ rest)) (sym going)

  -- the rows that were read in their place are those to come
  pub refilled : (rs : List R) (given : ℕ) (rest : Option ℤ) (from : ℤ) (all : List X) → length rs ≤ given
      → rest ≡ Some from
      → (read : List R) (beyond : Option ℤ)
      → items_from key from all ≡ map entry read ++ items_after key beyond all
      → coming stage (map entry read ++ items_after key beyond all)
      ≡ coming stage (map entry (drop given rs) ++ items_after key rest all)
  refilled rs given rest from all low is read beyond answers =
      ap (λ s. coming s (map entry read ++ items_after key beyond all)) going ∙ sym answers
      ∙ sym (ap (λ o. items_after key o all) is)
      ∙ sym (only_rest rs given (items_after key rest all) low)

  -- those from a number on are to come
  pub from_rest : (rs : List R) (given : ℕ) (rest : Option ℤ) (from : ℤ) (all : List X) → length rs ≤ given
      → rest ≡ Some from
      → items_from key from all ≡ coming stage (map entry (drop given rs) ++ items_after key rest all)
  from_rest rs given rest from all low is =
      sym (ap (λ o. items_after key o all) is) ∙ sym (only_rest rs given (items_after key rest all) low)

  -- none is to come
  pub none_to_come : (rs : List R) (given : ℕ) (rest : Option ℤ) (all : List X) → slice_get rs given ≡ None
      → (length rs ≤ given → rest ≡ None)
      → coming stage (map entry (drop given rs) ++ items_after key rest all) ≡ []
  none_to_come rs given rest all is left =
      let low = none_of given rs is in
      only_rest rs given (items_after key rest all) low ∙ ap (λ o. items_after key o all) (left low)

-- those from the number on where all was given that was read
pub rises_on : {R : Type 0} (key : R → ℤ) (k from : ℤ) (rs : List R) (given : ℕ) (rest : Option ℤ)
    → length rs ≤ given → rest ≡ Some from
    → RisesFrom k (map key (drop given rs)) rest → (read : List R) (beyond : Option ℤ)
    → RisesFrom from (map key read) beyond
    → RisesFrom k (map key read) beyond
rises_on key k from rs given rest low is before read beyond after =
    let below : k ≤ℤ from =
    subst (RisesFrom k []) is (subst (λ l. RisesFrom k (map key l) rest) (drop_all given rs low) before) in
    from_lower key k from read beyond below after

-- the next of those that were read ahead
pub rises_next : {R : Type 0} (key : R → ℤ) (k : ℤ) (rs : List R) (given : ℕ) (rest : Option ℤ) (r : R)
    → slice_get rs given ≡ Some r
    → RisesFrom k (map key (drop given rs)) rest
    → (k ≤ℤ key r) × RisesFrom (key r +ℤ pos 1) (map key (drop (given + 1) rs)) rest
rises_next key k rs given rest r is before =
    let more : suc given ≡ given + 1 = omega arith in
    let both : RisesFrom k (map key (r ∷ drop (suc given) rs)) rest =
    subst (λ l. RisesFrom k (map key l) rest) (next_of given rs r is) before in
    (both.0, subst (λ n. RisesFrom (key r +ℤ pos 1) (map key (drop n rs)) rest) more both.1)
