-- In an empty file no statement that makes a bank is refused, but for the limit on steps.
use Rattle.std.proofs.Common.{◌≡◌, ◌&&◌, not, inl, inr, ℕ, zero, suc, ◌+◌, nat_lt, List, [], ◌∷◌, slice_get, length}
use Rattle.std.proofs.Common.{take, Bool, true, false, Some, is_ok, IsTrue, refl, ap, subst, ◌∙◌, arith}
use Rattle.std.specs.{Prelude.fold, List.list_any}
use Rattle.sql_meanings.proofs.Places.{all_first, all_weaker}
use Rattle.std.proofs.lemmas.Bool.{and_parts, cases_Bool}
use Rattle.sqlite.specs.{Schema.Schema, Table.Table, Does.lacks_sequence, Listing.understood, Effect.Database}
use Rattle.sqlite.specs.{State.State, declared.error.Error.Error}
use Rattle.sqlite.specs.Change.{automatics, created, is_used, next_tree}
use Rattle.sqlite_schema.specs.declared.schema.Index.{Index}
use Rattle.sqlite_rules.specs.Lists.{Has}
use Rattle.sqlite_tied.specs.Compute.{everything}
use Rattle.sql_meanings.specs.Making.{CreatesOnly, NotMade, counts_rows}
use Rattle.sql_meanings.specs.StatementAnswers.{IsInterrupted, has_unique}
use Rattle.store_rows.specs.believed.BankTables as bank
use Rattle.store_rows.specs.Creation.{AreGrown, IsEmpty, RefusedIn, all_texts, with_first}
use Rattle.store_rows.proofs.{CreateTexts.each_creates, MadeSoFar.grows_alone}

abbrev nothing : Schema
nothing = record { tables = []; indexes = []; views = [] }

-- the schema takes the table: the text is understood, the names are free, there is room, and nothing waits to
-- count its rows
abbrev takes : Schema → List ℕ × Table → Bool
takes schema it =
    is_ok (understood schema it.0) && (not (is_used schema it.1.name)
    && (not (list_any (λ (i : Index). is_used schema i.name) (automatics it.1 0 0 it.1.uniques))
    && (nat_lt (next_tree schema + length it.1.uniques) 65536 && not (lacks_sequence (created schema it.1)))))

-- one after another
takes_all : Schema → List (List ℕ × Table) → Bool
takes_all schema [] = true
takes_all schema (it ∷ its) = takes schema it && takes_all (created schema it.1) its

all_taken : takes_all nothing all_texts ≡ true
unfolding takes_all understood everything
all_taken = refl

taken_at : (schema : Schema) (its : List (List ℕ × Table)) → takes_all schema its ≡ true
    → (n : ℕ) (it : List ℕ × Table) → slice_get its n ≡ Some it
    → takes (fold (λ s x. created s x.1) schema (take n its)) it ≡ true
unfolding takes_all
taken_at schema [] all n it is = absurd cc
taken_at schema (x ∷ its) all zero it is =
    let both = and_parts (takes schema x) (takes_all (created schema x.1) its) all in
    let same : x ≡ it = cc in subst (λ y. takes schema y ≡ true) same both.0
taken_at schema (x ∷ its) all (suc n) it is =
    let both = and_parts (takes schema x) (takes_all (created schema x.1) its) all in taken_at
    (created schema x.1) its both.1 n it is

none_passes : {A : Type 0} (p : A → Bool) (xs : List A) (x : A) → list_any p xs ≡ false → Has xs x
    → p x ≡ true → ⊥
none_passes p [] x none h passed = h
none_passes p (y ∷ xs) x none h passed = elim (cases_Bool (p y)) [
  | inl first ↦ let bad = rw first at none in cc
  | inr not_first ↦ elim h [
    | inl is ↦ (let bad = ap p is in cc)
    | inr later ↦ none_passes p xs x (rw not_first at none) later passed
  ]
]

on_not : (b : Bool) → not b ≡ true → b ≡ false
on_not true h = absurd cc
on_not false h = refl

-- a table that the schema takes isn't refused
not_refused : (schema : Schema) (it : List ℕ × Table) → takes schema it ≡ true → (e : Error)
    → NotMade schema it.0 it.1 e → ⊥
not_refused schema it taken e refused =
    let known = and_parts (is_ok (understood schema it.0)) _ taken in
    let free = and_parts (not (is_used schema it.1.name)) _ known.1 in
    let indexes = and_parts (not
    (list_any (λ (i : Index). is_used schema i.name) (automatics it.1 0 0 it.1.uniques))) _ free.1 in
    let room = and_parts (nat_lt (next_tree schema + length it.1.uniques) 65536) _ indexes.1 in
    go known.0 (on_not _ free.0) (on_not _ indexes.0) room.0 (on_not _ room.1) refused
  where
    go : is_ok (understood schema it.0) ≡ true → is_used schema it.1.name ≡ false
        → list_any (λ (i : Index). is_used schema i.name) (automatics it.1 0 0 it.1.uniques) ≡ false
        → nat_lt (next_tree schema + length it.1.uniques) 65536 ≡ true
        → lacks_sequence (created schema it.1) ≡ false
        → NotMade schema it.0 it.1 e → ⊥
    go known free indexes room counted (inl (fault, is, tells)) = let bad = ap is_ok is in cc
    go known free indexes room counted (inr (inl (inl (tells, inl used)))) = cc
    go known free indexes room counted (inr (inl (inl (tells, inr (i, has, used))))) =
        none_passes (λ (i : Index). is_used schema i.name) (automatics it.1 0 0 it.1.uniques) i indexes has
        used
    go known free indexes room counted (inr (inl (inr (tells, full)))) = grind arith
    go known free indexes room counted (inr (inr rest)) = let bad = rest.0 in cc

-- none of the tables is refused
each_taken : (made : ℕ) (next : List ℕ × Table) → slice_get all_texts made ≡ Some next → (e : Error)
    → NotMade (with_first all_texts made nothing) next.0 next.1 e → ⊥
each_taken made next is e refused = not_refused (with_first all_texts made nothing) next
    (taken_at nothing all_texts all_taken made next is) e refused

-- a new bank's meta has no UNIQUE
no_unique : has_unique (with_first all_texts (length all_texts) nothing) bank.meta ≡ false
unfolding understood everything
no_unique = refl

-- the schema of an empty file, and what grows of it
from_nothing : (old : Database) (now : Schema) (n : ℕ) → IsEmpty old
    → AreGrown (take n all_texts) old.schema now → now ≡ with_first all_texts n nothing
from_nothing old now n empty grown =
    let uncounted = all_first (λ (it : List ℕ × Table). it.1.is_counted ≡ false) all_texts n
    (all_weaker (λ (it : List ℕ × Table). CreatesOnly it.0 it.1 × (it.1.is_counted ≡ false))
    (λ it. it.1.is_counted ≡ false) (λ it both. both.1) all_texts each_creates) in
    grows_alone (take n all_texts) uncounted old.schema now grown (ap counts_rows empty)
    ∙ ap (with_first all_texts n) empty

-- what may be refused in an empty file: the first row, by the limit on steps
pub refused_on_nothing : (old : State) (db : Database) (e : Error) → IsEmpty old.now → RefusedIn old db e
    → IsInterrupted old e
refused_on_nothing old db e empty (inl (one, keeps)) =
    absurd (each_taken one.made one.next one.is_next e
    (subst (λ s. NotMade s one.next.0 one.next.1 e) (from_nothing old.now db.schema one.made empty one.grown)
    one.refused))
refused_on_nothing old db e empty (inr (inl limit, made)) = limit
refused_on_nothing old db e empty (inr (inr (unique, none), made)) =
    absurd (let bad = subst (λ s. IsTrue (has_unique s bank.meta))
    (made.alone (ap counts_rows empty) ∙ ap (with_first all_texts (length all_texts)) empty) none.0 in
    let good = no_unique in cc)
