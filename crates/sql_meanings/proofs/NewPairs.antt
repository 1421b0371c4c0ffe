-- Rows that are put in where two columns after the key are UNIQUE together: no row had their numbers there.
use Rattle.sql_meanings.specs.Names.{ℤ, List, [], find, is_some, Bool, true, false, Some, None, Option, cond}
use Rattle.sql_meanings.specs.Names.{AllByRecursion, Has, is_eq, match_ordering}
use Rattle.sql_meanings.proofs.Names.{inl, inr, refl, sym, ap, ◌∙◌, Less, Equal, Greater, Ordering, int_cmp}
use Rattle.sql_meanings.specs.believed.Entries.{Entry, has_key, has_two}
use Rattle.sql_meanings.specs.{Entries.put, SeveralRows.meets_key, SeveralRows.put_each}
use Rattle.sql_meanings.proofs.{Changes.found_passes, EntryLists.flip, TwoColumns.Clear, TwoColumns.not_both}
use Rattle.std.specs.Prelude.{◌≡◌, ◌⊎◌, ◌∷◌}
pub use Rattle.sql_meanings.proofs.Names.{or_parts as neither}

-- ---- what is found

pub found_has : (p : Entry → Bool) (es : List Entry) (e : Entry) → find p es ≡ Some e → Has es e
found_has p [] e h = absurd cc
found_has p (x ∷ es) e h = go (p x) h (found_has p es e)
  where
    go : (b : Bool) → cond b (Some x) (find p es) ≡ Some e → (find p es ≡ Some e → Has es e) → Has (x ∷ es) e
    go true found more = let same : x ≡ e = cc in inl (sym same)
    go false found more = inr (more found)

-- where none is found, none of them passes
pub none_passes : (p : Entry → Bool) (es : List Entry) (e : Entry) → is_some (find p es) ≡ false → Has es e
    → p e ≡ false
none_passes p [] e h has = absurd has
none_passes p (x ∷ es) e h has = go (p x) refl h has (none_passes p es e)
  where
    go : (b : Bool) → p x ≡ b → is_some (cond b (Some x) (find p es)) ≡ false → (e ≡ x) ⊎ Has es e
        → (is_some (find p es) ≡ false → Has es e → p e ≡ false) → p e ≡ false
    go true is none has more = absurd cc
    go false is none (inl same) more = ap p same ∙ is
    go false is none (inr has) more = more none has

-- ---- what is put in

has_new : (new : Entry) (es : List Entry) → Has (put new es) new
has_new new [] = inl refl
has_new new (e ∷ es) = go (int_cmp e.key new.key) (has_new new es)
  where
    go : (o : Ordering) → Has (put new es) new
        → Has (match_ordering o (e ∷ put new es) (new ∷ es) (new ∷ e ∷ es)) new
    go Less more = inr more
    go Equal more = inl refl
    go Greater more = inl refl

-- where its key is free the others stay
has_put : (new x : Entry) (es : List Entry) → is_some (find (has_key new.key) es) ≡ false → Has es x
    → Has (put new es) x
has_put new x [] free has = absurd has
has_put new x (e ∷ es) free has = go (int_cmp e.key new.key) free has (has_put new x es)
  where
    go : (o : Ordering) → is_some (cond (is_eq o) (Some e) (find (has_key new.key) es)) ≡ false
        → (x ≡ e) ⊎ Has es x
        → (is_some (find (has_key new.key) es) ≡ false → Has es x → Has (put new es) x)
        → Has (match_ordering o (e ∷ put new es) (new ∷ es) (new ∷ e ∷ es)) x
    go Less free (inl same) more = inl same
    go Less free (inr has) more = inr (more free has)
    go Equal free has more = absurd cc
    go Greater free has more = inr has

-- and so they do where more are put in
pub has_each : (news es : List Entry) (x : Entry) → meets_key news es ≡ false → Has es x → Has (put_each news es) x
has_each [] es x free has = has
has_each (r ∷ news) es x free has =
    let both = neither (is_some (find (has_key r.key) es)) (meets_key news (put r es)) free in
    has_each news (put r es) x both.1 (has_put r x es both.0 has)

-- ---- two numbers of two rows

never_both : (all : List Entry) (one two : ℤ) (e x : Entry) → Clear all → Has all e → Has all x
    → has_key x.key e ≡ false → has_two one two e ≡ true → has_two one two x ≡ true → ⊥
never_both all one two e x clear he hx apart p q = go (int_cmp e.key x.key) refl apart
  where
    go : (o : Ordering) → int_cmp e.key x.key ≡ o → is_eq o ≡ false → ⊥
    go Less is apart = not_both all one two e x clear he hx is p q
    go Equal is apart = absurd cc
    go Greater is apart = not_both all one two x e clear hx he (flip e.key x.key is) q p

-- rows are put in after others: none of the first ones had the numbers of one that is put in
pub none_had : (first news es : List Entry) → ((x : Entry) → Has first x → Has es x) → meets_key news es ≡ false
    → Clear (put_each news es)
    → AllByRecursion (λ r. (one two : ℤ) → has_two one two r ≡ true → find (has_two one two) first ≡ None) news
none_had first [] es within free clear = tt
none_had first (r ∷ news) es within free clear = (
  λ one two is. go one two is (find (has_two one two) first) refl,
  none_had first news (put r es) (λ x has. has_put r x es both.0 (within x has)) both.1 clear,
)
  where
    both : (is_some (find (has_key r.key) es) ≡ false) × (meets_key news (put r es) ≡ false)
    both = neither (is_some (find (has_key r.key) es)) (meets_key news (put r es)) free

    go : (one two : ℤ) → has_two one two r ≡ true → (o : Option Entry) → find (has_two one two) first ≡ o
        → o ≡ None
    go one two is None found = refl
    go one two is (Some e) found =
        let has = within e (found_has (has_two one two) first e found) in
        absurd (never_both (put_each (r ∷ news) es) one two e r clear (has_each (r ∷ news) es e free has)
        (has_each news (put r es) r both.1 (has_new r es))
        (none_passes (has_key r.key) es e both.0 has) (found_passes (has_two one two) first e found) is)
