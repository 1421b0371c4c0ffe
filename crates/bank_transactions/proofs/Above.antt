-- No row is beyond a number where none was found beyond it.
use Rattle.std.proofs.Common.{◌≡◌, ℕ, ℤ, pos, false, List, [], ◌∷◌, None, arith, inl, inr, int_cmp, refl}
use Rattle.std.specs.Prelude.{◌≤ℤ◌}
use Rattle.std.specs.Ordering.{is_gt}
use Rattle.std.specs.List.{AllByRecursion, find}
use Rattle.std.proofs.lemmas.Int.{ints}
use Rattle.posting_rules.proofs.Keyed.{by_test}
use Rattle.sql_meanings.specs.{Entries.is_above, believed.Entries.Entry}
use Rattle.store_rows.specs.{Beyond.beyond, believed.Rules.StoredRows, declared.beyond.Numbered.Numbered}
use Rattle.store_rows.specs.declared.beyond.Numbered.TheVariants.{Postings, References, Requests}
use Rattle.bank_transactions.specs.believed.Stray.{NoneBeyond}

not_above : (z : ℤ) (d : ℕ) → is_gt (int_cmp z (pos d)) ≡ false → z ≤ℤ pos d
not_above z d is = grind (arith, ints)

within : (z : ℤ) (d : ℕ) → z ≤ℤ pos d → is_gt (int_cmp z (pos d)) ≡ false
within z d is = grind (arith, ints)

pub none_found : (d : ℕ) (es : List Entry) → find (is_above (pos d)) es ≡ None
    → AllByRecursion (λ e. e.key ≤ℤ pos d) es
none_found d [] none = tt
none_found d (e ∷ es) none = elim (by_test (is_above (pos d) e)) [
  | inl t ↦ absurd (let h = rw t at none in cc)
  | inr f ↦ (not_above e.key d f, none_found d es (rw f at none))
]

pub none_to_find : (d : ℕ) (es : List Entry) → AllByRecursion (λ e. e.key ≤ℤ pos d) es
    → find (is_above (pos d)) es ≡ None
none_to_find d [] all = refl
none_to_find d (e ∷ es) all = rw (within e.key d all.0) (none_to_find d es all.1)

-- of each of the three tables
pub none_of : (decided : ℕ) (rows : StoredRows) → NoneBeyond decided rows → (table : Numbered)
    → beyond table decided rows ≡ None
none_of decided rows none Requests = none_to_find decided rows.requests none.0
none_of decided rows none Postings = none_to_find decided rows.history none.1
none_of decided rows none References = none_to_find decided rows.references none.2
