-- The rows under a key, as rows are put in and taken out.
use Rattle.sql_meanings.specs.Names.{ℤ, List, [], filter, cond, Bool, true, false, not, is_eq, Row, Value}
use Rattle.sql_meanings.specs.Names.{Int, Null, Text, put_row, without_rowid, match_ordering, is_taken}
use Rattle.sql_meanings.proofs.Names.{refl, sym, ap, ◌∙◌, Less, Equal, Greater, Ordering, cases_Bool}
use Rattle.sql_meanings.proofs.Names.{inl, inr, and_parts, tied_itself, value_cmp-Int}
use Rattle.std.proofs.Common.{true≢false}
use Rattle.std.proofs.lemmas.Bool.Decides.{Decides-int_eq}
use Rattle.std.specs.Float.{minus_two_to}
use Rattle.std.specs.Ordering.{is_lt}
use Rattle.sqlite.specs.{Tree.has_rowid, Cast.cast}
use Rattle.sqlite_rules.specs.{Lists.Has, Cast.as_integer}
use Rattle.sqlite_rules.proofs.{ListLemmas.has_kept, ListLemmas.some_from, TableLemmas.has_put}
use Rattle.sqlite_schema.specs.declared.schema.Kind.TheVariants.{Integer}
use Rattle.sqlite_sql.specs.declared.ops.UnaryOp.TheVariants.{ToInt}
use Rattle.sqlite_sql.specs.Ops.{unary}
use Rattle.sqlite_trees.specs.Tree.{rowid}
use Rattle.sqlite_value.proofs.OrderLemmas.{value_cmp_total}
use Rattle.sqlite_value.specs.Order.{value_cmp}
use Rattle.sqlite_value.specs.declared.value.Value.TheVariants.{Real, Blob}
use Rattle.sql_meanings.proofs.EntryLists.{cast_int}
use Rattle.std.specs.Prelude.{◌≡◌, ◌≢◌, ◌∷◌, ◌&&◌}

equal_from : (o : Ordering) → is_eq o ≡ true → o ≡ Equal
equal_from Less h = absurd (cc)
equal_from Equal h = refl
equal_from Greater h = absurd (cc)

-- what is tied with a value is under the key that the value is under
pub under_alike : (a b : Value) (k : ℤ) → is_eq (value_cmp a b) ≡ true
    → is_eq (value_cmp a (Int k)) ≡ is_eq (value_cmp b (Int k))
under_alike a b k same = ap is_eq (value_cmp_total.congr a b (Int k) (equal_from (value_cmp a b) same))

-- no value is under two keys
pub one_key : (v : Value) (j k : ℤ) → is_eq (value_cmp v (Int j)) ≡ true → is_eq (value_cmp v (Int k)) ≡ true
    → j ≡ k
one_key v j k one two =
    (Decides-int_eq j k).0 (ap is_eq (sym (value_cmp-Int j k)) ∙ sym (under_alike v (Int j) k one) ∙ two)

-- what a column of whole numbers makes of a value under a key is under it
whole_alike : (v : Value) → is_eq (value_cmp (as_integer v) v) ≡ true
whole_alike v = go (is_eq (value_cmp (unary ToInt v) v) && is_lt (value_cmp (Real (minus_two_to 63)) v)) refl
  where
    go : (b : Bool) → (is_eq (value_cmp (unary ToInt v) v) && is_lt (value_cmp (Real (minus_two_to 63)) v)) ≡ b
        → is_eq (value_cmp (cond b (unary ToInt v) v) v) ≡ true
    go true is = (and_parts _ _ is).0
    go false is = ap is_eq (tied_itself value_cmp_total v)

pub cast_under : (v : Value) (k : ℤ) → is_eq (value_cmp v (Int k)) ≡ true
    → is_eq (value_cmp (cast Integer v) (Int k)) ≡ true
unfolding value_cmp
cast_under Null k h = absurd (true≢false (sym h))
cast_under (Int n) k h = ap (λ w. is_eq (value_cmp w (Int k))) (cast_int n) ∙ h
cast_under (Real x) k h = under_alike (as_integer (Real x)) (Real x) k (whole_alike (Real x)) ∙ h
cast_under (Text t) k h = absurd (true≢false (sym h))
cast_under (Blob b) k h = absurd (true≢false (sym h))

-- ---- another key

apart : (r : Row) (j k : ℤ) → j ≢ k → has_rowid k r ≡ true → has_rowid j r ≡ false
apart r j k other here = elim (cases_Bool (has_rowid j r)) [
  | inl both ↦ absurd (other (one_key (rowid r) j k both here))
  | inr away ↦ away
]

-- a row that is taken out leaves those under other keys
pub others_left : (j k : ℤ) (rows : List Row) → j ≢ k
    → filter (has_rowid j) (without_rowid k rows) ≡ filter (has_rowid j) rows
others_left j k [] other = refl
others_left j k (r ∷ rows) other = elim (cases_Bool (has_rowid k r)) [
  | inl here ↦ rw (here, apart r j k other here) (others_left j k rows other)
  | inr away ↦ rw away (ap (λ l. cond (has_rowid j r) (r ∷ l) l) (others_left j k rows other))
]

-- so does one that is put in under its key
pub others_put : (j k : ℤ) (new : Row) (rows : List Row) → j ≢ k → has_rowid k new ≡ true
    → filter (has_rowid j) (put_row new rows) ≡ filter (has_rowid j) rows
others_put j k new [] other here = rw (apart new j k other here) refl
others_put j k new (r ∷ rows) other here =
    go (value_cmp (rowid r) (rowid new)) refl (others_put j k new rows other here)
  where
    go : (o : Ordering) → value_cmp (rowid r) (rowid new) ≡ o
        → filter (has_rowid j) (put_row new rows) ≡ filter (has_rowid j) rows
        → filter (has_rowid j) (match_ordering o (r ∷ put_row new rows) (new ∷ rows) (new ∷ r ∷ rows))
        ≡ cond (has_rowid j r) (r ∷ filter (has_rowid j) rows) (filter (has_rowid j) rows)
    go Less is more = ap (λ l. cond (has_rowid j r) (r ∷ l) l) more
    go Equal is more =
        let same : has_rowid k r ≡ true = under_alike (rowid r) (rowid new) k (ap is_eq is) ∙ here in
        rw (apart new j k other here, apart r j k other same) refl
    go Greater is more = rw (apart new j k other here) refl

-- ---- its own key

-- a row that is put in under a key lies there
pub put_under : (k : ℤ) (new : Row) (rows : List Row) → has_rowid k new ≡ true
    → Has (filter (has_rowid k) (put_row new rows)) new
put_under k new rows here = has_kept (has_rowid k) (put_row new rows) new (has_put new rows) here

-- a row under the key of a row that is put in anew was taken out before
pub taken_out : (i k : ℤ) (was new : Row) (rows : List Row) → Has rows was → has_rowid k was ≡ true
    → has_rowid k new ≡ true → is_taken (without_rowid i rows) new ≡ false → i ≢ k → ⊥
taken_out i k was new rows had under here free other =
    let kept = has_kept (λ r. not (has_rowid i r)) rows was had (ap not (apart was i k other under)) in
    let tied : is_eq (value_cmp (rowid was) (rowid new)) ≡ true = tied_by (equal_from _ under) (equal_from _ here) in
    absurd (true≢false (sym (some_from (λ r. is_eq (value_cmp (rowid r) (rowid new))) (without_rowid i rows) was kept
    tied) ∙ free))
  where
    tied_by : value_cmp (rowid was) (Int k) ≡ Equal → value_cmp (rowid new) (Int k) ≡ Equal
        → is_eq (value_cmp (rowid was) (rowid new)) ≡ true
    tied_by one two =
        ap is_eq (value_cmp_total.congr (rowid was) (Int k) (rowid new) one
        ∙ sym (value_cmp_total.congr (rowid new) (Int k) (rowid new) two)
        ∙ tied_itself value_cmp_total (rowid new))
