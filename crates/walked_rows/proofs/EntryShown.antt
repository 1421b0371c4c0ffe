-- A row of numbers is those that its columns show.
use Rattle.std.proofs.Common.{◌≡◌, ◌++◌, ℕ, zero, suc, ℤ, pos, List, [], ◌∷◌, length, refl, ap, arith}
use Rattle.std.specs.Prelude.{slice_index_or}
use Rattle.sqlite.specs.{Order.Row, Order.column, declared.types.Value.Value, declared.types.Value.TheVariants.Int}
use Rattle.sqlite.specs.declared.types.Value.TheVariants.{Null}
use Rattle.sql_meanings.specs.believed.Entries.{Entry, HasWidth, numbers, texts_held}
use Rattle.store_rows.specs.believed.SeveralRows.{given}
use Rattle.store_rows.proofs.ShownValues.{places, places_are}

-- the number that a value is, zero if it is none
abbrev pub number_in : Value → ℤ
number_in (Int z) = z
number_in _ = pos 0

after : (n : ℕ) (values : List ℤ) (texts : List (List ℕ)) → length values ≡ n
    → places n (λ i. number_in (slice_index_or (numbers values ++ texts_held texts) i Null)) ≡ values
after zero [] texts wide = refl
after zero (v ∷ values) texts wide = absurd (omega arith)
after (suc n) [] texts wide = absurd (omega arith)
after (suc n) (v ∷ values) texts wide = ap (λ l. v ∷ l) (after n values texts (omega arith))

pub same_entry : (k key : ℤ) (vs values : List ℤ) (ts texts : List (List ℕ)) → k ≡ key → vs ≡ values → ts ≡ texts
    → (let it : Entry = record { key = k; values = vs; texts = ts } in it)
    ≡ record { key = key; values = values; texts = texts }
same_entry k key vs values ts texts one two three = cc

-- the row, of so many numbers after its key
pub entry_is : (n : ℕ) (e : Entry) (row : Row) → row ≡ given e → HasWidth (n, 0) e
    → (let it : Entry = record {
      key = number_in (column row 0);
      values = places n (λ i. number_in (column row (suc i)));
      texts = [];
    } in it)
    ≡ e
entry_is n e row is wide =
    rw is (same_entry e.key e.key _ e.values [] e.texts refl (after n e.values e.texts wide.0)
    (places_are [] 0 e.texts wide.1))
