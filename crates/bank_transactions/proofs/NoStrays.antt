-- Tables on which any number of records can build show no stray row, so that no damage is told of them.
use Rattle.std.proofs.Common.{◌≡◌, ◌<◌, ℕ, ℤ, pos, eqb, nat_lt, true, arith, List, [], ◌∷◌, map, nat_abs}
use Rattle.std.proofs.Common.{None, Option, Some}
use Rattle.std.proofs.Common.{option_map, inl, inr, refl, ap, sym, subst, ◌∙◌}
use Rattle.std.specs.List.{find}
use Rattle.sqlite.specs.Effect.{Database}
use Rattle.posting_rules.specs.{believed.Damage.IsUndamaged, declared.fault.Rule.Rule}
use Rattle.posting_rules.specs.believed.Tables.{Tables, row_at, branch_key, history_key, reference_key, request_key}
use Rattle.posting_rules.specs.declared.rows.BranchRow.{BranchRow}
use Rattle.posting_rules.proofs.Keyed.{by_test}
use Rattle.posting_batch.specs.believed.Batch.{HasFreeOrdinals}
use Rattle.sql_meanings.specs.{Entries.is_above, believed.Entries.Entry}
use Rattle.store_rows.specs.{Rules.stored_rows, believed.Columns.meta_in}
use Rattle.store_rows.specs.declared.metas.{StoredMeta.StoredMeta, TheConstants.VERSION}
use Rattle.store_rows.specs.believed.View.{Shows, branch_entry, floor_entry, history_entry, meta_entry, reference_entry}
use Rattle.store_rows.specs.believed.View.{request_entry}
use Rattle.store_rows.proofs.{RowLists.found_by, RowLists.is_row_above, StoredRows.holds_shown}
use Rattle.bank_transactions.specs.believed.Stray.{IsDamage, NoneBeyond, NoneStray}
use Rattle.bank_transactions.proofs.{Above.none_found, KeepsRules.floor_is, KeepsRules.unbroken, KeepsRules.under_is}

-- the first row under its own key
row_own : {R : Type 0} (key : R → ℕ) (r : R) (rows : List R) (k : ℕ) → eqb (key r) k ≡ true
    → row_at key (r ∷ rows) k ≡ Some r
row_own key r rows k is = rw is refl

-- no row has a higher key than a number above which no key is taken
no_higher : {R : Type 0} (key : R → ℕ) (d : ℕ) (rows : List R) → ((n : ℕ) → d < n → row_at key rows n ≡ None)
    → find (λ r. nat_lt d (key r)) rows ≡ None
no_higher key d [] none = refl
no_higher key d (r ∷ rows) none = elim (by_test (nat_lt d (key r))) [
  | inl t ↦
      let low : d < key r = grind arith in
      let same : eqb (key r) (key r) ≡ true = grind arith in
      absurd (let both = sym (none (key r) low) ∙ row_own key r rows (key r) same in cc)
  | inr f ↦ rw f (no_higher key d rows (λ n low. elim (by_test (eqb (key r) n)) [
    | inl e ↦ absurd (let h = rw e at (none n low) in cc)
    | inr g ↦ rw g at (none n low)
  ]))
]

none_above : {R : Type 0} (key : R → ℕ) (entry : R → Entry) → ((r : R) → (entry r).key ≡ pos (key r)) → (d : ℕ)
    (rows : List R) → ((n : ℕ) → d < n → row_at key rows n ≡ None) → find (is_above (pos d)) (map entry rows) ≡ None
none_above key entry keyed d rows none =
    found_by key entry keyed (is_above (pos d)) (λ r. nat_lt d (key r)) (is_row_above key entry keyed d) rows
    ∙ ap (option_map entry) (no_higher key d rows none)

count_is : (m : StoredMeta) (d : ℕ) → Some m ≡ meta_in (meta_entry VERSION d ∷ []) → m.decided ≡ pos d
count_is m d is = cc

count_same : (v : ℤ) (n d : ℕ) → meta_in (meta_entry VERSION d ∷ []) ≡ Some (record { version = v; decided = pos n })
    → n ≡ d
count_same v n d is = ap nat_abs (count_is (record { version = v; decided = pos n }) d (sym is))

no_row : (o : Option BranchRow) → option_map branch_entry o ≡ None → o ≡ None
no_row None is = refl
no_row (Some r) is = absurd cc

module _ (t : Tables) (sound : IsUndamaged t) (free : (count : ℕ) → HasFreeOrdinals t count) where
  none_beyond : NoneBeyond t.decided (stored_rows t)
  none_beyond = (
    none_found t.decided (map request_entry t.requests) (none_above request_key request_entry (λ _. refl) t.decided
        t.requests (λ n low. (free n).requests n (low, omega arith))),
    none_found t.decided (map history_entry t.history) (none_above history_key history_entry (λ _. refl) t.decided
        t.history (λ n low. (free n).postings n (low, omega arith))),
    none_found t.decided (map reference_entry t.references) (none_above reference_key reference_entry (λ _. refl) t.decided
        t.references (λ n low. (free n).references n (low, omega arith))),
  )

  none_stray : NoneStray (stored_rows t)
  none_stray = record {
    numbered = λ decided holds.
        subst (λ (n : ℕ). NoneBeyond n (stored_rows t)) (sym (count_same holds.0 decided t.decided holds.1)) none_beyond;
    floors = λ n none. floor_is t sound n
        ∙ ap (option_map floor_entry) (sound.floors n (no_row (row_at branch_key t.branches n) (sym (under_is t sound n) ∙ none)));
  }

  pub no_damage : (db : Database) → Shows db t → (rule : Rule) → IsDamage rule db → ⊥
  no_damage db shows rule (inl broken) = unbroken db t shows sound rule broken
  no_damage db shows rule (inr stray) = stray.1 (stored_rows t) (holds_shown db t shows) none_stray
