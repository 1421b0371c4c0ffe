-- Whether the row of the bank is the only row of `meta`.
use Rattle.std.proofs.Common.{◌≡◌, ℤ, pos, List, None, Some, Ok, Err, Result, refl, sym, ap, ◌∙◌, inr}
use Rattle.std.specs.Prelude.{◌≢◌}
use Rattle.sqlite.specs.State.{State}
use Rattle.sql_meanings.specs.believed.Entries.{Entry}
use Rattle.posting_rules.specs.declared.{limits.TheConstants.MAX_DECIDED, open_fault.OpenFault.OpenFault}
use Rattle.posting_rules.specs.declared.{fault.Rule.TheVariants.Meta, open_fault.OpenFault.TheVariants.Damaged}
use Rattle.store_rows.specs.{believed.Columns.meta_in, declared.metas.StoredMeta.StoredMeta}
use Rattle.walked_rows.specs.OnlyMeta.{TellsOnly}
use Rattle.bank_store.specs.{Connections.IsAsBefore, MetaRow.ChecksCount, MetaRow.ChecksOnly, MetaRow.OfAnyMeta}
use Rattle.bank_store.proofs.FoundBank.{decided_in, not_outside, version_in}

-- no row is the only one, or one with another version
module _ (version : ℤ) (old new : State) (same : IsAsBefore old new) where
  pub none_only : OfAnyMeta old.now (λ rows. TellsOnly rows None) → ChecksOnly version old new (Err (Damaged Meta))
  none_only answers = inr (refl, λ checks rows has only. answers checks rows has version (pos only.0) only.1, same)

  pub other_only : (m : StoredMeta) → OfAnyMeta old.now (λ rows. TellsOnly rows (Some m)) → m.version ≢ version
      → ChecksOnly version old new (Err (Damaged Meta))
  other_only m answers other = inr (
    refl,
    λ checks rows has only.
        other (ap (λ (rs : List Entry). version_in (meta_in rs)) (sym (answers checks rows has) ∙ only.1)),
    same,
  )

-- it is the only one, with these numbers
module _ (version : ℤ) (old new : State) (same : IsAsBefore old new) (m : StoredMeta)
    (answers : OfAnyMeta old.now (λ rows. TellsOnly rows (Some m))) where
  pub only_counted : m.version ≡ version → (r : Result (Unit {0}) OpenFault) → ChecksCount m.decided r
      → ChecksOnly version old new r
  only_counted is (Ok done) (count, at, within) = (
    λ checks rows has. let it = rw (is, at) at (answers checks rows has) in (count, it, within),
    same,
  )
  only_counted is (Err fault) (tells, outside) = inr (
    tells,
    λ checks rows has only.
        not_outside m.decided only.0 MAX_DECIDED
        (ap (λ (rs : List Entry). decided_in (meta_in rs)) (sym (answers checks rows has) ∙ only.1)) only.2 outside,
    same,
  )
