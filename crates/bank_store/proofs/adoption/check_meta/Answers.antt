-- What the row of the bank says against it.
use Rattle.std.proofs.Common.{◌≡◌, ℤ, Some, Ok, Err, Result, rules, sym, ap, subst, ◌∙◌, inr}
use mir.Val.{to_z, of_z}
use mir.Syntax.{w64}
use Rattle.posting_rules.specs.declared.open_fault.OpenFault.{OpenFault}
use Rattle.store_rows.specs.declared.metas.{StoredMeta.StoredMeta, TheConstants.VERSION}
use Rattle.bank_store.specs.MetaRow.{ChecksCount, ChecksMeta}
use Rattle.bank_store.proofs.MetaRow.{other_version}
use Rattle.bank_store.proofs.adoption.check_meta.Goals as goal

-- the row with our version
ours : (m : StoredMeta) → m.version ≡ VERSION
    → Some m ≡ Some (record { version = VERSION; decided = m.decided })
ours m version = ap (λ (x : ℤ). let it : StoredMeta = record m { version = x } in Some it) version

by_count : (m : StoredMeta) → m.version ≡ VERSION → (r : Result (Unit {0}) OpenFault) → ChecksCount m.decided r
    → ChecksMeta (Some m) r
by_count m version (Ok done) (n, is, within) = (
  n,
  ours m version
      ∙ ap (λ (x : ℤ). let it : StoredMeta = record { version = VERSION; decided = x } in Some it) is,
  within,
)
by_count m version (Err fault) (is, outside) =
    subst (λ (f : OpenFault). ChecksMeta (Some m) (Err f)) (sym is) (inr (m.decided, ours m version, outside))

pub returns-then-meta-ne-VERSION : goal.returns-then-meta-ne-VERSION
returns-then-meta-ne-VERSION c =
    let m = c.args.meta.now in
    let same : to_z w64 (of_z w64 m.version) ≡ m.version = search rules in
    other_version m (to_z w64 (of_z w64 m.version)) same
    (λ one. c.if-meta-ne-VERSION.true (ap (of_z w64) (sym same ∙ one)))

pub returns : goal.returns
returns c =
    let m = c.args.meta.now in
    let version : to_z w64 (of_z w64 m.version) ≡ m.version = search rules in
    let one : to_z w64 (of_z w64 m.version) ≡ VERSION = ap (to_z w64) c.if-meta-ne-VERSION.false in
    by_count m (sym version ∙ one) c.check_count.result c.check_count.ensures
