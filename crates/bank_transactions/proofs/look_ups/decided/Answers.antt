-- What the row of the bank tells of how many requests are decided.
use Rattle.std.proofs.Common.{◌≡◌, ◌≤◌, ◌<◌, ℕ, ℤ, pos, negsuc, nat_abs, [], ◌∷◌, Some, None, false}
use Rattle.std.proofs.Common.{true, rules, arith, sym, ap, refl, ◌∙◌}
use Rattle.std.specs.Prelude.{int_lt}
use Rattle.sqlite.specs.Held.{state}
use Rattle.std.proofs.lemmas.Int.{ints}
use Rattle.posting_rules.specs.declared.{fault.Rule.TheVariants.Meta, limits.TheConstants.MAX_DECIDED}
use Rattle.store_rows.specs.{believed.Columns.meta_in, believed.View.meta_entry}
use Rattle.store_rows.specs.{declared.metas.TheConstants.VERSION, declared.metas.StoredMeta.StoredMeta}
use Rattle.store_rows.proofs.{Counted.count_read, MetaRow.has_one}
use Rattle.bank_transactions.proofs.{Broken.meta_broken, LookUps.finds_so, LookUps.looked_at, LookUps.reads_broken}
use Rattle.bank_transactions.proofs.ReadsInTurn.{meta_failed}
use Rattle.bank_transactions.proofs.look_ups.decided.Goals.{then-meta-lt0-via-then-meta-lt0}
use Rattle.bank_transactions.proofs.{look_ups.decided.Goals.then-meta-lt0-via-else-meta-lt0+then-meta-gt-MAX_DECIDED}
use mir.Val.{to_z, of_z}
use mir.Syntax.{w64}
use Rattle.bank_transactions.proofs.Exits.{handed_on}
use Rattle.bank_transactions.proofs.look_ups.decided.Goals as goal

-- the row that was told is the one row of these tables
row_is : (m : StoredMeta) (n : ℕ) → Some m ≡ meta_in (meta_entry VERSION n ∷ []) → m.decided ≡ pos n
row_is m n is = cc

-- the count of a row with this count
decided_of : (m : StoredMeta) (n : ℕ) (version : ℤ) → Some m
    ≡ Some (record { version = version; decided = pos n }) → m.decided ≡ pos n
decided_of m n version is = cc

pub returns-in_err-meta : goal.returns-in_err-meta
returns-in_err-meta g c =
    let same = handed_on c.from_residual.result c.from_residual.ensures.1 in
    rw same (record {
      says = meta_failed c.in_err-meta.ensures.says;
      within = tt;
      stored = tt;
      lies = tt;
    })

pub returns-in_default : goal.returns-in_default
returns-in_default g c =
    record {
      says = reads_broken Meta (looked_at c.in_ok-meta.ensures.says) (λ clean.
          meta_broken _ _ None (rw c.in_default.is at (c.in_ok-meta.ensures.says.answers clean))
          (λ n version is most. let no = is in cc));
      within = tt;
      stored = tt;
      lies = tt;
    }

not_negative : (z : ℤ) (n : ℕ) → z ≡ pos n → int_lt z (pos 0) ≡ true → ⊥
not_negative (pos k) n is low = omega (arith, ints)
not_negative (negsuc k) n is low = absurd cc

not_beyond : (z : ℤ) (n : ℕ) → z ≡ pos n → n ≤ MAX_DECIDED → MAX_DECIDED < nat_abs z → ⊥
not_beyond z n is most high = let h = rw is at high in omega arith

pub returns-then-meta-lt0 : goal.returns-then-meta-lt0
returns-then-meta-lt0 g c =
    let m = c.in-Some.meta in
    record {
      says = reads_broken Meta (looked_at c.in_ok-meta.ensures.says) (λ clean.
          meta_broken _ _ (Some m) (rw c.in-Some.is at (c.in_ok-meta.ensures.says.answers clean)) (λ n version found
          most.
          let same : to_z w64 (of_z w64 m.decided) ≡ m.decided = search rules in
          let is : to_z w64 (of_z w64 m.decided) ≡ pos n = same ∙ decided_of m n version found in
          elim c.then-meta-lt0.branch [
            | then-meta-lt0-via-then-meta-lt0 w ↦ not_negative _ n is w.if-meta-lt0.true
            | then-meta-lt0-via-else-meta-lt0+then-meta-gt-MAX_DECIDED w ↦ not_beyond _ n is most
                w.if-meta-gt-MAX_DECIDED.true
          ]));
      within = tt;
      stored = tt;
      lies = tt;
    }

pub returns-clause-says : goal.returns-clause-says
returns-clause-says g c =
    finds_so (looked_at {So = λ t. Unit {0}} c.in_ok-meta.ensures.says) (λ clean t shows sound.
    let m = c.in-Some.meta in
    let answers = c.in_ok-meta.ensures.says.answers clean (meta_entry VERSION t.decided ∷ []) (has_one _ t shows) in
    let same : to_z w64 (of_z w64 m.decided) ≡ m.decided = search rules in
    ap nat_abs (same ∙ row_is m t.decided (sym c.in-Some.is ∙ answers.0)))

-- a number that isn't negative is the whole number of its size
whole : (z : ℤ) → int_lt z (pos 0) ≡ false → z ≡ pos (nat_abs z)
whole (pos k) low = refl
whole (negsuc k) low = absurd cc

with_decided : (m : StoredMeta) (z : ℤ) → m.decided ≡ z
    → Some m ≡ Some (record { version = m.version; decided = z })
with_decided m z is = ap (λ (d : ℤ). Some (record { version = m.version; decided = d })) is

pub returns-clause-stored : goal.returns-clause-stored
returns-clause-stored g c = λ clean rows has.
    let m = c.in-Some.meta in
    let same : to_z w64 (of_z w64 m.decided) ≡ m.decided = search rules in
    let answers = (c.in_ok-meta.ensures.says.answers clean rows.meta
    (record { sound = has.sound; holds = has.each.0 })).0 in (
      m.version,
      sym answers ∙ c.in-Some.is
          ∙ with_decided m _ (sym same ∙ whole (to_z w64 (of_z w64 m.decided)) c.if-meta-lt0.false),
    )

pub returns-clause-lies : goal.returns-clause-lies
returns-clause-lies g c = λ clean file.
    let m = c.in-Some.meta in
    let same : to_z w64 (of_z w64 m.decided) ≡ m.decided = search rules in
    count_read (state g.S.Store c.args.tx.now.conn.now).now _ m (rw c.in-Some.is at (c.in_ok-meta.ensures.lies clean file))
    (sym same ∙ whole (to_z w64 (of_z w64 m.decided)) c.if-meta-lt0.false)
