-- The changed balance of one slot, whose number may be none of branches.
use Rattle.std.proofs.Common.{◌≡◌, ℕ, Some, None, Option, sym, subst, ◌∙◌}
use Rattle.std.specs.Prelude.{ℤ, IfSome}
use Rattle.message_records.specs.{believed.Ranges.whole_within, declared.limits.TheConstants.MAX_BRANCH}
use Rattle.posting_rules.specs.believed.Tables.{Tables}
use Rattle.store_rows.specs.{Holders.HasRow, Holders.with_balance, declared.holders.Holder.TheVariants.Branch}
use Rattle.store_rows.specs.believed.Inserts.{branch_update}
use Rattle.posting_batch.specs.Slots.{branch_slot_key}
use Rattle.bank_transactions.specs.{Running.Writes, Writing.by_change, believed.Additions.WritesUnder}
use Rattle.bank_transactions.proofs.Running.{writes_adds, writes_for, writes_none}
use Rattle.bank_transactions.proofs.{Remembered.followed_none, Rows.branch_made, Rows.one_changed}
use Rattle.bank_transactions.proofs.SoundRows.{same_number}
use Rattle.bank_transactions.proofs.Exits.{survives_itself}
use Rattle.bank_transactions.proofs.batch_changes.BranchSlotChange.make.Goals as goal

-- a slot whose number is none of branches changes nothing, where it may be written
not_changed : (changed : Option ℤ) (n : ℕ) (t made : Tables) (written : ℤ → Tables)
    → whole_within 1 MAX_BRANCH n ≡ None → IfSome changed (λ _. whole_within 1 MAX_BRANCH n ≡ Some n)
    → by_change changed written t ≡ made → t ≡ made
not_changed None n t made written none is comes = comes
not_changed (Some z) n t made written none is comes = absurd (let no = sym none ∙ is in cc)

pub returns-in-Some-clause-writes : goal.returns-in-Some-clause-writes
returns-in-Some-clause-writes g c =
    let s = c.args.self.now in
    let same : c.in-Some.branch ≡ s.branch = same_number s.branch c.in-Some.branch
    (sym c.new.ensures ∙ c.in-Some.is) in
    let does = subst (λ (n : ℕ). Writes g.S.Store (WritesUnder branch_update n) c.args.tx.now c.write_change.new.tx
    (λ t. IfSome s.changed (λ _. HasRow (Branch n) t))
    (λ t. by_change s.changed (λ z. with_balance (Branch n) z t) t) c.write_change.result)
    same c.write_change.ensures.writes in
    writes_for (writes_adds (λ clean. one_changed branch_update branch_slot_key s) does)
    (λ t may. (may.0.1.0, branch_made s t))

pub returns-in-None-clause-writes : goal.returns-in-None-clause-writes
returns-in-None-clause-writes g c =
    let s = c.args.self.now in
    writes_for (writes_none (survives_itself _)) (λ t may. (
      may,
      not_changed s.changed s.branch t _ (λ z. with_balance (Branch s.branch) z t)
          (sym c.new.ensures ∙ c.in-None.is) may.1.0 (branch_made s t),
    ))

pub returns-in-None-clause-follows : goal.returns-in-None-clause-follows
returns-in-None-clause-follows g c = followed_none g.S.Store c.args.tx.now c.args.memory.now
