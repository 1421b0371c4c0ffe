use Rattle.std.proofs.Common.{◌≡◌, ℕ, List, None, ap, ◌∙◌, refl, sym}
use Rattle.std.specs.Option.{option_map}
use Rattle.posting_batch.proofs.KeptSlots.{map_none}
use Rattle.posting_rules.specs.{believed.LookUps.count_of_branch, declared.rows.BranchRow.BranchRow}
use Rattle.posting_rules.specs.believed.Tables.{branch_key, row_at}
use Rattle.posting_core.proofs.plain_bank.PlainBank.opening_of.Goals as goal

pub returns-in_default : goal.returns-in_default
returns-in_default c =
    let closed : row_at branch_key c.args.self.now.branches.items c.args.branch ≡ None =
    map_none count_of_branch (row_at branch_key c.args.self.now.branches.items c.args.branch)
    (ap (λ (rows : List BranchRow). option_map count_of_branch (row_at branch_key rows c.args.branch))
    (sym c.deref.ensures.value)
    ∙ ap (λ (n : ℕ). option_map count_of_branch (row_at branch_key c.deref.result.now n))
    (sym c.get.ensures.value) ∙ sym c.count_at.ensures ∙ c.in_default.is) in
    record { value = rw closed refl; above = rw c.get.ensures.value at c.get.ensures.least }
