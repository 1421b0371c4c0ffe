use Rattle.std.proofs.Common.{◌≡◌, ◌∙◌, ℕ, false, Option, Some, Ok, ap, refl}
use Rattle.std.specs.Prelude.{ℤ}
use Rattle.branch_loader.specs.{believed.Plans.Rows, Plans.names, Plans.row_of}
use Rattle.branch_loader.proofs.plan.row_of.Goals as goal

-- a branch that no row before it names
row_there : (before : Rows) (branch accounts : ℕ) (floor : Option ℤ) → false ≡ names branch before
    → Ok (branch, accounts, floor) ≡ row_of before (Some branch) (Some accounts) (Some floor)
row_there before branch accounts floor new = rw (← new) refl

pub returns : goal.returns
returns c =
    rw (c.in-Some.is, c.in-Some-accounts.is, c.in-Some-floor.is) (row_there c.args.before.now c.in-Some.branch
    c.in-Some-accounts.accounts c.in-Some-floor.floor
    (c.if-names.ensures ∙ ap (λ (n : ℕ). names n c.args.before.now) c.get.ensures.value))
