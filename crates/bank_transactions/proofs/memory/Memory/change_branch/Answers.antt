-- The balance is changed where the row is known.
use Rattle.std.proofs.Common.{◌≡◌, ◌∙◌, Some, None, Option, rules, refl, sym, subst}
use Rattle.posting_rules.specs.declared.rows.BranchRow.{BranchRow}
use Rattle.store_rows.specs.Lying.{BranchLies}
use Rattle.bank_transactions.specs.Known.{Knows, known_under}
use Rattle.bank_transactions.proofs.{Fitting.branches_noted, KnownRows.known_apart, KnownRows.known_none, KnownRows.known_put}
use Rattle.bank_transactions.proofs.memory.Memory.change_branch.Goals as goal

-- a row is none that isn't there
other_row : (row : BranchRow) → ◌≡◌ {A = Option (Option BranchRow)} (Some None) (Some (Some row)) → ⊥
other_row row is = cc

none_there : (row : BranchRow) → ◌≡◌ {A = Option (Option BranchRow)} None (Some (Some row)) → ⊥
none_there row is = cc

pub returns-in-Some-Some-clause-fits : goal.returns-in-Some-Some-clause-fits
returns-in-Some-Some-clause-fits c was now left sets fits =
    let got : c.get.result ≡ Some (Some c.in-Some-Some.row) = search rules in
    let answers : known_under c.args.self.now.branches c.args.branch ≡ Some (Some c.in-Some-Some.row) =
    sym (rw c.get-key.ensures.value at c.get.ensures) ∙ got in
    branches_noted c.args.self.now _ was now fits c.args.branch refl refl refl refl refl left (λ still.
    known_put (λ k row. BranchLies k was row) (λ k row. BranchLies k now row) c.args.branch still
    c.args.self.now.branches c.put.new.self (Some (record c.in-Some-Some.row { balance = c.args.balance }))
    (rw c.get-key.ensures.value at c.put.ensures.true_after)
    (sets c.in-Some-Some.row (fits.branches c.args.branch (Some c.in-Some-Some.row) answers)) fits.branches)

pub returns-in-Some-None-clause-fits : goal.returns-in-Some-None-clause-fits
returns-in-Some-None-clause-fits c was now left sets fits =
    branches_noted c.args.self.now _ was now fits c.args.branch refl refl refl refl refl left (λ still.
    known_none (λ k row. BranchLies k now row) c.forget.new.self c.forget.ensures.nothing)

pub returns-in-None-clause-fits : goal.returns-in-None-clause-fits
returns-in-None-clause-fits c was now left sets fits =
    let answers : known_under c.args.self.now.branches c.args.branch ≡ None =
    sym (rw c.get-key.ensures.value at c.get.ensures) ∙ c.in-None.is in
    branches_noted c.args.self.now c.args.self.now was now fits c.args.branch refl refl refl refl refl left (λ still.
    known_apart (λ k row. BranchLies k was row) (λ k row. BranchLies k now row) c.args.branch still
    c.args.self.now.branches answers fits.branches)

-- ---- the balance is known then

pub returns-in-Some-Some-clause-noted : goal.returns-in-Some-Some-clause-noted
returns-in-Some-Some-clause-noted c r is room =
    let got : c.get.result ≡ Some (Some c.in-Some-Some.row) = search rules in
    let answers : known_under c.args.self.now.branches c.args.branch ≡ Some (Some c.in-Some-Some.row) =
    sym (rw c.get-key.ensures.value at c.get.ensures) ∙ got in
    let both : ◌≡◌ {A = Option (Option BranchRow)} (Some (Some c.in-Some-Some.row)) (Some (Some r)) = sym answers ∙ is in
    let same : c.in-Some-Some.row ≡ r = cc in
    let put : Knows c.put.new.self c.args.branch (Some (record c.in-Some-Some.row { balance = c.args.balance })) =
    rw c.get-key.ensures.value at (c.put.ensures.known room) in
    subst (λ (x : BranchRow). Knows c.put.new.self c.args.branch (Some (record x { balance = c.args.balance }))) same put

pub returns-in-Some-None-clause-noted : goal.returns-in-Some-None-clause-noted
returns-in-Some-None-clause-noted c r is room =
    let got : c.get.result ≡ Some None = search rules in
    let answers : known_under c.args.self.now.branches c.args.branch ≡ Some None =
    sym (rw c.get-key.ensures.value at c.get.ensures) ∙ got in
    absurd (other_row r (sym answers ∙ is))

pub returns-in-None-clause-noted : goal.returns-in-None-clause-noted
returns-in-None-clause-noted c r is room =
    let answers : known_under c.args.self.now.branches c.args.branch ≡ None =
    sym (rw c.get-key.ensures.value at c.get.ensures) ∙ c.in-None.is in
    absurd (none_there r (sym answers ∙ is))
