-- Where there are no two balances there is none.
use Rattle.std.proofs.Common.{◌≡◌, ℕ, Option, Some, None, refl, sym, ◌∙◌}
use Rattle.std.specs.Prelude.{IsSome, is_some, option_map}
use Rattle.posting_rules.specs.{believed.Numbering.branch_of_teller, believed.Damage.IsUndamaged}
use Rattle.posting_rules.specs.{declared.rows.BranchRow.BranchRow, declared.rows.TellerRow.TellerRow}
use Rattle.posting_rules.specs.believed.LookUps.{balance_of_branch, balance_of_teller, both_of, teller_balances_in}
use Rattle.posting_rules.specs.believed.Tables.{Tables, row_at, branch_key, teller_key}
use Rattle.bank_transactions.proofs.{LookUps.reads_so, SoundRows.teller_some}
use Rattle.bank_transactions.proofs.Exits.{handed_on, reads_fail}
use Rattle.bank_transactions.proofs.slots.teller_beside.Goals as goal

not_one : (a : Option TellerRow) (b : Option BranchRow) → (IsSome a → is_some a ≡ is_some b)
    → None ≡ both_of (option_map balance_of_teller a) (option_map balance_of_branch b) → None
    ≡ option_map balance_of_teller a
not_one None b same none = refl
not_one (Some x) (Some y) same none = absurd cc
not_one (Some x) None same none = absurd (let no = same refl in cc)

no_balance : (t : Tables) (n : ℕ) → IsUndamaged t → None ≡ teller_balances_in t n
    → None ≡ option_map balance_of_teller (row_at teller_key t.tellers n)
no_balance t n sound none =
    not_one (row_at teller_key t.tellers n) (row_at branch_key t.branches (branch_of_teller n))
    (λ there. sound.tellers n (teller_some t n sound there)) none

pub returns-in-None-clause-says : goal.returns-in-None-clause-says
returns-in-None-clause-says g c =
    reads_so c.in_ok-balance.ensures.says
    (λ t sound. (sound, λ answers. no_balance t c.args.teller sound (sym c.in-None.is ∙ answers)))

pub returns-in_err-balance : goal.returns-in_err-balance
returns-in_err-balance g c = rw (handed_on c.from_residual.result c.from_residual.ensures.1) (record {
  says = reads_fail c.in_err-balance.ensures.says;
  stored = tt;
})

-- ---- of the stored rows

pub returns-in-None-clause-stored : goal.returns-in-None-clause-stored
returns-in-None-clause-stored g c clean rows has =
    let it = rw c.in-None.is at (c.in_ok-balance.ensures.stored clean) in
    record { found = it.found rows has; fits = it.fits rows has }
