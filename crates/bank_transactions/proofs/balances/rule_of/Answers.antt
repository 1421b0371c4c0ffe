-- Which rule wants the row that a text changes.
use Rattle.std.proofs.Common.{refl, inl, inr}
use Rattle.bank_transactions.proofs.balances.rule_of.Goals as goal

pub returns-in-Account : goal.returns-in-Account
returns-in-Account c = rw c.in-Account.is refl

pub returns-in-Teller : goal.returns-in-Teller
returns-in-Teller c = elim c.in-Teller.is [
  | inl teller ↦ rw teller.1 (inl refl)
  | inr branch ↦ rw branch.1 (inr refl)
]
