-- The rule that the first wrong column breaks.
use Rattle.std.proofs.Common.{◌≡◌, Result, Ok, Err, refl}
use Rattle.std.specs.Result.{IsErrAnd}
use Rattle.message_records.specs.believed.Reading.{◌>>=◌}
use Rattle.posting_rules.specs.declared.fault.Rule.{Rule}
use Rattle.store_rows.specs.TableAnswers.{Gives}
use Rattle.store_rows.specs.declared.fault.TableFault.{TableFault, TheVariants.Damaged, TheVariants.Sqlite}
use Rattle.store_rows.proofs.requests.decision_from.Goals as goal

stops : {A B : Type 0} (r : Result A Rule) (f : A → Result B Rule) (fault : TableFault) (out : Result B TableFault)
    → Gives r (Err fault) → IsErrAnd out (λ e. e ≡ fault) → Gives (r >>= f) out
stops r f fault (Ok x) gives is = absurd is
stops r f (Sqlite e) (Err g) gives is = absurd gives
stops r f (Damaged rule) (Err g) gives is = rw (is, gives) refl

pub returns-in_err-account : goal.returns-in_err-account
returns-in_err-account c =
    stops _ _ c.in_err-account.field-0.0 c.from_residual.result c.in_err-account.ensures c.from_residual.ensures.1

pub returns-in_err-branch : goal.returns-in_err-branch
returns-in_err-branch c =
    rw c.in_ok-account.ensures
    (stops _ _ c.in_err-branch.field-0.0 c.from_residual-in_err-branch.result c.in_err-branch.ensures
    c.from_residual-in_err-branch.ensures.1)

pub returns-in_err-delta : goal.returns-in_err-delta
returns-in_err-delta c =
    rw (c.in_ok-account.ensures, c.in_ok-branch.ensures)
    (stops _ _ c.in_err-delta.field-0.0 c.from_residual-in_err-delta.result c.in_err-delta.ensures
    c.from_residual-in_err-delta.ensures.1)

pub returns-in_err-outcome : goal.returns-in_err-outcome
returns-in_err-outcome c =
    rw (c.in_ok-account.ensures, c.in_ok-branch.ensures, c.in_ok-delta.ensures)
    (stops _ _ c.in_err-outcome.field-0.0 c.from_residual-in_err-outcome.result c.in_err-outcome.ensures
    c.from_residual-in_err-outcome.ensures.1)

pub returns-in_err-balance : goal.returns-in_err-balance
returns-in_err-balance c =
    rw (c.in_ok-account.ensures, c.in_ok-branch.ensures, c.in_ok-delta.ensures, c.in_ok-outcome.ensures)
    (stops _ _ c.in_err-balance.field-0.0 c.from_residual-in_err-balance.result c.in_err-balance.ensures
    c.from_residual-in_err-balance.ensures.1)
