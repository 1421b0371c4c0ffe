-- How joining the machines that share a log ends.
use Rattle.std.proofs.Common.{◌≡◌, ◌∙◌, ap, ℕ, List, [], Option, Result, Ok, Err, inr}
use Rattle.std.specs.{Prelude.OnErr, Result.IsErrOf}
use Rattle.posting_rules.specs.believed.Counter.{Seen}
use Rattle.posting_core.specs.EndCalls.{WriteCall}
use Rattle.branch_loader.specs.{Plans.plan_of_list, Plans.rows_by, believed.Plans.Rows, declared.fault.PlanFault.PlanFault}
use Rattle.shared_log.specs.Known.{Known}
use Rattle.shared_log.specs.declared.joining.Joined.{Joined}
use Rattle.shared_log.specs.declared.replicated.Replicated.{Replicated}
use Rattle.command_line.specs.Lines.{PrintsLine, joined_line}
use Rattle.command_line.specs.Sharing.{HasJoinedAs, JoinsFirst}
use Rattle.command_line.specs.declared.fault.CommandFault.{CommandFault, TheVariants.Write}
use Rattle.command_line.proofs.Printed.{part_of}

-- the line was printed, or a prefix of it
pub joined_printed : {C L : Type 0} (seen : C → Seen) (spares : C → C → Type 0) (known : L → Known) (joined : Joined)
    (old new : Replicated C L) (w w' : Option (List ℕ)) (t t' : Option (List WriteCall))
    (r : Result (Unit {0}) CommandFault) → HasJoinedAs seen spares known joined old new
    → PrintsLine (joined_line joined) w w' t t' r → OnErr r (IsErrOf r Write)
    → JoinsFirst seen spares known w w' old new r
joined_printed seen spares known joined old new w w' t t' (Ok done) has prints fault = (joined, has, prints.line)
joined_printed seen spares known joined old new w w' t t' (Err cause) has prints fault =
    let is : cause ≡ Write = cc fault in
    inr (joined, has, is, part_of prints.part)

ok_same : (a b : Rows) → (let r : Result Rows PlanFault = Ok a in r) ≡ Ok b → a ≡ b
ok_same a b is = cc is

-- the plan of no rows has none
pub no_rows : (rows plan : Rows) → rows ≡ [] → (let r : Result Rows PlanFault = Ok plan in r) ≡ plan_of_list rows
    → plan ≡ []
unfolding rows_by
no_rows rows plan none is = ok_same plan [] (is ∙ ap plan_of_list none)
