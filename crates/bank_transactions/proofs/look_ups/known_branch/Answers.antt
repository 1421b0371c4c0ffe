-- What the row of a branch tells.
use Rattle.std.proofs.Common.{◌≡◌, ℕ, Option, None, Some, Result, rules, sym, ap, subst, ◌∙◌}
use Rattle.std.specs.Prelude.{IfOk, IfSome, option_and_then}
use Rattle.message_records.specs.{believed.Ranges.whole_within, declared.limits.TheConstants.MAX_BRANCH}
use Rattle.posting_rules.specs.{believed.Tables.branch_key, believed.Tables.row_at, declared.rows.BranchRow.BranchRow}
use Rattle.sql_meanings.specs.believed.Entries.{Entry}
use Rattle.store_rows.specs.believed.{Readings.read_branch, Rules.StoredRows, Rules.branch_under, Rules.row_under}
use Rattle.store_rows.specs.{believed.Stored.FindsStored, declared.fault.TableFault.TableFault}
use Rattle.std.proofs.lemmas.Result.{IfOk-weaker}
use Rattle.bank_transactions.specs.{Doing.Reads, Filling.IsRowOf}
use Rattle.bank_transactions.proofs.LookUps.{reads_none}
use Rattle.bank_transactions.proofs.SoundRows.{no_branch_beyond}
use Rattle.bank_transactions.proofs.Exits.{survives_itself}
use Rattle.bank_transactions.proofs.look_ups.known_branch.Goals as goal

pub returns-in-None-clause-says : goal.returns-in-None-clause-says
returns-in-None-clause-says g c =
    reads_none (survives_itself _) (λ t sound. no_branch_beyond t c.args.number sound (sym c.new.ensures ∙
    c.in-None.is))

pub returns-in-Some-clause-says : goal.returns-in-Some-clause-says
returns-in-Some-clause-says g c =
    let key : c.in-Some.branch ≡ c.args.number = search rules in
    subst (λ (n : ℕ). Reads g.S.Store c.args.tx.now c.branch_row.new.tx
    (λ t. row_at branch_key t.branches n) c.branch_row.result) key c.branch_row.ensures.says

-- a row of the branch, whose number is one of branches
of_row : (n : ℕ) → whole_within 1 MAX_BRANCH n ≡ Some n → (row : Option BranchRow) → IfSome row (λ r. r.branch ≡ n)
    → IfSome row (IsRowOf n)
of_row n within None own = tt
of_row n within (Some r) own = (own, within)

pub returns-in-Some-clause-own : goal.returns-in-Some-clause-own
returns-in-Some-clause-own g c =
    let key : c.in-Some.branch ≡ c.args.number = search rules in
    let within : whole_within 1 MAX_BRANCH c.in-Some.branch ≡ Some c.in-Some.branch =
    rw key (sym c.new.ensures ∙ c.in-Some.is ∙ ap (λ (n : ℕ). Some n) key) in
    subst (λ (n : ℕ). IfOk c.branch_row.result (λ row. IfSome row (IsRowOf n))) key
    (IfOk-weaker c.branch_row.result _ _ (λ row own. of_row c.in-Some.branch within row own) c.branch_row.ensures.own)

-- ---- of the stored row

-- what is found under a branch's number
finds_under : (rows : StoredRows) (n b : ℕ) (key : Option ℕ) → key ≡ whole_within 1 MAX_BRANCH n → key ≡ Some b
    → (r : Result (Option BranchRow) TableFault) → FindsStored (row_under rows.branches b) read_branch r
    → FindsStored (branch_under rows n) read_branch r
finds_under rows n b key is some r = subst (λ (o : Option Entry). FindsStored o read_branch r)
    (sym (ap (option_and_then (row_under rows.branches)) (sym is ∙ some)))

pub returns-in-Some-clause-stored : goal.returns-in-Some-clause-stored
returns-in-Some-clause-stored g c = λ clean rows has.
    finds_under rows c.args.number c.in-Some.branch c.new.result c.new.ensures c.in-Some.is c.branch_row.result
    (c.branch_row.ensures.stored clean rows has)
