-- What the balance of an account tells.
use Rattle.std.proofs.Common.{◌≤◌, ℕ, Ok, rules, sym, subst}
use Rattle.sqlite.specs.{Effect.Database, Held.state}
use Rattle.store_rows.specs.believed.{Readings.read_branch, Rules.HoldsBank, Rules.branch_under, Stored.FindsStored}
use Rattle.message_records.specs.declared.limits.TheConstants.{MAX_ACCOUNT}
use Rattle.posting_rules.specs.declared.fault.Rule.TheVariants as broken
use Rattle.store_rows.specs.{Holders.entry_under, believed.Readings.read_balance}
use Rattle.bank_transactions.proofs.{FittingAccounts.fits, FittingAccounts.fitting}
use Rattle.bank_transactions.proofs.LookUps.{looked_at, reads_both, reads_broken, reads_but, reads_pair}
use Rattle.bank_transactions.proofs.ReadsInTurn.{balance_failed, find_tells}
use Rattle.bank_transactions.proofs.SoundRows.{member_found}
use Rattle.store_rows.specs.declared.holders.Member.TheVariants.{Account}
use Rattle.bank_transactions.proofs.Exits.{clean_at, handed_on}
use Rattle.bank_transactions.proofs.look_ups.open_balance.Goals as goal

pub returns-in_err-balance : goal.returns-in_err-balance
returns-in_err-balance g c =
    let same = handed_on c.from_residual.result c.from_residual.ensures.1 in
    rw same (record {
      says = balance_failed (Account c.args.account) c.in_err-balance.ensures.looks_up;
      stored = tt;
    })

pub returns-then-is_some-is_open-clause-says : goal.returns-then-is_some-is_open-clause-says
returns-then-is_some-is_open-clause-says g c =
    let n = c.args.account in
    let some : 1 ≤ n = search rules in
    let most : n ≤ MAX_ACCOUNT = search rules in
    reads_broken broken.Account (reads_pair (find_tells (entry_under (Account n)) read_balance c.in_ok-balance.balance
    c.in_ok-balance.ensures.looks_up (λ t sound finds. member_found (Account n) t sound c.in_ok-balance.balance finds))
    c.in_ok-branch.ensures.says) (λ clean rows has keeps.
    let mid = clean_at c.in_ok-branch.ensures.says.says.survives clean in
    let there : HoldsBank (state g.S.Store c.balance_of.new.tx.conn.now).now rows =
    subst (λ (db : Database). HoldsBank db rows) (sym (c.in_ok-balance.ensures.looks_up.leaves mid).0.now_is) has in
    let branch =
    subst (λ (k : ℕ). FindsStored (branch_under rows k) read_branch (Ok c.in_ok-branch.branch))
    c.branch_of_account.ensures (c.in_ok-branch.ensures.stored clean rows there) in
    let same = fitting rows n c.in_ok-balance.balance c.in_ok-branch.branch
    (c.in_ok-balance.ensures.looks_up.answers mid rows has).0 branch (keeps.1 n some most) in
    search rules)

pub returns-clause-says : goal.returns-clause-says
returns-clause-says g c =
    reads_both (find_tells (entry_under (Account c.args.account)) read_balance c.in_ok-balance.balance
    c.in_ok-balance.ensures.looks_up
    (λ t sound finds. member_found (Account c.args.account) t sound c.in_ok-balance.balance finds))
    c.in_ok-branch.ensures.says (λ t sound is. sound) (λ t sound is its. is)

pub returns-then-is_some-is_open-clause-stored : goal.returns-then-is_some-is_open-clause-stored
returns-then-is_some-is_open-clause-stored g c = tt

pub returns-in_err-branch : goal.returns-in_err-branch
returns-in_err-branch g c =
    let same = handed_on c.from_residual-in_err-branch.result c.from_residual-in_err-branch.ensures.1 in
    rw same (record {
      says = reads_but (looked_at c.in_ok-balance.ensures.looks_up) c.in_err-branch.ensures.says;
      stored = tt;
    })

pub returns-clause-stored : goal.returns-clause-stored
returns-clause-stored g c clean =
    let mid = clean_at c.in_ok-branch.ensures.says.says.survives clean in
    let looked = c.in_ok-balance.ensures.looks_up.answers mid in
    let still = (c.in_ok-balance.ensures.looks_up.leaves mid).0.now_is in
    record {
      found = λ rows has. (looked rows has).0;
      fits = λ rows has.
          let there : HoldsBank (state g.S.Store c.balance_of.new.tx.conn.now).now rows =
          subst (λ (db : Database). HoldsBank db rows) (sym still) has in
          let branch =
          subst (λ (k : ℕ). FindsStored (branch_under rows k) read_branch (Ok c.in_ok-branch.branch))
          c.branch_of_account.ensures (c.in_ok-branch.ensures.stored clean rows there) in
          fits rows c.args.account c.in_ok-balance.balance c.in_ok-branch.branch (looked rows has).0 branch
          (search rules);
    }
