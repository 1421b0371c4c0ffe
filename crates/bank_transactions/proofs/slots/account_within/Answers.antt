-- What the balance of an account tells.
use Rattle.std.proofs.Common.{rules, sym, ◌∙◌}
use Rattle.store_rows.specs.declared.holders.Member.TheVariants.{Account}
use Rattle.bank_transactions.proofs.{LookUps.recalled_at, LookUps.reads_after, ReadsInTurn.recall_failed}
use Rattle.bank_transactions.proofs.{Broken.member_broken, Remembered.keeps_reading}
use Rattle.bank_transactions.proofs.{ReadsInTurn.recall_tells, SoundRows.member_found}
use Rattle.store_rows.specs.{Holders.entry_under, believed.Readings.read_balance}
use Rattle.sqlite.specs.{Held.state, State.HasCleanDisk}
use Rattle.posting_rules.specs.believed.Numbering.{branch_of_account}
use Rattle.bank_transactions.specs.{Filling.HoldsBranch, believed.Stored.HoldsAccount, believed.Stored.HoldsFloor}
use Rattle.bank_transactions.proofs.HeldRows.{held_before, account_held}
use Rattle.bank_transactions.proofs.Exits.{clean_at, handed_on}
use Rattle.bank_transactions.proofs.slots.account_within.Goals as goal

pub returns-in_err-balance : goal.returns-in_err-balance
returns-in_err-balance g c =
    let same = handed_on c.from_residual.result c.from_residual.ensures.1 in
    rw same (record {
      says = recall_failed (entry_under (Account c.args.account)) read_balance (member_broken _ (Account
          c.args.account) _) c.in_err-balance.ensures.recalls;
      stored = tt;
      remembers = tt;
    })

pub returns-clause-says : goal.returns-clause-says
returns-clause-says g c =
    recall_tells (entry_under (Account c.args.account)) read_balance _ c.in_ok-balance.ensures.recalls
    (λ t so finds. member_found (Account c.args.account) t so.0 c.in_ok-balance.balance finds)

-- both rows are looked up again
pub returns-then-is_some-is_open-clause-says : goal.returns-then-is_some-is_open-clause-says
returns-then-is_some-is_open-clause-says g c =
    reads_after (recalled_at c.in_ok-balance.ensures.recalls) c.account_beside.ensures.says (λ t so. so.0)

pub returns-then-is_some-is_open-clause-stored : goal.returns-then-is_some-is_open-clause-stored
returns-then-is_some-is_open-clause-stored g c =
    held_before (HasCleanDisk (state g.S.Store c.account_beside.new.tx.conn.now))
    (λ rows balance. HoldsAccount rows c.args.account balance)
    (λ rows. HoldsBranch rows (branch_of_account c.args.account) c.args.branch
    × HoldsFloor rows (branch_of_account c.args.account) c.args.floor) _ _ c.account_beside.result
    (λ clean.
    let mid = clean_at c.account_beside.ensures.says.says.survives clean in
    (c.in_ok-balance.ensures.recalls.leaves mid).now)
    c.account_beside.ensures.stored

pub returns-clause-stored : goal.returns-clause-stored
returns-clause-stored g c clean rows has beside =
    account_held rows c.args.account c.in_ok-balance.balance c.args.floor c.args.branch
    (c.in_ok-balance.ensures.recalls.answers clean rows has) beside (search rules)
    (sym c.is_below.ensures ∙ c.if-is_below.false)

-- ---- what is remembered

pub returns-then-is_some-is_open-clause-remembers : goal.returns-then-is_some-is_open-clause-remembers
returns-then-is_some-is_open-clause-remembers g c = keeps_reading c.known_balance.new.memory c.account_beside.result c.account_beside.ensures.says c.in_ok-balance.ensures.remembers

pub known_balance-requires : goal.known_balance-requires
known_balance-requires g c = c.requires

pub returns-clause-remembers : goal.returns-clause-remembers
returns-clause-remembers g c = c.in_ok-balance.ensures.remembers
