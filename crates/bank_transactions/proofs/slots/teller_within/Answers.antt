-- What the balance of a teller tells.
use Rattle.std.proofs.Common.{rules}
use Rattle.store_rows.specs.declared.holders.Member.TheVariants.{Teller}
use Rattle.bank_transactions.proofs.{LookUps.recalled_at, LookUps.reads_after, ReadsInTurn.recall_failed}
use Rattle.bank_transactions.proofs.{Broken.member_broken, Remembered.keeps_reading}
use Rattle.bank_transactions.proofs.{ReadsInTurn.recall_tells, SoundRows.member_found}
use Rattle.store_rows.specs.{Holders.entry_under, believed.Readings.read_balance}
use Rattle.sqlite.specs.{Held.state, State.HasCleanDisk}
use Rattle.posting_rules.specs.believed.Numbering.{branch_of_teller}
use Rattle.bank_transactions.specs.{Filling.HoldsBranch, Stored.HoldsTellerRow}
use Rattle.bank_transactions.proofs.HeldRows.{held_before, teller_held}
use Rattle.bank_transactions.proofs.Exits.{clean_at, handed_on}
use Rattle.bank_transactions.proofs.slots.teller_within.Goals as goal

pub returns-in_err-balance : goal.returns-in_err-balance
returns-in_err-balance g c =
    let same = handed_on c.from_residual.result c.from_residual.ensures.1 in
    rw same (record {
      says = recall_failed (entry_under (Teller c.args.teller)) read_balance (member_broken _ (Teller c.args.teller) _)
          c.in_err-balance.ensures.recalls;
      stored = tt;
      remembers = tt;
    })

pub returns-clause-says : goal.returns-clause-says
returns-clause-says g c =
    recall_tells (entry_under (Teller c.args.teller)) read_balance _ c.in_ok-balance.ensures.recalls
    (λ t so finds. member_found (Teller c.args.teller) t so.0 c.in_ok-balance.balance finds)

-- both rows are looked up again
pub returns-then-is_some-clause-says : goal.returns-then-is_some-clause-says
returns-then-is_some-clause-says g c = reads_after (recalled_at c.in_ok-balance.ensures.recalls) c.teller_beside.ensures.says (λ t so. so.0)

pub returns-then-is_some-clause-stored : goal.returns-then-is_some-clause-stored
returns-then-is_some-clause-stored g c =
    held_before (HasCleanDisk (state g.S.Store c.teller_beside.new.tx.conn.now))
    (λ rows balance. HoldsTellerRow rows c.args.teller balance)
    (λ rows. HoldsBranch rows (branch_of_teller c.args.teller) c.args.branch) _ _ c.teller_beside.result
    (λ clean.
    let mid = clean_at c.teller_beside.ensures.says.says.survives clean in
    (c.in_ok-balance.ensures.recalls.leaves mid).now)
    c.teller_beside.ensures.stored

pub returns-clause-stored : goal.returns-clause-stored
returns-clause-stored g c clean rows has branch =
    teller_held rows c.args.teller c.in_ok-balance.balance c.args.branch
    (c.in_ok-balance.ensures.recalls.answers clean rows has) branch (search rules)

-- ---- what is remembered

pub returns-then-is_some-clause-remembers : goal.returns-then-is_some-clause-remembers
returns-then-is_some-clause-remembers g c = keeps_reading c.known_balance.new.memory c.teller_beside.result c.teller_beside.ensures.says c.in_ok-balance.ensures.remembers

pub known_balance-requires : goal.known_balance-requires
known_balance-requires g c = c.requires

pub returns-clause-remembers : goal.returns-clause-remembers
returns-clause-remembers g c = c.in_ok-balance.ensures.remembers
