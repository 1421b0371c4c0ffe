-- What is known after a write, where its table has places.
use Rattle.std.specs.Prelude.{◌<◌, ℤ, Some}
use Rattle.bank_transactions.specs.Known.{Knows, places}
use Rattle.posting_rules.specs.declared.rows.BranchRow.{BranchRow}
use Rattle.store_rows.specs.declared.holders.Holder.{Holder}
use Rattle.store_rows.specs.declared.holders.Holder.TheVariants as holder
use Rattle.bank_transactions.specs.declared.memory.Memory.{Memory}

-- the balance that was written is known; that of a branch in its row, where that was known
abbrev pub KnowsWritten : Memory → Memory → Holder → ℤ → Type 0
KnowsWritten old new (holder.Account account) balance = 0 < places old.accounts → Knows new.accounts account (Some balance)
KnowsWritten old new (holder.Teller teller) balance = 0 < places old.tellers → Knows new.tellers teller (Some balance)
KnowsWritten old new (holder.Branch branch) balance = (row : BranchRow) → Knows old.branches branch (Some row)
    → 0 < places old.branches → Knows new.branches branch (Some (record row { balance = balance }))
