-- A bank in memory: its rows are in the order in which they came.
use Rattle.std.specs.Prelude.{◌≡◌, length, ⊤}
use Rattle.posting_core.specs.declared.plain_bank.PlainBank.{PlainBank}
use Rattle.posting_rules.specs.declared.fault.Fault.{Fault}
use Rattle.posting_rules.specs.declared.fault.Fault.TheVariants.{Memory}
use Rattle.posting_rules.specs.believed.Tables.{Tables}
use Rattle.posting_rules.specs.believed.Counter.{Seen}

-- a request has the row whose place is its ordinal, so that the count of the rows is how many are decided
abbrev pub plain_tables : PlainBank → Tables
plain_tables bank = record {
  decided = length bank.requests.items;
  branches = bank.branches.items;
  tellers = bank.tellers.items;
  accounts = bank.accounts.items;
  history = bank.history.items;
  requests = bank.requests.items;
  floors = bank.floors.items;
  references = bank.references.items;
  closings = bank.closings.items;
}

-- it is never down, and what a crash leaves are its rows
abbrev pub plain_seen : PlainBank → Seen
plain_seen bank = record {
  tables = λ t. t ≡ plain_tables bank;
  is_down = ⊥;
  Remains = Tables;
  left = λ t. t ≡ plain_tables bank;
  found = λ remains t. t ≡ remains;
  honest = Unit {0};
}

-- it refuses a call only for want of memory
abbrev pub plain_reason : Fault → PlainBank → PlainBank → Type 0
plain_reason Memory old new = ⊤
plain_reason _ old new = ⊥

-- it keeps nothing beside the bank
abbrev pub plain_spares : PlainBank → PlainBank → Type 0
plain_spares old new = ⊤
