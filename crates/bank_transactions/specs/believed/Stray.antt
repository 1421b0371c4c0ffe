-- Rows that nothing asked for yet: they would join what is decided or opened later.
use Rattle.std.specs.Prelude.{◌≡◌, ◌≤ℤ◌, ◌⊎◌, ℕ, pos, List, None}
use Rattle.std.specs.List.{AllByRecursion}
use Rattle.sqlite.specs.Effect.{Database}
use Rattle.posting_rules.specs.declared.fault.Rule.{Rule}
use Rattle.posting_rules.specs.declared.fault.Rule.TheVariants.{Key}
use Rattle.sql_meanings.specs.believed.Entries.{Entry}
use Rattle.store_rows.specs.believed.Rules.{IsBroken, OfRows, StoredRows, branch_under, floor_under}
use Rattle.bank_transactions.specs.believed.Stored.{HoldsDecided}

-- no row has a key beyond so many
abbrev pub AreWithin : ℕ → List Entry → Type 0
AreWithin decided = AllByRecursion (λ e. e.key ≤ℤ pos decided)

-- no request, no posting and no reference has
abbrev pub NoneBeyond : ℕ → StoredRows → Type 0
NoneBeyond decided rows =
    AreWithin decided rows.requests × AreWithin decided rows.history × AreWithin decided rows.references

-- none is beyond the count of requests, and no branch has a floor that isn't open
pub record NoneStray (rows : StoredRows) : Type 0 where
  pub numbered : (decided : ℕ) → HoldsDecided rows decided → NoneBeyond decided rows
  pub floors : (n : ℕ) → branch_under rows n ≡ None → floor_under rows n ≡ None

-- the rows that the file holds break the rule, or, of rule 7, one of them is such a row
abbrev pub IsDamage : Rule → Database → Type 0
IsDamage rule db = IsBroken rule db ⊎ ((rule ≡ Key) × OfRows (λ rows. ¬ NoneStray rows) db)
