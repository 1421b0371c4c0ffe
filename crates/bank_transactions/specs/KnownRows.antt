-- Rows that are known under their keys.
use Rattle.std.specs.Prelude.{◌≤ℤ◌, ℕ, pos, Option, IfSome}
use Rattle.bank_transactions.specs.Known.{Knows}
use Rattle.bank_transactions.specs.declared.known_rows.table.Known.{Known}
use Rattle.posting_rules.specs.declared.rows.FloorRow.{FloorRow}

-- whatever is known under a key is so
abbrev pub AllKnown : {V : Type 0} → Known V → (ℕ → V → Type 0) → Type 0
AllKnown {V} known So = (key : ℕ) (value : V) → Knows known key value → So key value

-- no floor that is known is above zero
abbrev pub AreLow : Known (Option FloorRow) → Type 0
AreLow floors = AllKnown floors (λ branch row. IfSome row (λ r. r.lowest ≤ℤ pos 0))
