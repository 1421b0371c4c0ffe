-- Rows of closed numbers as a bank puts them in.
use Rattle.std.specs.Prelude.{◌≡◌, false, List, [], ◌∷◌}
use Rattle.std.specs.List.{AllByRecursion}
use Rattle.posting_rules.specs.believed.{Closings.meets, Damage.IsSoundClosing}
use Rattle.posting_rules.specs.declared.rows.ClosingRow.{ClosingRow}

-- each has numbers of one teller, or is the seal, and no two of them share a number
abbrev pub AreClosed : List ClosingRow → Type 0
AreClosed [] = Unit {0}
AreClosed (r ∷ rows) =
    IsSoundClosing r × AllByRecursion (λ s. meets r.first r.last s ≡ false) rows × AreClosed rows
