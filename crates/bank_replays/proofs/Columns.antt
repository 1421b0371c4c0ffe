-- The numbers of a column are those that it is made of.
use Rattle.std.proofs.Common.{◌≡◌, ◌≤◌, ◌∙◌, ℕ, ℤ, pos, FitsSigned, of_z, to_z, w64, ap, arith}
use Rattle.std.proofs.Math.Path.{ap₂}
use Rattle.std.proofs.lemmas.Int.{to_z_pos, to_z-of_z}
use Rattle.bank_replays.specs.DifferenceText.{column_of}
use Rattle.bank_replays.specs.declared.shown.Name.{Name}

pub same_column : (name : Name) (x y : ℤ) → FitsSigned w64 x → FitsSigned w64 y
    → column_of name (to_z w64 (of_z w64 x)) (to_z w64 (of_z w64 y)) ≡ column_of name x y
same_column name x y fits fits' = ap₂ (column_of name) (to_z-of_z w64 x fits) (to_z-of_z w64 y fits')

-- a count as a signed number
pub counted : (n k : ℕ) → n ≡ k → n ≤ 100000 → to_z w64 n ≡ pos k
counted n k same most = to_z_pos w64 n (omega arith) ∙ ap pos same
