-- What the calls of a source and of a sink returned, where it is known, when one of them counts as failed, and
-- what a sink held as a source was read.
use Rattle.std.specs.Prelude.{◌≡◌, ℕ, List, [], ◌∷◌, ◌++◌, ⊤, Option, Some}
use Rattle.std.specs.Prelude.{None}
use Rattle.std.specs.declared.io.ErrorKind.{ErrorKind}

-- ---- what a call returned

pub data ReadCall : Type 0 where
  -- it gave so many bytes
  Gave : ℕ → ReadCall
  -- it gave none, with an error of this kind
  Failed : ErrorKind → ReadCall

-- ---- calls one after another

-- known calls grow by these
abbrev pub GrowsBy : {A : Type 0} → Option (List A) → Option (List A) → List A → Type 0
GrowsBy None new calls = ⊤
GrowsBy (Some before) None calls = ⊥
GrowsBy (Some before) (Some after) calls = after ≡ before ++ calls

-- calls were made, and P holds of what the last of them returned
pub record EndsWith {A : Type 0} (P : A → Type 0) (old new : Option (List A)) : Type 0 where
  pub earlier : List A
  pub last : A
  pub made : GrowsBy old new (earlier ++ last ∷ [])
  pub is : P last

abbrev pub IsEndOfInput : ReadCall → Type 0
IsEndOfInput (Gave n) = n ≡ 0
IsEndOfInput (Failed kind) = ⊥
