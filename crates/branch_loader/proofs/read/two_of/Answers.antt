use Rattle.std.proofs.Common.{◌≡◌, ℕ, List, [], ◌∷◌, Some, None, length, sym, ◌∙◌, arith}
use Rattle.csv.specs.Records.{field_at, fields_of}
use Rattle.branch_loader.specs.{Plans.two_of, Records.Fields}
use Rattle.branch_loader.proofs.read.two_of.Goals as goal

-- of two fields each is there
both : (fs : Fields) (a b : List ℕ) → length fs ≡ 2 → field_at fs 0 ≡ Some a → field_at fs 1 ≡ Some b
    → Some (a, b) ≡ two_of fs
unfolding field_at
both [] a b n x y = cc x
both (f ∷ []) a b n x y = cc y
both (f ∷ g ∷ []) a b n x y = cc
both (f ∷ g ∷ h ∷ fs) a b n x y = absurd (omega arith)

-- of two fields none is missing
one_there : (fs : Fields) → length fs ≡ 2 → None ≡ field_at fs 0 → ⊥
unfolding field_at
one_there [] n x = omega arith
one_there (f ∷ fs) n x = cc x

two_there : (fs : Fields) → length fs ≡ 2 → None ≡ field_at fs 1 → ⊥
unfolding field_at
two_there [] n x = omega arith
two_there (f ∷ []) n x = omega arith
two_there (f ∷ g ∷ fs) n x = cc x

pub returns : goal.returns
returns c =
    both (fields_of c.args.fields.now) _ _ (sym c.len.ensures ∙ c.if-len-ne2.false)
    (sym c.in_ok-get.ensures.value)
    (sym c.in_ok-get-2.ensures.value)

pub returns-in_err-get : goal.returns-in_err-get
returns-in_err-get c = absurd (one_there (fields_of c.args.fields.now) (sym c.len.ensures
    ∙ c.if-len-ne2.false) c.in_err-get.ensures.value)

pub returns-in_err-get-2 : goal.returns-in_err-get-2
returns-in_err-get-2 c =
    absurd (two_there (fields_of c.args.fields.now) (sym c.len.ensures ∙ c.if-len-ne2.false)
    c.in_err-get-2.ensures.value)
