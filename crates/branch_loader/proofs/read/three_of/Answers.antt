use Rattle.std.proofs.Common.{◌≡◌, ◌≤◌, ℕ, zero, suc, List, [], ◌∷◌, Some, None, length, sym, ◌∙◌, arith}
use Rattle.csv.specs.Records.{field_at, fields_of}
use Rattle.branch_loader.specs.{Plans.three_of, Records.Fields}
use Rattle.branch_loader.proofs.read.three_of.Goals as goal

-- of three fields each is there
all_there : (fs : Fields) (a b c : List ℕ) → length fs ≡ 3 → field_at fs 0 ≡ Some a → field_at fs 1 ≡ Some b
    → field_at fs 2 ≡ Some c → Some (a, b, c) ≡ three_of fs
unfolding field_at
all_there [] a b c n x y z = cc x
all_there (f ∷ []) a b c n x y z = cc y
all_there (f ∷ g ∷ []) a b c n x y z = cc z
all_there (f ∷ g ∷ h ∷ []) a b c n x y z = cc
all_there (f ∷ g ∷ h ∷ i ∷ fs) a b c n x y z = absurd (omega arith)

-- of three fields none is missing
none_missing : (fs : Fields) (at : ℕ) → length fs ≡ 3 → at ≤ 2 → None ≡ field_at fs at → ⊥
unfolding field_at
none_missing [] at n le x = omega arith
none_missing (f ∷ fs) zero n le x = cc x
none_missing (f ∷ []) (suc at) n le x = omega arith
none_missing (f ∷ g ∷ fs) (suc zero) n le x = cc x
none_missing (f ∷ g ∷ []) (suc (suc at)) n le x = omega arith
none_missing (f ∷ g ∷ h ∷ fs) (suc (suc zero)) n le x = cc x
none_missing (f ∷ g ∷ h ∷ fs) (suc (suc (suc at))) n le x = omega arith

pub returns : goal.returns
returns c =
    all_there (fields_of c.args.fields.now) _ _ _ (sym c.len.ensures ∙ c.if-len-ne3.false)
    (sym c.in_ok-get.ensures.value) (sym c.in_ok-get-2.ensures.value) (sym c.in_ok-get-3.ensures.value)

pub returns-in_err-get : goal.returns-in_err-get
returns-in_err-get c = absurd (none_missing (fields_of c.args.fields.now) 0 (sym c.len.ensures
    ∙ c.if-len-ne3.false) (omega arith) c.in_err-get.ensures.value)

pub returns-in_err-get-2 : goal.returns-in_err-get-2
returns-in_err-get-2 c =
    absurd (none_missing (fields_of c.args.fields.now) 1 (sym c.len.ensures ∙ c.if-len-ne3.false)
    (omega arith) c.in_err-get-2.ensures.value)

pub returns-in_err-get-3 : goal.returns-in_err-get-3
returns-in_err-get-3 c =
    absurd (none_missing (fields_of c.args.fields.now) 2 (sym c.len.ensures ∙ c.if-len-ne3.false)
    (omega arith) c.in_err-get-3.ensures.value)
