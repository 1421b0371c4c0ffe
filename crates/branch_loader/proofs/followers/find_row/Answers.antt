-- The first row of the branch is the one before which there is none.
use Rattle.std.proofs.Common.{◌≡◌, ◌<◌, ◌≤◌, ◌+◌, ◌++◌, ◌∷◌, [], ◌∙◌, ℕ, Bool, false, cond, length, take, drop}
use Rattle.std.proofs.Common.{get_or, Option, Some, None, refl, sym, ap, subst, add-one, inl, inr, arith}
use Rattle.std.specs.Prelude.{◌==◌}
use Rattle.std.specs.Option.{option_or}
use Rattle.std.proofs.Math.Seq.{drop-cons}
use Rattle.std.proofs.lemmas.{Bool.cases_Bool, Bool.eq-eqb, Bool.eqb-true, List.Folds.find-append, List.take-append-drop}
use Rattle.std.proofs.lemmas.{List.take_all, List.take_more}
use Rattle.branch_loader.specs.{Following.row_of, believed.Plans.Row, believed.Plans.Rows}
use Rattle.branch_loader.proofs.followers.find_row.Goals as goal

not_named : (n b : ℕ) → (n ≡ b → ⊥) → (n == b) ≡ false
not_named n b other = elim (cases_Bool (n == b)) [
  | inl t ↦ absurd (other (eqb-true n b t))
  | inr f ↦ f
]

-- after rows of which none is the branch's
after_none : (b : ℕ) (xs ys : Rows) → row_of xs b ≡ None → row_of (xs ++ ys) b ≡ row_of ys b
after_none b xs ys none =
    find-append (λ (p : Row). p.0 == b) xs ys ∙ ap (λ (x : Option Row). option_or x (row_of ys b)) none

none_more : (b : ℕ) (xs : Rows) (p : Row) → row_of xs b ≡ None → (p.0 ≡ b → ⊥) → row_of (xs ++ p ∷ []) b ≡ None
none_more b xs p none other =
    after_none b xs (p ∷ []) none ∙ ap (λ (t : Bool). cond t (Some p) None) (not_named p.0 b other)

found_at : (b : ℕ) (rows : Rows) (i : ℕ) (p : Row) → i < length rows → p ≡ get_or rows i p → row_of (take i rows) b ≡ None
    → p.0 ≡ b → Some p ≡ row_of rows b
found_at b rows i p low is none named =
    let parts : drop i rows ≡ get_or rows i p ∷ drop (i + 1) rows = rw add-one (drop-cons rows i p low) in
    let here : drop i rows ≡ p ∷ drop (i + 1) rows = parts ∙ ap (λ (q : Row). q ∷ drop (i + 1) rows) (sym is) in
    sym (ap (λ (l : Rows). row_of l b) (sym (take-append-drop i rows))
    ∙ after_none b (take i rows) (drop i rows) none
    ∙ ap (λ (l : Rows). row_of l b) here
    ∙ ap (λ (t : Bool). cond t (Some p) (row_of (drop (i + 1) rows) b)) (eq-eqb p.0 b named))

pub loop-row-preserved : goal.loop-row-preserved
loop-row-preserved c =
    let rows = c.args.rows.now in
    let i = c.loop-row.row-index in
    let p = c.row-item.result in
    let more : take (i + 1) rows ≡ take i rows ++ p ∷ [] = take_more rows i p (omega arith) ∙ rw
    (← c.row-item.is) refl in
    let other : p.0 ≡ c.args.branch → ⊥ = λ named. omega (arith, named) in
    subst (λ (l : Rows). row_of l c.args.branch ≡ None) (sym more)
    (none_more c.args.branch (take i rows) p c.loop-row.invariant other)

pub returns-then-get-branch : goal.returns-then-get-branch
returns-then-get-branch c =
    let low : c.loop-row.row-index < length c.args.rows.now = omega arith in
    let named : c.row-item.result.0 ≡ c.args.branch = omega arith in
    found_at c.args.branch c.args.rows.now c.loop-row.row-index c.row-item.result low c.row-item.is
    c.loop-row.invariant named

pub returns : goal.returns
returns c =
    let high : length c.args.rows.now ≤ c.loop-row.row-index = omega arith in
    sym (ap (λ (l : Rows). row_of l c.args.branch) (sym (take_all c.loop-row.row-index c.args.rows.now high))
    ∙ c.loop-row.invariant)
