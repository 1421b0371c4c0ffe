-- The row that was found names the branch, and is one of the plan's.
use Rattle.std.proofs.Common.{◌≡◌, Bool, true, false, cond, ℕ, [], ◌∷◌, Option, Some, None, refl, sym, ap, subst, ◌∙◌}
use Rattle.std.specs.Prelude.{◌==◌, All, IfSome}
use Rattle.std.proofs.lemmas.{Bool.eqb-true, List.Elements.All-head, List.Elements.All-tail}
use Rattle.branch_loader.specs.believed.Plans.{Row, Rows}
use Rattle.branch_loader.specs.{Following.row_of, Plans.IsRow}
use Rattle.branch_loader.proofs.followers.row_of.Goals as goal

one_of : (t : Bool) (b : ℕ) (q p : Row) (more : Option Row) → (q.0 == b) ≡ t → IsRow q
    → (more ≡ Some p → (p.0 ≡ b) × IsRow p) → cond t (Some q) more ≡ Some p → (p.0 ≡ b) × IsRow p
one_of true b q p more at here later is =
    let same : q ≡ p = cc in
    subst (λ (r : Row). (r.0 ≡ b) × IsRow r) same (eqb-true q.0 b at, here)
one_of false b q p more at here later is = later is

found_row : (b : ℕ) (rows : Rows) (p : Row) → All IsRow rows → row_of rows b ≡ Some p → (p.0 ≡ b) × IsRow p
found_row b [] p all is = absurd cc
found_row b (q ∷ qs) p all is =
    one_of (q.0 == b) b q p (row_of qs b) refl (All-head IsRow q qs all)
    (found_row b qs p (All-tail IsRow q qs all)) is

if_named : (b : ℕ) (rows : Rows) (result : Option Row) → All IsRow rows → result ≡ row_of rows b
    → IfSome result (λ row. row.0 ≡ b)
if_named b rows None all is = tt
if_named b rows (Some p) all is = (found_row b rows p all (sym is)).0

if_within : (b : ℕ) (rows : Rows) (result : Option Row) → All IsRow rows → result ≡ row_of rows b → IfSome result IsRow
if_within b rows None all is = tt
if_within b rows (Some p) all is = (found_row b rows p all (sym is)).1

pub returns : goal.returns
returns c = record {
  value = c.find_row.ensures ∙ ap (λ (l : Rows). row_of l c.args.branch) c.rows.ensures.rows;
  named = if_named c.args.branch c.rows.result.now c.find_row.result c.rows.ensures.plan.in_range c.find_row.ensures;
  within = if_within c.args.branch c.rows.result.now c.find_row.result c.rows.ensures.plan.in_range c.find_row.ensures;
}
