-- The rows so far are there.
use Rattle.std.proofs.Common.{◌≡◌, ◌+◌, ◌<◌, ℕ, Ok, false}
use Rattle.bank_transactions.specs.{believed.Additions.AddsRange, Doing.Leaves, Running.Writes}
use Rattle.bank_transactions.specs.NewRows.{is_taken, with_new_rows}
use Rattle.bank_transactions.proofs.new_branch.add_rows.Given as goal

abbrev pub invariant-loop-place : goal.invariant-loop-place
invariant-loop-place g l = record {
  writes : Writes g.S.Store (AddsRange l.kind l.first l.count) l.fn.tx l.tx
      (λ t. (n : ℕ) → n < l.count → is_taken l.kind (l.first + n) (with_new_rows l.kind l.first n t) ≡ false)
      (λ t. with_new_rows l.kind l.first l.place t) (Ok (tt {0}));
  leaves : Leaves {X = Unit {0}} g.S.Store l.fn.tx l.tx (λ t. with_new_rows l.kind l.first l.place t)
      (Ok (tt {0}));
}
