-- The runs before the place are the same.
use Rattle.std.proofs.Common.{◌≡◌, drop}
use Rattle.posting_rules.proofs.FirstApart.{first_apart}
use Rattle.posting_rules.proofs.number_runs.NumberRuns.first_difference.Given as goal

abbrev pub invariant-loop-place : goal.invariant-loop-place
invariant-loop-place l = first_apart l.one l.two ≡ first_apart (drop l.place l.one) (drop l.place l.two)
