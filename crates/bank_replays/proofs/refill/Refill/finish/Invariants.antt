-- The branches so far are open.
use Rattle.std.proofs.Common.{ℕ, List, Option}
use Rattle.posting_rules.specs.believed.Commands.{Command, Terms}
use Rattle.bank_replays.specs.Refilling.{Holds, IsNeverInDoubt, IsPlan, OpensBelow}
use Rattle.bank_replays.proofs.refill.Refill.finish.Given as goal

abbrev pub invariant-branches : goal.invariant-branches
invariant-branches g l = record {
  below : IsNeverInDoubt g.T.Store → (plan : ℕ → Option Terms) → IsPlan plan → (log : List Command)
      → Holds g.T.Store plan log l.fn.self → OpensBelow g.T.Store plan log l.branch l.self;
}
