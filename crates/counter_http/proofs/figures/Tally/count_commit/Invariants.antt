use Rattle.std.proofs.Common.{take}
use Rattle.counter_http.specs.Figures.{Counts}
use Rattle.counter_http.proofs.figures.Tally.count_commit.Given as goal

-- the replies so far are counted
abbrev pub invariant-loop-reply : goal.invariant-loop-reply
invariant-loop-reply l = Counts l.fn.self l.self (take l.reply-index l.replies) 0
