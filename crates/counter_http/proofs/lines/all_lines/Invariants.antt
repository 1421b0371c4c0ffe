use Rattle.std.proofs.Common.{◌≡◌, ◌-◌, ◌≤◌, List}
use Rattle.std.specs.Prelude.{string_bytes}
use Rattle.posting_rules.specs.{declared.limits.TheConstants.LAST_BRANCH, believed.Commands.Command}
use Rattle.posting_rules.specs.{believed.Counter.ShowsLog}
use Rattle.counter_http.specs.{Listing.listed_line, believed.Answers.lines_up_to}
use Rattle.counter_http.proofs.Listed.{Asking}
use Rattle.counter_http.proofs.lines.all_lines.Given as goal

-- the lines up to a branch stand there
abbrev pub invariant-loop-body : goal.invariant-loop-body
invariant-loop-body g l = record {
  within : l.after ≤ LAST_BRANCH;
  asking : Asking g.C.Counter.seen l.fn.bank l.bank;
  spares : g.C.Counter.spares l.fn.bank l.bank;
  lines : (g.C.Counter.seen l.bank).honest → (log : List Command) → ShowsLog (g.C.Counter.seen l.fn.bank) log
      → string_bytes l.body ≡ lines_up_to (listed_line l.listing log) log l.after;
}

abbrev pub decreases-loop-body : goal.decreases-loop-body
decreases-loop-body g l = LAST_BRANCH - l.after
