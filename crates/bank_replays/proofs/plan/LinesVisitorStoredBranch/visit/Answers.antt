-- The line of a branch was written, or a prefix of it.
use Rattle.std.proofs.Common.{rules, ◌≡◌, ◌++◌, ℕ, List, Ok, Err, map, ap, ◌∙◌, refl}
use Rattle.walked_rows.specs.{Stored.branch_entry, StoredBeside.floor_entry}
use Rattle.bank_replays.specs.Writing.{plan_line, plan_lines}
use Rattle.bank_replays.specs.declared.fault.ReplayFault.TheVariants.{Write}
use Rattle.bank_replays.proofs.{Planned.line_more, Planned.one_line, Wrote.puts_part, Wrote.puts_visited}
use Rattle.bank_replays.proofs.Exits.{fails_by}
use Rattle.bank_replays.proofs.plan.LinesVisitorStoredBranch.visit.Goals as goal

pub returns-in_err-put-clause-part : goal.returns-in_err-put-clause-part
returns-in_err-put-clause-part g c first rows visited =
    let row = c.args.row in
    let those = map floor_entry c.args.self.now.floors.items in
    let text : c.as_str.result.now ≡ plan_line those (branch_entry row) = search rules in
    let same : c.from_residual.result ≡ Err Write = fails_by c.from_residual.ensures.1 in
    rw same (
      puts_part (g.W.Sink.contents first) (g.W.Sink.contents c.args.writer.now)
          (g.W.Sink.contents c.put.new.writer) (plan_lines those (map branch_entry rows))
          c.as_str.result.now _ visited
          (ap (λ (t : List ℕ). plan_lines those (map branch_entry rows) ++ t) (text ∙ one_line those (branch_entry row)))
          (Err Write) (record { text = c.in_err-put.ensures.err; more = tt; failed = c.in_err-put.ensures.failed; only = refl }),
      λ is. absurd cc,
    )

pub returns-clause-visited : goal.returns-clause-visited
returns-clause-visited g c first rows visited =
    let row = c.args.row in
    let those = map floor_entry c.args.self.now.floors.items in
    let text : c.as_str.result.now ≡ plan_line those (branch_entry row) = search rules in
    puts_visited (g.W.Sink.contents first) (g.W.Sink.contents c.args.writer.now)
    (g.W.Sink.contents c.put.new.writer) (plan_lines those (map branch_entry rows))
    c.as_str.result.now _ visited
    (ap (λ (t : List ℕ). plan_lines those (map branch_entry rows) ++ t) text ∙ line_more those rows row)
    (Ok tt) (record { text = c.in_ok-put.ensures.ok; more = c.in_ok-put.ensures.more; failed = tt; only = tt })
