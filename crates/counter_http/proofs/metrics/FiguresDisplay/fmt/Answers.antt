use Rattle.std.proofs.Common.{List, codes, subst, ℕ}
use Rattle.std.specs.Fmt.{HasWritten}
use Rattle.counter_http.specs.Figures.{figures_text, refusals_text, sample}
use Rattle.counter_http.proofs.FiguresWritten.{eleven}
use Rattle.counter_http.proofs.metrics.FiguresDisplay.fmt.Goals as goal

pub returns-clause-writes : goal.returns-clause-writes
unfolding figures_text
returns-clause-writes g c plain ok =
    let figures = c.args.self.now in
    subst (λ (text : List ℕ). HasWritten g.W.Write.write_str_gives c.args.f.now text c.write.new.self)
    (eleven
    (codes "# HELP bank_postings_total Records replied to with outcome 00; one that is sent again counts again.\n# TYPE bank_postings_total counter\n")
    (sample (codes "bank_postings_total") figures.tally.posted) (refusals_text figures.tally)
    (codes "# HELP bank_records_total Records replied to.\n# TYPE bank_records_total counter\n")
    (sample (codes "bank_records_total") figures.tally.records)
    (codes "# HELP bank_commits_total Transactions by which those records were taken.\n# TYPE bank_commits_total counter\n")
    (sample (codes "bank_commits_total") figures.tally.commits)
    (codes "# HELP bank_connections Clients that are connected.\n# TYPE bank_connections gauge\n")
    (sample (codes "bank_connections") figures.connections)
    (codes "# HELP bank_uptime_seconds Seconds since the counter began to serve.\n# TYPE bank_uptime_seconds gauge\n")
    (sample (codes "bank_uptime_seconds") figures.seconds)) (c.write.ensures.writes plain ok)
