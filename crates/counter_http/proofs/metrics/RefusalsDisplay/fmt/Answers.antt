use Rattle.std.proofs.Common.{List, codes, subst, ℕ}
use Rattle.std.specs.Fmt.{HasWritten}
use Rattle.counter_http.specs.Figures.{refusals_text, sample}
use Rattle.counter_http.proofs.FiguresWritten.{one_by_one}
use Rattle.counter_http.proofs.metrics.RefusalsDisplay.fmt.Goals as goal

pub returns-clause-writes : goal.returns-clause-writes
unfolding refusals_text
returns-clause-writes g c plain ok =
    let t = c.args.self.now.0 in
    subst (λ (text : List ℕ). HasWritten g.W.Write.write_str_gives c.args.f.now text c.write.new.self)
    (one_by_one
    (codes "# HELP bank_refusals_total Records replied to with another outcome; one that is sent again counts again.\n# TYPE bank_refusals_total counter\n")
    (sample (codes "bank_refusals_total{outcome=\"11\"}") t.no_teller)
    (sample (codes "bank_refusals_total{outcome=\"12\"}") t.wrong_branch)
    (sample (codes "bank_refusals_total{outcome=\"13\"}") t.no_account)
    (sample (codes "bank_refusals_total{outcome=\"14\"}") t.over_limit)
    (sample (codes "bank_refusals_total{outcome=\"15\"}") t.reused_number)
    (sample (codes "bank_refusals_total{outcome=\"16\"}") t.full)
    (sample (codes "bank_refusals_total{outcome=\"17\"}") t.below_floor)
    (sample (codes "bank_refusals_total{outcome=\"18\"}") t.closed)
    (sample (codes "bank_refusals_total{outcome=\"19\"}") t.sealed)
    (sample (codes "bank_refusals_total{outcome=\"90\"}") t.malformed)) (c.write.ensures.writes plain ok)
