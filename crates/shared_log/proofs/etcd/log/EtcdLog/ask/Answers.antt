-- The transaction was written, and its answer read.
use Rattle.std.proofs.Common.{◌∙◌, ℕ, List, ap, subst}
use Rattle.std.specs.Io.KnownBytes.{Appends}
use Rattle.shared_log.specs.etcd.Answers.{Says}
use Rattle.shared_log.specs.etcd.Texts.{request_text}
use Rattle.shared_log.proofs.etcd.log.EtcdLog.ask.Goals as goal

pub returns-clause-asked : goal.returns-clause-asked
returns-clause-asked g c = record {
  body = c.in_ok-body.body.items;
  wrote = subst
      (λ (l : List ℕ). Appends (g.W.Sink.contents c.args.self.now.writer) (g.W.Sink.contents c.exchange.new.writer) l)
      (c.as_slice-2.ensures.value ∙ c.in-Ok.ensures
      ∙ ap (λ (l : List ℕ). request_text l c.count-place.result c.args.entries.now) c.as_slice.ensures.value
      ∙ ap (λ (n : ℕ). request_text c.args.self.now.name.items n c.args.entries.now) c.count-place.ensures)
      c.in_ok-body.ensures.wrote;
  came = c.in_ok-body.ensures.came;
  says = subst (λ (l : List ℕ). Says l c.in-Some.said) c.as_slice-3.ensures.value c.in-Some.ensures;
}
