use Rattle.std.proofs.Common.{◌∙◌, ℕ, ap, arith, length, refl, sym, take}
use Rattle.std.proofs.{Math.Seq.take-length, KnownBytes.Keeps-refl, lemmas.List.length-map}
use Rattle.std.proofs.lemmas.List.{length-take-le}
use Rattle.posting_rules.specs.{believed.Commands.Post, believed.Runs.posts, believed.Runs.replies_to}
use Rattle.posting_core.specs.believed.Batches.{joined}
use Rattle.posting_core.proofs.stream.reply_to_batch.Goals as goal

pub returns-in-Ok-write_out-clause-answers : goal.returns-in-Ok-write_out-clause-answers
returns-in-Ok-write_out-clause-answers g c =
    let bytes = c.as_flattened.result.now in
    let w = c.in-Ok-write_out.ensures.written in (
      c.now-moment.result,
      c.now-moment.ensures,
      record {
        written = take w.0 bytes;
        wrote = w.2;
        long = omega (
          arith,
          length-take-le w.0 bytes w.1,
          w.3,
          c.as_flattened.ensures.len,
          ap length c.deref.ensures.value,
          c.in-Ok.ensures.count,
        );
        takes = c.in-Ok.ensures.call.done;
        replies = λ h log s. ap (λ (n : ℕ). take n bytes) w.3 ∙ take-length bytes
            ∙ c.as_flattened.ensures.value
            ∙ ap joined (c.deref.ensures.value ∙ c.in-Ok.ensures.answer h log s);
        answers = c.in-Ok.replies.items;
        by_tables = c.in-Ok.ensures.by_tables;
        texts = ap (λ (n : ℕ). take n bytes) w.3 ∙ take-length bytes ∙ c.as_flattened.ensures.value
            ∙ ap joined c.deref.ensures.value;
      },
    )

pub returns-in-Ok-write_out-clause-calls : goal.returns-in-Ok-write_out-clause-calls
returns-in-Ok-write_out-clause-calls g c = c.in-Ok-write_out.ensures.flushed

pub returns-in-Err-clause-answers : goal.returns-in-Err-clause-answers
returns-in-Err-clause-answers g c = (
  c.now-moment.result,
  c.now-moment.ensures,
  record { wrote = Keeps-refl _; refuses = c.in-Err.ensures.call.fault },
)

pub returns-in-Err-clause-calls : goal.returns-in-Err-clause-calls
returns-in-Err-clause-calls g c = refl

pub returns-in-Err-clause-why : goal.returns-in-Err-clause-why
returns-in-Err-clause-why g c = c.in-Err.ensures.call.why

pub returns-in-Err-clause-down : goal.returns-in-Err-clause-down
returns-in-Err-clause-down g c down =
    let e = c.in-Err.ensures.call.down down in (cc e, c.in-Err.ensures.call.untried e)

pub returns-clause-answers : goal.returns-clause-answers
returns-clause-answers g c =
    let bytes = c.as_flattened.result.now in
    let w = c.in-Err-write_out.ensures.written in (
      c.now-moment.result,
      c.now-moment.ensures,
      record {
        written = take w.0 bytes;
        wrote = w.2;
        takes = c.in-Ok.ensures.call.done;
        replies = λ h log s. ap (take w.0) (c.as_flattened.ensures.value
            ∙ ap joined (c.deref.ensures.value ∙ c.in-Ok.ensures.answer h log s))
            ∙ ap (λ (n : ℕ). take n (joined (replies_to log (posts c.now-moment.result c.args.records.now))))
            (sym (length-take-le w.0 bytes w.1));
        answers = c.in-Ok.replies.items;
        by_tables = c.in-Ok.ensures.by_tables;
        texts = ap (take w.0) (c.as_flattened.ensures.value ∙ ap joined c.deref.ensures.value)
            ∙ ap (λ (n : ℕ). take n (joined c.in-Ok.replies.items)) (sym (length-take-le w.0 bytes w.1));
      },
    )

pub returns-clause-calls : goal.returns-clause-calls
returns-clause-calls g c = c.in-Err-write_out.ensures.failed

pub returns-in-Ok-write_out-clause-up : goal.returns-in-Ok-write_out-clause-up
returns-in-Ok-write_out-clause-up g c = c.in-Ok.ensures.call.up

pub returns-in-Ok-write_out-clause-why : goal.returns-in-Ok-write_out-clause-why
returns-in-Ok-write_out-clause-why g c = tt

pub returns-in-Ok-write_out-clause-honest : goal.returns-in-Ok-write_out-clause-honest
returns-in-Ok-write_out-clause-honest g c = c.in-Ok.ensures.call.honest

pub returns-in-Ok-write_out-clause-spares : goal.returns-in-Ok-write_out-clause-spares
returns-in-Ok-write_out-clause-spares g c = c.in-Ok.ensures.spares

pub returns-in-Err-clause-up : goal.returns-in-Err-clause-up
returns-in-Err-clause-up g c = tt

pub returns-in-Err-clause-honest : goal.returns-in-Err-clause-honest
returns-in-Err-clause-honest g c = c.in-Err.ensures.call.honest

pub returns-in-Err-clause-spares : goal.returns-in-Err-clause-spares
returns-in-Err-clause-spares g c = c.in-Err.ensures.spares

pub returns-clause-up : goal.returns-clause-up
returns-clause-up g c = c.in-Ok.ensures.call.up

pub returns-clause-why : goal.returns-clause-why
returns-clause-why g c = tt

pub returns-clause-honest : goal.returns-clause-honest
returns-clause-honest g c = c.in-Ok.ensures.call.honest

pub returns-clause-spares : goal.returns-clause-spares
returns-clause-spares g c = c.in-Ok.ensures.spares
