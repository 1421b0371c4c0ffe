use Rattle.std.proofs.Common.{◌≡◌, true, take, refl, inr, rules, arith, is_ok}
use Rattle.std.proofs.{KnownBytes.Consumes-trans, KnownBytes.Consumes-kept, lemmas.Grind.common_steps}
use Rattle.posting_core.proofs.Telling.{made_one, other_kind, read_ended, read_failed}
use Rattle.posting_core.proofs.Transferred.{read_more}
use Rattle.branch_loader.proofs.text.read_text.Goals as goal
use Rattle.branch_loader.proofs.text.read_text.Goals.{in-Ok+else-is_err, in-Err}

pub returns-in-Ok-eq0-clause-ended : goal.returns-in-Ok-eq0-clause-ended
returns-in-Ok-eq0-clause-ended g c =
    read_ended c.give.result c.in-Ok-eq0.field-0 c.reads.invariant.made c.give.ensures.tells c.in-Ok-eq0.is
    c.in-Ok-eq0.field-0-test

pub returns-then-is_err-clause-read : goal.returns-then-is_err-clause-read
returns-then-is_err-clause-read g c =
    (_, Consumes-trans _ _ _ _ _ c.reads.invariant.read c.in-Ok.ensures.bytes.0, tt)

pub returns-in-Err-2-clause-fault : goal.returns-in-Err-2-clause-fault
returns-in-Err-2-clause-fault g c =
    inr (
      refl,
      read_failed c.give.result c.in-Err.e c.reads.invariant.made c.give.ensures.tells c.in-Err.is
          (other_kind c.kind.result c.in-Err.e c.if-eq.ensures c.kind.ensures),
    )

pub reads-preserved : goal.reads-preserved
reads-preserved g c =
    elim c.match-give.branch [
      | in-Ok+else-is_err w ↦ record {
        read =
            let good : is_ok w.extend_from_slice.result ≡ true = search rules in
            let all = rw good at w.extend_from_slice.ensures.items in
            rw w.text-is (read_more _ _ _ c.reads.text.items w.extend_from_slice.new.self.items
            (take w.in-Ok.n c.give.new.buffer) c.reads.invariant.read w.in-Ok.ensures.bytes.0
            (grind (arith, common_steps, all)));
        made = made_one _ _ c.reads.invariant.made c.give.ensures.tells refl;
      }
      | in-Err w ↦ record {
        read = rw w.text-is
            (Consumes-kept _ _ _ c.reads.text.items c.reads.invariant.read w.in-Err.ensures.bytes);
        made = made_one _ _ c.reads.invariant.made c.give.ensures.tells refl;
      }
    ]
