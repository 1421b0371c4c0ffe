use Rattle.std.proofs.Common.{ℕ, List, take, refl, sym, ap, subst, ◌∙◌, rules}
use Rattle.std.specs.Io.KnownBytes.{Consumes}
use Rattle.std.proofs.KnownBytes.{Consumes-kept}
use Rattle.posting_core.proofs.{Transferred.read_more, Telling.made_one, Telling.other_kind, Telling.read_ended}
use Rattle.posting_core.proofs.{Telling.read_failed, transfer.read_full.Goals.in-Ok, transfer.read_full.Goals.in-Err}
use Rattle.posting_core.proofs.transfer.read_full.Goals as goal

pub returns-in-Ok-eq0-clause-ended : goal.returns-in-Ok-eq0-clause-ended
returns-in-Ok-eq0-clause-ended g c short =
    read_ended c.fill_buffer.result c.in-Ok-eq0.field-0 c.reads.invariant.made c.fill_buffer.ensures.tells c.in-Ok-eq0.is
    c.in-Ok-eq0.field-0-test

pub returns-in-Err-2-clause-failed : goal.returns-in-Err-2-clause-failed
returns-in-Err-2-clause-failed g c =
    read_failed c.fill_buffer.result c.in-Err.e c.reads.invariant.made c.fill_buffer.ensures.tells c.in-Err.is
    (other_kind c.kind.result c.in-Err.e c.if-eq.ensures c.kind.ensures)

pub reads-preserved : goal.reads-preserved
reads-preserved g c =
    let before = g.R.Source.remaining c.args.reader.now in
    let now = g.R.Source.remaining c.reads.reader in
    let after = g.R.Source.remaining c.fill_buffer.new.reader in
    let old = take c.reads.filled c.reads.buffer in
    let new = take c.match-fill_buffer.filled c.fill_buffer.new.buffer in
    elim c.match-fill_buffer.branch [
      | in-Ok w ↦ record {
        within = search rules;
        read =
            let (bytes, grown, consumed) = w.in-Ok.ensures.ok in
            read_more before now after old new bytes c.reads.invariant.read consumed
            (ap (λ (k : ℕ). take k c.fill_buffer.new.buffer) w.filled-is ∙ grown);
        made = made_one _ _ c.reads.invariant.made c.fill_buffer.ensures.tells refl;
      }
      | in-Err w ↦ record {
        within = search rules;
        read =
            let (kept, same) = w.in-Err.ensures.err in
            Consumes-kept before now after new
            (subst (λ (t : List ℕ). Consumes before now t) (sym
            (ap (λ (k : ℕ). take k c.fill_buffer.new.buffer) w.filled-is ∙ same)) c.reads.invariant.read) kept;
        made = made_one _ _ c.reads.invariant.made c.fill_buffer.ensures.tells refl;
      }
    ]
