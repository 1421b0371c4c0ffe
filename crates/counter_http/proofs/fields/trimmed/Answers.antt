use Rattle.std.proofs.Common.{◌≡◌, ℕ, List, length, reverse, slice_range, sym, ap, ◌∙◌, arith}
use Rattle.std.proofs.lemmas.List.{reverse-reverse}
use Rattle.httparse.specs.Grammar.{skip_ows, trim_ows}
use Rattle.httparse.proofs.TrimLemmas.{skip_ows_yes, skip_ows_no, slice_first, slice_last, slice_empty}
use Rattle.counter_http.proofs.fields.trimmed.Goals.{then-loop-start-test+else-is_white, else-loop-start-test}
use Rattle.counter_http.proofs.fields.trimmed.Goals.{then-loop-end-test+else-is_white-2, else-loop-end-test}
use Rattle.counter_http.proofs.fields.trimmed.Goals as goal

pub loop-end-init : goal.loop-end-init
unfolding trim_ows
loop-end-init c =
    let text = c.args.text.now in
    let here = slice_range text c.loop-start.start (length text) in
    let stays : skip_ows here ≡ here =
    elim c.loop-start-test.branch [
      | then-loop-start-test+else-is_white w ↦
          let first = slice_first _ _ _ w.loop-start-test.true (omega arith) in
          skip_ows_no first w.if-is_white.ensures
      | else-loop-start-test w ↦
          let empty = slice_empty text c.loop-start.start (length text) (omega arith) (omega arith) in
          ap skip_ows empty ∙ sym empty
    ] in (
      omega arith,
      omega arith,
      ap (λ (t : List ℕ). reverse (skip_ows (reverse t))) (c.loop-start.invariant.1 ∙ stays),
    )

pub loop-end-preserved : goal.loop-end-preserved
loop-end-preserved c =
    let last = slice_last c.args.text.now _ _ c.loop-end-test.true (omega arith) in (
      omega arith,
      omega arith,
      c.loop-end.invariant.2 ∙ ap reverse (skip_ows_yes last c.if-is_white-2.ensures),
    )

pub returns : goal.returns
returns c = elim c.loop-end-test.branch [
  | then-loop-end-test+else-is_white-2 w ↦
      let last = slice_last c.args.text.now _ _ w.loop-end-test.true (omega arith) in
      sym (c.loop-end.invariant.2 ∙ ap reverse (skip_ows_no last w.if-is_white-2.ensures) ∙ reverse-reverse _)
  | else-loop-end-test w ↦
      let empty = slice_empty c.args.text.now c.loop-start.start c.loop-end.end (omega arith) (omega arith) in
      sym (c.loop-end.invariant.2 ∙ ap (λ (t : List ℕ). reverse (skip_ows (reverse t))) empty ∙ sym empty)
]
