-- Each field is of another name, or the first to state the length, or it ends the search.
use Rattle.std.proofs.Common.{◌≡◌, ◌+◌, List, ℕ, Option, Some, None, map, drop, get_or, codes, sym, ap, ◌∙◌}
use Rattle.httparse.specs.{Spans.header_bytes, declared.spans.HeaderSpan.HeaderSpan}
use Rattle.counter_http.specs.believed.Fields.{NamedValue, stated_length}
use Rattle.counter_http.proofs.Lengths.{at_field, length_after, length_is, named_so, on_stated, one_again, one_coded}
use Rattle.counter_http.proofs.Lengths.{one_length, one_other}
use Rattle.counter_http.proofs.fields.length_of_body.Goals.{then-are_alike-2+else-is_some+in_ok-length_stated}
use Rattle.counter_http.proofs.fields.length_of_body.Goals.{else-are_alike-2}
use Rattle.counter_http.proofs.fields.length_of_body.Goals as goal

abbrev here : List ℕ → List HeaderSpan → ℕ → NamedValue
here buf fields i = header_bytes buf (get_or fields i (record {
  name = record { start = 0; end = 0 };
  value = record { start = 0; end = 0 };
}))

abbrev after : List ℕ → List HeaderSpan → ℕ → List NamedValue
after buf fields i = map (header_bytes buf) (drop (i + 1) fields)

pub loop-field-init : goal.loop-field-init
loop-field-init c = length_is (map (header_bytes c.args.buf.now) c.args.fields.now)

pub loop-field-preserved : goal.loop-field-preserved
loop-field-preserved c =
    let f = here c.args.buf.now c.args.fields.now c.loop-field.field-index in
    let fs = after c.args.buf.now c.args.fields.now c.loop-field.field-index in
    let at = at_field _ _ (header_bytes c.args.buf.now) _ _ _ c.loop-field-test.true c.loop-field.invariant in
    let plain = named_so _ (codes "transfer-encoding") f _ _ c.of-name.ensures c.are_alike.ensures
    c.if-are_alike.false in
    elim c.if-are_alike-2.branch [
      | then-are_alike-2+else-is_some+in_ok-length_stated w ↦
          let named = named_so _ (codes "content-length") f _ _ c.of-name.ensures
          c.are_alike-in-loop-field.ensures w.if-are_alike-2.true in
          let length : stated_length f.1 ≡ Some w.in_ok-length_stated.field-0 =
          ap stated_length (sym w.of.ensures) ∙ sym w.length_stated.ensures ∙ w.in_ok-length_stated.was in
          one_length _ _ f fs at plain named (sym w.is_some.ensures ∙ w.if-is_some.false)
          ∙ ap (λ (o : Option ℕ). on_stated None o (λ p. length_after p fs)) length
          ∙ ap (λ (o : Option ℕ). length_after o fs) (sym w.stated-is)
      | else-are_alike-2 w ↦
          let other = named_so _ (codes "content-length") f _ _ c.of-name.ensures
          c.are_alike-in-loop-field.ensures w.if-are_alike-2.false in
          one_other _ _ f fs at plain other ∙ ap (λ (o : Option ℕ). length_after o fs) (sym w.stated-is)
    ]

pub returns-then-are_alike-clause-length : goal.returns-then-are_alike-clause-length
returns-then-are_alike-clause-length c =
    let f = here c.args.buf.now c.args.fields.now c.loop-field.field-index in
    one_coded _ _ f (after c.args.buf.now c.args.fields.now c.loop-field.field-index)
    (at_field _ _ (header_bytes c.args.buf.now) _ _ _ c.loop-field-test.true c.loop-field.invariant)
    (named_so _ (codes "transfer-encoding") f _ _ c.of-name.ensures c.are_alike.ensures c.if-are_alike.true)

pub returns-then-is_some-clause-length : goal.returns-then-is_some-clause-length
returns-then-is_some-clause-length c =
    let f = here c.args.buf.now c.args.fields.now c.loop-field.field-index in
    one_again _ _ f (after c.args.buf.now c.args.fields.now c.loop-field.field-index)
    (at_field _ _ (header_bytes c.args.buf.now) _ _ _ c.loop-field-test.true c.loop-field.invariant)
    (named_so _ (codes "transfer-encoding") f _ _ c.of-name.ensures c.are_alike.ensures c.if-are_alike.false)
    (named_so _ (codes "content-length") f _ _ c.of-name.ensures c.are_alike-in-loop-field.ensures
    c.if-are_alike-2.true)
    (sym c.is_some.ensures ∙ c.if-is_some.true)

pub returns-in_err-length_stated-clause-length : goal.returns-in_err-length_stated-clause-length
returns-in_err-length_stated-clause-length c =
    let f = here c.args.buf.now c.args.fields.now c.loop-field.field-index in
    let fs = after c.args.buf.now c.args.fields.now c.loop-field.field-index in
    let length : stated_length f.1 ≡ None =
    ap stated_length (sym c.of.ensures) ∙ sym c.length_stated.ensures ∙ c.in_err-length_stated.was in
    let said = one_length _ _ f fs
    (at_field _ _ (header_bytes c.args.buf.now) _ _ _ c.loop-field-test.true c.loop-field.invariant)
    (named_so _ (codes "transfer-encoding") f _ _ c.of-name.ensures c.are_alike.ensures c.if-are_alike.false)
    (named_so _ (codes "content-length") f _ _ c.of-name.ensures c.are_alike-in-loop-field.ensures
    c.if-are_alike-2.true)
    (sym c.is_some.ensures ∙ c.if-is_some.false) in
    c.from_residual.ensures ∙ sym (said ∙ ap (λ (o : Option ℕ). on_stated None o (λ p. length_after p fs)) length)
