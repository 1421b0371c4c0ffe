use Rattle.std.proofs.Common.{◌∷◌, [], Bool, ◌<◌, ◌≤◌, ℕ, List, length, take, drop, codes, bytes_eq, subst, sym, ap}
use Rattle.std.proofs.Common.{◌∙◌, arith, length-drop}
use Rattle.std.specs.Prelude.{not}
use Rattle.std.proofs.lemmas.Slice.{between_to_end}
use Rattle.counter_http.specs.{believed.Fields.body_length, believed.Fields.asks_to_close, believed.Answers.refusal}
use Rattle.counter_http.specs.believed.Messages.{No_body, closes}
use Rattle.counter_http.proofs.Heads.{asks_alike, closes_old, closes_asked, head_is, fields_say, no_length}
use Rattle.counter_http.proofs.Heads.{short_body, whole_message}
use Rattle.counter_http.proofs.next.after_head.Goals.{then-head-eq0, else-head-eq0}
use Rattle.counter_http.proofs.next.after_head.Goals as goal

pub returns-in_default : goal.returns-in_default
returns-in_default c =
    let buf = c.args.buf.now in
    let headers = c.args.fields.now in
    let r = c.args.head in
    let h = c.requires.head.0 in
    let at = c.requires.head.1 in
    let is = head_is buf headers r h c.requires.room c.requires.within at c.requires.bytes in
    record {
      ending = No_body h;
      ends = no_length buf r h is at.reads
          (sym (fields_say body_length buf headers r h at) ∙ sym c.in_default.ensures.length);
      answer = ap (λ (b : Bool). refusal (not b) ∷ [])
          (sym (c.is_head-shows_body.ensures
          ∙ ap (λ (m : List ℕ). bytes_eq m (codes "HEAD")) (c.of-method.ensures ∙ at.method)));
    }

pub returns-then-after-length : goal.returns-then-after-length
returns-then-after-length c =
    let buf = c.args.buf.now in
    let headers = c.args.fields.now in
    let r = c.args.head in
    let h = c.requires.head.0 in
    let at = c.requires.head.1 in
    let n = c.in-Some.length in
    let is = head_is buf headers r h c.requires.room c.requires.within at c.requires.bytes in
    let few : n ≤ 4096 = c.in-Some.ensures.few in
    let fits : r.len ≤ length buf = c.requires.within.section.len_fits in
    let short : length (drop r.len buf) < n =
    subst (λ (t : List ℕ). length t < n) (between_to_end buf r.len (length buf) (omega arith))
    c.if-after-length.true in
    record {
      ending = No_body h;
      ends = λ some. short_body buf r h n is at.reads
          (sym (fields_say body_length buf headers r h at) ∙ sym c.in-Some.ensures.length) short;
      answer = ap (λ (b : Bool). refusal (not b) ∷ [])
          (sym (c.is_head-shows_body.ensures
          ∙ ap (λ (m : List ℕ). bytes_eq m (codes "HEAD")) (c.of-method.ensures ∙ at.method)));
      room = omega (arith, c.requires.bytes, length-drop r.len buf);
    }

pub returns : goal.returns
returns c =
    let buf = c.args.buf.now in
    let headers = c.args.fields.now in
    let r = c.args.head in
    let h = c.requires.head.0 in
    let at = c.requires.head.1 in
    let n = c.in-Some.length in
    let is = head_is buf headers r h c.requires.room c.requires.within at c.requires.bytes in
    let fits : r.len ≤ length buf = c.requires.within.section.len_fits in
    let long : n ≤ length (drop r.len buf) =
    subst (λ (t : List ℕ). n ≤ length t) (between_to_end buf r.len (length buf) (omega arith))
    c.if-after-length.false in
    let w = whole_message buf r h n is at.reads at.len
    (sym (fields_say body_length buf headers r h at) ∙ sym c.in-Some.ensures.length) long in
    record {
      message = record { head = h; body = take n (drop r.len buf) };
      whole = w.0;
      front = w.1;
      long = w.2;
      asks = asks_alike _ h.method _ h.target _ _ _ (closes h) (c.of-method.ensures ∙ at.method)
          (c.of.ensures ∙ at.path)
          (ap (take n) (between_to_end buf r.len (length buf) (omega arith)))
          (elim c.if-head-eq0.branch [
            | then-head-eq0 w ↦ w.result-is ∙ closes_old h r.version at.version w.if-head-eq0.true
            | else-head-eq0 w ↦ w.result-is
                ∙ (w.ask_to_close.ensures ∙ fields_say asks_to_close buf headers r h at)
                ∙ closes_asked h r.version at.version w.if-head-eq0.false
          ]);
    }
