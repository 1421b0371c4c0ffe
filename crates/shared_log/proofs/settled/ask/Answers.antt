-- What was read is none, just these, or others.
use Rattle.std.proofs.Common.{rules, ◌≡◌, ◌∙◌, ℕ, List, length, true, false, ap, sym, arith}
use Rattle.std.proofs.lemmas.Slice.Eq.{bytes_eq-Decides, slice_eq-Decides}
use Rattle.std.proofs.lemmas.Grind.{common_steps}
use Rattle.shared_log.specs.Known.{with_more}
use Rattle.shared_log.proofs.settled.ask.Goals as goal

pub returns-then-eq-clause-found : goal.returns-then-eq-clause-found
returns-then-eq-clause-found g c =
    let same : c.in_ok-given.given.items ≡ c.args.entries.now =
    sym c.as_slice.ensures.value
    ∙ (slice_eq-Decides bytes_eq-Decides c.as_slice.result.now c.args.entries.now c.eq.result c.eq.ensures).0 c.if-eq.true in
    c.in_ok-given.ensures.given ∙ ap (λ (l : List (List ℕ)). with_more (g.L.SharedLog.known c.args.log.now) l) same

pub returns-clause-found : goal.returns-clause-found
returns-clause-found g c = record {
  others = c.in_ok-given.given.items;
  grows = c.in_ok-given.ensures.given;
  some = λ none. first_of (search rules, grind (arith, common_steps), omega (arith, ap length none));
  differ = λ same.
      let yes : c.eq.result ≡ true =
      (slice_eq-Decides bytes_eq-Decides c.as_slice.result.now c.args.entries.now c.eq.result c.eq.ensures).1
      (c.as_slice.ensures.value ∙ same) in
      let no : c.eq.result ≡ false = c.if-eq.false in
      absurd cc;
}
