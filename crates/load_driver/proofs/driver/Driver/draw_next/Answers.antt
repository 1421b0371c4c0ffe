use Rattle.std.proofs.Common.{◌<◌, ◌*◌, ◌∙◌, ℕ, arith, ap, refl}
use Rattle.posting_rules.specs.declared.limits.TheConstants.{TELLERS_PER_BRANCH}
use Rattle.load_driver.specs.{declared.driver.TheConstants.MAX_RECORDS, believed.Requests.request_at}
use Rattle.load_driver.proofs.DrivenRecords.{stepped}
use Rattle.load_driver.proofs.driver.Driver.draw_next.Goals as goal

pub overflow_add-number : goal.overflow_add-number
overflow_add-number c =
    let w = c.take_words-words.ensures c.self.inside.seed c.self.inside.given c.self.invariant.words_at in
    let s = stepped c.self.inside.rows.items c.self.inside.counts.items c.self.inside.seed c.self.inside.given
    c.take_words-words.result.teller c.draw-place.result c.index.result.now
    (TELLERS_PER_BRANCH * c.len.result) c.self.invariant.plan c.self.invariant.counts_at w.teller
    (ap (λ (n : ℕ). TELLERS_PER_BRANCH * n) (c.len.ensures ∙ c.self.inside.rows.ok.0))
    c.draw-place.ensures.value c.draw-place.ensures.below c.index.ensures in
    let few = s.few in
    let given = c.self.invariant.within in
    omega arith

pub request_by-requires-clause-last : goal.request_by-requires-clause-last
request_by-requires-clause-last c =
    let w = c.take_words-words.ensures c.self.inside.seed c.self.inside.given c.self.invariant.words_at in
    let s = stepped c.self.inside.rows.items c.self.inside.counts.items c.self.inside.seed c.self.inside.given
    c.take_words-words.result.teller c.draw-place.result c.index.result.now
    (TELLERS_PER_BRANCH * c.len.result) c.self.invariant.plan c.self.invariant.counts_at w.teller
    (ap (λ (n : ℕ). TELLERS_PER_BRANCH * n) (c.len.ensures ∙ c.self.inside.rows.ok.0))
    c.draw-place.ensures.value c.draw-place.ensures.below c.index.ensures in
    let given : c.self.inside.given < MAX_RECORDS = rw (← c.self.view_is) at c.requires in
    let few = s.few in
    omega arith

pub invariant_of-self : goal.invariant_of-self
invariant_of-self c =
    let w = c.take_words-words.ensures c.self.inside.seed c.self.inside.given c.self.invariant.words_at in
    let s = stepped c.self.inside.rows.items c.self.inside.counts.items c.self.inside.seed c.self.inside.given
    c.take_words-words.result.teller c.draw-place.result c.index.result.now
    (TELLERS_PER_BRANCH * c.len.result) c.self.invariant.plan c.self.invariant.counts_at w.teller
    (ap (λ (n : ℕ). TELLERS_PER_BRANCH * n) (c.len.ensures ∙ c.self.inside.rows.ok.0))
    c.draw-place.ensures.value c.draw-place.ensures.below c.index.ensures in
    let given : c.self.inside.given < MAX_RECORDS = rw (← c.self.view_is) at c.requires in
    record {
      plan = c.self.invariant.plan;
      some = c.self.invariant.some;
      within = omega arith;
      words_at = w.left;
      counts_at = s.counted;
    }

pub returns-clause-value : goal.returns-clause-value
unfolding request_at
returns-clause-value c =
    let w = c.take_words-words.ensures c.self.inside.seed c.self.inside.given c.self.invariant.words_at in
    let s = stepped c.self.inside.rows.items c.self.inside.counts.items c.self.inside.seed c.self.inside.given
    c.take_words-words.result.teller c.draw-place.result c.index.result.now
    (TELLERS_PER_BRANCH * c.len.result) c.self.invariant.plan c.self.invariant.counts_at w.teller
    (ap (λ (n : ℕ). TELLERS_PER_BRANCH * n) (c.len.ensures ∙ c.self.inside.rows.ok.0))
    c.draw-place.ensures.value c.draw-place.ensures.below c.index.ensures in
    rw (← c.self.view_is)
    (c.request_by.ensures.value
    ∙ rw (c.as_slice.ensures.value, w.choice, w.account, w.amount, s.count, s.here) refl)
