-- One creation after another, and how each may fail.
use Rattle.std.proofs.Common.{◌≡◌, ◌+◌, ◌-◌, ◌<◌, ◌≤◌, ℕ, List, length, length-drop, drop, slice_get, Some, Ok, Err}
use Rattle.std.proofs.Common.{inl, inr, refl, ap, rules, subst, sym, ◌∙◌, arith, false, IsTrue}
use Rattle.std.specs.List.{AllByRecursion}
use Rattle.sqlite.specs.{State.HasCleanDisk, Held.state, Table.Table}
use Rattle.sql_meanings.specs.Making.{CreatesOnly}
use Rattle.sql_meanings.proofs.Places.{all_later, all_weaker, each_at, later_at, some_at}
use Rattle.sql_meanings.proofs.Saying.{survives_both}
use Rattle.sqlite_rules.specs.Lists.{Has}
use Rattle.store_rows.specs.Creation.{MakesAll, all_texts}
use Rattle.store_rows.specs.believed.Failures.{changes}
use Rattle.store_rows.proofs.{CreateTexts.each_creates, MadeSoFar.Reached}
use Rattle.store_rows.proofs.CreationSteps.{begun_live, ends_made, makes_leave, one_more, then_fails}
use Rattle.store_rows.proofs.creation.make_tables.Goals as goal

-- the text at a place is the one after the first so many
text_at : (first at : ℕ) (it : List ℕ × Table) → first ≤ at → slice_get all_texts at ≡ Some it
    → slice_get (drop first all_texts) (at - first) ≡ Some it
text_at first at it past is =
    let same : first + (at - first) ≡ at = omega (arith, past) in
    later_at all_texts first (at - first) ∙ ap (slice_get all_texts) same ∙ is

-- what each of them makes
creates_at : (at : ℕ) (it : List ℕ × Table) → slice_get all_texts at ≡ Some it → CreatesOnly it.0 it.1
creates_at at it is =
    (each_at (λ (it : List ℕ × Table). CreatesOnly it.0 it.1 × (it.1.is_counted ≡ false)) all_texts each_creates at it
    is).0

-- none of them counts its rows
uncounted : (first : ℕ) → AllByRecursion (λ it. it.1.is_counted ≡ false) (drop first all_texts)
uncounted first =
    all_later (λ (it : List ℕ × Table). it.1.is_counted ≡ false) all_texts first
    (all_weaker (λ (it : List ℕ × Table). CreatesOnly it.0 it.1 × (it.1.is_counted ≡ false))
    (λ it. it.1.is_counted ≡ false) (λ it both. both.1) all_texts each_creates)

-- each is a text of ours
all_ours : AllByRecursion (λ it. Has changes it.0) all_texts
all_ours = (
  inl refl,
  (
    inr (inl refl),
    (
      inr (inr (inl refl)),
      (
        inr (inr (inr (inl refl))),
        (
          inr (inr (inr (inr (inl refl)))),
          (
            inr (inr (inr (inr (inr (inl refl))))),
            (
              inr (inr (inr (inr (inr (inr (inl refl)))))),
              (
                inr (inr (inr (inr (inr (inr (inr (inl refl))))))),
                (inr (inr (inr (inr (inr (inr (inr (inr (inl refl)))))))), tt),
              ),
            ),
          ),
        ),
      ),
    ),
  ),
)

pub make_table-requires : goal.make_table-requires
make_table-requires g c =
    let next = some_at all_texts c.loop-at.at (omega arith) in
    let text : c.make_text.result.now ≡ next.0.0 = rw next.1 at c.make_text.ensures in
    subst (Has changes) (sym text)
    (each_at (λ (it : List ℕ × Table). Has changes it.0) all_texts all_ours c.loop-at.at next.0 next.1)

pub loop-at-init : goal.loop-at-init
loop-at-init g c = record {
  past = omega arith;
  going = record {
    same_reference = refl;
    begun = λ clean live. inl (omega arith, refl);
    survives = search rules;
  };
}

pub loop-at-preserved : goal.loop-at-preserved
loop-at-preserved g c =
    let first = c.args.first in
    let at = c.loop-at.at in
    let past = c.loop-at.invariant.past in
    let so_far = c.loop-at.invariant.going in
    let next = some_at all_texts at (omega arith) in
    let has = text_at first at next.0 past next.1 in
    let text : c.make_text.result.now ≡ next.0.0 = rw next.1 at c.make_text.ensures in
    let here = c.in_ok-make_table.ensures in
    record {
      past = omega (arith, past);
      going = record {
        same_reference = here.same_reference ∙ so_far.same_reference;
        begun = λ clean live.
            let before : HasCleanDisk (state g.S.Store c.loop-at.tx.conn.now) = omega
            (arith, here.survives.clean) in
            let begun = so_far.begun before live in
            let still = begun_live (drop first all_texts) g.S.Store c.args.tx.now.conn.now c.loop-at.tx.conn.now
            (at - first) begun live in
            let answers = here.answers clean still next.0.1 (rw text (creates_at at next.0 next.1)) in
            inr (subst (λ n. Reached (drop first all_texts) (state g.S.Store c.args.tx.now.conn.now)
            (state g.S.Store c.make_table.new.tx.conn.now) n) (omega (arith, past))
            (one_more (drop first all_texts) g.S.Store c.args.tx.now.conn.now c.loop-at.tx.conn.now
            (state g.S.Store c.make_table.new.tx.conn.now) (at - first) next.0 has answers
            (here.leaves clean still).0 here.survives.counts begun));
        survives = survives_both _ _ _ so_far.survives here.survives;
      };
    }

pub returns-in_err-make_table-clause-says : goal.returns-in_err-make_table-clause-says
returns-in_err-make_table-clause-says g c =
    let first = c.args.first in
    let at = c.loop-at.at in
    let so_far = c.loop-at.invariant.going in
    let next = some_at all_texts at (omega arith) in
    let has = text_at first at next.0 c.loop-at.invariant.past next.1 in
    let text : c.make_text.result.now ≡ next.0.0 = rw next.1 at c.make_text.ensures in
    let e = c.in_err-make_table.field-0.0 in
    let here = c.in_err-make_table.ensures in
    let same : c.from_residual.result ≡ Err e = search rules in
    let old = c.args.tx.now.conn.now in
    let mid = c.loop-at.tx.conn.now in
    let new = state g.S.Store c.make_table.new.tx.conn.now in
    let fails : HasCleanDisk new → IsTrue old.in_transaction
    → MakesAll (drop first all_texts) (state g.S.Store old) new (Err e) = λ clean live.
    let before : HasCleanDisk (state g.S.Store mid) = omega (arith, here.survives.clean) in
    let begun = so_far.begun before live in
    let still = begun_live (drop first all_texts) g.S.Store old mid (at - first) begun live in
    then_fails (drop first all_texts) g.S.Store old mid new (at - first) next.0 has e still
    (rw text at (here.answers clean still next.0.1 (rw text (creates_at at next.0 next.1)))) begun in
    record {
      same_reference = here.same_reference ∙ so_far.same_reference;
      answers = λ clean live. rw same (fails clean live);
      leaves = λ clean live. rw same (makes_leave (drop first all_texts) (state g.S.Store old) new e (fails clean live));
      survives = survives_both _ _ _ so_far.survives here.survives;
    }

pub returns-in_err-make_table-clause-failed : goal.returns-in_err-make_table-clause-failed
returns-in_err-make_table-clause-failed g c clean live =
    let first = c.args.first in
    let at = c.loop-at.at in
    let so_far = c.loop-at.invariant.going in
    let e = c.in_err-make_table.field-0.0 in
    let here = c.in_err-make_table.ensures in
    let same : c.from_residual.result ≡ Err e = search rules in
    let old = c.args.tx.now.conn.now in
    let mid = c.loop-at.tx.conn.now in
    let before : HasCleanDisk (state g.S.Store mid) = omega (arith, here.survives.clean) in
    let still = begun_live (drop first all_texts) g.S.Store old mid (at - first) (so_far.begun before live) live in
    rw same (record { at = mid; before = so_far.survives; failed = (here.leaves clean still).1 })

pub returns-clause-says : goal.returns-clause-says
returns-clause-says g c =
    let first = c.args.first in
    let so_far = c.loop-at.invariant.going in
    let all : c.loop-at.at - first ≡ length (drop first all_texts) =
    omega (arith, length-drop first all_texts, c.loop-at.invariant.past) in
    let some : 0 < length (drop first all_texts) = omega (arith, length-drop first all_texts, c.requires) in
    let ends : HasCleanDisk (state g.S.Store c.loop-at.tx.conn.now) → IsTrue c.args.tx.now.conn.now.in_transaction
    → MakesAll (drop first all_texts) (state g.S.Store c.args.tx.now.conn.now) (state g.S.Store c.loop-at.tx.conn.now)
    (Ok tt) = λ clean live. ends_made (drop first all_texts) g.S.Store c.args.tx.now.conn.now c.loop-at.tx.conn.now
    (uncounted first) some (rw all at (so_far.begun clean live)) in
    record {
      same_reference = so_far.same_reference;
      answers = λ clean live. ends clean live;
      leaves = λ clean live. (ends clean live).1.0;
      survives = so_far.survives;
    }
