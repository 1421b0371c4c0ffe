-- One piece more, the last one, and why one wasn't read.
use Rattle.std.proofs.Common.{◌≡◌, ◌≤◌, ◌+◌, ◌∙◌, pos, List, [], ◌∷◌, Option, Some, None, Err, length, map, refl, sym, subst, inl, inr, rules, arith, w64, to_z, of_z}
use Rattle.std.proofs.lemmas.{Int.to_z-of_z}
use Rattle.sqlite.specs.{Effect.Database, Held.Held, Held.state, State.HasCleanDisk}
use Rattle.posting_rules.specs.declared.fault.Rule.TheVariants.{Request}
use Rattle.store_rows.specs.believed.Rules.{IsBroken}
use Rattle.bank_transactions.specs.Causes.{IsFault, IsFirstBroken}
use Rattle.bank_transactions.proofs.Blamed.{comes, fault_within, same_moment}
use Rattle.walked_rows.specs.KeptRows.{HoldsKept, KeptItem, kept_item, kept_key}
use Rattle.walked_rows.specs.Rows.{items_after, items_from}
use Rattle.walked_rows.proofs.{Causes.nothing_called, Gathering.after_key}
use Rattle.bank_store.proofs.KeptRead.{no_request_broken}
use Rattle.bank_store.proofs.PiecesRead.{none_yet, piece_ends, piece_goes_on}
use Rattle.bank_store.proofs.{ReadsLeave.clean_before, StepsKeep.quiet_then, StepsKeep.still_then}
use Rattle.bank_store.proofs.StepsKeep.{still_undone, undone_then}
use Rattle.bank_store.specs.Walks.{IsStill}
use Rattle.bank_store.proofs.entries.read_entries.Given.{Over}
use Rattle.bank_store.proofs.entries.read_entries.Goals as goal

pub pieces-init : goal.pieces-init
pieces-init g c = record {
  some = omega arith;
  count = omega arith;
  room = c.requires.room;
  mode = c.requires.idle;
  still = λ clean. (refl, refl, refl, refl);
  survives = nothing_called (state g.S.Store c.args.conn.now);
  answers = λ clean all has.
      rw (after_key c.args.after (pos c.args.after) refl (omega (arith, c.requires.after)))
      (none_yet (items_from kept_key (pos (c.args.after + 1)) all) c.args.entries.now.items);
}

-- what is to come was to come at first
there : (g : Over) (old mid : Held g.row.S.Denot) (all : List KeptItem) → IsStill (state g.S.Store old) (state g.S.Store mid)
    → HoldsKept (state g.S.Store old).now all → HoldsKept (state g.S.Store mid).now all
there g old mid all still has = subst (λ (db : Database). HoldsKept db all) (sym still.0) has

some_rows : {X : Type 0} (rows : List X) → (rows ≡ [] → ⊥) → 1 ≤ length rows
some_rows [] none = absurd (none refl)
some_rows (x ∷ xs) none = omega arith

not_none : {X : Type 0} (x : X) → (let o : Option X = Some x in o) ≡ None → ⊥
not_none x is = cc

pub pieces-preserved : goal.pieces-preserved
pieces-preserved g c =
    let it = c.pieces.invariant in
    let old = c.args.conn.now in
    let mid = c.pieces.conn in
    let new = c.kept_outside.new.conn in
    let piece = c.in_ok-rest.ensures in
    let put = c.in_ok-later.ensures in
    let rows = c.as_slice.result.now in
    let whole : to_z w64 (of_z w64 c.in-Some.next) ≡ c.in-Some.next = search (rules, to_z-of_z) in
    let some : 1 ≤ length rows = some_rows rows
    (λ none. not_none c.in-Some.next (sym c.in-Some.is ∙ piece.ended (sym c.as_slice.ensures.value ∙ none))) in
    let before = λ (clean : HasCleanDisk (state g.S.Store new)).
    clean_before (state g.S.Store mid) (state g.S.Store new) c.kept_outside.ensures.survives clean in
    record {
      some = omega (arith, c.if-later-eq0.false);
      count = omega (arith, it.count, some, put.left, c.if-later-eq0.false);
      room = put.room;
      mode = c.kept_outside.ensures.mode;
      still = λ clean. still_then (state g.S.Store old) (state g.S.Store mid) (state g.S.Store new) (it.still (before clean)) (piece.same clean);
      survives = quiet_then (state g.S.Store old) (state g.S.Store mid) (state g.S.Store new) it.survives c.kept_outside.ensures.survives;
      answers = λ clean all has.
          rw whole (piece_goes_on _ _ _ rows c.pieces.left c.in_ok-later.later _ _ _ (omega (arith, it.count))
          (it.answers (before clean) all has)
          (rw (c.in-Some.is, sym c.as_slice.ensures.value)
          at (piece.answers clean all (there g old mid all (it.still (before clean)) has)))
          put.put put.each put.left (omega (arith, c.if-later-eq0.false)));
    }

pub returns-in_err-rest : goal.returns-in_err-rest
returns-in_err-rest g c =
    let it = c.pieces.invariant in
    let old = c.args.conn.now in
    let mid = c.pieces.conn in
    let new = c.kept_outside.new.conn in
    let piece = c.kept_outside.ensures in
    let fault = c.in_err-rest.field-0.0 in
    let same : c.from_residual.result ≡ Err fault = search rules in
    let before = λ (clean : HasCleanDisk (state g.S.Store new)).
    clean_before (state g.S.Store mid) (state g.S.Store new) piece.survives clean in
    rw same (record {
      answers = tt;
      cause = λ clean. fault_within (IsFirstBroken g.S.Store) g.S.Store old mid new new fault
          (λ rule broken. subst (IsBroken rule) (it.still (before clean)).0 broken) (comes it.survives)
          (same_moment (state g.S.Store new)) (c.in_err-rest.ensures.cause clean);
      same = λ clean. tt;
      undone = λ clean. undone_then (state g.S.Store old) (state g.S.Store mid) (state g.S.Store new) (it.still (before clean)) (piece.undone clean);
      mode = piece.mode;
      survives = quiet_then (state g.S.Store old) (state g.S.Store mid) (state g.S.Store new) it.survives piece.survives;
    })

-- a row is that of no request
pub returns-in_err-later : goal.returns-in_err-later
returns-in_err-later g c =
    let it = c.pieces.invariant in
    let old = c.args.conn.now in
    let mid = c.pieces.conn in
    let new = c.kept_outside.new.conn in
    let piece = c.in_ok-rest.ensures in
    let fault = c.in_err-later.field-0.0 in
    let same : c.from_residual-in_err-later.result ≡ Err fault = search rules in
    let damage = c.in_err-later.ensures.damage in
    let before = λ (clean : HasCleanDisk (state g.S.Store new)).
    clean_before (state g.S.Store mid) (state g.S.Store new) piece.survives clean in
    let still = λ (clean : HasCleanDisk (state g.S.Store new)).
    still_then (state g.S.Store old) (state g.S.Store mid) (state g.S.Store new) (it.still (before clean)) (piece.same clean) in
    rw same (record {
      answers = tt;
      cause = λ clean.
          subst (IsFault (IsFirstBroken g.S.Store) g.S.Store old new) (sym damage.0)
          (subst (IsBroken Request) (it.still (before clean)).0
          (no_request_broken g.S.Store mid new (to_z w64 c.pieces.from-bits) (map kept_item c.as_slice.result.now)
          (λ all. items_after kept_key c.in_ok-rest.rest all)
          (λ all has. rw (sym c.as_slice.ensures.value) at (piece.answers clean all has)) damage.1));
      same = λ clean. tt;
      undone = λ clean. still_undone (state g.S.Store old) (state g.S.Store new) (still clean);
      mode = piece.mode;
      survives = quiet_then (state g.S.Store old) (state g.S.Store mid) (state g.S.Store new) it.survives piece.survives;
    })

-- the last piece
pub returns-in_default : goal.returns-in_default
returns-in_default g c =
    let it = c.pieces.invariant in
    let old = c.args.conn.now in
    let mid = c.pieces.conn in
    let new = c.kept_outside.new.conn in
    let piece = c.in_ok-rest.ensures in
    let put = c.in_ok-later.ensures in
    let rows = c.as_slice.result.now in
    let before = λ (clean : HasCleanDisk (state g.S.Store new)).
    clean_before (state g.S.Store mid) (state g.S.Store new) piece.survives clean in
    let still = λ (clean : HasCleanDisk (state g.S.Store new)).
    still_then (state g.S.Store old) (state g.S.Store mid) (state g.S.Store new) (it.still (before clean)) (piece.same clean) in
    record {
      answers = λ clean all has.
          piece_ends _ _ _ rows c.pieces.left c.in_ok-later.later _ _ _ (omega (arith, it.count))
          (it.answers (before clean) all has)
          (rw (c.in_default.is, sym c.as_slice.ensures.value)
          at (piece.answers clean all (there g old mid all (it.still (before clean)) has)))
          put.put put.each put.left (inl refl);
      cause = λ clean. tt;
      same = still;
      undone = λ clean. still_undone (state g.S.Store old) (state g.S.Store new) (still clean);
      mode = piece.mode;
      survives = quiet_then (state g.S.Store old) (state g.S.Store mid) (state g.S.Store new) it.survives piece.survives;
    }

pub returns-then-later-eq0 : goal.returns-then-later-eq0
returns-then-later-eq0 g c =
    let it = c.pieces.invariant in
    let old = c.args.conn.now in
    let mid = c.pieces.conn in
    let new = c.kept_outside.new.conn in
    let piece = c.in_ok-rest.ensures in
    let put = c.in_ok-later.ensures in
    let rows = c.as_slice.result.now in
    let before = λ (clean : HasCleanDisk (state g.S.Store new)).
    clean_before (state g.S.Store mid) (state g.S.Store new) piece.survives clean in
    let still = λ (clean : HasCleanDisk (state g.S.Store new)).
    still_then (state g.S.Store old) (state g.S.Store mid) (state g.S.Store new) (it.still (before clean)) (piece.same clean) in
    record {
      answers = λ clean all has.
          piece_ends _ _ _ rows c.pieces.left c.in_ok-later.later _ _ _ (omega (arith, it.count))
          (it.answers (before clean) all has)
          (rw (sym c.as_slice.ensures.value)
          at (piece.answers clean all (there g old mid all (it.still (before clean)) has)))
          put.put put.each put.left (inr c.if-later-eq0.true);
      cause = λ clean. tt;
      same = still;
      undone = λ clean. still_undone (state g.S.Store old) (state g.S.Store new) (still clean);
      mode = piece.mode;
      survives = quiet_then (state g.S.Store old) (state g.S.Store mid) (state g.S.Store new) it.survives piece.survives;
    }

pub returns : goal.returns
returns g c =
    let it = c.pieces.invariant in
    absurd (omega (arith, it.some, it.count, c.pieces-test.false, c.pieces.auto.counter-end))
