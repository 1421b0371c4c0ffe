-- One slot more is filled.
use Rattle.std.proofs.Common.{◌<◌, ◌≡◌, ◌+◌, add-one, length, arith, refl, sym, subst, ◌∙◌}
use Rattle.sqlite.specs.Effect.{Database}
use Rattle.std.specs.Prelude.{⊤}
use Rattle.store_rows.specs.believed.Rules.{HoldsBank}
use Rattle.bank_transactions.proofs.FilledBatch.{nothing_asked}
use Rattle.bank_transactions.proofs.LookUps.{reads_none, reads_but, reads_so}
use Rattle.bank_transactions.proofs.Loops.{fill_more, all_filled, next_is}
use Rattle.bank_transactions.proofs.Partly.{all_bare, all_held, partly_next, partly_none}
use Rattle.bank_transactions.proofs.Exits.{clean_at, handed_on, survives_itself}
use Rattle.bank_transactions.proofs.slots.fill_all.Goals as goal

pub loop-slot-init : goal.loop-slot-init
loop-slot-init g c = record {
  says = reads_none (survives_itself _) (λ t so. refl);
  same = partly_none _ c.args.slots.now;
  stored = λ clean rows has. partly_none _ c.args.slots.now;
  own = λ clean. partly_none _ c.args.slots.now;
  remembers = c.requires;
}

pub loop-slot-preserved : goal.loop-slot-preserved
loop-slot-preserved g c =
    let fill = g.T.Slot.filled_from in
    let xs = c.args.slots.now in
    let ys = c.loop-slot.slots in
    let i = c.loop-slot.slot-index in
    let x = c.slot-item.result in
    let y = c.in_ok-slot.field-0 in
    let lt : i < length xs = omega arith in
    let so_far = c.loop-slot.invariant in
    let one = c.in_ok-slot.ensures in
    record {
      says = fill_more fill xs ys i x y lt c.slot-item.is so_far.says one.says
          (λ t so first. (so.0, next_is fill (g.T.Slot.Knows c.args.branches.now t) xs ys i x t lt first so.1));
      same = partly_next _ xs ys i (i + 1) x y (add-one i) lt one.same so_far.same;
      stored =
          λ clean rows has.
          let mid = clean_at one.says.says.survives clean in
          let there = subst (λ (db : Database). HoldsBank db rows) (sym (so_far.says.says.leaves mid).0.now) has in
          partly_next _ xs ys i (i + 1) x y (add-one i) lt (one.stored clean rows there)
          (so_far.stored mid rows has);
      own = λ clean. partly_next _ xs ys i (i + 1) x y (add-one i) lt (λ _. one.own clean)
          (so_far.own (clean_at one.says.says.survives clean));
      remembers = one.remembers;
    }

pub returns-in_err-slot : goal.returns-in_err-slot
returns-in_err-slot g c =
    let same = handed_on c.from_residual.result c.from_residual.ensures.1 in
    rw same (record {
      says = reads_but c.loop-slot.invariant.says c.in_err-slot.ensures.says;
      same = tt;
      stored = tt;
      own = tt;
      remembers = tt;
    })

pub returns-clause-says : goal.returns-clause-says
returns-clause-says g c =
    let xs = c.args.slots.now in
    let at_end : c.loop-slot.slot-index ≡ length xs = omega arith in
    reads_so c.loop-slot.invariant.says
    (λ t so. (so, λ e. e ∙ all_filled g.T.Slot.filled_from xs c.loop-slot.slot-index t at_end))

pub returns-clause-same : goal.returns-clause-same
returns-clause-same g c =
    let at_end : c.loop-slot.slot-index ≡ length c.args.slots.now = omega arith in
    all_bare g.T.Slot.bare c.args.slots.now c.loop-slot.slots c.loop-slot.slot-index at_end
    c.loop-slot.invariant.same

pub returns-clause-stored : goal.returns-clause-stored
returns-clause-stored g c clean rows has =
    let at_end : c.loop-slot.slot-index ≡ length c.args.slots.now = omega arith in
    all_held (g.T.Slot.KnowsRow c.args.branches.now c.args.floors.now rows) (g.T.Slot.Held rows) c.args.slots.now
    c.loop-slot.slots c.loop-slot.slot-index at_end (c.loop-slot.invariant.stored clean rows has)

pub returns-clause-own : goal.returns-clause-own
returns-clause-own g c clean =
    let at_end : c.loop-slot.slot-index ≡ length c.args.slots.now = omega arith in
    all_held (λ _. ⊤) g.T.Slot.Own c.args.slots.now
    c.loop-slot.slots c.loop-slot.slot-index at_end (c.loop-slot.invariant.own clean) (nothing_asked c.args.slots.now)

-- ---- what is remembered

pub fill-requires : goal.fill-requires
fill-requires g c = c.loop-slot.invariant.remembers

pub returns-clause-remembers : goal.returns-clause-remembers
returns-clause-remembers g c = c.loop-slot.invariant.remembers
