-- One more is alike, and fewer are too.
use Rattle.std.proofs.Common.{◌≡◌, Bool, true, false, [], get_or, refl, arith}
use Rattle.std.specs.Prelude.{not}
use Rattle.std.proofs.lemmas.{List.take_more_same, Slice.Eq.bytes_eq-Decides}
use Rattle.shared_log.proofs.Along.{take_down}
use Rattle.shared_log.proofs.joining.alike.Goals as goal

equal : (e r : Bool) → r ≡ not e → r ≡ false → e ≡ true
equal true r is other = refl
equal false r is other = absurd cc

pub loop-i-init : goal.loop-i-init
loop-i-init c = refl

pub loop-i-preserved : goal.loop-i-preserved
loop-i-preserved c =
    let own = c.args.own.now in
    let given = c.args.given.now in
    let i = c.loop-i.i in
    take_more_same own given i [] (omega (arith, c.loop-i-test.true)) (omega (arith, c.loop-i-test.true))
    c.loop-i.invariant
    ((bytes_eq-Decides (get_or own i []) (get_or given i [])).0 (equal _ c.ne.result c.ne.ensures c.if-ne.false))

pub returns-clause-alike : goal.returns-clause-alike
returns-clause-alike c =
    take_down c.min-both.result c.loop-i.i c.args.own.now c.args.given.now (omega (arith, c.loop-i-test.false))
    c.loop-i.invariant
