use Rattle.std.proofs.Common.{◌≡◌, ◌+◌, ◌^◌, arith, zero-add}
use Rattle.load_driver.specs.believed.Draw.{draw}
use Rattle.load_driver.proofs.draws.draw.Goals as goal

pub returns-clause-value : goal.returns-clause-value
unfolding draw
returns-clause-value c =
    let width : c.args.bound + 0 ≡ c.args.bound = omega arith in
    let part : ¬ (c.args.bound + 0 ≡ 2 ^ 64) = omega arith in
    let drawn = rw (width, zero-add, c.seed_from_u64.ensures) at (c.random_range.ensures.drawn.value part) in
    cc drawn
