use Rattle.load_driver.specs.believed.Draw.{words_after, generator}
use Rattle.load_driver.proofs.draws.words_of.Goals as goal

pub returns : goal.returns
unfolding words_after generator
returns c = c.seed_from_u64.ensures
