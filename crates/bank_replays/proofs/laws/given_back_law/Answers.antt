-- The requests that were given back.
use Rattle.bank_replays.proofs.GivenBack.{gives_back}
use Rattle.bank_replays.proofs.laws.given_back_law.Goals as goal

pub returns : goal.returns
returns g c = gives_back
