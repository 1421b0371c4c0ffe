-- What the sender finds.
use Rattle.bank_lives.specs.believed.LifeStates.{seen_at}
use Rattle.bank_lives.proofs.Sent.{finds_sent}
use Rattle.bank_lives.proofs.many_lives.sender_law.Goals as goal

pub returns : goal.returns
returns g c start first sent before records answered some sends h =
    finds_sent (seen_at g.S.Store) start sent before records answered first some sends h
