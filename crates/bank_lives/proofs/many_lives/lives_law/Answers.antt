-- What is found after any number of lives, and what is left at each moment.
use Rattle.bank_lives.specs.believed.LifeStates.{seen_at}
use Rattle.bank_lives.proofs.ManyLived.{keeps_on, kept, left_of}
use Rattle.bank_lives.proofs.many_lives.lives_law.Goals as goal

pub returns-clause-found : goal.returns-clause-found
returns-clause-found g c start first lives some h =
    let it = kept (seen_at g.S.Store) start lives first some h in
    record { log = it.0; keeps = it.1; stands = it.2 }

pub returns-clause-on : goal.returns-clause-on
returns-clause-on g c start middle first earlier later led some h =
    let it = kept (seen_at g.S.Store) middle later first some h in
    record { log = it.0; keeps = keeps_on start middle it.0 earlier later led it.1; stands = it.2 }

pub returns-clause-left : goal.returns-clause-left
returns-clause-left g c start lives life first now last some lived ends h =
    left_of (seen_at g.S.Store) start lives life first now last some lived ends h
