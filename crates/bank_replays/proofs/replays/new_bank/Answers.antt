-- A new bank shows the empty log.
use Rattle.bank_replays.proofs.replays.new_bank.Goals as goal

pub create-requires : goal.create-requires
create-requires g c = c.requires.autocommit

pub returns-in-Ok-clause-shows : goal.returns-in-Ok-clause-shows
returns-in-Ok-clause-shows g c sure = (c.in-Ok.ensures.made.stands (sure.clean c.in-Ok.bank.conn)).shows
