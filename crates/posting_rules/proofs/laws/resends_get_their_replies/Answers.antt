use Rattle.posting_rules.proofs.Resends.{adds_nothing, replies_in_place, shows_left_out, commands_left_out}
use Rattle.posting_rules.proofs.laws.resends_get_their_replies.Goals as goal

pub returns-clause-replies : goal.returns-clause-replies
returns-clause-replies c = adds_nothing

pub returns-clause-in_place : goal.returns-clause-in_place
returns-clause-in_place c = replies_in_place

pub returns-clause-tables : goal.returns-clause-tables
returns-clause-tables c = shows_left_out

pub returns-clause-commands : goal.returns-clause-commands
returns-clause-commands c = commands_left_out
