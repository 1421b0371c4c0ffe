use Rattle.command_line.proofs.translating.translate_replies.Goals as goal

pub returns-in-None : goal.returns-in-None
returns-in-None g c = rw c.in-None.is c.translate_alone.ensures

pub returns-in-Some : goal.returns-in-Some
returns-in-Some g c = rw c.in-Some.is c.translate_beside.ensures
