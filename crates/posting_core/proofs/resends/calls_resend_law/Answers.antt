use Rattle.posting_core.proofs.Again.{submitted, submitted_all}
use Rattle.posting_core.proofs.resends.calls_resend_law.Goals as goal

pub returns-clause-submit : goal.returns-clause-submit
returns-clause-submit g c old new moment bytes result call answer =
    submitted _ _ _ old new moment bytes result call answer

pub returns-clause-submit_all : goal.returns-clause-submit_all
returns-clause-submit_all g c old new moment records result call answer =
    submitted_all _ _ _ old new moment records result call answer
