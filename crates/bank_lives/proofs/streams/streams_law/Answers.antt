-- Each stream, as a call of the counter's life.
use Rattle.bank_lives.proofs.Streamed.{acknowledged_is_taken, answered_left, drive_end, loaded_is_stream}
use Rattle.bank_lives.proofs.Streamed.{posted_is_stream, served_exit}
use Rattle.counter_http.specs.believed.Ends.{HasEnded}
use Rattle.bank_lives.proofs.streams.streams_law.Goals as goal

pub returns-clause-posted : goal.returns-clause-posted
returns-clause-posted g c r r' w w' k k' old new result did refused up =
    posted_is_stream g.C.Counter.seen g.C.Counter.reason old new r r' w w' k k' result did refused up

pub returns-clause-acknowledged : goal.returns-clause-acknowledged
returns-clause-acknowledged g c r r' w w' k k' old new result did h log shows =
    acknowledged_is_taken result did log h shows

pub returns-clause-served : goal.returns-clause-served
returns-clause-served g c r r' q q' w w' k k' old new result did up =
    served_exit g.C.Counter.seen (HasEnded r' q q') old new result did.stood did.taken did.refused did.rest
    did.last did.takes up did.honest_first did.honest did.exits

pub returns-clause-answered : goal.returns-clause-answered
returns-clause-answered g c r r' q q' w w' k k' old new result did h log stood =
    answered_left g.C.Counter.seen old new result did log h stood

pub returns-clause-loaded : goal.returns-clause-loaded
returns-clause-loaded g c old new openings fault answered did up honest =
    loaded_is_stream g.C.Counter.seen old new openings fault answered did up honest

pub returns-clause-driven : goal.returns-clause-driven
returns-clause-driven g c k k' old new seed count result did up =
    drive_end g.C.Counter.seen old new result k k' seed count did did.submits.ends up
