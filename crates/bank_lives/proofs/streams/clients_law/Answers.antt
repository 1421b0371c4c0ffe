-- Clients that are served at once, as a call of the counter's life.
use Rattle.counter_http.specs.Connections.{known_ends}
use Rattle.bank_lives.proofs.Streamed.{listened_is_stream}
use Rattle.bank_lives.proofs.streams.clients_law.Goals as goal

pub returns : goal.returns
returns g c calls calls' k k' old new count result did up =
    listened_is_stream g.C.Counter.seen g.C.Counter.reason (known_ends g.D.Reader.Source.remaining g.D.Reader.Source.calls
    g.D.Reader.Source.beside g.D.Writer.Sink.contents g.D.Writer.Sink.calls) calls calls' k k' old new count result did up
