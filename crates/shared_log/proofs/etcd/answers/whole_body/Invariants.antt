-- What completes the decoder completes the first one, with what was read before.
use Rattle.http1.specs.Decoder.{decoder_for}
use Rattle.shared_log.specs.etcd.Answers.{limits}
use Rattle.shared_log.proofs.Pieces.{Goes}
use Rattle.shared_log.proofs.etcd.answers.whole_body.Given as goal

abbrev pub invariant-pieces : goal.invariant-pieces
invariant-pieces l = Goes (decoder_for limits l.fn.framing) l.decoder l.fn.bytes l.rest l.body.items
