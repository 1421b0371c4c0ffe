use Rattle.counter_http.proofs.Buffers.{told_within}
use Rattle.counter_http.proofs.client.Client.end_with.Goals as goal

pub invariant_of-self : goal.invariant_of-self
invariant_of-self g c = record {
  filled_within = c.args.self.now.filled_within;
  written_within = told_within c.args.self.now.output.items c.tell.new.writer.items _ c.args.self.now.written
      c.args.self.now.written_within c.tell.ensures.written.1;
}

pub invariant_of-self-in-Err : goal.invariant_of-self-in-Err
invariant_of-self-in-Err g c = record {
  filled_within = c.args.self.now.filled_within;
  written_within = told_within c.args.self.now.output.items c.tell.new.writer.items _ c.args.self.now.written
      c.args.self.now.written_within c.tell.ensures.written.1;
}
