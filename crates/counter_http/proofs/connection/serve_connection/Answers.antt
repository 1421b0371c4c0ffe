use Rattle.std.proofs.Common.{Err}
use Rattle.counter_http.specs.declared.fault.ServeFault.TheVariants.{Memory}
use Rattle.posting_core.proofs.Telling.{adds-none}
use Rattle.counter_http.proofs.{Connected.untouched, Prompts.prompt_none, Outputs.output_of, Outputs.survives_of}
use Rattle.counter_http.proofs.connection.serve_connection.Goals as goal

-- memory for the routes was refused
pub returns-in_default : goal.returns-in_default
returns-in_default g c =
    record {
      served = untouched g.C.Counter.seen c.args.bank.now;
      output = output_of g.C.Counter.seen {k = g.K.Clock.readings c.args.clock.now} c.args.bank.now c.args.bank.now
          (Err Memory) (untouched g.C.Counter.seen c.args.bank.now);
      survives = survives_of g.C.Counter.seen {q = g.R.Source.calls c.args.reader.now}
          {k = g.K.Clock.readings c.args.clock.now} c.args.bank.now c.args.bank.now (Err Memory)
          (untouched g.C.Counter.seen c.args.bank.now);
      ends = (adds-none _, adds-none _);
      prompt = prompt_none;
      why = tt;
      honest = λ h. h;
      spares = g.met.C.Counter.spares_itself c.args.bank.now;
    }

-- memory for the buffer was refused
pub returns-in_default-vec : goal.returns-in_default-vec
returns-in_default-vec g c =
    record {
      served = untouched g.C.Counter.seen c.args.bank.now;
      output = output_of g.C.Counter.seen {k = g.K.Clock.readings c.args.clock.now} c.args.bank.now c.args.bank.now
          (Err Memory) (untouched g.C.Counter.seen c.args.bank.now);
      survives = survives_of g.C.Counter.seen {q = g.R.Source.calls c.args.reader.now}
          {k = g.K.Clock.readings c.args.clock.now} c.args.bank.now c.args.bank.now (Err Memory)
          (untouched g.C.Counter.seen c.args.bank.now);
      ends = (adds-none _, adds-none _);
      prompt = prompt_none;
      why = tt;
      honest = λ h. h;
      spares = g.met.C.Counter.spares_itself c.args.bank.now;
    }

-- messages were answered
pub returns : goal.returns
returns g c =
    record {
      served = c.serve.ensures.served;
      output = output_of g.C.Counter.seen c.args.bank.now c.serve.new.bank c.serve.result c.serve.ensures.served;
      survives = survives_of g.C.Counter.seen c.args.bank.now c.serve.new.bank c.serve.result c.serve.ensures.served;
      ends = c.serve.ensures.ends;
      prompt = c.serve.ensures.prompt;
      why = c.serve.ensures.why;
      honest = λ h. c.serve.ensures.served.honest_first (c.serve.ensures.served.honest h);
      spares = c.serve.ensures.spares;
    }
