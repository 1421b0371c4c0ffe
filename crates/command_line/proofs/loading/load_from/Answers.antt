-- Each way out, by what ended it.
use Rattle.std.proofs.Common.{rules, ◌≡◌, Err}
use Rattle.command_line.specs.CommandFaults.{fault_of_bank, fault_of_plan}
use Rattle.command_line.specs.{declared.fault.CommandFault.TheVariants.Write, Working.Loads}
use Rattle.command_line.proofs.LoadEnds.{printed, refused, unprinted, unread}
use Rattle.command_line.proofs.Printed.{part_of}
use Rattle.command_line.proofs.loading.load_from.Goals as goal

pub returns-in_err-plan : goal.returns-in_err-plan
returns-in_err-plan g c =
    let fault = c.in_err-plan.field-0.0 in
    let same : c.from_residual.result ≡ Err (fault_of_plan fault) = search rules in
    let it = unread g.C.Counter.seen g.C.Counter.reason (g.W.Sink.contents c.args.output.now)
    (g.W.Sink.calls c.args.output.now) c.args.bank.now _ fault same
    c.in_err-plan.ensures in
    record {
      loads = it.loads;
      line = it.line;
      silent = it.silent;
      unprinted = it.unprinted;
      honest = λ h. h;
      spares = g.met.C.Counter.spares_itself c.args.bank.now;
    }

pub returns-in_err-loaded : goal.returns-in_err-loaded
returns-in_err-loaded g c =
    let fault = c.in_err-loaded.field-0.0 in
    let ended = c.in_err-loaded.ensures.fault in
    let same : c.from_residual-in_err-loaded.result ≡ Err (fault_of_bank fault) = search rules in
    let it = refused g.C.Counter.seen g.C.Counter.reason (g.W.Sink.contents c.args.output.now)
    (g.W.Sink.calls c.args.output.now) c.args.bank.now
    c.load.new.counter _ _ fault same c.in_ok-plan.ensures
    (record { answered = ended.0; after = ended.1; why = c.in_err-loaded.ensures.why }) in
    record {
      loads = it.loads;
      line = it.line;
      silent = it.silent;
      unprinted = it.unprinted;
      honest = c.in_err-loaded.ensures.spared.honest;
      spares = c.in_err-loaded.ensures.spared.others;
    }

pub returns-in_err-print_loaded : goal.returns-in_err-print_loaded
returns-in_err-print_loaded g c =
    let says = c.in_ok-loaded.ensures in
    let same : c.from_residual-in_err-print_loaded.result ≡ Err Write = search rules in
    let did : Loads c.in_ok-plan.plan (g.C.Counter.seen c.args.bank.now)
    (g.C.Counter.seen c.load.new.counter) c.in_ok-loaded.loaded =
    record { takes = says.done.takes; by_tables = says.done.by_tables; all = says.all; counts = says.counts } in
    let it = unprinted g.C.Counter.seen g.C.Counter.reason (g.W.Sink.contents c.args.output.now)
    (g.W.Sink.calls c.args.output.now) c.args.bank.now
    (g.W.Sink.contents c.print_loaded.new.output) (g.W.Sink.calls c.print_loaded.new.output) c.load.new.counter
    _ _ _ same c.in_ok-plan.ensures did (part_of c.in_err-print_loaded.ensures.prints.part)
    c.in_err-print_loaded.ensures.failed in
    record {
      loads = it.loads;
      line = it.line;
      silent = it.silent;
      unprinted = it.unprinted;
      honest = c.in_ok-loaded.ensures.spared.honest;
      spares = c.in_ok-loaded.ensures.spared.others;
    }

pub returns : goal.returns
returns g c =
    let says = c.in_ok-loaded.ensures in
    let did : Loads c.in_ok-plan.plan (g.C.Counter.seen c.args.bank.now)
    (g.C.Counter.seen c.load.new.counter) c.in_ok-loaded.loaded =
    record { takes = says.done.takes; by_tables = says.done.by_tables; all = says.all; counts = says.counts } in
    let it = printed g.C.Counter.seen g.C.Counter.reason (g.W.Sink.contents c.args.output.now)
    (g.W.Sink.calls c.args.output.now) c.args.bank.now
    (g.W.Sink.contents c.print_loaded.new.output) (g.W.Sink.calls c.print_loaded.new.output) c.load.new.counter
    _ _ c.in_ok-print_loaded.ensures.prints.line c.in_ok-plan.ensures did in
    record {
      loads = it.loads;
      line = it.line;
      silent = it.silent;
      unprinted = it.unprinted;
      honest = c.in_ok-loaded.ensures.spared.honest;
      spares = c.in_ok-loaded.ensures.spared.others;
    }
