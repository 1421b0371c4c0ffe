-- The requests are counted, and then the log is followed.
use Rattle.std.proofs.Common.{rules, ◌≡◌, Err, Ok, refl}
use Rattle.std.proofs.KnownBytes.{Keeps-refl}
use Rattle.bank_store.proofs.{AsFound.as_found_spares, Spared.call_spares}
use Rattle.command_line.specs.CommandFaults.{fault_of_bank}
use Rattle.bank_commands.proofs.{FollowTold.counted_spares, Unwritten.bank_not_write}
use Rattle.bank_commands.proofs.following.follow_counting.Goals as goal

pub returns-in_err-requests : goal.returns-in_err-requests
returns-in_err-requests g c =
    let cause = c.in_err-requests.field-0.0 in
    let same : c.from_residual.result ≡ Err (fault_of_bank cause) = search rules in
    let it = c.in_err-requests.ensures in
    record {
      follows = record {
        counted = Err cause;
        stood = c.count_requests.new.bank;
        counts = record {
          rows = λ clean version decided has. tt;
          log = λ clean log shows. tt;
          sound = it.sound;
          why = it.why;
          frugal = it.frugal;
          reads = it.reads;
          same = λ clean. tt;
        };
        follows = (same, Keeps-refl (g.W.Sink.contents c.args.output.now), refl, refl);
      };
      unprinted = λ is. bank_not_write cause (cc (same, is));
      spares = as_found_spares g.S.Store c.args.bank.now c.count_requests.new.bank it.reads.leaves;
    }

pub returns : goal.returns
returns g c =
    let it = c.in_ok-requests.ensures in
    record {
      follows = record {
        counted = Ok c.in_ok-requests.requests;
        stood = c.count_requests.new.bank;
        counts = record {
          rows = it.rows;
          log = it.log;
          sound = it.sound;
          why = it.why;
          frugal = it.frugal;
          reads = it.reads;
          same = it.same;
        };
        follows = c.follow_into.ensures.follows;
      };
      unprinted = c.follow_into.ensures.unprinted;
      spares = counted_spares g.S.Store c.args.bank.now c.count_requests.new.bank c.follow_into.new.bank it.same
          (as_found_spares g.S.Store c.args.bank.now c.count_requests.new.bank it.reads.leaves)
          (call_spares g.S.Store c.count_requests.new.bank c.follow_into.new.bank c.follow_into.ensures.spares);
    }
