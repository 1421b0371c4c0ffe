-- Once all is posted the moment is free.
use Rattle.std.proofs.Common.{◌≡◌, Err, refl}
use Rattle.bank_replays.proofs.Filled.{moved}
use Rattle.bank_replays.proofs.Exits.{fails_by}
use Rattle.bank_replays.proofs.refill.Refill.make_room.Goals as goal

pub returns-clause-holds : goal.returns-clause-holds
returns-clause-holds g c sure plan log holds =
    let mid = c.in_ok-post.ensures.holds sure plan log holds in
    record {
      has = moved c.post.new.self.bank log c.post.new.self.moment c.args.moment c.post.new.self.batch.items
          c.in_ok-post.ensures.empty mid.has;
      yet = mid.yet;
    }

pub returns-in_err-post : goal.returns-in_err-post
returns-in_err-post g c =
    let same : c.from_residual.result ≡ Err c.in_err-post.field-0.0 = fails_by c.from_residual.ensures.1 in
    record {
      holds = λ sure plan log holds. rw same tt;
      moment = rw same tt;
      room = rw same tt;
      memory = rw same c.in_err-post.ensures.memory;
    }

pub returns-clause-moment : goal.returns-clause-moment
returns-clause-moment g c = refl

pub returns-clause-memory : goal.returns-clause-memory
returns-clause-memory g c = tt
