use Rattle.std.proofs.Common.{◌≡◌, Err, refl}
use Rattle.posting_rules.specs.believed.Runs.{followed_by, posts}
use Rattle.bank_replays.proofs.Exits.{fails_by}
use Rattle.bank_replays.proofs.refill.Refill.post.Goals as goal

-- what was to be posted is posted
pub returns-clause-holds : goal.returns-clause-holds
returns-clause-holds g c sure plan log holds = record {
  has = record {
    posted = followed_by holds.has.posted (posts c.args.self.now.moment c.as_slice.result.now);
    shows = c.in_ok-post_batch.ensures.posts sure holds.has.posted holds.has.shows;
    comes = rw (c.clear.ensures, c.as_slice.ensures.value) holds.has.comes;
  };
  yet = holds.yet;
}

pub returns-in_err-post_batch : goal.returns-in_err-post_batch
returns-in_err-post_batch g c =
    let same : c.from_residual.result ≡ Err c.in_err-post_batch.field-0.0 = fails_by c.from_residual.ensures.1 in
    record {
      holds = λ sure plan log holds. rw same tt;
      planned = refl;
      empty = rw same tt;
      memory = rw same c.in_err-post_batch.ensures.memory;
    }

pub returns-clause-planned : goal.returns-clause-planned
returns-clause-planned g c = refl

pub returns-clause-empty : goal.returns-clause-empty
returns-clause-empty g c = c.clear.ensures

pub returns-clause-memory : goal.returns-clause-memory
returns-clause-memory g c = tt
