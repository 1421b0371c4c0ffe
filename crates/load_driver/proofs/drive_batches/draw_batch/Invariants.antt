use Rattle.std.proofs.Common.{◌≡◌, ◌+◌, take}
use Rattle.load_driver.specs.believed.Records.{drawn}
use Rattle.load_driver.proofs.drive_batches.draw_batch.Given as goal

-- the places so far have the next records
abbrev pub invariant-loop-place : goal.invariant-loop-place
invariant-loop-place l = record {
  goes_on : l.driver ≡ record l.fn.driver { given = l.fn.driver.given + l.place-index };
  drawn : take l.place-index l.batch ≡ drawn l.fn.driver.rows l.fn.driver.seed l.fn.driver.given
      l.place-index;
}
