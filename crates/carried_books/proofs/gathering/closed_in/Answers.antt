-- All rows, and then their numbers in order.
use Rattle.std.proofs.Common.{rules, ◌≡◌, Err, refl}
use Rattle.posting_rules.specs.declared.fault.Fault.TheVariants.{Memory}
use Rattle.bank_replays.proofs.Exits.{fails_by}
use Rattle.carried_books.proofs.GatheredRows.{closed_from_none}
use Rattle.carried_books.proofs.Told.{told_any, told_beside, told_fails}
use Rattle.carried_books.proofs.gathering.closed_in.Goals as goal

pub returns-in_err-gather_closed : goal.returns-in_err-gather_closed
returns-in_err-gather_closed g c =
    let fault = c.in_err-gather_closed.field-0.0 in
    let same : c.from_residual.result ≡ Err fault = fails_by c.from_residual.ensures.1 in
    record {
      reads = rw same (told_fails fault refl c.in_err-gather_closed.ensures.reads);
      rows = λ clean t shows. rw same tt;
    }

pub returns-in_err-used : goal.returns-in_err-used
returns-in_err-used g c =
    let same : c.from_residual-in_err-used.result ≡ Err Memory = search rules in
    record {
      reads = rw same (told_beside c.in_ok-gather_closed.ensures.reads Memory refl);
      rows = λ clean t shows. rw same tt;
    }

pub returns : goal.returns
returns g c =
    let it = c.in_ok-gather_closed.ensures in
    record {
      reads = told_any it.reads _;
      rows = λ clean t shows.
          closed_from_none t c.none-gathered.result c.gather_closed.new.gathered c.in_ok-used.used.sealed c.in_ok-used.used.numbers
          c.none-gathered.ensures.sealed c.none-gathered.ensures.runs (it.rows clean t shows) c.in_ok-used.ensures.sealed
          c.in_ok-used.ensures.numbers;
    }
