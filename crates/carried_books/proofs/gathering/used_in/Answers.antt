-- All rows of both kinds, and then their numbers in order.
use Rattle.std.proofs.Common.{rules, ◌≡◌, Err, refl}
use Rattle.bank_replays.proofs.{Exits.fails_by, Read.clean_before}
use Rattle.posting_rules.specs.declared.fault.Fault.TheVariants.{Memory}
use Rattle.carried_books.proofs.GatheredRows.{used_from_none}
use Rattle.carried_books.proofs.Told.{shows_later, told_any, told_beside, told_fails, told_then}
use Rattle.carried_books.proofs.gathering.used_in.Goals as goal

pub returns-in_err-gather_closed : goal.returns-in_err-gather_closed
returns-in_err-gather_closed g c =
    let fault = c.in_err-gather_closed.field-0.0 in
    let same : c.from_residual.result ≡ Err fault = fails_by c.from_residual.ensures.1 in
    record {
      reads = rw same (told_fails fault refl c.in_err-gather_closed.ensures.reads);
      rows = λ clean t shows. rw same tt;
    }

pub returns-in_err-gather_kept : goal.returns-in_err-gather_kept
returns-in_err-gather_kept g c =
    let fault = c.in_err-gather_kept.field-0.0 in
    let same : c.from_residual-in_err-gather_kept.result ≡ Err fault =
    fails_by c.from_residual-in_err-gather_kept.ensures.1 in
    record {
      reads = rw same (told_fails fault refl
          (told_then c.in_ok-gather_closed.ensures.reads c.in_err-gather_kept.ensures.reads));
      rows = λ clean t shows. rw same tt;
    }

pub returns-in_err-used : goal.returns-in_err-used
returns-in_err-used g c =
    let same : c.from_residual-in_err-used.result ≡ Err Memory = search rules in
    record {
      reads = rw same (told_beside (told_then c.in_ok-gather_closed.ensures.reads c.in_ok-gather_kept.ensures.reads)
          Memory refl);
      rows = λ clean t shows. rw same tt;
    }

pub returns : goal.returns
returns g c =
    let one = c.in_ok-gather_closed.ensures in
    let two = c.in_ok-gather_kept.ensures in
    record {
      reads = told_any (told_then one.reads two.reads) _;
      rows = λ clean t shows.
          let earlier = clean_before two.reads.bank clean in
          used_from_none t c.none-gathered.result c.gather_closed.new.gathered c.gather_kept.new.gathered
          c.in_ok-used.used.sealed c.in_ok-used.used.numbers c.none-gathered.ensures.sealed c.none-gathered.ensures.runs
          (one.rows earlier t shows) (two.rows clean t (shows_later one.reads earlier t shows))
          c.in_ok-used.ensures.sealed c.in_ok-used.ensures.numbers;
    }
