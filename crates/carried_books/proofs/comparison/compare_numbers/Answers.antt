-- The numbers are the same, and no request is a stray one.
use Rattle.std.proofs.Common.{◌≡◌, ◌∙◌, Err, refl, sym}
use Rattle.bank_replays.proofs.{Exits.fails_by, Read.clean_before}
use Rattle.carried_books.proofs.TablesCarried.{numbers_carry}
use Rattle.carried_books.proofs.Told.{shows_later, told_any, told_fails, told_then}
use Rattle.carried_books.proofs.comparison.compare_numbers.Goals as goal

pub returns-in_err-closed : goal.returns-in_err-closed
returns-in_err-closed g c =
    let fault = c.in_err-closed.field-0.0 in
    let same : c.from_residual.result ≡ Err fault = fails_by c.from_residual.ensures.1 in
    record {
      reads = rw same (told_fails fault refl c.in_err-closed.ensures.reads);
      none = λ clean is. absurd (let e = sym same ∙ is in cc);
    }

pub returns-then-closed : goal.returns-then-closed
returns-then-closed g c = record {
  reads = told_any c.in_ok-closed.ensures.reads _;
  none = λ clean is. absurd cc;
}

pub returns-in-Some : goal.returns-in-Some
returns-in-Some g c = record {
  reads = told_any c.in_ok-closed.ensures.reads _;
  none = λ clean is. absurd cc;
}

pub returns-in-Ok-None : goal.returns-in-Ok-None
returns-in-Ok-None g c =
    let one = c.in_ok-closed.ensures in
    let two = rw c.in-Ok-None.field-0-is at c.in-Ok-None.ensures in
    record {
      reads = told_any (told_then one.reads two.reads) _;
      none = λ clean is t shows.
          let earlier = clean_before two.reads.bank clean in
          numbers_carry c.args.desk c.args.used.now c.in_ok-closed.closed.numbers c.in_ok-closed.closed.sealed t
          (one.rows earlier t shows) c.if-closed.false
          (rw c.in_default.is at c.first_difference.ensures)
          (two.none clean refl t (shows_later one.reads earlier t shows));
    }

pub returns-in-Ok-Some : goal.returns-in-Ok-Some
returns-in-Ok-Some g c = record {
  reads = told_any (told_then c.in_ok-closed.ensures.reads c.in-Ok-Some.ensures.reads) _;
  none = λ clean is. absurd cc;
}

pub returns : goal.returns
returns g c = record {
  reads = told_fails c.in-Err.fault refl (told_then c.in_ok-closed.ensures.reads c.in-Err.ensures.reads);
  none = λ clean is. absurd cc;
}
