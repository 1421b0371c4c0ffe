-- The old numbers were read first.
use Rattle.std.proofs.Common.{refl}
use Rattle.bank_replays.proofs.{Read.clean_before}
use Rattle.carried_books.proofs.Told.{shows_later, told_fails, told_other, told_then}
use Rattle.carried_books.proofs.comparison.compare_rows.Goals as goal

pub returns-in-Ok : goal.returns-in-Ok
returns-in-Ok g c =
    let one = c.in-Ok.ensures in
    let two = c.compare_with.ensures in
    record {
      of_old = told_then one.reads two.of_old;
      of_new = two.of_new;
      none = λ clean clean_new is t u shows shows_new.
          let earlier = clean_before two.of_old.bank clean in
          two.none clean clean_new is t u (shows_later one.reads earlier t shows) shows_new (one.rows earlier t shows);
    }

pub returns-in-Err : goal.returns-in-Err
returns-in-Err g c = record {
  of_old = told_fails _ refl c.in-Err.ensures.reads;
  of_new = told_other _ _ refl;
  none = λ clean clean_new is. absurd cc;
}
