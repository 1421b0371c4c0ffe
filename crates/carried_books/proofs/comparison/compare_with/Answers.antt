-- The balances are the same, and then the numbers.
use Rattle.std.proofs.Common.{refl}
use Rattle.bank_store.specs.believed.Seen.{database_of}
use Rattle.bank_replays.proofs.{Read.clean_before, Read.read_fails, Whys.why_memory}
use Rattle.carried_books.proofs.{Compared.told_due, Compared.told_first, Compared.standing_shown, TablesCarried.tables_carry}
use Rattle.carried_books.proofs.Told.{shows_later, told_any, told_fails, told_last, told_none, told_then}
use Rattle.carried_books.proofs.comparison.compare_with.Goals as goal

pub returns-then-not-used : goal.returns-then-not-used
returns-then-not-used g c = record {
  of_old = told_none _ _;
  of_new = told_none _ _;
  none = λ clean clean_new is. absurd cc;
}

pub returns-in-Ok-None : goal.returns-in-Ok-None
returns-in-Ok-None g c =
    let one = rw c.in-Ok-None.field-0-is at c.in-Ok-None.ensures in
    let two = c.compare_new.ensures in
    let read = told_first one in
    record {
      of_old = told_last (told_due one) c.compare_new.result two.beside;
      of_new = told_then read two.reads;
      none = λ clean clean_new is t u shows shows_new has.
          let earlier = clean_before two.reads.bank clean_new in
          tables_carry c.args.desk c.args.used.now.numbers c.args.used.now.sealed t u has c.if-not-used.false
          (standing_shown (database_of g.T.Store c.args.new.now) (database_of g.S.Store c.args.old.now) u t shows_new shows
          (one.same earlier clean refl))
          (two.none clean_new is u (shows_later read earlier u shows_new));
    }

pub returns-in-Ok-Some : goal.returns-in-Ok-Some
returns-in-Ok-Some g c =
    let one = rw c.in-Ok-Some.field-0-is at c.in-Ok-Some.ensures in
    record {
      of_old = told_any (told_due one) _;
      of_new = told_any (told_first one) _;
      none = λ clean clean_new is. absurd cc;
    }

pub returns-in-Err : goal.returns-in-Err
returns-in-Err g c =
    let one = c.in-Err.ensures in
    record {
      of_old = record { bank = read_fails _ one.due; why = why_memory _ refl };
      of_new = told_fails _ refl (told_first one);
      none = λ clean clean_new is. absurd cc;
    }
