-- What logs show of the rows that were compared.
use Rattle.bank_replays.proofs.Leaves.{only_read}
use Rattle.carried_books.proofs.{Shown.carries_shown, TablesCarried.numbered, Told.shown_before}
use Rattle.carried_books.proofs.comparison.compare_books.Goals as goal

pub returns : goal.returns
returns g c =
    let it = c.compare_rows.ensures in
    record {
      carries = λ clean clean_new is one two shows shows_new.
          carries_shown c.args.desk shows.tables shows_new.tables one two shows.shows shows_new.shows
          (it.none clean clean_new is shows.tables shows_new.tables
          (shown_before it.of_old is clean shows.tables shows.are)
          (shown_before it.of_new is clean_new shows_new.tables shows_new.are)
          (numbered shows.tables one shows.commands shows.shows)
          (numbered shows_new.tables two shows_new.commands shows_new.shows));
      old_reads = only_read _ it.of_old.bank;
      new_reads = only_read _ it.of_new.bank;
      old_why = it.of_old.why;
      new_why = it.of_new.why;
    }
