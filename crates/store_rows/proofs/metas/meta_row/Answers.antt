-- What the look-up reports.
use Rattle.sql_meanings.proofs.Texts.{only_reads}
use Rattle.store_rows.proofs.{Getting.gets, MetaRow.tells_meta, OtherValue.first_told}
use Rattle.store_rows.proofs.metas.meta_row.Goals as goal

pub returns-clause-says : goal.returns-clause-says
returns-clause-says g c = record {
  answers = λ clean rows has. tells_meta _ _ rows has c.row_under.result (c.row_under.ensures.answers clean);
  leaves = λ clean.
      let only = only_reads gets.meta.is c.args.tx.now.conn.now.schema in (
        c.row_under.ensures.leaves clean only,
        first_told _ _ _ _ c.row_under.result only
            (c.row_under.ensures.answers clean),
      );
  same_reference = c.row_under.ensures.same_reference;
  survives = c.row_under.ensures.survives;
}

pub returns-clause-asks : goal.returns-clause-asks
returns-clause-asks g c = c.row_under.ensures.answers
