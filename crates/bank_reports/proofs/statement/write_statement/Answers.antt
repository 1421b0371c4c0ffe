-- What is asked for is the whole query.
use Rattle.std.proofs.Common.{subst}
use Rattle.report_contents.specs.declared.query.Query.{Query}
use Rattle.bank_store.specs.believed.Seen.{bank_seen}
use Rattle.bank_reports.specs.Statements.{StatesFileSelected, StatesSelected}
use Rattle.bank_reports.proofs.statement.write_statement.Goals as goal

pub returns : goal.returns
returns g c =
    let says = c.write_selected.ensures in
    let old = g.W.Sink.contents c.args.writer.now in
    let new = g.W.Sink.contents c.write_selected.new.writer in
    record {
      bank = subst (λ (q : Query). StatesSelected (bank_seen g.S.Store c.args.bank.now)
          (bank_seen g.S.Store c.write_selected.new.bank) c.args.account q old new c.write_selected.result)
          c.whole.ensures says.bank;
      file = λ clean up. subst (λ (q : Query). StatesFileSelected g.S.Store c.args.bank.now c.write_selected.new.bank
          c.args.account q old new c.write_selected.result) c.whole.ensures (says.file clean up);
      refused = says.refused;
      writer = says.writer;
      frugal = says.frugal;
      down = says.down;
      leaves = says.leaves;
    }
