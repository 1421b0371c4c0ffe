use Rattle.csv.specs.Records.{fields_of}
use Rattle.std.proofs.lemmas.Result.{IfOk-weaker}
use Rattle.branch_loader.proofs.Remain.{takes}
use Rattle.branch_loader.proofs.records.ReaderRecordSource.next.Goals as goal

pub returns-clause-takes : goal.returns-clause-takes
returns-clause-takes g c =
    IfOk-weaker c.read_byte_record.result _ _
    (λ found read. λ rows left.
    takes g.R.Read.remaining c.args.self.now c.read_byte_record.new.self found
    (fields_of c.read_byte_record.new.row) rows
    c.requires.config left (read c.requires.trim c.requires.ready))
    c.read_byte_record.ensures.reads
