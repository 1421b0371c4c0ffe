-- What was read of records, without where it lies in memory.
use Rattle.std.specs.Prelude.{List, [], ◌∷◌, Result}
use Rattle.message_records.specs.declared.fault.Bad.{Bad}
use Rattle.message_records.specs.believed.Records.{RequestFields}
use Rattle.posting_batch.specs.declared.reads.Reads.{Reads}
use Rattle.posting_batch.specs.declared.reads.Reads.TheVariants.{One, Many}

abbrev pub reads_in : Reads → List (Result RequestFields Bad)
reads_in (One read) = read ∷ []
reads_in (Many reads) = reads.items
