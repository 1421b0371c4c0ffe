-- What is said of dates, of a zone and of a reference that are none.
use Rattle.std.specs.Prelude.{ℕ, List, codes}
use Rattle.command_line.specs.declared.queries.QueryFault.{QueryFault}
use Rattle.command_line.specs.declared.queries.QueryFault.TheVariants.{From, Order, Reference, Sharing, To, Zone}

abbrev pub query_text : QueryFault → List ℕ
query_text From = codes "no date in --from"
query_text To = codes "no date in --to"
query_text Zone = codes "no zone in --zone"
query_text Order = codes "--to is before --from"
query_text Reference = codes "no reference in --reference"
query_text Sharing = codes "--quorum and --name go together"
