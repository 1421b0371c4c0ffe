-- What a fault of the tables is, and what is printed of it.
use Rattle.std.specs.Prelude.{if◌then◌else◌, ◌++◌, ℕ, List, codes, Option, Some, None, Result, Ok, Err}
use Rattle.std.specs.Fmt.{decimal}
use Rattle.sqlite.specs.declared.error.Error.{Error}
use Rattle.posting_rules.specs.FaultTexts.{number_of_rule}
use Rattle.posting_rules.specs.declared.fault.Rule.TheVariants.{Key}
use Rattle.sql_meanings.specs.believed.StatementAnswers.{is_taken_key}
use Rattle.store_rows.specs.declared.fault.TableFault.{TableFault}
use Rattle.store_rows.specs.declared.fault.TableFault.TheVariants.{Sqlite, Damaged}

-- what an INSERT answers, as a call on the tables reports it: a taken key is no other error
abbrev pub added : Result ℕ Error → Result (Unit {0}) TableFault
added (Ok count) = Ok tt
added (Err e) = if is_taken_key e then Err (Damaged Key) else Err (Sqlite e)

-- what is printed of a broken rule; of an error of `sqlite` nothing is said
abbrev pub fault_text : TableFault → Option (List ℕ)
fault_text (Sqlite e) = None
fault_text (Damaged rule) = Some (codes "damaged rule " ++ decimal (number_of_rule rule))
