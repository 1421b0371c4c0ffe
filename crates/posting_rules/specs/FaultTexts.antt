-- The numbers of the rules, and the texts of faults.
use Rattle.std.specs.Prelude.{ℕ, List, ◌++◌, codes}
use Rattle.std.specs.Fmt.{decimal, signed_decimal}
use Rattle.posting_rules.specs.declared.fault.Fault.{Fault}
use Rattle.posting_rules.specs.declared.fault.Fault.TheVariants as fault
use Rattle.posting_rules.specs.declared.fault.Rule.{Rule}
use Rattle.posting_rules.specs.declared.fault.Rule.TheVariants.{Meta, Teller, Account, Balance, Request}
use Rattle.posting_rules.specs.declared.fault.Rule.TheVariants.{Value, Key, Floor, Reference, Closing}
use Rattle.posting_rules.specs.declared.open_fault.BankTable.{BankTable}
use Rattle.posting_rules.specs.declared.open_fault.BankTable.TheVariants as table
use Rattle.posting_rules.specs.declared.open_fault.OpenFault.{OpenFault}
use Rattle.posting_rules.specs.declared.open_fault.OpenFault.TheVariants as opening

abbrev pub number_of_rule : Rule → ℕ
number_of_rule Meta = 1
number_of_rule Teller = 2
number_of_rule Account = 3
number_of_rule Balance = 4
number_of_rule Request = 5
number_of_rule Value = 6
number_of_rule Key = 7
number_of_rule Floor = 8
number_of_rule Reference = 9
number_of_rule Closing = 10

-- what a counter's fault is written as
abbrev pub fault_text : Fault → List ℕ
fault_text fault.Memory = codes "no memory"
fault_text fault.Store = codes "store fault"
fault_text fault.Down = codes "down"
fault_text (fault.Damaged rule) = codes "damaged rule " ++ decimal (number_of_rule rule)

abbrev pub name_of_table : BankTable → List ℕ
name_of_table table.Meta = codes "meta"
name_of_table table.Branch = codes "branch"
name_of_table table.Teller = codes "teller"
name_of_table table.Account = codes "account"
name_of_table table.History = codes "history"
name_of_table table.Request = codes "request"
name_of_table table.Floor = codes "branch_floor"
name_of_table table.Reference = codes "request_reference"
name_of_table table.Closing = codes "closing"

-- what a fault is written as that comes where a bank is made or looked for
abbrev pub open_text : OpenFault → List ℕ
open_text opening.Store = codes "store fault"
open_text opening.NotBlank = codes "already a bank"
open_text opening.Blank = codes "no bank"
open_text opening.Foreign = codes "foreign tables"
open_text (opening.Version n) = codes "version " ++ signed_decimal n
open_text (opening.OtherTable t) = codes "table " ++ (name_of_table t ++ codes " is defined otherwise")
open_text (opening.Damaged rule) = codes "damaged rule " ++ decimal (number_of_rule rule)
