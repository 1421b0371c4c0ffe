-- What is said where the look for a bank's file fails, where no bank is opened, and where a plan or a sheet isn't
-- read.
use Rattle.std.specs.Prelude.{⊤}
use Rattle.std.specs.declared.io.ErrorKind.{ErrorKind}
use Rattle.std.specs.declared.io.ErrorKind.TheVariants as kind
use Rattle.branch_loader.specs.declared.fault.PlanFault.TheVariants.{Csv}
use Rattle.command_line.specs.declared.fault.CommandFault.{CommandFault}
use Rattle.command_line.specs.declared.fault.CommandFault.TheVariants.{Memory, NoBank, NoSheet, Plan, Store}

-- a file that isn't there, or that is below something that is no folder, is no bank
abbrev pub fault_of_look : ErrorKind → CommandFault
fault_of_look kind.NotFound = NoBank
fault_of_look kind.NotADirectory = NoBank
fault_of_look kind.OutOfMemory = Memory
fault_of_look _ = Store

-- the fault is one of those
abbrev pub IsOfLook : CommandFault → Type 0
IsOfLook NoBank = ⊤
IsOfLook Memory = ⊤
IsOfLook Store = ⊤
IsOfLook _ = ⊥

-- a plan whose file isn't opened is an unreadable one
abbrev pub fault_of_plan_file : ErrorKind → CommandFault
fault_of_plan_file kind.OutOfMemory = Memory
fault_of_plan_file _ = Plan Csv

-- the fault is one of those
abbrev pub IsOfPlanFile : CommandFault → Type 0
IsOfPlanFile Memory = ⊤
IsOfPlanFile (Plan Csv) = ⊤
IsOfPlanFile _ = ⊥

-- a sheet of postings that isn't opened is an unreadable one; what opens plans opens it
abbrev pub fault_of_sheet_file : CommandFault → CommandFault
fault_of_sheet_file Memory = Memory
fault_of_sheet_file _ = NoSheet

-- the fault is one of those
abbrev pub IsOfSheetFile : CommandFault → Type 0
IsOfSheetFile Memory = ⊤
IsOfSheetFile NoSheet = ⊤
IsOfSheetFile _ = ⊥
