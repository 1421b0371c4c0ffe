-- The texts of the faults of a drive.
use Rattle.std.specs.Prelude.{ℕ, List, codes}
use Rattle.posting_rules.specs.FaultTexts.{fault_text}
use Rattle.load_driver.specs.declared.drive_fault.DriveFault.{DriveFault}
use Rattle.load_driver.specs.declared.drive_fault.DriveFault.TheVariants.{NoBranches, Bank}

-- what `{}` writes of a fault
abbrev pub drive_text : DriveFault → List ℕ
drive_text NoBranches = codes "no branches"
drive_text (Bank fault) = fault_text fault
