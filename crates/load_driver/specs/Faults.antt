-- The texts of the faults of a driver.
use Rattle.std.specs.Prelude.{ℕ, List, codes}
use Rattle.load_driver.specs.declared.driver.DriverFault.{DriverFault}
use Rattle.load_driver.specs.declared.driver.DriverFault.TheVariants.{Empty, Memory}

abbrev pub driver_text : DriverFault → List ℕ
driver_text Empty = codes "no branches"
driver_text Memory = codes "no memory"
