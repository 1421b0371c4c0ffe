-- The exit statuses of the program.
use Rattle.std.specs.Prelude.{ℕ, if◌then◌else◌, nat_lt}
use Rattle.std.specs.declared.io.ErrorKind.{ErrorKind}
use Rattle.std.specs.declared.io.ErrorKind.TheVariants.{OutOfMemory}
use Rattle.branch_loader.specs.declared.loader.Loaded.{Loaded}
use Rattle.command_line.specs.declared.status.Status.{Status}
use Rattle.command_line.specs.declared.status.Status.TheVariants.{Done, Usage, System, Input, Differs}
use Rattle.command_line.specs.declared.status.Status.TheVariants.{Inconsistent}

-- the number that the process ends with
abbrev pub number_of_status : Status → ℕ
number_of_status Done = 0
number_of_status Usage = 2
number_of_status System = 3
number_of_status Input = 4
number_of_status Differs = 5
number_of_status Inconsistent = 5

-- the status after a plan was loaded: one of its own if a branch of it is open with another count
abbrev pub status_of_loaded : Loaded → Status
status_of_loaded loaded = if nat_lt 0 loaded.differs then Differs else Done

-- the words couldn't be read: memory was refused, or one of them is no text
abbrev pub status_of_no_words : ErrorKind → Status
status_of_no_words OutOfMemory = System
status_of_no_words _ = Usage
