-- What a command says on standard error that reads what is typed at a terminal.
use Rattle.std.specs.Prelude.{ℕ, Bool, true, false, List, [], codes}
use Rattle.command_line.specs.declared.reading.Command.{Command}
use Rattle.command_line.specs.declared.reading.Command.TheVariants.{Decode, Encode, OnFile}
use Rattle.command_line.specs.declared.reading.Task.{Task}
use Rattle.command_line.specs.declared.reading.Task.TheVariants.{With}
use Rattle.command_line.specs.declared.reading.Work.{Work}
use Rattle.command_line.specs.declared.reading.Work.TheVariants.{Follow, Post}

-- what a work waits for that reads the input; nothing elsewhere
abbrev pub work_prompt : Work → List ℕ
work_prompt Post = codes "bank: waiting for records of 100 bytes; end with Ctrl-D\n"
work_prompt (Follow plan) = codes "bank: waiting for entries of 308 bytes; end with Ctrl-D\n"
work_prompt other = []

abbrev pub task_prompt : Task → List ℕ
task_prompt (With work) = work_prompt work
task_prompt other = []

-- what a command waits for, where its input is typed; nothing elsewhere, and nothing where it reads none
abbrev pub prompt_line : Bool → Command → List ℕ
prompt_line false command = []
prompt_line true (OnFile file task) = task_prompt task
prompt_line true Encode = codes "bank: waiting for a sheet of postings; end with Ctrl-D\n"
prompt_line true (Decode money sheet) = codes "bank: waiting for replies of 200 bytes; end with Ctrl-D\n"
prompt_line true other = []
