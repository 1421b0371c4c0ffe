-- What a connection writes, said of the bytes that it reads alone, however they were cut, and what a crash
-- leaves.
use Rattle.std.specs.Prelude.{ℕ, List, length, take}
use Rattle.posting_rules.specs.believed.Commands.{Command}
use Rattle.posting_core.specs.believed.Stream.{acknowledged}
use Rattle.counter_http.specs.believed.Turns.{Turn, commands_of, answers_to}

-- ---- what a crash leaves

-- how many records had a byte of their answer accepted, when so many bytes of the answers to these messages
-- were
abbrev pub acknowledged_records : List Command → List Turn → ℕ → ℕ
acknowledged_records log turns n = length (commands_of (take (acknowledged (answers_to log turns) n) turns))
