use Rattle.std.proofs.Common.{inr}
use Rattle.counter_http.proofs.together.go_on_with.Goals as goal

-- it is written to and read
pub returns-in_default : goal.returns-in_default
returns-in_default g c = inr (record { between = c.write.new.self; writes = c.write.ensures; reads = c.read.ensures })
