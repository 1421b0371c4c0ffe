use Rattle.std.proofs.Common.{◌≡◌, length, subst, Bool}
use Rattle.std.specs.Prelude.{◌≢◌, MatchBool}
use Rattle.counter_http.proofs.Buffers.{some_left}
use Rattle.counter_http.proofs.client.Client.is_over.Goals as goal

-- some of its answers are left
pub returns-then-is_some-clause-goes_on : goal.returns-then-is_some-clause-goes_on
returns-then-is_some-clause-goes_on g c left over =
    let old = c.args.self.now in
    some_left old.output.items old.written old.written_within
    (subst (λ (is : Bool). MatchBool is (old.written ≡ length old.output.items) (old.written ≢ length old.output.items))
    left c.is_written.ensures) over.none
