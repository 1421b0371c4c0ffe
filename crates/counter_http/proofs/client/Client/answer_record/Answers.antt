use Rattle.std.proofs.Common.{inl, inr, true, false, Bool}
use Rattle.std.specs.Prelude.{MatchBool, ◌⊎◌}
use Rattle.counter_http.proofs.client.Client.answer_record.Goals as goal

either : {P Q Z : Type 0} (b : Bool) → MatchBool b P Q → P ⊎ (Q ⊎ Z)
either true is = inl is
either false is = inr (inl is)

pub returns : goal.returns
returns g c = either c.answer_with.result c.answer_with.ensures
