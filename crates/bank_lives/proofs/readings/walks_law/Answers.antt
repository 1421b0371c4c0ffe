-- A step of a walk, as a call of a life or its end.
use Rattle.std.proofs.Common.{subst}
use Rattle.std.specs.Prelude.{IsSome}
use Rattle.sqlite.specs.Held.{state}
use Rattle.bank_store.specs.believed.Seen.{connection_of}
use Rattle.bank_lives.proofs.Quiet.{call_of_nothing, ends_quietly, still_stands}
use Rattle.bank_lives.proofs.readings.walks_law.Goals as goal

pub returns : goal.returns
returns g c = record {
  stepped = λ old new up still same quiet.
      let was = state g.S.Store (connection_of old) in
      let now = state g.S.Store (connection_of new) in
      let Down = IsSome old.fault in
      let Broken = IsSome new.fault in
      call_of_nothing was now quiet Down Broken up
      (still_stands was now quiet Down Broken (λ some. up (subst (λ f. IsSome f) same some)) still);
  failed = λ old new quiet.
      ends_quietly (state g.S.Store (connection_of old)) (state g.S.Store (connection_of new)) quiet
      (IsSome old.fault) (IsSome new.fault);
}
