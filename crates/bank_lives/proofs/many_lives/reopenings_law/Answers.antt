-- A connection between two lives.
use Rattle.std.specs.Prelude.{IsSome}
use Rattle.sqlite.specs.Held.{state}
use Rattle.bank_store.specs.believed.Seen.{connection_of}
use Rattle.bank_lives.proofs.Quiet.{call_of_nothing, ends_quietly, released_call}
use Rattle.bank_lives.proofs.many_lives.reopenings_law.Goals as goal

pub returns-clause-opened : goal.returns-clause-opened
returns-clause-opened g c last opens left = record {
  remains = (state g.S.Store c.args.conn.now).now.trees;
  left = left;
  stands = λ t log are found shown. c.opened_law.ensures opens t log are found shown;
}

pub returns-clause-adopted : goal.returns-clause-adopted
returns-clause-adopted g c bank quiet stands =
    call_of_nothing (state g.S.Store c.args.conn.now) (state g.S.Store (connection_of bank)) quiet ⊥
    (IsSome bank.fault) (λ none. none) stands

pub returns-clause-refused : goal.returns-clause-refused
returns-clause-refused g c back quiet =
    ends_quietly (state g.S.Store c.args.conn.now) (state g.S.Store back) quiet ⊥ ⊥

pub returns-clause-released : goal.returns-clause-released
returns-clause-released g c bank same up = released_call g.S.Store bank c.args.conn.now same up
