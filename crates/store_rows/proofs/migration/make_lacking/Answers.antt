-- The tables are made, or why one isn't.
use Rattle.std.proofs.Common.{ℕ, Ok, Err, Result}
use Rattle.sqlite.specs.{State.State, declared.error.Error.Error}
use Rattle.store_rows.specs.{Creation.MakesAll, Migration.MakesLacking, Migration.lacking}
use Rattle.store_rows.proofs.Lacking.{lacking_made}
use Rattle.store_rows.proofs.migration.make_lacking.Goals as goal

answers : (from : ℕ) (old new : State) (r : Result (Unit {0}) Error) → MakesAll (lacking from) old new r
    → MakesLacking from old new r
answers from old new (Ok done) made = (lacking_made from old.now new.now made.0, made.1)
answers from old new (Err e) fails = fails

pub returns-clause-says : goal.returns-clause-says
returns-clause-says g c =
    let all = c.make_tables.ensures.says in
    record {
      same_reference = all.same_reference;
      answers = λ clean live. answers c.args.from _ _ c.make_tables.result (all.answers clean live);
      leaves = λ clean live. all.leaves clean live;
      survives = all.survives;
    }

pub returns-clause-failed : goal.returns-clause-failed
returns-clause-failed g c = c.make_tables.ensures.failed
