-- What a CREATE TABLE leaves.
use Rattle.std.proofs.Common.{ℕ, List, [], Ok, Err, Result}
use Rattle.std.specs.Prelude.{IfErr}
use Rattle.sqlite.specs.{State.State, State.ExecutesInside, declared.error.Error.Error}
use Rattle.sql_meanings.proofs.{MakeFailures.makes_told, Makings.kept_inside}
use Rattle.sqlite_rules.specs.Lists.{Has}
use Rattle.store_rows.specs.believed.Failures.{Changing, HasFailed, changes}
use Rattle.store_rows.proofs.CreateTexts.{sequence}
use Rattle.store_rows.proofs.creation.make_table.Goals as goal

-- it is this call that failed
failed : (old new : State) (text : List ℕ) (r : Result ℕ Error) → Has changes text → ExecutesInside 0 text [] old new r
    → IfErr r (HasFailed old new)
failed old new text (Ok count) ours ran = tt
failed old new text (Err e) ours ran = Changing text [] ours ran

pub returns : goal.returns
returns g c = record {
  answers = λ clean live t creates. makes_told _ _ c.args.text.now t creates sequence.0 sequence.1
      c.execute.result
      (c.execute.ensures.runs clean live);
  leaves = λ clean live. (
    kept_inside _ _ c.args.text.now [] c.execute.result (c.execute.ensures.runs clean live),
    failed _ _ c.args.text.now c.execute.result c.requires (c.execute.ensures.runs clean live),
  );
  same_reference = c.execute.ensures.same_reference;
  survives = c.execute.ensures.survives;
}
