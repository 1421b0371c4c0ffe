-- What is read ahead is what was to come.
use Rattle.std.proofs.Common.{◌≡◌, ◌≤◌, length, filter, subst, refl, rules, arith, w64, to_z, of_z}
use Rattle.std.proofs.lemmas.{Int.to_z-of_z, List.drop_all}
use Rattle.sqlite.specs.Held.{state}
use Rattle.sql_meanings.specs.StatementAnswers.{IsStoreError}
use Rattle.walked_rows.specs.StepOutcomes.{BreaksFirst}
use Rattle.walked_rows.proofs.Causes.{nothing_called}
use Rattle.bank_store.specs.Walking.{lent_state}
use Rattle.bank_store.proofs.StepsKeep.{untouched}
use Rattle.bank_store.proofs.WalkSteps.{from_rest, refilled, rises_on, told_of, told_of_this}
use Rattle.bank_store.proofs.walks.Walk.refill.Goals as goal

pub returns-then-self-len : goal.returns-then-self-len
returns-then-self-len g c = record {
  bank = record {
    same_reference = refl;
    same = λ clean. (refl, refl, refl, refl);
    undone = λ clean. untouched (lent_state g.S.Store c.args.self.now);
    up = refl;
    survives = nothing_called (lent_state g.S.Store c.args.self.now);
  };
  answers = λ clean rows has. refl;
  rises = λ k before. before;
  rest = λ low. absurd (let it = low in omega (arith, c.len.ensures.value, c.if-self-len.true));
  going = c.requires;
  failed = tt;
}

pub returns-in_default : goal.returns-in_default
returns-in_default g c = record {
  bank = record {
    same_reference = refl;
    same = λ clean. (refl, refl, refl, refl);
    undone = λ clean. untouched (lent_state g.S.Store c.args.self.now);
    up = refl;
    survives = nothing_called (lent_state g.S.Store c.args.self.now);
  };
  answers = λ clean rows has. refl;
  rises = λ k before. before;
  rest = λ low. c.in_default.is;
  going = c.requires;
  failed = tt;
}

pub returns-in-Ok : goal.returns-in-Ok
returns-in-Ok g c =
    let w = c.args.self.now in
    let from = c.in-Some.from in
    let same : to_z w64 (of_z w64 from) ≡ from = search (rules, to_z-of_z) in
    let low : length w.rows.items ≤ w.given = omega (arith, c.len.ensures.value, c.if-self-len.false) in
    record {
      bank = record {
        same_reference = refl;
        same = c.in-Ok.ensures.same;
        undone = c.read_rows-answer.ensures.undone;
        up = c.read_rows-answer.ensures.up;
        survives = c.read_rows-answer.ensures.survives;
      };
      answers =
          λ clean rows has.
          refilled g.R.WalkedRow.key g.R.WalkedRow.item w.stage c.requires w.rows.items w.given w.rest from
          (filter (g.R.WalkedRow.is_given w.of) rows) low c.in-Some.is
          _ _ (rw same at (c.in-Ok.ensures.answers clean rows has));
      rises =
          λ k before.
          rises_on (λ r. g.R.WalkedRow.key (g.R.WalkedRow.item r)) k from w.rows.items w.given w.rest low
          c.in-Some.is before
          _ _ (rw same at c.in-Ok.ensures.rises);
      rest = λ low. c.in-Ok.ensures.ended (drop_all 0 c.read_rows-answer.new.rows.items low);
      going = c.requires;
      failed = tt;
    }

pub returns-in-Err : goal.returns-in-Err
returns-in-Err g c =
    let w = c.args.self.now in
    let from = c.in-Some.from in
    let same : to_z w64 (of_z w64 from) ≡ from = search (rules, to_z-of_z) in
    let low : length w.rows.items ≤ w.given = omega (arith, c.len.ensures.value, c.if-self-len.false) in
    record {
      bank = record {
        same_reference = refl;
        same = λ clean. tt;
        undone = c.read_rows-answer.ensures.undone;
        up = c.read_rows-answer.ensures.up;
        survives = c.read_rows-answer.ensures.survives;
      };
      answers =
          λ clean rows has.
          let given = filter (g.R.WalkedRow.is_given w.of) rows in
          told_of _ g.R.WalkedRow.Breaks _ c.in-Err.fault c.fault_of.result c.fault_of.ensures
          (subst (λ l. BreaksFirst (IsStoreError (state g.S.Store w.bank.now.conn)
          (state g.S.Store c.read_rows-answer.new.self.conn)) g.R.WalkedRow.Breaks l c.in-Err.fault)
          (from_rest g.R.WalkedRow.key g.R.WalkedRow.item w.stage c.requires w.rows.items w.given w.rest from
          given low c.in-Some.is)
          (rw same at (c.in-Err.ensures.answers clean rows has)));
      rises = λ k before. tt;
      rest = tt;
      going = tt;
      failed = (let this = told_of_this _ _ c.fault_of.ensures in (refl, this.0, this.1));
    }
