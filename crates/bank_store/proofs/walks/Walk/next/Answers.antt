-- What a step gives.
use Rattle.std.proofs.Common.{◌≡◌, None, Err, filter, refl, sym, rules, ◌∙◌}
use Rattle.walked_rows.specs.Rows.{items_after}
use Rattle.walked_rows.proofs.Causes.{nothing_called}
use Rattle.bank_store.specs.Walking.{lent_state}
use Rattle.bank_store.proofs.StepsKeep.{untouched}
use Rattle.bank_store.proofs.WalkSteps.{err_not_ok, failed_not_ended, faulty_step, gives_next}
use Rattle.bank_store.proofs.WalkSteps.{none_after_end, none_to_come, not_ended, not_failed, ok_no_err}
use Rattle.bank_store.proofs.WalkSteps.{rises_next, same_fault, some_not_none, store_told}
use Rattle.bank_store.proofs.walks.Walk.next.Goals as goal

pub returns-in-Failed : goal.returns-in-Failed
returns-in-Failed g c = record {
  bank = record {
    same_reference = refl;
    same = λ clean. tt;
    undone = λ clean. untouched (lent_state g.S.Store c.args.self.now);
    up = refl;
    survives = nothing_called (lent_state g.S.Store c.args.self.now);
  };
  answers = λ clean rows has. refl;
  store = λ clean rows has no. absurd (let it = no in cc);
  rises = λ k before. tt;
  stage = record {
    ended = λ no. absurd (err_not_ok _ _ None refl no);
    again = λ ended. absurd (failed_not_ended c.args.self.now.stage c.in-Failed.is ended);
    failed = c.in-Failed.is;
    going = tt;
    down = ((λ was. refl), (λ is. (c.in-Failed.is, refl)));
  };
  frugal = λ no. absurd (let it = no in cc);
}

pub returns-in-Ended : goal.returns-in-Ended
returns-in-Ended g c = record {
  bank = record {
    same_reference = refl;
    same = λ clean. (refl, refl, refl, refl);
    undone = λ clean. untouched (lent_state g.S.Store c.args.self.now);
    up = refl;
    survives = nothing_called (lent_state g.S.Store c.args.self.now);
  };
  answers =
      λ clean rows has.
      let none = none_after_end c.args.self.now.stage c.in-Ended.is _ in
      (none, none);
  store = λ clean rows has no. absurd (ok_no_err _ _ no);
  rises = λ k before. tt;
  stage = record {
    ended = λ is. c.in-Ended.is;
    again = λ ended. (refl, refl);
    failed = tt;
    going = λ failed. absurd (failed_not_ended c.args.self.now.stage failed c.in-Ended.is);
    down = (
      (λ was. absurd (failed_not_ended c.args.self.now.stage was c.in-Ended.is)),
      (λ no. absurd (ok_no_err _ _ no)),
    );
  };
  frugal = λ no. absurd (ok_no_err _ _ no);
}

pub returns-in_err-refill : goal.returns-in_err-refill
returns-in_err-refill g c =
    let fault = c.in_err-refill.field-0.0 in
    let same : c.from_residual.result ≡ Err fault = search rules in
    let says = c.in_err-refill.ensures in
    record {
      bank = record {
        same_reference = c.refill.ensures.bank.same_reference;
        same = λ clean. rw same tt;
        undone = c.refill.ensures.bank.undone;
        up = c.refill.ensures.bank.up;
        survives = c.refill.ensures.bank.survives;
      };
      answers =
          λ clean rows has.
          rw same
          (faulty_step g.R.WalkedRow.item _ g.R.WalkedRow.Breaks _ _ fault (says.answers clean rows has));
      store =
          λ clean rows has is.
          store_told _ g.R.WalkedRow.Breaks _ fault (says.answers clean rows has)
          (same_fault _ fault _ same is);
      rises = λ k before. rw same tt;
      stage = record {
        ended = λ no. absurd (err_not_ok _ fault None same no);
        again = λ ended. absurd (not_ended c.args.self.now.stage c.in-Going.is ended);
        failed = rw same says.failed.0;
        going = rw same tt;
        down = (
          (λ was. absurd (not_failed c.args.self.now.stage c.in-Going.is was)),
          (λ no. absurd (says.failed.1 (same_fault _ fault _ same no))),
        );
      };
      frugal = λ no. says.failed.2 (same_fault _ fault _ same no);
    }

pub returns-in-Some : goal.returns-in-Some
returns-in-Some g c =
    let w = c.refill.new.self in
    let says = c.in_ok-refill.ensures in
    let given = filter (g.R.WalkedRow.is_given w.of) in
    let row = sym c.ahead-next.ensures.value ∙ c.in-Some.is in
    record {
      bank = record {
        same_reference = c.refill.ensures.bank.same_reference;
        same = says.bank.same;
        undone = c.refill.ensures.bank.undone;
        up = c.refill.ensures.bank.up;
        survives = c.refill.ensures.bank.survives;
      };
      answers =
          λ clean rows has.
          sym (says.answers clean rows has)
          ∙ gives_next g.R.WalkedRow.key g.R.WalkedRow.item w.stage says.going w.rows.items w.given
          (items_after g.R.WalkedRow.key w.rest (given rows)) c.in-Some.row row;
      store = λ clean rows has no. absurd (ok_no_err _ _ no);
      rises =
          λ k before.
          rises_next (λ r. g.R.WalkedRow.key (g.R.WalkedRow.item r)) k w.rows.items w.given w.rest
          c.in-Some.row row (says.rises k before);
      stage = record {
        ended = λ no. absurd (some_not_none c.in-Some.row _ refl no);
        again = λ ended. absurd (not_ended c.args.self.now.stage c.in-Going.is ended);
        failed = tt;
        going = λ failed. absurd (not_failed w.stage says.going failed);
        down = (
          (λ was. absurd (not_failed c.args.self.now.stage c.in-Going.is was)),
          (λ no. absurd (ok_no_err _ _ no)),
        );
      };
      frugal = λ no. absurd (ok_no_err _ _ no);
    }

pub returns-in-None : goal.returns-in-None
returns-in-None g c =
    let w = c.refill.new.self in
    let says = c.in_ok-refill.ensures in
    let given = filter (g.R.WalkedRow.is_given w.of) in
    record {
      bank = record {
        same_reference = c.refill.ensures.bank.same_reference;
        same = says.bank.same;
        undone = c.refill.ensures.bank.undone;
        up = c.refill.ensures.bank.up;
        survives = c.refill.ensures.bank.survives;
      };
      answers =
          λ clean rows has. (
            sym (says.answers clean rows has)
                ∙ none_to_come g.R.WalkedRow.key g.R.WalkedRow.item w.stage says.going w.rows.items w.given
                w.rest (given rows) (sym c.ahead-next.ensures.value ∙ c.in-None.is) says.rest,
            refl,
          );
      store = λ clean rows has no. absurd (ok_no_err _ _ no);
      rises = λ k before. tt;
      stage = record {
        ended = λ is. refl;
        again = λ ended. absurd (not_ended c.args.self.now.stage c.in-Going.is ended);
        failed = tt;
        going = λ failed. absurd (let it = failed in cc);
        down = (
          (λ was. absurd (not_failed c.args.self.now.stage c.in-Going.is was)),
          (λ no. absurd (ok_no_err _ _ no)),
        );
      };
      frugal = λ no. absurd (ok_no_err _ _ no);
    }
