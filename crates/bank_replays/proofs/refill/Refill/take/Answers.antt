-- Branches are opened, and then there is room for the record.
use Rattle.std.proofs.Common.{◌≡◌, ◌∙◌, List, sym, ap, subst, Err}
use Rattle.posting_rules.specs.believed.Commands.{Command}
use Rattle.posting_rules.specs.believed.Numbering.{branch_of_account, branch_of_teller}
use Rattle.bank_replays.specs.Following.{prepared}
use Rattle.bank_replays.specs.Refilling.{Holds, IsMomentOf}
use Rattle.bank_replays.proofs.Filled.{prepared_both, prepared_home, pushed}
use Rattle.bank_replays.proofs.Exits.{fails_by}
use Rattle.bank_replays.proofs.refill.Refill.take.Goals as goal
use Rattle.bank_replays.proofs.refill.Refill.take.Goals.{else-had, in-None, in-Some, then-had+in_ok-open-2}

pub returns-clause-holds : goal.returns-clause-holds
returns-clause-holds g c sure plan is log holds =
    let r = c.args.request.now in
    let home : c.branch_of_teller.result ≡ branch_of_teller r.teller =
    c.branch_of_teller.ensures ∙ ap branch_of_teller c.teller.ensures in
    let one = c.in_ok-open.ensures.holds sure plan is log holds in
    let two : Holds g.T.Store plan (prepared plan c.args.had c.args.request.now log) c.if-had.self =
    elim c.if-had.branch [
      | then-had+in_ok-open-2 w ↦
          rw w.self-is (subst (λ (l : List Command). Holds g.T.Store plan l w.open-then-had.new.self)
          (prepared_both plan c.args.had r log c.branch_of_teller.result w.branch_of_account.result home w.if-had.true
          (w.branch_of_account.ensures ∙ ap branch_of_account w.account.ensures))
          (w.in_ok-open-2.ensures.holds sure plan is _ one))
      | else-had w ↦
          rw w.self-is (subst (λ (l : List Command). Holds g.T.Store plan l c.open.new.self)
          (prepared_home plan c.args.had r log c.branch_of_teller.result 0 home w.if-had.false) one)
    ] in
    let three = c.in_ok-make_room.ensures.holds sure plan _ two in
    let own : IsMomentOf c.make_room.new.self.moment c.args.posting =
    elim c.match-posting.branch [
      | in-Some w ↦ rw w.in-Some.is (sym (c.in_ok-make_room.ensures.moment ∙ w.moment-is))
      | in-None w ↦ rw w.in-None.is tt
    ] in
    record {
      moment = c.make_room.new.self.moment;
      bytes = c.encode_request.result;
      is = own;
      reads = c.encode_request.ensures.read_again;
      holds = record {
        has = pushed c.make_room.new.self.bank _ c.make_room.new.self.moment c.make_room.new.self.batch.items
            c.push.new.self.items c.encode_request.result c.push.ensures.items three.has;
        yet = three.yet;
      };
    }

pub returns-in_err-open : goal.returns-in_err-open
returns-in_err-open g c =
    let same : c.from_residual.result ≡ Err c.in_err-open.field-0.0 = fails_by c.from_residual.ensures.1 in
    record {
      holds = λ sure plan is log holds. rw same tt;
      memory = rw same c.in_err-open.ensures.memory;
    }

pub returns-in_err-open-2 : goal.returns-in_err-open-2
returns-in_err-open-2 g c =
    let same : c.from_residual-in_err-open-2.result ≡ Err c.in_err-open-2.field-0.0 =
    fails_by c.from_residual-in_err-open-2.ensures.1 in
    record {
      holds = λ sure plan is log holds. rw same tt;
      memory = rw same c.in_err-open-2.ensures.memory;
    }

pub returns-in_err-make_room : goal.returns-in_err-make_room
returns-in_err-make_room g c =
    let same : c.from_residual-in_err-make_room.result ≡ Err c.in_err-make_room.field-0.0 =
    fails_by c.from_residual-in_err-make_room.ensures.1 in
    record {
      holds = λ sure plan is log holds. rw same tt;
      memory = rw same c.in_err-make_room.ensures.memory;
    }

pub returns-clause-memory : goal.returns-clause-memory
returns-clause-memory g c = tt
