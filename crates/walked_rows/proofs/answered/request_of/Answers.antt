-- Each number was read as it stands in the row; a search takes long to see it.
use Rattle.std.proofs.Common.{◌≡◌, None, sym, subst, ◌∙◌, rules, w64, to_z, of_z}
use Rattle.std.proofs.lemmas.Int.{to_z-of_z}
use Rattle.message_records.specs.declared.limits.TheConstants.{MAX_ACCOUNT, MAX_BALANCE, MAX_BRANCH, MAX_NUMBER}
use Rattle.message_records.specs.{declared.limits.TheConstants.MAX_TELLER, believed.Ranges.cents_within}
use Rattle.walked_rows.specs.Requests.{IsFrom}
use Rattle.walked_rows.proofs.Answering.{Reads, cents_are, delta_beyond, request_made, request_refused}
use Rattle.walked_rows.proofs.answered.request_of.Goals as goal

pub returns-in_err-whole : goal.returns-in_err-whole
returns-in_err-whole c =
    let z = c.args.row.now.request.account in
    let same : to_z w64 (of_z w64 z) ≡ z = search (rules, to_z-of_z) in
    rw c.from_residual.ensures record {
      some = tt;
      none = λ of_row. c.in_err-whole.ensures.none (subst (IsFrom 1 MAX_ACCOUNT) (sym same) of_row.account);
    }

pub returns-in_err-whole-2 : goal.returns-in_err-whole-2
returns-in_err-whole-2 c =
    let z = c.args.row.now.request.teller in
    let same : to_z w64 (of_z w64 z) ≡ z = search (rules, to_z-of_z) in
    rw c.from_residual-in_err-whole-2.ensures record {
      some = tt;
      none = λ of_row. c.in_err-whole-2.ensures.none (subst (IsFrom 1 MAX_TELLER) (sym same) of_row.teller);
    }

pub returns-in_err-whole-3 : goal.returns-in_err-whole-3
returns-in_err-whole-3 c =
    let z = c.args.row.now.request.branch in
    let same : to_z w64 (of_z w64 z) ≡ z = search (rules, to_z-of_z) in
    rw c.from_residual-in_err-whole-3.ensures record {
      some = tt;
      none = λ of_row. c.in_err-whole-3.ensures.none (subst (IsFrom 1 MAX_BRANCH) (sym same) of_row.branch);
    }

pub returns-in_err-whole-4 : goal.returns-in_err-whole-4
returns-in_err-whole-4 c =
    let z = c.args.row.now.request.number in
    let same : to_z w64 (of_z w64 z) ≡ z = search (rules, to_z-of_z) in
    rw c.from_residual-in_err-whole-4.ensures record {
      some = tt;
      none = λ of_row. c.in_err-whole-4.ensures.none (subst (IsFrom 1 MAX_NUMBER) (sym same) of_row.number);
    }

pub returns-in_err-new : goal.returns-in_err-new
returns-in_err-new c =
    let z = c.args.row.now.request.delta in
    let same : to_z w64 (of_z w64 z) ≡ z = search (rules, to_z-of_z) in
    rw c.from_residual-in_err-new.ensures record {
      some = tt;
      none = λ of_row. delta_beyond z (subst (λ x. None ≡ cents_within MAX_BALANCE x) same c.in_err-new.ensures)
          of_row.delta;
    }

pub returns-clause-some : goal.returns-clause-some
returns-clause-some c =
    let row = c.args.row.now in
    let stored = row.request in
    let account : to_z w64 (of_z w64 stored.account) ≡ stored.account = search (rules, to_z-of_z) in
    let teller : to_z w64 (of_z w64 stored.teller) ≡ stored.teller = search (rules, to_z-of_z) in
    let branch : to_z w64 (of_z w64 stored.branch) ≡ stored.branch = search (rules, to_z-of_z) in
    let number : to_z w64 (of_z w64 stored.number) ≡ stored.number = search (rules, to_z-of_z) in
    let delta : to_z w64 (of_z w64 stored.delta) ≡ stored.delta = search (rules, to_z-of_z) in
    let read = cents_are MAX_BALANCE (to_z w64 (of_z w64 stored.delta)) c.in_ok-new.field-0 c.in_ok-new.ensures in
    request_made row c.in_ok-whole.field-0 c.in_ok-whole-2.field-0 c.in_ok-whole-3.field-0 c.in_ok-whole-4.field-0
    c.in_ok-new.field-0 c.new-2.result (sym delta ∙ read.0) c.new-2.ensures
    (subst (λ z. Reads MAX_ACCOUNT z c.in_ok-whole.field-0) account c.in_ok-whole.ensures.some)
    (subst (λ z. Reads MAX_TELLER z c.in_ok-whole-2.field-0) teller c.in_ok-whole-2.ensures.some)
    (subst (λ z. Reads MAX_BRANCH z c.in_ok-whole-3.field-0) branch c.in_ok-whole-3.ensures.some)
    (subst (λ z. Reads MAX_NUMBER z c.in_ok-whole-4.field-0) number c.in_ok-whole-4.ensures.some)

pub returns-clause-none : goal.returns-clause-none
returns-clause-none c =
    let row = c.args.row.now in
    let z = row.request.delta in
    let same : to_z w64 (of_z w64 z) ≡ z = search (rules, to_z-of_z) in
    let read = cents_are MAX_BALANCE (to_z w64 (of_z w64 z)) c.in_ok-new.field-0 c.in_ok-new.ensures in
    request_refused row c.in_ok-whole.field-0 c.in_ok-whole-2.field-0 c.in_ok-whole-3.field-0 c.in_ok-whole-4.field-0
    c.in_ok-new.field-0 c.new-2.result (sym same ∙ read.0) c.new-2.ensures
