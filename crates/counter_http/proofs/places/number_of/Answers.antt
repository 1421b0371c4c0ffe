use Rattle.std.proofs.Common.{rules, ◌≡◌, ◌&&◌, leb, true, false, None, Some, ◌*◌, ◌+◌, ◌∙◌, ap}
use Rattle.counter_http.proofs.LastDigits.{number_last}
use Rattle.counter_http.proofs.places.number_of.Goals as goal

pub returns-in_err-tens : goal.returns-in_err-tens
returns-in_err-tens c =
    let none : c.from_residual-in_err-tens.result ≡ None = search rules in
    none ∙ number_last c.args.digits.now c.in_ok-last.front.now c.in_ok-last.last.now None c.in_ok-last.ensures.cases.0
    c.in_err-tens.ensures.value

pub returns-then-not-is_ascii_digit : goal.returns-then-not-is_ascii_digit
returns-then-not-is_ascii_digit c =
    let no : (leb 48 c.in_ok-last.last.now && leb c.in_ok-last.last.now 57) ≡ false = search rules in
    rw no at (number_last c.args.digits.now c.in_ok-last.front.now c.in_ok-last.last.now (Some c.in_ok-tens.tens)
    c.in_ok-last.ensures.cases.0 c.in_ok-tens.ensures.value)

pub returns : goal.returns
returns c =
    let is : (leb 48 c.in_ok-last.last.now && leb c.in_ok-last.last.now 57) ≡ true = search rules in
    ap (λ n. Some (c.in_ok-tens.tens * 10 + n)) c.from.ensures
    ∙ (rw is at (number_last c.args.digits.now c.in_ok-last.front.now c.in_ok-last.last.now (Some c.in_ok-tens.tens)
    c.in_ok-last.ensures.cases.0 c.in_ok-tens.ensures.value))
