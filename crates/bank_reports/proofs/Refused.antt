-- What a `?` returns.
use Rattle.std.proofs.Common.{◌≡◌, Result, Err, ap, ◌∙◌}
use Rattle.std.specs.Result.{IsErrAnd}
use Rattle.std.proofs.lemmas.Result.{err_from_is_err_and}

-- the error that its conversion gives
pub err_is : {T E : Type 0} {e : E} (r : Result T E) → IsErrAnd r (λ f. f ≡ e) → r ≡ Err e
err_is r is = let p = err_from_is_err_and r is in p.1 ∙ ap Err p.2
