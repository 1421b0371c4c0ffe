-- Records that are drawn one after another.
use Rattle.std.proofs.Common.{◌≡◌, ◌+◌, ℕ, zero, suc, List, [], ◌∷◌, ◌++◌, refl, sym, ap, ◌∙◌, arith, add-one}
use Rattle.std.proofs.{Common.append-nil, Common.append_assoc, Math.Nat.add-suc}
use Rattle.message_records.specs.believed.Spelling.{request_spelling}
use Rattle.branch_loader.specs.believed.Plans.{Rows}
use Rattle.load_driver.specs.{believed.Requests.request_at, believed.Records.drawn}

pub drawn_none : (rows : Rows) (seed from : ℕ) → drawn rows seed from 0 ≡ []
unfolding drawn
drawn_none rows seed from = refl

-- one record more
pub drawn_more : (rows : Rows) (seed from n : ℕ)
    → drawn rows seed from (n + 1) ≡ drawn rows seed from n ++ request_spelling
    (request_at rows seed (from + n)) ∷ []
unfolding drawn
drawn_more rows seed from n = ap (drawn rows seed from) (add-one n)

-- some from one on, and further ones
pub drawn_on : (rows : Rows) (seed m n : ℕ)
    → drawn rows seed 0 m ++ drawn rows seed m n ≡ drawn rows seed 0 (m + n)
unfolding drawn
drawn_on rows seed m zero = append-nil (drawn rows seed 0 m)
    ∙ ap (drawn rows seed 0) (let e : m ≡ m + 0 = omega arith in e)
drawn_on rows seed m (suc n) =
    let last = request_spelling (request_at rows seed (m + n)) ∷ [] in
    let from : 0 + (m + n) ≡ m + n = omega arith in
    sym (append_assoc (drawn rows seed 0 m) (drawn rows seed m n) last)
    ∙ ap (λ (t : List (List ℕ)). t ++ last) (drawn_on rows seed m n)
    ∙ ap (λ (k : ℕ). drawn rows seed 0 (m + n) ++ request_spelling (request_at rows seed k) ∷ []) (sym from)
    ∙ ap (drawn rows seed 0) (sym (add-suc m n))
