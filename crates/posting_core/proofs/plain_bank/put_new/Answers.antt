use Rattle.std.proofs.Common.{◌≡◌, ℕ, ◌+◌, List, [], ◌∷◌, ◌++◌, add-one, append_assoc, append-nil}
use Rattle.std.proofs.Common.{refl, sym, ap, ◌∙◌, arith}
use Rattle.posting_core.specs.Appended.{rows_from}
use Rattle.posting_core.proofs.plain_bank.put_new.Goals as goal

rows_more : {R : Type 0} (row : ℕ → R) (first count : ℕ)
    → rows_from row first (count + 1) ≡ rows_from row first count ++ row (first + count) ∷ []
rows_more row first count = rw add-one refl

-- after one more row was put
one_more : {R : Type 0} (row : ℕ → R) (first count : ℕ) (old now new : List R) (x : R)
    → now ≡ old ++ rows_from row first count → x ≡ row (first + count) → new ≡ now ++ x ∷ []
    → new ≡ old ++ rows_from row first (count + 1)
one_more row first count old now new x is made put =
    rw (rows_more row first count, put, is, made, append_assoc) refl

pub loop-place-init : goal.loop-place-init
loop-place-init g c = record { rows = sym (append-nil c.args.rows.now.items); room = omega arith }

pub loop-place-preserved : goal.loop-place-preserved
loop-place-preserved g c = record {
  rows = one_more g.R.NewRow.row_of c.args.first c.loop-place.place _ _ _ c.numbered.result
      c.loop-place.invariant.rows c.numbered.ensures c.put.ensures.items;
  room = omega arith;
}

pub returns : goal.returns
returns g c =
    let all : c.loop-place.place ≡ c.args.count = omega arith in
    c.loop-place.invariant.rows
    ∙ ap (λ (n : ℕ). c.args.rows.now.items ++ rows_from g.R.NewRow.row_of c.args.first n) all
