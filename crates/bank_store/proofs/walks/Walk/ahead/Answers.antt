-- What was read ahead is read at its place.
use Rattle.std.proofs.Common.{◌≡◌, ◌≤◌, ◌<◌, ℕ, List, length, slice_get, Option, Some, None, arith, refl, sym, ◌∙◌}
use Rattle.std.specs.Prelude.{OnSome}
use Rattle.std.specs.Option.{option_map}
use Rattle.std.specs.List.{ItemBy}
use Rattle.std.proofs.lemmas.Option.{slice_get_past, slice_get_read, slice_get_within}
use Rattle.bank_store.proofs.walks.Walk.ahead.Goals as goal

read_at : {R X : Type 0} (now : R → X) (xs : List X) (i : ℕ) (r : Option R) → ItemBy now xs i i r
    → option_map now r ≡ slice_get xs i
read_at now xs i None is = sym (slice_get_past xs i is.3)
read_at now xs i (Some x) is = sym (slice_get_read xs (length xs) i (now x) refl is.3.0 is.1)

low : {X : Type 0} (xs : List X) (i most : ℕ) (r : Option X) → length xs ≤ most → r ≡ slice_get xs i
    → OnSome r (i < most)
low xs i most None few is = tt
low xs i most (Some x) few is = omega (arith, slice_get_within xs i x (sym is))

pub returns : goal.returns
returns g c =
    let read = c.copied.ensures
    ∙ read_at (λ x. x.now) c.as_slice.result.now c.args.self.now.given c.get.result c.get.ensures.lookup in
    record {
      value = rw c.as_slice.ensures.value at read;
      low = low c.as_slice.result.now c.args.self.now.given _ c.copied.result c.as_slice.ensures.fits read;
    }
