use Rattle.std.proofs.Common.{◌≡◌, ◌+◌, ◌<◌, ◌∷◌, ◌++◌, [], ℕ, List, sym, ap, ◌∙◌, arith}
use Rattle.std.proofs.lemmas.List.{take_more_set}
use Rattle.message_records.specs.believed.Spelling.{request_spelling}
use Rattle.load_driver.specs.{Counts.Driving, believed.Requests.request_at, believed.Records.drawn}
use Rattle.load_driver.specs.declared.driver.TheConstants.{MAX_RECORDS}
use Rattle.load_driver.proofs.Drawn.{drawn_more, drawn_none}
use Rattle.load_driver.proofs.drive_batches.draw_batch.Goals as goal

pub loop-place-init : goal.loop-place-init
loop-place-init c = record {
  goes_on =
      let same : c.args.driver.now.given ≡ c.args.driver.now.given + 0 = omega arith in
      ap (λ (n : ℕ). let d : Driving = record c.args.driver.now { given = n } in d) same;
  drawn = sym (drawn_none c.args.driver.now.rows c.args.driver.now.seed c.args.driver.now.given);
}

pub loop-place-preserved : goal.loop-place-preserved
loop-place-preserved c =
    let first = c.args.driver.now in
    let i = c.loop-place.place-index in
    let so_far = c.loop-place.invariant.goes_on in
    let given : c.loop-place.driver.given ≡ first.given + i = ap (λ (d : Driving). d.given) so_far in
    let left : c.loop-place.driver.given < MAX_RECORDS = omega (arith, c.requires) in
    let d = c.loop-place.driver in
    let next : request_spelling (request_at d.rows d.seed d.given) ≡ c.unwrap.result =
    (let e = sym (c.next.ensures.bytes left) ∙ c.unwrap.ensures in cc) in
    let drawn_now = ap (λ (d : Driving). request_spelling (request_at d.rows d.seed d.given)) so_far in
    let bytes : c.unwrap.result ≡ request_spelling (request_at first.rows first.seed (first.given + i)) =
    sym next ∙ drawn_now in
    let plus : first.given + i + 1 ≡ first.given + (i + 1) = omega arith in
    record {
      goes_on = c.next.ensures.goes_on left
          ∙ ap (λ (d : Driving). let e : Driving = record d { given = d.given + 1 } in e) so_far
          ∙ ap (λ (n : ℕ). let e : Driving = record first { given = n } in e) plus;
      drawn = take_more_set c.loop-place.batch i c.unwrap.result (omega arith)
          ∙ ap (λ (t : List (List ℕ)). t ++ c.unwrap.result ∷ []) c.loop-place.invariant.drawn
          ∙ ap (λ (b : List ℕ). drawn first.rows first.seed first.given i ++ b ∷ []) bytes
          ∙ sym (drawn_more first.rows first.seed first.given i);
    }
