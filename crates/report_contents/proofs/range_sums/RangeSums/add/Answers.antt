-- Each sum has one amount more.
use Rattle.std.proofs.Common.{rules, ◌≡◌, refl, ap, ◌∙◌, to_z, of_z}
use Rattle.std.specs.Prelude.{ℤ, ◌+ℤ◌}
use Rattle.std.specs.Int.{w128}
use Rattle.std.proofs.lemmas.Int.{to_z-of_z}
use Rattle.report_contents.specs.Ranges.{amount_before}
use Rattle.report_contents.proofs.Added.{one_more_summed}
use Rattle.report_contents.proofs.range_sums.RangeSums.add.Goals as goal

pub returns : goal.returns
returns c range rows has =
    let own = c.args.self.now in
    let row = c.args.row.now in
    let earlier : c.amount_before-earlier.result ≡ amount_before own.range.from row = search (rules, to_z-of_z) in
    let so_far : c.amount_before-so_far.result ≡ amount_before own.range.until row = search (rules, to_z-of_z) in
    let before : c.plus-before.result ≡ own.before +ℤ c.amount_before-earlier.result = search (rules, to_z-of_z) in
    let until : c.plus-until.result ≡ own.until +ℤ c.amount_before-so_far.result = search (rules, to_z-of_z) in
    let first : to_z w128 (of_z w128 c.plus-before.result) ≡ c.plus-before.result = search (rules, to_z-of_z) in
    let last : to_z w128 (of_z w128 c.plus-until.result) ≡ c.plus-until.result = search (rules, to_z-of_z) in
    one_more_summed range own _ rows row has refl refl (first ∙ before ∙ ap (λ (z : ℤ). own.before +ℤ z) earlier)
    (last ∙ until ∙ ap (λ (z : ℤ). own.until +ℤ z) so_far)
