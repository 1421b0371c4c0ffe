-- Each option's value is the first of its values.
use Rattle.std.proofs.Common.{◌∙◌, ap, codes, Option}
use Rattle.std.specs.{Prelude.option_map, Borrow.Bor}
use Rattle.clap.specs.Words.{Text, first_of, found_of, rows_of}
use Rattle.clap.proofs.WalkLemmas.{first_value-rows}
use Rattle.command_line.specs.Queries.{query_told}
use Rattle.command_line.proofs.reading.query_in.Goals as goal

abbrev text_in : Option (Bor Text) → Option Text
text_in value = option_map (λ s. s.now) value

pub returns : goal.returns
returns c =
    let found = found_of c.args.values.now in
    let from = first_of (codes "from") (rows_of found) in
    let to = first_of (codes "to") (rows_of found) in
    let zone = first_of (codes "zone") (rows_of found) in
    let reference = first_of (codes "reference") (rows_of found) in
    c.query_told.ensures
    ∙ ap (λ (t : Option Text). query_told t (text_in c.get_str-to.result) (text_in c.get_str-zone.result)
    (text_in c.get_str-reference.result) (text_in c.get_str-csv.result))
    (c.get_str-from.ensures ∙ first_value-rows found (codes "from"))
    ∙ ap (λ (t : Option Text). query_told from t (text_in c.get_str-zone.result) (text_in c.get_str-reference.result)
    (text_in c.get_str-csv.result))
    (c.get_str-to.ensures ∙ first_value-rows found (codes "to"))
    ∙ ap (λ (t : Option Text). query_told from to t (text_in c.get_str-reference.result) (text_in c.get_str-csv.result))
    (c.get_str-zone.ensures ∙ first_value-rows found (codes "zone"))
    ∙ ap (λ (t : Option Text). query_told from to zone t (text_in c.get_str-csv.result))
    (c.get_str-reference.ensures ∙ first_value-rows found (codes "reference"))
    ∙ ap (λ (t : Option Text). query_told from to zone reference t)
    (c.get_str-csv.ensures ∙ first_value-rows found (codes "csv"))
