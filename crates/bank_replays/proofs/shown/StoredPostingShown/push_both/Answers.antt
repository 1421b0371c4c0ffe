-- The columns are those of the two rows.
use Rattle.std.proofs.Common.{rules, ◌≡◌, ◌++◌, List, pos, refl, ap, ◌∙◌, to_z, w64}
use Rattle.std.proofs.Math.Path.{ap₂}
use Rattle.bank_replays.specs.DifferenceText.{column_of, first_text, posting_columns}
use Rattle.bank_replays.specs.declared.shown.Column.{Column}
use Rattle.bank_replays.specs.declared.shown.Name.TheVariants as name
use Rattle.bank_replays.proofs.Columns.{same_column}
use Rattle.bank_replays.proofs.shown.StoredPostingShown.push_both.Goals as goal

pub returns : goal.returns
returns c =
    let account : c.column_of.result ≡ column_of name.Account c.args.stands.now.account c.args.due.now.account =
    c.column_of.ensures ∙ same_column name.Account _ _ (search rules) (search rules) in
    let teller : c.column_of-2.result ≡ column_of name.Teller c.args.stands.now.teller c.args.due.now.teller =
    c.column_of-2.ensures ∙ same_column name.Teller _ _ (search rules) (search rules) in
    let branch : c.column_of-3.result ≡ column_of name.Branch c.args.stands.now.branch c.args.due.now.branch =
    c.column_of-3.ensures ∙ same_column name.Branch _ _ (search rules) (search rules) in
    let delta : c.column_of-4.result ≡ column_of name.Delta c.args.stands.now.delta c.args.due.now.delta =
    c.column_of-4.ensures ∙ same_column name.Delta _ _ (search rules) (search rules) in
    let moment : c.column_of-5.result ≡ column_of name.Moment (pos c.args.stands.now.moment) (pos c.args.due.now.moment) =
    let stood : to_z w64 c.get.result ≡ pos c.args.stands.now.moment = search rules in
    let ruled : to_z w64 c.get-2.result ≡ pos c.args.due.now.moment = search rules in
    c.column_of-5.ensures ∙ ap₂ (column_of name.Moment) stood ruled in
    let columns : c.as_slice.result.now ≡ posting_columns c.args.stands.now c.args.due.now =
    c.as_slice.ensures ∙ rw (account, teller, branch, delta, moment) refl in
    c.push_first.ensures ∙ ap (λ (l : List Column). c.args.line.now.bytes ++ first_text l) columns
