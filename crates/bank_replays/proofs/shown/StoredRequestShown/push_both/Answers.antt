-- The columns are those of the two rows.
use Rattle.std.proofs.Common.{rules, ◌≡◌, ◌++◌, List, refl, ap, ◌∙◌}
use Rattle.bank_replays.specs.DifferenceText.{column_of, first_text, request_columns}
use Rattle.bank_replays.specs.declared.shown.Column.{Column}
use Rattle.bank_replays.specs.declared.shown.Name.TheVariants as name
use Rattle.bank_replays.proofs.Columns.{same_column}
use Rattle.bank_replays.proofs.shown.StoredRequestShown.push_both.Goals as goal

pub returns : goal.returns
returns c =
    let teller : c.column_of.result ≡ column_of name.Teller c.args.stands.now.teller c.args.due.now.teller =
    c.column_of.ensures ∙ same_column name.Teller _ _ (search rules) (search rules) in
    let number : c.column_of-2.result ≡ column_of name.Number c.args.stands.now.number c.args.due.now.number =
    c.column_of-2.ensures ∙ same_column name.Number _ _ (search rules) (search rules) in
    let account : c.column_of-3.result ≡ column_of name.Account c.args.stands.now.account c.args.due.now.account =
    c.column_of-3.ensures ∙ same_column name.Account _ _ (search rules) (search rules) in
    let branch : c.column_of-4.result ≡ column_of name.Branch c.args.stands.now.branch c.args.due.now.branch =
    c.column_of-4.ensures ∙ same_column name.Branch _ _ (search rules) (search rules) in
    let delta : c.column_of-5.result ≡ column_of name.Delta c.args.stands.now.delta c.args.due.now.delta =
    c.column_of-5.ensures ∙ same_column name.Delta _ _ (search rules) (search rules) in
    let outcome : c.column_of-6.result ≡ column_of name.Outcome c.args.stands.now.outcome c.args.due.now.outcome =
    c.column_of-6.ensures ∙ same_column name.Outcome _ _ (search rules) (search rules) in
    let balance : c.column_of-7.result ≡ column_of name.Plain c.args.stands.now.balance c.args.due.now.balance =
    c.column_of-7.ensures ∙ same_column name.Plain _ _ (search rules) (search rules) in
    let columns : c.as_slice.result.now ≡ request_columns c.args.stands.now c.args.due.now =
    c.as_slice.ensures ∙ rw (teller, number, account, branch, delta, outcome, balance) refl in
    c.push_first.ensures ∙ ap (λ (l : List Column). c.args.line.now.bytes ++ first_text l) columns
