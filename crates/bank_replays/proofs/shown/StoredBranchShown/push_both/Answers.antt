-- The columns are those of the two rows.
use Rattle.std.proofs.Common.{rules, ◌≡◌, ◌++◌, List, pos, refl, ap, ◌∙◌, to_z, w64}
use Rattle.std.proofs.Math.Path.{ap₂}
use Rattle.bank_replays.specs.DifferenceText.{branch_columns, column_of, first_text}
use Rattle.bank_replays.specs.declared.shown.Column.{Column}
use Rattle.bank_replays.specs.declared.shown.Name.TheVariants as name
use Rattle.bank_replays.proofs.Columns.{counted, same_column}
use Rattle.bank_replays.proofs.shown.StoredBranchShown.push_both.Goals as goal

pub returns : goal.returns
returns c =
    let accounts : c.column_of.result ≡ column_of name.Accounts (pos c.args.stands.now.accounts) (pos c.args.due.now.accounts) =
    let stood : to_z w64 c.get.result ≡ pos c.args.stands.now.accounts =
    counted _ _ c.get.ensures.value c.get.ensures.most in
    let ruled : to_z w64 c.get-2.result ≡ pos c.args.due.now.accounts =
    counted _ _ c.get-2.ensures.value c.get-2.ensures.most in
    c.column_of.ensures ∙ ap₂ (column_of name.Accounts) stood ruled in
    let balance : c.column_of-2.result ≡ column_of name.Plain c.args.stands.now.balance c.args.due.now.balance =
    c.column_of-2.ensures ∙ same_column name.Plain _ _ (search rules) (search rules) in
    let columns : c.as_slice.result.now ≡ branch_columns c.args.stands.now c.args.due.now =
    c.as_slice.ensures ∙ rw (accounts, balance) refl in
    c.push_first.ensures ∙ ap (λ (l : List Column). c.args.line.now.bytes ++ first_text l) columns
