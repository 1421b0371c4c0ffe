-- What a branch was opened with, if it was.
use Rattle.std.proofs.Common.{◌≡◌, ℕ, ℤ, None, Option, Some, Ok, refl, sym, ap, ◌∙◌, subst}
use Rattle.posting_rules.specs.believed.Commands.{Terms, opened_with}
use Rattle.posting_rules.specs.{believed.Counter.opening_for, believed.LookUps.floor_in, believed.LookUps.terms_in}
use Rattle.posting_rules.specs.{declared.counter.Opening.TheVariants.Opened, declared.rows.BranchRow.BranchRow}
use Rattle.posting_rules.specs.believed.Tables.{Tables, row_at, branch_key}
use Rattle.bank_transactions.proofs.LookUps.{reads_both, reads_but, reads_ok, reads_wider, strays_fail, strays_then}
use Rattle.sqlite.specs.Effect.{Database}
use Rattle.store_rows.specs.believed.{Readings.read_branch, Rules.HoldsBank, Rules.OfRows, Rules.StoredRows, Rules.branch_under, Stored.FindsStored}
use Rattle.bank_transactions.specs.believed.Stored.{HoldsFloor, HoldsTerms, IsStoredFloor}
use Rattle.bank_transactions.proofs.Exits.{clean_at, handed_on, reads_fail}
use Rattle.bank_transactions.proofs.new_branch.opening_of.Goals as goal

not_open : (t : Tables) (b : ℕ) (terms : Terms) → row_at branch_key t.branches b ≡ None
    → Opened ≡ opening_for (terms_in t b) terms
not_open t b terms is = rw is refl

open_so : (t : Tables) (b : ℕ) (terms : Terms) (row : BranchRow) → row_at branch_key t.branches b ≡ Some row
    → opening_for (Some (opened_with row.accounts (floor_in t b))) terms ≡ opening_for (terms_in t b) terms
open_so t b terms row is = rw is refl

pub returns-in_err-row-clause-says : goal.returns-in_err-row-clause-says
returns-in_err-row-clause-says g c =
    let same = handed_on c.from_residual.result c.from_residual.ensures.1 in
    rw same (reads_wider (reads_fail c.in_err-row.ensures.says))

pub returns-in_err-first-clause-says : goal.returns-in_err-first-clause-says
returns-in_err-first-clause-says g c =
    let same = handed_on c.from_residual-in_err-first.result c.from_residual-in_err-first.ensures.1 in
    rw same (reads_wider (reads_but c.in_ok-row.ensures.says c.in_err-first.ensures.says))

pub returns-clause-says : goal.returns-clause-says
returns-clause-says g c =
    let b = c.args.branch in
    let terms = opened_with c.args.count c.args.floor.now in
    rw c.opened_again.ensures
    (reads_wider (reads_both c.in_ok-row.ensures.says c.in_ok-first.ensures.says (λ t sound is. sound) (λ t sound is first.
    let at : row_at branch_key t.branches b ≡ Some c.in-Some.row =
    ap (row_at branch_key t.branches) (sym c.get.ensures.value) ∙ sym is ∙ c.in-Some.is in
    let its : c.in_ok-first.first ≡ floor_in t b = first ∙ ap (floor_in t) c.get-2.ensures.value in
    rw its (open_so t b terms c.in-Some.row at))))

-- ---- of the stored rows

terms_held : (rows : StoredRows) (b n m : ℕ) (row : BranchRow) (floor : Option ℤ) → n ≡ b → m ≡ b
    → FindsStored (branch_under rows n) read_branch (Ok (Some row)) → HoldsFloor rows m floor
    → HoldsTerms rows b (Some (opened_with row.accounts floor))
terms_held rows b n m row floor one two finds holds =
    let it = subst (λ (k : ℕ). FindsStored (branch_under rows k) read_branch (Ok (Some row))) one finds in
    ((it.0, row, it.1, it.2, refl), subst (λ (k : ℕ). HoldsFloor rows k floor) two holds)

pub returns-clause-stored : goal.returns-clause-stored
returns-clause-stored g c clean =
    let mid = clean_at c.in_ok-first.ensures.says.says.survives clean in
    let still = (c.in_ok-row.ensures.says.says.leaves mid).0.now in
    let found = rw c.in-Some.is at (c.in_ok-row.ensures.stored mid) in
    let floor = subst (λ (d : Database). IsStoredFloor d c.get-2.result c.in_ok-first.first) still
    (c.in_ok-first.ensures.stored clean) in
    record {
      first = Some (opened_with c.in-Some.row.accounts c.in_ok-first.first);
      stored = λ rows has. terms_held rows c.args.branch c.get.result c.get-2.result c.in-Some.row
          c.in_ok-first.first c.get.ensures.value c.get-2.ensures.value (found rows has) (floor rows has);
      is = c.opened_again.ensures;
    }

-- ---- a branch that isn't open

pub none_floored-requires : goal.none_floored-requires
none_floored-requires g c clean =
    let one = c.in_ok-row.ensures in
    subst (λ (d : Database). OfRows (λ rows. branch_under rows c.args.branch ≡ None) d)
    (sym (one.says.says.leaves clean).0.now)
    (λ rows has. subst (λ (n : ℕ). branch_under rows n ≡ None) c.get.ensures.value
    ((rw c.in_default.is at one.stored) clean rows has))

pub returns-in_err-none_floored-clause-says : goal.returns-in_err-none_floored-clause-says
returns-in_err-none_floored-clause-says g c =
    rw (handed_on c.from_residual-in_err-none_floored.result c.from_residual-in_err-none_floored.ensures.1)
    (strays_fail (strays_then c.in_ok-row.ensures.says c.in_err-none_floored.ensures.looks))

pub returns-in_default-clause-says : goal.returns-in_default-clause-says
returns-in_default-clause-says g c = reads_wider (reads_both c.in_ok-row.ensures.says
    (reads_ok c.in_ok-none_floored.ensures.looks) (λ t so is. tt) (λ t so is last.
    not_open t c.args.branch (opened_with c.args.count c.args.floor.now)
    (ap (row_at branch_key t.branches) (sym c.get.ensures.value) ∙ sym is ∙ c.in_default.is)))

pub returns-in_default-clause-stored : goal.returns-in_default-clause-stored
returns-in_default-clause-stored g c clean =
    let one = c.in_ok-row.ensures in
    let two = c.in_ok-none_floored.ensures in
    let before = clean_at two.looks.says.survives clean in
    record {
      first = None;
      stored = λ rows has. (
        subst (λ (n : ℕ). branch_under rows n ≡ None) c.get.ensures.value
            ((rw c.in_default.is at one.stored) before rows has),
        two.none clean rows (subst (λ (d : Database). HoldsBank d rows) (sym (one.says.says.leaves before).0.now) has),
      );
      is = refl;
    }
