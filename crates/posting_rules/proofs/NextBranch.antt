-- The row with the least number above one is that of the next open branch.
use Rattle.std.proofs.Common.{◌≡◌, ℕ, suc, ◌<◌, ◌≤◌, List, [], ◌∷◌, refl, sym, ap, ◌∙◌, arith, inl, inr}
use Rattle.std.specs.Prelude.{Bool, Option, Some, None, nat_eq, option_map}
use Rattle.std.specs.List.{Contains, find}
use Rattle.std.proofs.lemmas.{Bool.eqb-true, List.Elements.All-contains}
use Rattle.posting_rules.specs.{declared.rows.BranchRow.BranchRow, Branches.IsNextIn, Branches.IsNextBranch}
use Rattle.posting_rules.specs.{Branches.line_in, believed.Commands.Command, believed.Commands.opened}
use Rattle.posting_rules.specs.{believed.Entries.branch_balance, believed.Entries.decided, believed.LookUps.floor_in}
use Rattle.posting_rules.specs.{believed.LookUps.balance_of_branch, believed.LookUps.terms_of_branch}
use Rattle.posting_rules.specs.believed.Tables.{Tables, AreTablesOf, row_at, branch_key, branch_row_of}
use Rattle.posting_rules.proofs.{Keyed.by_test, Keyed.found_passes, Looked.terms_shown, Undamaged.row_at-contained}

-- ---- the rows of a log

-- a row that is found stands among the rows
found_within : {R : Type 0} (test : R → Bool) (rows : List R) (row : R) → find test rows ≡ Some row
    → Contains rows row
found_within test [] row e = absurd cc
found_within test (r ∷ rows) row e =
    elim (by_test (test r)) [
      | inl t ↦ let is : r ≡ row = (let g = rw t at e in cc) in (0, omega arith, is)
      | inr f ↦
          let rest = found_within test rows row (let g = rw f at e in g) in
          let lt = rest.1 in
          (suc rest.0, omega arith, rest.2)
    ]

module _ (t : Tables) (log : List Command) (shows : AreTablesOf t log) where
  counted : (branch : ℕ)
      → opened log branch
      ≡ option_map (terms_of_branch (floor_in t branch)) (row_at branch_key t.branches branch)
  counted branch = sym (terms_shown t (λ b. opened log b) (decided log) branch shows.rows)

  -- a number that no row has is no open branch
  closed : (branch : ℕ) → ((row : BranchRow) → Contains t.branches row → row.branch ≡ branch → ⊥)
      → opened log branch ≡ None
  closed branch none = by_row (row_at branch_key t.branches branch) refl
    where
      by_row : (o : Option BranchRow) → row_at branch_key t.branches branch ≡ o → opened log branch ≡ None
      by_row None e = counted branch ∙ ap (option_map (terms_of_branch (floor_in t branch))) e
      by_row (Some row) e =
          let number = eqb-true row.branch branch
          (found_passes (λ r. nat_eq r.branch branch) t.branches row e) in
          absurd (none row (found_within (λ r. nat_eq r.branch branch) t.branches row e) number)

  -- what a row says of its branch is what the log says of it
  balance_is : (row : BranchRow) → row_at branch_key t.branches row.branch ≡ Some row
      → row.balance ≡ branch_balance (decided log) row.branch
  balance_is row under =
      let sum = branch_balance (decided log) row.branch in
      let terms = terms_of_branch (floor_in t row.branch) in
      let open_ : opened log row.branch ≡ Some (terms row) = counted row.branch ∙ ap (option_map terms) under in
      let is : Some row ≡ option_map (branch_row_of row.branch sum) (opened log row.branch) =
      sym under ∙ shows.rows.branches row.branch in
      let both : Some row ≡ Some (branch_row_of row.branch sum (terms row)) = rw open_ at is in
      let balances : Some row.balance ≡ Some sum = ap (option_map balance_of_branch) both in
      cc

  -- what the next row says of its branch is what the log says of the next open one
  pub next_shown : (after : ℕ) (next : Option BranchRow) → IsNextIn t.branches after next
      → IsNextBranch log after (option_map (line_in t) next)
  next_shown after None none = λ branch above. closed branch (λ row has e.
      let le = All-contains (λ r. r.branch ≤ after) t.branches row none has in
      omega arith)
  next_shown after (Some row) found =
      let under = row_at-contained branch_key t.branches row shows.rows.branch_keys found.stands in
      record {
        above = found.above;
        terms = counted row.branch ∙ ap (option_map (terms_of_branch (floor_in t row.branch))) under;
        balance = balance_is row under;
        none_between = λ branch low high. closed branch (λ r has e.
            let least =
            All-contains (λ x. after < x.branch → row.branch ≤ x.branch) t.branches r found.least has in
            let le = least (omega arith) in
            omega arith);
      }
