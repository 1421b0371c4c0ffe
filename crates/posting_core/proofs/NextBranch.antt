-- The row with the least number above this one, as one more row is looked at.
use Rattle.std.proofs.Common.{◌++◌, ◌∷◌, [], ℕ, ◌≤◌, ◌<◌, List, Option, Some, None, arith}
use Rattle.std.proofs.lemmas.List.Elements.{All-push, Contains-push, Contains-append_left}
use Rattle.posting_rules.specs.{declared.rows.BranchRow.BranchRow, Branches.IsNextIn}

pub lower_passed : (rows : List BranchRow) (after : ℕ) (next : Option BranchRow) (row : BranchRow)
    → row.branch ≤ after → IsNextIn rows after next → IsNextIn (rows ++ row ∷ []) after next
lower_passed rows after None row low is = All-push (λ r. r.branch ≤ after) rows row is low
lower_passed rows after (Some found) row low is = record {
  stands = Contains-append_left rows (row ∷ []) found is.stands;
  above = is.above;
  least = All-push (λ r. after < r.branch → found.branch ≤ r.branch) rows row is.least (λ above. omega arith);
}

pub first_found : (rows : List BranchRow) (after : ℕ) (row : BranchRow)
    → after < row.branch → IsNextIn rows after None → IsNextIn (rows ++ row ∷ []) after (Some row)
first_found rows after row above none = record {
  stands = Contains-push rows row;
  above = above;
  least = All-push (λ r. after < r.branch → row.branch ≤ r.branch) rows row
      (λ k d below above. let low = none k d below in omega arith) (λ _. omega arith);
}

pub nearer_found : (rows : List BranchRow) (after : ℕ) (found row : BranchRow)
    → after < row.branch → row.branch < found.branch → IsNextIn rows after (Some found)
    → IsNextIn (rows ++ row ∷ []) after (Some row)
nearer_found rows after found row above near is = record {
  stands = Contains-push rows row;
  above = above;
  least = All-push (λ r. after < r.branch → row.branch ≤ r.branch) rows row
      (λ k d below above. let far = is.least k d below above in omega arith) (λ _. omega arith);
}

pub farther_passed : (rows : List BranchRow) (after : ℕ) (found row : BranchRow)
    → found.branch ≤ row.branch → IsNextIn rows after (Some found) → IsNextIn (rows ++ row ∷ []) after (Some found)
farther_passed rows after found row far is = record {
  stands = Contains-append_left rows (row ∷ []) found is.stands;
  above = is.above;
  least = All-push (λ r. after < r.branch → found.branch ≤ r.branch) rows row is.least (λ _. far);
}
