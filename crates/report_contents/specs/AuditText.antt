-- The text of an audit.
use Rattle.std.specs.Prelude.{ℕ, ℤ, pos, Bool, List, [], ◌∷◌, ◌++◌, codes, map, decimal, if◌then◌else◌}
use Rattle.std.specs.Fmt.{signed_decimal}
use Rattle.report_contents.specs.declared.audit.BranchLine.{BranchLine}
use Rattle.report_contents.specs.declared.audit.Audit.{Audit}
use Rattle.report_contents.specs.Audit.{is_sound}
use Rattle.report_contents.specs.Lines.{line, left_in, right_in, text_of}

-- a label left in 12 places, and a number right in 20
unfoldable pub number_line : List ℕ → ℤ → List ℕ
number_line label number = line (left_in 12 label ++ right_in 20 (signed_decimal number))

-- how many rows the tables have, the sums, and how many ordinals aren't matched
abbrev pub number_lines : Audit → List (List ℕ)
number_lines a =
    number_line (codes "branches") (pos a.branches)
    ∷ number_line (codes "tellers") (pos a.tellers)
    ∷ number_line (codes "accounts") (pos a.accounts)
    ∷ number_line (codes "requests") (pos a.requests)
    ∷ number_line (codes "history") (pos a.history)
    ∷ number_line (codes "account sum") a.account_sum
    ∷ number_line (codes "teller sum") a.teller_sum
    ∷ number_line (codes "branch sum") a.branch_sum
    ∷ number_line (codes "history sum") a.history_sum
    ∷ number_line (codes "unmatched") (pos a.unmatched)
    ∷ []

-- a branch that isn't the sum of its tellers
unfoldable pub branch_line : BranchLine → List ℕ
branch_line l = line (codes "branch " ++ decimal l.branch ++ codes " tellers " ++ signed_decimal l.tellers
    ++ codes " balance " ++ signed_decimal l.balance)

abbrev pub verdict_line : Bool → List ℕ
verdict_line sound = line (if sound then codes "CONSISTENT" else codes "INCONSISTENT")

-- the ten numbers, the branches that differ, and the verdict
abbrev pub audit_lines : Audit → List (List ℕ)
audit_lines a = number_lines a ++ (map branch_line a.lines ++ verdict_line (is_sound a) ∷ [])

unfoldable pub audit_text : Audit → List ℕ
audit_text a = text_of (audit_lines a)
