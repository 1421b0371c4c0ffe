-- Logs with equal tables answer openings, balances and branches alike, whatever commands follow.
use Rattle.std.proofs.Common.{◌≡◌, ℕ, List, [], ◌∷◌, Option, Some, None, sym, ap, ◌∙◌}
use Rattle.std.specs.Prelude.{option_map}
use Rattle.posting_rules.specs.declared.counter.BranchLine.{BranchLine}
use Rattle.posting_rules.specs.{Branches.IsNextBranch, believed.Changes.tables_past, believed.Changes.tables_with_branch}
use Rattle.posting_rules.specs.believed.Changes.{tables_closed}
use Rattle.posting_rules.proofs.ClosedTables.{closing_shown}
use Rattle.posting_rules.specs.{believed.LookUps.balance_of_branch, believed.Runs.followed_by, Alike.AreAlike}
use Rattle.posting_rules.specs.believed.Commands.{Command, Open, Post, Close, AreCommands, opened, Terms, opened_with}
use Rattle.posting_rules.specs.believed.Counter.{opening_for, opening_after}
use Rattle.posting_rules.specs.believed.Entries.{balance_after, branch_balance, decided}
use Rattle.posting_rules.specs.believed.Tables.{Tables, AreTablesOf}
use Rattle.posting_rules.proofs.{Calls.opens, Looked.balance_shown, Looked.terms_shown, Records.past_shown}

-- tables that show both logs with the commands after them
record BothShown (one two : List Command) : Type 0 where
  tables : Tables
  first : AreTablesOf tables one
  second : AreTablesOf tables two

both_shown : (t : Tables) (one two cs : List Command) → AreTablesOf t one → AreTablesOf t two → AreCommands cs
    → BothShown (followed_by one cs) (followed_by two cs)
both_shown t one two [] s u valid = record { tables = t; first = s; second = u }
both_shown t one two (Post m bytes ∷ cs) s u valid =
    both_shown (tables_past t m bytes) (Post m bytes ∷ one) (Post m bytes ∷ two) cs
    (past_shown t one m bytes s) (past_shown t two m bytes u) valid.1
both_shown t one two (Close first last ∷ cs) s u valid =
    both_shown (tables_closed t first last) (Close first last ∷ one) (Close first last ∷ two) cs
    (closing_shown t one first last s) (closing_shown t two first last u) valid.1
both_shown t one two (Open b terms ∷ cs) s u valid =
    let is = opens b terms valid.0.0 valid.0.3 in
    both_shown (tables_with_branch t b terms) (Open b terms ∷ one) (Open b terms ∷ two) cs (is t one s)
    (is t two u) valid.1

-- ---- logs with equal tables

opened_alike : (one two : List Command) → BothShown one two → (b : ℕ) → opened one b ≡ opened two b
opened_alike one two x b =
    sym (terms_shown x.tables (λ n. opened one n) (decided one) b x.first.rows) ∙ terms_shown x.tables
    (λ n. opened two n) (decided two) b x.second.rows

-- an open branch has one balance
open_alike : (one two : List Command) → BothShown one two → (b : ℕ) (n : Terms) → opened one b ≡ Some n
    → branch_balance (decided one) b ≡ branch_balance (decided two) b
open_alike one two x b n is =
    let other : opened two b ≡ Some n = sym (opened_alike one two x b) ∙ is in
    let rows = sym (x.first.rows.branches b) ∙ x.second.rows.branches b in
    let same = rw (is, other) at rows in
    let balances : Some (branch_balance (decided one) b) ≡ Some (branch_balance (decided two) b) = ap
    (option_map balance_of_branch) same in
    cc balances

next_alike : (one two : List Command) → BothShown one two → (after : ℕ) (line : Option BranchLine)
    → IsNextBranch one after line → IsNextBranch two after line
next_alike one two x after None h = λ b above. sym (opened_alike one two x b) ∙ h b above
next_alike one two x after (Some line) h = record {
  above = h.above;
  terms = sym (opened_alike one two x line.branch) ∙ h.terms;
  balance = h.balance ∙ open_alike one two x line.branch (opened_with line.accounts line.floor) h.terms;
  none_between = λ b low high. sym (opened_alike one two x b) ∙ h.none_between b low high;
}

-- ---- whatever commands follow

both_of : (t : Tables) (one two cs : List Command) → AreAlike t one two cs
    → BothShown (followed_by one cs) (followed_by two cs)
both_of t one two cs a = both_shown t one two cs a.first a.second a.valid

pub openings_alike : (t : Tables) (one two cs : List Command) → AreAlike t one two cs → (b : ℕ) (terms : Terms)
    → opening_after (followed_by one cs) b terms ≡ opening_after (followed_by two cs) b terms
openings_alike t one two cs a b terms =
    ap (λ (o : Option Terms). opening_for o terms)
    (opened_alike (followed_by one cs) (followed_by two cs) (both_of t one two cs a) b)

pub balances_alike : (t : Tables) (one two cs : List Command) → AreAlike t one two cs → (account : ℕ)
    → balance_after (followed_by one cs) account ≡ balance_after (followed_by two cs) account
balances_alike t one two cs a account =
    let x = both_of t one two cs a in
    sym (balance_shown x.tables (followed_by one cs) account x.first) ∙ balance_shown x.tables
    (followed_by two cs) account x.second

pub branches_alike : (t : Tables) (one two cs : List Command) → AreAlike t one two cs
    → (after : ℕ) (line : Option BranchLine)
    → IsNextBranch (followed_by one cs) after line → IsNextBranch (followed_by two cs) after line
branches_alike t one two cs a after line = next_alike (followed_by one cs) (followed_by two cs)
    (both_of t one two cs a) after line
