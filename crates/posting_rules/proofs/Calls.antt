-- What a request, an opening and a look-up do to the tables is what the commands lead to.
use Rattle.std.proofs.Common.{◌≡◌, ℕ, ◌≤◌, List, [], ◌∷◌, Option, Some, None, Ok, refl, sym, ap, ◌∙◌}
use Rattle.std.specs.Option.{option_map}
use Rattle.message_records.specs.believed.{Records.RequestFields, Reading.request_of, Spelling.reply_spelling}
use Rattle.posting_rules.specs.{declared.rows.BranchRow.BranchRow, believed.Runs.followed_by}
use Rattle.posting_rules.specs.{believed.Entries.decided, believed.Entries.reply, believed.LookUps.floor_in}
use Rattle.posting_rules.specs.{believed.LookUps.terms_in, believed.LookUps.terms_of_branch, declared.limits.TheConstants.MAX_ACCOUNTS}
use Rattle.posting_rules.specs.believed.Commands.{Command, Open, Post, opened, Terms}
use Rattle.posting_rules.specs.believed.Counter.{opening_for, opening_after}
use Rattle.posting_rules.specs.believed.Tables.{Tables, row_at, branch_key, AreTablesOf as Show}
use Rattle.posting_rules.proofs.{Looked.terms_shown, Ready.ready_shown, ChangesByKey.opens_is}
use Rattle.posting_rules.proofs.TablesWithBranch.{opening_shown, already_open_shown}
use Rattle.posting_rules.proofs.TablesWithRecord.{post_shown, reply_shown}
use Rattle.posting_rules.specs.believed.Changes.{tables_with, reply_bytes}
use Rattle.posting_rules.specs.believed.Changes.{opened_where, tables_with_branch}

-- the change is that of the commands
abbrev pub IsChange : (Tables → Tables) → List Command → Type 0
IsChange after cs = (t : Tables) (log : List Command) → Show t log → Show (after t) (followed_by log cs)

-- ---- a request

pub posts : (m : ℕ) (bytes : List ℕ) (r : RequestFields) → request_of bytes ≡ Ok r
    → IsChange (λ t. tables_with t m r) (Post m bytes ∷ [])
posts m bytes r read t log shows = post_shown t log m bytes r read shows

pub replies : (t : Tables) (log : List Command) (bytes : List ℕ) (r : RequestFields) → request_of bytes ≡ Ok r
    → Show t log
    → reply_bytes t r ≡ reply_spelling (reply log bytes)
replies t log bytes r read shows = ap reply_spelling (reply_shown t log bytes r read shows)

-- ---- an opening

pub opens : (b : ℕ) (terms : Terms) → 1 ≤ b → terms.accounts ≤ MAX_ACCOUNTS
    → IsChange (λ t. tables_with_branch t b terms) (Open b terms ∷ [])
opens b terms above few t log shows = by_row (row_at branch_key t.branches b) refl
  where
    counted : terms_in t b ≡ opened log b
    counted = terms_shown t (λ x. opened log x) (decided log) b shows.rows

    by_row : (o : Option BranchRow) → row_at branch_key t.branches b ≡ o
        → Show (opened_where o t b terms) (Open b terms ∷ log)
    by_row None e = opening_shown t _ log b terms
        (sym counted ∙ ap (option_map (terms_of_branch (floor_in t b))) e) above few shows
        (opens_is t b terms (ready_shown t log shows) above few e)
    by_row (Some row) e = already_open_shown t log b terms (terms_of_branch (floor_in t b) row)
        (sym counted ∙ ap (option_map (terms_of_branch (floor_in t b))) e) shows

pub answers : (t : Tables) (log : List Command) (b : ℕ) (terms : Terms) → Show t log
    → opening_for (terms_in t b) terms ≡ opening_after log b terms
answers t log b terms shows = ap (λ o. opening_for o terms)
    (terms_shown t (λ x. opened log x) (decided log) b shows.rows)

-- ---- a look-up

pub stays : IsChange (λ t. t) []
stays t log shows = shows
