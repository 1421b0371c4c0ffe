-- A second bank's log, which follows the requests that a first one decided.
use Rattle.std.specs.Prelude.{◌≡◌, ℕ, Bool, true, false, List, ◌∷◌, map, Option, Some, None, if◌then◌else◌, []}
use Rattle.message_records.specs.believed.Records.{RequestFields}
use Rattle.message_records.specs.declared.records.Outcome.{Outcome}
use Rattle.message_records.specs.declared.records.Outcome.TheVariants.{NoAccount, WrongBranch}
use Rattle.posting_rules.specs.believed.Commands.{Command, Open, Terms, opened}
use Rattle.posting_rules.specs.believed.Entries.{DecidedRequest, decided, is_posted}
use Rattle.posting_rules.specs.believed.Numbering.{branch_of_account, branch_of_teller}
use Rattle.posting_rules.specs.believed.Tables.{closing_key, row_at}
use Rattle.posting_rules.specs.believed.Closings.{closings}

-- a decided request, its moment aside where it wasn't posted: no row has that
abbrev pub timed : DecidedRequest → DecidedRequest
timed e = record e { moment = if is_posted e then e.moment else 0 }

-- Two logs lead to the same rows: they decided the same requests, opened the same branches with the same terms, and
-- closed the same numbers.
pub record HaveSameRows (log other : List Command) : Type 0 where
  pub requests : map timed (decided log) ≡ map timed (decided other)
  pub branches : (b : ℕ) → opened log b ≡ opened other b
  pub closed : (x : ℕ) → row_at closing_key (closings log) x ≡ row_at closing_key (closings other) x

-- what is open here is open there, with the same terms
abbrev pub IsWithin : (here there : ℕ → Option Terms) → Type 0
IsWithin here there = (b : ℕ) (terms : Terms) → here b ≡ Some terms → there b ≡ Some terms

-- ---- what is opened before a request

-- a request with this outcome was judged by its account, which is open then
abbrev pub had_account : Outcome → Bool
had_account WrongBranch = false
had_account NoAccount = false
had_account _ = true

abbrev pub open_by : (first planned : Option Terms) → ℕ → List Command → List Command
open_by None (Some terms) b log = Open b terms ∷ log
open_by None None b log = log
open_by (Some first) planned b log = log

-- a branch is opened, if it is planned and isn't open yet
abbrev pub opening : (plan : ℕ → Option Terms) → ℕ → List Command → List Command
opening plan b log = open_by (opened log b) (plan b) b log

-- the branches that a request needs: its teller's, and where it had an account the account's
abbrev pub prepared : (plan : ℕ → Option Terms) → (had : Bool) → RequestFields → List Command → List Command
prepared plan false r log = opening plan (branch_of_teller r.teller) log
prepared plan true r log =
    opening plan (branch_of_account r.account) (opening plan (branch_of_teller r.teller) log)

-- ---- the log so far

-- a log decided these requests, and opened what is planned
pub record AreDecided (plan : ℕ → Option Terms) (es : List DecidedRequest) : Type 0 where
  pub first : List Command
  pub decides : decided first ≡ es
  pub within : IsWithin (λ b. opened first b) plan

-- it decided the same, and opened nothing that wasn't open there
pub record Follows (plan : ℕ → Option Terms) (es : List DecidedRequest) (log : List Command) : Type 0 where
  pub requests : map timed (decided log) ≡ map timed es
  pub current : closings log ≡ []
  pub within : (first : List Command) → decided first ≡ es → IsWithin (λ b. opened first b) plan
      → IsWithin (λ b. opened log b) (λ b. opened first b)
