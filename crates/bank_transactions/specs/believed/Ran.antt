-- Statements that were run, and what they make of tables.
use Rattle.std.specs.Prelude.{◌≡◌, ℕ, ℤ, pos, List, [], ◌∷◌, Some}
use Rattle.sqlite.specs.Effect.{Database}
use Rattle.sqlite.specs.Order.{Row}
use Rattle.sqlite_rules.specs.Lists.{Has}
use Rattle.posting_rules.specs.believed.Changes.{new_account, new_teller, with_account_balance, with_accounts}
use Rattle.posting_rules.specs.believed.Changes.{with_branch, with_branch_balance, with_decided, with_floor}
use Rattle.posting_rules.specs.believed.Changes.{with_history, with_reference, with_request, with_teller_balance}
use Rattle.posting_rules.specs.believed.Changes.{with_tellers}
use Rattle.posting_rules.specs.believed.Tables.{Tables}
use Rattle.sql_meanings.specs.believed.Entries.{Entry}
use Rattle.store_rows.specs.believed.Failures.{Additions}
use Rattle.store_rows.specs.believed.Inserts.{account_insert, account_update, branch_insert, branch_update}
use Rattle.store_rows.specs.believed.Inserts.{eight_postings_insert, eight_requests_insert, floor_insert, meta_key}
use Rattle.store_rows.specs.believed.Inserts.{meta_update, posting_insert, reference_insert, request_insert}
use Rattle.store_rows.specs.believed.Inserts.{teller_insert, teller_update}
use Rattle.store_rows.specs.believed.Made.{WritesOnly}
use Rattle.store_rows.specs.believed.SeveralRows.{given_each, under}
use Rattle.store_rows.specs.believed.View.{account_entry, branch_entry, floor_entry, history_entry, reference_entry}
use Rattle.store_rows.specs.believed.View.{request_entry, teller_entry}

-- texts that were run, each with its values
abbrev pub Statements : Type 0
Statements = List (List ℕ × Row)

-- with the rows put in, one after another, the first tables are the second
abbrev pub ArePut : {R : Type 0} → (R → Tables → Tables) → List R → Tables → Tables → Type 0
ArePut put [] t u = u ≡ t
ArePut put (r ∷ rows) t u = ArePut put rows (put r t) u

-- by one of these texts such rows are put in
abbrev pub Puts : {R : Type 0} → List (List ℕ) → (R → Entry) → (R → Tables → Tables) → List ℕ → Row → Tables → Tables
    → Type 0
Puts {R} texts entry put text values t u =
    Has texts text × (rows : List R) × (values ≡ given_each entry rows) × ArePut put rows t u

-- by this text the row under a key gets a number
abbrev pub Sets : List ℕ → (ℕ → ℤ → Tables → Tables) → List ℕ → Row → Tables → Tables → Type 0
Sets update set text values t u =
    (text ≡ update) × (key : ℕ) × (number : ℤ) × (values ≡ under key number) × (u ≡ set key number t)

-- what a statement makes of tables
pub data Turns (text : List ℕ) (values : Row) (t u : Tables) : Type 0 where
  Posting : Puts (posting_insert ∷ eight_postings_insert ∷ []) history_entry with_history text values t u
      → Turns text values t u
  Request : Puts (request_insert ∷ eight_requests_insert ∷ []) request_entry with_request text values t u
      → Turns text values t u
  Reference : Puts (reference_insert ∷ []) reference_entry (λ r. with_reference r.ordinal (Some r.reference)) text values t u
      → Turns text values t u
  NewBranch : Puts (branch_insert ∷ []) branch_entry with_branch text values t u → Turns text values t u
  NewTeller : Puts (teller_insert ∷ []) (λ n. teller_entry (new_teller n)) (λ n. with_tellers n 1) text values t u
      → Turns text values t u
  NewAccount : Puts (account_insert ∷ []) (λ n. account_entry (new_account n)) (λ n. with_accounts n 1) text values t u
      → Turns text values t u
  NewFloor : Puts (floor_insert ∷ []) floor_entry (λ r. with_floor r.branch (Some r.lowest)) text values t u
      → Turns text values t u
  OfAccount : Sets account_update with_account_balance text values t u → Turns text values t u
  OfTeller : Sets teller_update with_teller_balance text values t u → Turns text values t u
  OfBranch : Sets branch_update with_branch_balance text values t u → Turns text values t u
  OfCount : (decided : ℕ) → text ≡ meta_update → values ≡ under meta_key (pos decided) → u ≡ with_decided decided t
      → Turns text values t u

-- Run one after another on the first tables, they make the second: all by which these differ is written, and nothing
-- else is.
abbrev pub LeadTo : Tables → Tables → Statements → Type 0
LeadTo t u [] = u ≡ t
LeadTo t u (s ∷ more) = (mid : Tables) × Turns s.0 s.1 t mid × LeadTo mid u more

-- statements that were run one after another, each of which puts such rows in, or changes one, did; and of all of them
-- this holds
pub record Runs (Adds : Additions) (All : Statements → Type 0) (old new : Database) : Type 0 where
  pub only : WritesOnly Adds old new
  pub all : All only.statements
