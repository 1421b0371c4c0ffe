-- What is looked up in the tables of a log is what stands there by the definitions.
use Rattle.std.proofs.Common.{◌≡◌, ℕ, Bool, true, false, cond, leb, List, Option, Some, None, refl, ap, ◌∙◌}
use Rattle.std.specs.Prelude.{ℤ, is_some, ◌&&◌, option_and_then}
use Rattle.std.specs.Option.{option_map}
use Rattle.message_records.specs.believed.Records.{RequestFields}
use Rattle.posting_rules.specs.{declared.judgments.Found.Found, believed.Kept.KeptFields}
use Rattle.posting_rules.specs.believed.Commands.{Command, opened, is_teller_open, is_account_open, Terms, floor_of}
use Rattle.posting_rules.specs.believed.Numbering.{branch_of_teller, branch_of_account}
use Rattle.posting_rules.specs.believed.Entries.{DecidedRequest, facts, teller_balance, branch_balance}
use Rattle.posting_rules.specs.believed.Entries.{account_balance, decided, balance_after}
use Rattle.posting_rules.specs.believed.Tables.{Tables, HasRows, HasKeys, AreTablesOf, row_at, branch_key}
use Rattle.posting_rules.specs.believed.Tables.{branch_row_of, closing_key}
use Rattle.posting_rules.specs.declared.judgments.Books.{Books}
use Rattle.posting_rules.specs.believed.Tables.{teller_row, teller_row_of, account_row_of, floor_row_of}
use Rattle.posting_rules.specs.believed.LookUps.{found_in, both_of, teller_balances_in, account_balance_in, floor_in}
use Rattle.posting_rules.specs.believed.LookUps.{lowest_of, balance_of_branch, balance_of_teller, balance_of_account}
use Rattle.posting_rules.specs.believed.LookUps.{terms_in, terms_of_branch}
use Rattle.posting_rules.proofs.{Requests.AreNew, Requests.kept_shown, Closings.books_shown}
use Rattle.posting_rules.specs.declared.rows.ClosingRow.{ClosingRow}

-- an open teller has its branch's row
both_rows : (low : Bool) (o : Option Terms) (t b : ℕ) (x y : ℤ)
    → both_of (option_map balance_of_teller (cond (low && is_some o) (Some (teller_row_of t x)) None))
    (option_map balance_of_branch (option_map (branch_row_of b y) o))
    ≡ cond (low && is_some o) (Some (x, y)) None
both_rows true (Some n) t b x y = refl
both_rows true None t b x y = refl
both_rows false (Some n) t b x y = refl
both_rows false None t b x y = refl

pub teller_balances_shown : {runs : List ClosingRow} (t : Tables) (opened : ℕ → Option Terms) (es : List DecidedRequest) (n : ℕ)
    → HasRows t opened runs es
    → teller_balances_in t n ≡ cond (is_teller_open opened n)
    (Some (teller_balance es n, branch_balance es (branch_of_teller n))) None
teller_balances_shown t opened es n s =
    ap (λ o. both_of (option_map balance_of_teller o)
    (option_map balance_of_branch (row_at branch_key t.branches (branch_of_teller n)))) (s.tellers n)
    ∙ ap (λ o. both_of (option_map balance_of_teller (teller_row opened es n))
    (option_map balance_of_branch o)) (s.branches (branch_of_teller n))
    ∙ both_rows (leb 1 n) (opened (branch_of_teller n)) n (branch_of_teller n) (teller_balance es n)
    (branch_balance es (branch_of_teller n))

balance_if_open : (b : Bool) (n : ℕ) (z : ℤ)
    → option_map balance_of_account (cond b (Some (account_row_of n z)) None) ≡ cond b (Some z) None
balance_if_open true n z = refl
balance_if_open false n z = refl

pub account_balance_shown : {runs : List ClosingRow} (t : Tables) (opened : ℕ → Option Terms) (es : List DecidedRequest) (n : ℕ)
    → HasRows t opened runs es
    → account_balance_in t n ≡ cond (is_account_open opened n) (Some (account_balance es n)) None
account_balance_shown t opened es n s =
    ap (option_map balance_of_account) (s.accounts n) ∙ balance_if_open (is_account_open opened n) n
    (account_balance es n)

floor_of_row : (o : Option ℤ) (b : ℕ) → option_map lowest_of (option_map (floor_row_of b) o) ≡ o
floor_of_row (Some z) b = refl
floor_of_row None b = refl

-- the floor of a branch
pub floor_shown : {runs : List ClosingRow} (t : Tables) (opened : ℕ → Option Terms) (es : List DecidedRequest) (b : ℕ)
    → HasRows t opened runs es → floor_in t b ≡ floor_of opened b
floor_shown t opened es b s = ap (option_map lowest_of) (s.floors b) ∙ floor_of_row (floor_of opened b) b

terms_of_row : (o : Option Terms) (b : ℕ) (z : ℤ)
    → option_map (terms_of_branch (option_and_then (λ n. n.floor) o)) (option_map (branch_row_of b z) o) ≡ o
terms_of_row (Some n) b z = refl
terms_of_row None b z = refl

pub terms_shown : {runs : List ClosingRow} (t : Tables) (opened : ℕ → Option Terms) (es : List DecidedRequest) (b : ℕ)
    → HasRows t opened runs es
    → terms_in t b ≡ opened b
terms_shown t opened es b s =
    ap (λ o. option_map (terms_of_branch o) (row_at branch_key t.branches b)) (floor_shown t opened es b s)
    ∙ ap (option_map (terms_of_branch (floor_of opened b))) (s.branches b)
    ∙ terms_of_row (opened b) b (branch_balance es b)

-- all that is looked up for a request
pub found_shown : (t : Tables) (opened : ℕ → Option Terms) (runs : List ClosingRow) (es : List DecidedRequest)
    (r : RequestFields)
    → AreNew es → HasKeys closing_key runs
    → HasRows t opened runs es → found_in t r ≡ facts opened runs es r
found_shown t opened runs es r new keys s =
    made _ _ _ _ _ _ _ _ _ _ _ _ (teller_balances_shown t opened es r.teller s)
    (kept_shown t.requests t.references es s.request_keys s.requests s.references new r.teller r.number)
    (books_shown t.closings runs r.teller r.number s.closing_keys keys s.closings)
    s.decided (account_balance_shown t opened es r.account s)
    (floor_shown t opened es (branch_of_account r.account) s)
  where
    made : (a a' : Option (ℤ × ℤ)) (k k' : Option KeptFields) (c c' : Books) (n n' : ℕ) (b b' l l' : Option ℤ)
        → a ≡ a' → k ≡ k' → c ≡ c' → n ≡ n' → b ≡ b' → l ≡ l'
        → (let f : Found = record { teller = a; kept = k; books = c; decided = n; account = b; floor = l } in f) ≡
        record { teller = a'; kept = k'; books = c'; decided = n'; account = b'; floor = l' }
    made a a' k k' c c' n n' b b' l l' ea ek ec en eb el = rw (ea, ek, ec, en, eb, el) refl

-- the balance that an account shows is its balance after the log
pub balance_shown : (t : Tables) (log : List Command) (a : ℕ) → AreTablesOf t log
    → account_balance_in t a ≡ balance_after log a
balance_shown t log a s = account_balance_shown t (λ b. opened log b) (decided log) a s.rows
