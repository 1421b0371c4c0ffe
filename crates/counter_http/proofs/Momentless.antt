-- No answer but one with entries of the log depends on the moments of the postings before it.
use Rattle.std.proofs.Common.{◌≡◌, ℕ, zero, suc, Bool, true, false, cond, eqb, List, [], ◌∷◌, ◌++◌, length, Option}
use Rattle.std.proofs.Common.{Some, None, refl, sym, ap, ◌∙◌, arith}
use Rattle.std.specs.Prelude.{ℤ, codes, bytes_eq}
use Rattle.std.specs.List.{AllByRecursion}
use Rattle.message_records.specs.believed.{Records.ReplyFields, Reading.request_of, Spelling.reply_spelling}
use Rattle.posting_rules.specs.{declared.limits.TheConstants.LAST_BRANCH, believed.Runs.followed_by}
use Rattle.posting_rules.specs.believed.Commands.{Command, Post, opened, is_account_open, is_teller_open, Terms}
use Rattle.posting_rules.specs.believed.Entries.{DecidedRequest, account_balance, branch_balance, with_record}
use Rattle.posting_rules.specs.believed.Entries.{decided, reply_given, reply, balance_after, teller_balance}
use Rattle.posting_core.specs.believed.Tills.{teller_after}
use Rattle.posting_core.proofs.Timeless.{zeroed, sum_zeroed, reply_zeroed, record_zeroed}
use Rattle.counter_http.specs.{declared.routes.Route.Route, Momentless.AsksNoLog}
use Rattle.counter_http.specs.declared.routes.Route.TheVariants.{Posting, Account, Teller, Branches, Health, Log, Metrics}
use Rattle.counter_http.specs.declared.routes.Route.TheVariants.{Plan}
use Rattle.counter_http.specs.believed.Messages.{Message}
use Rattle.counter_http.specs.believed.Paths.{account_in, path_of, route_of, teller_in}
use Rattle.counter_http.specs.believed.Answers.{Asked, Answer, asked_by, account_answer, account_line, account_named, answer_of}
use Rattle.counter_http.specs.believed.Answers.{answer_on, answer_text, answer_to, balance_answer, balance_line, bare}
use Rattle.counter_http.specs.believed.Answers.{branch_line, branch_lines, csv, is_posting, is_reading, line_if_open}
use Rattle.counter_http.specs.believed.Answers.{lines_up_to, not_allowed, plain, plan_line, plan_lines, plan_names}
use Rattle.counter_http.specs.believed.Answers.{shows, teller_answer, teller_line, teller_named}
use Rattle.counter_http.specs.believed.Turns.{Turn, commands_for, commands_if, commands_in, answers_to, messages_of}
use Rattle.counter_http.proofs.Timed.{head_same, tail_same}
use Rattle.posting_rules.specs.declared.rows.ClosingRow.{ClosingRow}
use Rattle.posting_rules.specs.believed.Closings.{closings}

-- the same is open, the same is closed, and the same is decided but for the moments
pub record IsAlike (a b : List Command) : Type 0 where
  pub opens : ◌≡◌ {A = ℕ → Option Terms} (λ n. opened a n) (λ n. opened b n)
  pub closes : closings a ≡ closings b
  pub entries : zeroed (decided a) ≡ zeroed (decided b)

abbrev Opened : Type 0
Opened = ℕ → Option Terms

-- ---- what is answered

reply_alike : (a b : List Command) (bytes : List ℕ) → IsAlike a b → reply a bytes ≡ reply b bytes
reply_alike a b bytes h =
    sym (reply_zeroed (λ n. opened a n) (closings a) (decided a) (request_of bytes))
    ∙ ap (λ (o : Opened). reply_given (request_of bytes) o (closings a) (zeroed (decided a))) h.opens
    ∙ ap (λ (runs : List ClosingRow). reply_given (request_of bytes) (λ n. opened b n) runs (zeroed (decided a))) h.closes
    ∙ ap (λ (es : List DecidedRequest). reply_given (request_of bytes) (λ n. opened b n) (closings b) es) h.entries
    ∙ reply_zeroed (λ n. opened b n) (closings b) (decided b) (request_of bytes)

balance_alike : (a b : List Command) (account : ℕ) → IsAlike a b
    → balance_after a account ≡ balance_after b account
balance_alike a b account h =
    let sum : account_balance (decided a) account ≡ account_balance (decided b) account =
    sym (sum_zeroed (λ r. eqb r.account account) (decided a))
    ∙ ap (λ (es : List DecidedRequest). account_balance es account) h.entries
    ∙ sum_zeroed (λ r. eqb r.account account) (decided b) in
    ap (λ (o : Opened). cond (is_account_open o account) (Some (account_balance (decided a) account)) None)
    h.opens
    ∙ ap (λ (z : ℤ). cond (is_account_open (λ n. opened b n) account) (Some z) None) sum

till_alike : (a b : List Command) (teller : ℕ) → IsAlike a b → teller_after a teller ≡ teller_after b teller
till_alike a b teller h =
    let sum : teller_balance (decided a) teller ≡ teller_balance (decided b) teller =
    sym (sum_zeroed (λ r. eqb r.teller teller) (decided a))
    ∙ ap (λ (es : List DecidedRequest). teller_balance es teller) h.entries
    ∙ sum_zeroed (λ r. eqb r.teller teller) (decided b) in
    ap (λ (o : Opened). cond (is_teller_open o teller) (Some (teller_balance (decided a) teller)) None) h.opens
    ∙ ap (λ (z : ℤ). cond (is_teller_open (λ n. opened b n) teller) (Some z) None) sum

line_alike : (f g : Terms → List ℕ) (o : Option Terms) → ((t : Terms) → f t ≡ g t)
    → line_if_open f o ≡ line_if_open g o
line_alike f g None same = refl
line_alike f g (Some terms) same = same terms

lines_alike : (f g : ℕ → Terms → List ℕ) (a b : List Command) (n : ℕ) → ((k : ℕ) (t : Terms) → f k t ≡ g k t)
    → IsAlike a b → lines_up_to f a n ≡ lines_up_to g b n
lines_alike f g a b zero same h = refl
lines_alike f g a b (suc n) same h =
    ap (λ (t : List ℕ). t ++ line_if_open (f (suc n)) (opened a (suc n))) (lines_alike f g a b n same h)
    ∙ ap (λ (t : List ℕ). lines_up_to g b n ++ t)
    (line_alike (f (suc n)) (g (suc n)) (opened a (suc n)) (same (suc n))
    ∙ ap (λ (o : Opened). line_if_open (g (suc n)) (o (suc n))) h.opens)

balances_alike : (a b : List Command) → IsAlike a b → (k : ℕ) (t : Terms) → balance_line a k t ≡ balance_line b k t
balances_alike a b h k t =
    ap (branch_line k t.accounts)
    (sym (sum_zeroed (λ r. eqb r.branch k) (decided a))
    ∙ ap (λ (es : List DecidedRequest). branch_balance es k) h.entries
    ∙ sum_zeroed (λ r. eqb r.branch k) (decided b))

branches_alike : (a b : List Command) → IsAlike a b → branch_lines a ≡ branch_lines b
unfolding branch_lines
branches_alike a b h = lines_alike (balance_line a) (balance_line b) a b LAST_BRANCH (balances_alike a b h) h

plan_alike : (a b : List Command) → IsAlike a b → plan_lines a ≡ plan_lines b
unfolding plan_lines
plan_alike a b h =
    ap (λ (t : List ℕ). plan_names ++ t)
    (lines_alike plan_line plan_line a b LAST_BRANCH (λ (k : ℕ) (t : Terms). refl) h)

account_alike : (a b : List Command) (account : Option ℕ) → IsAlike a b
    → account_answer a account ≡ account_answer b account
account_alike a b None h = refl
account_alike a b (Some account) h = ap (balance_answer (account_line account)) (balance_alike a b account h)

teller_alike : (a b : List Command) (teller : Option ℕ) → IsAlike a b → teller_answer a teller ≡ teller_answer b teller
teller_alike a b None h = refl
teller_alike a b (Some teller) h = ap (balance_answer (teller_line teller)) (till_alike a b teller h)

on_alike : (a b : List Command) (o : Option Route) (asked : Asked) → (o ≡ Some Log → ⊥) → IsAlike a b
    → answer_on a o asked ≡ answer_on b o asked
on_alike a b None asked other h = refl
on_alike a b (Some Posting) asked other h =
    ap (λ (r : ReplyFields). cond (bytes_eq asked.method (codes "POST"))
    (cond (eqb (length asked.body) 100)
    (record { code = 200; media = codes "application/octet-stream"; allow = None; body = reply_spelling r })
    (bare 400))
    (not_allowed (codes "POST"))) (reply_alike a b asked.body h)
on_alike a b (Some Account) asked other h =
    ap (λ (x : Answer). cond (is_reading asked.method) x (not_allowed (codes "GET, HEAD")))
    (account_alike a b (account_named (account_in (path_of asked.target))) h)
on_alike a b (Some Teller) asked other h =
    ap (λ (x : Answer). cond (is_reading asked.method) x (not_allowed (codes "GET, HEAD")))
    (teller_alike a b (teller_named (teller_in (path_of asked.target))) h)
on_alike a b (Some Branches) asked other h =
    ap (λ (x : List ℕ). cond (is_reading asked.method) (plain x) (not_allowed (codes "GET, HEAD")))
    (branches_alike a b h)
on_alike a b (Some Health) asked other h = refl
on_alike a b (Some Log) asked other h = absurd (other refl)
on_alike a b (Some Metrics) asked other h = refl
on_alike a b (Some Plan) asked other h =
    ap (λ (x : List ℕ). cond (is_reading asked.method) (csv x) (not_allowed (codes "GET, HEAD"))) (plan_alike a b h)

answer_alike : (a b : List Command) (asked : Asked) → (route_of (path_of asked.target) ≡ Some Log → ⊥) → IsAlike a b
    → answer_of a asked ≡ answer_of b asked
unfolding answer_to
answer_alike a b asked other h =
    ap (λ (x : Answer). answer_text x (shows asked) asked.closes)
    (on_alike a b (route_of (path_of asked.target)) asked other h)

-- ---- what stands after

post_alike : (a b : List Command) (m k : ℕ) (bytes : List ℕ) → IsAlike a b
    → IsAlike (Post m bytes ∷ a) (Post k bytes ∷ b)
post_alike a b m k bytes h = record {
  opens = h.opens;
  closes = h.closes;
  entries = record_zeroed m (λ n. opened a n) (closings a) (decided a) (request_of bytes)
      ∙ ap (λ (o : Opened). with_record 0 (request_of bytes) o (closings a) (zeroed (decided a))) h.opens
      ∙ ap (λ (runs : List ClosingRow). with_record 0 (request_of bytes) (λ n. opened b n) runs (zeroed (decided a))) h.closes
      ∙ ap (λ (es : List DecidedRequest). with_record 0 (request_of bytes) (λ n. opened b n) (closings b) es) h.entries
      ∙ sym (record_zeroed k (λ n. opened b n) (closings b) (decided b) (request_of bytes));
}

after_alike : (a b : List Command) (m k : ℕ) (posts : Bool) (bytes : List ℕ) → IsAlike a b
    → IsAlike (followed_by a (commands_if posts m bytes)) (followed_by b (commands_if posts k bytes))
after_alike a b m k true bytes h = post_alike a b m k bytes h
after_alike a b m k false bytes h = h

answers_alike : (a b : List Command) (ts us : List Turn) → IsAlike a b → AllByRecursion AsksNoLog ts
    → messages_of ts ≡ messages_of us → answers_to a ts ≡ answers_to b us
answers_alike a b [] [] h others same = refl
answers_alike a b [] (u ∷ us) h others same = absurd (let len = ap length same in omega (arith, len))
answers_alike a b (t ∷ ts) [] h others same = absurd (let len = ap length same in omega (arith, len))
answers_alike a b (t ∷ ts) (u ∷ us) h others same =
    let message : u.message ≡ t.message = sym (head_same same) in
    let asked = asked_by t.message in
    let more = answers_alike (followed_by a (commands_in t)) (followed_by b (commands_for u.moment asked)) ts us
    (after_alike a b t.moment u.moment (is_posting asked) asked.body h) others.1 (tail_same same) in
    ap (λ (x : List ℕ). x ∷ answers_to (followed_by a (commands_in t)) ts) (answer_alike a b asked others.0 h)
    ∙ ap (λ (xs : List (List ℕ)). answer_of b asked ∷ xs) more
    ∙ ap (λ (m : Message). answer_of b (asked_by m) ∷ answers_to (followed_by b (commands_for u.moment (asked_by m))) us)
    (sym message)

pub momentless : (log : List Command) (ts us : List Turn) → AllByRecursion AsksNoLog ts
    → messages_of ts ≡ messages_of us → answers_to log ts ≡ answers_to log us
momentless log ts us others same =
    answers_alike log log ts us (record { opens = refl; closes = refl; entries = refl }) others same
