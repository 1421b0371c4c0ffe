-- What isn't open has no balance.
use Rattle.std.proofs.Common.{◌≡◌, ℕ, Bool, true, false, eqb, List, [], ◌∷◌, Option, None, refl, ap, inl, inr}
use Rattle.std.specs.{Prelude.pos, Prelude.is_some, List.AllByRecursion}
use Rattle.std.proofs.lemmas.Bool.{eqb-true}
use Rattle.message_records.specs.believed.Records.{RequestFields}
use Rattle.posting_rules.specs.believed.Commands.{opened, is_teller_open, is_account_open, Terms}
use Rattle.posting_rules.specs.believed.Entries.{DecidedRequest, is_posted, posted_sum, teller_balance}
use Rattle.posting_rules.specs.believed.Entries.{branch_balance, account_balance}
use Rattle.posting_rules.proofs.{Keyed.by_test, Totals.all_follow}
use Rattle.posting_rules.proofs.NamedOpen.{AllNameOpen, NamesOpen, open_home}

-- a sum to which nothing is posted
sum_none : (test : RequestFields → Bool) (es : List DecidedRequest)
    → AllByRecursion (λ e. is_posted e ≡ true → test e.request ≡ false) es → posted_sum test es ≡ pos 0
sum_none test [] h = refl
sum_none test (e ∷ es) h =
    elim (by_test (is_posted e)) [
      | inl t ↦ rw (t, h.0 t) (sum_none test es h.1)
      | inr f ↦ rw f (sum_none test es h.1)
    ]

apart : (f : ℕ → Bool) (k n : ℕ) → f k ≡ true → f n ≡ false → eqb k n ≡ false
apart f k n t e = elim (by_test (eqb k n))
    [ inl h ↦ absurd (let same = ap f (eqb-true k n h) in cc) | inr h ↦ h ]

-- what no posting names has no balance
none_named : (name : RequestFields → ℕ) (is_open : ℕ → Bool) (es : List DecidedRequest) (n : ℕ)
    → AllByRecursion (λ e. is_posted e ≡ true → is_open (name e.request) ≡ true) es → is_open n ≡ false
    → posted_sum (λ r. eqb (name r) n) es ≡ pos 0
none_named name is_open es n named closed =
    sum_none (λ r. eqb (name r) n) es (all_follow _ (λ e. is_posted e ≡ true → eqb (name e.request) n ≡ false)
    es (λ e open_there p. apart is_open (name e.request) n (open_there p) closed) named)

pub teller_none : (opened : ℕ → Option Terms) (es : List DecidedRequest) (n : ℕ) → AllNameOpen opened es
    → is_teller_open opened n ≡ false → teller_balance es n ≡ pos 0
teller_none opened es n all closed =
    none_named (λ r. r.teller) (λ k. is_teller_open opened k) es n
    (all_follow (NamesOpen opened) _ es (λ e named. named.teller) all) closed

pub account_none : (opened : ℕ → Option Terms) (es : List DecidedRequest) (n : ℕ) → AllNameOpen opened es
    → is_account_open opened n ≡ false → account_balance es n ≡ pos 0
account_none opened es n all closed =
    none_named (λ r. r.account) (λ k. is_account_open opened k) es n
    (all_follow (NamesOpen opened) _ es (λ e named. named.account) all) closed

pub branch_none : (opened : ℕ → Option Terms) (es : List DecidedRequest) (n : ℕ) → AllNameOpen opened es
    → opened n ≡ None
    → branch_balance es n ≡ pos 0
branch_none opened es n all closed =
    none_named (λ r. r.branch) (λ k. is_some (opened k)) es n
    (all_follow (NamesOpen opened) _ es (λ e named. open_home opened e named) all) (ap is_some closed)
