-- Where statements lead that were run one after another.
use Rattle.std.proofs.Common.{◌≡◌, ◌+◌, ◌++◌, ℕ, List, [], ◌∷◌, arith, refl, sym, subst, inl}
use Rattle.std.proofs.lemmas.List.{append-nil}
use Rattle.std.specs.Prelude.{ℤ, pos}
use Rattle.sqlite.specs.Order.{Row}
use Rattle.sqlite_rules.specs.Lists.{Has}
use Rattle.posting_rules.specs.Changes.{with_account, with_teller}
use Rattle.posting_rules.specs.believed.Changes.{new_account, new_teller, with_accounts, with_decided, with_tellers}
use Rattle.posting_rules.specs.believed.Tables.{Tables}
use Rattle.sql_meanings.specs.believed.Entries.{Entry}
use Rattle.store_rows.specs.{Holders.holder_update, Holders.with_balance, Lying.holder_key, SeveralRows.with_each}
use Rattle.store_rows.specs.declared.holders.{Holder.Holder, Holder.TheVariants.Account, Holder.TheVariants.Branch}
use Rattle.store_rows.specs.declared.holders.Holder.TheVariants.{Teller}
use Rattle.store_rows.specs.believed.Inserts.{meta_key, meta_update}
use Rattle.store_rows.specs.believed.SeveralRows.{given, given_each, under}
use Rattle.bank_transactions.specs.NewRows.{with_new}
use Rattle.bank_transactions.specs.believed.Additions.{entry_of, insert_of}
use Rattle.bank_transactions.specs.believed.Ran.{ArePut, LeadTo, NewAccount, NewTeller, OfAccount, OfBranch, OfCount}
use Rattle.bank_transactions.specs.believed.Ran.{OfTeller, Puts, Statements, Turns}
use Rattle.bank_transactions.specs.declared.new_branch.NewRows.{NewRows}
use Rattle.bank_transactions.specs.declared.new_branch.NewRows.TheVariants.{Tellers, Accounts}

-- some statements, and then more
pub lead_then : (some more : Statements) (t u v : Tables) → LeadTo t u some → LeadTo u v more
    → LeadTo t v (some ++ more)
lead_then [] more t u v one two = subst (λ (w : Tables). LeadTo w v more) one two
lead_then (s ∷ some) more t u v one two = (one.0, one.1, lead_then some more one.0 u v one.2 two)

-- one statement
pub lead_one : {text : List ℕ} {values : Row} {t u : Tables} → Turns text values t u
    → LeadTo t u ((text, values) ∷ [])
lead_one {u = u} turns = (u, turns, refl)

-- ---- rows that one puts in

-- the values of one row are those of it alone
pub alone : (values : Row) → values ≡ values ++ []
alone values = sym (append-nil values)

are_put : {R : Type 0} (put : R → Tables → Tables) (rows : List R) (t : Tables) → ArePut put rows t (with_each put rows t)
are_put put [] t = refl
are_put put (r ∷ rows) t = are_put put rows (put r t)

pub puts_each : {R : Type 0} {entry : R → Entry} {put : R → Tables → Tables} {values : Row} (texts : List (List ℕ))
    (text : List ℕ) (rows : List R) → Has texts text → values ≡ given_each entry rows → (t : Tables)
    → Puts texts entry put text values t (with_each put rows t)
puts_each {put = put} texts text rows among are t = (among, rows, are, are_put put rows t)

-- one more, with nothing on it
one_teller : (n : ℕ) (t : Tables) → with_teller (new_teller n) t ≡ with_tellers n 1 t
unfolding with_teller with_tellers
one_teller n t =
    let same : n + 0 ≡ n = omega arith in
    subst (λ (m : ℕ). with_teller (new_teller m) t ≡ with_tellers n 1 t) same refl

one_account : (n : ℕ) (t : Tables) → with_account (new_account n) t ≡ with_accounts n 1 t
unfolding with_account with_accounts
one_account n t =
    let same : n + 0 ≡ n = omega arith in
    subst (λ (m : ℕ). with_account (new_account m) t ≡ with_accounts n 1 t) same refl

pub lead_new : (kind : NewRows) (n : ℕ) (t : Tables)
    → LeadTo t (with_new kind n t) ((insert_of kind, given (entry_of kind n)) ∷ [])
lead_new Tellers n t = lead_one (NewTeller (inl refl, n ∷ [], alone (given (entry_of Tellers n)), one_teller n t))
lead_new Accounts n t = lead_one (NewAccount (inl refl, n ∷ [], alone (given (entry_of Accounts n)), one_account n t))

-- ---- a number that one writes

pub lead_balance : (h : Holder) (z : ℤ) (t : Tables)
    → LeadTo t (with_balance h z t) ((holder_update h, under (holder_key h) z) ∷ [])
lead_balance (Account a) z t = lead_one (OfAccount (refl, a, z, refl, refl))
lead_balance (Teller a) z t = lead_one (OfTeller (refl, a, z, refl, refl))
lead_balance (Branch b) z t = lead_one (OfBranch (refl, b, z, refl, refl))

pub lead_decided : (n : ℕ) (t : Tables) → LeadTo t (with_decided n t) ((meta_update, under meta_key (pos n)) ∷ [])
lead_decided n t = lead_one (OfCount n refl refl refl)
