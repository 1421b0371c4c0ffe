-- What each look-up finds and each write of a balance leaves, whatever rows the tables have.
use Rattle.std.proofs.Common.{◌≡◌, ◌≤ℤ◌, ◌∙◌, ℕ, ℤ, pos, Bool, List, [], ◌∷◌, Option, Ok, Result, refl, ap, subst}
use Rattle.std.proofs.Common.{inl, inr}
use Rattle.std.specs.Prelude.{◌≤◌, length, nat_abs, neg_ℤ}
use Rattle.sqlite.specs.{Held.state, Order.Row, Order.column, Cast.cast, Term.col}
use Rattle.sqlite.specs.State.{HasCleanDisk, QueriesRowInside}
use Rattle.sqlite.specs.declared.{error.Error.Error, transaction.Transaction.Transaction}
use Rattle.sqlite.specs.declared.types.Value.{Value, TheVariants.Int, TheVariants.Null, TheVariants.Blob}
use Rattle.sqlite.specs.declared.types.Value.TheVariants.{Real, Text}
use Rattle.sqlite_rules.specs.Lists.{Has}
use Rattle.sqlite_schema.specs.declared.schema.Kind.TheVariants.{Integer}
use Rattle.sqlite_trees.specs.declared.store.Store.{Ghosts}
use Rattle.message_records.specs.declared.limits.TheConstants.{MAX_BALANCE}
use Rattle.posting_rules.specs.declared.rows.BranchRow.{BranchRow}
use Rattle.sql_meanings.specs.Under.{rows_under}
use Rattle.sql_meanings.proofs.{EntryLists.cast_int, Texts.columns_of}
use Rattle.store_rows.specs.believed.BankTables as bank
use Rattle.store_rows.specs.{Columns.meta_of, Statements.RunsUnder, believed.Readings.balance_of}
use Rattle.store_rows.specs.believed.Readings.{branch_of, floor_of, number}
use Rattle.store_rows.specs.declared.fault.TableFault.{TableFault}
use Rattle.store_rows.specs.declared.holders.Member.TheVariants as member
use Rattle.store_rows.specs.Failures.{ReadsAnswer}
use Rattle.posting_rules.specs.declared.rows.{ClosingRow.ClosingRow, FloorRow.FloorRow}
use Rattle.store_rows.specs.declared.holders.Holder.TheVariants as holder
use Rattle.store_rows.specs.declared.metas.{StoredMeta.StoredMeta, TheConstants.META_ID}
use Rattle.store_rows.specs.declared.texts.TheConstants as text
use Rattle.store_rows.specs.Lying.{BalanceLies, BranchLies, FindsLying, FloorLies, MetaLies, SetsBalance, SetsDecided, SetsItsVersion, SetsLying}
use Rattle.store_rows.specs.Lying.{PutsLying}
use Rattle.store_rows.specs.{Statements.PutsRow, believed.SeveralRows.given}
use Rattle.store_rows.specs.believed.View.{closing_entry, history_entry, reference_entry, request_entry}
use Rattle.posting_rules.specs.believed.Tables.{history_key, request_key}
use Rattle.posting_rules.specs.declared.rows.{HistoryRow.HistoryRow, ReferenceRow.ReferenceRow, RequestRow.RequestRow}
use Rattle.sql_meanings.proofs.PutRows.{puts_one}
use Rattle.store_rows.proofs.{Puts.puts, SeveralTexts.eight_postings, SeveralTexts.eight_requests}
use Rattle.store_rows.proofs.{SeveralWrites.HoldsOfEight, TheTables.closings, TheTables.history, TheTables.references, TheTables.requests}
use Rattle.store_rows.proofs.Lying.{finds_lying, in_limit, puts_lying, sets_lying, whole_kept}
use Rattle.store_rows.proofs.Readings.{balance_back, branch_back, branch_parts, then_ok}
use Rattle.store_rows.proofs.{Getting.gets, Setting.first_set, Setting.second_set, Setting.version_set}
use Rattle.store_rows.proofs.Setting.{writes}

-- the only one of a list
only_one : {X : Type 0} (xs : List X) (x y : X) → xs ≡ x ∷ [] → Has xs y → y ≡ x
only_one xs x y is had = go (subst (λ l. Has l y) is had)
  where
    go : Has (x ∷ []) y → y ≡ x
    go (inl same) = same
    go (inr none) = absurd none

pub number_ok : (v : Value) (z : ℤ) → number v ≡ Ok z → v ≡ Int z
number_ok (Int y) z is = let same : y ≡ z = cc in ap (λ x. Int x) same
number_ok Null z is = absurd cc
number_ok (Real x) z is = absurd cc
number_ok (Text t) z is = absurd cc
number_ok (Blob b) z is = absurd cc

-- ---- look-ups

module _ {S : Type 0} (g : Ghosts S) (old new : Transaction S) (answer : Result Row Error) where
  -- what the text answered
  abbrev Asked : List ℕ → ℕ → Type 0
  Asked text k = HasCleanDisk (state g new.conn.now)
      → QueriesRowInside text (Int (pos k) ∷ []) (state g old.conn.now) (state g new.conn.now) answer

  pub branch_found : (k : ℕ) (result : Result (Option BranchRow) TableFault) → ReadsAnswer branch_of answer result
      → Asked text.GET_BRANCH.now k → FindsLying g old new (BranchLies k) result
  branch_found k = finds_lying 1 bank.branch refl text.GET_BRANCH.now (columns_of bank.branch) k _ branch_of
      (gets.branch.reads (pos k)) (λ r. refl) g old new answer

  pub floor_found : (k : ℕ) (result : Result (Option FloorRow) TableFault) → ReadsAnswer floor_of answer result
      → Asked text.GET_FLOOR.now k → FindsLying g old new (FloorLies k) result
  floor_found k = finds_lying 6 bank.floor refl text.GET_FLOOR.now (columns_of bank.floor) k _ floor_of
      (gets.floor.reads (pos k)) (λ r. refl) g old new answer

  pub account_found : (k : ℕ) (result : Result (Option ℤ) TableFault) → ReadsAnswer balance_of answer result
      → Asked text.GET_ACCOUNT.now k → FindsLying g old new (BalanceLies (member.Account k)) result
  account_found k = finds_lying 3 bank.account refl text.GET_ACCOUNT.now (col 1 2 ∷ []) k _ balance_of
      (gets.account.reads (pos k)) (λ r. refl) g old new answer

  pub teller_found : (k : ℕ) (result : Result (Option ℤ) TableFault) → ReadsAnswer balance_of answer result
      → Asked text.GET_TELLER.now k → FindsLying g old new (BalanceLies (member.Teller k)) result
  teller_found k = finds_lying 2 bank.teller refl text.GET_TELLER.now (col 1 2 ∷ []) k _ balance_of
      (gets.teller.reads (pos k)) (λ r. refl) g old new answer

  pub meta_found : (result : Result (Option StoredMeta) TableFault) → ReadsAnswer meta_of answer result
      → Asked text.GET_META.now META_ID → FindsLying g old new MetaLies result
  meta_found = finds_lying 0 bank.meta refl text.GET_META.now (col 1 2 ∷ col 1 3 ∷ []) META_ID _ meta_of
      (gets.meta.reads (pos META_ID)) (λ r. refl) g old new answer

-- ---- balances

-- a row of a key and this balance
abbrev first_made : ℤ → Row → Row
first_made z r = cast Integer (column r 0) ∷ cast Integer Null ∷ cast Integer (Int z) ∷ []

-- the second of two numbers is this one
abbrev second_made : ℤ → Row → Row
second_made z r = cast Integer (column r 0) ∷ cast Integer Null ∷ cast Integer (column r 2) ∷ cast Integer (Int z) ∷ []

balance_made : (z : ℤ) (r : Row) → nat_abs z ≤ MAX_BALANCE → balance_of (column (first_made z r) 2 ∷ []) ≡ Ok z
balance_made z r low = ap (λ v. balance_of (v ∷ [])) (cast_int z) ∙ balance_back (pos 0) z low

branch_made : (z : ℤ) (r : Row) (b : BranchRow) → nat_abs z ≤ MAX_BALANCE
    → branch_of (column r 0 ∷ column r 2 ∷ column r 3 ∷ []) ≡ Ok b
    → branch_of (column (second_made z r) 0 ∷ column (second_made z r) 2 ∷ column (second_made z r) 3 ∷ [])
    ≡ Ok (record b { balance = z })
branch_made z r b low is =
    let parts = branch_parts (column r 0 ∷ column r 2 ∷ column r 3 ∷ []) b is in
    rw (whole_kept (column r 0) (pos b.branch) parts.0, whole_kept (column r 2) (pos b.accounts) parts.1, cast_int z)
    (branch_back (record b { balance = z }) (record {
      some = parts.3.some;
      most = parts.3.most;
      few = parts.3.few;
      many = parts.3.many;
      balance = low;
    }))

meta_made : (n : ℕ) (r : Row) (m : StoredMeta) → meta_of (column r 2 ∷ column r 3 ∷ []) ≡ Ok m
    → meta_of (column (second_made (pos n) r) 2 ∷ column (second_made (pos n) r) 3 ∷ [])
    ≡ Ok (record m { decided = pos n })
meta_made n r m is =
    let one = then_ok (number (column r 2)) _ m is in
    let two = then_ok (number (column r 3)) _ m one.2 in
    let its : StoredMeta = record { version = one.0; decided = two.0 } in
    let same : its ≡ m = (let last = two.2 in cc) in
    rw (whole_kept (column r 2) one.0 (number_ok (column r 2) one.0 one.1), cast_int (pos n))
    (ap (λ (it : StoredMeta). Ok (record it { decided = pos n })) same)

module _ {S : Type 0} (g : Ghosts S) (old new : Transaction S) (z : ℤ) (least : neg_ℤ (pos MAX_BALANCE) ≤ℤ z)
    (most : z ≤ℤ pos MAX_BALANCE) (result : Result Bool Error) (k : ℕ) where
  pub account_set : RunsUnder g old new text.SET_ACCOUNT.now k z result
      → SetsLying g old new bank.account k (SetsBalance (holder.Account k) z) result
  account_set = sets_lying 3 bank.account refl text.SET_ACCOUNT.now k z first_set (writes.account (pos k) z)
      (λ r. (refl, refl)) (first_made z) (λ tree r. refl) (SetsBalance (holder.Account k) z)
      (λ before after was only there. (first_made z was, there, balance_made z was (in_limit z least most)))
      g old new result

  pub teller_set : RunsUnder g old new text.SET_TELLER.now k z result
      → SetsLying g old new bank.teller k (SetsBalance (holder.Teller k) z) result
  teller_set = sets_lying 2 bank.teller refl text.SET_TELLER.now k z first_set (writes.teller (pos k) z)
      (λ r. (refl, refl)) (first_made z) (λ tree r. refl) (SetsBalance (holder.Teller k) z)
      (λ before after was only there. (first_made z was, there, balance_made z was (in_limit z least most)))
      g old new result

  pub branch_set : RunsUnder g old new text.SET_BRANCH.now k z result
      → SetsLying g old new bank.branch k (SetsBalance (holder.Branch k) z) result
  branch_set = sets_lying 1 bank.branch refl text.SET_BRANCH.now k z second_set (writes.branch (pos k) z)
      (λ r. (refl, refl)) (second_made z) (λ tree r. refl) (SetsBalance (holder.Branch k) z)
      (λ before after was only there row lies.
      let own = only_one (rows_under before bank.branch (pos k)) was lies.0 only lies.1 in (
        second_made z was,
        there,
        branch_made z was row (in_limit z least most)
            (subst (λ (r : Row). branch_of (column r 0 ∷ column r 2 ∷ column r 3 ∷ []) ≡ Ok row) own lies.2),
      ))
      g old new result

-- ---- the count

pub decided_set : {S : Type 0} (g : Ghosts S) (old new : Transaction S) (n : ℕ) (result : Result Bool Error)
    → RunsUnder g old new text.SET_META.now META_ID (pos n) result
    → SetsLying g old new bank.meta META_ID (SetsDecided n) result
decided_set g old new n result =
    sets_lying 0 bank.meta refl text.SET_META.now META_ID (pos n) second_set (writes.meta (pos n))
    (λ r. (refl, refl)) (second_made (pos n)) (λ tree r. refl) (SetsDecided n)
    (λ before after was only there row lies.
    let own = only_one (rows_under before bank.meta (pos META_ID)) was lies.0 only lies.1 in (
      second_made (pos n) was,
      there,
      meta_made n was row
          (subst (λ (r : Row). meta_of (column r 2 ∷ column r 3 ∷ []) ≡ Ok row) own lies.2),
    ))
    g old new result

-- ---- the version

-- the first of two numbers is this one
abbrev version_row : ℤ → Row → Row
version_row v r = cast Integer (column r 0) ∷ cast Integer Null ∷ cast Integer (Int v) ∷ cast Integer (column r 3) ∷ []

version_made : (v : ℤ) (r : Row) (m : StoredMeta) → meta_of (column r 2 ∷ column r 3 ∷ []) ≡ Ok m
    → meta_of (column (version_row v r) 2 ∷ column (version_row v r) 3 ∷ []) ≡ Ok (record m { version = v })
version_made v r m is =
    let one = then_ok (number (column r 2)) _ m is in
    let two = then_ok (number (column r 3)) _ m one.2 in
    let its : StoredMeta = record { version = one.0; decided = two.0 } in
    let same : its ≡ m = (let last = two.2 in cc) in
    rw (whole_kept (column r 3) two.0 (number_ok (column r 3) two.0 two.1), cast_int v)
    (ap (λ (it : StoredMeta). Ok (record it { version = v })) same)

pub version_lies : {S : Type 0} (g : Ghosts S) (old new : Transaction S) (v : ℤ) (result : Result Bool Error)
    → RunsUnder g old new text.SET_VERSION.now META_ID v result
    → SetsLying g old new bank.meta META_ID (SetsItsVersion v) result
version_lies g old new v result =
    sets_lying 0 bank.meta refl text.SET_VERSION.now META_ID v version_set (writes.version v)
    (λ r. (refl, refl)) (version_row v) (λ tree r. refl) (SetsItsVersion v)
    (λ before after was only there row lies.
    let own = only_one (rows_under before bank.meta (pos META_ID)) was lies.0 only lies.1 in (
      version_row v was,
      there,
      version_made v was row
          (subst (λ (r : Row). meta_of (column r 2 ∷ column r 3 ∷ []) ≡ Ok row) own lies.2),
    ))
    g old new result

-- ---- rows that are put in

module _ {S : Type 0} (g : Ghosts S) (old new : Transaction S) (result : Result (Unit {0}) TableFault) where
  pub posting_put : (r : HistoryRow) → PutsRow g old new text.ADD_HISTORY.now (given (history_entry r)) result
      → PutsLying g old new bank.history result
  posting_put r = puts_lying history text.ADD_HISTORY.now (given (history_entry r)) (history_entry r ∷ [])
      (puts_one (puts.posting r)) g old new result

  pub request_put : (r : RequestRow) → PutsRow g old new text.ADD_REQUEST.now (given (request_entry r)) result
      → PutsLying g old new bank.request result
  request_put r = puts_lying requests text.ADD_REQUEST.now (given (request_entry r)) (request_entry r ∷ [])
      (puts_one (puts.request r)) g old new result

  pub reference_put : (r : ReferenceRow) → length r.reference ≤ 1000
      → PutsRow g old new text.ADD_REFERENCE.now (given (reference_entry r)) result
      → PutsLying g old new bank.reference result
  reference_put r short = puts_lying references text.ADD_REFERENCE.now (given (reference_entry r))
      (reference_entry r ∷ []) (puts_one (puts.reference r short)) g old new result

  pub closing_put : (r : ClosingRow) → PutsRow g old new text.ADD_CLOSING.now (given (closing_entry r)) result
      → PutsLying g old new bank.closing result
  closing_put r = puts_lying closings text.ADD_CLOSING.now (given (closing_entry r)) (closing_entry r ∷ [])
      (puts_one (puts.closing r)) g old new result

  pub postings_put : HoldsOfEight history_key history_entry
      (λ values. PutsRow g old new text.ADD_EIGHT_POSTINGS.now values result)
      (λ rows. PutsLying g old new bank.history result)
  postings_put = record {
    each = λ a b c d e f g' h low. puts_lying history text.ADD_EIGHT_POSTINGS.now _ _
        (eight_postings a b c d e f g' h) g old new result;
  }

  pub requests_put : HoldsOfEight request_key request_entry
      (λ values. PutsRow g old new text.ADD_EIGHT_REQUESTS.now values result)
      (λ rows. PutsLying g old new bank.request result)
  requests_put = record {
    each = λ a b c d e f g' h low. puts_lying requests text.ADD_EIGHT_REQUESTS.now _ _
        (eight_requests a b c d e f g' h) g old new result;
  }
