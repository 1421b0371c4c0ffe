-- The stored tables that were read of a file, each request and each posting beside the other of its ordinal.
use Rattle.std.proofs.Common.{◌≡◌, ℕ, List, [], ◌∷◌, map, Option, Some, None, refl, sym, ap, subst, ◌∙◌}
use Rattle.std.specs.{Prelude.pos, Prelude.nat_abs, Prelude.option_map, List.AllByRecursion}
use Rattle.posting_rules.specs.believed.Tables.{row_at}
use Rattle.sql_meanings.specs.believed.Entries.{Entry}
use Rattle.sql_meanings.proofs.Places.{all_weaker}
use Rattle.store_rows.proofs.RowLists.{found_row}
use Rattle.store_rows.specs.believed.Columns.{number_at}
use Rattle.walked_rows.specs.declared.{accounts.StoredAccount.StoredAccount, branches.StoredBranch.StoredBranch}
use Rattle.walked_rows.specs.declared.{tellers.StoredTeller.StoredTeller, postings.StoredPosting.StoredPosting}
use Rattle.walked_rows.specs.declared.{requests.StoredRequest.StoredRequest, joined.Joined.Joined}
use Rattle.walked_rows.specs.Pairs.{pair_of, pair_with, paired, row_under}
use Rattle.walked_rows.specs.Stored.{account_entry, asked_pair, branch_entry, posted_pair}
use Rattle.walked_rows.specs.Stored.{posting_entry, request_entry, teller_entry}
use Rattle.report_contents.specs.{Added.HasBeside, Beside.rows_of, Stored.StoredTables}
use Rattle.report_contents.specs.Audit.{posting_ordinal, posting_under, request_ordinal, request_under}
use Rattle.bank_reports.specs.{declared.sums.Sums.Sums, Adding.HasSums, Adding.both, Files.FileRows, Files.rows_in}

-- ---- the row that a file's row is

pub posting_in : Entry → StoredPosting
posting_in e = record {
  ordinal = nat_abs e.key;
  account = number_at 0 e;
  teller = number_at 1 e;
  branch = number_at 2 e;
  delta = number_at 3 e;
  moment = nat_abs (number_at 4 e);
}

request_in : Entry → StoredRequest
request_in e = record {
  ordinal = nat_abs e.key;
  teller = number_at 0 e;
  number = number_at 1 e;
  account = number_at 2 e;
  branch = number_at 3 e;
  delta = number_at 4 e;
  outcome = number_at 5 e;
  balance = number_at 6 e;
}

account_in : Entry → StoredAccount
account_in e = record { account = nat_abs e.key; balance = number_at 0 e }

teller_in : Entry → StoredTeller
teller_in e = record { teller = nat_abs e.key; balance = number_at 0 e }

branch_in : Entry → StoredBranch
branch_in e = record {
  branch = nat_abs e.key;
  accounts = nat_abs (number_at 0 e);
  balance = number_at 1 e;
}

pub posting_back : (r : StoredPosting) → posting_in (posting_entry r) ≡ r
unfolding posting_in
posting_back r = refl

request_back : (r : StoredRequest) → request_in (request_entry r) ≡ r
unfolding request_in
request_back r = refl

account_back : (r : StoredAccount) → account_in (account_entry r) ≡ r
unfolding account_in
account_back r = refl

teller_back : (r : StoredTeller) → teller_in (teller_entry r) ≡ r
unfolding teller_in
teller_back r = refl

branch_back : (r : StoredBranch) → branch_in (branch_entry r) ≡ r
unfolding branch_in
branch_back r = refl

map_back : {R : Type 0} (entry : R → Entry) (back : Entry → R) → ((r : R) → back (entry r) ≡ r)
    → (rs : List R) → map back (map entry rs) ≡ rs
map_back entry back is [] = refl
map_back entry back is (r ∷ rs) = rw (is r, map_back entry back is rs) refl

one_list : {R : Type 0} (entry : R → Entry) (back : Entry → R) → ((r : R) → back (entry r) ≡ r)
    → (xs ys : List R) → map entry xs ≡ map entry ys → xs ≡ ys
one_list entry back is xs ys same = sym (map_back entry back is xs) ∙ ap (map back) same
    ∙ map_back entry back is ys

one_option : {R : Type 0} (entry : R → Entry) (back : Entry → R) → ((r : R) → back (entry r) ≡ r)
    → (x y : Option R) → option_map entry x ≡ option_map entry y → x ≡ y
one_option entry back is None None same = refl
one_option entry back is None (Some y) same = absurd cc
one_option entry back is (Some x) None same = absurd cc
one_option entry back is (Some x) (Some y) same = let e : entry x ≡ entry y = cc in
    ap Some (sym (is x) ∙ ap back e ∙ is y)

-- stored tables are known by their rows
pub one_file : (x y : StoredTables) → rows_in x ≡ rows_in y → x ≡ y
one_file x y same =
    let b = one_list branch_entry branch_in branch_back x.branches y.branches (ap (λ f. f.branches) same) in
    let t = one_list teller_entry teller_in teller_back x.tellers y.tellers (ap (λ f. f.tellers) same) in
    let a = one_list account_entry account_in account_back x.accounts y.accounts
    (ap (λ f. f.accounts) same) in
    let h = one_list posting_entry posting_in posting_back x.history y.history (ap (λ f. f.history) same) in
    let r = one_list request_entry request_in request_back x.requests y.requests
    (ap (λ f. f.requests) same) in
    ap (λ l. let z : StoredTables = record x { branches = l } in z) b
    ∙ ap (λ l. let z : StoredTables = record x { branches = y.branches; tellers = l } in z) t
    ∙ ap (λ l. let z : StoredTables = record x {
      branches = y.branches;
      tellers = y.tellers;
      accounts = l;
    } in z) a
    ∙ ap (λ l. let z : StoredTables = record x {
      branches = y.branches;
      tellers = y.tellers;
      accounts = y.accounts;
      history = l;
    } in z) h
    ∙ ap (λ l. let z : StoredTables = record x {
      branches = y.branches;
      tellers = y.tellers;
      accounts = y.accounts;
      history = y.history;
      requests = l;
    } in z) r

-- ---- rows beside rows

abbrev stored_of : {R O : Type 0} → List (Joined R O) → List R
stored_of = map (λ j. j.stored)

abbrev pub first_of : {X : Type 0} → X → List X → X
first_of d [] = d
first_of d (x ∷ xs) = x

abbrev pub rest_of : {X : Type 0} → List X → List X
rest_of [] = []
rest_of (x ∷ xs) = xs

-- rows that are the pairs of the file's rows
parts : {R O : Type 0} (entry : R → Entry) (other : O → Entry) (js : List (Joined R O))
    (rs os : List Entry) → map (pair_of entry other) js ≡ paired os rs
    → (map entry (stored_of js) ≡ rs)
    × AllByRecursion (λ j. option_map other j.beside ≡ row_under os (entry j.stored).key) js
parts entry other [] [] os same = (refl, tt)
parts entry other [] (r ∷ rs) os same = absurd cc
parts entry other (j ∷ js) [] os same = absurd cc
parts entry other (j ∷ js) (r ∷ rs) os same =
    let head : pair_of entry other j ≡ pair_with os r = ap (first_of (pair_of entry other j)) same in
    let tail : map (pair_of entry other) js ≡ paired os rs = ap rest_of same in
    let own : entry j.stored ≡ r = ap (λ p. p.entry) head in
    let it = parts entry other js rs os tail in (
      ap (λ l. entry j.stored ∷ l) it.0 ∙ ap (λ e. e ∷ rs) own,
      (ap (λ p. p.beside) head ∙ ap (λ e. row_under os e.key) (sym own), it.1),
    )

-- each has beside it the row of its ordinal
beside : {R O : Type 0} (ordinal : R → ℕ) (other_ordinal : O → ℕ) (others : List O)
    (js : List (Joined R O))
    → AllByRecursion (λ j. j.beside ≡ row_at other_ordinal others (ordinal j.stored)) js
    → map both js ≡ map (λ r. (r, row_at other_ordinal others (ordinal r))) (stored_of js)
beside ordinal other_ordinal others [] all = refl
beside ordinal other_ordinal others (j ∷ js) all =
    rw (all.0, beside ordinal other_ordinal others js all.1) refl

module _ (tellers : List StoredTeller) (branches : List StoredBranch) (accounts : List StoredAccount)
    (asked : List (Joined StoredRequest StoredPosting))
    (posted : List (Joined StoredPosting StoredRequest)) where
  -- what was read
  abbrev pub read : StoredTables
  read = record {
    branches = branches;
    tellers = tellers;
    accounts = accounts;
    history = stored_of posted;
    requests = stored_of asked;
  }

  module _ (f : FileRows) (ts : map teller_entry tellers ≡ f.tellers)
      (bs : map branch_entry branches ≡ f.branches) (acs : map account_entry accounts ≡ f.accounts)
      (rs : map asked_pair asked ≡ paired f.history f.requests)
      (hs : map posted_pair posted ≡ paired f.requests f.history) where
    requests : map request_entry (stored_of asked) ≡ f.requests
    requests = (parts request_entry posting_entry asked f.requests f.history rs).0

    history : map posting_entry (stored_of posted) ≡ f.history
    history = (parts posting_entry request_entry posted f.history f.requests hs).0

    -- are the rows of the file
    pub read_is : rows_in read ≡ f
    read_is = rw (bs, ts, acs, history, requests) refl

    asked_beside : map both asked ≡ map (λ r. (r, posting_under read r.ordinal)) (stored_of asked)
    asked_beside = beside request_ordinal posting_ordinal (stored_of posted) asked
        (all_weaker (λ j. option_map posting_entry j.beside ≡ row_under f.history (request_entry j.stored).key)
        (λ j. j.beside ≡ row_at posting_ordinal (stored_of posted) (request_ordinal j.stored))
        (λ j is. one_option posting_entry posting_in posting_back j.beside
        (row_at posting_ordinal (stored_of posted) j.stored.ordinal)
        (is ∙ ap (λ es. row_under es (pos j.stored.ordinal)) (sym history)
        ∙ found_row posting_ordinal posting_entry (λ r. refl) j.stored.ordinal (stored_of posted)))
        asked (parts request_entry posting_entry asked f.requests f.history rs).1)

    posted_beside : map both posted ≡ map (λ h. (h, request_under read h.ordinal)) (stored_of posted)
    posted_beside = beside posting_ordinal request_ordinal (stored_of asked) posted
        (all_weaker (λ j. option_map request_entry j.beside
        ≡ row_under f.requests (posting_entry j.stored).key)
        (λ j. j.beside ≡ row_at request_ordinal (stored_of asked) (posting_ordinal j.stored))
        (λ j is. one_option request_entry request_in request_back j.beside
        (row_at request_ordinal (stored_of asked) j.stored.ordinal)
        (is ∙ ap (λ es. row_under es (pos j.stored.ordinal)) (sym requests)
        ∙ found_row request_ordinal request_entry (λ r. refl) j.stored.ordinal (stored_of asked)))
        posted (parts posting_entry request_entry posted f.history f.requests hs).1)

    -- the sums are those of the tables
    pub read_sums : (s : Sums)
        → HasSums s (record {
          tellers = tellers;
          branches = branches;
          accounts = accounts;
          requests = map both asked;
          history = map both posted;
        })
        → HasSums s (rows_of read)
    read_sums s h = record {
      tellers = h.tellers;
      branches = h.branches;
      accounts = h.accounts;
      ordinals = subst (λ l. HasBeside s.ordinals l
          (map (λ p. (p, request_under read p.ordinal)) (stored_of posted))) asked_beside
          (subst (λ l. HasBeside s.ordinals (map both asked) l) posted_beside h.ordinals);
    }
