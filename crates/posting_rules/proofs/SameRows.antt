-- Tables with the same rows: what is looked up in them is the same, and what is done to them leaves the same rows.
use Rattle.std.proofs.Common.{◌≡◌, ℕ, ◌+◌, Bool, true, false, cond, eqb, List, [], ◌∷◌, Option, Some, None, Result, Ok, Err}
use Rattle.std.proofs.Common.{refl, sym, ap, subst, ◌∙◌}
use Rattle.std.specs.{Prelude.ℤ, Prelude.pos, Prelude.IfSome, Option.option_map}
use Rattle.message_records.specs.{declared.fault.Bad.Bad, believed.Reading.request_of, believed.Records.RequestFields}
use Rattle.message_records.specs.believed.Spelling.{reply_spelling}
use Rattle.posting_rules.specs.declared.{judgments.Found.Found, judgments.Verdict.Verdict, judgments.Books.Books}
use Rattle.posting_rules.specs.declared.judgments.Verdict.TheVariants.{Unkept, Again, Refused, Posted}
use Rattle.posting_rules.specs.declared.rows.{AccountRow.AccountRow, BranchRow.BranchRow, ClosingRow.ClosingRow}
use Rattle.posting_rules.specs.declared.rows.{FloorRow.FloorRow, HistoryRow.HistoryRow, ReferenceRow.ReferenceRow}
use Rattle.posting_rules.specs.declared.rows.{RequestRow.RequestRow, TellerRow.TellerRow}
use Rattle.posting_rules.specs.{ChangesByKey.is_from, believed.Changes.tables_closed}
use Rattle.posting_rules.specs.believed.{AnyTables.HasKeysOfBranches, AnyTables.HasSameRows, AnyTables.IsReadyToOpen}
use Rattle.posting_rules.specs.believed.{Cases.case_of, Cases.reply_in, Closings.books_of, Closings.are_free}
use Rattle.posting_rules.specs.believed.Closings.{run_of}
use Rattle.posting_rules.specs.believed.Changes.{floor_put, new_account, new_teller, opened_where, reference_put}
use Rattle.posting_rules.specs.believed.Changes.{replies_past_all, reply_past, reply_read, row_changed, row_put, rows_put}
use Rattle.posting_rules.specs.believed.Changes.{tables_after, tables_past, tables_past_all, tables_read}
use Rattle.posting_rules.specs.believed.Changes.{tables_opened, tables_with_branch, with_account_balance, with_accounts}
use Rattle.posting_rules.specs.believed.Changes.{with_branch, with_branch_balance, with_decided, with_floor, with_history}
use Rattle.posting_rules.specs.believed.Changes.{with_reference, with_request, with_teller_balance, with_tellers}
use Rattle.posting_rules.specs.believed.{Commands.Command, Commands.Terms, Kept.KeptFields}
use Rattle.posting_rules.specs.believed.Entries.{DecidedRequest, posted_entry, refused_entry}
use Rattle.posting_rules.specs.believed.LookUps.{balance_of_account, balance_of_branch, balance_of_teller, both_of}
use Rattle.posting_rules.specs.believed.LookUps.{found_in, kept_in, lowest_of, terms_in, terms_of_branch}
use Rattle.posting_rules.specs.believed.Numbering.{branch_of_account, branch_of_teller, first_account, first_teller}
use Rattle.posting_rules.specs.believed.Tables.{AreTablesOf, HasKeys, Tables, account_key, branch_key, branch_row_of}
use Rattle.posting_rules.specs.believed.Tables.{closing_key, floor_key, floor_row_of, history_key, history_row_of}
use Rattle.posting_rules.specs.believed.Tables.{reference_key, request_key, request_row_of, row_at, teller_key}
use Rattle.posting_rules.proofs.RowChanges.{keys-put, row_at-changed, row_at-put, row_at-rows_put, rows_add}

pub same_itself : (t : Tables) → HasSameRows t t
same_itself t = record {
  branches = λ n. refl;
  tellers = λ n. refl;
  accounts = λ n. refl;
  floors = λ n. refl;
  decided = refl;
  history = refl;
  requests = refl;
  references = refl;
  closings = refl;
}

pub same_then : (t u v : Tables) → HasSameRows t u → HasSameRows u v → HasSameRows t v
same_then t u v one two = record {
  branches = λ n. two.branches n ∙ one.branches n;
  tellers = λ n. two.tellers n ∙ one.tellers n;
  accounts = λ n. two.accounts n ∙ one.accounts n;
  floors = λ n. two.floors n ∙ one.floors n;
  decided = two.decided ∙ one.decided;
  history = two.history ∙ one.history;
  requests = two.requests ∙ one.requests;
  references = two.references ∙ one.references;
  closings = two.closings ∙ one.closings;
}

-- ---- what is looked up

two_of : {A B C : Type 0} (f : A → B → C) (a a' : A) (b b' : B) → a' ≡ a → b' ≡ b → f a' b' ≡ f a b
two_of f a a' b b' one two = ap (λ x. f x b') one ∙ ap (f a) two

found_of : Option (ℤ × ℤ) → Option KeptFields → Books → ℕ → Option ℤ → Option ℤ → Found
found_of teller kept books decided account floor = record {
  teller = teller;
  kept = kept;
  books = books;
  decided = decided;
  account = account;
  floor = floor;
}

found_is : (te te' : Option (ℤ × ℤ)) (k k' : Option KeptFields) (b b' : Books) (d d' : ℕ) (a a' f f' : Option ℤ)
    → te' ≡ te → k' ≡ k → b' ≡ b → d' ≡ d → a' ≡ a → f' ≡ f → found_of te' k' b' d' a' f' ≡ found_of te k b d a f
found_is te te' k k' b b' d d' a a' f f' one two three four five six = rw (one, two, three, four, five, six) refl

pub found_same : (t u : Tables) (r : RequestFields) → HasSameRows t u → found_in u r ≡ found_in t r
unfolding found_of
found_same t u r same =
    found_is _ _ _ _ _ _ _ _ _ _ _ _
    (two_of both_of _ _ _ _ (ap (option_map balance_of_teller) (same.tellers r.teller))
    (ap (option_map balance_of_branch) (same.branches (branch_of_teller r.teller))))
    (two_of (λ (requests : List RequestRow) (references : List ReferenceRow). kept_in requests references r.teller r.number)
    _ _ _ _ same.requests same.references)
    (ap (λ (runs : List ClosingRow). books_of runs r.teller r.number) same.closings)
    same.decided
    (ap (option_map balance_of_account) (same.accounts r.account))
    (ap (option_map lowest_of) (same.floors (branch_of_account r.account)))

pub reply_same : (t u : Tables) (bytes : List ℕ) → HasSameRows t u → reply_past u bytes ≡ reply_past t bytes
reply_same t u bytes same = by_reading (request_of bytes)
  where
    by_reading : (read : Result RequestFields Bad) → reply_read u read ≡ reply_read t read
    by_reading (Err fault) = refl
    by_reading (Ok r) = ap (λ (f : Found). reply_spelling (reply_in (case_of f r) r)) (found_same t u r same)

pub terms_same : (t u : Tables) (b : ℕ) → HasSameRows t u → terms_in u b ≡ terms_in t b
terms_same t u b same =
    two_of (λ (floor : Option ℤ) (row : Option BranchRow). option_map (terms_of_branch floor) row) _ _ _ _
    (ap (option_map lowest_of) (same.floors b)) (same.branches b)

-- ---- rows of one table

module _ {R : Type 0} (key : R → ℕ) (rows rows' : List R)
    (same : (n : ℕ) → row_at key rows' n ≡ row_at key rows n) where
  put_same : (x : R) (n : ℕ) → row_at key (row_put key x rows') n ≡ row_at key (row_put key x rows) n
  put_same x n =
      row_at-put key x rows' n ∙ ap (cond (eqb (key x) n) (Some x)) (same n) ∙ sym (row_at-put key x rows n)

  changed_same : (k : ℕ) (change : R → R) → ((r : R) → key (change r) ≡ key r) → (n : ℕ)
      → row_at key (row_changed key change k rows') n ≡ row_at key (row_changed key change k rows) n
  changed_same k change keeps n =
      row_at-changed key k change keeps rows' n
      ∙ ap (option_map (λ r. cond (eqb k n) (change r) r)) (same n)
      ∙ sym (row_at-changed key k change keeps rows n)

  many_same : (row : ℕ → R) (first count : ℕ) → ((n : ℕ) → key (row n) ≡ n) → (n : ℕ)
      → row_at key (rows_put key row first count rows') n ≡ row_at key (rows_put key row first count rows) n
  many_same row first count own n =
      row_at-rows_put key row first count rows' own n
      ∙ ap (cond (is_from first count n) (Some (row n))) (same n)
      ∙ sym (row_at-rows_put key row first count rows own n)

floor_same : (b : ℕ) (floor : Option ℤ) (rows rows' : List FloorRow)
    → ((n : ℕ) → row_at floor_key rows' n ≡ row_at floor_key rows n) → (n : ℕ)
    → row_at floor_key (floor_put b floor rows') n ≡ row_at floor_key (floor_put b floor rows) n
floor_same b None rows rows' same n = same n
floor_same b (Some lowest) rows rows' same n = put_same floor_key rows rows' same (floor_row_of b lowest) n

-- ---- a record

requests_same : (d d' : ℕ) (rs rs' : List RequestRow) (e : DecidedRequest) → d' ≡ d → rs' ≡ rs
    → row_put request_key (request_row_of (d' + 1) e) rs' ≡ row_put request_key (request_row_of (d + 1) e) rs
requests_same d d' rs rs' e one two =
    two_of (λ (n : ℕ) (l : List RequestRow). row_put request_key (request_row_of (n + 1) e) l) _ _ _ _ one two

history_same : (d d' : ℕ) (rs rs' : List HistoryRow) (e : DecidedRequest) → d' ≡ d → rs' ≡ rs
    → row_put history_key (history_row_of (d' + 1) e) rs' ≡ row_put history_key (history_row_of (d + 1) e) rs
history_same d d' rs rs' e one two =
    two_of (λ (n : ℕ) (l : List HistoryRow). row_put history_key (history_row_of (n + 1) e) l) _ _ _ _ one two

references_same : (d d' : ℕ) (rs rs' : List ReferenceRow) (text : Option (List ℕ)) → d' ≡ d → rs' ≡ rs
    → reference_put (d' + 1) text rs' ≡ reference_put (d + 1) text rs
references_same d d' rs rs' text one two =
    two_of (λ (n : ℕ) (l : List ReferenceRow). reference_put (n + 1) text l) _ _ _ _ one two

after_same : (t u : Tables) (m : ℕ) (r : RequestFields) (v : Verdict) → HasSameRows t u
    → HasSameRows (tables_after t m r v) (tables_after u m r v)
unfolding with_decided with_request with_reference with_history
    with_branch_balance with_teller_balance with_account_balance
after_same t u m r (Unkept x) same = same
after_same t u m r (Again x) same = same
after_same t u m r (Refused x) same = record {
  branches = same.branches;
  tellers = same.tellers;
  accounts = same.accounts;
  floors = same.floors;
  decided = ap (λ (n : ℕ). n + 1) same.decided;
  history = same.history;
  requests = requests_same _ _ _ _ (refused_entry m r x) same.decided same.requests;
  references = references_same _ _ _ _ r.reference same.decided same.references;
  closings = same.closings;
}
after_same t u m r (Posted a te b) same = record {
  branches = changed_same branch_key t.branches u.branches same.branches (branch_of_teller r.teller)
      (λ (row : BranchRow). record row { balance = b }) (λ row. refl);
  tellers = changed_same teller_key t.tellers u.tellers same.tellers r.teller
      (λ (row : TellerRow). record row { balance = te }) (λ row. refl);
  accounts = changed_same account_key t.accounts u.accounts same.accounts r.account
      (λ (row : AccountRow). record row { balance = a }) (λ row. refl);
  floors = same.floors;
  decided = ap (λ (n : ℕ). n + 1) same.decided;
  history = history_same _ _ _ _ (posted_entry m r a) same.decided same.history;
  requests = requests_same _ _ _ _ (posted_entry m r a) same.decided same.requests;
  references = references_same _ _ _ _ r.reference same.decided same.references;
  closings = same.closings;
}

pub past_same : (t u : Tables) (m : ℕ) (bytes : List ℕ) → HasSameRows t u
    → HasSameRows (tables_past t m bytes) (tables_past u m bytes)
past_same t u m bytes same = by_reading (request_of bytes)
  where
    by_reading : (read : Result RequestFields Bad) → HasSameRows (tables_read t m read) (tables_read u m read)
    by_reading (Err fault) = same
    by_reading (Ok r) =
        subst (λ (f : Found). HasSameRows (tables_after t m r (case_of (found_in t r) r)) (tables_after u m r (case_of f r)))
        (sym (found_same t u r same)) (after_same t u m r (case_of (found_in t r) r) same)

pub past_all_same : (t u : Tables) (m : ℕ) (records : List (List ℕ)) → HasSameRows t u
    → HasSameRows (tables_past_all t m records) (tables_past_all u m records)
past_all_same t u m [] same = same
past_all_same t u m (bytes ∷ records) same =
    past_all_same (tables_past t m bytes) (tables_past u m bytes) m records (past_same t u m bytes same)

pub replies_all_same : (t u : Tables) (m : ℕ) (records : List (List ℕ)) → HasSameRows t u
    → replies_past_all u m records ≡ replies_past_all t m records
replies_all_same t u m [] same = refl
replies_all_same t u m (bytes ∷ records) same =
    two_of (λ (x : List ℕ) (xs : List (List ℕ)). x ∷ xs) _ _ _ _ (reply_same t u bytes same)
    (replies_all_same (tables_past t m bytes) (tables_past u m bytes) m records (past_same t u m bytes same))

-- ---- an opening

opened_same : (t u : Tables) (b : ℕ) (terms : Terms) → HasSameRows t u
    → HasSameRows (tables_opened t b terms) (tables_opened u b terms)
unfolding with_branch with_tellers with_accounts with_floor
opened_same t u b terms same = record {
  branches = put_same branch_key t.branches u.branches same.branches (branch_row_of b (pos 0) terms);
  tellers = many_same teller_key t.tellers u.tellers same.tellers new_teller (first_teller b) 10 (λ n. refl);
  accounts = many_same account_key t.accounts u.accounts same.accounts new_account (first_account b) terms.accounts
      (λ n. refl);
  floors = floor_same b terms.floor t.floors u.floors same.floors;
  decided = same.decided;
  history = same.history;
  requests = same.requests;
  references = same.references;
  closings = same.closings;
}

pub branch_same : (t u : Tables) (b : ℕ) (terms : Terms) → HasSameRows t u
    → HasSameRows (tables_with_branch t b terms) (tables_with_branch u b terms)
branch_same t u b terms same =
    subst (λ (row : Option BranchRow). HasSameRows (tables_with_branch t b terms) (opened_where row u b terms))
    (sym (same.branches b)) (by_row (row_at branch_key t.branches b))
  where
    by_row : (row : Option BranchRow) → HasSameRows (opened_where row t b terms) (opened_where row u b terms)
    by_row None = opened_same t u b terms same
    by_row (Some row) = same

-- the keys of rows that are put in
keys_of_floor : (b : ℕ) (floor : Option ℤ) (rows : List FloorRow) → HasKeys floor_key rows
    → IfSome floor (λ _. row_at floor_key rows b ≡ None) → HasKeys floor_key (floor_put b floor rows)
keys_of_floor b None rows keys free = keys
keys_of_floor b (Some lowest) rows keys free = keys-put floor_key (floor_row_of b lowest) rows keys free

keys_opened : (t : Tables) (b : ℕ) (terms : Terms) → IsReadyToOpen b terms t → row_at branch_key t.branches b ≡ None
    → HasKeysOfBranches t → HasKeysOfBranches (tables_opened t b terms)
unfolding with_branch with_tellers with_accounts with_floor
keys_opened t b terms ready none keys = record {
  branches = keys-put branch_key (branch_row_of b (pos 0) terms) t.branches keys.branches none;
  tellers = (rows_add teller_key new_teller (first_teller b) 10 t.tellers (λ n. refl) keys.tellers
      (ready none).tellers).keys;
  accounts = (rows_add account_key new_account (first_account b) terms.accounts t.accounts (λ n. refl) keys.accounts
      (ready none).accounts).keys;
  floors = keys_of_floor b terms.floor t.floors keys.floors (ready none).floor;
}

pub keys_with_branch : (t : Tables) (b : ℕ) (terms : Terms) → IsReadyToOpen b terms t → HasKeysOfBranches t
    → HasKeysOfBranches (tables_with_branch t b terms)
keys_with_branch t b terms ready keys = by_row (row_at branch_key t.branches b) refl
  where
    by_row : (row : Option BranchRow) → row_at branch_key t.branches b ≡ row
        → HasKeysOfBranches (opened_where row t b terms)
    by_row None is = keys_opened t b terms ready is keys
    by_row (Some row) is = keys

-- ---- a closing

pub closed_same : (t u : Tables) (first last : ℕ) → HasSameRows t u
    → HasSameRows (tables_closed t first last) (tables_closed u first last)
closed_same t u first last same =
    subst (λ (runs : List ClosingRow). HasSameRows (tables_closed t first last)
    (let v : Tables = cond (are_free runs first last)
    (record u { closings = row_put closing_key (run_of first last) runs }) u in v)) (sym same.closings)
    (by_free (are_free t.closings first last))
  where
    by_free : (b : Bool) → HasSameRows
        (let v : Tables = cond b (record t { closings = row_put closing_key (run_of first last) t.closings }) t in v)
        (let v : Tables = cond b (record u { closings = row_put closing_key (run_of first last) t.closings }) u in v)
    by_free true = record {
      branches = same.branches;
      tellers = same.tellers;
      accounts = same.accounts;
      floors = same.floors;
      decided = same.decided;
      history = same.history;
      requests = same.requests;
      references = same.references;
      closings = refl;
    }
    by_free false = same

-- ---- the log

-- they are the tables of a log where the others are
pub same_shown : (t u : Tables) (log : List Command) → HasSameRows t u → HasKeysOfBranches u → AreTablesOf t log
    → AreTablesOf u log
same_shown t u log same keys shows = let s = shows.rows in record {
  rows = record {
    decided = same.decided ∙ s.decided;
    branches = λ n. same.branches n ∙ s.branches n;
    tellers = λ n. same.tellers n ∙ s.tellers n;
    accounts = λ n. same.accounts n ∙ s.accounts n;
    history = λ n. ap (λ (l : List HistoryRow). row_at history_key l n) same.history ∙ s.history n;
    requests = λ n. ap (λ (l : List RequestRow). row_at request_key l n) same.requests ∙ s.requests n;
    floors = λ n. same.floors n ∙ s.floors n;
    references = λ n. ap (λ (l : List ReferenceRow). row_at reference_key l n) same.references ∙ s.references n;
    closings = λ n. ap (λ (l : List ClosingRow). row_at closing_key l n) same.closings ∙ s.closings n;
    branch_keys = keys.branches;
    teller_keys = keys.tellers;
    account_keys = keys.accounts;
    history_keys = subst (HasKeys history_key) (sym same.history) s.history_keys;
    request_keys = subst (HasKeys request_key) (sym same.requests) s.request_keys;
    floor_keys = keys.floors;
    reference_keys = subst (HasKeys reference_key) (sym same.references) s.reference_keys;
    closing_keys = subst (HasKeys closing_key) (sym same.closings) s.closing_keys;
  };
}

-- the tables of a log have keys
pub keys_shown : (t : Tables) (log : List Command) → AreTablesOf t log → HasKeysOfBranches t
keys_shown t log shows = record {
  branches = shows.rows.branch_keys;
  tellers = shows.rows.teller_keys;
  accounts = shows.rows.account_keys;
  floors = shows.rows.floor_keys;
}
