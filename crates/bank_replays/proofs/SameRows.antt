-- Two files that show logs with the same rows have the same rows.
use Rattle.std.proofs.Common.{◌≡◌, ◌∙◌, ◌+◌, ℕ, ℤ, pos, Bool, true, false, cond, eqb, List, [], ◌∷◌, length, map}
use Rattle.std.proofs.Common.{Option, Some, refl, sym, ap}
use Rattle.std.specs.Prelude.{◌&&◌}
use Rattle.std.proofs.lemmas.{List.length-map}
use Rattle.sqlite.specs.Effect.{Database}
use Rattle.message_records.specs.believed.Records.{RequestFields}
use Rattle.posting_rules.specs.declared.rows.{AccountRow.AccountRow, BranchRow.BranchRow, FloorRow.FloorRow}
use Rattle.posting_rules.specs.declared.rows.{HistoryRow.HistoryRow, ReferenceRow.ReferenceRow, RequestRow.RequestRow}
use Rattle.posting_rules.specs.declared.rows.TellerRow.{TellerRow}
use Rattle.posting_rules.specs.believed.Commands.{Command, opened}
use Rattle.posting_rules.specs.believed.Entries.{DecidedRequest, decided, is_posted, posted_sum}
use Rattle.posting_rules.specs.believed.Numbering.{branch_of_account, branch_of_teller}
use Rattle.posting_rules.specs.believed.Tables.{AreTablesOf, Tables, account_key, account_row, branch_key, branch_row}
use Rattle.posting_rules.specs.believed.Tables.{closing_key}
use Rattle.posting_rules.specs.believed.Tables.{floor_key, floor_row, history_key, history_row, history_row_of}
use Rattle.posting_rules.specs.believed.Tables.{reference_key, reference_row, request_key, request_row, row_at}
use Rattle.posting_rules.specs.believed.Tables.{teller_key, teller_row}
use Rattle.sql_meanings.specs.believed.Entries.{Entry, Rise}
use Rattle.store_rows.specs.believed.View as view
use Rattle.walked_rows.proofs.RisingRows.{rising_keys, rising_once}
use Rattle.walked_rows.proofs.Shown.{has_accounts, has_branches, has_closings, has_floors, has_history, has_references}
use Rattle.walked_rows.proofs.Shown.{has_requests, has_tellers}
use Rattle.bank_replays.specs.Following.{HaveSameRows, timed}
use Rattle.bank_replays.specs.NextRows.{DifferFirst, under}
use Rattle.bank_replays.proofs.Followed.{unmoved_same}
use Rattle.bank_replays.proofs.GivenBack.{sum_unmoved}
use Rattle.posting_rules.specs.declared.rows.ClosingRow.{ClosingRow}

-- ---- decided requests, moments aside of which no row is kept

length_timed : (es es' : List DecidedRequest) → map timed es ≡ map timed es' → length es ≡ length es'
length_timed es es' same =
    sym (length-map es timed) ∙ ap (λ (l : List DecidedRequest). length l) same ∙ length-map es' timed

sum_timed : (test : RequestFields → Bool) (es es' : List DecidedRequest) → map timed es ≡ map timed es'
    → posted_sum test es ≡ posted_sum test es'
sum_timed test es es' same =
    sym (sum_unmoved test es) ∙ ap (posted_sum test) (unmoved_same es es' same) ∙ sum_unmoved test es'

requests_timed : (es : List DecidedRequest) (o : ℕ) → request_row (map timed es) o ≡ request_row es o
requests_timed [] o = refl
requests_timed (e ∷ es) o = rw (length-map es timed, requests_timed es o) refl

references_timed : (es : List DecidedRequest) (o : ℕ) → reference_row (map timed es) o ≡ reference_row es o
references_timed [] o = refl
references_timed (e ∷ es) o = rw (length-map es timed, references_timed es o) refl

posted_timed : (b c : Bool) (e : DecidedRequest) (o : ℕ) (x : Option HistoryRow) → is_posted e ≡ b
    → cond (b && c) (Some (history_row_of o (timed e))) x ≡ cond (b && c) (Some (history_row_of o e)) x
posted_timed true c e o x is = rw is refl
posted_timed false c e o x is = refl

history_timed : (es : List DecidedRequest) (o : ℕ) → history_row (map timed es) o ≡ history_row es o
history_timed [] o = refl
history_timed (e ∷ es) o =
    rw (length-map es timed, history_timed es o)
    (posted_timed (is_posted e) (eqb (length es + 1) o) e o (history_row es o) refl)

-- ---- rows

-- rows under rising keys that are the same under each key
rows_same : {R : Type 0} (key : R → ℕ) (entry : R → Entry) → ((r : R) → (entry r).key ≡ pos (key r))
    → (xs ys : List R) → Rise (map entry xs) → Rise (map entry ys)
    → ((o : ℕ) → row_at key xs o ≡ row_at key ys o) → xs ≡ ys
rows_same key entry keyed xs ys rise rise_due same =
    rising_once key xs ys (rising_keys key entry keyed xs rise) (rising_keys key entry keyed ys rise_due) same

with_rows : (n n' : ℕ) (b b' : List BranchRow) (t t' : List TellerRow) (a a' : List AccountRow)
    (h h' : List HistoryRow) (r r' : List RequestRow) (f f' : List FloorRow) (q q' : List ReferenceRow)
    (x x' : List ClosingRow)
    → n ≡ n' → b ≡ b' → t ≡ t' → a ≡ a' → h ≡ h' → r ≡ r' → f ≡ f' → q ≡ q' → x ≡ x'
    → (let it : Tables = record {
      decided = n;
      branches = b;
      tellers = t;
      accounts = a;
      history = h;
      requests = r;
      floors = f;
      references = q;
      closings = x;
    } in it) ≡ record {
      decided = n';
      branches = b';
      tellers = t';
      accounts = a';
      history = h';
      requests = r';
      floors = f';
      references = q';
      closings = x';
    }
with_rows n n' b b' t t' a a' h h' r r' f f' q q' x x' c d e i j k l m o = cc

module _ (log now : List Command) (same : HaveSameRows log now) where
  branches_same : (b : ℕ) → branch_row (λ b. opened log b) (decided log) b ≡ branch_row (λ b. opened now b) (decided now) b
  branches_same b =
      rw (sum_timed (λ r. eqb r.branch b) (decided log) (decided now) same.requests, same.branches b) refl

  tellers_same : (n : ℕ) → teller_row (λ b. opened log b) (decided log) n ≡ teller_row (λ b. opened now b) (decided now) n
  tellers_same n =
      rw (sum_timed (λ r. eqb r.teller n) (decided log) (decided now) same.requests, same.branches (branch_of_teller n))
      refl

  accounts_same : (n : ℕ)
      → account_row (λ b. opened log b) (decided log) n ≡ account_row (λ b. opened now b) (decided now) n
  accounts_same n =
      rw (sum_timed (λ r. eqb r.account n) (decided log) (decided now) same.requests, same.branches (branch_of_account n))
      refl

  floors_same : (b : ℕ) → floor_row (λ b. opened log b) b ≡ floor_row (λ b. opened now b) b
  floors_same b = rw (same.branches b) refl

  history_same : (n : ℕ) → history_row (decided log) n ≡ history_row (decided now) n
  history_same n =
      sym (history_timed (decided log) n) ∙ ap (λ l. history_row l n) same.requests ∙ history_timed (decided now) n

  requests_same : (n : ℕ) → request_row (decided log) n ≡ request_row (decided now) n
  requests_same n =
      sym (requests_timed (decided log) n) ∙ ap (λ l. request_row l n) same.requests ∙ requests_timed (decided now) n

  references_same : (n : ℕ) → reference_row (decided log) n ≡ reference_row (decided now) n
  references_same n =
      sym (references_timed (decided log) n) ∙ ap (λ l. reference_row l n) same.requests
      ∙ references_timed (decided now) n

  pub tables_same : (db other : Database) (t due : Tables) → view.Shows db t → view.Shows other due → AreTablesOf t log
      → AreTablesOf due now → t ≡ due
  tables_same db other t due in_file in_due shows shows_due =
      with_rows t.decided due.decided t.branches due.branches t.tellers due.tellers t.accounts due.accounts
      t.history due.history t.requests due.requests t.floors due.floors t.references due.references
      t.closings due.closings
      (shows.rows.decided ∙ length_timed (decided log) (decided now) same.requests ∙ sym shows_due.rows.decided)
      (rows_same branch_key view.branch_entry (λ r. refl) t.branches due.branches
      (has_branches db t in_file).holds.rows.rise (has_branches other due in_due).holds.rows.rise
      (λ n. shows.rows.branches n ∙ branches_same n ∙ sym (shows_due.rows.branches n)))
      (rows_same teller_key view.teller_entry (λ r. refl) t.tellers due.tellers
      (has_tellers db t in_file).holds.rows.rise (has_tellers other due in_due).holds.rows.rise
      (λ n. shows.rows.tellers n ∙ tellers_same n ∙ sym (shows_due.rows.tellers n)))
      (rows_same account_key view.account_entry (λ r. refl) t.accounts due.accounts
      (has_accounts db t in_file).holds.rows.rise (has_accounts other due in_due).holds.rows.rise
      (λ n. shows.rows.accounts n ∙ accounts_same n ∙ sym (shows_due.rows.accounts n)))
      (rows_same history_key view.history_entry (λ r. refl) t.history due.history
      (has_history db t in_file).holds.rows.rise (has_history other due in_due).holds.rows.rise
      (λ n. shows.rows.history n ∙ history_same n ∙ sym (shows_due.rows.history n)))
      (rows_same request_key view.request_entry (λ r. refl) t.requests due.requests
      (has_requests db t in_file).holds.rows.rise (has_requests other due in_due).holds.rows.rise
      (λ n. shows.rows.requests n ∙ requests_same n ∙ sym (shows_due.rows.requests n)))
      (rows_same floor_key view.floor_entry (λ r. refl) t.floors due.floors
      (has_floors db t in_file).holds.rows.rise (has_floors other due in_due).holds.rows.rise
      (λ n. shows.rows.floors n ∙ floors_same n ∙ sym (shows_due.rows.floors n)))
      (rows_same reference_key view.reference_entry (λ r. refl) t.references due.references
      (has_references db t in_file).holds.rows.rise (has_references other due in_due).holds.rows.rise
      (λ n. shows.rows.references n ∙ references_same n ∙ sym (shows_due.rows.references n)))
      (rows_same closing_key view.closing_entry (λ r. refl) t.closings due.closings
      (has_closings db t in_file).holds.rows.rise (has_closings other due in_due).holds.rows.rise
      (λ x. shows.rows.closings x ∙ same.closed x ∙ sym (shows_due.rows.closings x)))

-- the same rows never differ
pub no_difference : {X : Type 0} (key : X → ℤ) (rows others : List X) (stands due : Option X)
    → DifferFirst key rows others stands due → rows ≡ others → ⊥
no_difference key rows others stands due it same =
    it.differ (it.stands_at ∙ ap (λ l. under key l it.at) same ∙ sym it.due_at)
