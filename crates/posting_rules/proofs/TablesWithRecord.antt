-- What a verdict leaves of the tables of a log are the tables of the log with the record.
use Rattle.std.proofs.Common.{◌≡◌, ℕ, suc, ◌+◌, ◌<◌, ◌≤◌, Bool, true, false, cond, eqb, List, [], ◌∷◌, length, Option}
use Rattle.std.proofs.Common.{Some, None, Result, Ok, Err, refl, sym, ap, subst, ◌∙◌, arith}
use Rattle.std.specs.Prelude.{ℤ, ◌+ℤ◌}
use Rattle.std.specs.Option.{option_map}
use Rattle.std.proofs.lemmas.Bool.{and_right, eqb-true, Decides.nat_tests}
use Rattle.message_records.specs.{declared.records.Outcome.Outcome, declared.fault.Bad.Bad}
use Rattle.message_records.specs.{believed.Records.RequestFields, believed.Reading.request_of}
use Rattle.posting_rules.specs.{declared.judgments.Found.Found, declared.judgments.Verdict.Verdict}
use Rattle.posting_rules.specs.{declared.rows.HistoryRow.HistoryRow, declared.rows.RequestRow.RequestRow}
use Rattle.posting_rules.specs.{declared.rows.ReferenceRow.ReferenceRow, believed.Numbering.branch_of_teller}
use Rattle.posting_rules.specs.{believed.Cases.case_of, believed.Cases.reply_in, believed.LookUps.found_in}
use Rattle.posting_rules.specs.declared.judgments.Verdict.TheVariants.{Unkept, Again, Refused, Posted}
use Rattle.posting_rules.specs.believed.Commands.{Command, Post, opened, is_teller_open, is_account_open, Terms}
use Rattle.posting_rules.specs.believed.Entries.{DecidedRequest, is_posted, facts, posted_sum, teller_balance}
use Rattle.posting_rules.specs.believed.Entries.{branch_balance, account_balance, refused_entry, posted_entry}
use Rattle.posting_rules.specs.believed.Entries.{with_verdict, with_record, reply_given, decided, reply}
use Rattle.posting_rules.specs.believed.Tables.{Tables, HasRows, HasKeys, AreTablesOf, row_at, branch_key, teller_key}
use Rattle.posting_rules.specs.believed.Tables.{account_key, history_key, request_key, branch_row_of, teller_row_of}
use Rattle.posting_rules.specs.believed.Tables.{account_row_of, history_row, history_row_of, request_row}
use Rattle.posting_rules.specs.believed.Tables.{request_row_of, reference_key, reference_row, reference_row_of}
use Rattle.posting_rules.specs.believed.Changes.{row_put, reference_put, tables_kept, tables_posted, tables_after}
use Rattle.posting_rules.specs.believed.Changes.{tables_with, with_decided, with_request, with_reference}
use Rattle.posting_rules.specs.believed.Changes.{with_history, with_branch_balance, with_teller_balance}
use Rattle.posting_rules.specs.believed.Changes.{with_account_balance}
use Rattle.posting_rules.specs.ChangesByKey as steps
use Rattle.posting_rules.proofs.Verdicts.{IsVerdict, IsPosting, IsRefusal, verdict_is}
use Rattle.posting_rules.proofs.{Requests.are_new, Looked.found_shown, Closings.closing_keys}
use Rattle.posting_rules.proofs.RowChanges.{row_at-put, row_changes, keys-put}
use Rattle.posting_rules.specs.declared.rows.ClosingRow.{ClosingRow}
use Rattle.posting_rules.specs.believed.Closings.{closings}

-- ---- rows under ordinals

one_more : (n : ℕ) → n + 1 ≡ suc n
one_more n = omega arith

other_ordinal : (n o : ℕ) → n < o → eqb (n + 1) (suc o) ≡ false
other_ordinal n o lt = grind (arith, nat_tests)

-- no request, no posting and no reference has an ordinal past the last one
pub request_row_past : (es : List DecidedRequest) (o : ℕ) → length es ≤ o → request_row es (suc o) ≡ None
request_row_past [] o le = refl
request_row_past (e ∷ es) o le = rw (other_ordinal (length es) o (omega arith))
    (request_row_past es o (omega arith))

pub history_row_past : (es : List DecidedRequest) (o : ℕ) → length es ≤ o → history_row es (suc o) ≡ None
history_row_past [] o le = refl
history_row_past (e ∷ es) o le = rw (other_ordinal (length es) o (omega arith), and_right (is_posted e) false refl)
    (history_row_past es o (omega arith))

pub reference_row_past : (es : List DecidedRequest) (o : ℕ) → length es ≤ o
    → reference_row es (suc o) ≡ None
reference_row_past [] o le = refl
reference_row_past (e ∷ es) o le = rw (other_ordinal (length es) o (omega arith))
    (reference_row_past es o (omega arith))

-- and none has the next one
pub next_request : {runs : List ClosingRow} (t : Tables) (opened : ℕ → Option Terms) (es : List DecidedRequest) → HasRows t opened runs es
    → row_at request_key t.requests (length es + 1) ≡ None
next_request t opened es s =
    ap (row_at request_key t.requests) (one_more (length es)) ∙ s.requests (suc (length es))
    ∙ request_row_past es (length es) (omega arith)

pub next_posting : {runs : List ClosingRow} (t : Tables) (opened : ℕ → Option Terms) (es : List DecidedRequest) → HasRows t opened runs es
    → row_at history_key t.history (length es + 1) ≡ None
next_posting t opened es s =
    ap (row_at history_key t.history) (one_more (length es)) ∙ s.history (suc (length es))
    ∙ history_row_past es (length es) (omega arith)

pub next_reference : {runs : List ClosingRow} (t : Tables) (opened : ℕ → Option Terms) (es : List DecidedRequest) → HasRows t opened runs es
    → row_at reference_key t.references (length es + 1) ≡ None
next_reference t opened es s =
    ap (row_at reference_key t.references) (one_more (length es)) ∙ s.references (suc (length es))
    ∙ reference_row_past es (length es) (omega arith)

-- what rows show with one more
put_shown : {R : Type 0} (key : R → ℕ) (row : ℕ → R) (rows : List R) (n o : ℕ) (shown : Option R)
    → key (row n) ≡ n → row_at key rows o ≡ shown
    → row_at key (row_put key (row n) rows) o ≡ cond (eqb n o) (Some (row o)) shown
put_shown key row rows n o shown own is =
    row_at-put key (row n) rows o ∙ ap (λ (k : ℕ). cond (eqb k o) (Some (row n)) (row_at key rows o)) own
    ∙ ap (cond (eqb n o) (Some (row n))) is ∙ named (eqb n o) refl
  where
    named : (b : Bool) → eqb n o ≡ b → cond b (Some (row n)) shown ≡ cond b (Some (row o)) shown
    named true t = ap (λ (k : ℕ). Some (row k)) (eqb-true _ _ t)
    named false f = refl

requests_added : (rows : List RequestRow) (es : List DecidedRequest) (e : DecidedRequest)
    → ((o : ℕ) → row_at request_key rows o ≡ request_row es o) → (o : ℕ)
    → row_at request_key (row_put request_key (request_row_of (length es + 1) e) rows) o
    ≡ request_row (e ∷ es) o
requests_added rows es e shown o = put_shown request_key (λ n. request_row_of n e) rows (length es + 1) o
    (request_row es o) refl (shown o)

history_added : (rows : List HistoryRow) (es : List DecidedRequest) (e : DecidedRequest) → is_posted e ≡ true
    → ((o : ℕ) → row_at history_key rows o ≡ history_row es o) → (o : ℕ)
    → row_at history_key (row_put history_key (history_row_of (length es + 1) e) rows) o
    ≡ history_row (e ∷ es) o
history_added rows es e done shown o =
    put_shown history_key (λ n. history_row_of n e) rows (length es + 1) o (history_row es o) refl (shown o)
    ∙ rw done refl

-- the next ordinal has the reference of the request that is decided under it, or none
references_added : (rows : List ReferenceRow) (es : List DecidedRequest) (e : DecidedRequest)
    (reference : Option (List ℕ)) → e.request.reference ≡ reference
    → ((o : ℕ) → row_at reference_key rows o ≡ reference_row es o) → (o : ℕ)
    → row_at reference_key (reference_put (length es + 1) reference rows) o ≡ reference_row (e ∷ es) o
references_added rows es e None its shown o = shown o ∙ rw its (unreferenced (eqb (length es + 1) o) refl)
  where
    unreferenced : (b : Bool) → eqb (length es + 1) o ≡ b
        → reference_row es o ≡ cond b None (reference_row es o)
    unreferenced true t =
        ap (λ (n : ℕ). reference_row es n) (sym (eqb-true _ _ t) ∙ one_more (length es))
        ∙ reference_row_past es (length es) (omega arith)
    unreferenced false f = refl
references_added rows es e (Some text) its shown o =
    rw its (put_shown reference_key (λ n. reference_row_of n text) rows (length es + 1) o (reference_row es o)
    refl (shown o))

reference_keys_added : (ordinal : ℕ) (reference : Option (List ℕ)) (rows : List ReferenceRow)
    → HasKeys reference_key rows → row_at reference_key rows ordinal ≡ None
    → HasKeys reference_key (reference_put ordinal reference rows)
reference_keys_added ordinal None rows keys free = keys
reference_keys_added ordinal (Some text) rows keys free =
    keys-put reference_key (reference_row_of ordinal text) rows keys free

-- ---- balances

-- what isn't posted adds to no sum, and to no history
unposted_sum : (test : RequestFields → Bool) (es : List DecidedRequest) (e : DecidedRequest)
    → is_posted e ≡ false
    → posted_sum test es ≡ posted_sum test (e ∷ es)
unposted_sum test es e h = rw h refl

unposted_history : (es : List DecidedRequest) (e : DecidedRequest) → is_posted e ≡ false → (o : ℕ)
    → history_row es o ≡ history_row (e ∷ es) o
unposted_history es e h o = rw h refl

branch_changed : (o : Option Terms) (hit : Bool) (b : ℕ) (z old delta : ℤ) → (hit ≡ true → z ≡ old +ℤ delta)
    → option_map (λ r. cond hit (steps.with_branch_balance z r) r) (option_map (branch_row_of b old) o) ≡ option_map
    (branch_row_of b (cond hit (old +ℤ delta) old)) o
branch_changed (Some count) true b z old delta h = ap (λ (v : ℤ). Some (branch_row_of b v count)) (h refl)
branch_changed (Some count) false b z old delta h = refl
branch_changed None hit b z old delta h = refl

teller_changed : (is_open hit : Bool) (n : ℕ) (z old delta : ℤ) → (hit ≡ true → z ≡ old +ℤ delta)
    → option_map (λ r. cond hit (steps.with_teller_balance z r) r) (cond is_open (Some (teller_row_of n old)) None)
    ≡ cond is_open (Some (teller_row_of n (cond hit (old +ℤ delta) old))) None
teller_changed true true n z old delta h = ap (λ (v : ℤ). Some (teller_row_of n v)) (h refl)
teller_changed true false n z old delta h = refl
teller_changed false hit n z old delta h = refl

account_changed : (is_open hit : Bool) (n : ℕ) (z old delta : ℤ) → (hit ≡ true → z ≡ old +ℤ delta)
    → option_map (λ r. cond hit (steps.with_account_balance z r) r)
    (cond is_open (Some (account_row_of n old)) None) ≡ cond is_open
    (Some (account_row_of n (cond hit (old +ℤ delta) old))) None
account_changed true true n z old delta h = ap (λ (v : ℤ). Some (account_row_of n v)) (h refl)
account_changed true false n z old delta h = refl
account_changed false hit n z old delta h = refl

-- ---- the two verdicts that change tables

refusal_shown : (t : Tables) (opened : ℕ → Option Terms) (runs : List ClosingRow) (es : List DecidedRequest) (m : ℕ)
    (r : RequestFields) (o : Outcome) → HasRows t opened runs es → IsRefusal es r o
    → HasRows (tables_kept t (length es + 1) (refused_entry m r o)) opened runs (refused_entry m r o ∷ es)
unfolding with_decided with_request with_reference
refusal_shown t opened runs es m r o s h =
    let e = refused_entry m r o in
    record {
      decided = one_more (length es);
      branches = λ b. s.branches b ∙ ap (λ (z : ℤ). option_map (branch_row_of b z) (opened b))
          (unposted_sum (λ q. eqb q.branch b) es e h.unposted);
      tellers = λ n. s.tellers n
          ∙ ap (λ (z : ℤ). cond (is_teller_open opened n) (Some (teller_row_of n z)) None)
          (unposted_sum (λ q. eqb q.teller n) es e h.unposted);
      accounts = λ a. s.accounts a
          ∙ ap (λ (z : ℤ). cond (is_account_open opened a) (Some (account_row_of a z)) None)
          (unposted_sum (λ q. eqb q.account a) es e h.unposted);
      history = λ k. s.history k ∙ unposted_history es e h.unposted k;
      requests = requests_added t.requests es e s.requests;
      references = references_added t.references es e r.reference refl s.references;
      floors = s.floors;
      closings = s.closings;
      closing_keys = s.closing_keys;
      branch_keys = s.branch_keys;
      teller_keys = s.teller_keys;
      account_keys = s.account_keys;
      history_keys = s.history_keys;
      request_keys = keys-put request_key (request_row_of (length es + 1) e) t.requests s.request_keys
          (next_request t opened es s);
      floor_keys = s.floor_keys;
      reference_keys = reference_keys_added (length es + 1) r.reference t.references s.reference_keys
          (next_reference t opened es s);
    }

posting_shown : (t : Tables) (opened : ℕ → Option Terms) (runs : List ClosingRow) (es : List DecidedRequest) (m : ℕ)
    (r : RequestFields) (a te b : ℤ) → HasRows t opened runs es → IsPosting opened es r a te b
    → HasRows (tables_posted t (length es + 1) (posted_entry m r a) te b) opened runs (posted_entry m r a ∷ es)
unfolding with_decided with_request with_reference with_history
    with_branch_balance with_teller_balance with_account_balance
posting_shown t opened runs es m r a te b s h =
    let e = posted_entry m r a in
    let home = branch_of_teller r.teller in
    let branches = row_changes branch_key home (steps.with_branch_balance b) t.branches (λ _. refl)
    s.branch_keys in
    let tellers = row_changes teller_key r.teller (steps.with_teller_balance te) t.tellers (λ _. refl)
    s.teller_keys in
    let accounts = row_changes account_key r.account (steps.with_account_balance a) t.accounts (λ _. refl)
    s.account_keys in
    record {
      decided = one_more (length es);
      branches = λ n. branches.rows n ∙ ap
          (option_map (λ row. cond (eqb home n) (steps.with_branch_balance b row) row)) (s.branches n)
          ∙ branch_changed (opened n) (eqb home n) n b (branch_balance es n) r.delta
          (λ q. h.branch_is.sum ∙ ap (λ (x : ℕ). branch_balance es x +ℤ r.delta) (eqb-true _ _ q))
          ∙ ap (λ (x : ℕ). option_map (branch_row_of n (cond (eqb x n) (branch_balance es n +ℤ r.delta)
          (branch_balance es n))) (opened n)) (sym h.its_branch);
      tellers = λ n. tellers.rows n ∙ ap
          (option_map (λ row. cond (eqb r.teller n) (steps.with_teller_balance te row) row)) (s.tellers n)
          ∙ teller_changed (is_teller_open opened n) (eqb r.teller n) n te (teller_balance es n) r.delta
          (λ q. h.teller_is.sum ∙ ap (λ (x : ℕ). teller_balance es x +ℤ r.delta) (eqb-true _ _ q));
      accounts = λ n. accounts.rows n ∙ ap
          (option_map (λ row. cond (eqb r.account n) (steps.with_account_balance a row) row)) (s.accounts n)
          ∙ account_changed (is_account_open opened n) (eqb r.account n) n a (account_balance es n) r.delta
          (λ q. h.account_is.sum ∙ ap (λ (x : ℕ). account_balance es x +ℤ r.delta) (eqb-true _ _ q));
      history = history_added t.history es e refl s.history;
      requests = requests_added t.requests es e s.requests;
      references = references_added t.references es e r.reference refl s.references;
      floors = s.floors;
      closings = s.closings;
      closing_keys = s.closing_keys;
      branch_keys = branches.keys;
      teller_keys = tellers.keys;
      account_keys = accounts.keys;
      history_keys = keys-put history_key (history_row_of (length es + 1) e) t.history s.history_keys
          (next_posting t opened es s);
      request_keys = keys-put request_key (request_row_of (length es + 1) e) t.requests s.request_keys
          (next_request t opened es s);
      floor_keys = s.floor_keys;
      reference_keys = reference_keys_added (length es + 1) r.reference t.references s.reference_keys
          (next_reference t opened es s);
    }

-- the entry of a verdict stands under the ordinal after the count
verdict_shown : (t : Tables) (opened : ℕ → Option Terms) (runs : List ClosingRow) (es : List DecidedRequest) (m : ℕ)
    (r : RequestFields) (v : Verdict) → HasRows t opened runs es → IsVerdict opened es r v
    → HasRows (tables_after t m r v) opened runs (with_verdict m r v es)
verdict_shown t opened runs es m r (Unkept o) s h = s
verdict_shown t opened runs es m r (Again x) s h = s
verdict_shown t opened runs es m r (Refused o) s h =
    let e = refused_entry m r o in
    subst (λ (n : ℕ). HasRows (tables_kept t (n + 1) e) opened runs (e ∷ es)) (sym s.decided)
    (refusal_shown t opened runs es m r o s h)
verdict_shown t opened runs es m r (Posted a te b) s h =
    let e = posted_entry m r a in
    subst (λ (n : ℕ). HasRows (tables_posted t (n + 1) e te b) opened runs (e ∷ es)) (sym s.decided)
    (posting_shown t opened runs es m r a te b s h)

-- ---- a request after a log

-- the verdict on what was looked up for a request leaves the tables of the log with it
pub post_shown : (t : Tables) (log : List Command) (m : ℕ) (bytes : List ℕ) (r : RequestFields)
    → request_of bytes ≡ Ok r → AreTablesOf t log → AreTablesOf (tables_with t m r) (Post m bytes ∷ log)
post_shown t log m bytes r read s =
    let es = decided log in
    let open_ = λ (b : ℕ). opened log b in
    let runs = closings log in
    let v = case_of (facts open_ runs es r) r in
    let found : found_in t r ≡ facts open_ runs es r = found_shown t open_ runs es r (are_new log)
    (closing_keys log) s.rows in
    record {
      rows = subst (λ (x : Result RequestFields Bad). HasRows (tables_with t m r) open_ runs
          (with_record m x open_ runs es)) (sym read)
          (subst (λ (f : Found). HasRows (tables_after t m r (case_of f r)) open_ runs (with_verdict m r v es))
          (sym found) (verdict_shown t open_ runs es m r v s.rows (verdict_is open_ runs es r)));
    }

-- bytes that are no request change nothing
pub malformed_shown : (t : Tables) (log : List Command) (m : ℕ) (bytes : List ℕ) (fault : Bad)
    → request_of bytes ≡ Err fault → AreTablesOf t log → AreTablesOf t (Post m bytes ∷ log)
malformed_shown t log m bytes fault read s =
    record {
      rows = subst (λ (x : Result RequestFields Bad). HasRows t (λ b. opened log b) (closings log)
          (with_record m x (λ b. opened log b) (closings log) (decided log))) (sym read) s.rows;
    }

-- the reply that the verdict on what was looked up tells
pub reply_shown : (t : Tables) (log : List Command) (bytes : List ℕ) (r : RequestFields)
    → request_of bytes ≡ Ok r → AreTablesOf t log → reply_in (case_of (found_in t r) r) r ≡ reply log bytes
reply_shown t log bytes r read s =
    let found : found_in t r ≡ facts (λ b. opened log b) (closings log) (decided log) r =
    found_shown t (λ b. opened log b) (closings log) (decided log) r (are_new log) (closing_keys log) s.rows in
    ap (λ (f : Found). reply_in (case_of f r) r) found ∙ ap
    (λ (x : Result RequestFields Bad). reply_given x (λ b. opened log b) (closings log) (decided log)) (sym read)
