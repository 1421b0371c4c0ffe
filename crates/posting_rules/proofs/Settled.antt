-- Once a record was posted its reply is settled: it gets the same one from then on, and decides nothing.
use Rattle.std.proofs.Common.{◌≡◌, ℕ, Bool, true, false, cond, eqb, leb, List, [], ◌∷◌, length, Option, Some, None}
use Rattle.std.proofs.Common.{Result, Ok, Err, refl, sym, ap, subst, ◌∙◌, inl, inr}
use Rattle.std.specs.Prelude.{ℤ, pos}
use Rattle.std.proofs.lemmas.Bool.{eq-eqb}
use Rattle.posting_rules.specs.declared.limits.TheConstants.{MAX_DECIDED}
use Rattle.message_records.specs.declared.{records.Outcome.Outcome, fault.Bad.Bad}
use Rattle.message_records.specs.declared.records.Outcome.TheVariants as outcome
use Rattle.message_records.specs.believed.Records.{RequestFields, ReplyFields, unreferenced}
use Rattle.message_records.specs.believed.Reading.{request_of}
use Rattle.posting_rules.specs.declared.judgments.{Found.Found, Verdict.Verdict}
use Rattle.posting_rules.specs.declared.judgments.Verdict.TheVariants.{Unkept, Again, Refused}
use Rattle.posting_rules.specs.believed.{Kept.KeptFields, Numbering.branch_of_teller, Runs.followed_by, Runs.ArePosts}
use Rattle.posting_rules.specs.believed.Commands.{Command, Open, Post, Close, opened, is_teller_open, Terms}
use Rattle.posting_rules.specs.believed.Cases.{new_case, account_case, plus_within, is_same, reply_in, kept_reply}
use Rattle.posting_rules.specs.believed.Cases.{balance_shown}
use Rattle.posting_rules.specs.believed.Entries.{DecidedRequest, facts, kept, with_verdict, with_record, decided}
use Rattle.posting_rules.specs.believed.Entries.{kept_fields, reply_given, reply}
use Rattle.posting_rules.proofs.{Keyed.by_test, VerdictsStated.same_content, StaysSettled.settled_stays}
use Rattle.posting_rules.proofs.Verdicts.{by_account, by_posting}
use Rattle.posting_rules.proofs.SettledReplies.{IsSettled, closed_case, known_is, current_is, barred_is, barred_by}
use Rattle.posting_rules.proofs.SettledReplies.{full_is, settled_says}
use Rattle.posting_rules.specs.believed.Closings.{books_of}
use Rattle.posting_rules.specs.declared.judgments.Books.{Books}
use Rattle.posting_rules.specs.declared.judgments.Books.TheVariants.{Current, Closed, Sealed}
use Rattle.posting_rules.specs.declared.rows.ClosingRow.{ClosingRow}
use Rattle.posting_rules.specs.believed.Closings.{closings}

-- ---- each record settles its request

-- the verdict on a request settles what it replies
abbrev Settles : (ℕ → Option Terms) → List ClosingRow → List DecidedRequest → RequestFields → ℕ → Verdict → Type 0
Settles opened runs es r m v = IsSettled opened runs (with_verdict m r v es) r (reply_in v r)

-- a request that is decided now is known from then on
decided_now : (opened : ℕ → Option Terms) (runs : List ClosingRow) (es : List DecidedRequest) (r : RequestFields) (m : ℕ) (o : Outcome)
    (z : ℤ)
    (out : ReplyFields)
    → is_teller_open opened r.teller ≡ true
    → out ≡ record { outcome = o; request = Some (unreferenced r); balance = balance_shown o z }
    → IsSettled opened runs (record { moment = m; request = r; outcome = o; balance = z } ∷ es) r out
decided_now opened runs es r m o z out teller_open is =
    let e : DecidedRequest = record { moment = m; request = r; outcome = o; balance = z } in
    let k = kept_fields e in
    let same : is_same k r ≡ true = same_content k r (record {
      account = refl;
      branch = refl;
      delta = refl;
      reference = refl;
    }) in
    let teller : eqb r.teller r.teller ≡ true = eq-eqb _ _ refl in
    let number : eqb r.number r.number ≡ true = eq-eqb _ _ refl in
    inr (inl (record {
      teller = teller_open;
      fields = k;
      is_kept = rw (teller, number) refl;
      is_reply = is ∙ sym (ap (λ (b : Bool). reply_in
          (cond b (Again (kept_reply k r)) (Unkept outcome.ReusedNumber)) r) same);
    }))

-- a request whose reply was settled before it
unchanged : (opened : ℕ → Option Terms) (runs : List ClosingRow) (es : List DecidedRequest) (r : RequestFields) (m : ℕ)
    → IsSettled opened runs es r (reply_given (Ok r) opened runs es)
    → IsSettled opened runs (with_record m (Ok r) opened runs es) r (reply_given (Ok r) opened runs es)
unchanged opened runs es r m h =
    subst (λ (ds : List DecidedRequest). IsSettled opened runs ds r (reply_given (Ok r) opened runs es))
    (sym ((settled_says opened runs es r (reply_given (Ok r) opened runs es) h).1 m)) h

room_is : (f : Found) (r : RequestFields) (t b : ℤ) → leb MAX_DECIDED f.decided ≡ false
    → new_case f r t b ≡ cond (eqb r.branch (branch_of_teller r.teller))
    (account_case f.account f.floor t b r.delta)
    (Refused outcome.WrongBranch)
room_is f r t b e = rw e refl

-- a new request for which there is room
new_settles : (opened : ℕ → Option Terms) (runs : List ClosingRow) (es : List DecidedRequest) (r : RequestFields) (m : ℕ) (same : Bool)
    (account floor : Option ℤ) (t b : ℤ)
    → is_teller_open opened r.teller ≡ true
    → Settles opened runs es r m (cond same (account_case account floor t b r.delta) (Refused outcome.WrongBranch))
new_settles opened runs es r m false account floor t b up = decided_now opened runs es r m outcome.WrongBranch
    (pos 0) _ up refl
new_settles opened runs es r m true account floor t b up =
    let P = Settles opened runs es r m in
    by_account P account floor t b r.delta (decided_now opened runs es r m outcome.NoAccount (pos 0) _ up refl)
    (decided_now opened runs es r m outcome.BelowFloor (pos 0) _ up refl) (λ a accounts above.
    by_posting P (plus_within a r.delta) (plus_within t r.delta) (plus_within b r.delta)
    (decided_now opened runs es r m outcome.OverLimit (pos 0) _ up refl)
    (λ x y w ex ey ew. decided_now opened runs es r m outcome.Posted x _ up refl))

open_settles : (opened : ℕ → Option Terms) (runs : List ClosingRow) (es : List DecidedRequest) (r : RequestFields) (m : ℕ)
    → is_teller_open opened r.teller ≡ true
    → (o : Option KeptFields) → kept es r.teller r.number ≡ o
    → IsSettled opened runs (with_record m (Ok r) opened runs es) r (reply_given (Ok r) opened runs es)
open_settles opened runs es r m up (Some k) e =
    unchanged opened runs es r m (inr (inl (record {
      teller = up;
      fields = k;
      is_kept = e;
      is_reply = ap (λ (v : Verdict). reply_in v r) (known_is opened runs es r k up e);
    })))
open_settles opened runs es r m up None e = by_books (books_of runs r.teller r.number) refl
  where
    barred : (o : Outcome) → barred_by (books_of runs r.teller r.number) ≡ Some o
        → IsSettled opened runs (with_record m (Ok r) opened runs es) r (reply_given (Ok r) opened runs es)
    barred o is =
        unchanged opened runs es r m (inr (inr (inr (record {
          teller = up;
          none = e;
          outcome = o;
          barred = is;
          is_reply = ap (λ (v : Verdict). reply_in v r) (barred_is opened runs es r o up e is);
        }))))

    by_books : (books : Books) → books_of runs r.teller r.number ≡ books
        → IsSettled opened runs (with_record m (Ok r) opened runs es) r (reply_given (Ok r) opened runs es)
    by_books Closed c = barred outcome.Closed (ap barred_by c)
    by_books Sealed c = barred outcome.Sealed (ap barred_by c)
    by_books Current c =
        let f = facts opened runs es r in
        elim (by_test (leb MAX_DECIDED (length es))) [
          | inl full ↦ let is = current_is opened runs es r up e c ∙ full_is f r _ _ full in
              unchanged opened runs es r m (inr (inr (inl (record {
                teller = up;
                none = e;
                current = c;
                full = full;
                is_reply = ap (λ (v : Verdict). reply_in v r) is;
              }))))
          | inr room ↦ subst (Settles opened runs es r m) (sym (current_is opened runs es r up e c ∙ room_is f r _ _ room))
              (new_settles opened runs es r m (eqb r.branch (branch_of_teller r.teller)) f.account f.floor _ _ up)
        ]

settles : (opened : ℕ → Option Terms) (runs : List ClosingRow) (es : List DecidedRequest) (r : RequestFields) (m : ℕ)
    → IsSettled opened runs (with_record m (Ok r) opened runs es) r (reply_given (Ok r) opened runs es)
settles opened runs es r m =
    elim (by_test (is_teller_open opened r.teller)) [
      | inl up ↦ open_settles opened runs es r m up (kept es r.teller r.number) refl
      | inr closed ↦ unchanged opened runs es r m
          (inl (record {
            teller = closed;
            is_reply = ap (λ (v : Verdict). reply_in v r) (closed_case opened runs es r closed);
          }))
    ]

-- ---- over logs

abbrev IsReadSettled : (ℕ → Option Terms) → List ClosingRow → List DecidedRequest → Result RequestFields Bad → ReplyFields
    → Type 0
IsReadSettled opened runs es (Ok r) out = IsSettled opened runs es r out
IsReadSettled opened runs es (Err e) out = out ≡ reply_given (Err e) opened runs es

read_settles : (opened : ℕ → Option Terms) (runs : List ClosingRow) (es : List DecidedRequest) (read : Result RequestFields Bad) (m : ℕ)
    → IsReadSettled opened runs (with_record m read opened runs es) read (reply_given read opened runs es)
read_settles opened runs es (Ok r) m = settles opened runs es r m
read_settles opened runs es (Err e) m = refl

read_stays : (opened : ℕ → Option Terms) (runs : List ClosingRow) (es : List DecidedRequest) (read other : Result RequestFields Bad)
    (out : ReplyFields) (m : ℕ)
    → IsReadSettled opened runs es read out → IsReadSettled opened runs (with_record m other opened runs es) read out
read_stays opened runs es (Ok r) other out m h = settled_stays opened runs es r out m other h
read_stays opened runs es (Err e) other out m h = h

read_says : (opened : ℕ → Option Terms) (runs : List ClosingRow) (es : List DecidedRequest) (read : Result RequestFields Bad)
    (out : ReplyFields)
    → IsReadSettled opened runs es read out
    → (reply_given read opened runs es ≡ out) × ((m : ℕ) → with_record m read opened runs es ≡ es)
read_says opened runs es (Ok r) out h = settled_says opened runs es r out h
read_says opened runs es (Err e) out h = (sym h, λ m. refl)

stays_after : (log after : List Command) (bytes : List ℕ) (out : ReplyFields) → ArePosts after
    → IsReadSettled (λ b. opened log b) (closings log) (decided log) (request_of bytes) out
    → IsReadSettled (λ b. opened (followed_by log after) b) (closings (followed_by log after)) (decided (followed_by log after)) (request_of bytes) out
stays_after log [] bytes out posts h = h
stays_after log (Open b terms ∷ after) bytes out posts h = absurd posts
stays_after log (Close first last ∷ after) bytes out posts h = absurd posts
stays_after log (Post m other ∷ after) bytes out posts h =
    stays_after (Post m other ∷ log) after bytes out posts
    (read_stays (λ b. opened log b) (closings log) (decided log) (request_of bytes) (request_of other) out m h)

-- a record that was posted gets the same reply from then on, and decides nothing
pub again : (log after : List Command) (m later : ℕ) (bytes : List ℕ) → ArePosts after
    → (reply (followed_by (Post m bytes ∷ log) after) bytes ≡ reply log bytes)
    × (decided (Post later bytes ∷ followed_by (Post m bytes ∷ log) after) ≡
    decided (followed_by (Post m bytes ∷ log) after))
again log after m later bytes posts =
    let now = followed_by (Post m bytes ∷ log) after in
    let h = stays_after (Post m bytes ∷ log) after bytes (reply log bytes) posts
    (read_settles (λ b. opened log b) (closings log) (decided log) (request_of bytes) m) in
    let says = read_says (λ b. opened now b) (closings now) (decided now) (request_of bytes) (reply log bytes) h in
    (says.0, says.1 later)
