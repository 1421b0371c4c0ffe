-- No reply depends on a moment, so that a run of batches is replied to like one batch of all their records.
use Rattle.std.proofs.Common.{◌≡◌, ℕ, suc, Bool, true, false, cond, eqb, List, [], ◌∷◌, ◌++◌, length, Option, Some}
use Rattle.std.proofs.Common.{None, Result, Ok, Err, refl, sym, ap, ◌∙◌}
use Rattle.std.specs.Prelude.{ℤ, ◌+ℤ◌, ◌&&◌}
use Rattle.std.specs.Option.{option_map}
use Rattle.message_records.specs.declared.fault.Bad.{Bad}
use Rattle.message_records.specs.believed.Records.{RequestFields, ReplyFields}
use Rattle.message_records.specs.believed.{Reading.request_of, Spelling.reply_spelling}
use Rattle.posting_rules.specs.{declared.judgments.Found.Found, believed.Kept.KeptFields, believed.Cases.case_of}
use Rattle.posting_rules.specs.declared.judgments.Verdict.{Verdict}
use Rattle.posting_rules.specs.declared.judgments.Verdict.TheVariants.{Unkept}
use Rattle.posting_rules.specs.believed.Numbering.{branch_of_teller, branch_of_account}
use Rattle.posting_rules.specs.believed.Commands.{Command, Post, opened, is_teller_open, is_account_open, Terms}
use Rattle.posting_rules.specs.believed.Commands.{floor_of}
use Rattle.posting_rules.specs.believed.Entries.{DecidedRequest, is_posted, facts, kept, kept_fields, posted_sum}
use Rattle.posting_rules.specs.believed.Entries.{with_verdict, with_record, decided, reply_given, reply}
use Rattle.posting_rules.specs.believed.Runs.{followed_by, posts, replies_to}
use Rattle.posting_core.specs.believed.Batches.{Batch, posts_in, posts_of, records_of}
use Rattle.posting_rules.proofs.Sequence.{replies_to-append}
use Rattle.posting_rules.specs.declared.rows.ClosingRow.{ClosingRow}
use Rattle.posting_rules.specs.believed.Closings.{books_of, closings}

-- ---- entries without their moments

abbrev pub zeroed : List DecidedRequest → List DecidedRequest
zeroed [] = []
zeroed (e ∷ es) = record { moment = 0; request = e.request; outcome = e.outcome; balance = e.balance }
    ∷ zeroed es

pub sum_zeroed : (test : RequestFields → Bool) (es : List DecidedRequest)
    → posted_sum test (zeroed es) ≡ posted_sum test es
sum_zeroed test [] = refl
sum_zeroed test (e ∷ es) = ap (λ (z : ℤ). cond (is_posted e && test e.request) (z +ℤ e.request.delta) z)
    (sum_zeroed test es)

kept_step : (hit : Bool) (x y : DecidedRequest) (o p : Option DecidedRequest) → kept_fields x ≡ kept_fields y
    → option_map kept_fields o ≡ option_map kept_fields p
    → option_map kept_fields (cond hit (Some x) o) ≡ option_map kept_fields (cond hit (Some y) p)
kept_step true x y o p e f = ap Some e
kept_step false x y o p e f = f

kept_zeroed : (es : List DecidedRequest) (t n : ℕ) → kept (zeroed es) t n ≡ kept es t n
kept_zeroed [] t n = refl
kept_zeroed (e ∷ es) t n = kept_step ((eqb e.request.teller t) && (eqb e.request.number n)) _ _ _ _ refl
    (kept_zeroed es t n)

length_zeroed : (es : List DecidedRequest) → length (zeroed es) ≡ length es
length_zeroed [] = refl
length_zeroed (e ∷ es) = ap suc (length_zeroed es)

-- what is known of them is the same
facts_zeroed : (opened : ℕ → Option Terms) (runs : List ClosingRow) (es : List DecidedRequest) (r : RequestFields)
    → facts opened runs (zeroed es) r ≡ facts opened runs es r
facts_zeroed opened runs es r =
    made _ _ _ _ _ _ _ _ _ _ (sum_zeroed (λ x. eqb x.teller r.teller) es)
    (sum_zeroed (λ x. eqb x.branch (branch_of_teller r.teller)) es)
    (kept_zeroed es r.teller r.number) (length_zeroed es) (sum_zeroed (λ x. eqb x.account r.account) es)
  where
    found : ℤ → ℤ → Option KeptFields → ℕ → ℤ → Found
    found t b k n a = record {
      teller = cond (is_teller_open opened r.teller) (Some (t, b)) None;
      kept = k;
      books = books_of runs r.teller r.number;
      decided = n;
      account = cond (is_account_open opened r.account) (Some a) None;
      floor = floor_of opened (branch_of_account r.account);
    }

    made : (t t' b b' : ℤ) (k k' : Option KeptFields) (n n' : ℕ) (a a' : ℤ) → t ≡ t' → b ≡ b' → k ≡ k'
        → n ≡ n' → a ≡ a'
        → found t b k n a ≡ found t' b' k' n' a'
    made t t' b b' k k' n n' a a' et eb ek en ea = rw (et, eb, ek, en, ea) refl

-- and so is the reply
pub reply_zeroed : (opened : ℕ → Option Terms) (runs : List ClosingRow) (es : List DecidedRequest) (read : Result RequestFields Bad)
    → reply_given read opened runs (zeroed es) ≡ reply_given read opened runs es
reply_zeroed opened runs es (Ok r) = rw (facts_zeroed opened runs es r) refl
reply_zeroed opened runs es (Err e) = refl

verdict_zeroed : (m : ℕ) (r : RequestFields) (v : Verdict) (es : List DecidedRequest)
    → zeroed (with_verdict m r v es) ≡ with_verdict 0 r v (zeroed es)
verdict_zeroed m r (Unkept o) es = refl
verdict_zeroed m r other es = refl

pub record_zeroed : (m : ℕ) (opened : ℕ → Option Terms) (runs : List ClosingRow) (es : List DecidedRequest)
    (read : Result RequestFields Bad)
    → zeroed (with_record m read opened runs es) ≡ with_record 0 read opened runs (zeroed es)
record_zeroed m opened runs es (Ok r) =
    verdict_zeroed m r (case_of (facts opened runs es r) r) es ∙ ap
    (λ (f : Found). with_verdict 0 r (case_of f r) (zeroed es)) (sym (facts_zeroed opened runs es r))
record_zeroed m opened runs es (Err e) = refl

-- ---- records from what is open and decided

-- their replies, and what is decided after them
replies_from : (ℕ → Option Terms) → List ClosingRow → List DecidedRequest → List (List ℕ) → List (List ℕ)
replies_from opened runs es [] = []
replies_from opened runs es (r ∷ rs) = reply_spelling (reply_given (request_of r) opened runs es) ∷ replies_from opened runs
    (with_record 0 (request_of r) opened runs es) rs

entries_after : (ℕ → Option Terms) → List ClosingRow → List DecidedRequest → List (List ℕ) → List DecidedRequest
entries_after opened runs es [] = es
entries_after opened runs es (r ∷ rs) = entries_after opened runs (with_record 0 (request_of r) opened runs es) rs

replies_from-append : (opened : ℕ → Option Terms) (runs : List ClosingRow) (es : List DecidedRequest) (rs ss : List (List ℕ))
    → replies_from opened runs es (rs ++ ss) ≡ replies_from opened runs es rs ++ replies_from opened runs
    (entries_after opened runs es rs) ss
unfolding replies_from entries_after
replies_from-append opened runs es [] ss = refl
replies_from-append opened runs es (r ∷ rs) ss =
    ap (λ (t : List (List ℕ)). reply_spelling (reply_given (request_of r) opened runs es) ∷ t)
    (replies_from-append opened runs (with_record 0 (request_of r) opened runs es) rs ss)

-- what is open after a log, and what is decided there but for the moments
abbrev open_after : List Command → ℕ → Option Terms
open_after log b = opened log b

abbrev entries_of : List Command → List DecidedRequest
entries_of log = zeroed (decided log)

posts_replied : (log : List Command) (m : ℕ) (rs : List (List ℕ))
    → replies_to log (posts m rs) ≡ replies_from (λ b. open_after log b) (closings log) (entries_of log) rs
unfolding replies_from
posts_replied log m [] = refl
posts_replied log m (r ∷ rs) =
    let after = with_record 0 (request_of r) (λ b. opened log b) (closings log) (zeroed (decided log)) in
    ap (λ (t : List (List ℕ)). reply_spelling (reply log r) ∷ t)
    (posts_replied (Post m r ∷ log) m rs
    ∙ ap (λ (es : List DecidedRequest). replies_from (λ b. opened log b) (closings log) es rs)
    (record_zeroed m (λ b. opened log b) (closings log) (decided log) (request_of r)))
    ∙ ap (λ (out : ReplyFields). reply_spelling out ∷ replies_from (λ b. opened log b) (closings log) after rs)
    (sym (reply_zeroed (λ b. opened log b) (closings log) (decided log) (request_of r)))

posts_decided : (log : List Command) (m : ℕ) (rs : List (List ℕ))
    → entries_of (followed_by log (posts m rs)) ≡ entries_after (λ b. open_after log b) (closings log) (entries_of log) rs
unfolding entries_after
posts_decided log m [] = refl
posts_decided log m (r ∷ rs) =
    posts_decided (Post m r ∷ log) m rs
    ∙ ap (λ (es : List DecidedRequest). entries_after (λ b. opened log b) (closings log) es rs)
    (record_zeroed m (λ b. opened log b) (closings log) (decided log) (request_of r))

posts_opened : (log : List Command) (m : ℕ) (rs : List (List ℕ)) → ◌≡◌ {A = ℕ → Option Terms}
    (λ b. opened (followed_by log (posts m rs)) b) (λ b. opened log b)
posts_opened log m [] = refl
posts_opened log m (r ∷ rs) = posts_opened (Post m r ∷ log) m rs

posts_closed : (log : List Command) (m : ℕ) (rs : List (List ℕ)) → closings (followed_by log (posts m rs)) ≡ closings log
posts_closed log m [] = refl
posts_closed log m (r ∷ rs) = posts_closed (Post m r ∷ log) m rs

-- ---- batches

batches_replied : (log : List Command) (bs : List Batch)
    → replies_to log (posts_of bs) ≡ replies_from (λ b. open_after log b) (closings log) (entries_of log) (records_of bs)
unfolding replies_from
batches_replied log [] = refl
batches_replied log (b ∷ bs) =
    let now = followed_by log (posts_in b) in
    let first = replies_from (λ x. opened log x) (closings log) (zeroed (decided log)) b.records in
    replies_to-append log (posts_in b) (posts_of bs)
    ∙ ap (λ (t : List (List ℕ)). t ++ replies_to now (posts_of bs)) (posts_replied log b.moment b.records)
    ∙ ap (λ (t : List (List ℕ)). first ++ t)
    (batches_replied now bs
    ∙ ap (λ (o : ℕ → Option Terms). replies_from o (closings now) (zeroed (decided now)) (records_of bs))
    (posts_opened log b.moment b.records)
    ∙ ap (λ (runs : List ClosingRow). replies_from (λ x. opened log x) runs (zeroed (decided now)) (records_of bs))
    (posts_closed log b.moment b.records)
    ∙ ap (λ (es : List DecidedRequest). replies_from (λ x. opened log x) (closings log) es (records_of bs))
    (posts_decided log b.moment b.records))
    ∙ sym (replies_from-append (λ x. opened log x) (closings log) (zeroed (decided log)) b.records (records_of bs))

-- their replies are those to all their records at whatever moment
pub timeless : (log : List Command) (bs : List Batch) (m : ℕ)
    → replies_to log (posts_of bs) ≡ replies_to log (posts m (records_of bs))
timeless log bs m = batches_replied log bs ∙ sym (posts_replied log m (records_of bs))
