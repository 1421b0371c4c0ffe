-- Requests that are posted again where they were decided get the verdicts that they got.
use Rattle.std.proofs.Common.{◌≡◌, ◌∙◌, ◌++◌, ℕ, Bool, List, [], ◌∷◌, map, drop, length}
use Rattle.std.proofs.Common.{Option, Result, Ok, Err, refl, sym, ap, subst, append-nil, inl, inr}
use Rattle.std.proofs.Common.{arith}
use Rattle.std.specs.{Prelude.◌&&◌, Prelude.◌==◌}
use Rattle.std.proofs.lemmas.{Bool.cases_Bool, List.append_assoc, List.drop-append-le, List.drop_all, List.length-append, List.length-map}
use Rattle.message_records.specs.believed.{Reading.request_of, Records.RequestFields, Spelling.request_spelling}
use Rattle.message_records.specs.declared.{fault.Bad.Bad}
use Rattle.message_records.proofs.Requests.{request_takes}
use Rattle.posting_core.specs.believed.Stream.{posted_records}
use Rattle.posting_rules.specs.believed.Cases.{case_of}
use Rattle.posting_rules.specs.believed.Commands.{AreCommands, Command, Open, Post, Close, Terms, opened}
use Rattle.posting_rules.specs.believed.Entries.{DecidedRequest, decided, facts, is_posted, kept, posted_entry}
use Rattle.posting_rules.specs.believed.Entries.{posted_sum, refused_entry, with_record, with_verdict}
use Rattle.posting_rules.specs.believed.Numbering.{branch_of_account, branch_of_teller}
use Rattle.posting_rules.specs.believed.Runs.{ArePosts, followed_by}
use Rattle.posting_rules.specs.declared.judgments.{Books.Books, Found.Found, Verdict.Verdict}
use Rattle.posting_rules.specs.declared.judgments.Books.TheVariants.{Current}
use Rattle.posting_rules.specs.declared.judgments.Verdict.TheVariants.{Again, Posted, Refused, Unkept}
use Rattle.posting_core.specs.believed.LogEntries.{answered_of, each_answered}
use Rattle.bank_replays.specs.GivenBack.{ClosesNoMore, GivesBack, record_of, records_since, unmoved}
use Rattle.posting_core.specs.believed.LogEntries.{AnsweredRequest}
use Rattle.posting_rules.specs.declared.rows.ClosingRow.{ClosingRow}
use Rattle.posting_rules.specs.believed.Closings.{books_of, closings}
use Rattle.posting_rules.proofs.Verdicts.{IsOfBooks, of_books}

-- ---- what is known of a request doesn't depend on moments

pub sum_unmoved : (test : RequestFields → Bool) (es : List DecidedRequest)
    → posted_sum test (map unmoved es) ≡ posted_sum test es
sum_unmoved test [] = refl
sum_unmoved test (e ∷ es) = elim (cases_Bool (is_posted e && test e.request)) [
  | inl t ↦ rw (t, sum_unmoved test es) refl
  | inr f ↦ rw f (sum_unmoved test es)
]

pub kept_unmoved : (es : List DecidedRequest) (t n : ℕ) → kept (map unmoved es) t n ≡ kept es t n
kept_unmoved [] t n = refl
kept_unmoved (e ∷ es) t n = elim (cases_Bool ((e.request.teller == t) && (e.request.number == n))) [
  | inl t ↦ rw t refl
  | inr f ↦ rw f (kept_unmoved es t n)
]

pub facts_unmoved : (o : ℕ → Option Terms) (runs : List ClosingRow) (es : List DecidedRequest) (r : RequestFields)
    → facts o runs (map unmoved es) r ≡ facts o runs es r
facts_unmoved o runs es r = rw (
  sum_unmoved (λ q. q.teller == r.teller) es,
  sum_unmoved (λ q. q.branch == branch_of_teller r.teller) es,
  sum_unmoved (λ q. q.account == r.account) es,
  kept_unmoved es r.teller r.number,
  length-map es unmoved,
) refl

facts_opened : (o o' : ℕ → Option Terms) (runs : List ClosingRow) → ((b : ℕ) → o b ≡ o' b) → (es : List DecidedRequest) (r : RequestFields)
    → facts o runs es r ≡ facts o' runs es r
facts_opened o o' runs same es r = rw (same (branch_of_teller r.teller), same (branch_of_account r.account)) refl

facts_closed : (o : ℕ → Option Terms) (runs runs' : List ClosingRow) (es : List DecidedRequest) (r : RequestFields)
    → books_of runs r.teller r.number ≡ books_of runs' r.teller r.number → facts o runs es r ≡ facts o runs' es r
facts_closed o runs runs' es r same =
    ap (λ (c : Books). let f : Found = record (facts o runs es r) { books = c } in f) same

facts_alike : (o o' : ℕ → Option Terms) (runs runs' : List ClosingRow) (es es' : List DecidedRequest) (r : RequestFields)
    → ((b : ℕ) → o b ≡ o' b) → books_of runs r.teller r.number ≡ books_of runs' r.teller r.number
    → map unmoved es ≡ map unmoved es' → facts o runs es r ≡ facts o' runs' es' r
facts_alike o o' runs runs' es es' r opens closes same =
    sym (facts_unmoved o runs es r) ∙ ap (λ l. facts o runs l r) same ∙ facts_unmoved o runs es' r
    ∙ facts_opened o o' runs opens es' r ∙ facts_closed o' runs runs' es' r closes

-- ---- what one record adds

added_by : ℕ → RequestFields → Verdict → List DecidedRequest
added_by m r (Unkept outcome) = []
added_by m r (Again first) = []
added_by m r (Refused outcome) = refused_entry m r outcome ∷ []
added_by m r (Posted account teller branch) = posted_entry m r account ∷ []

verdict_adds : (m : ℕ) (r : RequestFields) (v : Verdict) (es : List DecidedRequest)
    → each_answered (with_verdict m r v es) ≡ each_answered es ++ map answered_of (added_by m r v)
unfolding added_by
verdict_adds m r (Unkept outcome) es = sym (append-nil (each_answered es))
verdict_adds m r (Again first) es = sym (append-nil (each_answered es))
verdict_adds m r (Refused outcome) es = refl
verdict_adds m r (Posted account teller branch) es = refl

read_adds : ℕ → Result RequestFields Bad → (ℕ → Option Terms) → List ClosingRow → List DecidedRequest → List DecidedRequest
read_adds m (Err fault) o runs es = []
read_adds m (Ok r) o runs es = added_by m r (case_of (facts o runs es r) r)

record_adds : (m : ℕ) (read : Result RequestFields Bad) (o : ℕ → Option Terms) (runs : List ClosingRow) (es : List DecidedRequest)
    → each_answered (with_record m read o runs es) ≡ each_answered es ++ map answered_of (read_adds m read o runs es)
unfolding read_adds
record_adds m (Err fault) o runs es = sym (append-nil (each_answered es))
record_adds m (Ok r) o runs es = verdict_adds m r (case_of (facts o runs es r) r) es

-- ---- what posts add

added : List Command → List Command → List AnsweredRequest
added log [] = []
added log (Open b terms ∷ cs) = added (Open b terms ∷ log) cs
added log (Close first last ∷ cs) = added (Close first last ∷ log) cs
added log (Post m bytes ∷ cs) =
    map answered_of (read_adds m (request_of bytes) (λ b. opened log b) (closings log) (decided log)) ++ added (Post m bytes ∷ log) cs

answered_split : (log cs : List Command)
    → each_answered (decided (followed_by log cs)) ≡ each_answered (decided log) ++ added log cs
unfolding added
answered_split log [] = sym (append-nil (each_answered (decided log)))
answered_split log (Open b terms ∷ cs) = answered_split (Open b terms ∷ log) cs
answered_split log (Close first last ∷ cs) = answered_split (Close first last ∷ log) cs
answered_split log (Post m bytes ∷ cs) =
    answered_split (Post m bytes ∷ log) cs
    ∙ ap (λ l. l ++ added (Post m bytes ∷ log) cs) (record_adds m (request_of bytes) (λ b. opened log b) (closings log) (decided log))
    ∙ append_assoc (each_answered (decided log))
    (map answered_of (read_adds m (request_of bytes) (λ b. opened log b) (closings log) (decided log))) (added (Post m bytes ∷ log) cs)

answered_length : (es : List DecidedRequest) → length (each_answered es) ≡ length es
answered_length [] = refl
answered_length (e ∷ es) =
    let earlier = answered_length es in
    omega (arith, earlier, length-append (each_answered es) (answered_of e ∷ []))

drop_front : {X : Type 0} (xs ys : List X) (n : ℕ) → length xs ≡ n → drop n (xs ++ ys) ≡ ys
drop_front xs ys n is =
    drop-append-le n xs ys (omega (arith, is)) ∙ ap (λ l. l ++ ys) (drop_all n xs (omega (arith, is)))

since_is : (log cs : List Command) → records_since (length (decided log)) (followed_by log cs) ≡ map record_of (added log cs)
since_is log cs =
    ap (map record_of)
    (ap (drop (length (decided log))) (answered_split log cs)
    ∙ drop_front (each_answered (decided log)) (added log cs) (length (decided log)) (answered_length (decided log)))

-- ---- posted again

-- the same verdict on both
verdict_alike : (m m' : ℕ) (r : RequestFields) (v : Verdict) (es es' : List DecidedRequest)
    → map unmoved es ≡ map unmoved es' → map unmoved (with_verdict m r v es) ≡ map unmoved (with_verdict m' r v es')
verdict_alike m m' r (Unkept outcome) es es' same = same
verdict_alike m m' r (Again first) es es' same = same
verdict_alike m m' r (Refused outcome) es es' same = ap (λ l. unmoved (refused_entry m r outcome) ∷ l) same
verdict_alike m m' r (Posted account teller branch) es es' same = ap (λ l. unmoved (posted_entry m r account) ∷ l) same

abbrev head_of : List ℕ → List (List ℕ) → List ℕ
head_of d [] = d
head_of d (x ∷ xs) = x

abbrev tail_of : List (List ℕ) → List (List ℕ)
tail_of [] = []
tail_of (x ∷ xs) = xs

-- Both logs so far are alike, and these posts are to come.
record Goes (log other : List Command) (cs ds : List Command) : Type 0 where
  same : map unmoved (decided log) ≡ map unmoved (decided other)
  opens : (b : ℕ) → opened log b ≡ opened other b
  closes : ClosesNoMore log other
  are : AreCommands cs
  posts : ArePosts cs
  again : ArePosts ds

-- what a record adds that was read as a request
record_is : (m : ℕ) (bytes : List ℕ) (log : List Command) (r : RequestFields) (v : Verdict) → request_of bytes ≡ Ok r
    → case_of (facts (λ b. opened log b) (closings log) (decided log) r) r ≡ v
    → decided (Post m bytes ∷ log) ≡ with_verdict m r v (decided log)
record_is m bytes log r v read is =
    ap (λ (x : Result RequestFields Bad). with_record m x (λ b. opened log b) (closings log) (decided log)) read
    ∙ ap (λ x. with_verdict m r x (decided log)) is

module _ (m : ℕ) (bytes : List ℕ) (log other cs ds : List Command) (goes : Goes log other (Post m bytes ∷ cs) ds)
    (rest : (later more : List Command) → Goes (Post m bytes ∷ log) later cs more
    → posted_records more ≡ map record_of (added (Post m bytes ∷ log) cs)
    → map unmoved (decided (followed_by (Post m bytes ∷ log) cs)) ≡ map unmoved (decided (followed_by later more))) where
  -- nothing was decided
  none_more : decided (Post m bytes ∷ log) ≡ decided log
      → posted_records ds ≡ map record_of (added (Post m bytes ∷ log) cs)
      → map unmoved (decided (followed_by (Post m bytes ∷ log) cs)) ≡ map unmoved (decided (followed_by other ds))
  none_more none records = rest other ds (record {
    same = ap (map unmoved) none ∙ goes.same;
    opens = goes.opens;
    closes = goes.closes;
    are = goes.are.1;
    posts = goes.posts;
    again = goes.again;
  }) records

  module _ (r : RequestFields) (v : Verdict) (read : request_of bytes ≡ Ok r)
      (is : case_of (facts (λ b. opened log b) (closings log) (decided log) r) r ≡ v) where
    -- the request was, so that the first hadn't closed its number
    one_more : (x : AnsweredRequest) → record_of x ≡ request_spelling r
        → books_of (closings log) r.teller r.number ≡ Current → (ds' : List Command) → ds ≡ ds'
        → posted_records ds' ≡ record_of x ∷ map record_of (added (Post m bytes ∷ log) cs)
        → map unmoved (decided (followed_by (Post m bytes ∷ log) cs)) ≡ map unmoved (decided (followed_by other ds'))
    one_more x own current [] same records = absurd cc
    one_more x own current (Open b terms ∷ more) same records = absurd (subst ArePosts same goes.again)
    one_more x own current (Close first last ∷ more) same records = absurd (subst ArePosts same goes.again)
    one_more x own current (Post m' bytes' ∷ more) same records =
        let first : bytes' ≡ record_of x = ap (head_of bytes') records in
        let taken = request_takes r bytes goes.are.0.1 read in
        let equal : bytes' ≡ bytes = first ∙ own ∙ sym taken.0 in
        let reads : request_of bytes' ≡ Ok r = ap request_of equal ∙ read in
        let judged : case_of (facts (λ b. opened other b) (closings other) (decided other) r) r ≡ v =
        sym (ap (λ (f : Found). case_of f r)
        (facts_alike (λ b. opened log b) (λ b. opened other b) (closings log) (closings other) (decided log) (decided other) r
        goes.opens (current ∙ sym (goes.closes r.teller r.number current)) goes.same)) ∙ is in
        rest (Post m' bytes' ∷ other) more (record {
          same = ap (map unmoved) (record_is m bytes log r v read is)
              ∙ verdict_alike m m' r v (decided log) (decided other) goes.same
              ∙ sym (ap (map unmoved) (record_is m' bytes' other r v reads judged));
          opens = goes.opens;
          closes = goes.closes;
          are = goes.are.1;
          posts = goes.posts;
          again = subst ArePosts same goes.again;
        }) (ap tail_of records)

  is_of_books : (r : RequestFields) (v : Verdict) → case_of (facts (λ b. opened log b) (closings log) (decided log) r) r ≡ v
      → IsOfBooks (books_of (closings log) r.teller r.number) v
  is_of_books r v is =
      subst (IsOfBooks (books_of (closings log) r.teller r.number)) is
      (of_books (facts (λ b. opened log b) (closings log) (decided log) r) r)

  posted_more : (r : RequestFields) (v : Verdict) → request_of bytes ≡ Ok r
      → case_of (facts (λ b. opened log b) (closings log) (decided log) r) r ≡ v
      → posted_records ds ≡ map record_of (map answered_of (added_by m r v) ++ added (Post m bytes ∷ log) cs)
      → map unmoved (decided (followed_by (Post m bytes ∷ log) cs)) ≡ map unmoved (decided (followed_by other ds))
  unfolding added_by
  posted_more r (Unkept outcome) read is records = none_more (record_is m bytes log r (Unkept outcome) read is) records
  posted_more r (Again first) read is records = none_more (record_is m bytes log r (Again first) read is) records
  posted_more r (Refused outcome) read is records =
      one_more r (Refused outcome) read is (answered_of (refused_entry m r outcome)) refl
      (is_of_books r (Refused outcome) is) ds refl records
  posted_more r (Posted account teller branch) read is records =
      one_more r (Posted account teller branch) read is (answered_of (posted_entry m r account)) refl
      (is_of_books r (Posted account teller branch) is) ds refl records

  read_more : (read : Result RequestFields Bad) → request_of bytes ≡ read
      → posted_records ds ≡ map record_of (map answered_of (read_adds m read (λ b. opened log b) (closings log) (decided log))
      ++ added (Post m bytes ∷ log) cs)
      → map unmoved (decided (followed_by (Post m bytes ∷ log) cs)) ≡ map unmoved (decided (followed_by other ds))
  unfolding read_adds
  read_more (Err fault) is records =
      none_more (ap (λ (x : Result RequestFields Bad). with_record m x (λ b. opened log b) (closings log) (decided log)) is) records
  read_more (Ok r) is records = posted_more r (case_of (facts (λ b. opened log b) (closings log) (decided log) r) r) is refl records

again_alike : (cs log other ds : List Command) → Goes log other cs ds
    → posted_records ds ≡ map record_of (added log cs)
    → map unmoved (decided (followed_by log cs)) ≡ map unmoved (decided (followed_by other ds))
unfolding added
again_alike [] log other [] goes records = goes.same
again_alike [] log other (Open b terms ∷ more) goes records = absurd goes.again
again_alike [] log other (Close first last ∷ more) goes records = absurd goes.again
again_alike [] log other (Post m bytes ∷ more) goes records = absurd cc
again_alike (Open b terms ∷ cs) log other ds goes records = absurd goes.posts
again_alike (Close first last ∷ cs) log other ds goes records = absurd goes.posts
again_alike (Post m bytes ∷ cs) log other ds goes records =
    read_more m bytes log other cs ds goes
    (λ later more on also. again_alike cs (Post m bytes ∷ log) later more on also)
    (request_of bytes) refl records

-- posts open no branch
opened_same : (cs log : List Command) → ArePosts cs → (b : ℕ) → opened (followed_by log cs) b ≡ opened log b
opened_same [] log posts b = refl
opened_same (Open x terms ∷ cs) log posts b = absurd posts
opened_same (Close first last ∷ cs) log posts b = absurd posts
opened_same (Post m bytes ∷ cs) log posts b = opened_same cs (Post m bytes ∷ log) posts b

pub gives_back : GivesBack
gives_back first second posted again alike closes are posts others records = record {
  requests = again_alike posted first second again
      (record { same = alike.requests; opens = alike.branches; closes = closes; are = are; posts = posts; again = others })
      (records ∙ since_is first posted);
  branches = λ b. opened_same posted first posts b ∙ alike.branches b ∙ sym (opened_same again second others b);
}
