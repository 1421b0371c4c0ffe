-- What a bank decided after some commands has numbers that weren't closed by then.
use Rattle.std.proofs.Common.{◌≡◌, ◌≤◌, ◌++◌, ◌∙◌, ℕ, zero, suc, true, false, List, [], ◌∷◌, length, drop, Result, Ok, Err}
use Rattle.std.proofs.Common.{refl, sym, ap, subst, append-nil, inl, inr, arith}
use Rattle.std.specs.{List.AllByRecursion}
use Rattle.std.proofs.lemmas.List.{append_assoc}
use Rattle.message_records.specs.declared.{fault.Bad.Bad}
use Rattle.message_records.specs.believed.{Reading.request_of, Records.RequestFields}
use Rattle.posting_rules.specs.declared.{judgments.Verdict.Verdict, rows.ClosingRow.ClosingRow}
use Rattle.posting_rules.specs.declared.judgments.Books.TheVariants.{Current}
use Rattle.posting_rules.specs.declared.judgments.Verdict.TheVariants.{Again, Posted, Refused, Unkept}
use Rattle.posting_rules.specs.believed.Cases.{case_of}
use Rattle.posting_rules.specs.believed.Closings.{books_of, closings, is_closed_in}
use Rattle.posting_rules.specs.believed.Commands.{Close, Command, Open, Post, number_key, opened}
use Rattle.posting_rules.specs.believed.Entries.{DecidedRequest, decided, facts, posted_entry, refused_entry, with_record}
use Rattle.posting_rules.specs.believed.Entries.{with_verdict}
use Rattle.posting_rules.specs.believed.Runs.{followed_by}
use Rattle.posting_rules.proofs.{Closings.current_parts, Keyed.by_test, SealedBooks.stays_closed}
use Rattle.posting_rules.proofs.Verdicts.{IsOfBooks, of_books}
use Rattle.posting_core.specs.believed.LogEntries.{AnsweredRequest, answered_after, answered_of, each_answered}
use Rattle.posting_core.proofs.LogPlaces.{length-answered}
use Rattle.bank_lives.specs.Machines.{LaterAreCurrent}

-- ---- fewer closed numbers

abbrev ClosesWithin : (some all : List ClosingRow) → Type 0
ClosesWithin some all = (x : ℕ) → is_closed_in some x ≡ true → is_closed_in all x ≡ true

current_within : (some all : List ClosingRow) → ClosesWithin some all → (t n : ℕ) → books_of all t n ≡ Current
    → books_of some t n ≡ Current
current_within some all within t n current =
    let parts = current_parts all t n current in
    rw (unclosed (number_key t n) parts.0, unclosed 0 parts.1) refl
  where
    unclosed : (x : ℕ) → is_closed_in all x ≡ false → is_closed_in some x ≡ false
    unclosed x f = elim (by_test (is_closed_in some x)) [
      | inl t ↦ absurd (let g = sym (within x t) ∙ f in cc)
      | inr f ↦ f
    ]

-- ---- what is decided later

abbrev IsCurrent : List ClosingRow → DecidedRequest → Type 0
IsCurrent runs e = books_of runs e.request.teller e.request.number ≡ Current

-- some requests more were decided, and none of their numbers is closed by these runs
record Grows (runs : List ClosingRow) (es later : List DecidedRequest) : Type 0 where
  more : List DecidedRequest
  all : later ≡ more ++ es
  current : AllByRecursion (IsCurrent runs) more

module _ (runs : List ClosingRow) (es : List DecidedRequest) where
  one_more : (later : List DecidedRequest) (e : DecidedRequest) → IsCurrent runs e → Grows runs es later
      → Grows runs es (e ∷ later)
  one_more later e is grows = record {
    more = e ∷ grows.more;
    all = ap (λ (l : List DecidedRequest). e ∷ l) grows.all;
    current = (is, grows.current);
  }

  module _ (log : List Command) (within : ClosesWithin runs (closings log)) (grows : Grows runs es (decided log)) where
    by_verdict : (m : ℕ) (r : RequestFields) (v : Verdict) → IsOfBooks (books_of (closings log) r.teller r.number) v
        → Grows runs es (with_verdict m r v (decided log))
    by_verdict m r (Unkept o) of_them = grows
    by_verdict m r (Again a) of_them = grows
    by_verdict m r (Refused o) of_them =
        one_more (decided log) (refused_entry m r o)
        (current_within runs (closings log) within r.teller r.number of_them) grows
    by_verdict m r (Posted a t b) of_them =
        one_more (decided log) (posted_entry m r a)
        (current_within runs (closings log) within r.teller r.number of_them) grows

    by_record : (m : ℕ) (read : Result RequestFields Bad)
        → Grows runs es (with_record m read (λ b. opened log b) (closings log) (decided log))
    by_record m (Err fault) = grows
    by_record m (Ok r) =
        let found = facts (λ b. opened log b) (closings log) (decided log) r in
        by_verdict m r (case_of found r) (of_books found r)

  grown : (log later : List Command) → ClosesWithin runs (closings log) → Grows runs es (decided log)
      → Grows runs es (decided (followed_by log later))
  grown log [] within grows = grows
  grown log (Open b terms ∷ cs) within grows = grown (Open b terms ∷ log) cs within grows
  grown log (Post m bytes ∷ cs) within grows =
      grown (Post m bytes ∷ log) cs within (by_record log within grows m (request_of bytes))
  grown log (Close first last ∷ cs) within grows =
      grown (Close first last ∷ log) cs (λ x t. stays_closed log (Close first last) x (within x t)) grows

-- ---- the requests after the first so many

answered-append : (more es : List DecidedRequest) → each_answered (more ++ es) ≡ each_answered es ++ each_answered more
answered-append [] es = sym (append-nil (each_answered es))
answered-append (e ∷ more) es =
    ap (λ (l : List AnsweredRequest). l ++ answered_of e ∷ []) (answered-append more es)
    ∙ append_assoc (each_answered es) (each_answered more) (answered_of e ∷ [])

module _ (P : AnsweredRequest → Type 0) where
  all_more : (xs : List AnsweredRequest) (x : AnsweredRequest) → AllByRecursion P xs → P x
      → AllByRecursion P (xs ++ x ∷ [])
  all_more [] x all one = (one, tt)
  all_more (y ∷ xs) x all one = (all.0, all_more xs x all.1 one)

  each_as_answered : (es : List DecidedRequest) → AllByRecursion (λ e. P (answered_of e)) es
      → AllByRecursion P (each_answered es)
  each_as_answered [] all = tt
  each_as_answered (e ∷ es) all = all_more (each_answered es) (answered_of e) (each_as_answered es all.1) all.0

  all_dropped : (n : ℕ) (xs : List AnsweredRequest) → AllByRecursion P xs → AllByRecursion P (drop n xs)
  all_dropped zero xs all = all
  all_dropped (suc n) [] all = tt
  all_dropped (suc n) (x ∷ xs) all = all_dropped n xs all.1

  all_past : (n : ℕ) (xs ys : List AnsweredRequest) → length xs ≤ n → AllByRecursion P ys
      → AllByRecursion P (drop n (xs ++ ys))
  all_past n [] ys few all = all_dropped n ys all
  all_past zero (x ∷ xs) ys few all = absurd (omega (arith, few))
  all_past (suc n) (x ∷ xs) ys few all = all_past n xs ys (omega (arith, few)) all

pub later_are_current : LaterAreCurrent
later_are_current leader follower n began =
    let runs = closings began.start in
    let es = decided began.start in
    let grows = grown runs es began.start began.later (λ x t. t) (record { more = []; all = refl; current = tt }) in
    let all = each_as_answered (λ a. books_of runs a.request.teller a.request.number ≡ Current) grows.more grows.current in
    let past = all_past (λ a. books_of runs a.request.teller a.request.number ≡ Current) n (each_answered es)
    (each_answered grows.more) (subst (λ (k : ℕ). k ≤ n) (sym (length-answered es)) began.few) all in
    let whole : each_answered es ++ each_answered grows.more ≡ answered_after leader =
    sym (answered-append grows.more es) ∙ ap each_answered (sym grows.all)
    ∙ ap (λ (l : List Command). answered_after l) (sym began.is) in
    let P : AnsweredRequest → Type 0 = λ a. books_of (closings follower) a.request.teller a.request.number ≡ Current in
    subst (λ (l : List AnsweredRequest). AllByRecursion P (drop n l)) whole
    (all_so (λ a. books_of runs a.request.teller a.request.number ≡ Current) P
    (λ a current. current_within (closings follower) runs began.closed a.request.teller a.request.number current)
    (drop n (each_answered es ++ each_answered grows.more)) past)
  where
    all_so : (P Q : AnsweredRequest → Type 0) → ((a : AnsweredRequest) → P a → Q a) → (xs : List AnsweredRequest)
        → AllByRecursion P xs → AllByRecursion Q xs
    all_so P Q so [] all = tt
    all_so P Q so (x ∷ xs) all = (so x all.0, all_so P Q so xs all.1)
