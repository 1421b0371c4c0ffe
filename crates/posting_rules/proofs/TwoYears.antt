-- New books that carry on old ones decide as one bank that never closed its books.
use Rattle.std.proofs.Common.{◌≡◌, ◌≤◌, ◌<◌, ◌+◌, ℕ, suc, Bool, true, false, cond, eqb, leb, List, [], ◌∷◌, ◌++◌, length}
use Rattle.std.proofs.Common.{Option, Some, None, Result, Ok, Err, refl, sym, ap, subst, ◌∙◌, arith, inl, inr}
use Rattle.std.specs.Prelude.{ℤ, ◌+ℤ◌, is_some, ◌&&◌, ◌||◌, ◌≢◌}
use Rattle.std.proofs.lemmas.Bool.{Decides.nat_tests}
use mathlib.Core.Path.{fun_ext}
use Rattle.message_records.specs.declared.fault.Bad.{Bad}
use Rattle.message_records.specs.declared.limits.TheConstants.{MAX_NUMBER}
use Rattle.message_records.specs.believed.{Records.RequestFields, Reading.request_of}
use Rattle.message_records.specs.Records.{IsRequest}
use Rattle.message_records.proofs.Requests.{read_in_range}
use Rattle.posting_rules.specs.declared.{limits.TheConstants.MAX_DECIDED, rows.ClosingRow.ClosingRow}
use Rattle.posting_rules.specs.declared.judgments.{Books.Books, Found.Found, Verdict.Verdict}
use Rattle.posting_rules.specs.declared.judgments.Books.TheVariants.{Current, Closed, Sealed}
use Rattle.posting_rules.specs.declared.judgments.Verdict.TheVariants.{Unkept, Again, Refused, Posted}
use Rattle.posting_rules.specs.believed.Cases.{case_of, teller_case, known_case, books_case, new_case, reply_in}
use Rattle.posting_rules.specs.believed.Closings.{books_of, closed, closings, is_closed_in}
use Rattle.posting_rules.specs.believed.ClosedBooks.{used, Carries, ComeAfter, IsRefusedForGood, IsUnsealed, NoneOfDesk}
use Rattle.posting_rules.specs.believed.ClosedBooks.{RefusesUsed, StandAlike}
use Rattle.posting_rules.specs.believed.Commands.{Command, Open, Post, Close, AreCommands, number_key, opened, Terms}
use Rattle.posting_rules.specs.believed.Commands.{is_account_open, is_teller_open}
use Rattle.posting_rules.specs.believed.Entries.{DecidedRequest, account_balance, branch_balance, decided, facts, is_posted}
use Rattle.posting_rules.specs.believed.Entries.{kept, posted_entry, posted_sum, refused_entry, reply}
use Rattle.posting_rules.specs.believed.Entries.{reply_given, teller_balance, with_record, with_verdict}
use Rattle.posting_rules.specs.believed.Kept.{KeptFields}
use Rattle.posting_rules.specs.believed.Numbering.{branch_of_teller}
use Rattle.posting_rules.specs.believed.Runs.{ArePosts, followed_by}
use Rattle.posting_rules.proofs.{AsStated.replied, Keyed.by_test}
use Rattle.posting_rules.proofs.Verdicts.{IsOfBooks, IsVerdict, of_books, verdict_is}

-- ---- numbers that were used

abbrev used_in : List ClosingRow → List DecidedRequest → ℕ → ℕ → Bool
used_in runs es t n = is_some (kept es t n) || is_closed_in runs (number_key t n)

abbrev is_for : ℕ → ℕ → DecidedRequest → Bool
is_for t n e = (eqb e.request.teller t) && (eqb e.request.number n)

-- one request more leaves what was used
still_used : (runs : List ClosingRow) (es : List DecidedRequest) (e : DecidedRequest) (t n : ℕ)
    → used_in runs es t n ≡ true → used_in runs (e ∷ es) t n ≡ true
still_used runs es e t n h = elim (by_test (is_for t n e)) [ inl p ↦ rw p refl | inr f ↦ rw f h ]

closed_is_other : (runs : List ClosingRow) (t n : ℕ) → is_closed_in runs (number_key t n) ≡ true
    → books_of runs t n ≡ Current → ⊥
closed_is_other runs t n h e = absurd (let g = rw h at e in cc)

-- a request whose number was used isn't decided
used_stays : (opened : ℕ → Option Terms) (runs : List ClosingRow) (es : List DecidedRequest) (m : ℕ)
    (r : RequestFields) → used_in runs es r.teller r.number ≡ true
    → with_record m (Ok r) opened runs es ≡ es
used_stays opened runs es m r h =
    let f = facts opened runs es r in
    by_verdict (case_of f r) (verdict_is opened runs es r) (of_books f r)
  where
    closed_by : kept es r.teller r.number ≡ None → is_closed_in runs (number_key r.teller r.number) ≡ true
    closed_by none = let g = rw none at h in g

    by_verdict : (v : Verdict) → IsVerdict opened es r v → IsOfBooks (books_of runs r.teller r.number) v
        → with_verdict m r v es ≡ es
    by_verdict (Unkept o) is of_them = refl
    by_verdict (Again a) is of_them = refl
    by_verdict (Refused o) is of_them =
        absurd (closed_is_other runs r.teller r.number (closed_by is.new) of_them)
    by_verdict (Posted a t b) is of_them =
        absurd (closed_is_other runs r.teller r.number (closed_by is.new) of_them)

-- ---- one verdict in both

-- how many are decided doesn't matter, as long as there is room
module _ (f : Found) (n : ℕ) (r : RequestFields) (room : f.decided < MAX_DECIDED) (its : n < MAX_DECIDED) where
  abbrev with_count : Found
  with_count = record f { decided = n }

  has_room : (k : ℕ) → k < MAX_DECIDED → leb MAX_DECIDED k ≡ false
  has_room k lt = grind (arith, nat_tests)

  new_same : (t b : ℤ) → new_case f r t b ≡ new_case with_count r t b
  new_same t b = rw (has_room f.decided room, has_room n its) refl

  books_same : (books : Books) (t b : ℤ) → books_case books f r t b ≡ books_case books with_count r t b
  books_same Closed t b = refl
  books_same Sealed t b = refl
  books_same Current t b = new_same t b

  known_same : (k : Option KeptFields) (t b : ℤ) → known_case k f r t b ≡ known_case k with_count r t b
  known_same None t b = books_same f.books t b
  known_same (Some k) t b = refl

  teller_same : (o : Option (ℤ × ℤ)) → teller_case o f r ≡ teller_case o with_count r
  teller_same None = refl
  teller_same (Some z) = known_same f.kept z.0 z.1

  pub count_aside : case_of f r ≡ case_of with_count r
  unfolding case_of
  count_aside = teller_same f.teller

-- ---- the new books beside the one bank

-- a number that was never used is kept in both or in neither, and closed in neither
record IsFresh (us ns : List ClosingRow) (es fs : List DecidedRequest) (t n : ℕ) : Type 0 where
  same : kept fs t n ≡ kept es t n
  in_one : is_closed_in us (number_key t n) ≡ false
  in_new : is_closed_in ns (number_key t n) ≡ false

record Follows (desk : ℕ) (old : List Command) (us ns : List ClosingRow) (es fs : List DecidedRequest) : Type 0 where
  accounts : (a : ℕ) → account_balance fs a ≡ account_balance es a
  tellers : (t : ℕ) → teller_balance fs t ≡ teller_balance es t
  branches : (b : ℕ) → branch_balance fs b ≡ branch_balance es b
  numbers : (t n : ℕ) → 1 ≤ n → n ≤ MAX_NUMBER → used_in us es t n ≡ true → used_in ns fs t n ≡ true
  only : (t n : ℕ) → 1 ≤ n → n ≤ MAX_NUMBER → is_closed_in ns (number_key t n) ≡ true → used_in us es t n ≡ true
  of_old : (t n : ℕ) → 1 ≤ n → n ≤ MAX_NUMBER → used old t n ≡ true → used_in us es t n ≡ true
  fresh : (t n : ℕ) → 1 ≤ n → n ≤ MAX_NUMBER → branch_of_teller t ≢ desk → used old t n ≡ false
      → IsFresh us ns es fs t n
  one_unsealed : is_closed_in us 0 ≡ false
  new_unsealed : is_closed_in ns 0 ≡ false

module _ (desk : ℕ) (old : List Command) (us ns : List ClosingRow) where
  -- both gain a request
  gain : (es fs : List DecidedRequest) (e : DecidedRequest) → Follows desk old us ns es fs
      → Follows desk old us ns (e ∷ es) (e ∷ fs)
  gain es fs e h = record {
    accounts = λ a. sums (λ q. eqb q.account a) (h.accounts a);
    tellers = λ t. sums (λ q. eqb q.teller t) (h.tellers t);
    branches = λ b. sums (λ q. eqb q.branch b) (h.branches b);
    numbers = numbers;
    only = λ t n low high c. still_used us es e t n (h.only t n low high c);
    of_old = λ t n low high u. still_used us es e t n (h.of_old t n low high u);
    fresh = λ t n low high ordinary unused.
        let is = h.fresh t n low high ordinary unused in
        record { same = kept_more t n is.same; in_one = is.in_one; in_new = is.in_new };
    one_unsealed = h.one_unsealed;
    new_unsealed = h.new_unsealed;
  }
    where
      sums : (test : RequestFields → Bool) → posted_sum test fs ≡ posted_sum test es
          → posted_sum test (e ∷ fs) ≡ posted_sum test (e ∷ es)
      sums test same = ap (λ (z : ℤ). cond (is_posted e && test e.request) (z +ℤ e.request.delta) z) same

      kept_more : (t n : ℕ) → kept fs t n ≡ kept es t n → kept (e ∷ fs) t n ≡ kept (e ∷ es) t n
      kept_more t n same = elim (by_test (is_for t n e)) [ inl p ↦ rw p refl | inr f ↦ rw f same ]

      numbers : (t n : ℕ) → 1 ≤ n → n ≤ MAX_NUMBER → used_in us (e ∷ es) t n ≡ true
          → used_in ns (e ∷ fs) t n ≡ true
      numbers t n low high u =
          elim (by_test (is_for t n e)) [
            | inl p ↦ rw p refl
            | inr f ↦ still_used ns fs e t n (h.numbers t n low high (let g = rw f at u in g))
          ]

  gain_verdict : (es fs : List DecidedRequest) (m : ℕ) (r : RequestFields) (v : Verdict)
      → Follows desk old us ns es fs → Follows desk old us ns (with_verdict m r v es) (with_verdict m r v fs)
  gain_verdict es fs m r (Unkept o) h = h
  gain_verdict es fs m r (Again a) h = h
  gain_verdict es fs m r (Refused o) h = gain es fs (refused_entry m r o) h
  gain_verdict es fs m r (Posted a t b) h = gain es fs (posted_entry m r a) h

  -- what one record leaves follows, and what it is replied is the same where its number was never used
  record IsStep (opened : ℕ → Option Terms) (es fs : List DecidedRequest) (m : ℕ)
      (read : Result RequestFields Bad) : Type 0 where
    after : Follows desk old us ns (with_record m read opened us es) (with_record m read opened ns fs)
    one_reply : (r : RequestFields) → read ≡ Ok r → used old r.teller r.number ≡ false
        → reply_given read opened ns fs ≡ reply_given read opened us es
    in_one : (r : RequestFields) → read ≡ Ok r → used old r.teller r.number ≡ true
        → with_record m read opened us es ≡ es
    in_new : (r : RequestFields) → read ≡ Ok r → used old r.teller r.number ≡ true
        → with_record m read opened ns fs ≡ fs

  module _ (opened : ℕ → Option Terms) (es fs : List DecidedRequest) (h : Follows desk old us ns es fs)
      (room : length es < MAX_DECIDED) (its : length fs < MAX_DECIDED) where
    -- a request whose number was never used gets one verdict
    one_verdict : (r : RequestFields) → 1 ≤ r.number → r.number ≤ MAX_NUMBER → branch_of_teller r.teller ≢ desk
        → used old r.teller r.number ≡ false
        → case_of (facts opened ns fs r) r ≡ case_of (facts opened us es r) r
    one_verdict r low high ordinary unused =
        let is = h.fresh r.teller r.number low high ordinary unused in
        ap (λ (f : Found). case_of f r) (found r is) ∙ sym (count_aside (facts opened us es r) (length fs) r room its)
      where
        made : (a a' : Option (ℤ × ℤ)) (k k' : Option KeptFields) (c c' : Books) (n : ℕ) (b b' l : Option ℤ)
            → a ≡ a' → k ≡ k' → c ≡ c' → b ≡ b'
            → (let f : Found = record { teller = a; kept = k; books = c; decided = n; account = b; floor = l } in f) ≡
            record { teller = a'; kept = k'; books = c'; decided = n; account = b'; floor = l }
        made a a' k k' c c' n b b' l ea ek ec eb = rw (ea, ek, ec, eb) refl

        books : (r : RequestFields) → IsFresh us ns es fs r.teller r.number
            → books_of ns r.teller r.number ≡ books_of us r.teller r.number
        books r is = rw (is.in_new, is.in_one, h.one_unsealed, h.new_unsealed) refl

        found : (r : RequestFields) → IsFresh us ns es fs r.teller r.number
            → facts opened ns fs r ≡ record (facts opened us es r) { decided = length fs }
        found r is =
            made _ _ _ _ _ _ _ _ _ _
            (ap (λ (z : ℤ). cond (is_teller_open opened r.teller)
            (Some (z, branch_balance fs (branch_of_teller r.teller))) None) (h.tellers r.teller)
            ∙ ap (λ (z : ℤ). cond (is_teller_open opened r.teller) (Some (teller_balance es r.teller, z)) None)
            (h.branches (branch_of_teller r.teller)))
            is.same (books r is)
            (ap (λ (z : ℤ). cond (is_account_open opened r.account) (Some z) None) (h.accounts r.account))

    step : (m : ℕ) (read : Result RequestFields Bad)
        → ((r : RequestFields) → read ≡ Ok r → IsRequest r × (branch_of_teller r.teller ≢ desk)) → IsStep opened es fs m read
    step m (Err fault) ordinary = record {
      after = h;
      one_reply = λ r e. absurd cc;
      in_one = λ r e. absurd cc;
      in_new = λ r e. absurd cc;
    }
    step m (Ok r) ordinary =
        let it = ordinary r refl in
        elim (by_test (used old r.teller r.number)) [
          | inl u ↦
              let in_one = used_stays opened us es m r
              (h.of_old r.teller r.number it.0.number_above it.0.number u) in
              let in_new = used_stays opened ns fs m r
              (h.numbers r.teller r.number it.0.number_above it.0.number
              (h.of_old r.teller r.number it.0.number_above it.0.number u)) in
              record {
                after = subst (λ (x : List DecidedRequest). Follows desk old us ns x (with_record m (Ok r) opened ns fs))
                    (sym in_one) (subst (λ (x : List DecidedRequest). Follows desk old us ns es x) (sym in_new) h);
                one_reply = λ q e unused. absurd (
                    let is : r ≡ q = cc in
                    let f = subst (λ (x : RequestFields). used old x.teller x.number ≡ false) (sym is) unused in
                    let g = sym u ∙ f in cc);
                in_one = λ q e _. in_one;
                in_new = λ q e _. in_new;
              }
          | inr f ↦
              let same = one_verdict r it.0.number_above it.0.number it.1 f in
              let v = case_of (facts opened us es r) r in
              record {
                after = subst (λ (w : Verdict). Follows desk old us ns (with_verdict m r v es) (with_verdict m r w fs))
                    (sym same) (gain_verdict es fs m r v h);
                one_reply = λ q e unused. ap (λ (w : Verdict). reply_in w r) same;
                in_one = λ q e u. absurd (
                    let is : r ≡ q = cc in
                    let t = subst (λ (x : RequestFields). used old x.teller x.number ≡ true) (sym is) u in
                    let g = sym t ∙ f in cc);
                in_new = λ q e u. absurd (
                    let is : r ≡ q = cc in
                    let t = subst (λ (x : RequestFields). used old x.teller x.number ≡ true) (sym is) u in
                    let g = sym t ∙ f in cc);
              }
        ]

-- ---- over records

-- what is open, closed and decided in both, and that there is room for so many records more
record Goes (desk : ℕ) (old one new : List Command) (more : ℕ) : Type 0 where
  opens : ◌≡◌ {A = ℕ → Option Terms} (λ b. opened new b) (λ b. opened one b)
  follows : Follows desk old (closings one) (closings new) (decided one) (decided new)
  room : (length (decided one) + more) ≤ MAX_DECIDED
  its_room : (length (decided new) + more) ≤ MAX_DECIDED

one_at_most : (m : ℕ) (r : RequestFields) (v : Verdict) (es : List DecidedRequest)
    → length (with_verdict m r v es) ≤ suc (length es)
one_at_most m r (Unkept o) es = omega arith
one_at_most m r (Again a) es = omega arith
one_at_most m r (Refused o) es = omega arith
one_at_most m r (Posted a t b) es = omega arith

one_record : (m : ℕ) (read : Result RequestFields Bad) (opened : ℕ → Option Terms) (runs : List ClosingRow)
    (es : List DecidedRequest) → length (with_record m read opened runs es) ≤ suc (length es)
one_record m (Err fault) opened runs es = omega arith
one_record m (Ok r) opened runs es = one_at_most m r (case_of (facts opened runs es r) r) es

module _ (desk : ℕ) (old : List Command) where
  abbrev Next : List Command → List Command → ℕ → List ℕ → Type 0
  Next one new m bytes = IsStep desk old (closings one) (closings new) (λ b. opened one b) (decided one) (decided new)
      m (request_of bytes)

  ordinary_read : (m : ℕ) (bytes : List ℕ) (cs : List Command) → AreCommands (Post m bytes ∷ cs)
      → NoneOfDesk desk (Post m bytes ∷ cs) → (r : RequestFields) → request_of bytes ≡ Ok r
      → IsRequest r × (branch_of_teller r.teller ≢ desk)
  ordinary_read m bytes cs are none r read = (read_in_range bytes r are.0.1 read, none.0 r read)

  module _ (one new : List Command) (m : ℕ) (bytes : List ℕ) (more : ℕ) (g : Goes desk old one new (suc more))
      (ordinary : (r : RequestFields) → request_of bytes ≡ Ok r → IsRequest r × (branch_of_teller r.teller ≢ desk)) where
    next : Next one new m bytes
    next =
        step desk old (closings one) (closings new) (λ b. opened one b) (decided one) (decided new) g.follows
        (let room = g.room in omega arith) (let room = g.its_room in omega arith) m (request_of bytes) ordinary

    go_on : Goes desk old (Post m bytes ∷ one) (Post m bytes ∷ new) more
    go_on =
        let opened_one = λ (b : ℕ). opened one b in
        let few = one_record m (request_of bytes) opened_one (closings one) (decided one) in
        let its_few = one_record m (request_of bytes) (λ b. opened new b) (closings new) (decided new) in
        record {
          opens = g.opens;
          follows = subst (λ (o : ℕ → Option Terms). Follows desk old (closings one) (closings new)
              (with_record m (request_of bytes) opened_one (closings one) (decided one))
              (with_record m (request_of bytes) o (closings new) (decided new))) (sym g.opens) next.after;
          room = let room = g.room in omega arith;
          its_room = let room = g.its_room in omega arith;
        }

  walk : (one new cs : List Command) (more : ℕ) → ArePosts cs → AreCommands cs → NoneOfDesk desk cs
      → Goes desk old one new (length cs + more) → Goes desk old (followed_by one cs) (followed_by new cs) more
  walk one new [] more posts are none g = subst (Goes desk old one new) (omega arith) g
  walk one new (Open b terms ∷ cs) more posts are none g = absurd posts
  walk one new (Close first last ∷ cs) more posts are none g = absurd posts
  walk one new (Post m bytes ∷ cs) more posts are none g =
      let count : length (Post m bytes ∷ cs) + more ≡ suc (length cs + more) = omega arith in
      walk (Post m bytes ∷ one) (Post m bytes ∷ new) cs more posts are.1 none.1
      (go_on one new m bytes (length cs + more) (subst (Goes desk old one new) count g)
      (ordinary_read m bytes cs are none))

  -- what is so of records is so of those before one of them, and of it
  record AreSplit (before rest : List Command) : Type 0 where
    posts : ArePosts before
    commands : AreCommands before
    ordinary : NoneOfDesk desk before
    its_commands : AreCommands rest
    its_ordinary : NoneOfDesk desk rest

  split : (before rest : List Command) → ArePosts (before ++ rest) → AreCommands (before ++ rest)
      → NoneOfDesk desk (before ++ rest) → AreSplit before rest
  split [] rest posts are none = record {
    posts = tt;
    commands = tt;
    ordinary = tt;
    its_commands = are;
    its_ordinary = none;
  }
  split (Open b terms ∷ before) rest posts are none = absurd posts
  split (Close first last ∷ before) rest posts are none = absurd posts
  split (Post m bytes ∷ before) rest posts are none =
      let s = split before rest posts are.1 none.1 in
      record {
        posts = s.posts;
        commands = (are.0, s.commands);
        ordinary = (none.0, s.ordinary);
        its_commands = s.its_commands;
        its_ordinary = s.its_ordinary;
      }

  counted : (before : List Command) (c : Command) (after : List Command)
      → length (before ++ c ∷ after) ≡ length before + suc (length after)
  counted [] c after = omega arith
  counted (x ∷ before) c after = let rest = counted before c after in omega arith

  module _ (new one : List Command) (carries : Carries desk old new) (un : IsUnsealed old one) where
    used_same : (t n : ℕ) → 1 ≤ n → n ≤ MAX_NUMBER → used one t n ≡ used old t n
    used_same t n low high =
        ap (λ (es : List DecidedRequest). is_some (kept es t n) || closed one t n) un.requests
        ∙ ap (λ (b : Bool). is_some (kept (decided old) t n) || b) (un.numbers t n low high)

    -- a number that neither has used
    unused_parts : (a b : Bool) → (a || b) ≡ false → (a ≡ false) × (b ≡ false)
    unused_parts false b e = (refl, e)
    unused_parts true b e = absurd cc

    none_kept : (o : Option KeptFields) → is_some o ≡ false → o ≡ None
    none_kept None e = refl
    none_kept (Some k) e = absurd cc

    fresh : (t n : ℕ) → 1 ≤ n → n ≤ MAX_NUMBER → branch_of_teller t ≢ desk → used old t n ≡ false
        → IsFresh (closings one) (closings new) (decided one) (decided new) t n
    fresh t n low high ordinary unused =
        let parts = unused_parts (is_some (kept (decided old) t n)) (closed old t n) unused in
        let in_old = none_kept (kept (decided old) t n) parts.0 in
        let in_new : is_some (kept (decided new) t n) ≡ false =
        elim (by_test (is_some (kept (decided new) t n))) [
          | inl k ↦ absurd (elim (carries.desk_alone t n low high k) [
            | inl its ↦ ordinary its
            | inr u ↦ let g = sym u ∙ unused in absurd cc
          ])
          | inr f ↦ f
        ] in
        record {
          same = none_kept (kept (decided new) t n) in_new
              ∙ sym (ap (λ (es : List DecidedRequest). kept es t n) un.requests ∙ in_old);
          in_one = un.numbers t n low high ∙ parts.1;
          in_new = elim (by_test (closed new t n)) [
            | inl c ↦ absurd (let g = sym (carries.refuses.only t n low high c) ∙ unused in cc)
            | inr f ↦ f
          ];
        }

    start : (cs : List Command) (more : ℕ) → (length (decided one) + more) ≤ MAX_DECIDED
        → (length (decided new) + more) ≤ MAX_DECIDED → Goes desk old one new more
    start cs more room its_room =
        let stand = carries.stand in
        let same = sym un.requests in
        record {
          opens = fun_ext (λ b. stand.terms b ∙ sym (un.terms b));
          follows = record {
            accounts = λ a. stand.accounts a ∙ ap (λ (es : List DecidedRequest). account_balance es a) same;
            tellers = λ t. stand.tellers t ∙ ap (λ (es : List DecidedRequest). teller_balance es t) same;
            branches = λ b. stand.branches b ∙ ap (λ (es : List DecidedRequest). branch_balance es b) same;
            numbers = λ t n low high u. carries.refuses.numbers t n low high (sym (used_same t n low high) ∙ u);
            only = λ t n low high c. used_same t n low high ∙ carries.refuses.only t n low high c;
            of_old = λ t n low high u. used_same t n low high ∙ u;
            fresh = fresh;
            one_unsealed = un.unsealed;
            new_unsealed = carries.new_unsealed;
          };
          room = room;
          its_room = its_room;
        }

closed_by : (runs : List ClosingRow) (es : List DecidedRequest) (t n : ℕ) → used_in runs es t n ≡ true
    → kept es t n ≡ None → is_closed_in runs (number_key t n) ≡ true
closed_by runs es t n h none = let g = rw none at h in g

pub two_years : (desk : ℕ) (old new one cs before after : List Command) (m : ℕ) (bytes : List ℕ) (r : RequestFields)
    → Carries desk old new → IsUnsealed old one → ComeAfter desk one new cs
    → cs ≡ before ++ Post m bytes ∷ after → request_of bytes ≡ Ok r
    → (used old r.teller r.number ≡ true
    → IsRefusedForGood (followed_by one before) (followed_by new before) m bytes r)
    × (used old r.teller r.number ≡ false
    → reply (followed_by new before) bytes ≡ reply (followed_by one before) bytes)
two_years desk old new one cs before after m bytes r carries un come is read =
    let rest = Post m bytes ∷ after in
    let s = split desk old before rest (subst ArePosts is come.posts) (subst AreCommands is come.commands)
    (subst (NoneOfDesk desk) is come.ordinary) in
    let count = ap length is ∙ counted desk old before (Post m bytes) after in
    let first = start desk old new one carries un cs (length before + suc (length after))
    (subst (λ (k : ℕ). (length (decided one) + k) ≤ MAX_DECIDED) count come.room_in_one)
    (subst (λ (k : ℕ). (length (decided new) + k) ≤ MAX_DECIDED) count come.room_in_new) in
    let g = walk desk old one new before (suc (length after)) s.posts s.commands s.ordinary first in
    let u = followed_by one before in
    let n = followed_by new before in
    let ordinary = ordinary_read desk old m bytes after s.its_commands s.its_ordinary in
    let it = next desk old u n m bytes (length after) g ordinary in
    let range = (ordinary r read).0 in (
      (λ h. record {
        in_one = it.in_one r read h;
        in_new = subst (λ (o : ℕ → Option Terms).
            with_record m (request_of bytes) o (closings n) (decided n) ≡ decided n) (sym g.opens) (it.in_new r read h);
        refused = λ up none.
            let used_now = g.follows.numbers r.teller r.number range.number_above range.number
            (g.follows.of_old r.teller r.number range.number_above range.number h) in
            (replied n bytes).closed_number r (record { read = read; teller = up }) none
            (closed_by (closings n) (decided n) r.teller r.number used_now none);
      }),
      (λ h. subst (λ (o : ℕ → Option Terms).
          reply_given (request_of bytes) o (closings n) (decided n) ≡ reply u bytes) (sym g.opens)
          (it.one_reply r read h)),
    )

pub still_carries : (desk : ℕ) (old new one cs : List Command) → Carries desk old new → IsUnsealed old one
    → ComeAfter desk one new cs
    → StandAlike (followed_by one cs) (followed_by new cs) × RefusesUsed (followed_by one cs) (followed_by new cs)
still_carries desk old new one cs carries un come =
    let count : length cs ≡ length cs + 0 = omega arith in
    let first = start desk old new one carries un cs (length cs + 0)
    (subst (λ (k : ℕ). (length (decided one) + k) ≤ MAX_DECIDED) count come.room_in_one)
    (subst (λ (k : ℕ). (length (decided new) + k) ≤ MAX_DECIDED) count come.room_in_new) in
    let g = walk desk old one new cs 0 come.posts come.commands come.ordinary first in (
      record {
        terms = λ b. ap (λ (o : ℕ → Option Terms). o b) g.opens;
        accounts = g.follows.accounts;
        tellers = g.follows.tellers;
        branches = g.follows.branches;
      },
      record { numbers = g.follows.numbers; only = g.follows.only },
    )
