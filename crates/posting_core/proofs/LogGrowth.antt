-- A log that is followed by entries: its entries, and then those that were new.
use Rattle.std.proofs.Common.{◌≡◌, ◌<◌, ◌⊎◌, ◌++◌, ◌&&◌, ℕ, Bool, true, false, cond, List, [], ◌∷◌, length, map}
use Rattle.std.proofs.Common.{take, drop, Option, Some, None, Ok, refl, sym, ap, subst, ◌∙◌, append-nil, inl, inr}
use Rattle.std.proofs.Common.{append_assoc}
use Rattle.std.specs.Prelude.{◌==◌, ◌||◌, is_some, option_and_then, option_map, Result}
use Rattle.std.specs.List.{AllByRecursion, find, list_any}
use Rattle.std.specs.Int.{to_be_bytes, w64}
use Rattle.std.proofs.lemmas.{Bool.Decides.leb_tells, Bool.cases_Bool, List.map-append, List.take_at, List.Folds.list_any-append}
use Rattle.message_records.specs.{declared.fault.Bad.Bad, declared.records.Outcome.Outcome}
use Rattle.message_records.specs.declared.records.Outcome.TheVariants as outcome
use Rattle.message_records.specs.believed.{Outcomes.code_of, Outcomes.has_balance, Outcomes.outcome_with}
use Rattle.message_records.specs.believed.{Reading.number_of, Reading.request_of, Records.ReplyFields}
use Rattle.message_records.specs.believed.{Records.RequestFields, Spelling.digits, Spelling.reply_spelling}
use Rattle.message_records.specs.believed.Spelling.{request_spelling}
use Rattle.message_records.proofs.{Digits.length-digits, Digits.number_of-digits, Requests.request_again}
use Rattle.message_records.proofs.SpelledReplies.{code_below, outcome_with-code}
use Rattle.posting_rules.specs.declared.limits.TheConstants.{MAX_DECIDED}
use Rattle.posting_rules.specs.Stated.{AddsEntry, IsDecided, Names}
use Rattle.posting_rules.specs.believed.{Cases.kept_reply, Commands.Command, Commands.Open, Commands.Post, Commands.Close}
use Rattle.posting_rules.specs.believed.{Commands.Terms, Commands.is_teller_open, Commands.opened, Entries.decided}
use Rattle.posting_rules.specs.believed.{Entries.DecidedRequest, Entries.is_posted, Entries.kept, Entries.kept_fields}
use Rattle.posting_rules.specs.believed.{Entries.reply, Kept.KeptFields, Runs.followed_by, Runs.replies_to}
use Rattle.posting_rules.proofs.AsStated.{decides, replied}
use Rattle.posting_core.specs.Entries.{ArePostsOf, IsEntry, IsMomentOf, is_kept, knows, new_after, record_text}
use Rattle.posting_core.specs.Entries.{reply_text, request_in, requests_of}
use Rattle.posting_core.specs.believed.LogEntries.{AnsweredRequest, answered_after, answered_of, each_answered, entries_of}
use Rattle.posting_core.specs.believed.LogEntries.{entry_of, log_entries}
use Rattle.posting_rules.specs.believed.Closings.{closed, sealed}

-- ---- the outcome in a reply's bytes

outcome_said : (y : ReplyFields)
    → option_and_then outcome_with (number_of (take 2 (drop 4 (reply_spelling y)))) ≡ Some y.outcome
unfolding reply_spelling
outcome_said y =
    ap (λ (t : List ℕ). option_and_then outcome_with (number_of t))
    (take_at (digits 2 (code_of y.outcome)) _ 2 (length-digits 2 (code_of y.outcome)))
    ∙ ap (option_and_then outcome_with) (number_of-digits 2 (code_of y.outcome) (code_below y.outcome))
    ∙ outcome_with-code y.outcome

some_same : {A : Type 0} (x y : A) → (let one : Option A = Some x in one) ≡ Some y → x ≡ y
some_same x y is = cc

outcome_same : (y z : ReplyFields) → reply_spelling y ≡ reply_spelling z → y.outcome ≡ z.outcome
outcome_same y z same =
    some_same y.outcome z.outcome (sym (outcome_said y)
    ∙ ap (λ (t : List ℕ). option_and_then outcome_with (number_of (take 2 (drop 4 t)))) same
    ∙ outcome_said z)

-- a reply that isn't kept isn't an entry's
never : (y z : ReplyFields) (o : Outcome) → reply_spelling y ≡ reply_spelling z → y.outcome ≡ o
    → is_kept z.outcome ≡ true → is_kept o ≡ false → ⊥
never y z o same is kept not_kept =
    let all : is_kept o ≡ true = ap is_kept (sym is ∙ outcome_same y z same) ∙ kept in
    cc

-- ---- what is kept is known

test : ℕ → ℕ → RequestFields → Bool
test t n k = (k.teller == t) && (k.number == n)

one_known : (b c : Bool) → (b || (c || false)) ≡ (c || b)
one_known true true = refl
one_known true false = refl
one_known false true = refl
one_known false false = refl

some_found : (b : Bool) (e : DecidedRequest) (x : Option DecidedRequest)
    → is_some (option_map kept_fields (cond b (Some e) x)) ≡ (b || is_some (option_map kept_fields x))
some_found true e x = refl
some_found false e x = refl

knows_kept : (t n : ℕ) (es : List DecidedRequest)
    → list_any (λ k. (k.teller == t) && (k.number == n)) (map request_in (each_answered es)) ≡ is_some (kept es t n)
knows_kept t n [] = refl
knows_kept t n (e ∷ es) =
    let p = λ (k : RequestFields). (k.teller == t) && (k.number == n) in
    ap (list_any p) (map-append request_in (each_answered es) (answered_of e ∷ []))
    ∙ list_any-append p (map request_in (each_answered es)) (e.request ∷ [])
    ∙ ap (λ (b : Bool). b || (p e.request || false)) (knows_kept t n es)
    ∙ one_known (is_some (kept es t n)) (p e.request)
    ∙ sym (some_found (p e.request) e (find (λ d. (d.request.teller == t) && (d.request.number == n)) es))

none_known : (log : List Command) (r : RequestFields) → kept (decided log) r.teller r.number ≡ None
    → knows (requests_of log) r ≡ false
none_known log r is = knows_kept r.teller r.number (decided log) ∙ ap is_some is

some_known : (log : List Command) (r : RequestFields) (k : KeptFields)
    → kept (decided log) r.teller r.number ≡ Some k → knows (requests_of log) r ≡ true
some_known log r k is = knows_kept r.teller r.number (decided log) ∙ ap is_some is

cases_kept : (x : Option KeptFields) → (x ≡ None) ⊎ ((k : KeptFields) × (x ≡ Some k))
cases_kept None = inl refl
cases_kept (Some k) = inr (k, refl)

-- ---- one entry more

one_request : (r s : RequestFields) → (let one : Result RequestFields Bad = Ok r in one) ≡ Ok s → r ≡ s
one_request r s is = cc

moment_is : (b : Bool) (m n a : ℕ) → m ≡ n → (b ≡ true → n ≡ a) → ((b ≡ true) ⊎ (a ≡ 0)) → cond b m 0 ≡ a
moment_is true m n a same at zero = same ∙ at refl
moment_is false m n a same at (inl is) = absurd cc
moment_is false m n a same at (inr zero) = sym zero

entry_same : (a b : AnsweredRequest) → a.request ≡ b.request → reply_spelling a.reply ≡ reply_spelling b.reply
    → a.moment ≡ b.moment → entry_of a ≡ entry_of b
entry_same a b request reply moment =
    ap (λ (r : RequestFields). request_spelling r ++ (reply_spelling a.reply ++ to_be_bytes w64 a.moment)) request
    ∙ ap (λ (t : List ℕ). request_spelling b.request ++ (t ++ to_be_bytes w64 a.moment)) reply
    ∙ ap (λ (m : ℕ). request_spelling b.request ++ (reply_spelling b.reply ++ to_be_bytes w64 m)) moment

module _ (log : List Command) (m : ℕ) (bytes : List ℕ) (a : AnsweredRequest) (is : IsEntry a)
    (same : bytes ≡ record_text a) (at : IsMomentOf a m)
    (replies : reply_spelling (reply log bytes) ≡ reply_text a) where
  read : request_of bytes ≡ Ok a.request
  read = request_again a.request bytes is.request same

  is_open : is_teller_open (λ b. opened log b) a.request.teller ≡ true
  is_open = elim (cases_Bool (is_teller_open (λ b. opened log b) a.request.teller)) [
    | inl t ↦ t
    | inr f ↦ absurd (never (reply log bytes) a.reply outcome.NoTeller replies
        (ap (λ (y : ReplyFields). y.outcome) ((replied log bytes).no_teller a.request read f)) is.kept refl)
  ]

  names : Names log bytes a.request
  names = record { read = read; teller = is_open }

  -- it was kept already
  decided_again : (k : KeptFields) → kept (decided log) a.request.teller a.request.number ≡ Some k
      → decided (Post m bytes ∷ log) ≡ decided log
  decided_again k known =
      (decides log m bytes).otherwise (λ r new.
      let one : r ≡ a.request = one_request r a.request (sym new.names.read ∙ read) in
      let none : kept (decided log) a.request.teller a.request.number ≡ None =
      ap (λ (s : RequestFields). kept (decided log) s.teller s.number) (sym one) ∙ new.new in
      cc)

  module _ (none : kept (decided log) a.request.teller a.request.number ≡ None) where
    unclosed : closed log a.request.teller a.request.number ≡ false
    unclosed = elim (cases_Bool (closed log a.request.teller a.request.number)) [
      | inl c ↦ absurd (never (reply log bytes) a.reply outcome.Closed replies
          (ap (λ (y : ReplyFields). y.outcome) ((replied log bytes).closed_number a.request names none c)) is.kept refl)
      | inr c ↦ c
    ]

    unsealed : sealed log ≡ false
    unsealed = elim (cases_Bool (sealed log)) [
      | inl s ↦ absurd (never (reply log bytes) a.reply outcome.Sealed replies
          (ap (λ (y : ReplyFields). y.outcome) ((replied log bytes).sealed_books a.request names none unclosed s)) is.kept
          refl)
      | inr s ↦ s
    ]

    room : length (decided log) < MAX_DECIDED
    room = elim (leb_tells MAX_DECIDED (length (decided log))) [
      | inl full ↦ absurd (never (reply log bytes) a.reply outcome.Full replies
          (ap (λ (y : ReplyFields). y.outcome) ((replied log bytes).full a.request names none unclosed unsealed full.1)) is.kept
          refl)
      | inr less ↦ less.1
    ]

    new_is : IsDecided log bytes a.request
    new_is = record { names = names; new = none; unclosed = unclosed; unsealed = unsealed; room = room }

    added : (e : DecidedRequest) × AddsEntry log m bytes a.request e
    added = (decides log m bytes).where_decided a.request new_is

    -- it is the last of the log
    answered_more : answered_after (Post m bytes ∷ log) ≡ answered_after log ++ answered_of added.0 ∷ []
    answered_more = ap each_answered added.1.adds

    outcome_is : added.0.outcome ≡ a.reply.outcome
    outcome_is =
        sym (ap (λ (y : ReplyFields). y.outcome) added.1.replied) ∙ outcome_same (reply log bytes) a.reply replies

    entry_is : entry_of (answered_of added.0) ≡ entry_of a
    entry_is =
        entry_same (answered_of added.0) a added.1.of_request
        (ap (λ (r : RequestFields). reply_spelling (kept_reply (kept_fields added.0) r)) added.1.of_request
        ∙ ap reply_spelling (sym added.1.replied) ∙ replies)
        (moment_is (is_posted added.0) added.0.moment m a.moment added.1.at_moment
        (λ posted. at (ap has_balance (sym outcome_is) ∙ posted))
        (subst (λ (o : Outcome). (has_balance o ≡ true) ⊎ (a.moment ≡ 0)) (sym outcome_is) is.zero))

-- ---- all of them

skipped : (b : Bool) (x y : List AnsweredRequest) → b ≡ true → cond b x y ≡ x
skipped true x y is = refl
skipped false x y is = absurd cc

taken_in : (b : Bool) (x y : List AnsweredRequest) → b ≡ false → cond b x y ≡ y
taken_in true x y is = absurd cc
taken_in false x y is = refl

head_same : (x y : List ℕ) (xs ys : List (List ℕ)) → x ∷ xs ≡ y ∷ ys → x ≡ y
head_same x y xs ys is = cc

tail_same : (x y : List ℕ) (xs ys : List (List ℕ)) → x ∷ xs ≡ y ∷ ys → xs ≡ ys
tail_same x y xs ys is = cc

-- the entries of the log, and those of these that are new
pub log_grows : (planned : ℕ → Option Terms) (commands : List Command) (log : List Command)
    (entries : List AnsweredRequest)
    → AllByRecursion IsEntry entries → ArePostsOf planned entries commands
    → replies_to log commands ≡ map reply_text entries
    → log_entries (followed_by log commands)
    ≡ log_entries log ++ entries_of (new_after (requests_of log) entries)
log_grows planned [] log entries are posts replies =
    sym (append-nil (log_entries log))
    ∙ ap (λ (l : List AnsweredRequest). log_entries log ++ entries_of (new_after (requests_of log) l)) (sym posts)
log_grows planned (Open branch terms ∷ cs) log entries are posts replies =
    log_grows planned cs (Open branch terms ∷ log) entries are posts.1 replies
log_grows planned (Close first last ∷ cs) log entries are posts replies = absurd posts
log_grows planned (Post m bytes ∷ cs) log [] are posts replies = absurd posts
log_grows planned (Post m bytes ∷ cs) log (a ∷ more) are posts replies =
    let first : reply_spelling (reply log bytes) ≡ reply_text a = head_same _ _ _ _ replies in
    let later = log_grows planned cs (Post m bytes ∷ log) more are.1 posts.2 (tail_same _ _ _ _ replies) in
    elim (cases_kept (kept (decided log) a.request.teller a.request.number)) [
      | inl none ↦
          let e = (added log m bytes a are.0 posts.0 posts.1 first none).0 in
          let known = answered_more log m bytes a are.0 posts.0 posts.1 first none in
          let request : requests_of (Post m bytes ∷ log) ≡ requests_of log ++ a.request ∷ [] =
          ap (map request_in) known ∙ map-append request_in (answered_after log) (answered_of e ∷ [])
          ∙ ap (λ (r : RequestFields). requests_of log ++ r ∷ [])
          (added log m bytes a are.0 posts.0 posts.1 first none).1.of_request in
          later
          ∙ ap (λ (l : List AnsweredRequest). entries_of l ++ entries_of (new_after (requests_of (Post m bytes ∷ log)) more))
          known
          ∙ ap (λ (l : List (List ℕ)). l ++ entries_of (new_after (requests_of (Post m bytes ∷ log)) more))
          (map-append entry_of (answered_after log) (answered_of e ∷ []))
          ∙ ap (λ (t : List ℕ). (log_entries log ++ t ∷ []) ++ entries_of (new_after (requests_of (Post m bytes ∷ log)) more))
          (entry_is log m bytes a are.0 posts.0 posts.1 first none)
          ∙ append_assoc (log_entries log) (entry_of a ∷ [])
          (entries_of (new_after (requests_of (Post m bytes ∷ log)) more))
          ∙ ap (λ (l : List RequestFields). log_entries log ++ (entry_of a ∷ entries_of (new_after l more))) request
          ∙ ap (λ (l : List AnsweredRequest). log_entries log ++ entries_of l)
          (sym (taken_in (knows (requests_of log) a.request) (new_after (requests_of log) more)
          (a ∷ new_after (requests_of log ++ a.request ∷ []) more) (none_known log a.request none)))
      | inr some ↦
          let again = decided_again log m bytes a are.0 posts.0 posts.1 first some.0 some.1 in
          later
          ∙ ap (λ (es : List DecidedRequest). entries_of (each_answered es)
          ++ entries_of (new_after (map request_in (each_answered es)) more)) again
          ∙ ap (λ (l : List AnsweredRequest). log_entries log ++ entries_of l)
          (sym (skipped (knows (requests_of log) a.request) (new_after (requests_of log) more)
          (a ∷ new_after (requests_of log ++ a.request ∷ []) more) (some_known log a.request some.0 some.1)))
    ]
