-- A follower answers again what it has, and keeps what is sent to it again.
use Rattle.std.proofs.Common.{◌≡◌, ◌⊎◌, ◌≤◌, ◌<◌, ◌+◌, ◌++◌, ◌&&◌, ◌∙◌, ℕ, Bool, true, false, cond, eqb, List, [], ◌∷◌}
use Rattle.std.proofs.Common.{take, drop, length, Option, Some, None, Result, Ok, Err, refl, sym, ap, subst, inl, inr, arith}
use Rattle.std.specs.Prelude.{option_map}
use Rattle.std.specs.{List.AllByRecursion, List.find}
use Rattle.std.proofs.lemmas.{Bool.and_parts, Bool.cases_Bool, Bool.eq-eqb, Bool.eqb-true, List.take-map}
use Rattle.std.proofs.lemmas.List.{drop_at, take-append-drop, take_at}
use Rattle.std.specs.Int.{to_be_bytes, w64}
use Rattle.message_records.specs.{Records.IsRequest, declared.fault.Bad.Bad}
use Rattle.message_records.specs.believed.{Reading.request_of, Records.RequestFields}
use Rattle.message_records.specs.believed.Spelling.{reply_spelling, request_spelling}
use Rattle.message_records.proofs.{Prefixes.length-reply, Prefixes.length-request, Requests.request_again}
use Rattle.posting_rules.specs.Stated.{HasContent, Names}
use Rattle.posting_rules.specs.declared.{judgments.Verdict.Verdict, limits.TheConstants.MAX_DECIDED}
use Rattle.posting_rules.specs.declared.judgments.Verdict.TheVariants.{Again, Posted, Refused, Unkept}
use Rattle.posting_rules.specs.believed.{Cases.case_of, Commands.AreCommands, Commands.Command, Commands.Open}
use Rattle.posting_rules.specs.believed.Commands.{Close, Post, Terms, is_teller_open, opened}
use Rattle.posting_rules.specs.believed.Entries.{DecidedRequest, decided, facts, kept, kept_fields, reply, with_record}
use Rattle.posting_rules.specs.believed.Entries.{with_verdict}
use Rattle.posting_rules.specs.believed.{Kept.KeptFields, Runs.ArePosts, Runs.followed_by}
use Rattle.posting_rules.proofs.{AsStated.decides, AsStated.replied, NamedOpen.teller_stays}
use Rattle.posting_rules.proofs.SettledReplies.{closed_case}
use Rattle.posting_rules.proofs.SoundEntries.{AreSound, are_sound}
use Rattle.posting_rules.proofs.Verdicts.{IsVerdict, verdict_is}
use Rattle.posting_core.specs.Entries.{reply_text}
use Rattle.posting_core.specs.believed.LogEntries.{AnsweredRequest, answered_after, answered_of, each_answered, entries_of}
use Rattle.posting_core.specs.believed.LogEntries.{entry_of}
use Rattle.posting_core.specs.believed.Stream.{posted_records}
use Rattle.bank_lives.specs.Machines.{AreSentOn, ComesFirst, Follows, IsAnsweredAgain, KeepsRequest}
use Rattle.posting_rules.specs.declared.rows.ClosingRow.{ClosingRow}
use Rattle.posting_rules.specs.believed.Closings.{books_of, closings}
use Rattle.posting_rules.specs.declared.judgments.Books.TheVariants.{Current}
use Rattle.posting_rules.proofs.Closings.{current_parts}

-- ---- what holds of each

all_more : {X : Type 0} (P : X → Type 0) (xs : List X) (x : X) → AllByRecursion P xs → P x
    → AllByRecursion P (xs ++ x ∷ [])
all_more P [] x all one = (one, tt)
all_more P (y ∷ xs) x all one = (all.0, all_more P xs x all.1 one)

all_less : {X : Type 0} (P : X → Type 0) (xs : List X) (x : X) → AllByRecursion P (xs ++ x ∷ [])
    → AllByRecursion P xs × P x
all_less P [] x all = (tt, all.0)
all_less P (y ∷ xs) x all = let rest = all_less P xs x all.1 in ((all.0, rest.0), rest.1)

all_both : {X : Type 0} (P : X → Type 0) (xs ys : List X) → AllByRecursion P xs → AllByRecursion P ys
    → AllByRecursion P (xs ++ ys)
all_both P [] ys one two = two
all_both P (x ∷ xs) ys one two = (one.0, all_both P xs ys one.1 two)

all_first : {X : Type 0} (P : X → Type 0) (xs ys : List X) → AllByRecursion P (xs ++ ys) → AllByRecursion P xs
all_first P [] ys all = tt
all_first P (x ∷ xs) ys all = (all.0, all_first P xs ys all.1)

all_last : {X : Type 0} (P : X → Type 0) (xs ys : List X) → AllByRecursion P (xs ++ ys) → AllByRecursion P ys
all_last P [] ys all = all
all_last P (x ∷ xs) ys all = all_last P xs ys all.1

all_so : {X : Type 0} (P Q : X → Type 0) → ((x : X) → P x → Q x) → (xs : List X) → AllByRecursion P xs
    → AllByRecursion Q xs
all_so P Q so [] all = tt
all_so P Q so (x ∷ xs) all = (so x all.0, all_so P Q so xs all.1)

all_with : {X : Type 0} (P Q R : X → Type 0) → ((x : X) → P x → Q x → R x) → (xs : List X) → AllByRecursion P xs
    → AllByRecursion Q xs → AllByRecursion R xs
all_with P Q R so [] one two = tt
all_with P Q R so (x ∷ xs) one two = (so x one.0 two.0, all_with P Q R so xs one.1 two.1)

each_as_answered : (P : AnsweredRequest → Type 0) (es : List DecidedRequest)
    → AllByRecursion (λ e. P (answered_of e)) es → AllByRecursion P (each_answered es)
each_as_answered P [] all = tt
each_as_answered P (e ∷ es) all =
    all_more P (each_answered es) (answered_of e) (each_as_answered P es all.1) all.0

each_as_decided : (P : AnsweredRequest → Type 0) (es : List DecidedRequest) → AllByRecursion P (each_answered es)
    → AllByRecursion (λ e. P (answered_of e)) es
each_as_decided P [] all = tt
each_as_decided P (e ∷ es) all =
    let two = all_less P (each_answered es) (answered_of e) all in
    (two.1, each_as_decided P es two.0)

-- ---- a decided request: its teller is open, and it is the one that is kept

module _ (opened : ℕ → Option Terms) where
  abbrev Opens : DecidedRequest → Type 0
  Opens e = is_teller_open opened e.request.teller ≡ true

  verdict_opens : (es : List DecidedRequest) (m : ℕ) (r : RequestFields) (v : Verdict)
      → is_teller_open opened r.teller ≡ true → AllByRecursion Opens es → AllByRecursion Opens (with_verdict m r v es)
  verdict_opens es m r (Unkept o) t all = all
  verdict_opens es m r (Again y) t all = all
  verdict_opens es m r (Refused o) t all = (t, all)
  verdict_opens es m r (Posted x y z) t all = (t, all)

  record_opens : (runs : List ClosingRow) (es : List DecidedRequest) (m : ℕ) (read : Result RequestFields Bad) → AllByRecursion Opens es
      → AllByRecursion Opens (with_record m read opened runs es)
  record_opens runs es m (Err f) all = all
  record_opens runs es m (Ok r) all = elim (cases_Bool (is_teller_open opened r.teller)) [
    | inl t ↦ verdict_opens es m r (case_of (facts opened runs es r) r) t all
    | inr f ↦ subst (λ (v : Verdict). AllByRecursion Opens (with_verdict m r v es)) (sym (closed_case opened runs es r f)) all
  ]

all_open : (log : List Command) → AllByRecursion (Opens (λ b. opened log b)) (decided log)
all_open [] = tt
all_open (Open b terms ∷ log) =
    all_so (Opens (λ x. opened log x)) (Opens (λ x. opened (Open b terms ∷ log) x))
    (λ e is. teller_stays (λ x. opened log x) b terms e.request.teller is) (decided log) (all_open log)
all_open (Close first last ∷ log) = all_open log
all_open (Post m bytes ∷ log) = record_opens (λ b. opened log b) (closings log) (decided log) m (request_of bytes) (all_open log)

-- a request under another number
abbrev Apart : ℕ → ℕ → RequestFields → Type 0
Apart t n x = (eqb x.teller t && eqb x.number n) ≡ false

none_some : {X : Type 0} (x : Option KeptFields) (k : KeptFields) → x ≡ None → x ≡ Some k → X
none_some x k none some = absurd cc

apart_from : (es : List DecidedRequest) (t n : ℕ) (x : RequestFields) (k : KeptFields) → kept es x.teller x.number ≡ None
    → kept es t n ≡ Some k → Apart t n x
apart_from es t n x k none some = elim (cases_Bool (eqb x.teller t && eqb x.number n)) [
  | inl is ↦
      let two = and_parts (eqb x.teller t) (eqb x.number n) is in
      none_some (kept es t n) k
      (ap (λ (i : ℕ). kept es i n) (sym (eqb-true x.teller t two.0))
      ∙ ap (λ (i : ℕ). kept es x.teller i) (sym (eqb-true x.number n two.1)) ∙ none) some
  | inr f ↦ f
]

kept_later : (es : List DecidedRequest) (e : DecidedRequest) (t n : ℕ) → Apart t n e.request
    → kept (e ∷ es) t n ≡ kept es t n
kept_later es e t n apart =
    ap (λ (b : Bool). option_map kept_fields (cond b (Some e) (find (λ d. eqb d.request.teller t && eqb d.request.number n) es)))
    apart

both_true : (a b : Bool) → a ≡ true → b ≡ true → (a && b) ≡ true
both_true true b one two = two
both_true false b one two = absurd cc

kept_now : (es : List DecidedRequest) (e : DecidedRequest) (t n : ℕ) → e.request.teller ≡ t → e.request.number ≡ n
    → kept (e ∷ es) t n ≡ Some (kept_fields e)
kept_now es e t n teller number =
    ap (λ (b : Bool). option_map kept_fields (cond b (Some e) (find (λ d. eqb d.request.teller t && eqb d.request.number n) es)))
    (both_true (eqb e.request.teller t) (eqb e.request.number n) (eq-eqb e.request.teller t teller)
    (eq-eqb e.request.number n number))

-- what is kept stays kept
module _ (opened : ℕ → Option Terms) (runs : List ClosingRow) (es : List DecidedRequest) (t n : ℕ) (k : KeptFields) (is : kept es t n ≡ Some k)
  where
    verdict_keeps : (m : ℕ) (r : RequestFields) (v : Verdict) → IsVerdict opened es r v
        → kept (with_verdict m r v es) t n ≡ Some k
    verdict_keeps m r (Unkept o) h = is
    verdict_keeps m r (Again y) h = is
    verdict_keeps m r (Refused o) h = kept_later es _ t n (apart_from es t n r k h.new is) ∙ is
    verdict_keeps m r (Posted x y z) h = kept_later es _ t n (apart_from es t n r k h.new is) ∙ is

    record_keeps : (m : ℕ) (read : Result RequestFields Bad) → kept (with_record m read opened runs es) t n ≡ Some k
    record_keeps m (Err f) = is
    record_keeps m (Ok r) = verdict_keeps m r (case_of (facts opened runs es r) r) (verdict_is opened runs es r)

stays_kept : (log commands : List Command) (t n : ℕ) (k : KeptFields) → kept (decided log) t n ≡ Some k
    → kept (decided (followed_by log commands)) t n ≡ Some k
stays_kept log [] t n k is = is
stays_kept log (Open b terms ∷ cs) t n k is = stays_kept (Open b terms ∷ log) cs t n k is
stays_kept log (Close first last ∷ cs) t n k is = stays_kept (Close first last ∷ log) cs t n k is
stays_kept log (Post m bytes ∷ cs) t n k is =
    stays_kept (Post m bytes ∷ log) cs t n k
    (record_keeps (λ b. opened log b) (closings log) (decided log) t n k is m (request_of bytes))

-- each decided request is the one that is kept under its number
abbrev IsFound : List DecidedRequest → DecidedRequest → Type 0
IsFound es e = kept es e.request.teller e.request.number ≡ Some (kept_fields e)

module _ (opened : ℕ → Option Terms) (runs : List ClosingRow) (es : List DecidedRequest) (all : AllByRecursion (IsFound es) es) where
  one_more : (e : DecidedRequest) → kept es e.request.teller e.request.number ≡ None
      → AllByRecursion (IsFound (e ∷ es)) (e ∷ es)
  one_more e none = (
    kept_now es e e.request.teller e.request.number refl refl,
    all_so (IsFound es) (IsFound (e ∷ es))
        (λ d is. kept_later es e d.request.teller d.request.number
        (apart_from es d.request.teller d.request.number e.request (kept_fields d) none is) ∙ is) es all,
  )

  verdict_finds : (m : ℕ) (r : RequestFields) (v : Verdict) → IsVerdict opened es r v
      → AllByRecursion (IsFound (with_verdict m r v es)) (with_verdict m r v es)
  verdict_finds m r (Unkept o) h = all
  verdict_finds m r (Again y) h = all
  verdict_finds m r (Refused o) h = one_more _ h.new
  verdict_finds m r (Posted x y z) h = one_more _ h.new

  record_finds : (m : ℕ) (read : Result RequestFields Bad)
      → AllByRecursion (IsFound (with_record m read opened runs es)) (with_record m read opened runs es)
  record_finds m (Err f) = all
  record_finds m (Ok r) = verdict_finds m r (case_of (facts opened runs es r) r) (verdict_is opened runs es r)

all_found : (log : List Command) → AllByRecursion (IsFound (decided log)) (decided log)
all_found [] = tt
all_found (Open b terms ∷ log) = all_found log
all_found (Close first last ∷ log) = all_found log
all_found (Post m bytes ∷ log) =
    record_finds (λ b. opened log b) (closings log) (decided log) (all_found log) m (request_of bytes)

all_requests : (es : List DecidedRequest) → AreSound es → AllByRecursion (λ e. IsRequest e.request) es
all_requests [] sound = tt
all_requests (e ∷ es) sound = (sound.0.request, all_requests es sound.2)

-- ---- what a log keeps

same_content : (e : DecidedRequest) → HasContent (kept_fields e) e.request
same_content e = record { account = refl; branch = refl; delta = refl; reference = refl }

-- a request that a log keeps, as it came
pub record IsKeptRequest (log : List Command) (a : AnsweredRequest) : Type 0 where
  pub request : IsRequest a.request
  pub keeps : KeepsRequest log a.request

one_request : (r s : RequestFields) → (let one : Result RequestFields Bad = Ok r in one) ≡ Ok s → r ≡ s
one_request r s is = cc

no_kept : (k : KeptFields) → (let some : Option KeptFields = Some k in some) ≡ None → ⊥
no_kept k is = cc

module _ (log : List Command) (are : AreCommands log) where
  answers : (e : DecidedRequest) → IsRequest e.request → Opens (λ b. opened log b) e → IsFound (decided log) e
      → IsAnsweredAgain log (answered_of e)
  answers e is open_teller found =
      let bytes = request_spelling e.request in
      let read = request_again e.request bytes is refl in
      let names : Names log bytes e.request = record { read = read; teller = open_teller } in
      record {
        replied = ap reply_spelling ((replied log bytes).again e.request (kept_fields e) names found (same_content e));
        once = λ m. (decides log m bytes).otherwise (λ r new.
            let one : r ≡ e.request = one_request r e.request (sym new.names.read ∙ read) in
            no_kept (kept_fields e) (sym found
            ∙ ap (λ (s : RequestFields). kept (decided log) s.teller s.number) (sym one) ∙ new.new));
      }

  requests : AllByRecursion (λ e. IsRequest e.request) (decided log)
  requests = all_requests (decided log) (are_sound log are)

  pub all_answered : AllByRecursion (IsAnsweredAgain log) (answered_after log)
  all_answered =
      each_as_answered (IsAnsweredAgain log) (decided log)
      (all_with (λ e. IsRequest e.request × Opens (λ b. opened log b) e) (IsFound (decided log))
      (λ e. IsAnsweredAgain log (answered_of e)) (λ e two found. answers e two.0 two.1 found) (decided log)
      (all_with (λ e. IsRequest e.request) (Opens (λ b. opened log b))
      (λ e. IsRequest e.request × Opens (λ b. opened log b) e) (λ e one two. (one, two)) (decided log) requests
      (all_open log))
      (all_found log))

  pub all_kept : AllByRecursion (IsKeptRequest log) (answered_after log)
  all_kept =
      each_as_answered (IsKeptRequest log) (decided log)
      (all_with (λ e. IsRequest e.request) (IsFound (decided log)) (λ e. IsKeptRequest log (answered_of e))
      (λ e is found. record { request = is; keeps = (kept_fields e, found, same_content e) }) (decided log) requests
      (all_found log))

-- what is found under a number is one of those that are decided
found_or_none : (Q : DecidedRequest → Type 0) (es : List DecidedRequest) (t n : ℕ) → AllByRecursion Q es
    → (kept es t n ≡ None)
    ⊎ ((e : DecidedRequest) × Q e × (kept es t n ≡ Some (kept_fields e)) × (e.request.teller ≡ t) × (e.request.number ≡ n))
found_or_none Q [] t n all = inl refl
found_or_none Q (e ∷ es) t n all = elim (cases_Bool (eqb e.request.teller t && eqb e.request.number n)) [
  | inl is ↦
      let two = and_parts (eqb e.request.teller t) (eqb e.request.number n) is in
      let teller = eqb-true e.request.teller t two.0 in
      let number = eqb-true e.request.number n two.1 in
      inr (e, all.0, kept_now es e t n teller number, teller, number)
  | inr apart ↦ elim (found_or_none Q es t n all.1) [
    | inl none ↦ inl (kept_later es e t n apart ∙ none)
    | inr some ↦ inr (some.0, some.1, kept_later es e t n apart ∙ some.2, some.3, some.4)
  ]
]

-- ---- a request that is sent

-- it is decided where it is new
now_kept : (log : List Command) (m : ℕ) (r : RequestFields) → IsRequest r
    → is_teller_open (λ b. opened log b) r.teller ≡ true → length (decided log) < MAX_DECIDED
    → books_of (closings log) r.teller r.number ≡ Current
    → kept (decided log) r.teller r.number ≡ None → KeepsRequest (Post m (request_spelling r) ∷ log) r
now_kept log m r is open_teller room current none =
    let books = current_parts (closings log) r.teller r.number current in
    let names : Names log (request_spelling r) r =
    record { read = request_again r (request_spelling r) is refl; teller = open_teller } in
    let added = (decides log m (request_spelling r)).where_decided r
    (record { names = names; new = none; unclosed = books.0; unsealed = books.1; room = room }) in
    let e = added.0 in (
      kept_fields e,
      ap (λ (es : List DecidedRequest). kept es r.teller r.number) added.1.adds
          ∙ kept_now (decided log) e r.teller r.number (ap (λ (x : RequestFields). x.teller) added.1.of_request)
          (ap (λ (x : RequestFields). x.number) added.1.of_request),
      subst (HasContent (kept_fields e)) added.1.of_request (same_content e),
    )

-- a record of another number leaves it new, and adds one at most
module _ (opened : ℕ → Option Terms) (runs : List ClosingRow) (es : List DecidedRequest) (t n : ℕ) (none : kept es t n ≡ None) where
  verdict_leaves : (m : ℕ) (r : RequestFields) (v : Verdict) → Apart t n r → kept (with_verdict m r v es) t n ≡ None
  verdict_leaves m r (Unkept o) apart = none
  verdict_leaves m r (Again y) apart = none
  verdict_leaves m r (Refused o) apart = kept_later es _ t n apart ∙ none
  verdict_leaves m r (Posted x y z) apart = kept_later es _ t n apart ∙ none

  record_leaves : (m : ℕ) (read : Result RequestFields Bad)
      → ((x : RequestFields) → read ≡ Ok x → x.teller ≡ t → x.number ≡ n → ⊥)
      → kept (with_record m read opened runs es) t n ≡ None
  record_leaves m (Err f) other = none
  record_leaves m (Ok r) other =
      verdict_leaves m r (case_of (facts opened runs es r) r) (elim (cases_Bool (eqb r.teller t && eqb r.number n)) [
        | inl is ↦
            let two = and_parts (eqb r.teller t) (eqb r.number n) is in
            absurd (other r refl (eqb-true r.teller t two.0) (eqb-true r.number n two.1))
        | inr f ↦ f
      ])

one_at_most : (opened : ℕ → Option Terms) (runs : List ClosingRow) (es : List DecidedRequest) (m : ℕ) (read : Result RequestFields Bad)
    → length (with_record m read opened runs es) ≤ length es + 1
one_at_most opened runs es m (Err f) = omega arith
one_at_most opened runs es m (Ok r) = by (case_of (facts opened runs es r) r)
  where
    by : (v : Verdict) → length (with_verdict m r v es) ≤ length es + 1
    by (Unkept o) = omega arith
    by (Again y) = omega arith
    by (Refused o) = omega arith
    by (Posted x y z) = omega arith

sent_is_kept : (log sent : List Command) (r : RequestFields) → IsRequest r → ArePosts sent
    → ComesFirst r (posted_records sent) → is_teller_open (λ b. opened log b) r.teller ≡ true
    → length (decided log) + length sent ≤ MAX_DECIDED → books_of (closings log) r.teller r.number ≡ Current
    → (kept (decided log) r.teller r.number ≡ None) ⊎ KeepsRequest log r → KeepsRequest (followed_by log sent) r
sent_is_kept log sent r is posts comes open_teller room current (inr has) =
    (has.0, stays_kept log sent r.teller r.number has.0 has.1, has.2)
sent_is_kept log [] r is posts comes open_teller room current (inl none) = absurd comes
sent_is_kept log (Open b terms ∷ cs) r is posts comes open_teller room current (inl none) = absurd posts
sent_is_kept log (Close first last ∷ cs) r is posts comes open_teller room current (inl none) = absurd posts
sent_is_kept log (Post m bytes ∷ cs) r is posts (inl same) open_teller room current (inl none) =
    let now = now_kept log m r is open_teller (omega (arith, room)) current none in
    let has : KeepsRequest (Post m bytes ∷ log) r =
    subst (λ (text : List ℕ). KeepsRequest (Post m text ∷ log) r) (sym same) now in
    (has.0, stays_kept (Post m bytes ∷ log) cs r.teller r.number has.0 has.1, has.2)
sent_is_kept log (Post m bytes ∷ cs) r is posts (inr later) open_teller room current (inl none) =
    let few = one_at_most (λ b. opened log b) (closings log) (decided log) m (request_of bytes) in
    sent_is_kept (Post m bytes ∷ log) cs r is posts later.1 open_teller (omega (arith, room, few)) current
    (inl (record_leaves (λ b. opened log b) (closings log) (decided log) r.teller r.number none m (request_of bytes) later.0))

-- ---- entries that are the same

one_head : (x y : List ℕ) (xs ys : List (List ℕ)) → x ∷ xs ≡ y ∷ ys → x ≡ y
one_head x y xs ys is = cc

one_tail : (x y : List ℕ) (xs ys : List (List ℕ)) → x ∷ xs ≡ y ∷ ys → xs ≡ ys
one_tail x y xs ys is = cc

-- two of which have the same bytes
pub record IsSame (a b : AnsweredRequest) : Type 0 where
  pub request : a.request ≡ b.request
  pub replied : reply_text a ≡ reply_text b

split : (x y a b : List ℕ) → length x ≡ length a → x ++ y ≡ a ++ b → (x ≡ a) × (y ≡ b)
split x y a b long same = (
  sym (take_at x y (length x) refl) ∙ ap (take (length x)) same ∙ take_at a b (length x) (sym long),
  sym (drop_at x y (length x) refl) ∙ ap (drop (length x)) same ∙ drop_at a b (length x) (sym long),
)

entries_same : (a b : AnsweredRequest) → IsRequest a.request → IsRequest b.request → entry_of a ≡ entry_of b → IsSame a b
entries_same a b one two same =
    let outer = split (request_spelling a.request) (reply_spelling a.reply ++ to_be_bytes w64 a.moment)
    (request_spelling b.request) (reply_spelling b.reply ++ to_be_bytes w64 b.moment)
    (length-request a.request one ∙ sym (length-request b.request two)) same in
    let inner = split (reply_spelling a.reply) (to_be_bytes w64 a.moment) (reply_spelling b.reply)
    (to_be_bytes w64 b.moment) (length-reply a.reply ∙ sym (length-reply b.reply)) outer.1 in
    record {
      request = one_request a.request b.request
          (sym (request_again a.request (request_spelling a.request) one refl)
          ∙ request_again b.request (request_spelling a.request) two outer.0);
      replied = inner.0;
    }

-- what is said of each pair is said of each
pairs_say : (P Q R : AnsweredRequest → Type 0) → ((a b : AnsweredRequest) → P a → Q b → entry_of a ≡ entry_of b → R b)
    → (xs ys : List AnsweredRequest) → entries_of xs ≡ entries_of ys → AllByRecursion P xs → AllByRecursion Q ys
    → AllByRecursion R ys
pairs_say P Q R so [] [] same one two = tt
pairs_say P Q R so [] (y ∷ ys) same one two = absurd cc
pairs_say P Q R so (x ∷ xs) [] same one two = absurd cc
pairs_say P Q R so (x ∷ xs) (y ∷ ys) same one two =
    (so x y one.0 two.0 (one_head _ _ _ _ same), pairs_say P Q R so xs ys (one_tail _ _ _ _ same) one.1 two.1)

module _ (leader follower : List Command) (n : ℕ) (it : Follows leader follower n) where
  abbrev pub first : List AnsweredRequest
  first = take n (answered_after leader)

  entries_are : entries_of (answered_after follower) ≡ entries_of first
  entries_are = it.same ∙ take-map entry_of n (answered_after leader)

  whole : first ++ drop n (answered_after leader) ≡ answered_after leader
  whole = take-append-drop n (answered_after leader)

  leads : AllByRecursion (IsKeptRequest leader) (first ++ drop n (answered_after leader))
  leads = subst (AllByRecursion (IsKeptRequest leader)) (sym whole) (all_kept leader it.leads)

  -- the first requests are answered again
  pub first_again : AllByRecursion (IsAnsweredAgain follower) first
  first_again =
      pairs_say (λ a. IsKeptRequest follower a × IsAnsweredAgain follower a) (IsKeptRequest leader)
      (IsAnsweredAgain follower) (λ a b one two same. again a b one.0 one.1 two same) (answered_after follower) first
      entries_are
      (all_with (IsKeptRequest follower) (IsAnsweredAgain follower)
      (λ a. IsKeptRequest follower a × IsAnsweredAgain follower a) (λ a x y. (x, y)) (answered_after follower)
      (all_kept follower it.follows) (all_answered follower it.follows))
      (all_first (IsKeptRequest leader) first (drop n (answered_after leader)) leads)
    where
      again : (a b : AnsweredRequest) → IsKeptRequest follower a → IsAnsweredAgain follower a → IsKeptRequest leader b
          → entry_of a ≡ entry_of b → IsAnsweredAgain follower b
      again a b one answered two same =
          let is = entries_same a b one.request two.request same in
          record {
            replied = ap (λ (r : RequestFields). reply_spelling (reply follower (request_spelling r))) (sym is.request)
                ∙ answered.replied ∙ is.replied;
            once = λ m. ap (λ (r : RequestFields). decided (Post m (request_spelling r) ∷ follower)) (sym is.request)
                ∙ answered.once m;
          }

  -- ---- a later request is new to the follower, or the follower has it

  -- a request of the leader's, which an entry of the follower is
  abbrev Led : AnsweredRequest → Type 0
  Led x = (y : AnsweredRequest) × IsKeptRequest leader y × (x.request ≡ y.request)

  all_led : AllByRecursion (λ e. Led (answered_of e)) (decided follower)
  all_led =
      each_as_decided Led (decided follower)
      (pairs_say (IsKeptRequest leader) (IsKeptRequest follower) Led
      (λ a b one two same. (a, one, sym (entries_same a b one.request two.request same).request)) first
      (answered_after follower) (sym entries_are)
      (all_first (IsKeptRequest leader) first (drop n (answered_after leader)) leads)
      (all_kept follower it.follows))

  led_under : (t m : ℕ) → (kept (decided follower) t m ≡ None)
      ⊎ ((e : DecidedRequest) × Led (answered_of e) × (kept (decided follower) t m ≡ Some (kept_fields e))
      × (e.request.teller ≡ t) × (e.request.number ≡ m))
  led_under t m = found_or_none (λ e. Led (answered_of e)) (decided follower) t m all_led

  one_kept : (j k : KeptFields) → (let one : Option KeptFields = Some j in one) ≡ Some k → j ≡ k
  one_kept j k is = cc

  moved : (j k : KeptFields) (r s : RequestFields) → j ≡ k → HasContent j r → HasContent k s → (e : DecidedRequest)
      → e.request ≡ r → HasContent (kept_fields e) s
  moved j k r s same one two e is = record {
    account = ap (λ (x : RequestFields). x.account) is ∙ sym one.account
        ∙ ap (λ (x : KeptFields). x.decision.account) same ∙ two.account;
    branch = ap (λ (x : RequestFields). x.branch) is ∙ sym one.branch
        ∙ ap (λ (x : KeptFields). x.decision.branch) same ∙ two.branch;
    delta = ap (λ (x : RequestFields). x.delta) is ∙ sym one.delta
        ∙ ap (λ (x : KeptFields). x.decision.delta) same ∙ two.delta;
    reference = ap (λ (x : RequestFields). x.reference) is ∙ sym one.reference
        ∙ ap (λ (x : KeptFields). x.reference) same ∙ two.reference;
  }

  pub new_or_kept : (a : AnsweredRequest) → IsKeptRequest leader a
      → (kept (decided follower) a.request.teller a.request.number ≡ None) ⊎ KeepsRequest follower a.request
  new_or_kept a is = elim (led_under a.request.teller a.request.number) [
    | inl none ↦ inl none
    | inr some ↦
        let e = some.0 in
        let led = some.1 in
        let y = led.0 in
        let teller : y.request.teller ≡ a.request.teller =
        ap (λ (r : RequestFields). r.teller) (sym led.2) ∙ some.3 in
        let number : y.request.number ≡ a.request.number =
        ap (λ (r : RequestFields). r.number) (sym led.2) ∙ some.4 in
        let one : kept (decided leader) a.request.teller a.request.number ≡ Some led.1.keeps.0 =
        ap (λ (t : ℕ). kept (decided leader) t a.request.number) (sym teller)
        ∙ ap (λ (m : ℕ). kept (decided leader) y.request.teller m) (sym number) ∙ led.1.keeps.1 in
        inr (
          kept_fields e,
          some.2,
          moved led.1.keeps.0 is.keeps.0 y.request a.request
              (one_kept led.1.keeps.0 is.keeps.0 (sym one ∙ is.keeps.1)) led.1.keeps.2 is.keeps.2 e led.2,
        )
  ]

  pub later_new : AllByRecursion (IsKeptRequest leader) (drop n (answered_after leader))
  later_new = all_last (IsKeptRequest leader) first (drop n (answered_after leader)) leads

  -- what the follower has of the first requests, it has
  pub first_kept : AllByRecursion (λ a. KeepsRequest follower a.request) first
  first_kept =
      pairs_say (IsKeptRequest follower) (IsKeptRequest leader) (λ a. KeepsRequest follower a.request)
      (λ a b one two same.
      subst (KeepsRequest follower) (entries_same a b one.request two.request same).request one.keeps)
      (answered_after follower) first entries_are (all_kept follower it.follows)
      (all_first (IsKeptRequest leader) first (drop n (answered_after leader)) leads)

  module _ (sent : List Command) (on : AreSentOn leader follower n sent) where
    abbrev IsCurrent : AnsweredRequest → Type 0
    IsCurrent a = books_of (closings follower) a.request.teller a.request.number ≡ Current

    abbrev IsTaken : AnsweredRequest → Type 0
    IsTaken a = ComesFirst a.request (posted_records sent)
        × (is_teller_open (λ b. opened follower b) a.request.teller ≡ true) × IsCurrent a

    still : (r : RequestFields) → KeepsRequest follower r → KeepsRequest (followed_by follower sent) r
    still r has = (has.0, stays_kept follower sent r.teller r.number has.0 has.1, has.2)

    pub all_have : AllByRecursion (λ a. KeepsRequest (followed_by follower sent) a.request) (answered_after leader)
    all_have =
        subst (AllByRecursion (λ a. KeepsRequest (followed_by follower sent) a.request)) whole
        (all_both (λ a. KeepsRequest (followed_by follower sent) a.request) first (drop n (answered_after leader))
        (all_so (λ a. KeepsRequest follower a.request) (λ a. KeepsRequest (followed_by follower sent) a.request)
        (λ a has. still a.request has) first first_kept)
        (all_with IsTaken
        (IsKeptRequest leader) (λ a. KeepsRequest (followed_by follower sent) a.request)
        (λ a comes is. sent_is_kept follower sent a.request is.request on.posts comes.0 comes.1 on.room comes.2 (new_or_kept a is))
        (drop n (answered_after leader))
        (all_with (λ a. ComesFirst a.request (posted_records sent))
        (λ a. (is_teller_open (λ b. opened follower b) a.request.teller ≡ true) × IsCurrent a) IsTaken
        (λ a x y. (x, y.0, y.1)) (drop n (answered_after leader)) on.come
        (all_with (λ a. is_teller_open (λ b. opened follower b) a.request.teller ≡ true) IsCurrent
        (λ a. (is_teller_open (λ b. opened follower b) a.request.teller ≡ true) × IsCurrent a)
        (λ a x y. (x, y)) (drop n (answered_after leader)) on.open_tellers on.current))
        later_new))
