-- The entries of a log: how long they are, that tables tell them, and how many a call adds.
use Rattle.std.proofs.Common.{◌≡◌, ◌≤◌, ◌+◌, ◌++◌, ◌∙◌, ℕ, Bool, true, false, cond, List, [], ◌∷◌, length}
use Rattle.std.proofs.Common.{Option, Some, None, Result, Ok, Err, refl, sym, ap, subst, arith, append-nil, append_assoc}
use Rattle.std.specs.Prelude.{ℤ, option_map}
use Rattle.std.specs.{List.AllByRecursion, Int.to_be_bytes, Int.w64}
use Rattle.std.proofs.lemmas.List.{ext_get_or, length-append, map-append}
use Rattle.message_records.specs.{declared.fault.Bad.Bad, believed.Outcomes.has_balance, believed.Reading.request_of}
use Rattle.message_records.specs.believed.Records.{RequestFields}
use Rattle.message_records.specs.believed.Spelling.{reply_spelling, request_spelling}
use Rattle.message_records.proofs.{Prefixes.length-reply, Prefixes.length-request}
use Rattle.posting_rules.specs.declared.judgments.Verdict.{Verdict}
use Rattle.posting_rules.specs.declared.judgments.Verdict.TheVariants.{Again, Posted, Refused, Unkept}
use Rattle.posting_rules.specs.declared.rows.{HistoryRow.HistoryRow, ReferenceRow.ReferenceRow, RequestRow.RequestRow}
use Rattle.posting_rules.specs.believed.{Cases.case_of, Cases.kept_reply, Kept.DecisionFields}
use Rattle.posting_rules.specs.believed.Commands.{AreCommands, Command, Post, Terms, opened}
use Rattle.posting_rules.specs.believed.Entries.{DecidedRequest, decided, decision_of, facts, is_posted, with_record}
use Rattle.posting_rules.specs.believed.Entries.{with_verdict}
use Rattle.posting_rules.specs.believed.Tables.{AreTablesOf, Tables, history_row_of, reference_row_of, request_row_of}
use Rattle.posting_rules.specs.believed.{Runs.followed_by, Runs.posts}
use Rattle.posting_rules.proofs.SoundEntries.{AreSound, are_sound}
use Rattle.posting_core.specs.Standing.{StandsUnder}
use Rattle.posting_core.specs.believed.LogEntries.{AnsweredRequest, answered_of, each_answered, entries_of, entry_of, log_entries}
use Rattle.posting_core.proofs.LogPlaces.{entry_at, length-entries}
use Rattle.posting_rules.specs.declared.rows.ClosingRow.{ClosingRow}
use Rattle.posting_rules.specs.believed.Closings.{closings}

-- ---- how long

entry_long : (e : DecidedRequest) → length (request_spelling e.request) ≡ 100 → length (entry_of (answered_of e)) ≡ 308
entry_long e long =
    let a = answered_of e in
    omega (
      arith,
      length-append (request_spelling a.request) (reply_spelling a.reply ++ to_be_bytes w64 a.moment),
      length-append (reply_spelling a.reply) (to_be_bytes w64 a.moment),
      long,
      length-reply a.reply,
      (let eight : length (to_be_bytes w64 a.moment) ≡ 8 = refl in eight),
    )

all_more : {X : Type 0} (P : X → Type 0) (xs : List X) (x : X) → AllByRecursion P xs → P x
    → AllByRecursion P (xs ++ x ∷ [])
all_more P [] x all one = (one, tt)
all_more P (y ∷ xs) x all one = (all.0, all_more P xs x all.1 one)

entries_more : (e : DecidedRequest) (es : List DecidedRequest)
    → entries_of (each_answered (e ∷ es)) ≡ entries_of (each_answered es) ++ entry_of (answered_of e) ∷ []
entries_more e es = map-append entry_of (each_answered es) (answered_of e ∷ [])

abbrev pub AreLong : List (List ℕ) → Type 0
AreLong entries = AllByRecursion (λ e. length e ≡ 308) entries

all_long : (es : List DecidedRequest) → AreSound es → AreLong (entries_of (each_answered es))
all_long [] sound = tt
all_long (e ∷ es) sound =
    subst AreLong (sym (entries_more e es))
    (all_more (λ x. length x ≡ 308) (entries_of (each_answered es)) (entry_of (answered_of e)) (all_long es sound.2)
    (entry_long e (length-request e.request sound.0.request)))

pub entries_long : (log : List Command) → AreCommands log → AreLong (log_entries log)
entries_long log are = all_long (decided log) (are_sound log are)

-- ---- tables tell them

some_same : {X : Type 0} (x y : X) → (let one : Option X = Some x in one) ≡ Some y → x ≡ y
some_same x y is = cc

reference_same : (o : ℕ) (a b : Option (List ℕ))
    → option_map (reference_row_of o) a ≡ option_map (reference_row_of o) b → a ≡ b
reference_same o None None is = refl
reference_same o None (Some y) is = absurd cc
reference_same o (Some x) None is = absurd cc
reference_same o (Some x) (Some y) is =
    ap (λ (t : List ℕ). let one : Option (List ℕ) = Some t in one)
    (ap (λ (r : ReferenceRow). r.reference) (some_same (reference_row_of o x) (reference_row_of o y) is))

moment_same : (o : ℕ) (p q : Bool) (d e : DecidedRequest) → p ≡ q
    → cond p (Some (history_row_of o d)) None ≡ cond q (Some (history_row_of o e)) None
    → cond p d.moment 0 ≡ cond q e.moment 0
moment_same o true true d e same is =
    ap (λ (r : HistoryRow). r.moment) (some_same (history_row_of o d) (history_row_of o e) is)
moment_same o false false d e same is = refl
moment_same o true false d e same is = absurd cc
moment_same o false true d e same is = absurd cc

request_same : (r s : RequestFields) → r.account ≡ s.account → r.teller ≡ s.teller → r.branch ≡ s.branch
    → r.number ≡ s.number → r.delta ≡ s.delta → r.reference ≡ s.reference → r ≡ s
request_same r s account teller branch number delta reference =
    ap (λ (x : ℕ). let y : RequestFields = record r { account = x } in y) account
    ∙ ap (λ (x : ℕ). let y : RequestFields = record r { account = s.account; teller = x } in y) teller
    ∙ ap (λ (x : ℕ). let y : RequestFields = record r { account = s.account; teller = s.teller; branch = x } in y) branch
    ∙ ap (λ (x : ℕ). let y : RequestFields = record s { number = x; delta = r.delta; reference = r.reference } in y) number
    ∙ ap (λ (x : ℤ). let y : RequestFields = record s { delta = x; reference = r.reference } in y) delta
    ∙ ap (λ (x : Option (List ℕ)). let y : RequestFields = record s { reference = x } in y) reference

answered_same : (d e : DecidedRequest) → d.request ≡ e.request → decision_of d ≡ decision_of e
    → cond (is_posted d) d.moment 0 ≡ cond (is_posted e) e.moment 0 → answered_of d ≡ answered_of e
answered_same d e request decision moment =
    let made = λ (r : RequestFields) (k : DecisionFields) (m : ℕ). let a : AnsweredRequest = record {
      request = r;
      reply = kept_reply (record { decision = k; reference = r.reference }) r;
      moment = m;
    } in a in
    ap (λ (r : RequestFields). made r (decision_of d) (cond (is_posted d) d.moment 0)) request
    ∙ ap (λ (k : DecisionFields). made e.request k (cond (is_posted d) d.moment 0)) decision
    ∙ ap (λ (m : ℕ). made e.request (decision_of e) m) moment

one_under : (t : Tables) (o : ℕ) (d e : DecidedRequest) → StandsUnder t o d → StandsUnder t o e
    → entry_of (answered_of d) ≡ entry_of (answered_of e)
one_under t o d e one two =
    let row : request_row_of o d ≡ request_row_of o e =
    some_same (request_row_of o d) (request_row_of o e) (sym one.request ∙ two.request) in
    let decision : decision_of d ≡ decision_of e = ap (λ (r : RequestRow). r.decision) row in
    let reference = reference_same o d.request.reference e.request.reference (sym one.reference ∙ two.reference) in
    let request : d.request ≡ e.request =
    request_same d.request e.request (ap (λ (k : DecisionFields). k.account) decision)
    (ap (λ (r : RequestRow). r.teller) row) (ap (λ (k : DecisionFields). k.branch) decision)
    (ap (λ (r : RequestRow). r.number) row) (ap (λ (k : DecisionFields). k.delta) decision) reference in
    let posted : is_posted d ≡ is_posted e =
    ap (λ (k : DecisionFields). has_balance k.outcome) decision in
    ap entry_of (answered_same d e request decision
    (moment_same o (is_posted d) (is_posted e) d e posted (sym one.posting ∙ two.posting)))

-- logs with the same tables have the same entries
pub entries_one : (t : Tables) (a b : List Command) → AreCommands a → AreCommands b → AreTablesOf t a → AreTablesOf t b
    → log_entries a ≡ log_entries b
entries_one t a b are_a are_b shows_a shows_b =
    let long : length (log_entries a) ≡ length (log_entries b) =
    length-entries a ∙ sym shows_a.rows.decided ∙ shows_b.rows.decided ∙ sym (length-entries b) in
    ext_get_or [] (log_entries a) (log_entries b) long
    (λ i low.
    let one = entry_at t a are_a shows_a i low in
    let two = entry_at t b are_b shows_b i (omega (arith, low, long)) in
    one.1.entry ∙ one_under t (i + 1) one.0 two.0 one.1.stands two.1.stands ∙ sym two.1.entry)

-- ---- how many a call adds

pub record Grows (old new : List (List ℕ)) (most : ℕ) : Type 0 where
  pub added : List (List ℕ)
  pub are : new ≡ old ++ added
  pub few : length added ≤ most

verdict_grows : (es : List DecidedRequest) (m : ℕ) (r : RequestFields) (v : Verdict)
    → Grows (entries_of (each_answered es)) (entries_of (each_answered (with_verdict m r v es))) 1
verdict_grows es m r (Unkept o) = record { added = []; are = sym (append-nil _); few = omega arith }
verdict_grows es m r (Again y) = record { added = []; are = sym (append-nil _); few = omega arith }
verdict_grows es m r (Refused o) = record { added = _; are = entries_more _ es; few = omega arith }
verdict_grows es m r (Posted x y z) = record { added = _; are = entries_more _ es; few = omega arith }

pub record_grows : (opened : ℕ → Option Terms) (runs : List ClosingRow) (es : List DecidedRequest) (m : ℕ) (read : Result RequestFields Bad)
    → Grows (entries_of (each_answered es)) (entries_of (each_answered (with_record m read opened runs es))) 1
record_grows opened runs es m (Err f) = record { added = []; are = sym (append-nil _); few = omega arith }
record_grows opened runs es m (Ok r) = verdict_grows es m r (case_of (facts opened runs es r) r)

pub posts_grow : (m : ℕ) (records : List (List ℕ)) (log : List Command)
    → Grows (log_entries log) (log_entries (followed_by log (posts m records))) (length records)
posts_grow m [] log = record { added = []; are = sym (append-nil _); few = omega arith }
posts_grow m (bytes ∷ records) log =
    let one = record_grows (λ b. opened log b) (closings log) (decided log) m (request_of bytes) in
    let more = posts_grow m records (Post m bytes ∷ log) in
    record {
      added = one.added ++ more.added;
      are = more.are ∙ ap (λ (l : List (List ℕ)). l ++ more.added) one.are
          ∙ append_assoc (log_entries log) one.added more.added;
      few = omega (arith, length-append one.added more.added, one.few, more.few);
    }
