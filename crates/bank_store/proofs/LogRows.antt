-- The kept rows of a file that shows a log are its decided requests, the oldest first.
use Rattle.std.proofs.Common.{◌≡◌, ◌<◌, ◌≤◌, ◌+◌, ◌++◌, ◌&&◌, ℕ, Bool, true, false, cond, eqb, List, [], ◌∷◌, length}
use Rattle.std.proofs.Common.{map, Option, Some, None, refl, sym, ap, ◌∙◌, inl, inr, arith}
use Rattle.std.specs.{Prelude.pos, Prelude.option_map, Prelude.unwrap_or, List.AllByRecursion}
use Rattle.std.proofs.lemmas.{Bool.cases_Bool, Bool.eq-eqb, Bool.eqb-true, List.map-append}
use Rattle.sqlite.specs.Effect.{Database}
use Rattle.message_records.specs.{declared.records.Outcome.Outcome, declared.records.Outcome.TheVariants.Malformed}
use Rattle.message_records.specs.believed.{Outcomes.code_of, Outcomes.outcome_with, Records.unreferenced}
use Rattle.posting_rules.specs.{believed.Cases.balance_shown, believed.Cases.kept_reply, believed.Commands.Command}
use Rattle.posting_rules.specs.{declared.rows.HistoryRow.HistoryRow, declared.rows.RequestRow.RequestRow}
use Rattle.posting_rules.specs.believed.Entries.{DecidedRequest, decided, is_posted, kept_fields}
use Rattle.posting_rules.specs.believed.Tables.{AreTablesOf, Tables, history_key, history_row, history_row_of}
use Rattle.posting_rules.specs.believed.Tables.{reference_key, reference_row, reference_row_of, request_key}
use Rattle.posting_rules.specs.believed.Tables.{request_row, request_row_of, row_at}
use Rattle.sql_meanings.specs.believed.Entries.{Entry}
use Rattle.sql_meanings.proofs.Places.{all_weaker}
use Rattle.store_rows.specs.believed.View.{Shows, history_entry, reference_entry, request_entry}
use Rattle.store_rows.proofs.RowLists.{found_row}
use Rattle.walked_rows.specs.KeptRows.{HasKept, KeptItem, kept_all, kept_with}
use Rattle.walked_rows.specs.{Pairs.row_under, References.text_after}
use Rattle.walked_rows.proofs.Shown.{has_history, has_references, has_requests}
use Rattle.walked_rows.proofs.RisingRows.{Rising, all-append, rising_keys, rising_more, rising_once, under_next}
use Rattle.posting_core.specs.believed.LogEntries.{answered_after, answered_of, each_answered}
use Rattle.walked_rows.specs.Requests.{moment_under}
use Rattle.bank_store.specs.KeptEntries.{answered_in}
use Rattle.message_records.proofs.SpelledReplies.{outcome_with-code}
use Rattle.walked_rows.proofs.Came.{reply_same, request_same}
use Rattle.bank_store.proofs.KeptEntries.{answered_same}

-- ---- the rows of `request`

-- those of decided requests, the oldest first
abbrev pub requests_of : List DecidedRequest → List RequestRow
requests_of [] = []
requests_of (e ∷ es) = requests_of es ++ request_row_of (length es + 1) e ∷ []

below : (es : List DecidedRequest) → AllByRecursion (λ r. request_key r < length es + 1) (requests_of es)
below [] = tt
below (e ∷ es) =
    all-append (λ r. request_key r < length (e ∷ es) + 1) (requests_of es) (request_row_of (length es + 1) e ∷ [])
    (all_weaker (λ r. request_key r < length es + 1) (λ r. request_key r < length (e ∷ es) + 1)
    (λ r low. omega (arith, low)) (requests_of es) (below es))
    (omega arith, tt)

requests_rise : (es : List DecidedRequest) → Rising request_key (requests_of es)
requests_rise [] = tt
requests_rise (e ∷ es) =
    rising_more request_key (requests_of es) (request_row_of (length es + 1) e) (requests_rise es) (below es)

requests_under : (es : List DecidedRequest) (o : ℕ) → row_at request_key (requests_of es) o ≡ request_row es o
requests_under [] o = refl
requests_under (e ∷ es) o =
    under_next request_key (requests_of es) (λ n. request_row_of n e) (length es + 1) refl (below es) o
    ∙ ap (λ x. cond (eqb (length es + 1) o) (Some (request_row_of o e)) x) (requests_under es o)

requests_are : (db : Database) (t : Tables) (log : List Command) → Shows db t → AreTablesOf t log
    → t.requests ≡ requests_of (decided log)
requests_are db t log in_file shows =
    rising_once request_key t.requests (requests_of (decided log))
    (rising_keys request_key request_entry (λ r. refl) t.requests (has_requests db t in_file).holds.rows.rise)
    (requests_rise (decided log))
    (λ o. shows.rows.requests o ∙ sym (requests_under (decided log) o))

-- ---- what stands beside them

apart : (m n : ℕ) → n < m → eqb m n ≡ false
apart m n low = elim (cases_Bool (eqb m n)) [
  | inl t ↦ absurd (let same = eqb-true m n t in omega (arith, same, low))
  | inr f ↦ f
]

apart_above : (m n : ℕ) → m < n → eqb m n ≡ false
apart_above m n low = elim (cases_Bool (eqb m n)) [
  | inl t ↦ absurd (let same = eqb-true m n t in omega (arith, same, low))
  | inr f ↦ f
]

skip : {X : Type 0} (b c : Bool) (x y : X) → c ≡ false → cond (b && c) x y ≡ y
skip true c x y is = rw is refl
skip false c x y is = refl

there : {X : Type 0} (b c : Bool) (x : X) (y : Option X) → c ≡ true → y ≡ None
    → cond (b && c) (Some x) y ≡ cond b (Some x) None
there true c x y is none = rw is refl
there false c x y is none = none

history_beyond : (es : List DecidedRequest) (o : ℕ) → length es < o → history_row es o ≡ None
history_beyond [] o low = refl
history_beyond (e ∷ es) o low =
    skip (is_posted e) (eqb (length es + 1) o) (Some (history_row_of o e)) (history_row es o)
    (apart_above (length es + 1) o (omega (arith, low)))
    ∙ history_beyond es o (omega (arith, low))

history_earlier : (e : DecidedRequest) (es : List DecidedRequest) (o : ℕ) → o ≤ length es
    → history_row (e ∷ es) o ≡ history_row es o
history_earlier e es o low =
    skip (is_posted e) (eqb (length es + 1) o) (Some (history_row_of o e)) (history_row es o)
    (apart (length es + 1) o (omega (arith, low)))

own_history : (e : DecidedRequest) (es : List DecidedRequest)
    → history_row (e ∷ es) (length es + 1)
    ≡ cond (is_posted e) (Some (history_row_of (length es + 1) e)) None
own_history e es =
    there (is_posted e) (eqb (length es + 1) (length es + 1)) (history_row_of (length es + 1) e)
    (history_row es (length es + 1)) (eq-eqb (length es + 1) (length es + 1) refl)
    (history_beyond es (length es + 1) (omega arith))

reference_earlier : (e : DecidedRequest) (es : List DecidedRequest) (o : ℕ) → o ≤ length es
    → reference_row (e ∷ es) o ≡ reference_row es o
reference_earlier e es o low = rw (apart (length es + 1) o (omega (arith, low))) refl

own_reference : (e : DecidedRequest) (es : List DecidedRequest)
    → reference_row (e ∷ es) (length es + 1)
    ≡ option_map (reference_row_of (length es + 1)) e.request.reference
own_reference e es = rw (eq-eqb (length es + 1) (length es + 1) refl) refl

-- ---- one of them

texts_back : (n : ℕ) (reference : Option (List ℕ))
    → option_map text_after (option_map reference_entry (option_map (reference_row_of n) reference)) ≡ reference
texts_back n None = refl
texts_back n (Some text) = refl

moment_shown : (b : Bool) (h : HistoryRow)
    → moment_under (option_map history_entry (cond b (Some h) None)) ≡ cond b h.moment 0
moment_shown true h = refl
moment_shown false h = refl

answered_item : (n : ℕ) (e : DecidedRequest) (posting reference : Option Entry)
    → posting ≡ option_map history_entry (cond (is_posted e) (Some (history_row_of n e)) None)
    → reference ≡ option_map reference_entry (option_map (reference_row_of n) e.request.reference)
    → answered_in (record {
      entry = request_entry (request_row_of n e);
      posting = posting;
      reference = reference;
    }) ≡ answered_of e
answered_item n e posting reference posted referred =
    let r = e.request in
    let outcome : unwrap_or (outcome_with (code_of e.outcome)) Malformed ≡ e.outcome =
    ap (λ (o : Option Outcome). unwrap_or o Malformed) (outcome_with-code e.outcome) in
    answered_same _ r _ (kept_reply (kept_fields e) r) _ (cond (is_posted e) e.moment 0)
    (request_same r.account r.account r.teller r.teller r.branch r.branch r.number r.number r.delta r.delta
    (option_map text_after reference) r.reference refl refl refl refl refl
    (ap (option_map text_after) referred ∙ texts_back n r.reference))
    (reply_same _ e.outcome _ (Some (unreferenced r)) _ (balance_shown e.outcome e.balance) outcome refl
    (ap (λ (o : Outcome). balance_shown o e.balance) outcome))
    (ap moment_under posted ∙ moment_shown (is_posted e) (history_row_of n e))

-- ---- all of them

module _ (P Q : List Entry) where
  -- the row with what is under its ordinal
  abbrev pub item_of : RequestRow → KeptItem
  item_of r = kept_with P Q (request_entry r)

  pub items_are : (rs : List RequestRow) → kept_all P Q (map request_entry rs) ≡ map item_of rs
  items_are [] = refl
  items_are (r ∷ rs) = ap (λ l. item_of r ∷ l) (items_are rs)

  -- what stands under each ordinal
  pub record Stand (es : List DecidedRequest) : Type 0 where
    pub history : (o : ℕ) → o ≤ length es → row_under P (pos o) ≡ option_map history_entry (history_row es o)
    pub references : (o : ℕ) → o ≤ length es
        → row_under Q (pos o) ≡ option_map reference_entry (reference_row es o)

  pub stand_earlier : (e : DecidedRequest) (es : List DecidedRequest) → Stand (e ∷ es) → Stand es
  stand_earlier e es stand = record {
    history = λ o low.
        stand.history o (omega (arith, low)) ∙ ap (option_map history_entry) (history_earlier e es o low);
    references = λ o low.
        stand.references o (omega (arith, low)) ∙ ap (option_map reference_entry) (reference_earlier e es o low);
  }

  pub last_answered : (e : DecidedRequest) (es : List DecidedRequest) → Stand (e ∷ es)
      → answered_in (item_of (request_row_of (length es + 1) e)) ≡ answered_of e
  last_answered e es stand =
      answered_item (length es + 1) e (row_under P (pos (length es + 1))) (row_under Q (pos (length es + 1)))
      (stand.history (length es + 1) (omega arith) ∙ ap (option_map history_entry) (own_history e es))
      (stand.references (length es + 1) (omega arith) ∙ ap (option_map reference_entry) (own_reference e es))

  pub answered_are : (es : List DecidedRequest) → Stand es
      → map answered_in (map item_of (requests_of es)) ≡ each_answered es
  answered_are [] stand = refl
  answered_are (e ∷ es) stand =
      let r = request_row_of (length es + 1) e in
      ap (map answered_in) (map-append item_of (requests_of es) (r ∷ []))
      ∙ map-append answered_in (map item_of (requests_of es)) (item_of r ∷ [])
      ∙ ap (λ l. l ++ answered_in (item_of r) ∷ []) (answered_are es (stand_earlier e es stand))
      ∙ ap (λ a. each_answered es ++ a ∷ []) (last_answered e es stand)

-- ---- of a file

module _ (db : Database) (t : Tables) (log : List Command) (in_file : Shows db t) (shows : AreTablesOf t log) where
  abbrev pub postings : List Entry
  postings = map history_entry t.history

  abbrev pub references : List Entry
  references = map reference_entry t.references

  abbrev pub kept_of : List KeptItem
  kept_of = kept_all postings references (map request_entry t.requests)

  pub has_kept : HasKept db kept_of
  has_kept = record {
    rows = map request_entry t.requests;
    postings = postings;
    references = references;
    has = has_requests db t in_file;
    has_postings = has_history db t in_file;
    has_references = has_references db t in_file;
    are = refl;
  }

  pub stand_in : Stand postings references (decided log)
  stand_in = record {
    history = λ o low.
        found_row history_key history_entry (λ r. refl) o t.history
        ∙ ap (option_map history_entry) (shows.rows.history o);
    references = λ o low.
        found_row reference_key reference_entry (λ r. refl) o t.references
        ∙ ap (option_map reference_entry) (shows.rows.references o);
  }

  pub kept_is : kept_of ≡ map (item_of postings references) (requests_of (decided log))
  kept_is =
      items_are postings references t.requests
      ∙ ap (map (item_of postings references)) (requests_are db t log in_file shows)

  pub kept_answered : map answered_in kept_of ≡ answered_after log
  kept_answered = ap (map answered_in) kept_is ∙ answered_are postings references (decided log) stand_in
