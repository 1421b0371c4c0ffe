-- The entries of a log one after another, by the rows under their ordinals.
use Rattle.std.proofs.Common.{◌≡◌, ◌<◌, ◌≤◌, ◌+◌, ◌-◌, ◌++◌, ◌&&◌, ℕ, Bool, true, false, cond, eqb, suc, List, [], ◌∷◌, length}
use Rattle.std.proofs.Common.{min, leb, take, drop, Option, Some, None, refl, sym, ap, subst, ◌∙◌, append-nil, inl, inr, arith}
use Rattle.std.specs.Prelude.{nat_abs, get_or, option_map}
use Rattle.std.proofs.lemmas.{Bool.Decides.nat_tests, Bool.cases_Bool, Bool.eqb-true, List.Concat.flat_map-append, List.length-append}
use Rattle.std.proofs.lemmas.Bool.{le-leb, lt-leb}
use Rattle.std.proofs.lemmas.List.{take_min}
use Rattle.std.proofs.lemmas.List.{get_or_append_left, get_or_at, get_or-drop, length-drop, length-map, map-append, take_more}
use Rattle.message_records.specs.declared.limits.TheConstants.{MAX_DELTA}
use Rattle.posting_rules.specs.believed.Commands.{AreCommands, Command}
use Rattle.posting_rules.specs.believed.Entries.{DecidedRequest, decided, is_posted}
use Rattle.posting_rules.specs.believed.Tables.{AreTablesOf, Tables, history_row, history_row_of, reference_row}
use Rattle.posting_rules.specs.believed.Tables.{reference_row_of, request_row, request_row_of}
use Rattle.posting_rules.proofs.SoundEntries.{AreSound, are_sound}
use Rattle.posting_rules.proofs.TablesWithRecord.{history_row_past}
use Rattle.posting_core.specs.Standing.{StandsUnder}
use Rattle.posting_core.specs.believed.Batches.{joined}
use Rattle.posting_core.specs.believed.LogEntries.{answered_of, each_answered, entries_of, entry_of, entries_given, log_entries}

-- ---- how many there are

pub length-answered : (es : List DecidedRequest) → length (each_answered es) ≡ length es
length-answered [] = refl
length-answered (e ∷ es) =
    length-append (each_answered es) (answered_of e ∷ [])
    ∙ ap (λ n. n + 1) (length-answered es) ∙ (omega arith)

pub length-entries : (log : List Command) → length (log_entries log) ≡ length (decided log)
length-entries log =
    length-map (each_answered (decided log)) entry_of ∙ length-answered (decided log)

-- ---- the one at a place

-- a decided request stands at the place, which counts those before it
record IsAt (es : List DecidedRequest) (i : ℕ) (e : DecidedRequest) : Type 0 where
  pub request : request_row es (suc i) ≡ Some (request_row_of (suc i) e)
  pub posting : history_row es (suc i) ≡ cond (is_posted e) (Some (history_row_of (suc i) e)) None
  pub reference : reference_row es (suc i) ≡ option_map (reference_row_of (suc i)) e.request.reference
  pub delta : nat_abs e.request.delta ≤ MAX_DELTA
  pub entry : get_or (entries_of (each_answered es)) i [] ≡ entry_of (answered_of e)

skip : {X : Type 0} (b c : Bool) (x y : X) → c ≡ false → cond (b && c) x y ≡ y
skip true c x y is = rw is refl
skip false c x y is = refl

there : {X : Type 0} (b c : Bool) (x : X) (y : Option X) → c ≡ true → y ≡ None
    → cond (b && c) (Some x) y ≡ cond b (Some x) None
there true c x y is none = rw is refl
there false c x y is none = none

entries_more : (e : DecidedRequest) (es : List DecidedRequest)
    → entries_of (each_answered (e ∷ es)) ≡ entries_of (each_answered es) ++ entry_of (answered_of e) ∷ []
entries_more e es = map-append entry_of (each_answered es) (answered_of e ∷ [])

length-of : (es : List DecidedRequest) → length (entries_of (each_answered es)) ≡ length es
length-of es = length-map (each_answered es) entry_of ∙ length-answered es

own : (e : DecidedRequest) (es : List DecidedRequest) (i : ℕ) → AreSound (e ∷ es) → length es ≡ i
    → eqb (length es + 1) (suc i) ≡ true → IsAt (e ∷ es) i e
own e es i sound is hit = record {
  request = rw hit refl;
  posting = there (is_posted e) (eqb (length es + 1) (suc i)) (history_row_of (suc i) e) (history_row es (suc i)) hit
      (history_row_past es i (omega (arith, is)));
  reference = rw hit refl;
  delta = sound.0.request.delta;
  entry = ap (λ l. get_or l i []) (entries_more e es)
      ∙ get_or_at (entries_of (each_answered es)) (entry_of (answered_of e)) [] [] i (length-of es ∙ is);
}

earlier : (e : DecidedRequest) (es : List DecidedRequest) (i : ℕ) (d : DecidedRequest) → i < length es
    → eqb (length es + 1) (suc i) ≡ false → IsAt es i d → IsAt (e ∷ es) i d
earlier e es i d low miss at = record {
  request = rw miss at.request;
  posting = skip (is_posted e) (eqb (length es + 1) (suc i)) (Some (history_row_of (suc i) e)) (history_row es (suc i))
      miss ∙ at.posting;
  reference = rw miss at.reference;
  delta = at.delta;
  entry = ap (λ l. get_or l i []) (entries_more e es)
      ∙ get_or_append_left (entries_of (each_answered es)) (entry_of (answered_of e) ∷ []) [] i
      (let n = length-of es in omega (arith, n, low))
      ∙ at.entry;
}

at_place : (es : List DecidedRequest) → AreSound es → (i : ℕ) → i < length es
    → (e : DecidedRequest) × IsAt es i e
at_place [] sound i low = absurd (omega (arith, low))
at_place (e ∷ es) sound i low = elim (cases_Bool (eqb (length es + 1) (suc i))) [
  | inl hit ↦ (e, own e es i sound (let same = eqb-true (length es + 1) (suc i) hit in omega (arith, same)) hit)
  | inr miss ↦
      let less : i < length es = below e es i low miss in
      let found = at_place es sound.2 i less in (found.0, earlier e es i found.0 less miss found.1)
]
  where
    below : (e : DecidedRequest) (es : List DecidedRequest) (i : ℕ) → i < length (e ∷ es)
        → eqb (length es + 1) (suc i) ≡ false → i < length es
    below e es i low miss = grind (arith, nat_tests)

-- ---- of tables that show a log

-- the entry at a place is that of the request that stands under the next ordinal
pub record IsEntryAt (t : Tables) (log : List Command) (i : ℕ) (e : DecidedRequest) : Type 0 where
  pub stands : StandsUnder t (i + 1) e
  pub entry : get_or (log_entries log) i [] ≡ entry_of (answered_of e)

pub entry_at : (t : Tables) (log : List Command) → AreCommands log → AreTablesOf t log → (i : ℕ)
    → i < length (log_entries log) → (e : DecidedRequest) × IsEntryAt t log i e
entry_at t log commands shows i low =
    let found = at_place (decided log) (are_sound log commands) i
    (let n = length-entries log in omega (arith, n, low)) in (
      found.0,
      record {
        stands = subst (λ o. StandsUnder t o found.0) (let next : suc i ≡ i + 1 = omega arith in next) (record {
          request = shows.rows.requests (suc i) ∙ found.1.request;
          posting = shows.rows.history (suc i) ∙ found.1.posting;
          reference = shows.rows.references (suc i) ∙ found.1.reference;
          delta = found.1.delta;
        });
        entry = found.1.entry;
      },
    )

-- ---- so many of them, one after another

pub joined_more : (xs : List (List ℕ)) (from place : ℕ) → from ≤ place → place < length xs
    → joined (take (place - from) (drop from xs)) ++ get_or xs place []
    ≡ joined (take (place + 1 - from) (drop from xs))
joined_more xs from place above below =
    let n = length-drop from xs in
    let next : place + 1 - from ≡ (place - from) + 1 = omega (arith, above) in
    let at : get_or (drop from xs) (place - from) [] ≡ get_or xs place [] =
    get_or-drop from xs (place - from) [] ∙ ap (λ k. get_or xs k []) (omega (arith, above)) in
    sym (ap (λ k. joined (take k (drop from xs))) next
    ∙ ap joined (take_more (drop from xs) (place - from) [] (omega (arith, n, above, below)))
    ∙ flat_map-append (λ text. text) (take (place - from) (drop from xs)) (get_or (drop from xs) (place - from) [] ∷ [])
    ∙ ap (λ text. joined (take (place - from) (drop from xs)) ++ (text ++ [])) at
    ∙ ap (λ text. joined (take (place - from) (drop from xs)) ++ text) (append-nil (get_or xs place [])))

pub none_between : (xs : List (List ℕ)) (from : ℕ) → [] ≡ joined (take (from - from) (drop from xs))
none_between xs from = ap (λ k. joined (take k (drop from xs))) (let none : 0 ≡ from - from = omega arith in none)

-- ---- as they are handed out

pub given_none : (log : List Command) (after kept : ℕ) → kept ≡ length (decided log) → kept < after
    → ◌≡◌ {A = Option (List ℕ)} None (entries_given log after)
unfolding entries_given
given_none log after kept is low =
    let few : leb after (length (log_entries log)) ≡ false = lt-leb after (length (log_entries log))
    (let n = length-entries log in omega (arith, n, is, low)) in
    rw few refl

pub given_some : (log : List Command) (after kept to : ℕ) (bytes : List ℕ) → kept ≡ length (decided log)
    → after ≤ kept → to ≡ min kept (after + 192)
    → bytes ≡ joined (take (to - after) (drop after (log_entries log)))
    → ◌≡◌ {A = Option (List ℕ)} (Some bytes) (entries_given log after)
unfolding entries_given
given_some log after kept to bytes is above until same =
    let xs = log_entries log in
    let n = length-entries log in
    let many : leb after (length xs) ≡ true = le-leb after (length xs) (omega (arith, n, is, above)) in
    let left = length-drop after xs in
    let count : to - after ≡ min 192 (length (drop after xs)) = omega (arith, n, is, above, until, left) in
    rw many (ap (λ (b : List ℕ). Some b) (same ∙ ap (λ k. joined (take k (drop after xs))) count
    ∙ ap joined (take_min 192 (drop after xs))))
