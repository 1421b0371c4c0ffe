-- The statement of an account of a bank that shows a log.
use Rattle.std.proofs.Common.{◌≡◌, ◌==◌, ◌&&◌, ◌≤◌, ◌+◌, ◌++◌, ℕ, Bool, true, false, cond, List, [], ◌∷◌, length}
use Rattle.std.proofs.Common.{map, filter, Option, Some, None, refl, sym, ap, ◌∙◌, append_assoc, append-nil, inl, inr}
use Rattle.std.proofs.Common.{arith}
use Rattle.std.specs.Prelude.{ℤ, pos, ◌+ℤ◌, option_map}
use Rattle.std.specs.{List.AllByRecursion, Ordering.int_eq}
use Rattle.std.proofs.{lemmas.Bool.cases_Bool, lemmas.Bool.eq-eqb, lemmas.Bool.eqb-true, lemmas.Int.ints}
use Rattle.std.proofs.{lemmas.List.map-append, lemmas.List.Elements.filter-append, Math.IntN.+ℤ_assoc}
use Rattle.sqlite.specs.Effect.{Database}
use Rattle.posting_rules.specs.declared.rows.ReferenceRow.{ReferenceRow}
use Rattle.posting_rules.specs.believed.Commands.{Command}
use Rattle.posting_rules.specs.believed.Entries.{DecidedRequest, is_posted, decided}
use Rattle.posting_rules.specs.believed.Tables.{Tables, AreTablesOf, history_key, history_row_of, reference_key}
use Rattle.posting_rules.specs.believed.Tables.{reference_row, reference_row_of, row_at}
use Rattle.sql_meanings.specs.believed.Entries.{Entry as Stored}
use Rattle.sql_meanings.proofs.Places.{all_weaker}
use Rattle.store_rows.specs.believed.BankTables.{history as history_table, reference as reference_table}
use Rattle.store_rows.specs.believed.View.{history_entry, reference_entry, Shows}
use Rattle.store_rows.proofs.RowLists.{found_row}
use Rattle.walked_rows.specs.{declared.stated.StatedPosting.StatedPosting, Pairs.HasPairs, Pairs.Pair, Pairs.paired}
use Rattle.walked_rows.specs.{Pairs.row_under, References.text_after, References.text_entry}
use Rattle.walked_rows.specs.Stored.{is_of, is_stated_of, posting_entry, stated_pair}
use Rattle.walked_rows.proofs.{Joining.paired_filter, Shown.has_history, Shown.has_references}
use Rattle.walked_rows.proofs.RisingRows.{all-append, rising_keys, rising_once}
use Rattle.report_contents.specs.Lines.{text_of}
use Rattle.report_contents.specs.StatementText.{heading_of, last_of, line_of, lines_by, names_of, stated_lines}
use Rattle.report_contents.specs.StatementText.{stated_text}
use Rattle.report_contents.specs.declared.form.Form.{Form}
use Rattle.report_contents.proofs.Joined.{text_of-append}
use Rattle.bank_reports.specs.StatedLines.{all_postings, is_posted_to, postings_that, postings_to, stated_of}
use Rattle.bank_reports.specs.StatedLines.{statement_in}
use Rattle.bank_reports.specs.Postings.{delta_of, form_lines, sum_of, text_so_far}
use Rattle.bank_reports.proofs.{Read.posting_back, Read.posting_in, Lined.lines_are}
use Rattle.bank_reports.proofs.LogHistory.{postings_of, postings_rise, postings_under}

-- ---- the history of a file

-- a file that shows a log has its postings, the oldest first
pub history_is : (db : Database) (t : Tables) (log : List Command) → Shows db t → AreTablesOf t log
    → t.history ≡ postings_of (decided log)
history_is db t log in_file shows =
    rising_once history_key t.history (postings_of (decided log))
    (rising_keys history_key history_entry (λ r. refl) t.history (has_history db t in_file).holds.rows.rise)
    (postings_rise (decided log))
    (λ o. shows.rows.history o ∙ sym (postings_under (decided log) o))

-- the pairs of a bank's history, each row with the reference under its ordinal
abbrev pub stated_rows : Tables → List Pair
stated_rows t = paired (map reference_entry t.references) (map history_entry t.history)

pub has_stated : (db : Database) (t : Tables) → Shows db t
    → HasPairs db history_table reference_table (stated_rows t)
has_stated db t in_file = record {
  rows = map history_entry t.history;
  others = map reference_entry t.references;
  has = has_history db t in_file;
  has_others = has_references db t in_file;
  are = refl;
}

-- ---- those of an account

mine : (a : ℕ) (e : DecidedRequest) (n : ℕ) → is_of (Some a) (history_entry (history_row_of n e))
    ≡ (e.request.account == a)
mine a e n = same e.request.account a
  where
    same : (m k : ℕ) → int_eq (pos m) (pos k) ≡ (m == k)
    same m k = grind (arith, ints)

-- how a file holds the posting
abbrev entry_of : StatedPosting → Stored
entry_of s = posting_entry s.posting

history_of_account : (a : ℕ) (es : List DecidedRequest)
    → filter (is_of (Some a)) (map history_entry (postings_of es)) ≡ map entry_of (postings_to a es)
history_of_account a [] = refl
history_of_account a (e ∷ es) = posted (is_posted e) (e.request.account == a) refl (history_of_account a es)
  where
    n : ℕ
    n = length es + 1

    posted : (b c : Bool) → (e.request.account == a) ≡ c
        → filter (is_of (Some a)) (map history_entry (postings_of es))
        ≡ map entry_of (postings_to a es)
        → filter (is_of (Some a))
        (map history_entry (cond b (postings_of es ++ history_row_of n e ∷ []) (postings_of es)))
        ≡ map entry_of (cond (b && c) (postings_to a es ++ stated_of n e ∷ []) (postings_to a es))
    posted false c is earlier = earlier
    posted true true is earlier =
        ap (filter (is_of (Some a))) (map-append history_entry (postings_of es) (history_row_of n e ∷ []))
        ∙ filter-append (is_of (Some a)) (map history_entry (postings_of es))
        (history_entry (history_row_of n e) ∷ [])
        ∙ ap (λ b. filter (is_of (Some a)) (map history_entry (postings_of es))
        ++ cond b (history_entry (history_row_of n e) ∷ []) []) (mine a e n ∙ is)
        ∙ ap (λ l. l ++ history_entry (history_row_of n e) ∷ []) earlier
        ∙ sym (map-append entry_of (postings_to a es) (stated_of n e ∷ []))
    posted true false is earlier =
        ap (filter (is_of (Some a))) (map-append history_entry (postings_of es) (history_row_of n e ∷ []))
        ∙ filter-append (is_of (Some a)) (map history_entry (postings_of es))
        (history_entry (history_row_of n e) ∷ [])
        ∙ ap (λ b. filter (is_of (Some a)) (map history_entry (postings_of es))
        ++ cond b (history_entry (history_row_of n e) ∷ []) []) (mine a e n ∙ is)
        ∙ append-nil (filter (is_of (Some a)) (map history_entry (postings_of es))) ∙ earlier

history_of_all : (es : List DecidedRequest)
    → map history_entry (postings_of es) ≡ map entry_of (all_postings es)
history_of_all [] = refl
history_of_all (e ∷ es) = posted (is_posted e) (history_of_all es)
  where
    n : ℕ
    n = length es + 1

    posted : (b : Bool) → map history_entry (postings_of es) ≡ map entry_of (all_postings es)
        → map history_entry (cond b (postings_of es ++ history_row_of n e ∷ []) (postings_of es))
        ≡ map entry_of (cond b (all_postings es ++ stated_of n e ∷ []) (all_postings es))
    posted false earlier = earlier
    posted true earlier =
        map-append history_entry (postings_of es) (history_row_of n e ∷ [])
        ∙ ap (λ l. l ++ history_entry (history_row_of n e) ∷ []) earlier
        ∙ sym (map-append entry_of (all_postings es) (stated_of n e ∷ []))

-- ---- their references

-- the posting's ordinal is one of these requests', and its reference is that of the request
abbrev IsReferenced : List DecidedRequest → StatedPosting → Type 0
IsReferenced es s = (s.posting.ordinal ≤ length es)
    × (reference_row es s.posting.ordinal ≡ option_map (reference_row_of s.posting.ordinal) s.reference)

-- it is still where one more is decided
still_referenced : (e : DecidedRequest) (es : List DecidedRequest) (s : StatedPosting) → IsReferenced es s
    → IsReferenced (e ∷ es) s
still_referenced e es s is = (omega (arith, is.0), rw away is.1)
  where
    away : (length es + 1 == s.posting.ordinal) ≡ false
    away = elim (cases_Bool (length es + 1 == s.posting.ordinal)) [
      | inl t ↦ absurd (let at = eqb-true (length es + 1) s.posting.ordinal t in omega (arith, at, is.0))
      | inr f ↦ f
    ]

each_referenced : (test : DecidedRequest → Bool) (es : List DecidedRequest)
    → AllByRecursion (IsReferenced es) (postings_that test es)
each_referenced test [] = tt
each_referenced test (e ∷ es) =
    last (test e)
    (all_weaker (IsReferenced es) (IsReferenced (e ∷ es)) (still_referenced e es) (postings_that test es)
    (each_referenced test es))
  where
    n : ℕ
    n = length es + 1

    last : (b : Bool) → AllByRecursion (IsReferenced (e ∷ es)) (postings_that test es)
        → AllByRecursion (IsReferenced (e ∷ es))
        (cond b (postings_that test es ++ stated_of n e ∷ []) (postings_that test es))
    last true earlier =
        all-append (IsReferenced (e ∷ es)) (postings_that test es) (stated_of n e ∷ []) earlier
        ((omega arith, rw (eq-eqb n n refl) refl), tt)
    last false earlier = earlier

-- the row of references is the posting's own
own_text : (o : ℕ) (reference : Option (List ℕ))
    → option_map reference_entry (option_map (reference_row_of o) reference)
    ≡ option_map (text_entry o) reference
own_text o None = refl
own_text o (Some text) = refl

pairs_are : (es : List DecidedRequest) (references : List ReferenceRow)
    → ((o : ℕ) → row_at reference_key references o ≡ reference_row es o) → (ss : List StatedPosting)
    → AllByRecursion (IsReferenced es) ss
    → paired (map reference_entry references) (map entry_of ss) ≡ map stated_pair ss
pairs_are es references same [] all = refl
pairs_are es references same (s ∷ ss) all =
    let o = s.posting.ordinal in
    let beside : row_under (map reference_entry references) (pos o) ≡ option_map (text_entry o) s.reference =
    found_row reference_key reference_entry (λ r. refl) o references
    ∙ ap (option_map reference_entry) (same o ∙ all.0.1) ∙ own_text o s.reference in
    rw (beside, pairs_are es references same ss all.1) refl

-- ---- a prefix of them

stated_in : Pair → StatedPosting
stated_in p = record { posting = posting_in p.entry; reference = option_map text_after p.beside }

stated_back : (s : StatedPosting) → stated_in (stated_pair s) ≡ s
unfolding stated_in
stated_back s = go s.reference
  where
    go : (reference : Option (List ℕ))
        → stated_in (stated_pair (record { posting = s.posting; reference = reference }))
        ≡ record { posting = s.posting; reference = reference }
    go None = ap (λ r. record { posting = r; reference = None }) (posting_back s.posting)
    go (Some text) = ap (λ r. record { posting = r; reference = Some text }) (posting_back s.posting)

pub one_entry : (x y : StatedPosting) → stated_pair x ≡ stated_pair y → x ≡ y
one_entry x y same = sym (stated_back x) ∙ ap stated_in same ∙ stated_back y

abbrev first_of : {X : Type 0} → X → List X → X
first_of d [] = d
first_of d (x ∷ xs) = x

abbrev rest_of : {X : Type 0} → List X → List X
rest_of [] = []
rest_of (x ∷ xs) = xs

-- rows that begin with those of some postings
pub prefix : (given ps : List StatedPosting) (rest : List Pair) → map stated_pair given ++ rest
    ≡ map stated_pair ps
    → (more : List StatedPosting) × (ps ≡ given ++ more) × (rest ≡ map stated_pair more)
prefix [] ps rest same = (ps, refl, same)
prefix (g ∷ given) [] rest same = absurd cc
prefix (g ∷ given) (p ∷ ps) rest same = next (prefix given ps rest (tails same))
  where
    tails : stated_pair g ∷ (map stated_pair given ++ rest) ≡ stated_pair p ∷ map stated_pair ps
        → map stated_pair given ++ rest ≡ map stated_pair ps
    tails e = ap rest_of e

    heads : stated_pair g ∷ (map stated_pair given ++ rest) ≡ stated_pair p ∷ map stated_pair ps
        → stated_pair g ≡ stated_pair p
    heads e = ap (first_of (stated_pair g)) e

    next : (more : List StatedPosting) × (ps ≡ given ++ more) × (rest ≡ map stated_pair more)
        → (more : List StatedPosting) × (p ∷ ps ≡ g ∷ (given ++ more))
        × (rest ≡ map stated_pair more)
    next it = (
      it.0,
      ap (λ l. p ∷ l) it.1
          ∙ ap (λ x. x ∷ (given ++ it.0)) (sym (one_entry g p (heads same))),
      it.2,
    )

-- ---- the text

pub lines-append : (line_with : StatedPosting → ℤ → List ℕ) (before : ℤ) (rs more : List StatedPosting)
    → lines_by line_with before (rs ++ more) ≡ lines_by line_with before rs
    ++ lines_by line_with (before +ℤ sum_of rs) more
lines-append line_with before [] more = ap (λ (z : ℤ). lines_by line_with z more) (omega (arith, ints))
lines-append line_with before (r ∷ rs) more =
    ap (λ l. line_with r (before +ℤ delta_of r) ∷ l)
    (lines-append line_with (before +ℤ delta_of r) rs more
    ∙ ap (λ (z : ℤ). lines_by line_with (before +ℤ delta_of r) rs ++ lines_by line_with z more)
    (+ℤ_assoc before (delta_of r) (sum_of rs)))

module _ (a : ℕ) (form : Form) (given : List StatedPosting) where
  -- the statement so far is a prefix of the whole one
  pub text_begins : (more : List StatedPosting) (rest : List Pair) → rest ≡ map stated_pair more
      → (after : List ℕ) × (text_so_far a form given rest ++ after ≡ stated_text a form (given ++ more))
  unfolding stated_text
  text_begins [] rest left = (
    [],
    append-nil _ ∙ ap (λ r. text_so_far a form given r) left
        ∙ ap (λ (rs : List StatedPosting). text_of (stated_lines a form rs)) (sym (append-nil given)),
  )
  text_begins (p ∷ more) rest left =
      let closing = last_of form ∷ [] in
      let lines = form_lines form given in
      let later = lines_by (line_of form) (pos 0 +ℤ sum_of given) (p ∷ more) in
      let all : lines ++ later ≡ form_lines form (given ++ p ∷ more) =
      sym (lines-append (line_of form) (pos 0) given (p ∷ more)) in (
        text_of (later ++ closing),
        ap (λ r. text_so_far a form given r ++ text_of (later ++ closing)) left
            ∙ ap (λ l. text_of (heading_of form a ∷ names_of form ∷ l) ++ text_of (later ++ closing))
            (append-nil lines)
            ∙ sym (text_of-append (heading_of form a ∷ names_of form ∷ lines) (later ++ closing))
            ∙ ap (λ l. text_of (heading_of form a ∷ names_of form ∷ l))
            (sym (append_assoc lines later closing) ∙ ap (λ l. l ++ closing) all),
      )

  -- with the last posting it is whole
  pub text_ends : (more : List StatedPosting) → [] ≡ map stated_pair more
      → text_so_far a form given [] ≡ stated_text a form (given ++ more)
  unfolding stated_text
  text_ends [] left = ap (λ (rs : List StatedPosting). text_of (stated_lines a form rs)) (sym (append-nil given))
  text_ends (p ∷ more) left = absurd cc

-- the statement of all postings is that of the log
pub form_is : (a : ℕ) (log : List Command) (form : Form)
    → stated_text a form (postings_to a (decided log)) ≡ statement_in log a form
unfolding stated_text
form_is a log form =
    ap (λ l. text_of (heading_of form a ∷ names_of form ∷ (l ++ last_of form ∷ []))) (lines_are form a (decided log))

-- the postings of an account in a file that shows a log
pub account_rows : (db : Database) (t : Tables) (log : List Command) (a : ℕ) → Shows db t
    → AreTablesOf t log
    → filter (is_stated_of (Some a)) (stated_rows t) ≡ map stated_pair (postings_to a (decided log))
account_rows db t log a in_file shows =
    let es = decided log in
    let others = map reference_entry t.references in
    paired_filter others (is_of (Some a)) (map history_entry t.history)
    ∙ ap (λ h. paired others (filter (is_of (Some a)) (map history_entry h)))
    (history_is db t log in_file shows)
    ∙ ap (paired others) (history_of_account a es)
    ∙ pairs_are es t.references shows.rows.references (postings_to a es) (each_referenced (is_posted_to a) es)

-- all postings in it
pub all_rows : (db : Database) (t : Tables) (log : List Command) → Shows db t → AreTablesOf t log
    → stated_rows t ≡ map stated_pair (all_postings (decided log))
all_rows db t log in_file shows =
    let es = decided log in
    let others = map reference_entry t.references in
    ap (λ h. paired others (map history_entry h)) (history_is db t log in_file shows)
    ∙ ap (paired others) (history_of_all es)
    ∙ pairs_are es t.references shows.rows.references (all_postings es) (each_referenced is_posted es)
