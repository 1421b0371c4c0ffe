-- A kept row that can't be read, or is that of no request, breaks the rule that is told.
use Rattle.std.proofs.Common.{◌≡◌, ◌≢◌, ◌⊎◌, ◌≤◌, ◌++◌, ℕ, ℤ, pos, negsuc, Bool, true, List, [], ◌∷◌, filter}
use Rattle.std.proofs.Common.{Option, Some, None, Result, Ok, Err, refl, sym, ap, subst, inl, inr, arith, eqb}
use Rattle.std.specs.{Option.ok_or, Prelude.IsSomeAnd, Prelude.nat_abs, Prelude.nat_le, Prelude.◌&&◌}
use Rattle.std.specs.List.{AllByRecursion}
use Rattle.std.proofs.lemmas.{Bool.and_parts, Bool.cases_Bool, Bool.Decides.nat_tests, Bool.eqb-true}
use Rattle.sqlite.specs.Effect.{Database}
use Rattle.sqlite.specs.declared.types.Value.TheVariants.{Int}
use Rattle.message_records.specs.believed.{Outcomes.code_of, Outcomes.outcome_with, Outcomes.outcomes, Reading.◌>>=◌}
use Rattle.message_records.specs.declared.limits.TheConstants.{MAX_ACCOUNT, MAX_BALANCE, MAX_BRANCH, MAX_DELTA}
use Rattle.message_records.specs.declared.limits.TheConstants.{MAX_MOMENT, MAX_NUMBER, MAX_TELLER}
use Rattle.message_records.specs.declared.records.Outcome.{Outcome}
use Rattle.posting_rules.specs.believed.Kept.{is_kept, is_kept_with}
use Rattle.posting_rules.specs.declared.fault.Rule.{Rule}
use Rattle.posting_rules.specs.declared.fault.Rule.TheVariants.{Key, Request, Value as OfValue}
use Rattle.posting_rules.specs.declared.limits.TheConstants.{MAX_DECIDED}
use Rattle.sql_meanings.specs.believed.Entries.{Entry, HasWidth, has_key}
use Rattle.sql_meanings.proofs.Changes.{found_all, found_key, found_passes}
use Rattle.store_rows.specs.believed.BankTables as bank
use Rattle.store_rows.specs.believed.Readings.{cents, decision_of, outcome_of, read_posting, read_reference}
use Rattle.store_rows.specs.believed.Readings.{read_request, reference, whole}
use Rattle.store_rows.specs.believed.Rules.{EachKeeps, IsBroken, NoneBreaks, OfRows}
use Rattle.store_rows.specs.believed.SeveralRows.{given}
use Rattle.store_rows.proofs.StoredRows.{holds_list}
use Rattle.walked_rows.specs.KeptRows.{BreaksKept, HoldsKept, IsOrdinal, KeptItem, kept_all, kept_key, kept_with}
use Rattle.walked_rows.specs.Pairs.{row_under}
use Rattle.walked_rows.specs.References.{BreaksReference}
use Rattle.walked_rows.specs.Requests.{IsAnsweredRow, IsFrom, IsNoRequest}
use Rattle.walked_rows.specs.Rows.{items_from}
use Rattle.walked_rows.specs.{StepOutcomes.BreaksBy, Stored.posting_of, Stored.request_of}
use Rattle.walked_rows.proofs.Unbroken.{all_after, in_range}

-- ---- a column

-- it breaks the rule, or it is read so
abbrev Tells : {A : Type 0} → Result A Rule → Rule → (A → Type 0) → Type 0
Tells {A} r rule P = (r ≡ Err rule) ⊎ ((x : A) × (r ≡ Ok x) × P x)

next : {A B : Type 0} {P : A → Type 0} (Q : Type 0) (r : Result A Rule) (f : A → Result B Rule) (rule : Rule)
    → Tells r rule P → ((x : A) → P x → (f x ≡ Err rule) ⊎ Q) → ((r >>= f) ≡ Err rule) ⊎ Q
next Q r f rule (inl broken) more = inl (rw broken refl)
next Q r f rule (inr read) more = elim (more read.0 read.2) [
  | inl broken ↦ inl (rw read.1 broken)
  | inr holds ↦ inr holds
]

within : (least most n : ℕ) → (nat_le least n && nat_le n most) ≡ true → (least ≤ n) × (n ≤ most)
within least most n t =
    let both = and_parts (nat_le least n) (nat_le n most) t in
    let low = both.0 in
    let high = both.1 in
    (grind (arith, nat_tests, low), grind (arith, nat_tests, high))

whole_told : (least most : ℕ) (rule : Rule) (z : ℤ)
    → Tells (whole least most rule (Int z)) rule (λ n. (z ≡ pos n) × (least ≤ n) × (n ≤ most))
whole_told least most rule (pos n) = elim (cases_Bool (nat_le least n && nat_le n most)) [
  | inl t ↦ inr (n, rw t refl, (refl, (within least most n t).0, (within least most n t).1))
  | inr f ↦ inl (rw f refl)
]
whole_told least most rule (negsuc n) = inl refl

cents_told : (limit : ℕ) (rule : Rule) (z : ℤ) → Tells (cents limit rule (Int z)) rule (λ x. nat_abs z ≤ limit)
cents_told limit rule z = elim (cases_Bool (nat_le (nat_abs z) limit)) [
  | inl t ↦ inr (z, rw t refl, grind (arith, nat_tests, t))
  | inr f ↦ inl (rw f refl)
]

code_found : (n : ℕ) (o : Outcome) → outcome_with n ≡ Some o → n ≡ code_of o
code_found n o is = sym (eqb-true (code_of o) n (found_passes (λ x. eqb (code_of x) n) outcomes o is))

outcome_told : (z : ℤ) → Tells (outcome_of (Int z)) Request (λ o. z ≡ pos (code_of o))
outcome_told (pos n) = coded (outcome_with n) refl
  where
    coded : (found : Option Outcome) → outcome_with n ≡ found
        → Tells (outcome_of (Int (pos n))) Request (λ o. pos n ≡ pos (code_of o))
    coded None is = inl (ap (λ (o : Option Outcome). ok_or o Request) is)
    coded (Some o) is = inr (
      o,
      ap (λ (o : Option Outcome). ok_or o Request) is,
      ap (λ m. pos m) (code_found n o is),
    )
outcome_told (negsuc n) = inl refl

errors_same : {X : Type 0} (a b : Rule) → (let r : Result X Rule = Err a in r) ≡ Err b → a ≡ b
errors_same a b is = cc

-- ---- a row that can't be read

abbrev request_row : (k a b c d e f g : ℤ) → Entry
request_row k a b c d e f g = record { key = k; values = a ∷ b ∷ c ∷ d ∷ e ∷ f ∷ g ∷ []; texts = [] }

abbrev posting_row : (k a b c d e : ℤ) → Entry
posting_row k a b c d e = record { key = k; values = a ∷ b ∷ c ∷ d ∷ e ∷ []; texts = [] }

own_broken : (rule : Rule) (k a b c d e f g : ℤ) → BreaksBy request_of rule (request_row k a b c d e f g)
    → read_request (request_row k a b c d e f g) ≡ Err rule
own_broken rule k a b c d e f g broke = elim (whole_told 1 MAX_DECIDED OfValue k) [
  | inl broken ↦ (let same = errors_same OfValue rule (rw broken at broke) in rw (broken, same) refl)
  | inr read ↦ absurd (let it = rw read.1 at broke in cc)
]

posting_broken : (rule : Rule) (k a b c d e : ℤ) → BreaksBy posting_of rule (posting_row k a b c d e)
    → read_posting (posting_row k a b c d e) ≡ Err rule
posting_broken rule k a b c d e broke = elim (whole_told 1 MAX_DECIDED OfValue k) [
  | inl broken ↦ (let same = errors_same OfValue rule (rw broken at broke) in rw (broken, same) refl)
  | inr read ↦ elim (whole_told 0 MAX_MOMENT OfValue e) [
    | inl late ↦
        (let same = errors_same OfValue rule (rw (read.1, late) at broke) in rw (read.1, late, same) refl)
    | inr last ↦ absurd (let it = rw (read.1, last.1) at broke in cc)
  ]
]

-- an ordinal is read
ordinal_read : (z : ℤ) → IsOrdinal z → (n : ℕ) × (whole 1 MAX_DECIDED OfValue (Int z) ≡ Ok n)
ordinal_read z is = (
  is.0,
  subst (λ x. whole 1 MAX_DECIDED OfValue (Int x) ≡ Ok is.0) (sym is.1)
      (ap (λ (o : Option ℕ). ok_or o OfValue) (in_range 1 MAX_DECIDED is.0 is.2 is.3)),
)

text_broken : (rule : Rule) (f : Entry) → IsOrdinal f.key → BreaksReference rule f → read_reference f ≡ Err rule
text_broken rule f ordinal broke = let it = ordinal_read f.key ordinal in rw (it.1, broke) refl

-- ---- a row of no request

-- what is decided of it
abbrev Decided : (c d e f g : ℤ) → Type 0
Decided c d e f g = IsFrom 1 MAX_ACCOUNT c × IsFrom 1 MAX_BRANCH d × (nat_abs e ≤ MAX_DELTA)
    × ((o : Outcome) × (f ≡ pos (code_of o)) × (is_kept o ≡ true)) × (nat_abs g ≤ MAX_BALANCE)

decision_told : (k a b c d e f g : ℤ)
    → (decision_of (given (request_row k a b c d e f g)) ≡ Err Request) ⊎ Decided c d e f g
decision_told k a b c d e f g =
    next _ (whole 1 MAX_ACCOUNT Request (Int c)) _ Request (whole_told 1 MAX_ACCOUNT Request c) (λ account account_is.
    next _ (whole 1 MAX_BRANCH Request (Int d)) _ Request (whole_told 1 MAX_BRANCH Request d) (λ branch branch_is.
    next _ (cents MAX_DELTA Request (Int e)) _ Request (cents_told MAX_DELTA Request e) (λ delta delta_is.
    next _ (outcome_of (Int f)) _ Request (outcome_told f) (λ o code.
    next _ (cents MAX_BALANCE Request (Int g)) _ Request (cents_told MAX_BALANCE Request g) (λ balance balance_is.
    elim (cases_Bool (is_kept_with o balance)) [
      | inl t ↦ inr (
        (account, account_is.0, account_is.1, account_is.2),
        (branch, branch_is.0, branch_is.1, branch_is.2),
        delta_is,
        (o, code, (and_parts _ _ t).0),
        balance_is,
      )
      | inr f ↦ inl (rw f refl)
    ])))))

answered : (k a b c d e f g : ℤ) (posting reference : Option Entry) → IsOrdinal k
    → (read_request (request_row k a b c d e f g) ≡ Err Request)
    ⊎ IsAnsweredRow (record {
      entry = request_row k a b c d e f g;
      posting = posting;
      reference = reference;
    })
answered k a b c d e f g posting reference ordinal =
    let it = ordinal_read k ordinal in
    next {P = λ n. Unit {0}} _ (whole 1 MAX_DECIDED OfValue (Int k)) _ Request (inr (it.0, it.1, tt)) (λ n n_is.
    next _ (whole 1 MAX_TELLER Request (Int a)) _ Request (whole_told 1 MAX_TELLER Request a) (λ teller teller_is.
    next _ (whole 1 MAX_NUMBER Request (Int b)) _ Request (whole_told 1 MAX_NUMBER Request b) (λ number number_is.
    elim (decision_told k a b c d e f g) [
      | inl broken ↦ inl (rw broken refl)
      | inr decided ↦ inr (
        record {
          account = decided.0;
          teller = (teller, teller_is.0, teller_is.1, teller_is.2);
          branch = decided.1;
          number = (number, number_is.0, number_is.1, number_is.2);
          delta = decided.2;
        },
        record { outcome = decided.3; balance = λ posted. decided.4 },
      )
    ])))

-- ---- rows that keep a rule

some_and : {X : Type 0} (P : X → Type 0) (o : Option X) → IsSomeAnd o P → (x : X) × (o ≡ Some x) × P x
some_and P None h = absurd h
some_and P (Some x) h = (x, refl, h)

-- it can't be read, by this rule, or it is that of no request
abbrev pub IsBad : Rule → KeptItem → Type 0
IsBad rule k = BreaksKept rule k ⊎ ((rule ≡ Request) × IsNoRequest k)

module _ (rule : Rule) (ps fs : List Entry) (postings : NoneBreaks rule read_posting ps)
    (texts : NoneBreaks rule read_reference fs) (wide : AllByRecursion (λ e. HasWidth (5, 0) e) ps) where
  posting_kept : (k : ℤ) → IsSomeAnd (row_under ps k) (BreaksBy posting_of rule) → ⊥
  posting_kept k h =
      let it = some_and (BreaksBy posting_of rule) (row_under ps k) h in
      read it.0.key it.0.values it.0.texts
      (found_all (λ e. HasWidth (5, 0) e) (has_key k) ps it.0 wide it.1)
      (found_all (λ e. read_posting e ≢ Err rule) (has_key k) ps it.0 postings it.1) it.2
    where
      read : (key : ℤ) (values : List ℤ) (texts : List (List ℕ))
          → HasWidth (5, 0) (record { key = key; values = values; texts = texts })
          → read_posting (record { key = key; values = values; texts = texts }) ≢ Err rule
          → BreaksBy posting_of rule (record { key = key; values = values; texts = texts }) → ⊥
      read key (a ∷ b ∷ c ∷ d ∷ e ∷ []) [] width keeps broke = keeps (posting_broken rule key a b c d e broke)
      read key [] texts width keeps broke = absurd (omega (arith, width.0))
      read key (a ∷ []) texts width keeps broke = absurd (omega (arith, width.0))
      read key (a ∷ b ∷ []) texts width keeps broke = absurd (omega (arith, width.0))
      read key (a ∷ b ∷ c ∷ []) texts width keeps broke = absurd (omega (arith, width.0))
      read key (a ∷ b ∷ c ∷ d ∷ []) texts width keeps broke = absurd (omega (arith, width.0))
      read key (a ∷ b ∷ c ∷ d ∷ e ∷ f ∷ more) texts width keeps broke = absurd (omega (arith, width.0))
      read key (a ∷ b ∷ c ∷ d ∷ e ∷ []) (t ∷ texts) width keeps broke = absurd (omega (arith, width.1))

  text_kept : (k : ℤ) → IsOrdinal k → IsSomeAnd (row_under fs k) (BreaksReference rule) → ⊥
  text_kept k ordinal h =
      let it = some_and (BreaksReference rule) (row_under fs k) h in
      found_all (λ e. read_reference e ≢ Err rule) (has_key k) fs it.0 texts it.1
      (text_broken rule it.0 (subst IsOrdinal (sym (found_key k fs it.0 it.1)) ordinal) it.2)

  own_kept : (key : ℤ) (values : List ℤ) (texts : List (List ℕ)) (posting reference : Option Entry)
      → HasWidth (7, 0) (record { key = key; values = values; texts = texts })
      → read_request (record { key = key; values = values; texts = texts }) ≢ Err rule
      → (BreaksBy request_of rule (record { key = key; values = values; texts = texts })
      ⊎ ((rule ≡ Request) × IsNoRequest (record {
        entry = record { key = key; values = values; texts = texts };
        posting = posting;
        reference = reference;
      }))) → ⊥
  own_kept key (a ∷ b ∷ c ∷ d ∷ e ∷ f ∷ g ∷ []) [] posting reference width keeps (inl broke) =
      keeps (own_broken rule key a b c d e f g broke)
  own_kept key (a ∷ b ∷ c ∷ d ∷ e ∷ f ∷ g ∷ []) [] posting reference width keeps (inr none) =
      elim (answered key a b c d e f g posting reference none.1.0) [
        | inl broken ↦ keeps (rw none.0 broken)
        | inr is ↦ none.1.1 is
      ]
  own_kept key [] texts posting reference width keeps bad = absurd (omega (arith, width.0))
  own_kept key (a ∷ []) texts posting reference width keeps bad = absurd (omega (arith, width.0))
  own_kept key (a ∷ b ∷ []) texts posting reference width keeps bad = absurd (omega (arith, width.0))
  own_kept key (a ∷ b ∷ c ∷ []) texts posting reference width keeps bad = absurd (omega (arith, width.0))
  own_kept key (a ∷ b ∷ c ∷ d ∷ []) texts posting reference width keeps bad = absurd (omega (arith, width.0))
  own_kept key (a ∷ b ∷ c ∷ d ∷ e ∷ []) texts posting reference width keeps bad = absurd (omega (arith, width.0))
  own_kept key (a ∷ b ∷ c ∷ d ∷ e ∷ f ∷ []) texts posting reference width keeps bad =
      absurd (omega (arith, width.0))
  own_kept key (a ∷ b ∷ c ∷ d ∷ e ∷ f ∷ g ∷ h ∷ more) texts posting reference width keeps bad =
      absurd (omega (arith, width.0))
  own_kept key (a ∷ b ∷ c ∷ d ∷ e ∷ f ∷ g ∷ []) (t ∷ texts) posting reference width keeps bad =
      absurd (omega (arith, width.1))

  one_kept : (e : Entry) → HasWidth (7, 0) e → read_request e ≢ Err rule → IsBad rule (kept_with ps fs e) → ⊥
  one_kept e width keeps (inl (inl (inl own))) =
      own_kept e.key e.values e.texts (row_under ps e.key) (row_under fs e.key) width keeps (inl own)
  one_kept e width keeps (inl (inl (inr posting))) = posting_kept e.key posting
  one_kept e width keeps (inl (inr text)) = text_kept e.key text.0 text.1
  one_kept e width keeps (inr none) =
      own_kept e.key e.values e.texts (row_under ps e.key) (row_under fs e.key) width keeps (inr none)

  each_kept : (es : List Entry) → AllByRecursion (λ e. HasWidth (7, 0) e) es → NoneBreaks rule read_request es
      → AllByRecursion (λ k. IsBad rule k → ⊥) (kept_all ps fs es)
  each_kept [] wide keeps = tt
  each_kept (e ∷ es) wide keeps = (one_kept e wide.0 keeps.0, each_kept es wide.1 keeps.1)

-- ---- a file

all_filter : {X : Type 0} (P : X → Type 0) (p : X → Bool) (xs : List X) → AllByRecursion P xs
    → AllByRecursion P (filter p xs)
all_filter P p [] all = tt
all_filter P p (x ∷ xs) all = elim (cases_Bool (p x)) [
  | inl t ↦ rw t (all.0, all_filter P p xs all.1)
  | inr f ↦ rw f (all_filter P p xs all.1)
]

by_each : (rule : Rule) (db : Database) → OfRows (λ rows. ¬ EachKeeps rule rows) db → IsBroken rule db
by_each Key db of = of
by_each rule db of = λ rows has keeps. of rows has keeps.0

-- a row that is bad is among those that come from a number on, of whatever rows the file holds
pub row_broken : (db : Database) (rule : Rule) (from : ℤ)
    → ((all : List KeptItem) → HoldsKept db all → (before : List KeptItem) × (k : KeptItem) × (more : List KeptItem)
    × (items_from kept_key from all ≡ before ++ k ∷ more) × IsBad rule k) → IsBroken rule db
row_broken db rule from bad = by_each rule db (λ rows has keeps.
    let history = holds_list db rows has 4 bank.history rows.history refl refl in
    let requests = holds_list db rows has 5 bank.request rows.requests refl refl in
    let references = holds_list db rows has 7 bank.reference rows.references refl refl in
    let all = kept_all rows.history rows.references rows.requests in
    let it = bad all (record {
      rows = rows.requests;
      postings = rows.history;
      references = rows.references;
      has = record { sound = has.sound; holds = requests };
      has_postings = record { sound = has.sound; holds = history };
      has_references = record { sound = has.sound; holds = references };
      are = refl;
    }) in
    let each = each_kept rule rows.history rows.references keeps.history keeps.references history.rows.wide
    rows.requests requests.rows.wide keeps.requests in
    let left = subst (AllByRecursion (λ k. IsBad rule k → ⊥)) it.3
    (all_filter (λ k. IsBad rule k → ⊥) _ all each) in
    (all_after (λ k. IsBad rule k → ⊥) it.0 (it.1 ∷ it.2) left).0 it.4)
