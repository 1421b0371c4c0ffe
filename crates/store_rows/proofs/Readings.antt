-- What the columns of a row were, where they were read; and that sound rows read as themselves.
use Rattle.std.proofs.Common.{◌≡◌, ◌≤◌, ◌≤ℤ◌, ◌*◌, ◌++◌, ℕ, zero, suc, ℤ, pos, negsuc, Bool, true, false, cond, List, []}
use Rattle.std.proofs.Common.{◌∷◌, Some, None, Result, Ok, Err, refl, ap, subst, ◌∙◌, arith, inl, inr}
use Rattle.std.specs.{Prelude.◌&&◌, Prelude.◌==◌, Prelude.IsTrue, Prelude.int_lt, Prelude.nat_abs, Prelude.nat_le, Prelude.slice_index_or}
use Rattle.std.specs.Option.{ok_or}
use Rattle.std.proofs.lemmas.{Bool.Decides.nat_tests, Bool.and_parts, Bool.cases_Bool, Bool.eqb-true, Int.ints}
use Rattle.sqlite.specs.Order.{Row, column}
use Rattle.sqlite.specs.declared.types.Value.{Value, TheVariants.Blob, TheVariants.Int, TheVariants.Null}
use Rattle.sqlite.specs.declared.types.Value.TheVariants.{Real, Text}
use Rattle.message_records.specs.believed.Reading.{◌>>=◌}
use Rattle.message_records.specs.believed.Ranges.{cents_within, whole_within}
use Rattle.message_records.specs.declared.limits.TheConstants.{MAX_ACCOUNT, MAX_BALANCE, MAX_BRANCH, MAX_DELTA}
use Rattle.message_records.specs.declared.limits.TheConstants.{MAX_MOMENT, MAX_NUMBER, MAX_TELLER}
use Rattle.message_records.proofs.SpelledReplies.{outcome_with-code}
use Rattle.posting_rules.specs.believed.Damage.{IsSoundAccount, IsSoundBranch, IsSoundFloor, IsSoundPosting}
use Rattle.posting_rules.specs.believed.Closings.{is_closing, run_of}
use Rattle.posting_rules.specs.believed.Damage.{IsSoundClosing, IsSoundReference, IsSoundRequest, IsSoundTeller}
use Rattle.posting_rules.specs.declared.fault.Rule.{Rule, TheVariants.Balance, TheVariants.Closing, TheVariants.Floor}
use Rattle.posting_rules.specs.declared.fault.Rule.TheVariants.{Value as OfValue}
use Rattle.posting_rules.specs.declared.limits.TheConstants.{ACCOUNTS_PER_BRANCH, LAST_BRANCH, MAX_ACCOUNTS}
use Rattle.posting_rules.specs.declared.limits.TheConstants.{LAST_KEY, MAX_DECIDED, TELLERS_PER_BRANCH}
use Rattle.posting_rules.specs.declared.rows.{AccountRow.AccountRow, BranchRow.BranchRow, ClosingRow.ClosingRow, FloorRow.FloorRow}
use Rattle.posting_rules.specs.declared.rows.{HistoryRow.HistoryRow, ReferenceRow.ReferenceRow, RequestRow.RequestRow}
use Rattle.posting_rules.specs.declared.rows.TellerRow.{TellerRow}
use Rattle.sql_meanings.specs.believed.Entries.{Entry, numbers, texts_held}
use Rattle.store_rows.specs.believed.{Columns.number_at, SeveralRows.given}
use Rattle.store_rows.specs.believed.Readings.{branch_of, cents, closing_of, floor_of, lowest}
use Rattle.store_rows.specs.believed.Readings.{read_account, read_balance, read_branch, read_floor}
use Rattle.store_rows.specs.believed.Readings.{read_closing, read_posting, read_reference, read_request, read_teller}
use Rattle.store_rows.specs.believed.Readings.{whole}
use Rattle.store_rows.specs.believed.View.{account_entry, branch_entry, floor_entry, history_entry, reference_entry}
use Rattle.store_rows.specs.believed.View.{closing_entry, request_entry, teller_entry}

-- ---- one column

-- what comes next was read too
pub then_ok : {A B : Type 0} (r : Result A Rule) (f : A → Result B Rule) (b : B) → r >>= f ≡ Ok b
    → (a : A) × (r ≡ Ok a) × (f a ≡ Ok b)
then_ok (Ok a) f b is = (a, refl, is)
then_ok (Err rule) f b is = absurd cc

le_of : (a b : ℕ) → nat_le a b ≡ true → a ≤ b
le_of a b is = grind (arith, nat_tests)

within : (least most k n : ℕ) (rule : Rule) → ok_or (whole_within least most k) rule ≡ Ok n
    → (k ≡ n) × (least ≤ n) × (n ≤ most)
within least most k n rule is = go (nat_le least k) (nat_le k most) refl refl is
  where
    go : (a b : Bool) → nat_le least k ≡ a → nat_le k most ≡ b → ok_or (cond (a && b) (Some k) None) rule ≡ Ok n
        → (k ≡ n) × (least ≤ n) × (n ≤ most)
    go true true low high is =
        let same : k ≡ n = cc in
        (same, subst (λ j. least ≤ j) same (le_of least k low), subst (λ j. j ≤ most) same (le_of k most high))
    go true false low high is = absurd cc
    go false b low high is = absurd cc

-- a whole number in its range
whole_ok : (least most : ℕ) (rule : Rule) (v : Value) (n : ℕ) → whole least most rule v ≡ Ok n
    → (v ≡ Int (pos n)) × (least ≤ n) × (n ≤ most)
whole_ok least most rule (Int (pos k)) n is =
    let it = within least most k n rule is in (ap (λ j. Int (pos j)) it.0, it.1, it.2)
whole_ok least most rule (Int (negsuc k)) n is = absurd cc
whole_ok least most rule Null n is = absurd cc
whole_ok least most rule (Real x) n is = absurd cc
whole_ok least most rule (Text t) n is = absurd cc
whole_ok least most rule (Blob b) n is = absurd cc

-- an amount
cents_ok : (limit : ℕ) (rule : Rule) (v : Value) (z : ℤ) → cents limit rule v ≡ Ok z
    → (v ≡ Int z) × (nat_abs z ≤ limit)
cents_ok limit rule (Int y) z is = go (nat_le (nat_abs y) limit) refl is
  where
    go : (b : Bool) → nat_le (nat_abs y) limit ≡ b → ok_or (cond b (Some y) None) rule ≡ Ok z
        → (Int y ≡ Int z) × (nat_abs z ≤ limit)
    go true low is = let same : y ≡ z = cc in
        (ap (λ x. Int x) same, subst (λ x. nat_abs x ≤ limit) same (le_of (nat_abs y) limit low))
    go false low is = absurd cc
cents_ok limit rule Null z is = absurd cc
cents_ok limit rule (Real x) z is = absurd cc
cents_ok limit rule (Text t) z is = absurd cc
cents_ok limit rule (Blob b) z is = absurd cc

not_positive : (z : ℤ) → int_lt (pos 0) z ≡ false → z ≤ℤ pos 0
not_positive z is = grind (arith, ints)

-- a floor
lowest_ok : (v : Value) (z : ℤ) → lowest v ≡ Ok z → (v ≡ Int z) × (z ≤ℤ pos 0)
lowest_ok v z is =
    let amount = then_ok (cents MAX_BALANCE Floor v) _ z is in
    let last = go amount.0 (int_lt (pos 0) amount.0) refl amount.2 in
    ((cents_ok MAX_BALANCE Floor v amount.0 amount.1).0 ∙ ap (λ x. Int x) last.0, last.1)
  where
    go : (y : ℤ) (b : Bool) → int_lt (pos 0) y ≡ b → ◌≡◌ {A = Result ℤ Rule} (cond b (Err Floor) (Ok y)) (Ok z)
        → (y ≡ z) × (z ≤ℤ pos 0)
    go y true is it = absurd cc
    go y false is it = let same : y ≡ z = cc in (same, subst (λ x. x ≤ℤ pos 0) same (not_positive y is))

-- ---- the columns of a row

-- what a column shows of the numbers after the key
number_is : (at : ℕ) (values : List ℤ) (texts : List (List ℕ)) (z : ℤ)
    → slice_index_or (numbers values ++ texts_held texts) at Null ≡ Int z → slice_index_or values at (pos 0) ≡ z
number_is at [] texts z is = absurd (no_number at texts is)
  where
    no_number : (at : ℕ) (texts : List (List ℕ)) → slice_index_or (texts_held texts) at Null ≡ Int z → ⊥
    no_number at [] is = cc
    no_number zero (t ∷ texts) is = cc
    no_number (suc at) (t ∷ texts) is = no_number at texts is
number_is zero (v ∷ values) texts z is = cc
number_is (suc at) (v ∷ values) texts z is = number_is at values texts z is

same_number : (a b : ℤ) → Int a ≡ Int b → a ≡ b
same_number a b is = cc

pub balance_is : (e : Entry) (z : ℤ) → read_balance e ≡ Ok z → number_at 0 e ≡ z
balance_is e z is = number_is 0 e.values e.texts z (cents_ok MAX_BALANCE Balance (column (given e) 1) z is).0

-- the columns of a branch, and their ranges
pub branch_parts : (row : Row) (b : BranchRow) → branch_of row ≡ Ok b
    → (column row 0 ≡ Int (pos b.branch)) × (column row 1 ≡ Int (pos b.accounts)) × (column row 2 ≡ Int b.balance)
    × IsSoundBranch b
branch_parts row b is =
    let one = then_ok (whole 1 LAST_BRANCH OfValue (column row 0)) _ b is in
    let two = then_ok (whole 1 MAX_ACCOUNTS OfValue (column row 1)) _ b one.2 in
    let three = then_ok (cents MAX_BALANCE Balance (column row 2)) _ b two.2 in
    let its : BranchRow = record { branch = one.0; accounts = two.0; balance = three.0 } in
    let same : its ≡ b = (let last = three.2 in cc) in
    let n = whole_ok 1 LAST_BRANCH OfValue (column row 0) one.0 one.1 in
    let k = whole_ok 1 MAX_ACCOUNTS OfValue (column row 1) two.0 two.1 in
    let z = cents_ok MAX_BALANCE Balance (column row 2) three.0 three.1 in
    subst (λ (r : BranchRow). (column row 0 ≡ Int (pos r.branch)) × (column row 1 ≡ Int (pos r.accounts))
    × (column row 2 ≡ Int r.balance) × IsSoundBranch r) same
    (n.0, k.0, z.0, record { some = n.1; most = n.2; few = k.1; many = k.2; balance = z.1 })

pub sound_branch : (row : Row) (b : BranchRow) → branch_of row ≡ Ok b → IsSoundBranch b
sound_branch row b is = (branch_parts row b is).3

pub branch_is : (e : Entry) (b : BranchRow) → read_branch e ≡ Ok b
    → (e.key ≡ pos b.branch) × (number_at 0 e ≡ pos b.accounts) × (number_at 1 e ≡ b.balance)
branch_is e b is =
    let parts = branch_parts (given e) b is in (
      same_number _ _ parts.0,
      number_is 0 e.values e.texts (pos b.accounts) parts.1,
      number_is 1 e.values e.texts b.balance parts.2,
    )

floor_parts : (row : Row) (f : FloorRow) → floor_of row ≡ Ok f
    → (column row 1 ≡ Int f.lowest) × (f.lowest ≤ℤ pos 0)
floor_parts row f is =
    let one = then_ok (whole 1 LAST_BRANCH OfValue (column row 0)) _ f is in
    let two = then_ok (lowest (column row 1)) _ f one.2 in
    let its : FloorRow = record { branch = one.0; lowest = two.0 } in
    let same : its ≡ f = (let last = two.2 in cc) in
    subst (λ (r : FloorRow). (column row 1 ≡ Int r.lowest) × (r.lowest ≤ℤ pos 0)) same
    (lowest_ok (column row 1) two.0 two.1)

pub low_floor : (row : Row) (f : FloorRow) → floor_of row ≡ Ok f → f.lowest ≤ℤ pos 0
low_floor row f is = (floor_parts row f is).1

pub floor_is : (e : Entry) (f : FloorRow) → read_floor e ≡ Ok f → number_at 0 e ≡ f.lowest
floor_is e f is = number_is 0 e.values e.texts f.lowest (floor_parts (given e) f is).0

-- the keys of closed numbers
pub closing_parts : (row : Row) (r : ClosingRow) → closing_of row ≡ Ok r
    → (column row 0 ≡ Int (pos r.last)) × (column row 1 ≡ Int (pos r.first)) × (r.last ≤ LAST_KEY)
closing_parts row r is =
    let one = then_ok (whole 0 LAST_KEY Closing (column row 0)) _ r is in
    let two = then_ok (whole 0 LAST_KEY Closing (column row 1)) _ r one.2 in
    let last = whole_ok 0 LAST_KEY Closing (column row 0) one.0 one.1 in
    let first = whole_ok 0 LAST_KEY Closing (column row 1) two.0 two.1 in
    subst (λ (s : ClosingRow). (column row 0 ≡ Int (pos s.last)) × (column row 1 ≡ Int (pos s.first)) × (s.last ≤ LAST_KEY))
    (go (is_closing two.0 one.0) (run_of two.0 one.0) two.2) (last.0, first.0, last.2)
  where
    go : (b : Bool) (s : ClosingRow) → ◌≡◌ {A = Result ClosingRow Rule} (cond b (Ok s) (Err Closing)) (Ok r) → s ≡ r
    go true s it = cc
    go false s it = absurd cc

pub closing_is : (e : Entry) (r : ClosingRow) → read_closing e ≡ Ok r → (e.key ≡ pos r.last) × (number_at 0 e ≡ pos r.first)
closing_is e r is =
    let parts = closing_parts (given e) r is in
    (same_number _ _ parts.0, number_is 0 e.values e.texts (pos r.first) parts.1)

-- ---- sound rows read as themselves

in_range : (least most n : ℕ) → least ≤ n → n ≤ most → whole_within least most n ≡ Some n
in_range least most n low high = let test : (nat_le least n && nat_le n most) ≡ true =
    grind (arith, nat_tests) in rw test refl

in_limit : (limit : ℕ) (z : ℤ) → nat_abs z ≤ limit → cents_within limit z ≡ Some z
in_limit limit z le = let test : nat_le (nat_abs z) limit ≡ true = grind (arith, nat_tests) in rw test refl

low_enough : (z : ℤ) → z ≤ℤ pos 0 → int_lt (pos 0) z ≡ false
low_enough z le = grind (arith, ints)

pub in_order : (first last : ℕ) → IsTrue (is_closing first last) → first ≤ last
in_order first last is = elim (cases_Bool (first == 0 && last == 0)) [
  | inl nought ↦ let two = and_parts (first == 0) (last == 0) nought in omega (arith, eqb-true first 0 two.0)
  | inr other ↦ le_of first last (and_parts (nat_le first last) _ (rw other at is)).0
]

pub branch_back : (r : BranchRow) → IsSoundBranch r → read_branch (branch_entry r) ≡ Ok r
branch_back r is = rw (
  in_range 1 LAST_BRANCH r.branch is.some is.most,
  in_range 1 MAX_ACCOUNTS r.accounts is.few is.many,
  in_limit MAX_BALANCE r.balance is.balance,
) refl

-- a balance alone
pub balance_back : (key z : ℤ) → nat_abs z ≤ MAX_BALANCE
    → read_balance (record { key = key; values = z ∷ []; texts = [] }) ≡ Ok z
balance_back key z le = rw (in_limit MAX_BALANCE z le) refl

pub teller_back : (r : TellerRow) → IsSoundTeller r → read_teller (teller_entry r) ≡ Ok r
teller_back r is = rw (
  in_limit MAX_BALANCE r.balance is.balance,
  in_range 1 (TELLERS_PER_BRANCH * LAST_BRANCH) r.teller is.some is.most,
) refl

pub account_back : (r : AccountRow) → IsSoundAccount r → read_account (account_entry r) ≡ Ok r
account_back r is = rw (
  in_limit MAX_BALANCE r.balance is.balance,
  in_range 1 (ACCOUNTS_PER_BRANCH * LAST_BRANCH) r.account is.some is.most,
) refl

pub posting_back : (r : HistoryRow) → IsSoundPosting r → read_posting (history_entry r) ≡ Ok (r.ordinal, r.moment)
posting_back r is = rw (
  in_range 1 MAX_DECIDED r.ordinal is.ordinal_above is.ordinal,
  in_range 0 MAX_MOMENT r.moment (omega arith) is.moment,
) refl

pub request_back : (r : RequestRow) → IsSoundRequest r → read_request (request_entry r) ≡ Ok r
request_back r is = rw (
  in_range 1 MAX_DECIDED r.ordinal is.ordinal_above is.ordinal,
  in_range 1 MAX_TELLER r.teller is.fields.teller_above is.fields.teller,
  in_range 1 MAX_NUMBER r.number is.number_above is.number,
  in_range 1 MAX_ACCOUNT r.decision.account is.fields.account_above is.fields.account,
  in_range 1 MAX_BRANCH r.decision.branch is.fields.branch_above is.fields.branch,
  in_limit MAX_DELTA r.decision.delta is.fields.delta,
  outcome_with-code r.decision.outcome,
  in_limit MAX_BALANCE r.decision.balance is.balance,
  is.decision,
) refl

pub floor_back : (r : FloorRow) → IsSoundFloor r → read_floor (floor_entry r) ≡ Ok r
floor_back r is = rw (
  in_range 1 LAST_BRANCH r.branch is.some is.most,
  in_limit MAX_BALANCE r.lowest is.lowest.1,
  low_enough r.lowest is.lowest.0,
) refl

pub closing_back : (r : ClosingRow) → IsSoundClosing r → read_closing (closing_entry r) ≡ Ok r
closing_back r is = rw (
  in_range 0 LAST_KEY r.last (omega arith) is.last,
  in_range 0 LAST_KEY r.first (omega arith) (let most = is.last in omega (arith, most, in_order r.first r.last is.numbers)),
  is.numbers,
) refl

pub reference_back : (r : ReferenceRow) → IsSoundReference r → read_reference (reference_entry r) ≡ Ok r
reference_back r is = rw (
  in_range 1 MAX_DECIDED r.ordinal is.ordinal_above is.ordinal,
  is.reference.0,
  is.reference.1,
) refl
