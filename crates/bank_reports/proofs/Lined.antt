-- The lines of a statement, over the postings that a file has and after a log.
use Rattle.std.proofs.Common.{◌≡◌, ◌<◌, ◌≤◌, ◌+◌, ◌++◌, ℕ, Bool, true, false, cond, List, [], ◌∷◌, length, map, refl}
use Rattle.std.proofs.Common.{sym, ap, subst, ◌∙◌, arith}
use Rattle.std.specs.Prelude.{ℤ, pos, ◌+ℤ◌, nat_abs}
use Rattle.std.proofs.{lemmas.Int.ints, lemmas.List.length-append, lemmas.List.map-append, Math.IntN.+ℤ_assoc}
use Rattle.message_records.specs.declared.limits.TheConstants.{MAX_BALANCE}
use Rattle.posting_rules.specs.believed.{Entries.DecidedRequest, Entries.account_balance, Laws.total}
use Rattle.walked_rows.specs.declared.stated.StatedPosting.{StatedPosting}
use Rattle.report_contents.specs.StatementText.{line_of, lines_by}
use Rattle.report_contents.specs.declared.form.Form.{Form}
use Rattle.report_contents.proofs.OneMore.{total-snoc}
use Rattle.bank_reports.specs.StatedLines.{is_posted_to, lines_to, postings_that, postings_to, stated_of}
use Rattle.bank_reports.specs.Postings.{delta_of, sum_of}
use Rattle.bank_reports.proofs.LogHistory.{EachWithin}

pub sum_of-snoc : (rs : List StatedPosting) (r : StatedPosting) → sum_of (rs ++ r ∷ []) ≡ sum_of rs
    +ℤ delta_of r
sum_of-snoc rs r = ap total (map-append delta_of rs (r ∷ [])) ∙ total-snoc (map delta_of rs) (delta_of r)

-- one more line, whatever lines are
module _ (line_with : StatedPosting → ℤ → List ℕ) where
  pub lines_by-snoc : (before : ℤ) (rs : List StatedPosting) (r : StatedPosting)
      → lines_by line_with before (rs ++ r ∷ []) ≡ lines_by line_with before rs
      ++ line_with r ((before +ℤ sum_of rs) +ℤ delta_of r) ∷ []
  lines_by-snoc before [] r = ap (λ (z : ℤ). line_with r z ∷ []) (omega (arith, ints))
  lines_by-snoc before (x ∷ rs) r =
      ap (λ l. line_with x (before +ℤ delta_of x) ∷ l)
      (lines_by-snoc (before +ℤ delta_of x) rs r
      ∙ ap (λ (z : ℤ). lines_by line_with (before +ℤ delta_of x) rs ++ line_with r (z +ℤ delta_of r) ∷ [])
      (+ℤ_assoc before (delta_of x) (sum_of rs)))

  -- from an empty account on
  pub lines-snoc : (rs : List StatedPosting) (r : StatedPosting)
      → lines_by line_with (pos 0) (rs ++ r ∷ []) ≡ lines_by line_with (pos 0) rs
      ++ line_with r (sum_of rs +ℤ delta_of r) ∷ []
  lines-snoc rs r = lines_by-snoc (pos 0) rs r
      ∙ ap (λ (z : ℤ). lines_by line_with (pos 0) rs ++ line_with r (z +ℤ delta_of r) ∷ [])
      (omega (arith, ints))

-- ---- after a log

-- what is posted to an account is its balance
pub sum_is_balance : (a : ℕ) (es : List DecidedRequest) → sum_of (postings_to a es) ≡ account_balance es a
sum_is_balance a [] = refl
sum_is_balance a (e ∷ es) = last (is_posted_to a e) (sum_is_balance a es)
  where
    last : (b : Bool) → sum_of (postings_to a es) ≡ account_balance es a
        → sum_of (cond b (postings_to a es ++ stated_of (length es + 1) e ∷ []) (postings_to a es))
        ≡ cond b (account_balance es a +ℤ e.request.delta) (account_balance es a)
    last true earlier = sum_of-snoc (postings_to a es) (stated_of (length es + 1) e)
        ∙ ap (λ (z : ℤ). z +ℤ e.request.delta) earlier
    last false earlier = earlier

-- the running balance of a line is the account's balance after it
pub lines_are : (form : Form) (a : ℕ) (es : List DecidedRequest)
    → lines_by (line_of form) (pos 0) (postings_to a es) ≡ lines_to form a es
lines_are form a [] = refl
lines_are form a (e ∷ es) = last (is_posted_to a e) refl (lines_are form a es)
  where
    last : (b : Bool) → is_posted_to a e ≡ b → lines_by (line_of form) (pos 0) (postings_to a es)
        ≡ lines_to form a es
        → lines_by (line_of form) (pos 0)
        (cond b (postings_to a es ++ stated_of (length es + 1) e ∷ []) (postings_to a es))
        ≡ cond b (lines_to form a es
        ++ line_of form (stated_of (length es + 1) e) (account_balance (e ∷ es) a) ∷ [])
        (lines_to form a es)
    last true is earlier =
        lines-snoc (line_of form) (postings_to a es) (stated_of (length es + 1) e)
        ∙ ap (λ (z : ℤ). lines_by (line_of form) (pos 0) (postings_to a es)
        ++ line_of form (stated_of (length es + 1) e) (z +ℤ e.request.delta) ∷ [])
        (sum_is_balance a es)
        ∙ ap (λ l. l ++ line_of form (stated_of (length es + 1) e)
        (account_balance es a +ℤ e.request.delta) ∷ []) earlier
        ∙ ap (λ (z : ℤ). lines_to form a es ++ line_of form (stated_of (length es + 1) e) z ∷ [])
        (sym (rw is refl))
    last false is earlier = earlier

-- so many at most
pub few_postings : (test : DecidedRequest → Bool) (es : List DecidedRequest) → length (postings_that test es) ≤ length es
few_postings test [] = omega arith
few_postings test (e ∷ es) = last (test e) (few_postings test es)
  where
    last : (b : Bool) → length (postings_that test es) ≤ length es
        → length (cond b (postings_that test es ++ stated_of (length es + 1) e ∷ []) (postings_that test es))
        ≤ length (e ∷ es)
    last true earlier = omega (
      arith,
      earlier,
      length-append (postings_that test es)
          (stated_of (length es + 1) e ∷ []),
    )
    last false earlier = omega (arith, earlier)

-- ---- running balances

zero_plus : (z : ℤ) → pos 0 +ℤ z ≡ z
zero_plus z = omega (arith, ints)

plus_zero : (z y : ℤ) → (z +ℤ pos 0) +ℤ y ≡ z +ℤ y
plus_zero z y = omega (arith, ints)

-- each running balance on the way through the postings is within the limit
abbrev pub AllRunWithin : ℤ → List StatedPosting → Type 0
AllRunWithin before [] = Unit {0}
AllRunWithin before (r ∷ rs) = (nat_abs (before +ℤ delta_of r) ≤ MAX_BALANCE)
    × AllRunWithin (before +ℤ delta_of r) rs

run_more : (before : ℤ) (rs : List StatedPosting) (r : StatedPosting) → AllRunWithin before rs
    → nat_abs ((before +ℤ sum_of rs) +ℤ delta_of r) ≤ MAX_BALANCE
    → AllRunWithin before (rs ++ r ∷ [])
run_more before [] r all low =
    let same : (before +ℤ pos 0) +ℤ delta_of r ≡ before +ℤ delta_of r = omega (arith, ints) in
    (subst (λ (z : ℤ). nat_abs z ≤ MAX_BALANCE) same low, tt)
run_more before (x ∷ rs) r all low = (
  all.0,
  run_more (before +ℤ delta_of x) rs r all.1
      (subst (λ (z : ℤ). nat_abs (z +ℤ delta_of r) ≤ MAX_BALANCE)
      (sym (+ℤ_assoc before (delta_of x) (sum_of rs))) low),
)

-- after a log they are
pub runs_within : (a : ℕ) (es : List DecidedRequest) → EachWithin a es
    → AllRunWithin (pos 0) (postings_to a es)
runs_within a [] all = tt
runs_within a (e ∷ es) all = last (is_posted_to a e) refl (runs_within a es all.1)
  where
    last : (b : Bool) → is_posted_to a e ≡ b → AllRunWithin (pos 0) (postings_to a es)
        → AllRunWithin (pos 0)
        (cond b (postings_to a es ++ stated_of (length es + 1) e ∷ []) (postings_to a es))
    last true is earlier =
        let now : nat_abs (account_balance es a +ℤ e.request.delta) ≤ MAX_BALANCE = rw is at all.0 in
        let same : account_balance es a ≡ pos 0 +ℤ sum_of (postings_to a es) = sym (sum_is_balance a es)
        ∙ sym (zero_plus (sum_of (postings_to a es))) in
        run_more (pos 0) (postings_to a es) (stated_of (length es + 1) e) earlier
        (subst (λ (z : ℤ). nat_abs (z +ℤ e.request.delta) ≤ MAX_BALANCE) same now)
    last false is earlier = earlier

-- none is beyond it
pub never_beyond : (before : ℤ) (given : List StatedPosting) (r : StatedPosting) (more : List StatedPosting)
    → AllRunWithin before (given ++ r ∷ more)
    → MAX_BALANCE < nat_abs ((before +ℤ sum_of given) +ℤ delta_of r) → ⊥
never_beyond before [] r more all high =
    let low : nat_abs ((before +ℤ pos 0) +ℤ delta_of r) ≤ MAX_BALANCE =
    subst (λ (z : ℤ). nat_abs z ≤ MAX_BALANCE) (sym (plus_zero before (delta_of r))) all.0 in
    omega (arith, low, high)
never_beyond before (x ∷ given) r more all high =
    never_beyond (before +ℤ delta_of x) given r more all.1
    (subst (λ (z : ℤ). MAX_BALANCE < nat_abs (z +ℤ delta_of r))
    (sym (+ℤ_assoc before (delta_of x) (sum_of given))) high)
