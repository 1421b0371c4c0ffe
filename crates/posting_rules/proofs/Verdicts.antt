-- What a verdict says of what was known.
use Rattle.std.proofs.Common.{◌≡◌, ℕ, ◌<◌, ◌≤◌, Bool, true, false, cond, eqb, leb, List, length, Option, Some, None}
use Rattle.std.proofs.Common.{refl, sym, ap, subst, arith, inl, inr}
use Rattle.std.specs.Prelude.{ℤ, pos, ◌+ℤ◌, ◌≤ℤ◌, nat_abs, IfSome}
use Rattle.std.proofs.lemmas.{Bool.eqb-true, Bool.leb-true, Bool.leb-false, Int.ints}
use Rattle.posting_rules.specs.{declared.limits.TheConstants.MAX_DECIDED, declared.judgments.Found.Found}
use Rattle.posting_rules.specs.{declared.judgments.Verdict.Verdict, believed.Kept.KeptFields}
use Rattle.posting_rules.specs.believed.Kept.{is_kept_with}
use Rattle.message_records.specs.declared.{limits.TheConstants.MAX_BALANCE, records.Outcome.Outcome}
use Rattle.message_records.specs.declared.records.Outcome.TheVariants as outcome
use Rattle.message_records.specs.believed.{Outcomes.has_balance, Records.RequestFields, Records.ReplyFields}
use Rattle.posting_rules.specs.declared.judgments.Verdict.TheVariants.{Unkept, Again, Refused, Posted}
use Rattle.posting_rules.specs.believed.Commands.{is_teller_open, is_account_open, Terms, floor_of}
use Rattle.posting_rules.specs.believed.Numbering.{branch_of_teller, branch_of_account}
use Rattle.posting_rules.specs.believed.Cases.{case_of, teller_case, known_case, books_case, new_case, account_case}
use Rattle.posting_rules.specs.believed.Cases.{posting_of}
use Rattle.posting_rules.specs.declared.judgments.Books.{Books}
use Rattle.posting_rules.specs.declared.judgments.Books.TheVariants.{Current, Closed, Sealed}
use Rattle.posting_rules.specs.declared.rows.ClosingRow.{ClosingRow}
use Rattle.posting_rules.specs.believed.Cases.{plus_within, is_below, is_same}
use Rattle.posting_rules.specs.believed.Entries.{DecidedRequest, facts, kept, teller_balance, branch_balance}
use Rattle.posting_rules.specs.believed.Entries.{account_balance}
use Rattle.posting_rules.proofs.Keyed.{by_test}

-- a new balance is the old one with the amount, and within the limit
pub record IsSum (balance delta new : ℤ) : Type 0 where
  pub sum : new ≡ balance +ℤ delta
  pub within : nat_abs new ≤ MAX_BALANCE

-- what is so where a request is posted
pub record IsPosting (opened : ℕ → Option Terms) (es : List DecidedRequest) (r : RequestFields)
    (account teller branch : ℤ) : Type 0 where
  pub new : kept es r.teller r.number ≡ None
  pub room : length es < MAX_DECIDED
  pub teller_open : is_teller_open opened r.teller ≡ true
  pub its_branch : r.branch ≡ branch_of_teller r.teller
  pub account_open : is_account_open opened r.account ≡ true
  pub account_is : IsSum (account_balance es r.account) r.delta account
  pub above : IfSome (floor_of opened (branch_of_account r.account)) (λ floor. floor ≤ℤ account)
  pub teller_is : IsSum (teller_balance es r.teller) r.delta teller
  pub branch_is : IsSum (branch_balance es (branch_of_teller r.teller)) r.delta branch

-- what is so where a request is refused and kept
pub record IsRefusal (es : List DecidedRequest) (r : RequestFields) (outcome : Outcome) : Type 0 where
  pub new : kept es r.teller r.number ≡ None
  pub room : length es < MAX_DECIDED
  pub unposted : has_balance outcome ≡ false

abbrev pub IsVerdict : (ℕ → Option Terms) → List DecidedRequest → RequestFields → Verdict → Type 0
IsVerdict opened es r (Unkept outcome) = Unit {0}
IsVerdict opened es r (Again reply) = Unit {0}
IsVerdict opened es r (Refused outcome) = IsRefusal es r outcome
IsVerdict opened es r (Posted account teller branch) = IsPosting opened es r account teller branch

plus_is : (x d y : ℤ) → plus_within x d ≡ Some y → IsSum x d y
plus_is x d y e =
    elim (by_test (leb (nat_abs (x +ℤ d)) MAX_BALANCE)) [
      | inl t ↦ let is : x +ℤ d ≡ y = (let h = rw t at e in cc) in
          record { sum = sym is; within = rw (sym is) (leb-true _ _ t) }
      | inr f ↦ absurd (let h = rw f at e in cc)
    ]

-- a balance that isn't below a floor is at least that
pub is_above : (floor : Option ℤ) (z : ℤ) → is_below floor z ≡ false → IfSome floor (λ lowest. lowest ≤ℤ z)
is_above None z e = tt
is_above (Some lowest) z e = omega (arith, ints)

-- a value that is there where a test passes
pub when : {A : Type 0} (b : Bool) (x y : A) → cond b (Some x) None ≡ Some y → (b ≡ true) × (x ≡ y)
when true x y e = (refl, cc)
when false x y e = absurd cc

-- the cases one after another, for whatever is to be shown of the verdict
module _ (P : Verdict → Type 0) where
  pub by_posting : (a t b : Option ℤ) → P (Refused outcome.OverLimit)
      → ((x y z : ℤ) → a ≡ Some x → t ≡ Some y → b ≡ Some z → P (Posted x y z)) → P (posting_of a t b)
  by_posting (Some x) (Some y) (Some z) other given = given x y z refl refl refl
  by_posting None t b other given = other
  by_posting (Some x) None b other given = other
  by_posting (Some x) (Some y) None other given = other

  pub by_account : (o floor : Option ℤ) (t b d : ℤ) → P (Refused outcome.NoAccount)
      → P (Refused outcome.BelowFloor)
      → ((a : ℤ) → o ≡ Some a → is_below floor (a +ℤ d) ≡ false
      → P (posting_of (plus_within a d) (plus_within t d) (plus_within b d)))
      → P (account_case o floor t b d)
  by_account None floor t b d none below given = none
  by_account (Some a) floor t b d none below given =
      elim (by_test (is_below floor (a +ℤ d))) [ inl h ↦ rw h below | inr h ↦ rw h (given a refl h) ]

  pub by_new : (f : Found) (r : RequestFields) (t b : ℤ) → P (Unkept outcome.Full)
      → (f.decided < MAX_DECIDED → P (Refused outcome.WrongBranch))
      → (f.decided < MAX_DECIDED → r.branch ≡ branch_of_teller r.teller
      → P (account_case f.account f.floor t b r.delta)) → P (new_case f r t b)
  by_new f r t b full wrong right =
      elim (by_test (leb MAX_DECIDED f.decided)) [
        | inl h ↦ rw h full
        | inr h ↦ let room : f.decided < MAX_DECIDED = leb-false _ _ h in
            rw h (elim (by_test (eqb r.branch (branch_of_teller r.teller))) [
              | inl e ↦ rw e (right room (eqb-true _ _ e))
              | inr e ↦ rw e (wrong room)
            ])
      ]

  pub by_books : (books : Books) (f : Found) (r : RequestFields) (t b : ℤ) → P (Unkept outcome.Closed)
      → P (Unkept outcome.Sealed) → (books ≡ Current → P (new_case f r t b)) → P (books_case books f r t b)
  by_books Closed f r t b closed sealed new = closed
  by_books Sealed f r t b closed sealed new = sealed
  by_books Current f r t b closed sealed new = new refl

  pub by_known : (k : Option KeptFields) (f : Found) (r : RequestFields) (t b : ℤ)
      → P (Unkept outcome.ReusedNumber) → ((a : ReplyFields) → P (Again a))
      → (k ≡ None → P (books_case f.books f r t b)) → P (known_case k f r t b)
  by_known None f r t b reused again new = new refl
  by_known (Some k) f r t b reused again new =
      elim (by_test (is_same k r)) [ inl h ↦ rw h (again _) | inr h ↦ rw h reused ]

  pub by_teller : (o : Option (ℤ × ℤ)) (f : Found) (r : RequestFields) → P (Unkept outcome.NoTeller)
      → ((z : ℤ × ℤ) → o ≡ Some z → P (known_case f.kept f r z.0 z.1)) → P (teller_case o f r)
  by_teller None f r closed some = closed
  by_teller (Some z) f r closed some = some z refl

-- what was found where a request is posted
pub record IsFoundPosted (f : Found) (r : RequestFields) (account teller branch : ℤ) : Type 0 where
  pub new : f.kept ≡ None
  pub room : f.decided < MAX_DECIDED
  pub its_branch : r.branch ≡ branch_of_teller r.teller
  pub tellers : ℤ × ℤ
  pub teller_is : f.teller ≡ Some tellers
  pub balance : ℤ
  pub account_is : f.account ≡ Some balance
  pub above : is_below f.floor (balance +ℤ r.delta) ≡ false
  pub account_sum : plus_within balance r.delta ≡ Some account
  pub teller_sum : plus_within tellers.0 r.delta ≡ Some teller
  pub branch_sum : plus_within tellers.1 r.delta ≡ Some branch

-- what is shown of each verdict is shown of that on a request: a refused one is kept, and nothing was
pub by_case : (P : Verdict → Type 0) (f : Found) (r : RequestFields) → ((o : Outcome) → P (Unkept o))
    → ((a : ReplyFields) → P (Again a))
    → ((o : Outcome) → is_kept_with o (pos 0) ≡ true → has_balance o ≡ false → f.kept ≡ None
    → f.decided < MAX_DECIDED → P (Refused o))
    → ((x y z : ℤ) → IsFoundPosted f r x y z → P (Posted x y z)) → P (case_of f r)
unfolding case_of
by_case P f r unkept again refused posted =
    by_teller P f.teller f r (unkept outcome.NoTeller) (λ z tellers.
    by_known P f.kept f r z.0 z.1 (unkept outcome.ReusedNumber) again (λ new.
    by_books P f.books f r z.0 z.1 (unkept outcome.Closed) (unkept outcome.Sealed) (λ current.
    by_new P f r z.0 z.1 (unkept outcome.Full) (refused outcome.WrongBranch refl refl new) (λ room its.
    by_account P f.account f.floor z.0 z.1 r.delta (refused outcome.NoAccount refl refl new room)
    (refused outcome.BelowFloor refl refl new room) (λ a account above.
    by_posting P (plus_within a r.delta) (plus_within z.0 r.delta) (plus_within z.1 r.delta)
    (refused outcome.OverLimit refl refl new room) (λ x y w ex ey ew. posted x y w (record {
      new = new;
      room = room;
      its_branch = its;
      tellers = z;
      teller_is = tellers;
      balance = a;
      account_is = account;
      above = above;
      account_sum = ex;
      teller_sum = ey;
      branch_sum = ew;
    })))))))

-- a request is decided in current books alone
abbrev pub IsOfBooks : Books → Verdict → Type 0
IsOfBooks books (Refused outcome) = books ≡ Current
IsOfBooks books (Posted account teller branch) = books ≡ Current
IsOfBooks books _ = Unit {0}

pub of_books : (f : Found) (r : RequestFields) → IsOfBooks f.books (case_of f r)
unfolding case_of
of_books f r =
    let P = IsOfBooks f.books in
    by_teller P f.teller f r tt (λ z tellers. by_known P f.kept f r z.0 z.1 tt (λ a. tt) (λ new.
    by_books P f.books f r z.0 z.1 tt tt (λ current. any current (new_case f r z.0 z.1))))
  where
    any : f.books ≡ Current → (v : Verdict) → IsOfBooks f.books v
    any current (Unkept o) = tt
    any current (Again a) = tt
    any current (Refused o) = current
    any current (Posted a t b) = current

-- what the case of a request says, by what stands before it
pub verdict_is : (opened : ℕ → Option Terms) (runs : List ClosingRow) (es : List DecidedRequest) (r : RequestFields)
    → IsVerdict opened es r (case_of (facts opened runs es r) r)
verdict_is opened runs es r =
    let f = facts opened runs es r in
    by_case (IsVerdict opened es r) f r (λ o. tt) (λ a. tt)
    (λ o kept unposted new room. record { new = new; room = room; unposted = unposted }) (λ x y w h.
    let z = h.tellers in
    let open_t = when (is_teller_open opened r.teller)
    (teller_balance es r.teller, branch_balance es (branch_of_teller r.teller)) z h.teller_is in
    let open_a = when (is_account_open opened r.account) (account_balance es r.account) h.balance h.account_is in
    record {
      new = h.new;
      room = h.room;
      teller_open = open_t.0;
      its_branch = h.its_branch;
      account_open = open_a.0;
      account_is = rw open_a.1 (plus_is h.balance r.delta x h.account_sum);
      above = subst (λ (z : ℤ). IfSome f.floor (λ floor. floor ≤ℤ z))
          (sym (plus_is h.balance r.delta x h.account_sum).sum) (is_above f.floor (h.balance +ℤ r.delta) h.above);
      teller_is = let e : teller_balance es r.teller ≡ z.0 = ap (λ (v : ℤ × ℤ). v.0) open_t.1 in rw e
          (plus_is z.0 r.delta y h.teller_sum);
      branch_is = let e : branch_balance es (branch_of_teller r.teller) ≡ z.1 = ap
          (λ (v : ℤ × ℤ). v.1) open_t.1 in rw e (plus_is z.1 r.delta w h.branch_sum);
    })
