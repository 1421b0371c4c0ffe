-- What a second bank shows as it is given rows.
use Rattle.std.proofs.Common.{◌≡◌, ◌∙◌, ◌<◌, ◌≤◌, ◌+◌, ◌++◌, ℕ, zero, suc, Bool, true, false, eqb, List, [], ◌∷◌}
use Rattle.std.proofs.Common.{leb, map, Option, Some, None, Result, Ok, Err, refl, sym, ap, subst, inl, inr, arith}
use Rattle.std.specs.Prelude.{◌&&◌, ◌⊎◌, IfSome, OnOk, get_or, set}
use Rattle.std.specs.Option.{option_or}
use Rattle.std.proofs.lemmas.Bool.{and_parts, leb-false, leb-true}
use Rattle.std.proofs.lemmas.{Bool.cases_Bool, Bool.eq-eqb, Bool.eqb-true, List.get_or-set_other, List.map-append}
use Rattle.sqlite_trees.specs.declared.store.Store.{Ghosts}
use Rattle.posting_rules.specs.believed.Commands.{Command, IsCommand, Open, Post, Terms, opened, opened_with}
use Rattle.posting_rules.specs.believed.Counter.{ShowsLog}
use Rattle.posting_rules.specs.declared.limits.TheConstants.{LAST_BRANCH}
use Rattle.posting_rules.specs.believed.Entries.{decided}
use Rattle.posting_rules.specs.believed.Numbering.{branch_of_account, branch_of_teller}
use Rattle.posting_rules.specs.believed.Runs.{followed_by, posts}
use Rattle.message_records.specs.believed.Records.{RequestFields}
use Rattle.posting_rules.proofs.{Sequence.after-append, SoundEntries.open_within}
use Rattle.bank_store.specs.believed.Seen.{bank_seen}
use Rattle.bank_store.specs.declared.bank.Bank.{Bank}
use Rattle.bank_replays.specs.Following.{open_by, opening, prepared}
use Rattle.bank_replays.specs.Refilling.{HasLog, Holds, IsPlan, IsYet, OpensBelow, OpensRest, planned_at, terms_of}
use Rattle.bank_replays.specs.declared.{fault.ReplayFault.ReplayFault, refill.Planned.Planned, refill.Refill.Refill}
use Rattle.bank_replays.proofs.{Followed.opening_closes, Followed.opening_decides, Openable.opens_or_not}

-- ---- what is yet to be posted

-- one record more
pub posts_more : (log : List Command) (moment : ℕ) (batch : List (List ℕ)) (bytes : List ℕ)
    → followed_by log (posts moment (batch ++ bytes ∷ [])) ≡ Post moment bytes ∷ followed_by log (posts moment batch)
posts_more log moment batch bytes =
    ap (followed_by log) (map-append (Post moment) batch (bytes ∷ []))
    ∙ after-append log (posts moment batch) (Post moment bytes ∷ [])

module _ {S : Type 0} {g : Ghosts S} where
  -- nothing is
  pub has_log : (bank : Bank S g) (moment : ℕ) (batch : List (List ℕ)) (log : List Command) → batch ≡ []
      → ShowsLog (bank_seen g bank) log → HasLog g bank moment batch log
  has_log bank moment batch log none shows =
      record { posted = log; shows = shows; comes = ap (λ (l : List (List ℕ)). followed_by log (posts moment l)) none }

  pub has_all : (bank : Bank S g) (moment : ℕ) (batch : List (List ℕ)) (log : List Command) → batch ≡ []
      → HasLog g bank moment batch log → ShowsLog (bank_seen g bank) log
  has_all bank moment batch log none has =
      subst (ShowsLog (bank_seen g bank))
      (sym (ap (λ (l : List (List ℕ)). followed_by has.posted (posts moment l)) none) ∙ has.comes) has.shows

-- ---- what is yet to be opened

-- a branch that is open as planned isn't opened again
pub opening_none : (plan : ℕ → Option Terms) (b : ℕ) (log : List Command) → opened log b ≡ plan b
    → opening plan b log ≡ log
opening_none plan b log same = go (opened log b) (plan b) same
  where
    go : (o p : Option Terms) → o ≡ p → open_by o p b log ≡ log
    go None None is = refl
    go None (Some x) is = absurd cc
    go (Some x) p is = refl

set_default : {A : Type 0} (xs : List A) (i : ℕ) (d : A) → get_or (set xs i d) i d ≡ d
set_default [] i d = refl
set_default (x ∷ xs) zero d = refl
set_default (x ∷ xs) (suc i) d = set_default xs i d

abbrev pub unplanned : Planned
unplanned = record { accounts = 0; floor = None }

pub apart : (m n : ℕ) → eqb m n ≡ false → n ≡ m → ⊥
apart m n f is = let t = eq-eqb m n (sym is) in cc

-- a branch that isn't open is open as planned then
opens_planned : (plan : ℕ → Option Terms) (b : ℕ) (log : List Command) (yet : Planned)
    → IsYet b (plan b) (opened log b) yet → opened (opening plan b log) b ≡ plan b
opens_planned plan b log yet (inl at) = ap (λ (l : List Command). opened l b) (opening_none plan b log at.1) ∙ at.1
opens_planned plan b log yet (inr at) =
    ap (λ (o : Option Terms). opened (open_by o (plan b) b log) b) at.0 ∙ go (plan b)
  where
    go : (p : Option Terms) → opened (open_by None p b log) b ≡ p
    go None = at.0
    go (Some terms) = rw (at.0, eq-eqb b b refl) refl

-- and no other
opens_other : (plan : ℕ → Option Terms) (b : ℕ) (log : List Command) (c : ℕ) → eqb b c ≡ false
    → opened (opening plan b log) c ≡ opened log c
opens_other plan b log c f = go (opened log b) (plan b)
  where
    old : (o : Option Terms) → option_or o None ≡ o
    old None = refl
    old (Some y) = refl

    go : (o p : Option Terms) → opened (open_by o p b log) c ≡ opened log c
    go None None = refl
    go None (Some x) = rw f (old (opened log c))
    go (Some x) p = refl

-- once a branch was opened, that is no longer planned
yet_after : (plan : ℕ → Option Terms) (b : ℕ) (log : List Command) (planned : List Planned)
    → ((c : ℕ) → IsYet c (plan c) (opened log c) (planned_at planned c))
    → (c : ℕ) → IsYet c (plan c) (opened (opening plan b log) c) (planned_at (set planned b unplanned) c)
yet_after plan b log planned yet c = elim (cases_Bool (eqb b c)) [
  | inl t ↦
      subst (λ (c : ℕ). IsYet c (plan c) (opened (opening plan b log) c) (planned_at (set planned b unplanned) c))
      (eqb-true b c t)
      (inl (
        ap (λ (p : Planned). p.accounts) (set_default planned b unplanned),
        opens_planned plan b log (planned_at planned b) (yet b),
      ))
  | inr f ↦
      subst (λ (p : Planned). IsYet c (plan c) (opened (opening plan b log) c) p)
      (sym (get_or-set_other planned b c unplanned unplanned (apart b c f)))
      (subst (λ (o : Option Terms). IsYet c (plan c) o (planned_at planned c)) (sym (opens_other plan b log c f)) (yet c))
]

-- the branches that a request needs
module _ (plan : ℕ → Option Terms) (had : Bool) (r : RequestFields) (log : List Command) (home own : ℕ)
    (home_is : home ≡ branch_of_teller r.teller) where
  pub prepared_home : had ≡ false → opening plan home log ≡ prepared plan had r log
  prepared_home f = rw (home_is, f) refl

  pub prepared_both : had ≡ true → own ≡ branch_of_account r.account
      → opening plan own (opening plan home log) ≡ prepared plan had r log
  prepared_both t own_is = rw (home_is, own_is, t) refl

-- ---- steps of a second bank

on_ok : {X E A B : Type 0} (r : Result X E) → (A → B) → OnOk r A → OnOk r B
on_ok (Ok x) f a = f a
on_ok (Err e) f a = tt

module _ {S : Type 0} {g : Ghosts S} (bank : Bank S g) (log : List Command) where
  -- nothing is to be posted, at whatever moment
  pub moved : (old new : ℕ) (batch : List (List ℕ)) → batch ≡ [] → HasLog g bank old batch log → HasLog g bank new batch log
  moved old new batch none has = has_log bank new batch log none (has_all bank old batch log none has)

  -- a record more is to be posted
  pub pushed : (moment : ℕ) (old new : List (List ℕ)) (bytes : List ℕ) → new ≡ old ++ bytes ∷ []
      → HasLog g bank moment old log → HasLog g bank moment new (Post moment bytes ∷ log)
  pushed moment old new bytes items has = record {
    posted = has.posted;
    shows = has.shows;
    comes =
        ap (λ (l : List (List ℕ)). followed_by has.posted (posts moment l)) items
        ∙ posts_more has.posted moment old bytes ∙ ap (λ (l : List Command). Post moment bytes ∷ l) has.comes;
  }

-- what is opened of what is planned: nothing where it can't be
opened_as : (b : ℕ) (yet : Planned) (log : List Command)
    → (IsCommand (Open b (opened_with yet.accounts yet.floor))
    × (open_by None (terms_of b yet) b log ≡ Open b (opened_with yet.accounts yet.floor) ∷ log))
    ⊎ ((IsCommand (Open b (opened_with yet.accounts yet.floor)) → ⊥) × (open_by None (terms_of b yet) b log ≡ log))
opened_as b yet log = elim (opens_or_not b yet) [
  | inl can ↦ inl (can.0, ap (λ (p : Option Terms). open_by None p b log) can.1)
  | inr cannot ↦ inr (cannot.0, ap (λ (p : Option Terms). open_by None p b log) cannot.1)
]

module _ {S W : Type 0} {g : Ghosts S} (plan : ℕ → Option Terms) (is : IsPlan plan) (log : List Command) where
  -- a branch is opened
  pub opened_more : (b : ℕ) (mid last : Refill S W g) (yet : Planned) → yet ≡ planned_at mid.planned.items b
      → (yet.accounts ≡ 0 → ⊥) → mid.batch.items ≡ [] → last.batch.items ≡ []
      → last.planned.items ≡ set mid.planned.items b unplanned → Holds g plan log mid
      → (r : Result (Unit {0}) ReplayFault)
      → (IsCommand (Open b (opened_with yet.accounts yet.floor)) → ShowsLog (bank_seen g mid.bank) log
      → OnOk r (ShowsLog (bank_seen g last.bank) (Open b (opened_with yet.accounts yet.floor) ∷ log)))
      → ((IsCommand (Open b (opened_with yet.accounts yet.floor)) → ⊥) → OnOk r (last.bank ≡ mid.bank))
      → OnOk r (Holds g plan (opening plan b log) last)
  opened_more b mid last yet at some none none' planned holds r opens spares =
      elim (subst (IsYet b (plan b) (opened log b)) (sym at) (holds.yet b)) [
        | inl done ↦ absurd (some done.0)
        | inr left ↦
            let same : opening plan b log ≡ open_by None (terms_of b yet) b log =
            ap (λ (o : Option Terms). open_by o (plan b) b log) left.0
            ∙ ap (λ (p : Option Terms). open_by None p b log) left.1 in
            let shows = has_all mid.bank mid.moment mid.batch.items log none holds.has in
            elim (opened_as b yet log) [
              | inl can ↦ on_ok r (so (same ∙ can.1)) (opens can.0 shows)
              | inr cannot ↦
                  on_ok r
                  (λ kept. so (same ∙ cannot.1) (subst (λ (x : Bank S g). ShowsLog (bank_seen g x) log) (sym kept) shows))
                  (spares cannot.0)
            ]
      ]
    where
      so : {now : List Command} → opening plan b log ≡ now → ShowsLog (bank_seen g last.bank) now
          → Holds g plan (opening plan b log) last
      so is_now shows = record {
        has = has_log last.bank last.moment last.batch.items (opening plan b log) none'
            (subst (ShowsLog (bank_seen g last.bank)) (sym is_now) shows);
        yet = subst (λ (l : List Planned). (c : ℕ) → IsYet c (plan c) (opened (opening plan b log) c) (planned_at l c))
            (sym planned) (yet_after plan b log mid.planned.items holds.yet);
      }

  -- ---- all that is left of a plan

  pub below_first : (refill : Refill S W g) → Holds g plan log refill → OpensBelow g plan log 1 refill
  below_first refill holds = record {
    now = log;
    holds = holds;
    decides = refl;
    closes = refl;
    opens = λ b low high. absurd (omega (arith, low, high));
  }

  pub below_more : (old new : Refill S W g) (b : ℕ) (it : OpensBelow g plan log b old)
      → Holds g plan (opening plan b it.now) new → OpensBelow g plan log (b + 1) new
  below_more old new b it holds = record {
    now = opening plan b it.now;
    holds = holds;
    decides = opening_decides plan b it.now ∙ it.decides;
    closes = opening_closes plan b it.now ∙ it.closes;
    opens = λ c low high. elim (cases_Bool (eqb b c)) [
      | inl t ↦
          subst (λ (c : ℕ). opened (opening plan b it.now) c ≡ plan c) (eqb-true b c t)
          (opens_planned plan b it.now (planned_at old.planned.items b) (it.holds.yet b))
      | inr f ↦
          let other = apart b c f in
          opens_other plan b it.now c f ∙ it.opens c low (below b c high other)
    ];
  }
    where
      below : (b c : ℕ) → c < b + 1 → (c ≡ b → ⊥) → c < b
      below b c high other = elim (cases_Bool (leb b c)) [
        | inl t ↦ let low = leb-true b c t in absurd (other (omega (arith, low, high)))
        | inr f ↦ leb-false b c f
      ]

  pub all_open : (old last : Refill S W g) (number : ℕ) → LAST_BRANCH + 1 ≤ number → OpensBelow g plan log number old
      → (r : Result (Unit {0}) ReplayFault)
      → ((now : List Command) → Holds g plan now old → OnOk r (Holds g plan now last)) → OnOk r (last.batch.items ≡ [])
      → OnOk r (OpensRest g plan log last.bank)
  all_open old last number high it (Err e) holds none = tt
  all_open old last number high it (Ok done) holds none =
      let shows = has_all last.bank last.moment last.batch.items it.now none (holds it.now it.holds).has in
      record {
        now = it.now;
        shows = shows;
        decides = it.decides;
        closes = it.closes;
        opens = λ b. elim (cases_Bool (leb 1 b && leb b LAST_BRANCH)) [
          | inl t ↦
              let both = and_parts (leb 1 b) (leb b LAST_BRANCH) t in
              let low = leb-true 1 b both.0 in
              let most = leb-true b LAST_BRANCH both.1 in
              it.opens b low (omega (arith, most, high))
          | inr f ↦
              let out = λ (can : (1 ≤ b) × (b ≤ LAST_BRANCH)). within b can.0 can.1 f in
              none_there (opened it.now b) (open_within it.now shows.commands b) out ∙ sym (none_there (plan b) (is b) out)
        ];
      }
    where
      within : (b : ℕ) → 1 ≤ b → b ≤ LAST_BRANCH → (leb 1 b && leb b LAST_BRANCH) ≡ false → ⊥
      within b low most f = elim (cases_Bool (leb 1 b)) [
        | inl t ↦ elim (cases_Bool (leb b LAST_BRANCH)) [
          | inl u ↦ let bad : true ≡ false = rw (t, u) at f in cc
          | inr v ↦ let high = leb-false b LAST_BRANCH v in omega (arith, most, high)
        ]
        | inr z ↦ let under = leb-false 1 b z in omega (arith, low, under)
      ]

      none_there : {b : ℕ} (o : Option Terms) → IfSome o (λ terms. IsCommand (Open b terms))
          → ((1 ≤ b) × (b ≤ LAST_BRANCH) → ⊥) → o ≡ None
      none_there None can out = refl
      none_there (Some terms) can out = absurd (out (can.0, can.1))
