-- What becomes of clients whose records were submitted together.
use Rattle.std.proofs.Common.{◌≡◌, ℕ, List, [], ◌∷◌, length, Option, None, Some}
use Rattle.std.proofs.Common.{refl, sym, ap, subst, ◌∙◌, arith, inl, inr}
use Rattle.std.specs.Prelude.{◌≢◌, ◌⊎◌, Contains}
use Rattle.std.specs.List.{AllByRecursion, slice_get}
use Rattle.std.proofs.lemmas.List.Elements.{All-contains_itself, recursion_from_All}
use Rattle.posting_rules.specs.declared.fault.Fault.{Fault}
use Rattle.posting_rules.specs.declared.fault.Fault.TheVariants.{Memory}
use Rattle.counter_http.specs.together.Faring.{AllFare, Fares, HasNoMore}
use Rattle.counter_http.specs.together.Order.{Step, clients_of}
use Rattle.counter_http.specs.together.Serving.{By_the_bank, For_memory, IsWhyTold}
use Rattle.counter_http.specs.together.Standing.{AnswersRecord, HasEndedWith, IsRecordIn, unread}
use Rattle.counter_http.specs.together.Submitting.{AllGo, AnswersEach, AreApart, AreGiven, Goes, IsAmong, IsElsewhere, RefusesEach}
use Rattle.counter_http.specs.believed.Answers.{answer_text, octets}
use Rattle.counter_http.specs.declared.batch.Sender.{Sender}
use Rattle.counter_http.specs.declared.client.Client.{Client}
use Rattle.counter_http.specs.declared.client.Head.{Head}
use Rattle.counter_http.specs.declared.parting.Parting.TheVariants as parting
use Rattle.counter_http.proofs.Fared.{all_at, all_same, all_then}
use Rattle.counter_http.proofs.Faring.{fares_answered, fares_lost, fares_refused}
use Rattle.counter_http.proofs.Fronts.{too_short}
use Rattle.counter_http.proofs.Gathering.{given_still}
use Rattle.counter_http.proofs.Moves.{fewer}
use Rattle.counter_http.proofs.Placed.{at_other, at_same, same_or_not, some_is}
use Rattle.counter_http.proofs.Posted.{answers_given, numbers_answered, refused_elsewhere, refuses_given, step_at, steps_at, steps_kept}

-- ---- those whose records were taken

fares_record : {R W : Type 0} {fault : Option Fault} {refused : List Step} (old new : Client R W) (head : Head) (text bytes : List ℕ)
    (s : Step) → s.client ≡ old.number → old.parting ≡ None → IsRecordIn (unread old) bytes head
    → AnswersRecord old new head text → Fares fault refused (s ∷ []) old new
fares_record old new head text bytes s own going is (inl did) =
    fares_answered old new (answer_text (octets text) head.shows_body head.closes) head s [] own going did
fares_record old new head text bytes s own going is (inr (inl lost)) = fares_lost old new lost
fares_record old new head text bytes s own going is (inr (inr short)) = absurd (too_short old is.message head is.is short)

pub fare_answered : {R W : Type 0} (moment : ℕ) (here here' : List (Client R W)) (ss : List Sender) (rs qs : List (List ℕ))
    (g : AreGiven here ss rs) → AreApart ss → AnswersEach here here' ss qs
    → AllFare None [] (steps_at moment here ss rs qs g) here here'
fare_answered {R} {W} moment here here' [] rs qs g apart a =
    subst (λ (cs : List (Client R W)). AllFare None [] [] here cs) (sym a) (all_same here)
fare_answered moment here here' (s ∷ ss) [] qs g apart a = absurd g
fare_answered moment here here' (s ∷ ss) (r ∷ rs) [] g apart a = absurd a
fare_answered {R} {W} moment here here' (s ∷ ss) (r ∷ rs) (q ∷ qs) g apart (mid, one, more) =
    let later = given_still here mid s.place one.after ss rs one.is g.1 apart.0 in
    let step = step_at moment q g.0 in
    let first : AllFare None [] (step ∷ []) here mid =
    subst (λ (cs : List (Client R W)). AllFare None [] (step ∷ []) here cs) (sym one.is)
    (all_at here s.place g.0.client one.after g.0.at
    (fares_record g.0.client one.after s.head q r step refl g.0.gives.going g.0.gives.is (answers_given here mid s r q g.0 one))) in
    subst (λ (l : List Step). AllFare None [] (step ∷ l) here here')
    (steps_kept moment here mid s.place one.after ss rs qs one.is g.1 apart.0)
    (all_then here mid here' (step ∷ []) (steps_at moment mid ss rs qs later) (numbers_answered here mid s r q g.0 one) first
    (fare_answered moment mid here' ss rs qs later apart.1 more))

-- ---- those whose records were refused

-- each is told why
pub all_among : (why : Fault) (ss : List Step) → AllByRecursion (λ (n : ℕ). IsWhyTold (Some why) ss n why) (clients_of ss)
all_among why ss =
    each (clients_of ss) (recursion_from_All (λ (n : ℕ). Contains (clients_of ss) n) (clients_of ss)
    (All-contains_itself (clients_of ss)))
  where
    each : (ns : List ℕ) → AllByRecursion (λ (n : ℕ). Contains (clients_of ss) n) ns
        → AllByRecursion (λ (n : ℕ). IsWhyTold (Some why) ss n why) ns
    each [] all = tt
    each (n ∷ ns) all = (By_the_bank refl all.0, each ns all.1)

pub all_spared : (why : Fault) → why ≡ Memory → (ns : List ℕ) → AllByRecursion (λ (n : ℕ). IsWhyTold None [] n why) ns
all_spared why memory [] = tt
all_spared why memory (n ∷ ns) = (For_memory memory, all_spared why memory ns)

pub fare_refused : {R W : Type 0} {fault : Option Fault} {refused : List Step} (moment : ℕ) (here here' : List (Client R W))
    (ss : List Sender) (rs : List (List ℕ)) (why : Fault) (g : AreGiven here ss rs) → AreApart ss
    → AllByRecursion (λ (n : ℕ). IsWhyTold fault refused n why) (clients_of (steps_at moment here ss rs [] g))
    → RefusesEach here here' ss why → AllFare fault refused [] here here'
fare_refused {R} {W} {fault} {refused} moment here here' [] rs why g apart told a p x x' at at' =
    subst (λ (cs : List (Client R W)). AllFare fault refused [] here cs) (sym a) (all_same here) p x x' at at'
fare_refused moment here here' (s ∷ ss) [] why g apart told a p x x' at at' = absurd g
fare_refused {R} {W} {fault} {refused} moment here here' (s ∷ ss) (r ∷ rs) why g apart told (mid, one, more) p x x' at at' =
    elim (same_or_not p s.place) [
      | inl e ↦
          let x_is : g.0.client ≡ x = some_is g.0.client x (sym g.0.at ∙ ap (λ (n : ℕ). slice_get here n) (sym e) ∙ at) in
          let there : slice_get here' s.place ≡ Some one.after =
          refused_elsewhere mid here' ss why s.place more apart.0
          ∙ ap (λ (cs : List (Client R W)). slice_get cs s.place) one.is ∙ at_same here s.place one.before one.after one.at in
          let x'_is : one.after ≡ x' =
          some_is one.after x' (sym there ∙ ap (λ (n : ℕ). slice_get here' n) (sym e) ∙ at') in
          subst (λ (z : Client R W). Fares fault refused [] x z) x'_is
          (subst (λ (z : Client R W). Fares fault refused [] z one.after) x_is
          (fares_refused g.0.client one.after why (refuses_given here mid s r why g.0 one) told.0))
      | inr ne ↦
          let later = given_still here mid s.place one.after ss rs one.is g.1 apart.0 in
          let mid_at : slice_get mid p ≡ Some x =
          ap (λ (cs : List (Client R W)). slice_get cs p) one.is ∙ at_other here s.place p one.after ne ∙ at in
          fare_refused moment mid here' ss rs why later apart.1
          (subst (λ (l : List Step). AllByRecursion (λ (n : ℕ). IsWhyTold fault refused n why) (clients_of l))
          (sym (steps_kept moment here mid s.place one.after ss rs [] one.is g.1 apart.0)) told.1)
          more p x x' mid_at at'
    ]

-- ---- what is left of each

answered_elsewhere : {R W : Type 0} (here here' : List (Client R W)) (ss : List Sender) (qs : List (List ℕ)) (p : ℕ)
    → AnswersEach here here' ss qs → AllByRecursion (IsElsewhere p) ss → slice_get here' p ≡ slice_get here p
answered_elsewhere {R} {W} here here' [] qs p a all = ap (λ (cs : List (Client R W)). slice_get cs p) a
answered_elsewhere here here' (s ∷ ss) [] p a all = absurd a
answered_elsewhere {R} {W} here here' (s ∷ ss) (q ∷ qs) p (mid, one, more) all =
    answered_elsewhere mid here' ss qs p more all.1
    ∙ ap (λ (cs : List (Client R W)). slice_get cs p) one.is
    ∙ at_other here s.place p one.after (λ e. all.0 (sym e))

record_goes : {R W : Type 0} (old new : Client R W) (head : Head) (text bytes : List ℕ) → IsRecordIn (unread old) bytes head
    → AnswersRecord old new head text → Goes old new
record_goes old new head text bytes is (inl did) =
    inr (fewer old new is.message head (answer_text (octets text) head.shows_body head.closes) is.is did)
record_goes old new head text bytes is (inr (inl lost)) = inl (inr (parting.Memory, lost.parting))
record_goes old new head text bytes is (inr (inr short)) = absurd (too_short old is.message head is.is short)

pub all_go : {R W : Type 0} (here here' : List (Client R W)) (ss : List Sender) (rs qs : List (List ℕ)) → AreGiven here ss rs
    → AreApart ss → AnswersEach here here' ss qs → AllGo here here' ss
all_go here here' [] rs qs g apart a p x x' at at' is = absurd is
all_go here here' (s ∷ ss) [] qs g apart a p x x' at at' is = absurd g
all_go here here' (s ∷ ss) (r ∷ rs) [] g apart a p x x' at at' is = absurd a
all_go {R} {W} here here' (s ∷ ss) (r ∷ rs) (q ∷ qs) g apart (mid, one, more) p x x' at at' is = elim (same_or_not p s.place) [
  | inl e ↦
      let x_is : g.0.client ≡ x = some_is g.0.client x (sym g.0.at ∙ ap (λ (n : ℕ). slice_get here n) (sym e) ∙ at) in
      let there : slice_get here' s.place ≡ Some one.after =
      answered_elsewhere mid here' ss qs s.place more apart.0
      ∙ ap (λ (cs : List (Client R W)). slice_get cs s.place) one.is ∙ at_same here s.place one.before one.after one.at in
      let x'_is : one.after ≡ x' = some_is one.after x' (sym there ∙ ap (λ (n : ℕ). slice_get here' n) (sym e) ∙ at') in
      subst (λ (z : Client R W). Goes x z) x'_is
      (subst (λ (z : Client R W). Goes z one.after) x_is
      (record_goes g.0.client one.after s.head q r g.0.gives.is (answers_given here mid s r q g.0 one)))
  | inr ne ↦
      all_go mid here' ss rs qs (given_still here mid s.place one.after ss rs one.is g.1 apart.0) apart.1 more p x x'
      (ap (λ (cs : List (Client R W)). slice_get cs p) one.is ∙ at_other here s.place p one.after ne ∙ at) at' (rest is ne)
]
  where
    rest : (s.place ≡ p) ⊎ IsAmong ss p → p ≢ s.place → IsAmong ss p
    rest (inl same) ne = absurd (ne (sym same))
    rest (inr more) ne = more

-- there is no sender
pub none_go : {R W : Type 0} (here here' : List (Client R W)) (ss : List Sender) (rs : List (List ℕ)) → AreGiven here ss rs
    → length rs ≡ 0 → AllGo here here' ss
none_go here here' [] rs g none p x x' at at' is = absurd is
none_go here here' (s ∷ ss) [] g none p x x' at at' is = absurd g
none_go here here' (s ∷ ss) (r ∷ rs) g none p x x' at at' is = absurd (omega (arith, none))

-- each was told a 503
pub all_told : {R W : Type 0} (here here' : List (Client R W)) (ss : List Sender) (rs : List (List ℕ)) (why : Fault)
    → AreGiven here ss rs → AreApart ss → RefusesEach here here' ss why → AllGo here here' ss
all_told here here' [] rs why g apart a p x x' at at' is = absurd is
all_told here here' (s ∷ ss) [] why g apart a p x x' at at' is = absurd g
all_told {R} {W} here here' (s ∷ ss) (r ∷ rs) why g apart (mid, one, more) p x x' at at' is = elim (same_or_not p s.place) [
  | inl e ↦
      let there : slice_get here' s.place ≡ Some one.after =
      refused_elsewhere mid here' ss why s.place more apart.0
      ∙ ap (λ (cs : List (Client R W)). slice_get cs s.place) one.is ∙ at_same here s.place one.before one.after one.at in
      let x'_is : one.after ≡ x' = some_is one.after x' (sym there ∙ ap (λ (n : ℕ). slice_get here' n) (sym e) ∙ at') in
      subst (λ (z : Client R W). Goes x z) x'_is (inl (told (refuses_given here mid s r why g.0 one)))
  | inr ne ↦
      all_told mid here' ss rs why (given_still here mid s.place one.after ss rs one.is g.1 apart.0) apart.1 more p x x'
      (ap (λ (cs : List (Client R W)). slice_get cs p) one.is ∙ at_other here s.place p one.after ne ∙ at) at' (rest is ne)
]
  where
    rest : (s.place ≡ p) ⊎ IsAmong ss p → p ≢ s.place → IsAmong ss p
    rest (inl same) ne = absurd (ne (sym same))
    rest (inr more) ne = more

    told : {text : List ℕ} → HasEndedWith g.0.client one.after text (parting.Bank why) → HasNoMore one.after
    told (inl ended) = inr (parting.Bank why, ended.parting)
    told (inr lost) = inr (parting.Memory, lost.parting)
