-- Clients that are served at once, round by round.
use Rattle.std.proofs.Common.{◌≡◌, ℕ, ◌<◌, suc, List, [], ◌∷◌, ◌++◌, length, map, Option, Some}
use Rattle.std.proofs.Common.{Result, refl, sym, ap, subst, ◌∙◌, append-nil, inl, inr}
use Rattle.std.specs.Prelude.{◌≢◌, None, Contains, AllPairs}
use Rattle.std.specs.List.{AllByRecursion, AllZip, slice_get}
use Rattle.std.proofs.lemmas.List.Elements.{All-contains, All-from_recursion, Contains-append_right}
use Rattle.posting_rules.specs.declared.fault.Fault.{Fault}
use Rattle.posting_rules.specs.believed.Counter.{Seen, Takes}
use Rattle.posting_core.proofs.{StreamedBatches.all_more}
use Rattle.counter_http.specs.Clients.{ClientsCall, Gave}
use Rattle.counter_http.specs.Connections.{Known}
use Rattle.counter_http.specs.together.Crowd.{Differ, GoesOn, HasLeft, IsCrowd, IsHere, Scene}
use Rattle.counter_http.specs.together.Crowd.{WereRefused}
use Rattle.counter_http.specs.together.Faring.{Fares, IsToldSo}
use Rattle.counter_http.specs.together.Order.{Step, steps_in}
use Rattle.counter_http.specs.together.Order.{submitted_by}
use Rattle.counter_http.specs.together.Reading.{Lost, Reads, Refused, SaysAtEnd, Silent}
use Rattle.counter_http.specs.together.Rounds.{AnswersRound, IsOfOneOf, fault_in, numbers}
use Rattle.counter_http.specs.together.Standing.{AreRefused, IsUpToDate, StandsHere, Writes, unread}
use Rattle.counter_http.specs.together.Serving.{IsWhyParted, Visit, number_of}
use Rattle.counter_http.specs.declared.client.Client.{Client}
use Rattle.counter_http.specs.declared.figures.Tally.{Tally}
use Rattle.counter_http.specs.declared.parting.Parting.{Parting}
use Rattle.counter_http.specs.declared.parting.Parting.TheVariants as parting
use Rattle.counter_http.proofs.Beside.{served_beside}
use Rattle.counter_http.proofs.Crowds.{all_last, each_weaker, none_given, pairs_differ}
use Rattle.counter_http.proofs.ConnectionLoop.{unfinished_none}
use Rattle.counter_http.proofs.Faring.{none_memory, none_served, told_none, why_still}
use Rattle.counter_http.proofs.Fronts.{going_of}
use Rattle.counter_http.proofs.Readings.{number_read, read_here}
use Rattle.counter_http.proofs.Refused.{refused_written}
use Rattle.counter_http.proofs.Steps.{OfOther}
use Rattle.counter_http.proofs.Written.{number_written, written_here}

-- ---- each client on its own

here_as : {R W : Type 0} {known : R × W → Known} {steps steps' : List Step} {fault fault' : Option Fault}
    {refused refused' : List Step} {calls : List (ClientsCall (R × W))} (old new : Client R W) → new.number ≡ old.number
    → ((k : Known) → StandsHere known k steps old → StandsHere known k steps' new)
    → ((k : Known) → StandsHere known k steps old → AreRefused known k steps fault refused old
    → AreRefused known k steps' fault' refused' new)
    → (IsToldSo fault refused old.number old.parting → IsToldSo fault' refused' old.number new.parting)
    → IsHere known steps fault refused calls old → IsHere known steps' fault' refused' calls new
here_as {fault' = fault'} {refused' = refused'} {calls = calls} old new number stands still told is = record {
  given = is.given;
  came = subst (λ (n : ℕ). Contains calls (Gave n is.given)) (sym number) is.came;
  stands = stands _ is.stands;
  are_refused = still _ is.stands is.are_refused;
  told = subst (λ (n : ℕ). IsToldSo fault' refused' n new.parting) (sym number) (told is.told);
}

-- what it is told of a refusal, no write and no read changes
written_told : {R W : Type 0} {known : R × W → Known} {fault : Option Fault} {refused : List Step} {n : ℕ}
    (old new : Client R W) → Writes known old new → IsToldSo fault refused n old.parting → IsToldSo fault refused n new.parting
written_told {fault = fault} {refused} {n} old new (inl same) told =
    subst (λ (x : Client _ _). IsToldSo fault refused n x.parting) (sym same) told
written_told {fault = fault} {refused} {n} old new (inr (inl w)) told =
    subst (λ (p : Option Parting). IsToldSo fault refused n p) (sym w.parting) told
written_told old new (inr (inr w)) told = told_none new.parting (Some parting.Write) w.parting (λ why e. cc e)

ended_told : {R W : Type 0} {fault : Option Fault} {refused : List Step} {n : ℕ} (old new : Client R W) → SaysAtEnd old new
    → IsToldSo fault refused n new.parting
ended_told old new (Silent empty none why) = told_none new.parting (Some parting.Served) why none_served
ended_told old new (Refused some text why) = told_none new.parting (Some parting.Served) why none_served
ended_told old new (Lost none why) = told_none new.parting (Some parting.Memory) why none_memory

read_told : {R W : Type 0} {known : R × W → Known} {fault : Option Fault} {refused : List Step} {n : ℕ}
    (old new : Client R W) → Reads known old new → IsToldSo fault refused n old.parting → IsToldSo fault refused n new.parting
read_told {fault = fault} {refused} {n} old new (inl same) told =
    subst (λ (x : Client _ _). IsToldSo fault refused n x.parting) (sym same) told
read_told old new (inr (inl some)) told = told_none new.parting None some.goes_on (λ why e. cc e)
read_told old new (inr (inr (inl end))) told = ended_told old new end.says
read_told old new (inr (inr (inr last))) told = told_none new.parting (Some parting.Read) last.parting (λ why e. cc e)

goes_here : {R W : Type 0} {known : R × W → Known} {steps : List Step} {calls : List (ClientsCall (R × W))}
    (old new : Client R W) → GoesOn known old new → IsHere known steps None [] calls old
    → IsHere known steps None [] calls new
goes_here {known = known} {steps} {calls} old new (inl same) is =
    subst (λ (x : Client _ _). IsHere known steps None [] calls x) (sym same) is
goes_here old new (inr served) is =
    here_as old new (number_read served.between new served.reads ∙ number_written old served.between served.writes)
    (λ k stands. read_here served.between new served.reads (written_here old served.between served.writes stands))
    (λ k stands all. tt) (λ told. read_told served.between new served.reads (written_told old served.between served.writes told)) is

pub goes_number : {R W : Type 0} {known : R × W → Known} (old new : Client R W) → GoesOn known old new
    → new.number ≡ old.number
goes_number old new (inl same) = ap (λ (x : Client _ _). x.number) same
goes_number old new (inr served) =
    number_read served.between new served.reads ∙ number_written old served.between served.writes

told_written : {R W : Type 0} (known : R × W → Known) (k : Known) (steps : List Step) (fault : Option Fault)
    (refused : List Step) (old new : Client R W) → Writes known old new
    → AreRefused known k steps fault refused old → AreRefused known k steps fault refused new
told_written known k steps None refused old new w all = tt
told_written known k steps (Some why) [] old new w all = tt
told_written known k steps (Some why) (s ∷ ss) old new w all = (
  (λ own. refused_written old new w (all.0 (own ∙ number_written old new w))),
  told_written known k steps (Some why) ss old new w all.1,
)

writes_here : {R W : Type 0} {known : R × W → Known} {steps : List Step} {fault : Option Fault}
    {refused : List Step} {calls : List (ClientsCall (R × W))} (old new : Client R W) → Writes known old new
    → IsHere known steps fault refused calls old → IsHere known steps fault refused calls new
writes_here {known = known} {steps} {fault} {refused} old new w is =
    here_as old new (number_written old new w) (λ k stands. written_here old new w stands)
    (λ k stands all. told_written known k steps fault refused old new w all) (written_told old new w) is

pub same_numbers : {R W : Type 0} (M : Client R W → Client R W → Type 0)
    → ((x y : Client R W) → M x y → y.number ≡ x.number) → (xs ys : List (Client R W)) → AllZip M xs ys
    → numbers ys ≡ numbers xs
same_numbers M number [] [] all = refl
same_numbers M number [] (y ∷ ys) all = absurd all
same_numbers M number (x ∷ xs) [] all = absurd all
same_numbers M number (x ∷ xs) (y ∷ ys) all =
    ap (λ (n : ℕ). n ∷ numbers ys) (number x y all.0)
    ∙ ap (λ (ns : List ℕ). x.number ∷ ns) (same_numbers M number xs ys all.1)

pub all_by : {A : Type 0} (M : A → A → Type 0) (P Q : A → Type 0) → ((x y : A) → M x y → P x → Q y) → (xs ys : List A)
    → AllZip M xs ys → AllByRecursion P xs → AllByRecursion Q ys
all_by M P Q f [] [] all h = tt
all_by M P Q f [] (y ∷ ys) all h = absurd all
all_by M P Q f (x ∷ xs) [] all h = absurd all
all_by M P Q f (x ∷ xs) (y ∷ ys) all h = (f x y all.0 h.0, all_by M P Q f xs ys all.1 h.1)

-- the same clients are here, and stand there
pub crowd_as : {R W : Type 0} {stops : Type 0} {given : List ℕ} {known : R × W → Known} {g t : Option (List (ClientsCall (R × W)))}
    {calls : List (ClientsCall (R × W))} {steps : List Step} {fault : Option Fault} {refused : List Step} {came : ℕ} {here : List (Client R W)}
    (here' : List (Client R W))
    → IsCrowd stops given known g calls steps fault refused (record { calls = t; came = came; here = here })
    → numbers here' ≡ numbers here
    → AllByRecursion (IsHere known steps fault refused calls) here'
    → IsCrowd stops given known g calls steps fault refused (record { calls = t; came = came; here = here' })
crowd_as {steps = steps} {fault} {refused} {came} {here} here' crowd same stand =
    let all = ap (λ (ns : List ℕ). map number_of crowd.visits ++ ns) (sym same) in
    record {
      made = crowd.made;
      visits = crowd.visits;
      closed = crowd.closed;
      visited = crowd.visited;
      to_give_up = crowd.to_give_up;
      are_here = stand;
      now = same ∙ crowd.now;
      differ = subst Differ all crowd.differ;
      below = subst (λ (ns : List ℕ). AllByRecursion (λ (n : ℕ). n < came) ns) all crowd.below;
      whose = subst (λ (ns : List ℕ). AllByRecursion (IsOfOneOf ns) (steps ++ refused)) all crowd.whose;
      all = ap length (sym all) ∙ crowd.all;
      many = subst (λ (ns : List ℕ). length ns ≡ came) all crowd.many;
    }

pub crowd_goes : {R W : Type 0} {stops : Type 0} {given : List ℕ} {known : R × W → Known} {g t : Option (List (ClientsCall (R × W)))}
    {calls : List (ClientsCall (R × W))} {steps : List Step} {came : ℕ} (here here' : List (Client R W)) → AllZip (GoesOn known) here here'
    → IsCrowd stops given known g calls steps None [] (record { calls = t; came = came; here = here })
    → IsCrowd stops given known g calls steps None [] (record { calls = t; came = came; here = here' })
crowd_goes {known = known} {calls} {steps} here here' goes crowd =
    crowd_as here' crowd (same_numbers (GoesOn known) goes_number here here' goes)
    (all_by (GoesOn known) (IsHere known steps None [] calls) (IsHere known steps None [] calls) goes_here here here'
    goes crowd.are_here)

pub crowd_writes : {R W : Type 0} {stops : Type 0} {given : List ℕ} {known : R × W → Known} {g t : Option (List (ClientsCall (R × W)))}
    {calls : List (ClientsCall (R × W))} {steps : List Step} {fault : Option Fault} {refused : List Step} {came : ℕ} (here here' : List (Client R W))
    → AllZip (Writes known) here here'
    → IsCrowd stops given known g calls steps fault refused (record { calls = t; came = came; here = here })
    → IsCrowd stops given known g calls steps fault refused (record { calls = t; came = came; here = here' })
crowd_writes {known = known} {calls} {steps} {fault} {refused} here here' writes crowd =
    crowd_as here' crowd (same_numbers (Writes known) number_written here here' writes)
    (all_by (Writes known) (IsHere known steps fault refused calls) (IsHere known steps fault refused calls) writes_here here
    here' writes crowd.are_here)

-- no two have the same number
pub crowd_differs : {R W : Type 0} {stops : Type 0} {given : List ℕ} {known : R × W → Known} {g : Option (List (ClientsCall (R × W)))}
    {calls : List (ClientsCall (R × W))} {steps : List Step} {fault : Option Fault} {refused : List Step} {a : Scene R W}
    → IsCrowd stops given known g calls steps fault refused a → AllPairs (λ (m n : ℕ). m ≢ n) (numbers a.here)
crowd_differs {a = a} crowd =
    pairs_differ (numbers a.here) (last_of (map number_of crowd.visits) (numbers a.here) crowd.differ)
  where
    last_of : (xs ys : List ℕ) → Differ (xs ++ ys) → Differ ys
    last_of [] ys d = d
    last_of (x ∷ xs) ys d = last_of xs ys d.1

-- where one waits for more, its whole messages are answered
up_to_date : {R W : Type 0} {known : R × W → Known} {steps : List Step} {fault : Option Fault}
    {refused : List Step} {calls : List (ClientsCall (R × W))} (client : Client R W)
    → IsHere known steps fault refused calls client → IsUpToDate client
up_to_date client is going none =
    unfinished_none (unread client) ((going_of client going is.stands).waits none)

pub all_up_to_date : {R W : Type 0} {stops : Type 0} {given : List ℕ} {known : R × W → Known} {g : Option (List (ClientsCall (R × W)))}
    {calls : List (ClientsCall (R × W))} {steps : List Step} {fault : Option Fault} {refused : List Step} {a : Scene R W}
    → IsCrowd stops given known g calls steps fault refused a → AllByRecursion IsUpToDate a.here
all_up_to_date {known = known} {calls} {steps} {fault} {refused} {a} crowd =
    each_weaker (IsHere known steps fault refused calls) IsUpToDate up_to_date a.here crowd.are_here

-- ---- a round

-- the messages of those that are here are none of another's
others_of : (n : ℕ) (ns : List ℕ) (ss : List Step) → AllByRecursion (λ (m : ℕ). n ≢ m) ns
    → AllByRecursion (IsOfOneOf ns) ss → AllByRecursion (OfOther n) ss
others_of n ns [] apart whose = tt
others_of n ns (s ∷ ss) apart whose =
    let other : n ≢ s.client =
    All-contains (λ (m : ℕ). n ≢ m) ns s.client (All-from_recursion (λ (m : ℕ). n ≢ m) ns apart) whose.0 in
    (λ (e : s.client ≡ n). other (sym e), others_of n ns ss apart whose.1)

-- and so those who left were served still
none_refused : {E : Type 0} (known : E → Known) (steps : List Step) (fault : Option Fault) (refused : List Step)
    (v : Visit E) → AllByRecursion (OfOther v.number) refused → WereRefused known steps fault refused v
none_refused known steps None refused v others = tt
none_refused known steps (Some why) [] v others = tt
none_refused known steps (Some why) (s ∷ ss) v others =
    ((λ own. absurd (others.0 own)), none_refused known steps (Some why) ss v others.1)

why_further : {E : Type 0} (stops : Type 0) (calls : List (ClientsCall E)) (n : ℕ) (p : Parting) (fault : Option Fault)
    (refused : List Step) → IsWhyParted stops None [] calls n p → IsWhyParted stops fault refused calls n p
why_further stops calls n parting.GivenUp fault refused is = is
why_further stops calls n parting.Stopped fault refused is = is
why_further stops calls n parting.Served fault refused is = tt
why_further stops calls n parting.Read fault refused is = tt
why_further stops calls n parting.Write fault refused is = tt
why_further stops calls n parting.Memory fault refused is = tt
why_further stops calls n (parting.Bank why) fault refused is = why_still [] is

visited_further : {R W : Type 0} (stops : Type 0) (known : R × W → Known) (steps : List Step)
    (calls : List (ClientsCall (R × W))) (ns : List ℕ) (more : List Step) (fault : Option Fault) (refused : List Step)
    (visits : List (Visit (R × W))) → AllByRecursion (IsOfOneOf ns) more
    → AllByRecursion (IsOfOneOf ns) refused → Differ (map number_of visits ++ ns)
    → AllByRecursion (HasLeft stops known steps None [] calls) visits
    → AllByRecursion (HasLeft stops known (steps ++ more) fault refused calls) visits
visited_further stops known steps calls ns more fault refused [] whose too differ all = tt
visited_further stops known steps calls ns more fault refused (v ∷ vs) whose too differ all =
    let apart = all_last (λ (m : ℕ). v.number ≢ m) (map number_of vs) ns differ.0 in (
      (
        (all.0.0.0, served_beside more (others_of v.number ns more apart whose) all.0.0.1),
        none_refused known (steps ++ more) fault refused v (others_of v.number ns refused apart too),
        why_further stops calls v.number v.parting fault refused all.0.2,
      ),
      visited_further stops known steps calls ns more fault refused vs whose too differ.1 all.1,
    )

whose_more : (ms ns : List ℕ) (ss : List Step) → AllByRecursion (IsOfOneOf ns) ss → AllByRecursion (IsOfOneOf (ms ++ ns)) ss
whose_more ms ns [] whose = tt
whose_more ms ns (s ∷ ss) whose = (Contains-append_right ms ns s.client whose.0, whose_more ms ns ss whose.1)

-- how each client at its place stands
abbrev AtPlaces : {A : Type 0} → (A → A → Type 0) → List A → List A → Type 0
AtPlaces {A} M xs ys =
    (p : ℕ) (x y : A) → slice_get xs p ≡ Some x → slice_get ys p ≡ Some y → M x y

pub zip_places : {R W : Type 0} (M : Client R W → Client R W → Type 0) (xs ys : List (Client R W)) → numbers ys ≡ numbers xs
    → AtPlaces M xs ys → AllZip (λ (x y : Client R W). (y.number ≡ x.number) × M x y) xs ys
zip_places M [] [] same at = tt
zip_places M [] (y ∷ ys) same at = cc same
zip_places M (x ∷ xs) [] same at = cc same
zip_places M (x ∷ xs) (y ∷ ys) same at = (
  (ap (first_of 0) same, at 0 x y refl refl),
  zip_places M xs ys (ap rest_of same) (λ p a b is is'. at (suc p) a b is is'),
)
  where
    first_of : ℕ → List ℕ → ℕ
    first_of n [] = n
    first_of n (x ∷ xs) = x

    rest_of : List ℕ → List ℕ
    rest_of [] = []
    rest_of (x ∷ xs) = xs

pub crowd_round : {C R W : Type 0} (seen : C → Seen) {reason : Fault → C → C → Type 0} {known : R × W → Known}
    {k k' : Option (List ℕ)} {g t : Option (List (ClientsCall (R × W)))} {X : Type 0} (old new : C)
    {calls : List (ClientsCall (R × W))} (steps : List Step) {came seconds : ℕ} {u u' : Tally} (here here' : List (Client R W))
    (result : Result X Fault)
    → IsCrowd ⊥ [] known g calls steps None [] (record { calls = t; came = came; here = here })
    → (r : AnswersRound seen reason known k k' old new here here' u u' seconds result)
    → IsCrowd ⊥ [] known g calls (steps ++ steps_in r.round) (fault_in result) r.refused
    (record { calls = t; came = came; here = here' })
crowd_round {C} {R} {W} seen {known = known} old new {calls} steps {came = came} here here' result crowd r =
    let more = steps_in r.round in
    let fault = fault_in result in
    let all = ap (λ (ns : List ℕ). map number_of crowd.visits ++ ns) (sym r.same) in
    let vs = map number_of crowd.visits in
    let Moved : Client R W → Client R W → Type 0 =
    λ x y. Fares fault r.refused more x y × ((l : Known) → StandsHere known l steps x
    → StandsHere known l (steps ++ more) y
    × AreRefused known l (steps ++ more) fault r.refused y) in
    let zip = zip_places Moved here here' r.same (λ p x y is is'. (
      r.fare p x y is is',
      λ l stands. (r.stand p x y is is' l steps stands, r.are_told p x y is is' l steps stands),
    )) in
    record {
      made = crowd.made;
      visits = crowd.visits;
      closed = crowd.closed;
      visited = visited_further ⊥ known steps calls (numbers here) more fault r.refused crowd.visits r.whose r.whose_refused crowd.differ crowd.visited;
      to_give_up = none_given fault calls;
      are_here = all_by (λ (x y : Client R W). (y.number ≡ x.number) × Moved x y)
          (IsHere known steps None [] calls)
          (IsHere known (steps ++ more) fault r.refused calls)
          (λ x y m is. here_as x y m.0 (λ l stands. (m.1.1 l stands).0)
          (λ l stands were. (m.1.1 l stands).1) m.1.0.told is) here here' zip crowd.are_here;
      now = r.same ∙ crowd.now;
      differ = subst Differ all crowd.differ;
      below = subst (λ (ns : List ℕ). AllByRecursion (λ (n : ℕ). n < came) ns) all crowd.below;
      whose = subst (λ (ns : List ℕ). AllByRecursion (IsOfOneOf ns) ((steps ++ more) ++ r.refused)) all
          (all_more (IsOfOneOf (vs ++ numbers here)) (steps ++ more) r.refused
          (all_more (IsOfOneOf (vs ++ numbers here)) steps more
          (subst (λ (ss : List Step). AllByRecursion (IsOfOneOf (vs ++ numbers here)) ss) (append-nil steps) crowd.whose)
          (whose_more vs (numbers here) more r.whose)) (whose_more vs (numbers here) r.refused r.whose_refused));
      all = ap length (sym all) ∙ crowd.all;
      many = subst (λ (ns : List ℕ). length ns ≡ came) all crowd.many;
    }
