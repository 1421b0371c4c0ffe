-- What is done before a round of clients that are served at once, and after it.
use Rattle.std.proofs.Common.{◌≡◌, ℕ, List, [], ◌∷◌, ◌++◌, length, map, Option}
use Rattle.std.proofs.Common.{Result, Ok, Err, refl, sym, ap, subst, ◌∙◌, append_assoc, append-nil, arith, inl, inr}
use Rattle.std.specs.Prelude.{None, Contains, OnErr}
use Rattle.std.specs.List.{AllByRecursion, AllZip}
use Rattle.std.proofs.lemmas.List.Elements.{Contains-append_right}
use Rattle.posting_rules.specs.declared.fault.Fault.{Fault}
use Rattle.posting_rules.specs.believed.Counter.{Seen}
use Rattle.posting_core.specs.believed.EndCalls.{GrowsBy}
use Rattle.posting_core.proofs.{StreamedBatches.all_more}
use Rattle.counter_http.specs.Clients.{ClientsCall, Refused, Waited, given_up_told, waited_told}
use Rattle.counter_http.specs.Connections.{Known}
use Rattle.counter_http.specs.together.Crowd.{GoesOn, HaveMoved, IsCrowd, IsHere, TakesIn}
use Rattle.counter_http.specs.together.Crowd.{all_settled}
use Rattle.counter_http.specs.together.Order.{HasSpared, Step, steps_in}
use Rattle.counter_http.specs.together.Order.{steps_of}
use Rattle.counter_http.specs.together.Rounds.{AnswersRound, ends_here, ends_in, fault_in, given_up, numbers}
use Rattle.counter_http.specs.together.Standing.{IsNew, Writes}
use Rattle.counter_http.specs.together.Serving.{openings}
use Rattle.counter_http.specs.together.Tracing.{HasRefused, IsNoWait, all_on, fills}
use Rattle.counter_http.specs.together.Tracing.{StoodSo}
use Rattle.counter_http.specs.together.Tracing.{calls_of, here_after, number_waited}
use Rattle.counter_http.specs.declared.parting.Parting.TheVariants as parting
use Rattle.counter_http.specs.declared.client.Client.{Client}
use Rattle.counter_http.specs.declared.clients.Readiness.{Readiness}
use Rattle.counter_http.specs.declared.figures.Tally.{Tally}
use Rattle.counter_http.specs.declared.listen_fault.ListenFault.{ListenFault}
use Rattle.counter_http.proofs.CrowdRounds.{all_by, crowd_goes, crowd_round, crowd_writes, goes_number, same_numbers}
use Rattle.counter_http.proofs.Crowds.{crowd_on, crowd_stays, crowd_waits}
use Rattle.counter_http.proofs.CrowdMoves.{crowd_moved}
use Rattle.counter_http.proofs.Crowds.{given_no_wait}
use Rattle.counter_http.proofs.CrowdMoves.{moved_all, none_waited}
use Rattle.counter_http.proofs.Moving.{HadMuch, all_waited}
use Rattle.counter_http.proofs.Moving.{each_ends, last_then, much_goes, much_new}
use Rattle.counter_http.proofs.Removed.{all_both, each_contained}
use Rattle.counter_http.proofs.Stood.{closed_early, left_as}
use Rattle.counter_http.proofs.Rounding.{Begun, Rounding, here_long}

-- ---- what is done before a round, and after it

-- nobody came or left
pub waited_still : {R W : Type 0} {known : R × W → Known} {g t t' : Option (List (ClientsCall (R × W)))}
    {calls : List (ClientsCall (R × W))} {steps : List Step} {fault : Option Fault} {refused : List Step} {came : ℕ}
    {here : List (Client R W)} → GrowsBy t t' []
    → IsCrowd ⊥ [] known g calls steps fault refused (record { calls = t; came = came; here = here })
    → IsCrowd ⊥ [] known g calls steps fault refused (record { calls = t'; came = came; here = here })
waited_still {R} {W} {known} {g} {t} {t'} {calls} {steps} {fault} {refused} {came} {here} waited crowd =
    subst (λ (x : List (ClientsCall (R × W))). IsCrowd ⊥ [] known g x steps fault refused
    (record { calls = t'; came = came; here = here })) (append-nil calls) (crowd_stays _ crowd (record {
      calls = [];
      made = waited;
      none_came = refl;
      none_left = refl;
      none_waited = tt;
      same = λ ns. refl;
      here = refl;
      came = refl;
    }))

numbers_waited : {R W : Type 0} (here : List (Client R W)) → map number_waited (ends_here here) ≡ numbers here
numbers_waited [] = refl
numbers_waited (x ∷ xs) = ap (λ (ns : List ℕ). x.number ∷ ns) (numbers_waited xs)

-- where each client that is here stands, as it is waited for
all_stand : {R W : Type 0} (known : R × W → Known) (steps : List Step) (calls : List (ClientsCall (R × W)))
    (here : List (Client R W)) → AllByRecursion (IsHere known steps None [] calls) here
    → AllByRecursion (StoodSo known steps calls) (ends_here here)
all_stand known steps calls [] all = tt
all_stand known steps calls (x ∷ xs) all = (
  record {
    given = all.0.given;
    came = all.0.came;
    served = closed_early parting.Stopped tt (left_as x.parting all.0.stands.is);
  },
  all_stand known steps calls xs all.1,
)

-- those who were here were waited for and gone on with, some were given up, and others were taken in
pub before_round : {C R W : Type 0} {seen : C → Seen} {reason : Fault → C → C → Type 0} {known : R × W → Known}
    {g t t' u t'' : Option (List (ClientsCall (R × W)))} {k k' : Option (List ℕ)} {old now : C} {n came came' turns : ℕ}
    {tally : Tally} (asked here viewed gone here' left here'' : List (Client R W)) (said found : List Readiness)
    → asked ≡ here → viewed ≡ here → here' ≡ gone → found ≡ said
    → Rounding seen reason known g t k k' old now n came here tally turns []
    → GrowsBy t t' (waited_told (ends_here asked) (given_up (numbers asked) said)) → AllZip (GoesOn known) viewed gone
    → ((m : ℕ) → HaveMoved ⊥ (given_up (numbers here') found) (record { calls = t'; came = m; here = here' })
    (record { calls = u; came = m; here = left })) → (result : Result (Unit {0}) ListenFault)
    → TakesIn n (record { calls = u; came = came; here = left }) (record { calls = t''; came = came'; here = here'' }) result
    → Begun seen reason known g t'' k k' old now n came' here'' tally turns result
before_round {R = R} {W} {seen} {reason} {known} {g} {t} {t'} {u} {t''} {old = old} {now} {n} {came} {came'} asked here viewed gone here' left here''
    said found same view new as_said s waited goes leave result taken =
    let all : AllZip (GoesOn known) here here' =
    subst (λ (xs : List (Client _ _)). AllZip (GoesOn known) xs here') view
    (subst (λ (ys : List (Client _ _)). AllZip (GoesOn known) viewed ys) (sym new) goes) in
    let those : given_up (numbers here') found ≡ given_up (numbers asked) said =
    ap (λ (ns : List ℕ). given_up ns found) (same_numbers (GoesOn known) goes_number here here' all)
    ∙ ap (λ (xs : List (Client R W)). given_up (numbers xs) found) (sym same)
    ∙ ap (λ (rs : List Readiness). given_up (numbers asked) rs) as_said in
    let given = given_up (numbers here') found in
    let ends = ends_here here in
    let grown : GrowsBy t t' (waited_told ends given) =
    subst (λ (xs : List (Client R W)). GrowsBy t t' (waited_told (ends_here xs) given)) same
    (subst (λ (ns : List ℕ). GrowsBy t t' (waited_told (ends_here asked) ns)) (sym those) waited) in
    let lost = (leave came).calls in
    let got = taken.moved.calls in
    let told : List (ClientsCall (R × W)) = waited_told ends given in
    let before = given_up_told given ++ (lost ++ got) in
    let calls = ((s.calls ++ told) ++ lost) ++ got in
    let crowd : IsCrowd ⊥ [] known g calls (steps_of s.rounds) None []
    (record { calls = t''; came = came'; here = here'' }) =
    crowd_moved (λ stop. stop) taken.moved (crowd_on (crowd_moved (λ stop. stop) (leave came)
    (crowd_goes here here' all (crowd_waits ends given grown s.crowd)))) in
    let were : s.calls ≡ calls_of s.laps = s.calls_are ∙ append-nil (calls_of s.laps) in
    let are : calls ≡ calls_of s.laps ++ (Waited ends ∷ before) =
    append_assoc (s.calls ++ told) lost got ∙ append_assoc s.calls told (lost ++ got)
    ∙ ap (λ (x : List (ClientsCall (R × W))). x ++ (told ++ (lost ++ got))) were in
    let Stands : Client R W → Type 0 = IsHere known (steps_of s.rounds) None [] (calls_of s.laps) in
    let stand : AllByRecursion Stands here =
    subst (λ (x : List (ClientsCall (R × W))). AllByRecursion (IsHere known (steps_of s.rounds) None [] x) here)
    were s.crowd.are_here in
    let Had : Client R W → Type 0 = HadMuch known (steps_of s.rounds) (calls_of s.laps) ends in
    let Was : Client R W → Type 0 = λ x. Stands x × Contains ends (ends_in x) in
    let new_one : (number : ℕ) (e : R × W) (client : Client R W) → IsNew number e.0 e.1 client → Had client =
    much_new known (steps_of s.rounds) (calls_of s.laps) ends in
    let there : (call : ClientsCall (R × W)) → Contains got call → Contains before call =
    λ call is. Contains-append_right (given_up_told given) (lost ++ got) call (Contains-append_right lost got call is) in
    record {
      waited = ends;
      before = before;
      s = record {
        rounds = s.rounds;
        counted = s.counted;
        figured = s.figured;
        calls = calls;
        laps = s.laps;
        calls_are = are;
        are_laps = s.are_laps;
        moves = s.moves;
        settled = λ none. cc none;
        many = s.many;
        are_rounds = s.are_rounds;
        clock = s.clock;
        dated = s.dated;
        honest = s.honest;
        up = s.up;
        takes = s.takes;
        due = s.due;
        idle = s.idle;
        few = taken.few;
        crowd = crowd;
      };
      opened = record {
        all = numbers_waited here ∙ s.crowd.now ∙ ap (here_after []) were;
        once = all_more IsNoWait (given_up_told given) (lost ++ got) (given_no_wait (R × W) given)
            (all_more IsNoWait lost got (none_waited (leave came)) (none_waited taken.moved));
        stood = subst (λ (x : List (ClientsCall (R × W))). AllByRecursion (StoodSo known
            (steps_of s.rounds) x) ends) were (all_stand known (steps_of s.rounds) s.calls here s.crowd.are_here);
        taken_in = elim taken.all [
          | inl none_left ↦ inl (ap (λ (x : List (ClientsCall (R × W))). length (openings x)) (sym are) ∙ sym crowd.all
              ∙ crowd.many ∙ none_left)
          | inr other ↦ inr (elim other [
            | inl full ↦ inl (omega (arith, full, here_long here'' calls _ crowd.now are))
            | inr gave ↦ inr (gave.0, Contains-append_right (Waited ends ∷ []) before gave.0 (there gave.0 gave.1), gave.2)
          ])
        ];
      };
      moved = last_then (all_settled (fills (HasSpared reason)) known here)
          (all_on (fills (HasSpared reason)) known ends) (calls_of s.laps) (steps_of s.rounds)
          (λ cs ss l r called answered settled. all_waited None [] (fills (HasSpared reason)) known cs ss l r
          (calls_of s.laps) (steps_of s.rounds) here called answered stand settled) known n [] [] s.laps
          s.rounds s.are_laps refl refl (s.settled refl);
      much = moved_all Had new_one _ _ taken.moved (moved_all Had new_one _ _ (leave came)
          (all_by (GoesOn known) Was Had (much_goes known (steps_of s.rounds) (calls_of s.laps) ends) here here'
          all (all_both Stands (λ (x : Client R W). Contains ends (ends_in x)) here stand
          (each_ends (λ (w : ℕ × (R × W)). Contains ends w) here (each_contained ends)))));
      refused = refused_there result taken.refused;
    }
  where
    refused_there : (result : Result (Unit {0}) ListenFault) → OnErr result (HasRefused taken.moved.calls)
        → OnErr result (HasRefused (given_up_told (given_up (numbers here') found)
        ++ ((leave came).calls ++ taken.moved.calls)))
    refused_there (Ok done) none = tt
    refused_there (Err fault) is = record {
      kind = is.kind;
      one = Contains-append_right (given_up_told (given_up (numbers here') found))
          ((leave came).calls ++ taken.moved.calls) (Refused is.kind)
          (Contains-append_right (leave came).calls taken.moved.calls (Refused is.kind) is.one);
    }

pub after_round : {C R W X : Type 0} (seen : C → Seen) {reason : Fault → C → C → Type 0} {known : R × W → Known}
    {g t t' : Option (List (ClientsCall (R × W)))} {k k' k'' : Option (List ℕ)} (old now new : C)
    {n came seconds turns : ℕ} {u u' : Tally} {until : List (ClientsCall (R × W))} (here here' viewed gone here'' left : List (Client R W))
    (result : Result X Fault) → viewed ≡ here' → here'' ≡ gone
    → (s : Rounding seen reason known g t k k' old now n came here u turns until)
    (r : AnswersRound seen reason known k' k'' now new here here' u u' seconds result) → AllZip (Writes known) viewed gone
    → (moved : (came : ℕ) → HaveMoved ⊥ [] (record { calls = t; came = came; here = here'' })
    (record { calls = t'; came = came; here = left }))
    → IsCrowd ⊥ [] known g (s.calls ++ (moved came).calls) (steps_of s.rounds ++ steps_in r.round)
    (fault_in result) r.refused (record { calls = t'; came = came; here = left })
after_round seen {known = known} old now new {came = came} here here' viewed gone here'' left result same is s r writes
    moved =
    let all : AllZip (Writes known) here' here'' =
    subst (λ (xs : List (Client _ _)). AllZip (Writes known) xs here'') same
    (subst (λ (ys : List (Client _ _)). AllZip (Writes known) viewed ys) (sym is) writes) in
    crowd_moved (λ stop. stop) (moved came) (crowd_writes here' here'' all
    (crowd_round seen now new (steps_of s.rounds) here here' result s.crowd r))
