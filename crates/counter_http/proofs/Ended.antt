-- How rounds of clients that are served at once end.
use Rattle.std.proofs.Common.{◌≡◌, ℕ, ◌+◌, ◌-◌, ◌^◌, ◌≤◌, ◌⊎◌, List, [], ◌∷◌, ◌++◌, length, map, take, Option, Some}
use Rattle.std.proofs.Common.{Result, Ok, Err, refl, sym, ap, subst, ◌∙◌, append_assoc, append-nil, arith, inl, inr}
use Rattle.std.specs.Prelude.{◌≢◌, None, Contains, AllPairs, IfErr, IsErr, OnErr, OnOk}
use Rattle.std.specs.List.{AllByRecursion}
use Rattle.std.proofs.Math.Seq.{take-append-add}
use Rattle.std.proofs.lemmas.List.{length-append, length-map}
use Rattle.std.proofs.lemmas.List.Elements.{All-contains, All-contains_itself, All-from_recursion, Contains-append_left, Contains-append_right}
use Rattle.std.proofs.lemmas.List.Elements.{recursion_from_All}
use Rattle.std.proofs.lemmas.List.Kept.{AllPairs-cons}
use Rattle.posting_rules.specs.declared.fault.Fault.{Fault}
use Rattle.posting_rules.specs.declared.fault.Fault.TheVariants.{Memory}
use Rattle.posting_rules.specs.believed.Commands.{AreCommands, Command}
use Rattle.posting_rules.specs.believed.Counter.{LeavesOnly, Seen, ShowsPrefix, Takes}
use Rattle.posting_rules.specs.believed.Runs.{followed_by}
use Rattle.posting_rules.specs.believed.Tables.{AreTablesOf}
use Rattle.posting_rules.proofs.CounterCalls.{idle_after, refused_after, takes_none, unchanged_seen}
use Rattle.posting_rules.proofs.{Remaining.leaves_weaker, Sequence.after-append}
use Rattle.posting_core.specs.Stream.{IsOfCall}
use Rattle.posting_core.specs.believed.EndCalls.{GrowsBy}
use Rattle.posting_core.proofs.{ByTables.stays_itself, Stops.stop_all, StreamedBatches.all_more, Telling.adds-more, Telling.adds-none}
use Rattle.counter_http.specs.Clients.{ClientsCall, Refused, Waited}
use Rattle.counter_http.specs.Connections.{Known}
use Rattle.counter_http.specs.together.Crowd.{Differ, HasLeft, HaveMoved, IsCrowd, ServesRounds}
use Rattle.counter_http.specs.together.Crowd.{WereRefused, all_numbers, all_settled}
use Rattle.counter_http.specs.together.Order.{HasSpared, IsRound, Step, steps_in}
use Rattle.counter_http.specs.together.Order.{BreaksOff, steps_of, submitted_by}
use Rattle.counter_http.specs.together.Rounds.{AnswersRound, IsOfOneOf}
use Rattle.counter_http.specs.together.Serving.{ClientIsRefused, EndsTogether, IfBank, IsOfVisit, IsToldTo}
use Rattle.counter_http.specs.together.Serving.{IsVisited, IsVisitWhy, IsWhyRefused, OfOthers, Visit, closings, fault_of_bank, number_of}
use Rattle.counter_http.specs.together.Tracing.{HasRefused, IsCutOff, IsNoWait, Lap, all_on, fills}
use Rattle.counter_http.specs.together.Tracing.{ServesTogether}
use Rattle.counter_http.specs.together.Tracing.{calls_of}
use Rattle.counter_http.specs.declared.client.Client.{Client}
use Rattle.counter_http.specs.declared.figures.Tally.{Tally}
use Rattle.counter_http.specs.declared.listen_fault.ListenFault.{ListenFault}
use Rattle.counter_http.specs.declared.listen_fault.ListenFault.TheVariants.{Network, Bank}
use Rattle.counter_http.proofs.Crowds.{all_first, all_last, crowd_stops}
use Rattle.counter_http.proofs.CrowdMoves.{crowd_moved}
use Rattle.counter_http.proofs.Crowds.{each_weaker}
use Rattle.counter_http.proofs.CrowdMoves.{none_waited}
use Rattle.counter_http.proofs.Dues.{answers_none}
use Rattle.counter_http.proofs.Moving.{all_waited, closed_all}
use Rattle.counter_http.proofs.Moving.{each_ends, last_one, last_then}
use Rattle.counter_http.proofs.Submitted.{positive}
use Rattle.counter_http.proofs.Steps.{submitted-append}
use Rattle.counter_http.proofs.Rounding.{Begun, Rounding, calls_more, clock_one_more, dated_all, dated_last, due_one_more, figured_then, lap_of, laps_then, moves_then, rounding_next, steps_one_more, takes_one_more}

-- ---- how the serving ends

-- nobody is here
pub none_here : {A : Type 0} (here : List A) → length here ≡ 0 → here ≡ []
none_here [] none = refl
none_here (x ∷ xs) none = absurd (omega (arith, none))

-- a crash leaves what was taken before
stop_more : (c : Seen) (log cs ds es : List Command) (n m : ℕ) → es ≡ cs ++ ds → m ≡ length cs + n
    → LeavesOnly c (ShowsPrefix (followed_by log cs) ds n) → LeavesOnly c (ShowsPrefix log es m)
stop_more c log cs ds es n m e long stop = leaves_weaker c (ShowsPrefix (followed_by log cs) ds n) (ShowsPrefix log es m)
    (λ t b.
    let begins : take (length cs + b.count) es ≡ cs ++ take b.count ds = ap (take (length cs + b.count)) e
    ∙ take-append-add cs ds b.count in
    let same : followed_by log (take (length cs + b.count) es) ≡ followed_by (followed_by log cs) (take b.count ds) =
    ap (followed_by log) begins ∙ after-append log cs (take b.count ds) in
    record {
      count = length cs + b.count;
      holds = omega (arith, long, b.holds);
      within = omega (arith, b.within, length-append cs ds, ap length e);
      are = subst AreCommands (sym same) b.are;
      shows = subst (λ (l : List Command). AreTablesOf t l) (sym same) b.shows;
    })
    stop

none_by : (P : Fault → Type 0) (result : Result (Unit {0}) ListenFault) → fault_of_bank result ≡ None
    → IfErr result (λ fault. IfBank fault P)
none_by P (Ok done) none = tt
none_by P (Err Network) none = tt
none_by P (Err (Bank fault)) none = cc none

-- the bank took all that it was given
pub rounds_end : {C R W : Type 0} (seen : C → Seen) {reason : Fault → C → C → Type 0} {known : R × W → Known}
    {g t : Option (List (ClientsCall (R × W)))} {k k' : Option (List ℕ)} (old new : C) {n came turns : ℕ}
    {here : List (Client R W)} {tally : Tally} (result : Result (Unit {0}) ListenFault)
    → EndsTogether seen result new new [] → IfErr result (λ fault. IfBank fault (IsOfCall seen reason old new))
    → OnOk result ((came ≡ n) × (here ≡ [])) → fault_of_bank result ≡ None
    → (s : Rounding seen reason known g t k k' old new n came here tally turns []) → IsCutOff result s.calls s.laps
    → ServesRounds seen reason known g t k k' old new n here result
rounds_end seen {reason} {known} {g} {t} old new {came = came} {here = here} result ends why done none s network = record {
  rounds = s.rounds;
  figured = s.figured;
  are_rounds = s.are_rounds;
  refused = [];
  some = none_by (λ f. [] ≢ []) result none;
  clock = s.clock;
  dated = dated_all reason s.rounds s.dated;
  stood = new;
  honest_first = s.honest;
  honest = λ h. h;
  up = s.up;
  takes = s.takes;
  due = s.due;
  ends = ends;
  survives = λ h log st. stop_all (seen new) log (submitted_by (steps_of s.rounds ++ []))
      (submitted_by (steps_of s.rounds)) (ap submitted_by (append-nil (steps_of s.rounds))) (s.takes.stands h log st);
  idle = s.idle;
  why = why;
  calls = s.calls;
  laps = s.laps;
  calls_are = s.calls_are ∙ append-nil (calls_of s.laps);
  are_laps = s.are_laps;
  moves = s.moves;
  left = none_by _ result none;
  network = network;
  came = came;
  few = s.few;
  done = done;
  crowd = subst (λ (f : Option Fault). IsCrowd ⊥ [] known g s.calls (steps_of s.rounds) f []
      (record { calls = t; came = came; here = here })) (sym none) s.crowd;
}

why_now : {C : Type 0} (seen : C → Seen) (reason : Fault → C → C → Type 0) (old now new : C) (cs : List Command)
    → Takes (seen old) (seen now) cs → ((seen now).honest → (seen old).honest) → ((seen old).is_down → now ≡ old)
    → (fault : Fault) → IsOfCall seen reason now new fault → IsOfCall seen reason old new fault
why_now seen reason old now new cs takes honest idle fault (inl call) =
    inl (refused_after seen reason old now new cs takes honest idle fault call)
why_now seen reason old now new cs takes honest idle fault (inr own) = inr own

-- the bank refused a message, or a batch
pub rounds_broken : {C R W X : Type 0} (seen : C → Seen) {reason : Fault → C → C → Type 0} {known : R × W → Known}
    {g t t' : Option (List (ClientsCall (R × W)))} {k k' k'' : Option (List ℕ)} (old now new : C)
    {n came seconds turns : ℕ} {here here' here'' : List (Client R W)} {u u' : Tally} {done : Result (Unit {0}) ListenFault}
    (fault : Fault) (b : Begun seen reason known g t k k' old now n came here u turns done)
    (r : AnswersRound {X = X} seen reason known k' k'' now new here here' u u' seconds (Err fault))
    (after : List (ClientsCall (R × W))) → AllByRecursion IsNoWait after
    → all_settled (λ x. BreaksOff (HasSpared reason) r.refused) known here'' (calls_of b.s.laps)
    (steps_of b.s.rounds) (lap_of b after) r.round
    → IsCrowd ⊥ [] known g (b.s.calls ++ after) (steps_of b.s.rounds ++ steps_in r.round) (Some fault)
    r.refused (record { calls = t'; came = came; here = here'' })
    → ServesRounds seen reason known g t' k k'' old new n here'' (Err (Bank fault))
rounds_broken seen {reason} {known} {g = g} {t' = t'} {k} {k'} {k''} old now new {n} {came = came} {here'' = here''} fault b
    r after waits settled crowd =
    let s = b.s in
    let calls = s.calls ++ after in
    let rounds = s.rounds ++ r.round ∷ [] in
    let cs = submitted_by (steps_of s.rounds) in
    let ds = submitted_by (steps_in r.round) in
    let order = steps_one_more s.rounds r.round in
    let all : submitted_by (steps_of rounds) ≡ cs ++ ds =
    sym (ap submitted_by order) ∙ submitted-append (steps_of s.rounds) (steps_in r.round) in
    let whole : submitted_by (steps_of rounds ++ r.refused) ≡ cs ++ submitted_by (steps_in r.round ++ r.refused) =
    ap (λ (x : List Step). submitted_by (x ++ r.refused)) (sym order)
    ∙ ap submitted_by (append_assoc (steps_of s.rounds) (steps_in r.round) r.refused)
    ∙ submitted-append (steps_of s.rounds) (steps_in r.round ++ r.refused) in
    record {
      rounds = rounds;
      figured = λ h log shown. figured_then seen now new s r (r.honest_first (r.honest h)) log shown;
      are_rounds = all_more IsRound s.rounds (r.round ∷ []) s.are_rounds (r.is_round, tt);
      refused = r.refused;
      some = r.some;
      clock = clock_one_more k k' k'' s.rounds r.round s.clock r.clock;
      dated = dated_last reason s.rounds r.round r.refused s.dated (inr (positive r.refused r.some));
      stood = r.stood;
      honest_first = λ h. s.honest (r.honest_first h);
      honest = r.honest;
      up = λ down. s.up (r.up down);
      takes = takes_one_more (seen old) (seen now) (seen r.stood) s.rounds r.round r.honest_first s.takes r.takes;
      due = λ h.
          let before = r.honest_first (r.honest h) in
          due_one_more (seen old) (seen now) (seen r.stood) s.rounds r.round before s.takes (s.due before) (r.due h);
      ends = r.ends;
      survives = λ h log st. stop_more (seen new) log cs (submitted_by (steps_in r.round ++ r.refused))
          (submitted_by (steps_of rounds ++ r.refused)) (length ds) (length (submitted_by (steps_of rounds))) whole
          (ap length all ∙ length-append cs ds)
          (r.survives h (followed_by log cs) (s.takes.stands (r.honest_first (r.honest h)) log st));
      idle = idle_after seen old now s.idle new r.idle;
      why = why_now seen reason old now new cs s.takes s.honest s.idle fault r.why;
      calls = calls;
      laps = s.laps ++ lap_of b after ∷ [];
      calls_are = calls_more s.calls s.laps (lap_of b after) s.calls_are;
      are_laps = laps_then seen now new b r after waits;
      moves = moves_then seen now new b r after;
      left = last_one (all_settled (λ x. BreaksOff (HasSpared reason) r.refused) known here'') known n [] [] s.laps s.rounds (lap_of b after) r.round s.are_laps settled;
      network = λ same. absurd (cc same);
      came = came;
      few = s.few;
      done = tt;
      crowd = subst (λ (x : List Step). IsCrowd ⊥ [] known g calls x (Some fault) r.refused
          (record { calls = t'; came = came; here = here'' })) order crowd;
    }

-- an opening was refused in a round
cut_off_by : {E : Type 0} (laps calls after until : List (ClientsCall E)) {done : Result (Unit {0}) ListenFault} {fault : ListenFault}
    → done ≡ Err fault → OnErr done (HasRefused until) → (w : List (ℕ × E)) → calls ≡ laps ++ (Waited w ∷ until)
    → HasRefused (calls ++ after)
cut_off_by {E} laps calls after until {done} {fault} failed refused w are =
    let is : HasRefused until = subst (λ (d : Result (Unit {0}) ListenFault). OnErr d (HasRefused until)) failed refused in
    record {
      kind = is.kind;
      one = Contains-append_left calls after (Refused is.kind)
          (subst (λ (x : List (ClientsCall E)). Contains x (Refused is.kind)) (sym are)
          (Contains-append_right laps (Waited w ∷ until) (Refused is.kind)
          (Contains-append_right (Waited w ∷ []) until (Refused is.kind) is.one)));
    }

pub rounds_cut : {C R W X : Type 0} (seen : C → Seen) {reason : Fault → C → C → Type 0} {known : R × W → Known}
    {g t t' : Option (List (ClientsCall (R × W)))} {k k' k'' : Option (List ℕ)} (old now new : C)
    {n came seconds turns : ℕ} {here here' here'' : List (Client R W)} {u u' : Tally} {x : X}
    {done : Result (Unit {0}) ListenFault} (b : Begun seen reason known g t k k' old now n came here u turns done)
    (r : AnswersRound seen reason known k' k'' now new here here' u u' seconds (Ok x)) (after : List (ClientsCall (R × W)))
    → AllByRecursion IsNoWait after
    → all_settled (fills (HasSpared reason)) known here'' (calls_of b.s.laps) (steps_of b.s.rounds)
    (lap_of b after) r.round
    → IsCrowd ⊥ [] known g (b.s.calls ++ after) (steps_of b.s.rounds ++ steps_in r.round) None r.refused
    (record { calls = t'; came = came; here = here'' }) → {fault : ListenFault} → done ≡ Err fault
    → ServesRounds seen reason known g t' k k'' old new n here'' (Err Network)
unfolding rounding_next
rounds_cut seen {reason = reason} old now new b r after waits settled crowd failed =
    rounds_end seen {reason = reason} old new (Err Network) (refl, refl) tt tt refl
    (rounding_next seen old now new b r after waits settled crowd)
    (λ same. inl (cut_off_by (calls_of b.s.laps) b.s.calls after b.before failed b.refused b.waited b.s.calls_are))

-- ---- all of it

visits_differ : {E : Type 0} (visits : List (Visit E)) (ns : List ℕ) → Differ (map number_of visits ++ ns)
    → AllPairs OfOthers visits
visits_differ [] ns d = λ i j e lt within. absurd (omega (arith, within))
visits_differ (v ∷ vs) ns d =
    AllPairs-cons OfOthers v vs
    (All-from_recursion (OfOthers v) vs (of_numbers vs (all_first (λ (m : ℕ). v.number ≢ m) (map number_of vs) ns d.0)))
    (visits_differ vs ns d.1)
  where
    of_numbers : (us : List (Visit _)) → AllByRecursion (λ (m : ℕ). v.number ≢ m) (map number_of us)
        → AllByRecursion (OfOthers v) us
    of_numbers [] all = tt
    of_numbers (u ∷ us) all = (all.0, of_numbers us all.1)

told_why : {C : Type 0} (seen : C → Seen) (reason : Fault → C → C → Type 0) (old new : C)
    (result : Result (Unit {0}) ListenFault) → IfErr result (λ fault. IfBank fault (IsOfCall seen reason old new))
    → IfErr result (λ fault. IfBank fault (IsWhyRefused seen reason old new))
told_why seen reason old new (Ok done) why = tt
told_why seen reason old new (Err Network) why = tt
told_why seen reason old new (Err (Bank fault)) why = inl why

-- each message that was refused is of one of those who left
numbers_told : {E : Type 0} (known : E → Known) (steps : List Step) (fault : Fault)
    (visits vs : List (Visit E)) (s : Step) → AllByRecursion (λ (v : Visit E). Contains visits v) vs
    → AllByRecursion (λ (v : Visit E). s.client ≡ v.number
    → ClientIsRefused v.number (known v.given) (known v.left) steps fault s.turn v.parting) vs
    → AllByRecursion (λ (n : ℕ). n ≡ s.client → IsToldTo known steps visits fault s) (map number_of vs)
numbers_told known steps fault visits [] s these were = tt
numbers_told known steps fault visits (v ∷ vs) s these were = (
  (λ own. record { visit = v; one = these.0; whose = own; refused = were.0 (sym own) }),
  numbers_told known steps fault visits vs s these.1 were.1,
)

all_told : {E : Type 0} (known : E → Known) (steps : List Step) (fault : Fault) (visits : List (Visit E))
    (refused : List Step) → AllByRecursion (WereRefused known steps (Some fault) refused) visits
    → AllByRecursion (IsOfVisit visits) refused → AllByRecursion (IsToldTo known steps visits fault) refused
all_told known steps fault visits [] were whose = tt
all_told {E} known steps fault visits (s ∷ ss) were whose =
    let Told : ℕ → Type 0 = λ n. n ≡ s.client → IsToldTo known steps visits fault s in
    let Refused : Visit E → Type 0 =
    λ v. s.client ≡ v.number → ClientIsRefused v.number (known v.given) (known v.left) steps fault s.turn v.parting in
    let these = recursion_from_All (λ (v : Visit E). Contains visits v) visits (All-contains_itself visits) in (
      All-contains Told (map number_of visits) s.client
          (All-from_recursion Told (map number_of visits)
          (numbers_told known steps fault visits visits s these
          (each_weaker (WereRefused known steps (Some fault) (s ∷ ss)) Refused (λ v all. all.0) visits were)))
          whose.0 refl,
      all_told known steps fault visits ss
          (each_weaker (WereRefused known steps (Some fault) (s ∷ ss)) (WereRefused known steps (Some fault) ss)
          (λ v all. all.1) visits were) whose.1,
    )

told_of : {E : Type 0} (stops : Type 0) (known : E → Known) (steps : List Step) (calls : List (ClientsCall E))
    (visits : List (Visit E)) (refused : List Step) (result : Result (Unit {0}) ListenFault)
    → AllByRecursion (HasLeft stops known steps (fault_of_bank result) refused calls) visits
    → AllByRecursion (IsOfVisit visits) refused
    → IfErr result (λ fault. IfBank fault (λ f. AllByRecursion (IsToldTo known steps visits f) refused))
told_of stops known steps calls visits refused (Ok done) left whose = tt
told_of stops known steps calls visits refused (Err Network) left whose = tt
told_of stops known steps calls visits refused (Err (Bank fault)) left whose =
    all_told known steps fault visits refused
    (each_weaker (HasLeft stops known steps (Some fault) refused calls)
    (WereRefused known steps (Some fault) refused) (λ v left. left.1) visits left) whose

-- clients are stopped where some are here, and so not where the serving ends well
stopped_by : {R W : Type 0} (came n : ℕ) (here : List (Client R W)) (result : Result (Unit {0}) ListenFault)
    → OnOk result ((came ≡ n) × (here ≡ [])) → here ≢ [] → IsErr result
stopped_by came n here (Ok done) ends some = absurd (some ends.1)
stopped_by came n here (Err fault) ends some = refl

-- connections were closed after that
cut_off_then : {E : Type 0} {calls : List (ClientsCall E)} (more : List (ClientsCall E)) (laps : List (Lap E))
    (result : Result (Unit {0}) ListenFault) → IsCutOff result calls laps → IsCutOff result (calls ++ more) laps
cut_off_then {calls = calls} more laps result cut same = further (cut same)
  where
    further : HasRefused calls ⊎ (2 ^ 64 - 1 ≤ length laps) → HasRefused (calls ++ more) ⊎ (2 ^ 64 - 1 ≤ length laps)
    further (inl refused) = inl (record {
      kind = refused.kind;
      one = Contains-append_left calls more (Refused refused.kind) refused.one;
    })
    further (inr many) = inr many

some_then : (P : Fault → Type 0) (refused : List Step) (result : Result (Unit {0}) ListenFault)
    → IfErr result (λ fault. IfBank fault (λ f. refused ≢ [])) → IfErr result (λ fault. IfBank fault (λ f. (refused ≢ []) ⊎ P f))
some_then P refused (Ok done) some = tt
some_then P refused (Err Network) some = tt
some_then P refused (Err (Bank fault)) some = inl some

come_by : {R W : Type 0} (came n m : ℕ) (here : List (Client R W)) (result : Result (Unit {0}) ListenFault)
    → OnOk result ((came ≡ n) × (here ≡ [])) → m ≡ came → OnOk result (m ≡ n)
come_by came n m here (Ok done) ends same = same ∙ ends.0
come_by came n m here (Err fault) ends same = tt

broken_then : (P Q : Type 0) → (P → Q) → (result : Result (Unit {0}) ListenFault)
    → IfErr result (λ fault. IfBank fault (λ f. P)) → IfErr result (λ fault. IfBank fault (λ f. Q))
broken_then P Q then_so (Ok done) left = tt
broken_then P Q then_so (Err Network) left = tt
broken_then P Q then_so (Err (Bank fault)) left = then_so left

-- everybody left
pub serves_together : {C R W : Type 0} (seen : C → Seen) {reason : Fault → C → C → Type 0} {known : R × W → Known}
    {g t t' : Option (List (ClientsCall (R × W)))} {k k' : Option (List ℕ)} (old new : C) {n : ℕ}
    (here here' : List (Client R W)) (result : Result (Unit {0}) ListenFault)
    → ServesRounds seen reason known g t k k' old new n here result
    → ((came : ℕ) → HaveMoved (here ≢ []) [] (record { calls = t; came = came; here = here })
    (record { calls = t'; came = came; here = here' }))
    → here' ≡ [] → (t'' : Option (List (ClientsCall (R × W)))) → GrowsBy t' t'' []
    → ServesTogether seen reason known g t'' k k' old new n result
serves_together {C} {R} {W} seen {reason} {known} {g} {t} {t'} old new {n} here here' result s moved none t'' ended =
    let gone = (moved s.came).calls in
    let calls = s.calls ++ gone in
    let after : IsCrowd (IsErr result) [] known g calls (steps_of s.rounds)
    (fault_of_bank result) s.refused (record { calls = t'; came = s.came; here = here' }) =
    crowd_moved (stopped_by s.came n here result s.done) (moved s.came) (crowd_stops (λ no. absurd no) s.crowd) in
    let crowd : IsCrowd (IsErr result) [] known g calls (steps_of s.rounds)
    (fault_of_bank result) s.refused (record { calls = t'; came = s.came; here = [] }) =
    subst (λ (x : List (Client R W)). IsCrowd (IsErr result) [] known g calls (steps_of s.rounds) (fault_of_bank result) s.refused
    (record { calls = t'; came = s.came; here = x })) none after in
    let long : length (all_numbers crowd.visits []) ≡ length crowd.visits =
    ap length (append-nil (map number_of crowd.visits)) ∙ length-map crowd.visits number_of in
    let Visited : Visit (R × W) → Type 0 = IsVisited known (steps_of s.rounds) calls in
    let whose : AllByRecursion (IsOfVisit crowd.visits) (steps_of s.rounds ++ s.refused) =
    subst (λ (ns : List ℕ). AllByRecursion (IsOfOneOf ns) (steps_of s.rounds ++ s.refused))
    (append-nil (map number_of crowd.visits)) crowd.whose in
    record {
      rounds = s.rounds;
      are_rounds = s.are_rounds;
      figured = s.figured;
      refused = s.refused;
      clock = s.clock;
      dated = s.dated;
      stood = s.stood;
      honest_first = s.honest_first;
      honest = s.honest;
      up = s.up;
      takes = s.takes;
      due = s.due;
      ends = s.ends;
      survives = s.survives;
      idle = s.idle;
      why = told_why seen reason old new result s.why;
      calls = calls;
      made = subst (λ (x : List (ClientsCall (R × W))). GrowsBy g t'' x) (append-nil calls)
          (adds-more g t' t'' calls [] crowd.made ended);
      traced = record {
        laps = s.laps;
        last = gone;
        calls_are = ap (λ (x : List (ClientsCall (R × W))). x ++ gone) s.calls_are;
        no_more = none_waited (moved s.came);
        are_laps = s.are_laps;
      };
      moves = s.moves;
      broken = broken_then _ _ (λ left. last_then
          (all_settled (λ r. BreaksOff (HasSpared reason) s.refused) known here)
          (all_on (λ r. BreaksOff (HasSpared reason) s.refused) known (closings gone)) s.calls
          (steps_of s.rounds)
          (λ cs ss l r called answered settled. closed_all (here ≢ []) [] _ (moved s.came).scenes gone _ _ (moved s.came).moves refl
          (each_ends _ here (all_waited (fault_of_bank result) s.refused (λ x. BreaksOff (HasSpared reason) s.refused) known cs ss l r s.calls
          (steps_of s.rounds) here called answered s.crowd.are_here settled)))
          known n [] [] s.laps s.rounds s.are_laps (sym s.calls_are) refl left) result s.left;
      network = cut_off_then gone s.laps result s.network;
      visits = crowd.visits;
      closed = crowd.closed;
      once = visits_differ crowd.visits [] crowd.differ;
      each = All-from_recursion Visited crowd.visits
          (each_weaker (HasLeft (IsErr result) known (steps_of s.rounds) (fault_of_bank result)
          s.refused calls) Visited (λ v left. left.0) crowd.visits crowd.visited);
      parted = All-from_recursion (IsVisitWhy (IsErr result) (fault_of_bank result) s.refused calls) crowd.visits
          (each_weaker (HasLeft (IsErr result) known (steps_of s.rounds) (fault_of_bank result)
          s.refused calls) (IsVisitWhy (IsErr result) (fault_of_bank result) s.refused calls) (λ v left. left.2) crowd.visits
          crowd.visited);
      all = sym long ∙ crowd.all;
      some = some_then (λ f. (f ≡ Memory) × (new ≡ old)) s.refused result s.some;
      refusals = told_of (IsErr result) known (steps_of s.rounds) calls crowd.visits s.refused result
          crowd.visited (all_last (IsOfVisit crowd.visits) (steps_of s.rounds) s.refused whose);
      whose = whose;
      many = omega (arith, long, crowd.many, s.few);
      come = come_by s.came n (length crowd.visits) here result s.done (sym long ∙ crowd.many);
    }

-- memory was refused before anybody came
pub nobody_came : {C R W : Type 0} (seen : C → Seen) {reason : Fault → C → C → Type 0} {known : R × W → Known}
    (g : Option (List (ClientsCall (R × W)))) (k : Option (List ℕ)) (old : C) (n : ℕ)
    → ServesTogether seen reason known g g k k old old n (Err (Bank Memory))
nobody_came seen g k old n = record {
  rounds = [];
  figured = λ h log shown. tt;
  are_rounds = tt;
  refused = [];
  clock = refl;
  dated = tt;
  stood = old;
  honest_first = λ h. h;
  honest = λ h. h;
  up = λ down. down;
  takes = takes_none (seen old);
  due = λ h. answers_none (seen old) (seen old) h (stays_itself (seen old));
  ends = unchanged_seen (seen old);
  survives = λ h log st. stop_all (seen old) log [] [] refl st;
  idle = λ down. refl;
  why = inr (refl, refl);
  calls = [];
  made = adds-none g;
  traced = record { laps = []; last = []; calls_are = refl; no_more = tt; are_laps = tt };
  moves = tt;
  broken = tt;
  network = λ same. absurd (cc same);
  visits = [];
  closed = refl;
  once = visits_differ [] [] tt;
  each = All-from_recursion _ [] tt;
  parted = All-from_recursion _ [] tt;
  all = refl;
  some = inr (refl, refl);
  refusals = tt;
  whose = tt;
  many = omega arith;
  come = tt;
}
