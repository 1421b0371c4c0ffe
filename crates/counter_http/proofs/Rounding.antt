-- Rounds of clients that are served at once, one after another, and how they end.
use Rattle.std.proofs.Common.{◌≡◌, ℕ, ◌+◌, ◌<◌, ◌≤◌, ◌⊎◌, List, [], ◌∷◌, ◌++◌, length, map, Option, Some}
use Rattle.std.proofs.Common.{Result, Ok, refl, sym, ap, subst, ◌∙◌, append_assoc, append-nil, arith, inl, inr}
use Rattle.std.specs.Prelude.{None, Contains, OnErr}
use Rattle.std.specs.List.{AllByRecursion, AllZip}
use Rattle.std.proofs.lemmas.List.{length-append, length-map, Concat.flat_map-append}
use Rattle.posting_rules.specs.declared.fault.Fault.{Fault}
use Rattle.posting_rules.specs.believed.Commands.{Command}
use Rattle.posting_rules.specs.believed.Counter.{Seen, ShowsLog, Takes}
use Rattle.posting_rules.specs.believed.Runs.{followed_by}
use Rattle.posting_rules.proofs.CounterCalls.{idle_after, takes_none}
use Rattle.posting_core.specs.believed.Clock.{AreReadings}
use Rattle.posting_core.proofs.{ByTables.stays_itself, StreamedBatches.all_more, StreamedBatches.takes_more, Telling.adds-none}
use Rattle.counter_http.specs.Clients.{ClientsCall, Waited}
use Rattle.counter_http.specs.Connections.{Known}
use Rattle.counter_http.specs.together.Crowd.{IsCrowd, IsLeftOf}
use Rattle.counter_http.specs.together.Crowd.{all_settled}
use Rattle.counter_http.specs.together.Due.{AnswersAll}
use Rattle.counter_http.specs.together.Order.{AreDated, AreFigured, CountsRounds, HasSpared, IsDated, IsRound, Round, Step, readings_in, readings_of, steps_in}
use Rattle.counter_http.specs.together.Order.{clients_of, steps_of, submitted_by}
use Rattle.counter_http.specs.together.Faring.{HasNoMore}
use Rattle.counter_http.specs.together.Rounds.{AnswersRound, IsOfOneOf, MayBeLate, number_in, numbers}
use Rattle.counter_http.specs.together.Standing.{HasMuch, Writes}
use Rattle.counter_http.specs.together.Serving.{ClientIsServed}
use Rattle.counter_http.specs.together.Tracing.{AllMoved, AreLaps, AreTakenIn, HasRefused, IsLap, IsNoWait, Lap, MayHaveMore, OnLast, all_on, fills}
use Rattle.counter_http.specs.together.Tracing.{StoodSo}
use Rattle.counter_http.specs.together.Tracing.{calls_in, calls_of, calls_until, here_after, number_waited}
use Rattle.counter_http.specs.declared.parting.Parting.{Parting}
use Rattle.counter_http.specs.declared.parting.Parting.TheVariants as parting
use Rattle.counter_http.specs.Figures.{nothing}
use Rattle.counter_http.specs.declared.client.Client.{Client}
use Rattle.counter_http.specs.declared.figures.Figures.{Figures}
use Rattle.counter_http.specs.declared.figures.Tally.{Tally}
use Rattle.counter_http.specs.declared.listen_fault.ListenFault.{ListenFault}
use Rattle.counter_http.proofs.Beside.{served_beside}
use Rattle.counter_http.proofs.Counted.{counts_none, figured_more, rounds_then}
use Rattle.counter_http.proofs.CrowdRounds.{all_by, zip_places}
use Rattle.counter_http.proofs.Dues.{answers_none, answers_then}
use Rattle.counter_http.proofs.Crowds.{each_weaker}
use Rattle.counter_http.proofs.Moving.{HadMuch, IsDone, done_written}
use Rattle.counter_http.proofs.Moving.{last_one, last_then, left_settled, moved_more}
use Rattle.counter_http.proofs.Steps.{submitted-append}
use Rattle.counter_http.proofs.Turning.{readings_append}

-- ---- rounds

-- where the loop over rounds stands: these calls were made in the round that was begun, or none was
pub record Rounding {C R W : Type 0} (seen : C → Seen) (reason : Fault → C → C → Type 0) (known : R × W → Known) (g t : Option (List (ClientsCall (R × W))))
    (k k' : Option (List ℕ)) (old now : C) (n came : ℕ) (here : List (Client R W)) (tally : Tally) (turns : ℕ)
    (until : List (ClientsCall (R × W))) : Type 0 where
  pub rounds : List Round
  pub counted : (seen now).honest → (log : List Command) → ShowsLog (seen old) log → CountsRounds log rounds tally
  pub figured : (seen now).honest → (log : List Command) → ShowsLog (seen old) log → AreFigured log [] rounds
  pub calls : List (ClientsCall (R × W))
  pub laps : List (Lap (R × W))
  pub calls_are : calls ≡ calls_of laps ++ until
  pub are_laps : AreLaps known n [] [] laps rounds
  pub moves : AllMoved (HasSpared reason) known [] [] laps rounds
  -- before the next one is begun, those who are here wait for it
  pub settled : until ≡ [] → OnLast (all_settled (fills (HasSpared reason)) known here) [] [] laps rounds
  pub many : length laps ≡ turns
  pub are_rounds : AllByRecursion IsRound rounds
  pub clock : AreReadings k k' (readings_of rounds)
  pub dated : AllByRecursion (IsDated reason) rounds
  pub honest : (seen now).honest → (seen old).honest
  pub up : (seen now).is_down → (seen old).is_down
  pub takes : Takes (seen old) (seen now) (submitted_by (steps_of rounds))
  pub due : (seen now).honest → AnswersAll (seen old) (seen now) (steps_of rounds)
  pub idle : (seen old).is_down → now ≡ old
  pub few : came ≤ n
  pub crowd : IsCrowd ⊥ [] known g calls (steps_of rounds) None []
      (record { calls = t; came = came; here = here })

pub rounding_none : {C R W : Type 0} (seen : C → Seen) {reason : Fault → C → C → Type 0} {known : R × W → Known} (g : Option (List (ClientsCall (R × W))))
    (k : Option (List ℕ)) (old : C) (n : ℕ) (here : List (Client R W)) (tally : Tally) → here ≡ [] → tally ≡ nothing
    → Rounding seen reason known g g k k old old n 0 here tally 0 []
rounding_none {C} {R} {W} seen {reason} {known} g k old n here tally none zero = record {
  rounds = [];
  counted = λ h log shown. subst (λ (t : Tally). CountsRounds log [] t) (sym zero) (counts_none nothing);
  figured = λ h log shown. tt;
  calls = [];
  laps = [];
  calls_are = refl;
  are_laps = tt;
  moves = tt;
  settled = λ none. tt;
  many = refl;
  are_rounds = tt;
  clock = refl;
  dated = tt;
  honest = λ h. h;
  up = λ down. down;
  takes = takes_none (seen old);
  due = λ h. answers_none (seen old) (seen old) h (stays_itself (seen old));
  idle = λ down. refl;
  few = omega arith;
  crowd = rw none (record {
    made = adds-none g;
    visits = [];
    closed = refl;
    visited = tt;
    to_give_up = tt;
    are_here = tt;
    now = refl;
    differ = tt;
    below = tt;
    whose = tt;
    all = refl;
    many = refl;
  });
}

pub steps_one_more : (rs : List Round) (r : Round) → steps_of rs ++ steps_in r ≡ steps_of (rs ++ r ∷ [])
steps_one_more rs r =
    sym (flat_map-append steps_in rs (r ∷ []) ∙ ap (λ (x : List Step). steps_of rs ++ x) (append-nil (steps_in r)))

pub clock_one_more : (k k' k'' : Option (List ℕ)) (rs : List Round) (r : Round) → AreReadings k k' (readings_of rs)
    → AreReadings k' k'' r.readings → AreReadings k k'' (readings_of (rs ++ r ∷ []))
clock_one_more k k' k'' rs r clock more =
    subst (λ (x : List ℕ). AreReadings k k'' x)
    (sym (flat_map-append readings_in rs (r ∷ []) ∙ ap (λ (x : List ℕ). readings_of rs ++ x) (append-nil r.readings)))
    (readings_append k k' k'' (readings_of rs) r.readings clock more)

pub takes_one_more : (c c' c'' : Seen) (rs : List Round) (r : Round) → (c''.honest → c'.honest)
    → Takes c c' (submitted_by (steps_of rs)) → Takes c' c'' (submitted_by (steps_in r))
    → Takes c c'' (submitted_by (steps_of (rs ++ r ∷ [])))
takes_one_more c c' c'' rs r honest a b =
    subst (λ (x : List Command). Takes c c'' x)
    (sym (submitted-append (steps_of rs) (steps_in r)) ∙ ap submitted_by (steps_one_more rs r))
    (takes_more c c' c'' (submitted_by (steps_of rs)) (submitted_by (steps_in r)) honest a b)

-- and each answer in it was due
pub due_one_more : (c c' c'' : Seen) (rs : List Round) (r : Round) → c'.honest → Takes c c' (submitted_by (steps_of rs))
    → AnswersAll c c' (steps_of rs) → AnswersAll c' c'' (steps_in r) → AnswersAll c c'' (steps_of (rs ++ r ∷ []))
due_one_more c c' c'' rs r honest takes a b =
    subst (λ (ss : List Step). AnswersAll c c'' ss) (steps_one_more rs r)
    (answers_then c c' c'' (steps_of rs) (steps_in r) honest takes a b)

-- the figures of a round more are those that stood before it
pub figured_then : {C R W X : Type 0} (seen : C → Seen) {reason : Fault → C → C → Type 0} {known : R × W → Known}
    {g t : Option (List (ClientsCall (R × W)))} {k k' k'' : Option (List ℕ)} {old : C} (now new : C)
    {n came seconds turns : ℕ} {here here' : List (Client R W)} {u u' : Tally} {result : Result X Fault}
    {until : List (ClientsCall (R × W))} (s : Rounding seen reason known g t k k' old now n came here u turns until)
    (r : AnswersRound seen reason known k' k'' now new here here' u u' seconds result) → (seen now).honest
    → (log : List Command) → ShowsLog (seen old) log → AreFigured log [] (s.rounds ++ r.round ∷ [])
figured_then seen now new s r honest log shown =
    figured_more log [] s.rounds r.round (s.figured honest log shown)
    (subst (λ (f : Figures). CountsRounds log s.rounds f.tally) (sym r.figured) (s.counted honest log shown))

-- ---- the calls of a round

-- one more
laps_more : {E : Type 0} (known : E → Known) (n : ℕ) (calls : List (ClientsCall E)) (before : List Round)
    (ls : List (Lap E)) (rs : List Round) (l : Lap E) (r : Round) → AreLaps known n calls before ls rs
    → IsLap known n (calls ++ calls_of ls) (steps_of (before ++ rs)) l r
    → AreLaps known n calls before (ls ++ l ∷ []) (rs ++ r ∷ [])
laps_more known n calls before [] [] l r all one = (
  subst (λ (x : List (ClientsCall _)). IsLap known n x (steps_of before) l r) (append-nil calls)
      (subst (λ (x : List Round). IsLap known n (calls ++ []) (steps_of x) l r) (append-nil before) one),
  tt,
)
laps_more known n calls before [] (s ∷ rs) l r all one = absurd all
laps_more known n calls before (k ∷ ls) [] l r all one = absurd all
laps_more known n calls before (k ∷ ls) (s ∷ rs) l r all one = (
  all.0,
  laps_more known n (calls ++ calls_in k) (before ++ s ∷ []) ls rs l r all.1
      (subst (λ (x : List (ClientsCall _)). IsLap known n x (steps_of ((before ++ s ∷ []) ++ rs)) l r)
      (sym (append_assoc calls (calls_in k) (calls_of ls)))
      (subst (λ (x : List Round). IsLap known n (calls ++ calls_of (k ∷ ls)) (steps_of x) l r)
      (sym (append_assoc before (s ∷ []) rs)) one)),
)

pub calls_more : {E : Type 0} (calls : List (ClientsCall E)) (ls : List (Lap E)) (l : Lap E) → calls ≡ calls_of ls ++ calls_until l
    → calls ++ l.after ≡ calls_of (ls ++ l ∷ [])
calls_more {E} calls ls l are =
    ap (λ (x : List (ClientsCall E)). x ++ l.after) are ∙ append_assoc (calls_of ls) (calls_until l) l.after
    ∙ sym (flat_map-append calls_in ls (l ∷ []) ∙ ap (λ (x : List (ClientsCall E)). calls_of ls ++ x) (append-nil (calls_in l)))

-- who was waited for after these calls and messages, and what came of that until messages were answered
pub record Opened {R W : Type 0} (known : R × W → Known) (n : ℕ) (calls : List (ClientsCall (R × W)))
    (steps : List Step) (waited : List (ℕ × (R × W))) (before : List (ClientsCall (R × W))) : Type 0 where
  pub all : map number_waited waited ≡ here_after [] calls
  pub once : AllByRecursion IsNoWait before
  pub stood : AllByRecursion (StoodSo known steps calls) waited
  pub taken_in : AreTakenIn n calls (Waited waited ∷ before)

-- a round was begun
pub record Begun {C R W : Type 0} (seen : C → Seen) (reason : Fault → C → C → Type 0) (known : R × W → Known) (g t : Option (List (ClientsCall (R × W))))
    (k k' : Option (List ℕ)) (old now : C) (n came : ℕ) (here : List (Client R W)) (tally : Tally) (turns : ℕ)
    (result : Result (Unit {0}) ListenFault) : Type 0 where
  pub waited : List (ℕ × (R × W))
  pub before : List (ClientsCall (R × W))
  pub s : Rounding seen reason known g t k k' old now n came here tally turns (Waited waited ∷ before)
  pub opened : Opened known n (calls_of s.laps) (steps_of s.rounds) waited before
  pub moved : OnLast (all_on (fills (HasSpared reason)) known waited) [] [] s.laps s.rounds
  pub much : AllByRecursion (HadMuch known (steps_of s.rounds) (calls_of s.laps) waited) here
  pub refused : OnErr result (HasRefused before)

-- the lap of a round that was answered
abbrev pub lap_of : {C R W : Type 0} {seen : C → Seen} {reason : Fault → C → C → Type 0} {known : R × W → Known} {g t : Option (List (ClientsCall (R × W)))}
    {k k' : Option (List ℕ)} {old now : C} {n came : ℕ} {here : List (Client R W)} {tally : Tally} {turns : ℕ}
    {result : Result (Unit {0}) ListenFault} → Begun seen reason known g t k k' old now n came here tally turns result
    → List (ClientsCall (R × W)) → Lap (R × W)
lap_of b after = record { waited = b.waited; before = b.before; after = after }

pub here_long : {R W : Type 0} (here : List (Client R W)) (calls calls' : List (ClientsCall (R × W)))
    → numbers here ≡ here_after [] calls → calls ≡ calls' → length here ≡ length (here_after [] calls')
here_long here calls calls' now same =
    sym (length-map here number_in) ∙ ap length now ∙ ap (λ (x : List (ClientsCall _)). length (here_after [] x)) same

pub laps_then : {C R W X : Type 0} (seen : C → Seen) {reason : Fault → C → C → Type 0} {known : R × W → Known}
    {g t : Option (List (ClientsCall (R × W)))} {k k' k'' : Option (List ℕ)} {old : C} (now new : C)
    {n came seconds turns : ℕ} {here here' : List (Client R W)} {u u' : Tally} {done : Result (Unit {0}) ListenFault}
    {result : Result X Fault} (b : Begun seen reason known g t k k' old now n came here u turns done)
    (r : AnswersRound seen reason known k' k'' now new here here' u u' seconds result) (after : List (ClientsCall (R × W)))
    → AllByRecursion IsNoWait after
    → AreLaps known n [] [] (b.s.laps ++ lap_of b after ∷ []) (b.s.rounds ++ r.round ∷ [])
laps_then {R = R} {W} seen {known = known} {old = old} now new {n} {here = here} b r after waits =
    let s = b.s in
    let are : numbers here ≡ here_after [] (calls_of s.laps ++ (Waited b.waited ∷ b.before)) =
    s.crowd.now ∙ ap (here_after []) s.calls_are in
    laps_more known n [] [] s.laps s.rounds (lap_of b after) r.round
    s.are_laps (record {
      all = b.opened.all;
      once = all_more IsNoWait b.before after b.opened.once waits;
      stood = b.opened.stood;
      taken_in = b.opened.taken_in;
      whose = subst (λ (ns : List ℕ). AllByRecursion (IsOfOneOf ns) (steps_in r.round)) are r.whose;
      counted = ap (λ (f : Figures). f.connections) r.figured ∙ here_long here s.calls _ s.crowd.now s.calls_are;
    })

-- who was waited for in it had moved on
pub moves_then : {C R W X : Type 0} (seen : C → Seen) {reason : Fault → C → C → Type 0} {known : R × W → Known}
    {g t : Option (List (ClientsCall (R × W)))} {k k' k'' : Option (List ℕ)} {old : C} (now new : C)
    {n came seconds turns : ℕ} {here here' : List (Client R W)} {u u' : Tally} {done : Result (Unit {0}) ListenFault}
    {result : Result X Fault} (b : Begun seen reason known g t k k' old now n came here u turns done)
    (r : AnswersRound seen reason known k' k'' now new here here' u u' seconds result) (after : List (ClientsCall (R × W)))
    → AllMoved (HasSpared reason) known [] [] (b.s.laps ++ lap_of b after ∷ []) (b.s.rounds ++ r.round ∷ [])
moves_then seen {reason} {known} {old = old} now new {n} b r after =
    let s = b.s in
    moved_more (HasSpared reason) known n [] [] s.laps s.rounds (lap_of b after) r.round s.are_laps s.moves b.moved

-- and who is here after it waits for the next one
half_done : {C R W X : Type 0} (seen : C → Seen) {reason : Fault → C → C → Type 0} {known : R × W → Known}
    {k k' : Option (List ℕ)} (first now new : C) {seconds : ℕ} {u u' : Tally} (here here' : List (Client R W))
    (result : Result X Fault) (r : AnswersRound seen reason known k k' now new here here' u u' seconds result) (calls : List (ClientsCall (R × W)))
    (steps : List Step) (l : Lap (R × W)) → AllByRecursion (HadMuch known steps calls l.waited) here
    → AllByRecursion (IsDone (MayBeLate reason result r.round.posts r.refused) known calls steps l r.round) here'
half_done {C} {R} {W} seen {reason} {known} first now new here here' result r calls steps l much =
    let late = MayBeLate reason result r.round.posts r.refused in
    let Had : Client R W → Type 0 = HadMuch known steps calls l.waited in
    let Done : Client R W → Type 0 = IsDone late known calls steps l r.round in
    let Moved : Client R W → Client R W → Type 0 = λ y z. (Had y → z.number ≡ y.number → Done z) in
    let zip = zip_places Moved here here' r.same (λ p y z is is' had number.
    subst (λ (m : ℕ). HasNoMore z ⊎ MayHaveMore late known calls steps l r.round m) (sym number)
    (one y z (r.moves p y z is is') (r.fare p y z is is').did had y.parting refl)) in
    all_by (λ (y z : Client R W). (z.number ≡ y.number) × Moved y z) Had Done (λ y z m had. m.1 had m.0) here here' zip much
  where
    one : (y z : Client R W) → HasNoMore z ⊎ (Contains (clients_of (steps_in r.round)) y.number
        ⊎ (HasMuch y ⊎ MayBeLate reason result r.round.posts r.refused))
        → (z ≡ y) ⊎ (HasNoMore z ⊎ Contains (clients_of (steps_in r.round)) y.number)
        → HadMuch known steps calls l.waited y → (p : Option Parting) → y.parting ≡ p
        → HasNoMore z ⊎ MayHaveMore (MayBeLate reason result r.round.posts r.refused) known calls steps l r.round y.number
    one y z (inl none) did had p is = inl none
    one y z (inr (inl own)) did had p is = inr (inl own)
    one y z (inr (inr (inr behind))) did had p is = inr (inr (inr behind))
    one y z (inr (inr (inl many))) did had None is =
        inr (inr (inl (had many is)))
    one y z (inr (inr (inl many))) (inl same) had (Some p) is =
        inl (inr (p, ap (λ (c : Client R W). c.parting) same ∙ is))
    one y z (inr (inr (inl many))) (inr (inl none)) had (Some p) is = inl none
    one y z (inr (inr (inl many))) (inr (inr own)) had (Some p) is = inr (inl own)

pub settled_round : {C R W X : Type 0} (seen : C → Seen) {reason : Fault → C → C → Type 0} {known : R × W → Known}
    {g t : Option (List (ClientsCall (R × W)))} {k k' k'' : Option (List ℕ)} (old now new : C) {n came seconds turns : ℕ}
    {u u' : Tally} {done : Result (Unit {0}) ListenFault} (here here' viewed gone here'' left : List (Client R W)) (result : Result X Fault)
    → viewed ≡ here' → here'' ≡ gone → (b : Begun seen reason known g t k k' old now n came here u turns done)
    (r : AnswersRound seen reason known k' k'' now new here here' u u' seconds result) → AllZip (Writes known) viewed gone
    → AllByRecursion (IsLeftOf here'') left → (after : List (ClientsCall (R × W)))
    → all_settled (λ y. MayBeLate reason result r.round.posts r.refused) known left (calls_of b.s.laps)
    (steps_of b.s.rounds) (lap_of b after) r.round
settled_round {C} {R} {W} seen {reason} {known} old now new here here' viewed gone here'' left result same is b r writes rest after =
    let s = b.s in
    let late = MayBeLate reason result r.round.posts r.refused in
    let l = lap_of b after in
    let Done : Client R W → Type 0 =
    IsDone late known (calls_of s.laps) (steps_of s.rounds) l r.round in
    let all : AllZip (Writes known) here' here'' =
    subst (λ (xs : List (Client R W)). AllZip (Writes known) xs here'') same
    (subst (λ (ys : List (Client R W)). AllZip (Writes known) viewed ys) (sym is) writes) in
    left_settled (λ y. late) known (calls_of s.laps) (steps_of s.rounds) l r.round here'' left rest
    (all_by (Writes known) Done Done
    (done_written late (calls_of s.laps) (steps_of s.rounds) l r.round) here' here'' all
    (half_done seen old now new here here' result r (calls_of s.laps) (steps_of s.rounds) l b.much))

-- nothing was refused in it
pub dated_now : {C : Type 0} (reason : Fault → C → C → Type 0) (r : Round) (refused : List Step)
    → (0 < length r.readings → (0 < length r.posts) ⊎ (HasSpared reason ⊎ (0 < length refused))) → refused ≡ []
    → IsDated reason r
dated_now reason r refused dated none read = elim (dated read) [
  | inl some ↦ inl some
  | inr other ↦ elim other [
    | inl spared ↦ inr spared
    | inr some ↦ absurd (omega (arith, some, ap length none))
  ]
]

pub dated_last : {C : Type 0} (reason : Fault → C → C → Type 0) (rs : List Round) (r : Round) (refused : List Step)
    → AllByRecursion (IsDated reason) rs → IsDated reason r ⊎ (0 < length refused) → AreDated reason (rs ++ r ∷ []) refused
dated_last reason [] r refused all one = one
dated_last reason (x ∷ []) r refused all one = (all.0, one)
dated_last reason (x ∷ y ∷ rs) r refused all one = (all.0, dated_last reason (y ∷ rs) r refused all.1 one)

pub dated_all : {C : Type 0} (reason : Fault → C → C → Type 0) (rs : List Round) → AllByRecursion (IsDated reason) rs
    → AreDated reason rs []
dated_all reason [] all = tt
dated_all reason (x ∷ []) all = inl all.0
dated_all reason (x ∷ y ∷ rs) all = (all.0, dated_all reason (y ∷ rs) all.1)

-- a round was answered
unfoldable pub rounding_next : {C R W X : Type 0} (seen : C → Seen) {reason : Fault → C → C → Type 0} {known : R × W → Known}
    {g t t' : Option (List (ClientsCall (R × W)))} {k k' k'' : Option (List ℕ)} (old now new : C)
    {n came seconds turns : ℕ} {here here' here'' : List (Client R W)} {u u' : Tally} {x : X}
    {done : Result (Unit {0}) ListenFault} (b : Begun seen reason known g t k k' old now n came here u turns done)
    (r : AnswersRound seen reason known k' k'' now new here here' u u' seconds (Ok x)) (after : List (ClientsCall (R × W)))
    → AllByRecursion IsNoWait after
    → all_settled (fills (HasSpared reason)) known here'' (calls_of b.s.laps) (steps_of b.s.rounds)
    (lap_of b after) r.round
    → IsCrowd ⊥ [] known g (b.s.calls ++ after) (steps_of b.s.rounds ++ steps_in r.round) None r.refused
    (record { calls = t'; came = came; here = here'' })
    → Rounding seen reason known g t' k k'' old new n came here'' u' (turns + 1) []
rounding_next seen {reason} {known} {g = g} {t' = t'} {k} {k'} {k''} old now new {n} {came = came} {here'' = here''} b r after
    waits settled crowd =
    let s = b.s in
    let same : new ≡ r.stood = r.ends.1 in
    let calls = s.calls ++ after in
    record {
      rounds = s.rounds ++ r.round ∷ [];
      counted = λ h log shown.
          let before = r.honest_first (r.honest h) in
          rounds_then log s.rounds r.round (s.counted before log shown)
          (r.counts h (followed_by log (submitted_by (steps_of s.rounds))) (s.takes.shows before log shown));
      figured = λ h log shown. figured_then seen now new s r (r.honest_first (r.honest h)) log shown;
      calls = calls;
      laps = s.laps ++ lap_of b after ∷ [];
      calls_are = calls_more s.calls s.laps (lap_of b after) s.calls_are ∙ sym (append-nil _);
      are_laps = laps_then seen now new b r after waits;
      moves = moves_then seen now new b r after;
      settled = λ none. last_one (all_settled (fills (HasSpared reason)) known here'') known n [] []
          s.laps s.rounds (lap_of b after) r.round s.are_laps settled;
      many = length-append s.laps (lap_of b after ∷ []) ∙ ap (λ (m : ℕ). m + 1) s.many;
      are_rounds = all_more IsRound s.rounds (r.round ∷ []) s.are_rounds (r.is_round, tt);
      clock = clock_one_more k k' k'' s.rounds r.round s.clock r.clock;
      dated = all_more (IsDated reason) s.rounds (r.round ∷ []) s.dated (dated_now reason r.round r.refused r.dated r.ends.0, tt);
      honest = λ h. s.honest (r.honest_first (r.honest h));
      up = λ down. s.up (r.up (subst (λ (c : _). (seen c).is_down) same down));
      takes = takes_one_more (seen old) (seen now) (seen new) s.rounds r.round (λ h. r.honest_first (r.honest h)) s.takes
          (subst (λ (c : _). Takes (seen now) (seen c) (submitted_by (steps_in r.round))) (sym same) r.takes);
      due = λ h.
          let before = r.honest_first (r.honest h) in
          due_one_more (seen old) (seen now) (seen new) s.rounds r.round before s.takes (s.due before)
          (subst (λ (c : _). AnswersAll (seen now) (seen c) (steps_in r.round)) (sym same) (r.due h));
      idle = idle_after seen old now s.idle new r.idle;
      few = s.few;
      crowd = subst (λ (x : List Step). IsCrowd ⊥ [] known g calls x None []
          (record { calls = t'; came = came; here = here'' })) (steps_one_more s.rounds r.round)
          (subst (λ (x : List Step). IsCrowd ⊥ [] known g calls (steps_of s.rounds ++ steps_in r.round)
          None x (record { calls = t'; came = came; here = here'' })) r.ends.0 crowd);
    }
