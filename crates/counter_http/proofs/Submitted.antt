-- Calls of a counter that was given records of clients, one call after another.
use Rattle.std.proofs.Common.{◌≡◌, ℕ, ◌+◌, ◌<◌, ◌≤◌, List, [], ◌∷◌, ◌++◌, length, Some, Result, Ok, Err}
use Rattle.std.proofs.Common.{refl, sym, ap, subst, ◌∙◌, append_assoc, append-nil, arith, inl, inr}
use Rattle.std.proofs.lemmas.List.{length-append}
use Rattle.std.specs.{List.AllByRecursion, List.slice_get, Prelude.◌⊎◌, Prelude.◌≢◌, Prelude.IfErr, Prelude.OnOk}
use Rattle.posting_rules.specs.declared.fault.Fault.{Fault}
use Rattle.posting_rules.specs.declared.fault.Fault.TheVariants as fault
use Rattle.posting_rules.specs.believed.{AnyTables.AnswersByTables, Commands.Command}
use Rattle.posting_rules.specs.believed.Counter.{IsCounterCall, Refuses, Seen, ShowsLog, Takes}
use Rattle.posting_rules.specs.believed.Runs.{followed_by, posts, replies_to}
use Rattle.posting_rules.proofs.CounterCalls.{idle_after, refused_after, takes_none, Takes-append}
use Rattle.posting_rules.proofs.Sequence.{replies_to-append}
use Rattle.posting_core.specs.Stream.{IsOfCall}
use Rattle.posting_core.proofs.{ByTables.stays_itself, StreamedBatches.all_more}
use Rattle.counter_http.specs.Connections.{Known}
use Rattle.counter_http.specs.together.Due.{AnswersAll}
use Rattle.counter_http.specs.together.Order.{AreCommits, HasSpared, Step, clients_of, is_posted_under, submitted_by}
use Rattle.counter_http.specs.Figures.{Counts}
use Rattle.counter_http.specs.declared.figures.Tally.{Tally}
use Rattle.counter_http.specs.together.Rounds.{AllDiffer, IsOfOneOf, fault_in, numbers}
use Rattle.counter_http.specs.together.Standing.{AreRefused, StandsHere}
use Rattle.counter_http.specs.together.Submitting.{AnswersEach, AreApart, AreGiven, AreSubmitted}
use Rattle.counter_http.specs.together.Submitting.{RefusesEach}
use Rattle.counter_http.specs.declared.batch.Sender.{Sender}
use Rattle.counter_http.specs.declared.client.Client.{Client}
use Rattle.counter_http.proofs.AnsweredTurns.{why_first}
use Rattle.counter_http.proofs.Counted.{commits_then, counts_none, counts_then}
use Rattle.counter_http.proofs.Asked.{unchanged_takes}
use Rattle.counter_http.proofs.Dues.{answers_none, answers_then, unchanged_stays}
use Rattle.counter_http.proofs.Fared.{all_same, all_then}
use Rattle.counter_http.proofs.FaredEach.{all_among, all_spared, fare_answered, fare_refused}
use Rattle.counter_http.proofs.Placed.{beside_none, beside_then, found_too}
use Rattle.counter_http.proofs.Posted.{answered_each, numbers_all_answered, numbers_all_refused, refused_each}
use Rattle.counter_http.proofs.Posted.{posts_due, steps_at, steps_long, steps_posted, steps_submit, steps_whose, told_each}
use Rattle.counter_http.proofs.Steps.{submitted-append}

-- ---- no record

no_commit : AreCommits 0 0
no_commit = record { few = omega arith; some = λ given. given }

pub submitted_nothing : {C R W : Type 0} (seen : C → Seen) {reason : Fault → C → C → Type 0} {known : R × W → Known}
    (readings : List ℕ) (bank : C) (here : List (Client R W)) (t : Tally)
    → AreSubmitted {X = Unit {0}} seen reason known readings bank bank here here t t 0 (Ok tt)
submitted_nothing seen readings bank here t = record {
  posts = [];
  commits = 0;
  are_commits = no_commit;
  counts = λ h log shown. counts_none t;
  refused = [];
  some = tt;
  together = tt;
  few = omega arith;
  moves = inl (omega arith);
  whole = tt;
  dated = λ some. absurd (omega (arith, some));
  beside = beside_none here;
  whose_refused = tt;
  are_told = λ p y y' at at' k before is. tt;
  fare = all_same here;
  stood = bank;
  honest_first = λ h. h;
  honest = λ h. h;
  up = λ down. down;
  takes = takes_none (seen bank);
  due = λ h. answers_none (seen bank) (seen bank) h (stays_itself (seen bank));
  ends = (refl, refl);
  idle = λ down. refl;
  why = tt;
}

-- memory was refused for a call
pub spared_by : {C K X : Type 0} {seen : C → Seen} {contents : C → K} {reason : Fault → C → C → Type 0} {old new : C}
    {cs : List Command} (why : Fault) → why ≡ fault.Memory → IsCounterCall {X = X} seen contents reason old new cs (Err why)
    → HasSpared reason
spared_by {reason = reason} {old} {new} why e call =
    record { before = old; after = new; why = subst (λ (f : Fault). reason f old new) e call.why }

-- and no client was told
pub spared_all : {C K R W X : Type 0} (seen : C → Seen) (contents : C → K) (reason : Fault → C → C → Type 0)
    {known : R × W → Known} (readings : List ℕ) (old new : C) (here : List (Client R W)) (cs : List Command)
    (t : Tally) (why : Fault) → why ≡ fault.Memory → IsCounterCall {X = X} seen contents reason old new cs (Err why)
    → AreSubmitted {X = Unit {0}} seen reason known readings old new here here t t 0 (Ok tt)
spared_all {X = X} seen contents reason readings old new here cs t why e it =
    let call : IsCounterCall {X = X} seen contents reason old new cs (Err fault.Memory) =
    subst (λ (f : Fault). IsCounterCall {X = X} seen contents reason old new cs (Err f)) e it in
    record {
      posts = [];
      commits = 0;
      are_commits = no_commit;
      counts = λ h log shown. counts_none t;
      refused = [];
      some = tt;
      together = tt;
      few = omega arith;
      moves = inl (omega arith);
      whole = tt;
      dated = λ some. absurd (omega (arith, some));
      beside = beside_none here;
      whose_refused = tt;
      are_told = λ p y y' at at' k before is. tt;
      fare = all_same here;
      stood = new;
      honest_first = call.honest;
      honest = λ h. h;
      up = call.fault.down;
      takes = unchanged_takes (seen old) (seen new) call.honest call.fault;
      due = λ h. answers_none (seen old) (seen new) h (unchanged_stays (seen old) (seen new) call.fault);
      ends = (refl, refl);
      idle = λ down. call.untried (call.down down);
      why = tt;
    }

-- ---- one call

refused_beside : {R W : Type 0} {known : R × W → Known} (here here' : List (Client R W)) (ss : List Sender) (rs : List (List ℕ)) (g : AreGiven here ss rs) → AreApart ss
    → (why : Fault) → RefusesEach here here' ss why
    → (p : ℕ) (y y' : Client R W) → slice_get here p ≡ Some y → slice_get here' p ≡ Some y' → (k : Known)
    (before : List Step) → StandsHere known k before y
    → StandsHere known k (before ++ []) y'
refused_beside {known = known} here here' ss rs g apart why chain p y y' at at' k before is =
    subst (λ (l : List Step). StandsHere known k l y') (sym (append-nil before))
    (refused_each here here' ss rs why g apart chain p y y' at at' before is)

module _ {C K R W X : Type 0} (seen : C → Seen) (contents : C → K) (reason : Fault → C → C → Type 0)
    {known : R × W → Known} (moment : ℕ) (old new : C) (here here' : List (Client R W)) (t t' : Tally) (ss : List Sender)
    (rs : List (List ℕ)) (g : AreGiven here ss rs) (apart : AreApart ss) where
  -- the bank took it, and each sender was answered
  pub taken_all : (qs : List (List ℕ)) (x : X) → AllDiffer (numbers here)
      → IsCounterCall seen contents reason old new (posts moment rs) (Ok x)
      → ((seen new).honest → (log : List Command) → ShowsLog (seen old) log → qs ≡ replies_to log (posts moment rs))
      → AnswersByTables (seen old) (seen new) moment rs qs → AnswersEach here here' ss qs → Counts t t' qs 1 → 0 < length rs
      → AreSubmitted {X = Unit {0}} seen reason known (moment ∷ []) old new here here' t t' (length rs) (Ok tt)
  taken_all qs x all call says by chain counted some = record {
    posts = steps_at moment here ss rs qs g;
    commits = 1;
    are_commits = record {
      few = omega (arith, steps_long moment here ss rs qs g, some);
      some = λ given. omega arith;
    };
    counts = λ h log shown. subst (λ (xs : List (List ℕ)). Counts t t' xs 1)
        (says h log shown ∙ ap (replies_to log) (sym (steps_submit moment here ss rs qs g))) counted;
    refused = [];
    some = tt;
    together = steps_posted moment here ss rs qs g;
    few = omega (arith, steps_long moment here ss rs qs g);
    moves = inl (omega (arith, steps_long moment here ss rs qs g));
    whole = tt;
    dated = λ some. inl (omega (arith, steps_long moment here ss rs qs g, some));
    beside = record {
      whose = steps_whose moment here ss rs qs g;
      same = numbers_all_answered here here' ss rs qs g apart chain;
      stand = λ p y y' at at' k before is.
          answered_each moment here here' ss rs qs g apart all chain p y y' at at' before
          is;
    };
    whose_refused = tt;
    are_told = λ p y y' at at' k before is. tt;
    fare = fare_answered moment here here' ss rs qs g apart chain;
    stood = new;
    honest_first = call.honest;
    honest = λ h. h;
    up = λ down. absurd (call.up down);
    takes = subst (λ (cs : List Command). Takes (seen old) (seen new) cs) (sym (steps_submit moment here ss rs qs g)) call.done;
    due = λ h. posts_due (seen old) (seen new) moment here ss rs qs g h (says h) by;
    ends = (refl, refl);
    idle = λ down. call.untried (call.down down);
    why = tt;
  }

  -- the bank refused it, and each sender was told so
  pub refused_all : (why : Fault) → AllDiffer (numbers here)
      → IsCounterCall {X = X} seen contents reason old new (posts moment rs) (Err why)
      → RefusesEach here here' ss why → 0 < length rs
      → AreSubmitted {X = Unit {0}} seen reason known (moment ∷ []) old new here here' t t (length rs) (Err why)
  refused_all why all call chain some = record {
    posts = [];
    commits = 0;
    are_commits = no_commit;
    counts = λ h log shown. counts_none t;
    refused = steps_at moment here ss rs [] g;
    some = λ none. absurd (omega (arith, some, steps_long moment here ss rs [] g, ap length none));
    together = tt;
    few = omega arith;
    moves = tt;
    whole = inl (omega (arith, steps_long moment here ss rs [] g));
    dated = λ given. inr (inr (omega (arith, steps_long moment here ss rs [] g, some)));
    beside = record {
      whose = tt;
      same = numbers_all_refused here here' ss rs why g apart chain;
      stand = λ p y y' at at' k before is. refused_beside here here' ss rs g apart why chain p y y' at at' k before is;
    };
    whose_refused = steps_whose moment here ss rs [] g;
    are_told = λ p y y' at at' k before is.
        subst (λ (l : List Step). AreRefused known k l (Some why) (steps_at moment here ss rs [] g) y')
        (sym (append-nil before))
        (told_each moment here here' ss rs why g apart all chain p y y' at at' is);
    fare = fare_refused moment here here' ss rs why g apart (all_among why (steps_at moment here ss rs [] g)) chain;
    stood = old;
    honest_first = λ h. h;
    honest = call.honest;
    up = λ down. down;
    takes = takes_none (seen old);
    due = λ h. answers_none (seen old) (seen old) (call.honest h) (stays_itself (seen old));
    ends = subst (λ (cs : List Command). Refuses why (seen old) (seen new) cs) (sym (steps_submit moment here ss rs [] g))
        call.fault;
    idle = λ down. call.untried (call.down down);
    why = why_first seen contents reason old new (posts moment rs) why call;
  }

  -- memory was refused for it, and each sender was told so, which is no fault
  pub spared_each : (why : Fault) → why ≡ fault.Memory
      → IsCounterCall {X = X} seen contents reason old new (posts moment rs) (Err why)
      → RefusesEach here here' ss why
      → AreSubmitted {X = Unit {0}} seen reason known (moment ∷ []) old new here here' t t (length rs) (Ok tt)
  spared_each why e it chain =
      let call : IsCounterCall {X = X} seen contents reason old new (posts moment rs) (Err fault.Memory) =
      subst (λ (f : Fault). IsCounterCall {X = X} seen contents reason old new (posts moment rs) (Err f)) e it in
      record {
        posts = [];
        commits = 0;
        are_commits = no_commit;
        counts = λ h log shown. counts_none t;
        refused = [];
        some = tt;
        together = tt;
        few = omega arith;
        moves = inr (record { before = old; after = new; why = call.why });
        whole = tt;
        dated = λ some. inr (inl (record { before = old; after = new; why = call.why }));
        beside = record {
          whose = tt;
          same = numbers_all_refused here here' ss rs why g apart chain;
          stand = λ p y y' at at' k before is.
              refused_beside here here' ss rs g apart why chain p y y' at at' k before is;
        };
        whose_refused = tt;
        are_told = λ p y y' at at' k before is. tt;
        fare = fare_refused moment here here' ss rs why g apart (all_spared why e (clients_of (steps_at moment here ss rs [] g))) chain;
        stood = new;
        honest_first = call.honest;
        honest = λ h. h;
        up = call.fault.down;
        takes = unchanged_takes (seen old) (seen new) call.honest call.fault;
        due = λ h. answers_none (seen old) (seen new) h (unchanged_stays (seen old) (seen new) call.fault);
        ends = (refl, refl);
        idle = λ down. call.untried (call.down down);
        why = tt;
      }

-- ---- calls one after another

pub why_then : {C Y : Type 0} (seen : C → Seen) (reason : Fault → C → C → Type 0) (old mid new : C) (cs : List Command)
    (result : Result Y Fault) → Takes (seen old) (seen mid) cs → ((seen mid).honest → (seen old).honest)
    → ((seen old).is_down → mid ≡ old) → IfErr result (IsOfCall seen reason mid new)
    → IfErr result (IsOfCall seen reason old new)
why_then seen reason old mid new cs (Ok y) takes honest idle why = tt
why_then seen reason old mid new cs (Err f) takes honest idle (inl call) =
    inl (refused_after seen reason old mid new cs takes honest idle f call)
why_then seen reason old mid new cs (Err f) takes honest idle (inr own) = inr own

more_moved : {P X : Type 0} (ss ts : List Step) (n m : ℕ) (result : Result X Fault) → (n ≤ length ss) ⊎ P
    → OnOk result ((m ≤ length ts) ⊎ P) → OnOk result ((n + m ≤ length (ss ++ ts)) ⊎ P)
more_moved ss ts n m (Ok x) (inl some) (inl more) = inl (omega (arith, length-append ss ts, some, more))
more_moved ss ts n m (Ok x) (inl some) (inr spared) = inr spared
more_moved ss ts n m (Ok x) (inr spared) more = inr spared
more_moved ss ts n m (Err f) first none = tt

more_dated : {P : Type 0} (ss ts : List Step) → (0 < length ts) ⊎ P → (0 < length (ss ++ ts)) ⊎ P
more_dated ss ts (inl some) = inl (omega (arith, length-append ss ts, some))
more_dated ss ts (inr other) = inr other

pub positive : {A : Type 0} (xs : List A) → xs ≢ [] → 0 < length xs
positive [] some = absurd (some refl)
positive (x ∷ xs) some = omega arith

pub submitted_then : {C R W X Y : Type 0} (seen : C → Seen) {reason : Fault → C → C → Type 0} {known : R × W → Known}
    (readings : List ℕ) (old mid new : C) (here one two : List (Client R W)) {t u v : Tally} (n m : ℕ) {x : X}
    (result : Result Y Fault) → AreSubmitted seen reason known readings old mid here one t u n (Ok x)
    → (b : AreSubmitted seen reason known readings mid new one two u v m result) → (0 < n + m → 0 < m)
    → IfErr result (λ f. (n + m ≤ length b.refused) ⊎ HasSpared reason)
    → AreSubmitted seen reason known readings old new here two t v (n + m) result
submitted_then {C = C} seen {reason} {known} readings old mid new here one two {t} {u} {v} n m result a b some whole =
    let took : Takes (seen old) (seen mid) (submitted_by a.posts) =
    subst (λ (c : C). Takes (seen old) (seen c) (submitted_by a.posts)) (sym a.ends.1) a.takes in
    let honest : (seen mid).honest → (seen old).honest = λ h. a.honest_first (a.honest h) in
    let up : (seen mid).is_down → (seen old).is_down =
    subst (λ (c : C). (seen c).is_down → (seen old).is_down) (sym a.ends.1) a.up in
    record {
      posts = a.posts ++ b.posts;
      commits = a.commits + b.commits;
      are_commits = subst (λ (k : ℕ). AreCommits (a.commits + b.commits) k) (sym (length-append a.posts b.posts))
          (commits_then a.commits b.commits (length a.posts) (length b.posts) a.are_commits b.are_commits);
      counts = λ h log shown.
          let before = b.honest_first (b.honest h) in
          subst (λ (xs : List (List ℕ)). Counts t v xs (a.commits + b.commits))
          (sym (ap (replies_to log) (submitted-append a.posts b.posts)
          ∙ replies_to-append log (submitted_by a.posts) (submitted_by b.posts)))
          (counts_then (replies_to log (submitted_by a.posts))
          (replies_to (followed_by log (submitted_by a.posts)) (submitted_by b.posts)) a.commits b.commits
          (a.counts before log shown)
          (b.counts h (followed_by log (submitted_by a.posts)) (took.shows before log shown)));
      refused = b.refused;
      some = b.some;
      together = all_more (is_posted_under readings) a.posts b.posts a.together b.together;
      few = omega (arith, length-append a.posts b.posts, a.few, b.few);
      moves = more_moved a.posts b.posts n m result a.moves b.moves;
      whole = whole;
      dated = λ given. more_dated a.posts b.posts (b.dated (some given));
      beside = beside_then here one two a.posts b.posts a.beside b.beside;
      whose_refused = subst (λ (ns : List ℕ). AllByRecursion (IsOfOneOf ns) b.refused) a.beside.same b.whose_refused;
      are_told = λ p y y' at at' k before is.
          let mids = found_too here one p y a.beside.same at in
          subst (λ (l : List Step). AreRefused known k l (fault_in result) b.refused y')
          (append_assoc before a.posts b.posts)
          (b.are_told p mids.0 y' mids.1 at' k (before ++ a.posts) (a.beside.stand p y mids.0 at mids.1 k before is));
      fare = all_then here one two a.posts b.posts a.beside.same a.fare b.fare;
      stood = b.stood;
      honest_first = λ h. honest (b.honest_first h);
      honest = b.honest;
      up = λ down. up (b.up down);
      takes = subst (λ (cs : List Command). Takes (seen old) (seen b.stood) cs) (sym (submitted-append a.posts b.posts))
          (Takes-append (seen old) (seen mid) (seen b.stood) (submitted_by a.posts) (submitted_by b.posts) took b.takes
          b.honest_first);
      due = λ h.
          let before = b.honest_first (b.honest h) in
          answers_then (seen old) (seen mid) (seen b.stood) a.posts b.posts before took
          (subst (λ (c : C). AnswersAll (seen old) (seen c) a.posts) (sym a.ends.1) (a.due before)) (b.due h);
      ends = b.ends;
      idle = idle_after seen old mid a.idle new b.idle;
      why = why_then seen reason old mid new (submitted_by a.posts) result took honest a.idle b.why;
    }

-- none were submitted before
pub submitted_after : {C R W X Y : Type 0} (seen : C → Seen) {reason : Fault → C → C → Type 0} {known : R × W → Known}
    (readings : List ℕ) (old mid new : C) (here one two : List (Client R W)) {t u v : Tally} (m : ℕ) {x : X}
    (result : Result Y Fault) → AreSubmitted seen reason known readings old mid here one t u 0 (Ok x)
    → AreSubmitted seen reason known readings mid new one two u v m result
    → AreSubmitted seen reason known readings old new here two t v m result
submitted_after {Y = Y} seen {reason} {known} readings old mid new here one two {t} {u} {v} m result a b =
    let same : 0 + m ≡ m = omega arith in
    subst (λ (n : ℕ). AreSubmitted seen reason known readings old new here two t v n result) same
    (submitted_then seen readings old mid new here one two 0 m result a b (λ some. omega (arith, some)) (whole result b.whole))
  where
    whole : (r : Result Y Fault) → IfErr r (λ f. (m ≤ length b.refused) ⊎ HasSpared reason)
        → IfErr r (λ f. (0 + m ≤ length b.refused) ⊎ HasSpared reason)
    whole (Ok y) none = tt
    whole (Err f) (inl all) = inl (omega (arith, all))
    whole (Err f) (inr spared) = inr spared

-- fewer are no more, where one was refused
pub submitted_few : {C R W X : Type 0} {seen : C → Seen} {reason : Fault → C → C → Type 0} {known : R × W → Known}
    {readings : List ℕ} {old new : C} {here here' : List (Client R W)} {t t' : Tally} {f : Fault} (n m : ℕ) → n ≤ m → HasSpared reason
    → AreSubmitted {X = X} seen reason known readings old new here here' t t' n (Err f)
    → AreSubmitted {X = X} seen reason known readings old new here here' t t' m (Err f)
submitted_few n m le spared a = record {
  posts = a.posts;
  commits = a.commits;
  are_commits = a.are_commits;
  counts = a.counts;
  refused = a.refused;
  some = a.some;
  together = a.together;
  few = omega (arith, a.few, le);
  moves = tt;
  whole = inr spared;
  dated = λ given. inr (inr (positive a.refused a.some));
  beside = a.beside;
  whose_refused = a.whose_refused;
  are_told = a.are_told;
  fare = a.fare;
  stood = a.stood;
  honest_first = a.honest_first;
  honest = a.honest;
  up = a.up;
  takes = a.takes;
  due = a.due;
  ends = a.ends;
  idle = a.idle;
  why = a.why;
}
