-- A round: messages that were answered while records were gathered, and those records.
use Rattle.std.proofs.Common.{◌≡◌, ℕ, List, [], ◌++◌, length, Option, Some, Result, Ok, Err, refl, sym, ap, subst}
use Rattle.std.proofs.Common.{◌∙◌, append_assoc, append-nil, arith, inl, inr}
use Rattle.std.specs.{List.AllByRecursion}
use Rattle.posting_rules.specs.declared.fault.Fault.{Fault}
use Rattle.posting_rules.specs.believed.Commands.{Command}
use Rattle.posting_rules.specs.believed.Counter.{LeavesOnly, Refuses, Seen, ShowsPrefix, StandsAt, Takes}
use Rattle.posting_rules.specs.believed.Runs.{followed_by, replies_to}
use Rattle.posting_rules.proofs.CounterCalls.{idle_after, Takes-append}
use Rattle.posting_core.proofs.Stops.{refused_stop, stop_all, stop_part}
use Rattle.posting_core.proofs.StreamedBatches.{all_more}
use Rattle.counter_http.specs.Connections.{Known}
use Rattle.counter_http.specs.together.Due.{AnswersAll}
use Rattle.counter_http.specs.together.Faring.{AllFare}
use Rattle.counter_http.specs.together.Order.{Step, is_read_under, submitted_by}
use Rattle.counter_http.specs.together.Rounds.{AllMoveOn, AnswersRound, MayBeLate, EndsRound, IsOfOneOf, fault_in, numbers}
use Rattle.counter_http.specs.together.Standing.{AreRefused, StandsHere}
use Rattle.counter_http.specs.together.Submitting.{Gathers, SubmitsBatch}
use Rattle.counter_http.specs.Figures.{Counts}
use Rattle.counter_http.specs.declared.batch.Batch.{Batch}
use Rattle.counter_http.specs.declared.figures.Figures.{Figures}
use Rattle.counter_http.specs.declared.figures.Tally.{Tally}
use Rattle.counter_http.specs.declared.client.Client.{Client}
use Rattle.counter_http.proofs.Asked.{reads_due, reads_submit_none}
use Rattle.counter_http.proofs.Counted.{counts_none}
use Rattle.counter_http.proofs.Dues.{answers_then}
use Rattle.counter_http.proofs.Fared.{all_then}
use Rattle.counter_http.proofs.Gathering.{takes_reads}
use Rattle.counter_http.proofs.Placed.{beside_then, found_too}
use Rattle.counter_http.proofs.Steps.{submitted-append}
use Rattle.counter_http.proofs.Submitted.{why_then}

-- a crash leaves all that was taken
survives_round : {C X : Type 0} (seen : C → Seen) (old stood new : C) (steps refused : List Step)
    (result : Result X Fault) → Takes (seen old) (seen stood) (submitted_by steps)
    → ((seen new).honest → (seen stood).honest) → EndsRound seen result stood new refused → (seen new).honest
    → (log : List Command) → StandsAt (seen old) log
    → LeavesOnly (seen new) (ShowsPrefix log (submitted_by (steps ++ refused)) (length (submitted_by steps)))
survives_round {C} seen old stood new steps refused (Ok x) takes honest ends h log stands =
    stop_all (seen new) log (submitted_by (steps ++ refused)) (submitted_by steps)
    (ap (λ (ss : List Step). submitted_by (steps ++ ss)) ends.0 ∙ ap submitted_by (append-nil steps))
    (subst (λ (c : C). StandsAt (seen c) (followed_by log (submitted_by steps))) (sym ends.1)
    (takes.stands (honest h) log stands))
survives_round seen old stood new steps refused (Err f) takes honest ends h log stands =
    stop_part (seen new) log (submitted_by steps) (submitted_by refused) (submitted_by (steps ++ refused))
    (submitted-append steps refused)
    (refused_stop f (seen stood) (seen new) (followed_by log (submitted_by steps)) (submitted_by refused) ends h
    (takes.stands (honest h) log stands))

-- what is told while clients are here
abbrev pub figures_at : {R W : Type 0} → List (Client R W) → Tally → ℕ → Figures
figures_at here t seconds = record { tally = t; connections = length here; seconds = seconds }

pub figured_by : {C R W X : Type 0} {seen : C → Seen} {reason : Fault → C → C → Type 0} {known : R × W → Known}
    {old new : C} {here one : List (Client R W)} {t : Tally} {seconds : ℕ} {batch : Batch} {result : Result X Fault}
    (count : ℕ) → count ≡ length here
    → Gathers seen reason known (record { tally = t; connections = count; seconds = seconds }) old new here one batch result
    → Gathers seen reason known (figures_at here t seconds) old new here one batch result
figured_by {seen = seen} {reason} {known} {old} {new} {here} {one} {t} {seconds} {batch} {result} count same g =
    subst (λ (n : ℕ). Gathers seen reason known (record { tally = t; connections = n; seconds = seconds }) old new here one
    batch result) same g

-- only the records of a round are submitted
only_posts : (figures : Figures) (reads posts : List Step) → AllByRecursion (is_read_under figures) reads
    → submitted_by (reads ++ posts) ≡ submitted_by posts
only_posts figures reads posts all =
    submitted-append reads posts
    ∙ ap (λ (cs : List Command). cs ++ submitted_by posts) (reads_submit_none figures reads all)

-- the records were submitted
pub round_submitted : {C R W X Y : Type 0} (seen : C → Seen) {reason : Fault → C → C → Type 0} {known : R × W → Known}
    {k k' : Option (List ℕ)} (old mid new : C) (here one two : List (Client R W)) {t t' : Tally} (seconds : ℕ)
    (batch : Batch) {x : X} (result : Result Y Fault)
    → (g : Gathers seen reason known (figures_at here t seconds) old mid here one batch (Ok x))
    → (s : SubmitsBatch seen reason known k k' mid new one two t t' (length batch.records.items) result)
    → AllMoveOn (MayBeLate reason result s.did.posts s.did.refused) here two (g.reads ++ s.did.posts)
    → AnswersRound seen reason known k k' old new here two t t' seconds result
round_submitted seen {reason} {known} old mid new here one two {t} {t'} seconds batch result g s moves =
    let d = s.did in
    let took = takes_reads seen (figures_at here t seconds) old mid g.reads g.are_reads g.asked.done in
    let both = beside_then here one two g.reads d.posts g.beside d.beside in
    let takes : Takes (seen old) (seen d.stood) (submitted_by (g.reads ++ d.posts)) =
    subst (λ (cs : List Command). Takes (seen old) (seen d.stood) cs) (sym (submitted-append g.reads d.posts))
    (Takes-append (seen old) (seen mid) (seen d.stood) (submitted_by g.reads) (submitted_by d.posts) took d.takes
    d.honest_first) in
    record {
      round = record {
        figures = figures_at here t seconds;
        reads = g.reads;
        readings = s.readings;
        posts = d.posts;
        commits = d.commits;
      };
      is_round = record {
        reads = g.are_reads;
        once = s.once;
        together = d.together;
        few = omega (arith, d.few, s.few);
        commits = d.are_commits;
      };
      figured = refl;
      counts = λ h log shown. subst (λ (cs : List Command). Counts t t' (replies_to log cs) d.commits)
          (sym (only_posts (figures_at here t seconds) g.reads d.posts g.are_reads))
          (d.counts h log (g.asked.done.shows (d.honest_first (d.honest h)) log shown));
      moves = moves;
      refused = d.refused;
      some = d.some;
      dated = λ read. d.dated (s.some read);
      whose = both.whose;
      whose_refused = subst (λ (ns : List ℕ). AllByRecursion (IsOfOneOf ns) d.refused) g.beside.same d.whose_refused;
      are_told = λ p y y' at at' k before is.
          let mids = found_too here one p y g.beside.same at in
          subst (λ (l : List Step). AreRefused known k l (fault_in result) d.refused y')
          (append_assoc before g.reads d.posts)
          (d.are_told p mids.0 y' mids.1 at' k (before ++ g.reads) (g.beside.stand p y mids.0 at mids.1 k before is));
      fare = all_then here one two g.reads d.posts g.beside.same g.fare d.fare;
      clock = s.clock;
      stood = d.stood;
      honest_first = λ h. g.asked.honest (d.honest_first h);
      honest = d.honest;
      up = λ down. g.asked.up (d.up down);
      takes = takes;
      due = λ h.
          let before = d.honest_first (d.honest h) in
          answers_then (seen old) (seen mid) (seen d.stood) g.reads d.posts before took
          (reads_due (figures_at here t seconds) (seen old) (seen mid) g.reads g.are_reads (g.due before) before
          g.asked.stays) (d.due h);
      ends = d.ends;
      survives = survives_round seen old d.stood new (g.reads ++ d.posts) d.refused result takes d.honest d.ends;
      idle = idle_after seen old mid g.asked.idle new d.idle;
      why = why_then seen reason old mid new (submitted_by g.reads) result took g.asked.honest g.asked.idle d.why;
      same = both.same;
      stand = both.stand;
    }

-- the bank refused one of the messages before
pub round_refused : {C R W X Y : Type 0} (seen : C → Seen) {reason : Fault → C → C → Type 0} {known : R × W → Known}
    {k : Option (List ℕ)} (old new : C) (here one : List (Client R W)) (t : Tally) (seconds : ℕ) (batch : Batch)
    (why : Fault) → Gathers {X = X} seen reason known (figures_at here t seconds) old new here one batch (Err why)
    → AnswersRound {X = Y} seen reason known k k old new here one t t seconds (Err why)
round_refused {Y = Y} seen {reason} {known} old new here one t seconds batch why g =
    let f = g.asked.fault in
    let takes : Takes (seen old) (seen f.stood) (submitted_by (g.reads ++ [])) =
    subst (λ (ss : List Step). Takes (seen old) (seen f.stood) (submitted_by ss)) (sym (append-nil g.reads))
    (takes_reads seen (figures_at here t seconds) old f.stood g.reads g.are_reads f.takes) in
    let refuses : Refuses why (seen f.stood) (seen new) (submitted_by g.refused) =
    subst (λ (cs : List Command). Refuses why (seen f.stood) (seen new) cs) (sym g.none_posted) f.refuses in
    record {
      round = record { figures = figures_at here t seconds; reads = g.reads; readings = []; posts = []; commits = 0 };
      is_round = record {
        reads = g.are_reads;
        once = omega arith;
        together = tt;
        few = omega arith;
        commits = record { few = omega arith; some = λ given. given };
      };
      figured = refl;
      counts = λ h log shown. subst (λ (cs : List Command). Counts t t (replies_to log cs) 0)
          (sym (only_posts (figures_at here t seconds) g.reads [] g.are_reads)) (counts_none t);
      moves = λ p x y at at'. inr (inr (inr (inl g.none_posted)));
      refused = g.refused;
      some = g.some;
      dated = λ read. absurd (omega (arith, read));
      whose = all_more (IsOfOneOf (numbers here)) g.reads [] g.beside.whose tt;
      whose_refused = g.whose_refused;
      are_told = λ p y y' at at' k before is.
          subst (λ (ss : List Step). AreRefused known k (before ++ ss) (Some why) g.refused y')
          (sym (append-nil g.reads)) (g.are_told p y y' at at' k before is);
      fare = subst (λ (ss : List Step). AllFare (Some why) g.refused ss here one) (sym (append-nil g.reads)) g.fare;
      clock = refl;
      stood = f.stood;
      honest_first = f.honest_first;
      honest = f.honest;
      up = f.up;
      takes = takes;
      due = λ h. subst (λ (ss : List Step). AnswersAll (seen old) (seen f.stood) ss) (sym (append-nil g.reads))
          (reads_due (figures_at here t seconds) (seen old) (seen f.stood) g.reads g.are_reads (g.due h) (f.honest h)
          f.stays);
      ends = refuses;
      survives = survives_round {X = Y} seen old f.stood new (g.reads ++ []) g.refused (Err why) takes f.honest refuses;
      idle = g.asked.idle;
      why = g.asked.why;
      same = g.beside.same;
      stand = λ p x x' at at' k_first before is.
          subst (λ (ss : List Step). StandsHere known k_first (before ++ ss) x')
          (sym (append-nil g.reads)) (g.beside.stand p x x' at at' k_first before is);
    }

-- the result stands for another
pub round_as : {C R W X Y : Type 0} {seen : C → Seen} {reason : Fault → C → C → Type 0} {known : R × W → Known}
    {k k' : Option (List ℕ)} {old new : C} {here two : List (Client R W)} {t t' : Tally} {seconds : ℕ} {x : X} (y : Y)
    → AnswersRound seen reason known k k' old new here two t t' seconds (Ok x)
    → AnswersRound seen reason known k k' old new here two t t' seconds (Ok y)
round_as y a = record {
  round = a.round;
  is_round = a.is_round;
  figured = a.figured;
  counts = a.counts;
  refused = a.refused;
  some = a.some;
  dated = a.dated;
  whose = a.whose;
  whose_refused = a.whose_refused;
  are_told = a.are_told;
  fare = a.fare;
  moves = a.moves;
  clock = a.clock;
  stood = a.stood;
  honest_first = a.honest_first;
  honest = a.honest;
  up = a.up;
  takes = a.takes;
  due = a.due;
  ends = a.ends;
  survives = a.survives;
  idle = a.idle;
  why = tt;
  same = a.same;
  stand = a.stand;
}

pub round_err : {C R W X Y : Type 0} {seen : C → Seen} {reason : Fault → C → C → Type 0} {known : R × W → Known}
    {k k' : Option (List ℕ)} {old new : C} {here two : List (Client R W)} {t t' : Tally} {seconds : ℕ} {f : Fault}
    → AnswersRound {X = X} seen reason known k k' old new here two t t' seconds (Err f)
    → AnswersRound {X = Y} seen reason known k k' old new here two t t' seconds (Err f)
round_err a = record {
  round = a.round;
  is_round = a.is_round;
  figured = a.figured;
  counts = a.counts;
  refused = a.refused;
  some = a.some;
  dated = a.dated;
  whose = a.whose;
  whose_refused = a.whose_refused;
  are_told = a.are_told;
  fare = a.fare;
  moves = a.moves;
  clock = a.clock;
  stood = a.stood;
  honest_first = a.honest_first;
  honest = a.honest;
  up = a.up;
  takes = a.takes;
  due = a.due;
  ends = a.ends;
  survives = a.survives;
  idle = a.idle;
  why = a.why;
  same = a.same;
  stand = a.stand;
}
