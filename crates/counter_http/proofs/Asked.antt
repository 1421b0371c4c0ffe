-- What the bank was asked, one question after another, and a client whose messages were answered so.
use Rattle.std.proofs.Common.{◌≡◌, ℕ, List, [], ◌∷◌, ◌++◌, None, Option, Some, Result, Ok, Err, refl, sym, ap, subst, ◌∙◌, append-nil}
use Rattle.std.proofs.Common.{append_assoc, inl, inr}
use Rattle.std.specs.{List.AllByRecursion}
use Rattle.std.specs.Prelude.{Contains, IfErr}
use Rattle.posting_rules.specs.declared.fault.Fault.{Fault}
use Rattle.posting_rules.specs.declared.fault.Fault.TheVariants as fault
use Rattle.posting_rules.specs.believed.Commands.{Command}
use Rattle.posting_rules.specs.Counter.{StaysByTables}
use Rattle.posting_rules.specs.believed.{AnyTables.HasRoom, ByCommands.tables_past_commands, Runs.followed_by}
use Rattle.posting_rules.specs.believed.Counter.{IsCounterCall, IsSeenUnchanged, LeavesOnly, Seen, ShowsLog, Takes}
use Rattle.posting_rules.specs.believed.Tables.{Tables, AreTablesOf}
use Rattle.posting_rules.proofs.CounterCalls.{idle_after, refused_after, takes_none, Takes-append}
use Rattle.posting_rules.proofs.Remaining.{leaves_still}
use Rattle.posting_core.specs.Stream.{IsOfCall}
use Rattle.posting_core.proofs.{ByTables.stays_itself, ByTables.stays_then, StreamedBatches.all_more}
use Rattle.counter_http.specs.Connections.{Known}
use Rattle.counter_http.specs.together.Due.{AnswersAll, AreDue, AreDueOn}
use Rattle.counter_http.specs.together.Faring.{Fares}
use Rattle.counter_http.specs.together.Standing.{IsAnswered, StandsHere, StandsRefused, TellsRefusal}
use Rattle.counter_http.specs.Turns.{IsAsked, IsRefusedAt}
use Rattle.counter_http.specs.believed.Answers.{asked_by}
use Rattle.counter_http.specs.together.Order.{Step, clients_of, is_read_under, submitted_by}
use Rattle.counter_http.specs.declared.figures.Figures.{Figures}
use Rattle.counter_http.specs.declared.client.Client.{Client}
use Rattle.counter_http.proofs.AnsweredTurns.{idle_commands, refused_first, why_first}
use Rattle.counter_http.proofs.Dues.{due_append, unchanged_stays}
use Rattle.counter_http.proofs.Faring.{among_then, fares_then}
use Rattle.counter_http.proofs.Steps.{submitted-append}

-- ---- the bank

-- a refusal for want of memory takes nothing
pub unchanged_takes : (c c' : Seen) → (c'.honest → c.honest) → IsSeenUnchanged c c' → Takes c c' []
unchanged_takes c c' honest same = record {
  shows = λ h log s. record
      { commands = s.commands; tables = s.tables; are = same.tables s.tables s.are; shows = s.shows };
  stands = λ h log s. record {
    shows = record {
      commands = s.shows.commands;
      tables = s.shows.tables;
      are = same.tables s.shows.tables s.shows.are;
      shows = s.shows.shows;
    };
    up = λ down. s.up (same.down down);
    survives = leaves_still c c' (λ (t : Tables). AreTablesOf t log) same.left s.survives;
  };
}

pub refused_takes : {C : Type 0} (seen : C → Seen) (old new : C) → IsRefusedAt seen old new fault.Memory []
    → Takes (seen old) (seen new) []
refused_takes seen old new r =
    Takes-append (seen old) (seen r.stood) (seen new) [] [] r.takes
    (unchanged_takes (seen r.stood) (seen new) r.honest r.refuses) r.honest

pub refused_stays : {C : Type 0} (seen : C → Seen) (old new : C) → IsRefusedAt seen old new fault.Memory []
    → StaysByTables (seen old) (seen new)
refused_stays seen old new r =
    stays_then (seen old) (seen r.stood) (seen new) r.honest r.stays (unchanged_stays (seen r.stood) (seen new) r.refuses)

pub refused_up : {C : Type 0} (seen : C → Seen) (old new : C) → IsRefusedAt seen old new fault.Memory []
    → (seen new).is_down → (seen old).is_down
refused_up seen old new r down = r.up (r.refuses.down down)

pub asked_none : {C X : Type 0} (seen : C → Seen) {reason : Fault → C → C → Type 0} (c : C) (x : X)
    → IsAsked seen reason c c (Ok x)
asked_none seen c x = record {
  done = takes_none (seen c);
  stays = stays_itself (seen c);
  up = λ down. down;
  why = tt;
  fault = tt;
  idle = λ down. refl;
  honest = λ h. h;
}

-- the result stands for another
pub asked_as : {C X Y : Type 0} {seen : C → Seen} {reason : Fault → C → C → Type 0} {old new : C} {x : X} (y : Y)
    → IsAsked seen reason old new (Ok x) → IsAsked seen reason old new (Ok y)
asked_as y a =
    record { done = a.done; stays = a.stays; up = a.up; why = tt; fault = tt; idle = a.idle; honest = a.honest }

pub asked_err : {C X Y : Type 0} {seen : C → Seen} {reason : Fault → C → C → Type 0} {old new : C} {f : Fault}
    → IsAsked {X = X} seen reason old new (Err f) → IsAsked {X = Y} seen reason old new (Err f)
asked_err a =
    record { done = tt; stays = tt; up = tt; why = a.why; fault = a.fault; idle = a.idle; honest = a.honest }

-- memory was refused, and that is told to the client alone
pub asked_full : {C X Y : Type 0} {seen : C → Seen} {reason : Fault → C → C → Type 0} {old new : C} (y : Y)
    → IsAsked {X = X} seen reason old new (Err fault.Memory) → IsAsked seen reason old new (Ok y)
asked_full {seen = seen} {old = old} {new} y a = record {
  done = refused_takes seen old new a.fault;
  stays = refused_stays seen old new a.fault;
  up = refused_up seen old new a.fault;
  why = tt;
  fault = tt;
  idle = a.idle;
  honest = a.honest;
}

-- a call of the counter was refused
pub asked_refused : {C K X Y : Type 0} (seen : C → Seen) (contents : C → K) (reason : Fault → C → C → Type 0)
    (old new : C) (why : Fault) → IsCounterCall {X = X} seen contents reason old new [] (Err why)
    → IsAsked {X = Y} seen reason old new (Err why)
asked_refused seen contents reason old new why call = record {
  done = tt;
  stays = tt;
  up = tt;
  why = why_first seen contents reason old new [] why call;
  fault = refused_first seen old new why [] call.fault call.honest;
  idle = λ down. call.untried (call.down down);
  honest = call.honest;
}

pub of_call_then : {C X : Type 0} (seen : C → Seen) (reason : Fault → C → C → Type 0) (old mid new : C) (f : Fault)
    {x : X} → IsAsked seen reason old mid (Ok x) → IsOfCall seen reason mid new f → IsOfCall seen reason old new f
of_call_then seen reason old mid new f a (inl call) =
    inl (refused_after seen reason old mid new [] a.done a.honest a.idle f call)
of_call_then seen reason old mid new f a (inr own) = inr own

pub asked_then : {C X Y : Type 0} (seen : C → Seen) {reason : Fault → C → C → Type 0} (old mid new : C) {x : X}
    (result : Result Y Fault) → IsAsked seen reason old mid (Ok x) → IsAsked seen reason mid new result
    → IsAsked seen reason old new result
asked_then seen {reason} old mid new (Ok y) a b = record {
  done = Takes-append (seen old) (seen mid) (seen new) [] [] a.done b.done b.honest;
  stays = stays_then (seen old) (seen mid) (seen new) b.honest a.stays b.stays;
  up = λ down. a.up (b.up down);
  why = tt;
  fault = tt;
  idle = idle_after seen old mid a.idle new b.idle;
  honest = λ h. a.honest (b.honest h);
}
asked_then seen {reason} old mid new (Err f) a b = record {
  done = tt;
  stays = tt;
  up = tt;
  why = of_call_then seen reason old mid new f a b.why;
  fault = record {
    stood = b.fault.stood;
    honest_first = λ h. a.honest (b.fault.honest_first h);
    honest = b.fault.honest;
    up = λ down. a.up (b.fault.up down);
    takes = Takes-append (seen old) (seen mid) (seen b.fault.stood) [] [] a.done b.fault.takes b.fault.honest_first;
    stays = stays_then (seen old) (seen mid) (seen b.fault.stood) b.fault.honest_first a.stays b.fault.stays;
    refuses = b.fault.refuses;
  };
  idle = idle_after seen old mid a.idle new b.idle;
  honest = λ h. a.honest (b.honest h);
}

-- ---- a client

pub reads_submit_none : (figures : Figures) (ss : List Step) → AllByRecursion (is_read_under figures) ss → submitted_by ss ≡ []
reads_submit_none figures [] all = refl
reads_submit_none figures (s ∷ ss) all =
    ap (λ (x : List Command). x ++ submitted_by ss) (idle_commands (asked_by s.turn.message) s.turn.moment all.0.0)
    ∙ reads_submit_none figures ss all.1

-- the log stays, whatever was read
pub due_reads : (log : List Command) (figures : Figures) (ss ts : List Step) → AllByRecursion (is_read_under figures) ss
    → AreDue log ss → AreDue log ts → AreDue log (ss ++ ts)
due_reads log figures ss ts reads due more =
    due_append log ss ts due
    (subst (λ (cs : List Command). AreDue (followed_by log cs) ts) (sym (reads_submit_none figures ss reads)) more)

-- and so do tables
reads_due_on : (figures : Figures) (t : Tables) (ss : List Step) → AllByRecursion (is_read_under figures) ss → AreDueOn t ss
reads_due_on figures t [] all = tt
reads_due_on figures t (s ∷ ss) all = (
  (λ posting. absurd (cc (posting, all.0.0))),
  subst (λ (cs : List Command). AreDueOn (tables_past_commands t cs) ss)
      (sym (idle_commands (asked_by s.turn.message) s.turn.moment all.0.0)) (reads_due_on figures t ss all.1),
)

pub reads_due : (figures : Figures) (c c' : Seen) (ss : List Step) → AllByRecursion (is_read_under figures) ss
    → ((log : List Command) → ShowsLog c log → AreDue log ss) → c'.honest → StaysByTables c c' → AnswersAll c c' ss
reads_due figures c c' ss reads due h stays = record {
  by_log = due;
  by_tables = λ t room there.
      let same : t ≡ tables_past_commands t (submitted_by ss) =
      sym (ap (tables_past_commands t) (reads_submit_none figures ss reads)) in
      record {
        due = reads_due_on figures t ss reads;
        shows = subst (λ (u : Tables). c'.tables u) same (stays.shows h t there);
        room = subst (λ (u : Tables). HasRoom u) same room;
        survives = λ only. subst (λ (u : Tables). LeavesOnly c' (λ left. left ≡ u)) same (stays.survives h t there only);
      };
}

owned_by : (m n : ℕ) (ss : List Step) → n ≡ m → AllByRecursion (λ (s : Step). s.client ≡ n) ss
    → AllByRecursion (λ (s : Step). s.client ≡ m) ss
owned_by m n [] e all = tt
owned_by m n (s ∷ ss) e all = (all.0 ∙ e, owned_by m n ss e all.1)

-- nothing was answered
pub answered_nothing : {C R W X : Type 0} (seen : C → Seen) {reason : Fault → C → C → Type 0} {known : R × W → Known} {figures : Figures}
    (bank new : C) (old after : Client R W) (result : Result X Fault) → IsAsked seen reason bank new result
    → IfErr result (TellsRefusal known old after [])
    → ((fault : Option Fault) (refused : List Step)
    → IfErr result (λ why. (fault ≡ Some why) × Contains (clients_of refused) old.number) → Fares fault refused [] old after)
    → after.number ≡ old.number → ((k : Known) (steps : List Step) → StandsHere known k steps old → StandsHere known k steps after)
    → IsAnswered seen reason known figures bank new old after result
answered_nothing seen {known = known} bank new old after result asked told fares number stands = record {
  more = [];
  reads = tt;
  own = tt;
  asked = asked;
  due = λ h log shown. tt;
  told = told;
  fares = fares;
  number = number;
  stands = λ k steps is. subst (λ (ss : List Step). StandsHere known k ss after)
      (sym (append-nil steps)) (stands k steps is);
}

refused_then : {C R W X Y : Type 0} (seen : C → Seen) {reason : Fault → C → C → Type 0} {known : R × W → Known} {figures : Figures}
    (bank mid new : C) (one two three : Client R W) {x : X} (result : Result Y Fault)
    (a : IsAnswered seen reason known figures bank mid one two (Ok x)) (more : List Step)
    → IfErr result (TellsRefusal known two three more)
    → IfErr result (TellsRefusal known one three (a.more ++ more))
refused_then seen bank mid new one two three (Ok y) a more told = tt
refused_then seen {known = known} {figures} bank mid new one two three (Err f) a more told = record {
  step = told.step;
  own = told.own ∙ a.number;
  reads = told.reads;
  told = λ k steps is.
      subst (λ (ss : List Step). StandsRefused known k ss f told.step.turn three)
      (append_assoc steps a.more more)
      (told.told k (steps ++ a.more) (a.stands k steps is));
}

pub answered_then : {C R W X Y : Type 0} (seen : C → Seen) {reason : Fault → C → C → Type 0} {known : R × W → Known} {figures : Figures}
    (bank mid new : C) (one two three : Client R W) {x : X} (result : Result Y Fault)
    → IsAnswered seen reason known figures bank mid one two (Ok x) → IsAnswered seen reason known figures mid new two three result
    → IsAnswered seen reason known figures bank new one three result
answered_then seen {reason} {known} {figures} bank mid new one two three result a b = record {
  more = a.more ++ b.more;
  reads = all_more (is_read_under figures) a.more b.more a.reads b.reads;
  own = all_more (λ (s : Step). s.client ≡ one.number) a.more b.more a.own
      (owned_by one.number two.number b.more a.number b.own);
  asked = asked_then seen bank mid new result a.asked b.asked;
  due = λ h log shown.
      let honest = b.asked.honest h in
      due_reads log figures a.more b.more a.reads (a.due honest log shown) (b.due h log (a.asked.done.shows honest log shown));
  told = refused_then seen bank mid new one two three result a b.more b.told;
  fares = λ fault refused among. fares_then one two three a.more b.more a.number (a.fares None [] tt)
      (b.fares fault refused (among_then fault refused result one.number two.number (sym a.number) among));
  number = b.number ∙ a.number;
  stands = λ k steps is.
      subst (λ (ss : List Step). StandsHere known k ss three) (append_assoc steps a.more b.more)
      (b.stands k (steps ++ a.more) (a.stands k steps is));
}

-- the result stands for another
pub answered_as : {C R W X Y : Type 0} {seen : C → Seen} {reason : Fault → C → C → Type 0} {known : R × W → Known} {figures : Figures}
    {bank new : C} {old after : Client R W} {x : X} (y : Y) → IsAnswered seen reason known figures bank new old after (Ok x)
    → IsAnswered seen reason known figures bank new old after (Ok y)
answered_as y a = record {
  more = a.more;
  reads = a.reads;
  own = a.own;
  asked = asked_as y a.asked;
  due = a.due;
  told = tt;
  fares = λ fault refused among. a.fares fault refused tt;
  number = a.number;
  stands = a.stands;
}

pub answered_err : {C R W X Y : Type 0} {seen : C → Seen} {reason : Fault → C → C → Type 0} {known : R × W → Known} {figures : Figures}
    {bank new : C} {old after : Client R W} {f : Fault}
    → IsAnswered {X = X} seen reason known figures bank new old after (Err f)
    → IsAnswered {X = Y} seen reason known figures bank new old after (Err f)
answered_err a = record {
  more = a.more;
  reads = a.reads;
  own = a.own;
  asked = asked_err a.asked;
  due = a.due;
  told = a.told;
  fares = a.fares;
  number = a.number;
  stands = a.stands;
}
