-- What is done for the front of what was read from a client, and where it stands then.
use Rattle.std.proofs.Common.{◌≡◌, ℕ, List, [], ◌∷◌, ◌++◌, drop, None, Option, Bool, Result, Ok, Err}
use Rattle.std.proofs.Common.{true, false, refl, sym, ap, subst, ◌∙◌, append-nil, inl, inr}
use Rattle.std.specs.Prelude.{IfErr, IfOk}
use Rattle.std.specs.{Borrow.Bor, List.AllByRecursion}
use Rattle.posting_rules.specs.declared.fault.Fault.{Fault}
use Rattle.posting_rules.specs.declared.fault.Fault.TheVariants as fault
use Rattle.posting_rules.specs.believed.Commands.{Command}
use Rattle.posting_rules.specs.believed.Counter.{Seen, ShowsLog}
use Rattle.counter_http.specs.Asking.{said_in}
use Rattle.counter_http.specs.Connections.{Known}
use Rattle.counter_http.specs.Next.{IsHopeless, IsUnfinished, IsWhole, asked}
use Rattle.counter_http.specs.together.Standing.{HasEndedWith, IsAnswered, IsHeadOf, IsRecordIn, IsToldOf, ReadsAnswer, StandsRefused, TellsRefusal}
use Rattle.counter_http.specs.together.Standing.{SaysSo, StandsHere, pending, unread}
use Rattle.counter_http.specs.Tasks.{IsTaskOf}
use Rattle.counter_http.specs.Turns.{IsAsked}
use Rattle.counter_http.specs.Figures.{answer_with, asks_figures, figures_answer, told_to}
use Rattle.counter_http.specs.believed.Answers.{Answer, Asked, answer_text, answer_to, asked_by, bare}
use Rattle.counter_http.specs.believed.Answers.{is_posting, refusal, shows}
use Rattle.counter_http.specs.declared.figures.Figures.{Figures}
use Rattle.counter_http.specs.believed.Messages.{EndsWalk, Message, message_text}
use Rattle.counter_http.specs.believed.Serving.{IsWalked, KeepsConnection}
use Rattle.counter_http.specs.together.Order.{Step, of_client}
use Rattle.counter_http.specs.believed.Turns.{Turn}
use Rattle.counter_http.specs.declared.answers.Reading.{Reading}
use Rattle.counter_http.specs.declared.client.Client.{Client}
use Rattle.counter_http.specs.declared.client.Front.{Front}
use Rattle.counter_http.specs.declared.client.Front.TheVariants as front
use Rattle.counter_http.specs.declared.client.Head.{Head}
use Rattle.counter_http.specs.declared.next.Whole.{Whole}
use Rattle.counter_http.specs.declared.parting.Parting.TheVariants as parting
use Rattle.counter_http.specs.declared.tasks.Task.TheVariants.{Submit}
use Rattle.counter_http.proofs.Answering.{answered_refusal, step_of, step_told, waits_so}
use Rattle.counter_http.proofs.AnsweredTurns.{submits_as}
use Rattle.counter_http.proofs.Asked.{answered_nothing, asked_as, asked_err, asked_full}
use Rattle.counter_http.proofs.Faring.{fares_answered, fares_lost, fares_unread}
use Rattle.counter_http.proofs.Fronts.{answered_here, ends_by, going_here, going_of, gone_here, parted_here}
use Rattle.counter_http.proofs.Fronts.{number_ended, refused_here}
use Rattle.counter_http.proofs.Refused.{refused_now}
use Rattle.counter_http.proofs.Walking.{walks_always, walks_end}

-- ---- the message at the front

pub head_of : {buf : List ℕ} {w : Whole} (head : Head) (is : IsWhole buf w) → head.length ≡ w.length
    → head.shows_body ≡ shows (asked w) → head.closes ≡ w.closes → IsHeadOf head buf is.message
head_of {buf} head is long shown ends = record {
  whole = is.whole;
  front = is.front ∙ ap (λ (n : ℕ). message_text is.message ++ drop n buf) (sym long);
  long = long ∙ is.long;
  shows_is = shown ∙ ap shows is.asks;
  closes_is = ends ∙ ap (λ (a : Asked). a.closes) is.asks;
}

pub record_of : {buf : List ℕ} {w : Whole} (head : Head) (is : IsWhole buf w) (bytes : Bor (List ℕ)) → IsHeadOf head buf is.message
    → IsTaskOf (asked w) (Submit bytes) → IsRecordIn buf bytes.now head
record_of head is bytes of task = record {
  message = is.message;
  is = of;
  posting = ap is_posting (sym is.asks) ∙ submits_as _ true task.0;
  body = task.1 ∙ ap (λ (a : Asked). a.body) is.asks;
}

-- ---- it is answered

pub says_answered : {C R W X : Type 0} (seen : C → Seen) {reason : Fault → C → C → Type 0} {known : R × W → Known}
    (figures : Figures) (bank new : C) (old after : Client R W) (m : Message) (head : Head) (answer : Answer) (done : Front)
    (result : Result X Fault) → SaysSo old after answer head done → IsHeadOf head (unread old) m
    → old.parting ≡ None → is_posting (asked_by m) ≡ false → IsAsked seen reason bank new result
    → ((more : List Step) → IfErr result (TellsRefusal known old after more))
    → ((seen new).honest → (log : List Command) → ShowsLog (seen bank) log
    → answer ≡ answer_with (told_to figures (asked_by m)) log (asked_by m))
    → IsAnswered seen reason known figures bank new old after result
says_answered seen {known = known} figures bank new old after m head answer front.Answered result did is going reads asked
    told says =
    let given = told_to figures (asked_by m) in
    let text = answer_text answer head.shows_body head.closes in
    record {
      more = step_told given old.number 0 m text ∷ [];
      reads = ((reads, refl), tt);
      own = (refl, tt);
      asked = asked;
      due = λ h log shown. (
        ap (λ (b : Bool). answer_text answer b head.closes) is.shows_is
            ∙ ap (λ (b : Bool). answer_text answer (shows (asked_by m)) b) is.closes_is
            ∙ ap (λ (a : Answer). answer_text a (shows (asked_by m)) (asked_by m).closes) (says h log shown),
        tt,
      );
      told = told _;
      fares = λ fault refused among. fares_answered old after text head (step_told given old.number 0 m text) [] refl going did;
      number = did.same.number;
      stands = λ k steps stands.
          answered_here old after given 0 m head text going is did stands;
    }
says_answered seen figures bank new old after m head answer front.Nothing result lost is going reads asked told says =
    answered_nothing seen bank new old after result asked (told [])
    (λ fault refused among. fares_lost old after lost) lost.number
    (λ k steps stands. gone_here old after lost stands)
says_answered seen figures bank new old after m head answer (front.Record r) result did is going reads asked told says =
    absurd did

-- what is asked for is no figures
pub untold : (figures : Figures) (a : Asked) → asks_figures a ≡ false → told_to figures a ≡ None
untold figures a none = rw none refl

pub as_untold : (figures : Figures) (a : Asked) (log : List Command) (answer : Answer) → asks_figures a ≡ false
    → answer ≡ answer_to log a → answer ≡ answer_with (told_to figures a) log a
as_untold figures a log answer none is =
    is ∙ ap (λ (given : Option Figures). answer_with given log a) (sym (untold figures a none))

-- and here it is figures
pub as_told : (figures : Figures) (a : Asked) (log : List Command) → asks_figures a ≡ true
    → figures_answer figures ≡ answer_with (told_to figures a) log a
as_told figures a log asks = rw asks refl

-- the bank refused it
tells_refusal : {R W : Type 0} {known : R × W → Known} (old after : Client R W) (m : Message)
    (head : Head) (why : Fault) → HasEndedWith old after (answer_text (bare 503) head.shows_body true) (parting.Bank why)
    → IsHeadOf head (unread old) m → old.parting ≡ None → is_posting (asked_by m) ≡ false
    → TellsRefusal known old after [] why
tells_refusal {known = known} old after m head why ended is going reads = record {
  step = step_of old.number 0 m [];
  own = refl;
  reads = reads;
  told = λ k steps stands.
      subst (λ (ss : List Step). StandsRefused known k ss why (step_of old.number 0 m []).turn after)
      (sym (append-nil steps)) (refused_now old after 0 m head why going is ended stands);
}

refusal_told : {C R W : Type 0} (seen : C → Seen) {known : R × W → Known} (bank new : C) (old after : Client R W) (why : Fault)
    (result : Result Front Fault) → IsToldOf why result → TellsRefusal known old after [] why
    → IfErr result (TellsRefusal known old after [])
refusal_told seen {known} bank new old after fault.Memory result is told =
    subst (λ (r : Result Front Fault). IfErr r (TellsRefusal known old after [])) (sym is) tt
refusal_told seen {known} bank new old after fault.Store result is told =
    subst (λ (r : Result Front Fault). IfErr r (TellsRefusal known old after [])) (sym is) told
refusal_told seen {known} bank new old after fault.Down result is told =
    subst (λ (r : Result Front Fault). IfErr r (TellsRefusal known old after [])) (sym is) told
refusal_told seen {known} bank new old after (fault.Damaged rule) result is told =
    subst (λ (r : Result Front Fault). IfErr r (TellsRefusal known old after [])) (sym is) told

refusal_asked : {C : Type 0} (seen : C → Seen) {reason : Fault → C → C → Type 0} (bank new : C) (why : Fault)
    (result : Result Front Fault) → IsToldOf why result → IsAsked {X = Reading} seen reason bank new (Err why)
    → IsAsked seen reason bank new result
refusal_asked seen {reason} bank new fault.Memory result is asked =
    subst (λ (r : Result Front Fault). IsAsked seen reason bank new r) (sym is) (asked_full front.Nothing asked)
refusal_asked seen {reason} bank new fault.Store result is asked =
    subst (λ (r : Result Front Fault). IsAsked seen reason bank new r) (sym is) (asked_err asked)
refusal_asked seen {reason} bank new fault.Down result is asked =
    subst (λ (r : Result Front Fault). IsAsked seen reason bank new r) (sym is) (asked_err asked)
refusal_asked seen {reason} bank new (fault.Damaged rule) result is asked =
    subst (λ (r : Result Front Fault). IsAsked seen reason bank new r) (sym is) (asked_err asked)

pub read_answered : {C R W : Type 0} (seen : C → Seen) {reason : Fault → C → C → Type 0} {known : R × W → Known}
    (figures : Figures) (bank new : C) (old after : Client R W) (m : Message) (head : Head) (read : Result Reading Fault)
    (result : Result Front Fault) → ReadsAnswer old after read head result → IsHeadOf head (unread old) m
    → old.parting ≡ None → is_posting (asked_by m) ≡ false → asks_figures (asked_by m) ≡ false
    → IsAsked seen reason bank new read
    → IfOk read (λ reading. (seen new).honest → (log : List Command) → ShowsLog (seen bank) log
    → said_in reading ≡ answer_to log (asked_by m))
    → IsAnswered seen reason known figures bank new old after result
read_answered seen {reason} {known} figures bank new old after m head (Ok reading) result did is going reads none asked
    says =
    says_answered seen figures bank new old after m head (said_in reading) did.0 result did.2 is going reads
    (subst (λ (r : Result Front Fault). IsAsked seen reason bank new r) (sym did.1) (asked_as did.0 asked))
    (λ more. subst (λ (r : Result Front Fault). IfErr r (TellsRefusal known old after more)) (sym did.1) tt)
    (λ h log s. as_untold figures (asked_by m) log (said_in reading) none (says h log s))
read_answered seen figures bank new old after m head (Err why) result did is going reads none asked says =
    let asks = refusal_asked seen bank new why result did.1 asked in
    answered_nothing seen bank new old after result asks
    (refusal_told seen bank new old after why result did.1
    (tells_refusal old after m head why did.0 is going reads))
    (fares_unread old after why result did.0 did.1) (number_ended old after did.0) (λ k steps stands. refused_here old after m head why going is did.0 stands)

-- ---- no message is there

pub unfinished_here : {R W : Type 0} {known : R × W → Known} {k : Known} {steps : List Step}
    (old new : Client R W) (shown : Bool) → new.number ≡ old.number → new.reader ≡ old.reader → new.writer ≡ old.writer
    → old.parting ≡ None → new.parting ≡ None → new.has_more ≡ false → new.shows_body ≡ shown
    → unread new ≡ unread old → pending new ≡ pending old → IsUnfinished (unread old) shown
    → StandsHere known k steps old → StandsHere known k steps new
unfinished_here {known = known} old new shown number reader writer going going' more shows_is rest left waits stands =
    going_here new number going' (ends_by known reader writer) more shows_is rest left
    (waits_so refl (λ e. waits) (going_of old going stands))

hopeless : {has_ended : Type 0} (own : List Turn) (buf : List ℕ) (shown : Bool)
    → AllByRecursion (λ (t : Turn). KeepsConnection t.message) own → IsHopeless buf shown
    → IsWalked has_ended own [] buf (refusal shown ∷ [])
hopeless own buf shown stays is = record {
  ending = is.ending;
  walks = walks_end own buf is.ending stays (subst (λ (x : List ℕ). EndsWalk is.ending x) (append-nil buf) (is.ends []));
  last_is = sym is.answer;
  ended = inr (walks_always own buf is.ending stays is.ends);
  none_refused = refl;
}

pub hopeless_here : {R W : Type 0} {known : R × W → Known} {k : Known} {steps : List Step}
    (old new : Client R W) (shown : Bool) (answer : Answer) → answer ≡ bare 400 → old.parting ≡ None
    → IsHopeless (unread old) shown → HasEndedWith old new (answer_text answer shown true) parting.Served
    → StandsHere known k steps old → StandsHere known k steps new
hopeless_here {known = known} {steps = steps} old new shown answer same going is (inl ended) stands =
    let g = going_of old going stands in
    parted_here new parting.Served ended.same.number ended.parting (ends_by known ended.same.reader ended.same.writer)
    (ended.added ∙ ap (λ (a : Answer). pending old ++ answer_text a shown true) same)
    (answered_refusal shown g (hopeless (of_client old.number steps) (unread old) shown g.stays is))
hopeless_here old new shown answer same going is (inr lost) stands = gone_here old new lost stands
