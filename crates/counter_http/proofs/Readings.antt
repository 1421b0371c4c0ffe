-- Where a client stands of whom something was read.
use Rattle.std.proofs.Common.{◌≡◌, ℕ, List, [], ◌∷◌, ◌++◌, length, Option, None, Bool, Result, Ok, Err}
use Rattle.std.proofs.Common.{true, false, refl, sym, ap, subst, ◌∙◌, append-nil, inl, inr}
use Rattle.std.specs.{Prelude.◌≢◌, Io.KnownBytes.Consumes, declared.io.Error.Error}
use Rattle.std.proofs.lemmas.List.{nil_from_length}
use Rattle.posting_rules.specs.{believed.Counter.Seen}
use Rattle.posting_core.specs.Stream.{given}
use Rattle.posting_core.specs.believed.{EndCalls.EndsWith, EndCalls.GrowsBy, EndCalls.ReadCall}
use Rattle.posting_core.specs.EndCalls.{Beside, WriteCall, read_call}
use Rattle.posting_core.proofs.ReadsFollowed.{gave_none, gave_some}
use Rattle.posting_core.proofs.Telling.{adds-more}
use Rattle.counter_http.specs.Connections.{Known, known_ends}
use Rattle.counter_http.specs.Next.{IsUnfinished}
use Rattle.counter_http.specs.together.Order.{Step, of_client}
use Rattle.counter_http.specs.together.Reading.{Lost, MakesRead, Reads, ReadsEnd, ReadsLast, ReadsSome, Refused, SaysAtEnd, Silent}
use Rattle.counter_http.specs.together.Standing.{HasEndedWith, IsGoing, IsSame, StandsHere, pending, unread}
use Rattle.counter_http.specs.believed.Answers.{Answer, answer_text, bare, refusal}
use Rattle.counter_http.specs.believed.Ends.{HasEnded}
use Rattle.counter_http.specs.believed.Serving.{IsWalked}
use Rattle.counter_http.specs.declared.client.Client.{Client}
use Rattle.counter_http.specs.declared.parting.Parting.{Parting}
use Rattle.counter_http.specs.declared.parting.Parting.TheVariants as parting
use Rattle.counter_http.proofs.Answering.{answered_refusal, parted_finished, parted_unread, read_going, waits_so}
use Rattle.counter_http.proofs.ConnectionLoop.{unfinished_none}
use Rattle.counter_http.proofs.Fronts.{ends_by, going_here, going_of, parted_here}
use Rattle.counter_http.proofs.Stood.{left_as, lost_as}
use Rattle.counter_http.proofs.Walking.{walks_end}

-- what is known of its ends after a read
abbrev pub after_read : {R W : Type 0} {known : R × W → Known} {old new : Client R W} {answer : Result ℕ Error}
    {bytes : List ℕ}
    → MakesRead known old new answer bytes → Known
after_read {known = known} {old} made =
    record (known (old.reader, old.writer)) { reader = made.reader; reads = made.reads; beside = made.beside }

-- as the read was made
before_read : {R W : Type 0} {known : R × W → Known} {k : Known} {steps : List Step} {old new : Client R W}
    {answer : Result ℕ Error} {bytes : List ℕ} → MakesRead known old new answer bytes
    → StandsHere known k steps old
    → IsGoing old.number k (known (old.reader, old.writer)) steps false old.shows_body (unread old) []
before_read {known = known} {k} {steps} {old} made stands =
    let l = known (old.reader, old.writer) in
    subst (λ (x : List ℕ). IsGoing old.number k l steps false old.shows_body (unread old) x) made.written
    (subst (λ (b : Bool). IsGoing old.number k l steps b old.shows_body (unread old) (pending old)) made.waited
    (going_of old made.going stands))

with_read : {R W : Type 0} {known : R × W → Known} {k : Known} {steps : List Step} {old new : Client R W}
    {answer : Result ℕ Error} {bytes : List ℕ} (made : MakesRead known old new answer bytes)
    → StandsHere known k steps old
    → IsGoing old.number k (after_read made) steps true old.shows_body (unread old ++ bytes) []
with_read {known = known} {old = old} {answer = answer} {bytes} made stands =
    read_going (unread old ++ bytes) answer made.reader made.reads made.beside (before_read made stands)
    (record { bytes = bytes; got = made.got; all_is = refl; long = made.long }) made.tells made.sink

-- a read that gave nothing
with_none : {R W : Type 0} {known : R × W → Known} {k : Known} {steps : List Step} {old new : Client R W}
    {answer : Result ℕ Error} (made : MakesRead known old new answer []) → StandsHere known k steps old
    → IsGoing old.number k (after_read made) steps true old.shows_body (unread old) []
with_none {old = old} made stands = waits_so (append-nil (unread old)) (λ e. cc e) (with_read made stands)

last_read : {R W : Type 0} {known : R × W → Known} {k : Known} {steps : List Step} {old new : Client R W}
    {answer : Result ℕ Error} {bytes : List ℕ} (P : ReadCall → Type 0) (made : MakesRead known old new answer bytes)
    → StandsHere known k steps old → P (read_call answer) → EndsWith P k.reads made.reads
last_read {known = known} {k} {old = old} {answer = answer} P made stands is =
    let before = (before_read made stands).prompt in
    record {
      earlier = before.reads;
      last = read_call answer;
      made = adds-more k.reads (known (old.reader, old.writer)).reads made.reads before.reads (read_call answer ∷ [])
          before.made made.tells;
      is = is;
    }

-- bytes came, or none for now
some_here : {R W : Type 0} {known : R × W → Known} {k : Known} {steps : List Step} (old new : Client R W)
    → ReadsSome known old new → StandsHere known k steps old → StandsHere known k steps new
some_here old new some stands =
    let waits : new.has_more ≡ false → IsUnfinished (unread old ++ some.bytes) old.shows_body =
    λ e. subst (λ (x : List ℕ). IsUnfinished x old.shows_body)
    (sym (ap (λ (x : List ℕ). unread old ++ x) (some.more e) ∙ append-nil (unread old)))
    ((before_read some.made stands).waits refl) in
    going_here new some.made.number some.goes_on some.made.ends refl some.shows some.added some.none
    (waits_so refl waits (with_read some.made stands))

-- the input ended
ended_here : {R W : Type 0} {known : R × W → Known} {k : Known} {steps : List Step} (old new : Client R W)
    (end : ReadsEnd known old new) → HasEnded end.made.reader k.reads end.made.reads → SaysAtEnd old new
    → StandsHere known k steps old → StandsHere known k steps new
ended_here old new end ended (Silent empty none why) stands =
    parted_here new parting.Served end.made.number why end.made.ends none
    (parted_finished (with_none end.made stands) ended empty)
ended_here {steps = steps} old new end ended (Refused some text why) stands =
    let g = with_none end.made stands in
    let waits = (before_read end.made stands).waits refl in
    let own = of_client old.number steps in
    let walked : IsWalked (HasEnded end.made.reader _ end.made.reads) own [] (unread old) (refusal old.shows_body ∷ []) =
    record {
      ending = waits.ending;
      walks = walks_end own (unread old) waits.ending g.stays (waits.ends some);
      last_is = sym waits.answer;
      ended = inl ended;
      none_refused = refl;
    } in
    parted_here new parting.Served end.made.number why end.made.ends text (answered_refusal old.shows_body g walked)
ended_here old new end ended (Lost none why) stands =
    parted_here new parting.Memory end.made.number why end.made.ends none
    (lost_as parting.Memory tt (left_as None (record { is = with_none end.made stands })) tt)

-- the reader failed
unread_here : {R W : Type 0} {known : R × W → Known} {k : Known} {steps : List Step} (old new : Client R W)
    → ReadsLast known old new → StandsHere known k steps old → StandsHere known k steps new
unread_here old new last stands =
    parted_here new parting.Read last.made.number last.parting last.made.ends last.none
    (parted_unread (with_none last.made stands)
    (unfinished_none (unread old) ((before_read last.made stands).waits refl)) (last_read _ last.made stands last.failed))

pub read_here : {R W : Type 0} {known : R × W → Known} {k : Known} {steps : List Step} (old new : Client R W)
    → Reads known old new → StandsHere known k steps old → StandsHere known k steps new
read_here {known = known} {k} {steps} old new (inl same) stands =
    subst (λ (x : Client _ _). StandsHere known k steps x) (sym same) stands
read_here old new (inr (inl some)) stands = some_here old new some stands
read_here old new (inr (inr (inl end))) stands =
    ended_here old new end (record { none = end.none; read = last_read _ end.made stands end.end }) end.says stands
read_here old new (inr (inr (inr last))) stands = unread_here old new last stands

pub number_read : {R W : Type 0} {known : R × W → Known} (old new : Client R W) → Reads known old new
    → new.number ≡ old.number
number_read old new (inl same) = ap (λ (x : Client _ _). x.number) same
number_read old new (inr (inl some)) = some.made.number
number_read old new (inr (inr (inl end))) = end.made.number
number_read old new (inr (inr (inr last))) = last.made.number

-- ---- what a read did

abbrev pub made_read : {R W : Type 0} (remaining : R → Option (List ℕ)) (calls : R → Option (List ReadCall))
    (beside : R → Option (List Beside)) (contents : W → Option (List ℕ)) (writes : W → Option (List WriteCall))
    (old new : Client R W) (reader : R) (result : Result ℕ Error) (bytes : List ℕ) → old.parting ≡ None
    → old.has_more ≡ false → pending old ≡ [] → new.number ≡ old.number → new.reader ≡ reader → new.writer ≡ old.writer
    → Consumes (remaining old.reader) (remaining reader) bytes → given (read_call result ∷ []) ≡ length bytes
    → GrowsBy (calls old.reader) (calls reader) (read_call result ∷ [])
    → GrowsBy (beside old.reader) (beside reader)
    (record { contents = contents old.writer; calls = writes old.writer } ∷ [])
    → MakesRead (known_ends remaining calls beside contents writes) old new result bytes
made_read remaining calls beside contents writes old new reader result bytes going waited written number is same got
    long tells sink =
    record {
      going = going;
      waited = waited;
      written = written;
      number = number;
      reader = remaining reader;
      reads = calls reader;
      beside = beside reader;
      ends = ends_by (known_ends remaining calls beside contents writes) is same;
      got = got;
      tells = tells;
      sink = sink;
      long = long;
    }

-- no byte came
none_given : (r r' : Option (List ℕ)) (result : Result ℕ Error) (bytes : List ℕ)
    → given (read_call result ∷ []) ≡ 0 → given (read_call result ∷ []) ≡ length bytes → Consumes r r' bytes
    → Consumes r r' [] × (given (read_call result ∷ []) ≡ 0)
none_given r r' result bytes gave long got =
    (subst (λ (x : List ℕ). Consumes r r' x) (nil_from_length bytes (sym long ∙ gave)) got, gave)

pub none_came : (r r' : Option (List ℕ)) (result : Result ℕ Error) (n : ℕ) (bytes : List ℕ) → result ≡ Ok n → n ≡ 0
    → given (read_call result ∷ []) ≡ length bytes → Consumes r r' bytes
    → Consumes r r' [] × (given (read_call result ∷ []) ≡ 0)
none_came r r' result n bytes is none long got = none_given r r' result bytes (gave_some result n is ∙ none) long got

pub none_failed : (r r' : Option (List ℕ)) (result : Result ℕ Error) (e : Error) (bytes : List ℕ) → result ≡ Err e
    → given (read_call result ∷ []) ≡ length bytes → Consumes r r' bytes
    → Consumes r r' [] × (given (read_call result ∷ []) ≡ 0)
none_failed r r' result e bytes is long got = none_given r r' result bytes (gave_none result e is) long got

-- the end of the input is answered
pub says_at_end : {R W : Type 0} (old mid new : Client R W) (answer : Answer) → answer ≡ bare 400 → unread old ≢ []
    → pending mid ≡ [] → HasEndedWith mid new (answer_text answer old.shows_body true) parting.Served
    → SaysAtEnd old new
says_at_end old mid new answer is some none (inl so) =
    Refused some (so.added ∙ ap (λ (x : List ℕ). x ++ answer_text answer old.shows_body true) none
    ∙ ap (λ (a : Answer). answer_text a old.shows_body true) is) so.parting
says_at_end old mid new answer is some none (inr lost) = Lost lost.none lost.parting

pub same_ended : {R W : Type 0} {text : List ℕ} {p : Parting} (old new : Client R W) → HasEndedWith old new text p
    → IsSame old new
same_ended old new (inl so) = so.same
same_ended old new (inr lost) = record { number = lost.number; reader = lost.reader; writer = lost.writer }
