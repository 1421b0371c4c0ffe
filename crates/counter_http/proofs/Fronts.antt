-- What a function does to the fields of a client, and where the client stands then.
use Rattle.std.proofs.Common.{◌≡◌, ℕ, ◌<◌, List, [], ◌∷◌, ◌++◌, length, drop, Option, Some, None, Bool}
use Rattle.std.proofs.Common.{true, false, refl, sym, ap, subst, ◌∙◌, append-nil, arith, inl, inr}
use Rattle.std.proofs.Math.ListN.{length-take}
use Rattle.std.proofs.lemmas.List.{length-append}
use Rattle.message_records.specs.believed.Spelling.{reply_spelling}
use Rattle.posting_rules.specs.declared.fault.Fault.{Fault}
use Rattle.posting_rules.specs.{believed.Commands.Command, believed.Counter.Seen}
use Rattle.posting_rules.specs.believed.Entries.{reply}
use Rattle.counter_http.specs.Connections.{Known}
use Rattle.counter_http.specs.together.Standing.{AnswersRecord, HasAnswered, HasEndedWith, IsGoing, IsHeadOf, IsLost}
use Rattle.counter_http.specs.together.Standing.{IsParted, IsRecordIn, StandsAs, StandsBy, StandsHere, parting_after}
use Rattle.counter_http.specs.together.Standing.{pending, unread}
use Rattle.counter_http.specs.together.Serving.{PartingIsOfItsEnd}
use Rattle.counter_http.specs.believed.Answers.{Answer, answer_of, answer_text, asked_by, octets, shows}
use Rattle.counter_http.specs.believed.Answers.{bare}
use Rattle.counter_http.specs.declared.figures.Figures.{Figures}
use Rattle.counter_http.specs.believed.Messages.{Message, closes, message_text}
use Rattle.counter_http.specs.together.Order.{Step}
use Rattle.counter_http.specs.declared.client.Client.{Client}
use Rattle.counter_http.specs.declared.client.Head.{Head}
use Rattle.counter_http.specs.declared.parting.Parting.{Parting}
use Rattle.counter_http.specs.declared.parting.Parting.TheVariants as parting
use Rattle.counter_http.proofs.Answering.{answered_last, answered_on, answered_unavailable, step_of, step_told}
use Rattle.counter_http.proofs.AnsweredTurns.{posting_answer}
use Rattle.counter_http.proofs.Beside.{stands_beside}
use Rattle.counter_http.proofs.Stood.{IsLeft, IsLoss, left_as, lost_as}

-- ---- the fields of a client

pub parted_here : {R W : Type 0} {known : R × W → Known} {k : Known} {steps : List Step} {i : ℕ} {l : Known}
    {left : List ℕ} (new : Client R W) (p : Parting) → new.number ≡ i → new.parting ≡ Some p
    → known (new.reader, new.writer) ≡ l → pending new ≡ left → IsParted i k l steps left p
    → StandsHere known k steps new
parted_here {known = known} {k} {steps} {i} {l} new p number why ends none is =
    record {
      is = record {
        is = subst (λ (q : Option Parting). StandsBy q new.number k (known (new.reader, new.writer)) steps new.has_more new.shows_body (unread new) (pending new)) (sym why)
            (subst (λ (j : ℕ). IsParted j k (known (new.reader, new.writer)) steps (pending new) p) (sym number)
            (subst (λ (m : Known). IsParted i k m steps (pending new) p) (sym ends)
            (subst (λ (x : List ℕ). IsParted i k l steps x p) (sym none) is)));
      };
    }

pub going_here : {R W : Type 0} {known : R × W → Known} {k : Known} {steps : List Step} {i : ℕ} {l : Known}
    {has_more shown : Bool} {rest left : List ℕ} (new : Client R W) → new.number ≡ i → new.parting ≡ None
    → known (new.reader, new.writer) ≡ l → new.has_more ≡ has_more → new.shows_body ≡ shown → unread new ≡ rest
    → pending new ≡ left → IsGoing i k l steps has_more shown rest left → StandsHere known k steps new
going_here {known = known} {k} {steps} {i} {l} {has_more} {shown} {rest} {left} new number why ends more shows_is
    same none is =
    record {
      is = record {
        is = subst (λ (q : Option Parting). StandsBy q new.number k (known (new.reader, new.writer)) steps new.has_more new.shows_body (unread new) (pending new)) (sym why)
            (subst (λ (j : ℕ). IsGoing j k (known (new.reader, new.writer)) steps new.has_more new.shows_body
            (unread new) (pending new)) (sym number)
            (subst (λ (m : Known). IsGoing i k m steps new.has_more new.shows_body (unread new) (pending new)) (sym ends)
            (subst (λ (b : Bool). IsGoing i k l steps b new.shows_body (unread new) (pending new)) (sym more)
            (subst (λ (b : Bool). IsGoing i k l steps has_more b (unread new) (pending new)) (sym shows_is)
            (subst (λ (x : List ℕ). IsGoing i k l steps has_more shown x (pending new)) (sym same)
            (subst (λ (x : List ℕ). IsGoing i k l steps has_more shown rest x) (sym none) is))))));
      };
    }

pub going_of : {R W : Type 0} {known : R × W → Known} {k : Known} {steps : List Step} (old : Client R W)
    → old.parting ≡ None → StandsHere known k steps old
    → IsGoing old.number k (known (old.reader, old.writer)) steps old.has_more old.shows_body (unread old)
    (pending old)
going_of {known = known} {k} {steps} old why is =
    subst (λ (q : Option Parting). StandsBy q old.number k (known (old.reader, old.writer)) steps old.has_more
    old.shows_body (unread old) (pending old)) why is.is.is

pub ends_by : {R W : Type 0} (known : R × W → Known) {r r' : R} {w w' : W} → r' ≡ r → w' ≡ w
    → known (r', w') ≡ known (r, w)
ends_by {R} {W} known {r} {r'} {w} {w'} reader writer =
    ap (λ (x : R). known (x, w')) reader ∙ ap (λ (x : W). known (r, x)) writer

-- ---- it is lost

pub lost_here : {R W : Type 0} {known : R × W → Known} {k : Known} {steps : List Step} (old new : Client R W)
    (p : Parting) → IsLoss p → IsLost old new p
    → PartingIsOfItsEnd p k.reads (known (old.reader, old.writer)).reads k.writes (known (old.reader, old.writer)).writes
    → IsLeft old.number k (known (old.reader, old.writer)) steps → StandsHere known k steps new
lost_here {known = known} old new p loss lost ends is =
    parted_here new p lost.number lost.parting (ends_by known lost.reader lost.writer) lost.none (lost_as p loss is ends)

pub gone_here : {R W : Type 0} {known : R × W → Known} {k : Known} {steps : List Step} (old new : Client R W)
    → IsLost old new parting.Memory → StandsHere known k steps old → StandsHere known k steps new
gone_here old new lost is = lost_here old new parting.Memory tt lost tt (left_as old.parting is.is)

-- ---- its message is answered

-- after which it goes on, or not
answered_as : {i : ℕ} {k l : Known} {steps : List Step} {has_more shown : Bool}
    {buf left : List ℕ} (ends : Bool) (figures : Option Figures) (moment : ℕ) (m : Message) (head : Head)
    (text : List ℕ) → IsHeadOf head buf m
    → head.closes ≡ ends → (more : Bool) → (more ≡ false → drop head.length buf ≡ [])
    → IsGoing i k l steps has_more shown buf left
    → StandsAs (parting_after ends None) i k l (steps ++ step_told figures i moment m text ∷ []) more shown
    (drop head.length buf) (left ++ text)
answered_as {buf = buf} true figures moment m head text is e more none g =
    record {
      is = answered_last figures moment m (drop head.length buf) text is.whole
          (sym is.closes_is ∙ e) is.front g;
    }
answered_as {buf = buf} false figures moment m head text is e more none g = record {
  is = answered_on figures moment m (drop head.length buf) text is.whole
      (sym is.closes_is ∙ e) is.front more none g;
}

shows_then : {i : ℕ} {k l : Known} {steps : List Step} {has_more : Bool} {rest left : List ℕ}
    (p : Option Parting) (shown shown' : Bool) → shown' ≡ shown
    → StandsAs p i k l steps has_more shown rest left → StandsAs p i k l steps has_more shown' rest left
shows_then {i} {k} {l} {steps} {has_more} {rest} {left} p shown shown' e is =
    subst (λ (b : Bool). StandsAs p i k l steps has_more b rest left) (sym e) is

pub answered_here : {R W : Type 0} {known : R × W → Known} {k : Known} {steps : List Step}
    (old new : Client R W) (figures : Option Figures) (moment : ℕ) (m : Message) (head : Head) (text : List ℕ)
    → old.parting ≡ None
    → IsHeadOf head (unread old) m → HasAnswered old new text head → StandsHere known k steps old
    → StandsHere known k (steps ++ step_told figures old.number moment m text ∷ []) new
answered_here {R} {W} {known} {k}
    {steps} old new figures moment m head text going is did stands =
    let l = known (old.reader, old.writer) in
    let next = steps ++ step_told figures old.number moment m text ∷ [] in
    let after : StandsAs (parting_after head.closes None) old.number k l next new.has_more old.shows_body
    (drop head.length (unread old)) (pending old ++ text) =
    answered_as head.closes figures moment m head text is refl new.has_more (λ e. sym did.rest ∙ did.more e)
    (going_of old going stands) in
    let kept = shows_then (parting_after head.closes None) old.shows_body new.shows_body did.shows after in
    let why : new.parting ≡ parting_after head.closes None =
    did.parting ∙ ap (parting_after head.closes) going in
    record {
      is = subst (λ (q : Option Parting). StandsAs q new.number k (known (new.reader, new.writer)) next
          new.has_more new.shows_body (unread new) (pending new)) (sym why)
          (subst (λ (j : ℕ). StandsAs (parting_after head.closes None) j k (known (new.reader, new.writer)) next
          new.has_more new.shows_body (unread new) (pending new)) (sym did.same.number)
          (subst (λ (n : Known). StandsAs (parting_after head.closes None) old.number k n next
          new.has_more new.shows_body (unread new) (pending new)) (sym (ends_by known did.same.reader did.same.writer))
          (subst (λ (x : List ℕ). StandsAs (parting_after head.closes None) old.number k l next
          new.has_more new.shows_body x (pending new)) (sym did.rest)
          (subst (λ (x : List ℕ). StandsAs (parting_after head.closes None) old.number k l next
          new.has_more new.shows_body (drop head.length (unread old)) x) (sym did.added) kept))));
    }

-- memory was refused for the answer to a record that the bank took
pub unanswered_here : {R W : Type 0} {known : R × W → Known} {k : Known} {steps : List Step}
    (old new : Client R W) (moment : ℕ) (m : Message) (head : Head) (text : List ℕ) → old.parting ≡ None
    → IsHeadOf head (unread old) m → IsLost old new parting.Memory
    → StandsHere known k steps old
    → StandsHere known k (steps ++ step_of old.number moment m text ∷ []) new
unanswered_here {R} {W} {known} {k} {steps} old new moment m head text going is lost stands =
    lost_here old new parting.Memory tt lost tt
    (left_as (parting_after head.closes None)
    (answered_as head.closes None moment m head text is refl true (λ e. cc e) (going_of old going stands)))

-- ---- a record

-- how it is answered
abbrev pub record_answer : Head → List ℕ → List ℕ
record_answer head reply = answer_text (octets reply) head.shows_body head.closes

-- whatever its reply is
pub record_due : {buf bytes : List ℕ} (head : Head) (is : IsRecordIn buf bytes head) (text said : List ℕ) → text ≡ said
    → record_answer head text
    ≡ answer_text (octets said) (shows (asked_by is.message)) (asked_by is.message).closes
record_due head is text said e =
    ap (λ (b : Bool). answer_text (octets text) b head.closes) is.is.shows_is
    ∙ ap (λ (b : Bool). answer_text (octets text) (shows (asked_by is.message)) b) is.is.closes_is
    ∙ ap (λ (x : List ℕ). answer_text (octets x) (shows (asked_by is.message)) (asked_by is.message).closes) e

pub record_text : (log : List Command) {buf bytes : List ℕ} (head : Head) (is : IsRecordIn buf bytes head)
    (text : List ℕ) → text ≡ reply_spelling (reply log bytes)
    → answer_text (octets text) head.shows_body head.closes ≡ answer_of log (asked_by is.message)
record_text log head is text e =
    record_due head is text _ (e ∙ ap (λ (b : List ℕ). reply_spelling (reply log b)) is.body)
    ∙ ap (λ (a : Answer). answer_text a (shows (asked_by is.message)) (closes is.message.head))
    (sym (posting_answer log (asked_by is.message) is.posting))

pub too_short : {R W : Type 0} (old : Client R W) (m : Message) (head : Head) → IsHeadOf head (unread old) m
    → old.filled < head.length → ⊥
too_short old m head is short =
    let len = ap length is.front in
    omega (
      arith,
      len,
      is.long,
      short,
      length-append (message_text m) (drop head.length (unread old)),
      length-take old.filled old.input.items,
    )

pub number_of_record : {R W : Type 0} (old new : Client R W) (head : Head) (text bytes : List ℕ)
    → IsRecordIn (unread old) bytes head → AnswersRecord old new head text → new.number ≡ old.number
number_of_record old new head text bytes is (inl did) = did.same.number
number_of_record old new head text bytes is (inr (inl lost)) = lost.number
number_of_record old new head text bytes is (inr (inr short)) = absurd (too_short old is.message head is.is short)

pub record_step : {R W : Type 0} {known : R × W → Known} {k : Known} {steps : List Step}
    (old new : Client R W) (moment : ℕ) (head : Head) (text bytes : List ℕ) → old.parting ≡ None
    → (is : IsRecordIn (unread old) bytes head)
    → AnswersRecord old new head text → StandsHere known k steps old
    → StandsHere known k (steps ++ step_of old.number moment is.message (record_answer head text) ∷ []) new
record_step old new moment head text bytes going is (inl did) stands =
    answered_here old new None moment is.message head (record_answer head text) going is.is did stands
record_step old new moment head text bytes going is (inr (inl lost)) stands =
    unanswered_here old new moment is.message head (record_answer head text) going is.is lost stands
record_step old new moment head text bytes going is (inr (inr short)) stands =
    absurd (too_short old is.message head is.is short)

-- ---- a 503

pub number_ended : {R W : Type 0} {text : List ℕ} {p : Parting} (old new : Client R W) → HasEndedWith old new text p
    → new.number ≡ old.number
number_ended old new (inl ended) = ended.same.number
number_ended old new (inr lost) = lost.number

pub refused_here : {R W : Type 0} {known : R × W → Known} {k : Known} {steps : List Step}
    (old new : Client R W) (m : Message) (head : Head) (why : Fault) → old.parting ≡ None
    → IsHeadOf head (unread old) m
    → HasEndedWith old new (answer_text (bare 503) head.shows_body true) (parting.Bank why) → StandsHere known k steps old → StandsHere known k steps new
refused_here {known = known} {k} {steps} old new m head why going is (inl ended) stands =
    parted_here new (parting.Bank why) ended.same.number ended.parting
    (ends_by known ended.same.reader ended.same.writer)
    (ended.added ∙ ap (λ (b : Bool). pending old ++ answer_text (bare 503) b true) is.shows_is)
    (answered_unavailable why 0 m (drop head.length (unread old)) is.whole is.front (going_of old going stands)).parted
refused_here {known = known} {k} {steps} old new m head why going is (inr lost) stands =
    gone_here old new lost stands
