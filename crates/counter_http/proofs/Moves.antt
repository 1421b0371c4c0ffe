-- What could be done for clients in a round was done.
use Rattle.std.proofs.Common.{◌≡◌, ℕ, ◌+◌, ◌<◌, ◌≤◌, List, [], ◌∷◌, ◌++◌, length, drop, None, Option, Some, Result, Ok, Err}
use Rattle.std.proofs.Common.{refl, sym, ap, subst, ◌∙◌, arith, inl, inr}
use Rattle.std.specs.Prelude.{◌⊎◌, Contains, IfOk}
use Rattle.std.specs.List.{slice_get}
use Rattle.std.proofs.lemmas.List.{length-append, map-append}
use Rattle.std.proofs.lemmas.List.Elements.{Contains-append_left, Contains-append_right}
use Rattle.std.proofs.lemmas.Option.{slice_get_within}
use Rattle.posting_rules.specs.declared.fault.Fault.{Fault}
use Rattle.posting_rules.specs.declared.fault.Fault.TheVariants as fault
use Rattle.httparse.specs.Grammar.{print_request}
use Rattle.posting_rules.specs.declared.limits.TheConstants.{RECORDS_PER_BATCH}
use Rattle.counter_http.specs.together.Faring.{AllFare, HasNoMore}
use Rattle.counter_http.specs.together.Order.{FillsRound, Step, client_of, clients_of}
use Rattle.counter_http.specs.together.Rounds.{AllMoveOn, numbers}
use Rattle.counter_http.specs.together.Standing.{HasAnswered, HasEndedWith, HasMuch, IsHeadOf, IsToldOf, LooksDone, MovesOn}
use Rattle.counter_http.specs.together.Standing.{ReadsAnswer, Rests, SaysSo, unread}
use Rattle.counter_http.specs.together.Submitting.{AddsIfRoom, AllGo, Goes, IsAmong, IsBatchOf, IsFull, IsIn, LooksAt, LooksOver}
use Rattle.counter_http.specs.together.Submitting.{MayAdd}
use Rattle.counter_http.specs.Asking.{said_in}
use Rattle.counter_http.specs.believed.Answers.{Answer}
use Rattle.counter_http.specs.believed.Messages.{IsMessage, Message, message_text}
use Rattle.counter_http.specs.declared.answers.Reading.{Reading}
use Rattle.counter_http.specs.declared.batch.Batch.{Batch}
use Rattle.counter_http.specs.declared.batch.Sender.{Sender}
use Rattle.counter_http.specs.declared.client.Client.{Client}
use Rattle.counter_http.specs.declared.client.Front.{Front}
use Rattle.counter_http.specs.declared.client.Front.TheVariants as front
use Rattle.counter_http.specs.declared.client.Head.{Head}
use Rattle.counter_http.specs.declared.client.Record.{Record}
use Rattle.counter_http.specs.declared.parting.Parting.{Parting}
use Rattle.counter_http.specs.declared.parting.Parting.TheVariants as parting
use Rattle.counter_http.proofs.Gathering.{given_long}
use Rattle.counter_http.proofs.Placed.{at_other, at_same, found_too, number_kept, same_or_not, some_is}
use Rattle.counter_http.proofs.Walking.{head_some}

-- ---- the front of one

text_some : (m : Message) → IsMessage m → 0 < length (message_text m)
text_some m whole = omega (arith, head_some m.head whole.head.head, length-append (print_request m.head) m.body)

pub fewer : {R W : Type 0} (old new : Client R W) (m : Message) (head : Head) (text : List ℕ) → IsHeadOf head (unread old) m
    → HasAnswered old new text head → length (unread new) < length (unread old)
fewer old new m head text is did =
    let all : length (unread old) ≡ length (message_text m ++ drop head.length (unread old)) = ap length is.front in
    let left : length (unread new) ≡ length (drop head.length (unread old)) = ap length did.rest in
    omega (
      arith,
      all,
      left,
      is.long,
      text_some m is.whole,
      length-append (message_text m) (drop head.length (unread old)),
    )

pub said_so : {R W : Type 0} (old new : Client R W) (m : Message) (answer : Answer) (head : Head) (done : Front)
    → IsHeadOf head (unread old) m → SaysSo old new answer head done → LooksDone old new done
said_so old new m answer head front.Answered is did = fewer old new m head _ is did
said_so old new m answer head front.Nothing is lost = inr (inr (parting.Memory, lost.parting))
said_so old new m answer head (front.Record r) is did = absurd did

pub ended_so : {R W : Type 0} (old new : Client R W) {text : List ℕ} (p : Parting) → HasEndedWith old new text p → Rests new
ended_so old new p (inl ended) = inr (inr (p, ended.parting))
ended_so old new p (inr lost) = inr (inr (parting.Memory, lost.parting))

told_so : {R W : Type 0} (old new : Client R W) (why : Fault) (result : Result Front Fault) → IsToldOf why result → Rests new
    → IfOk result (LooksDone old new)
told_so old new fault.Memory result is rests =
    subst (λ (r : Result Front Fault). IfOk r (LooksDone old new)) (sym is) rests
told_so old new fault.Store result is rests =
    subst (λ (r : Result Front Fault). IfOk r (LooksDone old new)) (sym is) tt
told_so old new fault.Down result is rests =
    subst (λ (r : Result Front Fault). IfOk r (LooksDone old new)) (sym is) tt
told_so old new (fault.Damaged rule) result is rests =
    subst (λ (r : Result Front Fault). IfOk r (LooksDone old new)) (sym is) tt

pub read_so : {R W : Type 0} (old new : Client R W) (m : Message) (read : Result Reading Fault) (head : Head)
    (result : Result Front Fault) → IsHeadOf head (unread old) m → ReadsAnswer old new read head result
    → IfOk result (LooksDone old new)
read_so old new m (Ok reading) head result is did =
    subst (λ (r : Result Front Fault). IfOk r (LooksDone old new)) (sym did.1)
    (said_so old new m (said_in reading) head did.0 is did.2)
read_so old new m (Err why) head result is did =
    told_so old new why result did.1 (ended_so old new (parting.Bank why) did.0)

-- ---- what the batch holds

among_left : (ss ts : List Sender) (p : ℕ) → IsAmong ss p → IsAmong (ss ++ ts) p
among_left [] ts p is = absurd is
among_left (s ∷ ss) ts p (inl here) = inl here
among_left (s ∷ ss) ts p (inr more) = inr (among_left ss ts p more)

among_last : (ss : List Sender) (s : Sender) → IsAmong (ss ++ s ∷ []) s.place
among_last [] s = inl refl
among_last (t ∷ ss) s = inr (among_last ss s)

pub in_batch : {R W : Type 0} (here : List (Client R W)) (old new : Batch) (place : ℕ) (r : Record) → IsBatchOf here old
    → AddsIfRoom old new place r → IsIn place new
in_batch here old new place r b (inl added) =
    inl (subst (λ (ss : List Sender). IsAmong ss place) (sym added.senders)
    (among_last old.senders.items (record { place = place; head = r.head })))
in_batch here old new place r b (inr (full, same)) = subst (λ (x : Batch). IsIn place x) (sym same) (inr (many full))
  where
    many : IsFull old → RECORDS_PER_BATCH ≤ length old.records.items
    many (inl n) = omega (arith, n)
    many (inr n) = omega (arith, n, given_long here old.senders.items old.records.items b.given)

in_more : (old new : Batch) (place p : ℕ) → MayAdd old new place → IsIn p old → IsIn p new
in_more old new place p (inl (r, added)) (inl among) =
    inl (subst (λ (ss : List Sender). IsAmong ss p) (sym added.senders)
    (among_left old.senders.items (record { place = place; head = r.head } ∷ []) p among))
in_more old new place p (inl (r, added)) (inr many) =
    let more : length new.records.items ≡ length (old.records.items ++ r.bytes ∷ []) = ap length added.records in
    inr (omega (arith, many, more, length-append old.records.items (r.bytes ∷ [])))
in_more old new place p (inr same) is = subst (λ (x : Batch). IsIn p x) (sym same) is

-- ---- one place after another

pub over_none : {R W : Type 0} (here : List (Client R W)) (from : ℕ) (batch : Batch) → LooksOver here here from from batch batch
over_none here from batch = record {
  others = λ p apart. refl;
  keeps = λ p is. is;
  moves = λ p x y above below at at'. absurd (omega (arith, above, below));
}

kept : {R W : Type 0} (x y : Client R W) (p : ℕ) (old new : Batch) → (IsIn p old → IsIn p new) → MovesOn x y ⊎ IsIn p old
    → MovesOn x y ⊎ IsIn p new
kept x y p old new keeps (inl moves) = inl moves
kept x y p old new keeps (inr is) = inr (keeps is)

before_or_at : (p place : ℕ) → p < place + 1 → (p < place) ⊎ (p ≡ place)
before_or_at p place below = elim (same_or_not p place) [
  | inl same ↦ inr same
  | inr other ↦ inl (omega (arith, below, other))
]

others_more : (from place p : ℕ) → (p < from) ⊎ (place + 1 ≤ p) → (p < from) ⊎ (place ≤ p)
others_more from place p (inl below) = inl below
others_more from place p (inr above) = inr (omega (arith, above))

not_at : (from place p : ℕ) → from ≤ place → (p < from) ⊎ (place + 1 ≤ p) → p ≡ place → ⊥
not_at from place p order (inl below) same = omega (arith, order, below, same)
not_at from place p order (inr above) same = omega (arith, above, same)

pub over_more : {R W : Type 0} (here mid here' : List (Client R W)) (from place : ℕ) (b0 old new : Batch) → from ≤ place
    → LooksOver here mid from place b0 old → LooksAt mid here' place new → MayAdd old new place
    → LooksOver here here' from (place + 1) b0 new
over_more {R} {W} here mid here' from place b0 old new order over one adds = record {
  others = λ p apart.
      ap (λ (cs : List (Client R W)). slice_get cs p) one.is
      ∙ at_other mid place p one.after (λ same. not_at from place p order apart same)
      ∙ over.others p (others_more from place p apart);
  keeps = λ p is. in_more old new place p adds (over.keeps p is);
  moves = λ p x y above below at at'. elim (before_or_at p place below) [
    | inl less ↦
        let there : slice_get mid p ≡ Some y =
        sym (ap (λ (cs : List (Client R W)). slice_get cs p) one.is
        ∙ at_other mid place p one.after (λ same. omega (arith, less, same))) ∙ at' in
        kept x y p old new (in_more old new place p adds) (over.moves p x y above less at there)
    | inr same ↦
        let x_is : one.before ≡ x =
        some_is one.before x (sym one.at ∙ over.others place (inr (omega arith))
        ∙ ap (λ (n : ℕ). slice_get here n) (sym same) ∙ at) in
        let y_is : one.after ≡ y =
        some_is one.after y (sym (at_same mid place one.before one.after one.at)
        ∙ ap (λ (cs : List (Client R W)). slice_get cs place) (sym one.is)
        ∙ ap (λ (n : ℕ). slice_get here' n) (sym same) ∙ at') in
        subst (λ (z : Client R W). MovesOn x z ⊎ IsIn p new) y_is
        (subst (λ (z : Client R W). MovesOn z one.after ⊎ IsIn p new) x_is
        (subst (λ (n : ℕ). MovesOn one.before one.after ⊎ IsIn n new) (sym same) one.moves))
  ];
}

-- ---- a round

own_first : (ss ts : List Step) (n : ℕ) → Contains (clients_of ss) n → Contains (clients_of (ss ++ ts)) n
own_first ss ts n own =
    subst (λ (ns : List ℕ). Contains ns n) (sym (map-append client_of ss ts))
    (Contains-append_left (clients_of ss) (clients_of ts) n own)

own_last : (ss ts : List Step) (n : ℕ) → Contains (clients_of ts) n → Contains (clients_of (ss ++ ts)) n
own_last ss ts n own =
    subst (λ (ns : List ℕ). Contains ns n) (sym (map-append client_of ss ts))
    (Contains-append_right (clients_of ss) (clients_of ts) n own)

-- what was done for one while messages that read were answered, and then records
module _ {R W : Type 0} (x y z : Client R W) (reads posts : List Step) (number : y.number ≡ x.number)
    (later : (z ≡ y) ⊎ (HasNoMore z ⊎ Contains (clients_of posts) y.number)) where
  posted : HasNoMore z ⊎ Contains (clients_of posts) y.number
      → HasNoMore z ⊎ (Contains (clients_of (reads ++ posts)) x.number ⊎ HasMuch x)
  posted (inl none) = inl none
  posted (inr own) =
      inr (inl (own_last reads posts x.number (subst (λ (n : ℕ). Contains (clients_of posts) n) number own)))

  no_more : HasNoMore y → HasNoMore z ⊎ (Contains (clients_of (reads ++ posts)) x.number ⊎ HasMuch x)
  no_more none = elim later [
    | inl same ↦ inl (subst (λ (c : Client R W). HasNoMore c) (sym same) none)
    | inr other ↦ posted other
  ]

  -- it was looked at
  pub went : MovesOn x y → (y ≡ x) ⊎ (HasNoMore y ⊎ Contains (clients_of reads) x.number)
      → HasNoMore z ⊎ (Contains (clients_of (reads ++ posts)) x.number ⊎ HasMuch x)
  went moves (inr (inr own)) = inr (inl (own_first reads posts x.number own))
  went moves (inr (inl none)) = no_more none
  went (inl (inl none)) (inl same) = no_more (inl none)
  went (inl (inr (inl much))) (inl same) = inr (inr (subst (λ (c : Client R W). HasMuch c) same much))
  went (inl (inr (inr parted))) (inl same) = no_more (inr parted)
  went (inr fewer) (inl same) = absurd (omega (arith, fewer, ap (λ (c : Client R W). length (unread c)) same))

  -- its record was submitted
  pub went_in : Goes y z → HasNoMore z ⊎ (Contains (clients_of (reads ++ posts)) x.number ⊎ HasMuch x)
  went_in (inl none) = inl none
  went_in (inr fewer) = elim later [
    | inl same ↦ absurd (omega (arith, fewer, ap (λ (c : Client R W). length (unread c)) same))
    | inr other ↦ posted other
  ]

pub all_move : {R W : Type 0} (late spared : Type 0) (here h1 h2 here' : List (Client R W)) (first count : ℕ)
    (b0 b1 b2 : Batch) (reads posts : List Step) {fault : Option Fault} {others refused : List Step} → length here ≤ count → numbers h2 ≡ numbers here
    → LooksOver here h1 first count b0 b1 → LooksOver h1 h2 0 first b1 b2 → AllFare None others reads here h2
    → AllFare fault refused posts h2 here' → AllGo h2 here' b2.senders.items ⊎ spared
    → (RECORDS_PER_BATCH ≤ length b2.records.items → late) → (spared → late) → AllMoveOn late here here' (reads ++ posts)
all_move {R} {W} late spared here h1 h2 here' first count b0 b1 b2 reads posts long numbers_same one two read_fare post_fare go
    full excused p x z at at' =
    let mids = found_too here h2 p x numbers_same at in
    let y = mids.0 in
    let number = number_kept here h2 p x y numbers_same at mids.1 in
    let later = (post_fare p y z mids.1 at').did in
    elim (looked_at y mids.1) [
      | inl moves ↦ wider (went x y z reads posts number later moves (read_fare p x y at mids.1).did)
      | inr (inl among) ↦ elim go [
        | inl each ↦ wider (went_in x y z reads posts number later (each p y z mids.1 at' among))
        | inr none ↦ inr (inr (inr (excused none)))
      ]
      | inr (inr many) ↦ inr (inr (inr (full many)))
    ]
  where
    below_or_not : (n m : ℕ) → (n < m) ⊎ (m ≤ n)
    below_or_not n m = grind arith

    looked_at : (y : Client R W) → slice_get h2 p ≡ Some y → MovesOn x y ⊎ IsIn p b2
    looked_at y there = elim (below_or_not p first) [
      | inl less ↦ two.moves p x y (omega arith) less (one.others p (inl less) ∙ at) there
      | inr more ↦
          kept x y p b1 b2 (two.keeps p)
          (one.moves p x y more (omega (arith, long, slice_get_within here p x at)) at
          (sym (two.others p (inr more)) ∙ there))
    ]

    wider : {P Q S T : Type 0} → P ⊎ (Q ⊎ S) → P ⊎ (Q ⊎ (S ⊎ T))
    wider (inl is) = inl is
    wider (inr (inl is)) = inr (inl is)
    wider (inr (inr is)) = inr (inr (inl is))

-- the batch was full, and all of it was in the call
pub fills_late : {spared : Type 0} (batch : Batch) (steps : List Step) → (length batch.records.items ≤ length steps) ⊎ spared
    → RECORDS_PER_BATCH ≤ length batch.records.items → FillsRound spared steps
fills_late batch steps (inl all) many = inl (omega (arith, all, many))
fills_late batch steps (inr none) many = inr none
