-- The records of a batch, and messages that are answered while they are gathered.
use Rattle.std.proofs.Common.{◌≡◌, ℕ, zero, suc, ◌+◌, ◌<◌, ◌≤◌, List, [], ◌∷◌, ◌++◌, length, drop, get_or, slice_set}
use Rattle.std.proofs.Common.{None, Some, Result, Ok, Err, refl, sym, ap, subst, ◌∙◌, append_assoc, arith, inl, inr, add-one}
use Rattle.std.proofs.{Math.Seq.drop-cons, lemmas.Option.slice_get_within}
use Rattle.std.specs.{Prelude.◌⊎◌, Prelude.Contains, List.AllByRecursion, List.slice_get}
use Rattle.posting_rules.specs.declared.fault.Fault.{Fault}
use Rattle.posting_rules.specs.believed.{Commands.Command, Counter.Seen, Counter.Takes}
use Rattle.posting_rules.proofs.Totals.{all_follow}
use Rattle.posting_core.proofs.StreamedBatches.{all_more}
use Rattle.counter_http.specs.Connections.{Known}
use Rattle.counter_http.specs.together.Order.{Step, is_read_under, submitted_by}
use Rattle.counter_http.specs.declared.figures.Figures.{Figures}
use Rattle.counter_http.specs.together.Rounds.{AllDiffer, IsOfOneOf, fault_in, numbers}
use Rattle.counter_http.specs.together.Standing.{AreRefused, GivesRecord, IsAnswered, StandsHere, StandsRefused}
use Rattle.counter_http.specs.together.Submitting.{AddsIfRoom, AreApart, AreBeside, AreGiven, Gathers, GivesAt, IsAdded, IsBatchOf, IsElsewhere, IsFrom}
use Rattle.counter_http.specs.together.Submitting.{MayAdd}
use Rattle.counter_http.specs.declared.batch.Batch.{Batch}
use Rattle.counter_http.specs.declared.batch.Sender.{Sender}
use Rattle.counter_http.specs.declared.client.Client.{Client}
use Rattle.counter_http.specs.declared.client.Record.{Record}
use Rattle.counter_http.proofs.AnsweredTurns.{idle_commands}
use Rattle.counter_http.proofs.Asked.{asked_as, asked_err, asked_none, asked_then, due_reads, reads_submit_none}
use Rattle.counter_http.specs.believed.Answers.{asked_by}
use Rattle.counter_http.proofs.Fared.{all_at, all_same, all_then}
use Rattle.counter_http.proofs.Placed.{at_other, at_same, beside_none, beside_one, beside_then, found_too, numbers_apart}
use Rattle.counter_http.proofs.Placed.{one_of_these, same_or_not, some_is}

-- ---- records that are given

pub given_long : {R W : Type 0} (here : List (Client R W)) (ss : List Sender) (rs : List (List ℕ))
    → AreGiven here ss rs → length ss ≡ length rs
given_long here [] [] g = refl
given_long here [] (r ∷ rs) g = absurd g
given_long here (s ∷ ss) [] g = absurd g
given_long here (s ∷ ss) (r ∷ rs) g = ap suc (given_long here ss rs g.1)

pub given_within : {R W : Type 0} (here : List (Client R W)) (ss : List Sender) (rs : List (List ℕ)) (i : ℕ)
    (d : Sender) → AreGiven here ss rs → i < length ss → (get_or ss i d).place < length here
given_within here [] rs i d g below = absurd (omega (arith, below))
given_within here (s ∷ ss) [] i d g below = absurd g
given_within here (s ∷ ss) (r ∷ rs) zero d g below = slice_get_within here s.place g.0.client g.0.at
given_within here (s ∷ ss) (r ∷ rs) (suc i) d g below =
    given_within here ss rs i d g.1 (omega (arith, below))

-- those of clients at other places still are
abbrev pub given_still : {R W : Type 0} (here one : List (Client R W)) (p : ℕ) (client : Client R W)
    (ss : List Sender) (rs : List (List ℕ)) → one ≡ slice_set here p client → AreGiven here ss rs
    → AllByRecursion (IsElsewhere p) ss → AreGiven one ss rs
given_still here one p client [] [] e g all = tt
given_still here one p client [] (r ∷ rs) e g all = g
given_still here one p client (s ∷ ss) [] e g all = g
given_still {R} {W} here one p client (s ∷ ss) (r ∷ rs) e g all = (
  record {
    client = g.0.client;
    at = ap (λ (cs : List (Client R W)). slice_get cs s.place) e ∙ at_other here p s.place client all.0 ∙ g.0.at;
    gives = g.0.gives;
  },
  given_still here one p client ss rs e g.1 all.1,
)

given_added : {R W : Type 0} (here : List (Client R W)) (ss : List Sender) (rs : List (List ℕ)) (s : Sender)
    (r : List ℕ) → AreGiven here ss rs → GivesAt here s r → AreGiven here (ss ++ s ∷ []) (rs ++ r ∷ [])
given_added here [] [] s r g x = (x, tt)
given_added here [] (q ∷ rs) s r g x = absurd g
given_added here (t ∷ ss) [] s r g x = absurd g
given_added here (t ∷ ss) (q ∷ rs) s r g x = (g.0, given_added here ss rs s r g.1 x)

apart_added : (ss : List Sender) (s : Sender) → AreApart ss → AllByRecursion (IsElsewhere s.place) ss
    → AreApart (ss ++ s ∷ [])
apart_added [] s a all = (tt, tt)
apart_added (t ∷ ss) s a all =
    (all_more (IsElsewhere t.place) ss (s ∷ []) a.0 ((λ e. all.0 (sym e)), tt), apart_added ss s a.1 all.1)

-- the one at a place, before those after it
pub given_front : {R W : Type 0} (here : List (Client R W)) (ss : List Sender) (rs : List (List ℕ)) (i : ℕ)
    (s : Sender) (r : List ℕ) → i < length ss → i < length rs → AreGiven here (drop i ss) (drop i rs)
    → AreGiven here (get_or ss i s ∷ drop (i + 1) ss) (get_or rs i r ∷ drop (i + 1) rs)
given_front here ss rs i s r below under g =
    rw add-one
    (subst (λ (x : List Sender). AreGiven here x (get_or rs i r ∷ drop (suc i) rs)) (drop-cons ss i s below)
    (subst (λ (x : List (List ℕ)). AreGiven here (drop i ss) x) (drop-cons rs i r under) g))

pub apart_front : (ss : List Sender) (i : ℕ) (s : Sender) → i < length ss → AreApart (drop i ss)
    → AreApart (get_or ss i s ∷ drop (i + 1) ss)
apart_front ss i s below a = rw add-one (subst (λ (x : List Sender). AreApart x) (drop-cons ss i s below) a)

pub batch_still : {R W : Type 0} (here one : List (Client R W)) (p : ℕ) (client : Client R W) (batch : Batch)
    → one ≡ slice_set here p client → IsBatchOf here batch → AllByRecursion (IsElsewhere p) batch.senders.items
    → IsBatchOf one batch
batch_still here one p client batch e b all = record {
  given = given_still here one p client batch.senders.items batch.records.items e b.given all;
  apart = b.apart;
}

pub batch_added : {R W : Type 0} (here : List (Client R W)) (p : ℕ) (client client' : Client R W)
    (old new : Batch) (r : Record) → slice_get here p ≡ Some client → GivesRecord client' r → IsBatchOf here old
    → AllByRecursion (IsElsewhere p) old.senders.items → IsAdded old new p r
    → IsBatchOf (slice_set here p client') new
batch_added here p client client' old new r at gives b all added =
    let s : Sender = record { place = p; head = r.head } in
    record {
      given = subst (λ (ss : List Sender). AreGiven (slice_set here p client') ss new.records.items)
          (sym added.senders)
          (subst (λ (rs : List (List ℕ)). AreGiven (slice_set here p client') (old.senders.items ++ s ∷ []) rs)
          (sym added.records)
          (given_added (slice_set here p client') old.senders.items old.records.items s r.bytes
          (given_still here (slice_set here p client') p client' old.senders.items old.records.items refl b.given all)
          (record { client = client'; at = at_same here p client client' at; gives = gives })));
      apart = subst (λ (ss : List Sender). AreApart ss) (sym added.senders)
          (apart_added old.senders.items s b.apart all);
    }

-- it is added, or the batch was full
pub batch_then : {R W : Type 0} (here : List (Client R W)) (p : ℕ) (client client' : Client R W)
    (old new : Batch) (r : Record) → slice_get here p ≡ Some client → GivesRecord client' r → IsBatchOf here old
    → AllByRecursion (IsElsewhere p) old.senders.items → AddsIfRoom old new p r
    → IsBatchOf (slice_set here p client') new
batch_then here p client client' old new r at gives b all (inl added) =
    batch_added here p client client' old new r at gives b all added
batch_then here p client client' old new r at gives b all (inr (full, same)) =
    subst (λ (x : Batch). IsBatchOf (slice_set here p client') x) (sym same)
    (batch_still here (slice_set here p client') p client' old refl b all)

-- ---- places that were looked at

-- it is from a place on, and not among those that are still to be looked at
abbrev pub IsPassed : (from place to : ℕ) → Sender → Type 0
IsPassed from place to s = (from ≤ s.place) × ((s.place < place) ⊎ (to ≤ s.place))

pub passed_at_first : (from to : ℕ) (ss : List Sender) → from ≤ to → AllByRecursion (IsFrom to) ss
    → AllByRecursion (IsPassed from from to) ss
passed_at_first from to ss order all =
    all_follow (IsFrom to) (IsPassed from from to) ss (λ s beyond. (omega (arith, order, beyond), inr beyond)) all

passed_one : (from place to : ℕ) (s : Sender) → IsPassed from place to s → IsPassed from (place + 1) to s
passed_one from place to s (f, inl below) = (f, inl (omega (arith, below)))
passed_one from place to s (f, inr beyond) = (f, inr beyond)

pub passed_more : (from place to : ℕ) (ss : List Sender) → AllByRecursion (IsPassed from place to) ss
    → AllByRecursion (IsPassed from (place + 1) to) ss
passed_more from place to ss all =
    all_follow (IsPassed from place to) (IsPassed from (place + 1) to) ss (passed_one from place to) all

pub passed_added : (from place to : ℕ) (old new : Batch) (r : Record) → from ≤ place → IsAdded old new place r
    → AllByRecursion (IsPassed from place to) old.senders.items
    → AllByRecursion (IsPassed from (place + 1) to) new.senders.items
passed_added from place to old new r f added all =
    let s : Sender = record { place = place; head = r.head } in
    subst (λ (ss : List Sender). AllByRecursion (IsPassed from (place + 1) to) ss) (sym added.senders)
    (all_more (IsPassed from (place + 1) to) old.senders.items (s ∷ [])
    (passed_more from place to old.senders.items all) ((f, inl (omega arith)), tt))

pub passed_then : (from place to : ℕ) (old new : Batch) → from ≤ place → MayAdd old new place
    → AllByRecursion (IsPassed from place to) old.senders.items
    → AllByRecursion (IsPassed from (place + 1) to) new.senders.items
passed_then from place to old new f (inl (r, added)) all = passed_added from place to old new r f added all
passed_then from place to old new f (inr same) all =
    subst (λ (b : Batch). AllByRecursion (IsPassed from (place + 1) to) b.senders.items) (sym same)
    (passed_more from place to old.senders.items all)

elsewhere_one : (from place to : ℕ) (s : Sender) → place < to → IsPassed from place to s → IsElsewhere place s
elsewhere_one from place to s inside (f, inl below) e = omega (arith, below, e)
elsewhere_one from place to s inside (f, inr beyond) e = omega (arith, beyond, inside, e)

pub elsewhere : (from place to : ℕ) (ss : List Sender) → place < to → AllByRecursion (IsPassed from place to) ss
    → AllByRecursion (IsElsewhere place) ss
elsewhere from place to ss inside all =
    all_follow (IsPassed from place to) (IsElsewhere place) ss (λ s passed. elsewhere_one from place to s inside passed)
    all

pub all_from : (from place to : ℕ) (ss : List Sender) → AllByRecursion (IsPassed from place to) ss
    → AllByRecursion (IsFrom from) ss
all_from from place to ss all = all_follow (IsPassed from place to) (IsFrom from) ss (λ s passed. passed.0) all

-- ---- messages that are answered

pub takes_reads : {C : Type 0} (seen : C → Seen) (figures : Figures) (old mid : C) (reads : List Step)
    → AllByRecursion (is_read_under figures) reads
    → Takes (seen old) (seen mid) [] → Takes (seen old) (seen mid) (submitted_by reads)
takes_reads seen figures old mid reads all takes =
    subst (λ (cs : List Command). Takes (seen old) (seen mid) cs) (sym (reads_submit_none figures reads all)) takes

pub gathers_nothing : {C R W : Type 0} (seen : C → Seen) {reason : Fault → C → C → Type 0} {known : R × W → Known} {figures : Figures}
    (bank : C) (here : List (Client R W)) (batch : Batch) → IsBatchOf here batch
    → Gathers {X = Unit {0}} seen reason known figures bank bank here here batch (Ok tt)
gathers_nothing seen bank here batch gives = record {
  reads = [];
  are_reads = tt;
  asked = asked_none seen bank tt;
  due = λ h log shown. tt;
  refused = [];
  some = tt;
  whose_refused = tt;
  none_posted = refl;
  are_told = λ p y y' at at' k before is. tt;
  fare = all_same here;
  beside = beside_none here;
  gives = gives;
}

-- some, and then others
pub gathers_then : {C R W X Y : Type 0} (seen : C → Seen) {reason : Fault → C → C → Type 0}
    {known : R × W → Known} {figures : Figures} (old mid new : C) (here one two : List (Client R W)) (b b' : Batch) {x : X}
    (result : Result Y Fault) → Gathers seen reason known figures old mid here one b (Ok x)
    → Gathers seen reason known figures mid new one two b' result → Gathers seen reason known figures old new here two b' result
gathers_then seen {known = known} {figures} old mid new here one two b b' result p q = record {
  reads = p.reads ++ q.reads;
  are_reads = all_more (is_read_under figures) p.reads q.reads p.are_reads q.are_reads;
  asked = asked_then seen old mid new result p.asked q.asked;
  due = λ h log shown.
      let honest = q.asked.honest h in
      due_reads log figures p.reads q.reads p.are_reads (p.due honest log shown)
      (q.due h log (p.asked.done.shows honest log shown));
  refused = q.refused;
  some = q.some;
  whose_refused = subst (λ (ns : List ℕ). AllByRecursion (IsOfOneOf ns) q.refused) p.beside.same q.whose_refused;
  none_posted = q.none_posted;
  are_told = λ place y y' at at' k before is.
      let mids = found_too here one place y p.beside.same at in
      subst (λ (l : List Step). AreRefused known k l (fault_in result) q.refused y')
      (append_assoc before p.reads q.reads)
      (q.are_told place mids.0 y' mids.1 at' k (before ++ p.reads) (p.beside.stand place y mids.0 at mids.1 k before is));
  fare = all_then here one two p.reads q.reads p.beside.same p.fare q.fare;
  beside = beside_then here one two p.reads q.reads p.beside q.beside;
  gives = q.gives;
}

-- what was refused of the client at a place
refused_at : {C R W X : Type 0} (seen : C → Seen) {reason : Fault → C → C → Type 0} {known : R × W → Known} {figures : Figures}
    (old new : C) (here : List (Client R W)) (p : ℕ) (client client' : Client R W) (batch : Batch) (result : Result X Fault)
    → AllDiffer (numbers here) → slice_get here p ≡ Some client
    → (a : IsAnswered seen reason known figures old new client client' result)
    → AreBeside known here (slice_set here p client') a.more → IsBatchOf (slice_set here p client') batch
    → Gathers seen reason known figures old new here (slice_set here p client') batch result
refused_at seen old new here p client client' batch (Ok x) all at a beside gives = record {
  reads = a.more;
  are_reads = a.reads;
  asked = a.asked;
  due = a.due;
  refused = [];
  some = tt;
  whose_refused = tt;
  none_posted = refl;
  are_told = λ q y y' at_q at_q' k before is. tt;
  fare = all_at here p client client' at (a.fares None [] tt);
  beside = beside;
  gives = gives;
}
refused_at {R = R} {W} seen {known = known} old new here p client client' batch (Err f) all at a beside gives =
    let s = a.told.step in
    record {
      reads = a.more;
      are_reads = a.reads;
      asked = a.asked;
      due = a.due;
      refused = s ∷ [];
      some = λ none. cc none;
      whose_refused = (subst (λ (n : ℕ). Contains (numbers here) n) (sym a.told.own) (one_of_these here p client at), tt);
      none_posted = ap (λ (cs : List Command). cs ++ []) (idle_commands (asked_by s.turn.message) s.turn.moment a.told.reads);
      are_told = λ q y y' at_q at_q' k before is. (
        (λ own. elim (same_or_not q p) [
          | inl e ↦
              let y_is : y ≡ client = some_is y client (sym at_q ∙ ap (λ (n : ℕ). slice_get here n) e ∙ at) in
              let y'_is : client' ≡ y' =
              some_is client' y' (sym (at_same here p client client' at)
              ∙ ap (λ (n : ℕ). slice_get (slice_set here p client') n) (sym e) ∙ at_q') in
              subst (λ (z : Client R W). StandsRefused known k (before ++ a.more) f s.turn z) y'_is
              (a.told.told k before
              (subst (λ (z : Client R W). StandsHere known k before z) y_is is))
          | inr ne ↦
              let y_is : y ≡ y' = some_is y y' (sym at_q ∙ sym (at_other here p q client' ne) ∙ at_q') in
              absurd (numbers_apart here p q client y all at at_q ne
              (ap (λ (z : Client R W). z.number) y_is ∙ sym own ∙ a.told.own))
        ]),
        tt,
      );
      fare = all_at here p client client' at (a.fares (Some f) (s ∷ []) (refl, (0, omega arith, a.told.own)));
      beside = beside;
      gives = gives;
    }

-- the messages of the client at a place
pub gathers_at : {C R W X : Type 0} (seen : C → Seen) {reason : Fault → C → C → Type 0} {known : R × W → Known} {figures : Figures}
    (old new : C) (here : List (Client R W)) (p : ℕ) (client client' : Client R W) (batch : Batch)
    (result : Result X Fault) → AllDiffer (numbers here) → slice_get here p ≡ Some client
    → IsAnswered seen reason known figures old new client client' result → IsBatchOf (slice_set here p client') batch
    → Gathers seen reason known figures old new here (slice_set here p client') batch result
gathers_at seen old new here p client client' batch result all at a gives =
    refused_at seen old new here p client client' batch result all at a
    (beside_one here p client client' a.more all at a.number a.own a.stands) gives

-- the result stands for another
pub gathers_as : {C R W X Y : Type 0} {seen : C → Seen} {reason : Fault → C → C → Type 0} {known : R × W → Known} {figures : Figures}
    {old new : C} {here here' : List (Client R W)} {batch : Batch} {x : X} (y : Y)
    → Gathers seen reason known figures old new here here' batch (Ok x)
    → Gathers seen reason known figures old new here here' batch (Ok y)
gathers_as y g = record {
  reads = g.reads;
  are_reads = g.are_reads;
  asked = asked_as y g.asked;
  due = g.due;
  refused = g.refused;
  some = tt;
  whose_refused = g.whose_refused;
  none_posted = g.none_posted;
  are_told = λ p y y' at at' k before is. tt;
  fare = g.fare;
  beside = g.beside;
  gives = g.gives;
}

pub gathers_err : {C R W X Y : Type 0} {seen : C → Seen} {reason : Fault → C → C → Type 0} {known : R × W → Known} {figures : Figures}
    {old new : C} {here here' : List (Client R W)} {batch : Batch} {f : Fault}
    → Gathers {X = X} seen reason known figures old new here here' batch (Err f)
    → Gathers {X = Y} seen reason known figures old new here here' batch (Err f)
gathers_err g = record {
  reads = g.reads;
  are_reads = g.are_reads;
  asked = asked_err g.asked;
  due = g.due;
  refused = g.refused;
  some = g.some;
  whose_refused = g.whose_refused;
  none_posted = g.none_posted;
  are_told = g.are_told;
  fare = g.fare;
  beside = g.beside;
  gives = g.gives;
}
