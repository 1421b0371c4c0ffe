-- Where a client stands whose message the bank refused.
use Rattle.std.proofs.Common.{◌≡◌, ℕ, List, [], ◌∷◌, ◌++◌, drop, take, Option, None, Some, Bool, true, refl, sym, ap, subst, ◌∙◌}
use Rattle.std.proofs.Common.{inl, inr}
use Rattle.std.specs.Prelude.{◌≢◌, ⊤}
use Rattle.std.specs.Io.KnownBytes.{Appends}
use Rattle.posting_rules.specs.declared.fault.Fault.{Fault}
use Rattle.posting_rules.specs.believed.Counter.{Seen}
use Rattle.posting_core.specs.EndCalls.{HasMore, HasWriteFailed, IsFlush, IsWriteFailure, WriteCall}
use Rattle.posting_core.specs.believed.EndCalls.{EndsWith}
use Rattle.posting_core.proofs.Telling.{more_failed}
use Rattle.counter_http.specs.Connections.{Known}
use Rattle.counter_http.specs.together.Order.{Step, of_client}
use Rattle.counter_http.specs.together.Standing.{HasEndedWith, IsHeadOf, IsOver, IsParting, IsRefused, StandsHere, StandsRefused}
use Rattle.counter_http.specs.together.Standing.{Writes, pending, unread}
use Rattle.counter_http.specs.together.Serving.{ClientIsRefused, IsOfRefusal, PartingIsOfItsEnd}
use Rattle.counter_http.specs.believed.Answers.{answer_text, bare}
use Rattle.counter_http.specs.believed.Messages.{Message}
use Rattle.counter_http.specs.believed.Serving.{IsBrokenOff}
use Rattle.counter_http.specs.believed.Turns.{Turn}
use Rattle.counter_http.specs.declared.client.Client.{Client}
use Rattle.counter_http.specs.declared.client.Head.{Head}
use Rattle.counter_http.specs.declared.parting.Parting.{Parting}
use Rattle.counter_http.specs.declared.parting.Parting.TheVariants as parting
use Rattle.counter_http.proofs.Answering.{answered_unavailable}
use Rattle.counter_http.proofs.Fronts.{ends_by, going_of}
use Rattle.counter_http.proofs.Stood.{IsLeft, IsLoss, closed_as, closed_early, closed_for, left_after, left_as, lost_as, loses, wrote_to}
use Rattle.counter_http.proofs.Written.{failed_more}

-- ---- where it stands

-- by its fields
refused_as : {R W : Type 0} {known : R × W → Known} {k : Known} {steps : List Step} {i : ℕ} {l : Known}
    {left : List ℕ} {turn : Turn} (fault : Fault) (p : Parting) (new : Client R W) → new.parting ≡ Some p → new.number ≡ i
    → known (new.reader, new.writer) ≡ l → pending new ≡ left → IsOfRefusal fault p
    → IsRefused i k l steps left turn p → StandsRefused known k steps fault turn new
refused_as {known = known} {k} {steps} {i} {l} {left} {turn} fault p new parting_is number ends none why is =
    record {
      parting = p;
      parting_is = parting_is;
      why = why;
      is = subst (λ (j : ℕ). IsRefused j k (known (new.reader, new.writer)) steps (pending new) turn p) (sym number)
          (subst (λ (m : Known). IsRefused i k m steps (pending new) turn p) (sym ends)
          (subst (λ (x : List ℕ). IsRefused i k l steps x turn p) (sym none) is));
    }

-- nothing more is written to it
lost_to : {i : ℕ} {k l : Known} {steps : List Step} {turn : Turn} (p : Parting) → IsLoss p
    → (is : IsLeft i k l steps) → PartingIsOfItsEnd p k.reads l.reads k.writes l.writes → is.lost ≡ turn ∷ []
    → IsBrokenOff (of_client i steps) is.lost is.last → IsRefused i k l steps [] turn p
unfolding lost_as loses
lost_to parting.Served loss is ends lost broken_off = absurd loss
lost_to parting.Read loss is ends lost broken_off = absurd loss
lost_to (parting.Bank fault) loss is ends lost broken_off = absurd loss
lost_to parting.Write loss is ends lost broken_off =
    record { parted = lost_as parting.Write loss is ends; lost = lost; broken_off = broken_off }
lost_to parting.Memory loss is ends lost broken_off =
    record { parted = lost_as parting.Memory loss is ends; lost = lost; broken_off = broken_off }
lost_to parting.GivenUp loss is ends lost broken_off = absurd loss
lost_to parting.Stopped loss is ends lost broken_off = absurd loss

-- there was no memory for the 503
forgotten : {i : ℕ} {k l : Known} {steps : List Step} {left : List ℕ} {turn : Turn} {p : Parting}
    → IsRefused i k l steps left turn p → IsRefused i k l steps [] turn parting.Memory
unfolding left_as
forgotten {p = p} is =
    lost_to parting.Memory tt
    (left_as (Some p) {has_more = true} {shown = true} {rest = []} (record { is = is.parted })) tt is.lost is.broken_off

pub refused_now : {R W : Type 0} {known : R × W → Known} {k : Known} {steps : List Step}
    (old new : Client R W) (moment : ℕ) (m : Message) (head : Head) (why : Fault) → old.parting ≡ None
    → IsHeadOf head (unread old) m
    → HasEndedWith old new (answer_text (bare 503) head.shows_body true) (parting.Bank why) → StandsHere known k steps old
    → StandsRefused known k steps why (record { message = m; moment = moment }) new
refused_now {known = known} old new moment m head why going is (inl ended) stands =
    refused_as why (parting.Bank why) new ended.parting ended.same.number
    (ends_by known ended.same.reader ended.same.writer)
    (ended.added ∙ ap (λ (b : Bool). pending old ++ answer_text (bare 503) b true) is.shows_is) refl
    (answered_unavailable why moment m (drop head.length (unread old)) is.whole is.front (going_of old going stands))
refused_now {known = known} old new moment m head why going is (inr lost) stands =
    refused_as why parting.Memory new lost.parting lost.number (ends_by known lost.reader lost.writer) lost.none tt
    (forgotten (answered_unavailable why moment m (drop head.length (unread old)) is.whole is.front
    (going_of old going stands)))

-- ---- it is written to

refused_wrote : {i : ℕ} {k l : Known} {steps : List Step} {left : List ℕ} {turn : Turn} {p : Parting} (n : ℕ)
    (w' : Option (List ℕ)) (v' : Option (List WriteCall)) → Appends l.writer w' (take n left) → HasMore l.writes v'
    → left ≢ [] → (drop n left ≡ [] → EndsWith IsFlush l.writes v') → IsRefused i k l steps left turn p
    → IsRefused i k (record l { writer = w'; writes = v' }) steps (drop n left) turn p
unfolding wrote_to
refused_wrote {p = p} n w' v' wrote more some flushed is = record {
  parted = (wrote_to (Some p) {has_more = true} {shown = true} {rest = []} n w' v' wrote more some flushed (record { is = is.parted })).is;
  lost = is.lost;
  broken_off = is.broken_off;
}

refused_failed : {i : ℕ} {k l : Known} {steps : List Step} {left : List ℕ} {turn : Turn} {p : Parting} (n : ℕ)
    (w' : Option (List ℕ)) (v' : Option (List WriteCall)) → Appends l.writer w' (take n left) → HasWriteFailed l.writes v'
    → IsRefused i k l steps left turn p
    → IsRefused i k (record l { writer = w'; writes = v' }) steps [] turn parting.Write
unfolding left_after left_as
refused_failed {p = p} n w' v' wrote failed is =
    lost_to parting.Write tt
    (left_after (Some p) {has_more = true} {shown = true} {rest = []} n w' v' wrote (failed_more failed) (record { is = is.parted }))
    (more_failed IsWriteFailure is.parted.more failed) is.lost is.broken_off

pub refused_written : {R W : Type 0} {known : R × W → Known} {k : Known} {steps : List Step} {fault : Fault}
    {turn : Turn} (old new : Client R W) → Writes known old new → StandsRefused known k steps fault turn old
    → StandsRefused known k steps fault turn new
refused_written {known = known} {k} {steps} {fault} {turn} old new (inl same) is =
    subst (λ (x : Client _ _). StandsRefused known k steps fault turn x) (sym same) is
refused_written {fault = fault} old new (inr (inl w)) is =
    refused_as fault is.parting new (w.parting ∙ is.parting_is) w.number w.ends w.left is.why
    (refused_wrote w.count w.contents w.writes w.wrote w.more w.some (λ e. w.flushed (w.left ∙ e)) is.is)
refused_written {fault = fault} old new (inr (inr w)) is =
    refused_as fault parting.Write new w.parting w.number w.ends w.none tt
    (refused_failed w.count w.contents w.writes w.wrote w.failed is.is)

-- ---- its connection is closed

-- the causes for which one that was refused may be parted from
abbrev pub IsRefusedCause : Parting → Type 0
IsRefusedCause parting.Memory = ⊤
IsRefusedCause parting.Stopped = ⊤
IsRefusedCause _ = ⊥

refused_early : {i : ℕ} {k l : Known} {steps : List Step} {left : List ℕ} {turn : Turn} {p : Parting}
    (fault : Fault) (cause : Parting) → IsRefusedCause cause → IsRefused i k l steps left turn p
    → ClientIsRefused i k l steps fault turn cause
unfolding closed_early closed_for left_as
refused_early {p = p} fault parting.Memory ours is = record {
  served = closed_early parting.Memory tt
      (left_as (Some p) {has_more = true} {shown = true} {rest = []} (record { is = is.parted }));
  lost = is.lost;
  broken_off = is.broken_off;
  why = tt;
}
refused_early {p = p} fault parting.Stopped ours is = record {
  served = closed_early parting.Stopped tt
      (left_as (Some p) {has_more = true} {shown = true} {rest = []} (record { is = is.parted }));
  lost = is.lost;
  broken_off = is.broken_off;
  why = tt;
}
refused_early fault parting.GivenUp ours is = absurd ours
refused_early fault parting.Served ours is = absurd ours
refused_early fault parting.Read ours is = absurd ours
refused_early fault parting.Write ours is = absurd ours
refused_early fault (parting.Bank why) ours is = absurd ours

refused_over : {i : ℕ} {k l : Known} {steps : List Step} {left : List ℕ} {turn : Turn} {p : Parting}
    (fault : Fault) → left ≡ [] → IsOfRefusal fault p → IsRefused i k l steps left turn p
    → ClientIsRefused i k l steps fault turn p
unfolding closed_as
refused_over fault none why is =
    record { served = closed_as none is.parted; lost = is.lost; broken_off = is.broken_off; why = why }

some_same : (p q : Parting) → Some p ≡ Some q → p ≡ q
some_same p q e = cc e

pub refused_parted : {R W : Type 0} {known : R × W → Known} {k : Known} {steps : List Step} {fault : Fault}
    {turn : Turn} (client : Client R W) (cause : Parting) (parts : R × W × Parting) → IsParting client cause parts
    → ((IsOver client → ⊥) → IsRefusedCause cause) → StandsRefused known k steps fault turn client
    → ClientIsRefused client.number k (known (parts.0, parts.1)) steps fault turn parts.2
refused_parted {known = known} {k} {steps} {fault} {turn} client cause parts is ours stands =
    subst (λ (l : Known). ClientIsRefused client.number k l steps fault turn parts.2)
    (sym (ends_by known is.reader is.writer))
    (elim is.why [
      | inl early ↦
          subst (λ (q : Parting). ClientIsRefused client.number k (known (client.reader, client.writer)) steps fault
          turn q) (sym early.0) (refused_early fault cause (ours early.1) stands.is)
      | inr over ↦
          subst (λ (q : Parting). ClientIsRefused client.number k (known (client.reader, client.writer)) steps fault
          turn q) (some_same stands.parting parts.2 (sym stands.parting_is ∙ over.0))
          (refused_over fault over.1 stands.why stands.is)
    ])
