-- Where a client stands that was written to, and what became of one whose connection is closed.
use Rattle.std.proofs.Common.{◌≡◌, ℕ, List, [], ◌++◌, Option, Some, Bool, sym, ap, subst, ◌∙◌, inl, inr}
use Rattle.posting_rules.specs.{believed.Counter.Seen}
use Rattle.posting_core.specs.EndCalls.{HasMore, HasWriteFailed, IsWriteFailure, WriteCall}
use Rattle.posting_core.proofs.Telling.{last_some, more_failed}
use Rattle.counter_http.specs.Connections.{Known}
use Rattle.counter_http.specs.together.Order.{Step}
use Rattle.counter_http.specs.together.Standing.{IsOver, IsParting, StandsAs, StandsBy, StandsHere, Writes, WritesLast, WritesSome}
use Rattle.counter_http.specs.together.Standing.{pending, unread}
use Rattle.counter_http.specs.together.Serving.{ClientIsServed}
use Rattle.counter_http.specs.declared.client.Client.{Client}
use Rattle.counter_http.specs.declared.parting.Parting.{Parting}
use Rattle.counter_http.specs.declared.parting.Parting.TheVariants as parting
use Rattle.counter_http.proofs.Fronts.{ends_by, parted_here}
use Rattle.counter_http.proofs.Stood.{IsCause, closed_as, closed_early, left_after, left_as, lost_as, wrote_to}

-- where it stands, by its fields
stands_as : {R W : Type 0} {known : R × W → Known} {k : Known} {steps : List Step} {i : ℕ} {l : Known}
    {has_more shown : Bool} {rest left : List ℕ} (p : Option Parting) (new : Client R W) → new.parting ≡ p
    → new.number ≡ i → known (new.reader, new.writer) ≡ l → new.has_more ≡ has_more → new.shows_body ≡ shown
    → unread new ≡ rest → pending new ≡ left → StandsAs p i k l steps has_more shown rest left
    → StandsHere known k steps new
stands_as {known = known} {k} {steps} {i} {l} {has_more} {shown} {rest} {left} p new why number ends more
    shows_is same none is =
    record {
      is = subst (λ (q : Option Parting). StandsAs q new.number k (known (new.reader, new.writer)) steps
          new.has_more new.shows_body (unread new) (pending new)) (sym why)
          (subst (λ (j : ℕ). StandsAs p j k (known (new.reader, new.writer)) steps new.has_more new.shows_body
          (unread new) (pending new)) (sym number)
          (subst (λ (m : Known). StandsAs p i k m steps new.has_more new.shows_body (unread new) (pending new))
          (sym ends)
          (subst (λ (b : Bool). StandsAs p i k l steps b new.shows_body (unread new) (pending new)) (sym more)
          (subst (λ (b : Bool). StandsAs p i k l steps has_more b (unread new) (pending new)) (sym shows_is)
          (subst (λ (x : List ℕ). StandsAs p i k l steps has_more shown x (pending new)) (sym same)
          (subst (λ (x : List ℕ). StandsAs p i k l steps has_more shown rest x) (sym none) is))))));
    }

-- ---- it is written to

some_here : {R W : Type 0} {known : R × W → Known} {k : Known} {steps : List Step} (old new : Client R W)
    → WritesSome known old new → StandsHere known k steps old → StandsHere known k steps new
some_here old new w stands =
    stands_as old.parting new w.parting w.number w.ends w.has_more w.shows w.unread_same w.left
    (wrote_to old.parting w.count w.contents w.writes w.wrote w.more w.some (λ e. w.flushed (w.left ∙ e)) stands.is)

pub failed_more : {old new : Option (List WriteCall)} → HasWriteFailed old new → HasMore old new
failed_more (inl last) = last_some IsWriteFailure last
failed_more (inr many) = record { calls = many.earlier ++ many.last; made = many.made }

last_here : {R W : Type 0} {known : R × W → Known} {k : Known} {steps : List Step} (old new : Client R W)
    → WritesLast known old new → StandsHere known k steps old → StandsHere known k steps new
last_here old new w stands =
    parted_here new parting.Write w.number w.parting w.ends w.none
    (lost_as parting.Write tt
    (left_after old.parting w.count w.contents w.writes w.wrote (failed_more w.failed) stands.is)
    (more_failed IsWriteFailure (left_as old.parting stands.is).more w.failed))

pub written_here : {R W : Type 0} {known : R × W → Known} {k : Known} {steps : List Step}
    (old new : Client R W) → Writes known old new → StandsHere known k steps old
    → StandsHere known k steps new
written_here {known = known} {k} {steps} old new (inl same) stands =
    subst (λ (x : Client _ _). StandsHere known k steps x) (sym same) stands
written_here old new (inr (inl w)) stands = some_here old new w stands
written_here old new (inr (inr w)) stands = last_here old new w stands

pub number_written : {R W : Type 0} {known : R × W → Known} (old new : Client R W) → Writes known old new
    → new.number ≡ old.number
number_written old new (inl same) = ap (λ (x : Client _ _). x.number) same
number_written old new (inr (inl w)) = w.number
number_written old new (inr (inr w)) = w.number

-- ---- its connection is closed

before_over : {R W : Type 0} {known : R × W → Known} {k : Known} {steps : List Step} (client : Client R W)
    (cause p : Parting) → p ≡ cause → IsCause cause → StandsHere known k steps client
    → ClientIsServed client.number k (known (client.reader, client.writer)) steps p
before_over {known = known} {k} {steps} client cause p is ours stands =
    subst (λ (q : Parting). ClientIsServed client.number k (known (client.reader, client.writer)) steps q) (sym is)
    (closed_early cause ours (left_as client.parting stands.is))

finished : {R W : Type 0} {known : R × W → Known} {k : Known} {steps : List Step} (client : Client R W)
    (p : Parting) → client.parting ≡ Some p → pending client ≡ [] → StandsHere known k steps client
    → ClientIsServed client.number k (known (client.reader, client.writer)) steps p
finished {known = known} {k} {steps} client p is none stands =
    closed_as none (subst (λ (q : Option Parting). StandsBy q client.number k (known (client.reader, client.writer))
    steps client.has_more client.shows_body (unread client) (pending client)) is stands.is.is)

pub parted_with : {R W : Type 0} {known : R × W → Known} {k : Known} {steps : List Step}
    (client : Client R W) (cause : Parting) (parts : R × W × Parting) → IsParting client cause parts
    → ((IsOver client → ⊥) → IsCause cause) → StandsHere known k steps client
    → ClientIsServed client.number k (known (parts.0, parts.1)) steps parts.2
parted_with {known = known} {k} {steps} client cause parts is ours stands =
    subst (λ (l : Known). ClientIsServed client.number k l steps parts.2)
    (sym (ends_by known is.reader is.writer))
    (elim is.why [
      | inl early ↦ before_over client cause parts.2 early.0 (ours early.1) stands
      | inr over ↦ finished client parts.2 over.0 over.1 stands
    ])
