-- What is given of the front of what was read, and how long the message there is.
use Rattle.std.proofs.Common.{◌≡◌, ℕ, ◌≤◌, List, ◌++◌, length, take, drop, Result, Ok, Err, sym, ap, subst, arith}
use Rattle.std.specs.Prelude.{IfOk}
use Rattle.std.proofs.lemmas.List.{length-append, length-take}
use Rattle.posting_rules.specs.declared.fault.Fault.{Fault}
use Rattle.posting_rules.specs.declared.fault.Fault.TheVariants as fault
use Rattle.counter_http.specs.together.Standing.{GivesFront, IsToldOf, ReadsAnswer, SaysSo}
use Rattle.counter_http.specs.{Asking.said_in, Next.IsWhole, believed.Messages.message_text}
use Rattle.counter_http.specs.believed.Answers.{Answer}
use Rattle.counter_http.specs.declared.answers.Reading.{Reading}
use Rattle.counter_http.specs.declared.client.Client.{Client}
use Rattle.counter_http.specs.declared.client.Front.{Front}
use Rattle.counter_http.specs.declared.client.Front.TheVariants as front
use Rattle.counter_http.specs.declared.client.Head.{Head}
use Rattle.counter_http.specs.declared.next.Whole.{Whole}

pub says_gives : {R W : Type 0} (old new : Client R W) (answer : Answer) (head : Head) (done : Front)
    → SaysSo old new answer head done → GivesFront new done
says_gives old new answer head front.Answered did = tt
says_gives old new answer head front.Nothing did = tt
says_gives old new answer head (front.Record r) did = absurd did

told_gives : {R W : Type 0} (new : Client R W) (why : Fault) (result : Result Front Fault) → IsToldOf why result
    → IfOk result (GivesFront new)
told_gives new fault.Memory result is = subst (λ (r : Result Front Fault). IfOk r (GivesFront new)) (sym is) tt
told_gives new fault.Store result is = subst (λ (r : Result Front Fault). IfOk r (GivesFront new)) (sym is) tt
told_gives new fault.Down result is = subst (λ (r : Result Front Fault). IfOk r (GivesFront new)) (sym is) tt
told_gives new (fault.Damaged rule) result is =
    subst (λ (r : Result Front Fault). IfOk r (GivesFront new)) (sym is) tt

pub read_gives : {R W : Type 0} (old new : Client R W) (read : Result Reading Fault) (head : Head)
    (result : Result Front Fault) → ReadsAnswer old new read head result → IfOk result (GivesFront new)
read_gives old new (Ok reading) head result did =
    subst (λ (r : Result Front Fault). IfOk r (GivesFront new)) (sym did.1)
    (says_gives old new (said_in reading) head did.0 did.2)
read_gives old new (Err why) head result did = told_gives new why result did.1

-- the message is within what was read
pub within_front : {given items : List ℕ} {filled : ℕ} {w : Whole} → given ≡ items → IsWhole (take filled given) w
    → w.length ≤ filled
within_front {given} {items} {filled} {w} same is =
    let text = message_text is.message in
    let rest = drop w.length (take filled given) in
    let all : length (take filled given) ≡ length (text ++ rest) = ap length is.front in
    omega (arith, all, is.long, length-append text rest, length-take filled given)
