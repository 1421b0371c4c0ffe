-- What becomes of a client in a part of a round, and in one part after another.
use Rattle.std.proofs.Common.{◌≡◌, ℕ, List, [], ◌∷◌, ◌++◌, Option, None, Some, Bool, Result}
use Rattle.std.proofs.Common.{true, false, refl, sym, ap, subst, ◌∙◌, arith, inl, inr}
use Rattle.std.specs.Prelude.{◌≢◌, ◌⊎◌, Contains, IfErr}
use Rattle.std.proofs.lemmas.List.{map-append}
use Rattle.std.proofs.lemmas.List.Elements.{Contains-append_left, Contains-append_right}
use Rattle.posting_rules.specs.declared.fault.Fault.{Fault}
use Rattle.posting_rules.specs.declared.fault.Fault.TheVariants as fault
use Rattle.counter_http.specs.together.Faring.{Fares, HasNoMore, IsToldSo}
use Rattle.counter_http.specs.together.Order.{Step, client_of, clients_of}
use Rattle.counter_http.specs.together.Serving.{By_the_bank, For_memory, IsWhyTold}
use Rattle.counter_http.specs.together.Standing.{HasAnswered, HasEndedWith, IsLost, IsToldOf, parting_after}
use Rattle.counter_http.specs.declared.client.Client.{Client}
use Rattle.counter_http.specs.declared.client.Front.{Front}
use Rattle.counter_http.specs.declared.client.Head.{Head}
use Rattle.counter_http.specs.declared.parting.Parting.{Parting}
use Rattle.counter_http.specs.declared.parting.Parting.TheVariants as parting

-- ---- who is told of a refusal

-- whoever was told before any call was refused is told so whichever is
pub why_still : {fault : Option Fault} {refused : List Step} {n : ℕ} {why : Fault} (others : List Step)
    → IsWhyTold None others n why → IsWhyTold fault refused n why
why_still others (For_memory memory) = For_memory memory
why_still others (By_the_bank none own) = absurd (cc none)

pub told_still : {fault : Option Fault} {refused : List Step} {n : ℕ} {p : Option Parting} (others : List Step)
    → IsToldSo None others n p → IsToldSo fault refused n p
told_still others told = record { why = λ why is. why_still others (told.why why is) }

-- it is parted from so, and was told nothing
pub told_none : {fault : Option Fault} {refused : List Step} {n : ℕ} (p q : Option Parting) → p ≡ q
    → ((why : Fault) → q ≢ Some (parting.Bank why)) → IsToldSo fault refused n p
told_none p q same none = record { why = λ why is. absurd (none why (sym same ∙ is)) }

pub none_served : (why : Fault) → Some parting.Served ≢ Some (parting.Bank why)
none_served why e = cc e

pub none_memory : (why : Fault) → Some parting.Memory ≢ Some (parting.Bank why)
none_memory why e = cc e

none_after : (closes : Bool) (why : Fault) → parting_after closes None ≢ Some (parting.Bank why)
none_after true why e = cc e
none_after false why e = cc e

-- ---- in one part

pub fares_same : {R W : Type 0} {fault : Option Fault} {refused steps : List Step} (client : Client R W)
    → Fares fault refused steps client client
fares_same client = record { did = inl refl; told = told_still [] }

pub fares_lost : {R W : Type 0} {fault : Option Fault} {refused steps : List Step} (old new : Client R W)
    → IsLost old new parting.Memory → Fares fault refused steps old new
fares_lost old new lost = record {
  did = inr (inl (inr (parting.Memory, lost.parting)));
  told = λ before. told_none new.parting (Some parting.Memory) lost.parting none_memory;
}

-- its message was answered, the first of some
pub fares_answered : {R W : Type 0} {fault : Option Fault} {refused : List Step} (old new : Client R W) (text : List ℕ)
    (head : Head) (s : Step) (more : List Step) → s.client ≡ old.number → old.parting ≡ None → HasAnswered old new text head
    → Fares fault refused (s ∷ more) old new
fares_answered old new text head s more own going did = record {
  did = inr (inr (0, omega arith, own));
  told = λ before. told_none new.parting (parting_after head.closes None)
      (did.parting ∙ ap (parting_after head.closes) going) (none_after head.closes);
}

-- bytes that are no message were answered
pub fares_ended : {R W : Type 0} {fault : Option Fault} {refused steps : List Step} (old new : Client R W) {text : List ℕ}
    → HasEndedWith old new text parting.Served → Fares fault refused steps old new
fares_ended old new (inl ended) = record {
  did = inr (inl (inr (parting.Served, ended.parting)));
  told = λ before. told_none new.parting (Some parting.Served) ended.parting none_served;
}
fares_ended old new (inr lost) = fares_lost old new lost

-- its message was refused
pub fares_refused : {R W : Type 0} {fault : Option Fault} {refused steps : List Step} (old new : Client R W) {text : List ℕ}
    (why : Fault) → HasEndedWith old new text (parting.Bank why) → IsWhyTold fault refused old.number why
    → Fares fault refused steps old new
fares_refused {fault = fault} {refused} old new why (inl ended) told = record {
  did = inr (inl (inr (parting.Bank why, ended.parting)));
  told = λ before. record {
    why = λ other is.
        subst (λ (f : Fault). IsWhyTold fault refused old.number f) (same why other (sym ended.parting ∙ is)) told;
  };
}
  where
    same : (f g : Fault) → Some (parting.Bank f) ≡ Some (parting.Bank g) → f ≡ g
    same f g e = cc e
fares_refused old new why (inr lost) told = fares_lost old new lost

told_by : {last : Option Fault} {refused : List Step} {n : ℕ} (why : Fault) (result : Result Front Fault) → IsToldOf why result
    → IfErr result (λ f. (last ≡ Some f) × Contains (clients_of refused) n) → IsWhyTold last refused n why
told_by fault.Memory result is among = For_memory refl
told_by {last} {refused} {n} fault.Store result is among =
    let both = subst (λ (r : Result Front Fault). IfErr r (λ f. (last ≡ Some f) × Contains (clients_of refused) n)) is among in
    By_the_bank both.0 both.1
told_by {last} {refused} {n} fault.Down result is among =
    let both = subst (λ (r : Result Front Fault). IfErr r (λ f. (last ≡ Some f) × Contains (clients_of refused) n)) is among in
    By_the_bank both.0 both.1
told_by {last} {refused} {n} (fault.Damaged rule) result is among =
    let both = subst (λ (r : Result Front Fault). IfErr r (λ f. (last ≡ Some f) × Contains (clients_of refused) n)) is among in
    By_the_bank both.0 both.1

pub fares_unread : {R W : Type 0} (old new : Client R W) {text : List ℕ} (why : Fault) (result : Result Front Fault)
    → HasEndedWith old new text (parting.Bank why) → IsToldOf why result → (fault : Option Fault) (refused : List Step)
    → IfErr result (λ f. (fault ≡ Some f) × Contains (clients_of refused) old.number) → Fares fault refused [] old new
fares_unread old new why result ended is fault refused among =
    fares_refused old new why ended (told_by why result is among)

-- ---- in one part after another

pub fares_then : {R W : Type 0} {fault : Option Fault} {others refused : List Step} (one two three : Client R W) (ss ts : List Step)
    → two.number ≡ one.number → Fares None others ss one two → Fares fault refused ts two three
    → Fares fault refused (ss ++ ts) one three
fares_then {fault = fault} {others} {refused} one two three ss ts number a b = record {
  did = both b.did;
  told = λ before.
      subst (λ (n : ℕ). IsToldSo fault refused n three.parting) number
      (b.told (subst (λ (n : ℕ). IsToldSo None [] n two.parting) (sym number) (told_still others (a.told before))));
}
  where
    all : clients_of (ss ++ ts) ≡ clients_of ss ++ clients_of ts
    all = map-append client_of ss ts

    first : (three ≡ two) → (two ≡ one) ⊎ (HasNoMore two ⊎ Contains (clients_of ss) one.number)
        → (three ≡ one) ⊎ (HasNoMore three ⊎ Contains (clients_of (ss ++ ts)) one.number)
    first same (inl before) = inl (same ∙ before)
    first same (inr (inl none)) = inr (inl (subst (λ (x : Client _ _). HasNoMore x) (sym same) none))
    first same (inr (inr own)) =
        inr (inr (subst (λ (ns : List ℕ). Contains ns one.number) (sym all)
        (Contains-append_left (clients_of ss) (clients_of ts) one.number own)))

    both : (three ≡ two) ⊎ (HasNoMore three ⊎ Contains (clients_of ts) two.number)
        → (three ≡ one) ⊎ (HasNoMore three ⊎ Contains (clients_of (ss ++ ts)) one.number)
    both (inl same) = first same a.did
    both (inr (inl none)) = inr (inl none)
    both (inr (inr own)) =
        inr (inr (subst (λ (ns : List ℕ). Contains ns one.number) (sym all)
        (Contains-append_right (clients_of ss) (clients_of ts) one.number
        (subst (λ (n : ℕ). Contains (clients_of ts) n) number own))))

-- a message of another number is refused with it
pub among_then : {X : Type 0} (fault : Option Fault) (refused : List Step) (result : Result X Fault) (m n : ℕ) → m ≡ n
    → IfErr result (λ f. (fault ≡ Some f) × Contains (clients_of refused) m)
    → IfErr result (λ f. (fault ≡ Some f) × Contains (clients_of refused) n)
among_then fault refused result m n same is =
    subst (λ (k : ℕ). IfErr result (λ f. (fault ≡ Some f) × Contains (clients_of refused) k)) same is
