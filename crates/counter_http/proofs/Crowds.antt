-- Clients that come in, are served and leave.
use Rattle.std.proofs.Common.{◌≡◌, ℕ, ◌+◌, ◌<◌, List, [], ◌∷◌, ◌++◌, length, map, Option, None, Some, Bool}
use Rattle.std.proofs.Common.{true, refl, sym, ap, subst, ◌∙◌, append_assoc, append-nil, arith, inl, inr}
use Rattle.std.specs.Prelude.{◌≢◌, ◌⊎◌, ◌==◌, Contains, ⊤}
use Rattle.std.specs.List.{AllByRecursion}
use Rattle.std.proofs.KnownBytes.{Appends-nil, Consumes-nil}
use Rattle.std.proofs.lemmas.List.{length-append, map-append}
use Rattle.std.proofs.lemmas.Bool.{Decides.eqb_tells, ne_eqb}
use Rattle.std.proofs.lemmas.List.Elements.{All-contains, All-contains_itself, All-from_recursion, Contains-append_left}
use Rattle.std.proofs.lemmas.List.Elements.{Contains-append_right, recursion_from_All}
use Rattle.std.proofs.lemmas.List.Kept.{AllPairs-cons}
use Rattle.posting_rules.specs.declared.fault.Fault.{Fault}
use Rattle.posting_rules.specs.believed.Counter.{Seen}
use Rattle.posting_core.specs.believed.Batches.{joined}
use Rattle.posting_core.specs.believed.EndCalls.{GrowsBy}
use Rattle.posting_core.proofs.StreamedBatches.{all_more}
use Rattle.posting_core.proofs.Telling.{adds-more, adds-none, more_none}
use Rattle.counter_http.specs.Clients.{ClientsCall, Closed, Gave, Gave_up, Nobody, Refused, Waited, given_up_told, waited_told}
use Rattle.counter_http.specs.Connections.{Known}
use Rattle.counter_http.specs.together.Crowd.{AreGivenUp, Closes, Comes, Differ, HasLeft, IsCrowd, IsHere, Leaves}
use Rattle.counter_http.specs.together.Crowd.{MayPart, Scene, Stays, WereRefused, all_numbers}
use Rattle.counter_http.specs.together.Faring.{IsToldSo}
use Rattle.counter_http.specs.together.Order.{Step, of_client}
use Rattle.counter_http.specs.together.Rounds.{AllDiffer, IsOfOneOf, number_in, numbers}
use Rattle.counter_http.specs.together.Standing.{AreRefused, IsGoing, IsNew, IsOver, IsParted, IsParting, MayBeLeft, StandsBy, StandsHere, pending, unread}
use Rattle.counter_http.specs.together.Serving.{IsWhyParted, Visit, closed_of, closings, number_of, openings}
use Rattle.counter_http.specs.together.Tracing.{IsNoWait, here_after, without}
use Rattle.counter_http.specs.believed.Messages.{No_head}
use Rattle.counter_http.specs.declared.client.Client.{Client}
use Rattle.counter_http.specs.declared.parting.Parting.{Parting}
use Rattle.counter_http.specs.declared.parting.Parting.TheVariants as parting
use Rattle.counter_http.proofs.Beside.{none_read_yet}
use Rattle.counter_http.proofs.Faring.{none_memory, told_none}
use Rattle.counter_http.proofs.Fronts.{ends_by, going_here, parted_here}
use Rattle.counter_http.proofs.Refused.{IsRefusedCause, refused_parted}
use Rattle.counter_http.proofs.Steps.{OfOther, no_answers, none_of}
use Rattle.counter_http.proofs.Stood.{IsCause, left_as, lost_as}
use Rattle.counter_http.proofs.Written.{parted_with}

-- ---- numbers

-- one of them is put after the first
moved_front : (ys zs : List ℕ) (n : ℕ) → Differ (ys ++ n ∷ zs) → Differ (n ∷ ys ++ zs)
moved_front [] zs n d = d
moved_front (y ∷ ys) zs n d =
    let rest = moved_front ys zs n d.1 in
    let parts = all_parts (λ (m : ℕ). y ≢ m) ys zs n d.0 in
    ((λ (e : n ≡ y). parts.0 (sym e), rest.0), (parts.1, rest.1))
  where
    all_parts : (P : ℕ → Type 0) (ys zs : List ℕ) (n : ℕ) → AllByRecursion P (ys ++ n ∷ zs)
        → P n × AllByRecursion P (ys ++ zs)
    all_parts P [] zs n all = all
    all_parts P (y ∷ ys) zs n all = let rest = all_parts P ys zs n all.1 in (rest.0, (all.0, rest.1))

all_moved : (P : ℕ → Type 0) (xs ys zs : List ℕ) (n : ℕ) → AllByRecursion P (xs ++ (ys ++ n ∷ zs))
    → AllByRecursion P ((xs ++ n ∷ []) ++ (ys ++ zs))
all_moved P [] [] zs n all = all
all_moved P [] (y ∷ ys) zs n all = let rest = all_moved P [] ys zs n all.1 in (rest.0, (all.0, rest.1))
all_moved P (x ∷ xs) ys zs n all = (all.0, all_moved P xs ys zs n all.1)

differ_moved : (xs ys zs : List ℕ) (n : ℕ) → Differ (xs ++ (ys ++ n ∷ zs)) → Differ ((xs ++ n ∷ []) ++ (ys ++ zs))
differ_moved [] ys zs n d = moved_front ys zs n d
differ_moved (x ∷ xs) ys zs n d = (all_moved (λ (m : ℕ). x ≢ m) xs ys zs n d.0, differ_moved xs ys zs n d.1)

-- one that is above them all
above : (xs : List ℕ) (n m : ℕ) → m < n → AllByRecursion (λ (x : ℕ). x < n) xs → AllByRecursion (λ (x : ℕ). m ≢ x) xs
    → AllByRecursion (λ (x : ℕ). m ≢ x) (xs ++ n ∷ [])
above [] n m few below all = (λ (e : m ≡ n). absurd (omega (arith, few)), tt)
above (x ∷ xs) n m few below all = (all.0, above xs n m few below.1 all.1)

differ_more : (xs : List ℕ) (n : ℕ) → AllByRecursion (λ (x : ℕ). x < n) xs → Differ xs → Differ (xs ++ n ∷ [])
differ_more [] n below d = (tt, tt)
differ_more (x ∷ xs) n below d = (above xs n x below.0 below.1 d.0, differ_more xs n below.1 d.1)

wider : (xs : List ℕ) (n : ℕ) → AllByRecursion (λ (x : ℕ). x < n) xs → AllByRecursion (λ (x : ℕ). x < n + 1) xs
wider [] n all = tt
wider (x ∷ xs) n all = let one : x < n = all.0 in (omega (arith, one), wider xs n all.1)

pub pairs_differ : (xs : List ℕ) → Differ xs → AllDiffer xs
pairs_differ [] d = λ i j e lt within. absurd (omega (arith, within))
pairs_differ (x ∷ xs) d =
    AllPairs-cons (λ (m n : ℕ). m ≢ n) x xs (All-from_recursion (λ (m : ℕ). x ≢ m) xs d.0) (pairs_differ xs d.1)

last_differ : (xs ys : List ℕ) → Differ (xs ++ ys) → Differ ys
last_differ [] ys d = d
last_differ (x ∷ xs) ys d = last_differ xs ys d.1

pub all_last : {A : Type 0} (P : A → Type 0) (xs ys : List A) → AllByRecursion P (xs ++ ys) → AllByRecursion P ys
all_last P [] ys all = all
all_last P (x ∷ xs) ys all = all_last P xs ys all.1

pub all_first : {A : Type 0} (P : A → Type 0) (xs ys : List A) → AllByRecursion P (xs ++ ys) → AllByRecursion P xs
all_first P [] ys all = tt
all_first P (x ∷ xs) ys all = (all.0, all_first P xs ys all.1)

pub each_weaker : {A : Type 0} (P Q : A → Type 0) → ((x : A) → P x → Q x) → (xs : List A) → AllByRecursion P xs → AllByRecursion Q xs
each_weaker P Q f [] all = tt
each_weaker P Q f (x ∷ xs) all = (f x all.0, each_weaker P Q f xs all.1)

-- ---- calls

pub openings-append : {E : Type 0} (xs ys : List (ClientsCall E)) → openings (xs ++ ys) ≡ openings xs ++ openings ys
openings-append [] ys = refl
openings-append (Waited es ∷ xs) ys = openings-append xs ys
openings-append (Nobody ∷ xs) ys = openings-append xs ys
openings-append (Gave n e ∷ xs) ys = ap (λ (t : List (ℕ × _)). (n, e) ∷ t) (openings-append xs ys)
openings-append (Closed n e ∷ xs) ys = openings-append xs ys
openings-append (Refused kind ∷ xs) ys = openings-append xs ys
openings-append (Gave_up n ∷ xs) ys = openings-append xs ys

pub closings-append : {E : Type 0} (xs ys : List (ClientsCall E)) → closings (xs ++ ys) ≡ closings xs ++ closings ys
closings-append [] ys = refl
closings-append (Waited es ∷ xs) ys = closings-append xs ys
closings-append (Nobody ∷ xs) ys = closings-append xs ys
closings-append (Gave n e ∷ xs) ys = closings-append xs ys
closings-append (Closed n e ∷ xs) ys = ap (λ (t : List (ℕ × _)). (n, e) ∷ t) (closings-append xs ys)
closings-append (Refused kind ∷ xs) ys = closings-append xs ys
closings-append (Gave_up n ∷ xs) ys = closings-append xs ys

pub here-append : {E : Type 0} (ns : List ℕ) (xs ys : List (ClientsCall E))
    → here_after ns (xs ++ ys) ≡ here_after (here_after ns xs) ys
here-append ns [] ys = refl
here-append ns (Waited es ∷ xs) ys = here-append ns xs ys
here-append ns (Nobody ∷ xs) ys = here-append ns xs ys
here-append ns (Gave n e ∷ xs) ys = here-append (ns ++ n ∷ []) xs ys
here-append ns (Closed n e ∷ xs) ys = here-append (without n ns) xs ys
here-append ns (Refused kind ∷ xs) ys = here-append ns xs ys
here-append ns (Gave_up n ∷ xs) ys = here-append ns xs ys

others_left : (n : ℕ) (ns : List ℕ) → AllByRecursion (λ (m : ℕ). n ≢ m) ns → without n ns ≡ ns
others_left n [] all = refl
others_left n (m ∷ ms) all =
    rw (ne_eqb m n (λ (e : m ≡ n). all.0 (sym e))) (ap (λ (xs : List ℕ). m ∷ xs) (others_left n ms all.1))

itself : (n : ℕ) → (n == n) ≡ true
itself n = elim (eqb_tells n n) [
  | inl same ↦ same.0
  | inr other ↦ absurd (other.1 refl)
]

-- it stood once
one_left : (n : ℕ) (ms ns : List ℕ) → Differ (ms ++ n ∷ ns) → without n (ms ++ n ∷ ns) ≡ ms ++ ns
one_left n [] ns d = rw (itself n) (others_left n ns d.0)
one_left n (m ∷ ms) ns d =
    rw (ne_eqb m n (all_parts_first ms d.0)) (ap (λ (xs : List ℕ). m ∷ xs) (one_left n ms ns d.1))
  where
    all_parts_first : (ys : List ℕ) → AllByRecursion (λ (k : ℕ). m ≢ k) (ys ++ n ∷ ns) → m ≢ n
    all_parts_first [] all = all.0
    all_parts_first (y ∷ ys) all = all_parts_first ys all.1

-- ---- those who are here and those who left, as more calls are made

here_told : {R W : Type 0} {known : R × W → Known} {steps : List Step} {fault : Option Fault}
    {refused : List Step} (calls more : List (ClientsCall (R × W)))
    (client : Client R W) → IsHere known steps fault refused calls client → IsHere known steps fault refused (calls ++ more) client
here_told calls more client is =
    record {
      given = is.given;
      came = Contains-append_left calls more _ is.came;
      stands = is.stands;
      are_refused = is.are_refused;
      told = is.told;
    }

-- and so was it said why
why_told : {E : Type 0} (stops : Type 0) (fault : Option Fault) (refused : List Step) (calls more : List (ClientsCall E)) (n : ℕ)
    (p : Parting) → IsWhyParted stops fault refused calls n p → IsWhyParted stops fault refused (calls ++ more) n p
why_told stops fault refused calls more n parting.GivenUp is = Contains-append_left calls more (Gave_up n) is
why_told stops fault refused calls more n parting.Stopped is = is
why_told stops fault refused calls more n parting.Served is = tt
why_told stops fault refused calls more n parting.Read is = tt
why_told stops fault refused calls more n parting.Write is = tt
why_told stops fault refused calls more n parting.Memory is = tt
why_told stops fault refused calls more n (parting.Bank why) is = is

visited_told : {E : Type 0} (stops : Type 0) (known : E → Known) (steps : List Step) (fault : Option Fault)
    (refused : List Step) (calls more : List (ClientsCall E))
    (v : Visit E) → HasLeft stops known steps fault refused calls v
    → HasLeft stops known steps fault refused (calls ++ more) v
visited_told stops known steps fault refused calls more v is =
    ((Contains-append_left calls more _ is.0.0, is.0.1), is.1, why_told stops fault refused calls more v.number v.parting is.2)

given_told : {E : Type 0} (calls more : List (ClientsCall E)) (fault : Option Fault) (given : List ℕ)
    → AreGivenUp fault calls given → AreGivenUp fault (calls ++ more) given
given_told calls more (Some why) given none = none
given_told calls more None given all =
    each_weaker (λ (n : ℕ). Contains calls (Gave_up n)) (λ (n : ℕ). Contains (calls ++ more) (Gave_up n))
    (λ n is. Contains-append_left calls more (Gave_up n) is) given all

-- ---- a client that came in

new_going : {i : ℕ} {k : Known} (steps : List Step) (has_more : Bool) → AllByRecursion (OfOther i) steps
    → IsGoing i k k steps has_more true [] []
new_going {i} {k} steps has_more others =
    let own : of_client i steps ≡ [] = none_of i steps others in
    record {
      read = rw own (Consumes-nil k.reader);
      stays = rw own tt;
      waits = λ e. record { ending = No_head; ends = λ some. absurd (some refl); answer = refl; room = omega arith };
      written = [];
      wrote = Appends-nil k.writer;
      answers = sym (ap joined (no_answers i steps others));
      more = more_none k.writes;
      through = λ e. inl (adds-none k.writes);
      prompt = rw own (none_read_yet i k.reads k.beside steps);
    }

new_here : {R W : Type 0} {known : R × W → Known} (steps : List Step) (number : ℕ) (given : R × W)
    (client : Client R W) → IsNew number given.0 given.1 client → AllByRecursion (OfOther number) steps
    → StandsHere known (known given) steps client
new_here {known = known} steps number given client is others =
    let ends = ends_by known is.reader_is is.writer_is in
    elim is.parting [
      | inl going ↦ going_here client is.number_is going ends refl is.shows is.unread_none is.pending_none
          (new_going steps client.has_more others)
      | inr lost ↦ parted_here client parting.Memory is.number_is lost ends is.pending_none
          (lost_as parting.Memory tt (left_as None (record { is = new_going steps true others })) tt)
    ]

new_told : {fault : Option Fault} {refused : List Step} {n : ℕ} (p : Option Parting) → (p ≡ None) ⊎ (p ≡ Some parting.Memory)
    → IsToldSo fault refused n p
new_told p (inl going) = told_none p None going (λ why e. cc e)
new_told p (inr lost) = told_none p (Some parting.Memory) lost none_memory

-- nothing of it was refused
none_told : {R W : Type 0} (known : R × W → Known) (k : Known) (steps : List Step) (fault : Option Fault)
    (refused : List Step) (client : Client R W) → AllByRecursion (OfOther client.number) refused
    → AreRefused known k steps fault refused client
none_told known k steps None refused client others = tt
none_told known k steps (Some why) [] client others = tt
none_told known k steps (Some why) (s ∷ ss) client others =
    ((λ own. absurd (others.0 own)), none_told known k steps (Some why) ss client others.1)

not_yet : (ns : List ℕ) (steps : List Step) (came : ℕ) → AllByRecursion (λ (n : ℕ). n < came) ns
    → AllByRecursion (IsOfOneOf ns) steps → AllByRecursion (OfOther came) steps
not_yet ns [] came below all = tt
not_yet ns (s ∷ ss) came below all =
    let before : s.client < came =
    All-contains (λ (n : ℕ). n < came) ns s.client (All-from_recursion (λ (n : ℕ). n < came) ns below) all.0 in
    (λ (e : s.client ≡ came). absurd (omega (arith, before)), not_yet ns ss came below all.1)

-- a number stands in a list still
whose_still : (ms ns : List ℕ) (ss : List Step) → AllByRecursion (λ (n : ℕ). Contains ns n) ms
    → AllByRecursion (IsOfOneOf ms) ss → AllByRecursion (IsOfOneOf ns) ss
whose_still ms ns ss all whose =
    each_weaker (IsOfOneOf ms) (IsOfOneOf ns)
    (λ s is. All-contains (λ (n : ℕ). Contains ns n) ms s.client (All-from_recursion (λ (n : ℕ). Contains ns n) ms all) is)
    ss whose

all_back : (P : ℕ → Type 0) (xs ys zs : List ℕ) (n : ℕ) → AllByRecursion P ((xs ++ n ∷ []) ++ (ys ++ zs))
    → AllByRecursion P (xs ++ (ys ++ n ∷ zs))
all_back P [] [] zs n all = all
all_back P [] (y ∷ ys) zs n all = (all.1.0, all_back P [] ys zs n (all.0, all.1.1))
all_back P (x ∷ xs) ys zs n all = (all.0, all_back P xs ys zs n all.1)

numbers_more : {R W : Type 0} (visits : List (Visit (R × W))) (here here' : List (Client R W)) (client : Client R W) (n : ℕ)
    → here' ≡ here ++ client ∷ [] → client.number ≡ n
    → all_numbers visits here' ≡ all_numbers visits here ++ n ∷ []
numbers_more visits here here' client n is number =
    ap (λ (x : List (Client _ _)). map number_of visits ++ numbers x) is
    ∙ ap (λ (x : List ℕ). map number_of visits ++ x) (map-append number_in here (client ∷ []))
    ∙ ap (λ (m : ℕ). map number_of visits ++ (numbers here ++ m ∷ [])) number
    ∙ sym (append_assoc (map number_of visits) (numbers here) (n ∷ []))

pub crowd_comes : {R W : Type 0} {stops : Type 0} {given : List ℕ} {known : R × W → Known} {g : Option (List (ClientsCall (R × W)))}
    {made : List (ClientsCall (R × W))} {steps : List Step} {fault : Option Fault} {refused : List Step}
    {a : Scene R W} (b : Scene R W) → IsCrowd stops given known g made steps fault refused a → (m : Comes a b)
    → IsCrowd stops given known g (made ++ Gave a.came m.given ∷ []) steps fault refused b
crowd_comes {R} {W} {stops} {given} {known} {g} {made} {steps} {fault} {refused} {a} b crowd m =
    let new : ClientsCall (R × W) = Gave a.came m.given in
    let calls = made ++ new ∷ [] in
    let all = numbers_more crowd.visits a.here b.here m.client a.came m.here m.is.number_is in
    let one : IsHere known steps fault refused calls m.client = record {
      given = m.given;
      came = Contains-append_right made (new ∷ []) (Gave m.client.number m.given)
          (0, omega arith, ap (λ (n : ℕ). Gave n m.given) (sym m.is.number_is));
      stands = new_here steps a.came m.given m.client m.is
          (not_yet (all_numbers crowd.visits a.here) steps a.came crowd.below
          (all_first (IsOfOneOf (all_numbers crowd.visits a.here)) steps refused crowd.whose));
      are_refused = none_told known (known m.given) steps fault refused m.client
          (subst (λ (n : ℕ). AllByRecursion (OfOther n) refused) (sym m.is.number_is)
          (not_yet (all_numbers crowd.visits a.here) refused a.came crowd.below
          (all_last (IsOfOneOf (all_numbers crowd.visits a.here)) steps refused crowd.whose)));
      told = new_told m.client.parting m.is.parting;
    } in
    record {
      made = adds-more g a.calls b.calls made (new ∷ []) crowd.made m.made;
      visits = crowd.visits;
      closed = crowd.closed ∙ sym (closings-append made (new ∷ []) ∙ append-nil (closings made));
      visited = each_weaker (HasLeft stops known steps fault refused made)
          (HasLeft stops known steps fault refused calls)
          (visited_told stops known steps fault refused made (new ∷ [])) crowd.visits crowd.visited;
      to_give_up = given_told made (new ∷ []) fault given crowd.to_give_up;
      are_here = subst (λ (x : List (Client R W)). AllByRecursion (IsHere known steps fault refused calls) x) (sym m.here)
          (all_more (IsHere known steps fault refused calls) a.here (m.client ∷ [])
          (each_weaker (IsHere known steps fault refused made) (IsHere known steps fault refused calls)
          (here_told made (new ∷ [])) a.here crowd.are_here) (one, tt));
      now = ap numbers m.here ∙ map-append number_in a.here (m.client ∷ [])
          ∙ ap (λ (n : ℕ). numbers a.here ++ n ∷ []) m.is.number_is ∙ ap (λ (ns : List ℕ). ns ++ a.came ∷ []) crowd.now
          ∙ sym (here-append [] made (new ∷ []));
      differ = subst Differ (sym all) (differ_more (all_numbers crowd.visits a.here) a.came crowd.below crowd.differ);
      below = subst (λ (n : ℕ). AllByRecursion (λ (x : ℕ). x < n) (all_numbers crowd.visits b.here)) (sym m.came)
          (subst (λ (x : List ℕ). AllByRecursion (λ (y : ℕ). y < a.came + 1) x) (sym all)
          (all_more (λ (y : ℕ). y < a.came + 1) (all_numbers crowd.visits a.here) (a.came ∷ [])
          (wider (all_numbers crowd.visits a.here) a.came crowd.below) (omega arith, tt)));
      whose = subst (λ (ns : List ℕ). AllByRecursion (IsOfOneOf ns) (steps ++ refused)) (sym all)
          (each_weaker (IsOfOneOf (all_numbers crowd.visits a.here))
          (IsOfOneOf (all_numbers crowd.visits a.here ++ a.came ∷ []))
          (λ s is. Contains-append_left (all_numbers crowd.visits a.here) (a.came ∷ []) s.client is) (steps ++ refused)
          crowd.whose);
      all = ap length all ∙ length-append (all_numbers crowd.visits a.here) (a.came ∷ [])
          ∙ ap (λ (n : ℕ). n + 1) crowd.all
          ∙ sym (ap length (openings-append made (new ∷ []))
          ∙ length-append (openings made) ((a.came, m.given) ∷ []));
      many = omega (arith, ap length all, length-append (all_numbers crowd.visits a.here) (a.came ∷ []), crowd.many, m.came);
    }

-- ---- a client that left

numbers_moved : {R W : Type 0} (visits : List (Visit (R × W))) (v : Visit (R × W)) (before after : List (Client R W))
    → all_numbers (visits ++ v ∷ []) (before ++ after)
    ≡ (map number_of visits ++ v.number ∷ []) ++ (numbers before ++ numbers after)
numbers_moved visits v before after =
    ap (λ (x : List ℕ). x ++ numbers (before ++ after)) (map-append number_of visits (v ∷ []))
    ∙ ap (λ (x : List ℕ). (map number_of visits ++ v.number ∷ []) ++ x) (map-append number_in before after)

numbers_split : {R W : Type 0} (visits : List (Visit (R × W))) (before after : List (Client R W)) (client : Client R W)
    → all_numbers visits (before ++ client ∷ after)
    ≡ map number_of visits ++ (numbers before ++ client.number ∷ numbers after)
numbers_split visits before after client =
    ap (λ (x : List ℕ). map number_of visits ++ x) (map-append number_in before (client ∷ after))

pub all_without : {A : Type 0} (P : A → Type 0) (xs ys : List A) (x : A) → AllByRecursion P (xs ++ x ∷ ys)
    → P x × AllByRecursion P (xs ++ ys)
all_without P [] ys x all = all
all_without P (z ∷ xs) ys x all = let rest = all_without P xs ys x all.1 in (rest.0, (all.0, rest.1))

moved_long : (xs ys zs : List ℕ) (n : ℕ)
    → length ((xs ++ n ∷ []) ++ (ys ++ zs)) ≡ length (xs ++ (ys ++ n ∷ zs))
moved_long xs ys zs n = omega (
  arith,
  length-append (xs ++ n ∷ []) (ys ++ zs),
  length-append xs (n ∷ []),
  length-append ys zs,
  length-append xs (ys ++ n ∷ zs),
  length-append ys (n ∷ zs),
)

abbrev IfRefused : Option Fault → Type 0 → Type 0
IfRefused None P = ⊤
IfRefused (Some fault) P = P

-- it was told what was refused of it
left_told : {R W : Type 0} (known : R × W → Known) (steps : List Step) (fault : Option Fault)
    (refused : List Step) (client : Client R W) (given left : R × W) (cause p : Parting)
    → IsParting client cause (left.0, left.1, p) → IfRefused fault ((IsOver client → ⊥) → IsRefusedCause cause)
    → AreRefused known (known given) steps fault refused client
    → WereRefused known steps fault refused
    (record { number = client.number; given = given; left = left; parting = p })
left_told known steps None refused client given left cause p is ours all = tt
left_told known steps (Some why) [] client given left cause p is ours all = tt
left_told known steps (Some why) (s ∷ ss) client given left cause p is ours all = (
  (λ own. refused_parted client cause (left.0, left.1, p) is ours (all.0 own)),
  left_told known steps (Some why) ss client given left cause p is ours all.1,
)

-- for what cause it may be parted from
is_cause : (stops : Type 0) (given : List ℕ) (n : ℕ) (cause : Parting) → MayPart stops given n cause → IsCause cause
is_cause stops given n parting.Memory may = tt
is_cause stops given n parting.GivenUp may = tt
is_cause stops given n parting.Stopped may = tt
is_cause stops given n parting.Served may = absurd may
is_cause stops given n parting.Read may = absurd may
is_cause stops given n parting.Write may = absurd may
is_cause stops given n (parting.Bank why) may = absurd may

none_contained : (n : ℕ) → Contains [] n → ⊥
none_contained n is = let within : is.0 < 0 = is.1 in omega (arith, within)

is_refused_cause : (stops : Type 0) (n : ℕ) (cause : Parting) → MayPart stops [] n cause → IsRefusedCause cause
is_refused_cause stops n parting.Memory may = tt
is_refused_cause stops n parting.GivenUp may = absurd (none_contained n may)
is_refused_cause stops n parting.Stopped may = tt
is_refused_cause stops n parting.Served may = absurd may
is_refused_cause stops n parting.Read may = absurd may
is_refused_cause stops n parting.Write may = absurd may
is_refused_cause stops n (parting.Bank why) may = absurd may

cause_where : {E : Type 0} (s : Type 0) (calls : List (ClientsCall E)) (given : List ℕ) (n : ℕ) (cause : Parting)
    (fault : Option Fault) (early : Type 0) → AreGivenUp fault calls given → (early → MayPart s given n cause)
    → IfRefused fault (early → IsRefusedCause cause)
cause_where s calls given n cause None early to_give_up may = tt
cause_where s calls given n cause (Some why) early none may =
    λ is. is_refused_cause s n cause (subst (λ (ns : List ℕ). MayPart s ns n cause) none (may is))

-- a wait said so, or clients are stopped
may_why : {E : Type 0} (s stops : Type 0) (calls : List (ClientsCall E)) (given : List ℕ) (n : ℕ) (cause : Parting)
    (fault : Option Fault) (refused : List Step) → (s → stops) → AreGivenUp fault calls given → MayPart s given n cause
    → IsWhyParted stops fault refused calls n cause
may_why s stops calls given n parting.Memory fault refused far to_give_up may = tt
may_why s stops calls given n parting.GivenUp None refused far to_give_up may =
    All-contains (λ (m : ℕ). Contains calls (Gave_up m)) given n
    (All-from_recursion (λ (m : ℕ). Contains calls (Gave_up m)) given to_give_up) may
may_why s stops calls given n parting.GivenUp (Some why) refused far none may =
    absurd (none_contained n (subst (λ (ns : List ℕ). Contains ns n) none may))
may_why s stops calls given n parting.Stopped fault refused far to_give_up may = far may
may_why s stops calls given n parting.Served fault refused far to_give_up may = absurd may
may_why s stops calls given n parting.Read fault refused far to_give_up may = absurd may
may_why s stops calls given n parting.Write fault refused far to_give_up may = absurd may
may_why s stops calls given n (parting.Bank why) fault refused far to_give_up may = absurd may

-- nobody who is here was given up or stopped
own_why : {E : Type 0} (stops : Type 0) (fault : Option Fault) (refused : List Step) (calls : List (ClientsCall E)) (n : ℕ)
    (p : Parting) (left : List ℕ) → MayBeLeft p left → IsToldSo fault refused n (Some p)
    → IsWhyParted stops fault refused calls n p
own_why stops fault refused calls n parting.GivenUp left is told = absurd is
own_why stops fault refused calls n parting.Stopped left is told = absurd is
own_why stops fault refused calls n parting.Served left is told = tt
own_why stops fault refused calls n parting.Read left is told = tt
own_why stops fault refused calls n parting.Write left is told = tt
own_why stops fault refused calls n parting.Memory left is told = tt
own_why stops fault refused calls n (parting.Bank why) left is told = told.why why refl

left_why : {R W : Type 0} {known : R × W → Known} {k : Known} {steps : List Step} {s stops : Type 0}
    (calls : List (ClientsCall (R × W))) (given : List ℕ) (fault : Option Fault) (refused : List Step) (client : Client R W)
    (cause : Parting) (parts : R × W × Parting) → IsParting client cause parts → (s → stops) → AreGivenUp fault calls given
    → ((IsOver client → ⊥) → MayPart s given client.number cause) → StandsHere known k steps client
    → IsToldSo fault refused client.number client.parting → IsWhyParted stops fault refused calls client.number parts.2
left_why {known = known} {k} {steps} {s} {stops} calls given fault refused client cause parts is far to_give_up may
    stands told =
    elim is.why [
      | inl early ↦ subst (λ (q : Parting). IsWhyParted stops fault refused calls client.number q) (sym early.0)
          (may_why s stops calls given client.number cause fault refused far to_give_up (may early.1))
      | inr over ↦ own_why stops fault refused calls client.number parts.2 (pending client)
          (parted_left parts.2 (pending client) (subst (λ (q : Option Parting). StandsBy q client.number k
          (known (client.reader, client.writer)) steps client.has_more client.shows_body (unread client)
          (pending client)) over.0 stands.is.is))
          (subst (λ (q : Option Parting). IsToldSo fault refused client.number q) over.0 told)
    ]
  where
    parted_left : (p : Parting) (left : List ℕ) → IsParted client.number k (known (client.reader, client.writer)) steps left p
        → MayBeLeft p left
    parted_left p left is = is.left

-- its place is known
left_one : {R W : Type 0} {stops : Type 0} {given : List ℕ} {known : R × W → Known} {g t' : Option (List (ClientsCall (R × W)))}
    {made : List (ClientsCall (R × W))} {steps : List Step} {fault : Option Fault} {refused : List Step} (t : Option (List (ClientsCall (R × W)))) (came : ℕ) (before after : List (Client R W))
    (client : Client R W) {s : Type 0} (cause : Parting) → (s → stops)
    → IsCrowd stops given known g made steps fault refused
    (record { calls = t; came = came; here = before ++ client ∷ after })
    → ((IsOver client → ⊥) → MayPart s given client.number cause) → (closes : Closes t t' client cause)
    → IsCrowd stops given known g (made ++ Closed client.number closes.left ∷ []) steps fault refused
    (record { calls = t'; came = came; here = before ++ after })
left_one {R} {W} {stops} {given} {known} {g} {t'} {made} {steps} {fault} {refused} t came before after client {s} cause far crowd may closes =
    let new : ClientsCall (R × W) = Closed client.number closes.left in
    let calls = made ++ new ∷ [] in
    let parts = all_without (IsHere known steps fault refused made) before after client crowd.are_here in
    let one : IsHere known steps fault refused made client = parts.0 in
    let v : Visit (R × W) = record {
      number = client.number;
      given = one.given;
      left = closes.left;
      parting = closes.parting;
    } in
    let numbers_now = numbers_moved crowd.visits v before after in
    let numbers_then = numbers_split crowd.visits before after client in
    let vs = map number_of crowd.visits in
    let moved_from = vs ++ (numbers before ++ client.number ∷ numbers after) in
    let moved_to = (vs ++ client.number ∷ []) ++ (numbers before ++ numbers after) in
    record {
      made = adds-more g t t' made (new ∷ []) crowd.made closes.made;
      visits = crowd.visits ++ v ∷ [];
      closed = map-append closed_of crowd.visits (v ∷ [])
          ∙ ap (λ (x : List (ℕ × (R × W))). x ++ (client.number, closes.left) ∷ []) crowd.closed
          ∙ sym (closings-append made (new ∷ []));
      visited = all_more (HasLeft stops known steps fault refused calls) crowd.visits (v ∷ [])
          (each_weaker (HasLeft stops known steps fault refused made)
          (HasLeft stops known steps fault refused calls)
          (visited_told stops known steps fault refused made (new ∷ [])) crowd.visits crowd.visited) (
            (
              (
                Contains-append_left made (new ∷ []) _ one.came,
                parted_with client cause (closes.left.0, closes.left.1, closes.parting) closes.is
                    (λ early. is_cause s given client.number cause (may early)) one.stands,
              ),
              left_told known steps fault refused client one.given closes.left cause closes.parting closes.is
                  (cause_where s made given client.number cause fault (IsOver client → ⊥) crowd.to_give_up may)
                  one.are_refused,
              why_told stops fault refused made (new ∷ []) client.number closes.parting
                  (left_why made given fault refused client cause (closes.left.0, closes.left.1, closes.parting) closes.is far
                  crowd.to_give_up may one.stands one.told),
            ),
            tt,
          );
      to_give_up = given_told made (new ∷ []) fault given crowd.to_give_up;
      are_here = each_weaker (IsHere known steps fault refused made) (IsHere known steps fault refused calls)
          (here_told made (new ∷ [])) (before ++ after) parts.1;
      now = map-append number_in before after
          ∙ sym (one_left client.number (numbers before) (numbers after) (last_differ vs _ (subst Differ numbers_then crowd.differ)))
          ∙ ap (without client.number) (sym (map-append number_in before (client ∷ after)) ∙ crowd.now)
          ∙ sym (here-append [] made (new ∷ []));
      differ = subst Differ (sym numbers_now) (differ_moved vs (numbers before) (numbers after) client.number
          (subst Differ numbers_then crowd.differ));
      below = subst (λ (x : List ℕ). AllByRecursion (λ (y : ℕ). y < came) x) (sym numbers_now)
          (all_moved (λ (y : ℕ). y < came) vs (numbers before) (numbers after) client.number
          (subst (λ (x : List ℕ). AllByRecursion (λ (y : ℕ). y < came) x) numbers_then crowd.below));
      whose = subst (λ (ns : List ℕ). AllByRecursion (IsOfOneOf ns) (steps ++ refused)) (sym numbers_now)
          (whose_still moved_from moved_to (steps ++ refused)
          (all_back (λ (n : ℕ). Contains moved_to n) vs (numbers before) (numbers after) client.number
          (recursion_from_All (λ (n : ℕ). Contains moved_to n) moved_to (All-contains_itself moved_to)))
          (subst (λ (ns : List ℕ). AllByRecursion (IsOfOneOf ns) (steps ++ refused)) numbers_then crowd.whose));
      all = ap length numbers_now ∙ moved_long vs (numbers before) (numbers after) client.number
          ∙ sym (ap length numbers_then) ∙ crowd.all
          ∙ sym (ap length (openings-append made (new ∷ []) ∙ append-nil (openings made)));
      many = omega (
        arith,
        ap length numbers_now,
        moved_long vs (numbers before) (numbers after) client.number,
        ap length numbers_then,
        crowd.many,
      );
    }

pub crowd_leaves : {R W : Type 0} {stops : Type 0} {given : List ℕ} {known : R × W → Known} {g : Option (List (ClientsCall (R × W)))}
    {made : List (ClientsCall (R × W))} {steps : List Step} {fault : Option Fault} {refused : List Step} {s : Type 0}
    {a : Scene R W} (b : Scene R W) → (s → stops) → IsCrowd stops given known g made steps fault refused a
    → (m : Leaves s given a b)
    → IsCrowd stops given known g (made ++ Closed m.client.number m.closes.left ∷ []) steps fault refused b
crowd_leaves {R} {W} {stops} {given} {known} {g} {made} {steps} {fault} {refused} {s} {a} b far crowd m =
    let calls = made ++ Closed m.client.number m.closes.left ∷ [] in
    subst (λ (x : List (Client R W)). IsCrowd stops given known g calls steps fault refused
    (record { calls = b.calls; came = b.came; here = x }))
    (sym m.here)
    (subst (λ (n : ℕ). IsCrowd stops given known g calls steps fault refused
    (record { calls = b.calls; came = n; here = m.before ++ m.after }))
    (sym m.came)
    (left_one a.calls a.came m.before m.after m.client m.cause far
    (subst (λ (x : List (Client R W)). IsCrowd stops given known g made steps fault refused
    (record { calls = a.calls; came = a.came; here = x }))
    m.was crowd) m.why m.closes))

-- ---- nobody comes or leaves

pub waited : {R W : Type 0} {stops : Type 0} {given : List ℕ} {known : R × W → Known} {g t' : Option (List (ClientsCall (R × W)))}
    {made : List (ClientsCall (R × W))} {steps : List Step} {fault : Option Fault} {refused : List Step}
    (t : Option (List (ClientsCall (R × W)))) (came : ℕ) (here : List (Client R W)) (more : List (ClientsCall (R × W)))
    (given' : List ℕ)
    → IsCrowd stops given known g made steps fault refused (record { calls = t; came = came; here = here })
    → AreGivenUp fault (made ++ more) given' → GrowsBy t t' more → openings more ≡ [] → closings more ≡ []
    → ((ns : List ℕ) → here_after ns more ≡ ns)
    → IsCrowd stops given' known g (made ++ more) steps fault refused
    (record { calls = t'; came = came; here = here })
waited {R} {W} {stops} {given} {known} {g} {t'} {made} {steps} {fault}
    {refused} t came here more given' crowd to_give_up grown none_came none_left same =
    let calls = made ++ more in
    record {
      made = adds-more g t t' made more crowd.made grown;
      visits = crowd.visits;
      closed = crowd.closed ∙ sym (closings-append made more
          ∙ ap (λ (x : List (ℕ × (R × W))). closings made ++ x) none_left ∙ append-nil (closings made));
      visited = each_weaker (HasLeft stops known steps fault refused made)
          (HasLeft stops known steps fault refused calls)
          (visited_told stops known steps fault refused made more) crowd.visits crowd.visited;
      to_give_up = to_give_up;
      are_here = each_weaker (IsHere known steps fault refused made) (IsHere known steps fault refused calls)
          (here_told made more) here crowd.are_here;
      now = crowd.now ∙ sym (here-append [] made more ∙ same (here_after [] made));
      differ = crowd.differ;
      below = crowd.below;
      whose = crowd.whose;
      all = crowd.all ∙ sym (ap length (openings-append made more
          ∙ ap (λ (x : List (ℕ × (R × W))). openings made ++ x) none_came ∙ append-nil (openings made)));
      many = crowd.many;
    }

pub crowd_stays : {R W : Type 0} {stops : Type 0} {given : List ℕ} {known : R × W → Known} {g : Option (List (ClientsCall (R × W)))}
    {made : List (ClientsCall (R × W))} {steps : List Step} {fault : Option Fault} {refused : List Step}
    {a : Scene R W} (b : Scene R W) → IsCrowd stops given known g made steps fault refused a → (m : Stays a b)
    → IsCrowd stops given known g (made ++ m.calls) steps fault refused b
crowd_stays {R} {W} {stops} {given} {known} {g} {made} {steps} {fault} {refused} {a} b crowd m =
    subst (λ (x : List (Client R W)). IsCrowd stops given known g (made ++ m.calls) steps fault refused
    (record { calls = b.calls; came = b.came; here = x }))
    (sym m.here)
    (subst (λ (n : ℕ). IsCrowd stops given known g (made ++ m.calls) steps fault refused
    (record { calls = b.calls; came = n; here = a.here })) (sym m.came)
    (waited a.calls a.came a.here m.calls given crowd
    (given_told made m.calls fault given crowd.to_give_up) m.made
    m.none_came m.none_left m.same))

none_opened : {E : Type 0} (ns : List ℕ) → openings {E = E} (given_up_told ns) ≡ []
none_opened [] = refl
none_opened (n ∷ ns) = none_opened ns

none_closed : {E : Type 0} (ns : List ℕ) → closings {E = E} (given_up_told ns) ≡ []
none_closed [] = refl
none_closed (n ∷ ns) = none_closed ns

none_moved : (E : Type 0) (ns ms : List ℕ) → here_after {E = E} ms (given_up_told ns) ≡ ms
none_moved E [] ms = refl
none_moved E (n ∷ ns) ms = none_moved E ns ms

pub given_no_wait : (E : Type 0) (ns : List ℕ) → AllByRecursion (IsNoWait {E = E}) (given_up_told ns)
given_no_wait E [] = tt
given_no_wait E (n ∷ ns) = (tt, given_no_wait E ns)

all_said : {E : Type 0} (calls : List (ClientsCall E)) (ns : List ℕ)
    → AllByRecursion (λ (n : ℕ). Contains (calls ++ given_up_told ns) (Gave_up n)) ns
all_said calls [] = tt
all_said {E} calls (n ∷ ns) = (
  Contains-append_right calls (Gave_up n ∷ given_up_told ns) (Gave_up n) (0, omega arith, refl),
  subst (λ (x : List (ClientsCall E)). AllByRecursion (λ (m : ℕ). Contains x (Gave_up m)) ns)
      (append_assoc calls (Gave_up n ∷ []) (given_up_told ns)) (all_said (calls ++ Gave_up n ∷ []) ns),
)

-- a wait says whom to give up
pub crowd_waits : {R W : Type 0} {stops : Type 0} {known : R × W → Known} {g t t' : Option (List (ClientsCall (R × W)))}
    {calls : List (ClientsCall (R × W))} {steps : List Step} {came : ℕ} {here : List (Client R W)}
    (ends : List (ℕ × (R × W))) (ns : List ℕ) → GrowsBy t t' (waited_told ends ns)
    → IsCrowd stops [] known g calls steps None [] (record { calls = t; came = came; here = here })
    → IsCrowd stops ns known g (calls ++ waited_told ends ns) steps None []
    (record { calls = t'; came = came; here = here })
crowd_waits {R} {W} {t = t} {calls = calls} {came = came} {here = here} ends ns made crowd =
    waited t came here (waited_told ends ns) ns crowd
    (subst (λ (x : List (ClientsCall (R × W))). AllByRecursion (λ (m : ℕ). Contains x (Gave_up m)) ns)
    (append_assoc calls (Waited ends ∷ []) (given_up_told ns)) (all_said (calls ++ Waited ends ∷ []) ns))
    made (none_opened ns) (none_closed ns) (none_moved (R × W) ns)

pub none_given : {E : Type 0} (fault : Option Fault) (calls : List (ClientsCall E)) → AreGivenUp fault calls []
none_given None calls = tt
none_given (Some why) calls = refl

-- nobody is to be given up any more
pub crowd_on : {R W : Type 0} {stops : Type 0} {given : List ℕ} {known : R × W → Known}
    {g : Option (List (ClientsCall (R × W)))} {calls : List (ClientsCall (R × W))} {steps : List Step}
    {fault : Option Fault} {refused : List Step} {a : Scene R W} → IsCrowd stops given known g calls steps fault refused a
    → IsCrowd stops [] known g calls steps fault refused a
crowd_on {calls = calls} {fault = fault} crowd = record {
  made = crowd.made;
  visits = crowd.visits;
  closed = crowd.closed;
  visited = crowd.visited;
  to_give_up = none_given fault calls;
  are_here = crowd.are_here;
  now = crowd.now;
  differ = crowd.differ;
  below = crowd.below;
  whose = crowd.whose;
  all = crowd.all;
  many = crowd.many;
}

-- clients may be stopped from now on
why_stopped : {E : Type 0} {s stops : Type 0} (fault : Option Fault) (refused : List Step) (calls : List (ClientsCall E)) (n : ℕ)
    (p : Parting) → (s → stops) → IsWhyParted s fault refused calls n p → IsWhyParted stops fault refused calls n p
why_stopped fault refused calls n parting.GivenUp far is = is
why_stopped fault refused calls n parting.Stopped far is = far is
why_stopped fault refused calls n parting.Served far is = tt
why_stopped fault refused calls n parting.Read far is = tt
why_stopped fault refused calls n parting.Write far is = tt
why_stopped fault refused calls n parting.Memory far is = tt
why_stopped fault refused calls n (parting.Bank why) far is = is

pub crowd_stops : {R W : Type 0} {s stops : Type 0} {given : List ℕ} {known : R × W → Known}
    {g : Option (List (ClientsCall (R × W)))} {calls : List (ClientsCall (R × W))} {steps : List Step}
    {fault : Option Fault} {refused : List Step} {a : Scene R W} → (s → stops)
    → IsCrowd s given known g calls steps fault refused a → IsCrowd stops given known g calls steps fault refused a
crowd_stops {s = s} {stops} {known = known} {calls = calls} {steps} {fault} {refused} far crowd = record {
  made = crowd.made;
  visits = crowd.visits;
  closed = crowd.closed;
  visited = each_weaker (HasLeft s known steps fault refused calls)
      (HasLeft stops known steps fault refused calls)
      (λ v is. (is.0, is.1, why_stopped fault refused calls v.number v.parting far is.2)) crowd.visits crowd.visited;
  to_give_up = crowd.to_give_up;
  are_here = crowd.are_here;
  now = crowd.now;
  differ = crowd.differ;
  below = crowd.below;
  whose = crowd.whose;
  all = crowd.all;
  many = crowd.many;
}
