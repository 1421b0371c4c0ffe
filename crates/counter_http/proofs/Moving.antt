-- Who moves on from one wait to the next.
use Rattle.std.proofs.Common.{◌≡◌, ℕ, ◌≤◌, List, [], ◌∷◌, ◌++◌, length, drop, Option, None, Some, Bool}
use Rattle.std.proofs.Common.{false, refl, sym, ap, subst, ◌∙◌, append_assoc, append-nil, arith, inl, inr}
use Rattle.std.specs.Prelude.{◌≢◌, ◌⊎◌, Contains}
use Rattle.std.specs.List.{AllByRecursion}
use Rattle.std.proofs.lemmas.List.{length-append, length-drop}
use Rattle.std.proofs.lemmas.List.Elements.{All-contains, All-from_recursion}
use Rattle.posting_rules.specs.declared.fault.Fault.{Fault}
use Rattle.posting_rules.specs.believed.Counter.{Seen}
use Rattle.posting_core.specs.believed.Batches.{joined}
use Rattle.counter_http.specs.Clients.{ClientsCall}
use Rattle.counter_http.specs.Connections.{Known}
use Rattle.counter_http.specs.together.Crowd.{Comes, GoesOn, IsHere, IsLeftOf, IsSettled, Leaves, Moves, Scene, Stays, all_settled, calls_by}
use Rattle.counter_http.specs.together.Faring.{HasNoMore}
use Rattle.counter_http.specs.together.Order.{Round, Step, answers_of, steps_in, steps_of}
use Rattle.counter_http.specs.together.Reading.{Lost, Reads, Refused, SaysAtEnd, Silent}
use Rattle.counter_http.specs.together.Rounds.{ends_here, ends_in}
use Rattle.counter_http.specs.together.Standing.{HasMuch, IsNew, StandsAs, Writes, pending}
use Rattle.counter_http.specs.together.Serving.{closings}
use Rattle.counter_http.specs.together.Tracing.{AllMoved, AreLaps, HasMovedOn, HasNoneLeft, Lap, LeftMuch, MayHaveMore}
use Rattle.counter_http.specs.together.Tracing.{OnLast, all_on, calls_in, calls_of, fills}
use Rattle.counter_http.specs.declared.client.Client.{Client}
use Rattle.counter_http.specs.declared.parting.Parting.{Parting}
use Rattle.counter_http.specs.declared.parting.Parting.TheVariants as parting
use Rattle.counter_http.proofs.ConnectionLoop.{unfinished_none}
use Rattle.counter_http.proofs.Crowds.{all_without, closings-append, each_weaker}
use Rattle.counter_http.proofs.Fronts.{going_of}
use Rattle.counter_http.proofs.Readings.{number_read}
use Rattle.counter_http.proofs.Stood.{left_as, stands_of}
use Rattle.counter_http.proofs.Written.{number_written}

-- ---- what holds of the last round

steps_more : (rs : List Round) (r : Round) → steps_of rs ++ steps_in r ≡ steps_of (rs ++ r ∷ [])
steps_more [] r = sym (append-nil (steps_in r))
steps_more (s ∷ rs) r =
    append_assoc (steps_in s) (steps_of rs) (steps_in r) ∙ ap (λ (x : List Step). steps_in s ++ x) (steps_more rs r)

-- another holds of it, by what was called and answered until then
pub last_then : {E : Type 0} (P Q : List (ClientsCall E) → List Step → Lap E → Round → Type 0)
    (all : List (ClientsCall E)) (steps : List Step)
    → ((calls : List (ClientsCall E)) (before : List Step) (l : Lap E) (r : Round) → calls ++ calls_in l ≡ all
    → before ++ steps_in r ≡ steps → P calls before l r → Q calls before l r)
    → (known : E → Known) (n : ℕ) (calls : List (ClientsCall E)) (before : List Round) (ls : List (Lap E))
    (rs : List Round) → AreLaps known n calls before ls rs → calls ++ calls_of ls ≡ all
    → steps_of (before ++ rs) ≡ steps → OnLast P calls before ls rs → OnLast Q calls before ls rs
last_then P Q all steps f known n calls before [] rs laps called answered is = tt
last_then P Q all steps f known n calls before (l ∷ ls) [] laps called answered is = tt
last_then P Q all steps f known n calls before (l ∷ []) (r ∷ []) laps called answered is =
    f calls (steps_of before) l r
    (ap (λ (x : List (ClientsCall _)). calls ++ x) (sym (append-nil (calls_in l))) ∙ called)
    (steps_more before r ∙ answered) is
last_then P Q all steps f known n calls before (l ∷ []) (r ∷ s ∷ rs) laps called answered is = absurd laps.1
last_then P Q all steps f known n calls before (l ∷ m ∷ ls) (r ∷ rs) laps called answered is =
    last_then P Q all steps f known n (calls ++ calls_in l) (before ++ r ∷ []) (m ∷ ls) rs laps.1
    (append_assoc calls (calls_in l) (calls_of (m ∷ ls)) ∙ called)
    (ap steps_of (append_assoc before (r ∷ []) rs) ∙ answered) is

-- it holds of one more
pub last_one : {E : Type 0} (P : List (ClientsCall E) → List Step → Lap E → Round → Type 0) (known : E → Known)
    (n : ℕ) (calls : List (ClientsCall E)) (before : List Round) (ls : List (Lap E)) (rs : List Round) (l : Lap E) (r : Round)
    → AreLaps known n calls before ls rs → P (calls ++ calls_of ls) (steps_of (before ++ rs)) l r
    → OnLast P calls before (ls ++ l ∷ []) (rs ++ r ∷ [])
last_one P known n calls before [] [] l r laps is =
    subst (λ (x : List (ClientsCall _)). P x (steps_of before) l r) (append-nil calls)
    (subst (λ (x : List Round). P (calls ++ []) (steps_of x) l r) (append-nil before) is)
last_one P known n calls before [] (s ∷ rs) l r laps is = absurd laps
last_one P known n calls before (k ∷ ls) [] l r laps is = absurd laps
last_one {E} P known n calls before (k ∷ ls) (s ∷ rs) l r laps is =
    behind ls (last_one P known n (calls ++ calls_in k) (before ++ s ∷ []) ls rs l r laps.1
    (subst (λ (x : List (ClientsCall E)). P x (steps_of ((before ++ s ∷ []) ++ rs)) l r)
    (sym (append_assoc calls (calls_in k) (calls_of ls)))
    (subst (λ (x : List Round). P (calls ++ calls_of (k ∷ ls)) (steps_of x) l r)
    (sym (append_assoc before (s ∷ []) rs)) is)))
  where
    behind : (ms : List (Lap E)) → OnLast P (calls ++ calls_in k) (before ++ s ∷ []) (ms ++ l ∷ []) (rs ++ r ∷ [])
        → OnLast P calls before (k ∷ (ms ++ l ∷ [])) (s ∷ (rs ++ r ∷ []))
    behind [] last = last
    behind (m ∷ ms) last = last

-- ---- all rounds

pub moved_more : {E : Type 0} (spared : Type 0) (known : E → Known) (n : ℕ) (calls : List (ClientsCall E))
    (before : List Round) (ls : List (Lap E)) (rs : List Round) (m : Lap E) (r : Round) → AreLaps known n calls before ls rs
    → AllMoved spared known calls before ls rs → OnLast (all_on (fills spared) known m.waited) calls before ls rs
    → AllMoved spared known calls before (ls ++ m ∷ []) (rs ++ r ∷ [])
moved_more spared known n calls before [] rs m r laps moved last = tt
moved_more spared known n calls before (l ∷ ls) [] m r laps moved last = absurd laps
moved_more spared known n calls before (l ∷ []) (s ∷ []) m r laps moved last = (last, tt)
moved_more spared known n calls before (l ∷ []) (s ∷ t ∷ rs) m r laps moved last = absurd laps.1
moved_more spared known n calls before (l ∷ k ∷ ls) (s ∷ rs) m r laps moved last = (
  moved.0,
  moved_more spared known n (calls ++ calls_in l) (before ++ s ∷ []) (k ∷ ls) rs m r laps.1 moved.1 last,
)

-- ---- one that is here after a round

none_left : {i : ℕ} {k l : Known} {steps : List Step} {has_more shown : Bool} {rest pending : List ℕ}
    (p : Option Parting) (so : StandsAs p i k l steps has_more shown rest pending)
    → ((q : Parting) → p ≡ Some q → pending ≢ []) → (has_more ≡ false) ⊎ ((q : Parting) × (p ≡ Some q))
    → HasNoneLeft (left_as p so).stands
unfolding left_as stands_of
none_left {rest = rest} None so left (inl no_more) = unfinished_none rest (so.is.waits no_more)
none_left None so left (inr (q, is)) = absurd (cc is)
none_left (Some parting.Served) so left more = tt
none_left (Some parting.Read) so left more = so.is.parts.no_more
none_left (Some parting.Write) so left more = absurd (left parting.Write refl so.is.left)
none_left (Some (parting.Bank why)) so left more = tt
none_left (Some parting.Memory) so left more = absurd (left parting.Memory refl so.is.left)
none_left (Some parting.GivenUp) so left more = absurd so.is.left
none_left (Some parting.Stopped) so left more = absurd so.is.left

-- as it is waited for
waited_so : {R W : Type 0} {fault : Option Fault} {refused : List Step} (late : Type 0) (known : R × W → Known) (calls : List (ClientsCall (R × W)))
    (steps : List Step) (l : Lap (R × W)) (r : Round) (client : Client R W)
    → IsHere known (steps ++ steps_in r) fault refused (calls ++ calls_in l) client
    → IsSettled late known calls steps l r client
    → HasMovedOn late known calls steps l r (ends_in client)
waited_so late known calls steps l r client is settled =
    let left = left_as client.parting is.stands.is in
    record {
      given = is.given;
      came = is.came;
      lost = left.lost;
      rest = left.rest;
      last = left.last;
      read = left.read;
      stands = left.stands;
      none = none settled.1;
    }
  where
    none : HasNoMore client ⊎ MayHaveMore late known calls steps l r client.number
        → HasNoneLeft (left_as client.parting is.stands.is).stands ⊎ MayHaveMore late known calls steps l r client.number
    none (inl no_more) =
        inl (none_left client.parting is.stands.is (λ q why empty. settled.0 (record { parting = q; is = why; none = empty }))
        no_more)
    none (inr may) = inr may

pub all_waited : {R W : Type 0} (fault : Option Fault) (refused : List Step) (late : Round → Type 0) (known : R × W → Known) (calls : List (ClientsCall (R × W)))
    (steps : List Step) (l : Lap (R × W)) (r : Round) (all : List (ClientsCall (R × W))) (sofar : List Step)
    (here : List (Client R W)) → calls ++ calls_in l ≡ all → steps ++ steps_in r ≡ sofar
    → AllByRecursion (IsHere known sofar fault refused all) here → all_settled late known here calls steps l r
    → all_on late known (ends_here here) calls steps l r
all_waited fault refused late known calls steps l r all sofar [] called answered are settled = tt
all_waited {R} {W} fault refused late known calls steps l r all sofar (x ∷ xs) called answered are settled = (
  waited_so (late r) known calls steps l r x
      (subst (λ (cs : List (ClientsCall (R × W))). IsHere known (steps ++ steps_in r) fault refused cs x) (sym called)
      (subst (λ (ss : List Step). IsHere known ss fault refused all x) (sym answered) are.0)) settled.0,
  all_waited fault refused late known calls steps l r all sofar xs called answered are.1 settled.1,
)

-- ---- one that has much to take

-- if it has much to take as messages are answered, it had as it was waited for
abbrev pub HadMuch : {R W : Type 0} → (R × W → Known) → List Step → List (ClientsCall (R × W))
    → List (ℕ × (R × W)) → Client R W → Type 0
HadMuch known steps calls waited client =
    HasMuch client → client.parting ≡ None → LeftMuch known steps calls waited client.number

much_here : {R W : Type 0} (known : R × W → Known) (steps : List Step) (calls : List (ClientsCall (R × W)))
    (waited : List (ℕ × (R × W))) (client : Client R W) → IsHere known steps None [] calls client
    → Contains waited (ends_in client) → HadMuch known steps calls waited client
much_here known steps calls waited client is one much going =
    let g = going_of client going is.stands in
    record {
      ends = (client.reader, client.writer);
      one = one;
      given = is.given;
      came = is.came;
      written = g.written;
      wrote = g.wrote;
      many =
          let all : length (g.written ++ pending client) ≡ length (joined (answers_of client.number steps)) =
          ap length g.answers in
          omega (arith, all, much, length-append g.written (pending client));
    }

much_written : {R W : Type 0} {known : R × W → Known} (old new : Client R W) → Writes known old new → HasMuch new
    → new.parting ≡ None → HasMuch old × (old.parting ≡ None)
much_written old new (inl same) much going =
    (subst (λ (x : Client _ _). HasMuch x) same much, ap (λ (x : Client _ _). x.parting) (sym same) ∙ going)
much_written old new (inr (inl w)) much going =
    let left : length (pending new) ≡ length (drop w.count (pending old)) = ap length w.left in
    (omega (arith, much, left, length-drop w.count (pending old)), sym w.parting ∙ going)
much_written old new (inr (inr w)) much going = absurd (cc (w.parting, going))

says_parted : {R W : Type 0} (old new : Client R W) → SaysAtEnd old new → new.parting ≢ None
says_parted old new (Silent empty none why) going = cc (why, going)
says_parted old new (Refused some text why) going = cc (why, going)
says_parted old new (Lost none why) going = cc (why, going)

much_read : {R W : Type 0} {known : R × W → Known} (old new : Client R W) → Reads known old new → HasMuch new
    → new.parting ≡ None → HasMuch old × (old.parting ≡ None)
much_read old new (inl same) much going =
    (subst (λ (x : Client _ _). HasMuch x) same much, ap (λ (x : Client _ _). x.parting) (sym same) ∙ going)
much_read old new (inr (inl some)) much going = absurd (omega (arith, much, ap length some.none))
much_read old new (inr (inr (inl end))) much going = absurd (says_parted old new end.says going)
much_read old new (inr (inr (inr last))) much going = absurd (cc (last.parting, going))

pub much_goes : {R W : Type 0} (known : R × W → Known) (steps : List Step) (calls : List (ClientsCall (R × W)))
    (waited : List (ℕ × (R × W))) (old new : Client R W) → GoesOn known old new
    → IsHere known steps None [] calls old × Contains waited (ends_in old)
    → HadMuch known steps calls waited new
much_goes known steps calls waited old new (inl same) is much going =
    subst (λ (n : ℕ). LeftMuch known steps calls waited n) (ap (λ (x : Client _ _). x.number) (sym same))
    (much_here known steps calls waited old is.0 is.1 (subst (λ (x : Client _ _). HasMuch x) same much)
    (ap (λ (x : Client _ _). x.parting) (sym same) ∙ going))
much_goes known steps calls waited old new (inr served) is much going =
    let between = much_read served.between new served.reads much going in
    let before = much_written old served.between served.writes between.0 between.1 in
    subst (λ (n : ℕ). LeftMuch known steps calls waited n)
    (sym (number_read served.between new served.reads ∙ number_written old served.between served.writes))
    (much_here known steps calls waited old is.0 is.1 before.0 before.1)

pub each_ends : {R W : Type 0} (P : ℕ × (R × W) → Type 0) (here : List (Client R W)) → AllByRecursion P (ends_here here)
    → AllByRecursion (λ (x : Client R W). P (ends_in x)) here
each_ends P [] all = tt
each_ends P (x ∷ xs) all = (all.0, each_ends P xs all.1)

pub much_new : {R W : Type 0} (known : R × W → Known) (steps : List Step) (calls : List (ClientsCall (R × W)))
    (waited : List (ℕ × (R × W))) (number : ℕ) (ends : R × W) (client : Client R W) → IsNew number ends.0 ends.1 client
    → HadMuch known steps calls waited client
much_new known steps calls waited number ends client is much going =
    absurd (omega (arith, much, ap length is.pending_none))

-- ---- after a round

-- no more can be done for it, or there is a cause
abbrev pub IsDone : {R W : Type 0} → (late : Type 0) → (R × W → Known) → List (ClientsCall (R × W))
    → List Step → Lap (R × W) → Round → Client R W → Type 0
IsDone late known calls steps l r client =
    HasNoMore client ⊎ MayHaveMore late known calls steps l r client.number

-- no write changes that
pub done_written : {R W : Type 0} {known : R × W → Known} (late : Type 0) (calls : List (ClientsCall (R × W)))
    (steps : List Step) (l : Lap (R × W)) (r : Round) (old new : Client R W) → Writes known old new
    → IsDone late known calls steps l r old → IsDone late known calls steps l r new
done_written {known = known} late calls steps l r old new (inl same) is =
    subst (λ (x : Client _ _). IsDone late known calls steps l r x) (sym same) is
done_written {known = known} late calls steps l r old new (inr (inr w)) is = inl (inr (parting.Write, w.parting))
done_written {known = known} late calls steps l r old new (inr (inl w)) (inl (inl none)) =
    inl (inl (w.has_more ∙ none))
done_written {known = known} late calls steps l r old new (inr (inl w)) (inl (inr (p, is))) =
    inl (inr (p, w.parting ∙ is))
done_written {known = known} late calls steps l r old new (inr (inl w)) (inr may) =
    inr (subst (λ (n : ℕ). MayHaveMore late known calls steps l r n) (sym w.number) may)

-- those who are left are settled
pub left_settled : {R W : Type 0} (late : Round → Type 0) (known : R × W → Known) (calls : List (ClientsCall (R × W)))
    (steps : List Step) (l : Lap (R × W)) (r : Round) (here left : List (Client R W)) → AllByRecursion (IsLeftOf here) left
    → AllByRecursion (IsDone (late r) known calls steps l r) here → all_settled late known left calls steps l r
left_settled late known calls steps l r here left rest done =
    each_weaker (IsLeftOf here) (IsSettled (late r) known calls steps l r)
    (λ x is. (
      is.1,
      All-contains (IsDone (late r) known calls steps l r) here x
          (All-from_recursion (IsDone (late r) known calls steps l r) here done) is.0,
    )) left rest

-- ---- those whose connections are closed at last

came_up : {R W : Type 0} (s : Type 0) (given : List ℕ) (ms : List (Scene R W)) (calls : List (ClientsCall (R × W)))
    (a b : Scene R W) → Moves s given ms calls a b → a.came ≤ b.came
came_up s given [] calls a b same = let e = ap (λ (x : Scene _ _). x.came) same.0 in omega (arith, e)
came_up s given (m ∷ ms) calls a b (one, rest, are, moves) =
    let more = came_up s given ms rest m b moves in
    elim one [
      | inl came ↦ let e = came.came in omega (arith, more, e)
      | inr (inl left) ↦ let e = left.came in omega (arith, more, e)
      | inr (inr stays) ↦ let e = stays.came in omega (arith, more, e)
    ]

closed_by : {R W : Type 0} {s : Type 0} {given : List ℕ} (P : ℕ × (R × W) → Type 0) (a m b : Scene R W)
    (rest : List (ClientsCall (R × W))) (one : Comes a m ⊎ (Leaves s given a m ⊎ Stays a m)) → m.came ≤ b.came → a.came ≡ b.came
    → (m.came ≡ b.came → AllByRecursion (λ (x : Client R W). P (ends_in x)) m.here → AllByRecursion P (closings rest))
    → AllByRecursion (λ (x : Client R W). P (ends_in x)) a.here → AllByRecursion P (closings (calls_by one) ++ closings rest)
closed_by P a m b rest (inl came) up many more all = let e = came.came in absurd (omega (arith, e, many, up))
closed_by {R} {W} P a m b rest (inr (inl left)) up many more all =
    let parts = all_without (λ (x : Client R W). P (ends_in x)) left.before left.after left.client
    (subst (λ (l : List (Client R W)). AllByRecursion (λ (x : Client R W). P (ends_in x)) l) left.was all) in
    let e = left.came in (
      subst (λ (r : R). P (left.client.number, (r, left.closes.left.1))) (sym left.closes.is.reader)
          (subst (λ (w : W). P (left.client.number, (left.client.reader, w))) (sym left.closes.is.writer) parts.0),
      more (omega (arith, e, many))
          (subst (λ (l : List (Client R W)). AllByRecursion (λ (x : Client R W). P (ends_in x)) l) (sym left.here) parts.1),
    )
closed_by {R} {W} P a m b rest (inr (inr stays)) up many more all =
    let e = stays.came in
    subst (λ (es : List (ℕ × (R × W))). AllByRecursion P (es ++ closings rest)) (sym stays.none_left)
    (more (omega (arith, e, many))
    (subst (λ (l : List (Client R W)). AllByRecursion (λ (x : Client R W). P (ends_in x)) l) (sym stays.here) all))

-- each was here, and nobody came
pub closed_all : {R W : Type 0} (s : Type 0) (given : List ℕ) (P : ℕ × (R × W) → Type 0) (ms : List (Scene R W))
    (calls : List (ClientsCall (R × W))) (a b : Scene R W) → Moves s given ms calls a b → a.came ≡ b.came
    → AllByRecursion (λ (x : Client R W). P (ends_in x)) a.here → AllByRecursion P (closings calls)
closed_all {R} {W} s given P [] calls a b same many all =
    subst (λ (cs : List (ClientsCall (R × W))). AllByRecursion P (closings cs)) (sym same.1) tt
closed_all {R} {W} s given P (m ∷ ms) calls a b (one, rest, are, moves) many all =
    subst (λ (es : List (ℕ × (R × W))). AllByRecursion P es) (sym (ap closings are ∙ closings-append (calls_by one) rest))
    (closed_by P a m b rest one (came_up s given ms rest m b moves) many
    (λ same here. closed_all s given P ms rest m b moves same here) all)
