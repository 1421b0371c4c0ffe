-- Clients that come in and leave, one after another.
use Rattle.std.proofs.Common.{◌≡◌, ℕ, ◌+◌, ◌<◌, List, [], ◌∷◌, ◌++◌, length, take, drop, get_or, Option}
use Rattle.std.proofs.Common.{refl, sym, ap, subst, ◌∙◌, append_assoc, append-nil, arith, inl, inr}
use Rattle.std.specs.Prelude.{◌≢◌, ◌⊎◌, Contains}
use Rattle.std.specs.List.{AllByRecursion}
use Rattle.std.proofs.lemmas.List.{drop_more, length-append, take-append-drop}
use Rattle.std.proofs.lemmas.List.Elements.{Contains-append_right}
use Rattle.std.proofs.lemmas.Option.{slice_get_read}
use Rattle.posting_rules.specs.declared.fault.Fault.{Fault}
use Rattle.posting_rules.specs.believed.Counter.{Seen}
use Rattle.posting_core.specs.believed.EndCalls.{GrowsBy}
use Rattle.posting_core.proofs.StreamedBatches.{all_more}
use Rattle.counter_http.specs.Clients.{ClientsCall, Gave}
use Rattle.counter_http.specs.Connections.{Known}
use Rattle.counter_http.specs.together.Crowd.{Closes, Comes, HaveMoved, IsCrowd, Leaves}
use Rattle.counter_http.specs.together.Crowd.{MayPart, Moves, Scene, Stays, calls_by}
use Rattle.counter_http.specs.together.Order.{Step}
use Rattle.counter_http.specs.together.Standing.{IsNew, IsOver}
use Rattle.counter_http.specs.together.Serving.{closings, openings}
use Rattle.counter_http.specs.together.Tracing.{IsNoWait, here_after}
use Rattle.counter_http.specs.declared.client.Client.{Client}
use Rattle.counter_http.specs.declared.parting.Parting.{Parting}
use Rattle.counter_http.specs.declared.parting.Parting.TheVariants as parting
use Rattle.counter_http.proofs.Crowds.{all_without, crowd_comes, crowd_leaves, crowd_stays}

-- ---- one after another

crowd_by : {R W : Type 0} {stops : Type 0} {given : List ℕ} {known : R × W → Known} {g : Option (List (ClientsCall (R × W)))}
    {made : List (ClientsCall (R × W))} {steps : List Step} {fault : Option Fault} {refused : List Step} {s : Type 0}
    (far : s → stops) (ms : List (Scene R W)) (calls : List (ClientsCall (R × W))) (a b : Scene R W) → Moves s given ms calls a b
    → IsCrowd stops given known g made steps fault refused a
    → IsCrowd stops given known g (made ++ calls) steps fault refused b
crowd_by {R} {W} {stops} {given} {known} {g} {made} {steps} {fault} {refused} far [] calls a b same crowd =
    subst (λ (x : List (ClientsCall (R × W))). IsCrowd stops given known g x steps fault refused b)
    (sym (ap (λ (x : List (ClientsCall (R × W))). made ++ x) same.1 ∙ append-nil made))
    (subst (λ (x : Scene R W). IsCrowd stops given known g made steps fault refused x) (sym same.0) crowd)
crowd_by {R} {W} {stops} {given} {known} {g} {made} {steps} {fault} {refused} {s} far (m ∷ ms) calls a b
    (one, rest, are, moves) crowd =
    subst (λ (x : List (ClientsCall (R × W))). IsCrowd stops given known g x steps fault refused b)
    (append_assoc made (calls_by one) rest ∙ ap (λ (x : List (ClientsCall (R × W))). made ++ x) (sym are))
    (crowd_by far ms rest m b moves (one_moved one))
  where
    one_moved : (one : Comes a m ⊎ (Leaves s given a m ⊎ Stays a m))
        → IsCrowd stops given known g (made ++ calls_by one) steps fault refused m
    one_moved (inl came) = crowd_comes m crowd came
    one_moved (inr (inl left)) = crowd_leaves m far crowd left
    one_moved (inr (inr same)) = crowd_stays m crowd same

pub crowd_moved : {R W : Type 0} {stops : Type 0} {given : List ℕ} {known : R × W → Known} {g : Option (List (ClientsCall (R × W)))}
    {made : List (ClientsCall (R × W))} {steps : List Step} {fault : Option Fault} {refused : List Step} {s : Type 0}
    {a b : Scene R W} → (s → stops) → (moved : HaveMoved s given a b)
    → IsCrowd stops given known g made steps fault refused a
    → IsCrowd stops given known g (made ++ moved.calls) steps fault refused b
crowd_moved {a = a} {b} far moved crowd = crowd_by far moved.scenes moved.calls a b moved.moves crowd

-- nobody was waited for meanwhile
moved_no_wait : {R W : Type 0} (s : Type 0) (given : List ℕ) (ms : List (Scene R W)) (calls : List (ClientsCall (R × W)))
    (a b : Scene R W) → Moves s given ms calls a b → AllByRecursion IsNoWait calls
moved_no_wait {R} {W} s given [] calls a b same =
    subst (λ (x : List (ClientsCall (R × W))). AllByRecursion IsNoWait x) (sym same.1) tt
moved_no_wait {R} {W} s given (m ∷ ms) calls a b (one, rest, are, moves) =
    subst (λ (x : List (ClientsCall (R × W))). AllByRecursion IsNoWait x) (sym are)
    (all_more IsNoWait (calls_by one) rest (one_no_wait one) (moved_no_wait s given ms rest m b moves))
  where
    one_no_wait : (one : Comes a m ⊎ (Leaves s given a m ⊎ Stays a m)) → AllByRecursion IsNoWait (calls_by one)
    one_no_wait (inl came) = (tt, tt)
    one_no_wait (inr (inl left)) = (tt, tt)
    one_no_wait (inr (inr same)) = same.none_waited

pub none_waited : {R W : Type 0} {s : Type 0} {given : List ℕ} {a b : Scene R W} (moved : HaveMoved s given a b)
    → AllByRecursion IsNoWait moved.calls
none_waited {s = s} {given} {a} {b} moved = moved_no_wait s given moved.scenes moved.calls a b moved.moves

pub moves_then : {R W : Type 0} (s : Type 0) (given : List ℕ) (ms ns : List (Scene R W)) (xs ys : List (ClientsCall (R × W)))
    (a b d : Scene R W) → Moves s given ms xs a b → Moves s given ns ys b d → Moves s given (ms ++ ns) (xs ++ ys) a d
moves_then {R} {W} s given [] ns xs ys a b d same moves =
    subst (λ (x : Scene R W). Moves s given ns (xs ++ ys) x d) same.0
    (subst (λ (x : List (ClientsCall (R × W))). Moves s given ns (x ++ ys) b d) (sym same.1) moves)
moves_then {R} {W} s given (m ∷ ms) ns xs ys a b d (one, rest, are, moves) two = (
  one,
  rest ++ ys,
  ap (λ (x : List (ClientsCall (R × W))). x ++ ys) are ∙ append_assoc (calls_by one) rest ys,
  moves_then s given ms ns rest ys m b d moves two,
)

unfoldable pub moved_then : {R W : Type 0} {s : Type 0} {given : List ℕ} {a b d : Scene R W} → HaveMoved s given a b
    → HaveMoved s given b d → HaveMoved s given a d
moved_then {s = s} {given} {a} {b} {d} one two = record {
  scenes = one.scenes ++ two.scenes;
  calls = one.calls ++ two.calls;
  moves = moves_then s given one.scenes two.scenes one.calls two.calls a b d one.moves two.moves;
}

pub moved_nothing : {R W : Type 0} {s : Type 0} {given : List ℕ} (a : Scene R W) → HaveMoved s given a a
moved_nothing a = record { scenes = []; calls = []; moves = (refl, refl) }

-- what holds of all who are here, and of whoever comes in, holds of all who are here then
pub moved_all : {R W : Type 0} {s : Type 0} {given : List ℕ} (P : Client R W → Type 0)
    → ((number : ℕ) (ends : R × W) (client : Client R W) → IsNew number ends.0 ends.1 client → P client)
    → (a b : Scene R W) → HaveMoved s given a b → AllByRecursion P a.here → AllByRecursion P b.here
moved_all {R} {W} {s} {given} P new a b moved all = one_by_one moved.scenes moved.calls a moved.moves all
  where
    one : (x m : Scene R W) → Comes x m ⊎ (Leaves s given x m ⊎ Stays x m) → AllByRecursion P x.here → AllByRecursion P m.here
    one x m (inl came) all =
        subst (λ (l : List (Client R W)). AllByRecursion P l) (sym came.here)
        (all_more P x.here (came.client ∷ []) all (new x.came came.given came.client came.is, tt))
    one x m (inr (inl left)) all =
        subst (λ (l : List (Client R W)). AllByRecursion P l) (sym left.here)
        (all_without P left.before left.after left.client
        (subst (λ (l : List (Client R W)). AllByRecursion P l) left.was all)).1
    one x m (inr (inr stays)) all = subst (λ (l : List (Client R W)). AllByRecursion P l) (sym stays.here) all

    one_by_one : (ms : List (Scene R W)) (calls : List (ClientsCall (R × W))) (x : Scene R W) → Moves s given ms calls x b
        → AllByRecursion P x.here → AllByRecursion P b.here
    one_by_one [] calls x same all =
        subst (λ (z : Scene R W). AllByRecursion P z.here) (sym same.0) all
    one_by_one (m ∷ ms) calls x (move, rest, are, moves) all = one_by_one ms rest m moves (one x m move all)

one_move : {R W : Type 0} {s : Type 0} {given : List ℕ} {a : Scene R W} (b : Scene R W)
    → Comes a b ⊎ (Leaves s given a b ⊎ Stays a b) → HaveMoved s given a b
one_move b one = record {
  scenes = b ∷ [];
  calls = calls_by one;
  moves = (one, [], sym (append-nil (calls_by one)), (refl, refl));
}

pub one_comes : {R W : Type 0} {s : Type 0} {given : List ℕ} {a b : Scene R W} → Comes a b → HaveMoved s given a b
one_comes {b = b} came = one_move b (inl came)

pub one_leaves : {R W : Type 0} {s : Type 0} {given : List ℕ} {a b : Scene R W} → Leaves s given a b
    → HaveMoved s given a b
one_leaves {b = b} left = one_move b (inr (inl left))

pub all_stay : {R W : Type 0} {s : Type 0} {given : List ℕ} {a b : Scene R W} → Stays a b → HaveMoved s given a b
all_stay {b = b} same = one_move b (inr (inr same))

-- ---- the moves of the loops

-- the one at a place left
pub left_at : {R W : Type 0} {s : Type 0} {given : List ℕ} {t t' : Option (List (ClientsCall (R × W)))}
    (here here' : List (Client R W)) (place : ℕ) (client : Client R W) (cause : Parting) → place < length here
    → client ≡ get_or here place client → here' ≡ take place here ++ drop (place + 1) here
    → ((IsOver client → ⊥) → MayPart s given client.number cause) → Closes t t' client cause
    → (came : ℕ) → HaveMoved s given (record { calls = t; came = came; here = here })
    (record { calls = t'; came = came; here = here' })
left_at here here' place client cause within is rest why closes came = one_leaves (record {
  before = take place here;
  client = client;
  after = drop (place + 1) here;
  was = sym (take-append-drop place here)
      ∙ ap (λ (x : List (Client _ _)). take place here ++ x) (drop_more here place client within
      ∙ ap (λ (x : Client _ _). x ∷ drop (place + 1) here) (sym is));
  here = rest;
  cause = cause;
  why = why;
  closes = closes;
  came = refl;
})

-- the one at the place is that which was removed
pub over_at : {R W : Type 0} (here : List (Client R W)) (place : ℕ) (looked removed : Client R W) → place < length here
    → looked ≡ get_or here place looked → removed ≡ get_or here place removed → IsOver looked → IsOver removed
over_at here place looked removed within is same over =
    let one = slice_get_read here (length here) place looked refl within is in
    let two = slice_get_read here (length here) place removed refl within same in
    subst (λ (x : Client _ _). IsOver x) (cc (one, two)) over

-- the last one left
pub left_last : {R W : Type 0} {s : Type 0} {given : List ℕ} {t t' : Option (List (ClientsCall (R × W)))}
    (here here' : List (Client R W)) (client : Client R W) (cause : Parting) → here ≡ here' ++ client ∷ []
    → MayPart s given client.number cause → Closes t t' client cause
    → (came : ℕ) → HaveMoved s given (record { calls = t; came = came; here = here })
    (record { calls = t'; came = came; here = here' })
left_last here here' client cause is why closes came = one_leaves (record {
  before = here';
  client = client;
  after = [];
  was = is;
  here = sym (append-nil here');
  cause = cause;
  why = λ early. why;
  closes = closes;
  came = refl;
})

pub some_last : {A : Type 0} (here here' : List A) (x : A) → here ≡ here' ++ x ∷ [] → here ≢ []
some_last here here' x is none =
    absurd (omega (arith, ap length is, length-append here' (x ∷ []), ap length none))

-- one came in
pub came_in : {R W : Type 0} {s : Type 0} {given : List ℕ} {t t' : Option (List (ClientsCall (R × W)))} (came came' : ℕ) (here here' : List (Client R W))
    (ends : R × W) (client : Client R W) → IsNew came ends.0 ends.1 client → here' ≡ here ++ client ∷ []
    → came' ≡ came + 1 → GrowsBy t t' (Gave came ends ∷ [])
    → HaveMoved s given (record { calls = t; came = came; here = here })
    (record { calls = t'; came = came'; here = here' })
came_in came came' here here' ends client is more next made = one_comes (record {
  given = ends;
  client = client;
  is = is;
  here = more;
  made = made;
  came = next;
})

-- there was no memory for it, and it left at once
pub turned_away : {R W : Type 0} {s : Type 0} {given : List ℕ} {t t' t'' : Option (List (ClientsCall (R × W)))} (came came' : ℕ)
    (here here' : List (Client R W)) (ends : R × W) (client other : Client R W) → IsNew came ends.0 ends.1 client
    → other ≡ client → here' ≡ here → came' ≡ came + 1 → GrowsBy t t' (Gave came ends ∷ [])
    → Closes t' t'' other parting.Memory
    → HaveMoved s given (record { calls = t; came = came; here = here })
    (record { calls = t''; came = came'; here = here' })
turned_away {R} {W} {s} {given} {t} {t'} {t''} came came' here here' ends client other is same rest next made closes =
    moved_then (came_in {s = s} {given = given} {t = t} {t' = t'} came came' here
    (here ++ client ∷ []) ends client is refl next made)
    (left_last (here ++ client ∷ []) here' client parting.Memory
    (ap (λ (x : List (Client R W)). x ++ client ∷ []) (sym rest)) tt
    (subst (λ (x : Client R W). Closes t' t'' x parting.Memory) same closes) came')

-- nobody came
unfoldable pub nobody_came_in : {R W : Type 0} {s : Type 0} {given : List ℕ} {t t' : Option (List (ClientsCall (R × W)))} (came : ℕ)
    (here : List (Client R W)) (calls : List (ClientsCall (R × W))) → openings calls ≡ [] → closings calls ≡ []
    → AllByRecursion IsNoWait calls → ((ns : List ℕ) → here_after ns calls ≡ ns) → GrowsBy t t' calls
    → HaveMoved s given (record { calls = t; came = came; here = here })
    (record { calls = t'; came = came; here = here })
nobody_came_in {R} {W} {t' = t'} came here calls none_came none_left waits same made = record {
  scenes = record { calls = t'; came = came; here = here } ∷ [];
  calls = calls;
  moves = (
    inr (inr (record {
      calls = calls;
      made = made;
      none_came = none_came;
      none_left = none_left;
      none_waited = waits;
      same = same;
      here = refl;
      came = refl;
    })),
    [],
    sym (append-nil calls),
    (refl, refl),
  );
}

-- and that was said last
pub said_last : {R W : Type 0} {s : Type 0} {given : List ℕ} {a : Scene R W} (t t' : Option (List (ClientsCall (R × W))))
    (came : ℕ) (here : List (Client R W)) (call : ClientsCall (R × W))
    (one : HaveMoved s given a (record { calls = t; came = came; here = here }))
    (none : openings (call ∷ []) ≡ []) (left : closings (call ∷ []) ≡ []) (waits : AllByRecursion IsNoWait (call ∷ []))
    (same : (ns : List ℕ) → here_after ns (call ∷ []) ≡ ns) (made : GrowsBy t t' (call ∷ []))
    → Contains (moved_then one (nobody_came_in {t = t} {t' = t'} came here (call ∷ []) none left waits same made)).calls call
unfolding moved_then nobody_came_in
said_last t t' came here call one none left waits same made =
    Contains-append_right one.calls (call ∷ []) call (0, omega arith, refl)
