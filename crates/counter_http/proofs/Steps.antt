-- Messages in one order, and those of one client among them.
use Rattle.std.proofs.Common.{◌≡◌, ℕ, List, [], ◌∷◌, ◌++◌, Bool, true, false, refl, ap, ◌∙◌, eqb}
use Rattle.std.proofs.Common.{eq-eqb}
use Rattle.std.specs.{Prelude.◌≢◌, List.AllByRecursion}
use Rattle.std.proofs.lemmas.{Bool.ne_eqb, List.map-append, List.Concat.flat_map-append}
use Rattle.counter_http.specs.together.Order.{Step, answers_of, if_own, of_client, submitted_by, turn_in, turns_of}
use Rattle.counter_http.specs.believed.Turns.{Turn, commands_in, commands_of}

pub submitted-append : (ss ts : List Step) → submitted_by (ss ++ ts) ≡ submitted_by ss ++ submitted_by ts
submitted-append ss ts =
    ap commands_of (map-append turn_in ss ts) ∙ flat_map-append commands_in (turns_of ss) (turns_of ts)

own_append : {A : Type 0} (b : Bool) (x : A) (xs ys zs : List A) → zs ≡ xs ++ ys
    → if_own b x zs ≡ if_own b x xs ++ ys
own_append true x xs ys zs e = ap (λ t. x ∷ t) e
own_append false x xs ys zs e = e

pub of_client-append : (i : ℕ) (ss ts : List Step) → of_client i (ss ++ ts) ≡ of_client i ss ++ of_client i ts
of_client-append i [] ts = refl
of_client-append i (s ∷ ss) ts =
    own_append (eqb s.client i) s.turn (of_client i ss) (of_client i ts) (of_client i (ss ++ ts))
    (of_client-append i ss ts)

pub answers_of-append : (i : ℕ) (ss ts : List Step) → answers_of i (ss ++ ts) ≡ answers_of i ss ++ answers_of i ts
answers_of-append i [] ts = refl
answers_of-append i (s ∷ ss) ts =
    own_append (eqb s.client i) s.answer (answers_of i ss) (answers_of i ts) (answers_of i (ss ++ ts))
    (answers_of-append i ss ts)

-- ---- of others

abbrev pub OfOther : ℕ → Step → Type 0
OfOther i s = s.client ≢ i

abbrev pub OfOne : ℕ → Step → Type 0
OfOne i s = s.client ≡ i

pub none_of : (i : ℕ) (ts : List Step) → AllByRecursion (OfOther i) ts → of_client i ts ≡ []
none_of i [] all = refl
none_of i (t ∷ ts) all = rw (ne_eqb t.client i all.0) (none_of i ts all.1)

pub no_answers : (i : ℕ) (ts : List Step) → AllByRecursion (OfOther i) ts → answers_of i ts ≡ []
no_answers i [] all = refl
no_answers i (t ∷ ts) all = rw (ne_eqb t.client i all.0) (no_answers i ts all.1)

-- ---- its own

pub all_of : (i : ℕ) (ts : List Step) → AllByRecursion (OfOne i) ts → of_client i ts ≡ turns_of ts
all_of i [] all = refl
all_of i (t ∷ ts) all = rw (eq-eqb t.client i all.0) (ap (λ (x : List Turn). t.turn ∷ x) (all_of i ts all.1))

pub one_answer : (i : ℕ) (t : Step) → t.client ≡ i → answers_of i (t ∷ []) ≡ t.answer ∷ []
one_answer i t own = rw (eq-eqb t.client i own) refl
