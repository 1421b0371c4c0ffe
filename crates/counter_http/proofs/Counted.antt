-- Replies that are counted, some after others.
use Rattle.std.proofs.Common.{◌≡◌, ℕ, ◌+◌, List, [], ◌∷◌, ◌++◌, length, Bool, refl, sym, ap, subst, ◌∙◌}
use Rattle.std.proofs.Common.{append_assoc, append-nil, arith, inl, inr}
use Rattle.std.specs.Prelude.{filter}
use Rattle.std.proofs.lemmas.Bool.{cases_Bool, cases_lt}
use Rattle.std.proofs.lemmas.List.{length-append, Concat.flat_map-append}
use Rattle.message_records.specs.declared.records.Outcome.{Outcome}
use Rattle.message_records.specs.declared.records.Outcome.TheVariants.{Posted, NoTeller, WrongBranch}
use Rattle.message_records.specs.declared.records.Outcome.TheVariants.{NoAccount, BelowFloor, OverLimit}
use Rattle.message_records.specs.declared.records.Outcome.TheVariants.{ReusedNumber, Closed, Sealed, Full, Malformed}
use Rattle.posting_rules.specs.believed.Commands.{Command}
use Rattle.posting_rules.specs.believed.Runs.{followed_by, replies_to}
use Rattle.posting_rules.proofs.Sequence.{replies_to-append}
use Rattle.counter_http.specs.Figures.{Counts, IsMore, has_outcome, how_many, nothing, tallied}
use Rattle.counter_http.specs.declared.figures.Tally.{Tally}
use Rattle.counter_http.specs.together.Order.{AreCommits, AreFigured, CountsRounds, Round, Step, commits_of, steps_in, steps_of, submitted_by}
use Rattle.counter_http.proofs.Steps.{submitted-append}

-- ---- numbers

pub more_none : (a : ℕ) → IsMore a a 0
more_none a = inl (omega arith)

pub more_then : (a b c m n : ℕ) → IsMore a b m → IsMore b c n → IsMore a c (m + n)
more_then a b c m n (inl p) (inl q) = inl (omega (arith, p, q))
more_then a b c m n (inl p) (inr q) = inr (q.0, omega (arith, p, q.1))
more_then a b c m n (inr p) (inl q) = inr (omega (arith, p.0, q), omega (arith, p.1))
more_then a b c m n (inr p) (inr q) = inr (q.0, omega (arith, p.1))

-- ---- replies

filter_more : {A : Type 0} (p : A → Bool) (xs ys : List A)
    → length (filter p (xs ++ ys)) ≡ length (filter p xs) + length (filter p ys)
filter_more p [] ys = omega arith
filter_more p (x ∷ xs) ys = elim (cases_Bool (p x)) [
  | inl t ↦ rw t (omega (arith, filter_more p xs ys))
  | inr f ↦ rw f (filter_more p xs ys)
]

pub counts_none : (t : Tally) → Counts t t [] 0
counts_none t = record {
  records_are = more_none t.records;
  commits_are = more_none t.commits;
  outcomes_are = λ o. more_none (tallied t o);
}

pub counts_then : {a b c : Tally} (xs ys : List (List ℕ)) (m n : ℕ) → Counts a b xs m → Counts b c ys n
    → Counts a c (xs ++ ys) (m + n)
counts_then {a} {b} {c} xs ys m n p q = record {
  records_are = subst (λ (x : ℕ). IsMore a.records c.records x) (sym (length-append xs ys))
      (more_then a.records b.records c.records (length xs) (length ys) p.records_are q.records_are);
  commits_are = more_then a.commits b.commits c.commits m n p.commits_are q.commits_are;
  outcomes_are = λ o. subst (λ (x : ℕ). IsMore (tallied a o) (tallied c o) x)
      (sym (filter_more (has_outcome o) xs ys))
      (more_then (tallied a o) (tallied b o) (tallied c o) (how_many o xs) (how_many o ys) (p.outcomes_are o)
      (q.outcomes_are o));
}

-- ---- commits

-- are of no outcome
pub tallied_commits : (t : Tally) (n : ℕ) (o : Outcome) → tallied (record t { commits = n }) o ≡ tallied t o
tallied_commits t n Posted = refl
tallied_commits t n NoTeller = refl
tallied_commits t n WrongBranch = refl
tallied_commits t n NoAccount = refl
tallied_commits t n BelowFloor = refl
tallied_commits t n OverLimit = refl
tallied_commits t n ReusedNumber = refl
tallied_commits t n Closed = refl
tallied_commits t n Sealed = refl
tallied_commits t n Full = refl
tallied_commits t n Malformed = refl

pub commits_then : (a b m n : ℕ) → AreCommits a m → AreCommits b n → AreCommits (a + b) (m + n)
commits_then a b m n p q = record {
  few = omega (arith, p.few, q.few);
  some = λ given. elim (cases_lt 0 m) [
    | inl lt ↦ omega (arith, p.some lt)
    | inr le ↦ omega (arith, q.some (omega (arith, given, le)))
  ];
}

-- ---- rounds

commits_more : (rs : List Round) (r : Round) → commits_of (rs ++ r ∷ []) ≡ commits_of rs + r.commits
commits_more [] r = omega arith
commits_more (x ∷ rs) r = omega (arith, commits_more rs r)

-- a round more is counted
pub rounds_then : {t t' : Tally} (log : List Command) (rs : List Round) (r : Round) → CountsRounds log rs t
    → Counts t t' (replies_to (followed_by log (submitted_by (steps_of rs))) (submitted_by (steps_in r))) r.commits
    → CountsRounds log (rs ++ r ∷ []) t'
rounds_then {t} {t'} log rs r counted one =
    let cs = submitted_by (steps_of rs) in
    let ds = submitted_by (steps_in r) in
    let order : steps_of (rs ++ r ∷ []) ≡ steps_of rs ++ steps_in r =
    flat_map-append steps_in rs (r ∷ []) ∙ ap (λ (x : List Step). steps_of rs ++ x) (append-nil (steps_in r)) in
    let replies : replies_to log (submitted_by (steps_of (rs ++ r ∷ [])))
    ≡ replies_to log cs ++ replies_to (followed_by log cs) ds =
    ap (λ (x : List Step). replies_to log (submitted_by x)) order
    ∙ ap (replies_to log) (submitted-append (steps_of rs) (steps_in r)) ∙ replies_to-append log cs ds in
    subst (λ (xs : List (List ℕ)). Counts nothing t' xs (commits_of (rs ++ r ∷ []))) (sym replies)
    (subst (λ (n : ℕ). Counts nothing t' (replies_to log cs ++ replies_to (followed_by log cs) ds) n)
    (sym (commits_more rs r))
    (counts_then (replies_to log cs) (replies_to (followed_by log cs) ds) (commits_of rs) r.commits counted one))

pub figured_more : (log : List Command) (before rs : List Round) (r : Round) → AreFigured log before rs
    → CountsRounds log (before ++ rs) r.figures.tally → AreFigured log before (rs ++ r ∷ [])
figured_more log before [] r all one =
    (subst (λ (x : List Round). CountsRounds log x r.figures.tally) (append-nil before) one, tt)
figured_more log before (x ∷ rs) r all one = (
  all.0,
  figured_more log (before ++ x ∷ []) rs r all.1
      (subst (λ (y : List Round). CountsRounds log y r.figures.tally) (sym (append_assoc before (x ∷ []) rs)) one),
)
