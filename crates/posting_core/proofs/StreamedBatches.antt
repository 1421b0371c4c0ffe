-- A stream goes on by a batch.
use Rattle.std.proofs.Common.{◌≡◌, ◌≤◌, ℕ, ◌+◌, ◌*◌, List, [], ◌∷◌, ◌++◌, length, Option, sym, ap, subst, ◌∙◌, arith}
use Rattle.std.specs.{List.AllByRecursion, Io.KnownBytes.Consumes}
use Rattle.std.proofs.KnownBytes.{Appends-trans}
use Rattle.std.proofs.lemmas.List.{length-append, length-map, map-append}
use Rattle.posting_rules.specs.declared.limits.TheConstants.{RECORDS_PER_BATCH}
use Rattle.posting_rules.specs.believed.Commands.{Command, Post}
use Rattle.posting_rules.specs.believed.Counter.{Seen, ShowsLog, StandsAt, Takes}
use Rattle.posting_rules.specs.believed.Runs.{followed_by, posts, replies_to}
use Rattle.posting_core.specs.believed.Clock.{after_one, IsNextReading, AreReadings}
use Rattle.posting_core.specs.{Clock.IsReading, Batches.BatchIsAnswered}
use Rattle.posting_core.specs.believed.Batches.{Batch, IsBatch, IsRecord, joined, moment_of, moments_of, records_of}
use Rattle.posting_core.specs.believed.Batches.{posts_in, posts_of}
use Rattle.posting_rules.proofs.Sequence.{after-append}
use Rattle.posting_core.proofs.Batched.{joined-append, joined_one_more, records_one_more, posts_of_one_more, replies_of_one_more}
use Rattle.posting_core.proofs.{ByTables.batch_more, Streaming.Going}
pub use Rattle.posting_batch.proofs.NextOrdinals.{all_more}

readings_more : (k k' k'' : Option (List ℕ)) (ms : List ℕ) (m : ℕ) → AreReadings k k' ms → IsReading k' k'' m
    → AreReadings k k'' (ms ++ m ∷ [])
readings_more k k' k'' [] m e r =
    (subst (λ (o : Option (List ℕ)). IsNextReading o m) e r.0, r.1 ∙ ap after_one e)
readings_more k k' k'' (x ∷ ms) m e r = (e.0, readings_more (after_one k) k' k'' ms m e.1 r)

-- commands that were taken, and then others
pub takes_more : (c c' c'' : Seen) (cs ds : List Command) → (c''.honest → c'.honest) → Takes c c' cs
    → Takes c' c'' ds → Takes c c'' (cs ++ ds)
takes_more c c' c'' cs ds honest a b =
    let same : (log : List Command) → followed_by (followed_by log cs) ds ≡ followed_by log (cs ++ ds) = λ log. sym
    (after-append log cs ds) in
    record {
      shows = λ h log s. subst (λ (l : List Command). ShowsLog c'' l) (same log)
          (b.shows h (followed_by log cs) (a.shows (honest h) log s));
      stands = λ h log s. subst (λ (l : List Command). StandsAt c'' l) (same log)
          (b.stands h (followed_by log cs) (a.stands (honest h) log s));
    }

pub takes_batch : (c c' c'' : Seen) (bs : List Batch) (b : Batch) → (c''.honest → c'.honest)
    → Takes c c' (posts_of bs) → Takes c' c'' (posts_in b)
    → Takes c c'' (posts_of (bs ++ b ∷ []))
takes_batch c c' c'' bs b honest x y =
    subst (λ (t : List Command). Takes c c'' t) (sym (posts_of_one_more bs b))
    (takes_more c c' c'' (posts_of bs) (posts_in b) honest x y)

pub read_batch : (r r' : Option (List ℕ)) (bs : List Batch) (b : Batch) (all rest : List ℕ)
    → Consumes r r' (joined (records_of bs) ++ all)
    → all ≡ joined b.records ++ rest → Consumes r r' (joined (records_of (bs ++ b ∷ [])) ++ rest)
read_batch r r' bs b all rest got e =
    subst (λ (t : List ℕ). Consumes r r' t)
    (ap (λ (t : List ℕ). joined (records_of bs) ++ t) e ∙ sym (joined_one_more bs b rest)) got

pub whole_batch : (bs : List Batch) (b : Batch) → AllByRecursion IsRecord (records_of bs)
    → AllByRecursion IsRecord b.records
    → AllByRecursion IsRecord (records_of (bs ++ b ∷ []))
whole_batch bs b x y =
    subst (λ (t : List (List ℕ)). AllByRecursion IsRecord t) (sym (records_one_more bs b))
    (all_more IsRecord (records_of bs) b.records x y)

pub clock_batch : (k k' k'' : Option (List ℕ)) (bs : List Batch) (b : Batch)
    → AreReadings k k' (moments_of bs) → IsReading k' k'' b.moment
    → AreReadings k k'' (moments_of (bs ++ b ∷ []))
clock_batch k k' k'' bs b x y =
    subst (λ (t : List ℕ). AreReadings k k'' t) (sym (map-append moment_of bs (b ∷ [])))
    (readings_more k k' k'' (moments_of bs) b.moment x y)

longer_by : (bs : List Batch) (b : Batch) (before written : List ℕ)
    → length before ≡ 200 * length (records_of bs) → length written ≡ 200 * length b.records
    → length (before ++ written) ≡ 200 * length (records_of (bs ++ b ∷ []))
longer_by bs b before written x y = omega (
  arith,
  length-append before written,
  ap length (records_one_more bs b) ∙ length-append (records_of bs) b.records,
)

-- a batch was answered
pub going_batch : {r r' w w' w'' k k' k'' : Option (List ℕ)} {c c' c'' : Seen}
    {done : List Batch} {count : ℕ} {before : List ℕ} (m : ℕ)
    (all rest : List ℕ) (count' : ℕ) (rs : List (List ℕ))
    → Going r r' w w' k k' c c' done all count before → (all ≡ joined rs ++ rest) × AllByRecursion IsRecord rs
    → (1 ≤ length rs) × (length rs ≤ RECORDS_PER_BATCH)
    → count' ≡ count + length rs
    → IsReading k' k'' m → (c''.honest → c'.honest) → (a : BatchIsAnswered w' w'' c' c'' m rs)
    → Going r r' w w'' k k'' c c'' (done ++ record { moment = m; records = rs } ∷ []) rest count'
    (before ++ a.written)
going_batch {r = r} {r' = r'} {w = w} {w' = w'} {w'' = w''} {k = k} {k' = k'} {k'' = k''} {c = c} {c' = c'}
    {c'' = c''} {done = bs} {before = before} m all rest count' rs g cut size n reading honest a =
    let b : Batch = record { moment = m; records = rs } in
    record {
      read = read_batch r r' bs b all rest g.read cut.0;
      whole = whole_batch bs b g.whole cut.1;
      sizes = all_more IsBatch bs (b ∷ []) g.sizes (size, tt);
      clock = clock_batch k k' k'' bs b g.clock reading;
      wrote = Appends-trans w w' w'' before a.written g.wrote a.wrote;
      long = longer_by bs b before a.written g.long a.long;
      count_is = n ∙ ap (λ (j : ℕ). j + length rs) g.count_is ∙ sym
          (ap length (records_one_more bs b) ∙ length-append (records_of bs) rs);
      honest = λ h. g.honest (honest h);
      takes = takes_batch c c' c'' bs b honest g.takes a.takes;
      replies = λ h log s. ap (λ (t : List ℕ). t ++ a.written) (g.replies (honest h) log s)
          ∙ ap (λ (t : List ℕ). joined (replies_to log (posts_of bs)) ++ t)
          (a.replies h (followed_by log (posts_of bs)) (g.takes.shows (honest h) log s))
          ∙ sym (replies_of_one_more log bs b);
      answers = g.answers ++ a.answers;
      by_tables = batch_more c c' c'' bs b g.answers a.answers honest g.by_tables a.by_tables;
      texts = ap (λ (t : List ℕ). t ++ a.written) g.texts ∙ ap (λ (t : List ℕ). joined g.answers ++ t) a.texts
          ∙ sym (joined-append g.answers a.answers);
    }
