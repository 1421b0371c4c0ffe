-- A stream of records, step by step: a read, a batch, and each way to end.
use Rattle.std.proofs.Common.{◌≡◌, ◌⊎◌, inl, inr, ℕ, ◌+◌, ◌*◌, ◌<◌, ◌≤◌, List, [], ◌++◌, length, take, Option, Result}
use Rattle.std.proofs.Common.{Ok, refl, sym, ap, subst, ◌∙◌, append_assoc, append-nil, arith}
use Rattle.std.specs.{Prelude.IfOk, List.AllByRecursion}
use Rattle.std.specs.Io.KnownBytes.{Keeps, Appends, Consumes}
use Rattle.std.proofs.KnownBytes.{Appends-nil, Consumes-trans, Consumes-nil, Consumes-kept}
use Rattle.std.proofs.lemmas.List.{length-take-le}
use Rattle.message_records.specs.declared.limits.TheConstants.{REPLY_BYTES}
use Rattle.posting_core.specs.{declared.stream.TheConstants.BUFFER, believed.Clock.AreReadings}
use Rattle.posting_rules.specs.believed.{Commands.Command, Runs.replies_to}
use Rattle.posting_rules.specs.believed.Counter.{Seen, ShowsLog, Takes}
use Rattle.posting_core.specs.believed.Batches.{Batch, IsBatch, IsRecord, joined, moments_of, records_of, posts_of}
use Rattle.posting_core.specs.believed.ByTables.{BatchesByTables}
use Rattle.posting_core.proofs.ByTables.{no_batches}

-- ---- where the loop stands

-- what the loop did so far: its batches, with what was read after the last record, how many were answered, and
-- what was written
pub record Going (r r' w w' k k' : Option (List ℕ)) (c c' : Seen) (done : List Batch) (rest : List ℕ)
    (count : ℕ) (written : List ℕ) : Type 0 where
  pub read : Consumes r r' (joined (records_of done) ++ rest)
  pub whole : AllByRecursion IsRecord (records_of done)
  pub sizes : AllByRecursion IsBatch done
  pub clock : AreReadings k k' (moments_of done)
  pub wrote : Appends w w' written
  pub long : length written ≡ REPLY_BYTES * length (records_of done)
  pub count_is : count ≡ length (records_of done)
  pub honest : c'.honest → c.honest
  pub takes : Takes c c' (posts_of done)
  pub replies : c'.honest → (log : List Command) → ShowsLog c log
      → written ≡ joined (replies_to log (posts_of done))
  pub answers : List (List ℕ)
  pub by_tables : BatchesByTables c c' done answers
  pub texts : written ≡ joined answers

-- at first nothing was done
pub going_first : {r w k : Option (List ℕ)} {c : Seen} (rest : List ℕ) → rest ≡ []
    → Going r r w w k k c c [] rest 0 []
going_first {r = r} {w = w} {c = c} rest e = record {
  read = subst (λ (t : List ℕ). Consumes r r t) (sym e) (Consumes-nil r);
  whole = tt;
  sizes = tt;
  clock = refl;
  wrote = Appends-nil w;
  long = refl;
  count_is = refl;
  honest = λ h. h;
  takes = record { shows = λ h log s. s; stands = λ h log s. s };
  replies = λ h log s. refl;
  answers = [];
  by_tables = no_batches c;
  texts = refl;
}

-- ---- a read

-- more bytes were read
going_read : {r r' r'' w w' k k' : Option (List ℕ)} {c c' : Seen} {done : List Batch} {count : ℕ}
    {written : List ℕ} (rest more all : List ℕ)
    → Going r r' w w' k k' c c' done rest count written
    → Consumes r' r'' more → all ≡ rest ++ more → Going r r'' w w' k k' c c' done all count written
going_read {r = r} {r' = r'} {r'' = r''} {done = done} rest more all g got e =
    let before = joined (records_of done) in
    record {
      read = subst (λ (t : List ℕ). Consumes r r'' t)
          (append_assoc before rest more ∙ ap (λ (t : List ℕ). before ++ t) (sym e))
          (Consumes-trans r r' r'' (before ++ rest) more g.read got);
      whole = g.whole;
      sizes = g.sizes;
      clock = g.clock;
      wrote = g.wrote;
      long = g.long;
      count_is = g.count_is;
      honest = g.honest;
      takes = g.takes;
      replies = g.replies;
      answers = g.answers;
      by_tables = g.by_tables;
      texts = g.texts;
    }

-- they stand after the rest in the buffer
pub going_filled : {r r' r'' w w' k k' : Option (List ℕ)} {c c' : Seen} {done : List Batch} {count : ℕ}
    {written : List ℕ} (old new : List ℕ)
    (filled filled' n : ℕ)
    → Going r r' w w' k k' c c' done (take filled old) count written
    → ((bytes : List ℕ) × (take (filled + n) new ≡ take filled old ++ bytes) × Consumes r' r'' bytes)
    → filled' ≡ filled + n → Going r r'' w w' k k' c c' done (take filled' new) count written
going_filled old new filled filled' n g got e =
    going_read (take filled old) got.0 (take filled' new) g got.2 (ap (λ (j : ℕ). take j new) e ∙ got.1)

-- a read that failed has read no bytes
pub nothing_read : (r' r'' : Option (List ℕ)) (old new : List ℕ) (filled : ℕ)
    → (Keeps r' r'' × (take filled new ≡ take filled old))
    → ((bytes : List ℕ) × (take (filled + 0) new ≡ take filled old ++ bytes) × Consumes r' r'' bytes)
nothing_read r' r'' old new filled kept =
    let none : filled + 0 ≡ filled = omega arith in (
      [],
      ap (λ (j : ℕ). take j new) none ∙ kept.1 ∙ sym (append-nil (take filled old)),
      Consumes-kept r' r' r'' [] (Consumes-nil r') kept.0,
    )

-- a read that came back: it read some, or it failed and read nothing
pub going_on : {r r' r'' w w' k k' : Option (List ℕ)} {c c' : Seen} {done : List Batch} {count : ℕ}
    {written : List ℕ} (old new : List ℕ)
    (filled filled' : ℕ)
    → Going r r' w w' k k' c c' done (take filled old) count written → filled < 100 → length new ≡ BUFFER
    → ((n : ℕ) × ((bytes : List ℕ) × (take (filled + n) new ≡ take filled old ++ bytes)
    × Consumes r' r'' bytes)
    × (filled + n ≤ length new) × (filled' ≡ filled + n))
    ⊎ ((Keeps r' r'' × (take filled new ≡ take filled old)) × (filled' ≡ filled))
    → Going r r'' w w' k k' c c' done (take filled' new) count written × (filled' ≤ length new)
going_on old new filled filled' g few long (inl (n, got, fits, is)) =
    (going_filled old new filled filled' n g got is, omega (arith, fits, is))
going_on old new filled filled' g few long (inr (kept, is)) = (
  going_filled old new filled filled' 0 g (nothing_read _ _ old new filled kept) (omega (arith, is)),
  omega (arith, few, long, is),
)

-- less than a record is left over
pub few_left : (filled : ℕ) (buffer : List ℕ) → filled < 100 → length buffer ≡ BUFFER
    → length (take filled buffer) < 100
few_left filled buffer lt len = let within : filled ≤ length buffer = omega arith in omega
    (arith, length-take-le filled buffer within)

pub at_ok : {E : Type 0} (P : ℕ → Type 0) (r : Result ℕ E) (n : ℕ) → r ≡ Ok n → IfOk r P → P n
at_ok {E = E} P r n e h = subst (λ (q : Result ℕ E). IfOk q P) e h
