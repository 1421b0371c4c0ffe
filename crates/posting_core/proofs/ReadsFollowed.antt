-- Batches follow reads: each has all whole records that a read completed.
use Rattle.std.proofs.Common.{◌≡◌, ◌≤◌, ◌<◌, ◌+◌, ◌*◌, ◌/◌, ℕ, min, true, false, leb, List, [], ◌∷◌, ◌++◌, length, take}
use Rattle.std.proofs.Common.{Option, Result, Ok, Err, refl, sym, ap, subst, ◌∙◌, append-nil, arith, inl, inr, ◌⊎◌}
use Rattle.std.proofs.lemmas.Bool.Decides.{leb_tells}
use Rattle.std.proofs.lemmas.List.{Concat.flat_map-append, length-append, take_all, take_min, take-append-le}
use Rattle.std.specs.{declared.io.Error.Error, Io.KnownBytes.Appends}
use Rattle.posting_core.specs.believed.Batches.{Batch, records_in, records_of}
use Rattle.posting_core.specs.Stream.{FollowReads, RepliesBeforeReads, given, read_by, submitted_by}
use Rattle.posting_core.specs.believed.EndCalls.{ReadCall, Gave, Failed, GrowsBy}
use Rattle.posting_core.specs.EndCalls.{Beside, IsThrough, WriteCall, read_call}
use Rattle.posting_rules.specs.believed.Counter.{Seen}
use Rattle.posting_core.proofs.{Streaming.Going, Telling.adds-more, Telling.adds-none}
use Rattle.posting_core.proofs.Prompt.{prompt_first, prompt_read, prompt_written}

-- the batches follow the reads, which gave their records and so many bytes after them; no reply waits for the
-- next read
pub record Following (q q' : Option (List ReadCall)) (b b' : Option (List Beside)) (w : Option (List ℕ))
    (t : Option (List WriteCall)) (batches : List Batch) (rest : ℕ) (written : List ℕ) : Type 0 where
  pub follow : FollowReads q q' batches
  pub total : given follow.reads ≡ 100 * length (records_of batches) + rest
  pub prompt : RepliesBeforeReads b b' w t follow.reads written

-- what is known of the sink as a read is made: it holds the replies to these batches, flushed
pub record IsUpTo (w : Option (List ℕ)) (t : Option (List WriteCall)) (batches : List Batch) (rest : ℕ)
    (written : List ℕ) (sink : Beside) : Type 0 where
  pub few : rest < 100
  pub long : length written ≡ 200 * length (records_of batches)
  pub wrote : Appends w sink.contents written
  pub through : IsThrough t sink.calls

pub up_to : {r r' w w' k k' : Option (List ℕ)} {c c' : Seen} {bs : List Batch} {left : List ℕ} {count : ℕ}
    {written : List ℕ} {t t' : Option (List WriteCall)} (rest : ℕ)
    → Going r r' w w' k k' c c' bs left count written → rest < 100 → IsThrough t t'
    → IsUpTo w t bs rest written (record { contents = w'; calls = t' })
up_to rest g few through = record { few = few; long = g.long; wrote = g.wrote; through = through }

-- ---- how many bytes

pub given-append : (xs ys : List ReadCall) → given (xs ++ ys) ≡ given xs + given ys
given-append [] ys = omega arith
given-append (Gave n ∷ xs) ys = let e = given-append xs ys in omega arith
given-append (Failed kind ∷ xs) ys = given-append xs ys

pub gave_some : (r : Result ℕ Error) (n : ℕ) → r ≡ Ok n → given (read_call r ∷ []) ≡ n
gave_some r n is = rw is (omega arith)

pub gave_none : (r : Result ℕ Error) (e : Error) → r ≡ Err e → given (read_call r ∷ []) ≡ 0
gave_none r e is = rw is refl

-- ---- a prefix of what there was, where there is more now

first_of : {A : Type 0} (n : ℕ) (xs ys : List A) → take (min n (length xs)) (xs ++ ys) ≡ take n xs
first_of n xs ys = take-append-le (min n (length xs)) xs ys (omega arith) ∙ take_min n xs

records-more : (bs more : List Batch)
    → length (records_of (bs ++ more)) ≡ length (records_of bs) + length (records_of more)
records-more bs more = ap length (flat_map-append records_in bs more)
    ∙ length-append (records_of bs) (records_of more)

total_more : (bs more : List Batch) (reads : List ReadCall) (x : ReadCall) (rest rest' : ℕ)
    → given reads ≡ 100 * length (records_of bs) + rest
    → rest + given (x ∷ []) ≡ 100 * length (records_of more) + rest'
    → given (reads ++ x ∷ []) ≡ 100 * length (records_of (bs ++ more)) + rest'
total_more bs more reads x rest rest' total got =
    omega (arith, given-append reads (x ∷ []), records-more bs more, total, got)

-- all batches have all whole records
all_of : (bs : List Batch) (reads : List ReadCall) (m n rest : ℕ) → take m bs ≡ bs → take n reads ≡ reads
    → given reads ≡ 100 * length (records_of bs) + rest → rest < 100
    → submitted_by m bs ≡ read_by n reads
all_of bs reads m n rest all_batches all_reads total few =
    let count : given reads / 100 ≡ length (records_of bs) = omega arith in
    ap (λ (b : List Batch). length (records_of b)) all_batches ∙ sym count
    ∙ ap (λ (r : List ReadCall). given r / 100) (sym all_reads)

-- all whole records are those of all reads
read_so_far : (reads : List ReadCall) (count rest : ℕ) → given reads ≡ 100 * count + rest → rest < 100
    → read_by (length reads) reads ≡ count
read_so_far reads count rest total few =
    let divided : given reads / 100 ≡ count = omega arith in
    ap (λ (r : List ReadCall). given r / 100) (take_all (length reads) reads (omega arith)) ∙ divided

-- ---- steps

pub following_first : (q : Option (List ReadCall)) (b : Option (List Beside)) (w : Option (List ℕ))
    (t : Option (List WriteCall)) (rest : ℕ) → rest ≡ 0 → Following q q b b w t [] rest []
following_first q b w t rest none = record {
  follow = record {
    reads = [];
    made = adds-none q;
    together = λ m. (0, none_yet m);
    at_once = λ n. (0, sym (nothing_read n));
  };
  total = omega arith;
  prompt = prompt_first b w t [];
}
  where
    none_yet : (m : ℕ) → submitted_by m [] ≡ read_by 0 []
    none_yet m = let none : List Batch = [] in
        ap (λ (b : List Batch). length (records_of b)) (take_all m none (omega arith))

    nothing_read : (n : ℕ) → read_by n [] ≡ submitted_by 0 []
    nothing_read n = let none : List ReadCall = [] in
        ap (λ (r : List ReadCall). given r / 100) (take_all n none (omega arith))

-- one read more, and the batch that it completed, if it completed one
following_more : {q q' q'' : Option (List ReadCall)} {b b' b'' : Option (List Beside)} {w : Option (List ℕ)}
    {t : Option (List WriteCall)} {written : List ℕ} (bs more : List Batch) (x : ReadCall) (sink : Beside)
    (rest rest' : ℕ)
    → length more ≤ 1 → Following q q' b b' w t bs rest written → IsUpTo w t bs rest written sink
    → GrowsBy q' q'' (x ∷ []) → GrowsBy b' b'' (sink ∷ [])
    → rest + given (x ∷ []) ≡ 100 * length (records_of more) + rest' → rest' < 100
    → Following q q'' b b'' w t (bs ++ more) rest' written
following_more {q = q} {q' = q'} {q'' = q''} {written = written} bs more x sink rest rest' one f up
    made beside got few =
    let before = f.follow.reads in
    let reads = before ++ x ∷ [] in
    let batches = bs ++ more in
    let longer : length reads ≡ length before + 1 = length-append before (x ∷ []) in
    let wider : length batches ≤ length bs + 1 = omega (arith, length-append bs more) in
    let all_reads : take (length before + 1) reads ≡ reads = take_all (length before + 1) reads
    (omega arith) in
    let all_batches : take (length bs + 1) batches ≡ batches = take_all (length bs + 1) batches wider in
    let total : given reads ≡ 100 * length (records_of batches) + rest' = total_more bs more before x rest rest'
    f.total got in
    let whole : submitted_by (length bs + 1) batches ≡ read_by (length before + 1) reads =
    all_of batches reads (length bs + 1) (length before + 1) rest' all_batches all_reads total few in
    record {
      follow = record {
        reads = reads;
        made = adds-more q q' q'' before (x ∷ []) f.follow.made made;
        together = λ m. together_by m (leb_tells m (length bs)) whole wider;
        at_once = λ n. at_once_by n (leb_tells n (length before)) whole longer;
      };
      total = total;
      prompt = prompt_read before written x sink (length (records_of bs)) f.prompt beside
          (read_so_far before (length (records_of bs)) rest f.total up.few) up.long up.wrote up.through;
    }
  where
    together_by : (m : ℕ) → ((leb m (length bs) ≡ true) × (m ≤ length bs))
        ⊎ ((leb m (length bs) ≡ false) × (length bs < m))
        → submitted_by (length bs + 1) (bs ++ more) ≡ read_by (length f.follow.reads + 1) (f.follow.reads ++ x ∷ [])
        → length (bs ++ more) ≤ length bs + 1
        → (n : ℕ) × (submitted_by m (bs ++ more) ≡ read_by n (f.follow.reads ++ x ∷ []))
    together_by m (inl within) whole wider =
        let t = f.follow.together m in (
          min t.0 (length f.follow.reads),
          ap (λ (b : List Batch). length (records_of b)) (take-append-le m bs more within.1) ∙ t.1
              ∙ ap (λ (r : List ReadCall). given r / 100) (sym (first_of t.0 f.follow.reads (x ∷ []))),
        )
    together_by m (inr past) whole wider = (
      length f.follow.reads + 1,
      ap (λ (b : List Batch). length (records_of b))
          (take_all m (bs ++ more) (omega (arith, past.1))
          ∙ sym (take_all (length bs + 1) (bs ++ more) wider))
          ∙ whole,
    )

    at_once_by : (n : ℕ) → ((leb n (length f.follow.reads) ≡ true) × (n ≤ length f.follow.reads))
        ⊎ ((leb n (length f.follow.reads) ≡ false) × (length f.follow.reads < n))
        → submitted_by (length bs + 1) (bs ++ more) ≡ read_by (length f.follow.reads + 1) (f.follow.reads ++ x ∷ [])
        → length (f.follow.reads ++ x ∷ []) ≡ length f.follow.reads + 1
        → (m : ℕ) × (submitted_by m (bs ++ more) ≡ read_by n (f.follow.reads ++ x ∷ []))
    at_once_by n (inl within) whole longer =
        let t = f.follow.at_once n in (
          min t.0 (length bs),
          ap (λ (b : List Batch). length (records_of b)) (first_of t.0 bs more) ∙ t.1
              ∙ ap (λ (r : List ReadCall). given r / 100)
              (sym (take-append-le n f.follow.reads (x ∷ []) within.1)),
        )
    at_once_by n (inr past) whole longer = (
      length bs + 1,
      whole ∙ ap (λ (r : List ReadCall). given r / 100)
          (take_all (length f.follow.reads + 1) (f.follow.reads ++ x ∷ []) (omega (arith, longer))
          ∙ sym (take_all n (f.follow.reads ++ x ∷ []) (omega (arith, past.1, longer)))),
    )

-- a read that completed no record
pub following_read : {q q' q'' : Option (List ReadCall)} {b b' b'' : Option (List Beside)} {w : Option (List ℕ)}
    {t : Option (List WriteCall)} {written : List ℕ} (bs : List Batch) (x : ReadCall) (sink : Beside)
    (rest rest' : ℕ) → Following q q' b b' w t bs rest written → IsUpTo w t bs rest written sink
    → GrowsBy q' q'' (x ∷ []) → GrowsBy b' b'' (sink ∷ []) → rest + given (x ∷ []) ≡ rest' → rest' < 100
    → Following q q'' b b'' w t bs rest' written
following_read {q = q} {q'' = q''} {b = b} {b'' = b''} {w = w} {t = t} {written = written} bs x sink rest
    rest' f up made beside got few =
    subst (λ (l : List Batch). Following q q'' b b'' w t l rest' written) (append-nil bs)
    (following_more bs [] x sink rest rest' (omega arith) f up made beside (omega arith) few)

-- a read that completed a batch
pub following_batch : {q q' q'' : Option (List ReadCall)} {b b' b'' : Option (List Beside)} {w : Option (List ℕ)}
    {t : Option (List WriteCall)} {written : List ℕ} (bs : List Batch) (one : Batch) (x : ReadCall)
    (sink : Beside) (rest rest' : ℕ) → Following q q' b b' w t bs rest written
    → IsUpTo w t bs rest written sink
    → GrowsBy q' q'' (x ∷ []) → GrowsBy b' b'' (sink ∷ [])
    → rest + given (x ∷ []) ≡ 100 * length one.records + rest' → rest' < 100
    → Following q q'' b b'' w t (bs ++ one ∷ []) rest' written
following_batch bs one x sink rest rest' f up made beside got few =
    following_more bs (one ∷ []) x sink rest rest' (omega arith) f up made beside
    (got ∙ ap (λ (k : ℕ). 100 * k + rest') (sym (ap length (append-nil one.records)))) few

-- the replies to it
pub following_wrote : {q q' : Option (List ReadCall)} {b b' : Option (List Beside)} {w : Option (List ℕ)}
    {t : Option (List WriteCall)} {bs : List Batch} {rest : ℕ} (written more : List ℕ)
    → Following q q' b b' w t bs rest written → Following q q' b b' w t bs rest (written ++ more)
following_wrote written more f =
    record { follow = f.follow; total = f.total; prompt = prompt_written written more f.prompt }
