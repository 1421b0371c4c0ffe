-- Batches one after another, and bytes that are cut into records.
use Rattle.std.proofs.Common.{◌≡◌, ℕ, zero, suc, ◌+◌, ◌-◌, ◌*◌, ◌/◌, ◌<◌, ◌≤◌, List, [], ◌∷◌, ◌++◌, length}
use Rattle.std.proofs.Common.{take, drop, refl, sym, ap, subst, ◌∙◌, append_assoc, append-nil, arith}
use Rattle.std.specs.Prelude.{◌%◌}
use Rattle.std.specs.{List.AllByRecursion, Simd.first_chunks}
use Rattle.std.proofs.{Math.Nat.suc-mul, lemmas.List.Concat.flat_map-append}
use Rattle.std.proofs.lemmas.List.{take_at, drop_at, length-take-le, drop-take, drop-drop, length-append}
use Rattle.std.proofs.lemmas.List.{length-drop, take-append-drop}
use Rattle.posting_rules.specs.believed.Commands.{Command}
use Rattle.posting_rules.specs.believed.Runs.{followed_by, posts, replies_to, ArePosts}
use Rattle.posting_core.specs.believed.Batches.{Batch, IsRecord, joined, records_in, posts_in, records_of, posts_of}
use Rattle.posting_core.specs.believed.Stream.{whole_records, posted_records}
use Rattle.posting_rules.proofs.Sequence.{replies_to-append}

-- ---- one batch more

pub joined-append : (xs ys : List (List ℕ)) → joined (xs ++ ys) ≡ joined xs ++ joined ys
joined-append xs ys = flat_map-append (λ x. x) xs ys

pub records_one_more : (bs : List Batch) (b : Batch) → records_of (bs ++ b ∷ []) ≡ records_of bs ++ b.records
records_one_more bs b = flat_map-append records_in bs (b ∷ []) ∙ ap
    (λ (t : List (List ℕ)). records_of bs ++ t) (append-nil b.records)

pub posts_of_one_more : (bs : List Batch) (b : Batch) → posts_of (bs ++ b ∷ []) ≡ posts_of bs ++ posts_in b
posts_of_one_more bs b = flat_map-append posts_in bs (b ∷ []) ∙ ap (λ (t : List Command). posts_of bs ++ t)
    (append-nil (posts_in b))

-- the bytes of its records after those of the others
pub joined_one_more : (bs : List Batch) (b : Batch) (rest : List ℕ)
    → joined (records_of (bs ++ b ∷ [])) ++ rest ≡ joined (records_of bs) ++ (joined b.records ++ rest)
joined_one_more bs b rest =
    ap (λ (t : List (List ℕ)). joined t ++ rest) (records_one_more bs b) ∙ ap (λ (t : List ℕ). t ++ rest)
    (joined-append (records_of bs) b.records)
    ∙ append_assoc (joined (records_of bs)) (joined b.records) rest

-- its replies after those to the others
pub replies_of_one_more : (log : List Command) (bs : List Batch) (b : Batch)
    → joined (replies_to log (posts_of (bs ++ b ∷ []))) ≡ joined (replies_to log (posts_of bs)) ++ joined
    (replies_to (followed_by log (posts_of bs)) (posts_in b))
replies_of_one_more log bs b =
    ap (λ (t : List Command). joined (replies_to log t)) (posts_of_one_more bs b) ∙ ap joined
    (replies_to-append log (posts_of bs) (posts_in b))
    ∙ joined-append (replies_to log (posts_of bs)) (replies_to (followed_by log (posts_of bs)) (posts_in b))

-- ---- what batches post

posts_more : (m : ℕ) (rs : List (List ℕ)) (cs : List Command) → ArePosts cs → ArePosts (posts m rs ++ cs)
posts_more m [] cs h = h
posts_more m (r ∷ rs) cs h = posts_more m rs cs h

-- they open nothing
pub all_posts : (bs : List Batch) → ArePosts (posts_of bs)
all_posts [] = tt
all_posts (b ∷ bs) = posts_more b.moment b.records (posts_of bs) (all_posts bs)

posted_more : (m : ℕ) (rs : List (List ℕ)) (cs : List Command)
    → posted_records (posts m rs ++ cs) ≡ rs ++ posted_records cs
posted_more m [] cs = refl
posted_more m (r ∷ rs) cs = ap (λ (t : List (List ℕ)). r ∷ t) (posted_more m rs cs)

-- they post their records
pub posted_is : (bs : List Batch) → posted_records (posts_of bs) ≡ records_of bs
posted_is [] = refl
posted_is (b ∷ bs) = posted_more b.moment b.records (posts_of bs) ∙ ap (λ (t : List (List ℕ)). b.records ++ t)
    (posted_is bs)

-- ---- bytes and records

-- chunks and what is after them are the bytes again
pub chunks_joined : (n k : ℕ) (xs : List ℕ) → k * n ≤ length xs
    → joined (first_chunks n k xs) ++ drop (k * n) xs ≡ xs
chunks_joined n zero xs le = let z : 0 * n ≡ 0 = omega arith in ap (λ (j : ℕ). drop j xs) z
chunks_joined n (suc k) xs le =
    let m = suc-mul k n in
    let parts : suc k * n ≡ n + k * n = omega arith in
    let rest_le : k * n ≤ length (drop n xs) = omega (arith, length-drop n xs) in
    let chunks = joined (first_chunks n k (drop n xs)) in
    append_assoc (take n xs) chunks (drop (suc k * n) xs)
    ∙ ap (λ (t : List ℕ). take n xs ++ t)
    (ap (λ (j : ℕ). chunks ++ drop j xs) parts ∙ ap (λ (t : List ℕ). chunks ++ t)
    (sym (drop-drop (k * n) n xs)) ∙ chunks_joined n k (drop n xs) rest_le)
    ∙ take-append-drop n xs

pub chunks_whole : (n k : ℕ) (xs : List ℕ) → k * n ≤ length xs
    → AllByRecursion (λ x. length x ≡ n) (first_chunks n k xs)
chunks_whole n zero xs le = tt
chunks_whole n (suc k) xs le =
    let m = suc-mul k n in
    let rest_le : k * n ≤ length (drop n xs) = omega (arith, length-drop n xs) in
    let first_le : n ≤ length xs = omega arith in
    (length-take-le n xs first_le, chunks_whole n k (drop n xs) rest_le)

-- bytes that were cut into records and a rest
pub cut_into : (xs : List ℕ) (records : List (List ℕ)) (rest : List ℕ)
    → records ≡ first_chunks 100 (length xs / 100) xs
    → rest ≡ drop (length xs / 100 * 100) xs → (xs ≡ joined records ++ rest) × AllByRecursion IsRecord records
cut_into xs records rest is rest_is =
    let count = length xs / 100 in
    let whole : length xs / 100 * 100 ≤ length xs = omega arith in (
      sym (chunks_joined 100 count xs whole) ∙ ap (λ (t : List ℕ). joined (first_chunks 100 count xs) ++ t)
          (sym rest_is)
          ∙ ap (λ (t : List (List ℕ)). joined t ++ rest) (sym is),
      subst (λ (t : List (List ℕ)). AllByRecursion IsRecord t) (sym is) (chunks_whole 100 count xs whole),
    )

-- the same where the rest was moved to the front of the buffer
pub cut_and_moved : (buffer after : List ℕ) (filled left : ℕ) (records : List (List ℕ))
    → filled ≤ length buffer
    → records ≡ first_chunks 100 (length (take filled buffer) / 100) (take filled buffer)
    → left ≡ length (take filled buffer) % 100
    → take (filled - (filled - left)) after ≡ take (filled - (filled - left)) (drop (filled - left) buffer)
    → (take filled buffer ≡ joined records ++ take left after) × AllByRecursion IsRecord records
cut_and_moved buffer after filled left records within is left_is moved =
    let len : length (take filled buffer) ≡ filled = length-take-le filled buffer within in
    let parts : filled ≡ length (take filled buffer) / 100 * 100 + left = omega arith in
    let from : filled - left ≡ length (take filled buffer) / 100 * 100 = omega arith in
    let back : filled - (filled - left) ≡ left = omega arith in
    let cut = length (take filled buffer) / 100 * 100 in
    let rest : drop (length (take filled buffer) / 100 * 100) (take filled buffer) ≡ take left after =
    ap (λ (j : ℕ). drop cut (take j buffer)) parts ∙ drop-take cut left buffer ∙ ap
    (λ (j : ℕ). take left (drop j buffer)) (sym from)
    ∙ ap (λ (j : ℕ). take j (drop (filled - left) buffer)) (sym back) ∙ sym moved ∙ ap
    (λ (j : ℕ). take j after) back in
    cut_into (take filled buffer) records (take left after) is (sym rest)

chunks_of_joined : (n : ℕ) (rs : List (List ℕ)) (rest : List ℕ) → AllByRecursion (λ r. length r ≡ n) rs
    → first_chunks n (length rs) (joined rs ++ rest) ≡ rs
chunks_of_joined n [] rest h = refl
chunks_of_joined n (r ∷ rs) rest h =
    let more = joined rs ++ rest in
    let e : (r ++ joined rs) ++ rest ≡ r ++ more = append_assoc r (joined rs) rest in
    ap (λ (t : List ℕ). take n t ∷ first_chunks n (length rs) (drop n t)) e
    ∙ ap (λ (t : List ℕ). t ∷ first_chunks n (length rs) (drop n (r ++ more))) (take_at r more n h.0)
    ∙ ap (λ (t : List ℕ). r ∷ first_chunks n (length rs) t) (drop_at r more n h.0)
    ∙ ap (λ (t : List (List ℕ)). r ∷ t) (chunks_of_joined n rs rest h.1)

length_joined : (rs : List (List ℕ)) → AllByRecursion IsRecord rs → length (joined rs) ≡ 100 * length rs
length_joined [] h = refl
length_joined (r ∷ rs) h = let e = length_joined rs h.1 in let one = h.0 in omega
    (arith, length-append r (joined rs))

-- records and less than one more are cut into these records
pub whole_records_are : (rs : List (List ℕ)) (rest : List ℕ) → AllByRecursion IsRecord rs → length rest < 100
    → whole_records (joined rs ++ rest) ≡ rs
whole_records_are rs rest h few =
    let len : length (joined rs ++ rest) ≡ 100 * length rs + length rest =
    length-append (joined rs) rest ∙ ap (λ (j : ℕ). j + length rest) (length_joined rs h) in
    let count : length (joined rs ++ rest) / 100 ≡ length rs = omega arith in
    ap (λ (k : ℕ). first_chunks 100 k (joined rs ++ rest)) count ∙ chunks_of_joined 100 rs rest h
