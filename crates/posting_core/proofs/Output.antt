-- What a stream did, said of what was read and written alone: its text, what a crash may leave, and records
-- that come again.
use Rattle.std.proofs.Common.{◌≡◌, ℕ, zero, suc, ◌-◌, ◌<◌, ◌≤◌, List, [], ◌∷◌, ◌++◌, length, take, Option, Result, Ok}
use Rattle.std.proofs.Common.{Err, sym, ap, subst, ◌∙◌, append-nil, arith}
use Rattle.std.specs.{List.AllByRecursion, Io.KnownBytes.Appends, Prelude.IfErr}
use Rattle.std.proofs.Math.Seq.{take-append_seam}
use Rattle.std.proofs.lemmas.List.{length-append, length-take, Concat.flat_map-append}
use Rattle.posting_core.specs.declared.stream.StreamFault.{StreamFault}
use Rattle.posting_core.specs.declared.stream.StreamFault.TheVariants.{Truncated, Read, Write, Bank}
use Rattle.posting_rules.specs.{declared.fault.Fault.Fault, believed.Commands.Command, believed.Counter.Seen}
use Rattle.posting_rules.specs.believed.{Counter.ShowsLog, Entries.reply}
use Rattle.posting_rules.specs.Resends.{Place, Skips}
use Rattle.posting_rules.specs.believed.Runs.{followed_by, posts, replies_to, ArePosts}
use Rattle.message_records.specs.believed.Spelling.{reply_spelling}
use Rattle.posting_core.specs.believed.Batches.{Batch, IsRecord, joined, records_of, posts_in, posts_of}
use Rattle.posting_core.specs.believed.Stream.{acknowledged, IfBank, IsRefusedAfterBatches, Streamed, UnlessDown}
use Rattle.posting_core.specs.Stream.{replies_text, IfTaken, IsReplied, StreamFaultIsOfItsEnd, Streams, StreamsAsRead}
use Rattle.posting_core.specs.Stream.{WritesReplies, reply_at}
use Rattle.posting_core.specs.{believed.EndCalls.ReadCall, EndCalls.Beside, EndCalls.WriteCall}
use Rattle.posting_core.proofs.{Again.reply_begins, Again.reply_stands, Stops.at_least, Timeless.timeless}
use Rattle.posting_rules.proofs.Sequence.{replies_to-append, one_reply_each}
use Rattle.posting_rules.proofs.{Resends.shows_log_left_out, Remaining.leaves_weaker}
use Rattle.posting_core.proofs.Batched.{joined-append, all_posts, posted_is, whole_records_are}

-- ---- the text

-- the replies to batches are the text of what was read
text_is : (log : List Command) (bs : List Batch) (rest : List ℕ) → AllByRecursion IsRecord (records_of bs)
    → length rest < 100
    → joined (replies_to log (posts_of bs)) ≡ replies_text log (joined (records_of bs) ++ rest)
text_is log bs rest whole few =
    ap joined (timeless log bs 0) ∙ ap (λ (rs : List (List ℕ)). joined (replies_to log (posts 0 rs)))
    (sym (whole_records_are (records_of bs) rest whole few))

-- the replies to batches, and to further ones
replies_split : (log : List Command) (bs more : List Batch)
    → replies_to log (posts_of (bs ++ more)) ≡ replies_to log (posts_of bs) ++ replies_to
    (followed_by log (posts_of bs)) (posts_of more)
replies_split log bs more = ap (replies_to log) (flat_map-append posts_in bs more) ∙ replies_to-append log
    (posts_of bs) (posts_of more)

-- those to the first ones are a prefix
text_begins : (log : List Command) (bs more : List Batch)
    → joined (replies_to log (posts_of bs)) ≡ take (length (joined (replies_to log (posts_of bs))))
    (joined (replies_to log (posts_of (bs ++ more))))
text_begins log bs more =
    let first = joined (replies_to log (posts_of bs)) in
    let rest = joined (replies_to (followed_by log (posts_of bs)) (posts_of more)) in
    let split : joined (replies_to log (posts_of (bs ++ more))) ≡ first ++ rest =
    ap joined (replies_split log bs more) ∙ joined-append (replies_to log (posts_of bs))
    (replies_to (followed_by log (posts_of bs)) (posts_of more)) in
    sym (ap (take (length first)) split ∙ take-append_seam first rest)

-- none was refused
all_taken : (bs refused : List Batch) → refused ≡ [] → bs ≡ bs ++ refused
all_taken bs refused e = sym (append-nil bs) ∙ ap (λ (x : List Batch). bs ++ x) (sym e)

-- the text of what was read, where none was refused
text_of : {r r' w w' k k' : Option (List ℕ)} {c c' : Seen} {result : Result ℕ StreamFault}
    (s : Streamed r r' w w' k k' c c' result) (log : List Command) → s.refused ≡ []
    → joined (replies_to log (posts_of s.taken)) ≡ replies_text log
    (joined (records_of (s.taken ++ s.refused)) ++ s.rest)
text_of s log none =
    ap (λ (bs : List Batch). joined (replies_to log (posts_of bs))) (all_taken s.taken s.refused none)
    ∙ text_is log (s.taken ++ s.refused) s.rest s.whole s.few

-- where the result says that all of it was written
all_written : {r r' w w' k k' : Option (List ℕ)} {c c' : Seen} {result : Result ℕ StreamFault}
    (s : Streamed r r' w w' k k' c c' result) (log : List Command) → s.refused ≡ []
    → s.written ≡ joined (replies_to log (posts_of s.taken))
    → Appends w w' (replies_text log (joined (records_of (s.taken ++ s.refused)) ++ s.rest))
all_written {w = w} {w' = w'} s log none e = subst (λ (t : List ℕ). Appends w w' t)
    (e ∙ text_of s log none) s.wrote

-- all of the text was written, or a prefix of it
writes : {r r' w w' k k' : Option (List ℕ)} {c c' : Seen} (result : Result ℕ StreamFault)
    (s : Streamed r r' w w' k k' c c' result) (log : List Command) → c'.honest → ShowsLog c log
    → WritesReplies result w w' (replies_text log (joined (records_of (s.taken ++ s.refused)) ++ s.rest))
writes (Ok count) s log h shows = all_written s log s.ends.all_taken (s.replies h log shows)
writes (Err (Truncated n)) s log h shows = all_written s log s.ends.all_taken (s.replies h log shows)
writes (Err Read) s log h shows = all_written s log s.ends (s.replies h log shows)
writes {w = w} {w' = w'} (Err Write) s log h shows =
    let n = length s.written in (
      n,
      subst (λ (t : List ℕ). Appends w w' t) (s.replies h log shows ∙ ap (take n) (text_of s log s.ends)) s.wrote,
    )
writes {w = w} {w' = w'} (Err (Bank fault)) s log h shows =
    let n = length (joined (replies_to log (posts_of s.taken))) in
    let text = text_is log (s.taken ++ s.refused) s.rest s.whole s.few in (
      n,
      subst (λ (t : List ℕ). Appends w w' t) (s.replies h log shows ∙ text_begins log s.taken s.refused
          ∙ ap (take n) text) s.wrote,
    )

-- ---- what a crash leaves

-- the bytes of so many replies acknowledge no more than these
pub few_acknowledged : (xs ys : List (List ℕ)) (n : ℕ) → n ≤ length (joined xs)
    → acknowledged (xs ++ ys) n ≤ length xs
few_acknowledged [] [] n le = omega arith
few_acknowledged [] (y ∷ ys) zero le = omega arith
few_acknowledged [] (y ∷ ys) (suc n) le = absurd (omega arith)
few_acknowledged (x ∷ xs) ys zero le = omega arith
few_acknowledged (x ∷ xs) ys (suc n) le =
    let fits : suc n - length x ≤ length (joined xs) = omega (arith, length-append x (joined xs)) in
    let rest = few_acknowledged xs ys (suc n - length x) fits in
    omega arith

part_short : (t u : List ℕ) → t ≡ take (length t) u → length t ≤ length u
part_short t u e = omega (arith, ap length e, length-take (length t) u)

-- no more was written than the replies to what the bank took
written_few : {r r' w w' k k' : Option (List ℕ)} {c c' : Seen} (result : Result ℕ StreamFault)
    (s : Streamed r r' w w' k k' c c' result) (log : List Command)
    → c'.honest → ShowsLog c log → length s.written ≤ length (joined (replies_to log (posts_of s.taken)))
written_few (Err Write) s log h shows = part_short s.written (joined (replies_to log (posts_of s.taken)))
    (s.replies h log shows)
written_few other s log h shows = let e = ap length (s.replies h log shows) in omega arith

-- what was acknowledged was taken
acknowledged_taken : (log : List Command) (bs refused : List Batch) (n : ℕ)
    → n ≤ length (joined (replies_to log (posts_of bs)))
    → acknowledged (replies_to log (posts_of (bs ++ refused))) n ≤ length (posts_of bs)
acknowledged_taken log bs refused n le =
    let first = replies_to log (posts_of bs) in
    let rest = replies_to (followed_by log (posts_of bs)) (posts_of refused) in
    let each : length first ≡ length (posts_of bs) = one_reply_each log (posts_of bs) (all_posts bs) in
    subst (λ (rs : List (List ℕ)). acknowledged rs n ≤ length (posts_of bs))
    (sym (replies_split log bs refused))
    (subst (λ (k : ℕ). acknowledged (first ++ rest) n ≤ k) each (few_acknowledged first rest n le))

-- ---- records that come again

-- a bank that shows what was taken shows it without those that stand in p
tables_left : (c : Seen) (log p added : List Command) (bs refused : List Batch) → refused ≡ [] → ArePosts p
    → Skips p (posts_of (bs ++ refused)) added
    → ShowsLog c (followed_by (followed_by log p) (posts_of bs)) → ShowsLog c (followed_by (followed_by log p) added)
tables_left c log p added bs refused none hp skips shows =
    shows_log_left_out c log p (posts_of bs) added hp (all_posts bs)
    (subst (λ (x : List Batch). Skips p (posts_of x) added) (sym (all_taken bs refused none)) skips) shows

tables_again : {r r' w w' k k' : Option (List ℕ)} {c c' : Seen} (result : Result ℕ StreamFault)
    (s : Streamed r r' w w' k k' c c' result) (log p added : List Command)
    → c'.honest → ArePosts p → Skips p (posts_of (s.taken ++ s.refused)) added → ShowsLog c (followed_by log p)
    → IfTaken result (ShowsLog c' (followed_by (followed_by log p) added))
tables_again {c' = c'} (Ok count) s log p added h hp skips shows =
    tables_left c' log p added s.taken s.refused s.ends.all_taken hp skips (s.shows h (followed_by log p) shows)
tables_again {c' = c'} (Err (Truncated n)) s log p added h hp skips shows =
    tables_left c' log p added s.taken s.refused s.ends.all_taken hp skips (s.shows h (followed_by log p) shows)
tables_again {c' = c'} (Err Read) s log p added h hp skips shows =
    tables_left c' log p added s.taken s.refused s.ends hp skips (s.shows h (followed_by log p) shows)
tables_again {c' = c'} (Err Write) s log p added h hp skips shows =
    tables_left c' log p added s.taken s.refused s.ends hp skips (s.shows h (followed_by log p) shows)
tables_again (Err (Bank fault)) s log p added h hp skips shows = tt

-- what was written at the place of a record that is in p, where none was refused
stands_whole : (log p : List Command) (one : List ℕ) (bs refused : List Batch) (written : List ℕ)
    (first : Place one p) (again : Place one (posts_of (bs ++ refused))) → refused ≡ [] → ArePosts p
    → written ≡ joined (replies_to (followed_by log p) (posts_of bs))
    → reply_at (length again.before) written ≡ reply_spelling (reply (followed_by log first.before) one)
stands_whole log p one bs refused written first again none hp is =
    let k = length again.before in
    ap (reply_at k) (is ∙ ap (λ (x : List Batch). joined (replies_to (followed_by log p) (posts_of x)))
    (all_taken bs refused none))
    ∙ reply_stands log p (posts_of (bs ++ refused)) one first again hp (all_posts (bs ++ refused))

-- and where a prefix of the text was written
stands_begun : (log p : List Command) (one : List ℕ) (bs : List Batch) (n : ℕ) (written : List ℕ)
    (first : Place one p) (again : Place one (posts_of bs)) → ArePosts p
    → written ≡ take n (joined (replies_to (followed_by log p) (posts_of bs)))
    → reply_at (length again.before) written ≡ take (length (reply_at (length again.before) written))
    (reply_spelling (reply (followed_by log first.before) one))
stands_begun log p one bs n written first again hp is =
    reply_begins (length again.before) n written (joined (replies_to (followed_by log p) (posts_of bs))) _ is
    (reply_stands log p (posts_of bs) one first again hp (all_posts bs))

replied : {r r' w w' k k' : Option (List ℕ)} {c c' : Seen} (result : Result ℕ StreamFault)
    (s : Streamed r r' w w' k k' c c' result) (log p : List Command) (one : List ℕ) (first : Place one p)
    (again : Place one (posts_of (s.taken ++ s.refused)))
    → c'.honest → ArePosts p → ShowsLog c (followed_by log p)
    → IsReplied result (reply_at (length again.before) s.written)
    (reply_spelling (reply (followed_by log first.before) one))
replied (Ok count) s log p one first again h hp shows =
    stands_whole log p one s.taken s.refused s.written first again s.ends.all_taken hp
    (s.replies h (followed_by log p) shows)
replied (Err (Truncated n)) s log p one first again h hp shows =
    stands_whole log p one s.taken s.refused s.written first again s.ends.all_taken hp
    (s.replies h (followed_by log p) shows)
replied (Err Read) s log p one first again h hp shows =
    stands_whole log p one s.taken s.refused s.written first again s.ends hp
    (s.replies h (followed_by log p) shows)
replied (Err Write) s log p one first again h hp shows =
    stands_begun log p one (s.taken ++ s.refused) (length s.written) s.written first again hp
    (s.replies h (followed_by log p) shows
    ∙ ap (λ (x : List Batch). take (length s.written) (joined (replies_to (followed_by log p) (posts_of x))))
    (all_taken s.taken s.refused s.ends))
replied (Err (Bank fault)) s log p one first again h hp shows =
    stands_begun log p one (s.taken ++ s.refused) _ s.written first again hp
    (s.replies h (followed_by log p) shows ∙ text_begins (followed_by log p) s.taken s.refused)

-- ---- all that a call did

pub streams_of : {C : Type 0} (seen : C → Seen) (reason : Fault → C → C → Type 0) (old new : C)
    {r r' w w' k k' : Option (List ℕ)} {q q' : Option (List ReadCall)} {b b' : Option (List Beside)}
    {t t' : Option (List WriteCall)} (result : Result ℕ StreamFault)
    → StreamsAsRead r r' q q' b b' w w' t k k' (seen old) (seen new) result
    → IfErr result (λ fault. IfBank fault (IsRefusedAfterBatches seen reason old new r r'))
    → UnlessDown result ((seen new).is_down → (seen old).is_down) → ((seen old).is_down → new ≡ old)
    → StreamFaultIsOfItsEnd result q q' t t'
    → Streams r r' q q' b b' w w' t t' k k' seen reason old new result
streams_of seen reason old new result s refused up idle ends =
    let did = s.did in
    let bs = did.taken ++ did.refused in
    record {
      bytes = joined (records_of bs) ++ did.rest;
      read = did.read;
      written = did.written;
      wrote = did.wrote;
      commands = posts_of bs;
      posts = all_posts bs;
      records = posted_is bs ∙ sym (whole_records_are (records_of bs) did.rest did.whole did.few);
      batches = s;
      output = λ h log shows. writes result did log h shows;
      survives = λ h log stood.
          let few = acknowledged_taken log did.taken did.refused (length did.written)
          (written_few result did log h stood.shows) in
          leaves_weaker (seen new) _ _
          (λ t b. at_least log (posts_of bs) (length (posts_of did.taken)) _ t few b)
          (did.survives h log stood);
      resend = record {
        replies = λ h log p hp shows one first again. replied result did log p one first again h hp shows;
        tables = λ h log p added hp skips shows. tables_again result did log p added h hp skips shows;
      };
      refused = refused;
      up = up;
      idle = idle;
      ends = ends;
    }
