-- How a stream ends: where all that was read was taken, and at a batch.
use Rattle.std.proofs.Common.{◌≡◌, ℕ, ◌<◌, ◌≤◌, List, [], ◌∷◌, ◌++◌, length, take, Option, Result, Ok, Err, refl, sym}
use Rattle.std.proofs.Common.{ap, subst, ◌∙◌, append-nil, arith}
use Rattle.std.specs.{List.AllByRecursion, Io.KnownBytes.Consumes, Io.KnownBytes.IsAtEnd}
use Rattle.std.proofs.KnownBytes.{Appends-trans, Appends-kept}
use Rattle.posting_rules.specs.{declared.fault.Fault.Fault, believed.Commands.Command, believed.Tables.AreTablesOf}
use Rattle.posting_rules.specs.declared.limits.TheConstants.{RECORDS_PER_BATCH}
use Rattle.posting_rules.specs.declared.fault.Fault.TheVariants.{Memory}
use Rattle.posting_core.specs.{declared.stream.StreamFault.StreamFault, believed.Clock.AreReadings, Clock.IsReading}
use Rattle.posting_core.specs.{Batches.BreaksOff, believed.EndCalls.ReadCall, EndCalls.Beside, EndCalls.WriteCall}
use Rattle.posting_core.specs.declared.stream.StreamFault.TheVariants.{Truncated, Read, Write, Bank}
use Rattle.posting_rules.specs.believed.Counter.{LeavesOnly, Seen, ShowsLog, StandsAt, Refuses, IsSeenUnchanged}
use Rattle.posting_rules.specs.believed.Tables.{Tables}
use Rattle.posting_rules.specs.believed.Runs.{followed_by, posts, replies_to}
use Rattle.posting_core.specs.believed.Batches.{Batch, IsBatch, IsRecord, joined, moments_of, records_of, posts_of}
use Rattle.posting_core.specs.believed.Stream.{EndsStream, IsStreamedOn, RepliesAreWritten, IfUp, UnlessDown}
use Rattle.posting_rules.specs.believed.AnyTables.{HasRoom}
use Rattle.posting_core.specs.believed.ByTables.{BatchesByTables}
use Rattle.posting_core.proofs.{Batched.joined-append, ByTables.batch_more}
use Rattle.posting_core.specs.Stream.{FollowReads, StreamsAsRead, read_by, submitted_by}
use Rattle.posting_core.proofs.{ReadsFollowed.Following, Prompt.prompt_written, Streaming.Going}
use Rattle.posting_core.proofs.Batched.{posts_of_one_more, replies_of_one_more}
use Rattle.posting_rules.proofs.Remaining.{leaves_still}
use Rattle.posting_core.proofs.Stops.{refused_stop, stop_all, stop_part, written_part}
use Rattle.posting_core.proofs.StreamedBatches.{all_more, takes_batch, read_batch, whole_batch, clock_batch}

-- ---- ends where all that was read was taken

-- whatever the result says of what was written, it says it here
pub record FitsAll (result : Result ℕ StreamFault) : Type 1 where
  pub written : (t s : List ℕ) → t ≡ s → RepliesAreWritten result t s
  pub up : (P : Type 0) → P → UnlessDown result P

streamed_on : (result : Result ℕ StreamFault) → FitsAll result → (c c' : Seen) (done : List Batch) (written : List ℕ)
    (answers : List (List ℕ)) → BatchesByTables c c' done answers → written ≡ joined answers → c'.honest → (t : Tables)
    → HasRoom t → c.tables t → IsStreamedOn t c c' done written result
streamed_on result fits c c' done written answers led texts h t room there = record {
  replies = fits.written written _ (texts ∙ ap joined (led.are h t room there));
  shows = fits.up _ (led.shows h t room there);
  survives = λ only. fits.up _ (led.survives h t room there only);
}

-- so it is where the last of the replies were written in part
streamed_in_part : (c c'' : Seen) (bs : List Batch) (one two : List ℕ) (before answers : List (List ℕ))
    → BatchesByTables c c'' bs (before ++ answers) → one ≡ joined before → two ≡ take (length two) (joined answers)
    → c''.honest → (t : Tables) → HasRoom t → c.tables t → IsStreamedOn t c c'' bs (one ++ two) (Err Write)
streamed_in_part c c'' bs one two before answers led is part h t room there = record {
  replies = written_part one two (joined before) (joined answers) is part
      ∙ ap (take (length (one ++ two))) (sym (joined-append before answers) ∙ ap joined (led.are h t room there));
  shows = led.shows h t room there;
  survives = led.survives h t room there;
}

-- batches and none more follow the same reads
abbrev follow_all : {q q' : Option (List ReadCall)} {done : List Batch} → FollowReads q q' done
    → FollowReads q q' (done ++ [])
follow_all {done = done} f = record {
  reads = f.reads;
  made = f.made;
  together = λ m. subst (λ (bs : List Batch). (n : ℕ) × (submitted_by m bs ≡ read_by n f.reads))
      (sym (append-nil done)) (f.together m);
  at_once = λ n. subst (λ (bs : List Batch). (m : ℕ) × (submitted_by m bs ≡ read_by n f.reads))
      (sym (append-nil done)) (f.at_once n);
}

end_of : {r r' w w' k k' : Option (List ℕ)} {q q' : Option (List ReadCall)} {b b' : Option (List Beside)}
    {t : Option (List WriteCall)} {c c' : Seen} {done : List Batch} {rest : List ℕ} {count left : ℕ}
    {written : List ℕ}
    (result : Result ℕ StreamFault) (g : Going r r' w w' k k' c c' done rest count written)
    → FitsAll result → length rest < 100 → EndsStream result r' done [] rest
    → Following q q' b b' w t done left written → StreamsAsRead r r' q q' b b' w w' t k k' c c' result
end_of {r = r} {r' = r'} {k = k} {k' = k'} {c = c} {c' = c'} {done = done} {rest = rest}
    {written = written} result g fits few ends follow =
    let none : done ++ [] ≡ done = append-nil done in
    record {
      did = record {
        taken = done;
        refused = [];
        rest = rest;
        read = subst (λ (bs : List Batch). Consumes r r' (joined (records_of bs) ++ rest)) (sym none) g.read;
        whole = subst (λ (bs : List Batch). AllByRecursion IsRecord (records_of bs)) (sym none) g.whole;
        sizes = subst (λ (bs : List Batch). AllByRecursion IsBatch bs) (sym none) g.sizes;
        few = few;
        clock = subst (λ (bs : List Batch). AreReadings k k' (moments_of bs)) (sym none) g.clock;
        written = written;
        wrote = g.wrote;
        ends = ends;
        honest = g.honest;
        replies = λ h log s. fits.written written (joined (replies_to log (posts_of done)))
            (g.replies h log s);
        shows = λ h log s. fits.up (ShowsLog c' (followed_by log (posts_of done))) (g.takes.shows h log s);
        stands = λ h log s. fits.up (StandsAt c' (followed_by log (posts_of done))) (g.takes.stands h log s);
        by_tables = streamed_on result fits c c' done written g.answers g.by_tables g.texts;
        survives = λ h log s. stop_all c' log (posts_of (done ++ [])) (posts_of done)
            (ap posts_of none)
            (g.takes.stands h log s);
      };
      follow = follow_all follow.follow;
      prompt = follow.prompt;
    }

-- the input ended with a record
pub end_whole : {r r' w w' k k' : Option (List ℕ)} {q q' : Option (List ReadCall)}
    {b b' : Option (List Beside)} {t : Option (List WriteCall)} {c c' : Seen}
    {done : List Batch} {count left : ℕ} {written : List ℕ} (rest : List ℕ)
    → Going r r' w w' k k' c c' done rest count written → IsAtEnd r' → rest ≡ []
    → Following q q' b b' w t done left written → StreamsAsRead r r' q q' b b' w w' t k k' c c' (Ok count)
end_whole {count = count} rest g ended none follow =
    let len = ap length none in
    end_of (Ok count) g (record { written = λ t s e. e; up = λ P p. p }) (omega arith)
    (record { ended = ended; no_rest = none; all_taken = refl; count_is = g.count_is }) follow

-- it ended within one
pub end_in_record : {r r' w w' k k' : Option (List ℕ)} {q q' : Option (List ReadCall)}
    {b b' : Option (List Beside)} {t : Option (List WriteCall)} {c c' : Seen}
    {done : List Batch} {count left : ℕ} {written : List ℕ} (rest : List ℕ) (n : ℕ)
    → Going r r' w w' k k' c c' done rest count written → IsAtEnd r'
    → length rest ≡ n → 1 ≤ n → n < 100 → Following q q' b b' w t done left written
    → StreamsAsRead r r' q q' b b' w w' t k k' c c' (Err (Truncated n))
end_in_record rest n g ended is some few follow =
    end_of (Err (Truncated n)) g (record { written = λ t s e. e; up = λ P p. p }) (omega (arith, is))
    (record { ended = ended; some = some; rest_is = is; all_taken = refl }) follow

-- the reader failed
pub end_unread : {r r' w w' k k' : Option (List ℕ)} {q q' : Option (List ReadCall)}
    {b b' : Option (List Beside)} {t : Option (List WriteCall)} {c c' : Seen}
    {done : List Batch} {count left : ℕ} {written : List ℕ} (rest : List ℕ)
    → Going r r' w w' k k' c c' done rest count written → length rest < 100
    → Following q q' b b' w t done left written → StreamsAsRead r r' q q' b b' w w' t k k' c c' (Err Read)
end_unread rest g few follow =
    end_of (Err Read) g (record { written = λ t s e. e; up = λ P p. p }) few refl follow

-- ---- ends at a batch

-- an unchanged bank shows what it showed
unchanged_shows : (c c' : Seen) (log : List Command) → IsSeenUnchanged c c' → ShowsLog c log → ShowsLog c' log
unchanged_shows c c' log u s = record {
  commands = s.commands;
  tables = s.tables;
  are = u.tables s.tables s.are;
  shows = s.shows;
}

refused_shows : (fault : Fault) (c c' : Seen) (log cs : List Command) → Refuses fault c c' cs → ShowsLog c log
    → IfUp fault (ShowsLog c' log)
refused_shows Memory c c' log cs u s = unchanged_shows c c' log u s
refused_shows other c c' log cs u s = tt

refused_stands : (fault : Fault) (c c' : Seen) (log cs : List Command) → Refuses fault c c' cs
    → StandsAt c log → IfUp fault (StandsAt c' log)
refused_stands Memory c c' log cs u s = record {
  shows = unchanged_shows c c' log u s.shows;
  up = λ d. s.up (u.down d);
  survives = leaves_still c c' (λ t. AreTablesOf t log) u.left s.survives;
}
refused_stands other c c' log cs u s = tt

refused_tables : (fault : Fault) (c c' : Seen) (t : Tables) (cs : List Command) → Refuses fault c c' cs → c.tables t
    → IfUp fault (c'.tables t)
refused_tables Memory c c' t cs u there = u.tables t there
refused_tables other c c' t cs u there = tt

refused_leaves : (fault : Fault) (c c' : Seen) (t : Tables) (cs : List Command) → Refuses fault c c' cs
    → LeavesOnly c (λ left. left ≡ t) → IfUp fault (LeavesOnly c' (λ left. left ≡ t))
refused_leaves Memory c c' t cs u only = leaves_still c c' (λ left. left ≡ t) u.left only
refused_leaves other c c' t cs u only = tt

-- a batch broke off
pub end_broken : (fault : StreamFault) {r r' w w' w'' k k' k'' : Option (List ℕ)}
    {q q' : Option (List ReadCall)} {v v' : Option (List Beside)} {t : Option (List WriteCall)}
    {c c' c'' : Seen} {done : List Batch} {count left : ℕ} {written : List ℕ} (m : ℕ) (all rest : List ℕ)
    (rs : List (List ℕ))
    → Going r r' w w' k k' c c' done all count written → (all ≡ joined rs ++ rest) × AllByRecursion IsRecord rs
    → (1 ≤ length rs) × (length rs ≤ RECORDS_PER_BATCH) → length rest < 100
    → IsReading k' k'' m → (c''.honest → c'.honest) → BreaksOff fault w' w'' c' c'' m rs
    → Following q q' v v' w t (done ++ record { moment = m; records = rs } ∷ []) left written
    → StreamsAsRead r r' q q' v v' w w'' t k k'' c c'' (Err fault)
end_broken Write {r = r} {r' = r'} {w = w} {w' = w'} {w'' = w''} {k = k} {k' = k'} {k'' = k''}
    {c = c} {c' = c'} {c'' = c''} {done = done} {written = written} m all rest rs g cut size few reading
    honest a follow =
    let b : Batch = record { moment = m; records = rs } in
    let bs = done ++ b ∷ [] in
    let none : (done ++ b ∷ []) ++ [] ≡ done ++ b ∷ [] = append-nil (done ++ b ∷ []) in
    let takes = takes_batch c c' c'' done b honest g.takes a.takes in
    record {
      did = record {
        taken = bs;
        refused = [];
        rest = rest;
        read = subst (λ (x : List Batch). Consumes r r' (joined (records_of x) ++ rest)) (sym none)
            (read_batch r r' done b all rest g.read cut.0);
        whole = subst (λ (x : List Batch). AllByRecursion IsRecord (records_of x)) (sym none)
            (whole_batch done b g.whole cut.1);
        sizes = subst (λ (x : List Batch). AllByRecursion IsBatch x) (sym none)
            (all_more IsBatch done (b ∷ []) g.sizes (size, tt));
        few = few;
        clock = subst (λ (x : List Batch). AreReadings k k'' (moments_of x)) (sym none)
            (clock_batch k k' k'' done b g.clock reading);
        written = written ++ a.written;
        wrote = Appends-trans w w' w'' written a.written g.wrote a.wrote;
        ends = refl;
        honest = λ h. g.honest (honest h);
        replies = λ h log s.
            written_part written a.written _ _ (g.replies (honest h) log s)
            (a.replies h (followed_by log (posts_of done)) (g.takes.shows (honest h) log s))
            ∙ ap (λ (x : List ℕ). take (length (written ++ a.written)) x)
            (sym (replies_of_one_more log done b));
        shows = λ h log s. takes.shows h log s;
        stands = λ h log s. takes.stands h log s;
        by_tables = streamed_in_part c c'' bs written a.written g.answers a.answers
            (batch_more c c' c'' done b g.answers a.answers honest g.by_tables a.by_tables) g.texts a.texts;
        survives = λ h log s. stop_all c'' log (posts_of (bs ++ [])) (posts_of bs) (ap posts_of none)
            (takes.stands h log s);
      };
      follow = follow_all follow.follow;
      prompt = prompt_written written a.written follow.prompt;
    }
end_broken (Bank fault) {r = r} {r' = r'} {w = w} {w' = w'} {w'' = w''} {k = k} {k' = k'} {k'' = k''} {c = c}
    {c' = c'} {c'' = c''} {done = done} {written = written} m all rest rs g cut size few reading honest a follow =
    let b : Batch = record { moment = m; records = rs } in
    record {
      did = record {
        taken = done;
        refused = b ∷ [];
        rest = rest;
        read = read_batch r r' done b all rest g.read cut.0;
        whole = whole_batch done b g.whole cut.1;
        sizes = all_more IsBatch done (b ∷ []) g.sizes (size, tt);
        few = few;
        clock = clock_batch k k' k'' done b g.clock reading;
        written = written;
        wrote = Appends-kept w w' w'' written g.wrote a.wrote;
        ends = refl;
        honest = λ h. g.honest (honest h);
        replies = λ h log s. g.replies (honest h) log s;
        shows = λ h log s. refused_shows fault c' c'' (followed_by log (posts_of done)) (posts m rs) a.refuses
            (g.takes.shows (honest h) log s);
        stands = λ h log s. refused_stands fault c' c'' (followed_by log (posts_of done)) (posts m rs) a.refuses
            (g.takes.stands (honest h) log s);
        by_tables = λ h t room there.
            let led = g.by_tables in
            record {
              replies = g.texts ∙ ap joined (led.are (honest h) t room there);
              shows = refused_tables fault c' c'' _ (posts m rs) a.refuses (led.shows (honest h) t room there);
              survives = λ only. refused_leaves fault c' c'' _ (posts m rs) a.refuses
                  (led.survives (honest h) t room there only);
            };
        survives = λ h log s. stop_part c'' log (posts_of done) (posts m rs)
            (posts_of (done ++ b ∷ []))
            (posts_of_one_more done b)
            (refused_stop fault c' c'' (followed_by log (posts_of done)) (posts m rs) a.refuses h
            (g.takes.stands (honest h) log s));
      };
      follow = follow.follow;
      prompt = follow.prompt;
    }
end_broken Read m all rest rs g cut size few reading honest a follow = absurd a
end_broken (Truncated n) m all rest rs g cut size few reading honest a follow = absurd a
