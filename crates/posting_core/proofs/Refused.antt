-- What stands where the bank refused a batch of a stream.
use Rattle.std.proofs.Common.{◌≡◌, ◌≤◌, ◌<◌, ℕ, List, [], ◌∷◌, ◌++◌, length, Option, Err, refl, sym, ap, subst, ◌∙◌}
use Rattle.std.proofs.Common.{length-append}
use Rattle.std.specs.List.{AllByRecursion}
use Rattle.std.proofs.lemmas.List.{length-map, nil_from_length}
use Rattle.posting_rules.specs.{declared.fault.Fault.Fault, declared.limits.TheConstants.RECORDS_PER_BATCH}
use Rattle.posting_rules.specs.{believed.Commands.Command, believed.Commands.Post, believed.Counter.Seen}
use Rattle.posting_rules.specs.{believed.Counter.Refuses, believed.Runs.posts, believed.Runs.ArePosts}
use Rattle.posting_rules.specs.declared.fault.Fault.TheVariants.{Memory, Store, Down, Damaged}
use Rattle.posting_core.specs.{declared.stream.StreamFault.StreamFault, Batches.BreaksOff, Stream.IfTaken}
use Rattle.posting_core.specs.declared.stream.StreamFault.TheVariants.{Truncated, Read, Write, Bank}
use Rattle.posting_core.specs.believed.Batches.{Batch, IsRecord, joined, records_of, posts_of}
use Rattle.posting_core.specs.believed.Stream.{IfBank, IsRefusedAfterBatches, UnlessDown, posted_records, whole_records}
use Rattle.posting_core.proofs.Batched.{all_posts, posted_is, posts_of_one_more, whole_records_are}
use Rattle.posting_core.proofs.{Streaming.Going, StreamedBatches.read_batch, StreamedBatches.whole_batch}

-- ---- how many commands there are

one_post_each : (bs : List Batch) → length (posts_of bs) ≡ length (records_of bs)
one_post_each [] = refl
one_post_each (b ∷ bs) =
    length-append (posts b.moment b.records) (posts_of bs)
    ∙ (rw (length-map b.records (Post b.moment), one_post_each bs)
    (sym (length-append b.records (records_of bs))))

-- ---- the bank refused a batch

-- one that was down stays so
pub still_down : (fault : Fault) (old new : Seen) (cs : List Command) → Refuses fault old new cs
    → fault ≡ Down → new.is_down
still_down Memory old new cs u e = absurd (cc e)
still_down Store old new cs u e = u.down
still_down Down old new cs u e = u.after
still_down (Damaged rule) old new cs u e = u.down

pub refused_broken : {C : Type 0} (seen : C → Seen) (reason : Fault → C → C → Type 0) (old stood new : C)
    {r r' w w' k k' : Option (List ℕ)}
    {done : List Batch} {count : ℕ} {written : List ℕ} (v v' : Option (List ℕ)) (fault : StreamFault)
    (m : ℕ) (all rest : List ℕ) (rs : List (List ℕ))
    → Going r r' w w' k k' (seen old) (seen stood) done all count written
    → (all ≡ joined rs ++ rest) × AllByRecursion IsRecord rs → length rest < 100 → 1 ≤ length rs
    → length rs ≤ RECORDS_PER_BATCH
    → (count ≡ 0 → stood ≡ old) → ((seen stood).is_down → (seen old).is_down × (count ≡ 0))
    → ((seen new).honest → (seen stood).honest)
    → BreaksOff fault v v' (seen stood) (seen new) m rs → ((seen stood).is_down → fault ≡ Bank Down)
    → IfBank fault (λ cause. reason cause stood new)
    → IfBank fault (IsRefusedAfterBatches seen reason old new r r')
refused_broken seen reason old stood new {r = r} {r' = r'} {done = done} {count = count} v v'
    (Bank fault) m all rest rs g cut few some most first up honest a down why =
    let b : Batch = record { moment = m; records = rs } in
    let bs = done ++ b ∷ [] in
    let made : posts_of bs ≡ posts_of done ++ posts m rs = posts_of_one_more done b in
    let each : length (posts_of done) ≡ count = one_post_each done ∙ sym g.count_is in
    let whole = whole_batch done b g.whole cut.1 in
    record {
      bytes = joined (records_of bs) ++ rest;
      read = read_batch r r' done b all rest g.read cut.0;
      taken = posts_of done;
      batch = posts m rs;
      posts = subst (λ (cs : List Command). ArePosts cs) made (all_posts bs);
      records = subst (λ (cs : List Command). posted_records cs ≡ whole_records (joined (records_of bs)
          ++ rest)) made
          (posted_is bs ∙ sym (whole_records_are (records_of bs) rest whole few));
      some = rw (length-map rs (Post m)) some;
      few = rw (length-map rs (Post m)) most;
      stood = stood;
      first = λ none. first (sym each ∙ ap length none);
      takes = g.takes;
      up = λ d. let (before, none) = up d in (before, nil_from_length (posts_of done) (each ∙ none));
      refuses = a.refuses;
      why = why;
      tried = λ d. let e = down d in cc e;
      down = λ d. let e = down d in still_down fault (seen stood) (seen new) (posts m rs) a.refuses (cc e);
      honest = honest;
    }
refused_broken seen reason old stood new v v'
    Read m all rest rs g cut few some most first up honest a down why = tt
refused_broken seen reason old stood new v v'
    Write m all rest rs g cut few some most first up honest a down why = tt
refused_broken seen reason old stood new v v'
    (Truncated n) m all rest rs g cut few some most first up honest a down why = tt

-- ---- whether it is down

-- a bank that is down after a batch that broke off was down before it
pub up_broken : (v v' : Option (List ℕ)) (old stood new : Seen) (m : ℕ) (rs : List (List ℕ)) (fault : StreamFault)
    → BreaksOff fault v v' stood new m rs
    → IfTaken {A = Unit {0}} (Err fault) (new.is_down → ⊥) → (stood.is_down → old.is_down)
    → UnlessDown (Err fault) (new.is_down → old.is_down)
up_broken v v' old stood new m rs Write a up before = λ d. absurd (up d)
up_broken v v' old stood new m rs (Bank Memory) a up before = λ d. before (a.refuses.down d)
up_broken v v' old stood new m rs (Bank Store) a up before = tt
up_broken v v' old stood new m rs Read a up before = absurd a
up_broken v v' old stood new m rs (Truncated n) a up before = absurd a
up_broken v v' old stood new m rs other a up before = tt
