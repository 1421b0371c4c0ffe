-- Each record has its reply, and each decided request is counted; where none is decided, an overlay stays as
-- it is.
use Rattle.std.proofs.Common.{◌≡◌, ◌⊎◌, ℕ, ◌+◌, ◌<◌, ◌≤◌, List, [], ◌∷◌, length, Result, Ok, Err, refl, ap, ◌∙◌}
use Rattle.std.proofs.Common.{arith, inl, inr, suc, map}
use Rattle.std.proofs.lemmas.List.{length-append}
use Rattle.message_records.specs.declared.fault.Bad.{Bad}
use Rattle.message_records.specs.believed.{Records.RequestFields, Spelling.reply_spelling}
use Rattle.posting_rules.specs.declared.{judgments.Verdict.Verdict, rows.RequestRow.RequestRow}
use Rattle.posting_rules.specs.declared.judgments.Verdict.TheVariants.{Unkept, Again, Refused, Posted}
use Rattle.posting_rules.specs.believed.Cases.{case_of}
use Rattle.posting_batch.specs.Judging.{found_over, overlay_after, overlay_with, overlay_with_all, replies_over}
use Rattle.posting_batch.specs.Overlay.{Overlay}

-- an overlay is as it was, or counts more
abbrev StaysOrCounts : Overlay → Overlay → Type 0
StaysOrCounts old new = (new ≡ old) ⊎ (old.decided < new.decided)

after_counts : (o : Overlay) (m : ℕ) (r : RequestFields) (v : Verdict)
    → StaysOrCounts o (overlay_after o m r v)
after_counts o m r (Unkept x) = inl refl
after_counts o m r (Again x) = inl refl
after_counts o m r (Refused x) = inr (omega arith)
after_counts o m r (Posted a te b) = inr (omega arith)

with_counts : (o : Overlay) (m : ℕ) (read : Result RequestFields Bad)
    → StaysOrCounts o (overlay_with o m read)
with_counts o m (Err fault) = inl refl
with_counts o m (Ok r) = after_counts o m r (case_of (found_over o r) r)

never_less : (old new : Overlay) → StaysOrCounts old new → old.decided ≤ new.decided
never_less old new (inl same) = let e : new.decided ≡ old.decided = ap
    (λ (o : Overlay). o.decided) same in omega arith
never_less old new (inr more) = omega arith

all_counted : (o : Overlay) (m : ℕ) (reads : List (Result RequestFields Bad))
    → o.decided ≤ (overlay_with_all o m reads).decided
all_counted o m [] = omega arith
all_counted o m (read ∷ reads) =
    let next = overlay_with o m read in
    let one : o.decided ≤ next.decided = never_less o next (with_counts o m read) in
    let rest : next.decided ≤ (overlay_with_all next m reads).decided = all_counted next m reads in
    omega (arith, one, rest)

pub all_idle : (o : Overlay) (m : ℕ) (reads : List (Result RequestFields Bad))
    → (overlay_with_all o m reads).decided ≡ o.decided → overlay_with_all o m reads ≡ o
all_idle o m [] none = refl
all_idle o m (read ∷ reads) none =
    let next = overlay_with o m read in
    elim (with_counts o m read) [
      | inl same ↦
          let e : next.decided ≡ o.decided = ap (λ (o : Overlay). o.decided) same in
          let still : (overlay_with_all next m reads).decided ≡ next.decided = omega (arith, none, e) in
          all_idle next m reads still ∙ same
      | inr more ↦
          let rest : next.decided ≤ (overlay_with_all next m reads).decided = all_counted next m reads in
          absurd (omega (arith, none, more, rest))
    ]

-- ---- each has its row

rows_after : (o : Overlay) (m : ℕ) (r : RequestFields) (v : Verdict)
    → (overlay_after o m r v).decided + length o.requests ≡ o.decided + length
    (overlay_after o m r v).requests
rows_after o m r (Unkept x) = refl
rows_after o m r (Again x) = refl
rows_after o m r (Refused x) = omega (arith, length-append {A = RequestRow})
rows_after o m r (Posted a te b) = omega (arith, length-append {A = RequestRow})

rows_with : (o : Overlay) (m : ℕ) (read : Result RequestFields Bad)
    → (overlay_with o m read).decided + length o.requests ≡ o.decided + length
    (overlay_with o m read).requests
rows_with o m (Err fault) = refl
rows_with o m (Ok r) = rows_after o m r (case_of (found_over o r) r)

pub all_rows : (o : Overlay) (m : ℕ) (reads : List (Result RequestFields Bad))
    → (overlay_with_all o m reads).decided + length o.requests ≡ o.decided + length
    (overlay_with_all o m reads).requests
all_rows o m [] = refl
all_rows o m (read ∷ reads) =
    let next = overlay_with o m read in
    let one = rows_with o m read in
    let rest = all_rows next m reads in
    omega (arith, one, rest)

-- ---- and each record has its reply

pub all_answered : (o : Overlay) (m : ℕ) (reads : List (Result RequestFields Bad))
    → length (map reply_spelling (replies_over o m reads)) ≡ length reads
all_answered o m [] = refl
all_answered o m (read ∷ reads) = ap suc (all_answered (overlay_with o m read) m reads)
