-- New rows are under the ordinals that follow the count, at most one a record.
use Rattle.std.proofs.Common.{◌≡◌, ℕ, suc, ◌+◌, ◌≤◌, ◌++◌, List, [], ◌∷◌, length, Option, Some, None, Result, Ok, Err}
use Rattle.std.proofs.Common.{sym, subst, arith}
use Rattle.std.specs.List.{AllByRecursion}
use Rattle.message_records.specs.{declared.fault.Bad.Bad, believed.Records.RequestFields}
use Rattle.posting_rules.specs.declared.{judgments.Verdict.Verdict, rows.ReferenceRow.ReferenceRow}
use Rattle.posting_rules.specs.declared.judgments.Verdict.TheVariants.{Unkept, Again, Refused, Posted}
use Rattle.posting_rules.specs.believed.Cases.{case_of}
use Rattle.posting_batch.specs.{believed.Batch.IsNextOrdinal, Overlay.Overlay}
use Rattle.posting_batch.specs.Batch.{HasNextOrdinals, covering, covering_all}
use Rattle.posting_batch.specs.Judging.{found_over, overlay_after, overlay_with, overlay_with_all, reference_after}
use Rattle.posting_rules.proofs.Totals.{all_follow}

-- ---- lists

pub all_more : {A : Type 0} (P : A → Type 0) (xs ys : List A) → AllByRecursion P xs → AllByRecursion P ys
    → AllByRecursion P (xs ++ ys)
all_more P [] ys a b = b
all_more P (x ∷ xs) ys a b = (a.0, all_more P xs ys a.1 b)

-- ---- the ordinals of an overlay whose records are judged one after another

-- so many records before it
pub record Within (first count : ℕ) (o : Overlay) : Type 0 where
  pub rows : HasNextOrdinals first count o
  pub least : first ≤ o.decided
  pub most : o.decided ≤ first + count

-- rows under the next ordinals are so with one ordinal more
wider : {R : Type 0} (ordinal : R → ℕ) (first count : ℕ) (rows : List R)
    → AllByRecursion (λ r. IsNextOrdinal first count (ordinal r)) rows
    → AllByRecursion (λ r. IsNextOrdinal first (suc count) (ordinal r)) rows
wider ordinal first count rows all =
    all_follow (λ r. IsNextOrdinal first count (ordinal r)) (λ r. IsNextOrdinal first (suc count) (ordinal r)) rows
    (λ r is. (is.0, let most = is.1 in omega arith)) all

one_wider : (first count : ℕ) (o : Overlay) → Within first count o → Within first (suc count) o
one_wider first count o it = record {
  rows = record {
    history = wider (λ r. r.ordinal) first count o.history it.rows.history;
    requests = wider (λ r. r.ordinal) first count o.requests it.rows.requests;
    references = wider (λ r. r.ordinal) first count o.references it.rows.references;
  };
  least = it.least;
  most = let most = it.most in omega arith;
}

one_after : {R : Type 0} (ordinal : R → ℕ) (first count : ℕ) (rows : List R) (r : R)
    → AllByRecursion (λ x. IsNextOrdinal first count (ordinal x)) rows
    → IsNextOrdinal first (suc count) (ordinal r)
    → AllByRecursion (λ x. IsNextOrdinal first (suc count) (ordinal x)) (rows ++ r ∷ [])
one_after ordinal first count rows r all one =
    all_more (λ x. IsNextOrdinal first (suc count) (ordinal x)) rows (r ∷ []) (wider ordinal first count rows all)
    (one, tt)

referred : (first count next : ℕ) (reference : Option (List ℕ)) (rows : List ReferenceRow)
    → AllByRecursion (λ r. IsNextOrdinal first count r.ordinal) rows → IsNextOrdinal first (suc count) next
    → AllByRecursion (λ r. IsNextOrdinal first (suc count) r.ordinal) (reference_after next reference rows)
referred first count next None rows all one = wider (λ r. r.ordinal) first count rows all
referred first count next (Some text) rows all one = one_after (λ r. r.ordinal) first count rows _ all one

next_is : (first count : ℕ) (o : Overlay) → Within first count o
    → IsNextOrdinal first (suc count) (o.decided + 1)
next_is first count o it =
    let least = it.least in
    let most = it.most in
    (omega arith, omega arith)

after_one : (first count : ℕ) (o : Overlay) (m : ℕ) (r : RequestFields) (v : Verdict) → Within first count o
    → Within first (suc count) (overlay_after o m r v)
after_one first count o m r (Unkept x) it = one_wider first count o it
after_one first count o m r (Again x) it = one_wider first count o it
after_one first count o m r (Refused x) it =
    let next = next_is first count o it in
    record {
      rows = record {
        history = wider (λ r. r.ordinal) first count o.history it.rows.history;
        requests = one_after (λ r. r.ordinal) first count o.requests _ it.rows.requests next;
        references = referred first count (o.decided + 1) r.reference o.references it.rows.references next;
      };
      least = let least = it.least in omega arith;
      most = let most = it.most in omega arith;
    }
after_one first count o m r (Posted account teller branch) it =
    let next = next_is first count o it in
    record {
      rows = record {
        history = one_after (λ r. r.ordinal) first count o.history _ it.rows.history next;
        requests = one_after (λ r. r.ordinal) first count o.requests _ it.rows.requests next;
        references = referred first count (o.decided + 1) r.reference o.references it.rows.references next;
      };
      least = let least = it.least in omega arith;
      most = let most = it.most in omega arith;
    }

after_read : (first count : ℕ) (o : Overlay) (m : ℕ) (read : Result RequestFields Bad) → Within first count o
    → Within first (suc count) (overlay_with o m read)
after_read first count o m (Err fault) it = one_wider first count o it
after_read first count o m (Ok r) it = after_one first count o m r (case_of (found_over o r) r) it

after_all : (first count total : ℕ) (o : Overlay) (m : ℕ) (reads : List (Result RequestFields Bad))
    → total ≡ count + length reads → Within first count o
    → HasNextOrdinals first total (overlay_with_all o m reads)
after_all first count total o m [] is it =
    let same : count ≡ total = omega (arith, is) in
    subst (λ (n : ℕ). HasNextOrdinals first n o) same it.rows
after_all first count total o m (read ∷ reads) is it =
    after_all first (suc count) total (overlay_with o m read) m reads (omega (arith, is))
    (after_read first count o m read it)

start : (o : Overlay) → HasNextOrdinals o.decided 0 o → Within o.decided 0 o
start o none = record { rows = none; least = omega arith; most = omega arith }

-- the new rows of records
pub next_all : (o : Overlay) (m : ℕ) (reads : List (Result RequestFields Bad)) → HasNextOrdinals o.decided 0 o
    → HasNextOrdinals o.decided (length reads) (overlay_with_all o m reads)
next_all o m reads none = after_all o.decided 0 (length reads) o m reads (omega arith) (start o none)

-- ---- an overlay without new rows

-- it has none
pub record HasNoRow (o : Overlay) : Type 0 where
  pub history : o.history ≡ []
  pub requests : o.requests ≡ []
  pub references : o.references ≡ []

pub none_new : (first : ℕ) (o : Overlay) → HasNoRow o → HasNextOrdinals first 0 o
none_new first o none = record {
  history = subst (AllByRecursion (λ r. IsNextOrdinal first 0 r.ordinal)) (sym none.history) tt;
  requests = subst (AllByRecursion (λ r. IsNextOrdinal first 0 r.ordinal)) (sym none.requests) tt;
  references = subst (AllByRecursion (λ r. IsNextOrdinal first 0 r.ordinal)) (sym none.references) tt;
}

covered_one : (o : Overlay) (read : Result RequestFields Bad) → HasNoRow o → HasNoRow (covering o read)
covered_one o (Err fault) none = none
covered_one o (Ok r) none =
    record { history = none.history; requests = none.requests; references = none.references }

-- slots are no rows
pub none_covered : (o : Overlay) (reads : List (Result RequestFields Bad)) → HasNoRow o
    → HasNoRow (covering_all o reads)
none_covered o [] none = none
none_covered o (read ∷ reads) none = none_covered (covering o read) reads (covered_one o read none)
