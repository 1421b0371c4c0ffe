-- The digest of requests, one request more, and what is read of a kept row.
use Rattle.std.proofs.Common.{◌≡◌, ◌≤◌, ◌<◌, ◌+◌, ◌-◌, ◌^◌, ◌++◌, ℕ, List, [], ◌∷◌, map, length, replicate, refl, sym}
use Rattle.std.proofs.Common.{ap, subst, ◌∙◌, arith}
use Rattle.std.proofs.lemmas.List.{length-append, length-map, map-append}
use Rattle.posting_rules.specs.{declared.fault.Fault.Fault}
use Rattle.posting_rules.specs.declared.fault.Fault.TheVariants.{Memory}
use Rattle.walked_rows.specs.{KeptRows.KeptItem, KeptRows.kept_item}
use Rattle.walked_rows.specs.{declared.kept.KeptRequest.KeptRequest}
use Rattle.walked_rows.proofs.RisingRows.{all-append}
use Rattle.bank_replays.specs.{declared.chain.Digest.Digest}
use Rattle.bank_replays.specs.{Damaged.fault_in, Digests.EndsDigest, Digests.GoesOnBy, Digests.IsDigestIn}
use Rattle.bank_replays.specs.Digests.{chained, digest_from}
use Rattle.bank_replays.specs.declared.fault.ReplayFault.{ReplayFault, TheVariants.Bank, TheVariants.Write}
use Rattle.posting_core.specs.believed.LogEntries.{AnsweredRequest}
use Rattle.walked_rows.specs.Requests.{IsAnsweredRow}
use Rattle.bank_store.specs.KeptEntries.{answered_in}

-- ---- the digest

digest_more : (before : List ℕ) (xs : List AnsweredRequest) (a : AnsweredRequest)
    → digest_from before (xs ++ a ∷ []) ≡ chained (digest_from before xs) a
digest_more before [] a = refl
digest_more before (x ∷ xs) a = digest_more (chained before x) xs a

-- one row more
pub one_more : (first mid last : Digest) (rows : List KeptRequest) (row : KeptRequest)
    → GoesOnBy first mid (map kept_item rows) → last.requests ≡ mid.requests + 1
    → last.sha256 ≡ chained mid.sha256 (answered_in (kept_item row)) → IsAnsweredRow (kept_item row)
    → GoesOnBy first last (map kept_item (rows ++ row ∷ []))
one_more first mid last rows row it count sha is =
    subst (GoesOnBy first last) (sym (map-append kept_item rows (row ∷ []))) (record {
      requests = omega (arith, count, it.requests, length-append items (kept_item row ∷ []));
      sha256 = sha ∙ ap (λ (s : List ℕ). chained s (answered_in (kept_item row))) it.sha256
          ∙ sym (digest_more first.sha256 (map answered_in items) (answered_in (kept_item row)))
          ∙ ap (digest_from first.sha256) (sym (map-append answered_in items (kept_item row ∷ [])));
      each = all-append IsAnsweredRow items (kept_item row ∷ []) it.each (is, tt);
    })
  where
    items : List KeptItem
    items = map kept_item rows

-- what went on from none is the digest of all
pub digest_is : (first last : Digest) (items all : List KeptItem) → first.requests ≡ 0
    → first.sha256 ≡ replicate 32 0 → GoesOnBy first last items → items ≡ all → IsDigestIn all last
digest_is first last items all none zeros it is =
    subst (λ (l : List KeptItem). IsDigestIn l last) is (
      (
        omega (arith, none, it.requests, length-map items answered_in),
        it.sha256 ∙ ap (λ (s : List ℕ). digest_from s (map answered_in items)) zeros,
      ),
      it.each,
    )

-- a digest of fewer requests than can be counted never ends for want of memory
pub digest_frugal : {R : Type 0} (first : Digest) (rows : List R) (count : ℕ) (fault : ReplayFault) → count ≤ 2 ^ 64 - 1
    → first.requests ≡ 0 → EndsDigest first rows fault → (fault ≡ Bank Memory → length rows < count)
    → fault_in fault ≡ Memory → ⊥
digest_frugal first rows count Write most none ends few is = ends.0 refl
digest_frugal first rows count (Bank fault) most none ends few is =
    let memory = ap (λ (f : Fault). let r : ReplayFault = Bank f in r) is in
    let many = ends.1 memory in
    let low = few memory in
    omega (arith, most, none, many, low)
