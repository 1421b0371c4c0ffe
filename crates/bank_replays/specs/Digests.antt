-- The digest of requests in order, each with its reply and its moment.
use Rattle.std.specs.Prelude.{◌≡◌, ◌≢◌, ◌≤◌, ◌<◌, ◌+◌, ◌-◌, ◌^◌, ◌++◌, ℕ, List, [], ◌∷◌, length, map, replicate, take, ⊤}
use Rattle.std.specs.Prelude.{Option, Some, None, Result, Ok, Err}
use Rattle.std.specs.Int.{to_be_bytes, w64}
use Rattle.std.specs.List.{AllByRecursion}
use Rattle.sha2.specs.Sha256.{sha256}
use Rattle.message_records.specs.believed.Spelling.{reply_spelling, request_spelling}
use Rattle.posting_rules.specs.declared.fault.Fault.{Fault}
use Rattle.posting_rules.specs.declared.fault.Fault.TheVariants.{Damaged, Memory}
use Rattle.walked_rows.specs.KeptRows.{KeptItem}
use Rattle.posting_core.specs.believed.LogEntries.{AnsweredRequest}
use Rattle.walked_rows.specs.Requests.{IsAnsweredRow}
use Rattle.bank_store.specs.KeptEntries.{answered_in}
use Rattle.bank_replays.specs.declared.chain.Digest.{Digest}
use Rattle.bank_replays.specs.declared.fault.ReplayFault.{ReplayFault}
use Rattle.bank_replays.specs.declared.fault.ReplayFault.TheVariants.{Bank, Write}

-- the digest after one request more: SHA-256 of the one before it, the record, the reply and the moment
abbrev pub chained : List ℕ → AnsweredRequest → List ℕ
chained before a =
    sha256 (before ++ (request_spelling a.request ++ (reply_spelling a.reply ++ to_be_bytes w64 a.moment)))

-- the digest after some, the first of them first
abbrev pub digest_from : List ℕ → List AnsweredRequest → List ℕ
digest_from before [] = before
digest_from before (a ∷ more) = digest_from (chained before a) more

-- the digest of requests, which begins with 32 zeros
abbrev pub digest_of : List AnsweredRequest → List ℕ
digest_of = digest_from (replicate 32 0)

-- so many, with this digest
abbrev pub IsDigestOf : List AnsweredRequest → Digest → Type 0
IsDigestOf requests d = (d.requests ≡ length requests) × (d.sha256 ≡ digest_of requests)

-- ---- of a file

-- the digest of kept rows, each of which is a request's, with its reply
abbrev pub IsDigestIn : List KeptItem → Digest → Type 0
IsDigestIn items d = IsDigestOf (map answered_in items) d × AllByRecursion IsAnsweredRow items

-- the digest after these rows, by the one before them
pub record GoesOnBy (first last : Digest) (items : List KeptItem) : Type 0 where
  pub requests : last.requests ≡ length items + first.requests
  pub sha256 : last.sha256 ≡ digest_from first.sha256 (map answered_in items)
  pub each : AllByRecursion IsAnsweredRow items

-- why no more rows were digested: the writer has no part in it, and there is memory for as many as can be counted
abbrev pub EndsDigest : {R : Type 0} → Digest → List R → ReplayFault → Type 0
EndsDigest first rows fault = (fault ≢ Write) × (fault ≡ Bank Memory → 2 ^ 64 - 1 ≤ first.requests + length rows)

-- ---- what is answered

-- the digest of the first so many of these requests, unless there are fewer; they are never told to be damaged
abbrev pub DigestsFirst : ℕ → List AnsweredRequest → Result (Option Digest) Fault → Type 0
DigestsFirst count requests (Ok (Some d)) = (count ≤ length requests) × IsDigestOf (take count requests) d
DigestsFirst count requests (Ok None) = length requests < count
DigestsFirst count requests (Err (Damaged rule)) = ⊥
DigestsFirst count requests (Err fault) = ⊤

-- the same of kept rows
abbrev pub DigestsRows : ℕ → List KeptItem → Result (Option Digest) Fault → Type 0
DigestsRows count all (Ok (Some d)) = (count ≤ length all) × IsDigestIn (take count all) d
DigestsRows count all (Ok None) = length all < count
DigestsRows count all (Err fault) = ⊤
