-- Batches of records: each is submitted under one reading of the clock, and its replies are written in order.
use Rattle.std.specs.Prelude.{◌≡◌, ◌≤◌, ℕ, List, [], ◌∷◌, ◌++◌, length, map}
use Rattle.std.specs.List.{flat_map}
use Rattle.message_records.specs.declared.limits.TheConstants.{REQUEST_BYTES}
use Rattle.posting_rules.specs.declared.limits.TheConstants.{RECORDS_PER_BATCH}
use Rattle.posting_rules.specs.believed.Changes.{replies_past_all, tables_past_all}
use Rattle.posting_rules.specs.believed.Commands.{Command}
use Rattle.posting_rules.specs.believed.Runs.{posts}
use Rattle.posting_rules.specs.believed.Tables.{Tables}

-- texts one after another
abbrev pub joined : List (List ℕ) → List ℕ
joined texts = flat_map (λ text. text) texts

abbrev pub IsRecord : List ℕ → Type 0
IsRecord bytes = length bytes ≡ REQUEST_BYTES

-- the records that were submitted under one reading of the clock
pub record Batch : Type 0 where
  pub moment : ℕ
  pub records : List (List ℕ)

-- 1 to 64 records go together
abbrev pub IsBatch : Batch → Type 0
IsBatch b = (1 ≤ length b.records) × (length b.records ≤ RECORDS_PER_BATCH)

abbrev pub moment_of : Batch → ℕ
moment_of b = b.moment

abbrev pub records_in : Batch → List (List ℕ)
records_in b = b.records

abbrev pub posts_in : Batch → List Command
posts_in b = posts b.moment b.records

-- of batches one after another: the readings of the clock, the records and the commands
abbrev pub moments_of : List Batch → List ℕ
moments_of bs = map moment_of bs

abbrev pub records_of : List Batch → List (List ℕ)
records_of bs = flat_map records_in bs

abbrev pub posts_of : List Batch → List Command
posts_of bs = flat_map posts_in bs

-- what they leave of tables, be these of a log or not, and the replies to them
abbrev pub tables_past_batches : Tables → List Batch → Tables
tables_past_batches t [] = t
tables_past_batches t (b ∷ bs) = tables_past_batches (tables_past_all t b.moment b.records) bs

abbrev pub replies_past_batches : Tables → List Batch → List (List ℕ)
replies_past_batches t [] = []
replies_past_batches t (b ∷ bs) =
    replies_past_all t b.moment b.records ++ replies_past_batches (tables_past_all t b.moment b.records) bs
