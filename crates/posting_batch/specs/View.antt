-- What a batch holds, without where it lies in memory.
use Rattle.std.specs.Prelude.{◌≡◌, ◌*◌, ℕ, List, map, Result}
use Rattle.message_records.specs.declared.fault.Bad.{Bad}
use Rattle.message_records.specs.believed.Reading.{request_of}
use Rattle.message_records.specs.believed.Records.{RequestFields}
use Rattle.posting_rules.specs.believed.Tables.{Tables}
use Rattle.posting_batch.specs.declared.overlay.Overlay as held
use Rattle.posting_batch.specs.declared.batch.Batch.{Batch}
use Rattle.posting_batch.specs.declared.batch.Judged.{Judged}
use Rattle.posting_batch.specs.Overlay.{Overlay}
use Rattle.posting_batch.specs.Reads.{reads_in}
use Rattle.posting_batch.specs.Room.{IsRoomFor}
use Rattle.posting_batch.specs.Batch.{KeepsNew, blanked, covering_all, no_slots, filled}

-- the overlay
abbrev pub view : held.Overlay → Overlay
view o = record {
  branches = o.branches.items;
  floors = o.floors.items;
  tellers = o.tellers.items;
  accounts = o.accounts.items;
  kept = o.kept.items;
  decided = o.decided;
  history = o.history.items;
  requests = o.requests.items;
  references = o.references.items;
}

-- it is empty, and has room for what so many records come to
pub record IsForRecords (count : ℕ) (o : held.Overlay) : Type 0 where
  pub branches : IsRoomFor (2 * count) o.branches
  pub floors : IsRoomFor count o.floors
  pub tellers : IsRoomFor count o.tellers
  pub accounts : IsRoomFor count o.accounts
  pub kept : IsRoomFor count o.kept
  pub undecided : o.decided ≡ 0
  pub history : IsRoomFor count o.history
  pub requests : IsRoomFor count o.requests
  pub references : IsRoomFor count o.references

-- what was read of the records
abbrev pub reads_of : Batch → List (Result RequestFields Bad)
reads_of b = reads_in b.reads

-- the same, once they are judged
abbrev pub reads_judged : Judged → List (Result RequestFields Bad)
reads_judged j = reads_in j.reads

-- the batch is made of these records: there is an empty slot under each key that they can touch
pub record IsMadeOf (b : Batch) (records : List (List ℕ)) : Type 0 where
  pub reads : reads_of b ≡ map request_of records
  pub overlay : view b.overlay ≡ covering_all no_slots (map request_of records)

-- and its slots are filled from these tables
pub record IsFilledFrom (b : Batch) (t : Tables) (records : List (List ℕ)) : Type 0 where
  pub reads : reads_of b ≡ map request_of records
  pub overlay : view b.overlay ≡ filled t (covering_all no_slots (map request_of records))

-- What is judged has the batch's records and its keys. Where no request was kept before it, each that is kept then
-- is a new one.
pub record CanBeMadeAgain (b : Batch) (j : Judged) : Type 0 where
  pub reads : reads_judged j ≡ reads_of b
  pub keys : blanked (view j.overlay) ≡ blanked (view b.overlay)
  pub own : KeepsNew (view b.overlay) → KeepsNew (view j.overlay)
