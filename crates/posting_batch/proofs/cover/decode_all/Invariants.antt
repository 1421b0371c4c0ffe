use Rattle.std.proofs.Common.{◌≡◌, ◌≤◌, ◌+◌, ◌-◌, ◌++◌, map, drop, length, vec_len}
use Rattle.std.specs.Vec.{vec_capacity}
use Rattle.message_records.specs.believed.Reading.{request_of}
use Rattle.posting_batch.specs.{Batch.covering_all, Room.HasRoomForSlots, View.view}
use Rattle.posting_batch.proofs.cover.decode_all.Given as goal

-- what is left comes to what all come to, and there is room for it
abbrev pub invariant-loop-bytes : goal.invariant-loop-bytes
invariant-loop-bytes l = record {
  overlay : covering_all (view l.overlay) (map request_of (drop l.bytes-index l.records)) ≡ covering_all
      (view l.fn.overlay) (map request_of l.records);
  reads : l.reads.items ++ map request_of (drop l.bytes-index l.records)
      ≡ l.fn.reads.items ++ map request_of l.records;
  reads_room : vec_len l.reads + (length l.records - l.bytes-index) ≤ vec_capacity l.reads;
  room : HasRoomForSlots (length l.records - l.bytes-index) l.overlay;
  history : l.overlay.history ≡ l.fn.overlay.history;
  requests : l.overlay.requests ≡ l.fn.overlay.requests;
  references : l.overlay.references ≡ l.fn.overlay.references;
}
