use Rattle.std.proofs.Common.{◌≡◌, ◌-◌, ◌++◌, map, drop, length}
use Rattle.smallvec.specs.SmallVec.{HasRoomFor}
use Rattle.message_records.specs.believed.Spelling.{reply_spelling}
use Rattle.posting_batch.specs.{Judging.overlay_with_all, Judging.replies_over, View.view}
use Rattle.posting_batch.proofs.overlay.Overlay.judge_records.Given as goal

-- what is left comes to what all come to, and there is room for it
abbrev pub invariant-loop-read : goal.invariant-loop-read
invariant-loop-read l = record {
  overlay : overlay_with_all (view l.self) l.moment (drop l.read-index l.reads) ≡ overlay_with_all
      (view l.fn.self) l.moment l.reads;
  answers : l.replies.items ++ map reply_spelling
      (replies_over (view l.self) l.moment (drop l.read-index l.reads))
      ≡ l.fn.replies.items ++ map reply_spelling (replies_over (view l.fn.self) l.moment l.reads);
  replies_room : HasRoomFor l.replies (length l.reads - l.read-index);
  requests_room : HasRoomFor l.self.requests (length l.reads - l.read-index);
  history_room : HasRoomFor l.self.history (length l.reads - l.read-index);
  references_room : HasRoomFor l.self.references (length l.reads - l.read-index);
  capacity : l.replies.capacity ≡ l.fn.replies.capacity;
  requests_capacity : l.self.requests.capacity ≡ l.fn.self.requests.capacity;
  history_capacity : l.self.history.capacity ≡ l.fn.self.history.capacity;
  references_capacity : l.self.references.capacity ≡ l.fn.self.references.capacity;
}
