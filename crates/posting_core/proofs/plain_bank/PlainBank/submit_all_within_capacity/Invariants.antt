use Rattle.std.proofs.Common.{◌≡◌, ◌+◌, ◌-◌, ◌≤◌, ◌++◌, drop, length, vec_len}
use Rattle.std.specs.Vec.{vec_capacity}
use Rattle.posting_rules.specs.believed.Changes.{tables_past_all, replies_past_all}
use Rattle.posting_core.specs.Plain.{plain_tables}
use Rattle.posting_core.proofs.plain_bank.PlainBank.submit_all_within_capacity.Given as goal

-- what is left comes to what all come to, and there is room for it
abbrev pub invariant-loop-bytes : goal.invariant-loop-bytes
invariant-loop-bytes l = record {
  tables : tables_past_all (plain_tables l.self) l.moment (drop l.bytes-index l.records)
      ≡ tables_past_all (plain_tables l.fn.self) l.moment l.records;
  answers : l.replies.items ++ replies_past_all (plain_tables l.self) l.moment (drop l.bytes-index l.records)
      ≡ l.fn.replies.items ++ replies_past_all (plain_tables l.fn.self) l.moment l.records;
  replies_room : vec_len l.replies + (length l.records - l.bytes-index) ≤ vec_capacity l.replies;
  requests_room : vec_len l.self.requests + (length l.records - l.bytes-index) ≤ vec_capacity l.self.requests;
  history_room : vec_len l.self.history + (length l.records - l.bytes-index) ≤ vec_capacity l.self.history;
  references_room : vec_len l.self.references + (length l.records - l.bytes-index)
      ≤ vec_capacity l.self.references;
}
