use Rattle.std.proofs.Common.{◌≡◌, [], ◌∷◌, ◌++◌, suc, length, refl, ap, ◌∙◌, List, ℕ}
use Rattle.posting_rules.specs.believed.Changes.{replies_past_all, tables_past, tables_past_all}
use Rattle.posting_rules.specs.believed.{Tables.Tables, Runs.posts}
use Rattle.posting_rules.proofs.Records.{all_past, all_replies, are_posts}
use Rattle.posting_core.specs.Plain.{plain_tables}
use Rattle.posting_core.proofs.InMemory.{answered_plain, after_plain, by_tables_plain, memory_refused, no_answer, plain_shows}
use Rattle.posting_core.proofs.InMemory.{spared_plain, still_memory}
use Rattle.posting_core.proofs.plain_bank.PlainBankCounter.submit_all.Goals as goal

replies_are : (u t : Tables) (m : ℕ) (rs before all : List (List ℕ)) → all ≡ before ++ replies_past_all u m rs
    → before ≡ [] → u ≡ t → all ≡ replies_past_all t m rs
replies_are u t m rs before all is none same =
    is ∙ ap (λ (out : List (List ℕ)). out ++ replies_past_all u m rs) none
    ∙ ap (λ (v : Tables). replies_past_all v m rs) same

one_each : (t : Tables) (m : ℕ) (rs : List (List ℕ)) → length (replies_past_all t m rs) ≡ length rs
one_each t m [] = refl
one_each t m (r ∷ rs) = ap suc (one_each (tables_past t m r) m rs)

pub returns-clause-call : goal.returns-clause-call
returns-clause-call c =
    let t = plain_tables c.args.self.now in
    let m = c.args.moment in
    let rs = c.args.records.now in
    answered_plain c.args.self.now c.submit_all_within_capacity.new.self (posts m rs)
    c.submit_all_within_capacity.new.replies
    (after_plain c.args.self.now c.submit_all_within_capacity.new.self (posts m rs)
    (λ u. tables_past_all u m rs) (are_posts m rs c.read_range.ensures c.told-records)
    (c.submit_all_within_capacity.ensures.tables
    ∙ ap (λ (u : Tables). tables_past_all u m rs) c.make_room.ensures.stays)
    (λ log s. all_past t log m rs s))

pub returns-clause-count : goal.returns-clause-count
returns-clause-count c =
    let m = c.args.moment in
    let rs = c.args.records.now in
    ap length (replies_are _ (plain_tables c.args.self.now) m rs _ _ c.submit_all_within_capacity.ensures.replies
    (c.reserve.ensures.items ∙ c.new-replies.ensures.items) c.make_room.ensures.stays) ∙ one_each _ m rs

pub returns-clause-answer : goal.returns-clause-answer
returns-clause-answer c h log s =
    let t = plain_tables c.args.self.now in
    let m = c.args.moment in
    let rs = c.args.records.now in
    replies_are _ t m rs _ _ c.submit_all_within_capacity.ensures.replies
    (c.reserve.ensures.items ∙ c.new-replies.ensures.items) c.make_room.ensures.stays
    ∙ all_replies t log m rs (plain_shows c.args.self.now log s)

pub returns-clause-by_tables : goal.returns-clause-by_tables
returns-clause-by_tables c =
    let m = c.args.moment in
    let rs = c.args.records.now in
    by_tables_plain c.args.self.now c.submit_all_within_capacity.new.self m rs _
    (replies_are _ _ m rs _ _ c.submit_all_within_capacity.ensures.replies
    (c.reserve.ensures.items ∙ c.new-replies.ensures.items) c.make_room.ensures.stays)
    (c.submit_all_within_capacity.ensures.tables
    ∙ ap (λ (u : Tables). tables_past_all u m rs) c.make_room.ensures.stays)

pub returns-clause-spares : goal.returns-clause-spares
returns-clause-spares c = tt

pub returns-in_err-reserve : goal.returns-in_err-reserve
returns-in_err-reserve c =
    let refused = c.from_residual.ensures.1 in
    record {
      count = no_answer _ _ refused;
      answer = no_answer _ _ refused;
      call = spared_plain _ _ _ _ (memory_refused _ refused) refl;
      by_tables = no_answer _ _ refused;
      spares = tt;
    }

pub returns-in_err-make_room : goal.returns-in_err-make_room
returns-in_err-make_room c =
    let refused = still_memory _ _ c.from_residual-in_err-make_room.ensures.1 c.in_err-make_room.ensures.memory in
    record {
      count = no_answer _ _ refused;
      answer = no_answer _ _ refused;
      call = spared_plain _ _ _ _ (memory_refused _ refused) c.make_room.ensures.stays;
      by_tables = no_answer _ _ refused;
      spares = tt;
    }

pub submit_all_within_capacity-requires-clause-replies : goal.submit_all_within_capacity-requires-clause-replies
submit_all_within_capacity-requires-clause-replies c = c.in_ok-reserve.ensures.ok

pub submit_all_within_capacity-requires-clause-history : goal.submit_all_within_capacity-requires-clause-history
submit_all_within_capacity-requires-clause-history c = c.in_ok-make_room.ensures.history

pub submit_all_within_capacity-requires-clause-requests : goal.submit_all_within_capacity-requires-clause-requests
submit_all_within_capacity-requires-clause-requests c = c.in_ok-make_room.ensures.requests

pub submit_all_within_capacity-requires-clause-references : goal.submit_all_within_capacity-requires-clause-references
submit_all_within_capacity-requires-clause-references c = c.in_ok-make_room.ensures.references
