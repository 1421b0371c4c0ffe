-- A record is judged by an overlay, and changes it.
use Rattle.std.specs.Prelude.{ℕ, ◌+◌, ℤ, List, [], ◌∷◌, ◌++◌, Option, Some, None, Result, Ok, Err}
use Rattle.message_records.specs.declared.fault.Bad.{Bad}
use Rattle.message_records.specs.believed.Records.{RequestFields, ReplyFields}
use Rattle.posting_rules.specs.declared.judgments.Found.{Found}
use Rattle.posting_rules.specs.declared.judgments.Verdict.{Verdict}
use Rattle.posting_rules.specs.declared.judgments.Verdict.TheVariants.{Unkept, Again, Refused, Posted}
use Rattle.posting_rules.specs.declared.rows.ReferenceRow.{ReferenceRow}
use Rattle.posting_rules.specs.believed.Cases.{case_of, reply_in}
use Rattle.posting_rules.specs.believed.Changes.{row_changed}
use Rattle.posting_rules.specs.believed.Numbering.{branch_of_teller, branch_of_account}
use Rattle.posting_rules.specs.believed.Entries.{DecidedRequest, refused_entry, posted_entry, kept_fields}
use Rattle.posting_rules.specs.believed.Entries.{malformed_reply}
use Rattle.posting_rules.specs.believed.LookUps.{both_of}
use Rattle.posting_rules.specs.believed.Tables.{request_row_of, history_row_of, reference_row_of}
use Rattle.posting_batch.specs.Overlay.{Overlay}
use Rattle.posting_batch.specs.Slots.{books_in_slots, slot_balance, kept_in_slots, slots_kept, account_slot_key}
use Rattle.posting_batch.specs.Slots.{account_slot_balance, with_account_changed, teller_slot_key}
use Rattle.posting_batch.specs.Slots.{teller_slot_balance, with_teller_changed, branch_slot_key}
use Rattle.posting_batch.specs.Slots.{branch_slot_balance, with_branch_changed, slot_floor}

-- all that is looked up for a request
abbrev pub found_over : Overlay → RequestFields → Found
found_over o r = record {
  teller = both_of (slot_balance teller_slot_key teller_slot_balance o.tellers r.teller)
      (slot_balance branch_slot_key branch_slot_balance o.branches (branch_of_teller r.teller));
  kept = kept_in_slots o.kept r.teller r.number;
  books = books_in_slots o.kept r.teller r.number;
  decided = o.decided;
  account = slot_balance account_slot_key account_slot_balance o.accounts r.account;
  floor = slot_floor o.floors (branch_of_account r.account);
}

-- the reference of a decided request is after the others, where it has one
abbrev pub reference_after : ℕ → Option (List ℕ) → List ReferenceRow → List ReferenceRow
reference_after ordinal None rows = rows
reference_after ordinal (Some text) rows = rows ++ reference_row_of ordinal text ∷ []

-- a decided request is kept under the next ordinal, posted or not, with its reference, and counted
abbrev pub overlay_kept : Overlay → DecidedRequest → Overlay
overlay_kept o e = record o {
  kept = slots_kept e.request.teller e.request.number (kept_fields e) o.kept;
  decided = o.decided + 1;
  requests = o.requests ++ request_row_of (o.decided + 1) e ∷ [];
  references = reference_after (o.decided + 1) e.request.reference o.references;
}

-- and a posting changes three balances, and has a row of history under the same ordinal (TPC-B 1.2)
abbrev pub overlay_posted : Overlay → DecidedRequest → ℤ → ℤ → Overlay
overlay_posted o e teller branch = record {
  branches = row_changed branch_slot_key (with_branch_changed branch)
      (branch_of_teller e.request.teller) o.branches;
  floors = o.floors;
  tellers = row_changed teller_slot_key (with_teller_changed teller) e.request.teller o.tellers;
  accounts = row_changed account_slot_key (with_account_changed e.balance) e.request.account o.accounts;
  kept = slots_kept e.request.teller e.request.number (kept_fields e) o.kept;
  decided = o.decided + 1;
  history = o.history ++ history_row_of (o.decided + 1) e ∷ [];
  requests = o.requests ++ request_row_of (o.decided + 1) e ∷ [];
  references = reference_after (o.decided + 1) e.request.reference o.references;
}

-- what a verdict on a request leaves
abbrev pub overlay_after : Overlay → ℕ → RequestFields → Verdict → Overlay
overlay_after o moment r (Unkept outcome) = o
overlay_after o moment r (Again reply) = o
overlay_after o moment r (Refused outcome) = overlay_kept o (refused_entry moment r outcome)
overlay_after o moment r (Posted account teller branch) = overlay_posted o
    (posted_entry moment r account) teller branch

-- what is left by what was read of a record, which may be no request
abbrev pub overlay_with : Overlay → ℕ → Result RequestFields Bad → Overlay
overlay_with o moment (Err fault) = o
overlay_with o moment (Ok r) = overlay_after o moment r (case_of (found_over o r) r)

-- and the reply to it
abbrev pub reply_over : Overlay → Result RequestFields Bad → ReplyFields
reply_over o (Err fault) = malformed_reply
reply_over o (Ok r) = reply_in (case_of (found_over o r) r) r

-- records one after another: each is judged by what the ones before it left
abbrev pub overlay_with_all : Overlay → ℕ → List (Result RequestFields Bad) → Overlay
overlay_with_all o moment [] = o
overlay_with_all o moment (read ∷ reads) = overlay_with_all (overlay_with o moment read) moment reads

abbrev pub replies_over : Overlay → ℕ → List (Result RequestFields Bad) → List ReplyFields
replies_over o moment [] = []
replies_over o moment (read ∷ reads) = reply_over o read ∷ replies_over
    (overlay_with o moment read) moment reads
