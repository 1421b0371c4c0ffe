-- The worked examples of a batch, computed from the definitions.
use Rattle.std.specs.Prelude.{◌≡◌, ℕ, ℤ, List, [], ◌∷◌, map, pos, negsuc, Option, Some, None, Result, Ok, Err, refl}
use Rattle.message_records.specs.declared.{fault.Bad.Bad, records.Outcome.Outcome}
use Rattle.message_records.specs.declared.records.Outcome.TheVariants.{Posted, ReusedNumber, NoAccount, BelowFloor}
use Rattle.message_records.specs.declared.records.Outcome.TheVariants.{WrongBranch}
use Rattle.message_records.specs.believed.Records.{RequestFields, ReplyFields, referenced}
use Rattle.message_records.proofs.Examples.{plain_request}
use Rattle.posting_rules.specs.believed.{Cases.case_of, Commands.opened_with}
use Rattle.posting_rules.specs.believed.Tables.{Tables, branch_row_of, teller_row_of, account_row_of, floor_row_of}
use Rattle.posting_rules.specs.believed.Tables.{reference_row_of}
use Rattle.posting_batch.specs.Batch.{covering_all, no_slots, filled}
use Rattle.posting_batch.specs.{Judging.overlay_with_all, Judging.replies_over, Overlay.Overlay}

-- account, teller, branch, number and amount
request : ℕ → ℕ → ℕ → ℕ → ℤ → Result RequestFields Bad
request a t b n z = Ok (plain_request a t b n z)

-- branch 1 with three accounts and a floor of -1000 cents, and branch 2 with two; of their tellers the first
bank : Tables
bank = record {
  decided = 0;
  branches = branch_row_of 1 (pos 0) (opened_with 3 (Some (negsuc 999)))
      ∷ branch_row_of 2 (pos 0) (opened_with 2 None) ∷ [];
  tellers = teller_row_of 1 (pos 0) ∷ teller_row_of 11 (pos 0) ∷ [];
  accounts = map (λ n. account_row_of n (pos 0)) (1 ∷ 2 ∷ 3 ∷ 100_001 ∷ 100_002 ∷ []);
  history = [];
  requests = [];
  floors = floor_row_of 1 (negsuc 999) ∷ [];
  references = [];
  closings = [];
}

batch_of : List (Result RequestFields Bad) → Overlay
batch_of reads = filled bank (covering_all no_slots reads)

outcomes : List (Result RequestFields Bad) → List (Outcome × Option ℤ)
outcomes reads = map (λ (reply : ReplyFields). (reply.outcome, reply.balance))
    (replies_over (batch_of reads) 1000 reads)

left : List (Result RequestFields Bad) → Overlay
left reads = overlay_with_all (batch_of reads) 1000 reads

-- ---- four requests, of which two are posted

four : List (Result RequestFields Bad)
four = request 1 1 1 1 (pos 5) ∷ request 1 11 2 1 (pos 7) ∷ request 1 1 1 1 (pos 6) ∷ request 9 1 1 2
    (pos 1) ∷ []

replies_of_four : outcomes four ≡ (Posted, Some (pos 5)) ∷ (Posted, Some (pos 12)) ∷ (ReusedNumber, None) ∷
    (NoAccount, None) ∷ []
unfolding request bank batch_of outcomes four case_of
replies_of_four = refl

history_of_four : map (λ row. row.ordinal) (left four).history ≡ 1 ∷ 2 ∷ []
unfolding request bank batch_of left four case_of
history_of_four = refl

decided_of_four : (left four).decided ≡ 3
unfolding request bank batch_of left four case_of
decided_of_four = refl

branches_of_four : map (λ slot. slot.changed) (left four).branches ≡ Some (pos 5) ∷ Some (pos 7) ∷ []
unfolding request bank batch_of left four case_of
branches_of_four = refl

account_of_four : map (λ slot. slot.changed) (left four).accounts ≡ Some (pos 12) ∷ None ∷ []
unfolding request bank batch_of left four case_of
account_of_four = refl

-- ---- one record twice in a batch

twice : List (Result RequestFields Bad)
twice = request 1 1 1 1 (pos 5) ∷ request 1 1 1 1 (pos 5) ∷ []

replies_of_twice : outcomes twice ≡ (Posted, Some (pos 5)) ∷ (Posted, Some (pos 5)) ∷ []
unfolding request bank batch_of outcomes twice case_of
replies_of_twice = refl

history_of_twice : map (λ row. row.ordinal) (left twice).history ≡ 1 ∷ []
unfolding request bank batch_of left twice case_of
history_of_twice = refl

account_of_twice : map (λ slot. slot.changed) (left twice).accounts ≡ Some (pos 5) ∷ []
unfolding request bank batch_of left twice case_of
account_of_twice = refl

-- ---- the account's branch has a floor, whichever teller posts

floored : List (Result RequestFields Bad)
floored = request 1 1 1 1 (negsuc 999) ∷ request 1 11 2 1 (negsuc 0) ∷ request 100_001 1 1 2 (negsuc 4999) ∷
    []

replies_of_floored : outcomes floored ≡ (Posted, Some (negsuc 999)) ∷ (BelowFloor, None) ∷
    (Posted, Some (negsuc 4999)) ∷ []
unfolding request bank batch_of outcomes floored case_of
replies_of_floored = refl

-- ---- requests with references, of which one is posted and one is refused

-- the request with this reference
referring : List ℕ → Result RequestFields Bad → Result RequestFields Bad
referring text (Ok r) = Ok (referenced text r)
referring text (Err fault) = Err fault

referred : List (Result RequestFields Bad)
referred = referring (65 ∷ []) (request 1 1 1 1 (pos 5)) ∷ referring (66 ∷ []) (request 1 1 2 2 (pos 5))
    ∷ request 1 1 1 1 (pos 5) ∷ referring (65 ∷ []) (request 1 1 2 2 (pos 5))
    ∷ referring (66 ∷ []) (request 1 1 2 2 (pos 5)) ∷ []

replies_of_referred : outcomes referred ≡ (Posted, Some (pos 5)) ∷ (WrongBranch, None) ∷ (ReusedNumber, None) ∷
    (ReusedNumber, None) ∷ (WrongBranch, None) ∷ []
unfolding request bank batch_of outcomes referring referred case_of
replies_of_referred = refl

references_of_referred : (left referred).references ≡ reference_row_of 1 (65 ∷ []) ∷ reference_row_of 2
    (66 ∷ []) ∷ []
unfolding request bank batch_of left referring referred case_of
references_of_referred = refl
