-- Tables with room have room after records, too.
use Rattle.std.proofs.Common.{◌≡◌, ℕ, ◌+◌, ◌<◌, false, cond, eqb, List, [], ◌∷◌, Option, Some, None, Result, Ok, Err}
use Rattle.std.proofs.Common.{ap, refl, ◌∙◌, arith}
use Rattle.std.specs.Option.{option_map}
use Rattle.std.proofs.lemmas.Bool.Decides.{nat_tests}
use Rattle.message_records.specs.{declared.fault.Bad.Bad, believed.Reading.request_of, believed.Records.RequestFields}
use Rattle.posting_rules.specs.{declared.judgments.Verdict.Verdict, declared.rows.BranchRow.BranchRow}
use Rattle.posting_rules.specs.{declared.rows.ReferenceRow.ReferenceRow, believed.Cases.case_of}
use Rattle.posting_rules.specs.declared.judgments.Verdict.TheVariants.{Unkept, Again, Refused, Posted}
use Rattle.posting_rules.specs.believed.{AnyTables.HasRoom, LookUps.found_in, Numbering.branch_of_teller}
use Rattle.posting_rules.specs.believed.Changes.{row_changed, row_put, reference_put, tables_after, tables_past}
use Rattle.posting_rules.specs.believed.Changes.{tables_past_all, tables_read, with_account_balance}
use Rattle.posting_rules.specs.believed.Changes.{with_branch_balance, with_decided, with_history, with_reference}
use Rattle.posting_rules.specs.believed.Changes.{with_request, with_teller_balance}
use Rattle.posting_rules.specs.believed.Entries.{refused_entry, posted_entry}
use Rattle.posting_rules.specs.believed.Tables.{Tables, branch_key, history_row_of, reference_key, reference_row_of}
use Rattle.posting_rules.specs.believed.Tables.{history_key, request_key, request_row_of, row_at}
use Rattle.posting_rules.proofs.RowChanges.{row_at-changed, row_at-put}

other_ordinal : (a b : ℕ) → a < b → eqb a b ≡ false
other_ordinal a b lt = grind (arith, nat_tests)

-- a row that is put in under another key leaves a key free
still_none : {R : Type 0} (key : R → ℕ) (x : R) (rows : List R) (k : ℕ) → key x < k
    → row_at key rows k ≡ None → row_at key (row_put key x rows) k ≡ None
still_none {R} key x rows k lt none =
    row_at-put key x rows k
    ∙ ap (λ b. cond b (Some x) (row_at key rows k)) (other_ordinal (key x) k lt) ∙ none

still_unreferenced : (ordinal : ℕ) (reference : Option (List ℕ)) (rows : List ReferenceRow) (k : ℕ)
    → ordinal < k → row_at reference_key rows k ≡ None
    → row_at reference_key (reference_put ordinal reference rows) k ≡ None
still_unreferenced ordinal None rows k lt none = none
still_unreferenced ordinal (Some text) rows k lt none =
    still_none reference_key (reference_row_of ordinal text) rows k lt none

-- and so does a row that is changed
pub still_unchanged : {R : Type 0} (key : R → ℕ) (k : ℕ) (change : R → R) → ((r : R) → key (change r) ≡ key r)
    → (rows : List R) (n : ℕ) → row_at key rows n ≡ None → row_at key (row_changed key change k rows) n ≡ None
still_unchanged key k change same rows n none =
    row_at-changed key k change same rows n
    ∙ ap (option_map (λ r. cond (eqb k n) (change r) r)) none

room_after : (t : Tables) (m : ℕ) (r : RequestFields) (v : Verdict) → HasRoom t → HasRoom (tables_after t m r v)
unfolding with_decided with_request with_reference with_history
    with_branch_balance with_teller_balance with_account_balance
room_after t m r (Unkept x) room = room
room_after t m r (Again x) room = room
room_after t m r (Refused x) room = record {
  requests = λ o past. still_none request_key (request_row_of (t.decided + 1) (refused_entry m r x)) t.requests o past
      (room.requests o (omega (arith, past)));
  postings = λ o past. room.postings o (omega (arith, past));
  references = λ o past. still_unreferenced (t.decided + 1) r.reference t.references o past
      (room.references o (omega (arith, past)));
  branches = room.branches;
  floors = room.floors;
}
room_after t m r (Posted a te b) room = record {
  requests = λ o past. still_none request_key (request_row_of (t.decided + 1) (posted_entry m r a)) t.requests o past
      (room.requests o (omega (arith, past)));
  postings = λ o past. still_none history_key (history_row_of (t.decided + 1) (posted_entry m r a)) t.history o past
      (room.postings o (omega (arith, past)));
  references = λ o past. still_unreferenced (t.decided + 1) r.reference t.references o past
      (room.references o (omega (arith, past)));
  branches = λ n none. still_unchanged branch_key (branch_of_teller r.teller)
      (λ (row : BranchRow). record row { balance = b }) (λ row. refl) t.branches n (room.branches n none);
  floors = room.floors;
}

room_read : (t : Tables) (m : ℕ) (read : Result RequestFields Bad) → HasRoom t → HasRoom (tables_read t m read)
room_read t m (Err fault) room = room
room_read t m (Ok r) room = room_after t m r (case_of (found_in t r) r) room

pub room_past_all : (t : Tables) (m : ℕ) (records : List (List ℕ)) → HasRoom t → HasRoom (tables_past_all t m records)
room_past_all t m [] room = room
room_past_all t m (bytes ∷ records) room =
    room_past_all (tables_past t m bytes) m records (room_read t m (request_of bytes) room)
