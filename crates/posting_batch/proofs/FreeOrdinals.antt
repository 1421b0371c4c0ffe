-- The ordinals that are still to come, which have no request and no reference.
use Rattle.std.proofs.Common.{◌≡◌, ℕ, zero, suc, ◌+◌, ◌<◌, false, cond, eqb, List, Option, Some, None, Result, Ok}
use Rattle.std.proofs.Common.{Err, ap, ◌∙◌, arith}
use Rattle.std.proofs.lemmas.Bool.Decides.{nat_tests}
use Rattle.message_records.specs.{declared.fault.Bad.Bad, believed.Records.RequestFields}
use Rattle.posting_rules.specs.{declared.judgments.Verdict.Verdict, declared.rows.ReferenceRow.ReferenceRow}
use Rattle.posting_rules.specs.{believed.Cases.case_of, believed.Commands.Command, believed.LookUps.found_in}
use Rattle.posting_rules.specs.declared.judgments.Verdict.TheVariants.{Unkept, Again, Refused, Posted}
use Rattle.posting_rules.specs.believed.Changes.{row_put, reference_put, tables_after, tables_read}
use Rattle.posting_rules.specs.believed.Changes.{with_account_balance, with_branch_balance, with_decided}
use Rattle.posting_rules.specs.believed.Changes.{with_history, with_reference, with_request, with_teller_balance}
use Rattle.posting_rules.specs.believed.Entries.{decided, refused_entry, posted_entry}
use Rattle.posting_rules.specs.believed.Tables.{Tables, AreTablesOf, row_at, history_key, request_key, reference_key}
use Rattle.posting_rules.specs.believed.Tables.{history_row_of, request_row_of, reference_row_of}
use Rattle.posting_rules.proofs.RowChanges.{row_at-put}
use Rattle.posting_rules.proofs.TablesWithRecord.{history_row_past, request_row_past, reference_row_past}
use Rattle.posting_batch.specs.believed.Batch.{HasFreeOrdinals}

-- in the tables of a log they are free
pub free_shown : (t : Tables) (log : List Command) (count : ℕ) → AreTablesOf t log → HasFreeOrdinals t count
free_shown t log count shows = record {
  requests = λ o is. requests o is.0;
  postings = λ o is. postings o is.0;
  references = λ o is. references o is.0;
}
  where
    requests : (o : ℕ) → t.decided < o → row_at request_key t.requests o ≡ None
    requests zero lt = absurd (omega arith)
    requests (suc n) lt =
        shows.rows.requests (suc n)
        ∙ request_row_past (decided log) n (let e = shows.rows.decided in omega arith)

    postings : (o : ℕ) → t.decided < o → row_at history_key t.history o ≡ None
    postings zero lt = absurd (omega arith)
    postings (suc n) lt =
        shows.rows.history (suc n)
        ∙ history_row_past (decided log) n (let e = shows.rows.decided in omega arith)

    references : (o : ℕ) → t.decided < o → row_at reference_key t.references o ≡ None
    references zero lt = absurd (omega arith)
    references (suc n) lt =
        shows.rows.references (suc n)
        ∙ reference_row_past (decided log) n (let e = shows.rows.decided in omega arith)

-- ---- a record comes to one of them at most

other_ordinal : (a b : ℕ) → a < b → eqb a b ≡ false
other_ordinal a b lt = grind (arith, nat_tests)

-- a row that is put in under another key leaves a key free
still_none : {R : Type 0} (key : R → ℕ) (x : R) (rows : List R) (k : ℕ) → key x < k
    → row_at key rows k ≡ None → row_at key (row_put key x rows) k ≡ None
still_none {R} key x rows k lt none =
    row_at-put key x rows k
    ∙ ap (λ b. cond b (Some x) (row_at key rows k)) (other_ordinal (key x) k lt) ∙ none

still_unreferenced : (ordinal : ℕ) (reference : Option (List ℕ)) (rows : List ReferenceRow) (k : ℕ)
    → ordinal < k → row_at reference_key rows k ≡ None
    → row_at reference_key (reference_put ordinal reference rows) k ≡ None
still_unreferenced ordinal None rows k lt none = none
still_unreferenced ordinal (Some text) rows k lt none =
    still_none reference_key (reference_row_of ordinal text) rows k lt none

-- one fewer of them
fewer_free : (t : Tables) (count : ℕ) → HasFreeOrdinals t (suc count) → HasFreeOrdinals t count
fewer_free t count free = record {
  requests = λ o is. free.requests o (is.0, omega (arith, is.1));
  postings = λ o is. free.postings o (is.0, omega (arith, is.1));
  references = λ o is. free.references o (is.0, omega (arith, is.1));
}

free_after : (t : Tables) (m : ℕ) (r : RequestFields) (v : Verdict) (count : ℕ)
    → HasFreeOrdinals t (suc count) → HasFreeOrdinals (tables_after t m r v) count
unfolding with_decided with_request with_reference with_history
    with_branch_balance with_teller_balance with_account_balance
free_after t m r (Unkept x) count free = fewer_free t count free
free_after t m r (Again x) count free = fewer_free t count free
free_after t m r (Refused x) count free = record {
  requests = λ o is. still_none request_key (request_row_of (t.decided + 1) (refused_entry m r x))
      t.requests o is.0 (free.requests o (omega (arith, is.0), omega (arith, is.1)));
  postings = λ o is. free.postings o (omega (arith, is.0), omega (arith, is.1));
  references = λ o is. still_unreferenced (t.decided + 1) r.reference t.references o is.0
      (free.references o (omega (arith, is.0), omega (arith, is.1)));
}
free_after t m r (Posted a te b) count free = record {
  requests = λ o is. still_none request_key (request_row_of (t.decided + 1) (posted_entry m r a))
      t.requests o is.0 (free.requests o (omega (arith, is.0), omega (arith, is.1)));
  postings = λ o is. still_none history_key (history_row_of (t.decided + 1) (posted_entry m r a))
      t.history o is.0 (free.postings o (omega (arith, is.0), omega (arith, is.1)));
  references = λ o is. still_unreferenced (t.decided + 1) r.reference t.references o is.0
      (free.references o (omega (arith, is.0), omega (arith, is.1)));
}

pub free_read : (t : Tables) (m : ℕ) (read : Result RequestFields Bad) (count : ℕ)
    → HasFreeOrdinals t (suc count) → HasFreeOrdinals (tables_read t m read) count
free_read t m (Err fault) count free = fewer_free t count free
free_read t m (Ok r) count free = free_after t m r (case_of (found_in t r) r) count free
