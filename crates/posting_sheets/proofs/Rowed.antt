-- The rows of a sheet, one after another.
use Rattle.std.proofs.Common.{◌≡◌, ◌+◌, ◌∷◌, ◌++◌, ◌∙◌, ℕ, List, [], Some, None, Bool, true, false, Ok, Err}
use Rattle.std.proofs.Common.{length, refl, sym, ap, append_assoc}
use Rattle.std.specs.Prelude.{slice_get}
use Rattle.std.proofs.lemmas.List.{length_push}
use Rattle.branch_loader.specs.Records.{Fields, Records, TakesRecord}
use Rattle.message_records.specs.believed.Records.{ReplyFields, RequestFields}
use Rattle.posting_sheets.specs.Sheets.{Sheet, form_of, request_of_row, sheet_by, sheet_of_records}
use Rattle.posting_sheets.specs.Walking.{IsAfter, IsNextSo, IsNoRow}
use Rattle.posting_sheets.specs.declared.{fault.BadRow.BadRow, fault.RepliesFault.RepliesFault, rows.Rows.Rows}
use Rattle.posting_sheets.specs.declared.fault.RepliesFault.TheVariants as replies
use Rattle.posting_sheets.specs.declared.fault.SheetFault.TheVariants as Fault
use Rattle.posting_sheets.proofs.Sheeted.{by-err, by-none, by-ok, prefix-by, sheet-empty, sheet-header, sheet-no_header}

-- what stands after some is the first after them
get-after : (xs : List RequestFields) (x : RequestFields) (ys : List RequestFields)
    → slice_get (xs ++ x ∷ ys) (length xs) ≡ Some x
get-after [] x ys = refl
get-after (y ∷ xs) x ys = get-after xs x ys

-- ---- the header

pub begun : {S : Type 0} (left : S → Records → Type 0) (rows : Rows S) (found : Bool) (fields : Fields)
    (all : Records) → TakesRecord found fields all (left rows.source) → found ≡ true
    → form_of fields ≡ Some rows.form → IsAfter left rows (sheet_of_records all) 0
begun left rows false fields all t f h = cc f
begun left rows true fields all t f h = record {
  requests = [];
  rest = t.0;
  there = t.2;
  states = rw t.1 (sheet-header rows.form fields t.0 h);
  long = refl;
}

pub begun-not : (left : Records → Type 0) (found : Bool) (fields : Fields) (all : Records)
    → TakesRecord found fields all left → (found ≡ true → form_of fields ≡ None)
    → (sheet_of_records all).fault ≡ Some Fault.Header
begun-not left false fields all t h = rw (t, sheet-empty) refl
begun-not left true fields all t h = rw (t.1, sheet-no_header fields t.0 (h refl)) refl

-- ---- the row after so many

module _ {S : Type 0} {left : S → Records → Type 0} {rows : Rows S} {postings : Sheet} {before : ℕ} where
  -- it states a posting
  pub after-row : (rows' : Rows S) (found : Bool) (fields : Fields) (r : RequestFields)
      → (a : IsAfter left rows postings before) → TakesRecord found fields a.rest (left rows'.source)
      → found ≡ true → request_of_row rows.form fields ≡ Ok r → rows'.form ≡ rows.form
      → (slice_get postings.requests before ≡ Some r) × IsAfter left rows' postings (before + 1)
  after-row rows' false fields r a t f q same = cc f
  after-row rows' true fields r a t f q same =
      let states : postings ≡ sheet_by rows.form (a.requests ++ r ∷ []) t.0 = a.states
      ∙ rw t.1 (by-ok rows.form a.requests fields t.0 r q) in
      let more = prefix-by rows.form (a.requests ++ r ∷ []) t.0 in
      let requests : postings.requests ≡ a.requests ++ r ∷ more.0 = ap (λ (s : Sheet). s.requests) states
      ∙ more.1 ∙ append_assoc a.requests (r ∷ []) more.0 in (
        rw (requests, sym a.long) (get-after a.requests r more.0),
        record {
          requests = a.requests ++ r ∷ [];
          rest = t.0;
          there = t.2;
          states = rw same states;
          long = length_push a.requests r ∙ rw a.long refl;
        },
      )

  -- it states none
  pub after-fault : (left' : Records → Type 0) (found : Bool) (fields : Fields) (f : BadRow)
      → (a : IsAfter left rows postings before) → TakesRecord found fields a.rest left'
      → found ≡ true → request_of_row rows.form fields ≡ Err f
      → (postings.fault ≡ Some (Fault.Row (before + 1) f)) × (length postings.requests ≡ before)
  after-fault left' false fields f a t b q = cc b
  after-fault left' true fields f a t b q =
      let states : postings ≡ record { requests = a.requests; fault = Some (Fault.Row (length a.requests + 1) f) } =
      a.states ∙ rw t.1 (by-err rows.form a.requests fields t.0 f q) in
      (rw (states, a.long) refl, rw (states, a.long) refl)

  -- there is none
  pub after-last : (left' : Records → Type 0) (found : Bool) (fields : Fields)
      → (a : IsAfter left rows postings before) → TakesRecord found fields a.rest left' → found ≡ false
      → (postings.fault ≡ None) × (length postings.requests ≡ before)
  after-last left' true fields a t f = cc f
  after-last left' false fields a t f =
      let states : postings ≡ record { requests = a.requests; fault = None } = a.states
      ∙ rw t (by-none rows.form a.requests) in
      (rw states refl, rw (states, a.long) refl)

-- why it wasn't read is why a reply has no row
pub next-fault : {S : Type 0} (left : S → Records → Type 0) (postings : Sheet) (before : ℕ) (rows : Rows S)
    (r : ReplyFields) (fault : RepliesFault) → IsNextSo left postings before rows (Err fault)
    → IsNoRow postings before r fault
next-fault left postings before rows r (replies.Row row bad) h = h
next-fault left postings before rows r replies.Memory h = tt
next-fault left postings before rows r (replies.Truncated n) h = absurd h
next-fault left postings before rows r (replies.Reply place bad) h = absurd h
next-fault left postings before rows r replies.Read h = absurd h
next-fault left postings before rows r replies.Write h = absurd h
next-fault left postings before rows r replies.Sheet h = absurd h
next-fault left postings before rows r replies.Header h = absurd h
next-fault left postings before rows r (replies.OtherPosting row) h = absurd h
next-fault left postings before rows r replies.MoreReplies h = absurd h
