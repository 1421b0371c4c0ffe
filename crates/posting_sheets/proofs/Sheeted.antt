-- What a sheet states, row by row.
use Rattle.std.proofs.Common.{◌≡◌, ◌+◌, ◌∷◌, ◌++◌, ◌∙◌, ℕ, List, [], Some, None, Bool, true, false, Result, Ok, Err}
use Rattle.std.proofs.Common.{length, refl, sym, ap, append-nil, append_assoc}
use Rattle.std.proofs.lemmas.List.{length_push, Concat.flat_map-append}
use Rattle.branch_loader.specs.Records.{Fields, Records, TakesRecord}
use Rattle.message_records.specs.{believed.Records.RequestFields, believed.Spelling.request_spelling}
use Rattle.posting_sheets.specs.Encoding.{IsPutSo, records_text}
use Rattle.posting_sheets.specs.Sheets.{Sheet, form_of, request_of_row, sheet_by, sheet_of_records}
use Rattle.posting_sheets.specs.declared.{form.Form.Form, fault.BadRow.BadRow, fault.SheetFault.SheetFault}
use Rattle.posting_sheets.specs.declared.fault.SheetFault.TheVariants as Fault
use Rattle.posting_sheets.proofs.Prefixes.{prefix-append}

-- ---- the steps

pub by-ok : (form : Form) (before : List RequestFields) (x : Fields) (rest : Records) (r : RequestFields)
    → request_of_row form x ≡ Ok r
    → sheet_by form before (x ∷ rest) ≡ sheet_by form (before ++ r ∷ []) rest
unfolding sheet_by
by-ok form before x rest r e = rw (e, sheet_by) refl

pub by-err : (form : Form) (before : List RequestFields) (x : Fields) (rest : Records) (f : BadRow)
    → request_of_row form x ≡ Err f
    → sheet_by form before (x ∷ rest)
    ≡ record { requests = before; fault = Some (Fault.Row (length before + 1) f) }
unfolding sheet_by
by-err form before x rest f e = rw (e, sheet_by) refl

pub by-none : (form : Form) (before : List RequestFields)
    → sheet_by form before [] ≡ record { requests = before; fault = None }
unfolding sheet_by
by-none form before = refl

pub sheet-empty : sheet_of_records [] ≡ record { requests = []; fault = Some Fault.Header }
unfolding sheet_of_records
sheet-empty = refl

pub sheet-no_header : (fields : Fields) (rest : Records) → form_of fields ≡ None
    → sheet_of_records (fields ∷ rest) ≡ record { requests = []; fault = Some Fault.Header }
unfolding sheet_of_records
sheet-no_header fields rest e = rw e refl

pub sheet-header : (form : Form) (fields : Fields) (rest : Records) → form_of fields ≡ Some form
    → sheet_of_records (fields ∷ rest) ≡ sheet_by form [] rest
unfolding sheet_of_records
sheet-header form fields rest e = rw e refl

-- the requests before are the first of the sheet
pub prefix-by : (form : Form) (before : List RequestFields) (rest : Records) → (more : List RequestFields)
    × ((sheet_by form before rest).requests ≡ before ++ more)
prefix-by form before [] = ([], ap (λ (s : Sheet). s.requests) (by-none form before) ∙ sym (append-nil before))
prefix-by form before (x ∷ rest) =
    by (request_of_row form x) refl (λ r. prefix-by form (before ++ r ∷ []) rest)
  where
    by : (o : Result RequestFields BadRow) → request_of_row form x ≡ o
        → ((r : RequestFields) → (more : List RequestFields)
        × ((sheet_by form (before ++ r ∷ []) rest).requests ≡ (before ++ r ∷ []) ++ more))
        → (more : List RequestFields) × ((sheet_by form before (x ∷ rest)).requests ≡ before ++ more)
    by (Ok r) e more =
        let h = more r in (
          r ∷ h.0,
          ap (λ (s : Sheet). s.requests) (by-ok form before x rest r e) ∙ h.1
              ∙ append_assoc before (r ∷ []) h.0,
        )
    by (Err f) e more =
        ([], ap (λ (s : Sheet). s.requests) (by-err form before x rest f e) ∙ sym (append-nil before))

-- ---- a sheet that is being translated

-- after its header and so many rows it has these left, and their records are put after the bytes that were there
pub record IsPutUpTo (left : Records → Type 0) (all : Records) (form : Form) (count : ℕ)
    (old new : List ℕ) : Type 0 where
  pub before : List RequestFields
  pub rest : Records
  pub there : left rest
  pub states : sheet_of_records all ≡ sheet_by form before rest
  pub long : length before ≡ count
  pub put : new ≡ old ++ records_text before

-- what was put of a sheet that ended so
abbrev pub IsPut : Records → Result ℕ SheetFault → List ℕ → List ℕ → Type 0
IsPut all result old new =
    (written : List ℕ) × (new ≡ old ++ written) × IsPutSo (sheet_of_records all) result written

pub put-first : (left : Records → Type 0) (found : Bool) (fields : Fields) (all : Records) (form : Form)
    (old : List ℕ)
    → TakesRecord found fields all left → found ≡ true → form_of fields ≡ Some form
    → IsPutUpTo left all form 0 old old
put-first left false fields all form old t f h = cc f
put-first left true fields all form old t f h = record {
  before = [];
  rest = t.0;
  there = t.2;
  states = rw t.1 (sheet-header form fields t.0 h);
  long = refl;
  put = sym (append-nil old);
}

pub put-row : {left left' : Records → Type 0} {all : Records} {form : Form} {count : ℕ} {old new : List ℕ}
    (found : Bool) (fields : Fields) (r : RequestFields) (count' : ℕ) (new' : List ℕ)
    → (p : IsPutUpTo left all form count old new)
    → TakesRecord found fields p.rest left' → found ≡ true
    → request_of_row form fields ≡ Ok r → count' ≡ count + 1 → new' ≡ new ++ request_spelling r
    → IsPutUpTo left' all form count' old new'
put-row false fields r count' new' p t f q m n = cc f
put-row {form = form} {count = count} {old = old} true fields r count' new' p t f q m n =
    record {
      before = p.before ++ r ∷ [];
      rest = t.0;
      there = t.2;
      states = p.states ∙ rw t.1 (by-ok form p.before fields t.0 r q);
      long = length_push p.before r ∙ rw (p.long, m) refl;
      put = n ∙ ap (λ (xs : List ℕ). xs ++ request_spelling r) p.put
          ∙ append_assoc old (records_text p.before) (request_spelling r)
          ∙ ap (λ (xs : List ℕ). old ++ xs) (sym (flat_map-append request_spelling p.before (r ∷ [])
          ∙ ap (λ (xs : List ℕ). records_text p.before ++ xs) (append-nil (request_spelling r))));
    }

pub put-all : (left' : Records → Type 0) {left : Records → Type 0} {all : Records} {form : Form} {count : ℕ}
    {old new : List ℕ} (found : Bool) (fields : Fields) → (p : IsPutUpTo left all form count old new)
    → TakesRecord found fields p.rest left' → found ≡ false → IsPut all (Ok count) old new
put-all left' true fields p t f = cc f
put-all left' {all = all} {form = form} false fields p t f =
    let whole : sheet_of_records all ≡ record { requests = p.before; fault = None } = p.states
    ∙ rw t (by-none form p.before) in
    (records_text p.before, p.put, rw whole (refl, sym p.long, refl))

-- a row that states none
pub put-fault : (left' : Records → Type 0) {left : Records → Type 0} {all : Records} {form : Form} {count : ℕ}
    {old new : List ℕ} (found : Bool) (fields : Fields) (f : BadRow) (row : ℕ)
    → (p : IsPutUpTo left all form count old new)
    → TakesRecord found fields p.rest left' → found ≡ true
    → request_of_row form fields ≡ Err f → row ≡ count + 1 → IsPut all (Err (Fault.Row row f)) old new
put-fault left' false fields f row p t b q n = cc b
put-fault left' {all = all} {form = form} true fields f row p t b q n =
    let here : length p.before + 1 ≡ row = rw p.long (sym n) in
    let whole : sheet_of_records all ≡ record { requests = p.before; fault = Some (Fault.Row row f) } = p.states
    ∙ rw t.1 (by-err form p.before fields t.0 f q)
    ∙ ap (λ (k : ℕ). record { requests = p.before; fault = Some (Fault.Row k f) }) here in
    (records_text p.before, p.put, rw whole (refl, refl))

-- memory was refused
pub put-some : {left : Records → Type 0} {all : Records} {form : Form} {count : ℕ} {old new : List ℕ}
    → IsPutUpTo left all form count old new → IsPut all (Err Fault.Memory) old new
put-some {all = all} {form = form} p =
    let more = prefix-by form p.before p.rest in (
      records_text p.before,
      p.put,
      rw (p.states, more.1, flat_map-append request_spelling p.before more.0)
          (prefix-append (records_text p.before) (records_text more.0)),
    )

-- no record, or none that is a header
pub put-no_header : (left : Records → Type 0) (found : Bool) (fields : Fields) (all : Records) (old : List ℕ)
    → TakesRecord found fields all left → (found ≡ true → form_of fields ≡ None)
    → IsPut all (Err Fault.Header) old old
put-no_header left false fields all old t h =
    ([], sym (append-nil old), rw (t, sheet-empty) (refl, refl))
put-no_header left true fields all old t h =
    ([], sym (append-nil old), rw (t.1, sheet-no_header fields t.0 (h refl)) (refl, refl))

-- and nothing of a sheet
pub put-nothing : (all : Records) (old : List ℕ) → IsPut all (Err Fault.Memory) old old
put-nothing all old = ([], sym (append-nil old), refl)
