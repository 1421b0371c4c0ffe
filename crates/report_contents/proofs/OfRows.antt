-- The audit of the rows of tables, each beside the other of its ordinal, is the audit of the tables.
use Rattle.std.proofs.Common.{◌≡◌, ◌+◌, ℕ, suc, Bool, List, [], ◌∷◌, map, filter, length}
use Rattle.std.proofs.Common.{refl, ap, ◌∙◌, inl, inr, arith}
use Rattle.std.specs.Prelude.{ℤ, Option}
use Rattle.std.proofs.{lemmas.Bool.cases_Bool, lemmas.List.length-append, lemmas.List.length-map}
use Rattle.posting_rules.specs.believed.Laws.{total}
use Rattle.walked_rows.specs.declared.{postings.StoredPosting.StoredPosting, requests.StoredRequest.StoredRequest}
use Rattle.report_contents.specs.declared.audit.Audit.{Audit}
use Rattle.report_contents.specs.Audit.{audit_of, delta_of, is_odd_request, is_odd_posting, request_ordinal}
use Rattle.report_contents.specs.Audit.{posting_ordinal, request_under, posting_under, unmatched}
use Rattle.report_contents.specs.Beside.{RowsTellOfTables, audit_of_rows, delta_in, is_alone, is_odd, rows_of}

-- those that pass a test are as many as those whose images pass it
as_many : {X Y : Type 0} (f : X → Y) (p : Y → Bool) (xs : List X) → length (filter p (map f xs))
    ≡ length (filter (λ x. p (f x)) xs)
as_many f p [] = refl
as_many f p (x ∷ xs) = elim (cases_Bool (p (f x))) [
  | inl t ↦ rw t (ap suc (as_many f p xs))
  | inr e ↦ rw e (as_many f p xs)
]

deltas : (f : StoredPosting → StoredPosting × Option StoredRequest)
    (same : (h : StoredPosting) → delta_in (f h) ≡ delta_of h) (hs : List StoredPosting)
    → map delta_in (map f hs) ≡ map delta_of hs
deltas f same [] = refl
deltas f same (h ∷ hs) = rw (same h, deltas f same hs) refl

pub rows_tell : RowsTellOfTables
rows_tell t =
    let asked = map (λ (r : StoredRequest). (r, posting_under t r.ordinal)) t.requests in
    let posted = map (λ (h : StoredPosting). (h, request_under t h.ordinal)) t.history in
    let requests : length asked ≡ length t.requests = length-map t.requests _ in
    let history : length posted ≡ length t.history = length-map t.history _ in
    let sum : total (map delta_in posted) ≡ total (map delta_of t.history) =
    ap total (deltas _ (λ h. refl) t.history) in
    let odd = as_many (λ (r : StoredRequest). (r, posting_under t r.ordinal)) is_odd t.requests in
    let alone = as_many (λ (h : StoredPosting). (h, request_under t h.ordinal)) is_alone t.history in
    let parts = length-append (map request_ordinal (filter (is_odd_request t) t.requests))
    (map posting_ordinal (filter (is_odd_posting t) t.history)) in
    let asks = length-map (filter (is_odd_request t) t.requests) request_ordinal in
    let posts = length-map (filter (is_odd_posting t) t.history) posting_ordinal in
    let count : length (filter is_odd asked) + length (filter is_alone posted) ≡ length (unmatched t) =
    omega (arith, odd, alone, parts, asks, posts) in
    ap (λ (n : ℕ). let a : Audit = record (audit_of_rows (rows_of t)) { requests = n } in a) requests
    ∙ ap (λ (n : ℕ). let a : Audit = record (audit_of_rows (rows_of t))
    { requests = length t.requests; history = n } in a) history
    ∙ ap (λ (z : ℤ). let a : Audit = record (audit_of_rows (rows_of t))
    { requests = length t.requests; history = length t.history; history_sum = z } in a) sum
    ∙ ap (λ (n : ℕ). let a : Audit = record (audit_of t) { unmatched = n } in a) count
