-- The kept rows of a file that shows a log are those of its decided requests.
use Rattle.std.specs.Prelude.{◌≡◌, ◌++◌, pos, nat_abs, true, List, [], ◌∷◌, IsSomeAnd}
use Rattle.message_records.specs.believed.Outcomes.{code_of}
use Rattle.posting_rules.specs.believed.Entries.{DecidedRequest, is_posted}
use Rattle.store_rows.specs.believed.Columns.{number_at}
use Rattle.walked_rows.specs.KeptRows.{KeptItem}
use Rattle.walked_rows.specs.Requests.{IsRequestRow, request_in}

-- the row is that of a decided request, with its moment where it was posted
pub record IsRowOf (k : KeptItem) (e : DecidedRequest) : Type 0 where
  pub request : request_in k ≡ e.request
  pub is : IsRequestRow k
  pub outcome : number_at 5 k.entry ≡ pos (code_of e.outcome)
  pub moment : is_posted e ≡ true → IsSomeAnd k.posting (λ p. nat_abs (number_at 4 p) ≡ e.moment)

-- these rows, the newest last, are those of these requests, the newest first
abbrev pub AreRowsOf : List KeptItem → List DecidedRequest → Type 0
AreRowsOf ks [] = ks ≡ []
AreRowsOf ks (e ∷ es) =
    (before : List KeptItem) × (k : KeptItem) × (ks ≡ before ++ k ∷ []) × IsRowOf k e × AreRowsOf before es
