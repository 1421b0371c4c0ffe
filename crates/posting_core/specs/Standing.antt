-- A kept request in the tables, under its ordinal.
use Rattle.std.specs.Prelude.{◌≡◌, ◌≤◌, ℕ, Some, None, List, nat_abs, option_map, unwrap_or, if◌then◌else◌}
use Rattle.message_records.specs.declared.limits.TheConstants.{MAX_DELTA}
use Rattle.posting_rules.specs.declared.rows.HistoryRow.{HistoryRow}
use Rattle.posting_rules.specs.believed.Entries.{DecidedRequest, is_posted}
use Rattle.posting_rules.specs.believed.Tables.{Tables, history_key, history_row_of, reference_key, reference_row_of}
use Rattle.posting_rules.specs.believed.Tables.{request_key, request_row_of, row_at}

-- the decided request has its row, its posting where it was posted, and its reference where it has one
pub record StandsUnder (t : Tables) (ordinal : ℕ) (e : DecidedRequest) : Type 0 where
  pub request : row_at request_key t.requests ordinal ≡ Some (request_row_of ordinal e)
  pub posting : row_at history_key t.history ordinal
      ≡ (if is_posted e then Some (history_row_of ordinal e) else None)
  pub reference : row_at reference_key t.references ordinal
      ≡ option_map (reference_row_of ordinal) e.request.reference
  pub delta : nat_abs e.request.delta ≤ MAX_DELTA

-- the moment of the posting under an ordinal, zero where there is none
abbrev pub moment_under : List HistoryRow → ℕ → ℕ
moment_under rows ordinal = unwrap_or (option_map (λ r. r.moment) (row_at history_key rows ordinal)) 0
