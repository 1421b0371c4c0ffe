-- The tables of a log keep each of the ten rules.
use Rattle.std.proofs.Common.{◌≡◌, ◌≤◌, ℕ, zero, suc, ℤ, pos, List, [], ◌∷◌, length, map, None, option_map, refl, ap}
use Rattle.std.proofs.Common.{◌∙◌, arith}
use Rattle.posting_rules.specs.{believed.Commands.Command, believed.Commands.AreCommands, believed.Entries.decided}
use Rattle.posting_rules.specs.believed.Tables.{Tables, AreTablesOf, row_at, history_key, reference_key, request_key}
use Rattle.posting_rules.specs.declared.fault.Rule.{Rule, TheVariants.Key}
use Rattle.posting_rules.proofs.TablesWithRecord.{history_row_past, reference_row_past, request_row_past}
use Rattle.posting_rules.proofs.Undamaged.{undamaged}
use Rattle.sql_meanings.specs.believed.Entries.{Entry}
use Rattle.store_rows.specs.{believed.Columns.number_at, Rules.stored_rows, declared.metas.TheConstants.VERSION}
use Rattle.store_rows.specs.believed.Rules.{HasDecided, IsNext, KeepsRule, row_under}
use Rattle.store_rows.specs.believed.View.{history_entry, reference_entry, request_entry}
use Rattle.store_rows.proofs.RowLists.{found_row}
use Rattle.bank_transactions.proofs.KeepsRules.{each_keeps, keeps_rule, no_account, no_floor, no_teller}

same_count : (a b : ℕ) (version : ℤ)
    → ◌≡◌ {A = List Entry} (record { key = pos 1; values = VERSION ∷ pos a ∷ []; texts = [] } ∷ [])
    (record { key = pos 1; values = version ∷ pos b ∷ []; texts = [] } ∷ []) → a ≡ b
same_count a b version is = let same : ◌≡◌ {A = ℤ} (pos a) (pos b) = ap second is in cc
  where
    second : List Entry → ℤ
    second [] = pos 0
    second (e ∷ es) = number_at 1 e

module _ (t : Tables) (log : List Command) (shows : AreTablesOf t log) where
  -- there is no row under a next ordinal
  no_next : {R : Type 0} (key : R → ℕ) (entry : R → Entry) → ((r : R) → (entry r).key ≡ pos (key r))
      → (rows : List R) → ((n : ℕ) → length (decided log) ≤ n → row_at key rows (suc n) ≡ None)
      → (d n : ℕ) → HasDecided (stored_rows t) d → IsNext d n → row_under (map entry rows) n ≡ None
  no_next key entry keyed rows past d zero has next = absurd (let lt = next.0 in omega arith)
  no_next key entry keyed rows past d (suc n) has next =
      let lt = next.0 in
      let count : t.decided ≡ d = same_count t.decided d has.0 has.1 in
      let length_is = shows.rows.decided in
      found_row key entry keyed (suc n) rows
      ∙ ap (option_map entry) (past n (omega (arith, length_is, count)))

-- the tables of a log keep each rule
pub keeps_all : (t : Tables) (log : List Command) → AreCommands log → AreTablesOf t log → (rule : Rule)
    → KeepsRule rule (stored_rows t)
keeps_all t log are shows Key = (
  each_keeps t (undamaged t log are shows) Key,
  record {
    requests = no_next t log shows request_key request_entry (λ _. refl) t.requests
        (λ n past. shows.rows.requests (suc n) ∙ request_row_past (decided log) n past);
    postings = no_next t log shows history_key history_entry (λ _. refl) t.history
        (λ n past. shows.rows.history (suc n) ∙ history_row_past (decided log) n past);
    references = no_next t log shows reference_key reference_entry (λ _. refl) t.references
        (λ n past. shows.rows.references (suc n) ∙ reference_row_past (decided log) n past);
    tellers = no_teller t (undamaged t log are shows);
    accounts = no_account t (undamaged t log are shows);
    floors = no_floor t (undamaged t log are shows);
  },
)
keeps_all t log are shows rule = keeps_rule t (undamaged t log are shows) rule (λ is. cc)
