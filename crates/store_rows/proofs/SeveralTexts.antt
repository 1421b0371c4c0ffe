-- What each INSERT of eight rows puts in.
use Rattle.std.proofs.Common.{[], ◌∷◌, map, lit≤, refl, List, ℕ}
use Rattle.std.specs.List.{AllByRecursion, flat_map}
use Rattle.posting_rules.specs.declared.rows.{HistoryRow.HistoryRow, RequestRow.RequestRow}
use Rattle.sqlite.specs.Table.{Table}
use Rattle.sqlite_tied.specs.Compute.{everything}
use Rattle.sql_meanings.specs.believed.Entries.{Entry}
use Rattle.sql_meanings.proofs.{PutRows.PutsEachAs, SeveralRows.IsRowOf, Texts.puts_each_by}
use Rattle.store_rows.specs.believed.BankTables as bank
use Rattle.store_rows.specs.believed.{SeveralRows.given, View.history_entry, View.request_entry}
use Rattle.store_rows.specs.declared.texts.TheConstants as text

-- with the values of these rows the text puts them in
abbrev pub PutsEight : Table → List ℕ → List Entry → Type 0
PutsEight table text news = PutsEachAs table text (flat_map given news) news

-- each row has its table's width
are_rows : {R : Type 0} (table : Table) (entry : R → Entry) → ((r : R) → IsRowOf table (entry r)) → (rows : List R)
    → AllByRecursion (IsRowOf table) (map entry rows)
are_rows table entry each [] = tt
are_rows table entry each (r ∷ rows) = (each r, are_rows table entry each rows)

posting_is : (r : HistoryRow) → IsRowOf bank.history (history_entry r)
posting_is r = record { wide = (refl, refl); short = tt; passes = refl }

request_is : (r : RequestRow) → IsRowOf bank.request (request_entry r)
request_is r = record { wide = (refl, refl); short = tt; passes = refl }

pub eight_postings : (a b c d e f g h : HistoryRow)
    → PutsEight bank.history text.ADD_EIGHT_POSTINGS.now
    (map history_entry (a ∷ b ∷ c ∷ d ∷ e ∷ f ∷ g ∷ h ∷ []))
unfolding everything
eight_postings a b c d e f g h =
    let rows = a ∷ b ∷ c ∷ d ∷ e ∷ f ∷ g ∷ h ∷ [] in
    puts_each_by bank.history text.ADD_EIGHT_POSTINGS.now (flat_map given (map history_entry rows))
    (map history_entry rows) _ _ _ refl refl refl refl (λ _ _. refl) (lit≤ tt) refl
    (λ _. refl) (are_rows bank.history history_entry posting_is rows) (λ _. refl)

pub eight_requests : (a b c d e f g h : RequestRow)
    → PutsEight bank.request text.ADD_EIGHT_REQUESTS.now
    (map request_entry (a ∷ b ∷ c ∷ d ∷ e ∷ f ∷ g ∷ h ∷ []))
unfolding everything
eight_requests a b c d e f g h =
    let rows = a ∷ b ∷ c ∷ d ∷ e ∷ f ∷ g ∷ h ∷ [] in
    puts_each_by bank.request text.ADD_EIGHT_REQUESTS.now (flat_map given (map request_entry rows))
    (map request_entry rows) _ _ _ refl refl refl refl (λ _ _. refl) (lit≤ tt) refl
    (λ _. refl) (are_rows bank.request request_entry request_is rows) (λ _. refl)
