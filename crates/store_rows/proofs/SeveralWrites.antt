-- What each INSERT of eight rows leaves of the tables, by the values that are handed in.
use Rattle.std.proofs.Common.{◌≡◌, ◌≤◌, ◌++◌, ℕ, List, [], ◌∷◌, length, get_or, is_some, Bool, Result, refl, sym, ap}
use Rattle.std.proofs.Common.{subst, ◌∙◌, inl, inr, pos, arith}
use Rattle.std.specs.List.{AllByRecursion, flat_map}
use Rattle.std.proofs.lemmas.List.{map-append}
use Rattle.sqlite.specs.{Order.Row, Table.Table, Values.bound, declared.transaction.Transaction.Transaction}
use Rattle.sqlite.specs.{declared.types.ValueRef.ValueRef}
use Rattle.sqlite_trees.specs.declared.store.Store.{Ghosts}
use Rattle.posting_rules.specs.believed.Changes.{with_history, with_request}
use Rattle.posting_rules.specs.believed.Tables.{Tables, history_key, request_key, row_at}
use Rattle.sql_meanings.specs.believed.Entries.{Entry}
use Rattle.store_rows.specs.believed.BankTables as bank
use Rattle.store_rows.specs.believed.SeveralRows.{given, given_each}
use Rattle.store_rows.specs.{SeveralRows.AddsRows, Statements.PutsRow}
use Rattle.store_rows.specs.{declared.fault.TableFault.TableFault, declared.statements.TheConstants.MAX_KEY}
use Rattle.store_rows.specs.believed.View.{history_entry, request_entry}
use Rattle.store_rows.specs.declared.texts.TheConstants as text
use Rattle.store_rows.proofs.{SeveralRows.puts_several, SparedTexts.spares, TheTables.history, TheTables.requests}
use Rattle.store_rows.proofs.SeveralTexts.{eight_postings, eight_requests}

-- ---- the rows and their values

-- an array of eight is its places
pub eight_are : {R : Type 0} (rows : List R) (a b c d e f g h : R) → length rows ≡ 8
    → rows ≡ get_or rows 0 a ∷ get_or rows 1 b ∷ get_or rows 2 c ∷ get_or rows 3 d ∷ get_or rows 4 e
    ∷ get_or rows 5 f ∷ get_or rows 6 g ∷ get_or rows 7 h ∷ []
eight_are ([]) a b c d e f g h len = absurd (omega arith)
eight_are (_ ∷ []) a b c d e f g h len = absurd (omega arith)
eight_are (_ ∷ _ ∷ []) a b c d e f g h len = absurd (omega arith)
eight_are (_ ∷ _ ∷ _ ∷ []) a b c d e f g h len = absurd (omega arith)
eight_are (_ ∷ _ ∷ _ ∷ _ ∷ []) a b c d e f g h len = absurd (omega arith)
eight_are (_ ∷ _ ∷ _ ∷ _ ∷ _ ∷ []) a b c d e f g h len = absurd (omega arith)
eight_are (_ ∷ _ ∷ _ ∷ _ ∷ _ ∷ _ ∷ []) a b c d e f g h len = absurd (omega arith)
eight_are (_ ∷ _ ∷ _ ∷ _ ∷ _ ∷ _ ∷ _ ∷ []) a b c d e f g h len = absurd (omega arith)
eight_are (_ ∷ _ ∷ _ ∷ _ ∷ _ ∷ _ ∷ _ ∷ _ ∷ []) a b c d e f g h len = refl
eight_are (_ ∷ _ ∷ _ ∷ _ ∷ _ ∷ _ ∷ _ ∷ _ ∷ _ ∷ _) a b c d e f g h len = absurd (omega arith)

-- the row is handed in by these values, and its key is a key
abbrev IsGiven : {R : Type 0} → (R → ℕ) → (R → Entry) → List ValueRef → R → Type 0
IsGiven key entry v r = (bound v ≡ given (entry r)) × (key r ≤ MAX_KEY)

module _ {R : Type 0} (key : R → ℕ) (entry : R → Entry) where
  abbrev AreGiven : List (List ValueRef) → List R → Type 0
  AreGiven [] [] = Unit {0}
  AreGiven [] (r ∷ rows) = ⊥
  AreGiven (v ∷ values) [] = ⊥
  AreGiven (v ∷ values) (r ∷ rows) = IsGiven key entry v r × AreGiven values rows

  -- so are all of them
  all_given : (values : List (List ValueRef)) (rows : List R) → AreGiven values rows
      → bound (flat_map (λ v. v) values) ≡ given_each entry rows
  all_given [] [] are = refl
  all_given [] (r ∷ rows) are = absurd are
  all_given (v ∷ values) [] are = absurd are
  all_given (v ∷ values) (r ∷ rows) are =
      map-append _ v (flat_map (λ v. v) values)
      ∙ ap (λ l. l ++ bound (flat_map (λ v. v) values)) are.0.0
      ∙ ap (λ l. given (entry r) ++ l) (all_given values rows are.1)

  all_keys : (values : List (List ValueRef)) (rows : List R) → AreGiven values rows
      → AllByRecursion (λ r. key r ≤ MAX_KEY) rows
  all_keys [] [] are = tt
  all_keys [] (r ∷ rows) are = absurd are
  all_keys (v ∷ values) [] are = absurd are
  all_keys (v ∷ values) (r ∷ rows) are = (are.0.1, all_keys values rows are.1)

-- it holds of any eight rows with keys that are put in by their values
pub record HoldsOfEight {R : Type 0} (key : R → ℕ) (entry : R → Entry) (Puts : Row → Type 0)
    (P : List R → Type 0) : Type 0 where
  pub each : (a b c d e f g h : R) → AllByRecursion (λ r. key r ≤ MAX_KEY) (a ∷ b ∷ c ∷ d ∷ e ∷ f ∷ g ∷ h ∷ [])
      → Puts (given_each entry (a ∷ b ∷ c ∷ d ∷ e ∷ f ∷ g ∷ h ∷ [])) → P (a ∷ b ∷ c ∷ d ∷ e ∷ f ∷ g ∷ h ∷ [])

-- so it holds of an array of eight, of which each place is given, and that is put in by all the values
pub of_array : {R : Type 0} {key : R → ℕ} {entry : R → Entry} {Puts : Row → Type 0} {P : List R → Type 0}
    → HoldsOfEight key entry Puts P → (rows : List R) → length rows ≡ 8
    → (a b c d e f g h : R) (s t u v w x y z : List ValueRef)
    → IsGiven key entry s (get_or rows 0 a) → IsGiven key entry t (get_or rows 1 b)
    → IsGiven key entry u (get_or rows 2 c) → IsGiven key entry v (get_or rows 3 d)
    → IsGiven key entry w (get_or rows 4 e) → IsGiven key entry x (get_or rows 5 f)
    → IsGiven key entry y (get_or rows 6 g) → IsGiven key entry z (get_or rows 7 h)
    → (all : List ValueRef) → all ≡ flat_map (λ v. v) (s ∷ t ∷ u ∷ v ∷ w ∷ x ∷ y ∷ z ∷ []) → Puts (bound all) → P rows
of_array {R} {key} {entry} {Puts} {P} holds rows len a b c d e f g h s t u v w x y z one two three four five six
    seven eight all is puts =
    let values = s ∷ t ∷ u ∷ v ∷ w ∷ x ∷ y ∷ z ∷ [] in
    let them = get_or rows 0 a ∷ get_or rows 1 b ∷ get_or rows 2 c ∷ get_or rows 3 d ∷ get_or rows 4 e
    ∷ get_or rows 5 f ∷ get_or rows 6 g ∷ get_or rows 7 h ∷ [] in
    let are : AreGiven key entry values them = (one, (two, (three, (four, (five, (six, (seven, (eight, tt)))))))) in
    subst P (sym (eight_are rows a b c d e f g h len))
    (holds.each _ _ _ _ _ _ _ _ (all_keys key entry values them are)
    (subst Puts (ap bound is ∙ all_given key entry values them are) puts))

-- ---- the texts

-- a call that runs the text puts eight rows in so
abbrev PutsEight : {R : Type 0} → Table → List ℕ → (R → ℕ) → (R → Entry) → (R → Tables → Bool)
    → (R → Tables → Tables) → Type 1
PutsEight table text key entry taken with =
    (S : Type 0) (gh : Ghosts S) (old new : Transaction S) (answer : Result (Unit {0}) TableFault)
    → HoldsOfEight key entry (λ values. PutsRow gh old new text values answer)
    (λ rows. AddsRows gh old new text entry table taken with rows answer)

pub record EightRowsPut : Type 1 where
  pub postings : PutsEight bank.history text.ADD_EIGHT_POSTINGS.now history_key history_entry
      (λ r t. is_some (row_at history_key t.history r.ordinal)) with_history
  pub requests : PutsEight bank.request text.ADD_EIGHT_REQUESTS.now request_key request_entry
      (λ r t. is_some (row_at request_key t.requests r.ordinal)) with_request

pub eight_put : EightRowsPut
unfolding with_history with_request
eight_put = record {
  postings = λ S gh old new answer. record {
    each = λ a b c d e f g h low. puts_several history (record { own = λ _. refl; over = λ _ _ _. refl })
        text.ADD_EIGHT_POSTINGS.now (a ∷ b ∷ c ∷ d ∷ e ∷ f ∷ g ∷ h ∷ []) (eight_postings a b c d e f g h)
        spares.add_eight_postings
        (inr (inr (inr (inr (inr (inr (inr (inl refl)))))))) (pos a.ordinal) _ refl gh old new low answer;
  };
  requests = λ S gh old new answer. record {
    each = λ a b c d e f g h low. puts_several requests (record { own = λ _. refl; over = λ _ _ _. refl })
        text.ADD_EIGHT_REQUESTS.now (a ∷ b ∷ c ∷ d ∷ e ∷ f ∷ g ∷ h ∷ []) (eight_requests a b c d e f g h)
        spares.add_eight_requests
        (inr (inr (inr (inr (inr (inr (inr (inr (inl refl))))))))) (pos a.ordinal) _ refl gh old new low answer;
  };
}
