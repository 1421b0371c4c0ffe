-- The rows that parts of a call put in, and those of their parts.
use Rattle.std.specs.Prelude.{◌⊎◌, ℕ, List}
use Rattle.sqlite.specs.Order.{Row}
use Rattle.sqlite_rules.specs.Lists.{Has}
use Rattle.sqlite_trees.proofs.ListLemmas.{all_weaker}
use Rattle.posting_batch.specs.Overlay.{Overlay}
use Rattle.sql_meanings.specs.believed.Entries.{Entry}
use Rattle.store_rows.specs.believed.Failures.{Additions}
use Rattle.posting_batch.specs.Slots.{account_slot_key, branch_slot_key, teller_slot_key}
use Rattle.store_rows.specs.believed.Inserts.{account_update, branch_update, meta_key, meta_update, teller_update}
use Rattle.bank_transactions.specs.believed.Additions.{AddsEach, AddsPostings, AddsReferences, AddsRequests}
use Rattle.bank_transactions.specs.believed.Additions.{WritesUnder}

-- by this text a number is written under the key of one of the slots
abbrev pub ChangesEach : {A : Type 0} → List ℕ → (A → ℕ) → List A → Additions
ChangesEach {A} update key slots text values = (s : A) × Has slots s × WritesUnder update (key s) text values

-- the rows that an overlay changes
abbrev pub ChangesRows : Overlay → Additions
ChangesRows o text values = ChangesEach account_update account_slot_key o.accounts text values
    ⊎ (ChangesEach teller_update teller_slot_key o.tellers text values
    ⊎ (ChangesEach branch_update branch_slot_key o.branches text values
    ⊎ WritesUnder meta_update meta_key text values))

-- its new rows, and those
abbrev pub AddsNew : Overlay → Additions
AddsNew o text values = AddsPostings (Has o.history) text values
    ⊎ (AddsRequests (Has o.requests) text values
    ⊎ (AddsReferences (Has o.references) text values ⊎ ChangesRows o text values))

-- some of the changes put in no other rows than all of them
pub record AddsAlike {A : Type 0} (Adds : List A → Additions) : Type 0 where
  pub more : (some all : List A) → ((x : A) → Has some x → Has all x) → (text : List ℕ) (values : Row)
      → Adds some text values → Adds all text values

pub changes_each : {A : Type 0} (update : List ℕ) (key : A → ℕ) → AddsAlike (ChangesEach update key)
changes_each update key = record { more = λ some all within text values it. (it.0, within it.0 it.1, it.2) }

pub adds_so : {R : Type 0} (texts : List (List ℕ)) (entry : R → Entry) (P Q : R → Type 0)
    → ((r : R) → P r → Q r) → (text : List ℕ) (values : Row) → AddsEach texts entry P text values
    → AddsEach texts entry Q text values
adds_so texts entry P Q so text values adds =
    record { among = adds.among; rows = adds.rows; are = adds.are; each = all_weaker P Q so adds.rows adds.each }

pub adds_each : {R : Type 0} (texts : List (List ℕ)) (entry : R → Entry)
    → AddsAlike (λ (rows : List R). AddsEach texts entry (Has rows))
adds_each texts entry = record {
  more = λ some all within text values adds. adds_so texts entry (Has some) (Has all) within text values adds;
}
