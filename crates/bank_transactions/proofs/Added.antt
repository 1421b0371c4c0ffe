-- The rows that records put in are under ordinals that follow the count which the file holds, and those that they
-- change are theirs.
use Rattle.std.proofs.Common.{◌≡◌, ◌∙◌, ℕ, List, length, map, refl, sym, ap, subst, inl, inr}
use Rattle.std.proofs.lemmas.List.{length-map}
use Rattle.std.specs.List.{AllByRecursion}
use Rattle.sqlite.specs.{Effect.Database, Order.Row}
use Rattle.sqlite_rules.specs.Lists.{Has}
use Rattle.sqlite_rules.proofs.ListLemmas.{all_has}
use Rattle.message_records.specs.{believed.Reading.request_of, believed.Records.RequestFields}
use Rattle.posting_batch.specs.{believed.Batch.IsNextOrdinal, Overlay.Overlay, View.IsMadeOf}
use Rattle.posting_batch.specs.{View.reads_of, View.view, declared.batch.Batch.Batch}
use Rattle.posting_batch.specs.Batch.{HasNextOrdinals, blanked, no_slots}
use Rattle.posting_batch.specs.Slots.{account_slot_key, branch_slot_key, teller_slot_key}
use Rattle.posting_batch.proofs.NextOrdinals.{HasNoRow, none_covered, none_new}
use Rattle.store_rows.specs.believed.Inserts.{account_update, branch_update, teller_update}
use Rattle.store_rows.specs.believed.Rules.{OfRows}
use Rattle.bank_transactions.specs.believed.Additions.{AddsForRecords, AskFor, ChangesFor, FollowsCount, WritesFor}
use Rattle.bank_transactions.specs.believed.Additions.{WritesUnder}
use Rattle.bank_transactions.specs.Additions.{AddsNew, ChangesEach, ChangesRows, adds_so}
use Rattle.bank_transactions.specs.{Filling.emptied, believed.Stored.HoldsDecided}
use Rattle.bank_transactions.proofs.OwnKeys.{AreAsked, OfAccount, OfBranch, OfTeller, asked_by}

-- ---- rows that are changed

-- a text that writes under the key of one slot writes for the record that asks for it
changes_own : {A : Type 0} {update text : List ℕ} {values : Row} {key : A → ℕ} (records : List (List ℕ))
    (slots : List A) (P : A → RequestFields → Type 0)
    → ((s : A) (r : RequestFields) → P s r → WritesUnder update (key s) text values → WritesFor r text values)
    → AllByRecursion (λ s. AskFor records (P s)) slots → ChangesEach update key slots text values
    → ChangesFor records text values
changes_own records slots P writes asked it =
    let ask = all_has (λ s. AskFor records (P s)) slots it.0 asked it.1 in
    inl (ask.0, ask.1, ask.2, ask.3, writes it.0 ask.2 ask.4 it.2)

changes_for : (records : List (List ℕ)) (o : Overlay) → AreAsked (AskFor records) o → (text : List ℕ) (values : Row)
    → ChangesRows o text values → ChangesFor records text values
changes_for records o asked text values (inl it) =
    changes_own {key = account_slot_key} records o.accounts OfAccount
    (λ s r is own. inl (subst (λ (n : ℕ). WritesUnder account_update n text values) is own)) asked.accounts it
changes_for records o asked text values (inr (inl it)) =
    changes_own {key = teller_slot_key} records o.tellers OfTeller
    (λ s r is own. inr (inl (subst (λ (n : ℕ). WritesUnder teller_update n text values) is own))) asked.tellers it
changes_for records o asked text values (inr (inr (inl it))) =
    changes_own {key = branch_slot_key} records o.branches OfBranch (λ s r is own. elim is [
      | inl home ↦ inr (inr (inl (subst (λ (n : ℕ). WritesUnder branch_update n text values) home own)))
      | inr its ↦ inr (inr (inr (subst (λ (n : ℕ). WritesUnder branch_update n text values) its own)))
    ]) asked.branches it
changes_for records o asked text values (inr (inr (inr it))) = inr it

-- ---- new rows

module _ (db : Database) (o judged : Overlay) (records : List (List ℕ))
    (held : OfRows (λ rows. HoldsDecided rows o.decided) db)
    (next : HasNextOrdinals o.decided (length records) judged) (asked : AreAsked (AskFor records) judged) where
  follows : (ordinal : ℕ) → IsNextOrdinal o.decided (length records) ordinal → FollowsCount db (length records) ordinal
  follows ordinal is = λ rows has. (o.decided, held rows has, is)

  own : {R : Type 0} (ordinal : R → ℕ) (rows : List R)
      → AllByRecursion (λ r. IsNextOrdinal o.decided (length records) (ordinal r)) rows
      → (r : R) → Has rows r → FollowsCount db (length records) (ordinal r)
  own ordinal rows all r has =
      follows (ordinal r)
      (all_has (λ x. IsNextOrdinal o.decided (length records) (ordinal x)) rows r all has)

  adds_own : (text : List ℕ) (values : Row) → AddsNew judged text values → AddsForRecords db records text values
  adds_own text values (inl it) = inl (adds_so _ _ (Has judged.history)
      (λ r. FollowsCount db (length records) r.ordinal) (own (λ r. r.ordinal) judged.history next.history) text
      values it)
  adds_own text values (inr (inl it)) = inr (inl (adds_so _ _ (Has judged.requests)
      (λ r. FollowsCount db (length records) r.ordinal) (own (λ r. r.ordinal) judged.requests next.requests) text
      values it))
  adds_own text values (inr (inr (inl it))) = inr (inr (inl (adds_so _ _ (Has judged.references)
      (λ r. FollowsCount db (length records) r.ordinal)
      (own (λ r. r.ordinal) judged.references next.references) text values it)))
  adds_own text values (inr (inr (inr it))) = inr (inr (inr (changes_for records judged asked text values it)))

none_filled : (o p : Overlay) → emptied o ≡ emptied p → HasNoRow p → HasNoRow o
none_filled o p same none = record {
  history = ap (λ (q : Overlay). q.history) same ∙ none.history;
  requests = ap (λ (q : Overlay). q.requests) same ∙ none.requests;
  references = ap (λ (q : Overlay). q.references) same ∙ none.references;
}

none_at_first : HasNoRow no_slots
none_at_first = record { history = refl; requests = refl; references = refl }

pub adds_records : (b : Batch) (records : List (List ℕ)) (o judged : Overlay) (db : Database)
    → IsMadeOf b records → emptied o ≡ emptied (view b.overlay) → OfRows (λ rows. HoldsDecided rows o.decided) db
    → (HasNextOrdinals o.decided 0 o → HasNextOrdinals o.decided (length (reads_of b)) judged)
    → blanked judged ≡ blanked o
    → (text : List ℕ) (values : Row) → AddsNew judged text values → AddsForRecords db records text values
adds_records b records o judged db made same held next keys =
    let none = none_filled o (view b.overlay) same
    (subst HasNoRow (sym made.overlay) (none_covered no_slots (map request_of records) none_at_first)) in
    let many : length (reads_of b) ≡ length records = ap length made.reads ∙ length-map records request_of in
    adds_own db o judged records held
    (subst (λ (n : ℕ). HasNextOrdinals o.decided n judged) many (next (none_new o.decided o none)))
    (asked_by b records o judged made same keys)
