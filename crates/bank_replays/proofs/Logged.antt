-- Entries of kept rows, and those of a log.
use Rattle.std.proofs.Common.{◌≡◌, ◌⊎◌, ◌<◌, ◌≤◌, ◌++◌, ℕ, inl, inr, true, false, List, [], ◌∷◌, length, map, filter}
use Rattle.std.proofs.Common.{append_assoc, drop, take, Option, Result, Ok, Err, refl, sym, ap, subst, ◌∙◌, arith}
use Rattle.std.specs.Prelude.{ℤ, pos, int_lt, nat_abs, get_or, IfOk}
use Rattle.std.proofs.lemmas.List.{take-append-drop}
use Rattle.std.proofs.lemmas.{Int.ints, List.Folds.flat_map-map, Result.IfOk-weaker}
use Rattle.sqlite.specs.Effect.{Database}
use Rattle.posting_rules.specs.believed.{Commands.Command, Entries.decided}
use Rattle.posting_rules.specs.believed.Tables.{AreTablesOf, Tables}
use Rattle.posting_rules.specs.declared.fault.Fault.{Fault}
use Rattle.posting_rules.specs.declared.fault.Fault.TheVariants.{Damaged, Down, Memory, Store}
use Rattle.posting_rules.specs.declared.fault.Rule.{Rule}
use Rattle.posting_core.specs.believed.LogEntries.{log_entries}
use Rattle.posting_core.specs.believed.Batches.{joined}
use Rattle.sql_meanings.specs.believed.Entries.{Entry}
use Rattle.store_rows.specs.believed.View.{Shows}
use Rattle.store_rows.specs.believed.BankTables.{meta as meta_table}
use Rattle.store_rows.specs.believed.Columns.{number_at}
use Rattle.store_rows.specs.declared.metas.TheConstants.{VERSION}
use Rattle.walked_rows.proofs.Shown.{has_meta}
use Rattle.walked_rows.specs.Broken.{HasBroken}
use Rattle.bank_replays.specs.Damaged.{CountsBelowZero}
use Rattle.walked_rows.specs.{OnlyMeta.bank_entry, Rows.HasStoredRows, StoredBeside.meta_entry}
use Rattle.walked_rows.specs.declared.metas.StoredMeta.{StoredMeta}
use Rattle.bank_replays.specs.{declared.fault.ReplayFault.ReplayFault}
use Rattle.bank_replays.specs.declared.fault.ReplayFault.TheVariants.{Bank, Write}
use Rattle.bank_replays.specs.Logs.{LogsEntries, LogsRows, decided_in, without_count}
use Rattle.bank_replays.specs.Writing.{is_after, texts_after}
use Rattle.bank_store.specs.KeptEntries.{entry_in}
use Rattle.bank_store.proofs.LogRows.{kept_of}
use Rattle.bank_replays.proofs.WrittenRows.{writes_sound}
use Rattle.bank_store.proofs.LogEntries.{TellsAfter, entries_length, entries_since, kept_length}

-- ---- of a log

above : (m n : ℕ) → int_lt (pos m) (pos n) ≡ true → m < n
above m n is = grind (arith, ints)

not_above : (m n : ℕ) → int_lt (pos m) (pos n) ≡ false → n ≤ m
not_above m n is = grind (arith, ints)

-- how it ended, but for the count, is how it ended
ended : (result : Result ℕ ReplayFault) (fault : ReplayFault) → without_count result ≡ Err fault → result ≡ Err fault
ended (Ok count) fault is = cc
ended (Err other) fault is = cc

-- which rows are written
pub tells_after : (after : ℕ) → TellsAfter after (int_lt (pos after))
tells_after after = record { above = above after; below = not_above after }

module _ (db : Database) (t : Tables) (log : List Command) (in_file : Shows db t) (shows : AreTablesOf t log)
    (after : ℕ) where
  entries_log : texts_after entry_in after (kept_of db t log in_file shows) ≡ joined (drop after (log_entries log))
  entries_log =
      sym (flat_map-map (λ (text : List ℕ). text) entry_in (filter (is_after after) (kept_of db t log in_file shows)))
      ∙ ap joined (entries_since after (int_lt (pos after)) (tells_after after) db t log in_file shows)

  -- what was written of the rows is of the log
  pub logs_log : (w w' : Option (List ℕ)) (result : Result ℕ ReplayFault)
      → LogsRows after (kept_of db t log in_file shows) w w' result
      → ((rule : Rule) → result ≡ Err (Bank (Damaged rule)) → ⊥) → LogsEntries after (log_entries log) w w' result
  logs_log w w' result it sound = record {
    text = writes_sound after (kept_of db t log in_file shows) w w' _ entries_log (without_count result) it.rows
        (λ rule is. sound rule (ended result _ is));
    kept = IfOk-weaker result _ _ (λ count is. is ∙ kept_length db t log in_file shows) it.kept;
  }

-- ---- the count that `meta` has

pub decided_last : (n : ℤ) (rows : List StoredMeta) (row : StoredMeta)
    → decided_in n (rows ++ row ∷ []) ≡ row.decided
decided_last n [] row = refl
decided_last n (m ∷ more) row = decided_last m.decided more row

-- of one row, that of the bank
pub one_decided : (n version decided : ℤ) (rows : List StoredMeta)
    → map meta_entry rows ≡ bank_entry version decided ∷ [] → decided_in n rows ≡ decided
one_decided n version decided [] is = absurd cc
one_decided n version decided (m ∷ []) is =
    ap (λ (es : List Entry). number_at 1 (get_or es 0 (bank_entry version decided))) is
one_decided n version decided (m ∷ k ∷ more) is = absurd cc

-- of rows of which the last counts fewer than none, one does
pub below_zero : (n : ℤ) (rows : List StoredMeta) → int_lt (decided_in n rows) (pos 0) ≡ true
    → (int_lt n (pos 0) ≡ true) ⊎ HasBroken CountsBelowZero (map meta_entry rows)
below_zero n [] below = inl below
below_zero n (m ∷ more) below = inr (from m more (below_zero m.decided more below))
  where
    from : (m : StoredMeta) (more : List StoredMeta)
        → (int_lt m.decided (pos 0) ≡ true) ⊎ HasBroken CountsBelowZero (map meta_entry more)
        → HasBroken CountsBelowZero (map meta_entry (m ∷ more))
    from m more (inl here) = ([], meta_entry m, map meta_entry more, refl, here)
    from m more (inr later) = (
      meta_entry m ∷ later.0,
      later.1,
      later.2,
      ap (λ es. meta_entry m ∷ es) later.3,
      later.4,
    )

-- those among the first are among all
first_broken : {P : Entry → Type 0} (most : ℕ) (all : List Entry) → HasBroken P (take most all) → HasBroken P all
first_broken most all h = (
  h.0,
  h.1,
  h.2 ++ drop most all,
  sym (take-append-drop most all) ∙ ap (λ l. l ++ drop most all) h.3
      ∙ append_assoc h.0 (h.1 ∷ h.2) (drop most all),
  h.4,
)

pub one_below : (rows : List StoredMeta) (most : ℕ) (all : List Entry) (last : ℤ) → last ≡ decided_in (pos 0) rows
    → map meta_entry rows ≡ take most all → int_lt last (pos 0) ≡ true → HasBroken CountsBelowZero all
one_below rows most all last is are below =
    first_broken most all (subst (HasBroken CountsBelowZero) are (never (below_zero (pos 0) rows (subst (λ z. int_lt z (pos 0) ≡ true) is below))))
  where
    never : {P : Type 0} → (int_lt (pos 0) (pos 0) ≡ true) ⊎ P → P
    never (inl below) = absurd cc
    never (inr p) = p

-- the count of a file that shows a log
pub counts_log : (db : Database) (t : Tables) (log : List Command) → Shows db t → AreTablesOf t log
    → (result : Result ℕ Fault)
    → ((version decided : ℤ) → HasStoredRows db meta_table (bank_entry version decided ∷ [])
    → IfOk result (λ count. pos count ≡ decided))
    → IfOk result (λ count. count ≡ length (log_entries log))
counts_log db t log in_file shows result counts =
    IfOk-weaker result _ _
    (λ count is. pos_same count t.decided is ∙ shows.rows.decided ∙ sym (entries_length log))
    (counts (pos (nat_abs VERSION)) (pos t.decided) (has_meta db t in_file))
  where
    pos_same : (m n : ℕ) → pos m ≡ pos n → m ≡ n
    pos_same m n is = cc

-- it is never below zero
pub none_below : (db : Database) (t : Tables) → Shows db t → (n : ℤ)
    → ((version decided : ℤ) → HasStoredRows db meta_table (bank_entry version decided ∷ []) → n ≡ decided)
    → int_lt n (pos 0) ≡ true → ⊥
none_below db t in_file n counts below =
    not_less t.decided (ap (λ (z : ℤ). int_lt z (pos 0)) (sym (counts (pos (nat_abs VERSION)) (pos t.decided) (has_meta db t in_file))) ∙ below)
  where
    not_less : (m : ℕ) → int_lt (pos m) (pos 0) ≡ true → ⊥
    not_less m is = grind (arith, ints)
