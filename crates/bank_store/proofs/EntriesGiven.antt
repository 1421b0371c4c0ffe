-- What is given of a log after a number of entries.
use Rattle.std.proofs.Common.{◌≡◌, ◌≤◌, ◌<◌, ◌∙◌, ℕ, Bool, true, false, cond, List, Option, Some, None, length, refl, sym, ap, arith, map, take, drop}
use Rattle.std.specs.Prelude.{nat_le}
use Rattle.std.proofs.lemmas.{Bool.Decides.nat_tests}
use Rattle.sqlite.specs.Effect.{Database}
use Rattle.posting_rules.specs.believed.{Commands.AreCommands, Commands.Command}
use Rattle.posting_rules.specs.believed.Tables.{AreTablesOf, Tables}
use Rattle.posting_rules.specs.declared.limits.TheConstants.{MAX_DECIDED}
use Rattle.posting_rules.proofs.Undamaged.{undamaged}
use Rattle.posting_core.specs.believed.{Batches.joined, LogEntries.entries_given, LogEntries.log_entries}
use Rattle.posting_core.specs.declared.followed.TheConstants.{ENTRIES_PER_ANSWER}
use Rattle.store_rows.specs.believed.View.{Shows}
use Rattle.bank_store.specs.KeptEntries.{entry_in, given_after}
use Rattle.bank_store.proofs.{LogEntries.entries_length, LogRows.kept_of, PiecesRead.given_of_log}

-- as many entries as are decided
many : (t : Tables) (log : List Command) → AreTablesOf t log → t.decided ≡ length (log_entries log)
many t log shows = shows.rows.decided ∙ sym (entries_length log)

chosen : (log : List Command) (after : ℕ) (b : Bool) → nat_le after (length (log_entries log)) ≡ b
    → entries_given log after ≡ cond b (Some (joined (take ENTRIES_PER_ANSWER (drop after (log_entries log))))) None
unfolding entries_given
chosen log after b is = rw is refl

module _ (db : Database) (t : Tables) (log : List Command) (in_file : Shows db t) (shows : AreTablesOf t log)
    (after : ℕ) where
  pub enough_given : (bytes : List ℕ) → true ≡ nat_le after t.decided
      → bytes ≡ joined (map entry_in (given_after after (kept_of db t log in_file shows)))
      → (let given : Option (List ℕ) = Some bytes in given) ≡ entries_given log after
  enough_given bytes enough are =
      ap (λ (l : List ℕ). let given : Option (List ℕ) = Some l in given)
      (are ∙ given_of_log db t log in_file shows after)
      ∙ sym (chosen log after true (ap (nat_le after) (sym (many t log shows)) ∙ sym enough))

pub fewer_given : (t : Tables) (log : List Command) → AreTablesOf t log → (after : ℕ) → false ≡ nat_le after t.decided
    → (let given : Option (List ℕ) = None in given) ≡ entries_given log after
fewer_given t log shows after fewer =
    sym (chosen log after false (ap (nat_le after) (sym (many t log shows)) ∙ sym fewer))

-- no bank decides so many
pub beyond_given : (t : Tables) (log : List Command) → AreCommands log → AreTablesOf t log → (after : ℕ)
    → MAX_DECIDED < after → (let given : Option (List ℕ) = None in given) ≡ entries_given log after
beyond_given t log are shows after beyond = fewer_given t log shows after (not_so_many after t.decided beyond
    (undamaged t log are shows).decided)
  where
    not_so_many : (a n : ℕ) → MAX_DECIDED < a → n ≤ MAX_DECIDED → false ≡ nat_le a n
    not_so_many a n low high = grind (arith, nat_tests)
