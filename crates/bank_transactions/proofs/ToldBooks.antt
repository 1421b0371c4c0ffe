-- What closed books say of the requests of slots.
use Rattle.std.proofs.Common.{◌≡◌, ◌++◌, ◌∙◌, ℕ, Bool, true, false, List, [], ◌∷◌, map, None, Ok, Err, Result, refl, sym, ap, subst}
use Rattle.std.specs.Prelude.{◌||◌, OnOk, ⊤, if◌then◌else◌}
use Rattle.std.specs.List.{AllByRecursion}
use Rattle.sqlite.specs.{Effect.Database, Held.state, State.HasCleanDisk, declared.transaction.Transaction.Transaction}
use Rattle.sqlite_trees.specs.declared.store.Store.{Ghosts}
use Rattle.posting_rules.specs.Numbers.{SameNumbers}
use Rattle.posting_rules.specs.believed.Closings.{books_of, is_closed_in, meets}
use Rattle.posting_rules.specs.believed.{Commands.number_key, Damage.IsUndamaged, Tables.Tables}
use Rattle.posting_rules.specs.declared.judgments.Books.{Books, TheVariants.Closed, TheVariants.Current}
use Rattle.posting_rules.specs.declared.{judgments.Books.TheVariants.Sealed, rows.ClosingRow.ClosingRow}
use Rattle.posting_rules.proofs.Runs.{any-append}
use Rattle.posting_batch.specs.declared.slots.RequestSlot.{RequestSlot}
use Rattle.sql_meanings.specs.believed.Tables.{Holds}
use Rattle.store_rows.specs.Lying.{IsBankFile}
use Rattle.store_rows.specs.believed.BankTables as bank
use Rattle.store_rows.specs.believed.View.{Shows, closing_entry}
use Rattle.store_rows.specs.declared.fault.TableFault.{TableFault}
use Rattle.store_rows.proofs.{LyingFound.held_file, StoredRows.holds_list, StoredRows.holds_shown, TableKinds.holds, TheTables.closings}
use Rattle.bank_transactions.specs.{Doing.Reads, Doing.ReadsWhere, Gathering.Gathers, believed.Stored.HasNumbers}
use Rattle.bank_transactions.specs.Filling.{Closes, TellsBooks, books_filled, books_with, emptied_request, handing, told_by, told_more}
use Rattle.bank_transactions.specs.Filling.{unbooked, unkept}
use Rattle.bank_transactions.proofs.ClosedRows.{same_books, shown_numbers}
use Rattle.bank_transactions.proofs.{Exits.clean_at, LookUps.reads_after, LookUps.reads_but, LookUps.reads_so}

-- ---- slots that are told

pub bare_told : (f : RequestSlot → RequestSlot) → ((s : RequestSlot) → unbooked (f s) ≡ unbooked s)
    → (slots : List RequestSlot) → map unbooked (map f slots) ≡ map unbooked slots
bare_told f same [] = refl
bare_told f same (s ∷ slots) =
    ap (λ (x : RequestSlot). x ∷ map unbooked (map f slots)) (same s)
    ∙ ap (λ (l : List RequestSlot). unbooked s ∷ l) (bare_told f same slots)

pub all_unread : (slots : List RequestSlot) → AllByRecursion (TellsBooks []) (map unbooked slots)
all_unread [] = tt
all_unread (s ∷ slots) = (refl, all_unread slots)

pub all_told : (runs : List ClosingRow) (slots : List RequestSlot)
    → AllByRecursion (TellsBooks runs) (map (told_by runs) slots)
all_told runs [] = tt
all_told runs (s ∷ slots) = (refl, all_told runs slots)

-- one run more
abbrev said : Bool → Bool → Books
said here sealed = if here then Closed else if sealed then Sealed else Current

both_said : (a b c d : Bool) → books_with (said c d) (said a b) ≡ said (a || c) (b || d)
both_said true true true true = refl
both_said true true true false = refl
both_said true true false true = refl
both_said true true false false = refl
both_said true false true true = refl
both_said true false true false = refl
both_said true false false true = refl
both_said true false false false = refl
both_said false true true true = refl
both_said false true true false = refl
both_said false true false true = refl
both_said false true false false = refl
both_said false false true true = refl
both_said false false true false = refl
both_said false false false true = refl
both_said false false false false = refl

books_more : (runs : List ClosingRow) (r : ClosingRow) (t n : ℕ)
    → books_with (books_of (r ∷ []) t n) (books_of runs t n) ≡ books_of (runs ++ r ∷ []) t n
books_more runs r t n =
    let k = number_key t n in
    let one : is_closed_in (runs ++ r ∷ []) k ≡ (is_closed_in runs k || is_closed_in (r ∷ []) k) =
    any-append (meets k k) runs (r ∷ []) in
    let two : is_closed_in (runs ++ r ∷ []) 0 ≡ (is_closed_in runs 0 || is_closed_in (r ∷ []) 0) =
    any-append (meets 0 0) runs (r ∷ []) in
    both_said (is_closed_in runs k) (is_closed_in runs 0) (is_closed_in (r ∷ []) k) (is_closed_in (r ∷ []) 0)
    ∙ rw (one, two) refl

pub all_more : (runs : List ClosingRow) (r : ClosingRow) (slots : List RequestSlot)
    → AllByRecursion (TellsBooks runs) slots → AllByRecursion (TellsBooks (runs ++ r ∷ [])) (map (told_more r) slots)
all_more runs r [] all = tt
all_more runs r (s ∷ slots) all = (
  ap (books_with (books_of (r ∷ []) s.teller s.number)) all.0 ∙ books_more runs r s.teller s.number,
  all_more runs r slots all.1,
)

-- ---- as the tables say

one_filled : (runs : List ClosingRow) (t : Tables) (y x : RequestSlot) → TellsBooks runs y → unbooked y ≡ unbooked x
    → SameNumbers runs t.closings → y ≡ books_filled t x
one_filled runs t y x tells same numbers =
    let its : books_of runs y.teller y.number ≡ books_of runs x.teller x.number =
    ap (λ (u : RequestSlot). books_of runs u.teller u.number) same in
    let books : y.books ≡ books_of t.closings x.teller x.number =
    tells ∙ its ∙ same_books runs t.closings x.teller x.number numbers in
    ap (λ (u : RequestSlot). record u { books = y.books }) same
    ∙ ap (λ (b : Books). record x { books = b }) books

pub all_filled : (runs : List ClosingRow) (t : Tables) (ys xs : List RequestSlot) → AllByRecursion (TellsBooks runs) ys
    → map unbooked ys ≡ map unbooked xs → SameNumbers runs t.closings → ys ≡ map (books_filled t) xs
all_filled runs t [] [] tells same numbers = refl
all_filled runs t [] (x ∷ xs) tells same numbers = absurd cc
all_filled runs t (y ∷ ys) [] tells same numbers = absurd cc
all_filled runs t (y ∷ ys) (x ∷ xs) tells same numbers =
    let first : unbooked y ≡ unbooked x = cc in
    let rest : map unbooked ys ≡ map unbooked xs = cc in
    ap (λ (z : RequestSlot). z ∷ ys) (one_filled runs t y x tells.0 first numbers)
    ∙ ap (λ (l : List RequestSlot). books_filled t x ∷ l) (all_filled runs t ys xs tells.1 rest numbers)

module _ {S : Type 0} {g : Ghosts S} {old mid new : Transaction S} (xs ys : List RequestSlot) where
  pub books_read : (r : Result (Unit {0}) TableFault)
      → ReadsWhere {X = Unit {0}} g old mid (λ _. ⊤) (λ _. tt {0}) (Ok (tt {0}))
      → ReadsWhere {X = Unit {0}} g mid new (λ _. ⊤) (λ _. tt {0}) r
      → OnOk r (Gathers g mid new HasNumbers (λ runs. AllByRecursion (TellsBooks runs) ys))
      → map unbooked ys ≡ map unbooked xs → Reads g old new (λ t. map (books_filled t) xs) (handing ys r)
  books_read (Err e) first second closed same =
      reads_but {Y = Unit {0}} {So' = λ _. ⊤} {w' = λ _. tt {0}} {w'' = λ t. map (books_filled t) xs}
      (reads_so {So' = IsUndamaged} {w' = λ _. tt {0}} {y = tt {0}} first (λ t sound. (tt, λ e. e))) second
  books_read (Ok done) first second it same =
      let both = reads_after first second (λ t so. so) in
      record {
        says = record {
          same_reference = both.says.same_reference;
          answers = λ clean t shows sound.
              let before = clean_at second.says.survives clean in
              let there = subst (λ (db : Database). Shows db t) (sym (first.says.leaves before).0.now) shows in
              let file = held_file (state g mid.conn.now).now _ (holds_shown (state g mid.conn.now).now t there) in
              let has = it.2 clean file (map closing_entry t.closings) (holds closings (state g mid.conn.now).now t there) in
              all_filled it.0 t ys xs it.1 same (shown_numbers t.closings it.0 has);
          leaves = λ clean. both.says.leaves clean;
          survives = both.says.survives;
        };
      }

-- what was gathered, as rows hold it
module _ {S : Type 0} (g : Ghosts S) (old new : Transaction S) (slots : List RequestSlot)
    (it : Gathers g old new HasNumbers (λ runs. AllByRecursion (TellsBooks runs) slots)) where
  pub closes : HasCleanDisk (state g new.conn.now) → Closes (state g old.conn.now).now slots
  closes clean = (
    it.0,
    it.1,
    λ rows has. it.2 clean (held_file (state g old.conn.now).now rows has) rows.closings
        (holds_list (state g old.conn.now).now rows has 8 bank.closing rows.closings refl refl),
  )

  -- after a part that changed nothing
  pub gathers_since : (first : Transaction S)
      → (HasCleanDisk (state g old.conn.now) → (state g old.conn.now).now ≡ (state g first.conn.now).now)
      → (HasCleanDisk (state g new.conn.now) → HasCleanDisk (state g old.conn.now))
      → Gathers g first new HasNumbers (λ runs. AllByRecursion (TellsBooks runs) slots)
  gathers_since first same before = (
    it.0,
    it.1,
    λ clean file rows holds.
        let is = same (before clean) in
        it.2 clean (subst IsBankFile (sym is) file) rows
        (subst (λ (db : Database). Holds db bank.closing rows) (sym is) holds),
  )

  -- and before one that kept what is said
  pub gathers_then : (last : Transaction S) (others : List RequestSlot) → map unkept others ≡ map unkept slots
      → (HasCleanDisk (state g last.conn.now) → HasCleanDisk (state g new.conn.now))
      → Gathers g old last HasNumbers (λ runs. AllByRecursion (TellsBooks runs) others)
  gathers_then last others same before = (it.0, still others slots same it.1, λ clean file. it.2 (before clean) file)
    where
      still : (xs ys : List RequestSlot) → map unkept xs ≡ map unkept ys → AllByRecursion (TellsBooks it.0) ys
          → AllByRecursion (TellsBooks it.0) xs
      still [] ys same all = tt
      still (x ∷ xs) [] same all = absurd cc
      still (x ∷ xs) (y ∷ ys) same all =
          let first : unkept x ≡ unkept y = cc in
          let rest : map unkept xs ≡ map unkept ys = cc in
          (subst (TellsBooks it.0) (sym first) all.0, still xs ys rest all.1)

-- slots that are the same without a part are the same without more
same_parts : (f h : RequestSlot → RequestSlot) → ((s : RequestSlot) → h (f s) ≡ h s) → (xs ys : List RequestSlot)
    → map f xs ≡ map f ys → map h xs ≡ map h ys
same_parts f h same [] [] is = refl
same_parts f h same [] (y ∷ ys) is = absurd cc
same_parts f h same (x ∷ xs) [] is = absurd cc
same_parts f h same (x ∷ xs) (y ∷ ys) is =
    let first : f x ≡ f y = cc in
    let rest : map f xs ≡ map f ys = cc in
    ap (λ (z : RequestSlot). z ∷ map h xs) (sym (same x) ∙ ap h first ∙ same y)
    ∙ ap (λ (l : List RequestSlot). h y ∷ l) (same_parts f h same xs ys rest)

pub emptied_unbooked : (xs ys : List RequestSlot) → map unbooked xs ≡ map unbooked ys
    → map emptied_request xs ≡ map emptied_request ys
emptied_unbooked = same_parts unbooked emptied_request (λ s. refl)

pub emptied_unkept : (xs ys : List RequestSlot) → map unkept xs ≡ map unkept ys
    → map emptied_request xs ≡ map emptied_request ys
emptied_unkept = same_parts unkept emptied_request (λ s. refl)

-- nothing is kept where nothing was
pub unkept_still : (xs ys : List RequestSlot) → map unbooked xs ≡ map unbooked ys
    → AllByRecursion (λ s. s.kept ≡ None) ys → AllByRecursion (λ s. s.kept ≡ None) xs
unkept_still [] ys same all = tt
unkept_still (x ∷ xs) [] same all = absurd cc
unkept_still (x ∷ xs) (y ∷ ys) same all =
    let first : unbooked x ≡ unbooked y = cc in
    let rest : map unbooked xs ≡ map unbooked ys = cc in
    (ap (λ (s : RequestSlot). s.kept) first ∙ all.0, unkept_still xs ys rest all.1)

-- each slot says what the tables say
pub tells_shown : (runs : List ClosingRow) (rs : List ClosingRow) (slots : List RequestSlot)
    → HasNumbers (map closing_entry rs) runs → AllByRecursion (TellsBooks runs) slots
    → AllByRecursion (TellsBooks rs) slots
tells_shown runs rs [] has all = tt
tells_shown runs rs (s ∷ slots) has all = (
  all.0 ∙ same_books runs rs s.teller s.number (shown_numbers rs runs has),
  tells_shown runs rs slots has all.1,
)
