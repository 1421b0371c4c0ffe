-- Trees show one bank at most, and who opens on them finds it.
use Rattle.std.proofs.Common.{◌++◌, ◌≡◌, ℕ, ℤ, pos, nat_abs, List, [], ◌∷◌, map, refl, sym, ap, subst, ◌∙◌}
use Rattle.std.specs.Prelude.{Option, slice_index_or, unwrap_or}
use Rattle.message_records.specs.believed.Outcomes.{outcome_with}
use Rattle.message_records.specs.declared.records.Outcome.{Outcome, TheVariants.Malformed}
use Rattle.message_records.proofs.SpelledReplies.{outcome_with-code}
use Rattle.sqlite.specs.{Order.Row, declared.types.Value.Value, Table.Table, Tree.Trees}
use Rattle.sqlite.specs.declared.types.Value.TheVariants.{Null, Int, Real, Text, Blob}
use Rattle.sqlite.specs.Effect.{Database, IsDatabase}
use Rattle.posting_rules.specs.{believed.Tables.Tables, declared.rows.BranchRow.BranchRow}
use Rattle.posting_rules.specs.declared.rows.{TellerRow.TellerRow, AccountRow.AccountRow, HistoryRow.HistoryRow}
use Rattle.posting_rules.specs.declared.rows.{RequestRow.RequestRow, FloorRow.FloorRow, ReferenceRow.ReferenceRow}
use Rattle.sql_meanings.specs.believed.Entries.{Entry, numbers, texts_held, stored}
use Rattle.sql_meanings.specs.believed.{Tables.Holds, Contents.HoldsEach}
use Rattle.sql_meanings.proofs.Trees.{same_schema}
use Rattle.store_rows.specs.{believed.BankTables.bank_tables, Creation.new_tables, View.contents}
use Rattle.store_rows.specs.believed.View.{Shows, ShowsTrees, branch_entry, teller_entry, account_entry}
use Rattle.posting_rules.specs.declared.rows.{ClosingRow.ClosingRow}
use Rattle.store_rows.specs.believed.View.{closing_entry, history_entry, request_entry, floor_entry, reference_entry}

-- what can be read back is shown by one row alone, and so are lists of it
module _ {X Y : Type 0} (f : X → Y) (back : Y → X) (same : (x : X) → back (f x) ≡ x) where
  all_back : (xs : List X) → map back (map f xs) ≡ xs
  all_back [] = refl
  all_back (x ∷ xs) = ap (λ y. y ∷ map back (map f xs)) (same x) ∙ ap (λ l. x ∷ l) (all_back xs)

  lists_once : (xs ys : List X) → map f xs ≡ map f ys → xs ≡ ys
  lists_once xs ys e = sym (all_back xs) ∙ ap (map back) e ∙ all_back ys

-- ---- rows and entries

number_in : Value → ℤ
number_in (Int n) = n
number_in Null = pos 0
number_in (Real x) = pos 0
number_in (Text t) = pos 0
number_in (Blob b) = pos 0

-- the numbers of a row, and its texts
numbers_in : Row → List ℤ
numbers_in [] = []
numbers_in (Int n ∷ row) = n ∷ numbers_in row
numbers_in (Null ∷ row) = numbers_in row
numbers_in (Real x ∷ row) = numbers_in row
numbers_in (Text t ∷ row) = numbers_in row
numbers_in (Blob b ∷ row) = numbers_in row

texts_in : Row → List (List ℕ)
texts_in [] = []
texts_in (Text t ∷ row) = t ∷ texts_in row
texts_in (Null ∷ row) = texts_in row
texts_in (Real x ∷ row) = texts_in row
texts_in (Int n ∷ row) = texts_in row
texts_in (Blob b ∷ row) = texts_in row

entry_in : Row → Entry
entry_in [] = record { key = pos 0; values = []; texts = [] }
entry_in (v ∷ []) = record { key = number_in v; values = []; texts = [] }
entry_in (v ∷ w ∷ row) = record { key = number_in v; values = numbers_in row; texts = texts_in row }

no_numbers : (texts : List (List ℕ)) → numbers_in (texts_held texts) ≡ []
unfolding numbers_in
no_numbers [] = refl
no_numbers (t ∷ texts) = no_numbers texts

texts_back : (texts : List (List ℕ)) → texts_in (texts_held texts) ≡ texts
unfolding texts_in
texts_back [] = refl
texts_back (t ∷ texts) = ap (λ l. t ∷ l) (texts_back texts)

numbers_back : (values : List ℤ) (texts : List (List ℕ))
    → numbers_in (numbers values ++ texts_held texts) ≡ values
unfolding numbers_in
numbers_back [] texts = no_numbers texts
numbers_back (v ∷ values) texts = ap (λ l. v ∷ l) (numbers_back values texts)

also_back : (values : List ℤ) (texts : List (List ℕ)) → texts_in (numbers values ++ texts_held texts) ≡ texts
unfolding texts_in
also_back [] texts = texts_back texts
also_back (v ∷ values) texts = also_back values texts

entry_back : (e : Entry) → entry_in (stored e) ≡ e
unfolding entry_in number_in
entry_back e =
    let texts = texts_in (numbers e.values ++ texts_held e.texts) in
    ap (λ vs. let it : Entry = record { key = e.key; values = vs; texts = texts } in it)
    (numbers_back e.values e.texts)
    ∙ ap (λ ts. let it : Entry = record { key = e.key; values = e.values; texts = ts } in it)
    (also_back e.values e.texts)

abbrev at : Entry → ℕ → ℕ
at e i = nat_abs (slice_index_or e.values i (pos 0))

abbrev amount : Entry → ℕ → ℤ
amount e i = slice_index_or e.values i (pos 0)

decided_in : List Entry → ℕ
decided_in [] = 0
decided_in (e ∷ es) = at e 1

abbrev branch_in : Entry → BranchRow
branch_in e = record { branch = nat_abs e.key; accounts = at e 0; balance = amount e 1 }

abbrev teller_in : Entry → TellerRow
teller_in e = record { teller = nat_abs e.key; balance = amount e 0 }

abbrev account_in : Entry → AccountRow
account_in e = record { account = nat_abs e.key; balance = amount e 0 }

abbrev floor_in : Entry → FloorRow
floor_in e = record { branch = nat_abs e.key; lowest = amount e 0 }

abbrev reference_in : Entry → ReferenceRow
reference_in e = record { ordinal = nat_abs e.key; reference = slice_index_or e.texts 0 [] }

abbrev closing_in : Entry → ClosingRow
closing_in e = record { last = nat_abs e.key; first = at e 0 }

abbrev history_in : Entry → HistoryRow
history_in e = record {
  ordinal = nat_abs e.key;
  account = at e 0;
  teller = at e 1;
  branch = at e 2;
  delta = amount e 3;
  moment = at e 4;
}

abbrev request_in : Entry → RequestRow
request_in e = record {
  ordinal = nat_abs e.key;
  teller = at e 0;
  number = at e 1;
  decision = record {
    account = at e 2;
    branch = at e 3;
    delta = amount e 4;
    outcome = unwrap_or (outcome_with (at e 5)) Malformed;
    balance =
        amount e 6;
  };
}

request_back : (r : RequestRow) → request_in (request_entry r) ≡ r
request_back r = ap (λ o. let it : RequestRow = record r {
  decision = record {
    account = r.decision.account;
    branch = r.decision.branch;
    delta =
        r.decision.delta;
    outcome = o;
    balance = r.decision.balance;
  };
} in it) (ap (λ (o : Option Outcome). unwrap_or o Malformed) (outcome_with-code r.decision.outcome))

-- ---- one bank

-- the tables of the entries that a file holds
tables_in : List (List Entry) → Tables
tables_in (a ∷ b ∷ c ∷ d ∷ e ∷ f ∷ g ∷ h ∷ i ∷ more) = record {
  decided = decided_in a;
  branches = map branch_in b;
  tellers = map teller_in c;
  accounts = map account_in d;
  history = map history_in e;
  requests = map request_in f;
  floors = map floor_in g;
  references = map reference_in h;
  closings = map closing_in i;
}
tables_in _ = new_tables

tables_back : (t : Tables) → tables_in (contents t) ≡ t
unfolding tables_in decided_in
tables_back t = rw (
  all_back branch_entry branch_in (λ _. refl) t.branches,
  all_back teller_entry teller_in (λ _. refl) t.tellers,
  all_back account_entry account_in (λ _. refl) t.accounts,
  all_back history_entry history_in (λ _. refl) t.history,
  all_back request_entry request_in request_back t.requests,
  all_back floor_entry floor_in (λ _. refl) t.floors,
  all_back reference_entry reference_in (λ _. refl) t.references,
  all_back closing_entry closing_in (λ _. refl) t.closings,
) refl

entries_once : (db : Database) (table : Table) (xs ys : List Entry) → Holds db table xs → Holds db table ys
    → xs ≡ ys
entries_once db table xs ys p q = lists_once stored entry_in entry_back xs ys (sym p.rows.are ∙ q.rows.are)

each_once : (db : Database) (tables : List Table) (xs ys : List (List Entry)) → HoldsEach db tables xs
    → HoldsEach db tables ys → xs ≡ ys
each_once db [] [] [] p q = refl
each_once db [] [] (y ∷ ys) p q = absurd q
each_once db [] (x ∷ xs) ys p q = absurd p
each_once db (t ∷ tables) [] ys p q = absurd p
each_once db (t ∷ tables) (x ∷ xs) [] p q = absurd q
each_once db (t ∷ tables) (x ∷ xs) (y ∷ ys) p q =
    let one = entries_once db t x y p.0 q.0 in let rest = each_once db tables xs ys p.1 q.1 in cc

one_database : (db : Database) (a b : Tables) → Shows db a → Shows db b → a ≡ b
one_database db a b p q = sym (tables_back a)
    ∙ ap tables_in (each_once db bank_tables (contents a) (contents b) p.each q.each) ∙ tables_back b

-- what a connection shows its trees show
pub to_trees : (db : Database) (t : Tables) → Shows db t → ShowsTrees db.trees t
to_trees db t shows = (db.schema, shows)

moved : (db : Database) (t : Tables) (sound : ∥ IsDatabase db ∥₁) (left : ShowsTrees db.trees t) → Shows db t
moved db t sound left = subst (λ s. Shows (record { schema = s; trees = db.trees }) t)
    (same_schema db left.0 sound left.1.sound) left.1

-- a sound database over trees that show a bank shows that bank
pub of_trees : (db : Database) (t : Tables) → IsDatabase db → ShowsTrees db.trees t → Shows db t
of_trees db t sound left = moved db t ∣ sound ∣₁ left

-- trees show one bank at most
pub one_bank : (trees : Trees) (a b : Tables) → ShowsTrees trees a → ShowsTrees trees b → a ≡ b
one_bank trees a b p q =
    let db : Database = record { schema = p.0; trees = trees } in
    one_database db a b p.1 (moved db b p.1.sound q)
