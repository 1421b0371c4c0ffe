-- What the statement of each walk means of its table.
use Rattle.std.proofs.Common.{◌≡◌, ℕ, ℤ, pos, List, [], ◌∷◌, None, Some, Ok, codes, lit≤, refl, true, false}
use Rattle.std.proofs.Common.{slice_get}
use Rattle.sqlite.specs.{Order.Row, Schema.Schema, Table.Table, declared.types.Value.TheVariants.Int}
use Rattle.sqlite.specs.Term.{Term, eval_all, lit}
use Rattle.sqlite_ast.specs.declared.Binary.TheVariants as binary
use Rattle.sqlite_ast.specs.declared.{Expr.TheOpen.Expr-F, Expr.Expr, Expr.out-Expr, Sort.Sort, Sort.out-Sort}
use Rattle.sqlite_draft.specs.declared.join.Step.TheVariants.{Inner}
use Rattle.sqlite_value.specs.declared.keys.Collation.TheVariants.{Binary}
use Rattle.sqlite_schema.specs.Names.{column_named, place_of}
use Rattle.sqlite_tied.specs.Compute.{everything}
use Rattle.sqlite_resolve.specs.{Literal.integer, Lowering.alone, Lowering.chosen, Lowering.nothing, Scope.Name}
use Rattle.sqlite_resolve.specs.{Scope.alias_of, Scope.declared, Select.ungrouped, Terms.number}
use Rattle.sqlite_resolve.specs.Program as program
use Rattle.sqlite_typing.specs.Types.{accepts_program}
use Rattle.sql_meanings.specs.believed.Entries.{Entry, HasWidth, stored}
use Rattle.sql_meanings.specs.believed.{Plain.key_column, Plain.number_column, Tables.placed_at, Tables.width_of}
use Rattle.sql_meanings.specs.{Queries.ascending, Seeks.key_from, Seeks.next_from, Seeks.next_of_from}
use Rattle.sql_meanings.proofs.{ByKey.Tests, ByKey.number_at, ReadTables.ReadsAs, ShownColumns.outputs_at}
use Rattle.sql_meanings.proofs.{SeekTexts.seeks_by, SeekTexts.seeks_of_by, Statements.HasTable}
use Rattle.sql_meanings.proofs.Texts.{IsSelect, columns_of, count_after_key, only_reads, places_of, select_of}
use Rattle.store_rows.specs.believed.BankTables as bank
use Rattle.store_rows.specs.believed.SeveralRows.{given}
use Rattle.store_rows.proofs.ShownValues.{all_columns}
use Rattle.walked_rows.specs.{OnlyMeta.meta_with, declared.ahead.TheConstants.AHEAD}
use Rattle.store_rows.specs.declared.texts.TheConstants.{ACCOUNTS_FROM, BRANCHES_FROM, FLOORS_FROM, METAS_FROM}
use Rattle.store_rows.specs.declared.texts.TheConstants.{POSTINGS_FROM, POSTINGS_OF, REFERENCES_FROM, REQUESTS_FROM}
use Rattle.store_rows.specs.declared.texts.TheConstants.{CLOSINGS_FROM, TELLERS_FROM}
use Rattle.walked_rows.proofs.Sought.{Walks}

-- the key of a table, where its name and its column compute
abbrev key_of : (table : Table) (name : Name)
    → ((tree : ℕ) → column_named (placed_at table tree) name ≡ Some 0)
    → slice_get table.columns 0 ≡ Some (key_column name)
    → ((tree : ℕ) → place_of (placed_at table tree) 0 ≡ 0)
    → ((tree : ℕ) → chosen (declared (placed_at table tree) 0 (key_column name)) nothing ≡ Binary)
    → (tree : ℕ) → Tests (placed_at table tree) name 0
key_of table name named there is_at by_bytes tree = record {
  place = 0;
  column = key_column name;
  named = named tree;
  there = there;
  is_at = is_at tree;
  by_bytes = by_bytes tree;
}

-- A SELECT by rising keys, from a number on, shows the rows so, where that computes: its words, the key of its
-- table, and what it is as a query.
walks_by : {table : Table} {text : List ℕ} {places : List ℕ} (is : IsSelect table text 1 places)
    (key : Name) (project : List Term) {sort : Sort} {cap test e a b : Expr} {most : Name}
    → is.order ≡ sort ∷ [] → is.limit ≡ Some cap → is.filter ≡ Some test
    → out-Sort sort ≡ record { key = e; descending = false; nulls_first = None }
    → out-Expr e ≡ Expr-F.Column None key
    → out-Expr test ≡ Expr-F.Binary binary.Ge a b → out-Expr a ≡ Expr-F.Column None key
    → out-Expr b ≡ Expr-F.Parameter 1
    → out-Expr cap ≡ Expr-F.Integer most → integer false most ≡ Ok (Int (pos AHEAD))
    → table.references ≡ [] → slice_get table.columns 0 ≡ Some (key_column key)
    → ((tree : ℕ) → column_named (placed_at table tree) key ≡ Some 0)
    → ((tree : ℕ) → place_of (placed_at table tree) 0 ≡ 0)
    → ((tree : ℕ) → chosen (declared (placed_at table tree) 0 (key_column key)) nothing ≡ Binary)
    → ((tree : ℕ) → alone (declared (placed_at table tree) 0 (key_column key)) ≡ Binary)
    → ((tree : ℕ) → alias_of key (outputs_at (placed_at table tree) places) ≡ None)
    → ((schema : Schema) (p tree : ℕ) → HasTable schema table.name p (placed_at table tree)
    → program.program schema [] (ungrouped (Inner tree ∷ []) key_from
    (outputs_at (placed_at table tree) places) false ascending (lit (Int (pos AHEAD))) (number 0))
    ≡ Ok (record { lets = []; body = next_from AHEAD tree project }))
    → ((k : ℤ) (schema : Schema) (p tree : ℕ) → HasTable schema table.name p (placed_at table tree)
    → accepts_program schema [] (next_from AHEAD tree project) (Int k ∷ []) ≡ true)
    → ((params : Row) (e : Entry) → HasWidth (width_of table) e
    → eval_all project (params ∷ stored e ∷ []) ≡ given e)
    → Walks table text
walks_by {table = table} {text = text} {places = places} is key project {sort = sort} {cap = cap} {test = test} {e = e} {a = a} {b = b} {most = most} ordered limited
    filtered sorts by_key above left right capped value free there named is_at by_bytes plain unnamed typed
    accepts whole = record {
      project = project;
      free = free;
      only = only_reads is;
      reads = λ k. seeks_by table text places AHEAD project key (key_of table key named there is_at by_bytes)
          plain unnamed is sort cap test e a b most ordered limited filtered sorts by_key above left right
          capped value typed k (accepts k);
      whole = λ k. whole (Int k ∷ []);
    }

is_tellers : IsSelect bank.teller TELLERS_FROM.now 1 (places_of bank.teller)
unfolding everything
is_tellers = select_of bank.teller TELLERS_FROM.now 1 _ _ _ _ _ _ _ _ _ refl refl refl (lit≤ tt) refl refl
    refl refl (λ tree. refl) (lit≤ tt)

is_branches : IsSelect bank.branch BRANCHES_FROM.now 1 (places_of bank.branch)
unfolding everything
is_branches = select_of bank.branch BRANCHES_FROM.now 1 _ _ _ _ _ _ _ _ _ refl refl refl (lit≤ tt) refl refl
    refl refl (λ tree. refl) (lit≤ tt)

is_accounts : IsSelect bank.account ACCOUNTS_FROM.now 1 (places_of bank.account)
unfolding everything
is_accounts = select_of bank.account ACCOUNTS_FROM.now 1 _ _ _ _ _ _ _ _ _ refl refl refl (lit≤ tt) refl refl
    refl refl (λ tree. refl) (lit≤ tt)

is_postings : IsSelect bank.history POSTINGS_FROM.now 1 (places_of bank.history)
unfolding everything
is_postings = select_of bank.history POSTINGS_FROM.now 1 _ _ _ _ _ _ _ _ _ refl refl refl (lit≤ tt) refl refl
    refl refl (λ tree. refl) (lit≤ tt)

is_requests : IsSelect bank.request REQUESTS_FROM.now 1 (places_of bank.request)
unfolding everything
is_requests = select_of bank.request REQUESTS_FROM.now 1 _ _ _ _ _ _ _ _ _ refl refl refl (lit≤ tt) refl refl
    refl refl (λ tree. refl) (lit≤ tt)

-- whatever CHECK it has
is_metas : (checks : List Term) → IsSelect (meta_with checks) METAS_FROM.now 1 (places_of (meta_with checks))
unfolding everything
is_metas checks = select_of (meta_with checks) METAS_FROM.now 1 _ _ _ _ _ _ _ _ _ refl refl refl (lit≤ tt) refl refl
    refl refl (λ tree. refl) (lit≤ tt)

is_floors : IsSelect bank.floor FLOORS_FROM.now 1 (places_of bank.floor)
unfolding everything
is_floors = select_of bank.floor FLOORS_FROM.now 1 _ _ _ _ _ _ _ _ _ refl refl refl (lit≤ tt) refl refl
    refl refl (λ tree. refl) (lit≤ tt)

is_closings : IsSelect bank.closing CLOSINGS_FROM.now 1 (places_of bank.closing)
unfolding everything
is_closings = select_of bank.closing CLOSINGS_FROM.now 1 _ _ _ _ _ _ _ _ _ refl refl refl (lit≤ tt) refl refl
    refl refl (λ tree. refl) (lit≤ tt)

is_references : IsSelect bank.reference REFERENCES_FROM.now 1 (places_of bank.reference)
unfolding everything
is_references = select_of bank.reference REFERENCES_FROM.now 1 _ _ _ _ _ _ _ _ _ refl refl refl (lit≤ tt) refl
    refl refl refl (λ tree. refl) (lit≤ tt)

pub walks_tellers : Walks bank.teller TELLERS_FROM.now
unfolding is_tellers everything program.program ungrouped
walks_tellers = walks_by is_tellers (codes "tid") (columns_of bank.teller)
    refl refl refl refl refl refl refl refl refl refl refl refl (λ tree. refl) (λ tree. refl) (λ tree. refl)
    (λ tree. refl) (λ tree. refl) (λ schema p tree has. rw (has.low, has.found))
    (λ k schema p tree has. rw (has.low, has.found)) (λ _. all_columns 1 0)

pub walks_branches : Walks bank.branch BRANCHES_FROM.now
unfolding is_branches everything program.program ungrouped
walks_branches = walks_by is_branches (codes "bid") (columns_of bank.branch)
    refl refl refl refl refl refl refl refl refl refl refl refl (λ tree. refl) (λ tree. refl) (λ tree. refl)
    (λ tree. refl) (λ tree. refl) (λ schema p tree has. rw (has.low, has.found))
    (λ k schema p tree has. rw (has.low, has.found)) (λ _. all_columns 2 0)

pub walks_accounts : Walks bank.account ACCOUNTS_FROM.now
unfolding is_accounts everything program.program ungrouped
walks_accounts = walks_by is_accounts (codes "aid") (columns_of bank.account)
    refl refl refl refl refl refl refl refl refl refl refl refl (λ tree. refl) (λ tree. refl) (λ tree. refl)
    (λ tree. refl) (λ tree. refl) (λ schema p tree has. rw (has.low, has.found))
    (λ k schema p tree has. rw (has.low, has.found)) (λ _. all_columns 1 0)

pub walks_postings : Walks bank.history POSTINGS_FROM.now
unfolding is_postings everything program.program ungrouped
walks_postings = walks_by is_postings (codes "ordinal") (columns_of bank.history)
    refl refl refl refl refl refl refl refl refl refl refl refl (λ tree. refl) (λ tree. refl) (λ tree. refl)
    (λ tree. refl) (λ tree. refl) (λ schema p tree has. rw (has.low, has.found))
    (λ k schema p tree has. rw (has.low, has.found)) (λ _. all_columns (count_after_key bank.history) 0)

pub walks_requests : Walks bank.request REQUESTS_FROM.now
unfolding is_requests everything program.program ungrouped
walks_requests = walks_by is_requests (codes "ordinal") (columns_of bank.request)
    refl refl refl refl refl refl refl refl refl refl refl refl (λ tree. refl) (λ tree. refl) (λ tree. refl)
    (λ tree. refl) (λ tree. refl) (λ schema p tree has. rw (has.low, has.found))
    (λ k schema p tree has. rw (has.low, has.found)) (λ _. all_columns (count_after_key bank.request) 0)

pub walks_metas : (checks : List Term) → Walks (meta_with checks) METAS_FROM.now
unfolding is_metas everything program.program ungrouped
walks_metas checks = walks_by (is_metas checks) (codes "id") (columns_of (meta_with checks))
    refl refl refl refl refl refl refl refl refl refl refl refl (λ tree. refl) (λ tree. refl) (λ tree. refl)
    (λ tree. refl) (λ tree. refl) (λ schema p tree has. rw (has.low, has.found))
    (λ k schema p tree has. rw (has.low, has.found)) (λ _. all_columns 2 0)

pub walks_floors : Walks bank.floor FLOORS_FROM.now
unfolding is_floors everything program.program ungrouped
walks_floors = walks_by is_floors (codes "bid") (columns_of bank.floor)
    refl refl refl refl refl refl refl refl refl refl refl refl (λ tree. refl) (λ tree. refl) (λ tree. refl)
    (λ tree. refl) (λ tree. refl) (λ schema p tree has. rw (has.low, has.found))
    (λ k schema p tree has. rw (has.low, has.found)) (λ _. all_columns 1 0)

pub walks_closings : Walks bank.closing CLOSINGS_FROM.now
unfolding is_closings everything program.program ungrouped
walks_closings = walks_by is_closings (codes "last") (columns_of bank.closing)
    refl refl refl refl refl refl refl refl refl refl refl refl (λ tree. refl) (λ tree. refl) (λ tree. refl)
    (λ tree. refl) (λ tree. refl) (λ schema p tree has. rw (has.low, has.found))
    (λ k schema p tree has. rw (has.low, has.found)) (λ _. all_columns 1 0)

pub walks_references : Walks bank.reference REFERENCES_FROM.now
unfolding is_references everything program.program ungrouped
walks_references = walks_by is_references (codes "ordinal") (columns_of bank.reference)
    refl refl refl refl refl refl refl refl refl refl refl refl (λ tree. refl) (λ tree. refl) (λ tree. refl)
    (λ tree. refl) (λ tree. refl) (λ schema p tree has. rw (has.low, has.found))
    (λ k schema p tree has. rw (has.low, has.found)) (λ _. all_columns 0 1)

-- the account of a posting
account_of_history : (tree : ℕ) → Tests (placed_at bank.history tree) (codes "aid") 2
unfolding everything
account_of_history tree =
    record {
      place = 1;
      column = number_column (codes "aid");
      named = refl;
      there = refl;
      is_at = refl;
      by_bytes = refl;
    }

pub is_postings_of : IsSelect bank.history POSTINGS_OF.now 2 (places_of bank.history)
unfolding everything
is_postings_of = select_of bank.history POSTINGS_OF.now 2 _ _ _ _ _ _ _ _ _ refl refl refl
    (lit≤ tt) refl refl refl refl
    (λ tree. refl) (lit≤ tt)

pub reads_postings_of : (one k : ℤ)
    → ReadsAs bank.history POSTINGS_OF.now (Int one ∷ Int k ∷ [])
    (λ tree. next_of_from AHEAD tree (columns_of bank.history))
unfolding is_postings_of account_of_history everything program.program ungrouped
reads_postings_of one k = seeks_of_by bank.history POSTINGS_OF.now _ AHEAD
    (columns_of bank.history) (codes "ordinal")
    (key_of bank.history (codes "ordinal") (λ tree. refl) refl (λ tree. refl) (λ tree. refl))
    (λ tree. refl) (λ tree. refl)
    (codes "aid") account_of_history is_postings_of _ _ _ _ _ _ _ _ _ _ _ refl refl refl refl refl refl refl
    refl refl refl refl refl refl refl
    (λ schema p tree has. number_at schema p (placed_at bank.history tree) has.listed (codes "history")
    (outputs_at (placed_at bank.history tree) (places_of bank.history)) false 1 _ refl refl)
    (λ schema p tree has. rw (has.low, has.found)) one k (λ schema p tree has. rw (has.low, has.found))
