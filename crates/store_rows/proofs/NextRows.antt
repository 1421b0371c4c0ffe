-- The look-ups of the row with the least key above one.
use Rattle.std.proofs.Common.{◌≡◌, ℕ, ℤ, pos, List, [], ◌∷◌, None, Some, Ok, true, false, arith, codes, lit≤, map, refl}
use Rattle.sqlite.specs.{Schema.Schema, Table.Table, declared.types.Value.TheVariants.Int}
use Rattle.sqlite.specs.Term.{lit}
use Rattle.sqlite_ast.specs.declared.Binary.TheVariants as binary
use Rattle.sqlite_ast.specs.declared.{Expr.TheOpen.Expr-F, Expr.Expr, Expr.out-Expr, Sort.Sort, Sort.out-Sort}
use Rattle.sqlite_draft.specs.declared.join.Step.TheVariants.{Inner}
use Rattle.sqlite_tied.specs.Compute.{everything}
use Rattle.sqlite_value.specs.declared.keys.Collation.TheVariants.{Binary}
use Rattle.sqlite_resolve.specs.{Literal.integer, Lowering.alone, Scope.Name, Scope.alias_of, Scope.declared}
use Rattle.sqlite_resolve.specs.{Select.ungrouped, Terms.number}
use Rattle.sqlite_resolve.specs.Program as program
use Rattle.sqlite_typing.specs.Types.{accepts_program}
use Rattle.sql_meanings.specs.believed.Tables.{placed_at}
use Rattle.sql_meanings.specs.Queries.{ascending, next_above, key_above}
use Rattle.sql_meanings.proofs.{Above.Beyond, Above.select_rising, ByKey.key_at, Keyed.IsFirst, Keyed.first_key}
use Rattle.sql_meanings.proofs.{Means.means, ReadTables.ReadsAs, Statements.HasTable, ShownColumns.has_room}
use Rattle.sql_meanings.proofs.ShownColumns.{outputs_at, shows_named}
use Rattle.sql_meanings.proofs.Texts.{IsSelect, columns_of, left_over, many, places_of, select_of}
use Rattle.store_rows.specs.believed.BankTables as bank
use Rattle.store_rows.specs.declared.texts.TheConstants.{NEXT_BRANCH, NEXT_CLOSING, NEXT_POSTING, NEXT_REFERENCE, NEXT_REQUEST}

-- SELECT columns FROM table WHERE key > ?1 ORDER BY key LIMIT 1
nexts_by : {table : Table} {text : List ℕ} (is : IsSelect table text 1 (places_of table)) (key : Name)
    {sort : Sort} {cap test e a b : Expr} {most : Name} (keys : IsFirst table key)
    → is.order ≡ sort ∷ [] → is.limit ≡ Some cap → is.filter ≡ Some test
    → out-Sort sort ≡ record { key = e; descending = false; nulls_first = None }
    → out-Expr e ≡ Expr-F.Column None key
    → out-Expr test ≡ Expr-F.Binary binary.Gt a b → out-Expr a ≡ Expr-F.Column None key
    → out-Expr b ≡ Expr-F.Parameter 1
    → out-Expr cap ≡ Expr-F.Integer most → integer false most ≡ Ok (Int (pos 1))
    → ((tree : ℕ) → alone (declared (placed_at table tree) (keys tree).place (keys tree).column) ≡ Binary)
    → ((tree : ℕ) → alias_of key (outputs_at (placed_at table tree) (places_of table)) ≡ None)
    → ((schema : Schema) (p tree : ℕ) → HasTable schema table.name p (placed_at table tree)
    → program.program schema [] (ungrouped (Inner tree ∷ []) key_above
    (outputs_at (placed_at table tree) (places_of table)) false ascending (lit (Int (pos 1))) (number 0))
    ≡ Ok (record { lets = []; body = next_above tree (columns_of table) }))
    → ((k : ℤ) (schema : Schema) (p tree : ℕ) → HasTable schema table.name p (placed_at table tree)
    → accepts_program schema [] (next_above tree (columns_of table)) (Int k ∷ []) ≡ true)
    → (k : ℤ) → ReadsAs table text (Int k ∷ []) (λ tree. next_above tree (columns_of table))
nexts_by {table} {text} is key {sort} {cap} {test} {e} {a} {b} {most} keys ordered limited filtered sorts by_key above left
    right capped value by_bytes unnamed typed accepts k = record {
      names = map (λ o. o.name) (outputs_at table (places_of table));
      means = λ schema p tree has.
          let os = outputs_at (placed_at table tree) (places_of table) in
          let low = many (placed_at table tree) (places_of table) is.few in
          let rest = left_over (placed_at table tree) (places_of table) is.few in
          means schema text 1 _ _ (select_rising schema table.name p (placed_at table tree) has Beyond text
          is.P is.s is.core is.source is.shown test a b e cap sort key most (Int (pos 1)) 0 1 (keys tree) os _ is.parsed
          is.statement is.plain (rw (ordered, limited) at is.select) (rw filtered at is.body) is.from above left right
          sorts by_key (unnamed tree) capped value (shows_named _ _ _ (is.shows tree)) (has_room 100000 _ (omega arith))
          (key_at schema table.name p os false) (grind arith) (grind arith) (grind arith) (grind arith)
          (by_bytes tree) (typed schema p tree has)) refl is.whole is.given refl refl;
      accepts = accepts k;
      unfolded = λ _. refl;
      ungrouped = λ _. refl;
    }

pub is_branch : IsSelect bank.branch NEXT_BRANCH.now 1 (places_of bank.branch)
unfolding everything
is_branch = select_of bank.branch NEXT_BRANCH.now 1 _ _ _ _ _ _ _ _ _ refl refl refl (lit≤ tt) refl refl refl refl
    (λ tree. refl) (lit≤ tt)

pub is_closing : IsSelect bank.closing NEXT_CLOSING.now 1 (places_of bank.closing)
unfolding everything
is_closing = select_of bank.closing NEXT_CLOSING.now 1 _ _ _ _ _ _ _ _ _ refl refl refl (lit≤ tt) refl refl refl refl
    (λ tree. refl) (lit≤ tt)

pub is_request : IsSelect bank.request NEXT_REQUEST.now 1 (places_of bank.request)
unfolding everything
is_request = select_of bank.request NEXT_REQUEST.now 1 _ _ _ _ _ _ _ _ _ refl refl refl (lit≤ tt) refl refl refl refl
    (λ tree. refl) (lit≤ tt)

pub is_posting : IsSelect bank.history NEXT_POSTING.now 1 (places_of bank.history)
unfolding everything
is_posting = select_of bank.history NEXT_POSTING.now 1 _ _ _ _ _ _ _ _ _ refl refl refl (lit≤ tt) refl refl refl refl
    (λ tree. refl) (lit≤ tt)

pub is_reference : IsSelect bank.reference NEXT_REFERENCE.now 1 (places_of bank.reference)
unfolding everything
is_reference = select_of bank.reference NEXT_REFERENCE.now 1 _ _ _ _ _ _ _ _ _ refl refl refl (lit≤ tt) refl refl refl refl
    (λ tree. refl) (lit≤ tt)

pub next_branch : (k : ℤ) → ReadsAs bank.branch NEXT_BRANCH.now (Int k ∷ []) (λ t. next_above t (columns_of bank.branch))
unfolding is_branch everything program.program ungrouped
next_branch = nexts_by is_branch (codes "bid") (λ _. first_key (codes "bid") refl refl refl refl)
    refl refl refl refl refl refl refl refl refl refl (λ tree. refl) (λ tree. refl)
    (λ schema p tree has. rw (has.low, has.found)) (λ k schema p tree has. rw (has.low, has.found))

pub next_closing : (k : ℤ)
    → ReadsAs bank.closing NEXT_CLOSING.now (Int k ∷ []) (λ t. next_above t (columns_of bank.closing))
unfolding is_closing everything program.program ungrouped
next_closing = nexts_by is_closing (codes "last") (λ _. first_key (codes "last") refl refl refl refl)
    refl refl refl refl refl refl refl refl refl refl (λ tree. refl) (λ tree. refl)
    (λ schema p tree has. rw (has.low, has.found)) (λ k schema p tree has. rw (has.low, has.found))

pub next_request : (k : ℤ)
    → ReadsAs bank.request NEXT_REQUEST.now (Int k ∷ []) (λ t. next_above t (columns_of bank.request))
unfolding is_request everything program.program ungrouped
next_request = nexts_by is_request (codes "ordinal") (λ _. first_key (codes "ordinal") refl refl refl refl)
    refl refl refl refl refl refl refl refl refl refl (λ tree. refl) (λ tree. refl)
    (λ schema p tree has. rw (has.low, has.found)) (λ k schema p tree has. rw (has.low, has.found))

pub next_posting : (k : ℤ)
    → ReadsAs bank.history NEXT_POSTING.now (Int k ∷ []) (λ t. next_above t (columns_of bank.history))
unfolding is_posting everything program.program ungrouped
next_posting = nexts_by is_posting (codes "ordinal") (λ _. first_key (codes "ordinal") refl refl refl refl)
    refl refl refl refl refl refl refl refl refl refl (λ tree. refl) (λ tree. refl)
    (λ schema p tree has. rw (has.low, has.found)) (λ k schema p tree has. rw (has.low, has.found))

pub next_reference : (k : ℤ)
    → ReadsAs bank.reference NEXT_REFERENCE.now (Int k ∷ []) (λ t. next_above t (columns_of bank.reference))
unfolding is_reference everything program.program ungrouped
next_reference = nexts_by is_reference (codes "ordinal") (λ _. first_key (codes "ordinal") refl refl refl refl)
    refl refl refl refl refl refl refl refl refl refl (λ tree. refl) (λ tree. refl)
    (λ schema p tree has. rw (has.low, has.found)) (λ k schema p tree has. rw (has.low, has.found))
