-- What a statement answers where it fails, by its kind.
use Rattle.sql_meanings.specs.Names.{IsSome, IsTrue, ℕ, List, [], length, map}
use Rattle.sql_meanings.specs.Names.{Bool, true, false, Option, Some, None, Result, Ok, Err, ⊤, list_any, Row, Table}
use Rattle.sql_meanings.specs.Names.{Schema, Trees, IsDatabase, edit_error, understood, StoreError, same_name}
use Rattle.sql_meanings.specs.Names.{table_named, view_named, Index, Unique, Has, Refusal, Compiled}
use Rattle.sql_meanings.specs.Names.{CompileError, State, Fails, IsUnchanged, IsRolledBack, KeepsCommit, KeepsCounts}
use Rattle.sql_meanings.specs.Names.{HasCause, store_error, Error, SqliteFailure, SqlInputError, QueryReturnedNoRows}
use Rattle.sqlite.specs.State.{Shows as StateShows}
use Rattle.sqlite.specs.declared.error.ErrorCode.TheVariants.{OutOfMemory, OperationInterrupted, ConstraintViolation}
use Rattle.sql_meanings.specs.believed.Entries.{Entry, stored}
use Rattle.sql_meanings.specs.Making.{AddsTable, NotMade}
use Rattle.sql_meanings.specs.believed.Tables.{Defines, tree_of}
use Rattle.std.specs.Prelude.{◌≡◌, ◌≢◌, ◌⊎◌, ◌≤◌, ◌<◌, ◌==◌, ◌&&◌}

-- why a plain read may fail: the store failed and the transaction is rolled back, or the limit on steps was
-- met and nothing has changed
abbrev pub ReadFails : State → State → Error → Type 0
ReadFails old new e = Fails old new ⊥ e ⊎
    ((e ≡ SqliteFailure OperationInterrupted) × IsSome old.step_limit × IsUnchanged old new)

-- the same, or memory for the answer was refused and nothing has changed
abbrev pub IsStoreError : State → State → Error → Type 0
IsStoreError old new e =
    Fails old new ⊥ e ⊎ (((e ≡ SqliteFailure OutOfMemory)
    ⊎ ((e ≡ SqliteFailure OperationInterrupted) × IsSome old.step_limit))
    × IsUnchanged old new)

-- the transaction goes on, and only what it shows now may differ
abbrev pub GoesOn : State → State → Type 0
GoesOn old new = StateShows old new new.now old.committed true × (new.marks ≡ old.marks)

-- ---- why a write fails

-- the error is one of the store, and what it names has happened
abbrev pub NamesCause : State → State → Type 0 → Error → Type 0
NamesCause old new TooBig e = (cause : StoreError) × (e ≡ store_error cause) × HasCause old new TooBig cause

-- the limit on steps was met
abbrev pub IsInterrupted : State → Error → Type 0
IsInterrupted old e = (e ≡ SqliteFailure OperationInterrupted) × IsSome old.step_limit

-- an index of the table has more columns than can be stored
abbrev pub HasWideIndex : Schema → Table → Type 0
HasWideIndex schema table = (i : Index) × Has schema.indexes i × (i.table ≡ tree_of schema table.name) ×
    (2000 < length i.columns)

-- a foreign key of the schema names this table as its parent
abbrev pub is_parent : Schema → Table → Bool
is_parent schema table = list_any
    (λ t. list_any (λ ref. same_name table.name ref.parent) t.references) schema.tables

-- a UNIQUE of the schema is on the table
abbrev pub has_unique : Schema → Table → Bool
has_unique schema table = list_any (λ i. i.is_unique && (i.table == tree_of schema table.name)) schema.indexes

-- a UNIQUE is on the table, and no sound database with this schema has these rows in it
abbrev pub Forbids : Schema → Table → List Entry → Type 0
Forbids schema table entries = IsTrue (has_unique schema table)
    × ((trees : Trees) → IsDatabase (record { schema = schema; trees = trees })
    → trees (tree_of schema table.name) ≢ map stored entries)

-- Why a row can't be put in: the store failed, and the transaction is rolled back; or the limit on steps was
-- met, or a UNIQUE of the schema allows no such rows, and nothing has changed.
abbrev pub PutFails : State → State → Table → Type 0 → Error → Type 0
PutFails old new table NoSuchRows e =
    Fails old new (HasWideIndex old.now.schema table) e
    ⊎ ((IsInterrupted old e ⊎ ((e ≡ SqliteFailure (ConstraintViolation Unique)) × NoSuchRows))
    × IsUnchanged old new)

-- Why a row can't be changed: the same; or another table has a foreign key to this one, and what that sets
-- off failed or broke a rule.
abbrev pub SetFails : State → State → Table → Type 0 → Error → Type 0
SetFails old new table NoSuchRows e =
    PutFails old new table NoSuchRows e
    ⊎ (IsTrue (is_parent old.now.schema table)
    × (Fails old new ⊤ e ⊎ (((why : Refusal) × (e ≡ edit_error why)) × IsUnchanged old new)))

-- no transaction goes on, and a connection that is open shows what was last committed
abbrev pub IsUndone : State → State → Type 0
IsUndone old new =
    (IsTrue new.is_open → IsTrue old.is_open × (new.now ≡ old.committed) × (new.committed ≡ old.committed))
    × (new.in_transaction ≡ false) × (new.marks ≡ [])

-- nothing has changed, or the transaction is rolled back
abbrev pub WriteFails : State → State → Type 0
WriteFails old new = IsUnchanged old new ⊎ IsRolledBack old new

-- the row is this one, or there is none, or the read failed
abbrev pub TellsRow : State → State → Option Row → Result Row Error → Type 0
TellsRow old new found (Ok row) = (found ≡ Some row) × IsUnchanged old new
TellsRow old new found (Err e) = ((e ≡ QueryReturnedNoRows) × (found ≡ None) × IsUnchanged old new)
    ⊎ ReadFails old new e

-- what is read of several rows: these, and nothing has changed, or why it failed
abbrev pub TellsRows : State → State → List Row → Result (List Row) Error → Type 0
TellsRows old new wanted (Ok rows) = (rows ≡ wanted) × IsUnchanged old new
TellsRows old new wanted (Err e) = ReadFails old new e

-- whatever the rows: the transaction goes on, and an error leaves it as it was or rolls it back
abbrev pub WriteKept : {X E : Type 0} → State → State → Result X E → Type 0
WriteKept old new (Ok x) = StateShows old new new.now old.committed true
WriteKept old new (Err e) = WriteFails old new

-- whatever the rows: a read leaves everything as it was, or the store failed and the transaction is rolled
-- back
abbrev pub ReadKept : {X : Type 0} → State → State → Result X Error → Type 0
ReadKept old new (Ok x) = IsUnchanged old new
ReadKept old new (Err e) = Fails old new ⊥ e ⊎ IsUnchanged old new

-- of several statements: the transaction goes on, and at an error nothing was committed
abbrev pub WritesKept : {X E : Type 0} → State → State → Result X E → Type 0
WritesKept old new (Ok x) = StateShows old new new.now old.committed true
WritesKept old new (Err e) = KeepsCommit old new

-- why a table can't be made: the store failed, and the transaction is rolled back; or it is refused, and
-- nothing has changed
abbrev pub MakeFails : State → State → List ℕ → Table → Error → Type 0
MakeFails old new text t e = Fails old new ⊥ e ⊎ (NotMade old.now.schema text t e × IsUnchanged old new)

-- the table was made, in a sound database, and no row is counted; or why it can't be made
abbrev pub MakesTold : State → State → List ℕ → Table → Result ℕ Error → Type 0
MakesTold old new text t (Ok count) = AddsTable old.now new.now t × IsDatabase new.now × KeepsCounts old new ×
    (new.marks ≡ old.marks)
MakesTold old new text t (Err e) = MakeFails old new text t e

-- a table or a view has this name
abbrev pub IsThere : Schema → List ℕ → Type 0
IsThere schema name = (table_named schema name ≢ None) ⊎ (view_named schema name ≢ None)

-- under the schema the text is a statement
abbrev pub IsUnderstood : Schema → List ℕ → Type 0
IsUnderstood schema text = (c : Compiled) × (understood schema text ≡ Ok c)

-- what it compiled to is one plain statement with so many parameters, and returns nothing of a write
pub record IsOne (text : List ℕ) (count : ℕ) (c : Compiled) : Type 0 where
  pub bare : c.returning ≡ None
  pub timeless : c.formats ≡ []
  pub whole : length text ≤ c.tail
  pub given : count ≡ length c.names

-- whatever it compiles to is one
abbrev pub OnlyShows : List ℕ → ℕ → Result Compiled CompileError → Type 0
OnlyShows text count r = (c : Compiled) → r ≡ Ok c → IsOne text count c

-- the error says that the text isn't understood
abbrev pub is_text_refused : Error → Bool
is_text_refused (SqlInputError fault) = true
is_text_refused _ = false

-- the text is understood, or it isn't, or the store failed
abbrev pub TellsUnderstood : State → State → List ℕ → Result Bool Error → Type 0
TellsUnderstood old new text (Ok true) = IsUnderstood old.now.schema text × IsUnchanged old new
TellsUnderstood old new text (Ok false) =
    ((fault : CompileError) × (understood old.now.schema text ≡ Err fault)) × IsUnchanged old new
TellsUnderstood old new text (Err e) = Fails old new ⊥ e

-- accepted: a table or a view of the name is there; refused: a sound database doesn't have the table; every
-- other error is the store's
abbrev pub TellsProbe : State → State → Table → Result Bool Error → Type 0
TellsProbe old new table (Ok true) = IsThere old.now.schema table.name × IsUnchanged old new
TellsProbe old new table (Ok false) = (∥ IsDatabase old.now ∥₁ → ¬ Defines old.now.schema table)
    × IsUnchanged old new
TellsProbe old new table (Err e) = Fails old new ⊥ e
