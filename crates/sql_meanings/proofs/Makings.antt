-- A CREATE TABLE inside a transaction, done: the table is there and empty, and what stood stands on.
use Rattle.sql_meanings.specs.Names.{ℕ, List, [], None, Ok, Err, Result, false, unwrap_or, Table, Row, CreateTable}
use Rattle.sql_meanings.specs.Names.{Database, IsDatabase, understood, Does, MakesSequence, MakesTable, Tally}
use Rattle.sql_meanings.specs.Names.{no_rows, Gives, Then, State, ExecutesIn, Executes, ExecutesInside}
use Rattle.sql_meanings.specs.Names.{KeepsCounts, mode_of, Error}
use Rattle.sql_meanings.proofs.Names.{inl, inr, refl, sym, ap, subst, ◌∙◌, IsPlain, command_of, runs_as, through}
use Rattle.sqlite.proofs.Callers.{statement_of}
use Rattle.sql_meanings.specs.{believed.Entries.IsTree, believed.Making.Stands, StatementAnswers.WriteKept}
use Rattle.sql_meanings.specs.believed.Tables.{Holds, placed_at, tree_of, width_of}
use Rattle.sql_meanings.specs.Making.{AddsTable, CreatesOnly}
use Rattle.sql_meanings.proofs.{Defining.stands_defined, TableStands.adds, Names.same_value}
use Rattle.std.specs.Prelude.{◌≡◌}
pub use Rattle.sqlite.proofs.InsideLemmas.{unchanged_keeps as keeps_commit}

-- whatever is executed inside
pub kept_inside : (old new : State) (text : List ℕ) (params : Row) (r : Result ℕ Error)
    → ExecutesInside 0 text params old new r
    → WriteKept old new r
kept_inside old new text params (Ok count) h = h.1
kept_inside old new text params (Err e) (inl h) = h.1
kept_inside old new text params (Err e) (inr h) = inl h.2

-- a failure commits nothing
-- a command that makes a table counts no rows
counts_none : (old : State) (after : Database) (text : List ℕ) (tally : Tally)
    → Does old.step_limit (mode_of old) [] old.now text None CreateTable (Ok (tally, after))
    → tally ≡ no_rows false
counts_none old after text tally h =
    let all = through (Then (MakesTable text old.now) MakesSequence)
    (λ (db : Database). Gives (no_rows false, db)) (tally, after) h in
    ap (λ (p : Tally × Database). p.0) (same_value all.2)

-- a CREATE TABLE that is done
pub made_by : (old new : State) (text : List ℕ) (t : Table) (count : ℕ) → CreatesOnly text t
    → Executes text [] old new (Ok count)
    → AddsTable old.now new.now t × IsDatabase new.now × KeepsCounts old new × (new.marks ≡ old.marks)
unfolding ExecutesIn
made_by old new text t count creates h =
    let schema = old.now.schema in
    let is = h.1.is in
    let facts = creates.command schema h.0 is in
    let w = runs_as text [] old new schema refl CreateTable (ap command_of is
    ∙ facts.command) (subst IsPlain (sym is) (facts.bare, facts.timeless)) count h in
    let whole : statement_of text (understood schema text) ≡ text = ap (statement_of text) is
    ∙ facts.text_is in
    let does : Does old.step_limit (mode_of old) [] old.now text None CreateTable (Ok (w.tally, new.now)) =
    subst (λ sql. Does old.step_limit (mode_of old) [] old.now sql None CreateTable (Ok (w.tally, new.now)))
    whole w.changed in
    let none = counts_none old new.now text w.tally does in (
      adds old.step_limit (mode_of old) [] old.now new.now text w.tally t creates.makeable.defined
          creates.free does,
      w.sound,
      record {
        changes = w.changes ∙ ap (λ (it : Tally). unwrap_or it.rows old.changes) none;
        last_rowid = w.last_rowid ∙ ap (λ (it : Tally). unwrap_or it.last old.last_rowid) none;
      },
      w.marks,
    )

-- an empty table that stands holds no rows
pub holds_none : (db : Database) (t : Table) (tree : ℕ) → IsDatabase db → Stands db.schema (placed_at t tree)
    → db.trees tree ≡ []
    → Holds db t [] × (tree_of db.schema t.name ≡ tree)
holds_none db t tree sound stands empty =
    let d = stands_defined db.schema db.trees (placed_at t tree) sound stands in (
      record {
        defined = record { found = d.1.found; apart = d.1.apart };
        rows = subst (λ n. IsTree (width_of t) (db.trees n) []) (sym d.0)
            (record { are = empty; rise = tt; wide = tt });
      },
      d.0,
    )
