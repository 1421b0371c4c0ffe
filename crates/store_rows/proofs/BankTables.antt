-- That a schema has the tables of a bank has one proof at most, and which files have them.
use Rattle.std.proofs.Common.{◌+◌, ℕ, zero, suc, List, [], ◌∷◌, map, take, refl, arith}
use Rattle.std.proofs.Common.{◌≡◌, ◌∙◌, ℤ, ap}
use Rattle.std.specs.Prelude.{filter}
use Rattle.sqlite.specs.{Effect.Database, Effect.IsDatabase, Schema.Schema, Table.Table, Tree.has_rowid}
use Rattle.sql_meanings.specs.Names.{AllByRecursion-prop}
use Rattle.posting_rules.specs.believed.Tables.{Tables}
use Rattle.posting_rules.specs.declared.open_fault.BankTable.{BankTable}
use Rattle.sql_meanings.specs.believed.{Contents.HoldsEach, Entries.Entry, Tables.Defines}
use Rattle.sql_meanings.specs.Under.{rows_under}
use Rattle.sql_meanings.proofs.Defining.{Defines-prop, defined_stands}
use Rattle.sql_meanings.proofs.TablesBeside.{is_stored}
use Rattle.store_rows.specs.Lying.{IsBankFile}
use Rattle.store_rows.specs.believed.{BankTables.HasBankTables, BankTables.bank_tables, View.Shows}
use Rattle.store_rows.specs.believed.BankTables as bank
use Rattle.store_rows.specs.{Definitions.AreMade, Definitions.made, Migration.IsEarlier, Migration.LackingAreMade}
use Rattle.store_rows.specs.{Probes.all_tables, View.contents}

pub HasBankTables-prop : (schema : Schema) → IsProp (HasBankTables schema)
HasBankTables-prop schema = AllByRecursion-prop (Defines schema) (Defines-prop schema) bank_tables

-- tables that are held are defined
pub made_each : (db : Database) (ts : List BankTable) (contents : List (List Entry))
    → HoldsEach db (map made ts) contents → AreMade db.schema ts
made_each db [] contents each = tt
made_each db (t ∷ ts) [] each = absurd each
made_each db (t ∷ ts) (es ∷ contents) each = (each.0.defined, made_each db ts contents each.1)

-- so where tables are shown, they are a bank's
pub shown_tables : (db : Database) (t : Tables) → Shows db t → HasBankTables db.schema
shown_tables db t shows = made_each db all_tables (contents t) shows.each

-- where those of an earlier version were, and those that it lacks are made
pub completed : (from : ℕ) (old new : Database) → IsEarlier from → AreMade old.schema (take (5 + from) all_tables)
    → LackingAreMade from old new → HasBankTables new.schema
completed zero old new earlier all made = absurd (omega (arith, earlier.0))
completed (suc zero) old new earlier all lacking =
    let d = lacking.defines in (
      d bank.meta refl all.0,
      (
        d bank.branch refl all.1.0,
        (
          d bank.teller refl all.1.1.0,
          (
            d bank.account refl all.1.1.1.0,
            (
              d bank.history refl all.1.1.1.1.0,
              (
                d bank.request refl all.1.1.1.1.1.0,
                (
                  lacking.empty.each.0.defined,
                  (lacking.empty.each.1.0.defined, (lacking.empty.each.1.1.0.defined, tt)),
                ),
              ),
            ),
          ),
        ),
      ),
    )
completed (suc (suc zero)) old new earlier all lacking =
    let d = lacking.defines in (
      d bank.meta refl all.0,
      (
        d bank.branch refl all.1.0,
        (
          d bank.teller refl all.1.1.0,
          (
            d bank.account refl all.1.1.1.0,
            (
              d bank.history refl all.1.1.1.1.0,
              (
                d bank.request refl all.1.1.1.1.1.0,
                (
                  d bank.floor refl all.1.1.1.1.1.1.0,
                  (lacking.empty.each.0.defined, (lacking.empty.each.1.0.defined, tt)),
                ),
              ),
            ),
          ),
        ),
      ),
    )
completed (suc (suc (suc zero))) old new earlier all lacking =
    let d = lacking.defines in (
      d bank.meta refl all.0,
      (
        d bank.branch refl all.1.0,
        (
          d bank.teller refl all.1.1.0,
          (
            d bank.account refl all.1.1.1.0,
            (
              d bank.history refl all.1.1.1.1.0,
              (
                d bank.request refl all.1.1.1.1.1.0,
                (
                  d bank.floor refl all.1.1.1.1.1.1.0,
                  (d bank.reference refl all.1.1.1.1.1.1.1.0, (lacking.empty.each.0.defined, tt)),
                ),
              ),
            ),
          ),
        ),
      ),
    )
completed (suc (suc (suc (suc n)))) old new earlier all made = absurd (omega (arith, earlier.1))

-- the rows of a table that was there lie as they lay
pub lie_still : (from : ℕ) (old new : Database) → LackingAreMade from old new → (t : Table) → t.references ≡ []
    → Defines old.schema t → (k : ℤ) → rows_under new t k ≡ rows_under old t k
lie_still from old new made t free defined k =
    ap (filter (has_rowid k)) (ap (λ n. new.trees n) (made.places t free defined)
    ∙ made.keeps.rows _ (defined_stands old.schema t free defined).listed)

-- a sound database with the tables of a bank is a bank's file
pub is_file : (db : Database) → ∥ IsDatabase db ∥₁ → HasBankTables db.schema → IsBankFile db
is_file db sound all = (
  is_stored db bank.meta refl sound all.0,
  (
    is_stored db bank.branch refl sound all.1.0,
    (
      is_stored db bank.teller refl sound all.1.1.0,
      (
        is_stored db bank.account refl sound all.1.1.1.0,
        (
          is_stored db bank.history refl sound all.1.1.1.1.0,
          (
            is_stored db bank.request refl sound all.1.1.1.1.1.0,
            (
              is_stored db bank.floor refl sound all.1.1.1.1.1.1.0,
              (
                is_stored db bank.reference refl sound all.1.1.1.1.1.1.1.0,
                (is_stored db bank.closing refl sound all.1.1.1.1.1.1.1.1.0, tt),
              ),
            ),
          ),
        ),
      ),
    ),
  ),
)
