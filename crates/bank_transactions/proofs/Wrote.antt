-- Statements that were run one after another, and what they put in.
use Rattle.std.proofs.Common.{◌≡◌, ◌++◌, ℕ, List, [], ◌∷◌, Ok, Err, Result, refl, subst}
use Rattle.sqlite.specs.{Effect.Database, Order.Row, State.State}
use Rattle.sqlite_trees.proofs.ListLemmas.{all-append, all_weaker}
use Rattle.store_rows.specs.believed.{Failures.Additions, Made.MakeAll, Made.Makes, Made.WritesOnly}
use Rattle.store_rows.specs.{Sparing.MakesIfOk, declared.fault.TableFault.TableFault}
use Rattle.bank_transactions.specs.Doing.{WritesIfOk}

-- nothing was run
pub writes_none : (Adds : Additions) (db : Database) → WritesOnly Adds db db
writes_none Adds db = record { statements = []; each = tt; make = refl }

-- nothing was written
unfoldable pub writes_same : (Adds : Additions) (old new : Database) → new ≡ old → WritesOnly Adds old new
writes_same Adds old new same = record { statements = []; each = tt; make = same }

-- one was
unfoldable pub writes_one : (Adds : Additions) (text : List ℕ) (values : Row) → Adds text values → (old new : Database)
    → Makes text values old new → WritesOnly Adds old new
writes_one Adds text values own old new makes =
    record { statements = (text, values) ∷ []; each = (own, tt); make = (new, makes, refl) }

pub make_then : (some more : List (List ℕ × Row)) (old mid new : Database) → MakeAll some old mid → MakeAll more mid new
    → MakeAll (some ++ more) old new
make_then [] more old mid new one two = subst (λ (db : Database). MakeAll more db new) one two
make_then (s ∷ some) more old mid new one two =
    (one.0, one.1, make_then some more one.0 mid new one.2 two)

-- some were, and then more
unfoldable pub writes_then : (Adds : Additions) (old mid new : Database) → WritesOnly Adds old mid → WritesOnly Adds mid new
    → WritesOnly Adds old new
writes_then Adds old mid new one two = record {
  statements = one.statements ++ two.statements;
  each = all-append (λ s. Adds s.0 s.1) one.statements two.statements one.each two.each;
  make = make_then one.statements two.statements old mid new one.make two.make;
}

-- they put in no other rows than these
unfoldable pub writes_also : {Adds Adds' : Additions} {old new : Database}
    → ((text : List ℕ) (values : Row) → Adds text values → Adds' text values) → WritesOnly Adds old new
    → WritesOnly Adds' old new
writes_also {Adds} {Adds'} also it = record {
  statements = it.statements;
  each = all_weaker (λ s. Adds s.0 s.1) (λ s. Adds' s.0 s.1) (λ s. also s.0 s.1) it.statements it.each;
  make = it.make;
}

-- what was run is all that was
pub writes_made : {X : Type 0} (Adds : Additions) (text : List ℕ) (values : Row) (old new : State)
    (r : Result X TableFault) → Adds text values → MakesIfOk text values old new r → WritesIfOk Adds old new r
writes_made Adds text values old new (Ok x) own makes = writes_one Adds text values own old.now new.now makes
writes_made Adds text values old new (Err e) own makes = tt
