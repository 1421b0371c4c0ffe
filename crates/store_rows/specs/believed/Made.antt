-- What statements that write make of a database, be the tables that they name a bank's or not.
use Rattle.std.specs.Prelude.{◌≡◌, ℕ, List, [], ◌∷◌, Option, Ok, false}
use Rattle.std.specs.List.{AllByRecursion}
use Rattle.sqlite.specs.Clock.{timed}
use Rattle.sqlite.specs.Does.{Does, Tally}
use Rattle.sqlite.specs.Effect.{Database}
use Rattle.sqlite.specs.Listing.{understood}
use Rattle.sqlite.specs.Order.{Row}
use Rattle.sqlite.specs.State.{text_of}
use Rattle.sqlite_resolve.specs.declared.compiled.Compiled.{Compiled}
use Rattle.sqlite_schema.specs.declared.schema.Keys.TheVariants.{Enforced}
use Rattle.store_rows.specs.believed.Failures.{Additions}

-- run on the first database with these values, the text is a statement that makes the second of it
pub record Makes (text : List ℕ) (values : Row) (old new : Database) : Type 0 where
  pub statement : Compiled
  pub is : understood old.schema text ≡ Ok statement
  -- the time that it reads, how many steps its query may take, and what is counted of it
  pub time : ℕ
  pub limit : Option ℕ
  pub tally : Tally
  pub does : Does limit (record { keys = Enforced; in_doubt = false; may_wait = false })
      (timed values statement.formats time) old (text_of text statement) statement.returning statement.command
      (Ok (tally, new))

-- these, run one after another, do
abbrev pub MakeAll : List (List ℕ × Row) → Database → Database → Type 0
MakeAll [] old new = new ≡ old
MakeAll (s ∷ more) old new = (mid : Database) × Makes s.0 s.1 old mid × MakeAll more mid new

-- statements that were run one after another, each of which puts such rows in, or changes one, do
pub record WritesOnly (Adds : Additions) (old new : Database) : Type 0 where
  pub statements : List (List ℕ × Row)
  pub each : AllByRecursion (λ s. Adds s.0 s.1) statements
  pub make : MakeAll statements old new
