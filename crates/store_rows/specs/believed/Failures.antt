-- A call of `sqlite` that failed, and the error with which it did.
use Rattle.std.specs.Prelude.{◌≡◌, ◌≢◌, ◌⊎◌, ℕ, ℤ, List, [], ◌∷◌, nat_eq, true, false}
use Rattle.std.specs.Prelude.{Ok, Err}
use Rattle.sqlite.specs.Order.{Row}
use Rattle.sqlite.specs.State.{State, ExecutesInside, QueriesRowInside}
use Rattle.sqlite.specs.State.{Fails}
use Rattle.sqlite.specs.declared.error.Error.{Error}
use Rattle.sqlite.specs.declared.error.Error.TheVariants.{QueryReturnedNoRows}
use Rattle.sqlite.specs.declared.types.Value.TheVariants.{Int}
use Rattle.sqlite_rules.specs.Lists.{Has}
use Rattle.posting_rules.specs.declared.fault.Rule.{Rule}
use Rattle.posting_rules.specs.declared.fault.Rule.TheVariants.{Account, Key, Meta, Teller}
use Rattle.sql_meanings.specs.believed.StatementAnswers.{is_taken_key}
use Rattle.store_rows.specs.declared.texts.TheConstants.{ACCOUNTS_FROM, ADD_ACCOUNT, ADD_BRANCH}
use Rattle.store_rows.specs.declared.texts.TheConstants.{ADD_EIGHT_POSTINGS, ADD_EIGHT_REQUESTS, ADD_FLOOR}
use Rattle.store_rows.specs.declared.texts.TheConstants.{ADD_HISTORY, ADD_REFERENCE, ADD_REQUEST, ADD_TELLER}
use Rattle.store_rows.specs.declared.texts.TheConstants.{BRANCHES_FROM, FLOORS_FROM, GET_ACCOUNT, GET_BRANCH}
use Rattle.store_rows.specs.declared.texts.TheConstants.{GET_FLOOR, GET_META, GET_REFERENCE, GET_REQUEST}
use Rattle.store_rows.specs.declared.texts.TheConstants.{GET_TELLER, MAKE_ACCOUNT, MAKE_BRANCH, MAKE_FLOOR}
use Rattle.store_rows.specs.declared.texts.TheConstants.{MAKE_HISTORY, MAKE_META, MAKE_REFERENCE, MAKE_REQUEST}
use Rattle.store_rows.specs.declared.texts.TheConstants.{MAKE_TELLER, METAS_FROM, NEXT_BRANCH, NEXT_POSTING}
use Rattle.store_rows.specs.declared.texts.TheConstants.{NEXT_REFERENCE, NEXT_REQUEST, POSTINGS_FROM}
use Rattle.store_rows.specs.declared.texts.TheConstants.{POSTINGS_OF, REFERENCES_FROM, REFERENCE_UNDER}
use Rattle.store_rows.specs.declared.texts.TheConstants.{REQUESTS_FROM, SET_ACCOUNT, SET_BRANCH, SET_META}
use Rattle.store_rows.specs.declared.texts.TheConstants.{ADD_CLOSING, CLOSINGS_FROM, GET_CLOSING, MAKE_CLOSING, NEXT_CLOSING}
use Rattle.store_rows.specs.declared.texts.TheConstants.{SET_TELLER, SET_VERSION, TELLERS_FROM}

-- the texts by which calls ask
abbrev pub queries : List (List ℕ)
queries =
    GET_META.now ∷ GET_BRANCH.now ∷ NEXT_BRANCH.now ∷ GET_TELLER.now ∷ GET_ACCOUNT.now ∷ GET_FLOOR.now
    ∷ GET_REQUEST.now ∷ GET_REFERENCE.now ∷ BRANCHES_FROM.now ∷ TELLERS_FROM.now ∷ ACCOUNTS_FROM.now
    ∷ POSTINGS_FROM.now ∷ POSTINGS_OF.now ∷ REQUESTS_FROM.now ∷ METAS_FROM.now ∷ FLOORS_FROM.now
    ∷ REFERENCES_FROM.now ∷ REFERENCE_UNDER.now ∷ NEXT_REQUEST.now ∷ NEXT_POSTING.now ∷ NEXT_REFERENCE.now
    ∷ GET_CLOSING.now ∷ NEXT_CLOSING.now ∷ CLOSINGS_FROM.now ∷ []

-- those by which they make a table, or change a row
abbrev pub changes : List (List ℕ)
changes =
    MAKE_META.now ∷ MAKE_BRANCH.now ∷ MAKE_TELLER.now ∷ MAKE_ACCOUNT.now ∷ MAKE_HISTORY.now ∷ MAKE_REQUEST.now
    ∷ MAKE_FLOOR.now ∷ MAKE_REFERENCE.now ∷ MAKE_CLOSING.now ∷ SET_META.now ∷ SET_VERSION.now ∷ SET_BRANCH.now ∷ SET_TELLER.now
    ∷ SET_ACCOUNT.now ∷ []

-- those by which they put rows in
abbrev pub inserts : List (List ℕ)
inserts =
    ADD_BRANCH.now ∷ ADD_TELLER.now ∷ ADD_ACCOUNT.now ∷ ADD_FLOOR.now ∷ ADD_HISTORY.now ∷ ADD_REQUEST.now
    ∷ ADD_REFERENCE.now ∷ ADD_EIGHT_POSTINGS.now ∷ ADD_EIGHT_REQUESTS.now
    ∷ ADD_CLOSING.now ∷ []

-- the call of `sqlite` that led from one state to the other answered this error; what it ran is a text of ours
pub data HasFailed (old new : State) (e : Error) : Type 0 where
  -- a query failed: that it finds no row is no failure
  Asking : (text : List ℕ) (params : Row) → Has queries text → QueriesRowInside text params old new (Err e)
      → e ≢ QueryReturnedNoRows → HasFailed old new e
  -- a row couldn't be changed, or a table not made
  Changing : (text : List ℕ) (params : Row) → Has changes text → ExecutesInside 0 text params old new (Err e)
      → HasFailed old new e
  -- a row couldn't be put in: that its key is taken is no failure
  Putting : (text : List ℕ) (params : Row) → Has inserts text → ExecutesInside 0 text params old new (Err e)
      → is_taken_key e ≡ false → HasFailed old new e
  -- the store failed, as it was to commit or was asked what it has: that no transaction goes on is no failure
  Committing : Fails old new ⊥ e → HasFailed old new e

-- ---- damage that a statement meets as it writes

-- rows that a call puts in, or changes: by which text, with which values
abbrev pub Additions : Type 1
Additions = List ℕ → Row → Type 0

-- by this text, which is one of them, a row was to be put in under a key, which is taken; or eight, of which one has
-- a key that is taken
abbrev pub TakesKey : List ℕ → Row → State → State → Type 0
TakesKey text values old new = (key : ℤ) × (rest : Row) × (e : Error) × Has inserts text
    × (values ≡ Int key ∷ rest)
    × ExecutesInside 0 text values old new (Err e) × (is_taken_key e ≡ true)

-- with these values the text was to change one row, and did not
abbrev pub MeetsNone : List ℕ → Row → State → State → Type 0
MeetsNone text values old new = (count : ℕ) × ExecutesInside 0 text values old new (Ok count)
    × (nat_eq count 1 ≡ false)

-- the text changes a row that the rule wants
abbrev pub IsUpdateOf : Rule → List ℕ → Type 0
IsUpdateOf Meta text = text ≡ SET_META.now
IsUpdateOf Teller text = (text ≡ SET_TELLER.now) ⊎ (text ≡ SET_BRANCH.now)
IsUpdateOf Account text = text ≡ SET_ACCOUNT.now
IsUpdateOf _ text = ⊥

-- the statement that led from one state to the other met that the rule is broken: a key of such rows is taken, or
-- such a row isn't there
abbrev pub HasMet : Additions → State → State → Rule → Type 0
HasMet Adds old new Key = (text : List ℕ) × (values : Row) × Adds text values × TakesKey text values old new
HasMet Adds old new rule = (text : List ℕ) × (values : Row) × Adds text values × IsUpdateOf rule text
    × MeetsNone text values old new
