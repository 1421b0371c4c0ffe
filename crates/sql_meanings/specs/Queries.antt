-- The queries that the texts mean, over one table in any tree.
use Rattle.sql_meanings.specs.Names.{ℕ, List, [], pos, negsuc, None, false, Int, Term, lit, col, op2, Query}
use Rattle.sql_meanings.specs.Names.{Join, inner, end, Binary, Compare, Eq, Gt, Key}
use Rattle.std.specs.Prelude.{◌∷◌}

-- the two are equal
abbrev pub is : Term → Term → Term
is a b = op2 (Compare Eq Binary) a b

-- the first is above the second
abbrev pub above : Term → Term → Term
above a b = op2 (Compare Gt Binary) a b

-- no limit of rows
abbrev pub no_limit : Term
no_limit = lit (Int (negsuc 0))

-- these terms of the rows that pass each test, in this order, at most so many
abbrev pub query : Join → List Term → List Term → List (Term × Key) → Term → Query
query from filter project order most = record {
  from = from;
  filter = filter;
  group = None;
  project = project;
  distinct = false;
  collations = [];
  order = order;
  limit = most;
  offset = lit (Int (pos 0));
}

-- by rising keys
abbrev pub ascending : List (Term × Key)
ascending = (col 1 0, record { collation = Binary; descending = false }) ∷ []

-- the key is the first parameter
abbrev pub key_is : List Term
key_is = is (col 1 0) (col 0 0) ∷ []

-- two columns are the first two parameters
abbrev pub two_are : ℕ → ℕ → List Term
two_are one two = is (col 1 one) (col 0 0) ∷ is (col 1 two) (col 0 1) ∷ []

-- the key is above the first parameter
abbrev pub key_above : List Term
key_above = above (col 1 0) (col 0 0) ∷ []

-- the row under the key
abbrev pub by_key : ℕ → List Term → Query
by_key tree project = query (inner tree end) key_is project [] no_limit

-- the rows with these two numbers in two columns
abbrev pub by_two : ℕ → ℕ → ℕ → List Term → Query
by_two one two tree project = query (inner tree end) (two_are one two) project [] no_limit

-- the row with the least key above the parameter
abbrev pub next_above : ℕ → List Term → Query
next_above tree project = query (inner tree end) key_above project ascending (lit (Int (pos 1)))
