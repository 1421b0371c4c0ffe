-- Expressions over one table, under any schema.
use Rattle.sql_meanings.specs.Names.{ℕ, [], Ok, None, true, Term, col, op2, Expr, out-Expr, Expr-F, Carried, nothing}
use Rattle.sql_meanings.specs.Names.{begin, finish, spend, chosen, Name, Context, column, compared, lower_to, node}
use Rattle.sql_meanings.specs.Names.{opened, passes, operation, both, wanted_truth, tests_truth, tests_alias, combine}
use Rattle.sql_meanings.proofs.Names.{suc, nat_lt}
use Rattle.sqlite_resolve.specs.declared.state.State.{State}
use Rattle.sqlite_ast.specs.declared.Binary.TheVariants as binary
use Rattle.sqlite_sql.specs.declared.ops.BinaryOp.TheVariants as by
use Rattle.sqlite_sql.specs.declared.ops.CompareOp.TheVariants as compare
use Rattle.std.specs.Prelude.{◌≡◌, ◌-◌}

-- between two expressions of a query with no subquery
abbrev pub st : ℕ → ℕ → Carried → State
st next budget carried = record {
  next = next;
  steps = [];
  aggregates = [];
  budget = budget;
  written = None;
  last = carried;
}

-- a parameter
pub lower_parameter : (cx : Context) (e : Expr) (n : ℕ) (d next budget : ℕ) (l : Carried)
    → out-Expr e ≡ Expr-F.Parameter n
    → nat_lt 1 budget ≡ true
    → lower_to (suc d) cx e (st next budget l) ≡ Ok (col 0 (n - 1), st next (budget - 1) nothing)
unfolding lower_to node spend begin opened finish passes
lower_parameter cx e n d next budget l is enough = rw (is, enough)

-- a column
pub lower_column : (cx : Context) (e : Expr) (wanted : Name) (t : Term) (c : Carried) (d next budget : ℕ)
    (l : Carried)
    → out-Expr e ≡ Expr-F.Column None wanted → nat_lt 1 budget ≡ true
    → column cx None wanted (st next (budget - 1) nothing) ≡ Ok (t, st next (budget - 1) c)
    → lower_to (suc d) cx e (st next budget l) ≡ Ok (t, st next (budget - 1) c)
unfolding lower_to node spend begin opened finish passes
lower_column cx e wanted t c d next budget l is enough found = rw (is, enough, found)

-- a test of two for equality
pub lower_equal : (cx : Context) (e a b : Expr) (x y : Term) (p q : Carried) (d next budget b1 b2 : ℕ)
    (l : Carried)
    → out-Expr e ≡ Expr-F.Binary binary.Eq a b → nat_lt 1 budget ≡ true
    → lower_to d cx a (st next (budget - 1) nothing) ≡ Ok (x, st next b1 p)
    → lower_to d cx b (st next b1 p) ≡ Ok (y, st next b2 q)
    → lower_to (suc d) cx e (st next budget l) ≡ Ok
    (compared cx (by.Compare compare.Eq (chosen p q)) x y, st next b2 nothing)
unfolding lower_to node spend begin opened finish passes operation both wanted_truth tests_truth tests_alias
    combine
lower_equal cx e a b x y p q d next budget b1 b2 l is enough left right = rw (is, enough, left, right)

-- two tests
pub lower_and : (cx : Context) (e a b : Expr) (x y : Term) (p q : Carried) (d next budget b1 b2 : ℕ)
    (l : Carried)
    → out-Expr e ≡ Expr-F.Binary binary.And a b → nat_lt 1 budget ≡ true
    → lower_to d cx a (st next (budget - 1) nothing) ≡ Ok (x, st next b1 p)
    → lower_to d cx b (st next b1 p) ≡ Ok (y, st next b2 q)
    → lower_to (suc d) cx e (st next budget l) ≡ Ok (op2 by.And x y, st next b2 nothing)
unfolding lower_to node spend begin opened finish passes operation both wanted_truth tests_truth tests_alias
    combine
lower_and cx e a b x y p q d next budget b1 b2 l is enough left right = rw (is, enough, left, right)
