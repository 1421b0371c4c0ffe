-- The lemmas of other crates that this crate's proofs use, by the module that has them; and one of its own.
use Rattle.std.specs.Prelude.{◌≡◌, Result, Ok}
pub use Rattle.sqlite.proofs.Callers.{IsPlain, command_of, one_step, runs_as, through}
pub use Rattle.sqlite_rules.proofs.ListLemmas.{all_has, has_either, has_left, has_right}
pub use Rattle.sqlite_sql.proofs.QueryLemmas.{no_fold_overflows}
pub use Rattle.sqlite_trees.proofs.ListLemmas.{map-map}
pub use Rattle.sqlite_value.proofs.OrderLemmas.{value_cmp-Int}
pub use Rattle.std.proofs.Common.{Equal, Greater, IsPermutation, Less, Ordering, ap, append-nil, arith, drop, get_or}
pub use Rattle.std.proofs.Common.{inl, inr, int_cmp, length-append, nat_le, nat_lt, refl, subst, suc, sym, take, zero}
pub use Rattle.std.proofs.Common.{◌∙◌}
pub use Rattle.std.proofs.Math.Logic.{∥∥₁_elim}
pub use Rattle.std.proofs.Math.Bool.{and-true}
pub use Rattle.std.proofs.lemmas.Bool.{and_parts, and_right, cases_Bool, eqb-true, not-false, not-true, or_parts}
pub use Rattle.std.proofs.lemmas.Cmp.{tied_itself}
pub use Rattle.std.proofs.lemmas.Int.{ints}
pub use Rattle.std.proofs.lemmas.List.{length-map, nil_from_length}
pub use Rattle.std.proofs.lemmas.List.Sorted.{length_permutation}

pub same_value : {B E : Type 0} {a b : B} → ◌≡◌ {A = Result B E} (Ok a) (Ok b) → a ≡ b
same_value e = cc
