-- The names of other crates that this crate's definitions and proofs use, by the module that has them.
pub use Rattle.sqlite.specs.Change.{automatics, created, is_used, next_tree}
pub use Rattle.sqlite.specs.Collation.TheVariants.{Binary}
pub use Rattle.sqlite.specs.Command.{Command}
pub use Rattle.sqlite.specs.Command.TheVariants.{CreateTable, Insert, Update}
pub use Rattle.sqlite.specs.Compile.{table_defined_by}
pub use Rattle.sqlite.specs.Does.{Concludes, Does, MakesSequence, MakesTable, Returns, Tally, Tested, lacks_sequence}
pub use Rattle.sqlite.specs.Does.{no_rows, sequence_text}
pub use Rattle.sqlite.specs.Edit.{Edit, edit_of, edited}
pub use Rattle.sqlite.specs.Effect.{Answers, Database, IsDatabase, edit_error, value_rows}
pub use Rattle.sqlite.specs.Held.{state}
pub use Rattle.sqlite.specs.Listing.{if_select, is_select, listing_schema, reads_listing}
unfoldable pub use Rattle.sqlite.specs.Listing.{understood}
pub use Rattle.sqlite.specs.Order.{Row}
pub use Rattle.sqlite.specs.Program.{overlay}
pub use Rattle.sqlite.specs.Query.{IsAnswerAs, IsSureAnswer, Join, Query, end, has_no_fold, inner, matches_as, output}
pub use Rattle.sqlite.specs.Query.{page}
pub use Rattle.sqlite.specs.Rowids.TheVariants.{Chosen, Given}
pub use Rattle.sqlite.specs.Rows.{Counts, Edited, Gives, Part, Task, Then, Written, count_of, sequence, stamped}
pub use Rattle.sqlite.specs.Schema.{Schema}
pub use Rattle.sqlite.specs.Source.TheVariants.{Values}
pub use Rattle.sqlite.specs.State.{Executes, ExecutesInside, Fails, HasCause, HasCleanDisk, IsNoStatement}
pub use Rattle.sqlite.specs.State.{IsRolledBack, IsUnchanged, KeepsCommit, KeepsCounts, QueriesRowInside, State}
pub use Rattle.sqlite.specs.State.{Survives, mode_of, shows_rows, store_error, text_of}
unfoldable pub use Rattle.sqlite.specs.State.{ExecutesIn, FailsToQuery, IsNotRun, QueriesRow}
pub use Rattle.sqlite.specs.Table.{Table}
pub use Rattle.sqlite.specs.Term.{Env, Term, col, eval_all, holds, lit, op2}
pub use Rattle.sqlite.specs.Tree.{IsAscending, Trees, put_row, without_rowid}
pub use Rattle.sqlite.specs.declared.error.Error.{Error}
pub use Rattle.sqlite.specs.declared.error.Error.TheVariants.{QueryReturnedNoRows, SqlInputError, SqliteFailure}
pub use Rattle.sqlite.specs.declared.error.ErrorCode.TheVariants.{SchemaTooBig}
pub use Rattle.sqlite.specs.declared.run.Mode.{Mode}
pub use Rattle.sqlite.specs.declared.transaction.Transaction.{Transaction}
pub use Rattle.sqlite.specs.declared.types.Value.{Value}
pub use Rattle.sqlite.specs.declared.types.Value.TheVariants.{Int, Null, Text}
pub use Rattle.sqlite_ast.specs.declared.Core.{Core, out-Core}
pub use Rattle.sqlite_ast.specs.declared.Expr.{Expr, out-Expr}
pub use Rattle.sqlite_ast.specs.declared.Expr.TheOpen.{Expr-F}
pub use Rattle.sqlite_ast.specs.declared.Rows.{Rows}
pub use Rattle.sqlite_ast.specs.declared.Shown.{Shown, out-Shown}
pub use Rattle.sqlite_ast.specs.declared.Sort.{Sort, out-Sort}
pub use Rattle.sqlite_ast.specs.declared.Source.{out-Source}
pub use Rattle.sqlite_catalog.specs.Calls.{IsBadName}
pub use Rattle.sqlite_catalog.specs.Listing.{IsSound, is_fit, is_formed}
pub use Rattle.sqlite_draft.specs.declared.join.Step.TheVariants.{Inner}
pub use Rattle.sqlite_draft.specs.declared.query.Draft.{Draft}
unfoldable pub use Rattle.sqlite_resolve.specs.Body.{body, bound, bounds, outputs, table_in, tests}
unfoldable pub use Rattle.sqlite_resolve.specs.Compare.{affinity_of, compared, converted, may_be_text}
pub use Rattle.sqlite_resolve.specs.Compile.{first, formats_of, is_reserved, new_rows, small, with_command}
unfoldable pub use Rattle.sqlite_resolve.specs.Compile.{command, compiled, create_table, creates, insert}
unfoldable pub use Rattle.sqlite_resolve.specs.Compile.{insert_or_abort, is_attached, meaning, planned, read}
unfoldable pub use Rattle.sqlite_resolve.specs.Compile.{returning, shows, timed, update}
pub use Rattle.sqlite_resolve.specs.Expr.{lower}
unfoldable pub use Rattle.sqlite_resolve.specs.Expr.{both, combine, lower_to, node, opened, operation, passes}
unfoldable pub use Rattle.sqlite_resolve.specs.Expr.{tests_alias, tests_truth, wanted_truth}
pub use Rattle.sqlite_resolve.specs.Literal.{integer}
pub use Rattle.sqlite_resolve.specs.Lowering.{Checked, and_then, chosen, nothing}
unfoldable pub use Rattle.sqlite_resolve.specs.Lowering.{alone, begin, finish, spend, take_slot}
unfoldable pub use Rattle.sqlite_resolve.specs.Order.{sorts}
pub use Rattle.sqlite_resolve.specs.Program.{program}
unfoldable pub use Rattle.sqlite_resolve.specs.Program.{level, query, query_to, single, source, sources, viewing}
unfoldable pub use Rattle.sqlite_resolve.specs.Program.{whole, with}
pub use Rattle.sqlite_resolve.specs.Scope.{Context, Name, alias_of, declared}
unfoldable pub use Rattle.sqlite_resolve.specs.Scope.{column}
pub use Rattle.sqlite_resolve.specs.Select.{ungrouped}
unfoldable pub use Rattle.sqlite_resolve.specs.Select.{constant_or, named, paging, parts}
pub use Rattle.sqlite_resolve.specs.Terms.{conjuncts, number}
pub use Rattle.sqlite_resolve.specs.declared.compiled.Compiled.{Compiled}
pub use Rattle.sqlite_resolve.specs.declared.error.CompileError.{CompileError}
pub use Rattle.sqlite_resolve.specs.declared.error.CompileError.TheVariants.{NoSuchTable}
pub use Rattle.sqlite_resolve.specs.declared.scope.Output.{Output}
pub use Rattle.sqlite_resolve.specs.declared.state.Carried.{Carried}
pub use Rattle.sqlite_rules.specs.Action.{Leads, Writes, deed_for, pairs, work_by, work_for, works}
pub use Rattle.sqlite_rules.specs.Calls.{ids_of}
pub use Rattle.sqlite_rules.specs.Cast.{cast_row}
pub use Rattle.sqlite_rules.specs.Edit.{are_fresh, is_referred, is_taken, left_by, put_all, taken_by}
pub use Rattle.sqlite_rules.specs.Lists.{Has}
pub use Rattle.sqlite_rules.specs.declared.action.Deed.{Deed}
pub use Rattle.sqlite_rules.specs.declared.error.Refusal.{Refusal}
pub use Rattle.sqlite_rules.specs.declared.error.Refusal.TheVariants.{Violates}
pub use Rattle.sqlite_schema.specs.Names.{column_named, index_named, place_of, same_name, table_named, view_named}
pub use Rattle.sqlite_schema.specs.Rules.{ParentKey, Refers, clashes, index_reals, kind_code, parent_key}
pub use Rattle.sqlite_schema.specs.Rules.{passes_checks, table_reals}
pub use Rattle.sqlite_schema.specs.declared.command.Command.TheVariants.{Select}
pub use Rattle.sqlite_schema.specs.declared.program.Program.{Program}
pub use Rattle.sqlite_schema.specs.declared.schema.Among.TheVariants.{All}
pub use Rattle.sqlite_schema.specs.declared.schema.Column.{Column}
pub use Rattle.sqlite_schema.specs.declared.schema.Constraint.TheVariants.{ForeignKey, PrimaryKey, Unique}
pub use Rattle.sqlite_schema.specs.declared.schema.Index.{Index}
pub use Rattle.sqlite_schema.specs.declared.schema.Keys.{Keys}
pub use Rattle.sqlite_schema.specs.declared.schema.Keys.TheVariants.{Enforced}
pub use Rattle.sqlite_schema.specs.declared.schema.Reference.{Reference}
pub use Rattle.sqlite_sql.specs.Catalog.{entry_of}
pub use Rattle.sqlite_sql.specs.Ops.{fits_i64, from_truth, is_true}
unfoldable pub use Rattle.sqlite_sql.specs.Ops.{binary}
pub use Rattle.sqlite_sql.specs.declared.ops.BinaryOp.TheVariants.{Compare}
pub use Rattle.sqlite_sql.specs.declared.ops.CompareOp.TheVariants.{Eq, Ge, Gt}
pub use Rattle.sqlite_syntax.specs.declared.statement.Parsed.{Parsed}
pub use Rattle.sqlite_trees.specs.Props.{AllByRecursion-prop}
pub use Rattle.sqlite_trees.specs.View.{IsStorable, IsStorableRow}
pub use Rattle.sqlite_trees.specs.declared.error.StoreError.{StoreError}
pub use Rattle.sqlite_trees.specs.declared.error.StoreError.TheVariants.{Broken, Corrupt, Full, Io, OutOfMemory}
pub use Rattle.sqlite_trees.specs.declared.error.StoreError.TheVariants.{Unstorable}
pub use Rattle.sqlite_trees.specs.declared.store.Store.{Ghosts}
pub use Rattle.sqlite_typing.specs.Types.{accepts_program, accepts_terms}
pub use Rattle.sqlite_value.specs.Keys.{plain}
pub use Rattle.sqlite_value.specs.declared.keys.Collation.{Collation}
pub use Rattle.sqlite_value.specs.declared.keys.Key.{Key}
pub use Rattle.std.specs.List.{AllByRecursion, filter_map, flat_map, list_all, list_any, position_from}
pub use Rattle.std.specs.Ordering.{int_eq, is_eq, is_ge, is_gt, match_ordering}
pub use Rattle.std.specs.Prelude.{Bool, Err, IsSome, IsTrue, IsUtf8, List, None, Ok, Option, Result, Some, [], codes}
pub use Rattle.std.specs.Prelude.{cond, false, filter, find, is_some, length, map, negsuc, not}
pub use Rattle.std.specs.Prelude.{option_and_then, option_map, pos, slice_get, slice_range, true, unwrap_or, ℕ, ℤ, ⊤}
pub use Rattle.std.specs.Str.{bytes_eq}
