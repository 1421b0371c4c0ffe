-- What is told of the rows that are to come of a bank that was lent is told of all rows of the bank.
use Rattle.std.proofs.Common.{ℕ, ℤ, Bool, Option, None, List, map, Result, Ok, sym, subst, ◌∙◌}
use Rattle.std.specs.Borrow.{GName}
use Rattle.std.specs.Prelude.{◌≡◌, IfOk}
use Rattle.std.proofs.lemmas.Result.{IfOk-weaker}
use Rattle.sqlite.specs.Effect.{Database}
use Rattle.sqlite_trees.specs.declared.store.Store.{Ghosts}
use Rattle.posting_rules.specs.declared.fault.{Fault.Fault, Rule.Rule}
use Rattle.report_contents.specs.Beside.{AuditRows}
use Rattle.bank_store.specs.{believed.Seen.database_of, declared.bank.Bank.Bank}
use Rattle.bank_store.specs.{declared.walks.Walk.Walk, Walking.BeginsWalk, Walking.items_to_come, Walking.lent}
use Rattle.walked_rows.specs.Broken.{HasBroken}
use Rattle.bank_reports.specs.{Adding.AddsToSums, declared.sums.Sums.Sums}
use Rattle.bank_reports.specs.Leaving.{ReadsRows, ReadsTable, as_report}
use Rattle.bank_reports.proofs.BankReads.{reads_among, reads_lent}

-- the bank as it was before, and the walk that it was lent to
module _ {S R X : Type 0} {g : Ghosts S} {key : X → ℤ} {item : R → X} {is_given : Option ℕ → X → Bool}
    {HasItems : Database → List X → Type 0} {name : GName} {old : Bank S g} {walk : Walk S R g}
    (begins : BeginsWalk g key item is_given HasItems None name old (Ok walk))
    (r : Result (Unit {0}) Fault) where
  abbrev to_come : List X → List X
  to_come all = items_to_come key item is_given all walk

  there : (all : List X) → HasItems (database_of g old) all → HasItems (database_of g (lent walk)) all
  there all = subst (λ bank. HasItems (database_of g bank) all) (sym begins.same)

  -- at the end of the loan and after it
  pub table_read : (Breaks : Rule → X → Type 0) {last new : Bank S g}
      → ReadsRows g HasItems (λ all rule. HasBroken (Breaks rule) (to_come all)) ⊥ (lent walk) last (as_report r)
      → last ≡ new → ReadsTable g HasItems Breaks old new (as_report r)
  table_read Breaks reads ended = reads_among (reads_lent begins.same reads ended) _ _
      (λ all has. (all, has, λ rule h. subst (λ xs. HasBroken (Breaks rule) xs) (begins.all all has) h))

  pub added_of_all : (with_rows : AuditRows → List R → AuditRows) (from to : Sums) {Clean Later : Type 0}
      → IfOk r (λ _. (given : List R) × AddsToSums with_rows from to given
      × (Clean → (all : List X) → HasItems (database_of g (lent walk)) all
      → map item given ≡ to_come all))
      → (Later → Clean)
      → IfOk r (λ _. (given : List R) × AddsToSums with_rows from to given
      × (Later → (all : List X) → HasItems (database_of g old) all → map item given ≡ all))
  added_of_all with_rows from to added before =
      IfOk-weaker r _ _ (λ done it. (
        it.0,
        it.1,
        λ late all has. it.2 (before late) all (there all has)
            ∙ begins.all all has,
      ))
      added
