-- The first row of meta is put in.
use Rattle.std.proofs.Common.{◌≡◌, ◌⊎◌, ◌≤◌, ◌∙◌, true, sym, subst, inl, inr, ℕ, [], ◌∷◌, lit≤, refl, Ok}
use Rattle.std.proofs.Common.{Err, Result}
use Rattle.std.specs.Prelude.{IsSome}
use Rattle.std.specs.Result.{IsErrAnd}
use Rattle.sqlite.specs.State.{State, ExecutesInside, KeepsCounts}
use Rattle.sqlite.specs.declared.transaction.Transaction.{Transaction}
use Rattle.sqlite_trees.specs.declared.store.Store.{Ghosts}
use Rattle.sqlite.specs.{declared.error.Error.Error, declared.error.Error.TheVariants.SqliteFailure, Effect.Database}
use Rattle.sqlite.specs.declared.error.ErrorCode.TheVariants.{ConstraintViolation}
use Rattle.sqlite_schema.specs.declared.schema.Constraint.TheVariants.{Unique}
use Rattle.sql_meanings.specs.believed.Tables.{Holds}
use Rattle.sql_meanings.specs.Calls.{Inside, Says}
use Rattle.sql_meanings.specs.StatementAnswers.{GoesOn, HasWideIndex, IsInterrupted, WriteKept, WritesKept}
use Rattle.sql_meanings.proofs.{Afterwards.fails_since, Contents.held, Failures.put_fails_as, Makings.keeps_commit}
use Rattle.sql_meanings.proofs.Saying.{says_then}
use Rattle.sql_meanings.proofs.{PutFailures.refuses_insert, PutRows.puts_row}
use Rattle.store_rows.specs.Creation.{AreEmpty, CreatesBank, MakesAll, MakesWide, RefusedIn, StartsBank}
use Rattle.store_rows.specs.Creation.{TablesAreMade, all_texts, new_tables, no_rows}
use Rattle.store_rows.specs.{TableAnswers.IsForbidden, believed.BankTables.bank_tables, believed.SeveralRows.given}
use Rattle.store_rows.specs.believed.BankTables as bank
use Rattle.store_rows.specs.declared.texts.TheConstants.{ADD_META}
use Rattle.store_rows.proofs.{CreationSteps.still_on, Failing.forbidden, Failing.key_fits, Puts.first_row, Puts.puts}
use Rattle.store_rows.proofs.MetaRow.{holds_one, meta_written, is_plain}

none_yet : (db : Database) → AreEmpty all_texts db → Holds db bank.meta []
none_yet db empty = held db bank_tables (no_rows all_texts) empty.each 0 bank.meta [] refl refl

-- the new bank is there, and every table but meta is as it was; or why the row can't be put in
pub starts : (old new : State) (r : Result ℕ Error) → AreEmpty all_texts old.now
    → ExecutesInside 0 ADD_META.now (given first_row) old new r
    → StartsBank old new r
starts old new (Ok count) made h =
    let done = puts_row old new bank.meta is_plain made.sound [] (none_yet old.now made) ADD_META.now _ _
    puts.meta count h.0 in (
      record {
        sound = ∣ done.0.sound ∣₁;
        each = meta_written old new (no_rows all_texts) made.each [] _ refl done.0;
        early = λ _. refl;
      },
      done.2,
      done.0.steps.schema,
    )
starts old new (Err e) made h =
    elim (refuses_insert old new bank.meta is_plain made.sound [] (none_yet old.now made) ADD_META.now
    (given first_row) first_row
    puts.meta (key_fits 1 (lit≤ tt)) e h) [
      | inl taken ↦ absurd (let none = taken.1 in cc)
      | inr fails ↦ put_fails_as old new bank.meta _ e (IsForbidden old.now.schema bank.meta new_tables)
          (forbidden old.now.schema new_tables bank.meta (first_row ∷ [])
          (λ db shows. holds_one db new_tables shows)) fails
    ]

-- ---- after the tables that were made

module _ (old mid new : State) (e : Error) (made : TablesAreMade all_texts old.now mid.now)
    (going : GoesOn old mid) (counts : KeepsCounts old mid) (limit : mid.step_limit ≡ old.step_limit) where
  -- it is refused in the database as it is now
  refused_there : IsInterrupted mid e ⊎ ((e ≡ SqliteFailure (ConstraintViolation Unique))
      × IsForbidden mid.now.schema bank.meta new_tables) → mid.now ≡ new.now → RefusedIn old new.now e
  refused_there (inl met) same =
      inr (
        inl (met.0, subst (λ o. IsSome o) limit met.1),
        subst (λ (db : Database). TablesAreMade all_texts old.now db) same made,
      )
  refused_there (inr (unique, none)) same =
      inr (
        inr (unique, subst (λ (db : Database). IsForbidden db.schema bank.meta new_tables) same none),
        subst (λ (db : Database). TablesAreMade all_texts old.now db) same made,
      )

  starts_not : old.faults ≤ mid.faults → StartsBank mid new (Err e) → CreatesBank old new (Err e)
  starts_not more (inl store) =
      inl (fails_since old mid new (HasWideIndex mid.now.schema bank.meta) (MakesWide old.now)
      (λ wide. (mid.now, made, wide)) e true going.0 counts more store)
  starts_not more (inr (why, same)) =
      let after = still_on old mid new going counts same in
      inr (refused_there why (sym same.0.now_is), after.0, after.1)

-- ---- the tables and the first row

module _ {S : Type 0} (g : Ghosts S) (old mid new : Transaction S)
    (made : Says g old mid (Inside (λ old new. MakesAll all_texts old new (Ok tt)))
    (Inside (λ old new. WritesKept {X = Unit {0}} {E = Error} old new (Ok tt)))) where
  -- the row is there too
  pub started : (count : ℕ)
      → Says g mid new (Inside (λ old new. AreEmpty all_texts old.now → StartsBank old new (Ok count)))
      (Inside (λ old new. WriteKept {E = Error} old new (Ok count)))
      → Says g old new (Inside (λ old new. CreatesBank old new (Ok tt)))
      (Inside (λ old new. WritesKept {X = Unit {0}} {E = Error} old new (Ok tt)))
  started count row = says_then g old mid new made row
      (λ makes _ starts live.
      let all = makes live in
      let start = starts all.1.0.mode all.0.empty in (
        start.0,
        λ t has.
            let still = start.1 t (all.0.keeps.has t has) (all.0.apart.0 t has) in
            (still.0, still.1 ∙ all.0.keeps.rows t has),
        λ uncounted. start.2 ∙ all.0.alone uncounted,
      ))
      (λ first then live.
      let before = first live in
      let after = then before.mode in
      record {
        was_open = before.was_open;
        is_open = after.is_open;
        now_is = refl;
        committed_is = after.committed_is ∙ before.committed_is;
        mode = after.mode;
      })

  -- the row is refused
  pub not_started : (e : Error) (r : Result (Unit {0}) Error) → IsErrAnd r (λ f. f ≡ e)
      → Says g mid new (Inside (λ old new. AreEmpty all_texts old.now → StartsBank old new (Err e)))
      (Inside (λ old new. WriteKept {X = ℕ} old new (Err e)))
      → Says g old new (Inside (λ old new. CreatesBank old new r)) (Inside (λ old new. WritesKept old new r))
  not_started e (Ok done) is row = absurd is
  not_started e (Err f) is row = rw is (says_then g old mid new made row
      (λ makes _ starts live.
      let all = makes live in
      starts_not _ _ _ e all.0 all.1 all.2 made.survives.limit made.survives.counts (starts all.1.0.mode all.0.empty))
      (λ first then live.
      let before = first live in
      let after = keeps_commit _ _ (then before.mode) in
      record {
        was_open = λ live. before.was_open;
        committed = λ live. after.committed live ∙ before.committed_is;
      }))
