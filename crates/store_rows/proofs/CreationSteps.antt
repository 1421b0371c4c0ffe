-- How tables are made one after another, and how one of them is refused.
use Rattle.std.proofs.Common.{length, ◌≡◌, inl, inr, ℕ, suc, ◌<◌, ◌≤◌, List, [], ◌∷◌, map, take, slice_get, Some, Ok}
use Rattle.std.proofs.Common.{Err, IsTrue, refl, sym, ap, subst, ◌∙◌, arith, true, false}
use Rattle.std.proofs.Math.Seq.{take-length}
use Rattle.std.specs.List.{AllByRecursion}
use Rattle.sqlite.specs.{Table.Table, Held.Held, Held.state, declared.error.Error.Error}
use Rattle.sqlite.specs.Effect.{Database, IsDatabase}
use Rattle.sqlite_trees.specs.declared.store.Store.{Ghosts}
use Rattle.sqlite.specs.State.{State, IsUnchanged, KeepsCommit, KeepsCounts, Shows as StateShows}
use Rattle.sqlite_rules.specs.Lists.{Has}
use Rattle.sql_meanings.specs.{Making.NotMade, believed.Contents.HoldsEach}
use Rattle.sql_meanings.specs.StatementAnswers.{GoesOn, MakeFails, MakesTold}
use Rattle.sql_meanings.proofs.{Afterwards.fails_since, Places.all_more, TableStands.then_keeps}
use Rattle.sql_meanings.proofs.Makings.{holds_none, keeps_commit}
use Rattle.store_rows.specs.Creation.{AreGrown, IsApart, TablesAreMade, MakesAll}
use Rattle.store_rows.proofs.MadeSoFar.{Begun, IsNew, Reached, grows_alone, grows_more, keeps_itself, made_new}
use Rattle.store_rows.proofs.MadeSoFar.{stay_new}

-- what changed nothing leaves a transaction that went on as it was
pub still_on : (old mid new : State) → GoesOn old mid → KeepsCounts old mid → IsUnchanged mid new
    → GoesOn old new × KeepsCounts old new
still_on old mid new goes counts same = (
  (
    record {
      was_open = goes.0.was_open;
      is_open = same.0.is_open;
      now_is = refl;
      committed_is = same.0.committed_is ∙ goes.0.committed_is;
      mode = same.0.mode ∙ goes.0.mode;
    },
    same.2 ∙ goes.1,
  ),
  record {
    changes = same.1.changes ∙ counts.changes;
    last_rowid = same.1.last_rowid ∙ counts.last_rowid;
  },
)

module _ (texts : List (List ℕ × Table)) (old mid new : State) (made : ℕ) (it : List ℕ × Table)
    (has : slice_get texts made ≡ Some it) where
  -- ---- one more

  module _ (answers : MakesTold mid new it.0 it.1 (Ok 0))
      (shows : StateShows mid new new.now mid.committed true)
      (more : mid.faults ≤ new.faults) where
    after_some : Reached texts old mid made → Reached texts old new (suc made)
    after_some reached = record {
      shows = record {
        was_open = reached.shows.was_open;
        is_open = shows.is_open;
        now_is = refl;
        committed_is = shows.committed_is ∙ reached.shows.committed_is;
        mode = shows.mode;
      };
      marks = answers.3 ∙ reached.marks;
      counts = record {
        changes = answers.2.changes ∙ reached.counts.changes;
        last_rowid = answers.2.last_rowid ∙ reached.counts.last_rowid;
      };
      keeps = then_keeps old.now mid.now new.now reached.keeps answers.0.keeps;
      faults = let before = reached.faults in omega arith;
      sound = answers.1;
      new = all_more (λ x. IsNew old.now new.now x.1) texts made it has
          (stay_new old.now mid.now new.now (take made texts) answers.0.keeps reached.new)
          (made_new old.now mid.now new.now it.1 reached.keeps answers.0);
      grown = grows_more texts made it has old.now.schema mid.now.schema new.now.schema reached.grown answers.0.grown;
    }

    nothing_grown : made ≡ 0 → AreGrown (take made texts) mid.now.schema mid.now.schema
    nothing_grown none = subst (λ n. AreGrown (take n texts) mid.now.schema mid.now.schema) (sym none) refl

    after_none : made ≡ 0 → Reached texts mid new (suc made)
    after_none none = record {
      shows = shows;
      marks = answers.3;
      counts = answers.2;
      keeps = answers.0.keeps;
      faults = more;
      sound = answers.1;
      new = all_more (λ x. IsNew mid.now new.now x.1) texts made it has
          (subst (λ n. AllByRecursion (λ x. IsNew mid.now new.now x.1) (take n texts)) (sym none) tt)
          (made_new mid.now mid.now new.now it.1 (keeps_itself mid.now) answers.0);
      grown = grows_more texts made it has mid.now.schema mid.now.schema new.now.schema (nothing_grown none)
          answers.0.grown;
    }

  -- ---- one is refused

  -- the state after a refusal shows what was made before it
  still : Reached texts old mid made → IsUnchanged mid new → GoesOn old new × KeepsCounts old new
  still reached same = still_on old mid new (reached.shows, reached.marks) reached.counts same

  fails_after : (e : Error) → MakeFails mid new it.0 it.1 e → Reached texts old mid made
      → MakesAll texts old new (Err e)
  fails_after e (inl store) reached =
      inl (fails_since old mid new ⊥ ⊥ (λ x. x) e true reached.shows reached.counts reached.faults store)
  fails_after e (inr (refused, same)) reached =
      let after = still reached same in
      inr (
        record {
          made = made;
          next = it;
          is_next = has;
          grown = subst (λ (d : Database). AreGrown (take made texts) old.now.schema d.schema)
              (sym same.0.now_is) reached.grown;
          refused = subst (λ (d : Database). NotMade d.schema it.0 it.1 e) (sym same.0.now_is) refused;
        },
        λ t listed. (
          subst (λ (d : Database). Has d.schema.tables t) (sym same.0.now_is) (reached.keeps.has t listed),
          ap (λ (d : Database). d.trees t.tree) same.0.now_is ∙ reached.keeps.rows t listed,
        ),
        after.0,
        after.1,
      )

  fails_first : (e : Error) → IsTrue mid.in_transaction → MakeFails mid new it.0 it.1 e → made ≡ 0
      → MakesAll texts mid new (Err e)
  fails_first e live (inl store) none = inl store
  fails_first e live (inr (refused, same)) none = inr (
    record {
      made = 0;
      next = it;
      is_next = subst (λ n. slice_get texts n ≡ Some it) none has;
      grown = ap (λ (d : Database). d.schema) same.0.now_is;
      refused = subst (λ (d : Database). NotMade d.schema it.0 it.1 e) (sym same.0.now_is) refused;
    },
    λ t listed. (
      subst (λ (d : Database). Has d.schema.tables t) (sym same.0.now_is) listed,
      ap
          (λ (d : Database). d.trees t.tree) same.0.now_is,
    ),
    (
      record {
        was_open = same.0.was_open;
        is_open = same.0.is_open;
        now_is = refl;
        committed_is = same.0.committed_is;
        mode = same.0.mode ∙ live;
      },
      same.2,
    ),
    same.1,
  )

module _ (texts : List (List ℕ × Table)) {S : Type 0} (g : Ghosts S) (old mid : Held S) (new : State)
    (made : ℕ) (it : List ℕ × Table) (has : slice_get texts made ≡ Some it) where
  -- one table more
  pub one_more : MakesTold (state g mid) new it.0 it.1 (Ok 0)
      → StateShows (state g mid) new new.now (state g mid).committed true
      → (state g mid).faults ≤ new.faults → Begun texts g old mid made
      → Reached texts (state g old) new (suc made)
  one_more answers shows more (inl none) =
      subst (λ h. Reached texts (state g h) new (suc made)) none.1
      (after_none texts (state g mid) (state g mid) new made it has answers shows more none.0)
  one_more answers shows more (inr reached) = after_some texts (state g old) (state g mid) new made it
      has answers shows more reached

  -- a table is refused after those before it were made
  pub then_fails : (e : Error) → IsTrue mid.in_transaction → MakeFails (state g mid) new it.0 it.1 e
      → Begun texts g old mid made
      → MakesAll texts (state g old) new (Err e)
  then_fails e live fails (inl none) =
      subst (λ h. MakesAll texts (state g h) new (Err e)) none.1
      (fails_first texts (state g mid) (state g mid) new made it has e live fails none.0)
  then_fails e live fails (inr reached) = fails_after texts (state g old) (state g mid) new made it has e
      fails reached

-- ---- all of them

-- each is there, and empty
none_held : (old g : Database) (its : List (List ℕ × Table)) → IsDatabase g
    → AllByRecursion (λ it. IsNew old g it.1) its
    → HoldsEach g (map (λ it. it.1) its) (map (λ it. []) its)
none_held old g [] sound all = tt
none_held old g (it ∷ its) sound all =
    ((holds_none g it.1 all.0.tree sound all.0.stands all.0.empty).0, none_held old g its sound all.1)

-- each has a tree of its own
all_apart : (old g : Database) (its : List (List ℕ × Table)) → IsDatabase g
    → AllByRecursion (λ it. IsNew old g it.1) its
    → AllByRecursion (λ it. IsApart old.schema g.schema it.1) its
all_apart old g [] sound all = tt
all_apart old g (it ∷ its) sound all = (
  λ t h same. all.0.apart t h (same ∙ (holds_none g it.1 all.0.tree sound all.0.stands all.0.empty).1),
  all_apart old g its sound all.1,
)

-- they are made
pub all_made : (texts : List (List ℕ × Table)) → AllByRecursion (λ it. it.1.is_counted ≡ false) texts
    → (old new : State) → Reached texts old new (length texts) → TablesAreMade texts old.now new.now
all_made texts uncounted old new reached =
    let all : AllByRecursion (λ it. IsNew old.now new.now it.1) texts = rw (take-length texts) at reached.new in
    record {
      empty = record {
        sound = ∣ reached.sound ∣₁;
        each = none_held old.now new.now texts reached.sound all;
      };
      keeps = reached.keeps;
      alone = grows_alone (take (length texts) texts) (rw (take-length texts) uncounted) old.now.schema new.now.schema
          reached.grown;
      apart = all_apart old.now new.now texts reached.sound all;
    }

module _ (texts : List (List ℕ × Table)) {S : Type 0} (g : Ghosts S) (old mid : Held S) where
  -- the transaction is in the transaction still
  pub begun_live : (made : ℕ) → Begun texts g old mid made → IsTrue old.in_transaction
      → IsTrue mid.in_transaction
  begun_live made (inl none) live = subst (λ (h : Held S). IsTrue h.in_transaction) (sym none.1) live
  begun_live made (inr reached) live = reached.shows.mode

  -- after the last they are made
  pub ends_made : AllByRecursion (λ it. it.1.is_counted ≡ false) texts → 0 < length texts → Begun texts g old mid (length texts)
      → MakesAll texts (state g old) (state g mid) (Ok tt)
  ends_made uncounted some (inl none) = absurd (let empty = none.0 in omega arith)
  ends_made uncounted some (inr reached) =
      (all_made texts uncounted (state g old) (state g mid) reached, (reached.shows, reached.marks), reached.counts)

-- a refusal commits nothing
pub makes_leave : (texts : List (List ℕ × Table)) (old new : State) (e : Error)
    → MakesAll texts old new (Err e) → KeepsCommit old new
makes_leave texts old new e (inl store) = keeps_commit old new (inr store.3)
makes_leave texts old new e (inr refused) = record {
  was_open = λ live. refused.2.0.was_open;
  committed = λ live.
      refused.2.0.committed_is;
}
