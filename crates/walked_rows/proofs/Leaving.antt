-- What several reads leave, one after the other.
use Rattle.std.proofs.Common.{◌≡◌, ◌⊎◌, inl, inr, Ok, Err, Result, refl, sym, ap, subst, arith}
use Rattle.std.proofs.lemmas.Result.{IfErr-weaker, on_ok_weaker}
use Rattle.std.specs.Prelude.{IsSome}
use Rattle.sqlite.specs.State.{HasCleanDisk, IsRolledBack, Survives, Shows as StateShows}
use Rattle.sqlite.specs.Held.{Held, state}
use Rattle.sqlite.proofs.Callers.{unchanged_then}
use Rattle.sqlite.specs.declared.error.Error.{Error, TheVariants.SqliteFailure}
use Rattle.sqlite.specs.declared.error.ErrorCode.TheVariants.{OperationInterrupted, OutOfMemory}
use Rattle.sqlite_trees.specs.declared.store.Store.{Ghosts}
use Rattle.sql_meanings.specs.StatementAnswers.{IsStoreError, WriteFails}
use Rattle.sql_meanings.proofs.{Afterwards.fails_since, Afterwards.rolled_since, Saying.survives_both}
use Rattle.walked_rows.specs.Leaving.{IsSame, IsSameIfAsked, OnlyReads, ReadsBy, ReadsIfAny}

-- ---- connections

module _ {S : Type 0} (g : Ghosts S) (b c : Held S) where
  -- the disk was clean between them
  pub clean_between : Survives (state g b) (state g c) (λ _. ⊥) → HasCleanDisk (state g c)
      → HasCleanDisk (state g b)
  clean_between survives clean = let more = survives.clean in omega arith

  -- what is shown is what was shown
  pub shows_same : IsSameIfAsked g b c → (state g c).now ≡ (state g b).now
  shows_same (inl same) = same.0.now_is
  shows_same (inr is) = ap (λ h. (state g h).now) is

module _ {S : Type 0} (g : Ghosts S) (a b c : Held S) where
  shows_mid : IsSame g a b
      → StateShows (state g a) (state g b) (state g b).now (state g a).committed a.in_transaction
  shows_mid same = record {
    was_open = same.0.was_open;
    is_open = same.0.is_open;
    now_is = refl;
    committed_is = same.0.committed_is;
    mode = same.0.mode;
  }

  same_on : IsSameIfAsked g a b → IsSame g b c → IsSame g a c
  same_on (inl same) more = unchanged_then _ _ _ same more
  same_on (inr is) more = subst (λ h. IsSame g h c) is more

  same_then : IsSame g a b → IsSameIfAsked g b c → IsSame g a c
  same_then same (inl more) = unchanged_then _ _ _ same more
  same_then same (inr is) = subst (IsSame g a) (sym is) same

  fails_on : IsSameIfAsked g a b → WriteFails (state g b) (state g c) → WriteFails (state g a) (state g c)
  fails_on so_far (inl more) = inl (same_on so_far more)
  fails_on (inl same) (inr back) = inr (rolled_since _ _ _ a.in_transaction (shows_mid same) same.1 back)
  fails_on (inr is) (inr back) = inr (subst (λ h. IsRolledBack (state g h) (state g c)) is back)

  pub store_on : IsSameIfAsked g a b → Survives (state g a) (state g b) (λ _. ⊥) → (e : Error)
      → IsStoreError (state g b) (state g c) e → IsStoreError (state g a) (state g c) e
  store_on (inr is) survives e failed = subst (λ h. IsStoreError (state g h) (state g c) e) is failed
  store_on (inl same) survives e (inl fails) =
      inl (fails_since _ _ _ ⊥ ⊥ (λ x. x) e a.in_transaction (shows_mid same) same.1 survives.counts fails)
  store_on (inl same) survives e (inr unread) = inr (
    subst (λ limit. (e ≡ SqliteFailure OutOfMemory) ⊎ ((e ≡ SqliteFailure OperationInterrupted) × IsSome limit))
        survives.limit unread.0,
    unchanged_then _ _ _ same unread.1,
  )

-- ---- reads

module _ {S X E Y F : Type 0} {g : Ghosts S} {old new : Held S} where
  -- whatever is made of what left everything as it was
  pub same_any : {q : Result X E} → OnlyReads g old new q → (HasCleanDisk (state g new) → IsSame g old new)
      → (r : Result Y F) → OnlyReads g old new r
  same_any h unread (Ok y) = record { same = unread; err = λ clean. tt; mode = h.mode; survives = h.survives }
  same_any h unread (Err f) =
      record { same = λ clean. tt; err = λ clean. inl (unread clean); mode = h.mode; survives = h.survives }

  -- whatever is made of an answer
  pub reads_any : {x : X} → OnlyReads {E = E} g old new (Ok x) → (r : Result Y F) → OnlyReads g old new r
  reads_any h = same_any h h.same

  -- the fault in other words
  pub fails_too : {e : E} {f : F} → OnlyReads {X = X} g old new (Err e) → OnlyReads {X = Y} g old new (Err f)
  fails_too h = record { same = λ clean. tt; err = h.err; mode = h.mode; survives = h.survives }

-- what reads reads if there is anything
pub if_any : {S X E : Type 0} {g : Ghosts S} {old new : Held S} {r : Result X E} → OnlyReads g old new r
    → ReadsIfAny g old new r
if_any {r = r} reads = record {
  same = λ clean. on_ok_weaker r inl (reads.same clean);
  err = reads.err;
  mode = reads.mode;
  survives = reads.survives;
}

module _ {S X E Y F : Type 0} {g : Ghosts S} {old mid new : Held S} {x : X} {r : Result Y F} where
  both : (A B : Held S → Held S → Type 0) → (A old mid → B mid new → IsSame g old new)
      → (A old mid → WriteFails (state g mid) (state g new) → WriteFails (state g old) (state g new))
      → ReadsBy {E = E} A g old mid (Ok x) → ReadsBy B g mid new r → OnlyReads g old new r
  both A B same fails first last =
      let between = clean_between g mid new last.survives in
      record {
        same = λ clean. on_ok_weaker r (same (first.same (between clean))) (last.same clean);
        err = λ clean. IfErr-weaker r _ _ (λ _. fails (first.same (between clean))) (last.err clean);
        mode = λ outside. last.mode (first.mode outside);
        survives = survives_both _ _ _ first.survives last.survives;
      }

  -- a read after others, if there were any
  pub reads_on : ReadsIfAny {E = E} g old mid (Ok x) → OnlyReads g mid new r → OnlyReads g old new r
  reads_on = both (IsSameIfAsked g) (IsSame g) (same_on g old mid new) (fails_on g old mid new)

  -- others after a read, if there are any
  pub reads_then : OnlyReads {E = E} g old mid (Ok x) → ReadsIfAny g mid new r → OnlyReads g old new r
  reads_then =
      both (IsSame g) (IsSameIfAsked g) (same_then g old mid new) (λ same. fails_on g old mid new (inl same))
