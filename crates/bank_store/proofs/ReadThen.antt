-- Reads outside a transaction, and after them a transaction that only reads.
use Rattle.std.proofs.Common.{◌≡◌, ◌∙◌, Ok, Err, Result, sym, ap, subst, arith, inl, inr}
use Rattle.std.specs.Prelude.{IsTrue, OnErr, false}
use Rattle.std.proofs.lemmas.Result.{on_ok_weaker}
use Rattle.sqlite.specs.{Effect.Database, State.State, State.HasCleanDisk, State.Survives, Held.Held, Held.state, Tree.Trees}
use Rattle.sqlite.proofs.StateLemmas.{survives_then}
use Rattle.sqlite_trees.specs.declared.store.Store.{Ghosts}
use Rattle.posting_rules.specs.{believed.Tables.Tables}
use Rattle.store_rows.specs.believed.{Failures.Additions, Made.WritesOnly, Rules.IsBroken, Sparing.SparesOthers, View.Shows}
use Rattle.store_rows.specs.declared.fault.TableFault.{TableFault, TheVariants.Sqlite, TheVariants.Damaged}
use Rattle.bank_transactions.specs.believed.Stray.{IsDamage}
use Rattle.bank_transactions.specs.{Causes.IsFault, Causes.IsFirstBroken, Doing.Completes, Doing.MayLeaveAfter}
use Rattle.bank_transactions.specs.{Doing.TransactsBy, Doing.Undoes, Undone.IsUndone, believed.Doing.LeavesOthers}
use Rattle.bank_transactions.proofs.Blamed.{blames_after, comes}
use Rattle.bank_store.specs.Walks.{IsStill, IsUntouchedIfOpen}

-- no row is put in or changed
abbrev Nothing : Additions
Nothing text values = ⊥

-- what a crash leaves no more than before, it leaves no more than before or so
pub quiet_also : (old new : State) (P : Trees → Type 0) → Survives old new (λ _. ⊥) → Survives old new P
quiet_also old new P quiet = record {
  clean = quiet.clean;
  shield = quiet.shield;
  counts = quiet.counts;
  limit = quiet.limit;
  closes = quiet.closes;
  crash = λ clean left may. elim (quiet.crash clean left may) [
    | inl before ↦ inl before
    | inr none ↦ absurd none
  ];
}

pub undone_by : (old new : State) → IsUntouchedIfOpen old new → IsUndone old new
undone_by old new untouched = λ still. let it = untouched still in (it.was_open, it.now_is)

module _ {S X : Type 0} {So : Tables → Type 0} {wanted : Tables → X} (g : Ghosts S) where
  -- reads that failed, as a transaction that only reads
  pub reads_failed : (old new : Held S) (fault : TableFault) → new.in_transaction ≡ false
      → (HasCleanDisk (state g new) → IsUntouchedIfOpen (state g old) (state g new))
      → Survives (state g old) (state g new) (λ _. ⊥)
      → (HasCleanDisk (state g new) → IsFault (IsFirstBroken g) g old new fault)
      → TransactsBy {X = X} (IsFirstBroken g) Nothing g old new So (λ t. t) wanted (Err fault)
  reads_failed old new fault outside untouched quiet cause = record {
    answers = λ clean t shows so. completes fault (cause clean) t;
    undone = λ clean. undoes fault (undone_by (state g old) (state g new) (untouched clean));
    survives = quiet_also (state g old) (state g new) _ quiet;
    cause = cause;
    mode = outside;
    spares = record { now = λ clean. tt; opened = λ clean. tt; left = quiet_also (state g old) (state g new) _ quiet };
    wrote = λ clean. tt;
  }
    where
      completes : (f : TableFault) → IsFault (IsFirstBroken g) g old new f → (t : Tables)
          → Completes {X = X} (state g old) (state g new) t (wanted t) (Err f)
      completes (Sqlite e) is t = tt
      completes (Damaged rule) is t = inl is

      undoes : (f : TableFault) → IsUndone (state g old) (state g new)
          → Undoes {X = X} (state g old) (state g new) (Err f)
      undoes (Sqlite e) is = tt
      undoes (Damaged rule) is = is

  -- reads that were answered, and the transaction
  module _ (old mid new : Held S) (quiet : Survives (state g old) (state g mid) (λ _. ⊥))
      (still : HasCleanDisk (state g mid) → IsStill (state g old) (state g mid)) (r : Result X TableFault)
      (two : TransactsBy {X = X} (IsFirstBroken g) Nothing g mid new So (λ t. t) wanted r) where
    before : HasCleanDisk (state g new) → HasCleanDisk (state g mid)
    before clean = omega (arith, two.survives.clean, clean)

    same : HasCleanDisk (state g new) → (state g mid).now ≡ (state g old).now
    same clean = (still (before clean)).0

    completes_since : HasCleanDisk (state g new) → (t : Tables) (q : Result X TableFault)
        → Completes (state g mid) (state g new) t (wanted t) q → Completes (state g old) (state g new) t (wanted t) q
    completes_since clean t (Ok x) is = is
    completes_since clean t (Err (Sqlite e)) is = tt
    completes_since clean t (Err (Damaged rule)) is = subst (IsDamage rule) (same clean) is

    undoes_since : HasCleanDisk (state g new) → (q : Result X TableFault) → Undoes (state g mid) (state g new) q
        → Undoes (state g old) (state g new) q
    undoes_since clean (Ok x) is = tt
    undoes_since clean (Err (Sqlite e)) is = tt
    undoes_since clean (Err (Damaged rule)) is =
        λ shown. let it = is shown in (subst IsTrue (still (before clean)).3 it.0, it.1 ∙ same clean)

    pub reads_then : TransactsBy {X = X} (IsFirstBroken g) Nothing g old new So (λ t. t) wanted r
    reads_then = record {
      answers = λ clean t shows so.
          completes_since clean t r
          (two.answers clean t (subst (λ (db : Database). Shows db t) (sym (same clean)) shows) so);
      undone = λ clean. undoes_since clean r (two.undone clean);
      survives = survives_then (state g old) (state g mid) (state g new) (λ _. ⊥)
          (MayLeaveAfter (state g mid) So (λ t. t)) (MayLeaveAfter (state g old) So (λ t. t))
          (λ clean left none. absurd none)
          (λ clean left may tables shows so.
          may tables (subst (λ (db : Database). Shows db tables) (sym (same clean)) shows) so)
          quiet two.survives;
      cause = λ clean. blames_after (IsFirstBroken g) g old mid new r
          (λ rule broken. subst (IsBroken rule) (same clean) broken) (comes quiet) (two.cause clean);
      mode = two.mode;
      spares = record {
        now = λ clean. on_ok_weaker r
            (subst (λ (db : Database). SparesOthers db (state g new).now) (same clean)) (two.spares.now clean);
        opened = λ clean. on_ok_weaker r (subst IsTrue (still (before clean)).3) (two.spares.opened clean);
        left = survives_then (state g old) (state g mid) (state g new) (λ _. ⊥) (LeavesOthers (state g mid).now)
            (LeavesOthers (state g old).now) (λ clean left none. absurd none)
            (λ clean left may. subst (λ (db : Database). LeavesOthers db left) (same clean) may)
            quiet two.spares.left;
      };
      wrote = λ clean. on_ok_weaker r
          (subst (λ (db : Database). WritesOnly Nothing db (state g new).now) (same clean)) (two.wrote clean);
    }

    -- what it undid is undone
    pub undone_since : (HasCleanDisk (state g new) → OnErr r (IsUndone (state g mid) (state g new)))
        → HasCleanDisk (state g new) → OnErr r (IsUndone (state g old) (state g new))
    undone_since undone clean = since r (undone clean)
      where
        since : (q : Result X TableFault) → OnErr q (IsUndone (state g mid) (state g new))
            → OnErr q (IsUndone (state g old) (state g new))
        since (Ok x) is = tt
        since (Err f) is =
            λ shown. let it = is shown in (subst IsTrue (still (before clean)).3 it.0, it.1 ∙ same clean)

    -- its commit leaves what was read
    pub left_since : Survives (state g mid) (state g new) (λ left. left ≡ (state g mid).now.trees)
        → Survives (state g old) (state g new) (λ left. left ≡ (state g old).now.trees)
    left_since left = survives_then (state g old) (state g mid) (state g new) (λ _. ⊥) _ _
        (λ clean db none. absurd none) (λ clean db is. is ∙ ap (λ (d : Database). d.trees) (same clean)) quiet left

-- what is made of its answer
module _ {S X Y : Type 0} {So : Tables → Type 0} {wanted : Tables → X} {asked : Tables → Y} (g : Ghosts S)
    (old new : Held S) where
  pub answered_by : (x : X) (y : Y) → ((t : Tables) → x ≡ wanted t → y ≡ asked t)
      → TransactsBy (IsFirstBroken g) Nothing g old new So (λ t. t) wanted (Ok x)
      → TransactsBy (IsFirstBroken g) Nothing g old new So (λ t. t) asked (Ok y)
  answered_by x y same one = record {
    answers = λ clean t shows so. let it = one.answers clean t shows so in (same t it.0, it.1, it.2);
    undone = λ clean. tt;
    survives = one.survives;
    cause = λ clean. tt;
    mode = one.mode;
    spares = record { now = one.spares.now; opened = one.spares.opened; left = one.spares.left };
    wrote = one.wrote;
  }

  pub failed_by : (fault : TableFault)
      → TransactsBy {X = X} (IsFirstBroken g) Nothing g old new So (λ t. t) wanted (Err fault)
      → TransactsBy {X = Y} (IsFirstBroken g) Nothing g old new So (λ t. t) asked (Err fault)
  failed_by fault one = record {
    answers = λ clean t shows so. completes fault t (one.answers clean t shows so);
    undone = λ clean. undoes fault (one.undone clean);
    survives = one.survives;
    cause = one.cause;
    mode = one.mode;
    spares = record { now = λ clean. tt; opened = λ clean. tt; left = one.spares.left };
    wrote = λ clean. tt;
  }
    where
      completes : (f : TableFault) (t : Tables) → Completes {X = X} (state g old) (state g new) t (wanted t) (Err f)
          → Completes {X = Y} (state g old) (state g new) t (asked t) (Err f)
      completes (Sqlite e) t is = tt
      completes (Damaged rule) t is = is

      undoes : (f : TableFault) → Undoes {X = X} (state g old) (state g new) (Err f)
          → Undoes {X = Y} (state g old) (state g new) (Err f)
      undoes (Sqlite e) is = tt
      undoes (Damaged rule) is = is
