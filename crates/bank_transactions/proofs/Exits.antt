-- What the ways out of a call rest on.
use Rattle.std.proofs.Common.{◌≡◌, ◌∙◌, Err, IsErrAnd, Result, ap, arith, inl, refl}
use Rattle.std.proofs.lemmas.Result.{err_from_is_err_and}
use Rattle.sqlite.specs.{State.HasCleanDisk, State.State, State.Survives, Tree.Trees}
use Rattle.sqlite.specs.declared.transaction.Transaction.{Transaction}
use Rattle.sqlite_trees.specs.declared.store.Store.{Ghosts}
use Rattle.posting_rules.specs.believed.Tables.{Tables}
use Rattle.store_rows.specs.declared.fault.TableFault.{TableFault}
use Rattle.bank_transactions.specs.Doing.{ReadsWhere}

-- an error is handed on as it is
pub handed_on : {X : Type 0} {e : TableFault} (r : Result X TableFault) → IsErrAnd r (λ y. y ≡ e) → r ≡ Err e
handed_on r is = let it = err_from_is_err_and r is in it.1 ∙ ap Err it.2

-- a disk that is honest after a part was so before it
pub clean_at : {old new : State} {Left : Trees → Type 0} → Survives old new Left → HasCleanDisk new → HasCleanDisk old
clean_at survives clean = omega (arith, survives.clean, clean)

-- where nothing is done, a state stays as it is
pub survives_itself : (s : State) → Survives s s (λ _. ⊥)
survives_itself s = record {
  clean = omega arith;
  shield = λ it. it;
  counts = omega arith;
  limit = refl;
  closes = λ clean is_open. inl is_open;
  crash = λ clean db left. inl left;
}

-- an error of a look-up is one of another, whatever was to be found
pub reads_fail : {S X Y : Type 0} {g : Ghosts S} {old new : Transaction S} {So So' : Tables → Type 0} {w : Tables → X}
    {w' : Tables → Y} {e : TableFault} → ReadsWhere g old new So w (Err e) → ReadsWhere g old new So' w' (Err e)
reads_fail reads = record {
  says = record {
    same_reference = reads.says.same_reference;
    answers = λ clean t shows so. tt;
    leaves = reads.says.leaves;
    survives = reads.says.survives;
  };
}
