-- What several steps of a walk leave of a connection.
use Rattle.std.proofs.Common.{◌≡◌, Result, Ok, Err, List, refl, sym, subst, ◌∙◌, inl, inr, IsTrue}
use Rattle.std.specs.Prelude.{IfErr, OnOk, false}
use Rattle.std.proofs.lemmas.Result.{on_ok_weaker}
use Rattle.sqlite.specs.{Table.Table, Effect.Database, State.State, State.IsUnchanged}
-- a crash leaves what it could leave before
pub use Rattle.sql_meanings.proofs.Saying.{survives_both as quiet_then}
use Rattle.sql_meanings.specs.StatementAnswers.{WriteFails}
use Rattle.walked_rows.specs.Pairs.{HasPairs, Pair}
use Rattle.bank_store.specs.Walks.{IsUntouchedIfOpen, IsStill}

-- a connection that sees what it saw has the same rows
pub still_has : (old new : State) (table other : Table) (rows : List Pair) → IsStill old new
    → HasPairs old.now table other rows → HasPairs new.now table other rows
still_has old new table other rows still = subst (λ (d : Database). HasPairs d table other rows) (sym still.0)

-- a step more
pub still_then : (old mid new : State) → IsStill old mid → IsStill mid new → IsStill old new
still_then old mid new a b = (b.0 ∙ a.0, b.1 ∙ a.1, b.2 ∙ a.2, b.3 ∙ a.3)

pub undone_then : (old mid new : State) → IsStill old mid → IsUntouchedIfOpen mid new
    → IsUntouchedIfOpen old new
undone_then old mid new a b is_open =
    let it = b is_open in
    record {
      was_open = subst IsTrue a.3 it.was_open;
      is_open = it.is_open;
      now_is = it.now_is ∙ a.0;
      committed_is = it.committed_is ∙ a.1;
      mode = it.mode ∙ a.2;
    }

-- nothing is to be undone
pub still_undone : (old new : State) → IsStill old new → IsUntouchedIfOpen old new
still_undone old new a is_open =
    record {
      was_open = subst IsTrue a.3 is_open;
      is_open = is_open;
      now_is = a.0;
      committed_is = a.1;
      mode = a.2;
    }

pub untouched : (s : State) → IsUntouchedIfOpen s s
untouched s = still_undone s s (refl, refl, refl, refl)

-- ---- rows were read outside a transaction

module _ {X E : Type 0} (old new : State) (r : Result X E) (same : OnOk r (IsUnchanged old new)) where
  -- an answer leaves what the connection sees
  pub read_still : OnOk r (IsStill old new)
  read_still = on_ok_weaker r
      (λ it. (it.0.now_is, it.0.committed_is, it.0.mode, it.0.is_open ∙ sym it.0.was_open)) same

  -- and an error goes back to what was committed, as the connection showed
  pub read_undone : (IsTrue old.is_open → old.now ≡ old.committed) → old.in_transaction ≡ false
      → IfErr r (λ _. WriteFails old new) → IsUntouchedIfOpen old new
  read_undone settled idle fails = go r same fails
    where
      failed : WriteFails old new → IsUntouchedIfOpen old new
      failed (inl as_it_was) still = as_it_was.0
      failed (inr rolled) still =
          let was_open = rolled.was_open still in
          let back = rolled.undone still in
          record {
            was_open = was_open;
            is_open = still;
            now_is = back.0 ∙ sym (settled was_open);
            committed_is = back.1;
            mode = rolled.autocommit ∙ sym idle;
          }

      go : (r : Result X E) → OnOk r (IsUnchanged old new) → IfErr r (λ _. WriteFails old new)
          → IsUntouchedIfOpen old new
      go (Ok x) same fails still = same.0
      go (Err e) same fails still = failed fails still
