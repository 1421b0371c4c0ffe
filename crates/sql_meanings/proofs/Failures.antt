-- What the ways to fail have in common.
use Rattle.sql_meanings.specs.Names.{false, Table, State, store_error, Error, StoreError, OutOfMemory}
use Rattle.sql_meanings.proofs.Names.{inl, inr, refl, ap, ◌∙◌}
use Rattle.sql_meanings.specs.believed.StatementAnswers.{is_taken_key}
use Rattle.sql_meanings.specs.StatementAnswers.{PutFails, SetFails}
use Rattle.std.specs.Prelude.{◌≡◌}

store_other : (cause : StoreError) → is_taken_key (store_error cause) ≡ false
store_other OutOfMemory = refl
store_other other = refl

module _ (old new : State) (table : Table) (P : Type 0) (e : Error) where
  -- the same, where that there are no such rows is said in another way
  pub put_fails_as : (Q : Type 0) → (P → Q) → PutFails old new table P e → PutFails old new table Q e
  put_fails_as Q then (inl store) = inl store
  put_fails_as Q then (inr (inl limit, same)) = inr (inl limit, same)
  put_fails_as Q then (inr (inr unique, same)) = inr (inr (unique.0, then unique.1), same)

  -- so of a change
  pub set_fails_as : (Q : Type 0) → (P → Q) → SetFails old new table P e → SetFails old new table Q e
  set_fails_as Q then (inl row) = inl (put_fails_as Q then row)
  set_fails_as Q then (inr parent) = inr parent

  -- none of the ways tells that a key is taken
  pub other_error : PutFails old new table P e → is_taken_key e ≡ false
  other_error (inl store) = ap is_taken_key store.1 ∙ store_other store.0
  other_error (inr (inl limit, same)) = ap is_taken_key limit.0
  other_error (inr (inr unique, same)) = ap is_taken_key unique.0
