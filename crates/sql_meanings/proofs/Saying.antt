-- What two calls say, one after the other.
use Rattle.sql_meanings.specs.Names.{State, HasCleanDisk, Survives, state, Transaction, Ghosts}
use Rattle.sql_meanings.proofs.Names.{◌∙◌, arith}
use Rattle.sqlite.proofs.StateLemmas.{survives_then}
use Rattle.sql_meanings.specs.Calls.{Says}

-- neither leaves anything new at a crash
pub survives_both : (old mid new : State) → Survives old mid (λ _. ⊥) → Survives mid new (λ _. ⊥)
    → Survives old new (λ _. ⊥)
survives_both old mid new one two = survives_then old mid new (λ _. ⊥) (λ _. ⊥) (λ _. ⊥) (λ clean db h. h)
    (λ clean db h. h) one two

module _ {S : Type 0} (g : Ghosts S) (old mid new : Transaction S) {T K T' K' : State → State → Type 0}
    (one : Says g old mid T K)
    (two : Says g mid new T' K') where
  -- the disk that is honest after both was so after the first
  pub clean_between : HasCleanDisk (state g new.conn.now) → HasCleanDisk (state g mid.conn.now)
  clean_between clean = let more = two.survives.clean in omega arith

  -- what both say, by what each says
  pub says_then : {U V : State → State → Type 0}
      → (T (state g old.conn.now) (state g mid.conn.now) → K (state g old.conn.now) (state g mid.conn.now)
      → T' (state g mid.conn.now) (state g new.conn.now) → U (state g old.conn.now) (state g new.conn.now))
      → (K (state g old.conn.now) (state g mid.conn.now) → K' (state g mid.conn.now) (state g new.conn.now)
      → V (state g old.conn.now) (state g new.conn.now))
      → Says g old new U V
  says_then answers leaves = record {
    same_reference = two.same_reference ∙ one.same_reference;
    answers = λ clean. answers (one.answers (clean_between clean)) (one.leaves (clean_between clean)) (two.answers clean);
    leaves = λ clean. leaves (one.leaves (clean_between clean)) (two.leaves clean);
    survives = survives_both _ _ _ one.survives two.survives;
  }
