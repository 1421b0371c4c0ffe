-- A store over files that tell no lie is never in doubt.
use Rattle.std.proofs.{Common.IsTrue, Common.sym, Common.subst, lemmas.Bool.and_from}
use Rattle.sqlite_disk.specs.declared.Disk.{Ghosts}
use Rattle.sqlite_pool.proofs.StateLemmas.{clean_is}
use Rattle.sqlite_store.specs.declared.store.FileStore.{FileStore}
use Rattle.sqlite_trees.proofs.Doubt.{no_doubt}
use Rattle.sqlite.specs.{Files.file_state, Held.Held, State.HasCleanDisk}

pub never_in_doubt : {D : Type 0} {g : Ghosts D} → ((file : D) → IsTrue (g.is_clean file))
    → (c : Held (FileStore D g)) → HasCleanDisk (file_state c)
never_in_doubt honest c =
    no_doubt _ (subst IsTrue (sym (clean_is c.store.pool)) (and_from _ _ (honest _) (honest _)))
