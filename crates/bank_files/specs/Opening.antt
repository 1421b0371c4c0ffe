-- What is found by opening a bank's files, by what they held.
use Rattle.std.specs.Prelude.{◌≡◌, ◌⊎◌, IsTrue}
use Rattle.sqlite.specs.Files.{AreFoundIn, HoldsDatabase, IsEmpty}
use Rattle.sqlite.specs.State.{State, Opens}
use Rattle.sqlite.specs.Steps.{IsFresh}
use Rattle.sqlite_pool.specs.Opening.{IsBlankFile}
use Rattle.sqlite_trees.specs.Tree.{Trees}
use Rattle.sqlite_trees.specs.View.{View}
use Rattle.sqlite_wal.specs.Recovery.{Image}
use Rattle.bank_files.specs.declared.new_files.TheConstants.{PAGE_BYTES}

-- a store that was made, with no table
pub record IsMadeEmpty (v : View) : Type 0 where
  pub fresh : IsFresh v
  pub is_open : IsTrue v.is_open
  pub empty : IsEmpty v.trees

-- a connection to a database with no table, which was made just now
pub record IsMadeOver (s : State) : Type 0 where
  pub opens : Opens s
  pub empty : IsEmpty s.committed.trees

-- the trees are those that the files held, or they held nothing and there are none
abbrev pub AreFound : Image → Trees → Type 0
AreFound image trees = AreFoundIn image trees ⊎ (IsBlankFile PAGE_BYTES image × IsEmpty trees)

-- a connection that was opened on files that held this
pub record IsOpenedOn (image : Image) (s : State) : Type 0 where
  pub opens : Opens s
  pub holds : (db : Trees) → HoldsDatabase image db → s.committed.trees ≡ db
  pub reads : AreFound image s.committed.trees
