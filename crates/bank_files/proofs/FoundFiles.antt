-- What an open finds, by what the files held.
use Rattle.std.proofs.Common.{◌≤◌, arith, inl, inr}
use Rattle.sqlite.specs.{Files.HoldsDatabase, Start.FindsIn, State.State, State.Opens}
use Rattle.sqlite_pool.proofs.ProbeLemmas.{not_blank}
use Rattle.sqlite_pool.specs.{Opening.IsBlankFile, Stored.reserved}
use Rattle.sqlite_trees.specs.Tree.{Trees}
use Rattle.sqlite_wal.specs.Recovery.{Image}
use Rattle.bank_files.specs.{Opening.IsMadeOver, Opening.IsOpenedOn, declared.new_files.TheConstants.PAGE_BYTES}

-- files that hold a database, of whatever page size, aren't blank
is_not_blank : (image : Image) (db : Trees) → HoldsDatabase image db → ¬ IsBlankFile PAGE_BYTES image
is_not_blank image db held =
    let few : reserved held.0 ≤ 8 = grind arith in
    let large : 504 ≤ held.0 = omega (arith, held.1.0) in
    not_blank held.0 image held.2.pages held.2.found large held.2.ours.file.sound _ (omega arith)

-- a database that was made in blank files
pub made_on : (image : Image) (s : State) → IsBlankFile PAGE_BYTES image → IsMadeOver s
    → IsOpenedOn image s
made_on image s blank made = record {
  opens = made.opens;
  holds = λ db held. absurd (is_not_blank image db held blank);
  reads = inr (blank, made.empty);
}

-- a database that was found in files
pub found_on : (image : Image) (s : State) → Opens s → FindsIn image s → IsOpenedOn image s
found_on image s opens found = record { opens = opens; holds = found.holds; reads = inl found.reads }
