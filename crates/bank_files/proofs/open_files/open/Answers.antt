-- The files are as they were when the path was opened.
use Rattle.std.proofs.Common.{ℕ, Bool, cond, List, ap₂, subst}
use Rattle.sqlite.specs.Files.{file_state}
use Rattle.sqlite_disk.specs.Events.{Event, replay}
use Rattle.sqlite_wal.specs.Recovery.{Image}
use Rattle.bank_files.specs.Opening.{IsOpenedOn}
use Rattle.bank_files.proofs.open_files.open.Goals as goal

abbrev image : List ℕ → List ℕ → Image
image log db = record { log = log; db = db }

abbrev seen : List ℕ → List ℕ → Bool → List Event → List ℕ
seen log db is_log history = (replay (cond is_log log db) history).seen

pub returns-in-Ok-open_over-clause-opened : goal.returns-in-Ok-open_over-clause-opened
returns-in-Ok-open_over-clause-opened g c clean =
    let (log, db) = c.in-Ok-files_at.ensures.fresh in
    let held = seen g.S.Start.log g.S.Start.db in
    let same = ap₂ image (ap₂ held log.0 log.1) (ap₂ held db.0 db.1) in
    subst (λ i. IsOpenedOn i (file_state c.in-Ok-open_over.conn)) same (c.in-Ok-open_over.ensures.opened clean)
