-- Whether the files were blank or held a database, what was found is as they held it, and so is what an open that failed left.
use Rattle.std.proofs.Common.{arith, inl, subst}
use Rattle.std.proofs.lemmas.Result.{IfErr-weaker, IfOk-weaker}
use Rattle.sqlite.proofs.FileLemmas.{reads_then, same_image}
use Rattle.sqlite.specs.Files.{file_state}
use Rattle.bank_files.proofs.FoundFiles.{found_on}
use Rattle.bank_files.proofs.Leftovers.{fails_before}
use Rattle.bank_files.specs.Opening.{IsOpenedOn}
use Rattle.bank_files.proofs.open_files.open_over.Goals as goal

pub returns-then-are_blank-clause-opened : goal.returns-then-are_blank-clause-opened
returns-then-are_blank-clause-opened g c =
    let read = c.are_blank.ensures in
    IfOk-weaker c.make_over.result _ _ (λ conn opened clean. subst (λ i. IsOpenedOn i (file_state conn))
    (same_image read.log read.db) (opened clean)) c.make_over.ensures.opened

pub returns-then-are_blank-clause-failed : goal.returns-then-are_blank-clause-failed
returns-then-are_blank-clause-failed g c =
    let read = c.are_blank.ensures in
    IfErr-weaker c.make_over.result _ _ (λ e failed clean. fails_before _ _ read.log read.db read.counts e (failed clean))
    c.make_over.ensures.failed

pub returns-in-Ok-clause-opened : goal.returns-in-Ok-clause-opened
returns-in-Ok-clause-opened g c now =
    let found = c.in-Ok.ensures.found now in
    let log = reads_then c.are_blank.ensures.log c.options_for-options.ensures.log in
    let db = reads_then c.are_blank.ensures.db c.options_for-options.ensures.db in
    subst (λ image. IsOpenedOn image (file_state c.in-Ok.conn)) (same_image log db)
    (found_on _ (file_state c.in-Ok.conn) (c.in-Ok.ensures.opened now).0
    (record { holds = found.holds; reads = found.reads }))

pub returns-in-Err-clause-failed : goal.returns-in-Err-clause-failed
returns-in-Err-clause-failed g c clean =
    let log = reads_then c.are_blank.ensures.log c.options_for-options.ensures.log in
    let db = reads_then c.are_blank.ensures.db c.options_for-options.ensures.db in
    fails_before _ _ log db (omega (arith, c.are_blank.ensures.counts, c.options_for-options.ensures.counts)) _ (record {
      left = inl (c.in-Err.ensures.unharmed clean);
      kind = _;
      cause = c.in-Err.ensures.cause clean;
    })
