-- The count, and then what is beyond it.
use Rattle.std.proofs.Common.{subst, sym}
use Rattle.sqlite.specs.Effect.{Database}
use Rattle.store_rows.specs.believed.Rules.{HoldsBank, OfRows}
use Rattle.bank_transactions.specs.believed.Stored.{HoldsDecided}
use Rattle.bank_transactions.proofs.LookUps.{reads_both, reads_ok, reads_wider, strays_fail, strays_then}
use Rattle.bank_transactions.proofs.Exits.{clean_at, handed_on}
use Rattle.bank_transactions.proofs.strays.last_decided.Goals as goal

pub none_stray-requires : goal.none_stray-requires
none_stray-requires g c =
    let one = c.in_ok-decided.ensures in record {
      most = one.within;
      held = λ clean. subst (λ (db : Database). OfRows (λ rows. HoldsDecided rows c.in_ok-decided.decided) db)
          (sym (one.says.says.leaves clean).0.now) (one.stored clean);
    }

pub returns-in_err-decided-clause-says : goal.returns-in_err-decided-clause-says
returns-in_err-decided-clause-says g c =
    rw (handed_on c.from_residual.result c.from_residual.ensures.1) (reads_wider c.in_err-decided.ensures.says)

pub returns-in_err-none_stray-clause-says : goal.returns-in_err-none_stray-clause-says
returns-in_err-none_stray-clause-says g c =
    rw (handed_on c.from_residual-in_err-none_stray.result c.from_residual-in_err-none_stray.ensures.1)
    (strays_fail (strays_then c.in_ok-decided.ensures.says c.in_err-none_stray.ensures.looks))

pub returns-clause-says : goal.returns-clause-says
returns-clause-says g c = reads_wider (reads_both c.in_ok-decided.ensures.says (reads_ok c.in_ok-none_stray.ensures.looks)
    (λ t so is. tt) (λ t so is last. is))

pub returns-clause-stored : goal.returns-clause-stored
returns-clause-stored g c clean rows has =
    let one = c.in_ok-decided.ensures in
    let two = c.in_ok-none_stray.ensures in
    let before = clean_at two.looks.says.survives clean in (
      one.stored before rows has,
      two.none clean rows (subst (λ (db : Database). HoldsBank db rows) (sym (one.says.says.leaves before).0.now) has),
    )

pub returns-clause-lies : goal.returns-clause-lies
returns-clause-lies g c clean file =
    c.in_ok-decided.ensures.lies (clean_at c.in_ok-none_stray.ensures.looks.says.survives clean) file
