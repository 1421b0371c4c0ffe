-- It was audited.
use Rattle.bank_store.proofs.AsFound.{as_found_spares}
use Rattle.bank_commands.proofs.reports.audit_found.Goals as goal

pub returns : goal.returns
returns g c =
    let it = c.audit.ensures in
    record {
      audits = (
        c.audit.result,
        c.print_audit.ensures.prints,
        record { bank = it.bank; file = it.file; memory = it.memory; up = it.up; leaves = it.leaves },
      );
      unprinted = c.print_audit.ensures.unprinted;
      spares = as_found_spares g.S.Store c.args.bank.now c.audit.new.bank it.leaves;
    }
