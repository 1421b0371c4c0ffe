-- There is room for the walk, and what was told of its rows to come is told of all rows of the bank.
use Rattle.std.proofs.Common.{rules, ◌≡◌, Err, refl}
use Rattle.bank_reports.proofs.BankReads.{reads_down, reads_lent}
use Rattle.bank_reports.proofs.OfAll.{added_of_all, table_read}
use Rattle.bank_reports.proofs.Refused.{err_is}
use Rattle.bank_store.proofs.RoomForWalks.{walk_fits}
use Rattle.bank_reports.proofs.passes.add_each.Goals as goal

-- ---- there is room for the walk

pub each_row-requires : goal.each_row-requires
each_row-requires g c = walk_fits g.row.R g.met.R.Summed.few_bytes

pub add_rows-requires : goal.add_rows-requires
add_rows-requires g c =
    let begins = c.in_ok-walk.ensures.begins in
    (walk_fits g.row.R g.met.R.Summed.few_bytes, (c.requires, (begins.rises, begins.fresh)))

pub drop-walk-requires : goal.drop-walk-requires
drop-walk-requires g c = walk_fits g.row.R g.met.R.Summed.few_bytes

-- ---- the bank was down

pub returns-in_err-walk : goal.returns-in_err-walk
returns-in_err-walk g c =
    let was = c.in_err-walk.ensures.begins.fault in
    let same : c.from_residual.result ≡ Err c.in_err-walk.field-0.0 = err_is _ c.from_residual.ensures.1 in
    record {
      added = rw same tt;
      reads = rw (same, was.0) (reads_lent refl (reads_down c.args.bank.now was.1) (search rules));
    }

-- ---- what was told

pub returns-clause-reads : goal.returns-clause-reads
returns-clause-reads g c =
    table_read c.in_ok-walk.ensures.begins c.add_rows.result g.R.WalkedRow.Breaks c.add_rows.ensures.reads (search rules)

pub returns-clause-added : goal.returns-clause-added
returns-clause-added g c = added_of_all c.in_ok-walk.ensures.begins c.add_rows.result g.R.Summed.with_rows
    c.args.sums.now c.add_rows.new.sums c.add_rows.ensures.added (λ late. search rules)
