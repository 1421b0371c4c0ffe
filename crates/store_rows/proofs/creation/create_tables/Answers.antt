-- What the tables and the first row leave.
use Rattle.store_rows.proofs.AddMeta.{not_started, started}
use Rattle.store_rows.proofs.creation.create_tables.Goals as goal

pub returns : goal.returns
returns g c = started g.S.Store c.args.tx.now c.make_tables.new.tx c.add_meta.new.tx
    c.in_ok-make_tables.ensures.says c.in_ok-add_meta.field-0 c.in_ok-add_meta.ensures

pub returns-in_err-add_meta : goal.returns-in_err-add_meta
returns-in_err-add_meta g c = not_started g.S.Store c.args.tx.now c.make_tables.new.tx c.add_meta.new.tx
    c.in_ok-make_tables.ensures.says c.in_err-add_meta.field-0.0 _ c.from_residual-in_err-add_meta.ensures.1
    c.in_err-add_meta.ensures
