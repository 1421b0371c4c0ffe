-- What trees show.
use Rattle.sqlite.specs.Held.{state}
use Rattle.store_rows.proofs.ShownOnce.{of_trees, one_bank, to_trees}
use Rattle.store_rows.proofs.laws.trees_show_law.Goals as goal

pub returns-clause-leaves : goal.returns-clause-leaves
returns-clause-leaves g c t shows = to_trees (state g.S.Store c.args.conn.now).now t shows

pub returns-clause-finds : goal.returns-clause-finds
returns-clause-finds g c live t left = of_trees (state g.S.Store c.args.conn.now).now t
    (c.schema-schema.ensures.live live).0 left

pub returns-clause-once : goal.returns-clause-once
returns-clause-once g c trees a b p q = one_bank trees a b p q
