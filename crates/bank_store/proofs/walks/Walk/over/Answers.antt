-- From the least number on all are to come.
use Rattle.std.proofs.Common.{filter, refl}
use Rattle.walked_rows.proofs.{Keys.all_left, Keys.keys_filter, Rises.le_itself}
use Rattle.walked_rows.specs.Rows.{LEAST}
use Rattle.bank_store.proofs.walks.Walk.over.Goals as goal

pub returns : goal.returns
returns g c = record {
  same_reference = refl;
  same = refl;
  all = λ all has.
      let row = g.R.WalkedRow in
      let given = row.is_given c.args.of in
      rw c.new.ensures (all_left row.key (filter given all)
      (keys_filter row.key given all (g.met.R.WalkedRow.have_keys _ all has)));
  rises = rw c.new.ensures (le_itself LEAST);
  fresh = λ told. absurd (let it = told in cc);
}
