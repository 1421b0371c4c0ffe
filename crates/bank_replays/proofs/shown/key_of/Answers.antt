-- The key is that of the row.
use Rattle.std.proofs.Common.{sym, ap, ◌∙◌}
use Rattle.std.specs.Prelude.{nat_abs}
use Rattle.bank_replays.proofs.shown.key_of.Goals as goal

pub returns : goal.returns
returns g c = ap nat_abs (sym c.number.ensures ∙ g.met.R.Shown.keyed c.args.row.now)
