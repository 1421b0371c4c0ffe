use Rattle.std.proofs.Common.{◌≡◌, drop}
use Rattle.load_driver.proofs.Remote.{remote}
use Rattle.load_driver.proofs.accounts.remote_account.Given as goal

abbrev pub invariant-loop-row : goal.invariant-loop-row
invariant-loop-row l = remote l.branch l.rows l.place ≡ remote l.branch (drop l.row-index l.rows) l.left
