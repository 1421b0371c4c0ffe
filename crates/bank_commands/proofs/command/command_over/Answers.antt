-- What was done is what was asked for.
use Rattle.std.proofs.Common.{refl, sym}
use Rattle.bank_commands.specs.Doing.{DoesOver}
use Rattle.bank_commands.proofs.command.command_over.Goals as goal

pub returns-in-Init : goal.returns-in-Init
unfolding DoesOver
returns-in-Init g c =
    let it = c.init_over.ensures in
    rw c.in-Init.is record {
      does = (it.inits, ((refl, refl, refl), refl));
      unprinted = it.unprinted;
      idle = it.idle;
    }

pub returns-in-Migrate : goal.returns-in-Migrate
unfolding DoesOver
returns-in-Migrate g c =
    let it = c.migrate_over.ensures in
    rw c.in-Migrate.is record {
      does = (it.migrates, ((refl, refl, refl), refl));
      unprinted = it.unprinted;
      idle = it.idle;
    }

pub returns-in-Share : goal.returns-in-Share
unfolding DoesOver
returns-in-Share g c =
    let it = c.share_over.ensures in
    rw (c.in-Share.is, sym c.unwrap_or-most.ensures)
    record { does = (it.serves, (refl, refl, refl)); unprinted = it.unprinted; idle = it.idle }

pub returns-in-With : goal.returns-in-With
unfolding DoesOver
returns-in-With g c =
    let it = c.work_over.ensures in
    rw c.in-With.is record { does = it.does; unprinted = it.unprinted; idle = it.idle }
