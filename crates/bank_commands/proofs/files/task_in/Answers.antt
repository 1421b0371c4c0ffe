use Rattle.std.proofs.Common.{◌≡◌, rules, Err}
use Rattle.command_line.specs.declared.fault.CommandFault.TheVariants.{Store}
use Rattle.bank_commands.proofs.Told.{task_idle, task_left, task_told, task_untouched}
use Rattle.bank_commands.proofs.files.task_in.Goals as goal

pub returns-in_err-look_for : goal.returns-in_err-look_for
returns-in_err-look_for g c =
    let f = c.in_err-look_for.field-0.0 in
    let same : c.from_residual.result ≡ Err f = search rules in
    record { tells = rw same (task_idle c.args.task.now f _); leaves = task_untouched c.args.task.now _ _ }

pub returns-in_err-spare_others : goal.returns-in_err-spare_others
returns-in_err-spare_others g c =
    let f = c.in_err-spare_others.field-0.0 in
    let same : c.from_residual-in_err-spare_others.result ≡ Err f = search rules in
    record { tells = rw same (task_idle c.args.task.now f _); leaves = task_untouched c.args.task.now _ _ }

pub returns-in_default-opened : goal.returns-in_default-opened
returns-in_default-opened g c =
    record { tells = task_idle c.args.task.now Store _; leaves = task_untouched c.args.task.now _ _ }

pub returns : goal.returns
returns g c =
    let does = c.command_over-end.ensures.does in
    record {
      tells = task_told _ _ _ _ _ _ _ _ c.args.task.now _ _ _ _ _ _ _ does;
      leaves = task_left _ _ _ _ _ _ _ _ c.args.task.now _ _ _ _ _ _ _ does;
    }
