-- Each command is added in its turn.
use Rattle.command_line.specs.CommandLine.{audit_app, bank_alone, decode_app, digest_app, drive_app, encode_app}
use Rattle.command_line.specs.CommandLine.{export_app, follow_app, init_app, load_app, log_app, migrate_app}
use Rattle.command_line.specs.CommandLine.{plan_app, post_app, replay_app, seal_app, serve_app, statement_app, statements_app}
use Rattle.command_line.specs.CommandLine.{why_app}
use Rattle.command_line.proofs.command_line.bank_command.Goals as goal

pub returns : goal.returns
returns c =
    let init = c.with_command-bank.ensures bank_alone init_app c.bank_alone.ensures c.init_command.ensures in
    let load = c.with_command-bank-2.ensures _ load_app init c.load_command.ensures in
    let post = c.with_command-bank-3.ensures _ post_app load c.command_on_file.ensures in
    let drive = c.with_command-bank-4.ensures _ drive_app post c.drive_command.ensures in
    let audit = c.with_command-bank-5.ensures _ audit_app drive c.command_on_file-2.ensures in
    let statement = c.with_command-bank-6.ensures _ statement_app audit c.statement_command.ensures in
    let statements = c.with_command-bank-7.ensures _ statements_app statement c.statements_command.ensures in
    let replay = c.with_command-bank-8.ensures _ replay_app statements c.command_on_file-3.ensures in
    let digest = c.with_command-bank-9.ensures _ digest_app replay c.digest_command.ensures in
    let export = c.with_command-bank-10.ensures _ export_app digest c.export_command.ensures in
    let log = c.with_command-bank-11.ensures _ log_app export c.log_command.ensures in
    let plan = c.with_command-bank-12.ensures _ plan_app log c.command_on_file-4.ensures in
    let follow = c.with_command-bank-13.ensures _ follow_app plan c.follow_command.ensures in
    let serve = c.with_command-bank-14.ensures _ serve_app follow c.serve_command.ensures in
    let migrate = c.with_command-bank-15.ensures _ migrate_app serve c.command_on_file-5.ensures in
    let seal = c.with_command-bank-16.ensures _ seal_app migrate c.command_on_file-6.ensures in
    let why = c.with_command-bank-17.ensures _ why_app seal c.why_command.ensures in
    let encode = c.with_command-bank-18.ensures _ encode_app why c.command_alone.ensures in
    c.with_command.ensures _ decode_app encode c.decode_command.ensures
