-- What was done with the bank is what was asked for.
use Rattle.std.proofs.Common.{refl, sym}
use Rattle.bank_commands.proofs.command.work_found.Goals as goal

pub returns-in-Load : goal.returns-in-Load
returns-in-Load g c =
    let it = c.load_found.ensures in
    rw c.in-Load.is record { does = it.loads; leaves = ((refl, refl, refl), refl); unprinted = it.unprinted; spares = it.spares }

pub returns-in-Post : goal.returns-in-Post
returns-in-Post g c =
    let it = c.post_found.ensures in
    rw c.in-Post.is record { does = it.posts; leaves = tt; unprinted = it.unprinted; spares = it.spares }

pub returns-in-Drive : goal.returns-in-Drive
returns-in-Drive g c =
    let it = c.drive_found.ensures in
    rw c.in-Drive.is record { does = it.drives; leaves = (refl, refl, refl); unprinted = it.unprinted; spares = it.spares }

pub returns-in-Audit : goal.returns-in-Audit
returns-in-Audit g c =
    let it = c.audit_found.ensures in
    rw c.in-Audit.is record { does = it.audits; leaves = ((refl, refl, refl), refl); unprinted = it.unprinted; spares = it.spares }

pub returns-in-Statement : goal.returns-in-Statement
returns-in-Statement g c =
    let it = c.statement_found.ensures in
    rw c.in-Statement.is record { does = it.states; leaves = ((refl, refl, refl), refl); unprinted = it.unprinted; spares = it.spares }

pub returns-in-Statements : goal.returns-in-Statements
returns-in-Statements g c =
    let it = c.statements_found.ensures in
    rw c.in-Statements.is record { does = it.states; leaves = ((refl, refl, refl), refl); unprinted = it.unprinted; spares = it.spares }

pub returns-in-Replay : goal.returns-in-Replay
returns-in-Replay g c =
    let it = c.replay_found.ensures in
    rw c.in-Replay.is record { does = it.replays; leaves = ((refl, refl, refl), refl); unprinted = it.unprinted; spares = it.spares }

pub returns-in-Digest : goal.returns-in-Digest
returns-in-Digest g c =
    let it = c.digest_found.ensures in
    rw c.in-Digest.is record { does = it.digests; leaves = ((refl, refl, refl), refl); unprinted = it.unprinted; spares = it.spares }

pub returns-in-Export : goal.returns-in-Export
returns-in-Export g c =
    let it = c.export_found.ensures in
    rw c.in-Export.is record { does = it.exports; leaves = ((refl, refl, refl), refl); unprinted = it.unprinted; spares = it.spares }

pub returns-in-Log : goal.returns-in-Log
returns-in-Log g c =
    let it = c.log_found.ensures in
    rw c.in-Log.is record { does = it.logs; leaves = ((refl, refl, refl), refl); unprinted = it.unprinted; spares = it.spares }

pub returns-in-Plan : goal.returns-in-Plan
returns-in-Plan g c =
    let it = c.plan_found.ensures in
    rw c.in-Plan.is record { does = it.plans; leaves = ((refl, refl, refl), refl); unprinted = it.unprinted; spares = it.spares }

pub returns-in-Seal : goal.returns-in-Seal
returns-in-Seal g c =
    let it = c.seal_found.ensures in
    rw c.in-Seal.is record { does = it.seals; leaves = ((refl, refl, refl), refl); unprinted = it.unprinted; spares = it.spares }

pub returns-in-Follow : goal.returns-in-Follow
returns-in-Follow g c =
    let it = c.follow_found.ensures in
    rw c.in-Follow.is record { does = it.follows; leaves = refl; unprinted = it.unprinted; spares = it.spares }

pub returns-in-Serve : goal.returns-in-Serve
returns-in-Serve g c =
    let it = c.serve_found.ensures in
    rw (c.in-Serve.is, sym c.unwrap_or-most.ensures) record { does = it.serves; leaves = (refl, refl, refl); unprinted = it.unprinted; spares = it.spares }
