-- What is written, and spaces after it.
use Rattle.std.proofs.Common.{◌≡◌, length}
use Rattle.message_records.proofs.DraftedFields.{draft_done}
use Rattle.message_records.proofs.draft.Draft.finish.Goals as goal

pub returns : goal.returns
returns g c =
    let all : length c.self.inside.bytes ≡ g.row.SIZE = c.self.invariant.0 in
    draft_done g.row.SIZE c.self.inside.written c.self.inside.bytes c.args.self all c.self.invariant.1
    c.self.view_is c.self.invariant.2
