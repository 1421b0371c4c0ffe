use Rattle.std.proofs.Common.{◌≡◌, [], rules}
use Rattle.posting_core.specs.Plain.{plain_tables}
use Rattle.posting_core.proofs.InMemory.{plain_shows, shows_plain}
use Rattle.counter_once.proofs.First.{numbered}
use Rattle.counter_once.proofs.once.two_branches.Goals as goal

pub returns-clause-shows : goal.returns-clause-shows
returns-clause-shows c =
    let one : c.unwrap.result ≡ 1 = search rules in
    let two : c.unwrap-2.result ≡ 2 = search rules in
    numbered (plain_tables c.open_branch-2.new.self) c.unwrap.result c.unwrap-2.result one two
    (plain_shows c.open_branch-2.new.self _ (c.in_ok-open_branch-2.ensures.call.done.shows tt _
    (c.in_ok-open_branch.ensures.call.done.shows tt []
    (shows_plain c.new-bank.result [] tt c.new-bank.ensures))))
