-- What a crash may leave, said of more tables, and of a counter that leaves no more.
use Rattle.posting_rules.specs.believed.{Tables.Tables, Counter.Seen, Counter.LeavesNoMore, Counter.LeavesOnly}

-- what holds of all that a crash may leave may be said more weakly
pub leaves_weaker : (c : Seen) (P Q : Tables → Type 0) → ((t : Tables) → P t → Q t) → LeavesOnly c P
    → LeavesOnly c Q
leaves_weaker c P Q f all remains left = let it = all remains left in (it.0, it.1, f it.0 it.2)

-- a counter that leaves no more leaves only what it left
pub leaves_still : (old new : Seen) (P : Tables → Type 0) → LeavesNoMore old new → LeavesOnly old P
    → LeavesOnly new P
leaves_still old new P no_more all remains left =
    let before = no_more remains left in
    let it = all before.0 before.1 in
    (it.0, before.2 it.0 it.1, it.2)
