-- The replies to commands on whatever tables a counter shows.
use Rattle.std.specs.Prelude.{◌≡◌, ℕ, List, [], ◌∷◌}
use Rattle.posting_rules.specs.believed.ByCommands.{HasRoomForAll}
use Rattle.posting_rules.specs.believed.Changes.{reply_past, tables_closed, tables_past, tables_with_branch}
use Rattle.posting_rules.specs.believed.Commands.{Command, Open, Post, Close}
use Rattle.posting_rules.specs.believed.{Counter.Seen, Tables.Tables}

-- the replies to what is posted among them, in order
abbrev pub replies_past_commands : Tables → List Command → List (List ℕ)
replies_past_commands t [] = []
replies_past_commands t (Open branch terms ∷ cs) = replies_past_commands (tables_with_branch t branch terms) cs
replies_past_commands t (Post moment bytes ∷ cs) =
    reply_past t bytes ∷ replies_past_commands (tables_past t moment bytes) cs
replies_past_commands t (Close first last ∷ cs) = replies_past_commands (tables_closed t first last) cs

-- so they are on whatever tables with room for all it showed
abbrev pub RepliesByTables : (old new : Seen) → List Command → List (List ℕ) → Type 0
RepliesByTables old new commands replies =
    new.honest → (t : Tables) → HasRoomForAll t → old.tables t → replies_past_commands t commands ≡ replies
