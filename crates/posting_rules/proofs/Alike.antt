-- Logs with equal tables give equal replies to whatever follows.
use Rattle.std.proofs.Common.{◌≡◌, ℕ, List, [], ◌∷◌, refl, sym, ap, ◌∙◌}
use Rattle.message_records.specs.believed.Spelling.{reply_spelling}
use Rattle.posting_rules.specs.believed.Commands.{Command, Open, Post, Close, AreCommands}
use Rattle.posting_rules.specs.{believed.Changes.tables_past, believed.Changes.tables_with_branch, believed.Entries.reply}
use Rattle.posting_rules.specs.believed.Changes.{tables_closed}
use Rattle.posting_rules.proofs.ClosedTables.{closing_shown}
use Rattle.posting_rules.specs.{believed.Tables.Tables, believed.Tables.AreTablesOf, believed.Runs.replies_to}
use Rattle.posting_rules.proofs.{Calls.opens, Records.past_reply, Records.past_shown}

pub answer_alike : (t : Tables) (one two cs : List Command) → AreTablesOf t one → AreTablesOf t two
    → AreCommands cs
    → replies_to one cs ≡ replies_to two cs
answer_alike t one two [] s u valid = refl
answer_alike t one two (Post m bytes ∷ cs) s u valid =
    ap (λ (out : List ℕ). out ∷ replies_to (Post m bytes ∷ one) cs)
    (sym (past_reply t one bytes s) ∙ past_reply t two bytes u)
    ∙ ap (λ (rest : List (List ℕ)). reply_spelling (reply two bytes) ∷ rest)
    (answer_alike (tables_past t m bytes) (Post m bytes ∷ one) (Post m bytes ∷ two) cs
    (past_shown t one m bytes s) (past_shown t two m bytes u) valid.1)
answer_alike t one two (Close first last ∷ cs) s u valid =
    answer_alike (tables_closed t first last) (Close first last ∷ one) (Close first last ∷ two) cs
    (closing_shown t one first last s) (closing_shown t two first last u) valid.1
answer_alike t one two (Open b terms ∷ cs) s u valid =
    let is = opens b terms valid.0.0 valid.0.3 in
    answer_alike (tables_with_branch t b terms) (Open b terms ∷ one) (Open b terms ∷ two) cs (is t one s)
    (is t two u) valid.1
