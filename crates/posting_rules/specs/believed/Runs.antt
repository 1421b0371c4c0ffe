-- Commands one after another.
use Rattle.std.specs.Prelude.{ℕ, List, [], ◌∷◌, map}
use Rattle.message_records.specs.believed.Spelling.{reply_spelling}
use Rattle.posting_rules.specs.believed.Commands.{Command, Open, Post, Close}
use Rattle.posting_rules.specs.believed.Entries.{reply}

-- the log, whose newest command is first, with these after it, in the order in which they were given
abbrev pub followed_by : List Command → List Command → List Command
followed_by log [] = log
followed_by log (c ∷ cs) = followed_by (c ∷ log) cs

-- records that are posted at one moment
abbrev pub posts : ℕ → List (List ℕ) → List Command
posts moment records = map (Post moment) records

-- the replies to what is posted, in order
abbrev pub replies_to : List Command → List Command → List (List ℕ)
replies_to log [] = []
replies_to log (Open branch terms ∷ cs) = replies_to (Open branch terms ∷ log) cs
replies_to log (Post moment bytes ∷ cs) = reply_spelling (reply log bytes) ∷ replies_to
    (Post moment bytes ∷ log) cs
replies_to log (Close first last ∷ cs) = replies_to (Close first last ∷ log) cs

-- no branch is opened among them, and no books are closed
abbrev pub ArePosts : List Command → Type 0
ArePosts [] = Unit {0}
ArePosts (Open branch terms ∷ cs) = ⊥
ArePosts (Post moment bytes ∷ cs) = ArePosts cs
ArePosts (Close first last ∷ cs) = ⊥
