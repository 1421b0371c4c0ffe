-- Commands one after another.
use Rattle.std.proofs.Common.{◌≡◌, ℕ, suc, List, [], ◌∷◌, ◌++◌, length, refl, ap}
use Rattle.message_records.specs.believed.Spelling.{reply_spelling}
use Rattle.posting_rules.specs.believed.Commands.{Command, Open, Post, Close, AreCommands}
use Rattle.posting_rules.specs.believed.{Entries.reply, Runs.followed_by, Runs.replies_to, Runs.ArePosts}

-- commands and then others after a log
pub after-append : (log cs ds : List Command) → followed_by log (cs ++ ds) ≡ followed_by (followed_by log cs) ds
after-append log [] ds = refl
after-append log (c ∷ cs) ds = after-append (c ∷ log) cs ds

-- they are commands of the bank where both are
pub commands_after : (log cs : List Command) → AreCommands log → AreCommands cs → AreCommands (followed_by log cs)
commands_after log [] are all = are
commands_after log (c ∷ cs) are all = commands_after (c ∷ log) cs (all.0, are) all.1

pub commands_apart : (log cs : List Command) → AreCommands (followed_by log cs) → AreCommands log × AreCommands cs
commands_apart log [] are = (are, tt)
commands_apart log (c ∷ cs) are = let each = commands_apart (c ∷ log) cs are in (each.0.1, (each.0.0, each.1))

pub commands_both : (cs ds : List Command) → AreCommands cs → AreCommands ds → AreCommands (cs ++ ds)
commands_both [] ds all more = more
commands_both (c ∷ cs) ds all more = (all.0, commands_both cs ds all.1 more)

-- the replies to commands and then others
pub replies_to-append : (log cs ds : List Command)
    → replies_to log (cs ++ ds) ≡ replies_to log cs ++ replies_to (followed_by log cs) ds
replies_to-append log [] ds = refl
replies_to-append log (Open b terms ∷ cs) ds = replies_to-append (Open b terms ∷ log) cs ds
replies_to-append log (Close first last ∷ cs) ds = replies_to-append (Close first last ∷ log) cs ds
replies_to-append log (Post m r ∷ cs) ds = ap (λ (t : List (List ℕ)). reply_spelling (reply log r) ∷ t)
    (replies_to-append (Post m r ∷ log) cs ds)

-- posts get a reply each
pub one_reply_each : (log cs : List Command) → ArePosts cs → length (replies_to log cs) ≡ length cs
one_reply_each log [] h = refl
one_reply_each log (Open b terms ∷ cs) h = absurd h
one_reply_each log (Close first last ∷ cs) h = absurd h
one_reply_each log (Post m r ∷ cs) h = ap suc (one_reply_each (Post m r ∷ log) cs h)
