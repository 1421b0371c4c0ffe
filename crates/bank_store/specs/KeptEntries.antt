-- The kept requests of a file as entries of a log.
use Rattle.std.specs.Prelude.{◌≡◌, ◌≤◌, ◌<◌, ◌+◌, ◌++◌, ℕ, pos, List, map, take, Option, Some, None}
use Rattle.std.specs.List.{AllByRecursion}
use Rattle.sqlite.specs.Effect.{Database}
use Rattle.posting_core.specs.believed.Batches.{joined}
use Rattle.posting_core.specs.believed.LogEntries.{AnsweredRequest, entry_of}
use Rattle.posting_core.specs.declared.followed.TheConstants.{ENTRIES_PER_ANSWER}
use Rattle.posting_rules.specs.declared.limits.TheConstants.{MAX_DECIDED}
use Rattle.store_rows.specs.believed.Rules.{OfRows}
use Rattle.bank_transactions.specs.believed.Stored.{HoldsDecided}
use Rattle.walked_rows.specs.KeptRows.{HoldsKept, KeptItem, kept_key}
use Rattle.walked_rows.specs.Requests.{IsAnsweredRow, moment_under, reply_in, request_in}
use Rattle.walked_rows.specs.Rows.{items_from}

-- a kept row as its entry has it
abbrev pub answered_in : KeptItem → AnsweredRequest
answered_in k = record { request = request_in k; reply = reply_in k; moment = moment_under k.posting }

-- its entry
abbrev pub entry_in : KeptItem → List ℕ
entry_in k = entry_of (answered_in k)

-- ---- what an answer gives

-- the rows after an ordinal, up to so many as an answer gives
abbrev pub given_after : ℕ → List KeptItem → List KeptItem
given_after after all = take ENTRIES_PER_ANSWER (items_from kept_key (pos (after + 1)) all)

-- their entries were put after what was there, one after another, and each is that of a request
abbrev pub PutsEntries : ℕ → List KeptItem → List ℕ → List ℕ → Type 0
PutsEntries after all old new =
    (new ≡ old ++ joined (map entry_in (given_after after all))) × AllByRecursion IsAnsweredRow (given_after after all)

-- Of whatever rows a file has these are given; or fewer requests are decided, as its bank's row says, or more are asked
-- for than a bank decides.
abbrev pub GivesStored : Database → ℕ → Option (List ℕ) → Type 0
GivesStored db after (Some bytes) = (all : List KeptItem) → HoldsKept db all
    → (bytes ≡ joined (map entry_in (given_after after all))) × AllByRecursion IsAnsweredRow (given_after after all)
GivesStored db after None =
    after ≤ MAX_DECIDED → OfRows (λ rows. (decided : ℕ) → HoldsDecided rows decided → decided < after) db
