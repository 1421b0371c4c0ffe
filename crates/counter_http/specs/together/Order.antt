-- Clients that are served at once: there is one order of all their messages, in which the bank takes the
-- records, and each client has its answers in it. The bank is old before and new after, and seen says what is
-- seen of it. The ends of a client are known before as k and after as l.
use Rattle.std.specs.Prelude.{◌≡◌, ◌⊎◌, ◌<◌, ◌≤◌, ◌+◌, ℕ, ◌==◌, List, [], ◌∷◌, ◌++◌, length, map, Bool, true, false, Option, None}
use Rattle.std.specs.Prelude.{⊤}
use Rattle.std.specs.List.{AllByRecursion, flat_map}
use Rattle.posting_rules.specs.declared.fault.Fault.{Fault}
use Rattle.posting_rules.specs.declared.fault.Fault.TheVariants.{Memory}
use Rattle.posting_rules.specs.declared.limits.TheConstants.{RECORDS_PER_BATCH}
use Rattle.posting_rules.specs.believed.Commands.{Command}
use Rattle.posting_rules.specs.believed.Runs.{replies_to}
use Rattle.counter_http.specs.believed.Answers.{asked_by, is_posting}
use Rattle.counter_http.specs.Figures.{Counts, nothing, told_to}
use Rattle.counter_http.specs.declared.figures.Figures.{Figures}
use Rattle.counter_http.specs.declared.figures.Tally.{Tally}
use Rattle.counter_http.specs.believed.Turns.{Turn, commands_of}

-- ---- one order of all messages

-- a message that a client has its answer to: how many clients came before that one, the message in its turn, the
-- figures, if it was told them, and the answer
pub record Step : Type 0 where
  pub client : ℕ
  pub turn : Turn
  pub figures : Option Figures
  pub answer : List ℕ

abbrev pub turn_in : Step → Turn
turn_in s = s.turn

-- whose messages they are
abbrev pub client_of : Step → ℕ
client_of s = s.client

abbrev pub clients_of : List Step → List ℕ
clients_of ss = map client_of ss

abbrev pub turns_of : List Step → List Turn
turns_of ss = map turn_in ss

abbrev pub submitted_by : List Step → List Command
submitted_by ss = commands_of (turns_of ss)

abbrev pub if_own : {A : Type 0} → Bool → A → List A → List A
if_own true x xs = x ∷ xs
if_own false x xs = xs

-- the messages of one client, in their order
abbrev pub of_client : ℕ → List Step → List Turn
of_client i [] = []
of_client i (s ∷ ss) = if_own (s.client == i) s.turn (of_client i ss)

-- and the answers to them
abbrev pub answers_of : ℕ → List Step → List (List ℕ)
answers_of i [] = []
answers_of i (s ∷ ss) = if_own (s.client == i) s.answer (answers_of i ss)

-- ---- rounds

-- first messages that submit nothing, of which those that ask for the figures are told these, and then the records that
-- were submitted together, if there were any, under one reading of the clock, and by how many commits
pub record Round : Type 0 where
  pub figures : Figures
  pub reads : List Step
  pub readings : List ℕ
  pub posts : List Step
  pub commits : ℕ

abbrev pub is_read_under : Figures → Step → Type 0
is_read_under figures s =
    (is_posting (asked_by s.turn.message) ≡ false) × (s.figures ≡ told_to figures (asked_by s.turn.message))

abbrev pub is_posted_under : List ℕ → Step → Type 0
is_posted_under readings s =
    (is_posting (asked_by s.turn.message) ≡ true) × (readings ≡ s.turn.moment ∷ []) × (s.figures ≡ None)

-- each commit took some of the records, and each record was taken by one
pub record AreCommits (commits posts : ℕ) : Type 0 where
  pub few : commits ≤ posts
  pub some : 0 < posts → 0 < commits

pub record IsRound (r : Round) : Type 0 where
  pub reads : AllByRecursion (is_read_under r.figures) r.reads
  pub once : length r.readings ≤ 1
  pub together : AllByRecursion (is_posted_under r.readings) r.posts
  pub few : length r.posts ≤ RECORDS_PER_BATCH
  pub commits : AreCommits r.commits (length r.posts)

-- the bank had no memory for a call, by the reason that it gives
pub record HasSpared {C : Type 0} (reason : Fault → C → C → Type 0) : Type 0 where
  pub before : C
  pub after : C
  pub why : reason Memory before after

-- as many records were posted in a round as are submitted together, or the bank has no memory for that
abbrev pub FillsRound : (spared : Type 0) → (posts : List Step) → Type 0
FillsRound spared posts = (RECORDS_PER_BATCH ≤ length posts) ⊎ spared

-- the call that the bank refused last had no record in it, or as many as are submitted together, or the bank has no memory
abbrev pub BreaksOff : (spared : Type 0) → (refused : List Step) → Type 0
BreaksOff spared refused = (submitted_by refused ≡ []) ⊎ FillsRound spared refused

-- the clock is read only where records are posted, or the bank has no memory for that
abbrev pub IsDated : {C : Type 0} → (reason : Fault → C → C → Type 0) → Round → Type 0
IsDated reason r = 0 < length r.readings → (0 < length r.posts) ⊎ HasSpared reason

-- so it is in each round, and in the last one it may be where they were refused
abbrev pub AreDated : {C : Type 0} → (reason : Fault → C → C → Type 0) → List Round → (refused : List Step) → Type 0
AreDated reason [] refused = ⊤
AreDated reason (r ∷ []) refused = IsDated reason r ⊎ (0 < length refused)
AreDated reason (r ∷ s ∷ rs) refused = IsDated reason r × AreDated reason (s ∷ rs) refused

abbrev pub steps_in : Round → List Step
steps_in r = r.reads ++ r.posts

abbrev pub steps_of : List Round → List Step
steps_of rs = flat_map steps_in rs

abbrev pub readings_in : Round → List ℕ
readings_in r = r.readings

abbrev pub readings_of : List Round → List ℕ
readings_of rs = flat_map readings_in rs

-- ---- the figures

abbrev pub commits_of : List Round → ℕ
commits_of [] = 0
commits_of (r ∷ rs) = r.commits + commits_of rs

-- the replies to all records of some rounds, after a log, were counted
abbrev pub CountsRounds : List Command → List Round → Tally → Type 0
CountsRounds log rounds tally =
    Counts nothing tally (replies_to log (submitted_by (steps_of rounds))) (commits_of rounds)

-- the figures of each round count those before it
abbrev pub AreFigured : List Command → (before rounds : List Round) → Type 0
AreFigured log before [] = ⊤
AreFigured log before (r ∷ rs) = CountsRounds log before r.figures.tally × AreFigured log (before ++ r ∷ []) rs
