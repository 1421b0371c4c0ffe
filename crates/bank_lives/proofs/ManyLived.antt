-- What is found after any number of lives.
use Rattle.std.proofs.Common.{◌≡◌, ◌≤◌, ℕ, List, [], ◌∷◌, ◌++◌, length, take, refl, sym, subst, arith, inl, inr}
use Rattle.std.proofs.Math.Seq.{take-length}
use Rattle.posting_rules.specs.{believed.Commands.Command, believed.Entries.decided, believed.Laws.NoneShares}
use Rattle.posting_rules.specs.{believed.Runs.followed_by, believed.Tables.Tables, believed.Tables.AreTablesOf}
use Rattle.posting_rules.specs.believed.Counter.{Seen, StandsAt, LeavesOnly, ShowsPrefix, ShowsLog}
use Rattle.posting_rules.proofs.{Remaining.leaves_weaker, Requests.are_new, Requests.none_shares}
use Rattle.bank_lives.specs.believed.Lives.{EndsLife, Life}
use Rattle.bank_lives.specs.believed.ManyLives.{Given, IsOpenedOn, Outlasts, LeavesShown, Lives, ShowsAfter}
use Rattle.bank_lives.specs.believed.ManyLives.{found, released, replayed, stopped}
use Rattle.bank_lives.proofs.Lived.{end_leaves, life_down, life_given, life_honest, life_lives}

-- each request is posted once, whatever led to a log
pub each_once : NoneShares
each_once log = none_shares (decided log) (are_new log)

-- the prefix of what was given that is found
pub record Begins (seen : Seen) (log given : List Command) (least : ℕ) : Type 0 where
  pub count : ℕ
  pub holds : least ≤ count
  pub within : count ≤ length given
  pub stands : StandsAt seen (followed_by log (take count given))

-- where all of it stands
begins_whole : (seen : Seen) (log given : List Command) (least : ℕ) → least ≤ length given
    → StandsAt seen (followed_by log given) → Begins seen log given least
begins_whole seen log given least few stands = record {
  count = length given;
  holds = few;
  within = omega arith;
  stands = rw (take-length given) stands;
}

-- where it was opened on what a crash leaves
pub begins_left : (last first : Seen) (log given : List Command) (least : ℕ) → IsOpenedOn last first
    → LeavesOnly last (ShowsPrefix log given least) → Begins first log given least
begins_left last first log given least opened left =
    let it = left opened.remains opened.left in
    record {
      count = it.2.count;
      holds = it.2.holds;
      within = it.2.within;
      stands = opened.stands it.0 (followed_by log (take it.2.count given)) it.2.are it.1 it.2.shows;
    }

-- what shows a log, and leaves the tables that it shows, stands there
stands_shown : (seen : Seen) (log : List Command) → (seen.is_down → ⊥) → LeavesShown seen → ShowsLog seen log
    → StandsAt seen log
stands_shown seen log up leaves shows = record {
  shows = shows;
  up = up;
  survives = leaves_weaker seen (λ t. t ≡ shows.tables) (λ t. AreTablesOf t log)
      (λ t same. subst (λ (it : Tables). AreTablesOf it log) (sym same) shows.shows)
      (leaves shows.tables shows.are);
}

-- what lives lead to from a log that others led to is what all of them lead to
pub keeps_on : (start middle log : List Command) (earlier later : List Given) → Outlasts start middle earlier
    → Outlasts middle log later → Outlasts start log (later ++ earlier)
keeps_on start middle log earlier [] first then = subst (λ (l : List Command). Outlasts start l earlier) (sym then) first
keeps_on start middle log earlier (life ∷ later) first (before, kept, count, least, most, is) =
    (before, keeps_on start middle before earlier later first kept, count, least, most, is)

module _ {M : Type 0} (seen : M → Seen) where
  -- where a life begins: the first of all at its log, any other by the one before it
  abbrev pub Before : List Command → M → List Given → Type 0
  Before start first [] = StandsAt (seen first) start
  Before start first (life ∷ lives) = (before : M) × Lives seen start before lives × (seen before).honest
      × ((log : List Command) → StandsAt (seen before) log
      → Begins (seen first) log life.commands life.least)

  pub before_life : (start : List Command) (first : M) (lives : List Given) → Lives seen start first lives
      → (seen first).honest → Before start first lives
  before_life start first lives (found it log stands) h = stands h
  before_life start first lives (replayed opened it log leaves shown lived up) h =
      let stood = stands_shown (seen opened) log (λ down. up (life_down seen opened it [] 0 lived down)) leaves
      (shown h) in
      elim (life_lives seen opened it [] 0 lived h log stood) [
        | inl stands ↦ stands
        | inr cut ↦ absurd (up cut.0)
      ]
  before_life start first lives (released begun before it life others some lived up) h = (
    before,
    some,
    life_honest seen before it life.commands life.least lived h,
    λ log stood. begins_whole (seen it) log life.commands life.least
        (life_given seen before it life.commands life.least lived)
        (elim (life_lives seen before it life.commands life.least lived h log stood) [
          | inl stands ↦ stands
          | inr cut ↦ absurd (up cut.0)
        ]),
  )
  before_life start first lives (stopped begun before now last it life others some lived ends clean opened) h = (
    before,
    some,
    life_honest seen before now life.commands life.least lived (ends.honest clean),
    λ log stood. begins_left (seen last) (seen it) log life.commands life.least opened
        (end_leaves seen before now last life.commands life.least lived ends clean log stood),
  )

  -- a log that is, life by life, a prefix of what was given
  pub kept : (start : List Command) (lives : List Given) (first : M) → Lives seen start first lives
      → (seen first).honest → (log : List Command) × Outlasts start log lives × StandsAt (seen first) log
  kept start [] first some h = (start, refl, before_life start first [] some h)
  kept start (life ∷ lives) first some h =
      let was = before_life start first (life ∷ lives) some h in
      let it = kept start lives was.0 was.1 was.2 in
      let b = was.3 it.0 it.2 in
      (followed_by it.0 (take b.count life.commands), (it.0, it.1, b.count, b.holds, b.within, refl), b.stands)

  -- at each moment of the last life a crash leaves one with a prefix of this life's
  pub left_of : (start : List Command) (lives : List Given) (life : Given) (first now last : M)
      → Lives seen start first lives
      → Life seen first now life.commands life.least → EndsLife (seen now) (seen last) → (seen last).honest
      → LeavesOnly (seen last) (ShowsAfter start (life ∷ lives))
  left_of start lives life first now last some lived ends h =
      let it = kept start lives first some (life_honest seen first now life.commands life.least lived
      (ends.honest h)) in
      leaves_weaker (seen last) (ShowsPrefix it.0 life.commands life.least) (ShowsAfter start (life ∷ lives))
      (λ t b. record {
        log = followed_by it.0 (take b.count life.commands);
        keeps = (it.0, it.1, b.count, b.holds, b.within, refl);
        are = b.are;
        shows = b.shows;
      })
      (end_leaves seen first now last life.commands life.least lived ends h it.0 it.2)
