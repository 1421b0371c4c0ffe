-- What a sender finds who goes on after a crash.
use Rattle.std.proofs.Common.{◌≡◌, ◌≤◌, ℕ, ◌+◌, List, [], ◌∷◌, ◌++◌, length, take, drop, refl, sym, ap, subst, ◌∙◌}
use Rattle.std.proofs.Common.{arith, take_all, length-append, length-take}
use Rattle.std.specs.Prelude.{max}
use Rattle.posting_rules.specs.{believed.Commands.Command, believed.Counter.Seen, believed.Counter.StandsAt}
use Rattle.posting_rules.specs.{Resends.Skips, believed.Tables.AreTablesOf}
use Rattle.posting_rules.specs.believed.Runs.{followed_by, posts, replies_to, ArePosts}
use Rattle.posting_rules.proofs.{Remaining.leaves_weaker, Sequence.after-append}
use Rattle.posting_rules.proofs.Resends.{posts_both, shows_left_out, shows_log_left_out}
use Rattle.bank_lives.specs.believed.ManyLives.{Given, Outlasts, Lives}
use Rattle.bank_lives.specs.Sending.{FindsSent, Sends, SendsFrom, begins, goes_on}
use Rattle.bank_lives.proofs.ManyLived.{Begins, before_life, each_once, kept}
use Rattle.bank_lives.proofs.Resent.{first_posts, first_replies, resend, within_front}

-- what stands with records that came again stands without them
stands_once : (seen : Seen) (log p r added : List Command) → ArePosts p → ArePosts r → Skips p r added
    → StandsAt seen (followed_by (followed_by log p) r) → StandsAt seen (followed_by log (p ++ added))
stands_once seen log p r added hp hr skips stood =
    subst (λ (l : List Command). StandsAt seen l) (sym (after-append log p added)) (record {
      shows = shows_log_left_out seen log p r added hp hr skips stood.shows;
      up = stood.up;
      survives = leaves_weaker seen (λ t. AreTablesOf t (followed_by (followed_by log p) r))
          (λ t. AreTablesOf t (followed_by (followed_by log p) added))
          (λ t shown. shows_left_out t log p r added hp hr skips shown) stood.survives;
    })

-- the posts that stand after a life more
pub record Posted (seen : Seen) (log : List Command) (records : List (List ℕ)) (answered : ℕ) : Type 0 where
  pub posted : List Command
  pub first : SendsFrom records 0 posted
  pub holds : answered ≤ length posted
  pub stands : StandsAt seen (followed_by log posted)

none_posted : (seen : Seen) (log : List Command) (records : List (List ℕ)) → StandsAt seen log
    → Posted seen log records 0
none_posted seen log records stood = record {
  posted = [];
  first = record { posts = tt; are = refl };
  holds = omega arith;
  stands = stood;
}

one_life_more : (was first : Seen) (log : List Command) (records : List (List ℕ)) (answered place : ℕ)
    (life : Given) → Posted was log records answered → place ≤ answered
    → SendsFrom records place life.commands
    → ((l : List Command) → StandsAt was l → Begins first l life.commands life.least)
    → Posted first log records (max answered (place + life.least))
one_life_more was first log records answered place life it le sent on =
    let p = it.posted in
    let b = on (followed_by log p) it.stands in
    let r = take b.count life.commands in
    let cut = first_posts b.count life.commands (drop place records) sent.posts sent.are in
    let again = resend p [] p r place records refl it.first.posts it.first.posts cut.0
    (let some = it.holds in omega arith) it.first.are cut.1 in
    record {
      posted = p ++ again.added;
      first = record { posts = posts_both p again.added it.first.posts again.posts; are = again.are };
      holds =
          let all = again.long in
          let before = it.holds in
          let least = b.holds in
          let most = b.within in
          omega (arith, length-take b.count life.commands, length-append p again.added);
      stands = stands_once first log p r again.added it.first.posts cut.0 again.skips b.stands;
    }

module _ {M : Type 0} (seen : M → Seen) where
  posted : (start : List Command) (records : List (List ℕ)) (before sent : List Given) (answered : ℕ) (first : M)
      → Lives seen start first (sent ++ before) → Sends records sent answered → (seen first).honest
      → (log : List Command) × Outlasts start log before × Posted (seen first) log records answered
  posted start records before sent answered first lives begins h =
      let it = kept seen start before first lives h in
      (it.0, it.1, none_posted (seen first) it.0 records it.2)
  posted start records before sent answered first lives (goes_on life others some place sends le from) h =
      let was = before_life seen start first (life ∷ others ++ before) lives h in
      let it = posted start records before others some was.0 was.1 sends was.2 in
      (it.0, it.1, one_life_more (seen was.0) (seen first) it.0 records some place life it.2 le from was.3)

-- who goes on gets the replies that he would have got
replies_on : (seen : Seen) (log : List Command) (records : List (List ℕ)) (answered place : ℕ)
    (commands : List Command) (it : Posted seen log records answered) → place ≤ answered
    → SendsFrom records place commands
    → replies_to (followed_by log it.posted) commands
    ≡ take (length commands) (drop place (replies_to log (posts 0 records)))
replies_on seen log records answered place commands it le sent =
    let p = it.posted in
    let again = resend p [] p commands place records refl it.first.posts it.first.posts sent.posts
    (let some = it.holds in omega arith) it.first.are sent.are in
    let whole = p ++ again.added in
    again.replies log [] tt refl
    ∙ ap (λ (outs : List (List ℕ)). take (length commands) (drop place outs))
    (first_replies log whole records (posts_both p again.added it.first.posts again.posts) again.are)
    ∙ within_front (length commands) place (length whole) (replies_to log (posts 0 records)) again.long

pub finds_sent : {M : Type 0} (seen : M → Seen) (start : List Command) (sent before : List Given)
    (records : List (List ℕ)) (answered : ℕ) (first : M) → Lives seen start first (sent ++ before)
    → Sends records sent answered → (seen first).honest
    → (log : List Command) × Outlasts start log before × FindsSent (seen first) log records answered
finds_sent seen start sent before records answered first lives sends h =
    let it = posted seen start records before sent answered first lives sends h in
    let log = it.0 in
    let its = it.2 in (
      log,
      it.1,
      record {
        posted = its.posted;
        first = its.first;
        holds = its.holds;
        stands = its.stands;
        once = each_once (followed_by log its.posted);
        whole = λ all. its.first.are
            ∙ take_all (length its.posted) records (let some = its.holds in omega arith);
        replies = λ place commands le from.
            replies_on (seen first) log records answered place commands its le from;
      },
    )
