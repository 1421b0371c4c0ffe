-- What a crash leaves of a life.
use Rattle.std.proofs.Common.{◌≡◌, ◌≤◌, ◌⊎◌, ◌+◌, ◌++◌, ℕ, zero, suc, List, length, take, arith, inl, inr}
use Rattle.std.proofs.{Math.Seq.take-append-add, lemmas.List.length-append, lemmas.List.take-append-le}
use Rattle.posting_rules.specs.{believed.Commands.Command, believed.Runs.followed_by, believed.Tables.Tables}
use Rattle.posting_rules.specs.believed.Counter.{Seen, StandsAt, LeavesOnly, ShowsPrefix}
use Rattle.posting_rules.proofs.{Remaining.leaves_still, Remaining.leaves_weaker, Sequence.after-append}
use Rattle.bank_lives.specs.believed.Lives.{IsCall, EndsLife, Life, begins, goes_on, reached}
use Rattle.bank_lives.proofs.Calls.{all_left, nothing_ends}

-- all that was given before, and a prefix of one call more
one_call_more : (log given commands : List Command) (least n : ℕ) (t : Tables) → least ≤ length given
    → ShowsPrefix (followed_by log given) commands n t
    → ShowsPrefix log (given ++ commands) (reached least given n) t
one_call_more log given commands least n t some b = record {
  count = length given + b.count;
  holds = by n b.holds;
  within = let most = b.within in omega (arith, length-append given commands);
  are = rw (take-append-add given commands b.count, after-append log given (take b.count commands)) b.are;
  shows = rw (take-append-add given commands b.count, after-append log given (take b.count commands))
      b.shows;
}
  where
    by : (n : ℕ) → n ≤ b.count → reached least given n ≤ length given + b.count
    by zero h = omega arith
    by (suc n) h = omega arith

-- a prefix of what was given before
no_more : (log given commands : List Command) (least n : ℕ) (t : Tables) → n ≡ 0
    → ShowsPrefix log given least t → ShowsPrefix log (given ++ commands) (reached least given n) t
no_more log given commands least (suc n) t none b = absurd (omega (arith, none))
no_more log given commands least zero t none b = record {
  count = b.count;
  holds = b.holds;
  within = let most = b.within in omega (arith, length-append given commands);
  are = rw (take-append-le b.count given commands b.within) b.are;
  shows = rw (take-append-le b.count given commands b.within) b.shows;
}

reached_within : (least n : ℕ) (given commands : List Command) → least ≤ length given → n ≤ length commands
    → reached least given n ≤ length (given ++ commands)
reached_within least zero given commands some within = omega (arith, length-append given commands)
reached_within least (suc n) given commands some within = omega (arith, length-append given commands)

-- how a counter is that stood at a log: it took all that it was given, or it is down and a crash leaves a
-- prefix
abbrev pub Lives : Seen → List Command → List Command → ℕ → Type 0
Lives now log given least = StandsAt now (followed_by log given)
    ⊎ (now.is_down × LeavesOnly now (ShowsPrefix log given least))

lives_on : (now next : Seen) (log given commands : List Command) (least n : ℕ) → least ≤ length given
    → IsCall now next commands n → next.honest → Lives now log given least
    → Lives next log (given ++ commands) (reached least given n)
lives_on now next log given commands least n some call h (inl stood) =
    elim (call.stands h (followed_by log given) stood) [
      | inl stands ↦ inl (rw (after-append log given commands) stands)
      | inr down ↦ inr (
        down,
        leaves_weaker next (ShowsPrefix (followed_by log given) commands n)
            (ShowsPrefix log (given ++ commands) (reached least given n))
            (λ t b. one_call_more log given commands least n t some b)
            (call.survives h (followed_by log given) stood),
      )
    ]
lives_on now next log given commands least n some call h (inr (down, left)) =
    let it = call.down down in
    inr (
      it.0,
      leaves_weaker next (ShowsPrefix log given least)
          (ShowsPrefix log (given ++ commands) (reached least given n))
          (λ t b. no_more log given commands least n t it.1 b)
          (leaves_still now next (ShowsPrefix log given least) it.2 left),
    )

module _ {C : Type 0} (seen : C → Seen) (first : C) where
  -- what is acknowledged was given
  pub life_given : (now : C) (given : List Command) (least : ℕ) → Life seen first now given least
      → least ≤ length given
  life_given now given least begins = omega arith
  life_given now given least (goes_on was next before commands some n life call) =
      reached_within some n before commands (life_given was before some life) call.within

  -- the disk was honest all along
  pub life_honest : (now : C) (given : List Command) (least : ℕ) → Life seen first now given least
      → (seen now).honest → (seen first).honest
  life_honest now given least begins h = h
  life_honest now given least (goes_on was next before commands some n life call) h =
      life_honest was before some life (call.honest h)

  -- one that was down is down
  pub life_down : (now : C) (given : List Command) (least : ℕ) → Life seen first now given least
      → (seen first).is_down → (seen now).is_down
  life_down now given least begins down = down
  life_down now given least (goes_on was next before commands some n life call) down =
      (call.down (life_down was before some life down)).0

  pub life_lives : (now : C) (given : List Command) (least : ℕ) → Life seen first now given least
      → (seen now).honest
      → (log : List Command) → StandsAt (seen first) log → Lives (seen now) log given least
  life_lives now given least begins h log stood = inl stood
  life_lives now given least (goes_on was next before commands some n life call) h log stood =
      lives_on (seen was) (seen next) log before commands some n (life_given was before some life) call h
      (life_lives was before some life (call.honest h) log stood)

  -- where a life ends a crash leaves a prefix of what was given that holds all that was acknowledged
  pub end_leaves : (now last : C) (given : List Command) (least : ℕ) → Life seen first now given least
      → EndsLife (seen now) (seen last) → (seen last).honest
      → (log : List Command) → StandsAt (seen first) log
      → LeavesOnly (seen last) (ShowsPrefix log given least)
  end_leaves now last given least life ends h log stood =
      elim (life_lives now given least life (ends.honest h) log stood) [
        | inl stands ↦ all_left (seen last) log given least (life_given now given least life)
            stands.shows.commands (ends.survives h (followed_by log given) stands)
        | inr cut ↦ leaves_still (seen now) (seen last) (ShowsPrefix log given least) (ends.down h cut.0)
            cut.1
      ]

  -- so it does at every moment of a life
  pub life_leaves : (now : C) (given : List Command) (least : ℕ) → Life seen first now given least
      → (seen now).honest
      → (log : List Command) → StandsAt (seen first) log
      → LeavesOnly (seen now) (ShowsPrefix log given least)
  life_leaves now given least life h log stood =
      end_leaves now now given least life (nothing_ends (seen now)) h log stood
