-- What became of a counter's call, as the one record of it.
use Rattle.std.proofs.Common.{◌≡◌, ◌++◌, List, [], Result, Ok, Err, refl, sym, ap, subst, ◌∙◌}
use Rattle.posting_rules.specs.declared.fault.Fault.{Fault, TheVariants.Memory, TheVariants.Down}
use Rattle.posting_rules.specs.{believed.Commands.Command, Counter.HasRefused, believed.Runs.followed_by}
use Rattle.posting_rules.specs.believed.Counter.{Seen, IsCounterCall, IsSeenUnchanged, Refuses, Takes, TellsDamage}
use Rattle.posting_rules.proofs.Sequence.{after-append}

-- an answer is no fault, and one fault isn't another
no_fault : {X : Type 0} (x : X) (fault : Fault) → (let r : Result X Fault = Ok x in r ≡ Err fault) → ⊥
no_fault x fault is = cc

one_fault : {X : Type 0} (a b : Fault) → (let r : Result X Fault = Err a in r ≡ Err b) → a ≡ b
one_fault a b is = cc

memory_not_down : Memory ≡ Down → ⊥
memory_not_down is = cc

down_not_memory : Down ≡ Memory → ⊥
down_not_memory is = cc

-- what didn't change
pub unchanged_seen : (seen : Seen) → IsSeenUnchanged seen seen
unchanged_seen seen = record {
  tables = λ t there. there;
  down = λ down. down;
  left = λ remains left. (remains, left, λ t found. found);
}

module _ {C K X : Type 0} (seen : C → Seen) (contents : C → K) (reason : Fault → C → C → Type 0) where
  -- it was down
  pub call_untried : (c : C) (cs : List Command) → (seen c).is_down → reason Down c c
      → IsCounterCall {X = X} seen contents reason c c cs (Err Down)
  call_untried c cs is_down why = record {
    done = tt;
    up = tt;
    fault = record {
      before = is_down;
      after = is_down;
      tables = λ honest t there. there;
      left = λ remains left. (remains, left, λ t found. found);
    };
    why = why;
    spared = λ is. absurd (down_not_memory (one_fault {X = X} Down Memory is));
    unchanged = λ damage. absurd damage;
    down = λ was. refl;
    untried = λ is. refl;
    honest = λ honest. honest;
  }

module _ {C K X : Type 0} (seen : C → Seen) (contents : C → K) (reason : Fault → C → C → Type 0)
    (old new : C) (cs : List Command) (was_up : (seen old).is_down → ⊥)
    (honest : (seen new).honest → (seen old).honest) where
  -- it was answered
  pub call_answered : (x : X) → ((seen new).is_down → ⊥) → Takes (seen old) (seen new) cs
      → IsCounterCall seen contents reason old new cs (Ok x)
  call_answered x up takes = record {
    done = takes;
    up = up;
    fault = tt;
    why = tt;
    spared = λ is. absurd (no_fault x Memory is);
    unchanged = tt;
    down = λ was. absurd (was_up was);
    untried = λ is. absurd (no_fault x Down is);
    honest = honest;
  }

  -- memory was refused
  pub call_spared : IsSeenUnchanged (seen old) (seen new) → reason Memory old new → contents new ≡ contents old
      → IsCounterCall {X = X} seen contents reason old new cs (Err Memory)
  call_spared unchanged why same = record {
    done = tt;
    up = tt;
    fault = unchanged;
    why = why;
    spared = λ is. same;
    unchanged = λ damage. absurd damage;
    down = λ was. absurd (was_up was);
    untried = λ is. absurd (memory_not_down (one_fault {X = X} Memory Down is));
    honest = honest;
  }

  -- a fault brought it down
  pub call_refused : (fault : Fault) → (fault ≡ Memory → ⊥) → (fault ≡ Down → ⊥)
      → Refuses fault (seen old) (seen new) cs → reason fault old new
      → (TellsDamage fault → (seen new).honest → contents new ≡ contents old)
      → IsCounterCall {X = X} seen contents reason old new cs (Err fault)
  call_refused fault frugal tried refuses why unchanged = record {
    done = tt;
    up = tt;
    fault = refuses;
    why = why;
    spared = λ is. absurd (frugal (one_fault {X = X} fault Memory is));
    unchanged = unchanged;
    down = λ was. absurd (was_up was);
    untried = λ is. absurd (tried (one_fault {X = X} fault Down is));
    honest = honest;
  }

-- ---- a counter that was down

module _ {C : Type 0} (seen : C → Seen) (old mid : C) (idle : (seen old).is_down → mid ≡ old) where
  still_down : (seen old).is_down → (seen mid).is_down
  still_down down = subst (λ (c : C). (seen c).is_down) (sym (idle down)) down

  -- one that can be used wasn't down before
  pub was_up : ((seen mid).is_down → ⊥) → (seen old).is_down → ⊥
  was_up up down = up (still_down down)

  -- what leaves it as it was does so after what left it as it was
  pub idle_after : (new : C) → ((seen mid).is_down → new ≡ mid) → (seen old).is_down → new ≡ old
  idle_after new more down = more (still_down down) ∙ idle down

  -- so does every call
  pub call_idle_after : {K X : Type 0} (contents : C → K) (reason : Fault → C → C → Type 0) (new : C)
      (cs : List Command) (result : Result X Fault)
      → IsCounterCall seen contents reason mid new cs result → (seen old).is_down → new ≡ old
  call_idle_after contents reason new cs result call =
      idle_after new (λ down. call.untried (call.down down))

-- ---- calls one after another

-- two calls take what they take together
pub Takes-append : (a b c : Seen) (xs ys : List Command) → Takes a b xs → Takes b c ys → (c.honest → b.honest)
    → Takes a c (xs ++ ys)
Takes-append a b c xs ys p q honest = record {
  shows = λ h log shown. rw (after-append log xs ys)
      (q.shows h (followed_by log xs) (p.shows (honest h) log shown));
  stands = λ h log stood. rw (after-append log xs ys)
      (q.stands h (followed_by log xs) (p.stands (honest h) log stood));
}

module _ {C : Type 0} (seen : C → Seen) (reason : Fault → C → C → Type 0) (old mid new : C)
    (before : List Command) (takes : Takes (seen old) (seen mid) before)
    (honest : (seen mid).honest → (seen old).honest) (idle : (seen old).is_down → mid ≡ old)
    (fault : Fault) where
  -- a call was refused where some commands had been taken
  pub call_refused_after : {K X : Type 0} (contents : C → K) (cs : List Command)
      → IsCounterCall {X = X} seen contents reason mid new cs (Err fault) → HasRefused seen reason old new fault
  call_refused_after {X = X} contents cs call = record {
    taken = before;
    stood = mid;
    takes = takes;
    honest_first = honest;
    honest = call.honest;
    why = call.why;
    tried = λ down. one_fault {X = X} fault Down (call.down down);
    untried = λ is. call.untried (ap (λ (f : Fault). let r : Result X Fault = Err f in r) is);
    idle = idle;
  }

  -- what was refused later was refused after all that was taken
  pub refused_after : HasRefused seen reason mid new fault → HasRefused seen reason old new fault
  refused_after it = record {
    taken = before ++ it.taken;
    stood = it.stood;
    takes = Takes-append (seen old) (seen mid) (seen it.stood) before it.taken takes it.takes it.honest_first;
    honest_first = λ h. honest (it.honest_first h);
    honest = it.honest;
    why = it.why;
    tried = it.tried;
    untried = it.untried;
    idle = idle_after seen old mid idle it.stood it.idle;
  }

-- no command is taken by doing nothing
pub takes_none : (seen : Seen) → Takes seen seen []
takes_none seen = record { shows = λ h log s. s; stands = λ h log s. s }
