-- A call of a counter is one of the counter over it.
use Rattle.std.proofs.Common.{◌≡◌, ◌≤◌, ◌++◌, ◌∙◌, ℕ, Bool, true, false, List, length, Some, None}
use Rattle.std.proofs.Common.{Result, Ok, Err, refl, sym, ap, subst, inl, inr, arith, take}
use Rattle.std.specs.{Prelude.IfSome, Result.IsErrOf}
use Rattle.std.proofs.lemmas.List.{take_all}
use Rattle.posting_rules.specs.declared.fault.Fault.{Fault}
use Rattle.posting_rules.specs.declared.fault.Fault.TheVariants.{Damaged, Down, Memory, Store}
use Rattle.posting_rules.specs.believed.Commands.{AreCommands, Command}
use Rattle.posting_rules.specs.believed.Counter.{IsCounterCall, LeavesNoMore, LeavesOnly, Refuses, Seen, ShowsLog, ShowsPrefix}
use Rattle.posting_rules.specs.believed.Counter.{StandsAt, Takes}
use Rattle.posting_rules.specs.believed.{AnyTables.AnswersByTables, Changes.tables_past_all}
use Rattle.posting_rules.specs.believed.{Runs.followed_by, Runs.posts, Tables.AreTablesOf, Tables.Tables}
use Rattle.posting_rules.proofs.CounterCalls.{call_answered, call_refused, call_untried}
use Rattle.posting_rules.proofs.Records.{all_past}
use Rattle.posting_rules.proofs.Remaining.{leaves_weaker}
use Rattle.posting_core.specs.believed.LogEntries.{log_entries}
use Rattle.shared_log.specs.Known.{AreHeld, Known}
use Rattle.shared_log.specs.Published.{AreKnown, HasPublished}
use Rattle.shared_log.specs.declared.publishing.PublishFault.{PublishFault}
use Rattle.shared_log.specs.Replicated.{replicated_reason, replicated_seen}
use Rattle.shared_log.specs.declared.replicated.Replicated.{Replicated}
use Rattle.shared_log.proofs.{Entries.entries_one, Entries.posts_grow, Same.leaves_up, Same.same_of}

false_true : {X : Type 0} (b : Bool) → b ≡ false → b ≡ true → X
false_true b out in_it = absurd cc

store_not_memory : Store ≡ Memory → ⊥
store_not_memory is = cc

store_not_down : Store ≡ Down → ⊥
store_not_down is = cc

-- what was answered wasn't down before
pub was_answered : {X : Type 0} (x : X) → (let r : Result X Fault = Ok x in r) ≡ Err Down → ⊥
was_answered x is = cc

-- ---- tables whose entries are held

-- whatever log they show has those entries
pub held_entries : (k : Known) (t : Tables) (log : List Command) → AreHeld k t → AreCommands log → AreTablesOf t log
    → IfSome k (λ entries. log_entries log ≡ entries)
held_entries None t log held are shows = tt
held_entries (Some entries) t log held are shows =
    entries_one t log held.log are held.commands shows held.shows ∙ held.held

still_held : (k : Known) (log log' : List Command) → IfSome k (λ entries. log_entries log ≡ entries)
    → log_entries log' ≡ log_entries log → IfSome k (λ entries. log_entries log' ≡ entries)
still_held None log log' held same = tt
still_held (Some entries) log log' held same = same ∙ held

-- tables of another log with the same entries
pub held_still : (k : Known) (t t' : Tables) (log log' : List Command) → AreHeld k t → AreCommands log → AreTablesOf t log
    → AreCommands log' → AreTablesOf t' log' → log_entries log' ≡ log_entries log → AreHeld k t'
held_still k t t' log log' held are shows are' shows' same = record {
  log = log';
  commands = are';
  shows = shows';
  held = still_held k log log' (held_entries k t log held are shows) same;
}

-- what was new is known now
more_held : (old new : Seen) (k k' : Known) (count : ℕ) (log : List Command) (m : ℕ) (records : List (List ℕ))
    → length records ≤ 192 → IfSome k (λ entries. log_entries log ≡ entries) → AreKnown old new k k' count → new.honest
    → ShowsLog old (followed_by log (posts m records))
    → IfSome k' (λ entries. log_entries (followed_by log (posts m records)) ≡ entries)
more_held old new None k' count log m records few held known h shown =
    subst (λ (k : Known). IfSome k (λ entries. log_entries (followed_by log (posts m records)) ≡ entries)) (sym known) tt
more_held old new (Some entries) k' count log m records few held known h shown =
    let grown = posts_grow m records log in
    let all : log_entries (followed_by log (posts m records)) ≡ entries ++ grown.added =
    grown.are ∙ ap (λ (l : List (List ℕ)). l ++ grown.added) held in
    let few_added : length grown.added ≤ 192 = omega (arith, grown.few, few) in
    let whole : k' ≡ Some (entries ++ grown.added) =
    (known h (followed_by log (posts m records)) shown grown.added all).0
    ∙ ap (λ (l : List (List ℕ)). let one : Known = Some (entries ++ l) in one) (take_all 192 grown.added few_added) in
    subst (λ (k : Known). IfSome k (λ x. log_entries (followed_by log (posts m records)) ≡ x)) (sym whole) all

held_more : (old new : Seen) (k k' : Known) (count : ℕ) (t t' : Tables) (log : List Command) (m : ℕ)
    (records : List (List ℕ)) → length records ≤ 192 → AreHeld k t → AreCommands log → AreTablesOf t log
    → AreKnown old new k k' count → new.honest → ShowsLog old (followed_by log (posts m records))
    → AreCommands (followed_by log (posts m records)) → AreTablesOf t' (followed_by log (posts m records)) → AreHeld k' t'
held_more old new k k' count t t' log m records few held are shows known h shown are' shows' = record {
  log = followed_by log (posts m records);
  commands = are';
  shows = shows';
  held = more_held old new k k' count log m records few (held_entries k t log held are shows) known h shown;
}

module _ {C L K : Type 0} (seen : C → Seen) (contents : C → K) (reason : Fault → C → C → Type 0) (known : L → Known) where
  abbrev shown_by : Replicated C L → Seen
  shown_by r = replicated_seen seen known r

  abbrev kept_by : Replicated C L → K
  kept_by r = contents r.counter

  pub shows_own : (r : Replicated C L) (log : List Command) → ShowsLog (shown_by r) log → ShowsLog (seen r.counter) log
  shows_own r log s = record { commands = s.commands; tables = s.tables; are = s.are.0; shows = s.shows }

  leaves_own : (r : Replicated C L) (log : List Command) → LeavesOnly (shown_by r) (λ t. AreTablesOf t log)
      → LeavesOnly (seen r.counter) (λ t. AreTablesOf t log)
  leaves_own r log all remains left =
      let it = all remains left in
      let own = it.1 in
      (own.0, own.1, own.2.back log it.2)

  no_more_up : (r r' : Replicated C L) → LeavesNoMore (seen r.counter) (seen r'.counter)
      → LeavesNoMore (shown_by r) (shown_by r')
  no_more_up r r' it remains left =
      let before = it remains left in
      (before.0, before.1, λ t found. (found.0, before.2 found.0 found.1, found.2))

  pub stands_own : (r : Replicated C L) (log : List Command) → StandsAt (shown_by r) log → StandsAt (seen r.counter) log
  stands_own r log s = record { shows = shows_own r log s.shows; up = λ d. s.up (inr d); survives = leaves_own r log s.survives }

  -- ---- it was down

  pub down_call : {X : Type 0} (r : Replicated C L) (cs : List Command) → r.is_down ≡ true
      → IsCounterCall {X = X} shown_by kept_by (replicated_reason reason) r r cs (Err Down)
  down_call r cs is = call_untried shown_by kept_by (replicated_reason reason) r cs (inl is) (inr (inr (refl, is)))

  -- ---- what its counter answered is answered

  module _ (r : Replicated C L) (n : C) (cs : List Command) (up : r.is_down ≡ false) where
    abbrev after : Replicated C L
    after = record r { counter = n }

    refuses : (fault : Fault) → Refuses fault (seen r.counter) (seen n) cs → Refuses fault (shown_by r) (shown_by after) cs
    refuses Memory it = record {
      tables = λ t are. (it.tables t are.0, are.1);
      down = down;
      left = no_more_up r after it.left;
    }
      where
        down : (shown_by after).is_down → (shown_by r).is_down
        down (inl d) = inl d
        down (inr d) = inr (it.down d)
    refuses Store it = record {
      down = inr it.down;
      survives = λ h log s. leaves_up seen known after (ShowsPrefix log cs 0) (it.survives h log (stands_own r log s));
    }
    refuses Down it = record {
      before = inr it.before;
      after = inr it.after;
      tables = λ h t are. (it.tables h t are.0, are.1);
      left = no_more_up r after it.left;
    }
    refuses (Damaged rule) it = record {
      never_shown = λ h log s. it.never_shown h log (shows_own r log s);
      down = inr it.down;
      tables = λ h t are. (it.tables h t are.0, are.1);
    }

    still_up : ((seen n).is_down → ⊥) → (shown_by after).is_down → ⊥
    still_up own (inl d) = false_true r.is_down up d
    still_up own (inr d) = own d

    module _ (same : (log : List Command) → log_entries (followed_by log cs) ≡ log_entries log)
        (it : Takes (seen r.counter) (seen n) cs) where
      shows : (seen n).honest → (log : List Command) → ShowsLog (shown_by r) log
          → ShowsLog (shown_by after) (followed_by log cs)
      shows h log s =
          let own = it.shows h log (shows_own r log s) in
          record {
            commands = own.commands;
            tables = own.tables;
            are = (
              own.are,
              held_still (known r.log) s.tables own.tables log (followed_by log cs) s.are.1 s.commands s.shows
                  own.commands own.shows (same log),
            );
            shows = own.shows;
          }

      takes : ((seen n).is_down → ⊥) → Takes (shown_by r) (shown_by after) cs
      takes own_up = record {
        shows = shows;
        stands = λ h log s.
            let own = it.stands h log (stands_own r log s) in
            record {
              shows = shows h log s.shows;
              up = still_up own_up;
              survives = leaves_up seen known after (λ t. AreTablesOf t (followed_by log cs)) own.survives;
            };
      }

    was_down : {X : Type 0} (result : Result X Fault) → IsCounterCall seen contents reason r.counter n cs result
        → (shown_by r).is_down → IsErrOf result Down
    was_down result call (inl d) = false_true r.is_down up d
    was_down result call (inr d) = call.down d

    pub passed_on : {X : Type 0} (fault : Fault)
        → IsCounterCall {X = X} seen contents reason r.counter n cs (Err fault)
        → IsCounterCall {X = X} shown_by kept_by (replicated_reason reason) r after cs (Err fault)
    passed_on {X = X} fault call = record {
      done = tt;
      up = tt;
      fault = refuses fault call.fault;
      why = inl call.why;
      spared = call.spared;
      unchanged = call.unchanged;
      down = was_down {X = X} (Err fault) call;
      untried = λ is. ap (λ (c : C). let x : Replicated C L = record r { counter = c } in x) (call.untried is);
      honest = call.honest;
    }

    pub passed : {X : Type 0} (result : Result X Fault)
        → ((log : List Command) → log_entries (followed_by log cs) ≡ log_entries log)
        → IsCounterCall seen contents reason r.counter n cs result
        → IsCounterCall shown_by kept_by (replicated_reason reason) r after cs result
    passed (Ok x) same call = record {
      done = takes same call.done call.up;
      up = still_up call.up;
      fault = tt;
      why = tt;
      spared = call.spared;
      unchanged = tt;
      down = was_down (Ok x) call;
      untried = λ is. ap (λ (c : C). let x : Replicated C L = record r { counter = c } in x) (call.untried is);
      honest = call.honest;
    }
    passed (Err fault) same call = passed_on fault call

  -- ---- what its counter took is appended, or not

  module _ (spares : C → C → Type 0) (r r' : Replicated C L) (mid : C) (m : ℕ) (records : List (List ℕ))
      (few : length records ≤ 192) (up : r.is_down ≡ false) (own_up : (seen r.counter).is_down → ⊥)
      (it : Takes (seen r.counter) (seen mid) (posts m records)) (honest : (seen mid).honest → (seen r.counter).honest) where
    abbrev cs : List Command
    cs = posts m records

    first_up : (shown_by r).is_down → ⊥
    first_up (inl d) = false_true r.is_down up d
    first_up (inr d) = own_up d

    -- the reply may be given
    pub published : {X : Type 0} (x : X) (count : ℕ) → r'.is_down ≡ false
        → HasPublished seen spares mid r'.counter (known r.log) (known r'.log) (Ok count)
        → IsCounterCall shown_by kept_by (replicated_reason reason) r r' cs (Ok x)
    published x count up' p =
        call_answered shown_by kept_by (replicated_reason reason) r r' cs first_up (λ h. honest (p.honest h)) x last_up
        (record {
          shows = shows_all;
          stands = λ h log s. record {
            shows = shows_all h log s.shows;
            up = last_up;
            survives = leaves_up seen known r' (λ t. AreTablesOf t (followed_by log cs))
                (p.takes.stands h (followed_by log cs) (it.stands (p.honest h) log (stands_own r log s))).survives;
          };
        })
      where
        last_up : (shown_by r').is_down → ⊥
        last_up (inl d) = false_true r'.is_down up' d
        last_up (inr d) = p.up d

        shows_all : (seen r'.counter).honest → (log : List Command) → ShowsLog (shown_by r) log
            → ShowsLog (shown_by r') (followed_by log cs)
        shows_all h log s =
            let one = it.shows (p.honest h) log (shows_own r log s) in
            let two = p.takes.shows h (followed_by log cs) one in
            record {
              commands = two.commands;
              tables = two.tables;
              are = (
                two.are,
                held_more (seen mid) (seen r'.counter) (known r.log) (known r'.log) count s.tables two.tables log m records few
                    s.are.1 s.commands s.shows p.known h one two.commands two.shows,
              );
              shows = two.shows;
            }

    -- no reply is given
    pub unpublished : {X : Type 0} (result : Result ℕ PublishFault) → r'.is_down ≡ true
        → HasPublished seen spares mid r'.counter (known r.log) (known r'.log) result
        → IsCounterCall {X = X} shown_by kept_by (replicated_reason reason) r r' cs (Err Store)
    unpublished result down p =
        call_refused shown_by kept_by (replicated_reason reason) r r' cs first_up (λ h. honest (p.honest h)) Store
        store_not_memory store_not_down
        (record {
          down = inl down;
          survives = λ h log s.
              let stood = it.stands (p.honest h) log (stands_own r log s) in
              leaves_up seen known r' (ShowsPrefix log cs 0)
              (leaves_weaker (seen r'.counter) (λ t. AreTablesOf t (followed_by log cs)) (ShowsPrefix log cs 0)
              (λ t shown.
              let all : take (length cs) cs ≡ cs = take_all (length cs) cs (omega arith) in
              record {
                count = length cs;
                holds = omega arith;
                within = omega arith;
                are = subst (λ (l : List Command). AreCommands (followed_by log l)) (sym all) stood.shows.commands;
                shows = subst (λ (l : List Command). AreTablesOf t (followed_by log l)) (sym all) shown;
              })
              (p.left h (followed_by log cs) stood));
        })
        (inr (inl (refl, down))) (λ damage. absurd damage)

    -- on whatever tables of a log it showed
    pub by_tables : (replies : List (List ℕ)) (count : ℕ) → AnswersByTables (seen r.counter) (seen mid) m records replies
        → HasPublished seen spares mid r'.counter (known r.log) (known r'.log) (Ok count)
        → AnswersByTables (shown_by r) (shown_by r') m records replies
    by_tables replies count answers p = record {
      are = λ h t room is. answers.are (p.honest h) t room is.0;
      shows = λ h t room is.
          let s : ShowsLog (seen r.counter) is.1.log =
          record { commands = is.1.commands; tables = t; are = is.0; shows = is.1.shows } in
          let one = it.shows (p.honest h) is.1.log s in (
            p.keeps h (tables_past_all t m records) (answers.shows (p.honest h) t room is.0),
            held_more (seen mid) (seen r'.counter) (known r.log) (known r'.log) count t (tables_past_all t m records)
                is.1.log m records few is.1 is.1.commands is.1.shows p.known h one one.commands
                (all_past t is.1.log m records is.1.shows),
          );
      survives = λ h t room is only remains left.
          let log = is.1.log in
          let alone : LeavesOnly (seen r.counter) (λ u. AreTablesOf u log) = λ before there.
          let found = only before there in
          let own = found.1 in
          (own.0, own.1, own.2.back log (subst (λ (u : Tables). AreTablesOf u log) (sym found.2) is.1.shows)) in
          let stood : StandsAt (seen r.counter) log = record {
            shows = record { commands = is.1.commands; tables = t; are = is.0; shows = is.1.shows };
            up = own_up;
            survives = alone;
          } in
          let it_is = p.left h (followed_by log cs) (it.stands (p.honest h) log stood) remains left in (
            tables_past_all t m records,
            (
              it_is.0,
              it_is.1,
              same_of it_is.0 (tables_past_all t m records) (followed_by log cs) it_is.2
                  (all_past t log m records is.1.shows),
            ),
            refl,
          );
    }
