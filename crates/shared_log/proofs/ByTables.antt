-- What a counter shows on whatever tables, the one over it does, where the shared log holds their entries.
use Rattle.std.proofs.Common.{◌≡◌, ◌∷◌, [], List, Result, Ok, Err, refl, sym, subst}
use Rattle.std.specs.Prelude.{IfOk, OnOk, ℕ}
use Rattle.posting_rules.specs.declared.{counter.Opening.Opening, fault.Fault.Fault}
use Rattle.posting_rules.specs.{Counter.StaysByTables, believed.AnyTables.OpensByTables}
use Rattle.posting_rules.specs.believed.{Changes.tables_with_branch, Commands.Command, Commands.Open, Commands.Terms}
use Rattle.posting_rules.specs.believed.Counter.{IsCounterCall, LeavesOnly, Seen, ShowsLog, StandsAt}
use Rattle.posting_rules.specs.believed.Tables.{AreTablesOf, Tables}
use Rattle.posting_rules.proofs.{Calls.opens, SameRows.keys_shown, SameRows.same_shown}
use Rattle.shared_log.specs.{Known.AreHeld, Known.Known, Replicated.replicated_seen}
use Rattle.shared_log.specs.declared.replicated.Replicated.{Replicated}
use Rattle.shared_log.proofs.{Carried.held_still, Carried.was_answered, Same.same_of}

module _ {C L : Type 0} (seen : C → Seen) (known : L → Known) (r : Replicated C L) (n : C) where
  abbrev shown : Replicated C L → Seen
  shown x = replicated_seen seen known x

  abbrev after : Replicated C L
  after = record r { counter = n }

  -- where a crash leaves tables of a log alone, it leaves that log of the counter
  stands_alone : (t : Tables) (is : (shown r).tables t) → ((seen r.counter).is_down → ⊥)
      → LeavesOnly (shown r) (λ left. left ≡ t) → StandsAt (seen r.counter) is.1.log
  stands_alone t is up only = record {
    shows = record { commands = is.1.commands; tables = t; are = is.0; shows = is.1.shows };
    up = up;
    survives = λ remains left.
        let found = only remains left in
        let own = found.1 in
        (own.0, own.1, own.2.back is.1.log (subst (λ (u : Tables). AreTablesOf u is.1.log) (sym found.2) is.1.shows));
  }

  leaves_alone : (u : Tables) (log : List Command) → AreTablesOf u log
      → LeavesOnly (seen n) (λ v. AreTablesOf v log) → LeavesOnly (shown after) (λ left. left ≡ u)
  leaves_alone u log shows only = λ remains left.
      let it = only remains left in (u, (it.0, it.1, same_of it.0 u log it.2 shows), refl)

  module _ {K X : Type 0} (contents : C → K) (reason : Fault → C → C → Type 0) where
    -- a read
    pub stays_over : (result : Result X Fault) → OnOk result (StaysByTables (seen r.counter) (seen n))
        → IsCounterCall seen contents reason r.counter n [] result → OnOk result (StaysByTables (shown r) (shown after))
    stays_over (Err fault) own call = tt
    stays_over (Ok x) own call = record {
      shows = λ h t is. (own.shows h t is.0, is.1);
      survives = λ h t is only. leaves_alone t is.1.log is.1.shows
          (call.done.stands h is.1.log (stands_alone t is (λ down. was_answered x (call.down down)) only)).survives;
    }

  -- an opening
  pub opens_over : {K : Type 0} (contents : C → K) (reason : Fault → C → C → Type 0) (b : ℕ) (terms : Terms)
      (result : Result Opening Fault) → IfOk result (OpensByTables (seen r.counter) (seen n) b terms)
      → IsCounterCall seen contents reason r.counter n (Open b terms ∷ []) result
      → IfOk result (OpensByTables (shown r) (shown after) b terms)
  opens_over contents reason b terms (Err fault) own call = tt
  opens_over contents reason b terms (Ok opening) own call = λ h t ready is.
      let it = own h t ready is.0 in
      let log = is.1.log in
      let u = it.leads.tables in
      let s : ShowsLog (seen r.counter) log =
      record { commands = is.1.commands; tables = t; are = is.0; shows = is.1.shows } in
      let one = call.done.shows h log s in
      let its : AreTablesOf u (Open b terms ∷ log) =
      same_shown (tables_with_branch t b terms) u (Open b terms ∷ log) it.leads.same
      (it.keys (keys_shown t log is.1.shows)) (opens b terms one.commands.0.0 one.commands.0.3 t log is.1.shows) in
      record {
        answer = it.answer;
        leads = record {
          tables = u;
          same = it.leads.same;
          are = (
            it.leads.are,
            held_still (known r.log) t u log (Open b terms ∷ log) is.1 is.1.commands is.1.shows one.commands its refl,
          );
          survives = λ only. leaves_alone u (Open b terms ∷ log) its
              (call.done.stands h log (stands_alone t is (λ down. was_answered opening (call.down down)) only)).survives;
        };
        keys = it.keys;
      }
