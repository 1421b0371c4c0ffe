-- A connection that was just opened, and the bank over it that was replayed.
use Rattle.std.proofs.Common.{◌≡◌, ◌∙◌, List, [], Option, refl, sym, ap, subst}
use Rattle.std.specs.Prelude.{IsSome}
use Rattle.sqlite.specs.{Effect.Database, Held.Held, Held.state, State.Opens, State.State, Tree.Trees}
use Rattle.sqlite_trees.specs.declared.store.Store.{Ghosts}
use Rattle.posting_rules.specs.{believed.Commands.Command, believed.Counter.ShowsLog, believed.Counter.StandsAt}
use Rattle.store_rows.specs.{believed.View.Shows, believed.View.ShowsTrees, declared.fault.TableFault.TableFault}
use Rattle.bank_store.specs.{Connections.conn_seen, declared.bank.Bank.Bank}
use Rattle.bank_store.specs.believed.Seen.{bank_seen, file_of, seen_in}
use Rattle.bank_lives.specs.believed.Lives.{IsCall, Life, begins, goes_on}
use Rattle.bank_lives.specs.believed.ManyLives.{LeavesShown, Lives, replayed}
use Rattle.bank_lives.specs.{believed.LifeStates.Of_bank, believed.LifeStates.Of_connection, believed.LifeStates.seen_at}
use Rattle.bank_lives.specs.{Replayed.IsReplayed}
use Rattle.bank_lives.proofs.{Calls.taken_is_call, ManyLived.before_life, Quiet.call_of_nothing}

opened_leaves : (s : State) (D : Type 0) → Opens s → ((db : Trees) → s.may_leave db → db ≡ s.committed.trees)
    → LeavesShown (seen_in s D)
opened_leaves s D opens settled t shown db may =
    let same = settled db may ∙ ap (λ (it : Database). it.trees) (sym opens.clean) in
    (t, subst (λ (trees : Trees). ShowsTrees trees t) (sym same) (s.now.schema, shown), refl)

module _ {S : Type 0} (g : Ghosts S) (conn : Held S) (bank last : Bank S g) (log : List Command)
    (it : IsReplayed g conn bank last log) where
  -- the bank has what the connection has
  shown_before : (bank_seen g last).honest → ShowsLog (conn_seen g conn) log
  shown_before h =
      let shows = it.agrees h in
      record {
        commands = shows.commands;
        tables = shows.tables;
        are = subst (λ (db : Database). Shows db shows.tables) (it.found.found (it.reads.honest h)).there.same.now_is
            shows.are;
        shows = shows.shows;
      }

  still_up : (bank_seen g last).is_down → ⊥
  still_up down = it.found.up (subst (λ (fault : Option TableFault). IsSome fault) it.up down)

  taken_up : IsCall (conn_seen g conn) (bank_seen g bank) [] 0
  taken_up = call_of_nothing (state g conn) (file_of bank) it.survives ⊥ (bank_seen g bank).is_down (λ none. none)
      it.found.stands

  read : IsCall (bank_seen g bank) (bank_seen g last) [] 0
  read = taken_is_call (bank_seen g bank) (bank_seen g last) [] (it.reads.done tt) it.found.up it.reads.honest

  lived : Life (seen_at g) (Of_connection conn) (Of_bank last) [] 0
  lived = goes_on (Of_bank bank) (Of_bank last) [] [] 0 0
      (goes_on (Of_connection conn) (Of_bank bank) [] [] 0 0 begins taken_up) read

  -- where a crash leaves what was opened
  module _ (settled : (db : Trees) → (state g conn).may_leave db → db ≡ (state g conn).committed.trees) where
    pub begins_replayed : Lives (seen_at g) log (Of_bank last) []
    begins_replayed = replayed (Of_connection conn) (Of_bank last) log
        (opened_leaves (state g conn) ⊥ it.opens settled) shown_before lived still_up

    pub stands_replayed : (bank_seen g last).honest → StandsAt (bank_seen g last) log
    stands_replayed h = before_life (seen_at g) log (Of_bank last) [] begins_replayed h
