-- A connection that was opened on what a crash left.
use Rattle.std.proofs.Common.{◌≡◌, ◌≤◌, ℕ, List, length, take, Result, Ok, Err, sym, subst, inl, inr}
use Rattle.std.specs.Prelude.{IfOk, IfErr}
use Rattle.sqlite.specs.State.{HasCleanDisk, State, Survives, Opens}
use Rattle.sqlite.specs.{Tree.Trees, Effect.Database, Held.state}
use Rattle.posting_rules.specs.believed.{Commands.Command, Runs.followed_by, Tables.Tables}
use Rattle.posting_rules.specs.believed.Counter.{ShowsPrefix}
use Rattle.store_rows.specs.believed.View.{Shows, ShowsTrees}
use Rattle.sqlite_trees.specs.declared.store.Store.{Ghosts}
use Rattle.bank_store.specs.Connections.{conn_seen, state_in}
use Rattle.bank_store.specs.{believed.Seen.seen_in, declared.bank.Bank.Bank, declared.refused.Refused.Refused}
use Rattle.bank_store.proofs.JustOpened.{stands_opened}
use Rattle.bank_lives.proofs.ManyLived.{Begins}

-- one that was opened on trees which show a prefix stands there
pub begins_opened : (s : State) (log given : List Command) (least : ℕ) → Opens s
    → ((db : Trees) → s.may_leave db → db ≡ s.committed.trees)
    → ((t : Tables) → ShowsTrees s.now.trees t → Shows s.now t)
    → (t : Tables) × ShowsTrees s.now.trees t × ShowsPrefix log given least t
    → Begins (seen_in s ⊥) log given least
begins_opened s log given least opens settled finds (t, left, b) = record {
  count = b.count;
  holds = b.holds;
  within = b.within;
  stands = stands_opened s ⊥ (λ none. none) opens settled t (followed_by log (take b.count given)) b.are left
      (finds t left) b.shows;
}

-- a connection that was refused leaves what was found as it was opened
left_again : (s back : State) → Opens s → Survives s back (λ _. ⊥) → HasCleanDisk back
    → ((db : Trees) → s.may_leave db → db ≡ s.committed.trees) → (Left : Trees → Type 0)
    → Left s.now.trees → (trees : Trees) → back.may_leave trees → Left trees
left_again s back opens quiet clean settled Left left trees may = elim (quiet.crash clean trees may) [
  | inl before ↦ subst Left (sym (settled trees before))
      (subst (λ (db : Database). Left db.trees) opens.clean left)
  | inr none ↦ absurd none
]

pub refused_leaves : {T : Type 0} (g : Ghosts T) (s : State) (Left : Trees → Type 0)
    → (Opens s → (db : Trees) → s.may_leave db → db ≡ s.committed.trees)
    → (r : Result (Bank T g) (Refused T)) → Survives s (state_in g r) (λ _. ⊥)
    → IfErr r (λ refused. HasCleanDisk (state g refused.conn) → Opens s → Left s.now.trees → (trees : Trees)
    → (conn_seen g refused.conn).left trees → Left trees)
refused_leaves g s Left settled (Ok bank) quiet = tt
refused_leaves g s Left settled (Err refused) quiet = λ clean opens left trees may.
    left_again s (state g refused.conn) opens quiet clean (settled opens) Left left trees may

pub if_ok : {X E : Type 0} (P Q : X → Type 0) → ((x : X) → P x → Q x) → (r : Result X E) → IfOk r P → IfOk r Q
if_ok P Q f (Ok x) h = f x h
if_ok P Q f (Err e) h = tt
