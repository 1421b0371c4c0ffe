-- The bank stands at what its connection found, and that is a prefix.
use Rattle.std.proofs.Common.{◌∷◌, refl, take}
use Rattle.sqlite.specs.Held.{state}
use Rattle.posting_rules.specs.believed.Runs.{followed_by}
use Rattle.bank_store.specs.believed.Seen.{bank_seen}
use Rattle.bank_store.proofs.Unmade.{if_err}
use Rattle.bank_lives.specs.believed.LifeStates.{Of_bank, seen_at}
use Rattle.bank_lives.proofs.{Lived.life_honest, Lived.life_leaves, ManyLived.kept}
use Rattle.bank_lives.proofs.Reopened.{begins_opened, if_ok, refused_leaves}
use Rattle.bank_lives.proofs.reopening.reopen.Goals as goal

pub returns-clause-lives : goal.returns-clause-lives
returns-clause-lives g c =
    if_ok _ _ (λ bank taken honest opens stopped left start first life lives some lived.
    let last = Of_bank c.args.stopped.now in
    let was = kept (seen_at g.S.Store) start lives first some (life_honest (seen_at g.S.Store) first last
    life.commands life.least lived stopped) in
    let it = begins_opened (state g.T.Store c.args.conn) was.0 life.commands life.least opens
    (λ db may. g.met.T.Store.settled c.args.conn.store db opens.is_open may)
    (λ t shown. c.trees_show_law.ensures.finds opens.is_open t shown)
    (life_leaves (seen_at g.S.Store) first last life.commands life.least lived stopped was.0 was.2
    (g.T.Store.view c.args.conn.store).trees left) in
    let at = taken.stands honest _ it.stands in
    record {
      log = followed_by was.0 (take it.count life.commands);
      keeps = (was.0, was.1, it.count, it.holds, it.within, refl);
      stands = at;
    }) c.adopt.result c.adopt.ensures.found

pub returns-clause-missed : goal.returns-clause-missed
returns-clause-missed g c =
    if_err _ _ (λ refused known clean opens stopped left first log given least stood life.
    let it = begins_opened (state g.T.Store c.args.conn) log given least opens
    (λ db may. g.met.T.Store.settled c.args.conn.store db opens.is_open may)
    (λ t shown. c.trees_show_law.ensures.finds opens.is_open t shown)
    (life_leaves (λ bank. bank_seen g.S.Store bank) first c.args.stopped.now given least life stopped log stood
    (g.T.Store.view c.args.conn.store).trees left) in
    known clean _ it.stands.shows) c.adopt.result c.adopt.ensures.known

pub returns-clause-again : goal.returns-clause-again
returns-clause-again g c = refused_leaves g.T.Store (state g.T.Store c.args.conn)
    (bank_seen g.S.Store c.args.stopped.now).left
    (λ opens db may. g.met.T.Store.settled c.args.conn.store db opens.is_open may)
    c.adopt.result c.adopt.ensures.survives

pub returns-clause-remains : goal.returns-clause-remains
returns-clause-remains g c =
    if_err _ _ (λ refused again clean opens stopped left first log given least stood life trees may.
    life_leaves (λ bank. bank_seen g.S.Store bank) first c.args.stopped.now given least life stopped log stood trees
    (again clean opens left trees may)) c.adopt.result (returns-clause-again g c)

pub returns-clause-up : goal.returns-clause-up
returns-clause-up g c = if_ok _ _ (λ bank taken. taken.up) c.adopt.result c.adopt.ensures.found

pub returns-clause-idle : goal.returns-clause-idle
returns-clause-idle g c = if_err _ _ (λ refused back. back.idle) c.adopt.result c.adopt.ensures.back
