-- A statement that only shows rows changes nothing.
use Rattle.std.proofs.lemmas.Result.{IfErr-weaker, IfOk-weaker, MatchResult-from_both}
use Rattle.sqlite.specs.Held.{state}
use Rattle.sql_meanings.proofs.ReadSeeks.{commits_nothing}
use Rattle.walked_rows.proofs.{OnlyMeta.query_failed, Sought.fails_after, Sought.same_after}
use Rattle.walked_rows.proofs.statements.rows_shown.Goals as goal

pub returns-clause-shown : goal.returns-clause-shown
returns-clause-shown g c clean = MatchResult-from_both c.query_all.result _ _ (c.query_all.ensures.ok clean)
    (c.query_all.ensures.err clean)

pub returns-clause-failed : goal.returns-clause-failed
returns-clause-failed g c clean =
    let old = state g.S.Store c.args.conn.now in
    let new = state g.S.Store c.query_all.new.self in
    IfErr-weaker c.query_all.result _ _
    (λ e h. query_failed old new _ _ e c.requires.ours (c.requires.only c.args.conn.now.schema) h) (c.query_all.ensures.err clean)

pub returns-clause-reads : goal.returns-clause-reads
returns-clause-reads g c =
    let old = state g.S.Store c.args.conn.now in
    let new = state g.S.Store c.query_all.new.self in
    let only = c.requires.only c.args.conn.now.schema in
    let shown = c.query_all.ensures in
    record {
      same = λ clean.
          IfOk-weaker c.query_all.result _ _ (λ found h. same_after old new _ _ only found.items h) (shown.ok clean);
      err = λ clean.
          IfErr-weaker c.query_all.result _ _ (λ e h. fails_after old new _ _ only e h) (shown.err clean);
      mode = shown.mode;
      survives = commits_nothing _ _ old new only shown.survives;
    }
