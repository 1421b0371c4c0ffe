-- One table after another.
use Rattle.std.proofs.Common.{subst, sym, ◌∙◌}
use Rattle.std.proofs.lemmas.Result.{on_ok_weaker}
use Rattle.sqlite.specs.{Effect.Database}
use Rattle.store_rows.specs.believed.Rules.{HoldsBank, OfRows}
use Rattle.bank_transactions.proofs.Above.{none_found}
use Rattle.bank_transactions.specs.believed.Stored.{HoldsDecided}
use Rattle.bank_transactions.proofs.LookUps.{reads_ok, strays_then}
use Rattle.bank_transactions.proofs.Exits.{clean_at, handed_on}
use Rattle.bank_transactions.proofs.strays.none_stray.Goals as goal

pub none_beyond-requires : goal.none_beyond-requires
none_beyond-requires g c = record { most = c.requires.most; held = c.requires.held }

pub none_beyond-requires-2 : goal.none_beyond-requires-2
none_beyond-requires-2 g c =
    let one = reads_ok c.in_ok-none_beyond.ensures.looks in record {
      most = c.requires.most;
      held = λ clean. subst (λ (db : Database). OfRows (λ rows. HoldsDecided rows c.args.decided) db)
          (sym (one.says.leaves clean).0.now) (c.requires.held (clean_at one.says.survives clean));
    }

pub none_beyond-requires-3 : goal.none_beyond-requires-3
none_beyond-requires-3 g c =
    let one = reads_ok c.in_ok-none_beyond.ensures.looks in
    let two = reads_ok c.in_ok-none_beyond-2.ensures.looks in record {
      most = c.requires.most;
      held = λ clean.
          let before = clean_at two.says.survives clean in
          subst (λ (db : Database). OfRows (λ rows. HoldsDecided rows c.args.decided) db)
          (sym ((two.says.leaves clean).0.now ∙ (one.says.leaves before).0.now))
          (c.requires.held (clean_at one.says.survives before));
    }

pub returns-in_err-none_beyond : goal.returns-in_err-none_beyond
returns-in_err-none_beyond g c = rw (handed_on c.from_residual.result c.from_residual.ensures.1)
    (record { looks = c.in_err-none_beyond.ensures.looks; none = tt })

pub returns-in_err-none_beyond-2 : goal.returns-in_err-none_beyond-2
returns-in_err-none_beyond-2 g c =
    rw (handed_on c.from_residual-in_err-none_beyond-2.result c.from_residual-in_err-none_beyond-2.ensures.1) (record {
      looks = strays_then (reads_ok c.in_ok-none_beyond.ensures.looks) c.in_err-none_beyond-2.ensures.looks;
      none = tt;
    })

pub returns-clause-looks : goal.returns-clause-looks
returns-clause-looks g c = strays_then (reads_ok c.in_ok-none_beyond.ensures.looks)
    (strays_then (reads_ok c.in_ok-none_beyond-2.ensures.looks) c.none_beyond-3.ensures.looks)

pub returns-clause-none : goal.returns-clause-none
returns-clause-none g c = on_ok_weaker c.none_beyond-3.result (λ none clean rows has.
    let one = c.in_ok-none_beyond.ensures in
    let two = c.in_ok-none_beyond-2.ensures in
    let clean2 = clean_at c.none_beyond-3.ensures.looks.says.survives clean in
    let clean1 = clean_at two.looks.says.survives clean2 in
    let has1 = subst (λ (db : Database). HoldsBank db rows) (sym (one.looks.says.leaves clean1).0.now) has in
    let has2 = subst (λ (db : Database). HoldsBank db rows) (sym (two.looks.says.leaves clean2).0.now) has1 in (
      none_found c.args.decided rows.requests (one.none clean1 rows has),
      none_found c.args.decided rows.history (two.none clean2 rows has1),
      none_found c.args.decided rows.references (none clean rows has2),
    ))
    c.none_beyond-3.ensures.none
