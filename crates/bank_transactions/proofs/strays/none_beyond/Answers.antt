-- A row beyond the count is stray.
use Rattle.std.proofs.Common.{None, Ok, Some, inr, refl, sym, ◌∙◌}
use Rattle.posting_rules.specs.declared.fault.Rule.TheVariants.{Key}
use Rattle.store_rows.specs.Beyond.{beyond}
use Rattle.bank_transactions.proofs.{Above.none_of, Broken.find_broken}
use Rattle.bank_transactions.proofs.LookUps.{reads_met, reads_wider}
use Rattle.bank_transactions.proofs.ReadsInTurn.{find_failed, find_tells}
use Rattle.bank_transactions.proofs.Exits.{clean_at, handed_on}
use Rattle.bank_transactions.proofs.strays.none_beyond.Goals as goal

pub returns-in_err-find_beyond : goal.returns-in_err-find_beyond
returns-in_err-find_beyond g c =
    rw (handed_on c.from_residual.result c.from_residual.ensures.1) (record {
      looks = reads_wider (find_failed (beyond c.args.table c.args.decided) (λ _. Ok (tt {0}))
          (find_broken _ (beyond c.args.table c.args.decided) (λ _. Ok (tt {0})) (λ rule rows keeps r is no. cc) _)
          c.in_err-find_beyond.ensures);
      none = tt;
    })

pub returns-in-Some : goal.returns-in-Some
returns-in-Some g c =
    let found = rw c.in-Some.is at c.in_ok-find_beyond.ensures in
    record {
      looks = reads_met Key (find_tells (beyond c.args.table c.args.decided) (λ _. Ok (tt {0})) {So = λ _. Unit {0}} {w = λ _. tt {0}}
          (Some (tt {0})) found (λ t so finds. refl)) (λ clean. inr (
            refl,
            λ rows has none.
                let row = found.answers clean rows has in
                let no = none_of c.args.decided rows
                (none.numbered c.args.decided (c.requires.held (clean_at found.survives clean) rows has)) c.args.table in
                absurd (let both = sym row.0.1 ∙ no in cc),
          ));
      none = tt;
    }

pub returns-in-None : goal.returns-in-None
returns-in-None g c =
    let found = rw c.in-None.is at c.in_ok-find_beyond.ensures in
    record {
      looks = reads_wider (find_tells (beyond c.args.table c.args.decided) (λ _. Ok (tt {0})) None found
          (λ t so finds. refl));
      none = λ clean rows has. (found.answers clean rows has).0;
    }
