-- What the row of a floor tells.
use Rattle.std.proofs.Common.{◌≡◌, rules, sym, ap, ◌∙◌}
use Rattle.std.specs.Prelude.{option_map}
use Rattle.posting_rules.specs.{believed.LookUps.lowest_of, believed.Tables.floor_key, believed.Tables.row_at}
use Rattle.store_rows.specs.believed.{Readings.read_floor, Rules.row_under}
use Rattle.bank_transactions.proofs.{Broken.floor_broken, LookUps.reads_none, ReadsInTurn.recall_failed}
use Rattle.bank_transactions.proofs.ReadsInTurn.{recall_tells}
use Rattle.bank_transactions.proofs.SoundRows.{floor_found, no_floor_beyond}
use Rattle.bank_transactions.proofs.Exits.{handed_on, survives_itself}
use Rattle.bank_transactions.proofs.floors.known_floor.Goals as goal

pub returns-in_default-clause-says : goal.returns-in_default-clause-says
returns-in_default-clause-says g c =
    reads_none (survives_itself _) (λ t sound.
    ap (option_map lowest_of) (no_floor_beyond t c.args.number sound (sym c.new.ensures ∙ c.in_default.is)))

pub returns-in_err-row : goal.returns-in_err-row
returns-in_err-row g c =
    let same = handed_on c.from_residual.result c.from_residual.ensures.1 in
    rw same (record {
      says = recall_failed (λ rows. row_under rows.floors c.in-Some.branch) read_floor
          (floor_broken _ c.in-Some.branch _) c.in_err-row.ensures.recalls;
      within = tt;
      stored = tt;
      remembers = tt;
    })

pub returns-in_default-2-clause-says : goal.returns-in_default-2-clause-says
returns-in_default-2-clause-says g c =
    let key : c.in-Some.branch ≡ c.args.number = search rules in
    recall_tells (λ rows. row_under rows.floors c.in-Some.branch) read_floor _ c.in_ok-row.ensures.recalls
    (λ t sound finds. ap (option_map lowest_of)
    (sym c.in_default-2.is ∙ floor_found t c.in-Some.branch sound _ finds ∙ ap (row_at floor_key t.floors) key))

pub returns-clause-says : goal.returns-clause-says
returns-clause-says g c =
    let key : c.in-Some.branch ≡ c.args.number = search rules in
    recall_tells (λ rows. row_under rows.floors c.in-Some.branch) read_floor _ c.in_ok-row.ensures.recalls
    (λ t sound finds. ap (option_map lowest_of)
    (sym c.in-Some-2.is ∙ floor_found t c.in-Some.branch sound _ finds ∙ ap (row_at floor_key t.floors) key))

-- ---- what is remembered

pub known_floor_row-requires : goal.known_floor_row-requires
known_floor_row-requires g c = c.requires

pub returns-in_default-clause-remembers : goal.returns-in_default-clause-remembers
returns-in_default-clause-remembers g c = c.requires

pub returns-in_default-2-clause-remembers : goal.returns-in_default-2-clause-remembers
returns-in_default-2-clause-remembers g c = c.in_ok-row.ensures.remembers

pub returns-clause-remembers : goal.returns-clause-remembers
returns-clause-remembers g c = c.in_ok-row.ensures.remembers
