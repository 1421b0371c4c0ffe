-- Keys of kept requests.
use Rattle.std.specs.Prelude.{List, [], ◌∷◌}
use Rattle.std.proofs.Common.{sym, subst}
use Rattle.sqlite.specs.Effect.{Database}
use Rattle.sql_meanings.specs.believed.Entries.{Entry}
use Rattle.walked_rows.specs.KeptRows.{HasKept, KeptItem, kept_all, kept_key}
use Rattle.walked_rows.specs.Rows.{HaveKeys, entry_key}

keys_of_kept : (postings others rows : List Entry) → HaveKeys entry_key rows
    → HaveKeys kept_key (kept_all postings others rows)
keys_of_kept postings others [] all = all
keys_of_kept postings others (e ∷ rows) all = (all.0, keys_of_kept postings others rows all.1)

-- their keys are those of the rows
pub kept_have_keys : (db : Database) (all : List KeptItem) → HasKept db all → HaveKeys kept_key all
kept_have_keys db all has =
    subst (HaveKeys kept_key) (sym has.are) (keys_of_kept has.postings has.references has.rows has.has.least)
