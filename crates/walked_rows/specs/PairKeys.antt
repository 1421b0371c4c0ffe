-- Keys of pairs.
use Rattle.std.specs.Prelude.{List, [], ◌∷◌}
use Rattle.std.proofs.Common.{sym, subst}
use Rattle.sqlite.specs.Table.{Table}
use Rattle.sqlite.specs.Effect.{Database}
use Rattle.sql_meanings.specs.believed.Entries.{Entry}
use Rattle.walked_rows.specs.Pairs.{HasPairs, Pair, pair_key, paired}
use Rattle.walked_rows.specs.Rows.{HaveKeys, entry_key}

keys_of_pairs : (others rows : List Entry) → HaveKeys entry_key rows → HaveKeys pair_key (paired others rows)
keys_of_pairs others [] all = all
keys_of_pairs others (e ∷ rows) all = (all.0, keys_of_pairs others rows all.1)

-- their keys are those of the rows
pub pairs_have_keys : (db : Database) (table other : Table) (pairs : List Pair)
    → HasPairs db table other pairs → HaveKeys pair_key pairs
pairs_have_keys db table other pairs has =
    subst (HaveKeys pair_key) (sym has.are) (keys_of_pairs has.others has.rows has.has.least)
