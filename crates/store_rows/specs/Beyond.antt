-- Rows under ordinals beyond the count of requests.
use Rattle.std.specs.Prelude.{ℕ, pos, find, List, Option}
use Rattle.sql_meanings.specs.Entries.{is_above}
use Rattle.sql_meanings.specs.believed.Entries.{Entry}
use Rattle.store_rows.specs.believed.Rules.{StoredRows}
use Rattle.store_rows.specs.declared.beyond.Numbered.{Numbered}
use Rattle.store_rows.specs.declared.beyond.Numbered.TheVariants.{Requests, Postings, References}

-- the rows of such a table
abbrev pub numbered : Numbered → StoredRows → List Entry
numbered Requests rows = rows.requests
numbered Postings rows = rows.history
numbered References rows = rows.references

-- the first of them that is beyond an ordinal
abbrev pub beyond : Numbered → ℕ → StoredRows → Option Entry
beyond table last rows = find (is_above (pos last)) (numbered table rows)
