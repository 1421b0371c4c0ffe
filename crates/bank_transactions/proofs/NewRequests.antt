-- Requests that are put in several at a time, each of which had no like.
use Rattle.std.proofs.Common.{◌≡◌, ◌++◌, Bool, List, [], Option, Some, None, find, is_some, refl, ap}
use Rattle.std.specs.Prelude.{pos}
use Rattle.sqlite.specs.Effect.{Database}
use Rattle.sqlite_rules.specs.Lists.{Has}
use Rattle.sqlite_trees.proofs.ListLemmas.{all-append, all_weaker}
use Rattle.posting_rules.specs.declared.rows.RequestRow.{RequestRow}
use Rattle.sql_meanings.specs.believed.Entries.{Entry, has_two}
use Rattle.sql_meanings.proofs.{Changes.found_passes, NewPairs.found_has, NewPairs.none_passes}
use Rattle.store_rows.specs.SeveralRows.{IsNew, PutsNew}

-- what is not found among more is not found among some
not_found : (p : Entry → Bool) (some all : List Entry) → ((e : Entry) → Has some e → Has all e)
    → find p all ≡ None → find p some ≡ None
not_found p some all within none = go (find p some) refl
  where
    go : (o : Option Entry) → find p some ≡ o → o ≡ None
    go None found = refl
    go (Some e) found =
        let no = none_passes p all e (ap is_some none) (within e (found_has p some e found)) in
        let yes = found_passes p some e found in
        absurd cc

-- nothing yet
pub news_none : (db : Database) → PutsNew db db []
news_none db rows holds = (tt, record { all = rows; holds = holds; still = λ e has. has })

-- some, and then more
pub news_then : (old mid new : Database) (front news : List RequestRow) → PutsNew old mid front
    → PutsNew mid new news → PutsNew old new (front ++ news)
news_then old mid new front news one two rows holds =
    let first = one rows holds in
    let last = two first.1.all first.1.holds in (
      all-append (IsNew rows) front news first.0 (all_weaker (IsNew first.1.all) (IsNew rows)
          (λ r. not_found (has_two (pos r.teller) (pos r.number)) rows first.1.all first.1.still) news last.0),
      record {
        all = last.1.all;
        holds = last.1.holds;
        still = λ e has. last.1.still e (first.1.still e has);
      },
    )
