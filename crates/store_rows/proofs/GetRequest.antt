-- The look-up of a request by its teller and number, of which UNIQUE leaves one at most.
use Rattle.std.proofs.Common.{◌≡◌, ◌&&◌, ◌==◌, ℕ, ℤ, pos, true, false, List, [], ◌∷◌, codes, lit≤, refl, Ok}
use Rattle.sqlite.specs.{Schema.Schema, Command.TheVariants.Select, Listing.understood, Term.Term}
use Rattle.sqlite.specs.{declared.types.Value.TheVariants.Int}
use Rattle.sqlite_tied.specs.Compute.{everything}
use Rattle.sqlite_draft.specs.declared.join.Step.TheVariants.{Inner}
use Rattle.sqlite_resolve.specs.{declared.scope.Output.Output, Select.ungrouped, Terms.number}
use Rattle.sqlite_resolve.specs.Program as program
use Rattle.sqlite_typing.specs.Types.{accepts_program}
use Rattle.posting_rules.specs.declared.rows.RequestRow.{RequestRow}
use Rattle.sql_meanings.specs.{believed.Entries.has_two, StatementAnswers.OnlyShows, believed.Plain.number_column}
use Rattle.sql_meanings.specs.{Queries.by_two, Queries.two_are, Queries.no_limit, believed.Tables.placed_at}
use Rattle.sql_meanings.proofs.{ByKey.Tests, ByKey.number_at, Means.Means, Means.means, ReadTables.ReadsAs}
use Rattle.sql_meanings.proofs.{Selects.select_by_two, ShownColumns.outputs_at, ShownColumns.shows_named}
use Rattle.sql_meanings.proofs.{Statements.HasTable, Texts.IsSelect, Texts.columns_of, Texts.only_reads}
use Rattle.sql_meanings.proofs.Texts.{places_of, select_of}
use Rattle.store_rows.specs.believed.{BankTables.request, View.request_entry}
use Rattle.store_rows.specs.declared.texts.TheConstants.{GET_REQUEST}
use Rattle.store_rows.proofs.RowLists.{same_number}

by_tid : (tree : ℕ) → Tests (placed_at request tree) (codes "tid") 2
unfolding everything
by_tid tree = record {
  place = 1;
  column = number_column (codes "tid");
  named = refl;
  there = refl;
  is_at = refl;
  by_bytes = refl;
}

by_number : (tree : ℕ) → Tests (placed_at request tree) (codes "number") 3
unfolding everything
by_number tree = record {
  place = 2;
  column = number_column (codes "number");
  named = refl;
  there = refl;
  is_at = refl;
  by_bytes = refl;
}

abbrev outputs : ℕ → List Output
outputs tree = outputs_at (placed_at request tree) (places_of request)

abbrev pub project : List Term
project = columns_of request

is_get : IsSelect request GET_REQUEST.now 2 (places_of request)
unfolding everything
is_get = select_of request GET_REQUEST.now 2 _ _ _ _ _ _ _ _ _ refl refl refl (lit≤ tt) refl refl refl refl
    (λ tree. refl) (lit≤ tt)

module _ (schema : Schema) (p tree : ℕ) (has : HasTable schema (codes "request") p
    (placed_at request tree)) where
  typed : program.program schema [] (ungrouped (Inner tree ∷ []) (two_are 2 3) (outputs tree) false []
      no_limit (number 0))
      ≡ Ok (record { lets = []; body = by_two 2 3 tree project })
  unfolding program.program ungrouped
  typed = rw (has.low, has.found)

  meant : Means schema GET_REQUEST.now 2 (Select (record { lets = []; body = by_two 2 3 tree project })
      (codes "ordinal" ∷ codes "tid" ∷ codes "number" ∷ codes "aid" ∷ codes "bid" ∷ codes "delta"
      ∷ codes "outcome" ∷ codes "balance" ∷ []))
  unfolding everything is_get
  meant =
      means schema GET_REQUEST.now 2 _ _ (select_by_two schema (codes "request") p (placed_at request tree)
      has GET_REQUEST.now is_get.P is_get.s is_get.core is_get.source is_get.shown _ _ _ _ _ _ _
      (codes "tid") (codes "number") 2 1 3 2
      (by_tid tree) (by_number tree) (outputs tree) _
      refl refl refl refl refl refl refl refl refl refl refl refl refl
      (shows_named (placed_at request tree) is_get.shown (outputs tree) (is_get.shows tree))
      (refl, (refl, (refl, (refl, (refl, (refl, (refl, (refl, tt))))))))
      (number_at schema p (placed_at request tree) has.listed (codes "request") (outputs tree) false 1
      (number_column (codes "tid")) refl refl)
      (number_at schema p (placed_at request tree) has.listed (codes "request") (outputs tree) false 2
      (number_column (codes "number")) refl refl)
      refl refl refl refl refl refl refl
      typed) refl (lit≤ tt) refl refl refl

  accepts : (a b : ℤ) → accepts_program schema [] (by_two 2 3 tree project) (Int a ∷ Int b ∷ []) ≡ true
  unfolding everything
  accepts a b = rw (has.low, has.found)

pub reads : (a b : ℤ) → ReadsAs request GET_REQUEST.now (Int a ∷ Int b ∷ []) (λ t. by_two 2 3 t project)
reads a b = record {
  names = codes "ordinal" ∷ codes "tid" ∷ codes "number" ∷ codes "aid" ∷ codes "bid"
      ∷ codes "delta" ∷ codes "outcome" ∷ codes "balance"
      ∷ [];
  means = meant;
  accepts = λ schema p tree has. accepts schema p tree has a b;
  unfolded = λ _. refl;
  ungrouped = λ _. refl;
}

-- an entry is of a teller and a number where its row is
pub has_both : (a b : ℕ) (r : RequestRow)
    → has_two (pos a) (pos b) (request_entry r) ≡ ((r.teller == a) && (r.number == b))
has_both a b r = rw (same_number r.teller a, same_number r.number b) refl

-- under any schema it only shows rows
pub only : (schema : Schema) → OnlyShows GET_REQUEST.now 2 (understood schema GET_REQUEST.now)
only = only_reads is_get
