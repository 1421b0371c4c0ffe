-- The kept requests of a file: rows of `request`, each with those of `history` and of `request_reference` under
-- its ordinal.
use Rattle.std.specs.Prelude.{◌≡◌, ◌⊎◌, ◌≤◌, ◌++◌, ℕ, ℤ, pos, List, map, Option, IsSomeAnd, option_map}
use Rattle.sqlite.specs.Effect.{Database}
use Rattle.posting_rules.specs.declared.fault.Rule.{Rule}
use Rattle.posting_rules.specs.declared.limits.TheConstants.{MAX_DECIDED}
use Rattle.sql_meanings.specs.believed.Entries.{Entry}
use Rattle.store_rows.specs.believed.BankTables.{history, reference, request}
use Rattle.walked_rows.specs.Pairs.{Pair, row_under}
use Rattle.walked_rows.specs.References.{BreaksReference, text_entry}
use Rattle.store_rows.specs.View.{HoldsRows}
use Rattle.walked_rows.specs.Rows.{HasStoredRows, holds_rows, rows_after, rows_from}
use Rattle.walked_rows.specs.Stored.{BreaksAsked, posting_entry, request_entry}
use Rattle.walked_rows.specs.declared.kept.KeptRequest.{KeptRequest}

-- a row of `request`, and what is under its ordinal
pub record KeptItem : Type 0 where
  pub entry : Entry
  pub posting : Option Entry
  pub reference : Option Entry

abbrev pub kept_key : KeptItem → ℤ
kept_key k = k.entry.key

-- a row with what of these is under its key
abbrev pub kept_with : List Entry → List Entry → Entry → KeptItem
kept_with postings references e = record {
  entry = e;
  posting = row_under postings e.key;
  reference = row_under references e.key;
}

-- each of them
abbrev pub kept_all : List Entry → List Entry → List Entry → List KeptItem
kept_all postings references = map (kept_with postings references)

-- a sound database has the three tables, and these are its kept requests
pub record HasKept (db : Database) (all : List KeptItem) : Type 0 where
  pub rows : List Entry
  pub postings : List Entry
  pub references : List Entry
  pub has : HasStoredRows db request rows
  pub has_postings : HasStoredRows db history postings
  pub has_references : HasStoredRows db reference references
  pub are : all ≡ kept_all postings references rows

-- the same, whatever their keys are
pub record HoldsKept (db : Database) (all : List KeptItem) : Type 0 where
  pub rows : List Entry
  pub postings : List Entry
  pub references : List Entry
  pub has : HoldsRows db request rows
  pub has_postings : HoldsRows db history postings
  pub has_references : HoldsRows db reference references
  pub are : all ≡ kept_all postings references rows

abbrev pub holds_kept : {db : Database} {all : List KeptItem} → HasKept db all → HoldsKept db all
holds_kept has = record {
  rows = has.rows;
  postings = has.postings;
  references = has.references;
  has = holds_rows has.has;
  has_postings = holds_rows has.has_postings;
  has_references = holds_rows has.has_references;
  are = has.are;
}

-- how a file holds one
abbrev pub kept_item : KeptRequest → KeptItem
kept_item r = record {
  entry = request_entry r.request;
  posting = option_map posting_entry r.posting;
  reference = option_map (text_entry r.request.ordinal) r.reference;
}

-- the row of `request` with that of `history`
abbrev pub asked_of : KeptItem → Pair
asked_of k = record { entry = k.entry; beside = k.posting }

-- a number that an ordinal may be
abbrev pub IsOrdinal : ℤ → Type 0
IsOrdinal z = (n : ℕ) × (z ≡ pos n) × (1 ≤ n) × (n ≤ MAX_DECIDED)

-- its row breaks the rule, or the posting under its ordinal does, or the reference under an ordinal that is one
abbrev pub BreaksKept : Rule → KeptItem → Type 0
BreaksKept broken k = BreaksAsked broken (asked_of k)
    ⊎ (IsOrdinal k.entry.key × IsSomeAnd k.reference (BreaksReference broken))

-- these are the kept requests of the rows from a number on, up to those that follow
abbrev pub AreKept : List Entry → List Entry → List Entry → ℤ → List KeptRequest → Option ℤ → Type 0
AreKept postings references rows from done rest =
    kept_all postings references (rows_from from rows)
    ≡ map kept_item done ++ kept_all postings references (rows_after rest rows)
