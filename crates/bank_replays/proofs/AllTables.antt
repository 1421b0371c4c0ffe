-- The rows of two files are the same where they are in each table.
use Rattle.std.proofs.Common.{◌≡◌, List, [], ◌∷◌, inl, inr, refl, subst, sym}
use Rattle.sqlite.specs.{Effect.Database, Table.Table}
use Rattle.sql_meanings.specs.believed.Entries.{Entry}
use Rattle.store_rows.specs.believed.BankTables.{account, branch, closing, floor, history, meta, reference, request, teller}
use Rattle.walked_rows.specs.{References.listed_entry, Rows.HasStoredRows, Rows.entry_key}
use Rattle.walked_rows.specs.Stored.{account_entry, branch_entry, posting_entry, request_entry, teller_entry}
use Rattle.walked_rows.specs.StoredBeside.{closing_entry, floor_entry, meta_entry}
use Rattle.bank_replays.specs.declared.difference.Sides.{Sides}
use Rattle.bank_replays.specs.Comparing.{Both, DiffersIn, Either, SameRows}
use Rattle.bank_replays.specs.Differences.{DiffersFirst}
use Rattle.bank_replays.specs.{FileTables.FileTables, FileTables.HasTables, FileTables.SameTables}
use Rattle.bank_replays.specs.declared.difference.Difference.{Difference}
use Rattle.bank_replays.specs.declared.difference.Difference.TheVariants.{Account, Branch, Closing, Floor, Meta, Posting}
use Rattle.bank_replays.specs.declared.difference.Difference.TheVariants.{Reference, Request, Teller}

-- the same rows of one table
abbrev pub SameIn : Table → Database → Database → Type 0
SameIn table = SameRows (λ db rows. HasStoredRows db table rows)

abbrev pub InAll : Database → Database → Type 0
InAll = Both (Both (Both (SameIn meta) (SameIn branch)) (Both (SameIn floor) (SameIn request)))
    (Both (Both (Both (SameIn reference) (SameIn history)) (Both (SameIn account) (SameIn teller))) (SameIn closing))

with_tables : (metas metas' branches branches' tellers tellers' accounts accounts' : List Entry)
    (history history' requests requests' floors floors' references references' closings closings' : List Entry)
    → metas ≡ metas' → branches ≡ branches' → tellers ≡ tellers' → accounts ≡ accounts' → history ≡ history'
    → requests ≡ requests' → floors ≡ floors' → references ≡ references' → closings ≡ closings'
    → (let it : FileTables = record {
      metas = metas;
      branches = branches;
      tellers = tellers;
      accounts = accounts;
      history = history;
      requests = requests;
      floors = floors;
      references = references;
      closings = closings;
    } in it) ≡ record {
      metas = metas';
      branches = branches';
      tellers = tellers';
      accounts = accounts';
      history = history';
      requests = requests';
      floors = floors';
      references = references';
      closings = closings';
    }
with_tables metas metas' branches branches' tellers tellers' accounts accounts' history history' requests requests'
    floors floors' references references' closings closings' a b c d e f h i j = cc

pub all_same : (db other : Database) → InAll db other → SameTables db other
all_same db other same f due has has_due =
    with_tables f.metas due.metas f.branches due.branches f.tellers due.tellers f.accounts due.accounts
    f.history due.history f.requests due.requests f.floors due.floors f.references due.references
    f.closings due.closings
    (same.0.0.0 f.metas due.metas has.metas has_due.metas)
    (same.0.0.1 f.branches due.branches has.branches has_due.branches)
    (same.1.0.1.1 f.tellers due.tellers has.tellers has_due.tellers)
    (same.1.0.1.0 f.accounts due.accounts has.accounts has_due.accounts)
    (same.1.0.0.1 f.history due.history has.history has_due.history)
    (same.0.1.1 f.requests due.requests has.requests has_due.requests)
    (same.0.1.0 f.floors due.floors has.floors has_due.floors)
    (same.1.0.0.0 f.references due.references has.references has_due.references)
    (same.1.1 f.closings due.closings has.closings has_due.closings)

-- ---- a difference

-- in one table
abbrev pub OfTable : {R : Type 0} → Table → (R → Entry) → (Sides R → Difference) → Database → Database → Difference → Type 0
OfTable table entry difference =
    DiffersIn entry_key entry (λ d s. d ≡ difference s) (λ db rows. HasStoredRows db table rows)

abbrev pub InAny : Database → Database → Difference → Type 0
InAny = Either (Both (Both (SameIn meta) (SameIn branch)) (Both (SameIn floor) (SameIn request)))
    (Either (Both (SameIn meta) (SameIn branch))
    (Either (SameIn meta) (OfTable meta meta_entry Meta) (OfTable branch branch_entry Branch))
    (Either (SameIn floor) (OfTable floor floor_entry Floor) (OfTable request request_entry Request)))
    (Either (Both (Both (SameIn reference) (SameIn history)) (Both (SameIn account) (SameIn teller)))
    (Either (Both (SameIn reference) (SameIn history))
    (Either (SameIn reference) (OfTable reference listed_entry Reference) (OfTable history posting_entry Posting))
    (Either (SameIn account) (OfTable account account_entry Account) (OfTable teller teller_entry Teller)))
    (OfTable closing closing_entry Closing))

and_before : {X : Type 0} {x y : X} {xs ys : List X} → x ≡ y → xs ≡ ys → x ∷ xs ≡ y ∷ ys
and_before is are = cc

module _ (db other : Database) (d : Difference) (f due : FileTables) (has : HasTables db f) (has_due : HasTables other due)
  where
    module _ (one : Both (SameIn meta) (SameIn branch) db other) where
      metas : f.metas ≡ due.metas
      metas = one.0 f.metas due.metas has.metas has_due.metas

      branches : f.branches ≡ due.branches
      branches = one.1 f.branches due.branches has.branches has_due.branches

    module _ (two : Both (Both (SameIn meta) (SameIn branch)) (Both (SameIn floor) (SameIn request)) db other) where
      first_four : {xs ys : List (List Entry)} → xs ≡ ys
          → f.metas ∷ f.branches ∷ f.floors ∷ f.requests ∷ xs ≡ due.metas ∷ due.branches ∷ due.floors ∷ due.requests ∷ ys
      first_four are = and_before (metas two.0) (and_before (branches two.0)
          (and_before (two.1.0 f.floors due.floors has.floors has_due.floors)
          (and_before (two.1.1 f.requests due.requests has.requests has_due.requests) are)))

    pub any_differs : InAny db other d → DiffersFirst f due d
    any_differs (inl (inl (inl it))) = subst (DiffersFirst f due) (sym it.says)
        (record { before = refl; rows = it.are f.metas due.metas has.metas has_due.metas })
    any_differs (inl (inl (inr (same, it)))) = subst (DiffersFirst f due) (sym it.says) (record {
      before = and_before (same f.metas due.metas has.metas has_due.metas) refl;
      rows = it.are f.branches due.branches has.branches has_due.branches;
    })
    any_differs (inl (inr (one, inl it))) = subst (DiffersFirst f due) (sym it.says) (record {
      before = and_before (metas one) (and_before (branches one) refl);
      rows = it.are f.floors due.floors has.floors has_due.floors;
    })
    any_differs (inl (inr (one, inr (same, it)))) = subst (DiffersFirst f due) (sym it.says) (record {
      before = and_before (metas one) (and_before (branches one)
          (and_before (same f.floors due.floors has.floors has_due.floors) refl));
      rows = it.are f.requests due.requests has.requests has_due.requests;
    })
    any_differs (inr (two, inl (inl (inl it)))) = subst (DiffersFirst f due) (sym it.says) (record {
      before = first_four two refl;
      rows = it.are f.references due.references has.references has_due.references;
    })
    any_differs (inr (two, inl (inl (inr (same, it))))) = subst (DiffersFirst f due) (sym it.says) (record {
      before = first_four two (and_before (same f.references due.references has.references has_due.references) refl);
      rows = it.are f.history due.history has.history has_due.history;
    })
    any_differs (inr (two, inl (inr (three, inl it)))) = subst (DiffersFirst f due) (sym it.says) (record {
      before = first_four two (and_before (three.0 f.references due.references has.references has_due.references)
          (and_before (three.1 f.history due.history has.history has_due.history) refl));
      rows = it.are f.accounts due.accounts has.accounts has_due.accounts;
    })
    any_differs (inr (two, inl (inr (three, inr (same, it))))) = subst (DiffersFirst f due) (sym it.says) (record {
      before = first_four two (and_before (three.0 f.references due.references has.references has_due.references)
          (and_before (three.1 f.history due.history has.history has_due.history)
          (and_before (same f.accounts due.accounts has.accounts has_due.accounts) refl)));
      rows = it.are f.tellers due.tellers has.tellers has_due.tellers;
    })
    any_differs (inr (two, inr (rest, it))) = subst (DiffersFirst f due) (sym it.says) (record {
      before = first_four two (and_before (rest.0.0 f.references due.references has.references has_due.references)
          (and_before (rest.0.1 f.history due.history has.history has_due.history)
          (and_before (rest.1.0 f.accounts due.accounts has.accounts has_due.accounts)
          (and_before (rest.1.1 f.tellers due.tellers has.tellers has_due.tellers) refl))));
      rows = it.are f.closings due.closings has.closings has_due.closings;
    })
