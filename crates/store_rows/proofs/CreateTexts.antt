-- The CREATE texts, each of its table under any schema that takes it, and the text of the table that counts
-- for AUTOINCREMENT.
use Rattle.std.proofs.Common.{lit≤, refl, ap, ◌≡◌, ◌∙◌, ◌∷◌, [], false, List, map, Ok, ℕ}
use Rattle.sqlite.specs.{Compile.table_defined_by, Does.sequence_text, Table.Table}
use Rattle.sqlite_tied.specs.Compute.{everything}
use Rattle.std.specs.List.{AllByRecursion}
use Rattle.sql_meanings.specs.Making.{CreatesOnly, IsMakeable}
use Rattle.sql_meanings.proofs.{ListedTexts.listing_tests, Makeable.creates_by, Makeable.makeable, Places.all_weaker}
use Rattle.store_rows.specs.Creation.{all_texts}
use Rattle.store_rows.specs.believed.BankTables as bank
use Rattle.store_rows.specs.declared.texts.TheConstants.{MAKE_META, MAKE_BRANCH, MAKE_TELLER, MAKE_ACCOUNT}
use Rattle.store_rows.specs.declared.texts.TheConstants.{MAKE_HISTORY, MAKE_REQUEST, MAKE_FLOOR, MAKE_REFERENCE, MAKE_TABLES}
use Rattle.store_rows.specs.declared.texts.TheConstants.{MAKE_CLOSING}

-- the table that counts for AUTOINCREMENT
pub sequence : (t : Table) × IsMakeable sequence_text t
unfolding everything listing_tests
sequence = (_, makeable sequence_text _ refl refl refl refl refl refl refl refl)

-- what meta holds, and each balance
of_numbers : CreatesOnly MAKE_META.now bank.meta × CreatesOnly MAKE_BRANCH.now bank.branch
    × CreatesOnly MAKE_TELLER.now bank.teller × CreatesOnly MAKE_ACCOUNT.now bank.account
unfolding everything listing_tests
of_numbers = (
  creates_by _ _ (makeable MAKE_META.now bank.meta refl refl refl refl refl refl refl refl) refl _ _ _
      refl refl refl refl refl refl refl (lit≤ tt) refl,
  creates_by _ _ (makeable MAKE_BRANCH.now bank.branch refl refl refl refl refl refl refl refl) refl _ _ _
      refl refl refl refl refl refl refl (lit≤ tt) refl,
  creates_by _ _ (makeable MAKE_TELLER.now bank.teller refl refl refl refl refl refl refl refl) refl _ _ _
      refl refl refl refl refl refl refl (lit≤ tt) refl,
  creates_by _ _ (makeable MAKE_ACCOUNT.now bank.account refl refl refl refl refl refl refl refl) refl _ _ _
      refl refl refl refl refl refl refl (lit≤ tt) refl,
)

-- the lowest balance of a branch's accounts
pub of_floors : CreatesOnly MAKE_FLOOR.now bank.floor
unfolding everything listing_tests
of_floors = creates_by _ _ (makeable MAKE_FLOOR.now bank.floor refl refl refl refl refl refl refl refl) refl _ _ _
    refl refl refl refl refl refl refl (lit≤ tt) refl

-- what a decided request is referred to by
pub of_references : CreatesOnly MAKE_REFERENCE.now bank.reference
unfolding everything listing_tests
of_references =
    creates_by _ _ (makeable MAKE_REFERENCE.now bank.reference refl refl refl refl refl refl refl refl) refl
    _ _ _ refl refl refl refl refl refl refl (lit≤ tt) refl

-- the numbers that closed books decided
pub of_closings : CreatesOnly MAKE_CLOSING.now bank.closing
unfolding everything listing_tests
of_closings =
    creates_by _ _ (makeable MAKE_CLOSING.now bank.closing refl refl refl refl refl refl refl refl) refl
    _ _ _ refl refl refl refl refl refl refl (lit≤ tt) refl

-- what was asked
of_records : CreatesOnly MAKE_HISTORY.now bank.history × CreatesOnly MAKE_REQUEST.now bank.request
unfolding everything listing_tests
of_records = (
  creates_by _ _ (makeable MAKE_HISTORY.now bank.history refl refl refl refl refl refl refl refl) refl _ _ _
      refl refl refl refl refl refl refl (lit≤ tt) refl,
  creates_by _ _ (makeable MAKE_REQUEST.now bank.request refl refl refl refl refl refl refl refl) refl _ _ _
      refl refl refl refl refl refl refl (lit≤ tt) refl,
)

-- each text makes its table, which counts no rows
pub each_creates : AllByRecursion (λ it. CreatesOnly it.0 it.1 × (it.1.is_counted ≡ false)) all_texts
each_creates =
    let n = of_numbers in let r = of_records in (
      (n.0, refl),
      (
        (n.1, refl),
        (
          (n.2, refl),
          (
            (n.3, refl),
            (
              (r.0, refl),
              (
                (r.1, refl),
                (
                  (of_floors, refl),
                  ((of_references, refl), ((of_closings, refl), tt)),
                ),
              ),
            ),
          ),
        ),
      ),
    )

-- texts that define such tables each define them all, in their order
each_defined : (its : List (List ℕ × Table)) → AllByRecursion (λ it. table_defined_by it.0 ≡ Ok it.1) its
    → map (λ it. table_defined_by it.0) its ≡ map (λ it. Ok it.1) its
each_defined [] all = refl
each_defined (it ∷ its) all =
    ap (λ head. head ∷ map (λ it. table_defined_by it.0) its) all.0 ∙ ap (λ rest. Ok it.1 ∷ rest) (each_defined its all.1)

-- the tables of a bank are those that the texts define
pub texts_define : map (λ text. table_defined_by text.now) MAKE_TABLES.now ≡ map Ok bank.bank_tables
texts_define = each_defined all_texts (all_weaker (λ it. CreatesOnly it.0 it.1 × (it.1.is_counted ≡ false))
    (λ it. table_defined_by it.0 ≡ Ok it.1) (λ it creates. creates.0.makeable.defined) all_texts each_creates)
