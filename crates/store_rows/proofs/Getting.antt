-- What each look-up under a key reads.
use Rattle.std.proofs.Common.{[], ◌∷◌, codes, lit≤, refl}
use Rattle.sqlite.specs.Term.{col}
use Rattle.sqlite_tied.specs.Compute.{everything}
use Rattle.sqlite_resolve.specs.Program as program
use Rattle.sqlite_resolve.specs.Select.{ungrouped}
use Rattle.sql_meanings.proofs.{Keyed.Gets, Keyed.IsFirst, Keyed.first_key, Keyed.gets_by, Texts.columns_of}
use Rattle.sql_meanings.proofs.Texts.{places_of, select_of}
use Rattle.store_rows.specs.believed.BankTables as bank
use Rattle.store_rows.specs.declared.texts.TheConstants.{GET_META, GET_BRANCH, GET_TELLER, GET_ACCOUNT, GET_FLOOR}
use Rattle.store_rows.specs.declared.texts.TheConstants.{GET_CLOSING, GET_REFERENCE}

-- the key of each is first
pub record Keys : Type 0 where
  pub meta : IsFirst bank.meta (codes "id")
  pub branch : IsFirst bank.branch (codes "bid")
  pub teller : IsFirst bank.teller (codes "tid")
  pub account : IsFirst bank.account (codes "aid")
  pub floor : IsFirst bank.floor (codes "bid")
  pub reference : IsFirst bank.reference (codes "ordinal")
  pub closing : IsFirst bank.closing (codes "last")

unfoldable pub keys : Keys
unfolding everything
keys = record {
  meta = λ _. first_key (codes "id") refl refl refl refl;
  branch = λ _. first_key (codes "bid") refl refl refl refl;
  teller = λ _. first_key (codes "tid") refl refl refl refl;
  account = λ _. first_key (codes "aid") refl refl refl refl;
  floor = λ _. first_key (codes "bid") refl refl refl refl;
  reference = λ _. first_key (codes "ordinal") refl refl refl refl;
  closing = λ _. first_key (codes "last") refl refl refl refl;
}

pub record GetsRows : Type 0 where
  pub meta : Gets bank.meta GET_META.now (1 ∷ 2 ∷ []) (col 1 2 ∷ col 1 3 ∷ [])
  pub branch : Gets bank.branch GET_BRANCH.now (places_of bank.branch) (columns_of bank.branch)
  pub teller : Gets bank.teller GET_TELLER.now (1 ∷ []) (col 1 2 ∷ [])
  pub account : Gets bank.account GET_ACCOUNT.now (1 ∷ []) (col 1 2 ∷ [])
  pub floor : Gets bank.floor GET_FLOOR.now (places_of bank.floor) (columns_of bank.floor)
  pub reference : Gets bank.reference GET_REFERENCE.now (places_of bank.reference) (columns_of bank.reference)
  pub closing : Gets bank.closing GET_CLOSING.now (places_of bank.closing) (columns_of bank.closing)

pub gets : GetsRows
unfolding everything program.program ungrouped
gets = record {
  meta = gets_by (select_of bank.meta GET_META.now 1 _ _ _ _ _ _ _ _ _ refl refl refl (lit≤ tt) refl refl refl
      refl (λ _. refl) (lit≤ tt))
      _ _ _ _ _ keys.meta refl refl refl refl refl refl (λ _ _ _ has. rw (has.low, has.found))
      (λ _ _ _ _ has. rw (has.low, has.found));
  branch = gets_by (select_of bank.branch GET_BRANCH.now 1 _ _ _ _ _ _ _ _ _ refl refl refl (lit≤ tt) refl refl
      refl refl (λ _. refl) (lit≤ tt))
      _ _ _ _ _ keys.branch refl refl refl refl refl refl (λ _ _ _ has. rw (has.low, has.found))
      (λ _ _ _ _ has. rw (has.low, has.found));
  teller = gets_by (select_of bank.teller GET_TELLER.now 1 _ _ _ _ _ _ _ _ _ refl refl refl (lit≤ tt) refl refl
      refl refl (λ _. refl) (lit≤ tt))
      _ _ _ _ _ keys.teller refl refl refl refl refl refl (λ _ _ _ has. rw (has.low, has.found))
      (λ _ _ _ _ has. rw (has.low, has.found));
  account = gets_by (select_of bank.account GET_ACCOUNT.now 1 _ _ _ _ _ _ _ _ _ refl refl refl (lit≤ tt) refl
      refl refl refl (λ _. refl) (lit≤ tt))
      _ _ _ _ _ keys.account refl refl refl refl refl refl (λ _ _ _ has. rw (has.low, has.found))
      (λ _ _ _ _ has. rw (has.low, has.found));
  floor = gets_by (select_of bank.floor GET_FLOOR.now 1 _ _ _ _ _ _ _ _ _ refl refl refl (lit≤ tt) refl refl refl
      refl (λ _. refl) (lit≤ tt))
      _ _ _ _ _ keys.floor refl refl refl refl refl refl (λ _ _ _ has. rw (has.low, has.found))
      (λ _ _ _ _ has. rw (has.low, has.found));
  reference = gets_by (select_of bank.reference GET_REFERENCE.now 1 _ _ _ _ _ _ _ _ _ refl refl refl (lit≤ tt)
      refl refl refl refl (λ _. refl) (lit≤ tt))
      _ _ _ _ _ keys.reference refl refl refl refl refl refl (λ _ _ _ has. rw (has.low, has.found))
      (λ _ _ _ _ has. rw (has.low, has.found));
  closing = gets_by (select_of bank.closing GET_CLOSING.now 1 _ _ _ _ _ _ _ _ _ refl refl refl (lit≤ tt)
      refl refl refl refl (λ _. refl) (lit≤ tt))
      _ _ _ _ _ keys.closing refl refl refl refl refl refl (λ _ _ _ has. rw (has.low, has.found))
      (λ _ _ _ _ has. rw (has.low, has.found));
}
