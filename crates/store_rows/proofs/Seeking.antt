-- What each look-up of a row looks up.
use Rattle.std.proofs.Common.{ℕ, pos, List, [], ◌∷◌, find, refl, subst}
use Rattle.sqlite.specs.{Order.Row, Order.column, Term.Term, Term.col, declared.types.Value.TheVariants.Int}
use Rattle.sql_meanings.specs.{believed.Entries.Entry, believed.Entries.has_two, Entries.is_above}
use Rattle.sql_meanings.specs.StatementAnswers.{TellsRow}
use Rattle.sql_meanings.proofs.{ReadRows.reads_next, ReadRows.reads_two, Texts.columns_of, Texts.only_reads}
use Rattle.store_rows.specs.{Holders.entry_under, believed.Rules.row_under, believed.SeveralRows.given}
use Rattle.store_rows.specs.declared.holders.Member.TheVariants.{Account, Teller}
use Rattle.store_rows.specs.declared.texts.TheConstants.{GET_ACCOUNT, GET_BRANCH, GET_FLOOR, GET_REQUEST, GET_TELLER}
use Rattle.store_rows.specs.declared.texts.TheConstants.{GET_CLOSING, GET_REFERENCE, NEXT_BRANCH, NEXT_POSTING, NEXT_REFERENCE}
use Rattle.store_rows.specs.declared.texts.TheConstants.{NEXT_CLOSING, NEXT_REQUEST}
use Rattle.store_rows.specs.{Beyond.beyond, declared.beyond.Numbered.TheVariants.Postings}
use Rattle.store_rows.specs.declared.beyond.Numbered.TheVariants.{References, Requests}
use Rattle.store_rows.specs.believed.BankTables as bank
use Rattle.store_rows.proofs.{Getting.gets, ShownValues.all_columns, Telling.Seeks}
use Rattle.store_rows.proofs.StoredRows.{holds_list, shown_as, stored_under}
use Rattle.store_rows.proofs.GetRequest as request
use Rattle.store_rows.proofs.NextRows as next

-- ---- a balance under a key

abbrev balance_project : List Term
balance_project = col 1 2 ∷ []

-- the balance alone
abbrev pub balance_shown : Entry → Row
balance_shown e = column (given e) 1 ∷ []

-- of an account
pub seeks_account : (k : ℕ) → Seeks GET_ACCOUNT.now (Int (pos k) ∷ []) 1 balance_shown (entry_under (Account k))
seeks_account k = record {
  only = only_reads gets.account.is;
  answers = stored_under 3 bank.account refl refl (λ rows. rows.accounts) (λ _. refl) _ balance_project k
      (gets.account.reads (pos k)) balance_shown (λ e wide. refl);
}

-- of a teller
pub seeks_teller : (k : ℕ) → Seeks GET_TELLER.now (Int (pos k) ∷ []) 1 balance_shown (entry_under (Teller k))
seeks_teller k = record {
  only = only_reads gets.teller.is;
  answers = stored_under 2 bank.teller refl refl (λ rows. rows.tellers) (λ _. refl) _ balance_project k
      (gets.teller.reads (pos k)) balance_shown (λ e wide. refl);
}

-- ---- whole rows

-- the branch under a number
pub seeks_branch : (k : ℕ) → Seeks GET_BRANCH.now (Int (pos k) ∷ []) 1 given (λ rows. row_under rows.branches k)
seeks_branch k = record {
  only = only_reads gets.branch.is;
  answers = stored_under 1 bank.branch refl refl (λ rows. rows.branches) (λ _. refl) _ _ k
      (gets.branch.reads (pos k)) given (all_columns 2 0);
}

-- the floor of a branch
pub seeks_floor : (k : ℕ) → Seeks GET_FLOOR.now (Int (pos k) ∷ []) 1 given (λ rows. row_under rows.floors k)
seeks_floor k = record {
  only = only_reads gets.floor.is;
  answers = stored_under 6 bank.floor refl refl (λ rows. rows.floors) (λ _. refl) _ _ k
      (gets.floor.reads (pos k)) given (all_columns 1 0);
}

-- the reference under an ordinal
pub seeks_reference : (k : ℕ) → Seeks GET_REFERENCE.now (Int (pos k) ∷ []) 1 given
    (λ rows. row_under rows.references k)
seeks_reference k = record {
  only = only_reads gets.reference.is;
  answers = stored_under 7 bank.reference refl refl (λ rows. rows.references) (λ _. refl) _ _ k
      (gets.reference.reads (pos k)) given (all_columns 0 1);
}

-- the closed numbers up to a key
pub seeks_closing : (k : ℕ) → Seeks GET_CLOSING.now (Int (pos k) ∷ []) 1 given (λ rows. row_under rows.closings k)
seeks_closing k = record {
  only = only_reads gets.closing.is;
  answers = stored_under 8 bank.closing refl refl (λ rows. rows.closings) (λ _. refl) _ _ k
      (gets.closing.reads (pos k)) given (all_columns 1 0);
}

-- the closed numbers with the least last key above one
pub seeks_next_closing : (k : ℕ) → Seeks NEXT_CLOSING.now (Int (pos k) ∷ []) 1 given
    (λ rows. find (is_above (pos k)) rows.closings)
seeks_next_closing k = record {
  only = only_reads next.is_closing;
  answers = λ old new rows has r h.
      let holds = holds_list old.now rows has 8 bank.closing rows.closings refl refl in
      subst (λ o. TellsRow old new o r)
      (shown_as (1, 0) _ given (all_columns 1 0) (is_above (pos k)) rows.closings holds.rows.wide)
      (reads_next old new bank.closing refl has.sound rows.closings holds NEXT_CLOSING.now (columns_of bank.closing) (pos k)
      (next.next_closing (pos k)) r h);
}

-- the branch with the least number above one
pub seeks_next : (k : ℕ) → Seeks NEXT_BRANCH.now (Int (pos k) ∷ []) 1 given
    (λ rows. find (is_above (pos k)) rows.branches)
seeks_next k = record {
  only = only_reads next.is_branch;
  answers = λ old new rows has r h.
      let holds = holds_list old.now rows has 1 bank.branch rows.branches refl refl in
      subst (λ o. TellsRow old new o r)
      (shown_as (2, 0) _ given (all_columns 2 0) (is_above (pos k)) rows.branches holds.rows.wide)
      (reads_next old new bank.branch refl has.sound rows.branches holds NEXT_BRANCH.now (columns_of bank.branch) (pos k)
      (next.next_branch (pos k)) r h);
}

-- the rows with the least ordinals above one
pub seeks_beyond_requests : (k : ℕ) → Seeks NEXT_REQUEST.now (Int (pos k) ∷ []) 1 given (beyond Requests k)
seeks_beyond_requests k = record {
  only = only_reads next.is_request;
  answers = λ old new rows has r h.
      let holds = holds_list old.now rows has 5 bank.request rows.requests refl refl in
      subst (λ o. TellsRow old new o r)
      (shown_as (7, 0) _ given (all_columns 7 0) (is_above (pos k)) rows.requests holds.rows.wide)
      (reads_next old new bank.request refl has.sound rows.requests holds NEXT_REQUEST.now (columns_of bank.request)
      (pos k) (next.next_request (pos k)) r h);
}

pub seeks_beyond_postings : (k : ℕ) → Seeks NEXT_POSTING.now (Int (pos k) ∷ []) 1 given (beyond Postings k)
seeks_beyond_postings k = record {
  only = only_reads next.is_posting;
  answers = λ old new rows has r h.
      let holds = holds_list old.now rows has 4 bank.history rows.history refl refl in
      subst (λ o. TellsRow old new o r)
      (shown_as (5, 0) _ given (all_columns 5 0) (is_above (pos k)) rows.history holds.rows.wide)
      (reads_next old new bank.history refl has.sound rows.history holds NEXT_POSTING.now (columns_of bank.history)
      (pos k) (next.next_posting (pos k)) r h);
}

pub seeks_beyond_references : (k : ℕ) → Seeks NEXT_REFERENCE.now (Int (pos k) ∷ []) 1 given (beyond References k)
seeks_beyond_references k = record {
  only = only_reads next.is_reference;
  answers = λ old new rows has r h.
      let holds = holds_list old.now rows has 7 bank.reference rows.references refl refl in
      subst (λ o. TellsRow old new o r)
      (shown_as (0, 1) _ given (all_columns 0 1) (is_above (pos k)) rows.references holds.rows.wide)
      (reads_next old new bank.reference refl has.sound rows.references holds NEXT_REFERENCE.now
      (columns_of bank.reference) (pos k) (next.next_reference (pos k)) r h);
}

-- the request of a teller under its number
pub seeks_request : (a b : ℕ) → Seeks GET_REQUEST.now (Int (pos a) ∷ Int (pos b) ∷ []) 2 given
    (λ rows. find (has_two (pos a) (pos b)) rows.requests)
seeks_request a b = record {
  only = request.only;
  answers = λ old new rows has r h.
      let holds = holds_list old.now rows has 5 bank.request rows.requests refl refl in
      subst (λ o. TellsRow old new o r)
      (shown_as (7, 0) _ given (all_columns 7 0) (has_two (pos a) (pos b)) rows.requests holds.rows.wide)
      (reads_two old new bank.request refl has.sound rows.requests holds GET_REQUEST.now request.project (pos a) (pos b)
      refl refl (request.reads (pos a) (pos b)) r h);
}
