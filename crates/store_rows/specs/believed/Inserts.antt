-- The texts by which calls put rows in, and change them.
use Rattle.std.specs.Prelude.{ℕ, List}
use Rattle.store_rows.specs.declared.metas.TheConstants.{META_ID}
use Rattle.store_rows.specs.declared.texts.TheConstants.{ADD_ACCOUNT, ADD_BRANCH, ADD_CLOSING, ADD_EIGHT_POSTINGS}
use Rattle.store_rows.specs.declared.texts.TheConstants.{ADD_EIGHT_REQUESTS, ADD_FLOOR, ADD_HISTORY}
use Rattle.store_rows.specs.declared.texts.TheConstants.{ADD_REFERENCE, ADD_REQUEST, ADD_TELLER, SET_ACCOUNT}
use Rattle.store_rows.specs.declared.texts.TheConstants.{SET_BRANCH, SET_META, SET_TELLER}

abbrev pub branch_insert : List ℕ
branch_insert = ADD_BRANCH.now

abbrev pub teller_insert : List ℕ
teller_insert = ADD_TELLER.now

abbrev pub account_insert : List ℕ
account_insert = ADD_ACCOUNT.now

abbrev pub floor_insert : List ℕ
floor_insert = ADD_FLOOR.now

abbrev pub posting_insert : List ℕ
posting_insert = ADD_HISTORY.now

abbrev pub eight_postings_insert : List ℕ
eight_postings_insert = ADD_EIGHT_POSTINGS.now

abbrev pub request_insert : List ℕ
request_insert = ADD_REQUEST.now

abbrev pub eight_requests_insert : List ℕ
eight_requests_insert = ADD_EIGHT_REQUESTS.now

abbrev pub reference_insert : List ℕ
reference_insert = ADD_REFERENCE.now

abbrev pub closing_insert : List ℕ
closing_insert = ADD_CLOSING.now

abbrev pub account_update : List ℕ
account_update = SET_ACCOUNT.now

abbrev pub teller_update : List ℕ
teller_update = SET_TELLER.now

abbrev pub branch_update : List ℕ
branch_update = SET_BRANCH.now

abbrev pub meta_update : List ℕ
meta_update = SET_META.now

-- the key of the one row of `meta`
abbrev pub meta_key : ℕ
meta_key = META_ID
