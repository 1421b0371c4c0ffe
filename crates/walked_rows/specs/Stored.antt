-- The stored rows: keys, counts and moments within their ranges, and the other numbers whatever they are.
use Rattle.std.specs.Prelude.{ℕ, pos, [], ◌∷◌, Bool, true, Option, Some, None, Ok, refl, option_map}
use Rattle.sqlite.specs.Order.{column}
use Rattle.message_records.specs.believed.Reading.{◌>>=◌}
use Rattle.message_records.specs.declared.limits.TheConstants.{MAX_MOMENT}
use Rattle.posting_rules.specs.declared.fault.Rule.{Rule}
use Rattle.posting_rules.specs.declared.fault.Rule.TheVariants.{Value as OfValue}
use Rattle.posting_rules.specs.declared.limits.TheConstants.{LAST_BRANCH, MAX_DECIDED}
use Rattle.sql_meanings.specs.believed.Entries.{Entry}
use Rattle.sql_meanings.specs.Seeks.{begins}
use Rattle.store_rows.specs.believed.BankTables.{account, branch, history, request, teller}
use Rattle.store_rows.specs.believed.Readings.{Reading, number, whole}
use Rattle.walked_rows.specs.Kinds.{Kind, given_all}
use Rattle.walked_rows.specs.Pairs.{BreaksPair, Pair, pair_of}
use Rattle.walked_rows.specs.References.{BreaksReference, text_entry}
use Rattle.walked_rows.specs.StepOutcomes.{BreaksBy}
use Rattle.walked_rows.specs.declared.limits.TheConstants.{LAST_ACCOUNT, LAST_TELLER, MAX_COUNTED}
use Rattle.walked_rows.specs.declared.branches.StoredBranch.{StoredBranch}
use Rattle.walked_rows.specs.declared.tellers.StoredTeller.{StoredTeller}
use Rattle.walked_rows.specs.declared.accounts.StoredAccount.{StoredAccount}
use Rattle.walked_rows.specs.declared.postings.StoredPosting.{StoredPosting}
use Rattle.walked_rows.specs.declared.requests.StoredRequest.{StoredRequest}
use Rattle.walked_rows.specs.declared.joined.Joined.{Joined}
use Rattle.walked_rows.specs.declared.stated.StatedPosting.{StatedPosting}

-- ---- how a file holds a row, and what its columns are read as

-- bid, accounts, balance
abbrev pub branch_entry : StoredBranch → Entry
branch_entry r = record { key = pos r.branch; values = pos r.accounts ∷ r.balance ∷ []; texts = [] }

abbrev pub branch_of : Reading StoredBranch
branch_of row = do
  branch ← whole 1 LAST_BRANCH OfValue (column row 0)
  accounts ← whole 1 MAX_COUNTED OfValue (column row 1)
  balance ← number (column row 2)
  Ok (record { branch = branch; accounts = accounts; balance = balance })

-- tid, balance
abbrev pub teller_entry : StoredTeller → Entry
teller_entry r = record { key = pos r.teller; values = r.balance ∷ []; texts = [] }

abbrev pub teller_of : Reading StoredTeller
teller_of row = do
  teller ← whole 1 LAST_TELLER OfValue (column row 0)
  balance ← number (column row 1)
  Ok (record { teller = teller; balance = balance })

-- aid, balance
abbrev pub account_entry : StoredAccount → Entry
account_entry r = record { key = pos r.account; values = r.balance ∷ []; texts = [] }

abbrev pub account_of : Reading StoredAccount
account_of row = do
  account ← whole 1 LAST_ACCOUNT OfValue (column row 0)
  balance ← number (column row 1)
  Ok (record { account = account; balance = balance })

-- ordinal, aid, tid, bid, delta, moment
abbrev pub posting_entry : StoredPosting → Entry
posting_entry r = record {
  key = pos r.ordinal;
  values = r.account ∷ r.teller ∷ r.branch ∷ r.delta ∷ pos r.moment ∷ [];
  texts = [];
}

abbrev pub posting_of : Reading StoredPosting
posting_of row = do
  ordinal ← whole 1 MAX_DECIDED OfValue (column row 0)
  account ← number (column row 1)
  teller ← number (column row 2)
  branch ← number (column row 3)
  delta ← number (column row 4)
  moment ← whole 0 MAX_MOMENT OfValue (column row 5)
  Ok (record {
    ordinal = ordinal;
    account = account;
    teller = teller;
    branch = branch;
    delta = delta;
    moment = moment;
  })

-- ordinal, tid, number, aid, bid, delta, outcome, balance
abbrev pub request_entry : StoredRequest → Entry
request_entry r = record {
  key = pos r.ordinal;
  values = r.teller ∷ r.number ∷ r.account ∷ r.branch ∷ r.delta ∷ r.outcome ∷ r.balance ∷ [];
  texts = [];
}

abbrev pub request_of : Reading StoredRequest
request_of row = do
  ordinal ← whole 1 MAX_DECIDED OfValue (column row 0)
  teller ← number (column row 1)
  asked ← number (column row 2)
  account ← number (column row 3)
  branch ← number (column row 4)
  delta ← number (column row 5)
  outcome ← number (column row 6)
  balance ← number (column row 7)
  Ok (record {
    ordinal = ordinal;
    teller = teller;
    number = asked;
    account = account;
    branch = branch;
    delta = delta;
    outcome = outcome;
    balance = balance;
  })

-- the posting is one of this account, or any if none is named
abbrev pub is_of : Option ℕ → Entry → Bool
is_of None e = true
is_of (Some account) e = begins (pos account) e.values

-- ---- what walks go by

abbrev pub branch_kind : Kind StoredBranch
branch_kind = given_all branch branch_entry branch_of

abbrev pub teller_kind : Kind StoredTeller
teller_kind = given_all teller teller_entry teller_of

abbrev pub account_kind : Kind StoredAccount
account_kind = given_all account account_entry account_of

abbrev pub posting_kind : Kind StoredPosting
posting_kind = record {
  table = history;
  entry = posting_entry;
  reading = posting_of;
  is_given = is_of;
  all_given = λ e. refl;
}

abbrev pub request_kind : Kind StoredRequest
request_kind = given_all request request_entry request_of

-- ---- rows with what is beside them

-- a row of `request`, with the one of `history` under its ordinal
abbrev pub asked_pair : Joined StoredRequest StoredPosting → Pair
asked_pair = pair_of request_entry posting_entry

abbrev pub BreaksAsked : Rule → Pair → Type 0
BreaksAsked = BreaksPair (BreaksBy request_of) (BreaksBy posting_of)

-- a row of `history`, with the one of `request` under its ordinal
abbrev pub posted_pair : Joined StoredPosting StoredRequest → Pair
posted_pair = pair_of posting_entry request_entry

abbrev pub BreaksPosted : Rule → Pair → Type 0
BreaksPosted = BreaksPair (BreaksBy posting_of) (BreaksBy request_of)

-- a row of `history`, with the one of `request_reference` under its ordinal
abbrev pub stated_pair : StatedPosting → Pair
stated_pair s = record {
  entry = posting_entry s.posting;
  beside = option_map (text_entry s.posting.ordinal) s.reference;
}

-- the posting is one of this account, or any if none is named
abbrev pub is_stated_of : Option ℕ → Pair → Bool
is_stated_of of p = is_of of p.entry

abbrev pub BreaksStated : Rule → Pair → Type 0
BreaksStated = BreaksPair (BreaksBy posting_of) BreaksReference
