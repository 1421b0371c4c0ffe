-- Two audits and two statements, worked out to the byte.
use Rattle.std.specs.Prelude.{◌≡◌, ◌++◌, ℕ, ℤ, pos, negsuc, [], ◌∷◌, Some, None, refl, codes}
use Rattle.std.specs.Fmt.{digits}
use Rattle.walked_rows.specs.declared.{postings.StoredPosting.StoredPosting, stated.StatedPosting.StatedPosting}
use Rattle.walked_rows.specs.declared.{requests.StoredRequest.StoredRequest, tellers.StoredTeller.StoredTeller}
use Rattle.walked_rows.specs.declared.{accounts.StoredAccount.StoredAccount, branches.StoredBranch.StoredBranch}
use Rattle.report_contents.specs.declared.audit.Audit.{Audit}
use Rattle.message_records.proofs.Examples.{plain_request}
use Rattle.posting_rules.specs.believed.{Entries.posted_entry, Tables.history_row_of}
use Rattle.report_contents.specs.{Audit.audit_of, Stored.StoredTables, Stored.posting_stored}
use Rattle.report_contents.specs.StatementText.{form_for, stated_text}
use Rattle.report_contents.specs.Queries.{whole_query}
use Rattle.posting_sheets.specs.References.{reference_field}
use Rattle.report_contents.specs.Sheet.{sheet_line, time_text}
use Rattle.report_contents.specs.declared.{form.Form.Form, form.Style.TheVariants.Sheet}
use Rattle.report_contents.specs.Zoned.{date_of}
use Rattle.csv.specs.Writing.{escaped}
use Rattle.report_contents.specs.AuditText.{audit_text, number_line, branch_line}

teller : ℕ → ℤ → StoredTeller
teller n balance = record { teller = n; balance = balance }

account : ℕ → ℤ → StoredAccount
account n balance = record { account = n; balance = balance }

branch : ℕ → ℕ → ℤ → StoredBranch
branch n accounts balance = record { branch = n; accounts = accounts; balance = balance }

-- five dollars to account 1, and seven from account 100001
deposit : StoredPosting
deposit = posting_stored (history_row_of 1 (posted_entry 1000 (plain_request 1 1 1 1 (pos 500)) (pos 500)))

withdrawal : StoredPosting
withdrawal =
    posting_stored (history_row_of 2 (posted_entry 2000 (plain_request 100001 1 1 2 (negsuc 699)) (negsuc 699)))

asked : StoredPosting → ℕ → ℤ → StoredRequest
asked h number balance = record {
  ordinal = h.ordinal;
  teller = h.teller;
  number = pos number;
  account = h.account;
  branch = h.branch;
  delta = h.delta;
  outcome = pos 0;
  balance = balance;
}

-- then somebody set teller 1 to -300 and teller 11 to 100, which leaves the totals as they were
damaged : StoredTables
unfolding teller account branch deposit withdrawal asked
damaged = record {
  branches = branch 1 3 (negsuc 199) ∷ branch 2 2 (pos 0) ∷ [];
  tellers = teller 1 (negsuc 299) ∷ teller 2 (pos 0) ∷ teller 3 (pos 0) ∷ teller 4 (pos 0)
      ∷ teller 5 (pos 0)
      ∷ teller 6 (pos 0) ∷ teller 7 (pos 0) ∷ teller 8 (pos 0) ∷ teller 9 (pos 0)
      ∷ teller 10 (pos 0)
      ∷ teller 11 (pos 100) ∷ teller 12 (pos 0) ∷ teller 13 (pos 0) ∷ teller 14 (pos 0)
      ∷ teller 15 (pos 0)
      ∷ teller 16 (pos 0) ∷ teller 17 (pos 0) ∷ teller 18 (pos 0) ∷ teller 19 (pos 0)
      ∷ teller 20 (pos 0) ∷ [];
  accounts = account 1 (pos 500) ∷ account 2 (pos 0) ∷ account 3 (pos 0) ∷ account 100001 (negsuc 699)
      ∷ account 100002 (pos 0) ∷ [];
  history = deposit ∷ withdrawal ∷ [];
  requests = asked deposit 1 (pos 500) ∷ asked withdrawal 2 (negsuc 699) ∷ [];
}

-- what is said of it
found : Audit
found = record {
  branches = 2;
  tellers = 20;
  accounts = 5;
  requests = 2;
  history = 2;
  account_sum = negsuc 199;
  teller_sum = negsuc 199;
  branch_sum = negsuc 199;
  history_sum = negsuc 199;
  unmatched = 0;
  lines = record { branch = 1; tellers = negsuc 299; balance = negsuc 199 }
      ∷ record { branch = 2; tellers = pos 100; balance = pos 0 } ∷ [];
}

audit_finds_damage : audit_of damaged ≡ found
unfolding damaged teller account branch deposit withdrawal asked found
audit_finds_damage = refl

text_of_damage : audit_text found ≡
    codes "branches                       2\ntellers                       20\naccounts                       5\n"
    ++ codes "requests                       2\nhistory                        2\naccount sum                 -200\n"
    ++ codes "teller sum                  -200\nbranch sum                  -200\nhistory sum                 -200\n"
    ++ codes "unmatched                      0\nbranch 1 tellers -300 balance -200\nbranch 2 tellers 100 balance 0\nINCONSISTENT\n"
unfolding found audit_text number_line branch_line digits
text_of_damage = refl

nothing : StoredTables
nothing = record { branches = []; tellers = []; accounts = []; history = []; requests = [] }

empty_audit : audit_text (audit_of nothing) ≡
    codes "branches                       0\ntellers                        0\naccounts                       0\n"
    ++ codes "requests                       0\nhistory                        0\naccount sum                    0\n"
    ++ codes "teller sum                     0\nbranch sum                     0\nhistory sum                    0\n"
    ++ codes "unmatched                      0\nCONSISTENT\n"
unfolding nothing audit_text number_line digits
empty_audit = refl

-- the deposit came with this reference, and the withdrawal with none
rent : StatedPosting
rent = record { posting = deposit; reference = Some (codes "RENT MAY            ") }

bare : StatedPosting
bare = record { posting = withdrawal; reference = None }

statement_of_one : stated_text 1 (form_for whole_query (pos 500) (rent ∷ [])) (rent ∷ []) ≡
    codes "STATEMENT ACCOUNT 000000000001\n"
    ++ codes "      ordinal       moment   teller branch          delta        balance reference\n"
    ++ codes "            1         1000        1      1           +500            500 RENT MAY            \n"
    ++ codes "closing balance                                                      500\n"
unfolding rent deposit stated_text digits
statement_of_one = refl

statement_without : stated_text 100001 (form_for whole_query (negsuc 699) (bare ∷ [])) (bare ∷ []) ≡
    codes "STATEMENT ACCOUNT 000000100001\n"
    ++ codes "      ordinal       moment   teller branch          delta        balance reference\n"
    ++ codes "            2         2000        1      1           -700           -700\n"
    ++ codes "closing balance                                                     -700\n"
unfolding bare withdrawal stated_text digits
statement_without = refl

-- the deposit by a clock an hour ahead of UTC, with a reference that has to be quoted
said : StatedPosting
said = record { posting = deposit; reference = Some (codes "RENT, \"MAY\"         ") }

sheet : Form
sheet = record { selection = record { range = None; reference = None }; style = Sheet (pos 3600) }

sheet_of_two : stated_text 1 sheet (said ∷ bare ∷ []) ≡
    codes "account,ordinal,time,teller,branch,amount,balance,reference\n"
    ++ codes "1,1,1970-01-01T01:16:40+01:00,1,1,5.00,5.00,\"RENT, \"\"MAY\"\"\"\n"
    ++ codes "100001,2,1970-01-01T01:33:20+01:00,1,1,-7.00,-2.00,\n"
unfolding said bare deposit withdrawal sheet stated_text sheet_line time_text reference_field escaped date_of digits
sheet_of_two = refl
