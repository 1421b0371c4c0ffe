-- The worked examples, computed from the definitions to the byte.
use Rattle.std.specs.Prelude.{◌≡◌, ℕ, zero, suc, Bool, true, false, List, [], ◌∷◌, ◌++◌, map, pos, negsuc, refl}
use Rattle.std.specs.Prelude.{codes, replicate, Some, None, ℤ}
use Rattle.message_records.specs.believed.Records.{RequestFields}
use Rattle.message_records.proofs.Examples.{plain_request}
use Rattle.message_records.specs.declared.records.Outcome.TheVariants.{WrongBranch, BelowFloor, OverLimit}
use Rattle.message_records.specs.believed.Spelling.{digits, fields_spelling, reply_spelling}
use Rattle.message_records.specs.believed.Reading.{fields_of, plain_request_of, referenced_request_of, request_of}
use Rattle.posting_rules.specs.believed.Commands.{Command, Open, Post, opened, opened_with}
use Rattle.posting_rules.specs.{believed.Cases.case_of, declared.judgments.Verdict.TheVariants.Refused}
use Rattle.posting_rules.specs.Editions.{edition, plain}
use Rattle.posting_rules.specs.Editions.{opened_in, decided_in}
use Rattle.posting_rules.specs.believed.Entries.{DecidedRequest, facts, is_posted, posted_entry, decided, reply}
use Rattle.posting_rules.specs.believed.Entries.{teller_balance, branch_balance}
use Rattle.posting_rules.specs.believed.Tables.{history_row, request_row, reference_row, reference_row_of}

-- branch 1 with three accounts, and branch 2 with two
bank : List Command
bank = Open 2 (opened_with 2 None) ∷ Open 1 (opened_with 3 None) ∷ []

-- a request, and 49 spaces
request : List ℕ → List ℕ
request fields = fields ++ replicate 49 32

-- a text, and so many spaces
spaced : List ℕ → ℕ → List ℕ
spaced text spaces = text ++ replicate spaces 32

first : List ℕ
first = request (codes "DC01000000000001000000010000010000000001+0000000500")

first_posting : reply_spelling (reply bank first) ≡ spaced
    (codes "DR0100000000000001000000010000010000000001+0000000500+000000000500POSTED") 128
unfolding bank request spaced first digits fields_spelling reply_spelling fields_of plain_request_of
    request_of case_of
first_posting = refl

one : List Command
one = Post 1000 first ∷ bank

the_same_bytes_again : reply one first ≡ reply bank first
unfolding bank request first one digits fields_spelling fields_of plain_request_of request_of case_of
the_same_bytes_again = refl

reused : List ℕ
reused = request (codes "DC01000000000001000000010000010000000001+0000000501")

reused_number : reply_spelling (reply one reused) ≡ spaced
    (codes "DR0115000000000001000000010000010000000001+0000000501+000000000000REUSED NUMBER") 121
unfolding bank request spaced first one reused digits fields_spelling reply_spelling fields_of
    plain_request_of request_of case_of
reused_number = refl

remote : List ℕ
remote = request (codes "DC01000000100001000000010000010000000002-0000000700")

a_remote_account : reply_spelling (reply one remote) ≡ spaced
    (codes "DR0100000000100001000000010000010000000002-0000000700-000000000700POSTED") 128
unfolding bank request spaced first one remote digits fields_spelling reply_spelling fields_of
    plain_request_of request_of case_of
a_remote_account = refl

two : List Command
two = Post 2000 remote ∷ one

-- teller 1 and branch 1 are at -200, and branch 2 at 0
balances_of_a_remote_account : (teller_balance (decided two) 1 ≡ negsuc 199) ×
    (branch_balance (decided two) 1 ≡ negsuc 199) × (branch_balance (decided two) 2 ≡ pos 0)
unfolding bank request first one remote two digits fields_spelling fields_of plain_request_of request_of
    case_of
balances_of_a_remote_account = (refl, refl, refl)

late : List ℕ
late = request (codes "DC01000000000001000000210000030000000001+0000000005")

unknown_teller : reply_spelling (reply two late) ≡ spaced
    (codes "DR0111000000000001000000210000030000000001+0000000005+000000000000NO TELLER") 125
unfolding bank request spaced first one remote two late digits fields_spelling reply_spelling fields_of
    plain_request_of request_of case_of
unknown_teller = refl

then_opened : reply_spelling (reply (Open 3 (opened_with 1 None) ∷ Post 3000 late ∷ two) late) ≡ spaced
    (codes "DR0100000000000001000000210000030000000001+0000000005+000000000505POSTED") 128
unfolding bank request spaced first one remote two late digits fields_spelling reply_spelling fields_of
    plain_request_of request_of case_of
then_opened = refl

elsewhere : List ℕ
elsewhere = request (codes "DC01000000000001000000010000020000000003+0000000005")

wrong_branch : reply_spelling (reply two elsewhere) ≡ spaced
    (codes "DR0112000000000001000000010000020000000003+0000000005+000000000000WRONG BRANCH") 122
unfolding bank request spaced first one remote two elsewhere digits fields_spelling reply_spelling fields_of
    plain_request_of request_of case_of
wrong_branch = refl

nowhere : List ℕ
nowhere = request (codes "DC01000000000004000000010000010000000004+0000000005")

no_account : reply_spelling (reply two nowhere) ≡ spaced
    (codes "DR0113000000000004000000010000010000000004+0000000005+000000000000NO ACCOUNT") 124
unfolding bank request spaced first one remote two nowhere digits fields_spelling reply_spelling fields_of
    plain_request_of request_of case_of
no_account = refl

lettered : List ℕ
lettered = codes "DC01000000000001000000010000010000000001+0000000500" ++ replicate 48 32 ++ codes "X"

a_letter_in_the_filler : reply_spelling (reply [] lettered) ≡ spaced
    (codes "DR0190000000000000000000000000000000000000+0000000000+000000000000MALFORMED") 125
unfolding spaced lettered digits fields_spelling reply_spelling fields_of plain_request_of request_of case_of
a_letter_in_the_filler = refl

-- ---- which requests are decided, and which of these are posted, the newest first

posted : List Command → List Bool
posted log = map is_posted (decided log)

refusals : List Command
refusals = Post 1000 nowhere ∷ Post 1000 elsewhere ∷ Post 1000 late ∷ two

posted_of_refusals : posted (Post 1000 first ∷ Post 1000 reused ∷ refusals) ≡ false ∷ false ∷ true ∷ true ∷ []
unfolding bank request first one reused remote two late elsewhere nowhere posted refusals digits
    fields_spelling fields_of plain_request_of request_of case_of
posted_of_refusals = refl

posted_of_a_repeat : posted (Post 1000 first ∷ one) ≡ true ∷ []
unfolding bank request first one posted digits fields_spelling fields_of plain_request_of request_of case_of
posted_of_a_repeat = refl

posted_of_an_opening : posted (Post 3000 late ∷ Open 3 (opened_with 1 None) ∷ Post 3000 late ∷ one) ≡ true ∷ true ∷ []
unfolding bank request first one late posted digits fields_spelling fields_of plain_request_of request_of
    case_of
posted_of_an_opening = refl

posted_of_a_letter : posted (Post 1000 lettered ∷ []) ≡ []
unfolding lettered posted digits fields_spelling fields_of plain_request_of request_of case_of
posted_of_a_letter = refl

-- ---- floors: branch 1 with three accounts down to -1000 cents each, and branch 2 with two and no floor

floored : List Command
floored = Open 2 (opened_with 2 None) ∷ Open 1 (opened_with 3 (Some (negsuc 999))) ∷ []

to_the_floor : List ℕ
to_the_floor = request (codes "DC01000000000001000000010000010000000001-0000001000")

at_the_floor : reply_spelling (reply floored to_the_floor) ≡ spaced
    (codes "DR0100000000000001000000010000010000000001-0000001000-000000001000POSTED") 128
unfolding floored request spaced to_the_floor digits fields_spelling reply_spelling fields_of plain_request_of
    request_of case_of
at_the_floor = refl

at_floor : List Command
at_floor = Post 1000 to_the_floor ∷ floored

one_cent_more : List ℕ
one_cent_more = request (codes "DC01000000000001000000010000010000000002-0000000001")

below_floor : reply_spelling (reply at_floor one_cent_more) ≡ spaced
    (codes "DR0117000000000001000000010000010000000002-0000000001+000000000000BELOW FLOOR") 123
unfolding floored at_floor request spaced to_the_floor one_cent_more digits fields_spelling reply_spelling
    fields_of plain_request_of request_of case_of
below_floor = refl

below_floor_again : reply (Post 1000 one_cent_more ∷ at_floor) one_cent_more ≡ reply at_floor one_cent_more
unfolding floored at_floor request to_the_floor one_cent_more digits fields_spelling fields_of
    plain_request_of request_of case_of
below_floor_again = refl

-- the floor is that of the account's branch, and not of the teller's
from_branch_two : List ℕ
from_branch_two = request (codes "DC01000000000001000000110000020000000001-0000000001")

floor_of_its_own_branch : reply_spelling (reply at_floor from_branch_two) ≡ spaced
    (codes "DR0117000000000001000000110000020000000001-0000000001+000000000000BELOW FLOOR") 123
unfolding floored at_floor request spaced to_the_floor from_branch_two digits fields_spelling reply_spelling
    fields_of plain_request_of request_of case_of
floor_of_its_own_branch = refl

to_branch_two : List ℕ
to_branch_two = request (codes "DC01000000100001000000010000010000000003-0000005000")

no_floor_of_the_tellers_branch : reply_spelling (reply at_floor to_branch_two) ≡ spaced
    (codes "DR0100000000100001000000010000010000000003-0000005000-000000005000POSTED") 128
unfolding floored at_floor request spaced to_the_floor to_branch_two digits fields_spelling reply_spelling
    fields_of plain_request_of request_of case_of
no_floor_of_the_tellers_branch = refl

floored_day : List Command
floored_day = Post 1000 to_branch_two ∷ Post 1000 from_branch_two ∷ Post 1000 one_cent_more ∷ at_floor

-- two of the four are posted, and branch 1 is at -6000
balances_at_the_floor : (posted floored_day ≡ true ∷ false ∷ false ∷ true ∷ [])
    × (branch_balance (decided floored_day) 1 ≡ negsuc 5999)
unfolding floored floored_day at_floor posted request to_the_floor one_cent_more from_branch_two to_branch_two
    digits fields_spelling fields_of plain_request_of request_of case_of
balances_at_the_floor = (refl, refl)

-- a request of teller 1 of branch 1 on account 100001, and one of teller 2 on account 1
on_branch_two : ℕ → ℤ → RequestFields
on_branch_two number delta = plain_request 100001 1 1 number delta

on_branch_one : ℤ → RequestFields
on_branch_one delta = plain_request 1 2 1 1 delta

-- so many postings of -9,999,999,999 cents to account 100001, whose branch has no floor
drained_by : ℕ → List DecidedRequest
drained_by zero = []
drained_by (suc n) = posted_entry 1000 (on_branch_two (suc n) (negsuc 9999999998)) (pos 0) ∷ drained_by n

-- and one of -99, so that branch 1 is at its limit
drained : List DecidedRequest
drained = posted_entry 1000 (on_branch_two 101 (negsuc 98)) (pos 0) ∷ drained_by 100

branch_at_its_limit : branch_balance drained 1 ≡ negsuc 999999999998
unfolding drained drained_by on_branch_two
branch_at_its_limit = refl

-- a request that is below the floor and over the limit is refused for the floor
floor_before_limit : case_of (facts (λ b. opened floored b) [] drained (on_branch_one (negsuc 1000)))
    (on_branch_one (negsuc 1000)) ≡ Refused BelowFloor
unfolding floored drained drained_by on_branch_two on_branch_one case_of
floor_before_limit = refl

limit_above_the_floor : case_of (facts (λ b. opened floored b) [] drained (on_branch_one (negsuc 0)))
    (on_branch_one (negsuc 0)) ≡ Refused OverLimit
unfolding floored drained drained_by on_branch_two on_branch_one case_of
limit_above_the_floor = refl

-- ---- references: a posting for rent, after the opening of both branches

rent_may : List ℕ
rent_may = spaced (codes "DC02000000000001000000010000010000000001+0000000500RENT MAY") 41

-- the reply doesn't show the reference
rent_posting : reply_spelling (reply bank rent_may) ≡ spaced
    (codes "DR0100000000000001000000010000010000000001+0000000500+000000000500POSTED") 128
unfolding bank spaced rent_may digits fields_spelling reply_spelling fields_of referenced_request_of
    request_of case_of
rent_posting = refl

rented : List Command
rented = Post 1000 rent_may ∷ bank

rent_again : reply rented rent_may ≡ reply bank rent_may
unfolding bank spaced rent_may rented digits fields_spelling fields_of referenced_request_of request_of
    case_of
rent_again = refl

-- the same request without its reference, and with another one
rent_without_reference : reply_spelling (reply rented first) ≡ spaced
    (codes "DR0115000000000001000000010000010000000001+0000000500+000000000000REUSED NUMBER") 121
unfolding bank request spaced first rent_may rented digits fields_spelling reply_spelling fields_of
    plain_request_of referenced_request_of request_of case_of
rent_without_reference = refl

rent_june : List ℕ
rent_june = spaced (codes "DC02000000000001000000010000010000000001+0000000500RENT JUN") 41

rent_with_another_reference : reply_spelling (reply rented rent_june) ≡ spaced
    (codes "DR0115000000000001000000010000010000000001+0000000500+000000000000REUSED NUMBER") 121
unfolding bank spaced rent_may rented rent_june digits fields_spelling reply_spelling fields_of
    referenced_request_of request_of case_of
rent_with_another_reference = refl

-- and one with a reference where the first had none
reference_is_new : reply_spelling (reply one rent_may) ≡ spaced
    (codes "DR0115000000000001000000010000010000000001+0000000500+000000000000REUSED NUMBER") 121
unfolding bank request spaced first one rent_may digits fields_spelling reply_spelling fields_of
    plain_request_of referenced_request_of request_of case_of
reference_is_new = refl

-- only the first of these is decided, and its reference stands under ordinal 1
decided_for_rent : (posted (Post 1000 rent_june ∷ Post 1000 first ∷ Post 1000 rent_may ∷ rented) ≡ true ∷ [])
    × (reference_row (decided rented) 1 ≡ Some (reference_row_of 1 (spaced (codes "RENT MAY") 12)))
    × (reference_row (decided one) 1 ≡ None)
unfolding bank request spaced first one rent_may rent_june rented posted fields_of plain_request_of
    referenced_request_of request_of case_of
decided_for_rent = (refl, refl, refl)

-- a refused request is kept with its reference too
astray : List ℕ
astray = spaced (codes "DC02000000000001000000010000020000000002+0000000005A") 48

reference_of_a_refusal : reply_spelling (reply rented astray) ≡ spaced
    (codes "DR0112000000000001000000010000020000000002+0000000005+000000000000WRONG BRANCH") 122
unfolding bank spaced rent_may rented astray digits fields_spelling reply_spelling fields_of
    referenced_request_of request_of case_of
reference_of_a_refusal = refl

strayed : List Command
strayed = Post 1000 astray ∷ rented

-- it has a row of requests and one of references under ordinal 2, and none of history
kept_with_its_reference : (request_row (decided strayed) 2 ≡ Some (record {
  ordinal = 2;
  teller = 1;
  number = 2;
  decision = record { account = 1; branch = 2; delta = pos 5; outcome = WrongBranch; balance = pos 0 };
})) × (history_row (decided strayed) 2 ≡ None)
    × (reference_row (decided strayed) 2 ≡ Some (reference_row_of 2 (spaced (codes "A") 19)))
    × (reference_row (decided strayed) 1 ≡ Some (reference_row_of 1 (spaced (codes "RENT MAY") 12)))
unfolding bank spaced rent_may rented astray strayed fields_of referenced_request_of request_of case_of
kept_with_its_reference = (refl, refl, refl, refl)

astray_otherwise : List ℕ
astray_otherwise = spaced (codes "DC02000000000001000000010000020000000002+0000000005B") 48

refusal_with_another_reference : reply_spelling (reply strayed astray_otherwise) ≡ spaced
    (codes "DR0115000000000001000000010000020000000002+0000000005+000000000000REUSED NUMBER") 121
unfolding bank spaced rent_may rented astray strayed astray_otherwise digits fields_spelling reply_spelling
    fields_of referenced_request_of request_of case_of
refusal_with_another_reference = refl

-- a record of a third kind is none
third_tag : List ℕ
third_tag = spaced (codes "DC03000000000001000000010000010000000001+0000000500RENT MAY") 41

no_third_tag : reply_spelling (reply [] third_tag) ≡ spaced
    (codes "DR0190000000000000000000000000000000000000+0000000000+000000000000MALFORMED") 125
unfolding spaced third_tag digits fields_spelling reply_spelling fields_of plain_request_of request_of case_of
no_third_tag = refl

-- ---- version 1, before floors: the branch is open without one, all four are posted, and branch 1 is at -6001

before_floors : (opened_in (edition 1) floored 1 ≡ Some (opened_with 3 None))
    × (map is_posted (decided_in (edition 1) floored_day) ≡ true ∷ true ∷ true ∷ true ∷ [])
    × (branch_balance (decided_in (edition 1) floored_day) 1 ≡ negsuc 6000)
unfolding floored floored_day at_floor request to_the_floor one_cent_more from_branch_two to_branch_two digits
    fields_spelling fields_of plain_request_of request_of case_of
before_floors = (refl, refl, refl)

-- so its log is carried over without the floor, while one of the present version is carried over as it is
carried_over : (plain 1 floored ≡ bank) × (posted (plain 1 floored_day) ≡ true ∷ true ∷ true ∷ true ∷ [])
    × (plain 2 floored_day ≡ floored_day)
unfolding floored floored_day at_floor bank posted request to_the_floor one_cent_more from_branch_two
    to_branch_two digits fields_spelling fields_of plain_request_of request_of case_of
carried_over = (refl, refl, refl)

-- ---- version 2, before references: a record with one changed nothing, and is left out of the log

one_later : List Command
one_later = Post 2000 first ∷ bank

before_rent : (decided_in (edition 2) strayed ≡ []) × (plain 2 strayed ≡ bank) × (plain 1 strayed ≡ bank)
    × (plain 2 (Post 2000 first ∷ strayed) ≡ one_later) × (plain 3 strayed ≡ strayed)
unfolding bank request spaced first rent_may rented astray strayed one_later fields_of plain_request_of
    referenced_request_of request_of case_of
before_rent = (refl, refl, refl, refl, refl)
