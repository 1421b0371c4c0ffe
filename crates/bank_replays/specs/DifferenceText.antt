-- The text of a difference.
use Rattle.std.specs.Prelude.{◌++◌, ℕ, ℤ, pos, List, [], ◌∷◌, codes, Option, Some, None, Bool, find, not}
use Rattle.std.specs.Ordering.{int_eq}
use Rattle.std.specs.Fmt.{decimal, signed_decimal}
use Rattle.walked_rows.specs.declared.accounts.StoredAccount.{StoredAccount}
use Rattle.walked_rows.specs.declared.branches.StoredBranch.{StoredBranch}
use Rattle.walked_rows.specs.declared.closings.StoredClosing.{StoredClosing}
use Rattle.walked_rows.specs.declared.floors.StoredFloor.{StoredFloor}
use Rattle.walked_rows.specs.declared.listed.StoredReference.{StoredReference}
use Rattle.walked_rows.specs.declared.metas.StoredMeta.{StoredMeta}
use Rattle.walked_rows.specs.declared.postings.StoredPosting.{StoredPosting}
use Rattle.walked_rows.specs.declared.requests.StoredRequest.{StoredRequest}
use Rattle.walked_rows.specs.declared.tellers.StoredTeller.{StoredTeller}
use Rattle.bank_replays.specs.declared.difference.Difference.{Difference}
use Rattle.bank_replays.specs.declared.difference.Difference.TheVariants.{Account, Branch, Closing, Floor, Meta, Posting}
use Rattle.bank_replays.specs.declared.difference.Difference.TheVariants.{Reference, Request, Teller}
use Rattle.bank_replays.specs.declared.difference.Sides.{Sides}
use Rattle.bank_replays.specs.declared.shown.Column.{Column}
use Rattle.bank_replays.specs.declared.shown.Name.{Name}
use Rattle.bank_replays.specs.declared.shown.Name.TheVariants as name

-- ---- what a column is called

-- nothing stands before a balance, nor before the floor of a branch
abbrev pub name_text : Name → List ℕ
name_text name.Plain = []
name_text name.First = codes "first "
name_text name.Version = codes "version "
name_text name.Decided = codes "decided "
name_text name.Accounts = codes "accounts "
name_text name.Account = codes "account "
name_text name.Teller = codes "teller "
name_text name.Branch = codes "branch "
name_text name.Number = codes "number "
name_text name.Delta = codes "delta "
name_text name.Moment = codes "moment "
name_text name.Outcome = codes "outcome "

-- what two rows have in a column
abbrev pub column_of : Name → ℤ → ℤ → Column
column_of name stands due = record { name = name; stands = stands; due = due }

-- they differ in it
abbrev pub is_different : Column → Bool
is_different c = not (int_eq c.stands c.due)

-- what is said of it, and nothing where there is none
abbrev pub column_text : Option Column → List ℕ
column_text None = []
column_text (Some c) =
    name_text c.name ++ codes "stands " ++ signed_decimal c.stands ++ codes " due " ++ signed_decimal c.due

-- the first of them in which they differ
abbrev pub first_text : List Column → List ℕ
first_text columns = column_text (find is_different columns)

-- ---- what stands, and what is due

abbrev pub both_metas : StoredMeta → StoredMeta → List ℕ
both_metas a b = first_text
    (column_of name.Version a.version b.version ∷ column_of name.Decided a.decided b.decided ∷ [])

abbrev pub branch_columns : StoredBranch → StoredBranch → List Column
branch_columns a b =
    column_of name.Accounts (pos a.accounts) (pos b.accounts) ∷ column_of name.Plain a.balance b.balance ∷ []

abbrev pub both_branches : StoredBranch → StoredBranch → List ℕ
both_branches a b = first_text (branch_columns a b)

abbrev pub both_tellers : StoredTeller → StoredTeller → List ℕ
both_tellers a b = first_text (column_of name.Plain a.balance b.balance ∷ [])

abbrev pub both_accounts : StoredAccount → StoredAccount → List ℕ
both_accounts a b = first_text (column_of name.Plain a.balance b.balance ∷ [])

abbrev pub posting_columns : StoredPosting → StoredPosting → List Column
posting_columns a b =
    column_of name.Account a.account b.account ∷ column_of name.Teller a.teller b.teller
    ∷ column_of name.Branch a.branch b.branch ∷ column_of name.Delta a.delta b.delta
    ∷ column_of name.Moment (pos a.moment) (pos b.moment) ∷ []

abbrev pub both_postings : StoredPosting → StoredPosting → List ℕ
both_postings a b = first_text (posting_columns a b)

abbrev pub request_columns : StoredRequest → StoredRequest → List Column
request_columns a b =
    column_of name.Teller a.teller b.teller ∷ column_of name.Number a.number b.number
    ∷ column_of name.Account a.account b.account ∷ column_of name.Branch a.branch b.branch
    ∷ column_of name.Delta a.delta b.delta ∷ column_of name.Outcome a.outcome b.outcome
    ∷ column_of name.Plain a.balance b.balance ∷ []

abbrev pub both_requests : StoredRequest → StoredRequest → List ℕ
both_requests a b = first_text (request_columns a b)

abbrev pub both_floors : StoredFloor → StoredFloor → List ℕ
both_floors a b = first_text (column_of name.Plain a.lowest b.lowest ∷ [])

abbrev pub both_closings : StoredClosing → StoredClosing → List ℕ
both_closings a b = first_text (column_of name.First a.first b.first ∷ [])

abbrev pub both_references : StoredReference → StoredReference → List ℕ
both_references a b = codes "stands " ++ a.reference ++ codes " due " ++ b.reference

-- ---- the line

-- the table's word, the key, and what stands under it and what is due
abbrev pub line_text : {R : Type 0} → List ℕ → (R → ℕ) → (R → R → List ℕ) → Option R → Option R → List ℕ
line_text word key both (Some a) (Some b) = word ++ codes " " ++ decimal (key a) ++ codes " " ++ both a b
line_text word key both (Some a) None = word ++ codes " " ++ decimal (key a) ++ codes " stands a row due no row"
line_text word key both None (Some b) = word ++ codes " " ++ decimal (key b) ++ codes " stands no row due a row"
line_text word key both None None = word

abbrev pub sides_text : {R : Type 0} → List ℕ → (R → ℕ) → (R → R → List ℕ) → Sides R → List ℕ
sides_text word key both s = line_text word key both s.stands s.due

abbrev pub difference_text : Difference → List ℕ
difference_text (Meta s) = sides_text (codes "meta") (λ r. r.id) both_metas s
difference_text (Branch s) = sides_text (codes "branch") (λ r. r.branch) both_branches s
difference_text (Teller s) = sides_text (codes "teller") (λ r. r.teller) both_tellers s
difference_text (Account s) = sides_text (codes "account") (λ r. r.account) both_accounts s
difference_text (Posting s) = sides_text (codes "posting") (λ r. r.ordinal) both_postings s
difference_text (Request s) = sides_text (codes "request") (λ r. r.ordinal) both_requests s
difference_text (Floor s) = sides_text (codes "floor") (λ r. r.branch) both_floors s
difference_text (Reference s) = sides_text (codes "reference") (λ r. r.ordinal) both_references s
difference_text (Closing s) = sides_text (codes "closing") (λ r. r.last) both_closings s
