-- What is posted names what is open, and goes on to name it where branches are opened.
use Rattle.std.proofs.Common.{ap, ◌∙◌, ◌≡◌, ℕ, true, cond, eqb, leb, List, [], ◌∷◌, Option, Some, None}
use Rattle.std.proofs.Common.{Result, Ok, Err, refl}
use Rattle.std.specs.Prelude.{is_some}
use Rattle.std.specs.{List.AllByRecursion, Option.option_or}
use Rattle.std.proofs.lemmas.Bool.{and_parts}
use Rattle.message_records.specs.{declared.fault.Bad.Bad, believed.Records.RequestFields, believed.Reading.request_of}
use Rattle.posting_rules.specs.{declared.judgments.Verdict.Verdict, believed.Cases.case_of}
use Rattle.posting_rules.specs.declared.judgments.Verdict.TheVariants.{Unkept, Again, Refused, Posted}
use Rattle.posting_rules.specs.believed.Commands.{Command, Open, Post, Close, opened, is_within, is_teller_open}
use Rattle.posting_rules.specs.believed.Commands.{is_account_open, Terms}
use Rattle.posting_rules.specs.believed.Numbering.{branch_of_teller, branch_of_account, place_of_account}
use Rattle.posting_rules.specs.believed.Entries.{DecidedRequest, is_posted, facts, with_verdict, with_record, decided}
use Rattle.posting_rules.proofs.Verdicts.{IsVerdict, verdict_is}
use Rattle.posting_rules.specs.declared.rows.ClosingRow.{ClosingRow}
use Rattle.posting_rules.specs.believed.Closings.{closings}

pub record NamesOpen (opened : ℕ → Option Terms) (e : DecidedRequest) : Type 0 where
  pub teller : is_posted e ≡ true → is_teller_open opened e.request.teller ≡ true
  pub account : is_posted e ≡ true → is_account_open opened e.request.account ≡ true
  pub branch : is_posted e ≡ true → e.request.branch ≡ branch_of_teller e.request.teller

abbrev pub AllNameOpen : (ℕ → Option Terms) → List DecidedRequest → Type 0
AllNameOpen opened es = AllByRecursion (NamesOpen opened) es

-- what is open with one branch more
abbrev pub with_branch : (ℕ → Option Terms) → ℕ → Terms → ℕ → Option Terms
with_branch opened branch terms b = option_or (opened b) (cond (eqb branch b) (Some terms) None)

stays : (o p : Option Terms) → is_some o ≡ true → option_or o p ≡ o
stays (Some n) p h = refl
stays None p h = absurd cc

-- a branch that has an account's place is open
pub some_within : (place : ℕ) (o : Option Terms) → is_within place o ≡ true → is_some o ≡ true
some_within place (Some n) h = refl
some_within place None h = absurd cc

pub teller_stays : (opened : ℕ → Option Terms) (b : ℕ) (terms : Terms) (t : ℕ) → is_teller_open opened t ≡ true
    → is_teller_open (λ x. with_branch opened b terms x) t ≡ true
teller_stays opened b terms t h =
    let two = and_parts (leb 1 t) (is_some (opened (branch_of_teller t))) h in
    rw (stays (opened (branch_of_teller t)) (cond (eqb b (branch_of_teller t)) (Some terms) None) two.1) h

pub account_stays : (opened : ℕ → Option Terms) (b : ℕ) (terms : Terms) (a : ℕ)
    → is_account_open opened a ≡ true
    → is_account_open (λ x. with_branch opened b terms x) a ≡ true
account_stays opened b terms a h =
    let two = and_parts (leb 1 a) (is_within (place_of_account a) (opened (branch_of_account a))) h in
    rw (stays (opened (branch_of_account a)) (cond (eqb b (branch_of_account a)) (Some terms) None)
    (some_within (place_of_account a) (opened (branch_of_account a)) two.1)) h

all_stay : (opened : ℕ → Option Terms) (b : ℕ) (terms : Terms) (es : List DecidedRequest)
    → AllNameOpen opened es
    → AllNameOpen (λ x. with_branch opened b terms x) es
all_stay opened b terms [] h = tt
all_stay opened b terms (e ∷ es) h = (
  record {
    teller = λ p. teller_stays opened b terms e.request.teller (h.0.teller p);
    account = λ p. account_stays opened b terms e.request.account (h.0.account p);
    branch = h.0.branch;
  },
  all_stay opened b terms es h.1,
)

all_verdict : (opened : ℕ → Option Terms) (es : List DecidedRequest) (m : ℕ) (r : RequestFields) (v : Verdict)
    → IsVerdict opened es r v → AllNameOpen opened es → AllNameOpen opened (with_verdict m r v es)
all_verdict opened es m r (Unkept o) h all = all
all_verdict opened es m r (Again x) h all = all
all_verdict opened es m r (Refused o) h all = (
  record {
    teller = λ p. absurd (let f = h.unposted in cc);
    account = λ p. absurd (let f = h.unposted in cc);
    branch = λ p. absurd (let f = h.unposted in cc);
  },
  all,
)
all_verdict opened es m r (Posted a t b) h all =
    (record { teller = λ p. h.teller_open; account = λ p. h.account_open; branch = λ p. h.its_branch }, all)

all_record : (opened : ℕ → Option Terms) (runs : List ClosingRow) (es : List DecidedRequest) (m : ℕ) (read : Result RequestFields Bad)
    → AllNameOpen opened es → AllNameOpen opened (with_record m read opened runs es)
all_record opened runs es m (Ok r) all = all_verdict opened es m r (case_of (facts opened runs es r) r)
    (verdict_is opened runs es r) all
all_record opened runs es m (Err fault) all = all

pub all_name_open : (log : List Command) → AllNameOpen (λ b. opened log b) (decided log)
all_name_open [] = tt
all_name_open (Open b terms ∷ log) = all_stay (λ x. opened log x) b terms (decided log) (all_name_open log)
all_name_open (Close first last ∷ log) = all_name_open log
all_name_open (Post m bytes ∷ log) = all_record (λ b. opened log b) (closings log) (decided log) m (request_of bytes)
    (all_name_open log)

-- the branch of a teller that is open is open
pub open_home : (opened : ℕ → Option Terms) (e : DecidedRequest) → NamesOpen opened e → is_posted e ≡ true
    → is_some (opened e.request.branch) ≡ true
open_home opened e named p =
    ap (λ (b : ℕ). is_some (opened b)) (named.branch p)
    ∙ (and_parts (leb 1 e.request.teller) (is_some (opened (branch_of_teller e.request.teller)))
    (named.teller p)).1
