-- The tables of an earlier version are those of the plain log.
use Rattle.std.proofs.Common.{◌≡◌, ◌≤◌, ℕ, zero, suc, Bool, true, false, cond, eqb, List, [], ◌∷◌, length, take, drop}
use Rattle.std.proofs.Common.{replicate, Option, Some, None, Result, Ok, Err, refl, sym, ap, subst, arith, ◌∙◌, inl}
use Rattle.std.proofs.Common.{inr}
use Rattle.std.specs.Prelude.{◌↔◌, ◌+◌, codes, is_ok, option_and_then}
use Rattle.std.specs.Option.{option_map, option_or, ok_or}
use Rattle.std.proofs.lemmas.{Bool.eq-eqb, Iterator.Adapters.option_map_id}
use mathlib.Core.Path.{fun_ext}
use Rattle.message_records.specs.{declared.fault.Bad.Bad, believed.Records.RequestFields}
use Rattle.message_records.specs.declared.fault.Bad.TheVariants as bad
use Rattle.message_records.specs.believed.Reading.{number_at, signed_of, fields_of, plain_request_of, request_of}
use Rattle.message_records.specs.declared.limits.TheConstants.{MAX_ACCOUNT, MAX_TELLER, MAX_BRANCH, MAX_NUMBER}
use Rattle.message_records.proofs.{Pieces.step_takes, Pieces.text_step, Requests.plain_is_request}
use Rattle.posting_rules.specs.{declared.judgments.Verdict.Verdict, believed.Cases.case_of}
use Rattle.posting_rules.specs.declared.judgments.Verdict.TheVariants.{Unkept, Again, Refused, Posted}
use Rattle.posting_rules.specs.believed.Commands.{Command, Open, Post, Close, Terms, AreCommands, IsCommand, opened}
use Rattle.posting_rules.specs.believed.Entries.{DecidedRequest, facts, refused_entry, posted_entry, with_verdict}
use Rattle.posting_rules.specs.believed.Entries.{with_record, decided}
use Rattle.posting_rules.specs.believed.Tables.{Tables, HasRows, AreTablesOf, row_at, floor_key, floor_row_of}
use Rattle.posting_rules.specs.believed.Tables.{reference_key, reference_row}
use Rattle.posting_rules.specs.Editions.{Edition, before_floors, before_references, present, edition, known}
use Rattle.posting_rules.specs.Editions.{plain}
use Rattle.posting_rules.specs.Editions.{opened_in, decided_in, AreTablesIn}
use Rattle.posting_rules.proofs.Keyed.{by_test}
use Rattle.posting_rules.specs.declared.rows.ClosingRow.{ClosingRow}
use Rattle.posting_rules.specs.believed.Closings.{closings, are_free, run_of}

-- what is so of each of the three editions is so of every version
by_edition : (P : Edition → Type 0) (version : ℕ) → P before_floors → P before_references → P present
    → P (edition version)
by_edition P version one two now =
    elim (by_test (eqb version 1)) [
      | inl t ↦ rw t one
      | inr f ↦ rw f (elim (by_test (eqb version 2)) [ inl t ↦ rw t two | inr g ↦ rw g now ])
    ]

-- ---- an opening

-- what was opened first stays
first_known : (e : Edition) (o : Option Terms) (hit : Bool) (terms : Terms)
    → option_or (option_map e.terms o) (cond hit (Some (e.terms terms)) None)
    ≡ option_map e.terms (option_or o (cond hit (Some terms) None))
first_known e (Some n) hit terms = refl
first_known e None true terms = refl
first_known e None false terms = refl

-- a record opens nothing, whether it is left out or not
opened_with_post : (reads : Bool) (m : ℕ) (bytes : List ℕ) (log : List Command) (b : ℕ)
    → opened (cond reads (Post m bytes ∷ log) log) b ≡ opened log b
opened_with_post true m bytes log b = refl
opened_with_post false m bytes log b = refl

opened_known : (e : Edition) (log : List Command) (b : ℕ) → opened (known e log) b ≡ opened_in e log b
opened_known e [] b = refl
opened_known e (Open branch terms ∷ log) b =
    ap (λ o. option_or o (cond (eqb branch b) (Some (e.terms terms)) None)) (opened_known e log b)
    ∙ first_known e (opened log b) (eqb branch b) terms
opened_known e (Close first last ∷ log) b = opened_known e log b
opened_known e (Post m bytes ∷ log) b =
    opened_with_post (is_ok (e.reads bytes)) m bytes (known e log) b ∙ opened_known e log b

-- every edition knows what is closed
closings_with_post : (reads : Bool) (m : ℕ) (bytes : List ℕ) (log : List Command)
    → closings (cond reads (Post m bytes ∷ log) log) ≡ closings log
closings_with_post true m bytes log = refl
closings_with_post false m bytes log = refl

closings_known : (e : Edition) (log : List Command) → closings (known e log) ≡ closings log
closings_known e [] = refl
closings_known e (Open branch terms ∷ log) = closings_known e log
closings_known e (Post m bytes ∷ log) =
    closings_with_post (is_ok (e.reads bytes)) m bytes (known e log) ∙ closings_known e log
closings_known e (Close first last ∷ log) =
    ap (λ runs. cond (are_free runs first last) (run_of first last ∷ runs) runs) (closings_known e log)

-- ---- a record

-- what the edition reads is read so at present
abbrev ReadsAsNow : Edition → Type 0
ReadsAsNow e = (bytes : List ℕ) (r : RequestFields) → e.reads bytes ≡ Ok r → request_of bytes ≡ Ok r

reads_as_now : (version : ℕ) → ReadsAsNow (edition version)
reads_as_now version = by_edition ReadsAsNow version plain_is_request plain_is_request (λ bytes r read. read)

-- a record is decided as in its version, or left out where that version couldn't read it
with_post : (e : Edition) (log : List Command) (m : ℕ) (bytes : List ℕ) (read : Result RequestFields Bad)
    → ReadsAsNow e → e.reads bytes ≡ read → decided (known e log) ≡ decided_in e log
    → decided (cond (is_ok read) (Post m bytes ∷ known e log) (known e log))
    ≡ with_record m read (λ b. opened_in e log b) (closings log) (decided_in e log)
with_post e log m bytes (Err fault) as_now is same = same
with_post e log m bytes (Ok r) as_now is same =
    ap (λ x. with_record m x (λ b. opened (known e log) b) (closings (known e log)) (decided (known e log)))
    (as_now bytes r is)
    ∙ ap (λ (o : ℕ → Option Terms). with_record m (Ok r) o (closings (known e log)) (decided (known e log)))
    (fun_ext (opened_known e log))
    ∙ ap (λ runs. with_record m (Ok r) (λ b. opened_in e log b) runs (decided (known e log))) (closings_known e log)
    ∙ ap (λ es. with_record m (Ok r) (λ b. opened_in e log b) (closings log) es) same

decided_known : (e : Edition) → ReadsAsNow e → (log : List Command) → decided (known e log) ≡ decided_in e log
decided_known e as_now [] = refl
decided_known e as_now (Open branch terms ∷ log) = decided_known e as_now log
decided_known e as_now (Close first last ∷ log) = decided_known e as_now log
decided_known e as_now (Post m bytes ∷ log) =
    with_post e log m bytes (e.reads bytes) as_now refl (decided_known e as_now log)

-- ---- the tables

moved : (t : Tables) (o p : ℕ → Option Terms) (runs others : List ClosingRow) (es ds : List DecidedRequest)
    → ((b : ℕ) → o b ≡ p b) → runs ≡ others → es ≡ ds
    → HasRows t o runs es → HasRows t p others ds
moved t o p runs others es ds opens closes decides s =
    subst (λ (x : List DecidedRequest). HasRows t p others x) decides
    (subst (λ (x : List ClosingRow). HasRows t p x es) closes
    (subst (λ (f : ℕ → Option Terms). HasRows t f runs es) (fun_ext opens) s))

pub carries_over : (version : ℕ) (t : Tables) (log : List Command)
    → AreTablesIn version t log ↔ AreTablesOf t (plain version log)
carries_over version t log =
    let e = edition version in
    let same = decided_known e (reads_as_now version) log in (
      (λ s. record {
        rows = moved t (λ b. opened_in e log b) (λ b. opened (plain version log) b) (closings log)
            (closings (plain version log)) (decided_in e log) (decided (plain version log))
            (λ b. sym (opened_known e log b)) (sym (closings_known e log)) (sym same) s.rows;
      }),
      (λ s. record {
        rows = moved t (λ b. opened (plain version log) b) (λ b. opened_in e log b)
            (closings (plain version log)) (closings log) (decided (plain version log)) (decided_in e log)
            (opened_known e log) (closings_known e log) same s.rows;
      }),
    )

-- ---- what else holds of them

pub is_present : (log : List Command) → (decided_in present log ≡ decided log)
    × ((b : ℕ) → opened_in present log b ≡ opened log b)
is_present log = (same log, λ b. option_map_id (opened log b))
  where
    same : (log : List Command) → decided_in present log ≡ decided log
    same [] = refl
    same (Open branch terms ∷ log) = same log
    same (Close first last ∷ log) = same log
    same (Post m bytes ∷ log) =
        ap (λ (o : ℕ → Option Terms). with_record m (request_of bytes) o (closings log) (decided_in present log))
        (fun_ext (λ b. option_map_id (opened log b)))
        ∙ ap (λ es. with_record m (request_of bytes) (λ b. opened log b) (closings log) es) (same log)

-- rows of which none is under a key
none_at : {R : Type 0} (key : R → ℕ) (rows : List R) → ((k : ℕ) → row_at key rows k ≡ None) → rows ≡ []
none_at key [] h = refl
none_at key (r ∷ rows) h = absurd
    (let found : row_at key (r ∷ rows) (key r) ≡ Some r = rw (eq-eqb (key r) (key r) refl) refl in
    let none = h (key r) in cc)

no_floor : (o : Option Terms) → option_and_then (λ t. t.floor) (option_map before_floors.terms o) ≡ None
no_floor None = refl
no_floor (Some t) = refl

pub has_no_floors : (t : Tables) (log : List Command) → AreTablesIn 1 t log → t.floors ≡ []
has_no_floors t log s = none_at floor_key t.floors
    (λ b. s.rows.floors b ∙ ap (option_map (floor_row_of b)) (no_floor (opened log b)))

-- ---- references

abbrev HasNone : RequestFields → Type 0
HasNone r = r.reference ≡ None

fields_have_none : (bytes : List ℕ) (r : RequestFields) → fields_of bytes ≡ Ok r → HasNone r
unfolding fields_of
fields_have_none bytes r e =
    let account = step_takes (number_at MAX_ACCOUNT bad.Account (take 12 (drop 0 bytes))) _ r e in
    let teller = step_takes (number_at MAX_TELLER bad.Teller (take 8 (drop 12 bytes))) _ r account.2 in
    let branch = step_takes (number_at MAX_BRANCH bad.Branch (take 6 (drop 20 bytes))) _ r teller.2 in
    let number = step_takes (number_at MAX_NUMBER bad.Number (take 10 (drop 26 bytes))) _ r branch.2 in
    let delta = step_takes (ok_or (signed_of (take 11 (drop 36 bytes))) bad.Delta) _ r number.2 in
    let is = delta.2 in
    cc

plain_has_none : (bytes : List ℕ) (r : RequestFields) → plain_request_of bytes ≡ Ok r → HasNone r
unfolding plain_request_of
plain_has_none bytes r e =
    let tag = text_step (codes "DC01") bad.Tag (take 4 (drop 0 bytes)) _ r e in
    let fields = step_takes (fields_of (take 47 (drop 4 bytes))) _ r tag.1 in
    let filler = text_step (replicate 49 32) bad.Filler (take 49 (drop 51 bytes)) _ r fields.2 in
    let is : fields.0 ≡ r = let h = filler.1 in cc in
    subst HasNone is (fields_have_none _ fields.0 fields.1)

-- every request that the edition reads is without one
abbrev ReadsNone : Edition → Type 0
ReadsNone e = (bytes : List ℕ) (r : RequestFields) → e.reads bytes ≡ Ok r → HasNone r

no_row : (es : List DecidedRequest) (e : DecidedRequest) (o : ℕ) → e.request.reference ≡ None
    → reference_row es o ≡ None → reference_row (e ∷ es) o ≡ None
no_row es e o none rest =
    elim (by_test (eqb (length es + 1) o)) [ inl t ↦ rw (t, none) refl | inr f ↦ rw f rest ]

no_row_of_verdict : (m : ℕ) (r : RequestFields) (v : Verdict) (es : List DecidedRequest) (o : ℕ) → HasNone r
    → reference_row es o ≡ None → reference_row (with_verdict m r v es) o ≡ None
no_row_of_verdict m r (Unkept outcome) es o none rest = rest
no_row_of_verdict m r (Again reply) es o none rest = rest
no_row_of_verdict m r (Refused outcome) es o none rest =
    no_row es (refused_entry m r outcome) o none rest
no_row_of_verdict m r (Posted account teller branch) es o none rest =
    no_row es (posted_entry m r account) o none rest

no_row_of_record : (m : ℕ) (read : Result RequestFields Bad) (opened : ℕ → Option Terms)
    (runs : List ClosingRow) (es : List DecidedRequest)
    (o : ℕ)
    → ((r : RequestFields) → read ≡ Ok r → HasNone r)
    → reference_row es o ≡ None → reference_row (with_record m read opened runs es) o ≡ None
no_row_of_record m (Err fault) opened runs es o none rest = rest
no_row_of_record m (Ok r) opened runs es o none rest =
    no_row_of_verdict m r (case_of (facts opened runs es r) r) es o (none r refl) rest

no_reference_row : (e : Edition) → ReadsNone e → (log : List Command) (o : ℕ)
    → reference_row (decided_in e log) o ≡ None
no_reference_row e none [] o = refl
no_reference_row e none (Open branch terms ∷ log) o = no_reference_row e none log o
no_reference_row e none (Close first last ∷ log) o = no_reference_row e none log o
no_reference_row e none (Post m bytes ∷ log) o =
    no_row_of_record m (e.reads bytes) (λ b. opened_in e log b) (closings log) (decided_in e log) o (none bytes)
    (no_reference_row e none log o)

no_references_in : (e : Edition) → ReadsNone e → (t : Tables) (log : List Command)
    → HasRows t (λ b. opened_in e log b) (closings log) (decided_in e log) → t.references ≡ []
no_references_in e none t log rows =
    none_at reference_key t.references (λ o. rows.references o ∙ no_reference_row e none log o)

pub has_no_references : (version : ℕ) (t : Tables) (log : List Command) → 1 ≤ version → version ≤ 2
    → AreTablesIn version t log → t.references ≡ []
has_no_references zero t log above below s = absurd (omega arith)
has_no_references (suc zero) t log above below s = no_references_in before_floors plain_has_none t log s.rows
has_no_references (suc (suc zero)) t log above below s =
    no_references_in before_references plain_has_none t log s.rows
has_no_references (suc (suc (suc n))) t log above below s = absurd (omega arith)

-- ---- commands

-- what the version knows of an opening is an opening of the bank
known_opening : (version branch : ℕ) (terms : Terms) → IsCommand (Open branch terms)
    → IsCommand (Open branch ((edition version).terms terms))
known_opening version branch terms h =
    by_edition (λ e. IsCommand (Open branch (e.terms terms))) version (h.0, h.1, h.2, h.3, tt) h h

with_post_are : (reads : Bool) (m : ℕ) (bytes : List ℕ) (log : List Command) → IsCommand (Post m bytes)
    → AreCommands log → AreCommands (cond reads (Post m bytes ∷ log) log)
with_post_are true m bytes log is are = (is, are)
with_post_are false m bytes log is are = are

pub plain_are_commands : (version : ℕ) (log : List Command) → AreCommands log
    → AreCommands (plain version log)
plain_are_commands version [] are = tt
plain_are_commands version (Open branch terms ∷ log) are =
    (known_opening version branch terms are.0, plain_are_commands version log are.1)
plain_are_commands version (Close first last ∷ log) are = (are.0, plain_are_commands version log are.1)
plain_are_commands version (Post m bytes ∷ log) are =
    with_post_are (is_ok ((edition version).reads bytes)) m bytes (plain version log) are.0
    (plain_are_commands version log are.1)
