-- What a log of commands opens and decides is within its range.
use Rattle.std.proofs.Common.{◌≡◌, ℕ, ◌<◌, ◌≤◌, Bool, true, false, cond, eqb, List, [], ◌∷◌, length, Option, Some}
use Rattle.std.proofs.Common.{None, Result, Ok, Err, refl, subst, arith, lit≤}
use Rattle.std.specs.{Prelude.pos, Prelude.nat_abs, Prelude.IfSome, Option.option_or}
use Rattle.std.proofs.lemmas.Bool.{eqb-true}
use Rattle.posting_rules.specs.{declared.limits.TheConstants.MAX_DECIDED, declared.judgments.Verdict.Verdict}
use Rattle.posting_rules.specs.believed.{Cases.case_of, Kept.is_kept_with}
use Rattle.message_records.specs.declared.limits.TheConstants.{MAX_MOMENT, MAX_BALANCE}
use Rattle.message_records.specs.{declared.fault.Bad.Bad, Records.IsRequest, believed.Reading.request_of}
use Rattle.message_records.specs.believed.Records.{RequestFields}
use Rattle.message_records.proofs.Requests.{read_in_range}
use Rattle.posting_rules.specs.declared.judgments.Verdict.TheVariants.{Unkept, Again, Refused, Posted}
use Rattle.posting_rules.specs.believed.Commands.{Command, Open, Post, Close, IsCommand, AreCommands, opened, Terms}
use Rattle.posting_rules.specs.believed.Entries.{DecidedRequest, facts, with_verdict, with_record, decided}
use Rattle.posting_rules.proofs.Verdicts.{IsVerdict, by_case, verdict_is}
use Rattle.posting_rules.specs.declared.rows.ClosingRow.{ClosingRow}
use Rattle.posting_rules.specs.believed.Closings.{closings}

-- ---- what is open

or_within : (P : Terms → Type 0) (o p : Option Terms) → IfSome o P → IfSome p P → IfSome (option_or o p) P
or_within P (Some n) p h k = h
or_within P None p h k = k

-- an open branch and what it was opened with are those of an opening
pub open_within : (log : List Command) → AreCommands log → (b : ℕ)
    → IfSome (opened log b) (λ n. IsCommand (Open b n))
open_within [] are b = tt
open_within (Post m bytes ∷ log) are b = open_within log are.1 b
open_within (Close first last ∷ log) are b = open_within log are.1 b
open_within (Open c terms ∷ log) are b =
    or_within (λ n. IsCommand (Open b n)) (opened log b) (cond (eqb c b) (Some terms) None)
    (open_within log are.1 b) (here (eqb c b) refl)
  where
    here : (hit : Bool) → eqb c b ≡ hit
        → IfSome (cond hit (Some terms) None) (λ n. IsCommand (Open b n))
    here true e = subst (λ (x : ℕ). IsCommand (Open x terms)) (eqb-true c b e) are.0
    here false e = tt

-- ---- what is decided

-- a decided request was read, its moment is within its range, and its outcome is kept with its balance
pub record IsSoundEntry (e : DecidedRequest) : Type 0 where
  pub request : IsRequest e.request
  pub moment : e.moment ≤ MAX_MOMENT
  pub kept : is_kept_with e.outcome e.balance ≡ true
  pub balance : nat_abs e.balance ≤ MAX_BALANCE

-- each decided request is sound, and there was room for it
abbrev pub AreSound : List DecidedRequest → Type 0
AreSound [] = Unit {0}
AreSound (e ∷ es) = IsSoundEntry e × (length es < MAX_DECIDED) × AreSound es

-- no more are decided than a bank may decide
pub few_enough : (es : List DecidedRequest) → AreSound es → length es ≤ MAX_DECIDED
few_enough [] h = lit≤ tt
few_enough (e ∷ es) h = let room : length es < MAX_DECIDED = h.1 in omega arith

-- a refusal is kept with the balance zero
abbrev IsKeepable : Verdict → Type 0
IsKeepable (Refused outcome) = is_kept_with outcome (pos 0) ≡ true
IsKeepable v = Unit {0}

keepable : (opened : ℕ → Option Terms) (runs : List ClosingRow) (es : List DecidedRequest) (r : RequestFields)
    → IsKeepable (case_of (facts opened runs es r) r)
keepable opened runs es r =
    by_case (λ v. IsKeepable v) (facts opened runs es r) r (λ o. tt) (λ a. tt) (λ o kept unposted new room. kept)
    (λ x y w h. tt)

sound_verdict : (opened : ℕ → Option Terms) (es : List DecidedRequest) (m : ℕ) (r : RequestFields) (v : Verdict)
    → IsVerdict opened es r v → IsKeepable v → IsRequest r → m ≤ MAX_MOMENT → AreSound es
    → AreSound (with_verdict m r v es)
sound_verdict opened es m r (Unkept o) h k read late all = all
sound_verdict opened es m r (Again x) h k read late all = all
sound_verdict opened es m r (Refused o) h k read late all =
    (record { request = read; moment = late; kept = k; balance = lit≤ tt }, h.room, all)
sound_verdict opened es m r (Posted a t b) h k read late all =
    (record { request = read; moment = late; kept = refl; balance = h.account_is.within }, h.room, all)

sound_record : (opened : ℕ → Option Terms) (runs : List ClosingRow) (es : List DecidedRequest) (m : ℕ) (bytes : List ℕ)
    (read : Result RequestFields Bad)
    → request_of bytes ≡ read → IsCommand (Post m bytes) → AreSound es
    → AreSound (with_record m read opened runs es)
sound_record opened runs es m bytes (Ok r) e is all =
    sound_verdict opened es m r (case_of (facts opened runs es r) r) (verdict_is opened runs es r)
    (keepable opened runs es r)
    (read_in_range bytes r is.1 e) is.0 all
sound_record opened runs es m bytes (Err fault) e is all = all

-- every request that a log of commands decides is sound
pub are_sound : (log : List Command) → AreCommands log → AreSound (decided log)
are_sound [] are = tt
are_sound (Open b terms ∷ log) are = are_sound log are.1
are_sound (Close first last ∷ log) are = are_sound log are.1
are_sound (Post m bytes ∷ log) are = sound_record (λ b. opened log b) (closings log) (decided log) m bytes
    (request_of bytes) refl are.0 (are_sound log are.1)
