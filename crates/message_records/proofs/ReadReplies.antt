-- A reply that is read is spelled so.
use Rattle.std.proofs.Common.{◌≡◌, ℕ, ◌≤◌, Bool, true, false, eqb, find, List, [], ◌∷◌, ◌++◌, length, take, drop}
use Rattle.std.proofs.Common.{replicate, Option, Some, None, Result, Ok, Err, refl, sym, ap, subst, ◌∙◌, arith, inl}
use Rattle.std.proofs.Common.{inr}
use Rattle.std.specs.Prelude.{ℤ, pos, nat_abs, codes, is_some, IfSome, IfOk, unwrap_or, option_and_then}
use Rattle.std.specs.Option.{ok_or}
use Rattle.std.proofs.lemmas.Bool.{eqb-true}
use Rattle.message_records.specs.declared.limits.TheConstants.{MAX_BALANCE, REPLY_BYTES}
use Rattle.message_records.specs.declared.{fault.Bad.Bad, fault.BadReply.BadReply, records.Outcome.Outcome}
use Rattle.message_records.specs.declared.fault.BadReply.TheVariants as bad_reply
use Rattle.message_records.specs.declared.records.Outcome.TheVariants.{Posted, Malformed}
use Rattle.message_records.specs.believed.Outcomes.{code_of, name_of, has_balance, outcome_with, outcomes}
use Rattle.message_records.specs.{Outcomes.has_request, Records.IsShownRequest, Records.IsReply}
use Rattle.message_records.specs.believed.Records.{RequestFields, ReplyFields}
use Rattle.message_records.specs.believed.Spelling.{digits, signed, fields_spelling, no_fields, filled}
use Rattle.message_records.specs.believed.Spelling.{reply_spelling}
use Rattle.message_records.specs.believed.Reading.{◌>>=◌, number_of, signed_of, text_at, fields_of}
use Rattle.message_records.specs.Reading.{shown_in_reply, no_fields_of, shown_request_of, balance_of}
use Rattle.message_records.specs.Reading.{reply_of}
use Rattle.message_records.proofs.{Digits.chosen, Digits.number_takes, Amounts.signed_takes, Amounts.and_then_some}
use Rattle.message_records.proofs.{Fields.fields_take, SpelledReplies.zero_balance}
use Rattle.message_records.proofs.Pieces.{field_joined, last_joined, field_length, text_step, step_takes, ok_or_some}

-- ---- outcomes

-- what a test finds passes it
found_passes : (test : Outcome → Bool) (os : List Outcome) (o : Outcome) → find test os ≡ Some o → test o ≡ true
found_passes test [] o e = absurd cc
found_passes test (x ∷ os) o e =
    elim (chosen (test x) (Some x) (find test os) (Some o) e) [
      | inl t ↦ let same : x ≡ o = let h = t.1 in cc in subst (λ y. test y ≡ true) same t.0
      | inr f ↦ found_passes test os o f.1
    ]

outcome_with-takes : (n : ℕ) (o : Outcome) → outcome_with n ≡ Some o → n ≡ code_of o
outcome_with-takes n o e = sym (eqb-true (code_of o) n (found_passes (λ x. eqb (code_of x) n) outcomes o e))

outcome_takes : (o : Outcome) (cs : List ℕ) → length cs ≡ 2
    → option_and_then outcome_with (number_of cs) ≡ Some o
    → cs ≡ digits 2 (code_of o)
outcome_takes o cs len e =
    let read = and_then_some outcome_with (number_of cs) o e in
    (number_takes 2 read.0 cs len read.1).0 ∙ ap (λ (n : ℕ). digits 2 n) (outcome_with-takes read.0 o read.2)

-- ---- what is shown

pub record IsShown (o : Outcome) (q : Option RequestFields) (bytes : List ℕ) : Type 0 where
  pub spelled : bytes ≡ fields_spelling (unwrap_or q no_fields)
  pub shows : is_some q ≡ has_request o
  pub in_range : IfSome q IsShownRequest

zeros_spelled : fields_spelling no_fields
    ≡ replicate 12 48 ++ (replicate 8 48 ++ (replicate 6 48 ++ (replicate 10 48 ++ (43 ∷ replicate 10 48))))
unfolding fields_spelling digits
zeros_spelled = refl

no_fields_take : (q : Option RequestFields) (bytes : List ℕ) → length bytes ≡ 47 → no_fields_of bytes ≡ Ok q
    → (None ≡ q) × (bytes ≡ fields_spelling no_fields)
unfolding no_fields_of
no_fields_take q bytes len e =
    let account = text_step (replicate 12 48) bad_reply.Account (take 12 (drop 0 bytes)) _ q e in
    let teller = text_step (replicate 8 48) bad_reply.Teller (take 8 (drop 12 bytes)) _ q account.1 in
    let branch = text_step (replicate 6 48) bad_reply.Branch (take 6 (drop 20 bytes)) _ q teller.1 in
    let number = text_step (replicate 10 48) bad_reply.Number (take 10 (drop 26 bytes)) _ q branch.1 in
    let delta = text_step (43 ∷ replicate 10 48) bad_reply.Delta (take 11 (drop 36 bytes)) _ q number.1 in
    let none : None ≡ q = let h = delta.1 in cc in
    let from_delta = last_joined 36 11 bytes (43 ∷ replicate 10 48) len delta.0 in
    let from_number = field_joined 26 10 bytes (replicate 10 48) _ number.0 from_delta in
    let from_branch = field_joined 20 6 bytes (replicate 6 48) _ branch.0 from_number in
    let from_teller = field_joined 12 8 bytes (replicate 8 48) _ teller.0 from_branch in
    let from_account = field_joined 0 12 bytes (replicate 12 48) _ account.0 from_teller in
    (none, from_account ∙ sym zeros_spelled)

shown_in_reply-takes : (x : Result RequestFields Bad) (q : Option RequestFields) → shown_in_reply x ≡ Ok q
    → (r : RequestFields) × (x ≡ Ok r) × (Some r ≡ q)
shown_in_reply-takes (Ok r) q e = (r, refl, cc)
shown_in_reply-takes (Err fault) q e = absurd cc

request_shown : (o : Outcome) (q : Option RequestFields) (bytes : List ℕ) → true ≡ has_request o
    → length bytes ≡ 47
    → shown_in_reply (fields_of bytes) ≡ Ok q → IsShown o q bytes
request_shown o q bytes has len e =
    let read = shown_in_reply-takes (fields_of bytes) q e in
    let taken = fields_take read.0 bytes len read.1 in
    subst (λ (y : Option RequestFields). IsShown o y bytes) read.2
    (record { spelled = taken.0; shows = has; in_range = taken.1 })

-- what is shown is spelled so, and in range
pub shown_takes : (o : Outcome) (q : Option RequestFields) (bytes : List ℕ) → length bytes ≡ 47
    → shown_request_of o bytes ≡ Ok q → IsShown o q bytes
shown_takes Malformed q bytes len e =
    let taken = no_fields_take q bytes len e in
    subst (λ (y : Option RequestFields). IsShown Malformed y bytes) taken.0
    (record { spelled = taken.1; shows = refl; in_range = tt })
shown_takes o q bytes len e = request_shown o q bytes refl len e

-- ---- the balance

record IsBalance (o : Outcome) (q : Option ℤ) (bytes : List ℕ) : Type 0 where
  spelled : bytes ≡ signed 12 (unwrap_or q (pos 0))
  shows : is_some q ≡ has_balance o
  in_range : IfSome q (λ z. nat_abs z ≤ MAX_BALANCE)

no_balance : (o : Outcome) (q : Option ℤ) (bytes : List ℕ) → false ≡ has_balance o
    → (text_at (43 ∷ replicate 12 48) bad_reply.Balance bytes >>= λ zeros. Ok None) ≡ Ok q
    → IsBalance o q bytes
no_balance o q bytes has e =
    let zero = text_step (43 ∷ replicate 12 48) bad_reply.Balance bytes _ q e in
    let none : None ≡ q = let h = zero.1 in cc in
    subst (λ (y : Option ℤ). IsBalance o y bytes) none
    (record { spelled = zero.0 ∙ sym zero_balance; shows = has; in_range = tt })

balance_takes : (o : Outcome) (q : Option ℤ) (bytes : List ℕ) → length bytes ≡ 13 → balance_of o bytes ≡ Ok q
    → IsBalance o q bytes
balance_takes Posted q bytes len e =
    let read = step_takes (ok_or (signed_of bytes) bad_reply.Balance) _ q e in
    let some : Some read.0 ≡ q = let h = read.2 in cc in
    let taken = signed_takes 12 read.0 bytes len
    (ok_or_some (signed_of bytes) bad_reply.Balance read.0 read.1) in
    subst (λ (y : Option ℤ). IsBalance Posted y bytes) some
    (record { spelled = taken.0; shows = refl; in_range = omega (arith, taken.1) })
balance_takes o q bytes len e = no_balance o q bytes refl e

-- ---- the reply

-- what is read is spelled so, and its parts belong together
pub reply_takes : (r : ReplyFields) (bytes : List ℕ) → length bytes ≡ REPLY_BYTES → reply_of bytes ≡ Ok r
    → (bytes ≡ reply_spelling r) × IsReply r
unfolding reply_spelling reply_of
reply_takes r bytes len e =
    let tag = text_step (codes "DR01") bad_reply.Tag (take 4 (drop 0 bytes)) _ r e in
    let code = option_and_then outcome_with (number_of (take 2 (drop 4 bytes))) in
    let outcome = step_takes (ok_or code bad_reply.Outcome) _ r tag.1 in
    let request = step_takes (shown_request_of outcome.0 (take 47 (drop 6 bytes))) _ r outcome.2 in
    let balance = step_takes (balance_of outcome.0 (take 13 (drop 53 bytes))) _ r request.2 in
    let name = text_step (filled 16 (name_of outcome.0)) bad_reply.Name
    (take 16 (drop 66 bytes)) _ r balance.2 in
    let filler = text_step (replicate 118 32) bad_reply.Filler (take 118 (drop 82 bytes)) _ r name.1 in
    let r-is : record { outcome = outcome.0; request = request.0; balance = balance.0 } ≡ r =
    let h = filler.1 in cc in
    let o = outcome_takes outcome.0 (take 2 (drop 4 bytes)) (field_length 4 2 bytes (omega arith))
    (ok_or_some code bad_reply.Outcome outcome.0 outcome.1) in
    let q = shown_takes outcome.0 request.0 (take 47 (drop 6 bytes))
    (field_length 6 47 bytes (omega arith)) request.1 in
    let b = balance_takes outcome.0 balance.0 (take 13 (drop 53 bytes))
    (field_length 53 13 bytes (omega arith)) balance.1 in
    let from_filler = last_joined 82 118 bytes (replicate 118 32) len filler.0 in
    let from_name = field_joined 66 16 bytes (filled 16 (name_of outcome.0)) _ name.0 from_filler in
    let from_balance = field_joined 53 13 bytes
    (signed 12 (unwrap_or balance.0 (pos 0))) _ b.spelled from_name in
    let from_request = field_joined 6 47 bytes
    (fields_spelling (unwrap_or request.0 no_fields)) _ q.spelled from_balance in
    let from_outcome = field_joined 4 2 bytes (digits 2 (code_of outcome.0)) _ o from_request in
    let from_tag = field_joined 0 4 bytes (codes "DR01") _ tag.0 from_outcome in
    subst (λ (y : ReplyFields). (bytes ≡ reply_spelling y) × IsReply y) r-is (
      from_tag,
      record {
        shows_request = q.shows;
        request = q.in_range;
        shows_balance = b.shows;
        balance = b.in_range;
      },
    )

-- the same, of what a call returned
pub reply_found : (bytes : List ℕ) (read : Result ReplyFields BadReply) → length bytes ≡ REPLY_BYTES
    → read ≡ reply_of bytes
    → IfOk read (λ r. IsReply r × (bytes ≡ reply_spelling r))
reply_found bytes (Ok r) len e = let taken = reply_takes r bytes len (sym e) in (taken.1, taken.0)
reply_found bytes (Err fault) len e = tt
