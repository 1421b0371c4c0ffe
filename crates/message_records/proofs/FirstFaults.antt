-- Reading a reply field by field: its first fault, or its parts. The tests are as the code makes them.
use Rattle.std.proofs.Common.{◌≡◌, ℕ, true, false, not, List, take, drop, replicate, Option, Some, None, Result, Ok}
use Rattle.std.proofs.Common.{Err, length, refl, sym, ap, ◌∙◌, arith}
use Rattle.std.specs.Prelude.{ℤ, Bool, codes, is_some, IfSome, option_and_then}
use Rattle.std.specs.{Option.ok_or, Option.option_map, Str.bytes_eq}
use Rattle.std.proofs.lemmas.Bool.{not-true, not-false}
use Rattle.message_records.specs.{declared.fault.BadReply.BadReply, declared.records.Outcome.Outcome}
use Rattle.message_records.specs.{believed.Spelling.filled, Outcomes.has_request, believed.Reading.number_of}
use Rattle.message_records.specs.declared.fault.BadReply.TheVariants as bad_reply
use Rattle.message_records.specs.believed.Outcomes.{name_of, has_balance, outcome_with}
use Rattle.message_records.specs.declared.limits.TheConstants.{REPLY_BYTES}
use Rattle.message_records.specs.believed.Records.{RequestFields, ReplyFields, unreferenced}
use Rattle.message_records.specs.Records.{IsShownRequest, reply_from, agree}
use Rattle.message_records.specs.Reading.{shown_request_of, balance_of, reply_of}
use Rattle.message_records.proofs.{Pieces.field_length, ReadReplies.shown_takes}

-- the outcome that the bytes name
abbrev pub outcome_in : List ℕ → Option Outcome
outcome_in bytes = option_and_then outcome_with (number_of (take 2 (drop 4 bytes)))

abbrev has_tag : List ℕ → Bool
has_tag bytes = bytes_eq (take 4 bytes) (codes "DR01")

-- the outcome as the code finds it, in two steps
pub outcome_read : (bytes : List ℕ) (found : Option Outcome) (read : Result Outcome BadReply)
    → found ≡ outcome_in bytes
    → read ≡ ok_or found bad_reply.Outcome
    → read ≡ ok_or (outcome_in bytes) bad_reply.Outcome
outcome_read bytes found read e r = r ∙ ap (λ (o : Option Outcome). ok_or o bad_reply.Outcome) e

-- the fields up to the balance, read without a fault
pub record FrontRead (bytes : List ℕ) (o : Outcome) (q : Option RequestFields) (b : Option ℤ) : Type 0 where
  pub tag : false ≡ not (has_tag bytes)
  pub outcome : Ok o ≡ ok_or (outcome_in bytes) bad_reply.Outcome
  pub request : Ok q ≡ shown_request_of o (take 47 (drop 6 bytes))
  pub balance : Ok b ≡ balance_of o (take 13 (drop 53 bytes))

pub tag_faulty : (bytes : List ℕ) → true ≡ not (has_tag bytes) → Err bad_reply.Tag ≡ reply_of bytes
unfolding reply_of
tag_faulty bytes tag = rw (not-true (has_tag bytes) (sym tag)) refl

pub outcome_faulty : (bytes : List ℕ) (fault : BadReply) → false ≡ not (has_tag bytes)
    → Err fault ≡ ok_or (outcome_in bytes) bad_reply.Outcome
    → Err fault ≡ reply_of bytes
unfolding reply_of
outcome_faulty bytes fault tag e = rw (not-false (has_tag bytes) (sym tag), sym e) refl

pub request_faulty : (bytes : List ℕ) (fault : BadReply) (o : Outcome) → false ≡ not (has_tag bytes)
    → Ok o ≡ ok_or (outcome_in bytes) bad_reply.Outcome
    → Err fault ≡ shown_request_of o (take 47 (drop 6 bytes))
    → Err fault ≡ reply_of bytes
unfolding reply_of
request_faulty bytes fault o tag outcome e =
    rw (not-false (has_tag bytes) (sym tag), sym outcome, sym e) refl

pub balance_faulty : (bytes : List ℕ) (fault : BadReply) (o : Outcome) (q : Option RequestFields)
    → false ≡ not (has_tag bytes)
    → Ok o ≡ ok_or (outcome_in bytes) bad_reply.Outcome
    → Ok q ≡ shown_request_of o (take 47 (drop 6 bytes))
    → Err fault ≡ balance_of o (take 13 (drop 53 bytes))
    → Err fault ≡ reply_of bytes
unfolding reply_of
balance_faulty bytes fault o q tag outcome request e =
    rw (not-false (has_tag bytes) (sym tag), sym outcome, sym request, sym e) refl

pub name_faulty : (bytes name : List ℕ) (o : Outcome) (q : Option RequestFields) (b : Option ℤ)
    → FrontRead bytes o q b
    → name ≡ name_of o
    → false ≡ bytes_eq (take 16 (drop 66 bytes)) (filled 16 name)
    → Err bad_reply.Name ≡ reply_of bytes
unfolding reply_of
name_faulty bytes name o q b front e test =
    let named : bytes_eq (take 16 (drop 66 bytes)) (filled 16 (name_of o)) ≡ false = rw (← e) (sym test) in
    rw (
      not-false (has_tag bytes) (sym front.tag),
      sym front.outcome,
      sym front.request,
      sym front.balance,
      named,
    ) refl

pub filler_faulty : (bytes name : List ℕ) (o : Outcome) (q : Option RequestFields) (b : Option ℤ)
    → FrontRead bytes o q b
    → name ≡ name_of o
    → true ≡ bytes_eq (take 16 (drop 66 bytes)) (filled 16 name)
    → true ≡ not (bytes_eq (take 118 (drop 82 bytes)) (replicate 118 32))
    → Err bad_reply.Filler ≡ reply_of bytes
unfolding reply_of
filler_faulty bytes name o q b front e test filler =
    let named : bytes_eq (take 16 (drop 66 bytes)) (filled 16 (name_of o)) ≡ true = rw (← e) (sym test) in
    let other = not-true (bytes_eq (take 118 (drop 82 bytes)) (replicate 118 32)) (sym filler) in
    rw (
      not-false (has_tag bytes) (sym front.tag),
      sym front.outcome,
      sym front.request,
      sym front.balance,
      named,
      other,
    ) refl

same_agree : (a b : Bool) → a ≡ b → agree a b ≡ true
same_agree true b e = sym e
same_agree false b e = rw (← e) refl

-- what a reply shows has no reference
shown_same : (q : Option RequestFields) → IfSome q IsShownRequest → option_map unreferenced q ≡ q
shown_same None h = refl
shown_same (Some r) h = ap Some h.1

pub parts_found : (bytes name : List ℕ) (o : Outcome) (q : Option RequestFields) (b : Option ℤ)
    (made : Option ReplyFields)
    → length bytes ≡ REPLY_BYTES
    → FrontRead bytes o q b
    → name ≡ name_of o
    → true ≡ bytes_eq (take 16 (drop 66 bytes)) (filled 16 name)
    → false ≡ not (bytes_eq (take 118 (drop 82 bytes)) (replicate 118 32))
    → is_some q ≡ has_request o → is_some b ≡ has_balance o → made ≡ reply_from o q b
    → ok_or made bad_reply.Outcome ≡ reply_of bytes
unfolding reply_of
parts_found bytes name o q b made len front e test filler shows_request shows_balance m =
    let named : bytes_eq (take 16 (drop 66 bytes)) (filled 16 (name_of o)) ≡ true = rw (← e) (sym test) in
    let filled_up = not-false (bytes_eq (take 118 (drop 82 bytes)) (replicate 118 32)) (sym filler) in
    let shown = shown_takes o q (take 47 (drop 6 bytes)) (field_length 6 47 bytes (omega arith))
    (sym front.request) in
    rw (
      m,
      shown_same q shown.in_range,
      same_agree (is_some q) (has_request o) shows_request,
      same_agree (is_some b) (has_balance o) shows_balance,
      not-false (has_tag bytes) (sym front.tag),
      sym front.outcome,
      sym front.request,
      sym front.balance,
      named,
      filled_up,
    ) refl
