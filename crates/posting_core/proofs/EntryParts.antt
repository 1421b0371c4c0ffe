-- The parts of an entry, and the moment that it has.
use Rattle.std.proofs.Common.{◌≡◌, ◌≤◌, ◌⊎◌, ◌++◌, ◌&&◌, ◌∙◌, ℕ, Bool, true, false, cond, List, length, take, drop}
use Rattle.std.proofs.Common.{Option, Some, None, Result, Ok, Err, refl, sym, ap, inl, inr, arith}
use Rattle.std.specs.Prelude.{◌==◌, ◌||◌}
use Rattle.std.specs.Int.{from_be_bytes, to_be_bytes, w64}
use Rattle.std.proofs.Math.Dec.{leb, leb-zero}
use Rattle.std.proofs.lemmas.{Bool.Decides.leb_tells, Bool.cases_Bool, Bool.eq-eqb, Bool.eqb-true, Bool.le-leb}
use Rattle.std.proofs.lemmas.{List.drop_at}
use Rattle.std.proofs.lemmas.{List.take_at, Nat.from_be_bytes-to_be_bytes_8}
use Rattle.message_records.specs.{Records.IsReply, Records.IsRequest, declared.fault.Bad.Bad}
use Rattle.message_records.specs.{declared.fault.BadReply.BadReply, declared.limits.TheConstants.MAX_MOMENT}
use Rattle.message_records.specs.declared.records.Outcome.{Outcome}
use Rattle.message_records.specs.believed.{Outcomes.has_balance, Ranges.whole_within, Records.ReplyFields}
use Rattle.message_records.specs.believed.{Records.RequestFields, Spelling.reply_spelling}
use Rattle.message_records.specs.believed.Spelling.{request_spelling}
use Rattle.message_records.proofs.Prefixes.{length-reply, length-request}
use Rattle.posting_core.specs.Entries.{IsEntry, is_kept, moment_from}
use Rattle.posting_core.specs.believed.LogEntries.{AnsweredRequest, entry_of}

split_same : (x y a b : List ℕ) → length x ≡ length a → x ++ y ≡ a ++ b → (x ≡ a) × (y ≡ b)
split_same x y a b long same = (
  sym (take_at x y (length x) refl) ∙ ap (take (length x)) same ∙ take_at a b (length x) (sym long),
  sym (drop_at x y (length x) refl) ∙ ap (drop (length x)) same ∙ drop_at a b (length x) (sym long),
)

-- ---- a moment

both_true : (a b : Bool) → a ≡ true → b ≡ true → (a && b) ≡ true
both_true true b one two = two
both_true false b one two = absurd cc

one_false : (a b : Bool) → b ≡ false → (a && b) ≡ false
one_false true b out = out
one_false false b out = refl

fits_in : (n : ℕ) → leb n MAX_MOMENT ≡ true → whole_within 0 MAX_MOMENT n ≡ Some n
fits_in n fits = ap (λ (b : Bool). cond b (Some n) None) (both_true (leb 0 n) (leb n MAX_MOMENT) (leb-zero n) fits)

fits_not : (n : ℕ) → leb n MAX_MOMENT ≡ false → whole_within 0 MAX_MOMENT n ≡ None
fits_not n out =
    ap (λ (b : Bool). cond b (let one : Option ℕ = Some n in one) None) (one_false (leb 0 n) (leb n MAX_MOMENT) out)

within_range : (n : ℕ) → n ≤ MAX_MOMENT → whole_within 0 MAX_MOMENT n ≡ Some n
within_range n low = fits_in n (le-leb n MAX_MOMENT low)

pub moment_there : (o : Outcome) (n : ℕ) → n ≤ MAX_MOMENT → ((has_balance o ≡ true) ⊎ (n ≡ 0))
    → moment_from o n ≡ Some n
moment_there o n low at =
    ap (λ (b : Bool). cond b (whole_within 0 MAX_MOMENT n) None) (tested (has_balance o) at) ∙ within_range n low
  where
    tested : (b : Bool) → ((b ≡ true) ⊎ (n ≡ 0)) → (b || (n == 0)) ≡ true
    tested true at = refl
    tested false (inl is) = absurd cc
    tested false (inr zero) = eq-eqb n 0 zero

pub record HasMoment (o : Outcome) (n m : ℕ) : Type 0 where
  pub same : m ≡ n
  pub most : m ≤ MAX_MOMENT
  pub zero : (has_balance o ≡ true) ⊎ (m ≡ 0)

pub moment_facts : (o : Outcome) (n m : ℕ) → Some m ≡ moment_from o n → HasMoment o n m
moment_facts o n m is = elim (leb_tells n MAX_MOMENT) [
  | inl fits ↦ elim (cases_Bool (has_balance o || (n == 0))) [
    | inl at ↦
        let given : moment_from o n ≡ Some n =
        ap (λ (b : Bool). cond b (whole_within 0 MAX_MOMENT n) None) at ∙ fits_in n fits.0 in
        let same : m ≡ n = some_same m n (is ∙ given) in
        let low = fits.1 in
        record { same = same; most = omega (arith, same, low); zero = zero_then (has_balance o) same at }
    | inr none ↦
        absurd (some_none m (is ∙ ap (λ (b : Bool). cond b (whole_within 0 MAX_MOMENT n) None) none))
  ]
  | inr more ↦
      let out : whole_within 0 MAX_MOMENT n ≡ None = fits_not n more.0 in
      absurd (some_none m (is ∙ ap (λ (x : Option ℕ). cond (has_balance o || (n == 0)) x None) out
      ∙ none_either (has_balance o || (n == 0))))
]
  where
    some_same : (x y : ℕ) → (let one : Option ℕ = Some x in one) ≡ Some y → x ≡ y
    some_same x y is = cc

    some_none : (x : ℕ) → (let one : Option ℕ = Some x in one) ≡ None → ⊥
    some_none x is = cc

    none_either : (b : Bool) → cond b (let none : Option ℕ = None in none) None ≡ None
    none_either true = refl
    none_either false = refl

    zero_then : (b : Bool) → m ≡ n → (b || (n == 0)) ≡ true → (b ≡ true) ⊎ (m ≡ 0)
    zero_then true same at = inl refl
    zero_then false same at = inr (same ∙ eqb-true n 0 at)

-- ---- bytes that are no entry

no_request : (f : Bad) (r : RequestFields) → (let one : Result RequestFields Bad = Err f in one) ≡ Ok r → ⊥
no_request f r is = cc

no_reply : (f : BadReply) (r : ReplyFields) → (let one : Result ReplyFields BadReply = Err f in one) ≡ Ok r → ⊥
no_reply f r is = cc

one_reply : (r s : ReplyFields) → (let one : Result ReplyFields BadReply = Ok r in one) ≡ Ok s → r ≡ s
one_reply r s is = cc

no_moment : (m : ℕ) → None ≡ (let one : Option ℕ = Some m in one) → ⊥
no_moment m is = cc

module _ (bytes record_part reply_part seconds : List ℕ) (long : length record_part ≡ 100)
    (reply_long : length reply_part ≡ 200) (all : record_part ++ (reply_part ++ seconds) ≡ bytes)
    (a : AnsweredRequest) (is : IsEntry a) (same : entry_of a ≡ bytes) where
  first_split : (record_part ≡ request_spelling a.request)
      × (reply_part ++ seconds ≡ reply_spelling a.reply ++ to_be_bytes w64 a.moment)
  first_split =
      split_same record_part (reply_part ++ seconds) (request_spelling a.request)
      (reply_spelling a.reply ++ to_be_bytes w64 a.moment)
      (long ∙ sym (length-request a.request is.request)) (all ∙ sym same)

  last_split : (reply_part ≡ reply_spelling a.reply) × (seconds ≡ to_be_bytes w64 a.moment)
  last_split =
      split_same reply_part seconds (reply_spelling a.reply) (to_be_bytes w64 a.moment)
      (reply_long ∙ sym (length-reply a.reply)) first_split.1

  moment_said : from_be_bytes w64 seconds ≡ a.moment
  moment_said =
      ap (from_be_bytes w64) last_split.1
      ∙ from_be_bytes-to_be_bytes_8 a.moment (let most = is.moment in omega (arith, most))

  pub unread_request : (fault : Bad) (result : Result RequestFields Bad) → result ≡ Err fault
      → ((r : RequestFields) → IsRequest r → record_part ≡ request_spelling r → result ≡ Ok r) → ⊥
  unread_request fault result bad only =
      no_request fault a.request (sym bad ∙ only a.request is.request first_split.0)

  pub unread_reply : (fault : BadReply) (result : Result ReplyFields BadReply) → result ≡ Err fault
      → ((r : ReplyFields) → IsReply r → reply_part ≡ reply_spelling r → result ≡ Ok r) → ⊥
  unread_reply fault result bad only = no_reply fault a.reply (sym bad ∙ only a.reply is.reply last_split.0)

  module _ (y : ReplyFields) (result : Result ReplyFields BadReply) (read : result ≡ Ok y)
      (only : (r : ReplyFields) → IsReply r → reply_part ≡ reply_spelling r → result ≡ Ok r) where
    reply_read : y ≡ a.reply
    reply_read = one_reply y a.reply (sym read ∙ only a.reply is.reply last_split.0)

    pub unkept : is_kept y.outcome ≡ false → ⊥
    unkept out =
        let yes : is_kept y.outcome ≡ true = ap (λ (r : ReplyFields). is_kept r.outcome) reply_read ∙ is.kept in
        cc

    pub unmoved : (n : ℕ) → n ≡ from_be_bytes w64 seconds → None ≡ moment_from y.outcome n → ⊥
    unmoved n said none =
        no_moment a.moment (none
        ∙ ap (λ (r : ReplyFields). moment_from r.outcome n) reply_read
        ∙ ap (moment_from a.reply.outcome) (said ∙ moment_said)
        ∙ moment_there a.reply.outcome a.moment is.moment is.zero)
