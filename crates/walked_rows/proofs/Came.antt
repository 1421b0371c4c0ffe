-- What is read of a kept row is the request that it came as, and its reply.
use Rattle.std.proofs.Common.{◌≡◌, ℕ, ℤ, pos, List, Option, Some, None, refl, sym, ap, ◌∙◌}
use Rattle.std.specs.Prelude.{nat_abs, option_map, unwrap_or}
use Rattle.message_records.specs.believed.{Outcomes.outcome_with, Records.ReplyFields, Records.RequestFields}
use Rattle.message_records.specs.believed.Records.{unreferenced}
use Rattle.message_records.specs.declared.records.Outcome.{Outcome, TheVariants.Malformed}
use Rattle.message_records.proofs.SpelledReplies.{outcome_with-code}
use Rattle.posting_rules.specs.believed.Cases.{balance_shown}
use Rattle.walked_rows.specs.{Came.CameAs, Came.GotReply, Came.moment_of, KeptRows.kept_item, Stored.posting_entry}
use Rattle.walked_rows.specs.{declared.kept.KeptRequest.KeptRequest, declared.postings.StoredPosting.StoredPosting}
use Rattle.walked_rows.specs.{References.text_after, References.text_entry, Requests.moment_under, Requests.outcome_in}
use Rattle.walked_rows.specs.Requests.{reply_in, request_in}

text_back : (o : ℕ) (reference : Option (List ℕ))
    → option_map text_after (option_map (text_entry o) reference) ≡ reference
text_back o None = refl
text_back o (Some text) = refl

pub request_same : (a a' t t' b b' n n' : ℕ) (d d' : ℤ) (f f' : Option (List ℕ))
    → a ≡ a' → t ≡ t' → b ≡ b' → n ≡ n' → d ≡ d' → f ≡ f'
    → (let it : RequestFields = record {
      account = a;
      teller = t;
      branch = b;
      number = n;
      delta = d;
      reference = f;
    } in it) ≡ record { account = a'; teller = t'; branch = b'; number = n'; delta = d'; reference = f' }
request_same a a' t t' b b' n n' d d' f f' h0 h1 h2 h3 h4 h5 = cc

pub reply_same : (o o' : Outcome) (r r' : Option RequestFields) (b b' : Option ℤ) → o ≡ o' → r ≡ r' → b ≡ b'
    → (let it : ReplyFields = record { outcome = o; request = r; balance = b } in it)
    ≡ record { outcome = o'; request = r'; balance = b' }
reply_same o o' r r' b b' h0 h1 h2 = cc

number_back : (z : ℤ) (n : ℕ) → z ≡ pos n → n ≡ nat_abs z
number_back z n is = sym (ap nat_abs is)

module _ (row : KeptRequest) (r : RequestFields) (came : CameAs row r) where
  -- the request
  pub request_is : r ≡ request_in (kept_item row)
  request_is =
      request_same r.account (nat_abs row.request.account) r.teller (nat_abs row.request.teller)
      r.branch (nat_abs row.request.branch) r.number (nat_abs row.request.number) r.delta row.request.delta
      r.reference (option_map text_after (option_map (text_entry row.request.ordinal) row.reference))
      (number_back row.request.account r.account came.account)
      (number_back row.request.teller r.teller came.teller)
      (number_back row.request.branch r.branch came.branch)
      (number_back row.request.number r.number came.number)
      (sym came.delta)
      (sym came.reference ∙ sym (text_back row.request.ordinal row.reference))

  module _ (y : ReplyFields) (got : GotReply row r y) where
    outcome_is : y.outcome ≡ outcome_in (kept_item row)
    outcome_is =
        sym (ap (λ (z : ℤ). unwrap_or (outcome_with (nat_abs z)) Malformed) got.outcome
        ∙ ap (λ (o : Option Outcome). unwrap_or o Malformed) (outcome_with-code y.outcome))

    -- and its reply
    pub reply_is : y ≡ reply_in (kept_item row)
    reply_is =
        reply_same y.outcome (outcome_in (kept_item row)) y.request (Some (unreferenced (request_in (kept_item row))))
        y.balance (balance_shown (outcome_in (kept_item row)) row.request.balance)
        outcome_is
        (got.request ∙ ap (λ (f : RequestFields). Some (unreferenced f)) request_is)
        (got.balance ∙ ap (λ (o : Outcome). balance_shown o row.request.balance) outcome_is)

pub moment_back : (posting : Option StoredPosting) → moment_of posting ≡ moment_under (option_map posting_entry posting)
moment_back None = refl
moment_back (Some p) = refl
