-- The request that a kept row came as, and the reply that it got.
use Rattle.std.specs.Prelude.{◌≡◌, ℕ, pos, Option, Some, None}
use Rattle.message_records.specs.believed.Outcomes.{code_of}
use Rattle.message_records.specs.believed.Records.{ReplyFields, RequestFields, unreferenced}
use Rattle.posting_rules.specs.believed.Cases.{balance_shown}
use Rattle.walked_rows.specs.declared.kept.KeptRequest.{KeptRequest}
use Rattle.walked_rows.specs.declared.postings.StoredPosting.{StoredPosting}

-- the row has these fields, whatever they are
pub record CameAs (row : KeptRequest) (r : RequestFields) : Type 0 where
  pub account : row.request.account ≡ pos r.account
  pub teller : row.request.teller ≡ pos r.teller
  pub branch : row.request.branch ≡ pos r.branch
  pub number : row.request.number ≡ pos r.number
  pub delta : row.request.delta ≡ r.delta
  pub reference : row.reference ≡ r.reference

-- and this reply is the one that is kept with them
pub record GotReply (row : KeptRequest) (r : RequestFields) (y : ReplyFields) : Type 0 where
  pub outcome : row.request.outcome ≡ pos (code_of y.outcome)
  pub request : y.request ≡ Some (unreferenced r)
  pub balance : y.balance ≡ balance_shown y.outcome row.request.balance

-- the moment of its posting, and zero where it wasn't posted
abbrev pub moment_of : Option StoredPosting → ℕ
moment_of None = 0
moment_of (Some p) = p.moment
