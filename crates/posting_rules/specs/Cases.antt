-- Which verdicts refuse a request, and which keep nothing of it.
use Rattle.std.specs.Prelude.{Bool, true, false, ◌<◌}
use Rattle.std.specs.Prelude.{IsTrue}
use Rattle.posting_rules.specs.declared.limits.TheConstants.{MAX_DECIDED}
use Rattle.message_records.specs.declared.records.Outcome.{Outcome}
use Rattle.message_records.specs.declared.records.Outcome.TheVariants as outcome
use Rattle.posting_rules.specs.declared.judgments.Found.{Found}
use Rattle.posting_rules.specs.declared.judgments.Verdict.{Verdict}
use Rattle.posting_rules.specs.declared.judgments.Verdict.TheVariants.{Unkept, Again, Refused, Posted}

-- an outcome that isn't kept, and one that is kept without a posting
abbrev pub is_unkept : Outcome → Bool
is_unkept outcome.NoTeller = true
is_unkept outcome.ReusedNumber = true
is_unkept outcome.Closed = true
is_unkept outcome.Sealed = true
is_unkept outcome.Full = true
is_unkept _ = false

abbrev pub is_refusal : Outcome → Bool
is_refusal outcome.WrongBranch = true
is_refusal outcome.NoAccount = true
is_refusal outcome.BelowFloor = true
is_refusal outcome.OverLimit = true
is_refusal _ = false

-- each outcome is one of its verdict, and there is room for what is to be kept
abbrev pub IsProper : Found → Verdict → Type 0
IsProper f (Unkept outcome) = IsTrue (is_unkept outcome)
IsProper f (Again reply) = Unit {0}
IsProper f (Refused outcome) = IsTrue (is_refusal outcome) × (f.decided < MAX_DECIDED)
IsProper f (Posted account teller branch) = f.decided < MAX_DECIDED
