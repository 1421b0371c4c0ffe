-- What reading a reply gives: its value, or its first faulty field from the left.
use Rattle.std.specs.Prelude.{ℕ, ℤ, List, ◌∷◌}
use Rattle.std.specs.Prelude.{slice_range, Option, Some, None, Result, Ok, Err, codes}
use Rattle.std.specs.Prelude.{replicate, option_and_then}
use Rattle.std.specs.Option.{ok_or}
use Rattle.message_records.specs.declared.records.Outcome.{Outcome}
use Rattle.message_records.specs.declared.records.Outcome.TheVariants.{Posted, Malformed}
use Rattle.message_records.specs.declared.fault.Bad.{Bad}
use Rattle.message_records.specs.declared.fault.Bad.TheVariants as bad
use Rattle.message_records.specs.declared.fault.BadReply.{BadReply}
use Rattle.message_records.specs.declared.fault.BadReply.TheVariants as bad_reply
use Rattle.message_records.specs.declared.limits.TheConstants.{REPLY_BYTES}
use Rattle.message_records.specs.believed.Outcomes.{name_of, outcome_with}
use Rattle.message_records.specs.believed.Records.{RequestFields, ReplyFields}
use Rattle.message_records.specs.believed.Spelling.{filled}
use Rattle.message_records.specs.believed.Reading.{fields_of, number_of, signed_of, text_at, ◌>>=◌}

-- ---- replies

-- a field of a request is a field of its reply, which has filler in the place of a reference
abbrev pub in_reply : Bad → BadReply
in_reply bad.Tag = bad_reply.Tag
in_reply bad.Account = bad_reply.Account
in_reply bad.Teller = bad_reply.Teller
in_reply bad.Branch = bad_reply.Branch
in_reply bad.Number = bad_reply.Number
in_reply bad.Delta = bad_reply.Delta
in_reply bad.Reference = bad_reply.Filler
in_reply bad.Filler = bad_reply.Filler

abbrev pub shown_in_reply : Result RequestFields Bad → Result (Option RequestFields) BadReply
shown_in_reply (Ok r) = Ok (Some r)
shown_in_reply (Err fault) = Err (in_reply fault)

-- zeros in the place of each field
unfoldable pub no_fields_of : List ℕ → Result (Option RequestFields) BadReply
no_fields_of bytes = do
  account ← text_at (replicate 12 48) bad_reply.Account (slice_range bytes 0 12)
  teller ← text_at (replicate 8 48) bad_reply.Teller (slice_range bytes 12 20)
  branch ← text_at (replicate 6 48) bad_reply.Branch (slice_range bytes 20 26)
  number ← text_at (replicate 10 48) bad_reply.Number (slice_range bytes 26 36)
  delta ← text_at (43 ∷ replicate 10 48) bad_reply.Delta (slice_range bytes 36 47)
  Ok None

abbrev pub shown_request_of : Outcome → List ℕ → Result (Option RequestFields) BadReply
shown_request_of Malformed bytes = no_fields_of bytes
shown_request_of _ bytes = shown_in_reply (fields_of bytes)

abbrev pub balance_of : Outcome → List ℕ → Result (Option ℤ) BadReply
balance_of Posted bytes = ok_or (signed_of bytes) bad_reply.Balance >>= λ z. Ok (Some z)
balance_of _ bytes = text_at (43 ∷ replicate 12 48) bad_reply.Balance bytes >>= λ zeros. Ok None

unfoldable pub reply_of : List ℕ → Result ReplyFields BadReply
reply_of bytes = do
  tag ← text_at (codes "DR01") bad_reply.Tag (slice_range bytes 0 4)
  outcome ← ok_or (option_and_then outcome_with (number_of (slice_range bytes 4 6))) bad_reply.Outcome
  request ← shown_request_of outcome (slice_range bytes 6 53)
  balance ← balance_of outcome (slice_range bytes 53 66)
  name ← text_at (filled 16 (name_of outcome)) bad_reply.Name (slice_range bytes 66 82)
  filler ← text_at (replicate 118 32) bad_reply.Filler (slice_range bytes 82 REPLY_BYTES)
  Ok (record { outcome = outcome; request = request; balance = balance })
