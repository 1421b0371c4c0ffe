-- Each field is read after those before it.
use Rattle.std.proofs.Common.{refl, sym}
use Rattle.std.proofs.lemmas.Bool.{not-true, not-false}
use Rattle.message_records.specs.believed.Reading.{plain_request_of}
use Rattle.message_records.proofs.reading.read_plain.Goals as goal

pub returns-then-ne-2 : goal.returns-then-ne-2
unfolding plain_request_of
returns-then-ne-2 c =
    rw (
      not-false _ (sym c.if-ne.ensures),
      sym c.in_ok-request.ensures,
      not-true _ (sym c.if-ne-2.ensures),
    ) refl

pub returns : goal.returns
unfolding plain_request_of
returns c =
    rw (
      not-false _ (sym c.if-ne.ensures),
      sym c.in_ok-request.ensures,
      not-false _ (sym c.if-ne-2.ensures),
    ) refl
