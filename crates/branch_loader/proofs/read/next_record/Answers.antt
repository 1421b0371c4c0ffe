use Rattle.std.proofs.Common.{inl, inr}
use Rattle.branch_loader.specs.Records.{WasFailure}
use Rattle.branch_loader.proofs.SourceRead.{failed_last, found_last}
use Rattle.branch_loader.proofs.read.next_record.Goals as goal

pub returns-in-Ok-clause-found : goal.returns-in-Ok-clause-found
returns-in-Ok-clause-found g c some =
    found_last c.next.result c.in-Ok.found c.in-Ok.is c.next.ensures.tells some

pub returns-in-Io-clause-failed : goal.returns-in-Io-clause-failed
returns-in-Io-clause-failed g c =
    elim c.in-Io.is [
      | inl io ↦ failed_last WasFailure c.next.result c.in-Err.error c.into_kind.result _ c.in-Err.is
          c.into_kind.ensures io.1 tt c.next.ensures.tells
      | inr memory ↦ failed_last WasFailure c.next.result c.in-Err.error c.into_kind.result _ c.in-Err.is
          c.into_kind.ensures memory tt c.next.ensures.tells
    ]
