-- The row that was read, or why there is none.
use Rattle.std.proofs.Common.{refl}
use Rattle.posting_sheets.proofs.Rowed.{next-fault}
use Rattle.posting_sheets.proofs.rows.Rows.take_for.Goals as goal

pub returns-in-Ok-None-clause-taken : goal.returns-in-Ok-None-clause-taken
returns-in-Ok-None-clause-taken g c postings a = rw (c.in-Ok-None.is, c.in-Ok-None.field-0-is) at (c.next.ensures.next postings a)

pub returns-in-Err-clause-taken : goal.returns-in-Err-clause-taken
returns-in-Err-clause-taken g c postings a =
    next-fault g.S.RecordSource.has_left postings c.args.before c.next.new.self c.args.reply.now c.in-Err.fault
    (rw c.in-Err.is at (c.next.ensures.next postings a))

-- it states another posting
pub returns-then-not-answers-clause-taken : goal.returns-then-not-answers-clause-taken
returns-then-not-answers-clause-taken g c postings a =
    let next = rw (c.in-Ok-Some.is, c.in-Ok-Some.field-0-is) at (c.next.ensures.next postings a) in
    (refl, rw next.0 (λ yes. cc (c.if-not-answers.true, c.answers.ensures.1 yes)))

pub returns-clause-taken : goal.returns-clause-taken
returns-clause-taken g c postings a =
    let next = rw (c.in-Ok-Some.is, c.in-Ok-Some.field-0-is) at (c.next.ensures.next postings a) in (
      (
        c.in-Ok-Some.request,
        next.0,
        c.answers.ensures.0 c.if-not-answers.false,
        rw c.reference.ensures.value refl,
      ),
      next.1,
    )
