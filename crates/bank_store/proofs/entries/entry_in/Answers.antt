-- The bytes of the row that was read, and that there are none.
use Rattle.std.proofs.Common.{◌∙◌}
use Rattle.bank_store.proofs.KeptEntries.{entry_is}
use Rattle.bank_store.proofs.entries.entry_in.Goals as goal

pub returns-in_default-clause-none : goal.returns-in_default-clause-none
returns-in_default-clause-none c answered = c.in_default.ensures.none answered.0

pub returns-in_default-reply_of-clause-none : goal.returns-in_default-reply_of-clause-none
returns-in_default-reply_of-clause-none c answered = c.in_default-reply_of.ensures.none answered.1

pub returns-clause-some : goal.returns-clause-some
returns-clause-some c =
    c.encode_entry.ensures
    ∙ entry_is c.args.row.now c.in-Some.request c.in-Some-reply_of.reply c.moment_of.result c.in-Some.ensures.some.0
    c.in-Some-reply_of.ensures.some.0 c.moment_of.ensures

pub returns-clause-answered : goal.returns-clause-answered
returns-clause-answered c = (c.in-Some.ensures.some.1, c.in-Some-reply_of.ensures.some.1)
