use Rattle.posting_rules.proofs.Empty.{empty_shown}
use Rattle.posting_core.proofs.plain_bank.PlainBank.new.Goals as goal

pub returns : goal.returns
returns c =
    rw (
      c.new.ensures.items,
      c.new-2.ensures.items,
      c.new-3.ensures.items,
      c.new-4.ensures.items,
      c.new-5.ensures.items,
      c.new-6.ensures.items,
      c.new-7.ensures.items,
      c.new-8.ensures.items,
    ) empty_shown
