-- The texts of the faults of a plan, and of a log that is followed.
use Rattle.std.specs.Prelude.{ℕ, ℤ, List, [], ◌++◌, codes, Option, Some, None, Result, Ok, Err}
use Rattle.std.specs.Fmt.{decimal, signed_decimal}
use Rattle.message_records.specs.believed.Outcomes.{name_of}
use Rattle.message_records.specs.Reading.{reply_of}
use Rattle.message_records.specs.believed.Records.{ReplyFields}
use Rattle.message_records.specs.declared.fault.BadReply.{BadReply}
use Rattle.branch_loader.specs.declared.follow_fault.OtherReply.{OtherReply}
use Rattle.branch_loader.specs.declared.fault.PlanFault.{PlanFault}
use Rattle.branch_loader.specs.declared.fault.PlanFault.TheVariants.{Header, Columns, Branch, Accounts, Floor}
use Rattle.branch_loader.specs.declared.fault.PlanFault.TheVariants.{Twice, Csv, Memory}

abbrev pub plan_text : PlanFault → List ℕ
plan_text Header = codes "plan header"
plan_text (Columns row) = codes "plan row " ++ decimal row ++ codes " columns"
plan_text (Branch row) = codes "plan row " ++ decimal row ++ codes " branch"
plan_text (Accounts row) = codes "plan row " ++ decimal row ++ codes " accounts"
plan_text (Floor row) = codes "plan row " ++ decimal row ++ codes " floor"
plan_text (Twice row) = codes "plan row " ++ decimal row ++ codes " twice"
plan_text Csv = codes "plan unreadable"
plan_text Memory = codes "no memory"

-- a balance after a blank, nothing where there is none
abbrev pub balance_text : Option ℤ → List ℕ
balance_text (Some balance) = codes " " ++ signed_decimal balance
balance_text None = []

-- what a reply came to
abbrev pub reply_text : Result ReplyFields BadReply → List ℕ
reply_text (Ok reply) = name_of reply.outcome ++ balance_text reply.balance
reply_text (Err bad) = codes "no reply"

-- the reply that an entry's request got, and the one that it has
abbrev pub other_text : OtherReply → List ℕ
other_text other = codes "entry " ++ decimal other.entry ++ codes " stands " ++ reply_text (reply_of other.stands)
    ++ codes " due " ++ reply_text (reply_of other.due)
