-- The texts of the faults of records.
use Rattle.std.specs.Prelude.{ℕ, List, codes}
use Rattle.message_records.specs.declared.fault.Bad.{Bad}
use Rattle.message_records.specs.declared.fault.Bad.TheVariants as bad
use Rattle.message_records.specs.declared.fault.BadReply.{BadReply}
use Rattle.message_records.specs.declared.fault.BadReply.TheVariants.{Tag, Outcome, Account, Teller, Branch}
use Rattle.message_records.specs.declared.fault.BadReply.TheVariants.{Number, Delta, Balance, Name, Filler}
use Rattle.message_records.specs.Reading.{in_reply}

abbrev pub fault_text : BadReply → List ℕ
fault_text Tag = codes "faulty tag"
fault_text Outcome = codes "faulty outcome"
fault_text Account = codes "faulty account"
fault_text Teller = codes "faulty teller"
fault_text Branch = codes "faulty branch"
fault_text Number = codes "faulty number"
fault_text Delta = codes "faulty delta"
fault_text Balance = codes "faulty balance"
fault_text Name = codes "faulty name"
fault_text Filler = codes "faulty filler"

-- a request has one field that its reply has not
abbrev pub request_fault_text : Bad → List ℕ
request_fault_text bad.Reference = codes "faulty reference"
request_fault_text fault = fault_text (in_reply fault)
