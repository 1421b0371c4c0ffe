-- The faults of commands: what each is made of, its text, and the status after it.
use Rattle.std.specs.Prelude.{ℕ, List, ◌++◌, codes, ⊤}
use Rattle.std.specs.Fmt.{decimal, signed_decimal}
use Rattle.posting_rules.specs.FaultTexts.{number_of_rule, open_text}
use Rattle.posting_rules.specs.declared.fault.Fault.{Fault}
use Rattle.posting_rules.specs.declared.fault.Fault.TheVariants as bank
use Rattle.posting_core.specs.declared.stream.StreamFault.{StreamFault}
use Rattle.posting_core.specs.declared.stream.StreamFault.TheVariants as stream
use Rattle.message_records.specs.Faults.{fault_text as reply_text}
use Rattle.branch_loader.specs.Faults.{other_text, plan_text}
use Rattle.branch_loader.specs.declared.follow_fault.FollowFault.{FollowFault}
use Rattle.branch_loader.specs.declared.follow_fault.FollowFault.TheVariants as follow
use Rattle.branch_loader.specs.declared.fault.PlanFault.{PlanFault}
use Rattle.branch_loader.specs.declared.fault.PlanFault.TheVariants as plan
use Rattle.posting_sheets.specs.SheetFaults.{sheet_text}
use Rattle.posting_sheets.specs.declared.fault.RepliesFault.{RepliesFault}
use Rattle.posting_sheets.specs.declared.fault.RepliesFault.TheVariants as replies
use Rattle.posting_sheets.specs.declared.fault.SheetFault.{SheetFault}
use Rattle.posting_sheets.specs.declared.fault.SheetFault.TheVariants as sheet
use Rattle.load_driver.specs.declared.drive_fault.DriveFault.{DriveFault}
use Rattle.load_driver.specs.declared.drive_fault.DriveFault.TheVariants as drive
use Rattle.counter_http.specs.declared.listen_fault.ListenFault.{ListenFault}
use Rattle.counter_http.specs.declared.listen_fault.ListenFault.TheVariants as listen
use Rattle.posting_rules.specs.declared.open_fault.OpenFault.{OpenFault}
use Rattle.posting_rules.specs.declared.open_fault.OpenFault.TheVariants as opening
use Rattle.shared_log.specs.declared.joining.JoinFault.{JoinFault}
use Rattle.shared_log.specs.declared.joining.JoinFault.TheVariants as joining
use Rattle.shared_log.specs.declared.log.LogFault.TheVariants as log
use Rattle.command_line.specs.QueryTexts.{query_text}
use Rattle.command_line.specs.declared.fault.CommandFault.{CommandFault}
use Rattle.command_line.specs.declared.fault.CommandFault.TheVariants as fault
use Rattle.command_line.specs.declared.status.Status.{Status}
use Rattle.command_line.specs.declared.status.Status.TheVariants.{Differs, System, Input}

-- the system's faults end the program with one status, what came in with another, and a bank that can't follow with a
-- third
abbrev pub status_of : CommandFault → Status
status_of fault.Store = System
status_of fault.Memory = System
status_of (fault.Damaged rule) = System
status_of fault.Read = System
status_of fault.Write = System
status_of (fault.Truncated count) = Input
status_of (fault.Plan plan) = Input
status_of (fault.Postings sheet) = Input
status_of fault.NoSheet = Input
status_of (fault.OtherPosting row) = Input
status_of fault.MoreReplies = Input
status_of (fault.Reply place bad) = Input
status_of (fault.NoEntry count) = Input
status_of (fault.Differs other) = Differs
status_of fault.AlreadyBank = Input
status_of fault.NoBank = Input
status_of fault.Foreign = Input
status_of (fault.OtherTable table) = Input
status_of (fault.Version version) = Input
status_of fault.NoBranches = Input
status_of (fault.NoAccount account) = Input
status_of (fault.NoRequest count) = Input
status_of (fault.Query query) = Input
status_of fault.Network = System
status_of fault.NoQuorum = System
status_of (fault.OtherEntry number) = Differs

-- the text of a fault; that of a plan's, of a sheet's and of a reply's fault, and of another reply, is its own
abbrev pub fault_text : CommandFault → List ℕ
fault_text fault.Store = codes "store fault"
fault_text fault.Memory = codes "no memory"
fault_text (fault.Damaged rule) = codes "damaged rule " ++ decimal (number_of_rule rule)
fault_text fault.Read = codes "read failed"
fault_text fault.Write = codes "write failed"
fault_text (fault.Truncated count) = codes "truncated " ++ decimal count ++ codes " bytes"
fault_text (fault.Plan plan) = plan_text plan
fault_text (fault.Postings sheet) = sheet_text sheet
fault_text fault.NoSheet = codes "postings unreadable"
fault_text (fault.OtherPosting row) = codes "row " ++ decimal row ++ codes " is another posting"
fault_text fault.MoreReplies = codes "more replies than rows"
fault_text (fault.Reply place bad) = codes "reply " ++ decimal place ++ codes " " ++ reply_text bad
fault_text (fault.NoEntry count) = codes "no entry after " ++ decimal count
fault_text (fault.Differs other) = other_text other
fault_text fault.AlreadyBank = codes "already a bank"
fault_text fault.NoBank = codes "no bank"
fault_text fault.Foreign = codes "foreign tables"
fault_text (fault.OtherTable table) = open_text (opening.OtherTable table)
fault_text (fault.Version version) = codes "version " ++ signed_decimal version
fault_text fault.NoBranches = codes "no branches"
fault_text (fault.NoAccount account) = codes "no account " ++ decimal account
fault_text (fault.NoRequest count) = codes "no request " ++ decimal count
fault_text (fault.Query query) = query_text query
fault_text fault.Network = codes "network failed"
fault_text fault.NoQuorum = codes "no quorum"
fault_text (fault.OtherEntry number) = codes "entry " ++ decimal number ++ codes " is another than the quorum's"

-- why a bank wasn't made or found
abbrev pub fault_of_opening : OpenFault → CommandFault
fault_of_opening opening.Store = fault.Store
fault_of_opening opening.NotBlank = fault.AlreadyBank
fault_of_opening opening.Blank = fault.NoBank
fault_of_opening opening.Foreign = fault.Foreign
fault_of_opening (opening.Version version) = fault.Version version
fault_of_opening (opening.OtherTable table) = fault.OtherTable table
fault_of_opening (opening.Damaged rule) = fault.Damaged rule

-- why a bank refused a call; one that is down is a failed store to the command
abbrev pub fault_of_bank : Fault → CommandFault
fault_of_bank bank.Memory = fault.Memory
fault_of_bank bank.Store = fault.Store
fault_of_bank bank.Down = fault.Store
fault_of_bank (bank.Damaged rule) = fault.Damaged rule

-- why a plan was refused; want of memory is no fault of the plan
abbrev pub fault_of_plan : PlanFault → CommandFault
fault_of_plan plan.Memory = fault.Memory
fault_of_plan other = fault.Plan other

-- why a stream of records ended before its input did, or within a record
abbrev pub fault_of_stream : StreamFault → CommandFault
fault_of_stream (stream.Truncated count) = fault.Truncated count
fault_of_stream stream.Read = fault.Read
fault_of_stream stream.Write = fault.Write
fault_of_stream (stream.Bank cause) = fault_of_bank cause

-- why a sheet of postings ended before its last row
abbrev pub fault_of_sheet : SheetFault → CommandFault
fault_of_sheet sheet.Read = fault.Read
fault_of_sheet sheet.Write = fault.Write
fault_of_sheet sheet.Memory = fault.Memory
fault_of_sheet other = fault.Postings other

-- why replies ended before their input did, within one or at one that the sheet beside them has no row of
abbrev pub fault_of_replies : RepliesFault → CommandFault
fault_of_replies (replies.Truncated count) = fault.Truncated count
fault_of_replies (replies.Reply place bad) = fault.Reply place bad
fault_of_replies replies.Read = fault.Read
fault_of_replies replies.Write = fault.Write
fault_of_replies replies.Memory = fault.Memory
fault_of_replies replies.Sheet = fault.NoSheet
fault_of_replies replies.Header = fault.Postings sheet.Header
fault_of_replies (replies.Row row bad) = fault.Postings (sheet.Row row bad)
fault_of_replies (replies.OtherPosting row) = fault.OtherPosting row
fault_of_replies replies.MoreReplies = fault.MoreReplies

-- why a log was followed no further
abbrev pub fault_of_following : FollowFault → CommandFault
fault_of_following (follow.Truncated count) = fault.Truncated count
fault_of_following follow.Read = fault.Read
fault_of_following (follow.NoEntry count) = fault.NoEntry count
fault_of_following (follow.Differs other) = fault.Differs other
fault_of_following follow.Memory = fault.Memory
fault_of_following (follow.Bank cause) = fault_of_bank cause

-- why the machines that share a log weren't joined
abbrev pub fault_of_joining : JoinFault → CommandFault
fault_of_joining (joining.Differs number) = fault.OtherEntry number
fault_of_joining (joining.Follow cause) = fault_of_following cause
fault_of_joining (joining.Bank cause) = fault_of_bank cause
fault_of_joining (joining.Log log.Memory) = fault.Memory
fault_of_joining (joining.Log other) = fault.NoQuorum

-- why a drive ended before its last record
abbrev pub fault_of_drive : DriveFault → CommandFault
fault_of_drive drive.NoBranches = fault.NoBranches
fault_of_drive (drive.Bank cause) = fault_of_bank cause

-- why no more clients were served
abbrev pub fault_of_serving : ListenFault → CommandFault
fault_of_serving listen.Network = fault.Network
fault_of_serving (listen.Bank cause) = fault_of_bank cause

-- there is no such file, or it has no bank of this version
abbrev pub IsOfFile : CommandFault → Type 0
IsOfFile fault.NoBank = ⊤
IsOfFile fault.Foreign = ⊤
IsOfFile (fault.OtherTable table) = ⊤
IsOfFile (fault.Version version) = ⊤
IsOfFile _ = ⊥
