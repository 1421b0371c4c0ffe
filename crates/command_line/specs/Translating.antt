-- What `encode` and `decode` read and write, and how they end.
use Rattle.std.specs.Prelude.{◌≡◌, ◌⊎◌, ℕ, List, Option, None, Some, Result, Ok, Err}
use Rattle.std.specs.Io.KnownBytes.{Keeps}
use Rattle.posting_core.specs.believed.EndCalls.{ReadCall}
use Rattle.posting_core.specs.EndCalls.{WriteCall}
use Rattle.posting_sheets.specs.Beside.{BesideFaultIsOfItsEnd, DecodesBeside}
use Rattle.posting_sheets.specs.Encoding.{Encodes, SheetFaultIsOfItsEnd}
use Rattle.posting_sheets.specs.Replies.{Decodes, RepliesFaultIsOfItsEnd}
use Rattle.posting_sheets.specs.declared.fault.RepliesFault.{RepliesFault}
use Rattle.posting_sheets.specs.declared.fault.SheetFault.{SheetFault}
use Rattle.posting_sheets.specs.declared.money.Money.{Money}
use Rattle.command_line.specs.CommandFaults.{fault_of_replies, fault_of_sheet}
use Rattle.command_line.specs.Looking.{IsOfSheetFile}
use Rattle.command_line.specs.declared.fault.CommandFault.{CommandFault}
use Rattle.command_line.specs.declared.status.Status.{Status}
use Rattle.command_line.specs.declared.status.Status.TheVariants.{Done}

-- how a sheet of postings ends the command
abbrev pub ended_by_sheet : Result ℕ SheetFault → Result Status CommandFault
ended_by_sheet (Ok count) = Ok Done
ended_by_sheet (Err fault) = Err (fault_of_sheet fault)

-- and replies
abbrev pub ended_by_replies : Result ℕ RepliesFault → Result Status CommandFault
ended_by_replies (Ok count) = Ok Done
ended_by_replies (Err fault) = Err (fault_of_replies fault)

-- Records of a sheet were written, and the command ended as the sheet did. The known bytes of the input before and
-- after are r and r', those of the output w and w'; what the calls of its ends are known to have returned is q and q'
-- of the input, and t and t' of the output.
pub record EncodesSheet (r r' : Option (List ℕ)) (q q' : Option (List ReadCall)) (w w' : Option (List ℕ))
    (t t' : Option (List WriteCall)) (end : Result Status CommandFault) : Type 0 where
  pub sheet : Result ℕ SheetFault
  pub encodes : Encodes r r' w w' sheet
  -- the input was read to its end, or why not
  pub ends : SheetFaultIsOfItsEnd sheet r' q q' t t'
  pub ended : end ≡ ended_by_sheet sheet

-- A sheet of replies was written, with money written so, and the command ended as they did.
pub record DecodesReplies (money : Money) (r r' : Option (List ℕ)) (q q' : Option (List ReadCall)) (w w' : Option (List ℕ))
    (t t' : Option (List WriteCall)) (end : Result Status CommandFault) : Type 0 where
  pub replies : Result ℕ RepliesFault
  pub decodes : Decodes money r r' w w' replies
  -- the input was read to its end, or why not
  pub ends : RepliesFaultIsOfItsEnd replies r' q q' t t'
  pub ended : end ≡ ended_by_replies replies

-- A sheet of replies was written with their rows of the sheet of postings that they answer, and the command ended as they
-- did. The known bytes of that sheet before and after are s and s', and what its reads are known to have returned is p
-- and p'.
pub record DecodesPostings (money : Money) (s s' : Option (List ℕ)) (p p' : Option (List ReadCall))
    (r r' : Option (List ℕ)) (q q' : Option (List ReadCall)) (w w' : Option (List ℕ)) (t t' : Option (List WriteCall))
    (end : Result Status CommandFault) : Type 0 where
  pub replies : Result ℕ RepliesFault
  pub decodes : DecodesBeside money s s' r r' w w' replies
  -- both inputs were read to their ends, or why not
  pub ends : BesideFaultIsOfItsEnd replies s' p p' r' q q' t t'
  pub ended : end ≡ ended_by_replies replies

-- the sheet of postings wasn't opened, and nothing was read or written
pub record OpensNoSheet (r r' w w' : Option (List ℕ)) (end : Result Status CommandFault) : Type 0 where
  pub fault : CommandFault
  pub ended : end ≡ Err fault
  pub of_sheet : IsOfSheetFile fault
  pub unread : r' ≡ r
  pub unwritten : Keeps w w'

-- the same of a sheet that was opened by its name; or none was. IsNamed says of a source that the name is its, and
-- known what is known of one
abbrev pub DecodesOver : {P : Type 0} → Money → (IsNamed : P → Type 0)
    → (known : P → Option (List ℕ) × Option (List ReadCall)) → (r r' : Option (List ℕ)) → (q q' : Option (List ReadCall))
    → (w w' : Option (List ℕ)) → (t t' : Option (List WriteCall)) → Result Status CommandFault → Type 0
DecodesOver {P = P} money IsNamed known r r' q q' w w' t t' end =
    OpensNoSheet r r' w w' end
    ⊎ ((sheet : P) × (left : P) × IsNamed sheet × DecodesPostings money (known sheet).0 (known left).0 (known sheet).1
    (known left).1 r r' q q' w w' t t' end)

-- beside the sheet of this name, or without one
abbrev pub DecodesIn : {P : Type 0} → Money → Option (List ℕ) → (IsNamed : List ℕ → P → Type 0)
    → (known : P → Option (List ℕ) × Option (List ReadCall)) → (r r' : Option (List ℕ)) → (q q' : Option (List ReadCall))
    → (w w' : Option (List ℕ)) → (t t' : Option (List WriteCall)) → Result Status CommandFault → Type 0
DecodesIn money None IsNamed known r r' q q' w w' t t' end = DecodesReplies money r r' q q' w w' t t' end
DecodesIn money (Some name) IsNamed known r r' q q' w w' t t' end =
    DecodesOver money (IsNamed name) known r r' q q' w w' t t' end
