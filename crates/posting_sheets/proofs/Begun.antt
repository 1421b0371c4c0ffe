-- Before the first reply.
use Rattle.std.proofs.Common.{ℕ, List, [], Option, Some, Result, Ok, Err, inl, inr, refl, arith}
use Rattle.std.specs.Io.KnownBytes.{Consumes, IsAtEnd}
use Rattle.std.proofs.KnownBytes.{Appends-nil, Consumes-nil}
use Rattle.std.proofs.lemmas.List.{Elements.All-nil}
use Rattle.message_records.specs.{Records.IsReply}
use Rattle.posting_core.specs.{believed.EndCalls.EndsWith, believed.EndCalls.IsEndOfInput, believed.EndCalls.ReadCall, EndCalls.WriteCall}
use Rattle.posting_core.proofs.Telling.{adds-none}
use Rattle.posting_sheets.specs.Beside.{BesideFaultIsOfItsEnd, DecodesBeside, IsDecodedBeside, RowsFaultIsOfItsEnd}
use Rattle.posting_sheets.specs.Beside.{rows_sheet}
use Rattle.posting_sheets.specs.Replies.{RepliesFaultIsOfItsEnd}
use Rattle.posting_sheets.specs.Sheets.{Sheet, sheet_of}
use Rattle.posting_sheets.specs.Walking.{DecodesIn, IsNotBegun}
use Rattle.posting_sheets.specs.declared.{fault.RepliesFault.RepliesFault, money.Money.Money}
use Rattle.posting_sheets.specs.declared.fault.RepliesFault.TheVariants as Fault
use Rattle.posting_sheets.proofs.Prefixes.{prefix-append}

-- nothing was read or written, and that is what the fault says
pub nothing-in : (money : Money) (postings : Sheet) (r w : Option (List ℕ)) (fault : RepliesFault)
    → IsDecodedBeside money postings [] [] (Err fault) [] → DecodesIn money (Some postings) r r w w (Err fault)
nothing-in money postings r w fault said = record {
  replies = [];
  are_replies = All-nil IsReply;
  answer = tt;
  rest = [];
  read = Consumes-nil r;
  written = [];
  wrote = Appends-nil w;
  decoded = said;
}

pub nothing-beside : (money : Money) (s s' : Option (List ℕ)) (text : List ℕ) (r w : Option (List ℕ))
    (fault : RepliesFault) → Consumes s s' text → IsDecodedBeside money (sheet_of text) [] [] (Err fault) []
    → DecodesBeside money s s' r r w w (Err fault)
nothing-beside money s s' text r w fault stated said = record {
  text = text;
  stated = stated;
  replies = [];
  are_replies = All-nil IsReply;
  answer = tt;
  rest = [];
  read = Consumes-nil r;
  written = [];
  wrote = Appends-nil w;
  decoded = said;
}

pub no_memory : (money : Money) (postings : Sheet) → IsDecodedBeside money postings [] [] (Err Fault.Memory) []
no_memory money postings = (omega arith, prefix-append [] (rows_sheet money postings.requests []))

-- the sheet has no header, or there was no memory for it
pub begun-fault : (money : Money) (postings : Sheet) (r w : Option (List ℕ)) (fault : RepliesFault)
    → IsNotBegun postings fault
    → DecodesIn money (Some postings) r r w w (Err fault)
begun-fault money postings r w Fault.Header h = nothing-in money postings r w Fault.Header (h, refl, refl, refl)
begun-fault money postings r w Fault.Memory h =
    nothing-in money postings r w Fault.Memory (no_memory money postings)
begun-fault money postings r w (Fault.Truncated n) h = absurd h
begun-fault money postings r w (Fault.Reply place bad) h = absurd h
begun-fault money postings r w Fault.Read h = absurd h
begun-fault money postings r w Fault.Write h = absurd h
begun-fault money postings r w Fault.Sheet h = absurd h
begun-fault money postings r w (Fault.Row row bad) h = absurd h
begun-fault money postings r w (Fault.OtherPosting row) h = absurd h
begun-fault money postings r w Fault.MoreReplies h = absurd h

pub begun-ends : (postings : Sheet) (fault : RepliesFault) (r' : Option (List ℕ)) (q q' : Option (List ReadCall))
    (u : Option (List WriteCall)) → IsNotBegun postings fault → RowsFaultIsOfItsEnd (Err fault) r' q q' u u
begun-ends postings Fault.Header r' q q' u h = adds-none u
begun-ends postings Fault.Memory r' q q' u h = inl (adds-none u)
begun-ends postings (Fault.Truncated n) r' q q' u h = absurd h
begun-ends postings (Fault.Reply place bad) r' q q' u h = absurd h
begun-ends postings Fault.Read r' q q' u h = absurd h
begun-ends postings Fault.Write r' q q' u h = absurd h
begun-ends postings Fault.Sheet r' q q' u h = absurd h
begun-ends postings (Fault.Row row bad) r' q q' u h = absurd h
begun-ends postings (Fault.OtherPosting row) r' q q' u h = absurd h
begun-ends postings Fault.MoreReplies r' q q' u h = absurd h

-- how a walk ends, with rows too
pub rows-ends : (result : Result ℕ RepliesFault) (r' : Option (List ℕ)) (q q' : Option (List ReadCall))
    (u u' : Option (List WriteCall)) → RepliesFaultIsOfItsEnd result r' q q' u u'
    → RowsFaultIsOfItsEnd result r' q q' u u'
rows-ends (Ok count) r' q q' u u' e = e
rows-ends (Err (Fault.Truncated n)) r' q q' u u' e = e
rows-ends (Err (Fault.Reply place bad)) r' q q' u u' e = e
rows-ends (Err Fault.Read) r' q q' u u' e = e
rows-ends (Err Fault.Write) r' q q' u u' e = e
rows-ends (Err Fault.Memory) r' q q' u u' e = inr e
rows-ends (Err Fault.Sheet) r' q q' u u' e = absurd e
rows-ends (Err Fault.Header) r' q q' u u' e = absurd e
rows-ends (Err (Fault.Row row bad)) r' q q' u u' e = e
rows-ends (Err (Fault.OtherPosting row)) r' q q' u u' e = e
rows-ends (Err Fault.MoreReplies) r' q q' u u' e = e

pub beside-ends : (result : Result ℕ RepliesFault) (s' : Option (List ℕ)) (p p' : Option (List ReadCall))
    (r' : Option (List ℕ)) (q q' : Option (List ReadCall)) (u u' : Option (List WriteCall)) → IsAtEnd s'
    → EndsWith IsEndOfInput p p' → RowsFaultIsOfItsEnd result r' q q' u u'
    → BesideFaultIsOfItsEnd result s' p p' r' q q' u u'
beside-ends (Ok count) s' p p' r' q q' u u' end ended e = (end, ended, e)
beside-ends (Err (Fault.Truncated n)) s' p p' r' q q' u u' end ended e = (end, ended, e)
beside-ends (Err (Fault.Reply place bad)) s' p p' r' q q' u u' end ended e = (end, ended, e)
beside-ends (Err Fault.Read) s' p p' r' q q' u u' end ended e = (end, ended, e)
beside-ends (Err Fault.Write) s' p p' r' q q' u u' end ended e = (end, ended, e)
beside-ends (Err Fault.Memory) s' p p' r' q q' u u' end ended e = e
beside-ends (Err Fault.Sheet) s' p p' r' q q' u u' end ended e = absurd e
beside-ends (Err Fault.Header) s' p p' r' q q' u u' end ended e = (end, ended, e)
beside-ends (Err (Fault.Row row bad)) s' p p' r' q q' u u' end ended e = (end, ended, e)
beside-ends (Err (Fault.OtherPosting row)) s' p p' r' q q' u u' end ended e = (end, ended, e)
beside-ends (Err Fault.MoreReplies) s' p p' r' q q' u u' end ended e = (end, ended, e)
