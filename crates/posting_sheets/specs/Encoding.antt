-- What becomes of a sheet: the records that are written, and why no more.
use Rattle.std.specs.Prelude.{◌≡◌, ℕ, List, [], length, take, Option, None, Some, Result, Ok, Err}
use Rattle.std.specs.List.{flat_map}
use Rattle.std.specs.Io.KnownBytes.{Appends, Consumes, IsAtEnd}
use Rattle.message_records.specs.believed.Records.{RequestFields}
use Rattle.message_records.specs.believed.Spelling.{request_spelling}
use Rattle.posting_core.specs.believed.EndCalls.{EndsWith, GrowsBy, IsEndOfInput}
use Rattle.posting_core.specs.EndCalls.{HasReadFailed, HasWriteFailed, IsFlush}
use Rattle.posting_core.specs.believed.EndCalls.{ReadCall}
use Rattle.posting_core.specs.EndCalls.{WriteCall}
use Rattle.posting_sheets.specs.declared.fault.SheetFault.{SheetFault}
use Rattle.posting_sheets.specs.declared.fault.SheetFault.TheVariants.{Header, Row, Read, Write, Memory}
use Rattle.posting_sheets.specs.Sheets.{Sheet, sheet_of}

-- the records of requests, one after another
abbrev pub records_text : List RequestFields → List ℕ
records_text requests = flat_map request_spelling requests

-- a prefix of a text
abbrev pub IsPrefixOf : List ℕ → List ℕ → Type 0
IsPrefixOf prefix text = prefix ≡ take (length prefix) text

-- these bytes are what a sheet is translated to: at Ok it has no fault, and they are all its records, at a fault of
-- its own those before it, and where memory was refused a prefix of them
abbrev pub IsPutSo : Sheet → Result ℕ SheetFault → List ℕ → Type 0
IsPutSo sheet (Ok count) put =
    (sheet.fault ≡ None) × (count ≡ length sheet.requests) × (put ≡ records_text sheet.requests)
IsPutSo sheet (Err Header) put = (sheet.fault ≡ Some Header) × (put ≡ records_text sheet.requests)
IsPutSo sheet (Err (Row row bad)) put = (sheet.fault ≡ Some (Row row bad)) × (put ≡ records_text sheet.requests)
IsPutSo sheet (Err Memory) put = IsPrefixOf put (records_text sheet.requests)
IsPutSo sheet (Err _) put = ⊥

-- and these are what was written of it: where the sink failed a prefix of all its records, and at any other fault
-- nothing
abbrev pub IsEncodedSo : Sheet → Result ℕ SheetFault → List ℕ → Type 0
IsEncodedSo sheet (Ok count) written =
    (sheet.fault ≡ None) × (count ≡ length sheet.requests) × (written ≡ records_text sheet.requests)
IsEncodedSo sheet (Err Write) written = (sheet.fault ≡ None) × IsPrefixOf written (records_text sheet.requests)
IsEncodedSo sheet (Err Header) written = (sheet.fault ≡ Some Header) × (written ≡ [])
IsEncodedSo sheet (Err (Row row bad)) written = (sheet.fault ≡ Some (Row row bad)) × (written ≡ [])
IsEncodedSo sheet (Err Read) written = written ≡ []
IsEncodedSo sheet (Err Memory) written = written ≡ []

-- a text was read, and records of what it states were written; the reader's known bytes before and after are r and
-- r', the writer's w and w'
pub record Encodes (r r' w w' : Option (List ℕ)) (result : Result ℕ SheetFault) : Type 0 where
  pub text : List ℕ
  pub read : Consumes r r' text
  pub written : List ℕ
  pub wrote : Appends w w' written
  pub encoded : IsEncodedSo (sheet_of text) result written

-- A fault of an end comes where that end failed, and any other answer but Memory where the input was read to its
-- end. What was written was flushed unless the writer failed, which is asked nothing at any other fault. The source's
-- calls are known as q and q', the sink's as u and u'.
abbrev pub SheetFaultIsOfItsEnd : Result ℕ SheetFault → Option (List ℕ) → Option (List ReadCall)
    → Option (List ReadCall) → Option (List WriteCall) → Option (List WriteCall) → Type 0
SheetFaultIsOfItsEnd (Err Read) r' q q' u u' = HasReadFailed q q' × GrowsBy u u' []
SheetFaultIsOfItsEnd (Err Write) r' q q' u u' = HasWriteFailed u u'
SheetFaultIsOfItsEnd (Err Memory) r' q q' u u' = GrowsBy u u' []
SheetFaultIsOfItsEnd (Err _) r' q q' u u' = IsAtEnd r' × EndsWith IsEndOfInput q q' × GrowsBy u u' []
SheetFaultIsOfItsEnd (Ok count) r' q q' u u' = IsAtEnd r' × EndsWith IsEndOfInput q q' × EndsWith IsFlush u u'
