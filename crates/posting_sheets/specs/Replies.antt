-- The sheet of replies, and what becomes of the bytes of replies.
use Rattle.std.specs.Prelude.{◌≡◌, ◌≤◌, ◌<◌, ◌+◌, ◌/◌, ◌%◌, ℕ, ℤ, pos, negsuc, nat_abs, List, [], ◌∷◌, ◌++◌, length, All}
use Rattle.std.specs.Prelude.{Option, None, Some}
use Rattle.std.specs.Prelude.{Result, Ok, Err, codes}
use Rattle.std.specs.Fmt.{decimal, signed_decimal}
use Rattle.std.specs.List.{flat_map}
use Rattle.std.specs.Io.KnownBytes.{Appends, Consumes, IsAtEnd}
use Rattle.message_records.specs.believed.Outcomes.{code_of, name_of}
use Rattle.message_records.specs.Reading.{reply_of}
use Rattle.message_records.specs.believed.Records.{ReplyFields, RequestFields}
use Rattle.message_records.specs.Records.{IsReply}
use Rattle.message_records.specs.believed.Spelling.{reply_spelling}
use Rattle.message_records.specs.declared.limits.TheConstants.{REPLY_BYTES}
use Rattle.posting_core.specs.believed.EndCalls.{EndsWith, IsEndOfInput, ReadCall}
use Rattle.posting_core.specs.EndCalls.{HasReadFailed, HasWriteFailed, IsFlush}
use Rattle.posting_core.specs.EndCalls.{WriteCall}
use Rattle.posting_sheets.specs.Encoding.{IsPrefixOf}
use Rattle.posting_sheets.specs.declared.money.Money.{Money}
use Rattle.posting_sheets.specs.declared.money.Money.TheVariants.{Cents, Decimals}
use Rattle.posting_sheets.specs.declared.fault.RepliesFault.{RepliesFault}
use Rattle.posting_sheets.specs.declared.fault.RepliesFault.TheVariants.{Truncated, Reply, Read, Write, Memory, Sheet, Header}

-- ---- the sheet

abbrev pub heading : Money → List ℕ
heading Cents = codes "outcome,name,account,teller,branch,number,delta,balance" ++ 10 ∷ []
heading Decimals = codes "outcome,name,account,teller,branch,number,amount,balance" ++ 10 ∷ []

abbrev pub sign_text : ℤ → List ℕ
sign_text (pos n) = []
sign_text (negsuc n) = codes "-"

-- an amount, as -700 in cents, and as -7.00 in decimals
abbrev pub money_text : Money → ℤ → List ℕ
money_text Cents z = signed_decimal z
money_text Decimals z = sign_text z ++ decimal (nat_abs z / 100) ++ codes "." ++ decimal (nat_abs z / 10 % 10)
    ++ decimal (nat_abs z % 10)

-- the five fields of the request, empty where the bytes that came in were none
abbrev pub request_text : Money → Option RequestFields → List ℕ
request_text money None = codes ",,,,"
request_text money (Some r) = decimal r.account ++ codes "," ++ decimal r.teller ++ codes "," ++ decimal r.branch
    ++ codes "," ++ decimal r.number ++ codes "," ++ money_text money r.delta

-- the balance, empty where nothing was posted
abbrev pub balance_text : Money → Option ℤ → List ℕ
balance_text money None = []
balance_text money (Some z) = money_text money z

-- the fields of a reply: its code and its name, the request, and the account's new balance
abbrev pub reply_text : Money → ReplyFields → List ℕ
reply_text money r = decimal (code_of r.outcome) ++ codes "," ++ name_of r.outcome ++ codes ","
    ++ request_text money r.request ++ codes "," ++ balance_text money r.balance

abbrev pub reply_line : Money → ReplyFields → List ℕ
reply_line money r = reply_text money r ++ 10 ∷ []

-- a header, and a line for each reply
abbrev pub replies_sheet : Money → List ReplyFields → List ℕ
replies_sheet money replies = heading money ++ flat_map (reply_line money) replies

-- ---- what becomes of replies

-- the bytes of replies, one after another
abbrev pub replies_spelling : List ReplyFields → List ℕ
replies_spelling replies = flat_map reply_spelling replies

-- These bytes were read after the replies, and this was written of their sheet. At Ok there were none; where they were
-- no reply, or too few for one, all of the sheet was written.
abbrev pub IsDecodedSo : (sheet : List ℕ) → List ReplyFields → List ℕ → Result ℕ RepliesFault → List ℕ → Type 0
IsDecodedSo sheet replies rest (Ok count) written =
    (rest ≡ []) × (count ≡ length replies) × (written ≡ sheet)
IsDecodedSo sheet replies rest (Err (Truncated n)) written =
    (1 ≤ n) × (n < REPLY_BYTES) × (length rest ≡ n) × (written ≡ sheet)
IsDecodedSo sheet replies rest (Err (Reply place bad)) written =
    (length rest ≡ REPLY_BYTES) × (reply_of rest ≡ Err bad) × (place ≡ length replies + 1) × (written ≡ sheet)
IsDecodedSo sheet replies rest (Err Read) written = (length rest < REPLY_BYTES) × (written ≡ sheet)
IsDecodedSo sheet replies rest (Err Write) written = (rest ≡ []) × IsPrefixOf written sheet
IsDecodedSo sheet replies rest (Err Memory) written = (rest ≡ []) × IsPrefixOf written sheet
IsDecodedSo sheet replies rest (Err _) written = ⊥

-- replies were read, and a sheet of them was written; the reader's known bytes before and after are r and r', the
-- writer's w and w'
pub record Decodes (money : Money) (r r' w w' : Option (List ℕ)) (result : Result ℕ RepliesFault) : Type 0 where
  pub replies : List ReplyFields
  pub are_replies : All IsReply replies
  pub rest : List ℕ
  pub read : Consumes r r' (replies_spelling replies ++ rest)
  pub written : List ℕ
  pub wrote : Appends w w' written
  pub decoded : IsDecodedSo (replies_sheet money replies) replies rest result written

-- A fault of an end comes where that end failed, and the other ends of the input where it was read to its end. What
-- was written was flushed unless the writer failed. The source's calls are known as q and q', the sink's as u and u'.
abbrev pub RepliesFaultIsOfItsEnd : Result ℕ RepliesFault → Option (List ℕ) → Option (List ReadCall)
    → Option (List ReadCall) → Option (List WriteCall) → Option (List WriteCall) → Type 0
RepliesFaultIsOfItsEnd (Ok count) r' q q' u u' =
    IsAtEnd r' × EndsWith IsEndOfInput q q' × EndsWith IsFlush u u'
RepliesFaultIsOfItsEnd (Err (Truncated n)) r' q q' u u' =
    IsAtEnd r' × EndsWith IsEndOfInput q q' × EndsWith IsFlush u u'
RepliesFaultIsOfItsEnd (Err Read) r' q q' u u' = HasReadFailed q q' × EndsWith IsFlush u u'
RepliesFaultIsOfItsEnd (Err Write) r' q q' u u' = HasWriteFailed u u'
RepliesFaultIsOfItsEnd (Err Sheet) r' q q' u u' = ⊥
RepliesFaultIsOfItsEnd (Err Header) r' q q' u u' = ⊥
RepliesFaultIsOfItsEnd (Err _) r' q q' u u' = EndsWith IsFlush u u'
