-- The decoding of replies, reply by reply, beside a sheet of postings or without one.
use Rattle.std.proofs.Common.{◌≡◌, ◌≤◌, ◌<◌, ◌+◌, ◌∷◌, ◌++◌, ◌∙◌, ℕ, List, [], length, take, false, Option, Result}
use Rattle.std.proofs.Common.{Some, None, Ok, Err, All, inl, inr, refl, sym, ap, subst, arith, append-nil, append_assoc}
use Rattle.std.specs.Io.KnownBytes.{Appends, Consumes, Keeps}
use Rattle.std.proofs.KnownBytes.{Appends-kept, Appends-trans, Consumes-kept, Consumes-nil, Consumes-trans}
use Rattle.std.specs.Prelude.{◌⊎◌, OnOk, is_some}
use Rattle.std.specs.{Result.is_err}
use Rattle.std.proofs.Math.Seq.{take-length}
use Rattle.std.proofs.lemmas.List.{length_push, Concat.flat_map-append, Elements.All-nil, Elements.All-push}
use Rattle.message_records.specs.{believed.Records.ReplyFields, Records.IsReply, believed.Spelling.reply_spelling}
use Rattle.message_records.specs.{declared.limits.TheConstants.REPLY_BYTES}
use Rattle.posting_core.specs.believed.EndCalls.{EndsWith, ReadCall}
use Rattle.posting_core.specs.EndCalls.{IsFlush, WriteCall, IsWriteFailure}
use Rattle.posting_core.proofs.Telling.{last_some, more_failed}
use Rattle.posting_sheets.specs.{Encoding.IsPrefixOf, declared.fault.RepliesFault.RepliesFault}
use Rattle.branch_loader.specs.Records.{Records}
use Rattle.posting_sheets.specs.Beside.{IsDecodedBeside, IsRowFault, IsUnplaced, rows_sheet}
use Rattle.posting_sheets.specs.Replies.{IsDecodedSo, RepliesFaultIsOfItsEnd, replies_sheet}
use Rattle.posting_sheets.specs.Replies.{replies_spelling, reply_line}
use Rattle.posting_sheets.specs.Sheets.{Sheet}
use Rattle.posting_sheets.specs.Walking.{AnswerIn, AreAfter, DecodesIn, IsDecodedIn, IsLineSo, IsLineTold}
use Rattle.posting_sheets.specs.Walking.{IsNoRow, IsNoRowIn, heading_with, line_with, sheet_in}
use Rattle.posting_sheets.specs.declared.money.Money.{Money}
use Rattle.posting_sheets.specs.declared.rows.Rows.{Rows}
use Rattle.posting_sheets.specs.declared.fault.RepliesFault.TheVariants as Fault
use Rattle.posting_sheets.proofs.Placed.{answer-first, answer-one, place-one, sheet-first}
use Rattle.posting_sheets.proofs.Prefixes.{prefix-append, prefix-after, prefix-all, prefix-take}

-- replies were read, and bytes after them, and the sheet of the replies was written
pub record IsDecodedUpTo (money : Money) (beside : Option Sheet) (r r' w w' : Option (List ℕ)) (count : ℕ)
    (rest : List ℕ) : Type 0 where
  pub replies : List ReplyFields
  pub are_replies : All IsReply replies
  pub answer : AnswerIn beside replies
  pub read : Consumes r r' (replies_spelling replies ++ rest)
  pub wrote : Appends w w' (sheet_in money beside replies)
  pub long : length replies ≡ count

-- what holds of a write that is no error
pub at_err : {A E P : Type 0} (r : Result A E) → is_err r ≡ false → OnOk r P → P
at_err (Ok x) is p = p
at_err (Err e) is p = cc is

pub written-all : {A E : Type 0} (r : Result A E) (w w' : Option (List ℕ)) (text : List ℕ) → is_err r ≡ false
    → ((n : ℕ) × (n ≤ length text) × Appends w w' (take n text) × OnOk r (n ≡ length text)) → Appends w w' text
written-all r w w' text is p =
    subst (λ (t : List ℕ). Appends w w' t)
    (ap (λ (k : ℕ). take k text) (at_err r is p.3) ∙ take-length text) p.2

-- at first none was
pub decoded-first : {S : Type 0} (left : S → Records → Type 0) (rows : Option (Rows S)) (beside : Option Sheet)
    (money : Money) (r w w' : Option (List ℕ)) → AreAfter left rows beside 0
    → Appends w w' (heading_with (is_some rows) money)
    → IsDecodedUpTo money beside r r w w' 0 []
decoded-first left rows beside money r w w' at a = record {
  replies = [];
  are_replies = All-nil IsReply;
  answer = answer-first beside;
  read = Consumes-nil r;
  wrote = subst (λ (t : List ℕ). Appends w w' t) (sym (sheet-first left rows beside money at)) a;
  long = refl;
}

-- a read gave some more bytes
pub decoded-more : {money : Money} {beside : Option Sheet} {r r' r'' w w' : Option (List ℕ)} {count : ℕ} {rest : List ℕ} (new : List ℕ)
    → IsDecodedUpTo money beside r r' w w' count rest
    → ((bytes : List ℕ) × (new ≡ rest ++ bytes) × Consumes r' r'' bytes)
    → IsDecodedUpTo money beside r r'' w w' count new
decoded-more {r = r} {r' = r'} {r'' = r''} {rest = rest} new d b = record {
  replies = d.replies;
  are_replies = d.are_replies;
  answer = d.answer;
  read = subst (λ (t : List ℕ). Consumes r r'' t) (append_assoc (replies_spelling d.replies) rest b.0
      ∙ ap (λ (t : List ℕ). replies_spelling d.replies ++ t) (sym b.1))
      (Consumes-trans r r' r'' (replies_spelling d.replies ++ rest) b.0 d.read b.2);
  wrote = d.wrote;
  long = d.long;
}

-- or none
pub decoded-kept : {money : Money} {beside : Option Sheet} {r r' r'' w w' : Option (List ℕ)} {count : ℕ} {rest : List ℕ} (new : List ℕ)
    → IsDecodedUpTo money beside r r' w w' count rest → Keeps r' r'' × (new ≡ rest) → IsDecodedUpTo money beside r r'' w w' count new
decoded-kept {r = r} {r' = r'} {r'' = r''} new d k = record {
  replies = d.replies;
  are_replies = d.are_replies;
  answer = d.answer;
  read = rw k.1 (Consumes-kept r r' r'' _ d.read k.0);
  wrote = d.wrote;
  long = d.long;
}

-- either, in a buffer
pub decoded-filled : {money : Money} {beside : Option Sheet} {r r' r'' w w' : Option (List ℕ)} {count : ℕ} (old new : List ℕ) (filled filled' : ℕ)
    → IsDecodedUpTo money beside r r' w w' count (take filled old)
    → ((n : ℕ) × ((bytes : List ℕ) × (take (filled + n) new ≡ take filled old ++ bytes) × Consumes r' r'' bytes)
    × (filled' ≡ filled + n))
    ⊎ ((Keeps r' r'' × (take filled new ≡ take filled old)) × (filled' ≡ filled))
    → IsDecodedUpTo money beside r r'' w w' count (take filled' new)
decoded-filled old new filled filled' d (inl b) =
    decoded-more (take filled' new) d (b.1.0, ap (λ (k : ℕ). take k new) b.2 ∙ b.1.1, b.1.2)
decoded-filled old new filled filled' d (inr k) =
    decoded-kept (take filled' new) d (k.0.0, ap (λ (k : ℕ). take k new) k.1 ∙ k.0.1)

-- the buffer is full
pub decoded-full : {money : Money} {beside : Option Sheet} {r r' w w' : Option (List ℕ)} {count : ℕ} (filled : ℕ) (buffer : List ℕ)
    → IsDecodedUpTo money beside r r' w w' count (take filled buffer) → filled ≡ REPLY_BYTES → length buffer ≡ REPLY_BYTES
    → IsDecodedUpTo money beside r r' w w' count buffer
decoded-full {money = money} {beside = beside} {r = r} {r' = r'} {w = w} {w' = w'} {count = count} filled buffer d full len =
    subst (λ (t : List ℕ). IsDecodedUpTo money beside r r' w w' count t)
    (ap (λ (k : ℕ). take k buffer) (full ∙ sym len) ∙ take-length buffer) d

-- the bytes of one reply more
read-one : (r r' : Option (List ℕ)) (replies : List ReplyFields) (x : ReplyFields) (bytes : List ℕ)
    → bytes ≡ reply_spelling x → Consumes r r' (replies_spelling replies ++ bytes)
    → Consumes r r' (replies_spelling (replies ++ x ∷ []) ++ [])
read-one r r' replies x bytes e c =
    subst (λ (t : List ℕ). Consumes r r' t)
    (ap (λ (t : List ℕ). replies_spelling replies ++ t) (e ∙ sym (append-nil (reply_spelling x)))
    ∙ sym (flat_map-append reply_spelling replies (x ∷ []))
    ∙ sym (append-nil (replies_spelling (replies ++ x ∷ []))))
    c

-- the line of a reply was written
pub decoded-line : {money : Money} {beside : Option Sheet} {r r' w w' w'' : Option (List ℕ)} {count : ℕ}
    (bytes : List ℕ) (count' : ℕ)
    → IsDecodedUpTo money beside r r' w w' count bytes → IsLineSo money beside bytes count w' w'' (Ok tt)
    → count' ≡ count + 1
    → IsDecodedUpTo money beside r r' w w'' count' []
decoded-line {money = money} {beside = beside} {r = r} {r' = r'} {w = w} {w' = w'} {w'' = w''} bytes count' d l more =
    let at = rw (sym d.long) at l.4 in record {
      replies = d.replies ++ l.0 ∷ [];
      are_replies = All-push IsReply d.replies l.0 d.are_replies l.1;
      answer = answer-one beside d.replies l.0 l.3 d.answer at;
      read = read-one r r' d.replies l.0 bytes l.2 d.read;
      wrote = subst (λ (t : List ℕ). Appends w w'' t) (sym (place-one money beside d.replies l.0 l.3 at))
          (Appends-trans w w' w'' (sheet_in money beside d.replies) (line_with money l.3 l.0) d.wrote l.5);
      long = length_push d.replies l.0 ∙ rw (d.long, more) refl;
    }

-- ---- the ends

-- no row has such a fault
no_row : (beside : Option Sheet) (before : ℕ) (r : ReplyFields) (fault : RepliesFault)
    → ((postings : Sheet) (before : ℕ) (r : ReplyFields) → IsNoRow postings before r fault → ⊥)
    → IsNoRowIn beside before r fault → ⊥
no_row None before r fault none l = l
no_row (Some postings) before r fault none l = none postings before r l

-- what ends a sheet without rows ends one beside them, but for want of memory
as_in : (money : Money) (beside : Option Sheet) (replies : List ReplyFields) (rest : List ℕ)
    (result : Result ℕ RepliesFault) (written : List ℕ) → (result ≡ Err Fault.Memory → ⊥)
    → IsDecodedSo (sheet_in money beside replies) replies rest result written
    → IsDecodedIn money beside replies rest result written
as_in money None replies rest result written other so = so
as_in money (Some postings) replies rest (Ok count) written other so = so
as_in money (Some postings) replies rest (Err (Fault.Truncated n)) written other so = so
as_in money (Some postings) replies rest (Err (Fault.Reply place bad)) written other so = so
as_in money (Some postings) replies rest (Err Fault.Read) written other so = so
as_in money (Some postings) replies rest (Err Fault.Write) written other so = so
as_in money (Some postings) replies rest (Err Fault.Memory) written other so = absurd (other refl)
as_in money (Some postings) replies rest (Err Fault.Sheet) written other so = absurd so
as_in money (Some postings) replies rest (Err Fault.Header) written other so = absurd so
as_in money (Some postings) replies rest (Err (Fault.Row row bad)) written other so = absurd so
as_in money (Some postings) replies rest (Err (Fault.OtherPosting row)) written other so = absurd so
as_in money (Some postings) replies rest (Err Fault.MoreReplies) written other so = absurd so

pub decoded-done : {money : Money} {beside : Option Sheet} {r r' w w' : Option (List ℕ)} {count : ℕ} {rest : List ℕ}
    → IsDecodedUpTo money beside r r' w w' count rest → rest ≡ [] → DecodesIn money beside r r' w w' (Ok count)
decoded-done {money = money} {beside = beside} {rest = rest} d none = record {
  replies = d.replies;
  are_replies = d.are_replies;
  answer = d.answer;
  rest = rest;
  read = d.read;
  written = sheet_in money beside d.replies;
  wrote = d.wrote;
  decoded = as_in money beside d.replies rest _ _ (λ e. cc e) (none, sym d.long, refl);
}

pub decoded-truncated : {money : Money} {beside : Option Sheet} {r r' w w' : Option (List ℕ)} {count : ℕ}
    {rest : List ℕ} (n : ℕ)
    → IsDecodedUpTo money beside r r' w w' count rest → 1 ≤ n → n < REPLY_BYTES → length rest ≡ n
    → DecodesIn money beside r r' w w' (Err (Fault.Truncated n))
decoded-truncated {money = money} {beside = beside} {rest = rest} n d some few len = record {
  replies = d.replies;
  are_replies = d.are_replies;
  answer = d.answer;
  rest = rest;
  read = d.read;
  written = sheet_in money beside d.replies;
  wrote = d.wrote;
  decoded = as_in money beside d.replies rest _ _ (λ e. cc e) (some, few, len, refl);
}

pub decoded-unread : {money : Money} {beside : Option Sheet} {r r' w w' : Option (List ℕ)} {count : ℕ} {rest : List ℕ}
    → IsDecodedUpTo money beside r r' w w' count rest → length rest < REPLY_BYTES
    → DecodesIn money beside r r' w w' (Err Fault.Read)
decoded-unread {money = money} {beside = beside} {rest = rest} d few = record {
  replies = d.replies;
  are_replies = d.are_replies;
  answer = d.answer;
  rest = rest;
  read = d.read;
  written = sheet_in money beside d.replies;
  wrote = d.wrote;
  decoded = as_in money beside d.replies rest _ _ (λ e. cc e) (few, refl);
}

-- the header can't be written
pub decoded-unheaded : {S : Type 0} (left : S → Records → Type 0) (rows : Option (Rows S)) (beside : Option Sheet)
    (money : Money) (r w w' : Option (List ℕ)) (n : ℕ) → AreAfter left rows beside 0
    → n ≤ length (heading_with (is_some rows) money) → Appends w w' (take n (heading_with (is_some rows) money))
    → DecodesIn money beside r r w w' (Err Fault.Write)
decoded-unheaded left rows beside money r w w' n at within a =
    let head = heading_with (is_some rows) money in record {
      replies = [];
      are_replies = All-nil IsReply;
      answer = answer-first beside;
      rest = [];
      read = Consumes-nil r;
      written = take n head;
      wrote = a;
      decoded = as_in money beside [] [] _ _ (λ e. cc e) (
        refl,
        subst (λ (t : List ℕ). IsPrefixOf (take n head) t) (sym (sheet-first left rows beside money at))
            (prefix-take n head head within (prefix-all head)),
      );
    }

-- a reply without a row
unplaced : {money : Money} {postings : Sheet} {r r' w w' : Option (List ℕ)} {count : ℕ} (w'' : Option (List ℕ))
    (bytes : List ℕ) (fault : RepliesFault) (reply : ReplyFields)
    → IsDecodedUpTo money (Some postings) r r' w w' count bytes → IsReply reply → bytes ≡ reply_spelling reply
    → IsRowFault postings count reply fault → Keeps w' w''
    → ((replies : List ReplyFields) (written : List ℕ) → IsUnplaced money postings replies bytes fault written
    → IsDecodedBeside money postings replies bytes (Err fault) written)
    → DecodesIn money (Some postings) r r' w w'' (Err fault)
unplaced {money = money} {postings = postings} {w = w} {w' = w'} w'' bytes fault reply d is spelled at kept said =
    let sheet = rows_sheet money postings.requests d.replies in record {
      replies = d.replies;
      are_replies = d.are_replies;
      answer = d.answer;
      rest = bytes;
      read = d.read;
      written = sheet;
      wrote = Appends-kept w w' w'' sheet d.wrote kept;
      decoded = said d.replies sheet (record {
        reply = reply;
        is_reply = is;
        spelled = spelled;
        unplaced = rw d.long at;
        wrote = refl;
      });
    }

-- bytes that are no reply or that no row has, or a line that isn't written, or not wholly
pub decoded-broken : (w'' : Option (List ℕ)) {money : Money} (beside : Option Sheet) {r r' w w' : Option (List ℕ)}
    {count : ℕ} (bytes : List ℕ) (fault : RepliesFault) → length bytes ≡ REPLY_BYTES
    → IsDecodedUpTo money beside r r' w w' count bytes → IsLineSo money beside bytes count w' w'' (Err fault)
    → DecodesIn money beside r r' w w'' (Err fault)
decoded-broken w'' {money = money} beside {w = w} {w' = w'} bytes (Fault.Reply place bad) len d l = record {
  replies = d.replies;
  are_replies = d.are_replies;
  answer = d.answer;
  rest = bytes;
  read = d.read;
  written = sheet_in money beside d.replies;
  wrote = Appends-kept w w' w'' (sheet_in money beside d.replies) d.wrote l.2;
  decoded = as_in money beside d.replies bytes _ _ (λ e. cc e) (len, l.0, rw d.long l.1, refl);
}
decoded-broken w'' {money = money} None {r = r} {r' = r'} {w = w} {w' = w'} bytes Fault.Memory len d l = record {
  replies = d.replies ++ l.0 ∷ [];
  are_replies = All-push IsReply d.replies l.0 d.are_replies l.1;
  answer = tt;
  rest = [];
  read = read-one r r' d.replies l.0 bytes l.2 d.read;
  written = replies_sheet money d.replies;
  wrote = Appends-kept w w' w'' (replies_sheet money d.replies) d.wrote l.3;
  decoded = (
    refl,
    subst (λ (t : List ℕ). IsPrefixOf (replies_sheet money d.replies) t)
        (sym (place-one money None d.replies l.0 None refl))
        (prefix-append (replies_sheet money d.replies) (reply_line money l.0)),
  );
}
decoded-broken w'' {money = money} (Some postings) {w = w} {w' = w'} bytes Fault.Memory len d l =
    let sheet = rows_sheet money postings.requests d.replies in record {
      replies = d.replies;
      are_replies = d.are_replies;
      answer = d.answer;
      rest = bytes;
      read = d.read;
      written = sheet;
      wrote = Appends-kept w w' w'' sheet d.wrote l.3;
      decoded = (omega (arith, len), prefix-all sheet);
    }
decoded-broken w'' {money = money} beside {r = r} {r' = r'} {w = w} {w' = w'} bytes Fault.Write len d l =
    let line = line_with money l.3 l.0 in
    let sheet = sheet_in money beside d.replies in
    let at = rw (sym d.long) at l.4 in record {
      replies = d.replies ++ l.0 ∷ [];
      are_replies = All-push IsReply d.replies l.0 d.are_replies l.1;
      answer = answer-one beside d.replies l.0 l.3 d.answer at;
      rest = [];
      read = read-one r r' d.replies l.0 bytes l.2 d.read;
      written = sheet ++ take l.5 line;
      wrote = Appends-trans w w' w'' sheet (take l.5 line) d.wrote l.7;
      decoded = as_in money beside (d.replies ++ l.0 ∷ []) [] _ _ (λ e. cc e) (
        refl,
        subst (λ (t : List ℕ). IsPrefixOf (sheet ++ take l.5 line) t)
            (sym (place-one money beside d.replies l.0 l.3 at)) (prefix-after sheet line l.5),
      );
    }
decoded-broken w'' (Some postings) bytes (Fault.Row row bad) len d l =
    unplaced w'' bytes (Fault.Row row bad) l.0 d l.1 l.2 l.3 l.4 (λ replies written u. u)
decoded-broken w'' (Some postings) bytes (Fault.OtherPosting row) len d l =
    unplaced w'' bytes (Fault.OtherPosting row) l.0 d l.1 l.2 l.3 l.4 (λ replies written u. u)
decoded-broken w'' (Some postings) bytes Fault.MoreReplies len d l =
    unplaced w'' bytes Fault.MoreReplies l.0 d l.1 l.2 l.3 l.4 (λ replies written u. u)
decoded-broken w'' None bytes (Fault.Row row bad) len d l = absurd l.3
decoded-broken w'' None bytes (Fault.OtherPosting row) len d l = absurd l.3
decoded-broken w'' None bytes Fault.MoreReplies len d l = absurd l.3
decoded-broken w'' beside bytes Fault.Sheet len d l = absurd (no_row beside _ l.0 Fault.Sheet (λ postings before r e. e) l.3)
decoded-broken w'' beside bytes Fault.Header len d l = absurd (no_row beside _ l.0 Fault.Header (λ postings before r e. e) l.3)
decoded-broken w'' beside bytes Fault.Read len d l = absurd (no_row beside _ l.0 Fault.Read (λ postings before r e. e) l.3)
decoded-broken w'' beside bytes (Fault.Truncated n) len d l =
    absurd (no_row beside _ l.0 (Fault.Truncated n) (λ postings before r e. e) l.3)

-- a reply without a row asks nothing of the sink
pub untold : (beside : Option Sheet) (before : ℕ) (r : ReplyFields) (fault : RepliesFault)
    (u : Option (List WriteCall)) → IsNoRowIn beside before r fault → IsLineTold u u (Err fault)
untold beside before r Fault.Write u l = absurd (no_row beside before r Fault.Write (λ postings before r e. e) l)
untold beside before r Fault.Memory u l = refl
untold beside before r (Fault.Reply place bad) u l = refl
untold beside before r (Fault.Row row bad) u l = refl
untold beside before r (Fault.OtherPosting row) u l = refl
untold beside before r Fault.MoreReplies u l = refl
untold beside before r Fault.Sheet u l = refl
untold beside before r Fault.Header u l = refl
untold beside before r Fault.Read u l = refl
untold beside before r (Fault.Truncated n) u l = refl

-- what the sink's calls returned then, after a flush
pub broken-ends : (money : Money) (beside : Option Sheet) (w w' : Option (List ℕ)) (u u' u'' : Option (List WriteCall))
    (count : ℕ) (bytes : List ℕ) (fault : RepliesFault) (r' : Option (List ℕ)) (q q' : Option (List ReadCall))
    → EndsWith IsFlush u u' → IsLineSo money beside bytes count w w' (Err fault) → IsLineTold u' u'' (Err fault)
    → RepliesFaultIsOfItsEnd (Err fault) r' q q' u u''
broken-ends money beside w w' u u' u'' count bytes Fault.Write r' q q' f l t =
    more_failed IsWriteFailure (last_some IsFlush f) t
broken-ends money beside w w' u u' u'' count bytes (Fault.Reply place bad) r' q q' f l t = rw t f
broken-ends money beside w w' u u' u'' count bytes Fault.Memory r' q q' f l t = rw t f
broken-ends money beside w w' u u' u'' count bytes (Fault.Row row bad) r' q q' f l t = rw t f
broken-ends money beside w w' u u' u'' count bytes (Fault.OtherPosting row) r' q q' f l t = rw t f
broken-ends money beside w w' u u' u'' count bytes Fault.MoreReplies r' q q' f l t = rw t f
broken-ends money beside w w' u u' u'' count bytes Fault.Sheet r' q q' f l t =
    no_row beside _ l.0 Fault.Sheet (λ postings before r e. e) l.3
broken-ends money beside w w' u u' u'' count bytes Fault.Header r' q q' f l t =
    no_row beside _ l.0 Fault.Header (λ postings before r e. e) l.3
broken-ends money beside w w' u u' u'' count bytes Fault.Read r' q q' f l t =
    absurd (no_row beside _ l.0 Fault.Read (λ postings before r e. e) l.3)
broken-ends money beside w w' u u' u'' count bytes (Fault.Truncated n) r' q q' f l t =
    absurd (no_row beside _ l.0 (Fault.Truncated n) (λ postings before r e. e) l.3)
