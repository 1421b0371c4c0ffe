-- A sheet of postings that isn't known by its name.
use Rattle.std.proofs.Common.{inl, inr}
use Rattle.std.specs.Prelude.{◌⊎◌, ℕ, List, Option, None, Some, Result, Ok, Err}
use Rattle.posting_core.specs.believed.EndCalls.{EndsWith, ReadCall}
use Rattle.posting_core.specs.EndCalls.{HasReadFailed, WriteCall}
use Rattle.counter_http.specs.Connections.{Known}
use Rattle.posting_sheets.specs.Beside.{BesideFaultIsOfItsEnd, DecodesBeside}
use Rattle.posting_sheets.specs.declared.fault.RepliesFault.{RepliesFault}
use Rattle.posting_sheets.specs.declared.fault.RepliesFault.TheVariants as replies
use Rattle.posting_sheets.specs.declared.money.Money.{Money}
use Rattle.command_line.specs.Translating.{DecodesIn, DecodesOver, DecodesPostings, OpensNoSheet}
use Rattle.command_line.specs.declared.fault.CommandFault.{CommandFault}
use Rattle.command_line.specs.declared.status.Status.{Status}
use Rattle.bank_commands.specs.Running.{TellsDecode}

ends_some : {A : Type 0} {P : A → Type 0} {p p' : Option (List A)} → EndsWith P p p' → EndsWith P None None
ends_some e = record { earlier = e.earlier; last = e.last; made = tt; is = e.is }

failed_some : (p p' : Option (List ReadCall)) → HasReadFailed p p' → HasReadFailed None None
failed_some p p' (inl e) = inl (ends_some e)
failed_some p p' (inr worn) = inr (record { calls = worn.calls; made = tt; many = worn.many })

ends_unnamed : (result : Result ℕ RepliesFault) (s' : Option (List ℕ)) (p p' : Option (List ReadCall))
    (r' : Option (List ℕ)) (q q' : Option (List ReadCall)) (t t' : Option (List WriteCall))
    → BesideFaultIsOfItsEnd result s' p p' r' q q' t t' → BesideFaultIsOfItsEnd result None None None r' q q' t t'
ends_unnamed (Ok count) s' p p' r' q q' t t' e = (tt, ends_some e.1, e.2)
ends_unnamed (Err (replies.Truncated n)) s' p p' r' q q' t t' e = (tt, ends_some e.1, e.2)
ends_unnamed (Err (replies.Reply place bad)) s' p p' r' q q' t t' e = (tt, ends_some e.1, e.2)
ends_unnamed (Err replies.Read) s' p p' r' q q' t t' e = (tt, ends_some e.1, e.2)
ends_unnamed (Err replies.Write) s' p p' r' q q' t t' e = (tt, ends_some e.1, e.2)
ends_unnamed (Err replies.Memory) s' p p' r' q q' t t' e = e
ends_unnamed (Err replies.Sheet) s' p p' r' q q' t t' e = (failed_some p p' e.0, e.1)
ends_unnamed (Err replies.Header) s' p p' r' q q' t t' e = (tt, ends_some e.1, e.2)
ends_unnamed (Err (replies.Row row bad)) s' p p' r' q q' t t' e = (tt, ends_some e.1, e.2)
ends_unnamed (Err (replies.OtherPosting row)) s' p p' r' q q' t t' e = (tt, ends_some e.1, e.2)
ends_unnamed (Err replies.MoreReplies) s' p p' r' q q' t t' e = (tt, ends_some e.1, e.2)

decodes_unnamed : {money : Money} {s s' r r' w w' : Option (List ℕ)} (result : Result ℕ RepliesFault)
    → DecodesBeside money s s' r r' w w' result → DecodesBeside money None None r r' w w' result
decodes_unnamed result d = record {
  text = d.text;
  stated = tt;
  replies = d.replies;
  are_replies = d.are_replies;
  answer = d.answer;
  rest = d.rest;
  read = d.read;
  written = d.written;
  wrote = d.wrote;
  decoded = d.decoded;
}

-- what is said of a sheet of a name is said of any
module _ (P : Type 0) (money : Money) (known : P → Option (List ℕ) × Option (List ReadCall))
    (r r' : Option (List ℕ)) (q q' : Option (List ReadCall)) (w w' : Option (List ℕ)) (t t' : Option (List WriteCall))
    (end : Result Status CommandFault) where
  unnamed : (IsNamed : P → Type 0) → DecodesOver money IsNamed known r r' q q' w w' t t' end
      → OpensNoSheet r r' w w' end ⊎ DecodesPostings money None None None None r r' q q' w w' t t' end
  unnamed IsNamed (inl none) = inl none
  unnamed IsNamed (inr d) = inr (record {
    replies = d.3.replies;
    decodes = decodes_unnamed d.3.replies d.3.decodes;
    ends = ends_unnamed d.3.replies (known d.1).0 (known d.0).1 (known d.1).1 r' q q' t t' d.3.ends;
    ended = d.3.ended;
  })

pub tells_decode : (P : Type 0) (money : Money) (name : Option (List ℕ)) (IsNamed : List ℕ → P → Type 0)
    (known : P → Option (List ℕ) × Option (List ReadCall)) (e e' : Known) (end : Result Status CommandFault)
    → DecodesIn money name IsNamed known e.reader e'.reader e.reads e'.reads e.writer e'.writer e.writes e'.writes end
    → TellsDecode money name e e' end
tells_decode P money None IsNamed known e e' end it = it
tells_decode P money (Some name) IsNamed known e e' end it =
    unnamed P money known e.reader e'.reader e.reads e'.reads e.writer e'.writer e.writes e'.writes end (IsNamed name) it
