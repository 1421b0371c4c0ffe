-- A client of whom something is read, or whose message is answered.
use Rattle.std.proofs.Common.{◌≡◌, ℕ, List, [], ◌∷◌, ◌++◌, Option, Bool, Result}
use Rattle.std.proofs.Common.{None, arith, codes, true, false, refl, sym, ap, subst, ◌∙◌, append_assoc, append-nil, inl, inr}
use Rattle.std.specs.{List.AllByRecursion, Io.KnownBytes.Appends, Io.KnownBytes.Consumes}
use Rattle.std.specs.declared.io.Error.{Error}
use Rattle.std.proofs.{KnownBytes.Consumes-trans}
use Rattle.httparse.specs.Grammar.{lf}
use Rattle.posting_rules.specs.declared.fault.Fault.{Fault}
use Rattle.posting_rules.specs.{believed.Counter.Seen}
use Rattle.posting_core.specs.believed.{Batches.joined, EndCalls.EndsWith, EndCalls.GrowsBy, EndCalls.ReadCall}
use Rattle.posting_core.specs.EndCalls.{Beside, IsReadFailure, read_call}
use Rattle.posting_core.proofs.Batched.{joined-append}
use Rattle.counter_http.specs.Connections.{Known}
use Rattle.counter_http.specs.Next.{IsUnfinished}
use Rattle.counter_http.specs.together.Standing.{IsGoing, IsParted, IsRefused}
use Rattle.counter_http.specs.together.Serving.{AnswersBeforeItsReads}
use Rattle.counter_http.specs.believed.Answers.{asked_by, refusal, unavailable}
use Rattle.counter_http.specs.declared.figures.Figures.{Figures}
use Rattle.counter_http.specs.believed.Ends.{HasEnded}
use Rattle.counter_http.specs.believed.Messages.{Closed, Finished, Message, No_body, No_head, Walks, closes, message_text, IsMessage}
use Rattle.counter_http.specs.believed.Serving.{BeginsWithNoMessage, IsBrokenOff, IsWalked, KeepsConnection}
use Rattle.counter_http.specs.together.Order.{Step, answers_of, of_client}
use Rattle.counter_http.specs.believed.Turns.{Turn, messages_of, text_in, texts_of}
use Rattle.counter_http.specs.declared.parting.Parting.TheVariants as parting
use Rattle.counter_http.proofs.Beside.{one_read_more, reads_further}
use Rattle.counter_http.proofs.ConnectionLoop.{read_one_more, stays_one_more, texts_one_more, unfinished_none}
use Rattle.counter_http.proofs.Prompts.{HasRead}
use Rattle.counter_http.proofs.Steps.{all_of, answers_of-append, of_client-append, one_answer}
use Rattle.counter_http.proofs.Walking.{walks_after, walks_closed, walks_end}

-- ---- a message of its own

abbrev pub step_told : Option Figures → ℕ → ℕ → Message → List ℕ → Step
step_told figures i moment m text =
    record { client = i; turn = record { message = m; moment = moment }; figures = figures; answer = text }

-- no figures are told
abbrev pub step_of : ℕ → ℕ → Message → List ℕ → Step
step_of i moment m text = step_told None i moment m text

own_more : (figures : Option Figures) (i : ℕ) (steps : List Step) (moment : ℕ) (m : Message) (text : List ℕ)
    → of_client i steps ++ record { message = m; moment = moment } ∷ []
    ≡ of_client i (steps ++ step_told figures i moment m text ∷ [])
own_more figures i steps moment m text =
    sym (of_client-append i steps (step_told figures i moment m text ∷ [])
    ∙ ap (λ (x : List Turn). of_client i steps ++ x) (all_of i (step_told figures i moment m text ∷ []) (refl, tt)))

answers_more : (figures : Option Figures) (i : ℕ) (steps : List Step) (moment : ℕ) (m : Message) (text : List ℕ)
    → answers_of i steps ++ text ∷ [] ≡ answers_of i (steps ++ step_told figures i moment m text ∷ [])
answers_more figures i steps moment m text =
    sym (answers_of-append i steps (step_told figures i moment m text ∷ [])
    ∙ ap (λ (x : List (List ℕ)). answers_of i steps ++ x) (one_answer i (step_told figures i moment m text) refl))

-- one text more
text_more : (written pending text : List ℕ) (texts : List (List ℕ)) → written ++ pending ≡ joined texts
    → written ++ (pending ++ text) ≡ joined (texts ++ text ∷ [])
text_more written pending text texts e =
    sym (append_assoc written pending text) ∙ ap (λ (x : List ℕ). x ++ text) e
    ∙ ap (λ (x : List ℕ). joined texts ++ x) (sym (append-nil text)) ∙ sym (joined-append texts (text ∷ []))

none_left : (pending text : List ℕ) → pending ++ text ≡ [] → pending ≡ []
none_left [] text e = refl
none_left (x ∷ xs) text e = cc e

-- the input up to what follows a message
input_more : (ts : List Turn) (t : Turn) (buf rest : List ℕ) → buf ≡ text_in t ++ rest
    → texts_of ts ++ buf ≡ texts_of (ts ++ t ∷ []) ++ rest
input_more ts t buf rest front = ap (λ (x : List ℕ). texts_of ts ++ x) front ∙ sym (texts_one_more ts t rest)

-- ---- it is answered

-- where nothing is left, no message is
unfinished_nothing : (shown : Bool) → IsUnfinished [] shown
unfinished_nothing true =
    record { ending = No_head; ends = λ some. absurd (some refl); answer = refl; room = omega arith }
unfinished_nothing false = record {
  ending = No_body (record {
    blank = [];
    method = codes "HEAD";
    target = [];
    minor = 0;
    line_end = lf;
    fields = [];
    last = lf;
  });
  ends = λ some. absurd (some refl);
  answer = refl;
  room = omega arith;
}

-- and the connection goes on
pub answered_on : {i : ℕ} {k l : Known} {steps : List Step} {has_more shown : Bool}
    {buf pending : List ℕ} (figures : Option Figures) (moment : ℕ) (m : Message) (rest text : List ℕ)
    → IsMessage m → closes m.head ≡ false → buf ≡ message_text m ++ rest → (more : Bool) → (more ≡ false → rest ≡ [])
    → IsGoing i k l steps has_more shown buf pending
    → IsGoing i k l (steps ++ step_told figures i moment m text ∷ []) more shown rest (pending ++ text)
answered_on {i} {k} {l} {steps} {shown = shown} {buf = buf}
    {pending = pending} figures moment m rest text whole
    stays front more none g =
    let t : Turn = record { message = m; moment = moment } in
    let own = own_more figures i steps moment m text in
    record {
      read = subst (λ (ts : List Turn). Consumes k.reader l.reader (texts_of ts ++ rest)) own
          (read_one_more k.reader l.reader (of_client i steps) t buf rest g.read front);
      stays = subst (λ (ts : List Turn). AllByRecursion (λ (u : Turn). KeepsConnection u.message) ts) own
          (stays_one_more (of_client i steps) t g.stays (record { whole = whole; stays = stays }));
      waits = λ e. subst (λ (x : List ℕ). IsUnfinished x shown) (sym (none e)) (unfinished_nothing shown);
      written = g.written;
      wrote = g.wrote;
      answers = text_more g.written pending text (answers_of i steps) g.answers
          ∙ ap joined (answers_more figures i steps moment m text);
      more = g.more;
      through = λ e. g.through (none_left pending text e);
      prompt = reads_further (step_told figures i moment m text ∷ [])
          (input_more (of_client i steps) t buf rest front ∙ ap (λ (ts : List Turn). texts_of ts ++ rest) own)
          g.prompt;
    }

walked_closed : {has_ended : Type 0} (ts : List Turn) (t : Turn) (rest : List ℕ)
    → AllByRecursion (λ (u : Turn). KeepsConnection u.message) ts → IsMessage t.message
    → closes t.message.head ≡ true → IsWalked has_ended (ts ++ t ∷ []) [] rest []
walked_closed ts t rest stays whole closed =
    let us = ts ++ t ∷ [] in
    let walks : (more : List ℕ) → Walks (texts_of ts ++ (text_in t ++ more)) (messages_of us) Closed =
    λ more. walks_after ts (t ∷ []) (text_in t ++ more) Closed stays (walks_closed t more whole closed) in
    record {
      ending = Closed;
      walks = subst (λ (x : List ℕ). Walks x (messages_of us) Closed) (sym (texts_one_more ts t rest)) (walks rest);
      last_is = refl;
      ended = inr (λ more. subst (λ (x : List ℕ). Walks x (messages_of us) Closed)
          (sym (ap (λ (x : List ℕ). x ++ more) (texts_one_more ts t rest)
          ∙ append_assoc (texts_of ts) (text_in t ++ rest) more
          ∙ ap (λ (x : List ℕ). texts_of ts ++ x) (append_assoc (text_in t) rest more)))
          (walks (rest ++ more)));
      none_refused = refl;
    }

-- and the connection ends
pub answered_last : {i : ℕ} {k l : Known} {steps : List Step} {has_more shown : Bool}
    {buf pending : List ℕ} (figures : Option Figures) (moment : ℕ) (m : Message) (rest text : List ℕ)
    → IsMessage m → closes m.head ≡ true → buf ≡ message_text m ++ rest → IsGoing i k l steps has_more shown buf pending
    → IsParted i k l (steps ++ step_told figures i moment m text ∷ []) (pending ++ text) parting.Served
answered_last {i} {k} {l} {steps} {buf = buf}
    {pending = pending} figures moment m rest text whole last front g =
    let t : Turn = record { message = m; moment = moment } in
    let own = own_more figures i steps moment m text in
    let none = append-nil (of_client i (steps ++ step_told figures i moment m text ∷ [])) in
    record {
      lost = [];
      rest = rest;
      last = [];
      read = subst (λ (ts : List Turn). Consumes k.reader l.reader (texts_of ts ++ rest)) (own ∙ sym none)
          (read_one_more k.reader l.reader (of_client i steps) t buf rest g.read front);
      written = g.written;
      wrote = g.wrote;
      parts = subst (λ (ts : List Turn). IsWalked (HasEnded l.reader k.reads l.reads) ts [] rest []) own
          (walked_closed (of_client i steps) t rest g.stays whole last);
      answers = text_more g.written pending text (answers_of i steps) g.answers
          ∙ ap joined (answers_more figures i steps moment m text ∙ sym (append-nil _));
      more = g.more;
      left = tt;
      ends = λ e. g.through (none_left pending text e);
      prompt = reads_further (step_told figures i moment m text ∷ [])
          (input_more (of_client i steps) t buf rest front
          ∙ ap (λ (ts : List Turn). texts_of ts ++ rest) (own ∙ sym none)) g.prompt;
    }

-- ---- it is refused

-- by the bank
pub answered_unavailable : {i : ℕ} {k l : Known} {steps : List Step} {has_more shown : Bool}
    {buf pending : List ℕ} (fault : Fault) (moment : ℕ) (m : Message) (rest : List ℕ)
    → IsMessage m → buf ≡ message_text m ++ rest → IsGoing i k l steps has_more shown buf pending
    → IsRefused i k l steps (pending ++ unavailable (asked_by m)) (record { message = m; moment = moment })
    (parting.Bank fault)
answered_unavailable {i} {k} {l} {steps} {buf = buf} {pending = pending} fault moment m rest whole front g =
    let t : Turn = record { message = m; moment = moment } in
    let same = append-nil steps in
    let broken_off : IsBrokenOff (of_client i steps) (t ∷ []) (unavailable (asked_by m) ∷ []) =
    record { stays = g.stays; turn = t; whole = whole; refused_is = refl; last_is = refl } in
    record {
      parted = record {
        lost = t ∷ [];
        rest = rest;
        last = unavailable (asked_by m) ∷ [];
        read = read_one_more k.reader l.reader (of_client i steps) t buf rest g.read front;
        written = g.written;
        wrote = g.wrote;
        parts = broken_off;
        answers = text_more g.written pending (unavailable (asked_by m)) (answers_of i steps) g.answers;
        more = g.more;
        left = tt;
        ends = λ e. g.through (none_left pending (unavailable (asked_by m)) e);
        prompt = subst (λ (ss : List Step). AnswersBeforeItsReads i k.reads l.reads k.beside l.beside k.writer
            k.writes ss (texts_of (of_client i steps ++ t ∷ []) ++ rest)) same
            (reads_further [] (input_more (of_client i steps) t buf rest front) g.prompt);
      };
      lost = refl;
      broken_off = broken_off;
    }

-- as no message
pub answered_refusal : {i : ℕ} {k l : Known} {steps : List Step} {has_more shown : Bool}
    {buf pending : List ℕ} (shows : Bool) (g : IsGoing i k l steps has_more shown buf pending)
    → IsWalked (HasEnded l.reader k.reads l.reads) (of_client i steps) [] buf (refusal shows ∷ [])
    → IsParted i k l steps (pending ++ refusal shows) parting.Served
answered_refusal {i} {k} {l} {steps} {buf = buf} {pending = pending} shows g walked =
    let none = ap (λ (ts : List Turn). texts_of ts ++ buf) (sym (append-nil (of_client i steps))) in
    record {
      lost = [];
      rest = buf;
      last = refusal shows ∷ [];
      read = subst (λ (x : List ℕ). Consumes k.reader l.reader x) none g.read;
      written = g.written;
      wrote = g.wrote;
      parts = walked;
      answers = text_more g.written pending (refusal shows) (answers_of i steps) g.answers;
      more = g.more;
      left = tt;
      ends = λ e. g.through (none_left pending (refusal shows) e);
      prompt = subst (λ (x : List ℕ). AnswersBeforeItsReads i k.reads l.reads k.beside l.beside k.writer k.writes
          steps x) none g.prompt;
    }

-- ---- something is read

pub read_going : {i : ℕ} {k l : Known} {steps : List Step} {shown : Bool} {rest : List ℕ}
    (all : List ℕ) (answer : Result ℕ Error) (r'' : Option (List ℕ)) (q'' : Option (List ReadCall))
    (b'' : Option (List Beside)) → IsGoing i k l steps false shown rest []
    → HasRead l.reader r'' answer rest all → GrowsBy l.reads q'' (read_call answer ∷ [])
    → GrowsBy l.beside b'' (record { contents = l.writer; calls = l.writes } ∷ [])
    → IsGoing i k (record l { reader = r''; reads = q''; beside = b'' }) steps true shown all []
read_going {i} {k} {l} {steps} {rest = rest} all answer r'' q'' b'' g read tells beside =
    let before = texts_of (of_client i steps) in
    let same = append_assoc before rest read.bytes ∙ ap (λ (x : List ℕ). before ++ x) (sym read.all_is) in
    record {
      read = subst (λ (x : List ℕ). Consumes k.reader r'' x) same
          (Consumes-trans k.reader l.reader r'' (before ++ rest) read.bytes g.read read.got);
      stays = g.stays;
      waits = λ e. cc e;
      written = g.written;
      wrote = g.wrote;
      answers = g.answers;
      more = g.more;
      through = g.through;
      prompt = subst (λ (x : List ℕ). AnswersBeforeItsReads i k.reads q'' k.beside b'' k.writer k.writes steps x)
          same (one_read_more (before ++ rest) read.bytes (read_call answer) _ g.prompt (record {
            before = steps;
            after = [];
            order = sym (append-nil steps);
            rest = rest;
            input_is = refl;
            no_more = unfinished_none rest (g.waits refl);
            wrote = subst (λ (x : List ℕ). Appends k.writer l.writer x) (sym (append-nil g.written) ∙ g.answers) g.wrote;
            through = g.through refl;
          }) tells beside read.long);
    }

-- it has more, or waits for more
pub waits_so : {i : ℕ} {k l : Known} {steps : List Step} {has_more has_more' shown shown' : Bool}
    {rest rest' pending : List ℕ} → rest ≡ rest' → (has_more' ≡ false → IsUnfinished rest' shown')
    → IsGoing i k l steps has_more shown rest pending → IsGoing i k l steps has_more' shown' rest' pending
waits_so {i} {k} {l} {steps} {has_more' = has_more'} {shown' = shown'} {rest} {rest'} {pending} same waits g =
    let input = ap (λ (x : List ℕ). texts_of (of_client i steps) ++ x) same in
    record {
      read = subst (λ (x : List ℕ). Consumes k.reader l.reader x) input g.read;
      stays = g.stays;
      waits = waits;
      written = g.written;
      wrote = g.wrote;
      answers = g.answers;
      more = g.more;
      through = g.through;
      prompt = subst (λ (x : List ℕ). AnswersBeforeItsReads i k.reads l.reads k.beside l.beside k.writer k.writes
          steps x) input g.prompt;
    }

-- with nothing to say
parted_silent : {i : ℕ} {k l : Known} {steps : List Step} {has_more shown : Bool} {rest : List ℕ}
    → (g : IsGoing i k l steps has_more shown rest [])
    → IsWalked (HasEnded l.reader k.reads l.reads) (of_client i steps) [] rest []
    → IsParted i k l steps [] parting.Served
parted_silent {i} {k} {l} {steps} {rest = rest} g walked =
    let none = ap (λ (ts : List Turn). texts_of ts ++ rest) (sym (append-nil (of_client i steps))) in
    record {
      lost = [];
      rest = rest;
      last = [];
      read = subst (λ (x : List ℕ). Consumes k.reader l.reader x) none g.read;
      written = g.written;
      wrote = g.wrote;
      parts = walked;
      answers = g.answers ∙ ap joined (sym (append-nil (answers_of i steps)));
      more = g.more;
      left = tt;
      ends = λ e. g.through refl;
      prompt = subst (λ (x : List ℕ). AnswersBeforeItsReads i k.reads l.reads k.beside l.beside k.writer k.writes
          steps x) none g.prompt;
    }

pub parted_finished : {i : ℕ} {k l : Known} {steps : List Step} {has_more shown : Bool} {rest : List ℕ}
    → IsGoing i k l steps has_more shown rest [] → HasEnded l.reader k.reads l.reads → rest ≡ []
    → IsParted i k l steps [] parting.Served
parted_finished {i} {steps = steps} {rest = rest} g ended none = parted_silent g (record {
  ending = Finished;
  walks = walks_end (of_client i steps) rest Finished g.stays none;
  last_is = refl;
  ended = inl ended;
  none_refused = refl;
})

pub parted_unread : {i : ℕ} {k l : Known} {steps : List Step} {has_more shown : Bool} {rest : List ℕ}
    → IsGoing i k l steps has_more shown rest [] → BeginsWithNoMessage rest
    → EndsWith IsReadFailure k.reads l.reads → IsParted i k l steps [] parting.Read
parted_unread {i} {k} {l} {steps} {rest = rest} g none failed =
    let input = ap (λ (ts : List Turn). texts_of ts ++ rest) (sym (append-nil (of_client i steps))) in
    record {
      lost = [];
      rest = rest;
      last = [];
      read = subst (λ (x : List ℕ). Consumes k.reader l.reader x) input g.read;
      written = g.written;
      wrote = g.wrote;
      parts = record { stays = g.stays; no_more = none; none_refused = refl; nothing = refl };
      answers = g.answers ∙ ap joined (sym (append-nil (answers_of i steps)));
      more = g.more;
      left = refl;
      ends = λ e. (failed, g.through refl);
      prompt = subst (λ (x : List ℕ). AnswersBeforeItsReads i k.reads l.reads k.beside l.beside k.writer k.writes
          steps x) input g.prompt;
    }
