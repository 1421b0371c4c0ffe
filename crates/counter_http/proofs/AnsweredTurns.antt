-- What the bank did for a message, and what was told of it.
use Rattle.std.proofs.Common.{◌≡◌, ℕ, inl, inr, Bool, true, false, List, [], ◌∷◌, length, take, Option, Some, None}
use Rattle.std.proofs.Common.{Result, Ok, Err, refl, sym, ap, subst, eqb, ◌∙◌, arith}
use Rattle.std.proofs.lemmas.{Bool.and_parts, Bool.ne_eqb, List.take_all}
use Rattle.std.specs.{Prelude.codes, Prelude.bytes_eq, Io.KnownBytes.Appends}
use Rattle.message_records.specs.believed.Spelling.{reply_spelling}
use Rattle.posting_rules.specs.declared.fault.Fault.{Fault}
use Rattle.posting_rules.specs.believed.{Entries.reply, Commands.Command, Commands.Post}
use Rattle.posting_rules.specs.believed.Counter.{Seen, IsCounterCall, ShowsLog, Takes, Refuses}
use Rattle.posting_rules.proofs.CounterCalls.{call_refused_after, refused_after, takes_none}
use Rattle.posting_core.proofs.{ByTables.stays_itself}
use Rattle.posting_core.specs.{Clock.IsReading, believed.Clock.AreReadings, Stream.IsOfCall, EndCalls.WriteCall}
use Rattle.counter_http.specs.{declared.fault.ServeFault.ServeFault, declared.routes.Route.Route, Ends.SendsAs}
use Rattle.counter_http.specs.declared.fault.ServeFault.TheVariants as serve
use Rattle.counter_http.specs.Figures.{asks_figures, asks_on}
use Rattle.counter_http.specs.believed.Answers.{octets, status_words, bare, is_record, submits}
use Rattle.counter_http.specs.believed.Answers.{answer_on, Asked, Answer, answer_to, answer_text, shows, unavailable}
use Rattle.counter_http.specs.believed.Answers.{is_posting}
use Rattle.counter_http.specs.declared.routes.Route.TheVariants.{Posting, Account, Teller, Branches, Health, Log, Metrics}
use Rattle.counter_http.specs.declared.routes.Route.TheVariants.{Plan}
use Rattle.counter_http.specs.believed.Paths.{route_of, path_of}
use Rattle.counter_http.proofs.PartsWritten.{bare_of, front_of}
use Rattle.counter_http.specs.believed.Turns.{commands_if, commands_for, readings_if, readings_for}
use Rattle.std.specs.Prelude.{IfOk}
use Rattle.counter_http.specs.Asking.{said_in, SendsReading}
use Rattle.counter_http.specs.declared.answers.Reading.{Reading}
use Rattle.counter_http.specs.Turns.{IsAsked, IsDealtWith, IfRefused, IsRefusedAt, IsSentAs, IsTellingOf, TurnIsDealtWith}

-- the bank refused a call, and that was told
pub told_refused : {C : Type 0} (seen : C → Seen) {reason : Fault → C → C → Type 0} {w w' : Option (List ℕ)}
    {v v' : Option (List WriteCall)} (old new : C) (a : Asked) (cs : List Command) (fault : Fault)
    (result : ServeFault)
    → IsRefusedAt seen old new fault cs → IsOfCall seen reason old new fault
    → ((seen old).is_down → new ≡ old)
    → ((n : ℕ) × Appends w w' (take n (unavailable a)) × IsTellingOf fault result n (unavailable a))
    → SendsAs (Err result) v v' → IsDealtWith seen reason w w' v v' old new a cs (Err result)
told_refused seen old new a cs fault serve.Write refused why idle t ends = record {
  answers = inr (record {
    written = take t.0 (unavailable a);
    wrote = t.1;
    part = front_of t.0 (unavailable a);
    fault = fault;
    refused = refused;
  });
  why = tt;
  idle = idle;
  honest = λ h. refused.honest_first (refused.honest h);
  ends = ends;
}
told_refused seen {reason = reason} {w = w} {w' = w'} {v = v} {v' = v'} old new a cs fault (serve.Bank f)
    refused why idle t ends =
    subst (λ (x : Fault). IsDealtWith seen reason w w' v v' old new a cs (Err (serve.Bank x))) (sym t.2.0)
    (record {
      answers = record {
        wrote = subst (λ (x : List ℕ). Appends w w' x)
            (take_all t.0 (unavailable a) (omega (arith, t.2.1))) t.1;
        refused = refused;
      };
      why = why;
      idle = idle;
      honest = λ h. refused.honest_first (refused.honest h);
      ends = ends;
    })
told_refused seen old new a cs fault serve.Read refused why idle t ends = absurd t.2
told_refused seen old new a cs fault serve.Memory refused why idle t ends = absurd t.2

-- a call of the bank was refused
pub why_first : {C K X : Type 0} (seen : C → Seen) (contents : C → K) (reason : Fault → C → C → Type 0)
    (old new : C) (cs : List Command) (fault : Fault)
    → IsCounterCall {X = X} seen contents reason old new cs (Err fault) → IsOfCall seen reason old new fault
why_first seen contents reason old new cs fault call =
    inl (call_refused_after seen reason old old new [] (takes_none (seen old)) (λ h. h) (λ d. refl) fault
    contents cs call)

-- what the bank says of a message holds after those before it
pub why_after : {C : Type 0} (seen : C → Seen) (reason : Fault → C → C → Type 0) (old now new : C)
    (cs : List Command) → Takes (seen old) (seen now) cs → ((seen now).honest → (seen old).honest)
    → ((seen old).is_down → now ≡ old) → (fault : ServeFault) → IfRefused fault (IsOfCall seen reason now new)
    → IfRefused fault (IsOfCall seen reason old new)
why_after seen reason old now new cs takes honest idle serve.Write why = tt
why_after seen reason old now new cs takes honest idle (serve.Bank fault) (inl call) =
    inl (refused_after seen reason old now new cs takes honest idle fault call)
why_after seen reason old now new cs takes honest idle (serve.Bank fault) (inr own) = inr own
why_after seen reason old now new cs takes honest idle serve.Read why = tt
why_after seen reason old now new cs takes honest idle serve.Memory why = tt

-- at the first call
pub refused_first : {C : Type 0} (seen : C → Seen) (old new : C) (fault : Fault) (cs : List Command)
    → Refuses fault (seen old) (seen new) cs
    → ((seen new).honest → (seen old).honest) → IsRefusedAt seen old new fault cs
refused_first seen old new fault cs refuses honest =
    record {
      stood = old;
      honest_first = λ h. h;
      honest = honest;
      up = λ d. d;
      takes = record { shows = λ h log s. s; stands = λ h log s. s };
      stays = stays_itself (seen old);
      refuses = refuses;
    }

-- the bank took the commands, and the answer was told
pub told_answer : {C : Type 0} (seen : C → Seen) {reason : Fault → C → C → Type 0} {w w' : Option (List ℕ)}
    {v v' : Option (List WriteCall)} (old new : C) (a : Asked) (cs : List Command) (x : Answer)
    (result : Result (Unit {0}) ServeFault)
    → Takes (seen old) (seen new) cs → ((seen new).is_down → (seen old).is_down)
    → ((seen new).honest → (log : List Command) → ShowsLog (seen old) log → x ≡ answer_to log a)
    → ((seen new).honest → (seen old).honest) → ((seen old).is_down → new ≡ old)
    → IsSentAs w w' v v' (answer_text x (shows a) a.closes) result
    → IsDealtWith seen reason w w' v v' old new a cs result
told_answer seen {w = w} {w' = w'} old new a cs x (Ok u) takes up is honest idle sent = record {
  answers = record {
    written = answer_text x (shows a) a.closes;
    wrote = subst (λ (y : List ℕ). Appends w w' y)
        (take_all sent.written.0 (answer_text x (shows a) a.closes) (omega (arith, sent.written.2)))
        sent.written.1;
    up = up;
    takes = takes;
    answer = λ h log s. ap (λ (y : Answer). answer_text y (shows a) a.closes) (is h log s);
  };
  why = tt;
  idle = idle;
  honest = honest;
  ends = sent.ends;
}
told_answer seen {reason = reason} {w = w} {w' = w'} {v = v} {v' = v'} old new a cs x (Err e) takes up is
    honest idle sent =
    let write : e ≡ serve.Write = cc sent.fault in
    let n = sent.written.0 in
    subst (λ (f : ServeFault). IsDealtWith seen reason w w' v v' old new a cs (Err f)) (sym write) (record {
      answers = inl (record {
        written = take n (answer_text x (shows a) a.closes);
        wrote = sent.written.1;
        up = up;
        takes = takes;
        answer = λ h log s. front_of n (answer_text x (shows a) a.closes)
            ∙ ap (λ (y : Answer). take (length (take n (answer_text x (shows a) a.closes)))
            (answer_text y (shows a) a.closes)) (is h log s);
      });
      why = tt;
      idle = idle;
      honest = honest;
      ends = subst (λ (f : ServeFault). SendsAs (Err f) v v') write sent.ends;
    })

-- ---- a posting

pub posting_commands : (a : Asked) (m : ℕ) → is_posting a ≡ true → commands_for m a ≡ Post m a.body ∷ []
posting_commands a m e = ap (λ (b : Bool). commands_if b m a.body) e

pub posting_readings : (k k' : Option (List ℕ)) (a : Asked) (m : ℕ) → is_posting a ≡ true → IsReading k k' m
    → AreReadings k k' (readings_for m a)
posting_readings k k' a m e r = subst (λ (b : Bool). AreReadings k k' (readings_if b m)) (sym e) (r.0, r.1)

-- nothing is submitted
pub idle_commands : (a : Asked) (m : ℕ) → is_posting a ≡ false → commands_for m a ≡ []
idle_commands a m e = ap (λ (b : Bool). commands_if b m a.body) e

pub idle_readings : (k : Option (List ℕ)) (a : Asked) (m : ℕ) → is_posting a ≡ false
    → AreReadings k k (readings_for m a)
idle_readings k a m e = subst (λ (b : Bool). AreReadings k k (readings_if b m)) (sym e) refl

posting_on : (log : List Command) (a : Asked) (o : Option Route) → submits o a ≡ true
    → answer_on log o a ≡ octets (reply_spelling (reply log a.body))
posting_on log a None e = cc e
posting_on log a (Some Posting) e =
    let parts = and_parts (bytes_eq a.method (codes "POST")) (eqb (length a.body) 100) e in
    rw (parts.0, parts.1) refl
posting_on log a (Some Account) e = cc e
posting_on log a (Some Teller) e = cc e
posting_on log a (Some Branches) e = cc e
posting_on log a (Some Health) e = cc e
posting_on log a (Some Log) e = cc e
posting_on log a (Some Plan) e = cc e
posting_on log a (Some Metrics) e = cc e

pub posting_answer : (log : List Command) (a : Asked) → is_posting a ≡ true
    → answer_to log a ≡ octets (reply_spelling (reply log a.body))
unfolding is_posting answer_to
posting_answer log a e = posting_on log a (route_of (path_of a.target)) e

pub takes_posting : (c c' : Seen) (a : Asked) (m : ℕ) (bytes : List ℕ) → is_posting a ≡ true → bytes ≡ a.body
    → Takes c c' (Post m bytes ∷ []) → Takes c c' (commands_for m a)
takes_posting c c' a m bytes e b t =
    subst (λ (cs : List Command). Takes c c' cs)
    (ap (λ (x : List ℕ). Post m x ∷ []) b ∙ sym (posting_commands a m e)) t

pub refuses_posting : (fault : Fault) (c c' : Seen) (a : Asked) (m : ℕ) (bytes : List ℕ) → is_posting a ≡ true
    → bytes ≡ a.body → Refuses fault c c' (Post m bytes ∷ [])
    → Refuses fault c c' (commands_for m a)
refuses_posting fault c c' a m bytes e b t =
    subst (λ (cs : List Command). Refuses fault c c' cs)
    (ap (λ (x : List ℕ). Post m x ∷ []) b ∙ sym (posting_commands a m e)) t

pub no_service : bare_of 503 (codes "503 Service Unavailable\n") ≡ bare 503
unfolding status_words
no_service = refl

pub not_found : bare_of 404 (codes "404 Not Found\n") ≡ bare 404
unfolding status_words
not_found = refl

-- ---- by the route

-- what holds on the route of a message holds of it
pub submits_as : (a : Asked) (b : Bool) → submits (route_of (path_of a.target)) a ≡ b → is_posting a ≡ b
unfolding is_posting
submits_as a b is = is

pub asks_as : (a : Asked) (b : Bool) → asks_on (route_of (path_of a.target)) a ≡ b → asks_figures a ≡ b
unfolding asks_figures
asks_as a b is = is

pub answers_as : (a : Asked) (log : List Command) (x : Answer)
    → answer_on log (route_of (path_of a.target)) a ≡ x → answer_to log a ≡ x
unfolding answer_to
answers_as a log x is = is

-- a record of another length
pub not_as_long : (a : Asked) → bytes_eq a.method (codes "POST") ≡ true → (length a.body ≡ 100 → ⊥)
    → (is_record a ≡ false) × ((log : List Command) → answer_on log (Some Posting) a ≡ bare 400)
not_as_long a t n =
    let long : eqb (length a.body) 100 ≡ false =
    ne_eqb (length a.body) 100 n in (rw (t, long) refl, λ log. rw (t, long) refl)

-- nothing is submitted, and the bank was asked
pub idle : {C : Type 0} (seen : C → Seen) {reason : Fault → C → C → Type 0} {w w' k : Option (List ℕ)}
    {v v' : Option (List WriteCall)} (old new : C) (a : Asked) (result : Result (Unit {0}) ServeFault)
    → is_posting a ≡ false → IsDealtWith seen reason w w' v v' old new a [] result
    → TurnIsDealtWith seen reason w w' v v' k k old new a result
idle seen {reason = reason} {w = w} {w' = w'} {k = k} {v = v} {v' = v'} old new a result is d = record {
  moment = 0;
  clock = idle_readings k a 0 is;
  dealt = subst (λ (cs : List Command). IsDealtWith seen reason w w' v v' old new a cs result)
      (sym (idle_commands a 0 is)) d;
}

-- nothing is submitted, and the bank is left alone
pub fixed : {C : Type 0} (seen : C → Seen) {reason : Fault → C → C → Type 0} {w w' k : Option (List ℕ)}
    {v v' : Option (List WriteCall)} (c : C) (a : Asked) (x : Answer) (result : Result (Unit {0}) ServeFault)
    → is_posting a ≡ false → ((log : List Command) → answer_to log a ≡ x)
    → IsSentAs w w' v v' (answer_text x (shows a) a.closes) result
    → TurnIsDealtWith seen reason w w' v v' k k c c a result
fixed seen c a x result none is sent =
    idle seen c c a result none (told_answer seen c c a [] x result (takes_none (seen c)) (λ d. d)
    (λ h log s. sym (is log)) (λ h. h) (λ d. refl) sent)

-- ---- what was read

-- the bank was asked, and what it showed was told, or that it refused
pub reading_told : {C : Type 0} (seen : C → Seen) {reason : Fault → C → C → Type 0} {w w' : Option (List ℕ)}
    {v v' : Option (List WriteCall)} (old new : C) (a : Asked) (read : Result Reading Fault)
    (result : Result (Unit {0}) ServeFault) → IsAsked seen reason old new read
    → IfOk read (λ reading. (seen new).honest → (log : List Command) → ShowsLog (seen old) log
    → said_in reading ≡ answer_to log a)
    → SendsReading w w' v v' a read result → IsDealtWith seen reason w w' v v' old new a [] result
reading_told seen old new a (Ok reading) result asked is sent =
    told_answer seen old new a [] (said_in reading) result asked.done asked.up is asked.honest asked.idle sent
reading_told seen old new a (Err why) (Err fault) asked is sent =
    told_refused seen old new a [] why fault asked.fault asked.why asked.idle sent.written sent.ends
reading_told seen old new a (Err why) (Ok done) asked is sent = absurd sent

pub reading_as : (P : Type 0) (c : Seen) (read : Result Reading Fault) (answer : List Command → Answer) (a : Asked)
    → ((log : List Command) → answer_to log a ≡ answer log)
    → IfOk read (λ reading. P → (log : List Command) → ShowsLog c log → said_in reading ≡ answer log)
    → IfOk read (λ reading. P → (log : List Command) → ShowsLog c log → said_in reading ≡ answer_to log a)
reading_as P c (Ok reading) answer a same is = λ h log s. is h log s ∙ sym (same log)
reading_as P c (Err fault) answer a same is = tt

-- this was read for a message, which submits nothing and asks for no figures
pub record IsReadFor {C : Type 0} (seen : C → Seen) (reason : Fault → C → C → Type 0) (old new : C) (a : Asked)
    (read : Result Reading Fault) : Type 0 where
  pub posts : is_posting a ≡ false
  pub figures : asks_figures a ≡ false
  pub asked : IsAsked seen reason old new read
  pub says : IfOk read (λ reading. (seen new).honest → (log : List Command) → ShowsLog (seen old) log
      → said_in reading ≡ answer_to log a)

pub read_for : {C : Type 0} (seen : C → Seen) {reason : Fault → C → C → Type 0} (old new : C) (a : Asked)
    (read : Result Reading Fault) (answer : List Command → Answer)
    → ((submits (route_of (path_of a.target)) a ≡ false)
    × ((log : List Command) → answer_on log (route_of (path_of a.target)) a ≡ answer log)
    × (asks_on (route_of (path_of a.target)) a ≡ false)) → IsAsked seen reason old new read
    → IfOk read (λ reading. (seen new).honest → (log : List Command) → ShowsLog (seen old) log
    → said_in reading ≡ answer log) → IsReadFor seen reason old new a read
read_for seen old new a read answer task asked is = record {
  posts = submits_as a false task.0;
  figures = asks_as a false task.2;
  asked = asked;
  says = reading_as (seen new).honest (seen old) read answer a (λ log. answers_as a log (answer log) (task.1 log)) is;
}
