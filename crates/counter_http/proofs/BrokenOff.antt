-- A connection that ends at a message whose answer was written in part or not at all.
use Rattle.std.proofs.Common.{◌≡◌, ℕ, inl, inr, List, [], ◌∷◌, ◌++◌, length, take, drop, Option, Result, Err, refl}
use Rattle.std.proofs.Common.{sym, ap, subst, ◌∙◌, append-nil}
use Rattle.std.specs.Io.KnownBytes.{Appends, Consumes}
use Rattle.std.proofs.{KnownBytes.Appends-trans, lemmas.List.Concat.flat_map-append}
use Rattle.posting_rules.specs.{declared.fault.Fault.Fault, believed.Commands.Command, believed.Runs.followed_by}
use Rattle.posting_rules.specs.believed.Counter.{Seen, Takes, Refuses}
use Rattle.posting_rules.proofs.CounterCalls.{idle_after}
use Rattle.posting_core.specs.believed.{Clock.AreReadings, EndCalls.ReadCall, Batches.joined}
use Rattle.posting_core.specs.EndCalls.{WriteCall}
use Rattle.counter_http.specs.{declared.fault.ServeFault.ServeFault, declared.next.Whole.Whole}
use Rattle.counter_http.specs.{believed.Ends.HasEnded, believed.Messages.IsMessage, Next.asked, Next.IsWhole}
use Rattle.counter_http.specs.declared.fault.ServeFault.TheVariants.{Read, Write, Bank, Memory}
use Rattle.counter_http.specs.believed.Answers.{Asked, asked_by, answer_of, unavailable}
use Rattle.counter_http.specs.believed.Turns.{Turn, commands_in, moments_in, text_in, commands_of, moments_of}
use Rattle.counter_http.specs.believed.Turns.{texts_of, answers_to}
use Rattle.counter_http.specs.Turns.{TurnIsAnsweredInPart, IsRefusedAt, ServingBreaksOff, TurnIsDealtWith}
use Rattle.posting_core.proofs.{Batched.joined-append, StreamedBatches.takes_more}
use Rattle.counter_http.specs.believed.Serving.{At_message, At_refusal, Exits, AnswersAreWritten, ServesConnection}
use Rattle.counter_http.proofs.Turning.{readings_append, answers-append}
use Rattle.posting_core.proofs.Stops.{refused_stop, stop_all, stop_part, written_part}
use Rattle.counter_http.proofs.ConnectionLoop.{Going, turn_of, read_one_more}

-- ---- ends at a message

-- its answer was written in part
answer_begun : {C : Type 0} (seen : C → Seen) {r r' w w' w'' k k' k'' : Option (List ℕ)}
    {q q' : Option (List ReadCall)} (old now new : C)
    {count : ℕ} (t : Turn) (all rest : List ℕ)
    → Going r r' w w' k k' (seen old) (seen now) all count → IsMessage t.message → all ≡ text_in t ++ rest
    → AreReadings k' k'' (moments_in t)
    → ((seen new).honest → (seen now).honest)
    → TurnIsAnsweredInPart w' w'' (seen now) (seen new) (asked_by t.message) (commands_in t)
    → ((seen old).is_down → new ≡ old) → ServesConnection seen r r' q q' w w'' k k'' old new (Err Write)
answer_begun seen {r = r} {r' = r'} {w = w} {w' = w'} {w'' = w''} {k = k} {k' = k'} {k'' = k''} old now new t
    all rest g is front reading honest a idle =
    let before = g.turns in
    let ts = before ++ t ∷ [] in
    let none : ts ++ [] ≡ ts = append-nil ts in
    let commands : commands_of ts ≡ commands_of before ++ commands_in t =
    flat_map-append commands_in before (t ∷ [])
    ∙ ap (λ (x : List Command). commands_of before ++ x) (append-nil (commands_in t)) in
    let moments : moments_of ts ≡ moments_of before ++ moments_in t =
    flat_map-append moments_in before (t ∷ [])
    ∙ ap (λ (x : List ℕ). moments_of before ++ x) (append-nil (moments_in t)) in
    let takes : Takes (seen old) (seen new) (commands_of ts) =
    subst (λ (x : List Command). Takes (seen old) (seen new) x) (sym commands)
    (takes_more (seen old) (seen now) (seen new) (commands_of before) (commands_in t) honest
    g.answered.takes a.takes) in
    record {
      taken = ts;
      refused = [];
      rest = rest;
      last = [];
      read = subst (λ (us : List Turn). Consumes r r' (texts_of us ++ rest)) (sym none)
          (read_one_more r r' before t all rest g.read front);
      clock = subst (λ (us : List Turn). AreReadings k k'' (moments_of us)) (sym none)
          (subst (λ (x : List ℕ). AreReadings k k'' x) (sym moments)
          (readings_append k k' k'' (moments_of before) (moments_in t) g.answered.clock reading));
      written = g.answered.written ++ a.written;
      wrote = Appends-trans w w' w'' g.answered.written a.written g.answered.wrote a.wrote;
      stood = new;
      honest_first = λ h. g.answered.honest (honest h);
      honest = λ h. h;
      up = λ d. g.answered.up (a.up d);
      takes = takes;
      exits = At_message (record {
        before = before;
        turn = t;
        taken_is = refl;
        stays = g.stays;
        whole = is;
        none_refused = refl;
        nothing = refl;
      }) refl;
      answers = λ h log s.
          written_part g.answered.written a.written _ _ (g.answered.answers (honest h) log s)
          (a.answer h (followed_by log (commands_of before)) (g.answered.takes.shows (honest h) log s))
          ∙ ap (λ (x : List ℕ). take (length (g.answered.written ++ a.written)) x)
          (ap (λ (x : List ℕ). joined (answers_to log before) ++ x)
          (sym (append-nil (answer_of (followed_by log (commands_of before)) (asked_by t.message))))
          ∙ sym (joined-append (answers_to log before)
          (answers_to (followed_by log (commands_of before)) (t ∷ [])))
          ∙ ap joined (sym (answers-append log before (t ∷ [])) ∙ sym (append-nil (answers_to log ts))));
      survives = λ h log s. stop_all (seen new) log (commands_of (ts ++ [])) (commands_of ts)
          (ap commands_of none) (takes.stands h log s);
      idle = idle;
    }

-- the bank refused it, and so much was written
bank_failed : {C : Type 0} (seen : C → Seen) {r r' w w' w'' k k' k'' : Option (List ℕ)}
    {q q' : Option (List ReadCall)} (old now new : C)
    {count : ℕ} (result : Result ℕ ServeFault) (t : Turn) (all rest : List ℕ) (more : List ℕ)
    (fault : Fault) (g : Going r r' w w' k k' (seen old) (seen now) all count) → all ≡ text_in t ++ rest
    → AreReadings k' k'' (moments_in t)
    → Appends w' w'' more → (b : IsRefusedAt seen now new fault (commands_in t))
    → Exits seen result (HasEnded r' q q') old b.stood new g.turns (t ∷ []) rest
    (unavailable (asked_by t.message) ∷ [])
    → ((text : List ℕ) → AnswersAreWritten result (text ++ more)
    (text ++ (unavailable (asked_by t.message) ++ [])))
    → ((seen old).is_down → new ≡ old) → ServesConnection seen r r' q q' w w'' k k'' old new result
bank_failed seen {r = r} {r' = r'} {w = w} {w' = w'} {w'' = w''} {k = k} {k' = k'} {k'' = k''} old now new
    result t all rest more fault g front reading wrote b exits writes idle =
    let before = g.turns in
    let last = unavailable (asked_by t.message) ∷ [] in
    let commands : commands_of (before ++ t ∷ []) ≡ commands_of before ++ commands_in t =
    flat_map-append commands_in before (t ∷ [])
    ∙ ap (λ (x : List Command). commands_of before ++ x) (append-nil (commands_in t)) in
    let moments : moments_of (before ++ t ∷ []) ≡ moments_of before ++ moments_in t =
    flat_map-append moments_in before (t ∷ [])
    ∙ ap (λ (x : List ℕ). moments_of before ++ x) (append-nil (moments_in t)) in
    let takes : Takes (seen old) (seen b.stood) (commands_of before) =
    subst (λ (x : List Command). Takes (seen old) (seen b.stood) x) (append-nil (commands_of before))
    (takes_more (seen old) (seen now) (seen b.stood) (commands_of before) [] b.honest_first g.answered.takes
    b.takes) in
    let honest : (seen new).honest → (seen now).honest = λ h. b.honest_first (b.honest h) in
    record {
      taken = before;
      refused = t ∷ [];
      rest = rest;
      last = last;
      read = read_one_more r r' before t all rest g.read front;
      clock = subst (λ (x : List ℕ). AreReadings k k'' x) (sym moments)
          (readings_append k k' k'' (moments_of before) (moments_in t) g.answered.clock reading);
      written = g.answered.written ++ more;
      wrote = Appends-trans w w' w'' g.answered.written more g.answered.wrote wrote;
      stood = b.stood;
      honest_first = λ h. g.answered.honest (b.honest_first h);
      honest = b.honest;
      up = λ d. g.answered.up (b.up d);
      takes = takes;
      exits = exits;
      answers = λ h log s. subst (λ (x : List ℕ). AnswersAreWritten result (g.answered.written ++ more) x)
          (ap (λ (x : List ℕ). x ++ joined last) (g.answered.answers (honest h) log s)
          ∙ sym (joined-append (answers_to log before) last)) (writes g.answered.written);
      survives = λ h log s. stop_part (seen new) log (commands_of before) (commands_in t)
          (commands_of (before ++ t ∷ [])) commands
          (refused_stop fault (seen b.stood) (seen new) (followed_by log (commands_of before)) (commands_in t)
          b.refuses h (takes.stands (b.honest h) log s));
      idle = idle;
    }

-- the one message's commands
one_commands : (t : Turn) → commands_in t ≡ commands_of (t ∷ [])
one_commands t = sym (append-nil (commands_in t))

broken_at : {C : Type 0} (seen : C → Seen) (fault : ServeFault) {r r' w w' w'' k k' k'' : Option (List ℕ)}
    {q q' : Option (List ReadCall)}
    (old now new : C) {count : ℕ} (t : Turn) (all rest : List ℕ)
    → Going r r' w w' k k' (seen old) (seen now) all count → IsMessage t.message → all ≡ text_in t ++ rest
    → AreReadings k' k'' (moments_in t)
    → ((seen new).honest → (seen now).honest)
    → ServingBreaksOff seen fault w' w'' now new (asked_by t.message) (commands_in t)
    → ((seen old).is_down → new ≡ old) → ServesConnection seen r r' q q' w w'' k k'' old new (Err fault)
broken_at seen Write old now new t all rest g is front reading honest (inl a) idle =
    answer_begun seen old now new t all rest g is front reading honest a idle
broken_at seen Write old now new t all rest g is front reading honest (inr a) idle =
    bank_failed seen old now new (Err Write) t all rest a.written a.fault g front reading a.wrote a.refused
    (At_refusal (record { stays = g.stays; turn = t; whole = is; refused_is = refl; last_is = refl }) a.fault
    (subst (λ (cs : List Command). Refuses a.fault (seen a.refused.stood) (seen new) cs) (one_commands t)
    a.refused.refuses))
    (λ text. written_part text a.written text (unavailable (asked_by t.message) ++ []) refl
    (a.part ∙ ap (take (length a.written)) (sym (append-nil (unavailable (asked_by t.message)))))) idle
broken_at seen (Bank fault) old now new t all rest g is front reading honest a idle =
    bank_failed seen old now new (Err (Bank fault)) t all rest (unavailable (asked_by t.message)) fault g
    front reading a.wrote a.refused (
      record { stays = g.stays; turn = t; whole = is; refused_is = refl; last_is = refl },
      subst (λ (cs : List Command). Refuses fault (seen a.refused.stood) (seen new) cs) (one_commands t)
          a.refused.refuses,
    )
    (λ text. ap (λ (x : List ℕ). text ++ x) (sym (append-nil (unavailable (asked_by t.message))))) idle
broken_at seen Read old now new t all rest g is front reading honest a idle = absurd a
broken_at seen Memory old now new t all rest g is front reading honest a idle = absurd a

pub end_broken : {C : Type 0} (seen : C → Seen) {reason : Fault → C → C → Type 0} (fault : ServeFault)
    {r r' w w' w'' k k' k'' : Option (List ℕ)} {q q' : Option (List ReadCall)}
    {v v' : Option (List WriteCall)} (old now new : C) {count : ℕ} (all : List ℕ) (p : Whole)
    → Going r r' w w' k k' (seen old) (seen now) all count → ((seen old).is_down → now ≡ old) → IsWhole all p
    → TurnIsDealtWith seen reason w' w'' v v' k' k'' now new (asked p) (Err fault)
    → ServesConnection seen r r' q q' w w'' k k'' old new (Err fault)
end_broken seen {reason = reason} fault {w' = w'} {w'' = w''} {k' = k'} {k'' = k''} {v = v} {v' = v'} old now
    new all p g idle is dealt =
    let d : TurnIsDealtWith seen reason w' w'' v v' k' k'' now new (asked_by is.message) (Err fault) =
    subst (λ (x : Asked). TurnIsDealtWith seen reason w' w'' v v' k' k'' now new x (Err fault)) is.asks
    dealt in
    broken_at seen fault old now new (turn_of d.moment is) all (drop p.length all) g is.whole is.front d.clock
    d.dealt.honest d.dealt.answers (idle_after seen old now idle new d.dealt.idle)
