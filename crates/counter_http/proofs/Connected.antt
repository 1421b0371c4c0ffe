-- A connection that ends where the bank took all that it was given.
use Rattle.std.proofs.Common.{◌≡◌, ◌<◌, ◌≤◌, ◌≢◌, ℕ, ◌+◌, inl, inr, Bool, true, List, [], ◌∷◌, ◌++◌, length, take}
use Rattle.std.proofs.Common.{drop, Option, Result, Ok, Err, refl, sym, ap, subst, ◌∙◌, append_assoc, append-nil}
use Rattle.std.proofs.Common.{arith}
use Rattle.std.specs.{Prelude.IfOk, declared.io.Error.Error}
use Rattle.std.specs.Io.KnownBytes.{Appends, Consumes, IsAtEnd}
use Rattle.std.proofs.KnownBytes.{Appends-trans, Appends-nil, Consumes-nil}
use Rattle.std.proofs.lemmas.List.{length-take-le, length-append, take_all}
use Rattle.posting_rules.specs.{declared.fault.Fault.Fault, believed.Counter.Seen}
use Rattle.posting_rules.proofs.CounterCalls.{idle_after}
use Rattle.posting_core.specs.believed.{Clock.AreReadings, Batches.joined, EndCalls.ReadCall, EndCalls.GrowsBy}
use Rattle.posting_core.specs.EndCalls.{WriteCall, read_call}
use Rattle.counter_http.specs.{declared.fault.ServeFault.ServeFault, declared.next.Whole.Whole}
use Rattle.counter_http.specs.{believed.Ends.HasEnded, Turns.AreAnswered, Turns.TurnIsDealtWith}
use Rattle.counter_http.specs.believed.{Answers.Asked, Answers.refusal, Turns.Turn, Turns.text_in, Turns.commands_of}
use Rattle.counter_http.specs.believed.{Turns.moments_of, Turns.messages_of, Turns.texts_of, Turns.answers_to}
use Rattle.counter_http.specs.believed.Serving.{BeginsWithNoMessage, IsWalked, At_last, Exits, AnswersAreWritten}
use Rattle.counter_http.specs.believed.Serving.{ServesConnection}
use Rattle.counter_http.specs.declared.fault.ServeFault.TheVariants.{Read, Write, Memory}
use Rattle.counter_http.specs.believed.Messages.{closes, Finished, Closed, EndsWalk, Walks}
use Rattle.counter_http.specs.Next.{asked, IsWhole, IsUnfinished, IsHopeless}
use Rattle.posting_core.proofs.{Batched.joined-append, Streaming.at_ok, Telling.HasMade}
use Rattle.posting_core.proofs.Stops.{stop_all, written_part}
use Rattle.counter_http.proofs.Walking.{walks_after, walks_end, walks_always, walks_closed}
use Rattle.counter_http.proofs.{Sent.ended_at, PartsWritten.front_of}
use Rattle.counter_http.proofs.Turning.{answered_none, answered_more, answered_one}
use Rattle.counter_http.proofs.ConnectionLoop.{Going, turn_of, read_one_more, texts_one_more, same_front}
use Rattle.counter_http.proofs.ConnectionLoop.{going_filled}

-- ---- ends where the bank took all that it was given

-- the messages were answered, and then so much was written
end_with : {C : Type 0} (seen : C → Seen) {r r' w w' w'' k k' : Option (List ℕ)}
    {q q' : Option (List ReadCall)} (old new : C)
    (result : Result ℕ ServeFault) (ts : List Turn) (rest : List ℕ) (last : List (List ℕ)) (more : List ℕ)
    → Consumes r r' (texts_of ts ++ rest) → AreAnswered w w' k k' (seen old) (seen new) ts
    → Appends w' w'' more
    → Exits seen result (HasEnded r' q q') old new new ts [] rest last
    → ((text : List ℕ) → AnswersAreWritten result (text ++ more) (text ++ joined last))
    → ((seen old).is_down → new ≡ old) → ServesConnection seen r r' q q' w w'' k k' old new result
end_with seen {r = r} {r' = r'} {w = w} {w' = w'} {w'' = w''} {k = k} {k' = k'} old new result ts rest last
    more read a wrote exits writes idle =
    let none : ts ++ [] ≡ ts = append-nil ts in
    record {
      taken = ts;
      refused = [];
      rest = rest;
      last = last;
      read = subst (λ (us : List Turn). Consumes r r' (texts_of us ++ rest)) (sym none) read;
      clock = subst (λ (us : List Turn). AreReadings k k' (moments_of us)) (sym none) a.clock;
      written = a.written ++ more;
      wrote = Appends-trans w w' w'' a.written more a.wrote wrote;
      stood = new;
      honest_first = a.honest;
      honest = λ h. h;
      up = a.up;
      takes = a.takes;
      exits = exits;
      answers = λ h log s. subst (λ (x : List ℕ). AnswersAreWritten result (a.written ++ more) x)
          (ap (λ (x : List ℕ). x ++ joined last) (a.answers h log s)
          ∙ sym (joined-append (answers_to log ts) last)) (writes a.written);
      survives = λ h log s. stop_all (seen new) log (commands_of (ts ++ [])) (commands_of ts)
          (ap commands_of none) (a.takes.stands h log s);
      idle = idle;
    }

-- nothing remains
pub end_finished : {C : Type 0} (seen : C → Seen) {r r' w w' k k' : Option (List ℕ)}
    {q q' : Option (List ReadCall)} (old new : C) {count : ℕ}
    (rest : List ℕ)
    → Going r r' w w' k k' (seen old) (seen new) rest count → HasEnded r' q q' → rest ≡ []
    → ((seen old).is_down → new ≡ old) → ServesConnection seen r r' q q' w w' k k' old new (Ok count)
end_finished seen {w' = w'} old new {count = count} rest g ended none idle =
    end_with seen old new (Ok count) g.turns rest [] [] g.read g.answered (Appends-nil w') (
      record {
        ending = Finished;
        walks = walks_end g.turns rest Finished g.stays none;
        last_is = refl;
        ended = inl ended;
        none_refused = refl;
      },
      omega (arith, g.count_is),
      refl,
    ) (λ text. refl) idle

-- the reader failed
pub end_unread : {C : Type 0} (seen : C → Seen) {r r' w w' k k' : Option (List ℕ)}
    {q q' : Option (List ReadCall)} (old new : C) {count : ℕ}
    (rest : List ℕ)
    → Going r r' w w' k k' (seen old) (seen new) rest count → BeginsWithNoMessage rest
    → ((seen old).is_down → new ≡ old) → ServesConnection seen r r' q q' w w' k k' old new (Err Read)
end_unread seen {w' = w'} old new rest g none idle =
    end_with seen old new (Err Read) g.turns rest [] [] g.read g.answered (Appends-nil w')
    (record { stays = g.stays; no_more = none; none_refused = refl; nothing = refl }, refl) (λ text. refl)
    idle

-- the answer to a message was the last
pub end_closed : {C : Type 0} (seen : C → Seen) {reason : Fault → C → C → Type 0}
    {r r' w w' w'' k k' k'' : Option (List ℕ)} {q q' : Option (List ReadCall)}
    {v v' : Option (List WriteCall)} (old now new : C) {count : ℕ} (all : List ℕ) (count' : ℕ) (p : Whole)
    → Going r r' w w' k k' (seen old) (seen now) all count → ((seen old).is_down → now ≡ old) → IsWhole all p
    → p.closes ≡ true → count' ≡ count + 1
    → TurnIsDealtWith seen reason w' w'' v v' k' k'' now new (asked p) (Ok tt)
    → ServesConnection seen r r' q q' w w'' k k'' old new (Ok count')
end_closed seen {r = r} {r' = r'} {w'' = w''} old now new all count' p g idle is last n d =
    let t : Turn = turn_of d.moment is in
    let ts = g.turns ++ t ∷ [] in
    let rest = drop p.length all in
    let closed : closes t.message.head ≡ true = sym (ap (λ (x : Asked). x.closes) is.asks) ∙ last in
    let walks : (more : List ℕ) → Walks (texts_of g.turns ++ (text_in t ++ more)) (messages_of ts) Closed =
    λ more. walks_after g.turns (t ∷ []) (text_in t ++ more) Closed g.stays
    (walks_closed t more is.whole closed) in
    end_with seen old new (Ok count') ts rest [] [] (read_one_more r r' g.turns t all rest g.read is.front)
    (answered_more g.turns (t ∷ []) g.answered
    (answered_one t (asked p) is.asks d.clock d.dealt.honest d.dealt.answers))
    (Appends-nil w'') (
      record {
        ending = Closed;
        walks = subst (λ (x : List ℕ). Walks x (messages_of ts) Closed) (sym (texts_one_more g.turns t rest))
            (walks rest);
        last_is = refl;
        ended = inr (λ more. subst (λ (x : List ℕ). Walks x (messages_of ts) Closed)
            (sym (ap (λ (x : List ℕ). x ++ more) (texts_one_more g.turns t rest)
            ∙ append_assoc (texts_of g.turns) (text_in t ++ rest) more
            ∙ ap (λ (x : List ℕ). texts_of g.turns ++ x) (append_assoc (text_in t) rest more)))
            (walks (rest ++ more)));
        none_refused = refl;
      },
      omega (arith, n, g.count_is, length-append g.turns (t ∷ [])),
      refl,
    ) (λ text. refl) (idle_after seen old now idle new d.dealt.idle)

-- ---- a 400

-- what remains is answered by a 400, since no more comes
pub short_walk : {r r' w w' k k' : Option (List ℕ)} {c c' : Seen} {count : ℕ} {shown : Bool}
    {has_ended : Type 0}
    (rest : List ℕ) (g : Going r r' w w' k k' c c' rest count) → IsUnfinished rest shown
    → has_ended → rest ≢ [] → IsWalked has_ended g.turns [] rest (refusal shown ∷ [])
short_walk rest g is ended some =
    record {
      ending = is.ending;
      walks = walks_end g.turns rest is.ending g.stays (is.ends some);
      last_is = sym is.answer;
      ended = inl ended;
      none_refused = refl;
    }

-- whatever comes
pub hopeless_walk : {r r' w w' k k' : Option (List ℕ)} {c c' : Seen} {count : ℕ} {shown : Bool}
    {has_ended : Type 0} (rest : List ℕ) (g : Going r r' w w' k k' c c' rest count) → IsHopeless rest shown
    → IsWalked has_ended g.turns [] rest (refusal shown ∷ [])
hopeless_walk rest g is =
    record {
      ending = is.ending;
      walks = walks_end g.turns rest is.ending g.stays
          (subst (λ (x : List ℕ). EndsWalk is.ending x) (append-nil rest) (is.ends []));
      last_is = sym is.answer;
      ended = inr (walks_always g.turns rest is.ending g.stays is.ends);
      none_refused = refl;
    }

-- nothing more was read, and what stands at the front of the buffer is answered by a 400
pub short_front : {r r' r'' w w' k k' : Option (List ℕ)} {c c' : Seen} {count : ℕ} {shown : Bool}
    {has_ended : Type 0} (old new : List ℕ) (filled n : ℕ)
    → Going r r' w w' k k' c c' (take filled old) count
    → ((bytes : List ℕ) × (take (filled + n) new ≡ take filled old ++ bytes) × Consumes r' r'' bytes)
    → n ≡ 0 → 0 < filled → filled ≤ length old → filled ≤ length new → IsUnfinished (take filled old) shown
    → has_ended
    → (g : Going r r'' w w' k k' c c' (take filled new) count)
    × IsWalked has_ended g.turns [] (take filled new) (refusal shown ∷ [])
short_front {shown = shown} old new filled n going got none many fits fits' waits ended =
    let same = same_front old new got.0 filled n none fits fits' got.1 in
    let g = going_filled old new filled filled n going got (omega arith) in
    let some : take filled new ≢ [] =
    λ e. let len = ap length e in absurd (omega (arith, len, length-take-le filled new fits')) in (
      g,
      short_walk (take filled new) g (subst (λ (t : List ℕ). IsUnfinished t shown) (sym same) waits) ended
          some,
    )

-- the input ended after what stands at the front of the buffer
pub short_read : {r r' r'' w w' k k' : Option (List ℕ)} {q q' q'' : Option (List ReadCall)} {c c' : Seen}
    {count calls : ℕ} {shown : Bool} (old new : List ℕ) (filled n : ℕ) (answer : Result ℕ Error)
    → Going r r' w w' k k' c c' (take filled old) count → answer ≡ Ok n → n ≡ 0
    → IfOk answer (λ m. (bytes : List ℕ) × (take (filled + m) new ≡ take filled old ++ bytes)
    × Consumes r' r'' bytes)
    → IfOk answer (λ m. m ≡ 0 → IsAtEnd r'')
    → HasMade q q' calls → GrowsBy q' q'' (read_call answer ∷ [])
    → 0 < filled → filled ≤ length old → length old ≡ length new → IsUnfinished (take filled old) shown
    → (g : Going r r'' w w' k k' c c' (take filled new) count)
    × IsWalked (HasEnded r'' q q'') g.turns [] (take filled new) (refusal shown ∷ [])
short_read old new filled n answer going is none ok end made tells some fits long waits =
    short_front old new filled n going (at_ok _ answer n is ok) none some fits (omega (arith, fits, long)) waits
    (ended_at answer n made tells is none end)

-- it was written
pub end_told : {C : Type 0} (seen : C → Seen) {r r' w w' w'' k k' : Option (List ℕ)}
    {q q' : Option (List ReadCall)} (old new : C) {count : ℕ}
    (shown : Bool) (count' : ℕ) (rest : List ℕ)
    (g : Going r r' w w' k k' (seen old) (seen new) rest count)
    → IsWalked (HasEnded r' q q') g.turns [] rest (refusal shown ∷ [])
    → ((n : ℕ) × Appends w' w'' (take n (refusal shown)) × (n ≡ length (refusal shown))) → count' ≡ count + 1
    → ((seen old).is_down → new ≡ old) → ServesConnection seen r r' q q' w w'' k k' old new (Ok count')
end_told seen {w' = w'} {w'' = w''} old new shown count' rest g walked wrote one idle =
    end_with seen old new (Ok count') g.turns rest (refusal shown ∷ []) (refusal shown) g.read g.answered
    (subst (λ (x : List ℕ). Appends w' w'' x) (take_all wrote.0 (refusal shown) (omega (arith, wrote.2)))
    wrote.1)
    (walked, omega (arith, one, g.count_is), refl)
    (λ text. ap (λ (x : List ℕ). text ++ x) (sym (append-nil (refusal shown)))) idle

-- it was written in part
pub end_untold : {C : Type 0} (seen : C → Seen) {r r' w w' w'' k k' : Option (List ℕ)}
    {q q' : Option (List ReadCall)} (old new : C)
    {count : ℕ} (shown : Bool) (n : ℕ) (rest : List ℕ)
    (g : Going r r' w w' k k' (seen old) (seen new) rest count)
    → IsWalked (HasEnded r' q q') g.turns [] rest (refusal shown ∷ [])
    → Appends w' w'' (take n (refusal shown))
    → ((seen old).is_down → new ≡ old) → ServesConnection seen r r' q q' w w'' k k' old new (Err Write)
end_untold seen old new shown n rest g walked wrote idle =
    end_with seen old new (Err Write) g.turns rest (refusal shown ∷ []) (take n (refusal shown)) g.read
    g.answered wrote (At_last walked refl)
    (λ text. written_part text (take n (refusal shown)) text (refusal shown ++ []) refl
    (front_of n (refusal shown)
    ∙ ap (take (length (take n (refusal shown)))) (sym (append-nil (refusal shown))))) idle

-- memory was refused before anything was read
pub untouched : {C : Type 0} (seen : C → Seen) {r : Option (List ℕ)} {q : Option (List ReadCall)}
    {w k : Option (List ℕ)} (c : C)
    → ServesConnection seen r r q q w w k k c c (Err Memory)
untouched seen {r = r} {w = w} c =
    end_with seen c c (Err Memory) [] [] [] [] (Consumes-nil r) answered_none (Appends-nil w)
    (record { none_taken = refl; none_refused = refl; no_rest = refl; nothing = refl }, refl) (λ text. refl)
    (λ down. refl)
