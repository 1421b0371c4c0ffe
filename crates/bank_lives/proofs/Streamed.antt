-- What each stream says, as a call of the counter's life.
use Rattle.std.proofs.Common.{◌≡◌, ◌≤◌, ℕ, List, [], ◌++◌, length, take, drop, Option, Result, Ok, Err, refl, sym, ap}
use Rattle.std.proofs.Common.{subst, ◌∙◌, arith, append-nil, length-append, length-take, inl, inr}
use Rattle.std.proofs.lemmas.List.Concat.{flat_map-append}
use Rattle.std.specs.Prelude.{IfErr}
use Rattle.posting_rules.specs.{declared.fault.Fault.Fault, believed.Commands.Command, believed.Tables.AreTablesOf}
use Rattle.posting_rules.specs.declared.fault.Fault.TheVariants.{Memory, Store, Down, Damaged}
use Rattle.posting_rules.specs.believed.Counter.{Seen, StandsAt, LeavesOnly, ShowsPrefix, ShowsLog, Takes, Refuses}
use Rattle.posting_rules.specs.believed.Counter.{IsSeenUnchanged}
use Rattle.posting_rules.specs.believed.Runs.{followed_by, replies_to}
use Rattle.posting_rules.proofs.{Remaining.leaves_still, Remaining.leaves_weaker, Sequence.one_reply_each}
use Rattle.posting_rules.proofs.Sequence.{replies_to-append}
use Rattle.posting_core.specs.believed.Batches.{joined, posts_in, posts_of}
use Rattle.posting_core.specs.believed.Stream.{IfBank, IsRefusedAfterBatches, Streamed, acknowledged}
use Rattle.posting_core.specs.believed.EndCalls.{ReadCall}
use Rattle.posting_core.specs.declared.stream.StreamFault.{StreamFault}
use Rattle.posting_core.specs.declared.stream.StreamFault.TheVariants as stream
use Rattle.posting_core.proofs.{Batched.all_posts, Output.few_acknowledged, Stops.at_least, Stops.stop_part}
use Rattle.counter_http.specs.{believed.Outputs.acknowledged_records, declared.fault.ServeFault.ServeFault}
use Rattle.counter_http.specs.believed.Serving.{Exits, At_message, At_last, At_refusal, ServesConnection}
use Rattle.counter_http.specs.believed.Turns.{Turn, commands_of, answers_to}
use Rattle.counter_http.specs.declared.fault.ServeFault.TheVariants as serving
use Rattle.counter_http.specs.{Clients.ClientsCall, Connections.Known}
use Rattle.counter_http.specs.together.{Order.steps_of, Order.submitted_by, Tracing.ServesTogether}
use Rattle.counter_http.specs.declared.listen_fault.ListenFault.{ListenFault}
use Rattle.counter_http.specs.declared.listen_fault.ListenFault.TheVariants as listening
use Rattle.counter_http.proofs.Outputs.{commands_of_first}
use Rattle.branch_loader.specs.believed.Loading.{IsRefusedAfter}
use Rattle.load_driver.specs.believed.Drives.{Drives, EndsDrive}
use Rattle.load_driver.specs.declared.{drive.Driven.Driven, drive_fault.DriveFault.DriveFault}
use Rattle.load_driver.specs.declared.drive_fault.DriveFault.TheVariants as driving
use Rattle.bank_lives.specs.believed.Lives.{IsStream}
use Rattle.bank_lives.proofs.Calls.{still, stood_is_call}

-- ---- in general

-- it stands after what it took
stood_is_stream : (old new : Seen) (taken refused : List Command) → (old.is_down → ⊥)
    → (new.honest → old.honest)
    → (new.honest → (log : List Command) → StandsAt old log → StandsAt new (followed_by log taken))
    → IsStream old new taken refused
stood_is_stream old new taken refused up honest stands = record {
  tried = [];
  which = inr refl;
  call = rw (append-nil taken) (stood_is_call old new taken up honest stands);
}

-- it went down over what was refused
cut_is_stream : (old new : Seen) (taken refused : List Command) → (old.is_down → ⊥)
    → (new.honest → old.honest)
    → (new.honest → (log : List Command) → StandsAt old log → new.is_down)
    → (new.honest → (log : List Command) → StandsAt old log
    → LeavesOnly new (ShowsPrefix log (taken ++ refused) (length taken)))
    → IsStream old new taken refused
cut_is_stream old new taken refused up honest down survives = record {
  tried = refused;
  which = inl refl;
  call = record {
    within = omega (arith, length-append taken refused);
    honest = honest;
    survives = survives;
    stands = λ h log stood. inr (down h log stood);
    down = λ was. absurd (up was);
  };
}

-- nothing changed after what was taken
unchanged_stands : (stood new : Seen) (log : List Command) → IsSeenUnchanged stood new → StandsAt stood log
    → StandsAt new log
unchanged_stands stood new log same at = still stood new log at same.down
    (λ s. record {
      commands = s.commands;
      tables = s.tables;
      are = same.tables s.tables s.are;
      shows = s.shows;
    })
    (leaves_still stood new (λ t. AreTablesOf t log) same.left)

-- it took some, stood there, and refused others
refused_is_stream : (fault : Fault) (old stood new : Seen) (taken refused : List Command)
    → Takes old stood taken → Refuses fault stood new refused → (old.is_down → ⊥)
    → (new.honest → old.honest) → (new.honest → stood.honest) → IsStream old new taken refused
refused_is_stream Memory old stood new taken refused takes refuses up whole honest =
    stood_is_stream old new taken refused up whole
    (λ h log at. unchanged_stands stood new (followed_by log taken) refuses (takes.stands (honest h) log at))
refused_is_stream Store old stood new taken refused takes refuses up whole honest =
    cut_is_stream old new taken refused up whole (λ h log at. refuses.down)
    (λ h log at. stop_part new log taken refused (taken ++ refused) refl
    (refuses.survives h (followed_by log taken) (takes.stands (honest h) log at)))
refused_is_stream Down old stood new taken refused takes refuses up whole honest =
    cut_is_stream old new taken refused up whole (λ h log at. refuses.after)
    (λ h log at. absurd ((takes.stands (honest h) log at).up refuses.before))
refused_is_stream (Damaged rule) old stood new taken refused takes refuses up whole honest =
    cut_is_stream old new taken refused up whole (λ h log at. refuses.down)
    (λ h log at. absurd (refuses.never_shown h (followed_by log taken) (takes.stands (honest h) log at).shows))

-- it took some, and is as it stood then
stays_is_stream : {C : Type 0} (seen : C → Seen) (old stood new : C) (taken refused : List Command)
    → new ≡ stood → Takes (seen old) (seen stood) taken → ((seen old).is_down → ⊥)
    → ((seen stood).honest → (seen old).honest) → IsStream (seen old) (seen new) taken refused
stays_is_stream seen old stood new taken refused same takes up honest =
    subst (λ x. IsStream (seen old) (seen x) taken refused) (sym same)
    (stood_is_stream (seen old) (seen stood) taken refused up honest takes.stands)

-- ---- a stream of records

module _ {C : Type 0} (seen : C → Seen) (reason : Fault → C → C → Type 0) (old new : C)
    (r r' w w' k k' : Option (List ℕ)) where
  pub posted_is_stream : (result : Result ℕ StreamFault)
      (did : Streamed r r' w w' k k' (seen old) (seen new) result)
      → IfErr result (λ fault. IfBank fault (IsRefusedAfterBatches seen reason old new r r'))
      → ((seen old).is_down → ⊥)
      → IsStream (seen old) (seen new) (posts_of did.taken) (posts_of did.refused)
  posted_is_stream (Err (stream.Bank Store)) did refused up =
      cut_is_stream (seen old) (seen new) (posts_of did.taken) (posts_of did.refused) up did.honest
      (λ h log at. refused.refuses.down)
      (λ h log at. rw (sym (flat_map-append posts_in did.taken did.refused)) (did.survives h log at))
  posted_is_stream (Err (stream.Bank Down)) did refused up =
      cut_is_stream (seen old) (seen new) (posts_of did.taken) (posts_of did.refused) up did.honest
      (λ h log at. refused.refuses.after)
      (λ h log at. rw (sym (flat_map-append posts_in did.taken did.refused)) (did.survives h log at))
  posted_is_stream (Err (stream.Bank (Damaged rule))) did refused up =
      cut_is_stream (seen old) (seen new) (posts_of did.taken) (posts_of did.refused) up did.honest
      (λ h log at. refused.refuses.down)
      (λ h log at. rw (sym (flat_map-append posts_in did.taken did.refused)) (did.survives h log at))
  posted_is_stream other did refused up =
      stood_is_stream (seen old) (seen new) (posts_of did.taken) (posts_of did.refused) up did.honest did.stands

few_written : (result : Result ℕ StreamFault) {r r' w w' k k' : Option (List ℕ)} {c c' : Seen}
    (did : Streamed r r' w w' k k' c c' result) (log : List Command) → c'.honest → ShowsLog c log
    → length did.written ≤ length (joined (replies_to log (posts_of did.taken)))
few_written (Err stream.Write) did log h shows =
    omega (
      arith,
      ap length (did.replies h log shows),
      length-take (length did.written) (joined (replies_to log (posts_of did.taken))),
    )
few_written other did log h shows = let e = ap length (did.replies h log shows) in omega arith

pub acknowledged_is_taken : (result : Result ℕ StreamFault) {r r' w w' k k' : Option (List ℕ)} {c c' : Seen}
    (did : Streamed r r' w w' k k' c c' result) (log : List Command) → c'.honest → ShowsLog c log
    → acknowledged (replies_to log (posts_of (did.taken ++ did.refused))) (length did.written)
    ≤ length (posts_of did.taken)
acknowledged_is_taken result did log h shows =
    let taken = posts_of did.taken in
    let split = ap (replies_to log) (flat_map-append posts_in did.taken did.refused)
    ∙ replies_to-append log taken (posts_of did.refused) in
    let few = few_acknowledged (replies_to log taken) (replies_to (followed_by log taken) (posts_of did.refused))
    (length did.written) (few_written result did log h shows) in
    rw split (omega (arith, few, one_reply_each log taken (all_posts did.taken)))

-- ---- a connection

module _ {C : Type 0} (seen : C → Seen) (E : Type 0) (old new : C) where
  pub served_exit : (result : Result ℕ ServeFault) (stood : C) (taken refused : List Turn) (rest : List ℕ)
      (last : List (List ℕ))
      → Takes (seen old) (seen stood) (commands_of taken) → ((seen old).is_down → ⊥)
      → ((seen stood).honest → (seen old).honest) → ((seen new).honest → (seen stood).honest)
      → Exits seen result E old stood new taken refused rest last
      → IsStream (seen old) (seen new) (commands_of taken) (commands_of refused)
  served_exit (Ok count) stood taken refused rest last takes up first honest exits =
      stays_is_stream seen old stood new (commands_of taken) (commands_of refused) exits.2 takes up first
  served_exit (Err serving.Read) stood taken refused rest last takes up first honest exits =
      stays_is_stream seen old stood new (commands_of taken) (commands_of refused) exits.1 takes up first
  served_exit (Err serving.Write) stood taken refused rest last takes up first honest (At_message at same) =
      stays_is_stream seen old stood new (commands_of taken) (commands_of refused) same takes up first
  served_exit (Err serving.Write) stood taken refused rest last takes up first honest (At_last at same) =
      stays_is_stream seen old stood new (commands_of taken) (commands_of refused) same takes up first
  served_exit (Err serving.Write) stood taken refused rest last takes up first honest
      (At_refusal at fault refuses) =
      refused_is_stream fault (seen old) (seen stood) (seen new) (commands_of taken) (commands_of refused) takes
      refuses up (λ h. first (honest h)) honest
  served_exit (Err (serving.Bank fault)) stood taken refused rest last takes up first honest exits =
      refused_is_stream fault (seen old) (seen stood) (seen new) (commands_of taken) (commands_of refused) takes
      exits.1 up (λ h. first (honest h)) honest
  served_exit (Err serving.Memory) stood taken refused rest last takes up first honest exits =
      let none = exits.0.none_taken in
      subst (λ x. IsStream (seen old) (seen x) (commands_of taken) (commands_of refused)) (sym exits.1)
      (subst (λ x. IsStream (seen old) (seen old) (commands_of x) (commands_of refused)) (sym none)
      (stood_is_stream (seen old) (seen old) [] (commands_of refused) up (λ h. h) (λ h log at. at)))

-- a crash leaves all records of which a byte of the answer was written
pub answered_left : {C : Type 0} (seen : C → Seen) {r r' : Option (List ℕ)} {q q' : Option (List ReadCall)}
    {w w' k k' : Option (List ℕ)} (old new : C) (result : Result ℕ ServeFault)
    (did : ServesConnection seen r r' q q' w w' k k' old new result) (log : List Command)
    → (seen new).honest → StandsAt (seen old) log
    → LeavesOnly (seen new) (ShowsPrefix log (commands_of (did.taken ++ did.refused))
    (acknowledged_records log did.taken (length did.written)))
answered_left seen old new result did log h stood = leaves_weaker (seen new) _ _
    (λ t b. at_least log (commands_of (did.taken ++ did.refused)) (length (commands_of did.taken)) _ t
    (commands_of_first (acknowledged (answers_to log did.taken) (length did.written)) did.taken) b)
    (did.survives h log stood)

-- ---- clients that are served at once

pub listened_is_stream : {C E : Type 0} (seen : C → Seen) (reason : Fault → C → C → Type 0) (known : E → Known)
    (g g' : Option (List (ClientsCall E))) (k k' : Option (List ℕ)) (old new : C) (count : ℕ)
    (result : Result (Unit {0}) ListenFault)
    (did : ServesTogether seen reason known g g' k k' old new count result) → ((seen old).is_down → ⊥)
    → IsStream (seen old) (seen new) (submitted_by (steps_of did.rounds)) (submitted_by did.refused)
listened_is_stream seen reason known g g' k k' old new count (Err (listening.Bank fault)) did up =
    refused_is_stream fault (seen old) (seen did.stood) (seen new) (submitted_by (steps_of did.rounds))
    (submitted_by did.refused) did.takes did.ends up (λ h. did.honest_first (did.honest h)) did.honest
listened_is_stream seen reason known g g' k k' old new count (Err listening.Network) did up =
    stays_is_stream seen old did.stood new (submitted_by (steps_of did.rounds)) (submitted_by did.refused)
    did.ends.1 did.takes up did.honest_first
listened_is_stream seen reason known g g' k k' old new count (Ok done) did up =
    stays_is_stream seen old did.stood new (submitted_by (steps_of did.rounds)) (submitted_by did.refused)
    did.ends.1 did.takes up did.honest_first

-- ---- openings, and a drive

module _ {C : Type 0} (seen : C → Seen) (old new : C) where
  pub loaded_is_stream : (openings : List Command) (fault : Fault) (answered : ℕ)
      → IsRefusedAfter seen old new openings fault answered → ((seen old).is_down → ⊥)
      → ((seen new).honest → (seen old).honest)
      → IsStream (seen old) (seen new) (take answered openings) (take 1 (drop answered openings))
  loaded_is_stream openings fault answered did up honest =
      refused_is_stream fault (seen old) (seen did.stood) (seen new) (take answered openings)
      (take 1 (drop answered openings)) did.taken did.refused up honest did.honest

  pub drive_end : (result : Result Driven DriveFault) (k k' : Option (List ℕ)) (seed count : ℕ)
      (did : Drives seen old new k k' seed count result)
      → EndsDrive seen old did.submits.stood new did.rows count did.submits.taken did.submits.refused result
      → ((seen old).is_down → ⊥)
      → IsStream (seen old) (seen new) (posts_of did.submits.taken) (posts_of did.submits.refused)
  drive_end (Ok driven) k k' seed count did ends up =
      let s = did.submits in
      stays_is_stream seen old s.stood new (posts_of s.taken) (posts_of s.refused) ends.stays s.takes up
      s.honest_first
  drive_end (Err driving.NoBranches) k k' seed count did ends up =
      let s = did.submits in
      stays_is_stream seen old s.stood new (posts_of s.taken) (posts_of s.refused) ends.stays s.takes up
      s.honest_first
  drive_end (Err (driving.Bank fault)) k k' seed count did ends up =
      let s = did.submits in
      refused_is_stream fault (seen old) (seen s.stood) (seen new) (posts_of s.taken) (posts_of s.refused)
      s.takes ends.refuses up (λ h. s.honest_first (s.honest h)) s.honest
