-- A bank goes along a shared log, step by step.
use Rattle.std.proofs.Common.{◌≡◌, ◌≤◌, ◌+◌, ◌/◌, ◌++◌, ◌∙◌, ℕ, zero, suc, false, leb, min, List, [], ◌∷◌, length, take, drop}
use Rattle.std.proofs.Common.{Option, Some, None, Result, Ok, Err, refl, sym, ap, subst, arith, inl, inr, append-nil, append_assoc}
use Rattle.std.specs.{Prelude.IfOk, Prelude.IfSome, Simd.first_chunks}
use Rattle.std.proofs.{Math.Seq.take-append-add, lemmas.Bool.Decides.leb_tells}
use Rattle.std.proofs.lemmas.List.{length-append, length-take-le, take-append-drop, take-append-le, take_all}
use Rattle.message_records.specs.believed.{Reading.request_of}
use Rattle.posting_rules.specs.believed.{Commands.AreCommands, Commands.Command, Commands.Open, Commands.Post, Commands.Close, Commands.opened}
use Rattle.posting_rules.specs.believed.{Entries.decided, Runs.followed_by, Tables.AreTablesOf}
use Rattle.posting_rules.specs.believed.Counter.{Seen, ShowsLog, Takes}
use Rattle.posting_rules.proofs.{CounterCalls.Takes-append, CounterCalls.takes_none, Sequence.after-append}
use Rattle.posting_core.specs.believed.LogEntries.{AnsweredRequest, entries_given, log_entries}
use Rattle.branch_loader.specs.Following.{HasFollowed, planned}
use Rattle.branch_loader.specs.believed.Plans.{Rows}
use Rattle.branch_loader.proofs.Following.{posts-append}
use Rattle.shared_log.specs.Joined.{AllAre, FirstAre, GoesAlong, HasCaughtUp, HasJoined, HasSent, HasTakenGiven, IsAsked}
use Rattle.shared_log.specs.Known.{HoldsOn, Known, with_more}
use Rattle.shared_log.specs.Published.{AreKnown}
use Rattle.shared_log.specs.Replicated.{replicated_seen}
use Rattle.shared_log.specs.declared.joining.JoinFault.{JoinFault}
use Rattle.shared_log.specs.declared.replicated.Replicated.{Replicated}
use Rattle.shared_log.proofs.{Entries.record_grows, Same.leaves_up}
use Rattle.shared_log.proofs.Appends.{cut_given}
use Rattle.posting_rules.specs.believed.Closings.{closings}

-- ---- what is asked at a place

take_take : (n m : ℕ) (xs : List (List ℕ)) → n ≤ m → take n (take m xs) ≡ take n xs
take_take zero m xs low = refl
take_take (suc n) zero xs low = absurd (omega (arith, low))
take_take (suc n) (suc m) [] low = refl
take_take (suc n) (suc m) (x ∷ xs) low = ap (λ (l : List (List ℕ)). x ∷ l) (take_take n m xs (omega (arith, low)))

pub take_down : (n m : ℕ) (xs ys : List (List ℕ)) → n ≤ m → take m xs ≡ take m ys → take n xs ≡ take n ys
take_down n m xs ys low same = sym (take_take n m xs low) ∙ ap (take n) same ∙ take_take n m ys low

some_none : {X : Type 0} (x : X) → (let one : Option X = Some x in one) ≡ None → ⊥
some_none x is = cc

given_within : (log : List Command) (place : ℕ) (bytes : List ℕ)
    → (let one : Option (List ℕ) = Some bytes in one) ≡ entries_given log place → place ≤ length (log_entries log)
unfolding entries_given
given_within log place bytes given = elim (leb_tells place (length (log_entries log))) [
  | inl within ↦ within.1
  | inr out ↦
      let few : leb place (length (log_entries log)) ≡ false = out.0 in
      let none : entries_given log place ≡ None = rw few refl in
      absurd (some_none bytes (given ∙ none))
]

take_parts : (n k : ℕ) (xs : List (List ℕ)) → n ≤ length xs → take (n + k) xs ≡ take n xs ++ take k (drop n xs)
take_parts n k xs low =
    let long : length (take n xs) ≡ n = length-take-le n xs low in
    ap (take (n + k)) (sym (take-append-drop n xs))
    ∙ ap (λ (m : ℕ). take (m + k) (take n xs ++ drop n xs)) (sym long)
    ∙ take-append-add (take n xs) (drop n xs) k

take_fewer : (n m : ℕ) (xs : List (List ℕ)) → n ≤ length (take m xs) → take n (take m xs) ≡ take n xs
take_fewer n m xs low =
    sym (take-append-le n (take m xs) (drop m xs) low) ∙ ap (take n) (take-append-drop m xs)

pub asked_has : (log : List Command) (place : ℕ) (bytes : List ℕ) (chunks given : List (List ℕ)) (had : ℕ)
    → AreCommands log → (let one : Option (List ℕ) = Some bytes in one) ≡ entries_given log place
    → chunks ≡ first_chunks 308 (length bytes / 308) bytes → had ≡ min (length chunks) (length given)
    → take had chunks ≡ take had given
    → (place ≤ length (log_entries log))
    × (take (place + had) (log_entries log) ≡ take place (log_entries log) ++ take had given)
asked_has log place bytes chunks given had are told cut few alike =
    let entries = log_entries log in
    let within = given_within log place bytes told in
    let long : length (take place entries) ≡ place = length-take-le place entries within in
    let next : chunks ≡ take 192 (drop place entries) =
    cut_given log (take place entries) (drop place entries) place bytes chunks are (sym long)
    (sym (take-append-drop place entries)) told cut in
    let low : had ≤ length (take 192 (drop place entries)) = omega (arith, few, ap length next) in (
      within,
      take_parts place had entries within
          ∙ ap (λ (l : List (List ℕ)). take place entries ++ l)
          (sym (take_fewer had 192 (drop place entries) low) ∙ ap (take had) (sym next) ∙ alike),
    )

pub asked : {C : Type 0} (seen : C → Seen) (spares : C → C → Type 0) (old new : C) (place : ℕ) (given : List (List ℕ))
    (bytes : List ℕ) (chunks : List (List ℕ)) (result : Result ℕ JoinFault) → Takes (seen old) (seen new) []
    → ((seen new).honest → (seen old).honest) → ((seen new).is_down → ⊥) → spares old new
    → ((seen new).honest → (log : List Command) → ShowsLog (seen old) log
    → (let one : Option (List ℕ) = Some bytes in one) ≡ entries_given log place)
    → chunks ≡ first_chunks 308 (length bytes / 308) bytes
    → IfOk result (λ n. n ≡ min (length chunks) (length given)) → IfOk result (λ n. take n chunks ≡ take n given)
    → IfOk result (IsAsked seen spares old new place given)
asked seen spares old new place given bytes chunks (Ok had) takes honest up others told cut count alike = record {
  takes = takes;
  honest = honest;
  up = up;
  others = others;
  few = omega (arith, count);
  has = λ h log s. asked_has log place bytes chunks given had s.commands (told h log s) cut count alike;
}
asked seen spares old new place given bytes chunks (Err fault) takes honest up others told cut count alike = tt

-- ---- commands only add entries

pub record More (old new : List (List ℕ)) : Type 0 where
  pub added : List (List ℕ)
  pub are : new ≡ old ++ added

pub commands_grow : (cs log : List Command) → More (log_entries log) (log_entries (followed_by log cs))
commands_grow [] log = record { added = []; are = sym (append-nil (log_entries log)) }
commands_grow (Open b terms ∷ cs) log =
    let more = commands_grow cs (Open b terms ∷ log) in record { added = more.added; are = more.are }
commands_grow (Close first last ∷ cs) log =
    let more = commands_grow cs (Close first last ∷ log) in record { added = more.added; are = more.are }
commands_grow (Post m bytes ∷ cs) log =
    let one = record_grows (λ b. opened log b) (closings log) (decided log) m (request_of bytes) in
    let more = commands_grow cs (Post m bytes ∷ log) in
    record {
      added = one.added ++ more.added;
      are = more.are ∙ ap (λ (l : List (List ℕ)). l ++ more.added) one.are
          ∙ append_assoc (log_entries log) one.added more.added;
    }

first_stay : (n : ℕ) (cs log : List Command) → n ≤ length (log_entries log)
    → take n (log_entries (followed_by log cs)) ≡ take n (log_entries log)
first_stay n cs log low =
    let more = commands_grow cs log in
    ap (take n) more.are ∙ take-append-le n (log_entries log) more.added low

-- of the entries behind the first ones, these were appended
abbrev pub SomeAre : (old new : Seen) → (k k' : Known) → Type 0
SomeAre old new None k' = k' ≡ None
SomeAre old new (Some entries) k' = new.honest → (log : List Command) → ShowsLog old log
    → (added : List (List ℕ)) → log_entries log ≡ entries ++ added
    → (sent : List (List ℕ)) × (rest : List (List ℕ)) × (added ≡ sent ++ rest) × (k' ≡ Some (entries ++ sent))

module _ {C : Type 0} (seen : C → Seen) (spares : C → C → Type 0) (rows : Rows)
    (then : (a b c : C) → spares a b → spares b c → spares a c) where
  -- ---- one after another

  pub went_none : (c : C) → spares c c → GoesAlong seen spares rows c c []
  went_none c same = record { entries = []; are = refl; takes = takes_none (seen c); honest = λ h. h; others = same }

  pub went_more : (a b c : C) (xs ys : List Command) → GoesAlong seen spares rows a b xs → GoesAlong seen spares rows b c ys
      → GoesAlong seen spares rows a c (xs ++ ys)
  went_more a b c xs ys one two = record {
    entries = one.entries ++ two.entries;
    are = posts-append (planned rows) one.entries two.entries xs ys one.are two.are;
    takes = Takes-append (seen a) (seen b) (seen c) xs ys one.takes two.takes two.honest;
    honest = λ h. one.honest (two.honest h);
    others = then a b c one.others two.others;
  }

  -- ---- entries that were given

  pub had_all : (old new : C) (place had : ℕ) (given : List (List ℕ)) → IsAsked seen spares old new place given had
      → had ≡ length given → HasTakenGiven seen spares rows old new place given
  had_all old new place had given it all = record {
    commands = [];
    went = record { entries = []; are = refl; takes = it.takes; honest = it.honest; others = it.others };
    up = it.up;
    has = λ h log s.
        let is = it.has h log s in
        ap (λ (n : ℕ). take (place + n) (log_entries log)) (sym all)
        ∙ is.1
        ∙ ap (λ (l : List (List ℕ)). take place (log_entries log) ++ l) (take_all had given (omega (arith, all)));
  }

  pub had_then_followed : (old one two new : C) (place had has : ℕ) (given : List (List ℕ))
      (entries : List AnsweredRequest)
      → IsAsked seen spares old one place given had → HasFollowed seen spares rows one two entries []
      → IsAsked seen spares two new place given has → has ≡ length given
      → HasTakenGiven seen spares rows old new place given
  had_then_followed old one two new place had has given entries first did last all =
      let cs = did.commands in
      record {
        commands = cs;
        went = record {
          entries = entries;
          are = did.taken.are;
          takes = record {
            shows = λ h log s. last.takes.shows h (followed_by log cs)
                (did.taken.takes.shows (last.honest h) log (first.takes.shows (did.taken.honest (last.honest h)) log s));
            stands = λ h log s. last.takes.stands h (followed_by log cs)
                (did.taken.takes.stands (last.honest h) log (first.takes.stands (did.taken.honest (last.honest h)) log s));
          };
          honest = λ h. first.honest (did.taken.honest (last.honest h));
          others = then old two new (then old one two first.others did.taken.others) last.others;
        };
        up = last.up;
        has = λ h log s.
            let h_one = did.taken.honest (last.honest h) in
            let s_one = first.takes.shows h_one log s in
            let s_two = did.taken.takes.shows (last.honest h) log s_one in
            let low = (first.has h_one log s).0 in
            ap (λ (n : ℕ). take (place + n) (log_entries (followed_by log cs))) (sym all)
            ∙ (last.has h (followed_by log cs) s_two).1
            ∙ ap (λ (l : List (List ℕ)). l ++ take has given) (first_stay place cs log low)
            ∙ ap (λ (l : List (List ℕ)). take place (log_entries log) ++ l) (take_all has given (omega (arith, all)));
      }

  -- ---- up to what is known

  pub first_none : (c : C) (known : Known) → IfSome known (λ entries. entries ≡ []) → FirstAre (seen c) (seen c) [] known
  first_none c None none = tt
  first_none c (Some entries) none = λ h log s. rw none refl

  pub first_more : (a b c : C) (xs ys : List Command) (known known' : Known) (place : ℕ) (given : List (List ℕ))
      → FirstAre (seen a) (seen b) xs known → Takes (seen a) (seen b) xs
      → IfSome known (λ entries. place ≡ length entries) → known' ≡ with_more known given
      → ((seen c).honest → (seen b).honest)
      → ((seen c).honest → (log : List Command) → ShowsLog (seen b) log
      → take (place + length given) (log_entries (followed_by log ys)) ≡ take place (log_entries log) ++ given)
      → FirstAre (seen a) (seen c) (xs ++ ys) known'
  first_more a b c xs ys None known' place given first takes at grown honest has =
      subst (λ (k : Known). FirstAre (seen a) (seen c) (xs ++ ys) k) (sym grown) tt
  first_more a b c xs ys (Some entries) known' place given first takes at grown honest has =
      subst (λ (k : Known). FirstAre (seen a) (seen c) (xs ++ ys) k) (sym grown)
      (λ h log s.
      let shown = takes.shows (honest h) log s in
      ap (λ (l : List Command). take (length (entries ++ given)) (log_entries l)) (after-append log xs ys)
      ∙ ap (λ (n : ℕ). take n (log_entries (followed_by (followed_by log xs) ys)))
      (let all : length (entries ++ given) ≡ place + length given = omega (arith, length-append entries given, at) in all)
      ∙ has h (followed_by log xs) shown
      ∙ ap (λ (n : ℕ). take n (log_entries (followed_by log xs)) ++ given) at
      ∙ ap (λ (l : List (List ℕ)). l ++ given) (first (honest h) log s))

  -- ---- what only the bank has

  pub some_none_yet : (c : C) (k : Known) → SomeAre (seen c) (seen c) k k
  some_none_yet c None = refl
  some_none_yet c (Some entries) = λ h log s added is.
      ([], added, refl, ap (λ (l : List (List ℕ)). let one : Known = Some l in one) (sym (append-nil entries)))

  module _ (a b c : C) (k k' k'' : Known) (takes : Takes (seen a) (seen b) []) (honest : (seen c).honest → (seen b).honest)
    where
      pub some_more : (count : ℕ) → SomeAre (seen a) (seen b) k k' → AreKnown (seen b) (seen c) k' k'' count
          → SomeAre (seen a) (seen c) k k''
      some_more count = by k k'
        where
          by : (k k' : Known) → SomeAre (seen a) (seen b) k k' → AreKnown (seen b) (seen c) k' k'' count
              → SomeAre (seen a) (seen c) k k''
          by None k' none more =
              (subst (λ (x : Known). AreKnown (seen b) (seen c) x k'' count) none more)
          by (Some entries) k' some more = λ h log s added is.
              let before = some (honest h) log s added is in
              let shown = takes.shows (honest h) log s in
              let split : added ≡ before.0 ++ before.1 = before.2 in
              let known : AreKnown (seen b) (seen c) (Some (entries ++ before.0)) k'' count =
              subst (λ (x : Known). AreKnown (seen b) (seen c) x k'' count) before.3 more in
              let all : log_entries log ≡ (entries ++ before.0) ++ before.1 =
              is ∙ ap (λ (l : List (List ℕ)). entries ++ l) split ∙ sym (append_assoc entries before.0 before.1) in
              let next = known h log shown before.1 all in (
                before.0 ++ take 192 before.1,
                drop 192 before.1,
                split ∙ ap (λ (l : List (List ℕ)). before.0 ++ l) (sym (take-append-drop 192 before.1))
                    ∙ sym (append_assoc before.0 (take 192 before.1) (drop 192 before.1)),
                next.0 ∙ ap (λ (l : List (List ℕ)). let one : Known = Some l in one)
                    (append_assoc entries before.0 (take 192 before.1)),
              )

      pub all_now : SomeAre (seen a) (seen b) k k' → AreKnown (seen b) (seen c) k' k'' 0 → AllAre (seen a) (seen c) k k''
      all_now = by k k'
        where
          none_left : (xs : List (List ℕ)) → 0 ≡ length (take 192 xs) → xs ≡ []
          none_left [] is = refl
          none_left (x ∷ xs) is = absurd (omega (arith, is))

          by : (k k' : Known) → SomeAre (seen a) (seen b) k k' → AreKnown (seen b) (seen c) k' k'' 0
              → AllAre (seen a) (seen c) k k''
          by None k' none more = subst (λ (x : Known). AreKnown (seen b) (seen c) x k'' 0) none more
          by (Some entries) k' some more = λ h log s added is.
              let before = some (honest h) log s added is in
              let shown = takes.shows (honest h) log s in
              let split : added ≡ before.0 ++ before.1 = before.2 in
              let known : AreKnown (seen b) (seen c) (Some (entries ++ before.0)) k'' 0 =
              subst (λ (x : Known). AreKnown (seen b) (seen c) x k'' 0) before.3 more in
              let all : log_entries log ≡ (entries ++ before.0) ++ before.1 =
              is ∙ ap (λ (l : List (List ℕ)). entries ++ l) split ∙ sym (append_assoc entries before.0 before.1) in
              let next = known h log shown before.1 all in
              let empty : before.1 ≡ [] = none_left before.1 next.1 in
              next.0 ∙ ap (λ (l : List (List ℕ)). let one : Known = Some ((entries ++ before.0) ++ take 192 l) in one) empty
              ∙ ap (λ (l : List (List ℕ)). let one : Known = Some ((entries ++ before.0) ++ l) in one) (sym empty)
              ∙ ap (λ (l : List (List ℕ)). let one : Known = Some l in one) (sym all)

pub has_sent : {C : Type 0} (seen : C → Seen) (spares : C → C → Type 0) (a b c : C) (k k'' : Known)
    → Takes (seen a) (seen b) [] → Takes (seen b) (seen c) [] → ((seen b).honest → (seen a).honest)
    → ((seen c).honest → (seen b).honest) → ((seen c).is_down → ⊥) → spares a c → HoldsOn k k''
    → AllAre (seen a) (seen c) k k'' → HasSent seen spares a c k k''
has_sent seen spares a b c k k'' one two honest more up others holds all = record {
  takes = record {
    shows = λ h log s. two.shows h log (one.shows (more h) log s);
    stands = λ h log s. two.stands h log (one.stands (more h) log s);
  };
  honest = λ h. honest (more h);
  up = up;
  others = others;
  holds = holds;
  all = all;
}

-- ---- both

module _ {C L : Type 0} (seen : C → Seen) (known : L → Known) (spares : C → C → Type 0) (rows : Rows)
    (then : (a b c : C) → spares a b → spares b c → spares a c) where
  -- the entries of a log whose first ones were known, and which are all known then
  all_entries : (a b c : C) (cs log : List Command) (k k' : Known) → FirstAre (seen a) (seen b) cs k
      → AllAre (seen b) (seen c) k k' → (seen b).honest → (seen c).honest → ShowsLog (seen a) log
      → ShowsLog (seen b) (followed_by log cs) → IfSome k' (λ entries. log_entries (followed_by log cs) ≡ entries)
  all_entries a b c cs log None k' first all hb h s shown =
      subst (λ (k : Known). IfSome k (λ entries. log_entries (followed_by log cs) ≡ entries)) (sym all) tt
  all_entries a b c cs log (Some entries) k' first all hb h s shown =
      let whole = log_entries (followed_by log cs) in
      let parts : whole ≡ entries ++ drop (length entries) whole =
      sym (take-append-drop (length entries) whole)
      ∙ ap (λ (l : List (List ℕ)). l ++ drop (length entries) whole) (first hb log s) in
      subst (λ (k : Known). IfSome k (λ x. log_entries (followed_by log cs) ≡ x))
      (sym (all h (followed_by log cs) shown (drop (length entries) whole) parts)) refl

  pub joined_now : (old new : Replicated C L) (mid : C) (k : Known)
      → HasCaughtUp seen spares rows old.counter mid k → HasSent seen spares mid new.counter k (known new.log)
      → new.is_down ≡ false → HasJoined seen known spares rows old new
  joined_now old new mid k caught sent up =
      let cs = caught.commands in
      record {
        commands = cs;
        went = record {
          entries = caught.went.entries;
          are = caught.went.are;
          takes = record {
            shows = λ h log s. sent.takes.shows h (followed_by log cs) (caught.went.takes.shows (sent.honest h) log s);
            stands = λ h log s. sent.takes.stands h (followed_by log cs) (caught.went.takes.stands (sent.honest h) log s);
          };
          honest = λ h. caught.went.honest (sent.honest h);
          others = then old.counter mid new.counter caught.went.others sent.others;
        };
        up = up;
        stands = λ h log s.
            let h_mid = sent.honest h in
            let stood_mid = caught.went.takes.stands h_mid log s in
            let stood = sent.takes.stands h (followed_by log cs) stood_mid in
            record {
              shows = record {
                commands = stood.shows.commands;
                tables = stood.shows.tables;
                are = (
                  stood.shows.are,
                  record {
                    log = followed_by log cs;
                    commands = stood.shows.commands;
                    shows = stood.shows.shows;
                    held = all_entries old.counter mid new.counter cs log k (known new.log) caught.first sent.all h_mid h
                        s.shows stood_mid.shows;
                  },
                );
                shows = stood.shows.shows;
              };
              up = is_up sent.up;
              survives = leaves_up seen known new (λ t. AreTablesOf t (followed_by log cs)) stood.survives;
            };
      }
    where
      is_up : ((seen new.counter).is_down → ⊥) → (replicated_seen seen known new).is_down → ⊥
      is_up own (inl d) = absurd cc
      is_up own (inr d) = own d
