-- The entries that a counter gives after so many, as they are appended.
use Rattle.std.proofs.Common.{◌≡◌, ◌*◌, ◌/◌, ◌++◌, ◌∙◌, ℕ, zero, suc, true, leb, List, [], ◌∷◌, length, take, drop}
use Rattle.std.proofs.Common.{Option, Some, None, Result, Ok, Err, refl, sym, ap, subst, arith}
use Rattle.std.specs.{Prelude.IfSome, Simd.first_chunks}
use Rattle.std.proofs.lemmas.Bool.{le-leb}
use Rattle.std.proofs.lemmas.List.{drop_at, length-append, take_at}
use Rattle.posting_rules.specs.declared.fault.Fault.{Fault}
use Rattle.posting_rules.specs.believed.{Commands.AreCommands, Commands.Command, Runs.followed_by, Tables.AreTablesOf, Tables.Tables}
use Rattle.posting_rules.specs.believed.Counter.{IsCounterCall, LeavesOnly, Seen, ShowsLog, ShowsPrefix, StandsAt}
use Rattle.posting_rules.proofs.Remaining.{leaves_weaker}
use Rattle.posting_core.specs.believed.{Batches.joined, LogEntries.entries_given, LogEntries.log_entries}
use Rattle.posting_core.proofs.Stops.{refused_stop}
use Rattle.shared_log.specs.{Holding.holds_same, Holding.more_none, Settled.IsUnappended, declared.publishing.PublishFault.PublishFault}
use Rattle.shared_log.specs.declared.log.{LogFault.LogFault, LogFault.TheVariants.Memory, LogFault.TheVariants.Refused}
use Rattle.shared_log.specs.declared.log.LogFault.TheVariants.{Unanswered}
use Rattle.shared_log.specs.Known.{HoldsOn, Known, with_more}
use Rattle.shared_log.specs.Published.{AreKnown, HasPublished}
use Rattle.shared_log.proofs.Entries.{AreLong, entries_long}

-- ---- bytes cut into entries

pub joined_long : (xs : List (List ℕ)) → AreLong xs → length (joined xs) ≡ length xs * 308
joined_long [] long = refl
joined_long (x ∷ xs) long =
    let more = joined_long xs long.1 in
    let one = long.0 in
    omega (arith, length-append x (joined xs), more, one)

pub cut_again : (xs : List (List ℕ)) → AreLong xs → first_chunks 308 (length xs) (joined xs) ≡ xs
cut_again [] long = refl
cut_again (x ∷ xs) long =
    ap (λ (t : List ℕ). t ∷ first_chunks 308 (length xs) (drop 308 (x ++ joined xs))) (take_at x (joined xs) 308 long.0)
    ∙ ap (λ (t : List ℕ). x ∷ first_chunks 308 (length xs) t) (drop_at x (joined xs) 308 long.0)
    ∙ ap (λ (l : List (List ℕ)). x ∷ l) (cut_again xs long.1)

pub cut_up_again : (xs : List (List ℕ)) → AreLong xs → first_chunks 308 (length (joined xs) / 308) (joined xs) ≡ xs
cut_up_again xs long =
    let count : length (joined xs) / 308 ≡ length xs = omega (arith, joined_long xs long) in
    ap (λ (n : ℕ). first_chunks 308 n (joined xs)) count ∙ cut_again xs long

long_last : (xs ys : List (List ℕ)) → AreLong (xs ++ ys) → AreLong ys
long_last [] ys all = all
long_last (x ∷ xs) ys all = long_last xs ys all.1

-- ---- what is given after the first so many

some_same : {X : Type 0} (x y : X) → (let one : Option X = Some x in one) ≡ Some y → x ≡ y
some_same x y is = cc

pub given_is : (log : List Command) (front added : List (List ℕ)) (after : ℕ) (bytes : List ℕ) → after ≡ length front
    → log_entries log ≡ front ++ added → (let one : Option (List ℕ) = Some bytes in one) ≡ entries_given log after
    → bytes ≡ joined (take 192 added)
unfolding entries_given
given_is log front added after bytes at is given =
    let many : leb after (length (log_entries log)) ≡ true =
    le-leb after (length (log_entries log)) (omega (arith, at, ap length is, length-append front added)) in
    let one : entries_given log after ≡ Some (joined (take 192 (drop after (log_entries log)))) = rw many refl in
    some_same bytes (joined (take 192 (drop after (log_entries log)))) (given ∙ one)
    ∙ ap (λ (l : List (List ℕ)). joined (take 192 (drop after l))) is
    ∙ ap (λ (l : List (List ℕ)). joined (take 192 l)) (drop_at front added after (sym at))

long_first : (n : ℕ) (xs : List (List ℕ)) → AreLong xs → AreLong (take n xs)
long_first zero xs long = tt
long_first (suc n) [] long = tt
long_first (suc n) (x ∷ xs) long = (long.0, long_first n xs long.1)

-- what was cut of the bytes that were given are the next entries
pub cut_given : (log : List Command) (front added : List (List ℕ)) (after : ℕ) (bytes : List ℕ) (chunks : List (List ℕ))
    → AreCommands log → after ≡ length front → log_entries log ≡ front ++ added
    → (let one : Option (List ℕ) = Some bytes in one) ≡ entries_given log after
    → chunks ≡ first_chunks 308 (length bytes / 308) bytes → chunks ≡ take 192 added
cut_given log front added after bytes chunks are at is given cut =
    let whole = given_is log front added after bytes at is given in
    let long : AreLong (take 192 added) =
    long_first 192 added (long_last front added (subst AreLong is (entries_long log are))) in
    cut ∙ ap (λ (b : List ℕ). first_chunks 308 (length b / 308) b) whole ∙ cut_up_again (take 192 added) long

pub all_known : (old new : Seen) (k k' : Known) (bytes : List ℕ) (chunks : List (List ℕ)) (at count : ℕ)
    → IfSome k (λ entries. at ≡ length entries)
    → (new.honest → (log : List Command) → ShowsLog old log
    → (let one : Option (List ℕ) = Some bytes in one) ≡ entries_given log at)
    → chunks ≡ first_chunks 308 (length bytes / 308) bytes → count ≡ length chunks → k' ≡ with_more k chunks
    → AreKnown old new k k' count
all_known old new None k' bytes chunks at count place answer cut many grown = grown
all_known old new (Some entries) k' bytes chunks at count place answer cut many grown =
    λ h log s added is.
    let same = cut_given log entries added at bytes chunks s.commands place is (answer h log s) cut in
    (grown ∙ ap (λ (l : List (List ℕ)). let one : Known = Some (entries ++ l) in one) same, many ∙ ap length same)

pub no_length : (xs : List (List ℕ)) → length xs ≡ 0 → xs ≡ []
no_length [] is = refl
no_length (x ∷ xs) is = absurd (omega (arith, is))

pub more_of_none : (k : Known) (xs : List (List ℕ)) → length xs ≡ 0 → k ≡ with_more k xs
more_of_none k xs is = more_none k ∙ ap (λ (l : List (List ℕ)). with_more k l) (sym (no_length xs is))

-- ---- a crash leaves the log that was shown

take_none : (n : ℕ) → take n (let none : List Command = [] in none) ≡ []
take_none zero = refl
take_none (suc n) = refl

pub look_left : {C K X : Type 0} (seen : C → Seen) (contents : C → K) (reason : Fault → C → C → Type 0) (old new : C)
    (result : Result X Fault) → IsCounterCall seen contents reason old new [] result → (seen new).honest
    → (log : List Command) → StandsAt (seen old) log → LeavesOnly (seen new) (λ t. AreTablesOf t log)
look_left seen contents reason old new (Ok x) call h log s = (call.done.stands h log s).survives
look_left seen contents reason old new (Err fault) call h log s =
    leaves_weaker (seen new) (ShowsPrefix log [] 0) (λ t. AreTablesOf t log)
    (λ t p. subst (λ (l : List Command). AreTablesOf t (followed_by log l)) (take_none p.count) p.shows)
    (refused_stop fault (seen old) (seen new) log [] call.fault h s)

-- ---- what became of it

module _ {C K X : Type 0} (seen : C → Seen) (contents : C → K) (reason : Fault → C → C → Type 0)
    (spares : C → C → Type 0) (old new : C) (k k' : Known) where
  pub not_published : (result : Result X Fault) → IsCounterCall seen contents reason old new [] result → spares old new
      → HoldsOn k k' → (fault : PublishFault) → HasPublished seen spares old new k k' (Err fault)
  not_published result call others holds fault = record {
    honest = call.honest;
    up = tt;
    takes = tt;
    keeps = tt;
    known = tt;
    left = look_left seen contents reason old new result call;
    others = others;
    holds = holds;
  }

  pub is_published : (x : X) → IsCounterCall seen contents reason old new [] (Ok x) → spares old new → HoldsOn k k'
      → (count : ℕ) → ((seen new).honest → (t : Tables) → (seen old).tables t → (seen new).tables t)
      → AreKnown (seen old) (seen new) k k' count → HasPublished seen spares old new k k' (Ok count)
  is_published x call others holds count keeps known = record {
    honest = call.honest;
    up = call.up;
    takes = call.done;
    keeps = keeps;
    known = known;
    left = look_left seen contents reason old new (Ok x) call;
    others = others;
    holds = holds;
  }

-- whatever became of an append, what was known is known
pub holds_after : (old new : Known) (entries : List (List ℕ)) (fault : LogFault) → IsUnappended old new entries fault
    → HoldsOn old new
holds_after old new entries Refused it = record { more = it.others; grows = it.grows }
holds_after old new entries Unanswered same = holds_same old new same
holds_after old new entries Memory same = holds_same old new same
