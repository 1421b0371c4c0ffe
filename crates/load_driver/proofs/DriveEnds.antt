-- What a drive did, from where its branches were listed on.
use Rattle.std.proofs.Common.{◌≡◌, ◌≤◌, ◌+◌, ℕ, zero, suc, List, [], ◌∷◌, ◌++◌, length, map, Option, Some, None}
use Rattle.std.proofs.Common.{Result, Ok, Err, refl, sym, ap, subst, ◌∙◌, arith, append-nil, inl, inr}
use Rattle.std.specs.Prelude.{IfErr, IfOk, IfSome, OnOk}
use Rattle.std.proofs.{Math.Nat.eq-or-lt_of_le, lemmas.List.Sorted.IsPermutation-refl}
use Rattle.posting_rules.specs.{declared.fault.Fault.Fault, declared.limits.TheConstants.LAST_BRANCH, Resends.Skips}
use Rattle.posting_rules.specs.declared.fault.Fault.TheVariants.{Memory, Store, Down, Damaged}
use Rattle.posting_rules.specs.believed.Commands.{Command, Open, IsCommand, AreCommands, opened, Terms}
use Rattle.posting_rules.specs.believed.Counter.{Seen, ShowsLog, Takes, Refuses}
use Rattle.posting_rules.specs.believed.Runs.{followed_by, ArePosts}
use Rattle.posting_rules.proofs.{Resends.shows_log_left_out, SoundEntries.open_within}
use Rattle.posting_rules.proofs.CounterCalls.{Takes-append, refused_after}
use Rattle.posting_core.specs.believed.Batches.{Batch, posts_of, records_of}
use Rattle.posting_core.specs.{believed.Stream.IfUp, Stream.IsOfCall}
use Rattle.posting_rules.specs.Counter.{StaysByTables}
use Rattle.posting_core.proofs.ByTables.{batches_after_read, no_batches}
use Rattle.posting_core.proofs.{Batched.all_posts, Batched.posted_is, Stops.refused_stop, Stops.stop_all}
use Rattle.branch_loader.specs.believed.Plans.{Row, Rows}
use Rattle.load_driver.specs.{believed.Requests.IsAscending, declared.drive.Driven.Driven, Records.NoneOpen}
use Rattle.load_driver.specs.declared.drive_fault.DriveFault.{DriveFault, TheVariants.NoBranches, TheVariants.Bank}
use Rattle.load_driver.specs.believed.Drives.{Drives, EndsDrive, IfListed, Submits}
use Rattle.load_driver.specs.Drives.{IfRefused, IsUnlisted, MayRefuse, DrivesAgain, UnlessDown}
use Rattle.load_driver.specs.believed.Records.{first_drawn, open_branches, open_up_to, row_if_open}
use Rattle.load_driver.proofs.{Again.posted_again, Again.skips_again, Drawn.drawn_none, Listed.none_more}

-- ---- where no branch is open

nil_left : (xs ys : Rows) → xs ++ ys ≡ [] → xs ≡ []
nil_left [] ys e = refl
nil_left (x ∷ xs) ys e = absurd cc

nil_right : (xs ys : Rows) → xs ++ ys ≡ [] → ys ≡ []
nil_right [] ys e = e
nil_right (x ∷ xs) ys e = absurd cc

not_open : (branch : ℕ) (o : Option Terms) → row_if_open branch o ≡ [] → o ≡ None
not_open branch None e = refl
not_open branch (Some accounts) e = absurd cc

none_up_to : (log : List Command) (n branch : ℕ) → open_up_to log n ≡ [] → 1 ≤ branch → branch ≤ n
    → opened log branch ≡ None
unfolding open_up_to
none_up_to log zero branch none low high = absurd (omega arith)
none_up_to log (suc n) branch none low high =
    let last = row_if_open (suc n) (opened log (suc n)) in
    elim (eq-or-lt_of_le high) [
      | inl e ↦ ap (opened log) e
          ∙ not_open (suc n) (opened log (suc n)) (nil_right (open_up_to log n) last none)
      | inr lt ↦ none_up_to log n branch (nil_left (open_up_to log n) last none) low (omega arith)
    ]

-- where no branch is listed, none is open
pub none_open : (log : List Command) → AreCommands log → open_branches log ≡ [] → NoneOpen log
none_open log are none branch = by_opened (opened log branch) refl (open_within log are branch)
  where
    by_opened : (o : Option Terms) → opened log branch ≡ o → IfSome o (λ n. IsCommand (Open branch n))
        → opened log branch ≡ None
    by_opened None e is = e
    by_opened (Some n) e is = none_up_to log LAST_BRANCH branch none is.0 is.1

-- and where none is open, none is listed
pub none_listed : (log : List Command) → NoneOpen log → open_branches log ≡ []
unfolding open_up_to
none_listed log none =
    let all : 0 + LAST_BRANCH ≡ LAST_BRANCH = omega arith in
    ap (open_up_to log) (sym all) ∙ none_more log 0 LAST_BRANCH (λ branch above le. none branch)

-- ---- faults before the first record

no_rows_rise : (plan : Rows) → plan ≡ [] → IsAscending plan plan
no_rows_rise plan none = record {
  same = IsPermutation-refl plan;
  rising = λ k lt. absurd (let few = ap length (ap (map (λ (p : Row). p.0)) none) in omega arith);
}

module _ {C : Type 0} (seen : C → Seen) (old new : C) (k : Option (List ℕ)) (seed count : ℕ) where
  -- the branches weren't listed
  pub ended_unlisted : (fault : Fault) → IsUnlisted seen old new fault
      → Drives seen old new k k seed count (Err (Bank fault))
  ended_unlisted fault u = record {
    rows = [];
    submits = record {
      taken = [];
      refused = [];
      records = sym (drawn_none [] seed 0);
      within = omega arith;
      full = tt;
      clock = refl;
      stood = u.stood;
      honest_first = u.honest_first;
      honest = u.honest;
      takes = u.takes;
      replies = [];
      by_tables = batches_after_read (seen old) (seen u.stood) (seen u.stood) [] [] (λ h. h) u.by_tables
          (no_batches (seen u.stood));
      counted = tt;
      ends = record { one = omega arith; refuses = u.refuses };
      survives = λ h log s. refused_stop fault (seen u.stood) (seen new) log [] u.refuses h
          (u.takes.stands (u.honest h) log s);
    };
    listed = λ h log s. tt;
    idle = u.idle;
  }

  -- there was nothing to draw from, or memory was refused
  pub ended_empty : (plan : Rows) (fault : DriveFault) → MayRefuse plan fault → Takes (seen old) (seen new) []
      → StaysByTables (seen old) (seen new)
      → ((seen new).honest → (seen old).honest)
      → ((seen new).honest → (log : List Command) → ShowsLog (seen old) log → plan ≡ open_branches log)
      → ((seen old).is_down → new ≡ old) → Drives seen old new k k seed count (Err fault)
  ended_empty plan NoBranches none takes stays honest listed idle = record {
    rows = plan;
    submits = record {
      taken = [];
      refused = [];
      records = sym (drawn_none plan seed 0);
      within = omega arith;
      full = tt;
      clock = refl;
      stood = new;
      honest_first = honest;
      honest = λ h. h;
      takes = takes;
      replies = [];
      by_tables = batches_after_read (seen old) (seen new) (seen new) [] [] (λ h. h) stays (no_batches (seen new));
      counted = tt;
      ends = record { no_rows = none; none_taken = refl; none_refused = refl; stays = refl };
      survives = λ h log s. stop_all (seen new) log [] [] refl (takes.stands h log s);
    };
    listed = λ h log s. subst (λ (rows : Rows). IsAscending rows plan) (listed h log s)
        (no_rows_rise plan none);
    idle = idle;
  }
  ended_empty plan (Bank fault) memory takes stays honest listed idle =
      let same : Refuses Memory (seen new) (seen new) [] =
      record { tables = λ t h. h; down = λ d. d; left = λ remains left. (remains, left, λ t h. h) } in
      ended_unlisted fault (record {
        stood = new;
        honest_first = honest;
        honest = λ h. h;
        takes = takes;
        by_tables = stays;
        refuses = subst (λ (f : Fault). Refuses f (seen new) (seen new) []) (sym memory) same;
        idle = idle;
      })

-- ---- what was submitted after the listing

if_listed : (result : Result Driven DriveFault) (bs : List Batch) (P : Type 0) → P → IfListed result bs P
if_listed (Ok driven) bs P p = p
if_listed (Err NoBranches) bs P p = p
if_listed (Err (Bank fault)) [] P p = tt
if_listed (Err (Bank fault)) (b ∷ bs) P p = p

pub on_ok : {A E : Type 0} (P : Type 0) (result : Result A E) → P → OnOk result P
on_ok P (Ok x) p = p
on_ok P (Err e) p = tt

module _ {C : Type 0} (seen : C → Seen) (old mid new : C) (k k' : Option (List ℕ)) (rows : Rows)
    (seed count : ℕ)
    (listing : Takes (seen old) (seen mid) []) (stays : StaysByTables (seen old) (seen mid)) (honest_first : (seen mid).honest → (seen old).honest)
    (honest : (seen new).honest → (seen mid).honest) where
  ends_after : (stood : C) (taken refused : List Batch) (result : Result Driven DriveFault)
      → EndsDrive seen mid stood new rows count taken refused result
      → EndsDrive seen old stood new rows count taken refused result
  ends_after stood taken refused (Ok driven) e = record {
    none_refused = e.none_refused;
    stays = e.stays;
    whole = e.whole;
    total = e.total;
    posted = λ h log s. e.posted h log (listing.shows (honest h) log s);
  }
  ends_after stood taken refused (Err NoBranches) e = e
  ends_after stood taken refused (Err (Bank fault)) e = e

  -- the listing changed nothing
  after_listing : (result : Result Driven DriveFault) → Submits seen mid new k k' rows seed count result
      → Submits seen old new k k' rows seed count result
  after_listing result s = record {
    taken = s.taken;
    refused = s.refused;
    records = s.records;
    within = s.within;
    full = s.full;
    clock = s.clock;
    stood = s.stood;
    honest_first = λ h. honest_first (s.honest_first h);
    honest = s.honest;
    takes = Takes-append (seen old) (seen mid) (seen s.stood) [] (posts_of s.taken) listing s.takes
        s.honest_first;
    replies = s.replies;
    by_tables = batches_after_read (seen old) (seen mid) (seen s.stood) s.taken s.replies s.honest_first stays s.by_tables;
    counted = s.counted;
    ends = ends_after s.stood s.taken s.refused result s.ends;
    survives = λ h log stood. s.survives h log (listing.stands (honest h) log stood);
  }

  pub drives : (plan : Rows) (result : Result Driven DriveFault)
      → Submits seen mid new k k' rows seed count result
      → ((seen mid).honest → (log : List Command) → ShowsLog (seen old) log → plan ≡ open_branches log)
      → IsAscending plan rows → ((seen old).is_down → new ≡ old) → Drives seen old new k k' seed count result
  unfolding after_listing
  drives plan result s listed ascending idle = record {
    rows = rows;
    submits = after_listing result s;
    listed = λ h log shows. if_listed result (s.taken ++ s.refused) (IsAscending (open_branches log) rows)
        (subst (λ (p : Rows). IsAscending p rows) (listed (honest h) log shows) ascending);
    idle = idle;
  }

-- ---- whether it is up, and why it was refused

-- the branches weren't listed
pub up_unlisted : (fault : Fault) (P : Type 0) → (fault ≡ Memory → P) → IfUp fault P
up_unlisted Memory P p = p refl
up_unlisted Store P p = tt
up_unlisted Down P p = tt
up_unlisted (Damaged rule) P p = tt

-- there is no driver
pub up_empty : (rows : Rows) (fault : DriveFault) (P : Type 0) → MayRefuse rows fault → P
    → UnlessDown (Err fault) P
up_empty rows NoBranches P may p = p
up_empty rows (Bank fault) P may p = up_unlisted fault P (λ is. p)

pub why_empty : {C : Type 0} (seen : C → Seen) (reason : Fault → C → C → Type 0) (old new : C) (rows : Rows)
    (fault : DriveFault) → MayRefuse rows fault → ((seen new).is_down → ⊥)
    → IfRefused fault (IsOfCall seen reason old new)
why_empty seen reason old new rows NoBranches may up = tt
why_empty seen reason old new rows (Bank fault) may up = inr (may, up)

-- records were submitted
up_after : (fault : Fault) (D E : Type 0) → IfUp fault (D → ⊥) → IfUp fault (D → E)
up_after Memory D E up = λ down. absurd (up down)
up_after Store D E up = tt
up_after Down D E up = tt
up_after (Damaged rule) D E up = tt

pub up_of_drive : (result : Result Driven DriveFault) (D E : Type 0) → UnlessDown result (D → ⊥)
    → UnlessDown result (D → E)
up_of_drive (Ok driven) D E up = λ down. absurd (up down)
up_of_drive (Err NoBranches) D E up = λ down. absurd (up down)
up_of_drive (Err (Bank fault)) D E up = up_after fault D E up

pub why_after : {C : Type 0} (seen : C → Seen) (reason : Fault → C → C → Type 0) (old mid new : C)
    → Takes (seen old) (seen mid) [] → ((seen mid).honest → (seen old).honest)
    → ((seen old).is_down → mid ≡ old) → (result : Result Driven DriveFault)
    → IfErr result (λ fault. IfRefused fault (IsOfCall seen reason mid new))
    → IfErr result (λ fault. IfRefused fault (IsOfCall seen reason old new))
why_after seen reason old mid new takes honest idle (Ok driven) why = tt
why_after seen reason old mid new takes honest idle (Err NoBranches) why = tt
why_after seen reason old mid new takes honest idle (Err (Bank fault)) (inl call) =
    inl (refused_after seen reason old mid new [] takes honest idle fault call)
why_after seen reason old mid new takes honest idle (Err (Bank fault)) (inr own) = inr own

-- ---- records that come again

pub resends : {C : Type 0} (seen : C → Seen) (old new : C) (k k' : Option (List ℕ)) (seed count : ℕ)
    (result : Result Driven DriveFault) → Drives seen old new k k' seed count result
    → IfOk result (DrivesAgain (seen old) (seen new) seed count)
resends seen old new k k' seed count (Err fault) d = tt
resends {C} seen old new k k' seed count (Ok driven) d =
    let s = d.submits in
    let e = s.ends in
    let all : s.taken ++ s.refused ≡ s.taken = ap (λ (bs : List Batch). s.taken ++ bs) e.none_refused
    ∙ append-nil s.taken in
    let number : length (records_of (s.taken ++ s.refused)) ≡ count =
    ap (λ (bs : List Batch). length (records_of bs)) all ∙ e.whole in
    let left : (seen new).honest → (log p added : List Command) → ArePosts p
    → Skips p (posts_of s.taken) added
    → ShowsLog (seen old) (followed_by log p) → ShowsLog (seen new) (followed_by (followed_by log p) added) =
    λ h log p added posts skips shows.
    shows_log_left_out (seen new) log p (posts_of s.taken) added posts (all_posts s.taken) skips
    (subst (λ (c : C). ShowsLog (seen c) (followed_by (followed_by log p) (posts_of s.taken))) (sym e.stays)
    (s.takes.shows (s.honest h) (followed_by log p) shows)) in
    record {
      rows = d.rows;
      commands = posts_of s.taken;
      posts = all_posts s.taken;
      records = posted_is s.taken ∙ ap records_of (sym all) ∙ s.records ∙ ap (first_drawn d.rows seed) number;
      listed = d.listed;
      tables = left;
      again = λ h log p posts same shows. (
        left h log p [] posts
            (skips_again log p posts [] p (posts_of s.taken) refl posts (all_posts s.taken) same) shows,
        e.posted h (followed_by log p) shows
            ∙ posted_again log p posts [] p [] (posts_of s.taken) refl posts tt (all_posts s.taken) same,
      );
    }
