-- How a drive goes on by a batch, and how it ends.
use Rattle.std.proofs.Common.{◌≡◌, ◌≤◌, ◌<◌, ◌+◌, ◌-◌, ℕ, List, [], ◌∷◌, ◌++◌, length, take, Option, Ok, Err, cond, refl}
use Rattle.std.proofs.Common.{sym, ap, subst, ◌∙◌, arith, append-nil}
use Rattle.std.specs.{Prelude.count_by, Prelude.min, List.AllByRecursion}
use Rattle.std.proofs.lemmas.List.{length-append, length-take-le, Sums.sum_by-append}
use Rattle.posting_rules.specs.declared.fault.Fault.{Fault}
use Rattle.posting_rules.specs.believed.{Commands.Command, Runs.followed_by, Runs.posts}
use Rattle.posting_rules.specs.declared.fault.Fault.TheVariants.{Memory}
use Rattle.posting_rules.specs.believed.Counter.{Seen, ShowsLog, Takes, Refuses}
use Rattle.posting_core.specs.believed.Batches.{Batch, moments_of, posts_of, records_of}
use Rattle.posting_core.specs.{believed.Clock.AreReadings, Clock.IsReading, believed.Stream.IfUp}
use Rattle.posting_core.proofs.{Batched.posts_of_one_more, Batched.records_one_more, StreamedBatches.all_more}
use Rattle.posting_core.specs.believed.ByTables.{BatchesByTables}
use Rattle.posting_core.proofs.ByTables.{batch_more, no_batches}
use Rattle.posting_core.proofs.{StreamedBatches.clock_batch, StreamedBatches.takes_batch, Stops.refused_stop}
use Rattle.posting_core.proofs.Stops.{stop_all, stop_part}
use Rattle.branch_loader.specs.believed.Plans.{Rows}
use Rattle.load_driver.specs.{Counts.Driving, Counted.IsCounted, believed.Drives.Submits}
use Rattle.load_driver.specs.{declared.drive.Driven.Driven, declared.drive_fault.DriveFault.TheVariants.Bank}
use Rattle.load_driver.specs.believed.Records.{AreFull, drawn, first_drawn, is_posted, posted_among}
use Rattle.load_driver.proofs.{Counted.posted_among-append, Drawn.drawn_on}

-- ---- batches

abbrev Are64 : List Batch → Type 0
Are64 bs = AllByRecursion (λ (b : Batch). length b.records ≡ 64) bs

full_more : (bs : List Batch) (b : Batch) → Are64 bs → 1 ≤ length b.records → length b.records ≤ 64
    → AreFull (bs ++ b ∷ [])
full_more [] b all some few = ((some, few), tt)
full_more (x ∷ []) b all some few = (all.0, ((some, few), tt))
full_more (x ∷ y ∷ bs) b all some few = (all.0, full_more (y ∷ bs) b all.1 some few)

-- ---- where a drive stands

-- some records of a driver were submitted, and so many are left
pub record Going {C : Type 0} (seen : C → Seen) (old now : C) (k k' : Option (List ℕ))
    (first driver : Driving) (count left : ℕ) (driven : Driven) : Type 0 where
  pub batches : List Batch
  pub rows : driver.rows ≡ first.rows
  pub seed : driver.seed ≡ first.seed
  pub given : driver.given + left ≡ count
  pub records : records_of batches ≡ drawn first.rows first.seed 0 driver.given
  pub number : length (records_of batches) ≡ driver.given
  pub all_64 : 0 < left → Are64 batches
  pub full : AreFull batches
  pub clock : AreReadings k k' (moments_of batches)
  pub takes : Takes (seen old) (seen now) (posts_of batches)
  pub honest : (seen now).honest → (seen old).honest
  pub up : (seen now).is_down → ⊥
  pub total : driven.posted + driven.refused ≡ driver.given
  pub posted : (seen now).honest → (log : List Command) → ShowsLog (seen old) log
      → driven.posted ≡ posted_among log (posts_of batches)
  pub replies : List (List ℕ)
  pub by_tables : BatchesByTables (seen old) (seen now) batches replies
  pub counted : driven.posted ≡ count_by is_posted replies

pub going_first : {C : Type 0} (seen : C → Seen) (c : C) (k : Option (List ℕ)) (first : Driving) (count : ℕ)
    → first.given ≡ 0 → ((seen c).is_down → ⊥)
    → Going seen c c k k first first count count (record { posted = 0; refused = 0 })
unfolding drawn posted_among
going_first seen c k first count none up = record {
  batches = [];
  rows = refl;
  seed = refl;
  given = omega arith;
  records = ap (drawn first.rows first.seed 0) (sym none);
  number = sym none;
  all_64 = λ _. tt;
  full = tt;
  clock = refl;
  takes = record { shows = λ h log s. s; stands = λ h log s. s };
  honest = λ h. h;
  up = up;
  total = sym none;
  posted = λ h log s. refl;
  replies = [];
  by_tables = no_batches (seen c);
  counted = refl;
}

-- the records of a batch that was drawn next
module _ {C : Type 0} (seen : C → Seen) (old now new : C) (k k' k'' : Option (List ℕ))
    (first driver : Driving) (count left size moment : ℕ) (records : List (List ℕ)) (driven : Driven)
    (g : Going seen old now k k' first driver count left driven)
    (is : records ≡ drawn driver.rows driver.seed driver.given size) (long : length records ≡ size)
    (some : 1 ≤ size) (few : size ≤ 64) (within : size ≤ left) (reading : IsReading k' k'' moment)
    (honest : (seen new).honest → (seen now).honest) where
  abbrev batch : Batch
  batch = record { moment = moment; records = records }

  abbrev all : List Batch
  all = g.batches ++ batch ∷ []

  are_drawn : records_of all ≡ drawn first.rows first.seed 0 (driver.given + size)
  are_drawn =
      records_one_more g.batches batch ∙ ap (λ (t : List (List ℕ)). t ++ records) g.records
      ∙ ap (λ (t : List (List ℕ)). drawn first.rows first.seed 0 driver.given ++ t)
      (is ∙ ap (λ (r : Rows). drawn r driver.seed driver.given size) g.rows
      ∙ ap (λ (s : ℕ). drawn first.rows s driver.given size) g.seed)
      ∙ drawn_on first.rows first.seed driver.given size

  so_many : length (records_of all) ≡ driver.given + size
  so_many =
      ap length (records_one_more g.batches batch) ∙ length-append (records_of g.batches) records
      ∙ ap (λ (n : ℕ). n + length records) g.number ∙ ap (λ (n : ℕ). driver.given + n) long

  are_full : AreFull all
  are_full = full_more g.batches batch (g.all_64 (omega arith)) (omega (arith, long)) (omega (arith, long))

  -- it was answered
  pub going_on : (posted : ℕ) (after : Driving) (later : Driven)
      → after ≡ (let d : Driving = record driver { given = driver.given + size } in d)
      → later.posted ≡ driven.posted + posted → later.refused ≡ driven.refused + (size - posted)
      → (size < left → size ≡ 64) → IsCounted (seen now) (seen new) moment records posted
      → posted ≤ size → ((seen new).is_down → ⊥)
      → Going seen old new k k'' first after count (left - size) later
  going_on posted after later goes_on more rest whole counted most up =
      let given : after.given ≡ driver.given + size = ap (λ (d : Driving). d.given) goes_on in
      record {
        batches = all;
        rows = ap (λ (d : Driving). d.rows) goes_on ∙ g.rows;
        seed = ap (λ (d : Driving). d.seed) goes_on ∙ g.seed;
        given = omega (arith, given, g.given, within);
        records = are_drawn ∙ ap (drawn first.rows first.seed 0) (sym given);
        number = so_many ∙ sym given;
        all_64 = λ lt. all_more (λ (b : Batch). length b.records ≡ 64) g.batches (batch ∷ []) (g.all_64 (omega arith))
            (long ∙ whole (omega arith), tt);
        full = are_full;
        clock = clock_batch k k' k'' g.batches batch g.clock reading;
        takes = takes_batch (seen old) (seen now) (seen new) g.batches batch honest g.takes counted.takes;
        honest = λ h. g.honest (honest h);
        up = up;
        total = omega (arith, more, rest, given, g.total, most);
        posted = λ h log s.
            let before = g.posted (honest h) log s in
            let one = counted.posted_is h (followed_by log (posts_of g.batches)) (g.takes.shows (honest h) log s)
            in
            more ∙ ap (λ (n : ℕ). n + posted) before
            ∙ ap (λ (n : ℕ). posted_among log (posts_of g.batches) + n) one
            ∙ sym (posted_among-append log (posts_of g.batches) (posts moment records))
            ∙ ap (posted_among log) (sym (posts_of_one_more g.batches batch));
        replies = g.replies ++ counted.replies;
        by_tables = batch_more (seen old) (seen now) (seen new) g.batches batch g.replies counted.replies honest
            g.by_tables counted.by_tables;
        counted = more
            ∙ ap (λ (n : ℕ). n + posted) g.counted
            ∙ ap (λ (n : ℕ). count_by is_posted g.replies + n) counted.counted
            ∙ sym (sum_by-append (λ (reply : List ℕ). cond (is_posted reply) 1 0) g.replies counted.replies);
      }

  -- it was refused
  pub end_refused : (fault : Fault) → Refuses fault (seen now) (seen new) (posts moment records)
      → Submits seen old new k k'' first.rows first.seed count (Err (Bank fault))
  end_refused fault refuses =
      let one : posts_of (batch ∷ []) ≡ posts moment records = append-nil (posts moment records) in
      record {
        taken = g.batches;
        refused = batch ∷ [];
        records = are_drawn ∙ ap (first_drawn first.rows first.seed) (sym so_many);
        within = omega (arith, so_many, g.given, within);
        full = are_full;
        clock = clock_batch k k' k'' g.batches batch g.clock reading;
        stood = now;
        honest_first = g.honest;
        honest = honest;
        takes = g.takes;
        replies = g.replies;
        by_tables = g.by_tables;
        counted = tt;
        ends = record {
          one = omega arith;
          refuses = subst (λ (cs : List Command). Refuses fault (seen now) (seen new) cs) (sym one) refuses;
        };
        survives = λ h log s.
            stop_part (seen new) log (posts_of g.batches) (posts moment records) (posts_of all)
            (posts_of_one_more g.batches batch)
            (refused_stop fault (seen now) (seen new) (followed_by log (posts_of g.batches))
            (posts moment records) refuses h
            (g.takes.stands (honest h) log s));
      }

-- all were answered
pub end_done : {C : Type 0} (seen : C → Seen) (old now : C) (k k' : Option (List ℕ)) (first driver : Driving)
    (count left : ℕ) (driven : Driven) → Going seen old now k k' first driver count left driven → left ≡ 0
    → Submits seen old now k k' first.rows first.seed count (Ok driven)
end_done seen old now k k' first driver count left driven g none =
    let no_more : g.batches ++ [] ≡ g.batches = append-nil g.batches in
    let long : length (records_of (g.batches ++ [])) ≡ driver.given =
    ap (λ (bs : List Batch). length (records_of bs)) no_more ∙ g.number in
    record {
      taken = g.batches;
      refused = [];
      records = ap records_of no_more ∙ g.records ∙ ap (first_drawn first.rows first.seed) (sym long);
      within = omega (arith, long, g.given);
      full = subst AreFull (sym no_more) g.full;
      clock = subst (λ (bs : List Batch). AreReadings k k' (moments_of bs)) (sym no_more) g.clock;
      stood = now;
      honest_first = g.honest;
      honest = λ h. h;
      takes = g.takes;
      replies = g.replies;
      by_tables = g.by_tables;
      counted = g.counted;
      ends = record {
        none_refused = refl;
        stays = refl;
        whole = omega (arith, g.number, g.given);
        total = omega (arith, g.total, g.given);
        posted = g.posted;
      };
      survives = λ h log s. stop_all (seen now) log (posts_of (g.batches ++ [])) (posts_of g.batches)
          (ap posts_of no_more) (g.takes.stands h log s);
    }

-- ---- whether it is up

-- a refusal that leaves the counter up leaves it as it was
pub up_refused : (old new : Seen) (cs : List Command) (fault : Fault) → Refuses fault old new cs
    → (old.is_down → ⊥) → IfUp fault (new.is_down → ⊥)
up_refused old new cs Memory refuses up = λ down. up (refuses.down down)
up_refused old new cs other refuses up = tt

-- ---- the size of a batch, where some records are left

-- a batch that is drawn to the head of a buffer of 64 records
pub record Part (driver : Driving) (left size : ℕ) (buffer records : List (List ℕ)) : Type 0 where
  pub some : 1 ≤ size
  pub few : size ≤ 64
  pub within : size ≤ left
  pub full : size < left → size ≡ 64
  pub room : length (take size buffer) ≡ size
  pub is : records ≡ drawn driver.rows driver.seed driver.given size
  pub long : length records ≡ size

pub part_of : (driver : Driving) (left size : ℕ) (buffer records : List (List ℕ)) → 0 < left
    → size ≡ min left 64
    → length buffer ≡ 64 → records ≡ drawn driver.rows driver.seed driver.given (length (take size buffer))
    → length records ≡ length (take size buffer) → Part driver left size buffer records
part_of driver left size buffer records some is long drew same =
    let room : length (take size buffer) ≡ size = length-take-le size buffer (omega arith) in
    record {
      some = omega arith;
      few = omega arith;
      within = omega arith;
      full = λ lt. omega arith;
      room = room;
      is = drew ∙ ap (drawn driver.rows driver.seed driver.given) room;
      long = same ∙ room;
    }
