-- A stream of entries, step by step, and what it leaves.
use Rattle.std.proofs.Common.{◌≡◌, ◌⊎◌, inl, inr, ℕ, ◌+◌, ◌-◌, ◌*◌, ◌/◌, ◌^◌, ◌<◌, ◌≤◌, List, [], ◌∷◌, ◌++◌, length, take}
use Rattle.std.proofs.Common.{Bool, Option, Err, refl, sym, ap, subst, drop, ◌∙◌, append_assoc, append-nil, arith}
use Rattle.std.specs.{Prelude.◌%◌, List.AllByRecursion, Simd.first_chunks}
use Rattle.std.specs.Io.KnownBytes.{Consumes, Keeps}
use Rattle.std.proofs.KnownBytes.{Consumes-trans}
use Rattle.std.proofs.lemmas.List.{drop-take, length-append, length-map, length-take-le, map-append, take_at}
use Rattle.posting_rules.specs.believed.{Commands.Command, Runs.followed_by}
use Rattle.posting_rules.specs.believed.Counter.{LeavesOnly, Seen, ShowsLog, ShowsPrefix}
use Rattle.posting_rules.specs.declared.fault.Fault.{Fault}
use Rattle.posting_core.specs.Entries.{IsEntry, IsNoEntry, new_after, requests_of}
use Rattle.posting_core.specs.believed.LogEntries.{AnsweredRequest, entries_of, entry_of, log_entries}
use Rattle.posting_core.specs.{believed.Batches.joined, declared.entries.TheConstants.ENTRY_BYTES}
use Rattle.posting_core.specs.believed.EndCalls.{ReadCall}
use Rattle.posting_core.proofs.Batched.{chunks_joined, joined-append}
use Rattle.posting_core.proofs.Streaming.{nothing_read}
use Rattle.posting_core.proofs.Stops.{refused_stop, stop_all, stop_part}
use Rattle.posting_core.proofs.LogGrowth.{log_grows}
use Rattle.branch_loader.specs.Following.{HasFollowed, HasTaken, IsRefusedFollowing, Stops, TakesAll, planned}
use Rattle.branch_loader.specs.Followed.{Did, EndsFollowing, FollowsLog, LeavesFollowed, LeavesTaken, ShowsEntries}
use Rattle.branch_loader.specs.believed.Plans.{Rows}
use Rattle.branch_loader.specs.declared.follow_fault.FollowFault.{FollowFault}
use Rattle.branch_loader.specs.declared.follow_fault.FollowFault.TheVariants.{Bank, Differs, Memory, NoEntry, Read}
use Rattle.branch_loader.specs.declared.follow_fault.FollowFault.TheVariants.{Truncated}
use Rattle.branch_loader.specs.declared.entry_stream.TheConstants.{BUFFER}
use Rattle.branch_loader.specs.declared.followers.Waiting.{Waiting}

-- ---- what was read

-- bytes more, after those that stand at the front of the buffer
read_more : (r r' r'' : Option (List ℕ)) (before rest more all : List ℕ) → Consumes r r' (before ++ rest)
    → Consumes r' r'' more → all ≡ rest ++ more → Consumes r r'' (before ++ all)
read_more r r' r'' before rest more all read got is =
    subst (λ (t : List ℕ). Consumes r r'' t) (append_assoc before rest more ∙ ap (λ (t : List ℕ). before ++ t) (sym is))
    (Consumes-trans r r' r'' (before ++ rest) more read got)

pub read_filled : (r r' r'' : Option (List ℕ)) (before old new : List ℕ) (filled filled' n : ℕ)
    → Consumes r r' (before ++ take filled old)
    → ((bytes : List ℕ) × (take (filled + n) new ≡ take filled old ++ bytes) × Consumes r' r'' bytes)
    → filled' ≡ filled + n → Consumes r r'' (before ++ take filled' new)
read_filled r r' r'' before old new filled filled' n read got is =
    read_more r r' r'' before (take filled old) got.0 (take filled' new) read got.2
    (ap (λ (j : ℕ). take j new) is ∙ got.1)

-- a read that came back: it read some, or it failed and read nothing
pub read_on : (r r' r'' : Option (List ℕ)) (before old new : List ℕ) (filled filled' : ℕ)
    → Consumes r r' (before ++ take filled old) → filled < ENTRY_BYTES → length new ≡ BUFFER
    → ((n : ℕ) × ((bytes : List ℕ) × (take (filled + n) new ≡ take filled old ++ bytes) × Consumes r' r'' bytes)
    × (filled + n ≤ length new) × (filled' ≡ filled + n))
    ⊎ ((Keeps r' r'' × (take filled new ≡ take filled old)) × (filled' ≡ filled))
    → Consumes r r'' (before ++ take filled' new) × (filled' ≤ length new)
read_on r r' r'' before old new filled filled' read few long (inl (n, got, fits, is)) =
    (read_filled r r' r'' before old new filled filled' n read got is, omega (arith, fits, is))
read_on r r' r'' before old new filled filled' read few long (inr (kept, is)) = (
  read_filled r r' r'' before old new filled filled' 0 read (nothing_read r' r'' old new filled kept)
      (omega (arith, is)),
  omega (arith, few, long, is),
)

-- ---- what was cut into entries

-- bytes that were cut into texts of entries, and a rest
pub cut_up : (xs : List ℕ) (texts : List (List ℕ)) (rest : List ℕ) → texts ≡ first_chunks 308 (length xs / 308) xs
    → rest ≡ drop (length xs / 308 * 308) xs → xs ≡ joined texts ++ rest
cut_up xs texts rest is rest_is =
    let count = length xs / 308 in
    let whole : length xs / 308 * 308 ≤ length xs = omega arith in
    sym (chunks_joined 308 count xs whole)
    ∙ ap (λ (t : List ℕ). joined (first_chunks 308 count xs) ++ t) (sym rest_is)
    ∙ ap (λ (t : List (List ℕ)). joined t ++ rest) (sym is)

-- the rest was moved to the front of the buffer
pub moved_up : (buffer after : List ℕ) (filled left : ℕ) → filled ≤ length buffer
    → left ≡ length (take filled buffer) % 308
    → take (filled - (filled - left)) after ≡ take (filled - (filled - left)) (drop (filled - left) buffer)
    → take left after ≡ drop (length (take filled buffer) / 308 * 308) (take filled buffer)
moved_up buffer after filled left within left_is moved =
    let len : length (take filled buffer) ≡ filled = length-take-le filled buffer within in
    let parts : filled ≡ length (take filled buffer) / 308 * 308 + left = omega arith in
    let from : filled - left ≡ length (take filled buffer) / 308 * 308 = omega arith in
    let back : filled - (filled - left) ≡ left = omega arith in
    let cut = length (take filled buffer) / 308 * 308 in
    sym (ap (λ (j : ℕ). drop cut (take j buffer)) parts ∙ drop-take cut left buffer
    ∙ ap (λ (j : ℕ). take left (drop j buffer)) (sym from)
    ∙ ap (λ (j : ℕ). take j (drop (filled - left) buffer)) (sym back) ∙ sym moved
    ∙ ap (λ (j : ℕ). take j after) back)

-- the texts of entries after those before
pub read_entries : (r r' : Option (List ℕ)) (entries more : List AnsweredRequest) (bytes rest : List ℕ)
    → Consumes r r' (joined (entries_of entries) ++ bytes) → bytes ≡ joined (entries_of more) ++ rest
    → Consumes r r' (joined (entries_of (entries ++ more)) ++ rest)
read_entries r r' entries more bytes rest read is =
    subst (λ (t : List ℕ). Consumes r r' t)
    (ap (λ (t : List ℕ). joined (entries_of entries) ++ t) is
    ∙ sym (append_assoc (joined (entries_of entries)) (joined (entries_of more)) rest)
    ∙ ap (λ (t : List ℕ). t ++ rest) (sym (joined-append (entries_of entries) (entries_of more))
    ∙ ap joined (sym (map-append entry_of entries more))))
    read

-- the texts that weren't followed come before the rest
pub texts_apart : (more : List AnsweredRequest) (texts others : List (List ℕ)) (rest : List ℕ)
    → entries_of more ++ others ≡ texts → joined texts ++ rest ≡ joined (entries_of more) ++ (joined others ++ rest)
texts_apart more texts others rest is =
    ap (λ (l : List (List ℕ)). joined l ++ rest) (sym is)
    ∙ ap (λ (t : List ℕ). t ++ rest) (joined-append (entries_of more) others)
    ∙ append_assoc (joined (entries_of more)) (joined others) rest

pub entries-append : (xs ys : List AnsweredRequest) → AllByRecursion IsEntry xs → AllByRecursion IsEntry ys
    → AllByRecursion IsEntry (xs ++ ys)
entries-append [] ys one two = two
entries-append (x ∷ xs) ys one two = (one.0, entries-append xs ys one.1 two)

-- ---- what a crash leaves

module _ {C : Type 0} (seen : C → Seen) (spares : C → C → Type 0) (reason : Fault → C → C → Type 0) (rows : Rows)
    (old new : C) (entries : List AnsweredRequest) where
  pub taken_leaves : (commands : List Command) → HasTaken seen spares rows old new entries [] commands
      → LeavesTaken (seen old) (seen new) commands []
  taken_leaves commands taken h log stood =
      subst (λ (l : List Command). LeavesOnly (seen new) (ShowsPrefix log l (length commands))) (sym (append-nil commands))
      (stop_all (seen new) log commands commands refl (taken.takes.stands h log stood))

  pub followed_leaves : (it : HasFollowed seen spares rows old new entries [])
      → LeavesTaken (seen old) (seen new) it.commands []
  followed_leaves it = taken_leaves it.commands it.taken

  pub refused_leaves : (fault : Fault) (it : IsRefusedFollowing seen spares reason rows old new entries fault)
      → LeavesTaken (seen old) (seen new) it.followed.commands it.refused
  refused_leaves fault it h log stood =
      stop_part (seen new) log it.followed.commands it.refused (it.followed.commands ++ it.refused) refl
      (refused_stop fault (seen it.stood) (seen new) (followed_by log it.followed.commands) it.refused it.refuses h
      (it.followed.taken.takes.stands (it.honest h) log stood))

  -- to the end, the log has the entries that were new
  pub followed_grows : AllByRecursion IsEntry entries → HasFollowed seen spares rows old new entries []
      → (seen new).honest → (log : List Command) → ShowsLog (seen old) log
      → ShowsEntries (seen new) (log_entries log ++ entries_of (new_after (requests_of log) entries))
  followed_grows are it h log shows = record {
    log = followed_by log it.commands;
    shows = it.taken.takes.shows h log shows;
    are = log_grows (planned rows) it.commands log entries are it.taken.are (it.replies h log shows);
  }

-- ---- a fault among some entries

next_whole : (n : ℕ) (xs : List (List ℕ)) (text : List ℕ) (more : List (List ℕ))
    → AllByRecursion (λ t. length t ≡ n) (xs ++ text ∷ more) → length text ≡ n
next_whole n [] text more all = all.0
next_whole n (x ∷ xs) text more all = next_whole n xs text more all.1

module _ {C : Type 0} (seen : C → Seen) (spares : C → C → Type 0) (reason : Fault → C → C → Type 0) (rows : Rows)
    (r r' : Option (List ℕ)) (q q' : Option (List ReadCall)) (old new : C) (given : List AnsweredRequest)
    (texts : List (List ℕ)) (bytes left : List ℕ) (before : ℕ) (w : Waiting) (looked : List Bool)
    (read : Consumes r r' (joined (entries_of given) ++ bytes)) (cut : bytes ≡ joined texts ++ left)
    (whole : AllByRecursion (λ t. length t ≡ 308) texts) (are : AllByRecursion IsEntry given)
    (many : before ≡ length given) (few : before + length texts < 2 ^ 128) where
  -- as many as were taken can be counted
  few_taken : (entries : List AnsweredRequest) (rest : List (List ℕ)) → entries_of entries ++ rest ≡ texts
      → length (given ++ entries) < 2 ^ 128
  few_taken entries rest same =
      omega (
        arith,
        few,
        many,
        length-append given entries,
        length-map entries entry_of,
        length-append (entries_of entries) rest,
        ap (λ (l : List (List ℕ)). length l) same,
      )

  stopped : (fault : FollowFault) (entries : List AnsweredRequest) (rest : List (List ℕ)) → AllByRecursion IsEntry entries
      → entries_of entries ++ rest ≡ texts
      → (did : Did seen spares reason rows old new (given ++ entries) (Err fault))
      → LeavesFollowed seen spares reason rows old new (given ++ entries) (Err fault) did
      → EndsFollowing (Err fault) r' q q' (length (given ++ entries)) (joined rest ++ left)
      → FollowsLog seen spares reason rows r r' q q' old new (Err fault)
  stopped fault entries rest more_are same did leaves ends = record {
    entries = given ++ entries;
    are = entries-append given entries are more_are;
    rest = joined rest ++ left;
    read = read_entries r r' given entries bytes (joined rest ++ left) read (cut ∙ texts_apart entries texts rest left same);
    ends = ends;
    did = did;
    survives = leaves;
    grows = tt;
  }

  -- with the next, for which a branch was to be opened
  with_next : (entries next : List AnsweredRequest) (rest : List (List ℕ))
      → entries_of entries ++ (entries_of next ++ rest) ≡ texts → entries_of (entries ++ next) ++ rest ≡ texts
  with_next entries next rest same =
      ap (λ (l : List (List ℕ)). l ++ rest) (map-append entry_of entries next)
      ∙ append_assoc (entries_of entries) (entries_of next) rest ∙ same

  pub broke_off : (fault : FollowFault) → TakesAll seen spares reason rows old new given texts before w looked (Err fault)
      → FollowsLog seen spares reason rows r r' q q' old new (Err fault)
  broke_off (Bank fault) it =
      let refused : IsRefusedFollowing seen spares reason rows old new (given ++ (it.0 ++ it.1)) fault =
      subst (λ (l : List AnsweredRequest). IsRefusedFollowing seen spares reason rows old new l fault)
      (append_assoc given it.0 it.1) it.6 in
      stopped (Bank fault) (it.0 ++ it.1) it.2 (entries-append it.0 it.1 it.3 it.4) (with_next it.0 it.1 it.2 it.5)
      refused (refused_leaves seen spares reason rows old new (given ++ (it.0 ++ it.1)) fault refused) tt
  broke_off (Differs other) it =
      let differed = it.6 (few_taken it.0 (entries_of it.1 ++ it.2) it.5) in
      stopped (Differs other) it.0 (entries_of it.1 ++ it.2) it.3 it.5 differed
      (taken_leaves seen spares reason rows old new (given ++ it.0) differed.commands differed.taken) tt
  broke_off (Truncated n) it = absurd it.6
  broke_off Read it = absurd it.6
  broke_off Memory it = absurd it.6
  broke_off (NoEntry count) it =
      let long : length it.1 ≡ 308 =
      next_whole 308 (entries_of it.0) it.1 it.2 (subst (AllByRecursion (λ t. length t ≡ 308)) (sym it.4) whole) in
      let after = joined it.2 ++ left in
      let apart : joined (it.1 ∷ it.2) ++ left ≡ it.1 ++ after = append_assoc it.1 (joined it.2) left in
      record {
        entries = given ++ it.0;
        are = entries-append given it.0 are it.3;
        rest = it.1 ++ after;
        read = read_entries r r' given it.0 bytes (it.1 ++ after) read
            (cut ∙ texts_apart it.0 texts (it.1 ∷ it.2) left it.4
            ∙ ap (λ (t : List ℕ). joined (entries_of it.0) ++ t) apart);
        ends = (
          it.6 ∙ ap (λ (n : ℕ). n + length it.0) many ∙ sym (length-append given it.0),
          omega (arith, long, length-append it.1 after),
          subst IsNoEntry (sym (take_at it.1 after 308 long)) it.7,
        );
        did = it.5;
        survives = followed_leaves seen spares reason rows old new (given ++ it.0) it.5;
        grows = tt;
      }
