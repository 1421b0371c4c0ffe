-- How a bank stands after some entries, one call more, and how it stops.
use Rattle.std.proofs.Common.{◌≡◌, ◌<◌, ◌+◌, ◌++◌, ◌∙◌, ℕ, List, [], ◌∷◌, length, map, Result, Ok, Err, refl, sym}
use Rattle.std.proofs.Common.{ap, subst, append-nil, append_assoc, arith, inl, inr, replicate, set, zero, suc, ◌≤◌}
use Rattle.std.specs.List.{slice_get}
use Rattle.std.specs.Prelude.{◌⊎◌, Bool, true, false, if◌then◌else◌, Contains, IsSome, MatchResult, None, Option, Some}
use Rattle.std.specs.List.{AllByRecursion}
use Rattle.std.proofs.lemmas.List.{length-append, length-map, map-append}
use Rattle.std.proofs.lemmas.List.Elements.{Contains-append_left, Contains-push, Contains-push_cases}
use Rattle.posting_rules.specs.believed.{Commands.Command, Commands.Open, Commands.Post, Commands.Close, Commands.Terms}
use Rattle.posting_rules.specs.believed.Counter.{IsCounterCall, Seen, ShowsLog}
use Rattle.posting_rules.specs.believed.{Runs.followed_by, Runs.posts, Runs.replies_to}
use Rattle.posting_rules.specs.believed.ByCommands.{HasRoomForAll, TakesByTables}
use Rattle.posting_rules.specs.ByCommands.{RepliesByTables, replies_past_commands}
use Rattle.posting_rules.specs.believed.Tables.{Tables}
use Rattle.posting_rules.specs.declared.fault.Fault.{Fault}
use Rattle.posting_rules.specs.declared.fault.Fault.TheVariants.{Down}
use Rattle.posting_rules.specs.declared.limits.TheConstants.{LAST_BRANCH, RECORDS_PER_BATCH}
use Rattle.posting_rules.proofs.{CounterCalls.Takes-append, CounterCalls.takes_none, Sequence.replies_to-append}
use Rattle.posting_rules.proofs.ByCommands.{both_replied, both_taken, nothing_taken, replied_after}
use Rattle.posting_core.specs.Entries.{ArePostsOf, IsEntry, IsMomentOf, IsNoEntry, record_text, reply_text}
use Rattle.posting_core.specs.believed.LogEntries.{AnsweredRequest, entries_of, entry_of}
use Rattle.branch_loader.specs.believed.Plans.{Row, Rows}
use Rattle.branch_loader.specs.declared.followers.Waiting.{Waiting}
use Rattle.branch_loader.specs.Following.{AreOpen, AreTexts, GaveReplies, HasDiffered, HasFollowed, HasOpened}
use Rattle.branch_loader.specs.Following.{HasPosted, HasTaken, IsFirstOther, IsFollowing, IsLooked, IsRefusedFollowing}
use Rattle.branch_loader.specs.Following.{IsWaiting, LooksAt, LooksOpen, NoneLooked, OpensFirst, Stops, TakesAll, TakesSome, needed_by}
use Rattle.branch_loader.specs.Following.{opened_by, planned, row_of}
use Rattle.branch_loader.specs.declared.follow_fault.FollowFault.{FollowFault}
use Rattle.branch_loader.specs.declared.follow_fault.FollowFault.TheVariants.{Bank, Differs, Memory, NoEntry, Read}
use Rattle.branch_loader.specs.declared.follow_fault.FollowFault.TheVariants.{Truncated}
use Rattle.branch_loader.specs.declared.follow_fault.OtherReply.{OtherReply}

-- ---- commands

pub posts-append : (plan : ℕ → Option Terms) (xs ys : List AnsweredRequest) (cs ds : List Command)
    → ArePostsOf plan xs cs → ArePostsOf plan ys ds → ArePostsOf plan (xs ++ ys) (cs ++ ds)
posts-append plan xs ys [] ds one two = subst (λ (l : List AnsweredRequest). ArePostsOf plan (l ++ ys) ds) (sym one) two
posts-append plan xs ys (Open b t ∷ cs) ds one two = (one.0, posts-append plan xs ys cs ds one.1 two)
posts-append plan xs ys (Close first last ∷ cs) ds one two = absurd one
posts-append plan [] ys (Post m r ∷ cs) ds one two = absurd one
posts-append plan (a ∷ xs) ys (Post m r ∷ cs) ds one two = (one.0, one.1, posts-append plan xs ys cs ds one.2 two)

posts_together : (plan : ℕ → Option Terms) (m : ℕ) (entries : List AnsweredRequest)
    → AllByRecursion (λ a. IsMomentOf a m) entries → ArePostsOf plan entries (posts m (map record_text entries))
posts_together plan m [] at = refl
posts_together plan m (a ∷ more) at = (refl, at.0, posts_together plan m more at.1)

none_waits : (records : List (List ℕ)) (left : List AnsweredRequest) → records ≡ map record_text left → records ≡ []
    → left ≡ []
none_waits records [] are none = refl
none_waits records (a ∷ more) are none = absurd cc

-- ---- which branches were opened

pub opened-append : (cs ds : List Command) → opened_by (cs ++ ds) ≡ opened_by cs ++ opened_by ds
opened-append [] ds = refl
opened-append (Open b t ∷ cs) ds = ap (λ (l : List ℕ). b ∷ l) (opened-append cs ds)
opened-append (Post m r ∷ cs) ds = opened-append cs ds
opened-append (Close first last ∷ cs) ds = opened-append cs ds

pub posts_open_none : (m : ℕ) (records : List (List ℕ)) → opened_by (posts m records) ≡ []
posts_open_none m [] = refl
posts_open_none m (r ∷ rs) = posts_open_none m rs

opens-append : (rows : Rows) (opened : List ℕ) (xs ys : List AnsweredRequest) (cs ds : List Command)
    → ArePostsOf (planned rows) xs cs → OpensFirst rows opened (xs ++ ys) cs
    → OpensFirst rows (opened ++ opened_by cs) ys ds → OpensFirst rows opened (xs ++ ys) (cs ++ ds)
opens-append rows opened xs ys [] ds are one two =
    subst (λ (l : List AnsweredRequest). OpensFirst rows opened (l ++ ys) ds) (sym are)
    (subst (λ (o : List ℕ). OpensFirst rows o ys ds) (append-nil opened) two)
opens-append rows opened [] [] (Open b t ∷ cs) ds are one two = absurd one
opens-append rows opened [] (y ∷ ys) (Open b t ∷ cs) ds are one two = (
  one.0,
  one.1,
  opens-append rows (opened ++ b ∷ []) [] (y ∷ ys) cs ds are.1 one.2
      (subst (λ (o : List ℕ). OpensFirst rows o (y ∷ ys) ds) (sym (append_assoc opened (b ∷ []) (opened_by cs))) two),
)
opens-append rows opened (a ∷ xs) ys (Open b t ∷ cs) ds are one two = (
  one.0,
  one.1,
  opens-append rows (opened ++ b ∷ []) (a ∷ xs) ys cs ds are.1 one.2
      (subst (λ (o : List ℕ). OpensFirst rows o ys ds) (sym (append_assoc opened (b ∷ []) (opened_by cs))) two),
)
opens-append rows opened xs ys (Close first last ∷ cs) ds are one two = absurd are
opens-append rows opened [] ys (Post m r ∷ cs) ds are one two = absurd are
opens-append rows opened (a ∷ xs) ys (Post m r ∷ cs) ds are one two =
    (one.0, opens-append rows opened xs ys cs ds are.2 one.1 two)

-- more entries may follow
opens_further : (rows : Rows) (opened : List ℕ) (xs ys : List AnsweredRequest) (cs : List Command)
    → OpensFirst rows opened xs cs → OpensFirst rows opened (xs ++ ys) cs
opens_further rows opened xs ys [] it = tt
opens_further rows opened [] ys (c ∷ cs) it = absurd it
opens_further rows opened (a ∷ xs) ys (Open b t ∷ cs) it =
    (it.0, it.1, opens_further rows (opened ++ b ∷ []) (a ∷ xs) ys cs it.2)
opens_further rows opened (a ∷ xs) ys (Close first last ∷ cs) it = absurd it
opens_further rows opened (a ∷ xs) ys (Post m r ∷ cs) it = (it.0, opens_further rows opened xs ys cs it.1)

-- and where the posts are those of the first, those after the next are of no account
opens_up_to : (rows : Rows) (opened : List ℕ) (xs : List AnsweredRequest) (e : AnsweredRequest)
    (ys zs : List AnsweredRequest) (cs : List Command) → ArePostsOf (planned rows) xs cs
    → OpensFirst rows opened (xs ++ e ∷ ys) cs → OpensFirst rows opened (xs ++ e ∷ zs) cs
opens_up_to rows opened xs e ys zs [] are it = tt
opens_up_to rows opened [] e ys zs (Open b t ∷ cs) are it =
    (it.0, it.1, opens_up_to rows (opened ++ b ∷ []) [] e ys zs cs are.1 it.2)
opens_up_to rows opened (a ∷ xs) e ys zs (Open b t ∷ cs) are it =
    (it.0, it.1, opens_up_to rows (opened ++ b ∷ []) (a ∷ xs) e ys zs cs are.1 it.2)
opens_up_to rows opened xs e ys zs (Close first last ∷ cs) are it = absurd are
opens_up_to rows opened [] e ys zs (Post m r ∷ cs) are it = absurd are
opens_up_to rows opened (a ∷ xs) e ys zs (Post m r ∷ cs) are it =
    (it.0, opens_up_to rows opened xs e ys zs cs are.2 it.1)

posts_open_first : (rows : Rows) (opened : List ℕ) (m : ℕ) (entries next : List AnsweredRequest)
    → AllByRecursion (AreOpen rows opened) entries
    → OpensFirst rows opened (entries ++ next) (posts m (map record_text entries))
posts_open_first rows opened m [] next ready = tt
posts_open_first rows opened m (a ∷ more) next ready = (ready.0, posts_open_first rows opened m more next ready.1)

-- what waits is posted where what it needs is opened
pub texts_open_first : (rows : Rows) (opened : List ℕ) (m : ℕ) (records replies : List (List ℕ))
    (entries next : List AnsweredRequest) → AreTexts m records replies entries
    → AllByRecursion (AreOpen rows opened) entries → OpensFirst rows opened (entries ++ next) (posts m records)
texts_open_first rows opened m records replies entries next it ready =
    subst (λ (l : List (List ℕ)). OpensFirst rows opened (entries ++ next) (posts m l)) (sym it.records_are)
    (posts_open_first rows opened m entries next ready)

-- nothing was opened, and the plan was looked at no further
pub looks_still : (rows : Rows) (looked : List Bool) (opened more : List ℕ) → more ≡ [] → LooksOpen rows looked opened
    → LooksOpen rows looked (opened ++ more)
looks_still rows looked opened more none looks =
    subst (λ (o : List ℕ). LooksOpen rows looked o)
    (sym (ap (λ (l : List ℕ). opened ++ l) none ∙ append-nil opened)) looks

-- this branch was opened
pub looks_at : (rows : Rows) (looked looked' : List Bool) (branch : ℕ) (opened : List ℕ) → LooksAt looked looked' branch
    → slice_get looked' branch ≡ Some true → LooksOpen rows looked opened
    → LooksOpen rows looked' (opened ++ branch ∷ [])
looks_at rows looked looked' branch opened at here looks = record {
  there = λ b marked some. elim (at.others b marked) [
    | inl same ↦ subst (λ (n : ℕ). Contains (opened ++ branch ∷ []) n) (sym same) (Contains-push opened branch)
    | inr before ↦ Contains-append_left opened (branch ∷ []) b (looks.there b before some)
  ];
  noted = λ b has. elim (Contains-push_cases opened branch b has) [
    | inl before ↦ at.keeps b (looks.noted b before)
    | inr same ↦ subst (λ (n : ℕ). slice_get looked' n ≡ Some true) same here
  ];
}

pub none_is_not : {Q : Type 0} (r : Option Row) → r ≡ None → IsSome r → Q
none_is_not None is some = cc some
none_is_not (Some p) is some = cc is

-- or the plan hasn't it
pub looks_past : (rows : Rows) (looked looked' : List Bool) (branch : ℕ) (opened : List ℕ) → LooksAt looked looked' branch
    → row_of rows branch ≡ None → LooksOpen rows looked opened → LooksOpen rows looked' opened
looks_past rows looked looked' branch opened at none looks = record {
  there = λ b marked some. elim (at.others b marked) [
    | inl same ↦ none_is_not (row_of rows b) (ap (row_of rows) same ∙ none) some
    | inr before ↦ looks.there b before some
  ];
  noted = λ b has. at.keeps b (looks.noted b has);
}

is_open : (rows : Rows) (looked : List Bool) (opened : List ℕ) (b : ℕ) → LooksOpen rows looked opened → IsLooked rows looked b
    → IsSome (row_of rows b) → Contains opened b
is_open rows looked opened b looks (inl marked) some = looks.there b marked some
is_open rows looked opened b looks (inr none) some = none_is_not (row_of rows b) none some

-- those of an entry were looked for
pub are_open : (rows : Rows) (looked : List Bool) (opened bs : List ℕ) → LooksOpen rows looked opened
    → AllByRecursion (IsLooked rows looked) bs
    → AllByRecursion (λ (b : ℕ). IsSome (row_of rows b) → Contains opened b) bs
are_open rows looked opened [] looks all = tt
are_open rows looked opened (b ∷ bs) looks all =
    (is_open rows looked opened b looks all.0, are_open rows looked opened bs looks all.1)

-- it was looked for still
pub looked_still : (rows : Rows) (looked looked' : List Bool) (branch b : ℕ) → LooksAt looked looked' branch
    → IsLooked rows looked b → IsLooked rows looked' b
looked_still rows looked looked' branch b at (inl marked) = inl (at.keeps b marked)
looked_still rows looked looked' branch b at (inr none) = inr none

pub looks_same : (looked : List Bool) (branch : ℕ) → LooksAt looked looked branch
looks_same looked branch = record { keeps = λ b marked. marked; others = λ b marked. inr marked }

-- where one is noted
set_keeps : (l : List Bool) (i b : ℕ) → slice_get l b ≡ Some true → slice_get (set l i true) b ≡ Some true
set_keeps [] i b marked = marked
set_keeps (x ∷ xs) zero zero marked = refl
set_keeps (x ∷ xs) zero (suc b) marked = marked
set_keeps (x ∷ xs) (suc i) zero marked = marked
set_keeps (x ∷ xs) (suc i) (suc b) marked = set_keeps xs i b marked

set_others : (l : List Bool) (i b : ℕ) → slice_get (set l i true) b ≡ Some true → (b ≡ i) ⊎ (slice_get l b ≡ Some true)
set_others [] i b marked = inr marked
set_others (x ∷ xs) zero zero marked = inl refl
set_others (x ∷ xs) zero (suc b) marked = inr marked
set_others (x ∷ xs) (suc i) zero marked = inr marked
set_others (x ∷ xs) (suc i) (suc b) marked = elim (set_others xs i b marked) [
  | inl same ↦ inl (ap suc same)
  | inr before ↦ inr before
]

pub set_marked : (l : List Bool) (i : ℕ) → i < length l → slice_get (set l i true) i ≡ Some true
set_marked [] i within = absurd (omega (arith, within))
set_marked (x ∷ xs) zero within = refl
set_marked (x ∷ xs) (suc i) within = set_marked xs i (omega (arith, within))

pub looks_set : (l : List Bool) (i : ℕ) → LooksAt l (set l i true) i
looks_set l i = record { keeps = set_keeps l i; others = set_others l i }

-- at first it was looked at for none
none_looked : (n b : ℕ) → slice_get (replicate n false) b ≡ Some true → ⊥
none_looked zero b marked = cc marked
none_looked (suc n) zero marked = cc marked
none_looked (suc n) (suc b) marked = none_looked n b marked

pub none_looked_in : (looked : List Bool) (n : ℕ) → looked ≡ replicate n false → NoneLooked looked
none_looked_in looked n is b marked = none_looked n b (sym (ap (λ (l : List Bool). slice_get l b) is) ∙ marked)

-- a branch that the plan has can be noted
pub unplanned_or_within : (rows : Rows) (looked : List Bool) (b : ℕ) → (IsSome (row_of rows b) → b ≤ LAST_BRANCH)
    → (b ≤ LAST_BRANCH → slice_get looked b ≡ Some true) → IsLooked rows looked b
unplanned_or_within rows looked b within marked = by_row (row_of rows b) refl
  where
    by_row : (r : Option Row) → row_of rows b ≡ r → IsLooked rows looked b
    by_row None is = inr is
    by_row (Some p) is = inl (marked (within (subst (λ (r : Option Row). IsSome r) (sym is) refl)))

-- the branches of an entry were looked for
pub needed_looked : (rows : Rows) (looked : List Bool) (teller account : ℕ) (b : Bool) → IsLooked rows looked teller
    → (b ≡ true → IsLooked rows looked account)
    → AllByRecursion (IsLooked rows looked) (teller ∷ (if b then account ∷ [] else []))
needed_looked rows looked teller account true one two = (one, (two refl, tt))
needed_looked rows looked teller account false one two = (one, tt)

pub ready-snoc : (rows : Rows) (opened : List ℕ) (entries : List AnsweredRequest) (a : AnsweredRequest)
    → AllByRecursion (AreOpen rows opened) entries → AreOpen rows opened a
    → AllByRecursion (AreOpen rows opened) (entries ++ a ∷ [])
ready-snoc rows opened [] a all one = (one, tt)
ready-snoc rows opened (e ∷ es) a all one = (all.0, ready-snoc rows opened es a all.1 one)

-- ---- the first that is another

-- behind replies that were due
pub other_behind : (n : ℕ) (front given due : List (List ℕ)) (other : OtherReply) → IsFirstOther n given due other
    → n ≡ length front → IsFirstOther 0 (front ++ given) (front ++ due) other
other_behind n front given due other it many = record {
  alike = front ++ it.alike;
  given_after = it.given_after;
  due_after = it.due_after;
  given_are = ap (λ (l : List (List ℕ)). front ++ l) it.given_are
      ∙ sym (append_assoc front it.alike (other.stands ∷ it.given_after));
  due_are = ap (λ (l : List (List ℕ)). front ++ l) it.due_are
      ∙ sym (append_assoc front it.alike (other.due ∷ it.due_after));
  differ = it.differ;
  entry = omega (arith, it.entry, many, length-append front it.alike);
}

-- ---- one call more

module _ {C : Type 0} (seen : C → Seen) (spares : C → C → Type 0) (rows : Rows) where
  -- the same commands, where others come next
  abbrev pub for_others : (old new : C) (entries next others : List AnsweredRequest)
      (it : HasFollowed seen spares rows old new entries next) → OpensFirst rows [] (entries ++ others) it.commands
      → HasFollowed seen spares rows old new entries others
  for_others old new entries next others it opens = record {
    commands = it.commands;
    taken = record {
      are = it.taken.are;
      opens = opens;
      takes = it.taken.takes;
      by_tables = it.taken.by_tables;
      honest = it.taken.honest;
      up = it.taken.up;
      idle = it.taken.idle;
      others = it.taken.others;
    };
    replies = it.replies;
    by_tables = it.by_tables;
  }

  abbrev pub followed_none : (c : C) → spares c c → HasFollowed seen spares rows c c [] []
  followed_none c same = record {
    commands = [];
    taken = record {
      are = refl;
      opens = tt;
      takes = takes_none (seen c);
      by_tables = nothing_taken (seen c);
      honest = λ h. h;
      up = λ down. down;
      idle = λ down. refl;
      others = same;
    };
    replies = λ h log shows. refl;
    by_tables = λ h t room there. refl;
  }

  module _ (old mid new : C) (spares_then : spares old mid → spares mid new → spares old new)
      (done entries next : List AnsweredRequest) (it : HasFollowed seen spares rows old mid done (entries ++ next))
      (cs : List Command) (are : ArePostsOf (planned rows) entries cs)
      (first : OpensFirst rows (opened_by it.commands) (entries ++ next) cs) where
    module _ {K X : Type 0} (contents : C → K) (reason : Fault → C → C → Type 0) (x : X)
        (call : IsCounterCall seen contents reason mid new cs (Ok x)) (others : spares mid new)
        (on : TakesByTables (seen mid) (seen new) cs) where
      was_up : (seen mid).is_down → ⊥
      was_up down = let no : (let r : Result X Fault = Ok x in r) ≡ Err Down = call.down down in cc

      taken_more : HasTaken seen spares rows old new (done ++ entries) next (it.commands ++ cs)
      taken_more = record {
        are = posts-append (planned rows) done entries it.commands cs it.taken.are are;
        opens = subst (λ (l : List AnsweredRequest). OpensFirst rows [] l (it.commands ++ cs))
            (sym (append_assoc done entries next))
            (opens-append rows [] done (entries ++ next) it.commands cs it.taken.are it.taken.opens first);
        takes = Takes-append (seen old) (seen mid) (seen new) it.commands cs it.taken.takes call.done call.honest;
        by_tables = both_taken (seen old) (seen mid) (seen new) it.commands cs call.honest it.taken.by_tables on;
        honest = λ h. it.taken.honest (call.honest h);
        up = λ down. absurd (call.up down);
        idle = λ down.
            absurd (was_up (subst (λ (c : C). (seen c).is_down) (sym (it.taken.idle down)) down));
        others = spares_then it.taken.others others;
      }

      shown_then : (h : (seen new).honest) (log : List Command) → ShowsLog (seen old) log
          → ShowsLog (seen mid) (followed_by log it.commands)
      shown_then h log shows = it.taken.takes.shows (call.honest h) log shows

      replies_then : (h : (seen new).honest) (log : List Command) → ShowsLog (seen old) log
          → replies_to log (it.commands ++ cs) ≡ map reply_text done ++ replies_to (followed_by log it.commands) cs
      replies_then h log shows =
          replies_to-append log it.commands cs
          ∙ ap (λ (l : List (List ℕ)). l ++ replies_to (followed_by log it.commands) cs)
          (it.replies (call.honest h) log shows)

      -- it gave the replies of the entries
      pub followed_more : (looked : List Bool) → LooksOpen rows looked (opened_by it.commands ++ opened_by cs)
          → GaveReplies (seen mid) (seen new) entries cs
          → RepliesByTables (seen mid) (seen new) cs (map reply_text entries)
          → HasOpened seen spares rows old new (done ++ entries) next looked
      followed_more looked looks gave gave_on = record {
        followed = record {
          commands = it.commands ++ cs;
          taken = taken_more;
          replies = λ h log shows.
              replies_then h log shows
              ∙ ap (λ (l : List (List ℕ)). map reply_text done ++ l)
              (gave h (followed_by log it.commands) (shown_then h log shows))
              ∙ sym (map-append reply_text done entries);
          by_tables = subst (RepliesByTables (seen old) (seen new) (it.commands ++ cs))
              (sym (map-append reply_text done entries))
              (both_replied (seen old) (seen mid) (seen new) it.commands cs call.honest it.taken.by_tables
              (map reply_text done) (map reply_text entries) it.by_tables gave_on);
        };
        looks = subst (λ (o : List ℕ). LooksOpen rows looked o) (sym (opened-append it.commands cs)) looks;
      }

      -- behind the replies of what was done
      first_other_behind : (given all : List (List ℕ)) (other : OtherReply)
          → IsFirstOther (length done) given (map reply_text entries) other → all ≡ map reply_text done ++ given
          → IsFirstOther 0 all (map reply_text (done ++ entries)) other
      first_other_behind given all other it is =
          subst (λ (l : List (List ℕ)). IsFirstOther 0 l (map reply_text (done ++ entries)) other) (sym is)
          (subst (λ (l : List (List ℕ)). IsFirstOther 0 (map reply_text done ++ given) l other)
          (sym (map-append reply_text done entries))
          (other_behind (length done) (map reply_text done) given (map reply_text entries) other it
          (sym (length-map done reply_text))))

      -- it gave others
      pub differed : next ≡ [] → (other : OtherReply) → length (done ++ entries) < other.entry + RECORDS_PER_BATCH
          → ((seen new).honest → (log : List Command) → ShowsLog (seen mid) log
          → IsFirstOther (length done) (replies_to log cs) (map reply_text entries) other)
          → ((seen new).honest → (t : Tables) → HasRoomForAll t → (seen mid).tables t
          → IsFirstOther (length done) (replies_past_commands t cs) (map reply_text entries) other)
          → HasDiffered seen spares rows old new (done ++ entries) other
      differed none other last first first_on = record {
        commands = it.commands ++ cs;
        taken = subst (λ (l : List AnsweredRequest). HasTaken seen spares rows old new (done ++ entries) l
            (it.commands ++ cs)) none taken_more;
        last = last;
        first = λ h log shows.
            first_other_behind (replies_to (followed_by log it.commands) cs) _ other
            (first h (followed_by log it.commands) (shown_then h log shows)) (replies_then h log shows);
        by_tables = λ h t room there.
            let led = it.taken.by_tables (call.honest h) t room there in
            first_other_behind (replies_past_commands led.leads.tables cs) _ other
            (first_on h led.leads.tables led.room led.leads.are)
            (replied_after (seen old) (seen mid) (seen new) it.commands cs call.honest it.taken.by_tables
            (map reply_text done) it.by_tables h t room there);
      }

    -- it refused them
    pub refused_then : {K X : Type 0} (contents : C → K) (reason : Fault → C → C → Type 0) (fault : Fault)
        → IsCounterCall {X = X} seen contents reason mid new cs (Err fault) → spares mid new
        → IsRefusedFollowing seen spares reason rows old new ((done ++ entries) ++ next) fault
    refused_then {X = X} contents reason fault call others = record {
      done = done;
      tried = entries;
      after = next;
      all = sym (append_assoc done entries next);
      stood = mid;
      followed = it;
      refused = cs;
      are = are;
      opens = first;
      refuses = call.fault;
      why = call.why;
      honest = call.honest;
      down = λ down. one_fault (call.down down);
      untried = λ is. call.untried (ap (λ (f : Fault). let r : Result X Fault = Err f in r) is);
      others = spares_then it.taken.others others;
    }
      where
        one_fault : (let r : Result X Fault = Err fault in r) ≡ Err Down → fault ≡ Down
        one_fault is = cc

-- ---- what waits

-- nothing waits: the next are the next still
pub opened_none : {C : Type 0} (seen : C → Seen) (spares : C → C → Type 0) (rows : Rows) (old new : C)
    (looked : List Bool) (done entries next : List AnsweredRequest) → entries ≡ []
    → HasOpened seen spares rows old new done (entries ++ next) looked
    → HasOpened seen spares rows old new (done ++ entries) next looked
opened_none seen spares rows old new looked done [] next none it =
    subst (λ (l : List AnsweredRequest). HasOpened seen spares rows old new l next looked) (sym (append-nil done)) it
opened_none seen spares rows old new looked done (e ∷ more) next none it = absurd (cc none)

waits-append : (m : ℕ) (xs ys : List AnsweredRequest) → AllByRecursion (λ a. IsMomentOf a m) xs
    → AllByRecursion (λ a. IsMomentOf a m) ys → AllByRecursion (λ a. IsMomentOf a m) (xs ++ ys)
waits-append m [] ys one two = two
waits-append m (x ∷ xs) ys one two = (one.0, waits-append m xs ys one.1 two)

-- one more waits
pub waits_more : (m : ℕ) (records records' replies replies' : List (List ℕ)) (entries : List AnsweredRequest)
    (a : AnsweredRequest) (record_bytes reply_bytes : List ℕ) → AreTexts m records replies entries → IsMomentOf a m
    → records' ≡ records ++ record_bytes ∷ [] → replies' ≡ replies ++ reply_bytes ∷ []
    → record_bytes ≡ record_text a → reply_bytes ≡ reply_text a
    → AreTexts m records' replies' (entries ++ a ∷ [])
waits_more m records records' replies replies' entries a record_bytes reply_bytes it at one two is_record is_reply = record {
  records_are = one
      ∙ ap (λ (l : List (List ℕ)). l ++ record_bytes ∷ []) it.records_are
      ∙ ap (λ (t : List ℕ). map record_text entries ++ t ∷ []) is_record
      ∙ sym (map-append record_text entries (a ∷ []));
  replies_are = two
      ∙ ap (λ (l : List (List ℕ)). l ++ reply_bytes ∷ []) it.replies_are
      ∙ ap (λ (t : List ℕ). map reply_text entries ++ t ∷ []) is_reply
      ∙ sym (map-append reply_text entries (a ∷ []));
  moments = waits-append m entries (a ∷ []) it.moments (at, tt);
}

-- nothing waits, at any moment
pub none_waits_at : (m n : ℕ) (records replies : List (List ℕ)) → AreTexts m records replies []
    → AreTexts n records replies []
none_waits_at m n records replies it =
    record { records_are = it.records_are; replies_are = it.replies_are; moments = tt }

-- the same texts, as they are shown
pub shown_texts : (m : ℕ) (records records' replies replies' : List (List ℕ)) (entries : List AnsweredRequest)
    → AreTexts m records replies entries → records' ≡ records → replies' ≡ replies → AreTexts m records' replies' entries
shown_texts m records records' replies replies' entries it one two = record {
  records_are = one ∙ it.records_are;
  replies_are = two ∙ it.replies_are;
  moments = it.moments;
}

-- what waits are posts at its moment
pub texts_are_posts : (plan : ℕ → Option Terms) (m : ℕ) (records replies : List (List ℕ))
    (entries : List AnsweredRequest) → AreTexts m records replies entries → ArePostsOf plan entries (posts m records)
texts_are_posts plan m records replies entries it =
    subst (λ (l : List (List ℕ)). ArePostsOf plan entries (posts m l)) (sym it.records_are)
    (posts_together plan m entries it.moments)

-- no record, and so no entry
pub no_entry_waits : (m : ℕ) (records replies : List (List ℕ)) (entries : List AnsweredRequest)
    → AreTexts m records replies entries → records ≡ [] → entries ≡ []
no_entry_waits m records replies entries it none = none_waits records entries it.records_are none

module _ {C : Type 0} (seen : C → Seen) (spares : C → C → Type 0) (reason : Fault → C → C → Type 0) (rows : Rows)
    (old new : C) (given : List AnsweredRequest) where
  -- all of them were followed, and nothing waits
  pub following_none : (next : List AnsweredRequest) (w : Waiting) (looked : List Bool)
      → HasPosted seen spares rows old new given next w looked → IsWaiting w []
      → IsFollowing seen spares rows old new given next w looked
  following_none next w looked posted waits =
      record { done = given; left = []; all = append-nil given; posted = posted; waits = waits; ready = tt }

  -- the same, where what was done is done ++ left
  pub followed_same : (next : List AnsweredRequest) (looked : List Bool) (done left : List AnsweredRequest)
      → done ++ left ≡ given → HasOpened seen spares rows old new (done ++ left) next looked
      → HasOpened seen spares rows old new given next looked
  followed_same next looked done left same =
      subst (λ (l : List AnsweredRequest). HasOpened seen spares rows old new l next looked) same

  pub stops_same : (next other : List AnsweredRequest) (fault : FollowFault) → other ≡ given
      → Stops seen spares reason rows old new other next fault
      → Stops seen spares reason rows old new given next fault
  stops_same next other fault same =
      subst (λ (l : List AnsweredRequest). Stops seen spares reason rows old new l next fault) same

  -- others come next
  abbrev following_with : (next others : List AnsweredRequest) (w w' : Waiting) (looked : List Bool)
      (it : IsFollowing seen spares rows old new given next w looked) (left : List AnsweredRequest)
      → OpensFirst rows [] (it.done ++ (left ++ others)) it.posted.opened.followed.commands → w'.posted ≡ w.posted
      → HasPosted seen spares rows old new it.done (left ++ others) w' looked
  following_with next others w w' looked it left opens same = record {
    opened = record {
      followed = for_others seen spares rows old new it.done (it.left ++ next) (left ++ others)
          it.posted.opened.followed opens;
      looks = it.posted.opened.looks;
    };
    counted = λ few. same ∙ it.posted.counted few;
  }

  -- one comes next
  pub following_next : (next : List AnsweredRequest) (w : Waiting) (looked : List Bool)
      → IsFollowing seen spares rows old new given [] w looked → IsFollowing seen spares rows old new given next w looked
  following_next next w looked it =
      let commands = it.posted.opened.followed.commands in
      record {
        done = it.done;
        left = it.left;
        all = it.all;
        posted = following_with [] next w w looked it it.left
            (subst (λ (l : List AnsweredRequest). OpensFirst rows [] l commands) (append_assoc it.done it.left next)
            (opens_further rows [] (it.done ++ it.left) next commands
            (subst (λ (l : List AnsweredRequest). OpensFirst rows [] (it.done ++ l) commands) (append-nil it.left)
            it.posted.opened.followed.taken.opens))) refl;
        waits = it.waits;
        ready = it.ready;
      }

  -- the next waits, too
  pub following_more : (w w' : Waiting) (looked : List Bool) (a : AnsweredRequest)
      → IsFollowing seen spares rows old new given (a ∷ []) w looked
      → ((entries : List AnsweredRequest) → IsWaiting w entries → IsWaiting w' (entries ++ a ∷ []))
      → w'.posted ≡ w.posted → AllByRecursion (IsLooked rows looked) (needed_by a)
      → IsFollowing seen spares rows old new (given ++ a ∷ []) [] w' looked
  following_more w w' looked a it more same marked =
      let commands = it.posted.opened.followed.commands in
      record {
        done = it.done;
        left = it.left ++ a ∷ [];
        all = sym (append_assoc it.done it.left (a ∷ [])) ∙ ap (λ (l : List AnsweredRequest). l ++ a ∷ []) it.all;
        posted = following_with (a ∷ []) [] w w' looked it (it.left ++ a ∷ [])
            (subst (λ (l : List AnsweredRequest). OpensFirst rows [] (it.done ++ l) commands)
            (sym (append-nil (it.left ++ a ∷ []))) it.posted.opened.followed.taken.opens) same;
        waits = more it.left it.waits;
        ready = ready-snoc rows (opened_by commands) it.left a it.ready
            (are_open rows looked (opened_by commands) (needed_by a) it.posted.opened.looks marked);
      }

  -- where some wait, no branch was opened for those after them
  pub opened_for : (done : List AnsweredRequest) (entries next : List AnsweredRequest) (looked : List Bool)
      (it : HasOpened seen spares rows old new done (entries ++ next) looked) → (entries ≡ [] → ⊥)
      → OpensFirst rows [] (done ++ (entries ++ [])) it.followed.commands
  opened_for done [] next looked it some = absurd (some refl)
  opened_for done (e ∷ more) next looked it some =
      opens_up_to rows [] done e (more ++ next) (more ++ []) it.followed.commands it.followed.taken.are
      it.followed.taken.opens

-- ---- some entries

entries-snoc : (xs : List AnsweredRequest) (a : AnsweredRequest) → AllByRecursion IsEntry xs → IsEntry a
    → AllByRecursion IsEntry (xs ++ a ∷ [])
entries-snoc [] a one two = (two, tt)
entries-snoc (x ∷ xs) a one two = (one.0, entries-snoc xs a one.1 two)

module _ {C : Type 0} (seen : C → Seen) (spares : C → C → Type 0) (reason : Fault → C → C → Type 0)
    (old mid new : C) (plan : Rows) (none : Waiting) (looked_none : List Bool) (texts : List (List ℕ)) (w w' : Waiting)
    (looked looked' : List Bool) (some : TakesSome seen spares old mid plan none looked_none texts w looked) where
  -- one more
  pub some_more : (text : List ℕ) (a : AnsweredRequest) → IsEntry a → entry_of a ≡ text
      → ((first : C) (rows : Rows) (given : List AnsweredRequest) → plan ≡ rows
      → IsFollowing seen spares rows first mid given [] w looked
      → IsFollowing seen spares rows first new (given ++ a ∷ []) [] w' looked')
      → TakesSome seen spares old new plan none looked_none (texts ++ text ∷ []) w' looked'
  some_more text a is same more first rows given planned posted =
      let it = some first rows given planned posted in (
        it.0 ++ a ∷ [],
        entries-snoc it.0 a it.1 is,
        map-append entry_of it.0 (a ∷ [])
            ∙ ap (λ (l : List (List ℕ)). l ++ entry_of a ∷ []) it.2
            ∙ ap (λ (t : List ℕ). texts ++ t ∷ []) same,
        subst (λ (l : List AnsweredRequest). IsFollowing seen spares rows first new l [] w' looked')
            (append_assoc given it.0 (a ∷ []))
            (more first rows (given ++ it.0) planned it.3),
      )

  module _ (all : List (List ℕ)) (before : ℕ) (first : C) (rows : Rows) (given : List AnsweredRequest)
      (planned : plan ≡ rows) (before_all : HasPosted seen spares rows first old given [] none looked_none) where
    -- all of them
    pub took_all : texts ≡ all
        → ((given : List AnsweredRequest) → IsFollowing seen spares rows first mid given [] w looked
        → HasPosted seen spares rows first new given [] w' looked')
        → TakesAll seen spares reason rows first new given all before w' looked' (Ok tt)
    took_all same posted =
        let it = some first rows given planned before_all in
        (it.0, it.1, it.2 ∙ same, posted (given ++ it.0) it.3)

    -- it stopped at one of them, or at the next
    pub took_some : (next : List AnsweredRequest) (rest : List (List ℕ)) (fault : FollowFault)
        → AllByRecursion IsEntry next → texts ++ (entries_of next ++ rest) ≡ all
        → ((given : List AnsweredRequest) → IsFollowing seen spares rows first mid given [] w looked
        → Stops seen spares reason rows first new given next fault)
        → TakesAll seen spares reason rows first new given all before w' looked' (Err fault)
    took_some next rest fault next_are same stops =
        let it = some first rows given planned before_all in
        stopped fault it.0 it.1 (ap (λ (l : List (List ℕ)). l ++ (entries_of next ++ rest)) it.2 ∙ same)
        (stops (given ++ it.0) it.3)
      where
        stopped : (fault : FollowFault) (entries : List AnsweredRequest) → AllByRecursion IsEntry entries
            → entries_of entries ++ (entries_of next ++ rest) ≡ all
            → Stops seen spares reason rows first new (given ++ entries) next fault
            → TakesAll seen spares reason rows first new given all before w' looked' (Err fault)
        stopped (Bank fault) entries are same stops = (entries, next, rest, are, next_are, same, stops)
        stopped (Differs other) entries are same stops = (entries, next, rest, are, next_are, same, stops)
        stopped (Truncated n) entries are same stops = absurd stops
        stopped Read entries are same stops = absurd stops
        stopped (NoEntry n) entries are same stops = absurd stops
        stopped Memory entries are same stops = absurd stops

    -- the next is none
    pub took_up_to : (text : List ℕ) (rest : List (List ℕ)) (count : ℕ) → texts ++ text ∷ rest ≡ all
        → count ≡ before + length texts → IsNoEntry text
        → ((given : List AnsweredRequest) → IsFollowing seen spares rows first mid given [] w looked
        → HasPosted seen spares rows first new given [] w' looked')
        → TakesAll seen spares reason rows first new given all before w' looked' (Err (NoEntry count))
    took_up_to text rest count same many no_entry posted =
        let it = some first rows given planned before_all in (
          it.0,
          text,
          rest,
          it.1,
          ap (λ (l : List (List ℕ)). l ++ text ∷ rest) it.2 ∙ same,
          (posted (given ++ it.0) it.3).opened.followed,
          many ∙ ap (λ (n : ℕ). before + n)
              (ap (λ (l : List (List ℕ)). length l) (sym it.2) ∙ length-map it.0 entry_of),
          no_entry,
        )

    -- the rest was posted, or it stopped there
    pub took_last : (result : Result (Unit {0}) FollowFault) → texts ≡ all
        → ((given : List AnsweredRequest) → IsFollowing seen spares rows first mid given [] w looked
        → MatchResult result (λ done. HasPosted seen spares rows first new given [] w' looked')
        (Stops seen spares reason rows first new given []))
        → TakesAll seen spares reason rows first new given all before w' looked' result
    took_last (Ok done) same posted = took_all same posted
    took_last (Err fault) same stops = took_some [] [] fault tt (append-nil texts ∙ same) stops
