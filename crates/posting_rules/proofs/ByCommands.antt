-- Commands on whatever tables a counter shows, taken one after another.
use Rattle.std.proofs.Common.{◌≡◌, ℕ, ◌+◌, ◌<◌, ◌≤◌, true, false, cond, eqb, leb, List, [], ◌∷◌, ◌++◌}
use Rattle.std.proofs.Common.{Option, Some, None, Result, Ok, Err, refl, sym, ap, subst, ◌∙◌, arith, inl, inr}
use Rattle.std.specs.{Prelude.ℤ, Prelude.pos, Prelude.IfSome, Option.option_map, Prelude.◌&&◌}
use Rattle.std.proofs.lemmas.Bool.{and_parts, eqb-true, Decides.nat_tests}
use Rattle.message_records.specs.believed.{Ranges.whole_within, Reading.request_of, Records.RequestFields}
use Rattle.message_records.specs.declared.{fault.Bad.Bad, limits.TheConstants.MAX_BRANCH}
use Rattle.posting_rules.specs.believed.ByCommands.{HasRoomForAll, TakesByTables, tables_past_command, tables_past_commands}
use Rattle.posting_rules.specs.ByCommands.{RepliesByTables, replies_past_commands}
use Rattle.posting_rules.specs.{believed.Changes.tables_closed, ChangesByKey.is_from}
use Rattle.posting_rules.specs.believed.AnyTables.{AnswersByTables, HasRoom, HasSameRows, IsReadyToOpen}
use Rattle.posting_rules.specs.believed.AnyTables.{OpensByTables}
use Rattle.posting_rules.specs.believed.Changes.{floor_put, new_account, new_teller, opened_where, replies_past_all}
use Rattle.posting_rules.specs.believed.Changes.{reply_past, row_changed, row_put, rows_put, tables_after, tables_opened}
use Rattle.posting_rules.specs.believed.Changes.{tables_past, tables_past_all, tables_read, tables_with_branch}
use Rattle.posting_rules.specs.believed.Changes.{with_account_balance, with_accounts, with_branch, with_branch_balance}
use Rattle.posting_rules.specs.believed.Changes.{with_decided, with_floor, with_history, with_reference, with_request}
use Rattle.posting_rules.specs.believed.Changes.{with_teller_balance, with_tellers}
use Rattle.posting_rules.specs.believed.Commands.{Command, Open, Post, Close, Terms}
use Rattle.posting_rules.specs.believed.{Cases.case_of, Counter.Seen, Counter.opening_for, LookUps.found_in}
use Rattle.posting_rules.specs.believed.{LookUps.terms_in, Runs.posts}
use Rattle.posting_rules.specs.believed.Numbering.{branch_of_account, branch_of_teller, first_account, first_teller}
use Rattle.posting_rules.specs.believed.Tables.{Tables, account_key, branch_key, branch_row_of, floor_key, floor_row_of}
use Rattle.posting_rules.specs.believed.Tables.{history_key, reference_key, request_key, row_at, teller_key}
use Rattle.posting_rules.specs.declared.judgments.Verdict.{Verdict}
use Rattle.posting_rules.specs.declared.judgments.Verdict.TheVariants.{Unkept, Again, Refused, Posted}
use Rattle.posting_rules.specs.declared.limits.TheConstants.{ACCOUNTS_PER_BRANCH, LAST_BRANCH, MAX_ACCOUNTS}
use Rattle.posting_rules.specs.declared.rows.{AccountRow.AccountRow, BranchRow.BranchRow, FloorRow.FloorRow}
use Rattle.posting_rules.specs.declared.rows.{TellerRow.TellerRow}
use Rattle.posting_rules.specs.declared.counter.Opening.{Opening}
use Rattle.posting_rules.proofs.{AnyTables.room_past_all, AnyTables.still_unchanged, Keyed.by_test}
use Rattle.posting_rules.proofs.NumbersInARow.{accounts_in_a_row, tellers_in_a_row}
use Rattle.posting_rules.proofs.RowChanges.{row_at-changed, row_at-put, row_at-rows_put}
use Rattle.posting_rules.proofs.SameRows.{branch_same, closed_same, past_same, reply_same, same_itself, same_then}
use Rattle.posting_rules.proofs.SameRows.{terms_same}

-- ---- room for all

pub room_same : (t u : Tables) → HasSameRows t u → HasRoomForAll t → HasRoomForAll u
room_same t u same room = record {
  postings = record {
    requests = λ o past. subst (λ l. row_at request_key l o ≡ None) (sym same.requests)
        (room.postings.requests o (subst (λ (d : ℕ). d < o) same.decided past));
    postings = λ o past. subst (λ l. row_at history_key l o ≡ None) (sym same.history)
        (room.postings.postings o (subst (λ (d : ℕ). d < o) same.decided past));
    references = λ o past. subst (λ l. row_at reference_key l o ≡ None) (sym same.references)
        (room.postings.references o (subst (λ (d : ℕ). d < o) same.decided past));
    branches = λ n none. same.branches n ∙ room.postings.branches n none;
    floors = λ n none. same.floors n ∙ room.postings.floors n none;
  };
  tellers = λ n low none. same.tellers n ∙ room.tellers n low (sym (same.branches (branch_of_teller n)) ∙ none);
  accounts = λ n low none. same.accounts n ∙ room.accounts n low (sym (same.branches (branch_of_account n)) ∙ none);
  floors = λ n none. same.floors n ∙ room.floors n (sym (same.branches n) ∙ none);
}

-- ---- a record

unmapped : {A B : Type 0} (f : A → B) (o : Option A) → option_map f o ≡ None → o ≡ None
unmapped f None is = refl
unmapped f (Some x) is = absurd cc

-- where a row is missing after a change, it was missing before
was_none : {R : Type 0} (key : R → ℕ) (k : ℕ) (change : R → R) → ((r : R) → key (change r) ≡ key r) → (rows : List R)
    (n : ℕ) → row_at key (row_changed key change k rows) n ≡ None → row_at key rows n ≡ None
was_none key k change same rows n none =
    unmapped (λ r. cond (eqb k n) (change r) r) (row_at key rows n) (sym (row_at-changed key k change same rows n) ∙ none)

-- a teller, an account or a floor still has a row only where its branch has one
record StandByBranches (t : Tables) : Type 0 where
  tellers : (n : ℕ) → 1 ≤ n → row_at branch_key t.branches (branch_of_teller n) ≡ None
      → row_at teller_key t.tellers n ≡ None
  accounts : (n : ℕ) → 1 ≤ n → row_at branch_key t.branches (branch_of_account n) ≡ None
      → row_at account_key t.accounts n ≡ None
  floors : (n : ℕ) → row_at branch_key t.branches n ≡ None → row_at floor_key t.floors n ≡ None

stand_after : (t : Tables) (m : ℕ) (r : RequestFields) (v : Verdict) → StandByBranches t
    → StandByBranches (tables_after t m r v)
unfolding with_decided with_request with_reference with_history
    with_branch_balance with_teller_balance with_account_balance
stand_after t m r (Unkept x) room = room
stand_after t m r (Again x) room = room
stand_after t m r (Refused x) room = record { tellers = room.tellers; accounts = room.accounts; floors = room.floors }
stand_after t m r (Posted a te b) room =
    let before = was_none branch_key (branch_of_teller r.teller) (λ (row : BranchRow). record row { balance = b })
    (λ row. refl) t.branches in
    record {
      tellers = λ n low none. still_unchanged teller_key r.teller (λ (row : TellerRow). record row { balance = te })
          (λ row. refl) t.tellers n (room.tellers n low (before (branch_of_teller n) none));
      accounts = λ n low none. still_unchanged account_key r.account (λ (row : AccountRow). record row { balance = a })
          (λ row. refl) t.accounts n (room.accounts n low (before (branch_of_account n) none));
      floors = λ n none. room.floors n (before n none);
    }

stand_read : (t : Tables) (m : ℕ) (read : Result RequestFields Bad) → StandByBranches t
    → StandByBranches (tables_read t m read)
stand_read t m (Err fault) room = room
stand_read t m (Ok r) room = stand_after t m r (case_of (found_in t r) r) room

stand_past : (t : Tables) (m : ℕ) (records : List (List ℕ)) → StandByBranches t
    → StandByBranches (tables_past_all t m records)
stand_past t m [] room = room
stand_past t m (bytes ∷ records) room =
    stand_past (tables_past t m bytes) m records (stand_read t m (request_of bytes) room)

stand_of : (t : Tables) → HasRoomForAll t → StandByBranches t
stand_of t room = record { tellers = room.tellers; accounts = room.accounts; floors = room.floors }

room_of : (t : Tables) → HasRoom t → StandByBranches t → HasRoomForAll t
room_of t room stand = record {
  postings = room;
  tellers = stand.tellers;
  accounts = stand.accounts;
  floors = stand.floors;
}

pub all_room_past : (t : Tables) (m : ℕ) (records : List (List ℕ)) → HasRoomForAll t
    → HasRoomForAll (tables_past_all t m records)
all_room_past t m records room =
    room_of (tables_past_all t m records) (room_past_all t m records room.postings)
    (stand_past t m records (stand_of t room))

-- ---- an opening

-- where no row is under a key after one was put in, it was put in under another, and none was there
none_put : {R : Type 0} (key : R → ℕ) (x : R) (rows : List R) (n : ℕ) → row_at key (row_put key x rows) n ≡ None
    → (eqb (key x) n ≡ false) × (row_at key rows n ≡ None)
none_put key x rows n none =
    let is = sym (row_at-put key x rows n) ∙ none in
    elim (by_test (eqb (key x) n)) [ inl t ↦ absurd (let no = rw t at is in cc) | inr f ↦ (f, let no = rw f at is in no) ]

still_free : {R : Type 0} (key : R → ℕ) (x : R) (rows : List R) (n : ℕ) → eqb (key x) n ≡ false
    → row_at key rows n ≡ None → row_at key (row_put key x rows) n ≡ None
still_free key x rows n other none = row_at-put key x rows n ∙ rw other none

none_from : {R : Type 0} (key : R → ℕ) (row : ℕ → R) (first count : ℕ) (rows : List R) → ((n : ℕ) → key (row n) ≡ n)
    → (n : ℕ) → is_from first count n ≡ false → row_at key rows n ≡ None
    → row_at key (rows_put key row first count rows) n ≡ None
none_from key row first count rows own n other none =
    row_at-rows_put key row first count rows own n ∙ rw other none

none_of_floor : (b : ℕ) (floor : Option ℤ) (rows : List FloorRow) (n : ℕ) → eqb b n ≡ false
    → row_at floor_key rows n ≡ None → row_at floor_key (floor_put b floor rows) n ≡ None
none_of_floor b None rows n other none = none
none_of_floor b (Some lowest) rows n other none = still_free floor_key (floor_row_of b lowest) rows n other none

-- numbers of another branch
other_teller : (b n : ℕ) → 1 ≤ b → eqb b (branch_of_teller n) ≡ false → is_from (first_teller b) 10 n ≡ false
other_teller b n low other = elim (by_test (is_from (first_teller b) 10 n)) [
  | inl t ↦
      let two = and_parts (leb 1 n) (eqb b (branch_of_teller n)) (tellers_in_a_row b n low ∙ t) in
      absurd (let no = sym other ∙ two.1 in cc)
  | inr f ↦ f
]

other_account : (b n count : ℕ) → 1 ≤ b → count ≤ MAX_ACCOUNTS → eqb b (branch_of_account n) ≡ false
    → is_from (first_account b) count n ≡ false
other_account b n count low few other = elim (by_test (is_from (first_account b) count n)) [
  | inl t ↦
      let one = and_parts (leb 1 n) _ (accounts_in_a_row b n count low few ∙ t) in
      let two = and_parts (eqb b (branch_of_account n)) _ one.1 in
      absurd (let no = sym other ∙ two.0 in cc)
  | inr f ↦ f
]

-- a number that no branch has is another than this one
beyond : (b n : ℕ) → 1 ≤ b → b ≤ LAST_BRANCH → whole_within 1 MAX_BRANCH n ≡ None → eqb b n ≡ false
beyond b n low high none = elim (by_test (eqb b n)) [
  | inl t ↦
      let same : b ≡ n = eqb-true b n t in
      let within : (leb 1 n && leb n MAX_BRANCH) ≡ true = grind (arith, nat_tests) in
      absurd (let no = rw within at none in cc)
  | inr f ↦ f
]

module _ (t : Tables) (b : ℕ) (terms : Terms) (low : 1 ≤ b) (high : b ≤ LAST_BRANCH)
    (few : terms.accounts ≤ MAX_ACCOUNTS) where
  room_opened : HasRoomForAll t → HasRoomForAll (tables_opened t b terms)
  unfolding with_branch with_tellers with_accounts with_floor
  room_opened room =
      let none_before = none_put branch_key (branch_row_of b (pos 0) terms) t.branches in
      record {
        postings = record {
          requests = room.postings.requests;
          postings = room.postings.postings;
          references = room.postings.references;
          branches = λ n none. still_free branch_key (branch_row_of b (pos 0) terms) t.branches n (beyond b n low high none)
              (room.postings.branches n none);
          floors = λ n none. none_of_floor b terms.floor t.floors n (beyond b n low high none)
              (room.postings.floors n none);
        };
        tellers = λ n above none.
            let was = none_before (branch_of_teller n) none in
            none_from teller_key new_teller (first_teller b) 10 t.tellers (λ k. refl) n (other_teller b n low was.0)
            (room.tellers n above was.1);
        accounts = λ n above none.
            let was = none_before (branch_of_account n) none in
            none_from account_key new_account (first_account b) terms.accounts t.accounts (λ k. refl) n
            (other_account b n terms.accounts low few was.0) (room.accounts n above was.1);
        floors = λ n none.
            let was = none_before n none in none_of_floor b terms.floor t.floors n was.0 (room.floors n was.1);
      }

  room_with_branch : HasRoomForAll t → HasRoomForAll (tables_with_branch t b terms)
  room_with_branch room = by_row (row_at branch_key t.branches b)
    where
      by_row : (row : Option BranchRow) → HasRoomForAll (opened_where row t b terms)
      by_row None = room_opened room
      by_row (Some row) = room

  -- a branch without a row has neither tellers nor accounts
  its_teller : (n : ℕ) → n < 10 → branch_of_teller (first_teller b + n) ≡ b
  its_teller n lt = omega arith

  its_account : (n : ℕ) → n < ACCOUNTS_PER_BRANCH → branch_of_account (first_account b + n) ≡ b
  its_account n lt = omega arith

  pub ready_for : HasRoomForAll t → IsReadyToOpen b terms t
  ready_for room none = record {
    tellers = λ n lt. room.tellers (first_teller b + n) (omega arith)
        (ap (row_at branch_key t.branches) (its_teller n lt) ∙ none);
    accounts = λ n lt. room.accounts (first_account b + n) (omega arith)
        (ap (row_at branch_key t.branches) (its_account n (omega arith)) ∙ none);
    floor = by_floor terms.floor;
  }
    where
      by_floor : (floor : Option ℤ) → IfSome floor (λ _. row_at floor_key t.floors b ≡ None)
      by_floor None = tt
      by_floor (Some lowest) = room.floors b none

-- ---- commands one after another

tables_both : (t : Tables) (cs ds : List Command)
    → tables_past_commands t (cs ++ ds) ≡ tables_past_commands (tables_past_commands t cs) ds
tables_both t [] ds = refl
tables_both t (c ∷ cs) ds = tables_both (tables_past_command t c) cs ds

replies_both : (t : Tables) (cs ds : List Command)
    → replies_past_commands t (cs ++ ds)
    ≡ replies_past_commands t cs ++ replies_past_commands (tables_past_commands t cs) ds
replies_both t [] ds = refl
replies_both t (Open b terms ∷ cs) ds = replies_both (tables_with_branch t b terms) cs ds
replies_both t (Post m bytes ∷ cs) ds =
    ap (λ (l : List (List ℕ)). reply_past t bytes ∷ l) (replies_both (tables_past t m bytes) cs ds)
replies_both t (Close first last ∷ cs) ds = replies_both (tables_closed t first last) cs ds

command_same : (t u : Tables) (c : Command) → HasSameRows t u
    → HasSameRows (tables_past_command t c) (tables_past_command u c)
command_same t u (Open b terms) same = branch_same t u b terms same
command_same t u (Post m bytes) same = past_same t u m bytes same
command_same t u (Close first last) same = closed_same t u first last same

commands_same : (t u : Tables) (cs : List Command) → HasSameRows t u
    → HasSameRows (tables_past_commands t cs) (tables_past_commands u cs)
commands_same t u [] same = same
commands_same t u (c ∷ cs) same =
    commands_same (tables_past_command t c) (tables_past_command u c) cs (command_same t u c same)

replies_same : (t u : Tables) (cs : List Command) → HasSameRows t u
    → replies_past_commands u cs ≡ replies_past_commands t cs
replies_same t u [] same = refl
replies_same t u (Open b terms ∷ cs) same =
    replies_same (tables_with_branch t b terms) (tables_with_branch u b terms) cs (branch_same t u b terms same)
replies_same t u (Post m bytes ∷ cs) same =
    ap (λ (x : List ℕ). x ∷ replies_past_commands (tables_past u m bytes) cs) (reply_same t u bytes same)
    ∙ ap (λ (l : List (List ℕ)). reply_past t bytes ∷ l)
    (replies_same (tables_past t m bytes) (tables_past u m bytes) cs (past_same t u m bytes same))
replies_same t u (Close first last ∷ cs) same =
    replies_same (tables_closed t first last) (tables_closed u first last) cs (closed_same t u first last same)

-- none was given
pub nothing_taken : (c : Seen) → TakesByTables c c []
nothing_taken c h t room there = record {
  leads = record { tables = t; same = same_itself t; are = there; survives = λ only. only };
  room = room;
}

-- some, and then others
module _ (c c' c'' : Seen) (cs ds : List Command) (honest : c''.honest → c'.honest) (one : TakesByTables c c' cs)
  where
    pub both_taken : TakesByTables c' c'' ds → TakesByTables c c'' (cs ++ ds)
    both_taken two h t room there =
        let first = one (honest h) t room there in
        let u = first.leads.tables in
        let second = two h u first.room first.leads.are in
        record {
          leads = record {
            tables = second.leads.tables;
            same = subst (λ (v : Tables). HasSameRows v second.leads.tables) (sym (tables_both t cs ds))
                (same_then _ (tables_past_commands u ds) _ (commands_same _ u ds first.leads.same) second.leads.same);
            are = second.leads.are;
            survives = λ only. second.leads.survives (first.leads.survives only);
          };
          room = second.room;
        }

    -- the replies to the others are those on the tables to which the first led
    pub replied_after : (before : List (List ℕ)) → RepliesByTables c c' cs before → (h : c''.honest) (t : Tables)
        (room : HasRoomForAll t) (there : c.tables t)
        → replies_past_commands t (cs ++ ds)
        ≡ before ++ replies_past_commands (one (honest h) t room there).leads.tables ds
    replied_after before gave h t room there =
        let first = (one (honest h) t room there).leads in
        replies_both t cs ds
        ∙ ap (λ (l : List (List ℕ)). l ++ replies_past_commands (tables_past_commands t cs) ds) (gave (honest h) t room there)
        ∙ ap (λ (l : List (List ℕ)). before ++ l) (sym (replies_same _ first.tables ds first.same))

    pub both_replied : (before replies : List (List ℕ)) → RepliesByTables c c' cs before
        → RepliesByTables c' c'' ds replies → RepliesByTables c c'' (cs ++ ds) (before ++ replies)
    both_replied before replies gave two h t room there =
        let first = one (honest h) t room there in
        replied_after before gave h t room there
        ∙ ap (λ (l : List (List ℕ)). before ++ l) (two h first.leads.tables first.room first.leads.are)

    -- the answer to an opening is that on what the commands before it left
    pub opening_answered : (b : ℕ) (terms : Terms) (opening : Opening) → 1 ≤ b → b ≤ LAST_BRANCH
        → terms.accounts ≤ MAX_ACCOUNTS → OpensByTables c' c'' b terms opening → c''.honest → (t : Tables)
        → HasRoomForAll t → c.tables t → opening ≡ opening_for (terms_in (tables_past_commands t cs) b) terms
    opening_answered b terms opening low high few it h t room there =
        let first = one (honest h) t room there in
        let u = first.leads.tables in
        (it h u (ready_for u b terms low high few first.room) first.leads.are).answer
        ∙ ap (λ (o : Option Terms). opening_for o terms) (terms_same (tables_past_commands t cs) u b first.leads.same)

-- ---- one call

tables_of_posts : (t : Tables) (m : ℕ) (records : List (List ℕ))
    → tables_past_commands t (posts m records) ≡ tables_past_all t m records
tables_of_posts t m [] = refl
tables_of_posts t m (bytes ∷ records) = tables_of_posts (tables_past t m bytes) m records

replies_of_posts : (t : Tables) (m : ℕ) (records : List (List ℕ))
    → replies_past_commands t (posts m records) ≡ replies_past_all t m records
replies_of_posts t m [] = refl
replies_of_posts t m (bytes ∷ records) =
    ap (λ (l : List (List ℕ)). reply_past t bytes ∷ l) (replies_of_posts (tables_past t m bytes) m records)

-- records were answered
pub posts_taken : (c c' : Seen) (m : ℕ) (records replies : List (List ℕ)) → AnswersByTables c c' m records replies
    → TakesByTables c c' (posts m records)
posts_taken c c' m records replies it h t room there = record {
  leads = record {
    tables = tables_past_all t m records;
    same = subst (λ (v : Tables). HasSameRows v (tables_past_all t m records)) (sym (tables_of_posts t m records))
        (same_itself (tables_past_all t m records));
    are = it.shows h t room.postings there;
    survives = it.survives h t room.postings there;
  };
  room = all_room_past t m records room;
}

pub posts_replied : (c c' : Seen) (m : ℕ) (records replies : List (List ℕ)) → AnswersByTables c c' m records replies
    → RepliesByTables c c' (posts m records) replies
posts_replied c c' m records replies it h t room there =
    replies_of_posts t m records ∙ sym (it.are h t room.postings there)

-- a branch was opened, or was open
pub opening_taken : (c c' : Seen) (b : ℕ) (terms : Terms) (opening : Opening) → 1 ≤ b → b ≤ LAST_BRANCH
    → terms.accounts ≤ MAX_ACCOUNTS → OpensByTables c c' b terms opening → TakesByTables c c' (Open b terms ∷ [])
opening_taken c c' b terms opening low high few it h t room there =
    let opens = it h t (ready_for t b terms low high few room) there in
    record {
      leads = opens.leads;
      room = room_same (tables_with_branch t b terms) opens.leads.tables opens.leads.same
          (room_with_branch t b terms low high few room);
    }
