-- How a counter stands after some openings of a plan.
use Rattle.std.proofs.Common.{◌≡◌, ◌≤◌, ◌<◌, ◌+◌, ◌∷◌, ◌++◌, ◌∙◌, ℕ, zero, suc, List, [], Bool, length, take}
use Rattle.std.proofs.Common.{take_all, drop, get_or, arith, refl, sym, ap, subst, add-zero, zero-add}
use Rattle.std.specs.Prelude.{count_by, cond, sum_by}
use Rattle.std.proofs.Math.Seq.{take-append-add, take-append_seam, take-length}
use Rattle.std.proofs.lemmas.List.{drop-map, drop_more, length-append, length-map, length-take-le, map-append}
use Rattle.std.proofs.lemmas.List.{take-append-drop, take-map, Sums.sum_by-append}
use Rattle.posting_rules.specs.believed.Commands.{Command, Open, AreCommands}
use Rattle.posting_rules.specs.believed.Counter.{Seen, ShowsLog, ShowsPrefix, Takes, Refuses, opening_after, opening_for}
use Rattle.posting_rules.specs.{believed.Runs.followed_by, believed.Tables.Tables, believed.Tables.AreTablesOf}
use Rattle.posting_rules.specs.{declared.counter.Opening.Opening, declared.fault.Fault.Fault}
use Rattle.posting_rules.proofs.{CounterCalls.Takes-append, Sequence.after-append}
use Rattle.posting_rules.proofs.Remaining.{leaves_still, leaves_weaker}
use Rattle.posting_core.proofs.Refused.{still_down}
use Rattle.posting_rules.specs.declared.counter.Opening.TheVariants.{Opened, Already, Differs}
use Rattle.posting_rules.specs.declared.fault.Fault.TheVariants.{Memory, Store, Down, Damaged}
use Rattle.branch_loader.specs.believed.{Plans.Rows, Plans.Row, Loading.IsRefusedAfter, Loading.LeavesPrefix}
use Rattle.branch_loader.specs.{Plans.openings, Plans.terms_of, declared.loader.Loaded.Loaded}
use Rattle.branch_loader.specs.Loading.{CountsAnswers, LoadsAll, answers, answers_in, counted, total, with_answer}
use Rattle.branch_loader.specs.Loading.{is_already, is_differs, is_opened}
use Rattle.branch_loader.specs.Plans.{IsRow}
use Rattle.posting_rules.specs.believed.ByCommands.{HasRoomForAll, TakesByTables, tables_past_commands}
use Rattle.posting_rules.specs.believed.{AnyTables.OpensByTables, Changes.tables_with_branch, LookUps.terms_in}
use Rattle.posting_rules.proofs.ByCommands.{both_taken, nothing_taken, opening_answered, opening_taken}

-- ---- answers

answers-push : (log : List Command) (rows : Rows) (p : Row)
    → answers log (rows ++ p ∷ []) ≡ answers log rows ++ opening_after
    (followed_by log (openings rows)) p.0 (terms_of p) ∷ []
unfolding answers
answers-push log [] p = refl
answers-push log (q ∷ rows) p =
    ap (λ (given : List Opening). opening_after log q.0 (terms_of q) ∷ given)
    (answers-push (Open q.0 (terms_of q) ∷ log) rows p)

answers_in-push : (t : Tables) (rows : Rows) (p : Row)
    → answers_in t (rows ++ p ∷ [])
    ≡ answers_in t rows ++ opening_for (terms_in (tables_past_commands t (openings rows)) p.0) (terms_of p) ∷ []
answers_in-push t [] p = refl
answers_in-push t (q ∷ rows) p =
    ap (λ (given : List Opening). opening_for (terms_in t q.0) (terms_of q) ∷ given)
    (answers_in-push (tables_with_branch t q.0 (terms_of q)) rows p)

count_by-push : (test : Opening → Bool) (given : List Opening) (o : Opening)
    → count_by test (given ++ o ∷ []) ≡ count_by test given + cond (test o) 1 0
count_by-push test given o =
    sum_by-append (λ (a : Opening). cond (test a) 1 0) given (o ∷ [])
    ∙ ap (λ (n : ℕ). sum_by (λ (a : Opening). cond (test a) 1 0) given + n) (zero-add (cond (test o) 1 0))

-- the counts that differ by 1, 0 and 0
counts : (a b c x y z : ℕ) → a ≡ x → b ≡ y → c ≡ z
    → (let one : Loaded = record { opened = a; already = b; differs = c } in one) ≡ record {
      opened = x;
      already = y;
      differs = z;
    }
counts a b c x y z p q r = cc

counted-push : (given : List Opening) (o : Opening)
    → counted (given ++ o ∷ []) ≡ with_answer (counted given) o
counted-push given Opened =
    counts _ _ _ _ _ _ (count_by-push is_opened given Opened)
    (count_by-push is_already given Opened ∙ add-zero (count_by is_already given))
    (count_by-push is_differs given Opened ∙ add-zero (count_by is_differs given))
counted-push given Already =
    counts _ _ _ _ _ _ (count_by-push is_opened given Already ∙ add-zero (count_by is_opened given))
    (count_by-push is_already given Already)
    (count_by-push is_differs given Already ∙ add-zero (count_by is_differs given))
counted-push given Differs =
    counts _ _ _ _ _ _ (count_by-push is_opened given Differs ∙ add-zero (count_by is_opened given))
    (count_by-push is_already given Differs ∙ add-zero (count_by is_already given))
    (count_by-push is_differs given Differs)

with_answer-total : (loaded : Loaded) (o : Opening) → total (with_answer loaded o) ≡ total loaded + 1
with_answer-total loaded Opened = omega arith
with_answer-total loaded other = omega arith

-- ---- what a crash may leave

-- after the commands were taken a crash leaves them all
pub left-all : (old new : Seen) (commands : List Command) → Takes old new commands
    → LeavesPrefix old new commands (length commands)
left-all old new commands taken h log stood =
    leaves_weaker new (λ t. AreTablesOf t (followed_by log commands))
    (ShowsPrefix log commands (length commands))
    (λ t shown. record {
      count = length commands;
      holds = omega arith;
      within = omega arith;
      are = rw (take-length commands) (taken.stands h log stood).shows.commands;
      shows = rw (take-length commands) shown;
    })
    (taken.stands h log stood).survives

-- a prefix of one command more
one_more : (log xs rest : List Command) (c : Command) (t : Tables)
    → ShowsPrefix (followed_by log xs) (c ∷ []) 0 t
    → ShowsPrefix log (xs ++ c ∷ rest) (length xs) t
one_more log xs rest c t b = record {
  count = length xs + b.count;
  holds = omega arith;
  within = let most = b.within in omega (arith, length-append xs (c ∷ rest));
  are = rw (take-append-add xs (c ∷ rest) b.count, after-append log xs (take b.count (c ∷ rest)))
      (by AreCommands b.count b.within b.are);
  shows = rw (take-append-add xs (c ∷ rest) b.count, after-append log xs (take b.count (c ∷ rest)))
      (by (λ cs. AreTablesOf t cs) b.count b.within b.shows);
}
  where
    by : (P : List Command → Type 0) (k : ℕ) → k ≤ 1 → P (followed_by (followed_by log xs) (take k (c ∷ [])))
        → P (followed_by (followed_by log xs) (take k (c ∷ rest)))
    by P zero small holds = holds
    by P (suc zero) small holds = holds
    by P (suc (suc k)) small holds = absurd (omega arith)

-- where the next command was refused it leaves them, or them and that command
pub left-refused : (fault : Fault) (old now new : Seen) (xs : List Command) (c : Command)
    (rest : List Command)
    → Takes old now xs → Refuses fault now new (c ∷ []) → (new.honest → now.honest)
    → LeavesPrefix old new (xs ++ c ∷ rest) (length xs)
left-refused Memory old now new xs c rest taken refused honest h log stood =
    leaves_weaker new (λ t. AreTablesOf t (followed_by log xs)) (ShowsPrefix log (xs ++ c ∷ rest) (length xs))
    (λ t shown. record {
      count = length xs;
      holds = omega arith;
      within = omega (arith, length-append xs (c ∷ rest));
      are = rw (take-append_seam xs (c ∷ rest)) (taken.stands (honest h) log stood).shows.commands;
      shows = rw (take-append_seam xs (c ∷ rest)) shown;
    })
    (leaves_still now new (λ t. AreTablesOf t (followed_by log xs)) refused.left
    (taken.stands (honest h) log stood).survives)
left-refused Store old now new xs c rest taken refused honest h log stood =
    leaves_weaker new (ShowsPrefix (followed_by log xs) (c ∷ []) 0)
    (ShowsPrefix log (xs ++ c ∷ rest) (length xs)) (one_more log xs rest c)
    (refused.survives h (followed_by log xs) (taken.stands (honest h) log stood))
left-refused Down old now new xs c rest taken refused honest h log stood =
    absurd ((taken.stands (honest h) log stood).up refused.before)
left-refused (Damaged rule) old now new xs c rest taken refused honest h log stood =
    absurd (refused.never_shown h (followed_by log xs) (taken.stands (honest h) log stood).shows)

-- ---- the counter after some rows

-- how a counter stands after the openings of some rows, whose answers were counted
pub record IsAfter {C : Type 0} (seen : C → Seen) (old now : C) (rows : Rows)
    (loaded : Loaded) : Type 0 where
  pub taken : Takes (seen old) (seen now) (openings rows)
  pub first : length rows ≡ 0 → now ≡ old
  pub begun : 0 < length rows → (seen old).is_down → ⊥
  pub up : (seen now).is_down → (seen old).is_down
  pub honest : (seen now).honest → (seen old).honest
  pub counts : (seen now).honest → (log : List Command) → ShowsLog (seen old) log
      → loaded ≡ counted (answers log rows)
  pub by_tables : TakesByTables (seen old) (seen now) (openings rows)
  pub counts_on : (seen now).honest → (t : Tables) → HasRoomForAll t → (seen old).tables t
      → loaded ≡ counted (answers_in t rows)
  pub sum : total loaded ≡ length rows

-- before the first
pub after-none : {C : Type 0} (seen : C → Seen) (c : C)
    → IsAfter seen c c [] (record { opened = 0; already = 0; differs = 0 })
unfolding answers
after-none seen c = record {
  taken = record { shows = λ h log shown. shown; stands = λ h log stood. stood };
  first = λ e. refl;
  begun = λ h down. absurd (omega arith);
  up = λ down. down;
  honest = λ h. h;
  counts = λ h log shown. refl;
  by_tables = nothing_taken (seen c);
  counts_on = λ h t room there. refl;
  sum = refl;
}

-- a counter that isn't down now wasn't down before
was_down : {C : Type 0} (seen : C → Seen) (old now : C) (rows : Rows) → (length rows ≡ 0 → now ≡ old)
    → (0 < length rows → (seen old).is_down → ⊥) → ((seen now).is_down → ⊥) → (seen old).is_down → ⊥
was_down seen old now [] first begun is_up down = is_up (rw (first refl) down)
was_down seen old now (p ∷ rows) first begun is_up down = begun (omega arith) down

-- a counter that was down is the one that it was
pub after-idle : {C : Type 0} (seen : C → Seen) (old now : C) (rows : Rows) (loaded : Loaded)
    → IsAfter seen old now rows loaded → (seen old).is_down → now ≡ old
after-idle seen old now [] loaded b down = b.first refl
after-idle seen old now (p ∷ rows) loaded b down = absurd (b.begun (omega arith) down)

-- after one more
pub after-more : {C : Type 0} (seen : C → Seen) (old now new : C) (rows : Rows) (p : Row) (loaded : Loaded)
    (opening : Opening)
    → IsAfter seen old now rows loaded
    → Takes (seen now) (seen new) (Open p.0 (terms_of p) ∷ [])
    → ((seen new).honest → (log : List Command) → ShowsLog (seen now) log
    → opening ≡ opening_after log p.0 (terms_of p))
    → ((seen now).is_down → ⊥) → ((seen new).is_down → ⊥) → ((seen new).honest → (seen now).honest)
    → OpensByTables (seen now) (seen new) p.0 (terms_of p) opening → IsRow p
    → IsAfter seen old new (rows ++ p ∷ []) (with_answer loaded opening)
after-more seen old now new rows p loaded opening b takes answer was_up is_up honest opens is = record {
  taken = rw (map-append (λ (q : Row). Open q.0 (terms_of q)) rows (p ∷ []))
      (Takes-append (seen old) (seen now) (seen new) (openings rows) (Open p.0 (terms_of p) ∷ []) b.taken takes
      honest);
  first = λ e. absurd (omega (arith, length-append rows (p ∷ [])));
  begun = λ h down. was_down seen old now rows b.first b.begun was_up down;
  up = λ down. absurd (is_up down);
  honest = λ h. b.honest (honest h);
  counts = λ h log shown.
      let given : opening ≡ opening_after (followed_by log (openings rows)) p.0 (terms_of p) =
      answer h (followed_by log (openings rows)) (b.taken.shows (honest h) log shown) in
      let before : loaded ≡ counted (answers log rows) = b.counts (honest h) log shown in
      ap (λ (l : Loaded). with_answer l opening) before ∙ ap
      (λ (o : Opening). with_answer (counted (answers log rows)) o) given
      ∙ sym (counted-push (answers log rows)
      (opening_after (followed_by log (openings rows)) p.0 (terms_of p)))
      ∙ ap counted (sym (answers-push log rows p));
  by_tables = rw (map-append (λ (q : Row). Open q.0 (terms_of q)) rows (p ∷ []))
      (both_taken (seen old) (seen now) (seen new) (openings rows) (Open p.0 (terms_of p) ∷ []) honest b.by_tables
      (opening_taken (seen now) (seen new) p.0 (terms_of p) opening is.0 is.1 is.3 opens));
  counts_on = λ h t room there.
      let given = opening_answered (seen old) (seen now) (seen new) (openings rows) [] honest b.by_tables p.0 (terms_of p)
      opening is.0 is.1 is.3 opens h t room there in
      ap (λ (l : Loaded). with_answer l opening) (b.counts_on (honest h) t room there)
      ∙ ap (λ (o : Opening). with_answer (counted (answers_in t rows)) o) given
      ∙ sym (counted-push (answers_in t rows) _)
      ∙ ap counted (sym (answers_in-push t rows p));
  sum = with_answer-total loaded opening ∙ ap (λ (n : ℕ). n + 1) b.sum ∙ sym (length-append rows (p ∷ []));
}

none_before : {A : Type 0} (xs : List A) → (0 < length xs → ⊥) → length xs ≡ 0
none_before [] h = refl
none_before (x ∷ xs) h = absurd (h (omega arith))

-- the next opening refused
pub after-refused : {C : Type 0} (seen : C → Seen) (old now new : C) (rows : Rows) (i : ℕ) (p : Row)
    (loaded : Loaded) (fault : Fault)
    → IsAfter seen old now (take i rows) loaded → i < length rows → p ≡ get_or rows i p
    → Refuses fault (seen now) (seen new) (Open p.0 (terms_of p) ∷ []) → ((seen new).honest → (seen now).honest)
    → ((seen now).is_down → fault ≡ Down) → IsRefusedAfter seen old new (openings rows) fault i
after-refused seen old now new rows i p loaded fault b within read refused honest down =
    let front : length (take i rows) ≡ i = length-take-le i rows (omega arith) in
    let rest : drop i rows ≡ p ∷ drop (i + 1) rows = drop_more rows i p within ∙ rw (← read) refl in
    let taken : take i (openings rows) ≡ openings (take i rows) = take-map
    (λ (q : Row). Open q.0 (terms_of q)) i rows in
    let dropped : drop i (openings rows) ≡ Open p.0 (terms_of p) ∷ openings (drop (i + 1) rows) =
    drop-map (λ (q : Row). Open q.0 (terms_of q)) i rows ∙ rw rest refl in
    let whole : openings rows ≡ openings (take i rows) ++ Open p.0 (terms_of p) ∷ openings (drop (i + 1) rows) =
    sym (take-append-drop i (openings rows)) ∙ rw (taken, dropped) refl in
    let count : length (openings (take i rows)) ≡ i = rw length-map front in
    let after_all = openings (take i rows) ++ Open p.0 (terms_of p) ∷ openings (drop (i + 1) rows) in
    let left =
    left-refused fault (seen old) (seen now) (seen new) (openings (take i rows)) (Open p.0 (terms_of p))
    (openings (drop (i + 1) rows)) b.taken
    refused honest in
    record {
      within = rw length-map within;
      stood = now;
      first = λ e. b.first (front ∙ e);
      taken = rw taken b.taken;
      by_tables = rw taken b.by_tables;
      refused = rw dropped refused;
      honest = honest;
      up = λ d. (b.up d, sym front ∙ none_before (take i rows) (λ some. b.begun some (b.up d)));
      tried = down;
      down = λ d. still_down fault (seen now) (seen new) (Open p.0 (terms_of p) ∷ []) refused (down d);
      left = subst (λ (cs : List Command). LeavesPrefix (seen old) (seen new) cs i) (sym whole)
          (subst (λ (n : ℕ). LeavesPrefix (seen old) (seen new) after_all n) count left);
    }

-- at the end of the rows it took them all
pub loaded_all : {C : Type 0} (seen : C → Seen) (old now : C) (rows plan : Rows) (i : ℕ)
    (loaded : Loaded) → IsAfter seen old now (take i rows) loaded → length rows ≤ i → rows ≡ plan
    → LoadsAll (seen old) (seen now) plan
loaded_all seen old now rows plan i loaded b all is =
    let whole : take i rows ≡ plan = take_all i rows all ∙ is in
    let taken : Takes (seen old) (seen now) (openings plan) = subst
    (λ (rs : Rows). Takes (seen old) (seen now) (openings rs)) whole b.taken in
    let count : length (openings plan) ≡ length plan = rw length-map refl in
    record {
      takes = taken;
      by_tables = subst (λ (rs : Rows). TakesByTables (seen old) (seen now) (openings rs)) whole b.by_tables;
      survives = subst (λ (n : ℕ). LeavesPrefix (seen old) (seen now) (openings plan) n) count
          (left-all (seen old) (seen now) (openings plan) taken);
      up = b.up;
    }

-- and its counts are those of the answers
pub loaded_counts : {C : Type 0} (seen : C → Seen) (old now : C) (rows plan : Rows) (i : ℕ) (loaded : Loaded)
    → IsAfter seen old now (take i rows) loaded → length rows ≤ i → rows ≡ plan
    → CountsAnswers (seen old) (seen now) plan loaded
loaded_counts seen old now rows plan i loaded b all is =
    subst (λ (rs : Rows). CountsAnswers (seen old) (seen now) rs loaded) (take_all i rows all ∙ is)
    (record { by_log = b.counts; by_tables = b.counts_on })
