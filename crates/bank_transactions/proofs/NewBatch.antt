-- A batch whose requests were put in first: none of them was kept, so that its slots have what the tables have.
use Rattle.std.proofs.Common.{◌≡◌, ◌∙◌, ℕ, eqb, pos, false, true, not, Bool, List, [], ◌∷◌, map, Option, Some, None, Result, Ok}
use Rattle.std.proofs.Common.{Err, find, refl, sym, ap, subst, arith}
use Rattle.std.proofs.lemmas.Bool.{and_parts, eq-eqb, eqb-true}
use Rattle.std.specs.Prelude.{◌&&◌, ◌≢◌, IfSome, IsSome, IsTrue, is_none}
use Rattle.std.specs.List.{AllByRecursion}
use Rattle.sqlite.specs.{Effect.Database, Held.state, declared.transaction.Transaction.Transaction}
use Rattle.sqlite.specs.State.{State, HasCleanDisk, KeepsCommit}
use Rattle.sqlite_trees.specs.declared.store.Store.{Ghosts}
use Rattle.sqlite_trees.proofs.ListLemmas.{map-map}
use Rattle.message_records.specs.believed.Reading.{request_of}
use Rattle.posting_rules.specs.believed.{Kept.KeptFields, Tables.Tables}
use Rattle.posting_rules.specs.declared.rows.RequestRow.{RequestRow}
use Rattle.posting_batch.specs.{declared.batch.Batch.Batch, declared.slots.RequestSlot.RequestSlot}
use Rattle.posting_batch.specs.{Slots.empty_request, View.IsMadeOf, View.reads_of, View.view}
use Rattle.posting_batch.specs.Batch.{IsAmong, KeepsNew, blanked, filled, has_gap}
use Rattle.posting_batch.specs.Overlay.{Overlay, requests_put, tables_over}
use Rattle.posting_batch.proofs.{Blanked.blank_made, Blanked.made_unkept}
use Rattle.sql_meanings.specs.{Calls.Inside, Calls.Says, believed.Entries.Entry, believed.Entries.has_two}
use Rattle.sql_meanings.proofs.{Changes.found_all, Changes.found_passes, NewPairs.neither}
use Rattle.store_rows.specs.{believed.BankTables.request, believed.Failures.Additions, SeveralRows.IsNew}
use Rattle.store_rows.specs.{SeveralRows.PutsNew, View.HoldsRows, declared.fault.TableFault.TableFault}
use Rattle.store_rows.specs.believed.{Rules.HoldsBank, Rules.OfRows, Rules.StoredRows, View.Shows}
use Rattle.store_rows.specs.declared.fault.TableFault.TheVariants.{Sqlite, Damaged}
use Rattle.store_rows.proofs.{StoredRows.holds_list, TableKinds.holds}
use Rattle.sqlite_rules.specs.Lists.{Has}
use Rattle.bank_transactions.specs.{believed.Additions.AddsRequests, believed.Causes.Damage}
use Rattle.bank_transactions.specs.{believed.Stored.HoldsKept, Writing.MayAddRequests}
use Rattle.bank_transactions.specs.Doing.{Acts, CommitsNothing, Does, DoesBy, Looks, ReadsWhere}
use Rattle.bank_transactions.specs.Filling.{AreHeld, RequestHeld, RowsAreKnown, emptied, unbooked}
use Rattle.bank_transactions.specs.Tries.{IsMadeAgain, may_be_kept}
use Rattle.bank_transactions.proofs.ToldBooks.{unkept_still}
use Rattle.bank_transactions.proofs.JudgedSlots.{Judging, Knows, written_so}
use Rattle.bank_transactions.proofs.LookUps.{does_look, finds_so}
use Rattle.bank_transactions.specs.Writing.{MayWrite}
use Rattle.bank_transactions.proofs.Chained.{acts_wrote, does_err, does_for, does_known, does_tell, does_then, still_in}

-- ---- slots

-- no row is of the slot's teller, under its number
abbrev pub IsNowhere : List Entry → RequestSlot → Type 0
IsNowhere es s = find (has_two (pos s.teller) (pos s.number)) es ≡ None

-- a slot keeps a request that is among those that were put in, so that it was nowhere
one_nowhere : (es : List Entry) (rows : List RequestRow) (s : RequestSlot) → AllByRecursion (IsNew es) rows
    → IsAmong rows s → IsNowhere es s
one_nowhere es rows s new among = go (find asks rows) refl among
  where
    asks : RequestRow → Bool
    asks r = (eqb r.teller s.teller) && (eqb r.number s.number)

    go : (o : Option RequestRow) → find asks rows ≡ o → IsSome o → IsNowhere es s
    go None found there = absurd cc
    go (Some r) found there =
        let both = and_parts (eqb r.teller s.teller) (eqb r.number s.number) (found_passes asks rows r found) in
        subst (λ (n : ℕ). find (has_two (pos n) (pos s.number)) es ≡ None) (eqb-true r.teller s.teller both.0)
        (subst (λ (n : ℕ). find (has_two (pos r.teller) (pos n)) es ≡ None) (eqb-true r.number s.number both.1)
        (found_all (IsNew es) asks rows r new found))

apart : (same gap : Bool) → (not same && not gap) ≡ true → (same ≢ true) × (gap ≡ false)
apart true gap is = absurd cc
apart false true is = absurd cc
apart false false is = ((λ same. absurd cc), refl)

pub decided_all : (n m : ℕ) (gap whole : Bool) → whole ≡ (not (eqb n m) && not gap) → whole ≡ true
    → (n ≢ m) × (gap ≡ false)
decided_all n m gap whole is whole_is =
    let both = apart (eqb n m) gap (sym is ∙ whole_is) in ((λ same. both.0 (eq-eqb n m same)), both.1)

kept_there : (o : Option KeptFields) (A : Type 0) → is_none o ≡ false → IfSome o (λ k. A) → A
kept_there None A none it = absurd cc
kept_there (Some k) A none it = it

all_nowhere : (es : List Entry) (rows : List RequestRow) (slots : List RequestSlot) → AllByRecursion (IsNew es) rows
    → has_gap slots ≡ false → AllByRecursion (λ s. IfSome s.kept (λ k. IsAmong rows s)) slots
    → AllByRecursion (IsNowhere es) slots
all_nowhere es rows [] new none own = tt
all_nowhere es rows (s ∷ slots) new none own =
    let both = neither (is_none s.kept) (has_gap slots) none in (
      one_nowhere es rows s new (kept_there s.kept (IsAmong rows s) both.0 own.0),
      all_nowhere es rows slots new both.1 own.1,
    )

abbrev blank : RequestSlot → RequestSlot
blank s = empty_request s.teller s.number

-- slots with the same keys
same_keys : (P : RequestSlot → Type 0) → ((s : RequestSlot) → P s → P (blank s))
    → ((s : RequestSlot) → P (blank s) → P s)
    → (xs ys : List RequestSlot) → map blank xs ≡ map blank ys → AllByRecursion P xs → AllByRecursion P ys
same_keys P to from [] [] same all = tt
same_keys P to from [] (y ∷ ys) same all = absurd cc
same_keys P to from (x ∷ xs) [] same all = absurd cc
same_keys P to from (x ∷ xs) (y ∷ ys) same all =
    let first : blank x ≡ blank y = cc in
    let rest : map blank xs ≡ map blank ys = cc in
    (from y (subst P first (to x all.0)), same_keys P to from xs ys rest all.1)

pub nowhere : (es : List Entry) (p o : Overlay) → has_gap o.kept ≡ false → KeepsNew o → blanked o ≡ blanked p
    → AllByRecursion (IsNew es) o.requests → AllByRecursion (IsNowhere es) p.kept
nowhere es p o none own same new =
    same_keys (IsNowhere es) (λ s it. it) (λ s it. it) o.kept p.kept (ap (λ (q : Overlay). q.kept) same)
    (all_nowhere es o.requests o.kept new none own)

-- ---- in rows

held_none : (rows : StoredRows) (slots : List RequestSlot) → AllByRecursion (λ s. s.kept ≡ None) slots
    → AllByRecursion (IsNowhere rows.requests) slots → AllByRecursion (RequestHeld rows) slots
held_none rows [] unkept nowhere = tt
held_none rows (s ∷ slots) unkept nowhere = (
  subst (λ (k : Option KeptFields). HoldsKept rows s.teller s.number k) (sym unkept.0) nowhere.0,
  held_none rows slots unkept.1 nowhere.1,
)

pub known_held : (rows : StoredRows) (p : Overlay) → AllByRecursion (λ s. s.kept ≡ None) p.kept
    → AllByRecursion (IsNowhere rows.requests) p.kept → RowsAreKnown rows p → AreHeld rows p
known_held rows p unkept nowhere it = record {
  branches = it.branches;
  floors = it.floors;
  tellers = it.tellers;
  accounts = it.accounts;
  kept = held_none rows p.kept unkept nowhere;
  decided = it.decided;
}

-- the requests that a file holds
pub requests_held : (db : Database) (rows : StoredRows) → HoldsBank db rows → HoldsRows db request rows.requests
requests_held db rows has =
    record { sound = has.sound; holds = holds_list db rows has 5 request rows.requests refl refl }

-- ---- a batch is made again

blank_emptied : (o : Overlay) → blanked (emptied o) ≡ blanked o
blank_emptied o = rw (
  map-map _ _ o.branches,
  map-map _ _ o.floors,
  map-map _ _ o.tellers,
  map-map _ _ o.accounts,
  map-map _ _ o.kept,
) refl

blank_same : (o p : Overlay) → emptied o ≡ emptied p → blanked o ≡ blanked p
blank_same o p same = sym (blank_emptied o) ∙ ap blanked same ∙ blank_emptied p

pub is_again : (b again : Batch) (p o : Overlay) → emptied p ≡ emptied (view b.overlay) → blanked o ≡ blanked p
    → reads_of again ≡ reads_of b → view again.overlay ≡ blanked o → IsMadeAgain b again
is_again b again p o same keys reads is = record {
  reads = reads;
  made = λ records made. record {
    reads = reads ∙ made.reads;
    overlay = is ∙ keys ∙ blank_same p (view b.overlay) same ∙ ap blanked made.overlay
        ∙ blank_made (map request_of records);
  };
}

-- a batch that was made keeps nothing
pub made_empty : (b : Batch) (records : List (List ℕ)) → IsMadeOf b records
    → AllByRecursion (λ s. s.kept ≡ None) (view b.overlay).kept
made_empty b records made =
    subst (λ (o : Overlay). AllByRecursion (λ s. s.kept ≡ None) o.kept) (sym made.overlay)
    (made_unkept (map request_of records))

none_kept : (rows : List RequestRow) (slots : List RequestSlot) → AllByRecursion (λ s. s.kept ≡ None) slots
    → AllByRecursion (λ s. IfSome s.kept (λ k. IsAmong rows s)) slots
none_kept rows [] unkept = tt
none_kept rows (s ∷ slots) unkept = (
  subst (λ (k : Option KeptFields). IfSome k (λ _. IsAmong rows s)) (sym unkept.0) tt,
  none_kept rows slots unkept.1,
)

pub keeps_none : (o : Overlay) → AllByRecursion (λ s. s.kept ≡ None) o.kept → KeepsNew o
keeps_none o unkept = none_kept o.requests o.kept unkept

-- ---- the parts of the try

commits_none : {X : Type 0} (old new : State) (r : Result X TableFault) → CommitsNothing old new r
    → KeepsCommit old new
commits_none old new (Ok x) it = record { was_open = it.opened; committed = λ _. it.committed }
commits_none old new (Err e) it = it

-- it commits nothing
pub quiet : {S X : Type 0} {Bad Met : Damage S} {Adds : Additions} {g : Ghosts S} {old new : Transaction S} {So : Tables → Type 0}
    {after : Tables → Tables} {w : Tables → X} {r : Result X TableFault} → DoesBy Bad Met Adds g old new So after w r
    → Says g old new (λ _ _. Unit {0}) (Inside KeepsCommit)
quiet {g = g} {old = old} {new = new} {r = r} does = record {
  same_reference = does.says.same_reference;
  answers = λ clean. tt;
  leaves = λ clean live. commits_none (state g old.conn.now) (state g new.conn.now) r (does.says.leaves clean live).0;
  survives = does.says.survives;
}

-- whatever the tables: one part, and then another
pub blind : {S X Y : Type 0} {Bad Met : Damage S} {g : Ghosts S} {Adds : Additions} {old mid new : Transaction S}
    {So So' : Tables → Type 0} {one two : Tables → Tables} {w : Tables → X} {w' : Tables → Y} {x : X}
    {r : Result Y TableFault} → DoesBy Bad Met Adds g old mid So one w (Ok x) → Does g Adds mid new So' two w' r
    → Does g Adds old new (λ _. ⊥) (λ t. two (one t)) (λ t. w' (one t)) r
blind {S} {X} {Y} {Bad} {Met} {g} {Adds} {old} {mid} {new} {So} {So'} {one} {two} {w} {w'} {x} {r} first second =
    let a : DoesBy Bad Met Adds g old mid (λ _. ⊥) one w (Ok x) = does_for first (λ t none. absurd none) in
    let b : Does g Adds mid new (λ _. ⊥) two w' r = does_for second (λ t none. absurd none) in
    does_then a b (λ t none. none)

module _ {S X : Type 0} {g : Ghosts S} {old mid new : Transaction S} {So : Tables → Type 0}
    {after : Tables → Tables} {wanted : Tables → X} {p p' o : Overlay} {x : X}
    (so : Judging So after wanted p p' o x) {So' : Tables → Type 0} {w : Tables → Overlay}
    (first : ReadsWhere g old mid So' w (Ok p'))
    (all : HasCleanDisk (state g new.conn.now) → IsTrue (state g old.conn.now).in_transaction → (t : Tables)
    → Shows (state g old.conn.now).now t → So t → p' ≡ filled t p) where
  -- the slots are filled as they were found, since none is of a request that was kept
  done_so : {Adds : Additions} {r : Result (Unit {0}) TableFault}
      → Does {X = Unit {0}} g Adds mid new (MayWrite o) (λ t. tables_over o t) (λ _. tt {0}) r
      → Does {X = Unit {0}} g Adds old new (Knows so) after (λ _. tt {0}) r
  done_so second = does_then (does_look (finds_so {So' = Knows so} {w' = λ t. p'} first (λ clean t shows it. refl)))
      (written_so so second) (λ t it. it)

  -- the records are answered
  pub answered_new : {Adds : Additions}
      → Does {X = Unit {0}} g Adds mid new (MayWrite o) (λ t. tables_over o t) (λ _. tt {0}) (Ok (tt {0}))
      → Acts g Adds old new So after wanted (Ok x)
  answered_new second = acts_wrote (does_known all
      (does_tell (done_so second) (λ t it. (it, λ e. (refl, so.answers t it.0 it.1)))))

  -- an error of the last part is that of all
  pub unanswered_new : {Adds : Additions} {e : TableFault}
      → Does {X = Unit {0}} g Adds mid new (MayWrite o) (λ t. tables_over o t) (λ _. tt {0}) (Err e)
      → Acts {X = X} g Adds old new So after wanted (Err e)
  unanswered_new second = acts_wrote (does_known all (does_err (done_so second) (λ t it. it)))

-- the requests weren't put in, and none may be kept
pub refused_new : {S X Y : Type 0} {g : Ghosts S} {Adds : Additions} {old mid new : Transaction S}
    {So So' Then : Tables → Type 0} {after one two : Tables → Tables} {wanted : Tables → X} {w : Tables → Y} {x : Y}
    (fault : TableFault) → may_be_kept fault ≡ false → Looks g Adds old mid So' one w (Ok x)
    → Does {X = Unit {0}} g Adds mid new Then two (λ _. tt {0}) (Err fault)
    → Acts {X = X} g Adds old new So after wanted (Err fault)
refused_new (Sqlite e) none first second = record {
  says = record {
    same_reference = (blind first second).says.same_reference;
    answers = λ clean live t shows it. tt;
    leaves = λ clean live. (acts_wrote (blind first second)).says.leaves clean live;
    survives = (blind first second).says.survives;
  };
}
refused_new (Damaged rule) none first second = absurd cc

-- ---- the requests were put in

module _ {S : Type 0} {g : Ghosts S} {old mid done : Transaction S} (b : Batch) (p' o : Overlay)
    (rows : List RequestRow) (records : List (List ℕ)) (made : IsMadeOf b records)
    {So : Tables → Type 0} {w : Tables → Overlay} (look : ReadsWhere g old mid So w (Ok p'))
    (kept : map unbooked p'.kept ≡ map unbooked (view b.overlay).kept) (keys : blanked o ≡ blanked p')
    (own : KeepsNew p' → KeepsNew o) (whole : has_gap o.kept ≡ false) (are : rows ≡ o.requests)
    (puts : Does {X = Unit {0}} g (AddsRequests (Has rows)) mid done (MayAddRequests rows) (requests_put rows)
    (λ _. tt {0}) (Ok (tt {0})))
    (unknown : HasCleanDisk (state g done.conn.now) → IsTrue (state g mid.conn.now).in_transaction
    → PutsNew (state g mid.conn.now).now (state g done.conn.now).now rows)
    (clean : HasCleanDisk (state g done.conn.now)) (live : IsTrue (state g old.conn.now).in_transaction) where
  unkept : AllByRecursion (λ s. s.kept ≡ None) p'.kept
  unkept = unkept_still p'.kept (view b.overlay).kept kept (made_empty b records made)

  all_new : (es : List Entry) → HoldsRows (state g old.conn.now).now request es
      → AllByRecursion (IsNowhere es) p'.kept
  all_new es holds =
      let before : HasCleanDisk (state g mid.conn.now) = omega (arith, puts.says.survives.clean) in
      let stays = (look.says.leaves before).0 in
      let there = subst (λ (db : Database). HoldsRows db request es) (sym stays.now) holds in
      let new = (unknown clean
      (still_in (state g old.conn.now) (state g mid.conn.now) stays.goes_on live) es there).0 in
      nowhere es p' o whole (own (keeps_none p' unkept)) keys
      (subst (AllByRecursion (IsNew es)) are new)

  pub all_held : OfRows (λ rows. RowsAreKnown rows p') (state g old.conn.now).now
      → OfRows (λ rows. AreHeld rows p') (state g old.conn.now).now
  all_held held = λ its has.
      known_held its p' unkept
      (all_new its.requests (requests_held (state g old.conn.now).now its has)) (held its has)
