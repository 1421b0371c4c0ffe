-- What a second bank shows that was given the closed numbers of a file.
use Rattle.std.proofs.Common.{◌≡◌, ◌≤◌, ◌++◌, ◌∙◌, ℕ, Bool, true, false, cond, List, [], ◌∷◌, map, Option, Some, None, Result, Ok, Err}
use Rattle.std.proofs.Common.{refl, sym, ap, subst, inl, inr}
use Rattle.std.proofs.lemmas.{Bool.Decides.nat_tests, List.map-append}
use Rattle.std.specs.Prelude.{◌==◌, ◌&&◌, ◌||◌, OnOk, nat_le, not}
use Rattle.std.proofs.Common.{arith}
use Rattle.std.specs.{List.AllByRecursion, List.list_any, Option.option_or}
use Rattle.posting_rules.specs.believed.{Closings.are_free, Closings.closings, Closings.meets, Entries.decided}
use Rattle.posting_rules.specs.believed.Commands.{Close, Command, opened}
use Rattle.posting_rules.specs.believed.{Counter.ShowsLog, Damage.IsSoundClosing, Tables.closing_key, Tables.row_at}
use Rattle.posting_rules.specs.declared.rows.ClosingRow.{ClosingRow}
use Rattle.posting_rules.proofs.Keyed.{by_test}
use Rattle.sql_meanings.specs.believed.Entries.{Entry}
use Rattle.sqlite_trees.specs.declared.store.Store.{Ghosts}
use Rattle.store_rows.specs.believed.View.{closing_entry}
use Rattle.store_rows.proofs.Readings.{in_order}
use Rattle.walked_rows.specs.StoredBeside.{closing_entry as stored_entry}
use Rattle.walked_rows.specs.declared.closings.StoredClosing.{StoredClosing}
use Rattle.bank_transactions.specs.believed.Closed.{AreClosed}
use Rattle.bank_store.specs.{believed.Seen.bank_seen, declared.bank.Bank.Bank}
use Rattle.bank_replays.specs.{ClosingDigests.closing_line, ClosingDigests.closing_lines, Refilling.IsNeverInDoubt}
use Rattle.bank_replays.specs.Closed.{ClosesRows, close_in, closed_by, closing_in}
use Rattle.bank_replays.specs.declared.fault.ReplayFault.{ReplayFault}
use Rattle.report_contents.specs.Lines.{text_of}
use Rattle.report_contents.proofs.Joined.{text_of-snoc}

pub closing_more : (rows : List StoredClosing) (row : StoredClosing)
    → closing_lines (map stored_entry rows) ++ closing_line (stored_entry row)
    ≡ closing_lines (map stored_entry (rows ++ row ∷ []))
closing_more rows row =
    sym (text_of-snoc (map closing_line (map stored_entry rows)) (closing_line (stored_entry row)))
    ∙ ap text_of (sym (map-append closing_line (map stored_entry rows) (stored_entry row ∷ [])))
    ∙ ap closing_lines (sym (map-append stored_entry rows (row ∷ [])))

-- ---- one row more

closed_next : (rows : List Entry) (row : Entry) (log : List Command)
    → closed_by (rows ++ row ∷ []) log ≡ close_in (closing_in row) (closed_by rows log)
closed_next [] row log = refl
closed_next (r ∷ rows) row log = closed_next rows row (close_in (closing_in r) log)

pub closes_next : {T : Type 0} (h : Ghosts T) (first mid last : Bank T h) (rows : List StoredClosing) (row : StoredClosing)
    (r : Result (Unit {0}) ReplayFault) → ClosesRows h first mid (map stored_entry rows)
    → (IsNeverInDoubt h → (log : List Command) → ShowsLog (bank_seen h mid) log
    → OnOk r (ShowsLog (bank_seen h last) (close_in (closing_in (stored_entry row)) log)))
    → OnOk r (ClosesRows h first last (map stored_entry (rows ++ row ∷ [])))
closes_next h first mid last rows row (Err fault) before one = tt
closes_next h first mid last rows row (Ok done) before one = λ sure log shows.
    subst (λ (l : List Command). ShowsLog (bank_seen h last) l)
    (sym (ap (λ (es : List Entry). closed_by es log) (map-append stored_entry rows (row ∷ []))
    ∙ closed_next (map stored_entry rows) (stored_entry row) log))
    (one sure (closed_by (map stored_entry rows) log) (before sure log shows))

-- ---- nothing is decided by it, and no branch is opened

decides_one : (o : Option ClosingRow) (log : List Command) → decided (close_in o log) ≡ decided log
decides_one None log = refl
decides_one (Some run) log = refl

pub closed_decides : (rows : List Entry) (log : List Command) → decided (closed_by rows log) ≡ decided log
closed_decides [] log = refl
closed_decides (r ∷ rows) log = closed_decides rows (close_in (closing_in r) log) ∙ decides_one (closing_in r) log

opens_one : (o : Option ClosingRow) (log : List Command) (n : ℕ) → opened (close_in o log) n ≡ opened log n
opens_one None log n = refl
opens_one (Some run) log n = refl

pub closed_opens : (rows : List Entry) (log : List Command) (n : ℕ) → opened (closed_by rows log) n ≡ opened log n
closed_opens [] log n = refl
closed_opens (r ∷ rows) log n =
    closed_opens rows (close_in (closing_in r) log) n ∙ opens_one (closing_in r) log n

-- ---- what is closed is what the rows say

row_closes : (r : ClosingRow) → IsSoundClosing r → closing_in (closing_entry r) ≡ Some r
row_closes r sound = rw sound.numbers refl

flip : (a b c d : ℕ) → (nat_le c b && nat_le a d) ≡ false → (nat_le a d && nat_le c b) ≡ false
flip a b c d is = grind (arith, nat_tests)

same_last : (a b c d : ℕ) → a ≤ b → c ≤ d → (nat_le c b && nat_le a d) ≡ false → (d == b) ≡ false
same_last a b c d one two is = grind (arith, nat_tests)

is_le : (a b : ℕ) → a ≤ b → nat_le a b ≡ true
is_le a b le = grind (arith, nat_tests)

is_same : (n : ℕ) → (n == n) ≡ true
is_same n = grind (arith, nat_tests)

eq_of : (a b : ℕ) → (a == b) ≡ true → a ≡ b
eq_of a b is = grind (arith, nat_tests)

-- no row after it has its key
none_after : (r : ClosingRow) (rs : List ClosingRow) → r.first ≤ r.last
    → AllByRecursion (λ s. meets r.first r.last s ≡ false) rs → AreClosed rs → row_at closing_key rs r.last ≡ None
none_after r [] low apart closed = refl
none_after r (s ∷ rs) low apart closed =
    rw (same_last r.first r.last s.first s.last low (in_order s.first s.last closed.0.numbers) apart.0)
    (none_after r rs low apart.1 closed.2)

-- none of them has a number of the runs before
abbrev AreApartFrom : List ClosingRow → List ClosingRow → Type 0
AreApartFrom runs rs = AllByRecursion (λ s. list_any (meets s.first s.last) runs ≡ false) rs

apart_more : (r : ClosingRow) (runs rs : List ClosingRow) → AllByRecursion (λ s. meets r.first r.last s ≡ false) rs
    → AreApartFrom runs rs → AreApartFrom (r ∷ runs) rs
apart_more r runs [] one all = tt
apart_more r runs (s ∷ rs) one all =
    (rw (flip r.first r.last s.first s.last one.0) all.0, apart_more r runs rs one.1 all.1)

apart_none : (rs : List ClosingRow) → AreApartFrom [] rs
apart_none [] = tt
apart_none (s ∷ rs) = (refl, apart_none rs)

adds_run : (r : ClosingRow) (log : List Command) → r.first ≤ r.last → list_any (meets r.first r.last) (closings log) ≡ false
    → closings (Close r.first r.last ∷ log) ≡ r ∷ closings log
adds_run r log low none =
    let free : are_free (closings log) r.first r.last ≡ true = rw (is_le r.first r.last low, none) refl in rw free refl

first_of : (b : Bool) (r : ClosingRow) (o p : Option ClosingRow) → (b ≡ true → o ≡ None)
    → option_or o (cond b (Some r) p) ≡ option_or (cond b (Some r) o) p
first_of true r o p none = rw (none refl) refl
first_of false r o p none = refl

or_none : (o : Option ClosingRow) → option_or o None ≡ o
or_none None = refl
or_none (Some r) = refl

pub closed_closes : (rs : List ClosingRow) → AreClosed rs → (log : List Command) → AreApartFrom (closings log) rs → (x : ℕ)
    → row_at closing_key (closings (closed_by (map closing_entry rs) log)) x
    ≡ option_or (row_at closing_key rs x) (row_at closing_key (closings log) x)
closed_closes [] closed log apart x = refl
closed_closes (r ∷ rs) closed log apart x =
    let low = in_order r.first r.last closed.0.numbers in
    let more = Close r.first r.last ∷ log in
    let now = adds_run r log low apart.0 in
    ap (λ o. row_at closing_key (closings (closed_by (map closing_entry rs) (close_in o log))) x) (row_closes r closed.0)
    ∙ closed_closes rs closed.2 more
    (subst (λ (runs : List ClosingRow). AreApartFrom runs rs) (sym now) (apart_more r (closings log) rs closed.1 apart.1)) x
    ∙ ap (λ (runs : List ClosingRow). option_or (row_at closing_key rs x) (row_at closing_key runs x)) now
    ∙ first_of (r.last == x) r (row_at closing_key rs x) (row_at closing_key (closings log) x)
    (λ is. subst (λ (k : ℕ). row_at closing_key rs k ≡ None) (eq_of r.last x is) (none_after r rs low closed.1 closed.2))

-- so it is where nothing was closed before
pub all_closes : (rs : List ClosingRow) → AreClosed rs → (log : List Command) → closings log ≡ [] → (x : ℕ)
    → row_at closing_key (closings (closed_by (map closing_entry rs) log)) x ≡ row_at closing_key rs x
all_closes rs closed log none x =
    closed_closes rs closed log (subst (λ (runs : List ClosingRow). AreApartFrom runs rs) (sym none) (apart_none rs)) x
    ∙ ap (λ (runs : List ClosingRow). option_or (row_at closing_key rs x) (row_at closing_key runs x)) none
    ∙ or_none (row_at closing_key rs x)
