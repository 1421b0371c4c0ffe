-- Numbers that were gathered, once more, and what they come to.
use Rattle.std.proofs.Common.{◌≡◌, ◌++◌, ◌∙◌, Bool, true, false, List, [], ◌∷◌, map, Result, Ok, Err, refl, sym, ap}
use Rattle.std.specs.Prelude.{◌||◌, IfOk, IfNone, Option, Some, None, OnOk}
use Rattle.std.specs.List.{list_any}
use Rattle.std.proofs.lemmas.List.{append_assoc, map-append}
use Rattle.posting_rules.specs.declared.rows.ClosingRow.{ClosingRow}
use Rattle.posting_rules.specs.believed.Closings.{is_closed_in, meets}
use Rattle.posting_rules.specs.believed.Tables.{Tables}
use Rattle.store_rows.specs.believed.View as view
use Rattle.walked_rows.specs.{Stored.request_entry, StoredBeside.closing_entry}
use Rattle.walked_rows.specs.declared.closings.StoredClosing.{StoredClosing}
use Rattle.walked_rows.specs.declared.requests.StoredRequest.{StoredRequest}
use Rattle.carried_books.specs.declared.gathered.Gathered.{Gathered}
use Rattle.carried_books.specs.Carrying.{number_of}
use Rattle.carried_books.specs.Gathering.{HasClosed, HasUsed, has_seal, number_in, run_in}
use Rattle.carried_books.specs.Gathered.{Gathers, GathersClosed, GathersKept, or_none}
use Rattle.posting_rules.specs.Numbers.{SameNumbers}
use Rattle.carried_books.proofs.ShownRows.{numbers_are, runs_are}
use Rattle.posting_rules.proofs.Runs.{any-append}

-- ---- one row more

or_more : (a b c : Bool) → ((a || b) || c) ≡ (a || (b || c))
or_more true b c = refl
or_more false b c = refl

or_last : (b : Bool) → (b || false) ≡ b
or_last true = refl
or_last false = refl

gathers_more : (first mid last : Gathered) (seal more : Bool) (runs : List ClosingRow) (run : ClosingRow)
    → Gathers first mid seal runs → Gathers mid last more (run ∷ [])
    → Gathers first last (seal || more) (runs ++ run ∷ [])
gathers_more first mid last seal more runs run one two = record {
  sealed = two.sealed ∙ ap (λ (b : Bool). b || more) one.sealed ∙ or_more first.sealed seal more;
  runs = two.runs ∙ ap (λ (l : List ClosingRow). l ++ run ∷ []) one.runs ∙ append_assoc first.runs.items runs (run ∷ []);
}

on_then : {X E P Q : Type 0} (r : Result X E) → OnOk r P → (P → Q) → OnOk r Q
on_then (Ok x) p then = then p
on_then (Err e) p then = tt

pub closing_more : {E : Type 0} (first mid last : Gathered) (rows : List StoredClosing) (row : StoredClosing)
    (run : ClosingRow) (seal : Bool) (r : Result (Unit {0}) E) → run ≡ run_in row → seal ≡ has_seal row
    → Gathers first mid (list_any has_seal rows) (map run_in rows) → OnOk r (Gathers mid last seal (run ∷ []))
    → OnOk r (Gathers first last (list_any has_seal (rows ++ row ∷ [])) (map run_in (rows ++ row ∷ [])))
closing_more first mid last rows row run seal r is seals so_far added =
    let sealed : list_any has_seal (rows ++ row ∷ []) ≡ (list_any has_seal rows || seal) =
    any-append has_seal rows (row ∷ [])
    ∙ ap (λ (b : Bool). list_any has_seal rows || b) (or_last (has_seal row) ∙ sym seals) in
    let runs : map run_in (rows ++ row ∷ []) ≡ map run_in rows ++ run ∷ [] =
    map-append run_in rows (row ∷ []) ∙ ap (λ (x : ClosingRow). map run_in rows ++ x ∷ []) (sym is) in
    on_then r added (λ it. rw (sealed, runs)
    (gathers_more first mid last (list_any has_seal rows) seal (map run_in rows) run so_far it))

pub request_more : {E : Type 0} (first mid last : Gathered) (rows : List StoredRequest) (row : StoredRequest)
    (run : ClosingRow) (r : Result (Unit {0}) E) → run ≡ number_in row
    → Gathers first mid false (map number_in rows) → OnOk r (Gathers mid last false (run ∷ []))
    → OnOk r (Gathers first last false (map number_in (rows ++ row ∷ [])))
request_more first mid last rows row run r is so_far added =
    let runs : map number_in (rows ++ row ∷ []) ≡ map number_in rows ++ run ∷ [] =
    map-append number_in rows (row ∷ []) ∙ ap (λ (x : ClosingRow). map number_in rows ++ x ∷ []) (sym is) in
    on_then r added (λ it. rw runs (gathers_more first mid last false false (map number_in rows) run so_far it))

-- ---- all rows of tables that are shown

pub closed_gathered : (t : Tables) (old new : Gathered) (rows : List StoredClosing)
    → Gathers old new (list_any has_seal rows) (map run_in rows)
    → map closing_entry rows ≡ map view.closing_entry t.closings → GathersClosed t old new
closed_gathered t old new rows it same =
    let are = runs_are rows t.closings same in
    record {
      sealed = it.sealed ∙ ap (λ (b : Bool). old.sealed || b) are.0;
      numbers = λ x low.
          ap (λ (rs : List ClosingRow). is_closed_in rs x) it.runs
          ∙ any-append (meets x x) old.runs.items (map run_in rows)
          ∙ ap (λ (b : Bool). is_closed_in old.runs.items x || b) (are.1 x low);
    }

pub kept_gathered : (t : Tables) (old new : Gathered) (rows : List StoredRequest)
    → Gathers old new false (map number_in rows)
    → map request_entry rows ≡ map view.request_entry t.requests → GathersKept t old new
kept_gathered t old new rows it same = record {
  sealed = it.sealed ∙ sym (or_none old.sealed);
  runs = it.runs ∙ ap (λ (l : List ClosingRow). old.runs.items ++ l) (numbers_are rows t.requests same);
}

-- ---- from none on

begun : (t : Tables) (none mid : Gathered) → none.sealed ≡ false → none.runs.items ≡ [] → GathersClosed t none mid
    → HasClosed t mid.sealed mid.runs.items
begun t none mid unsealed empty it = record {
  seal = it.sealed ∙ ap (λ (b : Bool). b || is_closed_in t.closings 0) unsealed;
  numbers = λ x low.
      it.numbers x low ∙ ap (λ (rs : List ClosingRow). is_closed_in rs x || is_closed_in t.closings x) empty;
}

pub closed_from_none : (t : Tables) (none mid : Gathered) (sealed : Bool) (numbers : List ClosingRow)
    → none.sealed ≡ false → none.runs.items ≡ [] → GathersClosed t none mid → sealed ≡ mid.sealed
    → SameNumbers numbers mid.runs.items → HasClosed t sealed numbers
closed_from_none t none mid sealed numbers unsealed empty it is same =
    let closed = begun t none mid unsealed empty it in
    record { seal = is ∙ closed.seal; numbers = λ x low. same x ∙ closed.numbers x low }

pub used_from_none : (t : Tables) (none mid last : Gathered) (sealed : Bool) (numbers : List ClosingRow)
    → none.sealed ≡ false → none.runs.items ≡ [] → GathersClosed t none mid → GathersKept t mid last
    → sealed ≡ last.sealed → SameNumbers numbers last.runs.items → HasUsed t sealed numbers
used_from_none t none mid last sealed numbers unsealed empty it kept is same =
    let closed = begun t none mid unsealed empty it in
    record {
      seal = is ∙ kept.sealed ∙ closed.seal;
      numbers = λ x low.
          same x ∙ ap (λ (rs : List ClosingRow). is_closed_in rs x) kept.runs
          ∙ any-append (meets x x) mid.runs.items (map number_of t.requests)
          ∙ ap (λ (b : Bool). b || is_closed_in (map number_of t.requests) x) (closed.numbers x low)
          ∙ sym (any-append (meets x x) t.closings (map number_of t.requests));
    }

-- ---- answers

pub both_then : {X E : Type 0} {P Q R : X → Type 0} (r : Result X E) → IfOk r P → IfOk r Q
    → ((x : X) → P x → Q x → R x) → IfOk r R
both_then (Ok x) p q then = then x p q
both_then (Err e) p q then = tt

pub none_holds : {X P : Type 0} (o : Option X) → o ≡ None → IfNone o P → P
none_holds None is p = p
none_holds (Some x) is p = absurd cc

pub ok_is : {X E : Type 0} (x y : X) → (let r : Result X E = Ok x in r) ≡ Ok y → x ≡ y
ok_is x y is = cc

pub kept_from_none : (t : Tables) (none last : Gathered) → none.runs.items ≡ [] → GathersKept t none last
    → last.runs.items ≡ map number_of t.requests
kept_from_none t none last empty it =
    it.runs ∙ ap (λ (l : List ClosingRow). l ++ map number_of t.requests) empty
