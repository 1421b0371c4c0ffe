-- What a read of a record does to the records that a reader has left.
use Rattle.std.proofs.Common.{◌≡◌, ◌<◌, ◌≤◌, ◌+◌, ◌∷◌, ◌++◌, ◌∙◌, ℕ, zero, suc, List, [], Option, Some, None, Bool}
use Rattle.std.proofs.Common.{true, false, length, arith, refl, sym, ap, add-one, ◌==◌}
use Rattle.std.specs.Prelude.{if◌then◌else◌, option_map, IfSome}
use Rattle.csv.specs.Machine.{Read, after_end, ends_at_end, ends_with, field_after, fields_after, in_field, is_end}
use Rattle.csv.specs.Machine.{next_record, start_field, start_record, step}
use Rattle.csv.specs.Reading.{NextIs, ReadRecord, ReadsNext, default_config, pending_of, records, strip_bom}
use Rattle.csv.specs.Reading.{records_from, records_next, source_of}
use Rattle.csv.specs.declared.{parser.Action.Action, parser.State.State, reader.Reader.Reader}
use Rattle.csv.specs.declared.parser.State.TheVariants as st
use Rattle.branch_loader.specs.Records.{HasLeft, TakesRecord, records_at, Records, Fields}

-- a record's end leaves the machine between two records
IsBetween : State × Action → Type 0
IsBetween p = is_end p.1 ≡ true → ends_at_end p.0 ≡ false

choose : (P : State × Action → Type 0) (b : Bool) (x y : State × Action) → P x → P y → P (if b then x else y)
choose P true x y p q = p
choose P false x y p q = q

after_end-between : (c : ℕ) → ends_at_end (after_end default_config.terminator c) ≡ false
after_end-between c = one (c == 13)
  where
    one : (b : Bool) → ends_at_end (if b then st.AfterCr else st.StartRecord) ≡ false
    one true = refl
    one false = refl

in_field-between : (c : ℕ) → IsBetween (in_field default_config c)
unfolding IsBetween
in_field-between c =
    choose IsBetween (c == 44) _ _ (λ e. cc e)
    (choose IsBetween (ends_with default_config.terminator c) _ _ (λ e. after_end-between c) (λ e. cc e))

start_field-between : (c : ℕ) → IsBetween (start_field default_config c)
unfolding IsBetween
start_field-between c = choose IsBetween (c == 34) _ _ (λ e. cc e) (in_field-between c)

start_record-between : (c : ℕ) → IsBetween (start_record default_config c)
unfolding IsBetween
start_record-between c =
    choose IsBetween (ends_with default_config.terminator c) _ _ (λ e. cc e) (start_field-between c)

step-between : (s : State) (c : ℕ) → IsBetween (step default_config s c)
unfolding IsBetween
step-between st.StartRecord c = start_record-between c
step-between st.StartField c = start_field-between c
step-between st.InField c = in_field-between c
step-between st.InQuoted c = choose IsBetween (c == 34) _ _ (λ e. cc e) (λ e. cc e)
step-between st.InEscape c = λ e. cc e
step-between st.AfterQuote c = choose IsBetween (c == 34) _ _ (λ e. cc e) (in_field-between c)
step-between st.InComment c = choose IsBetween (c == 10) _ _ (λ e. cc e) (λ e. cc e)
step-between st.AfterCr c = choose IsBetween (c == 10) _ _ (λ e. cc e) (start_record-between c)

-- a record is followed by fewer bytes, and by a state between two records
record Shorter (s : State) (xs : List ℕ) (p : Read) : Type 0 where
  between : ends_at_end p.1 ≡ false
  fewer : length p.2 ≤ length xs
  shorter : ends_at_end s ≡ false → length p.2 < length xs

at_end : (b : Bool) (r p : Read) → ends_at_end r.1 ≡ false → r.2 ≡ [] → (if b then Some r else None) ≡ Some p
    → (b ≡ true) × (ends_at_end p.1 ≡ false) × (p.2 ≡ [])
at_end true r p between none e = (refl, cc, cc)
at_end false r p between none e = cc e

next-shorter : (s : State) (fields : Fields) (field xs : List ℕ) (p : Read)
    → next_record default_config s fields field xs ≡ Some p
    → Shorter s xs p
unfolding next_record IsBetween
next-shorter s fields field [] p e =
    let h = at_end (ends_at_end s) (fields ++ (field ∷ []), st.StartRecord, []) p refl refl e in
    record { between = h.1; fewer = rw h.2 (omega arith); shorter = λ n. cc (h.0, n) }
next-shorter s fields field (c ∷ rest) p e =
    by (is_end (step default_config s c).1) refl (next-shorter (step default_config s c).0 _ _ rest p)
  where
    by : (b : Bool) → is_end (step default_config s c).1 ≡ b
        → (next_record default_config (step default_config s c).0
        (fields_after (step default_config s c).1 fields field)
        (field_after (step default_config s c).1 c field) rest ≡ Some p
        → Shorter (step default_config s c).0 rest p)
        → Shorter s (c ∷ rest) p
    by true is more =
        let ended = rw is at e in
        let state : p.1 ≡ (step default_config s c).0 = cc ended in
        let tail : p.2 ≡ rest = cc ended in
        record {
          between = rw state (step-between s c is);
          fewer = rw tail (omega arith);
          shorter = λ n. rw tail (omega arith);
        }
    by false is more =
        let q = more (rw is at e) in
        let fewer = q.fewer in
        record { between = q.between; fewer = omega arith; shorter = λ n. omega arith }

-- enough fuel is enough
fuel : (n m : ℕ) (s : State) (xs : List ℕ) → ends_at_end s ≡ false → length xs < n → length xs < m
    → records_from default_config n s xs ≡ records_from default_config m s xs
unfolding records_from
fuel zero m s xs b h k = absurd (omega arith)
fuel (suc n) zero s xs b h k = absurd (omega arith)
fuel (suc n) (suc m) s xs b h k = by (fuel n m) (next_record default_config s [] [] xs) refl
  where
    by : ((s : State) (xs : List ℕ) → ends_at_end s ≡ false → length xs < n → length xs < m
        → records_from default_config n s xs ≡ records_from default_config m s xs)
        → (o : Option Read) → next_record default_config s [] [] xs ≡ o
        → records_next (records_from default_config n) o ≡ records_next (records_from default_config m) o
    by less None e = refl
    by less (Some p) e =
        let q = next-shorter s [] [] xs p e in
        let lt = q.shorter b in
        ap (λ (rows : Records). p.0 ∷ rows) (less p.1 p.2 q.between (omega arith) (omega arith))

-- the first record and those after it
pub records-some : (s : State) (xs : List ℕ) (p : Read) → ends_at_end s ≡ false
    → next_record default_config s [] [] xs ≡ Some p
    → (records_at s xs ≡ p.0 ∷ records_at p.1 p.2) × (ends_at_end p.1 ≡ false)
unfolding records_from
records-some s xs p b e =
    let q = next-shorter s [] [] xs p e in
    let lt = q.shorter b in
    let rest = fuel (length xs) (length p.2 + 1) p.1 p.2 q.between (omega arith) (omega arith) in
    (rw (add-one (length xs), e) (ap (λ (rows : Records). p.0 ∷ rows) rest), q.between)

-- where there is no record
pub records-none : (s : State) (xs : List ℕ) → next_record default_config s [] [] xs ≡ None
    → records_at s xs ≡ []
unfolding records_from
records-none s xs e = rw (add-one (length xs), e) refl

-- the records that are left after a read
abbrev LeftAfter : State → Option (List ℕ) → Records → Type 0
LeftAfter s known rest = (ends_at_end s ≡ false) × (option_map (records_at s) known ≡ Some rest)

go : (s s2 : State) (src after : Option (List ℕ)) (found : Bool) (fields : Fields) (rows : Records)
    → ends_at_end s ≡ false → option_map (records_at s) src ≡ Some rows
    → ReadsNext default_config s src after found fields s2
    → TakesRecord found fields rows (LeftAfter s2 after)
go s s2 None after found fields rows b l r = cc l
go s s2 (Some y) None found fields rows b l r = absurd r
go s s2 (Some y) (Some z) found fields rows b l r = by (next_record default_config s [] [] y) refl r
  where
    by : (o : Option Read) → next_record default_config s [] [] y ≡ o → NextIs o found fields s2 z
        → TakesRecord found fields rows (LeftAfter s2 (Some z))
    by None e n = let none = records-none s y e in rw n
        (let same : records_at s y ≡ rows = cc l in sym same ∙ none)
    by (Some p) e n =
        let some = records-some s y p b e in
        let same : records_at s y ≡ rows = cc l in
        rw (n.0, n.1, n.2, n.3) (records_at p.1 p.2, sym same ∙ some.0, (some.1, refl))

-- what a read of a record does to those that are left
pub takes : {R : Type 0} (rem : R → Option (List ℕ)) (a b : Reader R) (found : Bool) (fields : Fields)
    (rows : Records)
    → a.config ≡ default_config → HasLeft rem a rows → ReadRecord rem a b found fields
    → TakesRecord found fields rows (HasLeft rem b)
takes rem a b found fields rows config left r =
    by found (go a.state b.state (source_of rem a) (pending_of (rem b.rdr) b) found fields rows left.between
    left.left (rw config at r.0))
  where
    by : (f : Bool) → TakesRecord f fields rows (LeftAfter b.state (pending_of (rem b.rdr) b))
        → TakesRecord f fields rows (HasLeft rem b)
    by false t = t
    by true t = (t.0, t.1, record { between = t.2.0; left = rw r.1 t.2.1 })

-- a new reader has all records of the text left
pub start : {R : Type 0} (rem : R → Option (List ℕ)) (r : Reader R) (known : Option (List ℕ))
    → source_of rem r ≡ option_map strip_bom known
    → r.state ≡ st.StartRecord
    → IfSome known (λ text. HasLeft rem r (records default_config (strip_bom text)))
start rem r None source state = tt
start rem r (Some text) source state = record { between = rw state refl; left = rw (source, state) refl }
