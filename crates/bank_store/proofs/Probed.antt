-- What the probes tell of several tables, and that nothing has changed.
use Rattle.std.proofs.Common.{◌≡◌, ◌<◌, ◌+◌, suc, ℕ, Bool, true, false, List, [], ◌∷◌, ◌++◌, length, map, take}
use Rattle.std.proofs.Common.{get_or, Ok, refl, ap, subst, ◌∙◌, inl, arith}
use Rattle.std.proofs.{Math.Seq.take-suc, lemmas.List.map-append}
use Rattle.std.specs.List.{AllByRecursion}
use Rattle.sqlite.specs.{Table.Table, Effect.Database, State.State, State.HasCleanDisk, Held.Held, Held.state}
use Rattle.sqlite_trees.specs.declared.store.Store.{Ghosts}
use Rattle.sqlite_rules.proofs.ListLemmas.{has_left, has_right}
use Rattle.sqlite_trees.proofs.ListLemmas.{all-append}
use Rattle.sql_meanings.specs.StatementAnswers.{TellsProbe, TellsUnderstood}
use Rattle.store_rows.specs.{Calls.Probes, Probes.probe_of}
use Rattle.posting_rules.specs.declared.open_fault.BankTable.{BankTable}
use Rattle.bank_store.specs.{declared.presence.Presence.Presence, Connections.IsAsBefore}
use Rattle.bank_store.specs.declared.presence.Presence.TheVariants.{Absent, Partial, Whole}
use Rattle.bank_store.specs.TablePresence.{IsReadable, Lacks, OneOf, IsPresent, presence_of, joined}

-- a table, and the statement that reads all its columns
abbrev Probe : Type 0
Probe = List ℕ × Table

module _ (P : Probe → Type 0) (x : Probe) (xs : List Probe) (y : Probe) (ys : List Probe) where
  abbrev both : List Probe
  both = x ∷ xs ++ (y ∷ ys)

  first_left : AllByRecursion P (x ∷ xs) → OneOf both P
  first_left p = (x, inl refl, p.0)

  first_right : AllByRecursion P (y ∷ ys) → OneOf both P
  first_right p = (y, has_right (x ∷ xs) (y ∷ ys) y (inl refl), p.0)

  one_left : OneOf (x ∷ xs) P → OneOf both P
  one_left p = (p.0, has_left (x ∷ xs) (y ∷ ys) p.0 p.1, p.2)

  one_right : OneOf (y ∷ ys) P → OneOf both P
  one_right p = (p.0, has_right (x ∷ xs) (y ∷ ys) p.0 p.1, p.2)

-- how many there are of two parts, of which neither is empty
pub both_present : (db : Database) (x : Probe) (xs : List Probe) (y : Probe) (ys : List Probe)
    (p q : Presence)
    → IsPresent db (x ∷ xs) p → IsPresent db (y ∷ ys) q → IsPresent db ((x ∷ xs) ++ (y ∷ ys)) (joined p q)
both_present db x xs y ys Absent Absent a b = all-append (Lacks db) (x ∷ xs) (y ∷ ys) a b
both_present db x xs y ys Absent Partial a b =
    (one_right (IsReadable db) x xs y ys b.0, first_left (Lacks db) x xs y ys a)
both_present db x xs y ys Absent Whole a b =
    (first_right (IsReadable db) x xs y ys b, first_left (Lacks db) x xs y ys a)
both_present db x xs y ys Partial q a b =
    (one_left (IsReadable db) x xs y ys a.0, one_left (Lacks db) x xs y ys a.1)
both_present db x xs y ys Whole Absent a b =
    (first_left (IsReadable db) x xs y ys a, first_right (Lacks db) x xs y ys b)
both_present db x xs y ys Whole Partial a b =
    (first_left (IsReadable db) x xs y ys a, one_right (Lacks db) x xs y ys b.1)
both_present db x xs y ys Whole Whole a b = all-append (IsReadable db) (x ∷ xs) (y ∷ ys) a b

-- what one probe tells
pub probed : (old new : State) (probe : Probe) (there : Bool) → TellsProbe old new probe.1 (Ok there)
    → TellsUnderstood old new probe.0 (Ok there)
    → IsPresent old.now (probe ∷ []) (presence_of there) × IsAsBefore old new
probed old new probe true answers text = (((text.0, answers.0), tt), answers.1.0)
probed old new probe false answers text = (((text.0, answers.0), tt), answers.1.0)

-- nothing has changed, from one state to the next and the one after
pub as_before : (a b c : State) → IsAsBefore a b → IsAsBefore b c → IsAsBefore a c
as_before a b c one two = record {
  was_open = one.was_open;
  is_open = two.is_open;
  now_is = two.now_is ∙ one.now_is;
  committed_is = two.committed_is ∙ one.committed_is;
  mode = two.mode ∙ one.mode;
}

present_before : (old new : State) (probes : List Probe) (p : Presence) → IsAsBefore old new
    → IsPresent new.now probes p → IsPresent old.now probes p
present_before old new probes p same = subst (λ (db : Database). IsPresent db probes p) same.now_is

-- one part after another
pub then_present : (a b c : State) (x : Probe) (xs : List Probe) (y : Probe) (ys : List Probe)
    (p q : Presence)
    → IsPresent a.now (x ∷ xs) p × IsAsBefore a b → IsPresent b.now (y ∷ ys) q × IsAsBefore b c
    → IsPresent a.now ((x ∷ xs) ++ (y ∷ ys)) (joined p q) × IsAsBefore a c
then_present a b c x xs y ys p q one two = (
  both_present a.now x xs y ys p q one.0 (present_before a b (y ∷ ys) q one.1 two.0),
  as_before a b c one.1
      two.1,
)

-- one more table
pub one_more : {S : Type 0} (g : Ghosts S) (old mid new : Held S) (x : Probe) (xs : List Probe) (y : Probe)
    (p : Presence) (is : Bool)
    → IsPresent (state g old).now (x ∷ xs) p × IsAsBefore (state g old) (state g mid)
    → Probes g mid new y (Ok is) → HasCleanDisk (state g new)
    → IsPresent (state g old).now ((x ∷ xs) ++ y ∷ []) (joined p (presence_of is))
    × IsAsBefore (state g old) (state g new)
one_more g old mid new x xs y p is so_far answers clean =
    then_present (state g old) (state g mid) (state g new) x xs y [] p (presence_of is) so_far
    (probed (state g mid) (state g new) y is (answers.answers clean) (answers.text clean))

-- the probes of the tables up to one, and of that one
pub next_probe : (first : BankTable) (others : List BankTable) (at : ℕ) (d : BankTable) → at < length others
    → map probe_of (first ∷ take (at + 1) others)
    ≡ map probe_of (first ∷ take at others) ++ probe_of (get_or others at d) ∷ []
next_probe first others at d low =
    let more : at + 1 ≡ suc at = omega arith in
    ap (λ n. map probe_of (first ∷ take n others)) more
    ∙ ap (λ l. map probe_of (first ∷ l)) (take-suc others at d low)
    ∙ map-append probe_of (first ∷ take at others) (get_or others at d ∷ [])
