-- How a schema grows: its trees are numbered low, and the table of AUTOINCREMENT may come first.
use Rattle.sql_meanings.specs.Names.{List, [], Ok, Schema, Table, Trees, Has, IsSound, Database}
use Rattle.sql_meanings.specs.Names.{MakesTable, MakesSequence, lacks_sequence, sequence_text}
use Rattle.sql_meanings.proofs.Names.{sym, subst, inl, inr, cases_Bool}
use Rattle.std.specs.List.{AllZip}
use Rattle.sqlite_catalog.specs.Listing.{IsTableRow}
use Rattle.std.specs.Prelude.{◌≡◌, ◌<◌, ◌∷◌, ◌⊎◌}

zipped : {X Y : Type 0} (R : X → Y → Type 0) (xs : List X) (ys : List Y) (y : Y) → AllZip R xs ys → Has ys y
    → (x : X) × R x y
zipped R [] [] y all h = absurd h
zipped R [] (z ∷ ys) y all h = absurd all
zipped R (x ∷ xs) [] y all h = absurd all
zipped R (x ∷ xs) (z ∷ ys) y all (inl e) = (x, subst (R x) (sym e) all.0)
zipped R (x ∷ xs) (z ∷ ys) y all (inr h) = zipped R xs ys y all.1 h

-- the trees of a sound schema have low numbers
pub low_tree : (schema : Schema) (db : Trees) (t : Table) → IsSound schema db → Has schema.tables t
    → t.tree < 65536
low_tree schema db t sound h =
    (zipped IsTableRow _ schema.tables t sound.lists.listed.tables h).1.described.low

-- the table of AUTOINCREMENT is there, or is made
pub sequenced : (old after : Database) → MakesSequence old (Ok after)
    → (old ≡ after) ⊎ MakesTable sequence_text old (Ok after)
sequenced old after h = elim (cases_Bool (lacks_sequence old.schema)) [
  | inl lacks ↦ inr (rw lacks at h)
  | inr has ↦ inl (let e = rw has at h in cc)
]
