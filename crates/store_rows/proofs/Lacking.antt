-- The tables that an earlier version lacks beside a bank of it.
use Rattle.std.proofs.Common.{◌≡◌, ◌+◌, ◌&&◌, ◌++◌, ℕ, zero, suc, pos, Bool, true, false, not, List, [], ◌∷◌, drop}
use Rattle.std.proofs.Common.{take, map, slice_get, Some, refl, sym, ap, subst, ◌∙◌, arith}
use Rattle.std.proofs.{Math.Logic.∥∥₁_elim, lemmas.Bool.and_parts, lemmas.List.take-append-drop}
use Rattle.std.specs.{List.AllByRecursion, List.drop-map, List.list_all, Str.bytes_eq}
use Rattle.sqlite.specs.{Change.created, Change.is_used, Does.lacks_sequence, Schema.Schema, Table.Table}
use Rattle.sqlite.specs.{declared.error.Error.Error, declared.error.Error.TheVariants.SqliteFailure}
use Rattle.sqlite.specs.Effect.{Database, IsDatabase}
use Rattle.sqlite.specs.declared.error.ErrorCode.TheVariants.{SchemaTooBig}
use Rattle.sqlite_schema.specs.Names.{same_name}
use Rattle.sqlite_tied.specs.Compute.{everything}
use Rattle.posting_rules.specs.believed.Tables.{Tables}
use Rattle.sql_meanings.specs.{believed.Contents.HoldsEach, Making.NotMade, StatementAnswers.IsUnderstood}
use Rattle.sql_meanings.specs.Contents.{has_other_names, is_free, stand_apart}
use Rattle.sql_meanings.proofs.{Contents.HoldsEach-prop, ListedTexts.listing_tests, Places.all_later}
use Rattle.sql_meanings.proofs.Defining.{Defines-prop, defined_stands, stands_defined}
use Rattle.sql_meanings.specs.believed.Tables.{placed_at, tree_of}
use Rattle.sql_meanings.proofs.FreeNames.{free_beside, free_understood, needs_none, only_full}
use Rattle.sql_meanings.proofs.StayHeld.{held_after, still_held, still_hold}
use Rattle.sql_meanings.proofs.Trees.{Holds-prop, nat_set}
use Rattle.store_rows.specs.believed.BankTables as bank
use Rattle.store_rows.specs.believed.BankTables.{bank_tables}
use Rattle.store_rows.specs.Creation.{AreGrown, TablesAreMade, all_texts}
use Rattle.store_rows.specs.Migration.{IsEarlier, LackingAreMade, RefusesLacking, ShowsLess, TakesLacking, lacking}
use Rattle.store_rows.specs.believed.View.{contents_of, meta_entry, rows_of, tables_of}
use Rattle.store_rows.specs.declared.texts.TheConstants.{MAKE_CLOSING, MAKE_FLOOR, MAKE_REFERENCE}
use Rattle.store_rows.proofs.MadeSoFar.{grows_plainly}

-- ---- they are made

all_pass_first : {X : Type 0} (p : X → Bool) (xs : List X) (n : ℕ) → list_all p xs ≡ true
    → list_all p (take n xs) ≡ true
all_pass_first p [] zero all = refl
all_pass_first p [] (suc n) all = refl
all_pass_first p (x ∷ xs) zero all = refl
all_pass_first p (x ∷ xs) (suc n) all =
    let both = and_parts (p x) (list_all p xs) all in
    rw (both.0, all_pass_first p xs n both.1) refl

-- the first so many of tables that stand apart do
apart_first : (tables : List Table) (n : ℕ) → stand_apart tables ≡ true → stand_apart (take n tables) ≡ true
apart_first [] zero apart = refl
apart_first [] (suc n) apart = refl
apart_first (t ∷ tables) zero apart = refl
apart_first (t ∷ tables) (suc n) apart =
    let s = and_parts (is_free t && has_other_names t tables) (stand_apart tables) apart in
    let f = and_parts (is_free t) (has_other_names t tables) s.0 in
    rw (
      f.0,
      all_pass_first (λ (other : Table). not (bytes_eq t.name other.name)) tables n f.1,
      apart_first tables n s.1,
    ) refl

module _ (from : ℕ) (old new : Database) (made : TablesAreMade (lacking from) old new) where
  -- the tables of the version, and after them those that it lacks
  after : (t : Tables) → ShowsLess from old t → IsDatabase new
      → HoldsEach new (tables_of from ++ map (λ it. it.1) (lacking from))
      (contents_of from t ++ drop (4 + from) (rows_of t))
  after t was sound =
      held_after new (tables_of from) (map (λ it. it.1) (lacking from)) (contents_of from t)
      (drop (4 + from) (rows_of t))
      (still_hold old new sound made.keeps (tables_of from) (contents_of from t)
      (apart_first bank_tables (5 + from) refl) was.shows.each)
      (rw was.none made.empty.each)

  all_tables : tables_of from ++ map (λ it. it.1) (lacking from) ≡ bank_tables
  all_tables =
      ap (λ ts. tables_of from ++ ts) (sym (drop-map (λ (it : List ℕ × Table). it.1) (5 + from) all_texts))
      ∙ take-append-drop (5 + from) bank_tables

  all_rows : (t : Tables) → contents_of from t ++ drop (4 + from) (rows_of t)
      ≡ (meta_entry (pos from) t.decided ∷ []) ∷ rows_of t
  all_rows t = ap (λ rows. (meta_entry (pos from) t.decided ∷ []) ∷ rows) (take-append-drop (4 + from) (rows_of t))

  each : (t : Tables) → ShowsLess from old t → IsDatabase new
      → HoldsEach new bank_tables ((meta_entry (pos from) t.decided ∷ []) ∷ rows_of t)
  each t was sound =
      subst (HoldsEach new bank_tables) (all_rows t)
      (subst (λ ts. HoldsEach new ts (contents_of from t ++ drop (4 + from) (rows_of t))) all_tables
      (after t was sound))

  pub lacking_made : LackingAreMade from old new
  lacking_made = record {
    empty = made.empty;
    keeps = made.keeps;
    defines = λ table free defined. ∥∥₁_elim made.empty.sound (Defines-prop new.schema table)
        (λ sound.
        let stands = made.keeps.stands _ (defined_stands old.schema table free defined) in
        let found = stands_defined new.schema new.trees (placed_at table (tree_of old.schema table.name)) sound stands in
        record { found = found.1.found; apart = found.1.apart });
    holds = λ table es free holds. ∥∥₁_elim made.empty.sound (Holds-prop new table es)
        (λ sound. still_held old new sound made.keeps table es free holds);
    places = λ table free defined. ∥∥₁_elim made.empty.sound (nat_set _ _)
        (λ sound.
        (stands_defined new.schema new.trees (placed_at table (tree_of old.schema table.name)) sound
        (made.keeps.stands _ (defined_stands old.schema table free defined))).0);
    tables = λ t was. record {
      sound = made.empty.sound;
      each = ∥∥₁_elim made.empty.sound (HoldsEach-prop new bank_tables ((meta_entry (pos from) t.decided ∷ []) ∷ rows_of t))
          (each t was);
    };
  }

-- ---- they are refused

-- The table has no UNIQUE and counts no rows, and its text is understood where its name is free.
record IsPlain (it : List ℕ × Table) : Type 0 where
  uniques : it.1.uniques ≡ []
  uncounted : it.1.is_counted ≡ false
  understood : (schema : Schema) → is_used schema it.1.name ≡ false → IsUnderstood schema it.0

-- no two have one name
abbrev AreApart : List (List ℕ × Table) → Type 0
AreApart [] = Unit {0}
AreApart (it ∷ its) = AllByRecursion (λ other. same_name it.1.name other.1.name ≡ false) its × AreApart its

still_free : (schema : Schema) (it : List ℕ × Table) → IsPlain it → (its : List (List ℕ × Table))
    → AllByRecursion (λ other. same_name it.1.name other.1.name ≡ false) its
    → AllByRecursion (λ other. is_used schema other.1.name ≡ false) its
    → AllByRecursion (λ other. is_used (created schema it.1) other.1.name ≡ false) its
still_free schema it plain [] others free = tt
still_free schema it plain (other ∷ its) others free = (
  free_beside schema it.1 other.1.name plain.uniques others.0 free.0,
  still_free schema it plain its others.1 free.1,
)

-- only a full file refuses one of them
full : (its : List (List ℕ × Table)) → AllByRecursion IsPlain its → AreApart its → (schema now : Schema)
    → AllByRecursion (λ it. is_used schema it.1.name ≡ false) its → lacks_sequence schema ≡ false
    → (n : ℕ) (next : List ℕ × Table) → slice_get its n ≡ Some next → AreGrown (take n its) schema now → (e : Error)
    → NotMade now next.0 next.1 e → e ≡ SqliteFailure SchemaTooBig
full [] plain apart schema now free counts n next is grown e refused = absurd cc
full (it ∷ its) plain apart schema now free counts zero next is grown e refused =
    let same : it ≡ next = cc in
    only_full schema it.0 it.1 plain.0.uniques plain.0.uncounted (plain.0.understood schema free.0) free.0 counts e
    (rw (same, ← grown) refused)
full (it ∷ its) plain apart schema now free counts (suc n) next is (mid, first, then) e refused =
    let still = needs_none schema it.1 plain.0.uncounted counts in
    let same = grows_plainly schema mid it.1 first still in
    full its plain.1 apart.1 (created schema it.1) now (still_free schema it plain.0 its apart.0 free.1) still n next is
    (rw same at then) e refused

-- each of those that the first version lacks
floor_plain : IsPlain (MAKE_FLOOR.now, bank.floor)
unfolding everything listing_tests
floor_plain = record {
  uniques = refl;
  uncounted = refl;
  understood = λ schema free. free_understood schema _ _ refl refl refl free MAKE_FLOOR.now _ refl refl refl;
}

reference_plain : IsPlain (MAKE_REFERENCE.now, bank.reference)
unfolding everything listing_tests
reference_plain = record {
  uniques = refl;
  uncounted = refl;
  understood = λ schema free. free_understood schema _ _ refl refl refl free MAKE_REFERENCE.now _ refl refl refl;
}

closing_plain : IsPlain (MAKE_CLOSING.now, bank.closing)
unfolding everything listing_tests
closing_plain = record {
  uniques = refl;
  uncounted = refl;
  understood = λ schema free. free_understood schema _ _ refl refl refl free MAKE_CLOSING.now _ refl refl refl;
}

all_apart : AreApart (lacking 1)
unfolding everything listing_tests
all_apart = ((refl, (refl, tt)), ((refl, tt), (tt, tt)))

apart_later : (its : List (List ℕ × Table)) (n : ℕ) → AreApart its → AreApart (drop n its)
apart_later [] zero apart = tt
apart_later [] (suc n) apart = tt
apart_later (it ∷ its) zero apart = apart
apart_later (it ∷ its) (suc n) apart = apart_later its n apart.1

after_first : (n : ℕ) → lacking (suc n) ≡ drop n (lacking 1)
after_first n =
    let places : 5 + suc n ≡ suc (suc (suc (suc (suc (suc n))))) = omega arith in
    ap (λ places. drop places all_texts) places

pub lacking_refused : (from : ℕ) → IsEarlier from → (schema : Schema) → TakesLacking from schema → (e : Error)
    → RefusesLacking from schema e → e ≡ SqliteFailure SchemaTooBig
lacking_refused zero earlier schema takes e (now, refuses) = absurd (omega (arith, earlier.0))
lacking_refused (suc n) earlier schema takes e (now, refuses) =
    let same = after_first n in
    full (lacking (suc n)) (rw same (all_later IsPlain (lacking 1) n (floor_plain, (reference_plain, (closing_plain, tt)))))
    (rw same (apart_later (lacking 1) n all_apart)) schema now takes.free takes.counts refuses.made refuses.next refuses.is_next
    refuses.grown e refuses.refused
