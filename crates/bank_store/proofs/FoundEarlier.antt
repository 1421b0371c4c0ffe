-- What is found of a bank of an earlier version, what is moved of it, and what is known where a log is shown.
use Rattle.std.proofs.Common.{◌≡◌, ◌≤◌, ◌+◌, ℕ, zero, suc, ℤ, pos, nat_abs, List, [], ◌∷◌, map, take, drop, slice_get}
use Rattle.std.proofs.Common.{Option, Some, None, Ok, Err, Result, refl, sym, ap, subst, ◌∙◌, inl, inr, arith}
use Rattle.std.specs.Prelude.{◌⊎◌, IfErr, OnOk}
use Rattle.std.specs.List.{take-map}
use Rattle.sqlite.specs.{Table.Table, Effect.Database, State.State}
use Rattle.sqlite_rules.specs.Lists.{Has}
use Rattle.posting_rules.specs.{believed.Commands.Command, believed.Commands.AreCommands, Editions.AreTablesIn}
use Rattle.posting_rules.specs.{Editions.plain, believed.Tables.Tables, believed.Tables.AreTablesOf}
use Rattle.posting_rules.specs.{declared.limits.TheConstants.MAX_DECIDED, declared.open_fault.OpenFault.OpenFault}
use Rattle.posting_rules.specs.declared.fault.Rule.TheVariants.{Meta, Teller, Value}
use Rattle.posting_rules.specs.declared.open_fault.OpenFault.TheVariants.{Store, Blank, Foreign, Version, OtherTable, Damaged}
use Rattle.posting_rules.proofs.Editions.{carries_over, has_no_floors, has_no_references, plain_are_commands}
use Rattle.posting_rules.proofs.Undamaged.{undamaged}
use Rattle.sql_meanings.proofs.Contents.{each_defined, held}
use Rattle.sql_meanings.specs.believed.Entries.{Entry}
use Rattle.store_rows.specs.believed.BankTables as bank
use Rattle.store_rows.specs.{believed.BankTables.bank_tables, believed.Columns.meta_in, Creation.no_rows}
use Rattle.store_rows.specs.{declared.metas.StoredMeta.StoredMeta, declared.metas.TheConstants.VERSION}
use Rattle.store_rows.specs.{Probes.all_tables, Probes.probe_of, View.HoldsRows}
use Rattle.store_rows.specs.Migration.{IsEarlier, ShowsLess, TakesLacking, lacking}
use Rattle.store_rows.specs.believed.View.{Shows, contents_of, meta_entry, rows_of, tables_of}
use Rattle.posting_rules.specs.declared.open_fault.BankTable.TheVariants as table
use Rattle.store_rows.proofs.{AsMade.none_other, BankTables.made_each, Lacking.lacking_refused}
use Rattle.store_rows.specs.Definitions.{AreMade, IsFirstOther, made as made_table}
use Rattle.sql_meanings.specs.believed.Contents.{HoldsEach}
use Rattle.bank_store.specs.{Connections.IsAsBefore, Connections.IsReadOnly, FoundBank.BankIsFound, FoundBank.MetaIs}
use Rattle.bank_store.specs.{FoundBank.Misses, OpenFaults.of_the_store, declared.presence.Presence.Presence}
use Rattle.walked_rows.specs.Rows.{HasStoredRows}
use Rattle.bank_store.specs.MetaRow.{ChecksCount, ChecksOnly, HasOnlyRow, IsNoCount, IsOfVersion, IsOurs, LacksOnlyRow}
use Rattle.bank_store.specs.Migration.{BankIsMoved, HasEarlier, HasEarlierTables, IsCounted, IsFrom, IsOfEarlier}
use Rattle.bank_store.specs.Migration.{IsUnmoved, Migrates, Misplaces, MissesEarlier, TellsNoEarlier, IsUncounted}
use Rattle.bank_store.specs.Migration.{MovesFound, SeeksEarlier, ShowsEarlier, earlier_probes}
use Rattle.bank_store.specs.declared.migration.Migrated.TheVariants.{Moved}
use Rattle.bank_store.specs.TablePresence.{ChecksTables, IsPresent, Lacks, OneOf}
use Rattle.bank_store.specs.declared.presence.Presence.TheVariants.{Absent, Partial, Whole}
use Rattle.bank_store.proofs.FoundBank.{decided_in, has_its_table, known, not_outside, reads_at, version_in}
use Rattle.bank_store.proofs.Probed.{as_before}

-- ---- a bank of that version is looked for

-- `meta` comes first
pub one_and : (from : ℕ) → suc (4 + from) ≡ 5 + from
one_and from = omega arith

pub meta_first : (from : ℕ) → map probe_of (table.Meta ∷ take (4 + from) (drop 1 all_tables)) ≡ earlier_probes from
meta_first from = ap (λ n. map probe_of (take n all_tables)) (one_and from)

pub meta_there : (from : ℕ) → slice_get (tables_of from) 0 ≡ Some bank.meta
meta_there from = ap (λ n. slice_get (take n bank_tables) 0) (sym (one_and from))

pub some_lacking : (from : ℕ) (db : Database) (p : Presence) → (p ≡ Whole → ⊥)
    → IsPresent db (earlier_probes from) p → OneOf (earlier_probes from) (Lacks db)
some_lacking from db Absent not_so here =
    subst (λ probes. OneOf probes (Lacks db)) (meta_first from)
    (probe_of table.Meta, inl refl, (subst (λ probes. IsPresent db probes Absent) (sym (meta_first from)) here).0)
some_lacking from db Partial not_so here = here.1
some_lacking from db Whole not_so here = absurd (not_so refl)

-- what was read of the row, and what was said against its count
module _ (from : ℕ) (old mid new : State) (tables : IsPresent old.now (earlier_probes from) Whole)
    (first : IsAsBefore old mid) (made : AreMade mid.now.schema (take (5 + from) all_tables))
    (then : IsAsBefore mid new) where
  row_is : (stored : Option StoredMeta)
      → ((rows : List Entry) → HoldsRows mid.now bank.meta rows → stored ≡ meta_in rows)
      → (P : Option StoredMeta → Type 0) → P stored → MetaIs old P
  row_is stored read P holds rows has =
      subst P (read rows (subst (λ (db : Database). HoldsRows db bank.meta rows) (sym first.now_is) has)) holds

  pub counted : (m : StoredMeta)
      → ((rows : List Entry) → HoldsRows mid.now bank.meta rows → Some m ≡ meta_in rows)
      → (r : Result (Unit {0}) OpenFault) → ChecksCount m.decided r → SeeksEarlier from old new r
  counted m read (Ok done) checks = (
    record {
      tables = tables;
      made = subst (λ (db : Database). AreMade db.schema (take (5 + from) all_tables)) first.now_is made;
      meta = row_is (Some m) read IsCounted (m, refl, checks);
    },
    as_before old mid new first then,
  )
  counted m read (Err fault) (is, outside) =
      subst (λ (f : OpenFault). SeeksEarlier from old new (Err f)) (sym is)
      ((tables, inl (row_is (Some m) read IsUncounted (inr (m, refl, outside)))), as_before old mid new first then)

  pub missing : ((rows : List Entry) → HoldsRows mid.now bank.meta rows → None ≡ meta_in rows)
      → SeeksEarlier from old new (Err (Damaged Meta))
  missing read = ((tables, inl (row_is None read IsUncounted (inl refl))), as_before old mid new first then)

-- a table is defined otherwise
pub not_made : (from : ℕ) (old mid : State) → IsPresent old.now (earlier_probes from) Whole → IsAsBefore old mid
    → (fault : OpenFault) → ChecksTables mid.now.schema (take (5 + from) all_tables) (Err fault)
    → SeeksEarlier from old mid (Err fault)
not_made from old mid there same (OtherTable t) other = (
  (there, subst (λ (db : Database). IsFirstOther db.schema (take (5 + from) all_tables) t) same.now_is other),
  same,
)
not_made from old mid there same rest other = absurd other

-- the row of the bank isn't the only one, or that isn't known
pub not_only : (from : ℕ) (old mid new : State) → HasEarlierTables from old.now → IsAsBefore old mid
    → (fault : OpenFault) → ChecksOnly (pos from) mid new (Err fault) → MovesFound from old new (Err fault)
not_only from old mid new there first fault (inl (is, undone)) =
    subst (λ (f : OpenFault). MovesFound from old new (Err f)) (sym is)
    (inl tt, λ still. as_before old mid new first (undone still))
not_only from old mid new there first fault (inr (is, lacks, same)) =
    subst (λ (f : OpenFault). MovesFound from old new (Err f)) (sym is) (
      inl (there.tables, inr (subst (LacksOnlyRow (pos from)) first.now_is lacks)),
      as_before old mid new first same,
    )

-- it is
pub with_only : (from : ℕ) (old mid : State) → HasEarlierTables from old.now → IsAsBefore old mid
    → HasOnlyRow (pos from) mid.now → HasEarlier from old.now
with_only from old mid there first one =
    record { there = there; one = subst (HasOnlyRow (pos from)) first.now_is one }

-- ---- and moved

-- what is found is moved, or why not
pub found_moves : (from : ℕ) (old mid new : State) → HasEarlier from old.now → IsAsBefore old mid
    → (r : Result (Unit {0}) OpenFault) → OnOk r (BankIsMoved from mid.now new) → IfErr r (IsUnmoved from mid.now)
    → IfErr r (λ fault. IsReadOnly {X = Unit {0}} mid new (Err fault)) → MovesFound from old new r
found_moves from old mid new tables same (Ok done) moved why reads =
    (tables, subst (λ (db : Database). BankIsMoved from db new) same.now_is moved)
found_moves from old mid new tables same (Err fault) moved why reads = (
  inr (subst (λ (db : Database). IsUnmoved from db fault) same.now_is why),
  reads_at old mid same new fault reads,
)

-- its version was looked at first
module _ (from : ℕ) (old mid new : State) (version : ℤ) (is : IsFrom version from)
    (found : Misses old (Version version) × IsAsBefore old mid) where
  pub was_earlier : IsOfEarlier from old
  was_earlier = (is.1, subst (λ (n : ℤ). Misses old (Version n)) is.0 found.0)

  pub unmoved_at : (fault : OpenFault) → MovesFound from mid new (Err fault) → Migrates old new (Err fault)
  unmoved_at fault h = (
    inr (
      from,
      was_earlier,
      subst (λ (db : Database). MissesEarlier from db fault ⊎ IsUnmoved from db fault) found.1.now_is h.0,
    ),
    reads_at old mid found.1 new fault h.1,
  )

  pub moved_at : MovesFound from mid new (Ok tt) → Migrates old new (Ok (Moved version))
  moved_at done other told =
      let same : from ≡ other = (let it = sym is.0 ∙ told.0 in cc) in
      let it = subst (λ (db : Database). HasEarlier from db × BankIsMoved from db new) found.1.now_is done in
      subst (λ n. IsOfEarlier n old × HasEarlier n old.now × BankIsMoved n old.now new) same (was_earlier, it.0, it.1)

-- ---- where a log is shown

-- the tables that its version lacks would have no rows
none_after : (from : ℕ) → IsEarlier from → (t : Tables) (log : List Command) → AreTablesIn from t log → t.closings ≡ []
    → drop (4 + from) (rows_of t) ≡ no_rows (lacking from)
none_after zero earlier t log shows none = absurd (omega (arith, earlier.0))
none_after (suc zero) earlier t log shows none =
    rw (has_no_floors t log shows, has_no_references 1 t log earlier.0 (omega arith) shows, none) refl
none_after (suc (suc zero)) earlier t log shows none =
    rw (has_no_references 2 t log earlier.0 (omega arith) shows, none) refl
none_after (suc (suc (suc zero))) earlier t log shows none = rw none refl
none_after (suc (suc (suc (suc n)))) earlier t log shows none = absurd (omega (arith, earlier.1))

module _ (from : ℕ) (db : Database) (log : List Command) (it : ShowsEarlier from db log) where
  -- its tables are those of the plain log
  pub plainly : AreTablesOf it.tables (plain from log)
  plainly = (carries_over from it.tables log).0 it.shows

  pub shows_less : ShowsLess from db it.tables
  shows_less = record { shows = it.are; none = none_after from it.earlier it.tables log it.shows (it.are.early it.earlier.1) }

  abbrev pub rows : List Entry
  rows = meta_entry (pos from) it.tables.decided ∷ []

  has_row : HoldsRows db bank.meta rows
  has_row = record {
    sound = it.are.sound;
    holds = held db (tables_of from) (contents_of from it.tables) it.are.each 0 bank.meta rows (meta_there from) refl;
  }

  all_defined : map (λ probe. probe.1) (earlier_probes from) ≡ tables_of from
  all_defined =
      ap (map (λ probe. probe.1)) (sym (take-map probe_of (5 + from) all_tables))
      ∙ sym (take-map (λ (probe : List ℕ × Table). probe.1) (5 + from) (map probe_of all_tables))

  lacks_none : (probe : List ℕ × Table) → Has (earlier_probes from) probe → Lacks db probe → ⊥
  lacks_none probe has lacks =
      lacks.1 it.are.sound (each_defined db (tables_of from) (contents_of from it.tables) it.are.each probe.1
      (subst (λ tables. Has tables probe.1) all_defined (has_its_table (earlier_probes from) probe has)))

  all_made : AreMade db.schema (take (5 + from) all_tables)
  all_made = made_each db (take (5 + from) all_tables) (contents_of from it.tables)
      (subst (λ tables. HoldsEach db tables (contents_of from it.tables)) (take-map made_table (5 + from) all_tables)
      it.are.each)

  lacks_meta : Lacks db (probe_of table.Meta) → ⊥
  lacks_meta =
      lacks_none (probe_of table.Meta)
      (subst (λ probes. Has probes (probe_of table.Meta)) (meta_first from) (inl refl))

  has_stored : HasStoredRows db bank.meta rows
  has_stored = record { sound = it.are.sound; holds = has_row.holds; least = (refl, tt) }

module _ (from : ℕ) (old : State) (log : List Command) (it : ShowsEarlier from old.now log) where
  abbrev row : List Entry
  row = rows from old.now log it

  one_row : (P : Option StoredMeta → Type 0) → MetaIs old P → P (meta_in row)
  one_row P h = h row (has_row from old.now log it)

  is_one : IsOfVersion (pos from) (meta_in row)
  is_one = (
    pos it.tables.decided,
    refl,
    λ same. absurd (let is : from ≡ nat_abs VERSION = ap nat_abs same in omega (arith, it.earlier.1)),
  )

  -- its version is the one that is found
  pub same_version : (other : ℕ) → IsOfEarlier other old → other ≡ from
  same_version other was =
      sym (ap nat_abs (ap version_in (one_row (IsOfVersion (pos other)) was.1.1).1))

  pub not_found : (new : State) → BankIsFound old new → ⊥
  not_found new found = is_one.2 (ap version_in (one_row IsOurs found.there.meta).1)

  -- as one of this version it is missed for its version
  missed_as : (fault : OpenFault) → Misses old fault → TellsNoEarlier fault → fault ≡ Store
  missed_as Store misses other = refl
  missed_as Blank misses other = absurd (lacks_meta from old.now log it misses.0)
  missed_as Foreign misses other = absurd (misses.1 (pos from) row (has_row from old.now log it) is_one)
  missed_as (Version n) misses other =
      absurd (other from it.earlier (ap Version (sym (ap version_in (one_row (IsOfVersion n) misses.1).1))))
  missed_as (OtherTable found) misses other = absurd (misses.2 (pos from) row (has_row from old.now log it) is_one)
  missed_as (Damaged Meta) misses other = elim misses.1 [
    | inl uncounted ↦ elim (one_row IsNoCount uncounted) [
      | inl none ↦ absurd (cc)
      | inr outside ↦ absurd (is_one.2 (ap version_in outside.1))
    ]
    | inr (ours, lacks) ↦ absurd (is_one.2 (ap version_in (one_row IsOurs ours).1))
  ]
  missed_as (Damaged Teller) misses other = absurd misses
  missed_as (Damaged Value) misses other = absurd (one_row (λ _. ⊥) misses.1)
  missed_as rest misses other = absurd misses

  within : it.tables.decided ≤ MAX_DECIDED
  within = (undamaged it.tables (plain from log) (plain_are_commands from log it.commands)
      (plainly from old.now log it)).decided

  not_missed : (fault : OpenFault) → MissesEarlier from old.now fault → fault ≡ Store
  not_missed Store misses = refl
  not_missed Foreign misses = absurd (lacks_none from old.now log it misses.0 misses.1 misses.2)
  not_missed (OtherTable found) misses =
      absurd (none_other old.now.schema (take (5 + from) all_tables) found misses.1 (all_made from old.now log it))
  not_missed (Damaged Meta) misses = elim misses.1 [
    | inl uncounted ↦ elim (one_row IsUncounted uncounted) [
      | inl none ↦ absurd (cc)
      | inr outside ↦ absurd (not_outside outside.0.decided it.tables.decided MAX_DECIDED
          (sym (ap decided_in outside.1)) within outside.2)
    ]
    | inr lacks ↦ absurd (lacks bank.meta.checks row (has_stored from old.now log it)
        (it.tables.decided, refl, within))
  ]
  not_missed (Damaged Teller) misses = absurd misses
  not_missed (Damaged Value) misses = absurd (one_row (λ _. ⊥) misses.1)
  not_missed other misses = absurd misses

  not_unmoved : TakesLacking from old.now.schema → (fault : OpenFault) → IsUnmoved from old.now fault → fault ≡ Store
  not_unmoved takes Store why = refl
  not_unmoved takes Foreign why =
      absurd (let own = ap of_the_store (lacking_refused from it.earlier old.now.schema takes why.0 why.2) in
      let other = why.1 in cc)
  not_unmoved takes (Damaged Meta) why = absurd (let none = one_row (λ stored. stored ≡ None) why in cc)
  not_unmoved takes other why = absurd why

  pub not_misplaced : TakesLacking from old.now.schema → (fault : OpenFault) → Misplaces old fault → fault ≡ Store
  not_misplaced takes fault (inl misses) = missed_as fault misses.0 misses.1
  not_misplaced takes fault (inr (other, was, why)) =
      let here = subst (λ n. MissesEarlier n old.now fault ⊎ IsUnmoved n old.now fault) (same_version other was) why in
      elim here [
        | inl misses ↦ not_missed fault misses
        | inr unmoved ↦ not_unmoved takes fault unmoved
      ]

-- a bank of this version is none of an earlier one
module _ (old : State) (t : Tables) (log : List Command) (shows : Shows old.now t) (are : AreCommands log)
    (log_shown : AreTablesOf t log) where
  pub not_earlier : (from : ℕ) → IsOfEarlier from old → ⊥
  not_earlier from was = let is = known old (Version (pos from)) t log was.1 shows are log_shown in absurd (cc)

  pub ours_misplaced : (fault : OpenFault) → Misplaces old fault → fault ≡ Store
  ours_misplaced fault (inl misses) = known old fault t log misses.0 shows are log_shown
  ours_misplaced fault (inr (from, was, why)) = absurd (not_earlier from was)
