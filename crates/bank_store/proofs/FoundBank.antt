-- What is found of a bank, and that nothing is missed where a log is shown.
use Rattle.std.proofs.Common.{◌≡◌, ◌≤◌, ℕ, ℤ, pos, List, [], ◌∷◌, map, Option, Some, None, Ok, Err, Result, refl, sym}
use Rattle.std.proofs.Common.{ap, subst, ◌∙◌, inl, inr, arith}
use Rattle.std.specs.Prelude.{◌⊎◌, ◌≢◌, ◌<ℤ◌}
use Rattle.std.proofs.lemmas.Int.{ints}
use Rattle.sqlite.specs.{Table.Table, Effect.Database, State.State}
use Rattle.sqlite_rules.specs.Lists.{Has}
use Rattle.posting_rules.specs.{believed.Commands.Command, believed.Commands.AreCommands, believed.Damage.IsUndamaged}
use Rattle.posting_rules.specs.{declared.open_fault.OpenFault.OpenFault, declared.limits.TheConstants.MAX_DECIDED}
use Rattle.posting_rules.specs.believed.Tables.{Tables, AreTablesOf as Show}
use Rattle.posting_rules.specs.declared.fault.Rule.TheVariants.{Meta, Value}
use Rattle.posting_rules.proofs.Undamaged.{undamaged}
use Rattle.sql_meanings.proofs.Contents.{each_defined}
use Rattle.sql_meanings.specs.believed.Entries.{Entry}
use Rattle.store_rows.specs.believed.{Columns.meta_in, BankTables.bank_tables, View.Shows, View.meta_entry}
use Rattle.store_rows.specs.believed.BankTables.{HasBankTables}
use Rattle.store_rows.specs.Definitions.{IsFirstOther}
use Rattle.store_rows.proofs.{AsMade.none_other, BankTables.shown_tables}
use Rattle.store_rows.specs.{Probes.all_probes, Probes.all_tables, Probes.probe_of, Statements.HasOtherValue, View.HoldsRows}
use Rattle.store_rows.specs.{View.contents, declared.metas.StoredMeta.StoredMeta, declared.metas.TheConstants.VERSION}
use Rattle.posting_rules.specs.declared.open_fault.BankTable.TheVariants as table
use Rattle.store_rows.specs.believed.BankTables as bank
use Rattle.bank_store.specs.Connections.{IsAsBefore, IsReadOnly}
use Rattle.bank_store.specs.FoundBank.{HasNoOtherVersion, MetaIs, Misses, SeeksBank, SeeksTables, TablesAreFound}
use Rattle.bank_store.specs.MetaRow.{IsOurs, IsOfVersion, IsNoCount, ChecksMeta, TellsMeta, IsOfOtherType, ChecksOnly}
use Rattle.bank_store.specs.MetaRow.{HasOnlyRow, LacksOnlyRow}
use Rattle.bank_store.specs.{OpenFaults.RowIsUnread, declared.presence.Presence.Presence}
use Rattle.bank_store.specs.TablePresence.{ChecksTables, Lacks, IsPresent, IsReadable}
use Rattle.bank_store.specs.declared.presence.Presence.TheVariants.{Absent, Partial, Whole}
use Rattle.posting_rules.specs.declared.open_fault.OpenFault.TheVariants.{Store, Blank, Foreign, Version, OtherTable, Damaged}
use Rattle.store_rows.proofs.MetaRow.{has_one}
use Rattle.walked_rows.proofs.Shown.{has_meta}
use Rattle.bank_store.proofs.{MetaRow.other_version, Probed.as_before}

-- ---- the row of the bank

abbrev pub version_in : Option StoredMeta → ℤ
version_in None = pos 0
version_in (Some m) = m.version

abbrev pub decided_in : Option StoredMeta → ℤ
decided_in None = pos 0
decided_in (Some m) = m.decided

-- the row wasn't read: `Missed` says why there is no bank
module _ (old mid new : State) (first : IsAsBefore old mid) (Missed : OpenFault → Type 0) (at_store : Missed Store)
    (at_value : MetaIs old (λ _. ⊥) → HasOtherValue old.now → Missed (Damaged Value)) where
  abbrev MissedAt : OpenFault → Type 0
  MissedAt fault =
      ((rows : List Entry) → HoldsRows mid.now bank.meta rows → TellsMeta (meta_in rows) (Err fault))
      → IsOfOtherType mid.now fault → IsReadOnly {X = Option StoredMeta} mid new (Err fault)
      → Missed fault × IsReadOnly {X = Unit {0}} old new (Err fault)

  by_store : MissedAt Store
  by_store tells other reads = (at_store, λ still. as_before old mid new first (reads still))

  by_value : MissedAt (Damaged Value)
  by_value tells other same = (
    at_value
        (λ rows has. tells rows (subst (λ (db : Database). HoldsRows db bank.meta rows) (sym first.now_is) has))
        (subst HasOtherValue first.now_is other),
    as_before old mid new first same,
  )

  pub missed : (fault : OpenFault) → RowIsUnread fault → MissedAt fault
  missed fault (inl is) = subst MissedAt (sym is) by_store
  missed fault (inr is) = subst MissedAt (sym is) by_value

-- what was read of the row, and what was said against it
module _ (old mid new : State) (stored : Option StoredMeta) (tables : IsPresent old.now all_probes Whole)
    (made : HasBankTables mid.now.schema) (first : IsAsBefore old mid)
    (read : (rows : List Entry) → HoldsRows mid.now bank.meta rows → stored ≡ meta_in rows)
    (then : IsAsBefore mid new) where
  row_is : (P : Option StoredMeta → Type 0) → P stored → MetaIs old P
  row_is P holds rows has =
      subst P (read rows (subst (λ (db : Database). HoldsRows db bank.meta rows) (sym first.now_is) has)) holds

  same : IsAsBefore old new
  same = as_before old mid new first then

  pub looked : (r : Result (Unit {0}) OpenFault) → ChecksMeta stored r → SeeksTables old new r
  looked (Ok done) checks = record {
    tables = tables;
    made = subst (λ (db : Database). HasBankTables db.schema) first.now_is made;
    meta = row_is IsOurs checks;
    same = same;
  }
  looked (Err Store) checks = absurd checks
  looked (Err (Version n)) checks = ((tables.0, row_is (IsOfVersion n) checks), same)
  looked (Err (Damaged Meta)) checks = ((tables, inl (row_is IsNoCount checks)), same)
  looked other checks = absurd checks

-- a table is defined otherwise
pub not_made : (old mid : State) → IsPresent old.now all_probes Whole → IsAsBefore old mid → HasNoOtherVersion old
    → (fault : OpenFault) → ChecksTables mid.now.schema all_tables (Err fault) → SeeksTables old mid (Err fault)
not_made old mid there same ours (OtherTable t) other = (
  (there, subst (λ (db : Database). IsFirstOther db.schema all_tables t) same.now_is other, ours),
  same,
)
not_made old mid there same ours rest other = absurd other

-- what was found of the tables, and whether the row of the bank is the only one
module _ (old mid new : State) (there : TablesAreFound old mid) where
  pub only_checked : (r : Result (Unit {0}) OpenFault) → ChecksOnly VERSION mid new r → SeeksBank old new r
  only_checked (Ok done) (one, same) = record {
    there = record {
      tables = there.tables;
      made = there.made;
      meta = there.meta;
      same = as_before old mid new there.same same;
    };
    one = subst (HasOnlyRow VERSION) there.same.now_is one;
  }
  only_checked (Err fault) (inl (is, undone)) =
      subst (λ (f : OpenFault). SeeksBank old new (Err f)) (sym is)
      (tt, λ still. as_before old mid new there.same (undone still))
  only_checked (Err fault) (inr (is, lacks, same)) =
      subst (λ (f : OpenFault). SeeksBank old new (Err f)) (sym is) (
        (there.tables, inr (there.meta, subst (LacksOnlyRow VERSION) there.same.now_is lacks)),
        as_before old mid new there.same same,
      )

-- ---- the version comes first

module _ (old mid : State) (same : IsAsBefore old mid) where
  meta_at : (P : Option StoredMeta → Type 0) → MetaIs mid P → MetaIs old P
  meta_at P is rows has = is rows (subst (λ (db : Database). HoldsRows db bank.meta rows) (sym same.now_is) has)

  -- it has no other version than that of the row that was read
  pub no_other_read : (stored : Option StoredMeta) → ((n : ℤ) → IsOfVersion n stored → ⊥)
      → ((rows : List Entry) → HoldsRows mid.now bank.meta rows → stored ≡ meta_in rows) → HasNoOtherVersion old
  no_other_read stored none read n =
      meta_at (λ it. IsOfVersion n it → ⊥) (λ rows has is. none n (subst (IsOfVersion n) (sym (read rows has)) is))

  present_at : (p : Presence) → IsPresent mid.now all_probes p → IsPresent old.now all_probes p
  present_at p = subst (λ (db : Database). IsPresent db all_probes p) same.now_is

  -- nothing has changed, so there is no other version yet
  pub no_other_yet : HasNoOtherVersion old → HasNoOtherVersion mid
  no_other_yet none n rows has =
      none n rows (subst (λ (db : Database). HoldsRows db bank.meta rows) same.now_is has)

  misses_at : (fault : OpenFault) → Misses mid fault → Misses old fault
  misses_at Store misses = tt
  misses_at Blank misses = present_at Absent misses
  misses_at Foreign misses = (
    present_at Partial misses.0,
    λ n. meta_at (λ stored. IsOfVersion n stored → ⊥) (misses.1 n),
  )
  misses_at (Version n) misses = (
    subst (λ (db : Database). IsReadable db (probe_of table.Meta)) same.now_is misses.0,
    meta_at (IsOfVersion n) misses.1,
  )
  misses_at (OtherTable t) misses = (
    present_at Whole misses.0,
    subst (λ (db : Database). IsFirstOther db.schema all_tables t) same.now_is misses.1,
    λ n. meta_at (λ stored. IsOfVersion n stored → ⊥) (misses.2 n),
  )
  misses_at (Damaged Meta) misses = (
    present_at Whole misses.0,
    elim misses.1 [
      | inl none ↦ inl (meta_at IsNoCount none)
      | inr (ours, lacks) ↦ inr (meta_at IsOurs ours, subst (LacksOnlyRow VERSION) same.now_is lacks)
    ],
  )
  misses_at (Damaged Value) misses = (
    present_at Whole misses.0,
    meta_at (λ _. ⊥) misses.1,
    subst HasOtherValue same.now_is misses.2,
  )
  misses_at other misses = absurd misses

  pub reads_at : (new : State) (fault : OpenFault) → IsReadOnly {X = Unit {0}} mid new (Err fault)
      → IsReadOnly {X = Unit {0}} old new (Err fault)
  reads_at new Store reads = λ still. as_before old mid new same (reads still)
  reads_at new other reads = as_before old mid new same reads

  -- what is found then was there before
  pub found_at : (new : State) → TablesAreFound mid new → TablesAreFound old new
  found_at new found = record {
    tables = present_at Whole found.tables;
    made = subst (λ (db : Database). HasBankTables db.schema) same.now_is found.made;
    meta = meta_at IsOurs found.meta;
    same = as_before old mid new same found.same;
  }

  pub missed_at : (new : State) (fault : OpenFault) → SeeksTables mid new (Err fault) → SeeksBank old new (Err fault)
  missed_at new fault missed = (misses_at fault missed.0, reads_at new fault missed.1)

-- where `meta` isn't there, it has no version
pub no_version : (old : State) (p : Presence) → IsPresent old.now (probe_of table.Meta ∷ []) p → p ≢ Whole
    → HasNoOtherVersion old
no_version old Absent lacks other = λ n rows has is. lacks.0.1 has.sound has.holds.defined
no_version old Partial some other = λ n rows has is.
    let lacks : Lacks old.now (probe_of table.Meta) = elim some.1.1 [
      | inl it ↦ subst (Lacks old.now) it some.1.2
      | inr none ↦ absurd none
    ] in
    lacks.1 has.sound has.holds.defined
no_version old Whole there other = absurd (other refl)

-- the row of `meta` has another version
pub other_read : (old mid new : State) (m : StoredMeta) (version : ℤ) → IsReadable old.now (probe_of table.Meta)
    → IsAsBefore old mid → ((rows : List Entry) → HoldsRows mid.now bank.meta rows → Some m ≡ meta_in rows)
    → IsAsBefore mid new → version ≡ m.version → version ≢ VERSION
    → Misses old (Version version) × IsReadOnly {X = Unit {0}} old new (Err (Version version))
other_read old mid new m version there first read then same other = (
  (
    there,
    λ rows has. subst (IsOfVersion version)
        (read rows (subst (λ (db : Database). HoldsRows db bank.meta rows) (sym first.now_is) has))
        (other_version m version same other),
  ),
  as_before old mid new first then,
)

-- ---- where a log is shown

-- a database that shows tables lacks none of them
pub has_its_table : (probes : List (List ℕ × Table)) (it : List ℕ × Table) → Has probes it
    → Has (map (λ p. p.1) probes) it.1
has_its_table [] it has = has
has_its_table (p ∷ probes) it (inl is) = inl (ap (λ q. q.1) is)
has_its_table (p ∷ probes) it (inr has) = inr (has_its_table probes it has)

lacks_none : (db : Database) (t : Tables) → Shows db t → (it : List ℕ × Table) → Has all_probes it
    → Lacks db it → ⊥
lacks_none db t shows it has lacks =
    lacks.1 shows.sound (each_defined db bank_tables (contents t) shows.each it.1
    (has_its_table all_probes it has))

-- where none of a bank's tables is, no tables are shown
pub no_bank : (db : Database) (t : Tables) → IsPresent db all_probes Absent → Shows db t → ⊥
no_bank db t absent shows = lacks_none db t shows (probe_of table.Meta) (inl refl) absent.0

-- what meta holds of a log
holds : (t : Tables) → IsUndamaged t → IsOurs (meta_in (meta_entry VERSION t.decided ∷ []))
holds t sound = (t.decided, refl, sound.decided)

not_other : (stored : Option StoredMeta) (n : ℤ) → IsOurs stored → IsOfVersion n stored → ⊥
not_other stored n ours other = other.2 (sym (ap version_in other.1) ∙ ap version_in ours.1)

pub not_outside : (z : ℤ) (n most : ℕ) → z ≡ pos n → n ≤ most → (z <ℤ pos 0) ⊎ (pos most <ℤ z) → ⊥
not_outside z n most is le (inl below) = let h = rw is at below in omega (arith, ints)
not_outside z n most is le (inr above) = let h = rw is at above in omega (arith, ints)

pub not_of_ours : (m : StoredMeta) (n : ℤ) → m.version ≡ VERSION → IsOfVersion n (Some m) → ⊥
not_of_ours m n ours other = other.2 (sym (ap version_in other.1) ∙ ours)

not_missing : (stored : Option StoredMeta) → IsOurs stored → IsNoCount stored → ⊥
not_missing stored ours (inl none) = let both = sym none ∙ ours.1 in cc
not_missing stored ours (inr outside) =
    not_outside outside.0 ours.0 MAX_DECIDED (sym (ap decided_in outside.1) ∙ ap decided_in ours.1) ours.2
    outside.2

-- a bank that shows a log is missed only where the store failed
pub known : (old : State) (fault : OpenFault) (t : Tables) (log : List Command) → Misses old fault
    → Shows old.now t → AreCommands log → Show t log → fault ≡ Store
known old Store t log misses shows are log_shown = refl
known old Blank t log misses shows are log_shown = absurd (no_bank old.now t misses shows)
known old Foreign t log misses shows are log_shown =
    absurd (lacks_none old.now t shows misses.0.1.0 misses.0.1.1 misses.0.1.2)
known old (Version n) t log misses shows are log_shown =
    absurd (not_other _ n (holds t (undamaged t log are log_shown))
    (misses.1 (meta_entry VERSION t.decided ∷ []) (has_one old.now t shows)))
known old (OtherTable found) t log misses shows are log_shown =
    absurd (none_other old.now.schema all_tables found misses.1 (shown_tables old.now t shows))
known old (Damaged Meta) t log misses shows are log_shown =
    let sound = undamaged t log are log_shown in
    let rows = meta_entry VERSION t.decided ∷ [] in
    elim misses.1 [
      | inl none ↦ absurd (not_missing _ (holds t sound) (none rows (has_one old.now t shows)))
      | inr (ours, lacks) ↦ absurd (lacks bank.meta.checks rows (has_meta old.now t shows)
          (t.decided, refl, sound.decided))
    ]
known old (Damaged Value) t log misses shows are log_shown =
    absurd (misses.1 (meta_entry VERSION t.decided ∷ []) (has_one old.now t shows))
known old other t log misses shows are log_shown = absurd misses
