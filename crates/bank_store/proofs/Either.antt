-- What a crash leaves of a call that was refused, on tables of a log or not.
use Rattle.std.proofs.Common.{◌≡◌, ℕ, List, Option, Some, None, Result, refl, ◌∙◌, inl, inr}
use Rattle.std.specs.Prelude.{◌⊎◌}
use Rattle.sqlite.specs.{Held.Held, Held.state, State.Survives}
use Rattle.sqlite_trees.specs.declared.store.Store.{Ghosts}
use Rattle.sqlite.proofs.StateLemmas.{survives_then}
use Rattle.posting_rules.specs.{believed.Changes.opened_where, believed.Changes.tables_with_branch, declared.fault.Fault.Fault}
use Rattle.posting_rules.specs.declared.fault.Fault.TheVariants.{Memory, Down}
use Rattle.posting_rules.specs.declared.rows.{BranchRow.BranchRow, ClosingRow.ClosingRow}
use Rattle.posting_rules.specs.believed.{Changes.tables_opened, Commands.Terms}
use Rattle.posting_rules.specs.believed.Tables.{Tables, branch_key, row_at}
use Rattle.store_rows.specs.{believed.Failures.Additions, declared.fault.TableFault.TableFault}
use Rattle.bank_transactions.specs.{believed.Causes.Damage, Doing.MayLeaveAfter, Doing.TransactsBy}
use Rattle.bank_store.specs.{believed.NoneOrAll.LeavesEither, declared.bank.Bank.Bank}
use Rattle.bank_store.specs.believed.NoneOrAll.{RefusesOpening, RefusesRecords, RefusesClosing}
use Rattle.bank_store.specs.believed.Seen.{bank_seen, connection_of}

-- nothing was tried
pub either_same : {S : Type 0} (g : Ghosts S) (bank : Bank S g) (t u : Tables) → LeavesEither g bank bank t u
either_same g bank t u = λ clean before trees may. let it = before trees may in (it.0, it.1, inl it.2)

-- a transaction, after which the bank went down
pub either_after : {S X : Type 0} {So : Tables → Type 0} {after : Tables → Tables} {wanted : Tables → X} {Met : Damage S}
    {Adds : Additions} {r : Result X TableFault} (g : Ghosts S) (old new : Bank S g) (mid : Held S)
    → TransactsBy Met Adds g (connection_of old) mid So after wanted r
    → Survives (state g mid) (state g (connection_of new)) (λ _. ⊥)
    → (t : Tables) → (bank_seen g old).tables t → So t → LeavesEither g old new t (after t)
either_after {So = So} {after = after} g old new mid does quiet t shows so = λ clean before trees may.
    let May = MayLeaveAfter (state g (connection_of old)) So after in
    let survives = survives_then (state g (connection_of old)) (state g mid) (state g (connection_of new)) May (λ _. ⊥) May
    (λ clean db h. h) (λ clean db none. absurd none) does.survives quiet in
    elim (survives.crash clean trees may) [
      | inl was ↦ (let it = before trees was in (it.0, it.1, inl it.2))
      | inr made ↦ (after t, made t shows so, inr refl)
    ]

-- an opening leaves the branch, where it has no row yet
opened_or_same : (row : Option BranchRow) (t : Tables) (b : ℕ) (terms : Terms)
    → (opened_where row t b terms ≡ t) ⊎ (opened_where row t b terms ≡ tables_opened t b terms)
opened_or_same None t b terms = inr refl
opened_or_same (Some row) t b terms = inl refl

pub either_opened : {S : Type 0} (g : Ghosts S) (old new : Bank S g) (t : Tables) (b : ℕ) (terms : Terms)
    → LeavesEither g old new t (tables_with_branch t b terms) → LeavesEither g old new t (tables_opened t b terms)
either_opened g old new t b terms either = λ clean before trees may.
    let it = either clean before trees may in (
      it.0,
      it.1,
      elim it.2 [
        | inl same ↦ inl same
        | inr after ↦ elim (opened_or_same (row_at branch_key t.branches b) t b terms) [
          | inl same ↦ inl (after ∙ same)
          | inr opened ↦ inr (after ∙ opened)
        ]
      ],
    )

-- ---- a call that tried nothing

module _ {S : Type 0} (g : Ghosts S) (bank : Bank S g) where
  pub untried_records : (moment : ℕ) (records : List (List ℕ)) (fault : Fault) → (fault ≡ Down) ⊎ (fault ≡ Memory)
      → RefusesRecords g moment records bank bank fault
  untried_records moment records fault (inl is) =
      rw is (record { damage = tt; left = λ t shows so. either_same g bank t _ })
  untried_records moment records fault (inr is) =
      rw is (record { damage = tt; left = λ t shows so. either_same g bank t _ })

  pub untried_opening : (b : ℕ) (terms : Terms) (fault : Fault) → fault ≡ Down
      → RefusesOpening g b terms bank bank fault
  untried_opening b terms fault is = rw is (record { damage = tt; left = λ t shows so. either_same g bank t _ })

  pub untried_closing : (row : ClosingRow) (fault : Fault) → fault ≡ Down → RefusesClosing g row bank bank fault
  untried_closing row fault is = rw is (record { damage = tt; left = λ t shows so. either_same g bank t _ })
