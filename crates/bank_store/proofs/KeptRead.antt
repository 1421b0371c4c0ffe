-- What was read of kept requests, and why they weren't read.
use Rattle.std.proofs.Common.{◌≡◌, ◌++◌, ◌∷◌, ℕ, ℤ, pos, List, [], Option, Some, None, Ok, Err, Result, true, sym}
use Rattle.std.proofs.Common.{append_assoc, arith, refl, ap, subst, inl, inr, ◌∙◌}
use Rattle.std.specs.Prelude.{IfErr, IfOk, MatchResult, OnOk}
use Rattle.std.proofs.lemmas.Result.{IfOk-weaker}
use Rattle.sqlite.specs.{Effect.Database, Held.Held, Held.state, State.HasCleanDisk, declared.error.Error.Error}
use Rattle.sqlite.specs.declared.transaction.Transaction.{Transaction}
use Rattle.sqlite_trees.specs.declared.store.Store.{Ghosts}
use Rattle.posting_rules.specs.{believed.Tables.Tables, declared.fault.Rule.TheVariants.Request}
use Rattle.store_rows.specs.believed.Rules.{IsBroken, StoredRows}
use Rattle.store_rows.specs.declared.metas.StoredMeta.{StoredMeta}
use Rattle.store_rows.specs.declared.fault.TableFault.{TableFault, TheVariants.Sqlite, TheVariants.Damaged}
use Rattle.bank_transactions.specs.Causes.{Blames, IsFirstBroken}
use Rattle.bank_transactions.specs.believed.Stored.{HoldsDecided}
use Rattle.bank_transactions.specs.Doing.{ChangesNothing, Ends, EndsBy, Reads}
use Rattle.bank_transactions.proofs.{Blamed.comes, Blamed.same_moment, Transacted.of_given}
use Rattle.walked_rows.specs.{Broken.HasBroken, Causes.HasItsCause, Requests.IsNoRequest, Rows.items_from}
use Rattle.walked_rows.specs.KeptRows.{BreaksKept, HoldsKept, KeptItem, kept_key}
use Rattle.walked_rows.specs.StepOutcomes.{BreaksFirst}
use Rattle.walked_rows.proofs.RowsBroken.{row_broken}

pub ok_part : {A E : Type 0} (P : A → Type 0) (Q : E → Type 0) (r : Result A E) → MatchResult r P Q → IfOk r P
ok_part P Q (Ok x) is = is
ok_part P Q (Err e) is = tt

module _ {S : Type 0} (g : Ghosts S) (old new : Held S) (from : ℤ) where
  -- a call of `sqlite` failed, or the first row to come breaks the rule
  pub read_blames : (P : List KeptItem → Option ℤ → Type 0) (Because : Error → Type 0)
      (r : Result (Option ℤ) TableFault)
      → ((all : List KeptItem) → HoldsKept (state g old).now all
      → MatchResult r (P all) (BreaksFirst Because BreaksKept (items_from kept_key from all)))
      → IfErr r (HasItsCause g old new) → Blames (IsFirstBroken g) g old new r
  read_blames P Because (Ok rest) answers cause = tt
  read_blames P Because (Err (Sqlite e)) answers cause = record {
    at = cause.at;
    then = new;
    before = comes cause.before;
    failed = cause.failed;
    after = same_moment (state g new);
  }
  read_blames P Because (Err (Damaged rule)) answers cause =
      row_broken (state g old).now rule from
      (λ all has. let it = answers all has in ([], it.0, it.1, it.2, inl it.3))

  -- one of the rows that were read is that of no request
  pub no_request_broken : (rows : List KeptItem) (After : List KeptItem → List KeptItem)
      → ((all : List KeptItem) → HoldsKept (state g old).now all → items_from kept_key from all ≡ rows ++ After all)
      → HasBroken IsNoRequest rows → IsBroken Request (state g old).now
  no_request_broken rows After answers broken =
      row_broken (state g old).now Request from
      (λ all has. (
        broken.0,
        broken.1,
        broken.2 ++ After all,
        answers all has ∙ ap (λ (l : List KeptItem). l ++ After all) broken.3
            ∙ append_assoc broken.0 (broken.1 ∷ broken.2) (After all),
        inr (refl, broken.4),
      ))

-- the bank's row has one count
pub decided_once : (rows : StoredRows) (m n : ℕ) → HoldsDecided rows m → HoldsDecided rows n → m ≡ n
decided_once rows m n one two =
    pos_same m n (ap (λ (o : Option StoredMeta). count_in o) (sym one.1 ∙ two.1))
  where
    count_in : Option StoredMeta → ℤ
    count_in None = pos 0
    count_in (Some row) = row.decided

    pos_same : (a b : ℕ) → pos a ≡ pos b → a ≡ b
    pos_same a b is = cc

-- ---- a transaction that only reads, and ended with an answer

module _ {S X : Type 0} {answer result : Result X TableFault} (g : Ghosts S) (old : Held S) (begun last : Transaction S)
    (end new : Held S) (is : begun.conn.now ≡ record old { in_transaction = true })
    (ends : Ends g last.conn.now end answer result) (same : end ≡ new) where
  last_clean : HasCleanDisk (state g end) → HasCleanDisk (state g last.conn.now)
  last_clean clean = omega (arith, ends.survives.clean, clean)

  end_clean : HasCleanDisk (state g new) → HasCleanDisk (state g end)
  end_clean = subst (λ (h : Held S). HasCleanDisk (state g h)) (sym same)

  -- what was read of the database that it began with is so of the one before
  pub read_before : (Holds : X → Database → Type 0)
      → IfOk answer (λ x. HasCleanDisk (state g last.conn.now) → Holds x (state g begun.conn.now).now)
      → IfOk result (λ x. HasCleanDisk (state g new) → Holds x (state g old).now)
  read_before Holds it =
      IfOk-weaker result Begun (λ x. HasCleanDisk (state g new) → Holds x (state g old).now)
      (λ x holds clean. subst (λ (h : Held S). Holds x (state g h).now) is (holds (last_clean (end_clean clean))))
      (of_given Begun answer result ends.given it)
    where
      Begun : X → Type 0
      Begun x = HasCleanDisk (state g last.conn.now) → Holds x (state g begun.conn.now).now

  -- and that is as it was
  pub read_leaves : {w : Tables → X} → Reads g begun last w answer
      → OnOk result (HasCleanDisk (state g new) → (state g new).now ≡ (state g old).now)
  read_leaves reads =
      subst (λ (h : Held S). OnOk result (HasCleanDisk (state g h) → (state g h).now ≡ (state g old).now)) same
      (go answer result ends.given (λ clean. (reads.says.leaves (last_clean clean)).0) ends.answers)
    where
      go : (a r : Result X TableFault) → IfOk r (λ x. a ≡ Ok x)
          → (HasCleanDisk (state g end) → ChangesNothing (state g begun.conn.now) (state g last.conn.now) a)
          → (HasCleanDisk (state g end) → EndsBy (state g last.conn.now) (state g end) a r)
          → OnOk r (HasCleanDisk (state g end) → (state g end).now ≡ (state g old).now)
      go (Ok x) (Ok y) given stays by = λ clean. (by clean).0 ∙ (stays clean).now ∙ ap (λ (h : Held S). (state g h).now) is
      go (Err e) (Ok y) given stays by = absurd (let it = given in cc)
      go a (Err e) given stays by = tt
