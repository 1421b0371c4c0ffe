-- The parts of a call one after another.
use Rattle.std.proofs.Common.{◌≡◌, Ok, Err, Result, refl, sym, subst, ◌∙◌, inl, inr, arith}
use Rattle.std.specs.Prelude.{IsTrue, Bool, List, ℕ}
use Rattle.sqlite.specs.State.{State, HasCleanDisk, Survives}
use Rattle.sqlite.specs.{Held.state, Order.Row, declared.transaction.Transaction.Transaction}
use Rattle.sqlite_trees.specs.declared.store.Store.{Ghosts}
use Rattle.posting_rules.specs.{believed.Tables.Tables, declared.fault.Rule.Rule}
use Rattle.sql_meanings.proofs.{Saying.says_then, Sparing.spares_itself, Sparing.spares_then}
use Rattle.store_rows.specs.believed.{Failures.Additions, Sparing.bank_names, View.Shows}
use Rattle.store_rows.specs.declared.fault.TableFault.{TableFault, TheVariants.Sqlite, TheVariants.Damaged}
use Rattle.bank_transactions.specs.{believed.Causes.Damage, believed.Causes.IsBrokenOrMet, Causes.IsFirstDamaged}
use Rattle.bank_transactions.specs.Doing.{Acts, CommitsNothing, Does, DoesBy, GoesOnUncommitted, LeavesAndAnswers, Looks}
use Rattle.bank_transactions.proofs.Blamed.{blames_also, broken_or_met, comes, met_after}
use Rattle.bank_transactions.proofs.Wrote.{writes_also, writes_none, writes_then}
use Rattle.std.proofs.lemmas.Result.{on_ok_weaker}

-- ---- what goes on

-- a transaction that goes on is in the transaction still
pub still_in : (old new : State) → GoesOnUncommitted old new → IsTrue old.in_transaction
    → IsTrue new.in_transaction
still_in old new on live = subst (λ (b : Bool). IsTrue b) (sym on.mode) live

-- a part that goes on, and then another
pub keeps_then : {X : Type 0} (old mid new : State) (r : Result X TableFault) → GoesOnUncommitted old mid
    → CommitsNothing mid new r
    → CommitsNothing old new r
keeps_then old mid new (Ok x) on then = record {
  opened = λ h. on.opened (then.opened h);
  committed = then.committed ∙ on.committed;
  mode = then.mode ∙ on.mode;
  spares = spares_then bank_names old.now mid.now new.now on.spares then.spares;
}
keeps_then old mid new (Err e) on then = record {
  was_open = λ h. on.opened (then.was_open h);
  committed = λ h. then.committed h ∙ on.committed;
}

-- ---- what is told

-- damage of a part is damage of the whole
pub same_fault : {X Y : Type 0} (Bad : Rule → Type 0) (new end : State) (one two : Tables) (x : X) (y : Y) (e : TableFault)
    → LeavesAndAnswers Bad new one x (Err e) → LeavesAndAnswers Bad end two y (Err e)
same_fault Bad new end one two x y (Sqlite e) answers = tt
same_fault Bad new end one two x y (Damaged rule) answers = answers

-- damage that says one thing says another that follows
pub of_bad : {X : Type 0} (Bad Worse : Rule → Type 0) (new : State) (after : Tables) (wanted : X)
    (r : Result X TableFault) → ((rule : Rule) → Bad rule → Worse rule) → LeavesAndAnswers Bad new after wanted r
    → LeavesAndAnswers Worse new after wanted r
of_bad Bad Worse new after wanted (Ok x) so answers = answers
of_bad Bad Worse new after wanted (Err (Sqlite e)) so answers = tt
of_bad Bad Worse new after wanted (Err (Damaged rule)) so answers = so rule answers

-- ---- parts

-- nothing yet
pub does_none : {S : Type 0} {g : Ghosts S} {Adds : Additions} {tx : Transaction S} {So : Tables → Type 0}
    → Survives (state g tx.conn.now) (state g tx.conn.now) (λ _. ⊥)
    → Does {X = Unit {0}} g Adds tx tx So (λ t. t) (λ _. tt {0}) (Ok (tt {0}))
does_none stays = record {
  says = record {
    same_reference = refl;
    answers = λ clean live t shows so. (refl, shows);
    leaves = λ clean live. (
      record { opened = λ h. h; committed = refl; mode = refl; spares = spares_itself bank_names _ },
      tt,
      writes_none _ _,
    );
    survives = stays;
  };
}

-- one part, and then another
pub does_then : {S X Y : Type 0} {g : Ghosts S} {Adds : Additions} {old mid new : Transaction S} {So So' : Tables → Type 0}
    {after after' : Tables → Tables}
    {w : Tables → X} {w' : Tables → Y} {x : X} {r : Result Y TableFault} {Bad Met : Damage S}
    → DoesBy Bad Met Adds g old mid So after w (Ok x)
    → Does g Adds mid new So' after' w' r → ((t : Tables) → So t → So' (after t))
    → Does g Adds old new So (λ t. after' (after t)) (λ t. w' (after t)) r
does_then {S} {X} {Y} {g} {Adds} {old} {mid} {new} {So} {So'} {after} {after'} {w} {w'} {x} {r} {Bad} {Met} one two ready =
    record {
      says = says_then g old mid new one.says two.says
          (λ answers leaves answers' live t shows so.
          answers' (still_in (state g old.conn.now) (state g mid.conn.now) (leaves live).0 live) (after t)
          (answers live t shows so).1 (ready t so))
          (λ leaves leaves' live.
          let on = (leaves live).0 in
          let last = leaves' (still_in (state g old.conn.now) (state g mid.conn.now) on live) in (
            keeps_then (state g old.conn.now) (state g mid.conn.now) (state g new.conn.now) r on last.0,
            met_after Adds g old.conn.now mid.conn.now new.conn.now r (comes one.says.survives) last.1,
            on_ok_weaker r (writes_then Adds _ _ _ (leaves live).2) last.2,
          ));
    }

-- an error of a part is that of the whole
pub does_err : {S X Y : Type 0} {g : Ghosts S} {old new : Transaction S} {So So' : Tables → Type 0}
    {after after' : Tables → Tables}
    {w : Tables → X} {w' : Tables → Y} {e : TableFault} {Bad Met : Damage S} {Adds : Additions}
    → DoesBy Bad Met Adds g old new So after w (Err e) → ((t : Tables) → So' t → So t)
    → DoesBy Bad Met Adds g old new So' after' w' (Err e)
does_err {S} {X} {Y} {g} {old} {new} {So} {So'} {after} {after'} {w} {w'} {e} {Bad} {Met} part so = record {
  says = record {
    same_reference = part.says.same_reference;
    answers = λ clean live t shows it. same_fault (Bad old.conn.now new.conn.now) (state g new.conn.now)
        (state g new.conn.now) (after t) (after' t) (w t) (w' t) e
        (part.says.answers clean live t shows (so t it));
    leaves = part.says.leaves;
    survives = part.says.survives;
  };
}

-- the same, said in other words
pub does_for : {S X : Type 0} {g : Ghosts S} {old new : Transaction S} {So So' : Tables → Type 0}
    {after after' : Tables → Tables}
    {w w' : Tables → X} {r : Result X TableFault} {Bad Met : Damage S} {Adds : Additions}
    → DoesBy Bad Met Adds g old new So after w r
    → ((t : Tables) → So' t → So t × (after t ≡ after' t) × (w t ≡ w' t))
    → DoesBy Bad Met Adds g old new So' after' w' r
does_for {S} {X} {g} {old} {new} {So} {So'} {after} {after'} {w} {w'} {r} {Bad} part same = record {
  says = record {
    same_reference = part.says.same_reference;
    answers = λ clean live t shows so.
        let is = same t so in
        let Answers = Bad old.conn.now new.conn.now in
        subst (λ (u : Tables). LeavesAndAnswers Answers (state g new.conn.now) u (w' t) r) is.1
        (subst (λ (x : X). LeavesAndAnswers Answers (state g new.conn.now) (after t) x r) is.2
        (part.says.answers clean live t shows is.0));
    leaves = part.says.leaves;
    survives = part.says.survives;
  };
}

-- it puts in no other rows than these
pub does_adds : {S X : Type 0} {g : Ghosts S} {Adds Adds' : Additions} {old new : Transaction S}
    {So : Tables → Type 0} {after : Tables → Tables} {w : Tables → X} {r : Result X TableFault}
    → (HasCleanDisk (state g new.conn.now) → (text : List ℕ) (values : Row) → Adds text values
    → Adds' text values)
    → Does g Adds old new So after w r → Does g Adds' old new So after w r
does_adds {S} {X} {g} {Adds} {Adds'} {old} {new} {So} {after} {w} {r} also part = record {
  says = record {
    same_reference = part.says.same_reference;
    answers = part.says.answers;
    leaves = λ clean live.
        let it = part.says.leaves clean live in
        (it.0, blames_also g old.conn.now new.conn.now r (also clean) it.1, on_ok_weaker r (writes_also (also clean)) it.2);
    survives = part.says.survives;
  };
}

-- the answer of the part tells that of the whole
pub does_tell : {S X Y : Type 0} {g : Ghosts S} {old new : Transaction S} {So So' : Tables → Type 0}
    {after after' : Tables → Tables}
    {w : Tables → X} {w' : Tables → Y} {x : X} {y : Y} {Bad Met : Damage S} {Adds : Additions}
    → DoesBy Bad Met Adds g old new So after w (Ok x)
    → ((t : Tables) → So' t → So t × (x ≡ w t → (after t ≡ after' t) × (y ≡ w' t)))
    → DoesBy Bad Met Adds g old new So' after' w' (Ok y)
does_tell {S} {X} {Y} {g} {old} {new} {So} {So'} {after} {after'} {w} {w'} {x} {y} {Bad} {Met} part so = record {
  says = record {
    same_reference = part.says.same_reference;
    answers = λ clean live t shows it.
        let ready = so t it in
        let found = part.says.answers clean live t shows ready.0 in
        let is = ready.1 found.0 in
        (is.1, subst (λ (u : Tables). Shows (state g new.conn.now).now u) is.0 found.1);
    leaves = part.says.leaves;
    survives = part.says.survives;
  };
}

-- what is so of the tables in any case needn't be asked for
pub does_known : {S X : Type 0} {g : Ghosts S} {old new : Transaction S} {So Known : Tables → Type 0}
    {after : Tables → Tables} {w : Tables → X} {r : Result X TableFault} {Bad Met : Damage S} {Adds : Additions}
    → (HasCleanDisk (state g new.conn.now) → IsTrue (state g old.conn.now).in_transaction → (t : Tables)
    → Shows (state g old.conn.now).now t → So t → Known t)
    → DoesBy Bad Met Adds g old new (λ t. So t × Known t) after w r → DoesBy Bad Met Adds g old new So after w r
does_known known part = record {
  says = record {
    same_reference = part.says.same_reference;
    answers = λ clean live t shows so. part.says.answers clean live t shows (so, known clean live t shows so);
    leaves = part.says.leaves;
    survives = part.says.survives;
  };
}

-- ---- where the answer of the first part counts too

module _ {S X Y : Type 0} {g : Ghosts S} {Adds : Additions} {old mid new : Transaction S} {So So' : Tables → Type 0}
    {after after' : Tables → Tables} {w : Tables → X} {w' : Tables → Y} {x : X} {Bad Met : Damage S}
    (one : DoesBy Bad Met Adds g old mid So after w (Ok x)) where
  -- one part, and then another, for tables of which the first answer is known
  knowing : {r : Result Y TableFault} → Does g Adds mid new So' after' w' r
      → ((t : Tables) → So t → x ≡ w t → So' (after t))
      → Does g Adds old new (λ t. So t × (x ≡ w t)) (λ t. after' (after t)) (λ t. w' (after t)) r
  knowing two ready = does_then (does_for one (λ t so. (so.0, refl, refl))) two (λ t so. ready t so.0 so.1)

  module _ {Z : Type 0} {after'' : Tables → Tables} {w'' : Tables → Z} where
    -- it is known of them all
    all_known : {r : Result Y TableFault} {r' : Result Z TableFault} → Does g Adds mid new So' after' w' r
        → Does g Adds old new (λ t. So t × (x ≡ w t)) after'' w'' r' → Does g Adds old new So after'' w'' r'
    all_known two = does_known (λ clean live t shows so.
        let before : HasCleanDisk (state g mid.conn.now) = omega (arith, two.says.survives.clean) in
        (one.says.answers before live t shows so).0)

    -- an error of the second is that of both
    pub does_but : {e : TableFault} → Does g Adds mid new So' after' w' (Err e)
        → ((t : Tables) → So t → x ≡ w t → So' (after t)) → Does g Adds old new So after'' w'' (Err e)
    does_but two ready = all_known two (does_err (knowing two ready) (λ t so. so))

    -- the answer of both comes from the two
    pub does_both : {y : Y} {z : Z} → Does g Adds mid new So' after' w' (Ok y)
        → ((t : Tables) → So t → x ≡ w t → So' (after t) × (after' (after t) ≡ after'' t) × (z ≡ w'' t))
        → Does g Adds old new So after'' w'' (Ok z)
    does_both two ready = all_known two (does_tell (knowing two (λ t so found. (ready t so found).0))
        (λ t so. (so, λ is. let it = ready t so.0 so.1 in (it.1, it.2))))

-- ---- a part that reads and then writes

acts_as : {S X : Type 0} {Bad Met : Damage S} {g : Ghosts S} {Adds : Additions} {old new : Transaction S}
    {So : Tables → Type 0} {after : Tables → Tables} {w : Tables → X} {r : Result X TableFault}
    → ((rule : Rule) → Bad old.conn.now new.conn.now rule → IsFirstDamaged g old.conn.now new.conn.now rule)
    → ((rule : Rule) → Met old.conn.now new.conn.now rule → IsBrokenOrMet g Adds old.conn.now new.conn.now rule)
    → DoesBy Bad Met Adds g old new So after w r → Acts g Adds old new So after w r
acts_as {S} {X} {Bad} {Met} {g} {Adds} {old} {new} {So} {after} {w} {r} worse weaker part = record {
  says = record {
    same_reference = part.says.same_reference;
    answers = λ clean live t shows so.
        of_bad (Bad old.conn.now new.conn.now) (IsFirstDamaged g old.conn.now new.conn.now) (state g new.conn.now)
        (after t) (w t) r worse (part.says.answers clean live t shows so);
    leaves = λ clean live.
        let it = part.says.leaves clean live in
        (it.0, broken_or_met Met g old.conn.now new.conn.now r weaker it.1, it.2);
    survives = part.says.survives;
  };
}

-- it only read so far
pub acts_read : {S X : Type 0} {g : Ghosts S} {Adds : Additions} {old new : Transaction S} {So : Tables → Type 0}
    {after : Tables → Tables} {w : Tables → X}
    {r : Result X TableFault} → Looks g Adds old new So after w r
    → Acts g Adds old new So after w r
acts_read part = acts_as (λ rule it. it) (λ rule it. inl (inl it)) part

-- it wrote
pub acts_wrote : {S X : Type 0} {g : Ghosts S} {Adds : Additions} {old new : Transaction S} {So : Tables → Type 0}
    {after : Tables → Tables} {w : Tables → X}
    {r : Result X TableFault} → Does g Adds old new So after w r → Acts g Adds old new So after w r
acts_wrote part = acts_as (λ rule none. absurd none) (λ rule it. inr it) part
