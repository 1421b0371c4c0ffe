-- Look-ups one after another.
use Rattle.std.proofs.Common.{◌≡◌, Ok, Err, Result, inl, refl, sym, subst, ◌∙◌}
use Rattle.std.specs.Prelude.{IfOk}
use Rattle.sqlite.specs.{Effect.Database, Held.Held, Held.state, declared.transaction.Transaction.Transaction}
use Rattle.sqlite.specs.State.{State, HasCleanDisk, IsUnchanged, Survives}
use Rattle.sqlite_trees.specs.declared.store.Store.{Ghosts}
use Rattle.posting_rules.specs.{Sound.AreSound, believed.Tables.Tables}
use Rattle.posting_rules.specs.declared.fault.Rule.{Rule}
use Rattle.sql_meanings.specs.Calls.{Says}
use Rattle.sql_meanings.proofs.{Saying.says_then, Sparing.spares_itself, Sparing.spares_same}
use Rattle.store_rows.specs.believed.{Failures.Additions, Sparing.bank_names, View.Shows, Rules.IsBroken}
use Rattle.store_rows.specs.declared.fault.TableFault.{TableFault, TheVariants.Sqlite, TheVariants.Damaged}
use Rattle.bank_transactions.specs.{believed.Causes.IsBefore, Causes.Blames, Causes.IsFault, Causes.IsFirstBroken}
use Rattle.bank_transactions.specs.Causes.{IsFirstDamaged}
use Rattle.bank_transactions.specs.Doing.{Acts, ChangesNothing, CommitsNothing, LeavesAndAnswers, Looks, Reads, ReadsBy}
use Rattle.bank_transactions.specs.Doing.{ReadsWhere}
use Rattle.bank_transactions.specs.Doing.{Stays, WritesIfOk}
use Rattle.bank_transactions.specs.{Stray.LooksForStrays, believed.Stray.IsDamage}
use Rattle.bank_transactions.specs.believed.Causes.{Damage, IsBrokenOrMet}
use Rattle.bank_transactions.proofs.Wrote.{writes_same}
use Rattle.bank_transactions.proofs.{Blamed.comes, Blamed.fault_within, Blamed.same_moment, Chained.does_for}
use Rattle.bank_transactions.proofs.{Chained.keeps_then}

-- what is unchanged stays as it is
pub stays : (old new : State) → IsUnchanged old new → Stays old new
stays old new same = record {
  goes_on = record {
    opened = λ h. same.0.was_open;
    committed = same.0.committed_is;
    mode = same.0.mode;
    spares = spares_same bank_names old.now new.now same.0.now_is;
  };
  now = same.0.now_is;
}

-- what both leave
leaves_then : {S X : Type 0} (g : Ghosts S) (old mid new : Held S) (r : Result X TableFault)
    → Stays (state g old) (state g mid) → IsBefore (state g old) (state g mid)
    → ChangesNothing (state g mid) (state g new) r × Blames (IsFirstBroken g) g mid new r
    → ChangesNothing (state g old) (state g new) r × Blames (IsFirstBroken g) g old new r
leaves_then g old mid new (Ok x) one before two = (
  record {
    goes_on = keeps_then (state g old) (state g mid) (state g new) (Ok x) one.goes_on two.0.goes_on;
    now = two.0.now ∙ one.now;
  },
  tt,
)
leaves_then {X = X} g old mid new (Err e) one before two = (
  keeps_then {X = X} (state g old) (state g mid) (state g new) (Err e) one.goes_on two.0,
  fault_within (IsFirstBroken g) g old mid new new e (λ rule. subst (IsBroken rule) one.now) before
      (same_moment (state g new)) two.1,
)

-- nothing yet
pub reads_none : {S X : Type 0} {g : Ghosts S} {tx : Transaction S} {So : Tables → Type 0} {w : Tables → X}
    {x : X}
    → Survives (state g tx.conn.now) (state g tx.conn.now) (λ _. ⊥) → ((t : Tables) → So t → x ≡ w t)
    → ReadsWhere g tx tx So w (Ok x)
reads_none same is = record {
  says = record {
    same_reference = refl;
    answers = λ clean t shows so. is t so;
    leaves = λ clean. (
      record {
        goes_on = record { opened = λ h. h; committed = refl; mode = refl; spares = spares_itself bank_names _ };
        now = refl;
      },
      tt,
    );
    survives = same;
  };
}

-- what changed nothing, and was to tell nothing of the tables
pub recalled_at : {S : Type 0} {g : Ghosts S} {old new : Transaction S} {So : Tables → Type 0}
    {Answers : State → State → Type 0}
    → Says g old new Answers Stays → ReadsWhere {X = Unit {0}} g old new So (λ t. tt {0}) (Ok (tt {0}))
recalled_at says = record {
  says = record {
    same_reference = says.same_reference;
    answers = λ clean t shows so. refl;
    leaves = λ clean. (says.leaves clean, tt);
    survives = says.survives;
  };
}

-- as a statement did
pub looked_at : {S : Type 0} {g : Ghosts S} {old new : Transaction S} {So : Tables → Type 0}
    {Answers : State → State → Type 0}
    → Says g old new Answers IsUnchanged → ReadsWhere {X = Unit {0}} g old new So (λ t. tt {0}) (Ok (tt {0}))
looked_at {g = g} {old = old} {new = new} {Answers = Answers} says = recalled_at {Answers = Answers} (record {
  same_reference = says.same_reference;
  answers = says.answers;
  leaves = λ clean. stays (state g old.conn.now) (state g new.conn.now) (says.leaves clean);
  survives = says.survives;
})

-- the same, said in other words
pub reads_so : {S X Y : Type 0} {g : Ghosts S} {old new : Transaction S} {So So' : Tables → Type 0}
    {w : Tables → X} {w' : Tables → Y} {x : X} {y : Y}
    → ReadsWhere g old new So w (Ok x) → ((t : Tables) → So' t → So t × (x ≡ w t → y ≡ w' t))
    → ReadsWhere g old new So' w' (Ok y)
reads_so part same = record {
  says = record {
    same_reference = part.says.same_reference;
    answers = λ clean t shows so. let is = same t so in is.1 (part.says.answers clean t shows is.0);
    leaves = part.says.leaves;
    survives = part.says.survives;
  };
}

-- what was read is damage
pub reads_broken : {S X Y : Type 0} {g : Ghosts S} {old new : Transaction S} {So : Tables → Type 0} {w : Tables → X}
    {w' : Tables → Y} {x : X} (rule : Rule) → ReadsWhere g old new So w (Ok x)
    → (HasCleanDisk (state g new.conn.now) → IsBroken rule (state g old.conn.now).now)
    → ReadsWhere g old new So w' (Err (Damaged rule))
reads_broken rule part broken = record {
  says = record {
    same_reference = part.says.same_reference;
    answers = λ clean t shows so. tt;
    leaves = λ clean. let on = (part.says.leaves clean).0.goes_on in
        (record { was_open = on.opened; committed = λ h. on.committed }, broken clean);
    survives = part.says.survives;
  };
}

module _ {S X Y : Type 0} {g : Ghosts S} {old mid new : Transaction S} {So So' : Tables → Type 0}
    {w : Tables → X} {w' : Tables → Y} {x : X} where
  -- one look-up, and then another: the answer of both comes from the two
  pub reads_both : {Z : Type 0} {w'' : Tables → Z} {y : Y} {z : Z} → ReadsWhere g old mid So w (Ok x)
      → ReadsWhere g mid new So' w' (Ok y)
      → ((t : Tables) → So t → x ≡ w t → So' t) → ((t : Tables) → So t → x ≡ w t → y ≡ w' t → z ≡ w'' t)
      → ReadsWhere g old new So w'' (Ok z)
  reads_both {y = y} one two ready joins = record {
    says = says_then g old mid new one.says two.says
        (λ answers leaves answers' t shows so.
        let first = answers t shows so in
        joins t so first (answers' t (subst (λ (db : Database). Shows db t) (sym leaves.0.now) shows)
        (ready t so first)))
        (λ leaves. leaves_then g old.conn.now mid.conn.now new.conn.now (Ok y) leaves.0 (comes one.says.survives));
  }

  -- the second tells the answer of both
  pub reads_after : {r : Result Y TableFault} → ReadsWhere g old mid So w (Ok x) → ReadsWhere g mid new So' w' r
      → ((t : Tables) → So t → So' t) → ReadsWhere g old new So w' r
  reads_after {r} one two ready = record {
    says = says_then g old mid new one.says two.says
        (λ answers leaves answers' t shows so.
        answers' t (subst (λ (db : Database). Shows db t) (sym leaves.0.now) shows) (ready t so))
        (λ leaves. leaves_then g old.conn.now mid.conn.now new.conn.now r leaves.0 (comes one.says.survives));
  }

  -- an error of the second is that of both
  pub reads_but : {Z : Type 0} {w'' : Tables → Z} {e : TableFault} → ReadsWhere g old mid So w (Ok x)
      → ReadsWhere g mid new So' w' (Err e) → ReadsWhere g old new So w'' (Err e)
  reads_but {e = e} one two = record {
    says = says_then g old mid new one.says two.says (λ answers leaves answers' t shows so. tt)
        (λ leaves. leaves_then {X = Y} g old.conn.now mid.conn.now new.conn.now (Err e) leaves.0
        (comes one.says.survives));
  }

pair : {X Y : Type 0} {a x : X} {b y : Y} → a ≡ x → b ≡ y → ◌≡◌ {A = X × Y} (a, b) (x, y)
pair e f = cc

-- both answers
pub reads_pair : {S X Y : Type 0} {g : Ghosts S} {old mid new : Transaction S} {So : Tables → Type 0} {w : Tables → X}
    {w' : Tables → Y} {x : X} {y : Y} → ReadsWhere g old mid So w (Ok x) → ReadsWhere g mid new So w' (Ok y)
    → ReadsWhere {X = X × Y} g old new So (λ t. (w t, w' t)) (Ok (x, y))
reads_pair one two = reads_both one two (λ t so first. so) (λ t so first last. pair first last)

-- ---- what they do

-- damage is of the rows that were there
look_fault : {S X : Type 0} (g : Ghosts S) (old new : Held S) (t : Tables) (w : X) (e : TableFault)
    → IsFault (IsFirstBroken g) g old new e → LeavesAndAnswers {X = X} (IsFirstDamaged g old new) (state g new) t w (Err e)
look_fault g old new t w (Sqlite e) why = tt
look_fault g old new t w (Damaged rule) why = inl why

looked : {S X : Type 0} (g : Ghosts S) (old new : Held S) (t : Tables) (w : X) (r : Result X TableFault)
    → Shows (state g old).now t → IfOk r (λ x. x ≡ w)
    → ChangesNothing (state g old) (state g new) r × Blames (IsFirstBroken g) g old new r
    → LeavesAndAnswers (IsFirstDamaged g old new) (state g new) t w r
looked g old new t w (Ok x) shows answers leaves =
    (answers, subst (λ (db : Database). Shows db t) (sym leaves.0.now) shows)
looked g old new t w (Err e) shows answers leaves = look_fault g old new t w e leaves.1

look_keeps : {X : Type 0} (old new : State) (r : Result X TableFault) → ChangesNothing old new r
    → CommitsNothing old new r
look_keeps old new (Ok x) looks = looks.goes_on
look_keeps old new (Err e) looks = looks

-- it wrote nothing
look_writes : {X : Type 0} (Adds : Additions) (old new : State) (r : Result X TableFault)
    → ChangesNothing old new r → WritesIfOk Adds old new r
look_writes Adds old new (Ok x) looks = writes_same Adds old.now new.now looks.now
look_writes Adds old new (Err e) looks = tt

look_leaves : {S X : Type 0} (Adds : Additions) {g : Ghosts S} {old new : Transaction S} {So : Tables → Type 0}
    {w : Tables → X} {r : Result X TableFault} → ReadsWhere g old new So w r → HasCleanDisk (state g new.conn.now)
    → CommitsNothing (state g old.conn.now) (state g new.conn.now) r
    × Blames (IsFirstBroken g) g old.conn.now new.conn.now r
    × WritesIfOk Adds (state g old.conn.now) (state g new.conn.now) r
look_leaves Adds {g = g} {old = old} {new = new} {r = r} reads clean =
    let it = reads.says.leaves clean in (
      look_keeps (state g old.conn.now) (state g new.conn.now) r it.0,
      it.1,
      look_writes Adds (state g old.conn.now) (state g new.conn.now) r it.0,
    )

-- a look-up leaves the tables
pub does_look : {S X : Type 0} {Adds : Additions} {g : Ghosts S} {old new : Transaction S} {So : Tables → Type 0}
    {w : Tables → X} {r : Result X TableFault} → ReadsWhere g old new So w r
    → Looks g Adds old new So (λ t. t) w r
does_look {S} {X} {Adds} {g} {old} {new} {So} {w} {r} reads = record {
  says = record {
    same_reference = reads.says.same_reference;
    answers = λ clean live t shows so. looked g old.conn.now new.conn.now t (w t) r shows
        (reads.says.answers clean t shows so) (reads.says.leaves clean);
    leaves = λ clean live. look_leaves Adds reads clean;
    survives = reads.says.survives;
  };
}

-- whatever was asked of the tables, what is told is of the rows that were there
pub does_fail : {S X Y : Type 0} {Adds : Additions} {g : Ghosts S} {old new : Transaction S}
    {So So' : Tables → Type 0} {after : Tables → Tables} {w : Tables → X} {w' : Tables → Y} {e : TableFault}
    → ReadsWhere g old new So w (Err e) → Looks g Adds old new So' after w' (Err e)
does_fail {S} {X} {Y} {Adds} {g} {old} {new} {So} {So'} {after} {w} {w'} {e} reads = record {
  says = record {
    same_reference = reads.says.same_reference;
    answers = λ clean live t shows so. look_fault g old.conn.now new.conn.now (after t) (w' t) e
        (reads.says.leaves clean).1;
    leaves = λ clean live. look_leaves Adds reads clean;
    survives = reads.says.survives;
  };
}

-- what was read is what is found in tables that are so
pub finds_so : {S X Y : Type 0} {g : Ghosts S} {old new : Transaction S} {So So' : Tables → Type 0} {w : Tables → X}
    {w' : Tables → Y} {x : X} {y : Y} → ReadsWhere g old new So w (Ok x)
    → (HasCleanDisk (state g new.conn.now) → (t : Tables) → Shows (state g old.conn.now).now t → So' t → y ≡ w' t)
    → ReadsWhere g old new So' w' (Ok y)
finds_so reads is = record {
  says = record {
    same_reference = reads.says.same_reference;
    answers = is;
    leaves = reads.says.leaves;
    survives = reads.says.survives;
  };
}

pub does_read : {S X : Type 0} {Adds : Additions} {g : Ghosts S} {old new : Transaction S} {w : Tables → X}
    {r : Result X TableFault} → Reads g old new w r → Looks g Adds old new AreSound (λ t. t) w r
does_read reads = does_for (does_look reads) (λ t sound. (sound.undamaged, refl, refl))

-- ---- a look-up that tells of stray rows, too

-- once it is answered, it is any look-up
pub reads_ok : {S X : Type 0} {g : Ghosts S} {Met : Damage S} {old new : Transaction S} {So : Tables → Type 0}
    {w : Tables → X} {x : X} → ReadsBy Met g old new So w (Ok x) → ReadsWhere g old new So w (Ok x)
reads_ok reads = record {
  says = record {
    same_reference = reads.says.same_reference;
    answers = reads.says.answers;
    leaves = reads.says.leaves;
    survives = reads.says.survives;
  };
}

wider : {S X : Type 0} (g : Ghosts S) (old new : Held S) (r : Result X TableFault) → Blames (IsFirstBroken g) g old new r
    → Blames (IsFirstDamaged g) g old new r
wider g old new (Ok x) why = tt
wider g old new (Err (Sqlite e)) why = why
wider g old new (Err (Damaged rule)) why = inl why

-- so is what tells of broken rules alone
pub reads_wider : {S X : Type 0} {g : Ghosts S} {old new : Transaction S} {So : Tables → Type 0} {w : Tables → X}
    {r : Result X TableFault} → ReadsWhere g old new So w r → ReadsBy (IsFirstDamaged g) g old new So w r
reads_wider {g = g} {old = old} {new = new} {r = r} reads = record {
  says = record {
    same_reference = reads.says.same_reference;
    answers = reads.says.answers;
    leaves = λ clean. let it = reads.says.leaves clean in (it.0, wider g old.conn.now new.conn.now r it.1);
    survives = reads.says.survives;
  };
}

-- it comes after another look-up
strays_since : {S : Type 0} (g : Ghosts S) (old mid new : Held S) (r : Result (Unit {0}) TableFault)
    → Stays (state g old) (state g mid) → IsBefore (state g old) (state g mid)
    → ChangesNothing (state g mid) (state g new) r × Blames (IsFirstDamaged g) g mid new r
    → ChangesNothing (state g old) (state g new) r × Blames (IsFirstDamaged g) g old new r
strays_since g old mid new (Ok x) one before two = (
  record {
    goes_on = keeps_then (state g old) (state g mid) (state g new) (Ok x) one.goes_on two.0.goes_on;
    now = two.0.now ∙ one.now;
  },
  tt,
)
strays_since g old mid new (Err e) one before two = (
  keeps_then {X = Unit {0}} (state g old) (state g mid) (state g new) (Err e) one.goes_on two.0,
  fault_within (IsFirstDamaged g) g old mid new new e (λ rule. subst (IsDamage rule) one.now) before
      (same_moment (state g new)) two.1,
)

pub strays_then : {S X : Type 0} {g : Ghosts S} {old mid new : Transaction S} {So : Tables → Type 0} {w : Tables → X}
    {x : X} {r : Result (Unit {0}) TableFault} → ReadsWhere g old mid So w (Ok x) → LooksForStrays g mid new r
    → LooksForStrays g old new r
strays_then {g = g} {old = old} {mid = mid} {new = new} {r = r} one two = record {
  says = says_then g old mid new one.says two.says
      (λ answers leaves answers' t shows so.
      answers' t (subst (λ (db : Database). Shows db t) (sym leaves.0.now) shows) tt)
      (λ leaves. strays_since g old.conn.now mid.conn.now new.conn.now r leaves.0 (comes one.says.survives));
}

-- an error of it is one of another look-up, whatever was to be found
pub strays_fail : {S X Y : Type 0} {g : Ghosts S} {old new : Transaction S} {So So' : Tables → Type 0} {w : Tables → X}
    {w' : Tables → Y} {e : TableFault} → ReadsBy (IsFirstDamaged g) g old new So w (Err e)
    → ReadsBy (IsFirstDamaged g) g old new So' w' (Err e)
strays_fail reads = record {
  says = record {
    same_reference = reads.says.same_reference;
    answers = λ clean t shows so. tt;
    leaves = reads.says.leaves;
    survives = reads.says.survives;
  };
}

-- what was read is a stray row
pub reads_met : {S X Y : Type 0} {g : Ghosts S} {old new : Transaction S} {So So' : Tables → Type 0} {w : Tables → X}
    {w' : Tables → Y} {x : X} (rule : Rule) → ReadsWhere g old new So w (Ok x)
    → (HasCleanDisk (state g new.conn.now) → IsDamage rule (state g old.conn.now).now)
    → ReadsBy (IsFirstDamaged g) g old new So' w' (Err (Damaged rule))
reads_met rule part damage = record {
  says = record {
    same_reference = part.says.same_reference;
    answers = λ clean t shows so. tt;
    leaves = λ clean. let on = (part.says.leaves clean).0.goes_on in
        (record { was_open = on.opened; committed = λ h. on.committed }, damage clean);
    survives = part.says.survives;
  };
}

-- a part that ends so acts
stray_fault : {S X : Type 0} (g : Ghosts S) (old new : Held S) (t : Tables) (w : X) (e : TableFault)
    → IsFault (IsFirstDamaged g) g old new e → LeavesAndAnswers {X = X} (IsFirstDamaged g old new) (state g new) t w (Err e)
stray_fault g old new t w (Sqlite e) why = tt
stray_fault g old new t w (Damaged rule) why = why

stray_blames : {S : Type 0} (Adds : Additions) (g : Ghosts S) (old new : Held S) (e : TableFault)
    → IsFault (IsFirstDamaged g) g old new e → IsFault (IsBrokenOrMet g Adds) g old new e
stray_blames Adds g old new (Sqlite e) why = why
stray_blames Adds g old new (Damaged rule) why = inl why

pub acts_stray : {S X Y : Type 0} {Adds : Additions} {g : Ghosts S} {old new : Transaction S}
    {So So' : Tables → Type 0} {after : Tables → Tables} {w : Tables → X} {w' : Tables → Y} {e : TableFault}
    → ReadsBy (IsFirstDamaged g) g old new So w (Err e) → Acts g Adds old new So' after w' (Err e)
acts_stray {S} {X} {Y} {Adds} {g} {old} {new} {So} {So'} {after} {w} {w'} {e} reads = record {
  says = record {
    same_reference = reads.says.same_reference;
    answers = λ clean live t shows so. stray_fault g old.conn.now new.conn.now (after t) (w' t) e
        (reads.says.leaves clean).1;
    leaves = λ clean live. let it = reads.says.leaves clean in
        (it.0, stray_blames Adds g old.conn.now new.conn.now e it.1, tt);
    survives = reads.says.survives;
  };
}
