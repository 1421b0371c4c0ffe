-- A transaction on a connection, as a call of a counter.
use Rattle.std.proofs.Common.{◌≡◌, ◌≤◌, ℕ, List, length, Option, Some, None, Result, Ok, Err, refl, sym, subst, ◌∙◌, arith}
use Rattle.std.proofs.Common.{inl, inr}
use Rattle.std.specs.Prelude.{IsSome}
use Rattle.std.proofs.Math.Seq.{take-length}
use Rattle.sqlite.specs.{Effect.Database, declared.error.Error.Error, Held.Held, Held.state}
use Rattle.sqlite.specs.State.{State, HasCleanDisk, Survives}
use Rattle.sqlite_trees.specs.declared.store.Store.{Ghosts}
use Rattle.sqlite.proofs.StateLemmas.{survives_then}
use Rattle.posting_rules.specs.{declared.fault.Fault.Fault, declared.fault.Rule.Rule, believed.Runs.followed_by}
use Rattle.posting_rules.specs.declared.fault.Fault.TheVariants as faults
use Rattle.posting_rules.specs.believed.Commands.{Command, AreCommands, Terms}
use Rattle.posting_rules.specs.declared.limits.TheConstants.{MAX_ACCOUNTS}
use Rattle.posting_rules.proofs.ChangesByKey.{sound_tables}
use Rattle.posting_rules.specs.believed.AnyTables.{IsReadyToOpen}
use Rattle.bank_transactions.proofs.OpeningRows.{room_sound}
use Rattle.posting_rules.specs.believed.Counter.{Seen, ShowsLog, ShowsPrefix, Takes, IsCutShort, IsDamaged, Refuses}
use Rattle.posting_rules.specs.believed.Counter.{TellsDamage}
use Rattle.posting_rules.specs.believed.Tables.{Tables, AreTablesOf as Show}
use Rattle.posting_rules.proofs.{Calls.IsChange, Sequence.commands_after, Undamaged.undamaged}
use Rattle.posting_batch.specs.believed.Batch.{AreReadyFor}
use Rattle.posting_batch.proofs.FreeOrdinals.{free_shown}
use Rattle.store_rows.specs.{believed.View.Shows, declared.fault.TableFault.TableFault, believed.Failures.Committing}
use Rattle.store_rows.specs.believed.Failures.{Additions}
use Rattle.bank_transactions.specs.believed.Stray.{IsDamage}
use Rattle.store_rows.specs.declared.fault.TableFault.TheVariants.{Sqlite, Damaged}
use Rattle.bank_transactions.specs.{believed.Causes.Damage, believed.Causes.HasFailedBetween, Doing.MayLeaveAfter}
use Rattle.bank_transactions.specs.{Doing.TransactsBy}
use Rattle.bank_transactions.specs.believed.Batches.{HasRoomFor}
use Rattle.bank_transactions.proofs.{NoStrays.no_damage, SoundRows.no_branch_beyond, SoundRows.no_floor_beyond}
use Rattle.bank_transactions.proofs.Blamed.{comes, failed_within, same_moment}
use Rattle.bank_store.specs.{Down.GoesDown, believed.NoneOrAll.LeavesNoneOrAll, believed.Seen.error_in}
use Rattle.bank_store.specs.{believed.Seen.seen_in}

-- what the commands lead to is a prefix of them, and so is what was there
all_of_them : (t : Tables) (log cs : List Command) → AreCommands (followed_by log cs) → Show t (followed_by log cs)
    → ShowsPrefix log cs 0 t
all_of_them t log cs are shows = record {
  count = length cs;
  holds = omega arith;
  within = omega arith;
  are = subst (λ ds. AreCommands (followed_by log ds)) (sym (take-length cs)) are;
  shows = subst (λ ds. Show t (followed_by log ds)) (sym (take-length cs)) shows;
}

none_of_them : (t : Tables) (log cs : List Command) → AreCommands log → Show t log → ShowsPrefix log cs 0 t
none_of_them t log cs are shows =
    record { count = 0; holds = omega arith; within = omega arith; are = are; shows = shows }

-- the tables of every log are so
abbrev pub HoldsOfLogs : (Tables → Type 0) → Type 0
HoldsOfLogs Sound = (t : Tables) (log : List Command) → AreCommands log → Show t log → Sound t

-- tables that are ready for so many records have room for them
pub has_room : (count : ℕ) (t : Tables) → AreReadyFor count t → HasRoomFor count t
has_room count t ready = record {
  free = ready.1;
  branches = λ n none. sym (no_branch_beyond t n ready.0 none);
  floors = λ n none. sym (no_floor_beyond t n ready.0 none);
}

pub of_logs : (count : ℕ) → HoldsOfLogs (HasRoomFor count)
of_logs count t log are shows = has_room count t (undamaged t log are shows, free_shown t log count shows)

pub ready_to_open : (branch : ℕ) (terms : Terms) → 1 ≤ branch → terms.accounts ≤ MAX_ACCOUNTS
    → HoldsOfLogs (IsReadyToOpen branch terms)
ready_to_open branch terms low few t log are shows = room_sound t branch terms low few (sound_tables t log are shows)

module _ {S X : Type 0} {So : Tables → Type 0} {after : Tables → Tables} {wanted : Tables → X} {g : Ghosts S}
    {old new : Held S} {r : Result X TableFault} {Met : Damage S} {Adds : Additions}
    (holds : HoldsOfLogs So) (cs : List Command) (is : IsChange after cs)
    (does : TransactsBy Met Adds g old new So after wanted r) where
  -- a call that a fault ended: what a crash leaves is what it could leave before, or all of the call
  pub cut_short : AreCommands cs → (end : State) (D E : Type 0) → E
      → Survives (state g old) end (MayLeaveAfter (state g old) So after)
      → IsCutShort (seen_in (state g old) D) (seen_in end E) cs
  cut_short are end D E down survives = record {
    down = down;
    survives = λ clean log at trees may.
        let s = at.shows in
        elim (survives.crash clean trees may) [
          | inl before ↦
              (let it = at.survives trees before in (it.0, it.1, none_of_them it.0 log cs s.commands it.2))
          | inr made ↦ (
            after s.tables,
            made s.tables s.are (holds s.tables log s.commands s.shows),
            all_of_them (after s.tables) log cs (commands_after log cs s.commands are)
                (is s.tables log s.shows),
          )
        ];
  }

  -- whatever ended the call, a crash leaves none of the commands or all of them
  pub none_or_all : (end : State) (D E : Type 0)
      → Survives (state g old) end (MayLeaveAfter (state g old) So after)
      → LeavesNoneOrAll (seen_in (state g old) D) (seen_in end E) cs
  none_or_all end D E survives = λ clean log at trees may.
      let s = at.shows in
      elim (survives.crash clean trees may) [
        | inl before ↦ (let it = at.survives trees before in (it.0, it.1, inl it.2))
        | inr made ↦ (
          after s.tables,
          made s.tables s.are (holds s.tables log s.commands s.shows),
          inr
              (is s.tables log s.shows),
        )
      ]

-- what there was is left of a call that tried nothing
pub none_or_all_untried : (seen : Seen) (cs : List Command) → LeavesNoneOrAll seen seen cs
none_or_all_untried seen cs = λ clean log at trees may. let it = at.survives trees may in (it.0, it.1, inl it.2)

-- the same after a fault that brought the bank down
pub none_or_all_down : {S X : Type 0} {So : Tables → Type 0} {after : Tables → Tables} {wanted : Tables → X}
    {Met : Damage S} {Adds : Additions} (g : Ghosts S) (old mid new : Held S)
    (r : Result X TableFault) (holds : HoldsOfLogs So) (cs : List Command) (is : IsChange after cs)
    (D E : Type 0)
    → TransactsBy {X = X} Met Adds g old mid So after wanted r → Survives (state g mid) (state g new) (λ _. ⊥)
    → LeavesNoneOrAll (seen_in (state g old) D) (seen_in (state g new) E) cs
none_or_all_down {S} {X} {So} {after} {wanted} g old mid new r holds cs is D E does quiet =
    none_or_all holds cs is does (state g new) D E
    (survives_then (state g old) (state g mid) (state g new) (MayLeaveAfter (state g old) So after) (λ _. ⊥)
    (MayLeaveAfter (state g old) So after)
    (λ clean db h. h) (λ clean db none. absurd none) does.survives quiet)

-- a call that was answered
pub takes : {S X : Type 0} {So : Tables → Type 0} {after : Tables → Tables} {wanted : Tables → X}
    {g : Ghosts S} {old new : Held S} {x : X}
    {Met : Damage S} {Adds : Additions} (holds : HoldsOfLogs So)
    (cs : List Command) → IsChange after cs → AreCommands cs → (D E : Type 0) → (E → ⊥)
    → TransactsBy Met Adds g old new So after wanted (Ok x)
    → Takes (seen_in (state g old) D) (seen_in (state g new) E) cs
takes {S} {X} {So} {after} {wanted} {g} {old} {new} {x} {Met} {Adds} holds cs is are D E up does =
    let answers =
    λ (clean : HasCleanDisk (state g new)) (log : List Command) (s : ShowsLog (seen_in (state g old) D) log).
    does.answers clean s.tables s.are (holds s.tables log s.commands s.shows) in
    let shows =
    λ (clean : HasCleanDisk (state g new)) (log : List Command) (s : ShowsLog (seen_in (state g old) D) log).
    let it : ShowsLog (seen_in (state g new) E) (followed_by log cs) = record {
      commands = commands_after log cs s.commands are;
      tables = after s.tables;
      are = (answers clean log s).1;
      shows = is s.tables log s.shows;
    } in it in
    record {
      shows = shows;
      stands = λ clean log at. record {
        shows = shows clean log at.shows;
        up = up;
        survives =
            λ trees may. (
              after at.shows.tables,
              (answers clean log at.shows).2 trees may,
              is at.shows.tables
                  log at.shows.shows,
            );
      };
    }

-- a call that tried nothing, as its commands change no tables
pub takes_untried : (seen : Seen) (cs : List Command) → IsChange (λ t. t) cs → AreCommands cs → Takes seen seen cs
takes_untried seen cs is are = record {
  shows = λ clean log s. shown log s;
  stands = λ clean log at. record {
    shows = shown log at.shows;
    up = at.up;
    survives = λ trees may. let it = at.survives trees may in (it.0, it.1, is it.0 log it.2);
  };
}
  where
    shown : (log : List Command) → ShowsLog seen log → ShowsLog seen (followed_by log cs)
    shown log s = record {
      commands = commands_after log cs s.commands are;
      tables = s.tables;
      are = s.are;
      shows = is s.tables log s.shows;
    }

-- the rows that it has break a rule
pub is_damaged : (Sound : Tables → Type 0) (holds : HoldsOfLogs Sound) (old new : State) (D E : Type 0) (rule : Rule) → E
    → (HasCleanDisk new → (t : Tables) → Shows old.now t → Sound t → IsDamage rule old.now)
    → (HasCleanDisk new → new.now ≡ old.now) → IsDamaged (seen_in old D) (seen_in new E)
is_damaged Sound holds old new D E rule down broken same = record {
  never_shown = λ clean log s. no_damage s.tables (undamaged s.tables log s.commands s.shows)
      (λ count. free_shown s.tables log count s.shows) old.now s.are rule
      (broken clean s.tables s.are (holds s.tables log s.commands s.shows));
  down = down;
  tables = λ clean t shows. subst (λ (db : Database). Shows db t) (sym (same clean)) shows;
}

goes_down : (cause : Option TableFault) (fault : TableFault) → cause ≡ Some fault → IsSome cause
goes_down cause fault e = subst (λ (o : Option TableFault). IsSome o) (sym e) refl

-- a call that a fault ended, and that brought the bank down
pub refuses : {S X : Type 0} {So : Tables → Type 0} {after : Tables → Tables} {wanted : Tables → X}
    {Met : Damage S} {Adds : Additions} (g : Ghosts S) (old mid new : Held S) (holds : HoldsOfLogs So)
    (cs : List Command) (is : IsChange after cs) → AreCommands cs
    → (D : Type 0) (e : TableFault) (cause : Option TableFault) (fault : Fault)
    → TransactsBy {X = X} Met Adds g old mid So after wanted (Err e)
    → GoesDown (state g mid) (state g new) e cause fault → Survives (state g mid) (state g new) (λ _. ⊥)
    → Refuses fault (seen_in (state g old) D) (seen_in (state g new) (IsSome cause)) cs
refuses {S} {X} {So} {after} {wanted} {Met} {Adds} g old mid new holds cs is are D e cause fault does down quiet =
    by_fault e does down
  where
    before : HasCleanDisk (state g new) → HasCleanDisk (state g mid)
    before clean = omega (arith, quiet.clean)

    Refused : Fault → Type 0
    Refused f = Refuses f (seen_in (state g old) D) (seen_in (state g new) (IsSome cause)) cs

    failed : (f : TableFault) → cause ≡ Some f → fault ≡ faults.Store → Refused fault
    failed f keeps same =
        subst Refused (sym same)
        (cut_short holds cs is does are (state g new) D (IsSome cause) (goes_down cause f keeps)
        (survives_then (state g old) (state g mid) (state g new) (MayLeaveAfter (state g old) So after)
        (λ _. ⊥)
        (MayLeaveAfter (state g old) So after)
        (λ clean db h. h) (λ clean db none. absurd none) does.survives quiet))

    by_fault : (f : TableFault) → TransactsBy {X = X} Met Adds g old mid So after wanted (Err f)
        → GoesDown (state g mid) (state g new) f cause fault → Refused fault
    by_fault (Sqlite error) it went = failed (Sqlite error) went.0 went.1
    by_fault (Damaged rule) it (inl went) =
        subst Refused (sym went.1)
        (is_damaged So holds (state g old) (state g new) D (IsSome cause) rule
        (goes_down cause (Damaged rule) went.0)
        (λ clean t shows sound. it.answers (before clean) t shows sound)
        (λ clean. let same = went.2 clean in same.0.now_is ∙ (it.undone (before clean) same.0.was_open).1))
    by_fault (Damaged rule) it (inr went) = failed (Sqlite went.1.0) went.1.1 went.0

-- where rows are told to be damaged, all that the file holds is as it was
pub keeps_file : {S X : Type 0} {So : Tables → Type 0} {after : Tables → Tables} {wanted : Tables → X}
    {Met : Damage S} {Adds : Additions} (g : Ghosts S) (old mid new : Held S) (e : TableFault)
    (cause : Option TableFault) (fault : Fault) → TransactsBy {X = X} Met Adds g old mid So after wanted (Err e)
    → GoesDown (state g mid) (state g new) e cause fault
    → Survives (state g mid) (state g new) (λ _. ⊥) → TellsDamage fault → HasCleanDisk (state g new)
    → (state g new).now ≡ (state g old).now
keeps_file g old mid new (Sqlite error) cause fault does went quiet damage clean =
    absurd (subst TellsDamage went.1 damage)
keeps_file g old mid new (Damaged rule) cause fault does (inl went) quiet damage clean =
    let same = went.2 clean in same.0.now_is ∙ (does.undone (omega (arith, quiet.clean)) same.0.was_open).1
keeps_file g old mid new (Damaged rule) cause fault does (inr went) quiet damage clean =
    absurd (subst TellsDamage went.0 damage)

damage_is_no_failure : (rule : Rule) → faults.Damaged rule ≡ faults.Store → ⊥
damage_is_no_failure rule is = cc

same_error : (cause : Option TableFault) (x e : Error) → cause ≡ Some (Sqlite e) → error_in cause ≡ Some x
    → e ≡ x
same_error cause x e is says = let it = rw is at says in cc

-- the error that is cause is one with which a call of `sqlite` failed
module _ {S X : Type 0} {So : Tables → Type 0} {after : Tables → Tables} {wanted : Tables → X}
    {Met : Damage S} {Adds : Additions} (g : Ghosts S) (old mid new : Held S) (cause : Option TableFault)
    (fault : Fault) (quiet : Survives (state g mid) (state g new) (λ _. ⊥)) where
  pub failed_between : (e : TableFault) → TransactsBy {X = X} Met Adds g old mid So after wanted (Err e)
      → GoesDown (state g mid) (state g new) e cause fault
      → HasCleanDisk (state g new) → (x : Error) → error_in cause ≡ Some x → HasFailedBetween g old new x
  failed_between (Sqlite error) does went clean x says =
      subst (HasFailedBetween g old new) (same_error cause x error went.0 says)
      (failed_within g old old mid new error (same_moment (state g old)) (comes quiet)
      (does.cause (omega (arith, quiet.clean))))
  failed_between (Damaged rule) does (inl went) clean x says = absurd (let it = rw went.0 at says in cc)
  failed_between (Damaged rule) does (inr went) clean x says =
      subst (HasFailedBetween g old new) (same_error cause x went.1.0 went.1.1 says)
      (record {
        at = mid;
        then = new;
        before = comes does.survives;
        failed = Committing (went.1.2 clean);
        after = same_moment (state g new);
      })

-- and it is there, where the store is told to have failed
pub cause_error : (old new : State) (cause : Option TableFault) (fault : Fault) (e : TableFault)
    → GoesDown old new e cause fault → fault ≡ faults.Store → IsSome (error_in cause)
cause_error old new cause fault (Sqlite error) went tells = rw went.0 refl
cause_error old new cause fault (Damaged rule) (inl went) tells =
    absurd (damage_is_no_failure rule (sym went.1 ∙ tells))
cause_error old new cause fault (Damaged rule) (inr went) tells = rw went.1.1 refl

-- damage keeps none
pub no_error : (old new : State) (cause : Option TableFault) (fault : Fault) (e : TableFault)
    → GoesDown old new e cause fault → TellsDamage fault → error_in cause ≡ None
no_error old new cause fault (Sqlite error) went tells = absurd (subst TellsDamage went.1 tells)
no_error old new cause fault (Damaged rule) (inl went) tells = rw went.0 refl
no_error old new cause fault (Damaged rule) (inr went) tells = absurd (subst TellsDamage went.0 tells)
