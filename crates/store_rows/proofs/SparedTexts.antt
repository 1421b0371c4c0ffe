-- What each text that writes leaves of the tables of other products, whatever file it runs on.
use Rattle.std.proofs.Common.{◌≡◌, ℕ, List, [], ◌∷◌, Bool, true, false, Ok, Err, Result, refl, cond, inl, inr}
use Rattle.std.proofs.lemmas.Bool.{cases_Bool}
use Rattle.std.specs.{Prelude.OnOk, List.AllByRecursion}
use Rattle.sqlite.specs.{Effect.IsDatabase, Order.Row, Schema.Schema, Table.Table, declared.error.Error.Error}
use Rattle.sqlite.specs.Clock.{timed}
use Rattle.sqlite.specs.Command.TheVariants.{Insert, Update}
use Rattle.sqlite.specs.State.{State, Executes, ExecutesIn, IsStatement, Runs, Writes, shows_rows, text_of}
use Rattle.sqlite_resolve.specs.declared.compiled.Compiled.{Compiled}
use Rattle.sqlite_tied.specs.Compute.{everything}
use Rattle.sql_meanings.specs.believed.Sparing.{IsNot, SparesAllBut, sequence_name}
use Rattle.sql_meanings.specs.believed.StatementAnswers.{is_taken_key}
use Rattle.sql_meanings.proofs.Sparing.{IsInsertInto, IsUpdateOf, insert_leaves, insert_of, insert_understood}
use Rattle.sql_meanings.proofs.Sparing.{spares_more, update_leaves, update_of, update_understood}
use Rattle.store_rows.specs.believed.BankTables as bank
use Rattle.store_rows.specs.{believed.Made.Makes, believed.Sparing.SparesOthers, believed.Sparing.bank_names}
use Rattle.store_rows.specs.Sparing.{MakesIfOk, SparesIfOk}
use Rattle.store_rows.specs.{Statements.MeetsOne, Statements.PutsIn, declared.fault.TableFault.TableFault}
use Rattle.store_rows.specs.declared.fault.TableFault.TheVariants.{Sqlite, Damaged}
use Rattle.store_rows.specs.declared.texts.TheConstants as text
use Rattle.posting_rules.specs.declared.fault.Rule.TheVariants.{Key}

-- the text, run in whatever file, spares the tables of other products, and makes what there is
abbrev pub Spares : List ℕ → Type 1
Spares text = (old new : State) (params : Row) (count : ℕ) → Executes text params old new (Ok count)
    → SparesOthers old.now new.now × Makes text params old.now new.now

-- ---- what a statement that is done makes

-- it ran its command
ran : (text : List ℕ) (old new : State) (params : Row) (count : ℕ) → Executes text params old new (Ok count)
    → (c : Compiled) × (it : IsStatement old text params c)
    × Runs old new c.returning c.command (text_of text c) (timed params c.formats it.now) count
unfolding ExecutesIn
ran text old new params count h = (
  h.0,
  h.1,
  elim (cases_Bool (shows_rows false h.0)) [
    | inl shows ↦ absurd (let e = (rw shows at h.2).0 in cc)
    | inr runs ↦ rw runs at h.2
  ],
)

module _ (text name : List ℕ) where
  made_by_insert : IsInsertInto text name → (old new : State) (params : Row) (count : ℕ)
      → Executes text params old new (Ok count) → Makes text params old.now new.now
  made_by_insert is old new params count h =
      let it = ran text old new params count h in
      let on = insert_understood old.now.schema name text is it.0 it.1.is in
      let w : Writes old new it.0.returning (Insert on.place on.from) (text_of text it.0)
      (timed params it.0.formats it.1.now) count = rw on.is at it.2 in
      record {
        statement = it.0;
        is = it.1.is;
        time = it.1.now;
        limit = old.step_limit;
        tally = w.tally;
        does = rw on.is w.changed;
      }

  made_by_update : IsUpdateOf text name → (old new : State) (params : Row) (count : ℕ)
      → Executes text params old new (Ok count) → Makes text params old.now new.now
  made_by_update is old new params count h =
      let it = ran text old new params count h in
      let on = update_understood old.now.schema name text is it.0 it.1.is in
      let w : Writes old new it.0.returning (Update on.place on.query) (text_of text it.0)
      (timed params it.0.formats it.1.now) count = rw on.is at it.2 in
      record {
        statement = it.0;
        is = it.1.is;
        time = it.1.now;
        limit = old.step_limit;
        tally = w.tally;
        does = rw on.is w.changed;
      }

module _ (text : List ℕ) (spares : Spares text) (old new : State) (params : Row) where
  -- a number was written
  pub spared_met : (answer : Result Bool Error) → MeetsOne text params old new answer
      → SparesIfOk old new answer × MakesIfOk text params old new answer
  spared_met (Ok met) h = spares old new params h.0 h.1.0
  spared_met (Err e) h = (tt, tt)

  no_error : (b : Bool) (e : Error)
      → ◌≡◌ {A = Result (Unit {0}) TableFault} (Ok tt) (cond b (Err (Damaged Key)) (Err (Sqlite e))) → ⊥
  no_error true e same = absurd (cc)
  no_error false e same = absurd (cc)

  -- a row was put in
  pub spared_put : (r : Result (Unit {0}) TableFault) → PutsIn text params old new r
      → SparesIfOk old new r × MakesIfOk text params old new r
  spared_put (Ok done) (Ok count, ran, same) = spares old new params count ran.0
  spared_put (Ok done) (Err e, ran, same) = absurd (no_error (is_taken_key e) e same)
  spared_put (Err e) h = (tt, tt)

-- the names of a table of a bank and of the one in which SQLite counts are among those of a bank
abbrev Among : List ℕ → Type 0
Among name = (schema : Schema) (t : Table) → AllByRecursion (IsNot schema t) bank_names
    → IsNot schema t sequence_name × IsNot schema t name

module _ (text name : List ℕ) (among : Among name) where
  set_by : IsUpdateOf text name → Spares text
  set_by is old new params count h = (
    spares_more (name ∷ []) bank_names old.now new.now (λ t apart. ((among old.now.schema t apart).1, tt))
        (update_leaves old new text name params count h is),
    made_by_update text name is old new params count h,
  )

  put_by : IsInsertInto text name → Spares text
  put_by is old new params count h = (
    spares_more (sequence_name ∷ name ∷ []) bank_names old.now new.now
        (λ t apart. let both = among old.now.schema t apart in (both.0, (both.1, tt)))
        (insert_leaves old new text name params count h is),
    made_by_insert text name is old new params count h,
  )

abbrev meta : Among bank.meta.name
meta schema t apart = (apart.0, apart.1.0)

abbrev branch : Among bank.branch.name
branch schema t apart = (apart.0, apart.1.1.0)

abbrev teller : Among bank.teller.name
teller schema t apart = (apart.0, apart.1.1.1.0)

abbrev account : Among bank.account.name
account schema t apart = (apart.0, apart.1.1.1.1.0)

abbrev history : Among bank.history.name
history schema t apart = (apart.0, apart.1.1.1.1.1.0)

abbrev request : Among bank.request.name
request schema t apart = (apart.0, apart.1.1.1.1.1.1.0)

abbrev floor : Among bank.floor.name
floor schema t apart = (apart.0, apart.1.1.1.1.1.1.1.0)

abbrev reference : Among bank.reference.name
reference schema t apart = (apart.0, apart.1.1.1.1.1.1.1.1.0)

abbrev closing : Among bank.closing.name
closing schema t apart = (apart.0, apart.1.1.1.1.1.1.1.1.1.0)

-- each text does
pub record SparesByTexts : Type 1 where
  pub set_meta : Spares text.SET_META.now
  pub set_branch : Spares text.SET_BRANCH.now
  pub set_teller : Spares text.SET_TELLER.now
  pub set_account : Spares text.SET_ACCOUNT.now
  pub add_branch : Spares text.ADD_BRANCH.now
  pub add_teller : Spares text.ADD_TELLER.now
  pub add_account : Spares text.ADD_ACCOUNT.now
  pub add_posting : Spares text.ADD_HISTORY.now
  pub add_request : Spares text.ADD_REQUEST.now
  pub add_eight_postings : Spares text.ADD_EIGHT_POSTINGS.now
  pub add_eight_requests : Spares text.ADD_EIGHT_REQUESTS.now
  pub add_floor : Spares text.ADD_FLOOR.now
  pub add_reference : Spares text.ADD_REFERENCE.now
  pub add_closing : Spares text.ADD_CLOSING.now

is_set_meta : IsUpdateOf text.SET_META.now bank.meta.name
unfolding everything
is_set_meta = update_of text.SET_META.now bank.meta.name _ _ _ refl refl

is_set_branch : IsUpdateOf text.SET_BRANCH.now bank.branch.name
unfolding everything
is_set_branch = update_of text.SET_BRANCH.now bank.branch.name _ _ _ refl refl

is_set_teller : IsUpdateOf text.SET_TELLER.now bank.teller.name
unfolding everything
is_set_teller = update_of text.SET_TELLER.now bank.teller.name _ _ _ refl refl

is_set_account : IsUpdateOf text.SET_ACCOUNT.now bank.account.name
unfolding everything
is_set_account = update_of text.SET_ACCOUNT.now bank.account.name _ _ _ refl refl

is_set_version : IsUpdateOf text.SET_VERSION.now bank.meta.name
unfolding everything
is_set_version = update_of text.SET_VERSION.now bank.meta.name _ _ _ refl refl

is_add_branch : IsInsertInto text.ADD_BRANCH.now bank.branch.name
unfolding everything
is_add_branch = insert_of text.ADD_BRANCH.now bank.branch.name _ _ _ refl refl

is_add_teller : IsInsertInto text.ADD_TELLER.now bank.teller.name
unfolding everything
is_add_teller = insert_of text.ADD_TELLER.now bank.teller.name _ _ _ refl refl

is_add_account : IsInsertInto text.ADD_ACCOUNT.now bank.account.name
unfolding everything
is_add_account = insert_of text.ADD_ACCOUNT.now bank.account.name _ _ _ refl refl

is_add_posting : IsInsertInto text.ADD_HISTORY.now bank.history.name
unfolding everything
is_add_posting = insert_of text.ADD_HISTORY.now bank.history.name _ _ _ refl refl

is_add_request : IsInsertInto text.ADD_REQUEST.now bank.request.name
unfolding everything
is_add_request = insert_of text.ADD_REQUEST.now bank.request.name _ _ _ refl refl

is_add_eight_postings : IsInsertInto text.ADD_EIGHT_POSTINGS.now bank.history.name
unfolding everything
is_add_eight_postings = insert_of text.ADD_EIGHT_POSTINGS.now bank.history.name _ _ _ refl refl

is_add_eight_requests : IsInsertInto text.ADD_EIGHT_REQUESTS.now bank.request.name
unfolding everything
is_add_eight_requests = insert_of text.ADD_EIGHT_REQUESTS.now bank.request.name _ _ _ refl refl

is_add_floor : IsInsertInto text.ADD_FLOOR.now bank.floor.name
unfolding everything
is_add_floor = insert_of text.ADD_FLOOR.now bank.floor.name _ _ _ refl refl

is_add_reference : IsInsertInto text.ADD_REFERENCE.now bank.reference.name
unfolding everything
is_add_reference = insert_of text.ADD_REFERENCE.now bank.reference.name _ _ _ refl refl

is_add_closing : IsInsertInto text.ADD_CLOSING.now bank.closing.name
unfolding everything
is_add_closing = insert_of text.ADD_CLOSING.now bank.closing.name _ _ _ refl refl

pub spares : SparesByTexts
spares = record {
  set_meta = set_by text.SET_META.now bank.meta.name meta is_set_meta;
  set_branch = set_by text.SET_BRANCH.now bank.branch.name branch is_set_branch;
  set_teller = set_by text.SET_TELLER.now bank.teller.name teller is_set_teller;
  set_account = set_by text.SET_ACCOUNT.now bank.account.name account is_set_account;
  add_branch = put_by text.ADD_BRANCH.now bank.branch.name branch is_add_branch;
  add_teller = put_by text.ADD_TELLER.now bank.teller.name teller is_add_teller;
  add_account = put_by text.ADD_ACCOUNT.now bank.account.name account is_add_account;
  add_posting = put_by text.ADD_HISTORY.now bank.history.name history is_add_posting;
  add_request = put_by text.ADD_REQUEST.now bank.request.name request is_add_request;
  add_eight_postings = put_by text.ADD_EIGHT_POSTINGS.now bank.history.name history is_add_eight_postings;
  add_eight_requests = put_by text.ADD_EIGHT_REQUESTS.now bank.request.name request is_add_eight_requests;
  add_floor = put_by text.ADD_FLOOR.now bank.floor.name floor is_add_floor;
  add_reference = put_by text.ADD_REFERENCE.now bank.reference.name reference is_add_reference;
  add_closing = put_by text.ADD_CLOSING.now bank.closing.name closing is_add_closing;
}

-- a write of the version leaves every table but `meta`, and a sound database
version_spares : (old new : State) (params : Row) (count : ℕ)
    → Executes text.SET_VERSION.now params old new (Ok count)
    → SparesAllBut (bank.meta.name ∷ []) old.now new.now × ∥ IsDatabase new.now ∥₁
version_spares old new params count h =
    let it = ran text.SET_VERSION.now old new params count h in
    let on = update_understood old.now.schema bank.meta.name text.SET_VERSION.now is_set_version it.0 it.1.is in
    let w : Writes old new it.0.returning (Update on.place on.query) (text_of text.SET_VERSION.now it.0)
    (timed params it.0.formats it.1.now) count = rw on.is at it.2 in
    (update_leaves old new text.SET_VERSION.now bank.meta.name params count h is_set_version, ∣ w.sound ∣₁)

-- so it is reported
pub version_spared : (old new : State) (params : Row) (answer : Result Bool Error)
    → MeetsOne text.SET_VERSION.now params old new answer
    → OnOk answer (SparesAllBut (bank.meta.name ∷ []) old.now new.now × ∥ IsDatabase new.now ∥₁)
version_spared old new params (Ok met) h = version_spares old new params h.0 h.1.0
version_spared old new params (Err e) h = tt
