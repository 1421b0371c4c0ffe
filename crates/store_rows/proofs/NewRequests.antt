-- Requests that were put in had no like, whatever rows the file held.
use Rattle.std.proofs.Common.{◌≡◌, ◌&&◌, ℕ, pos, List, [], ◌∷◌, map, Bool, true, false, cond, Ok, Err, Result, None}
use Rattle.std.proofs.Common.{find, refl, arith}
use Rattle.std.specs.{Prelude.IsTrue, Prelude.OnOk, Prelude.ℤ, List.AllByRecursion, Ordering.int_eq}
use Rattle.std.proofs.lemmas.Int.{ints}
use Rattle.sqlite.specs.{Held.state, declared.error.Error.Error, declared.transaction.Transaction.Transaction}
use Rattle.sqlite.specs.State.{State, ExecutesInside, HasCleanDisk}
use Rattle.sqlite_trees.specs.declared.store.Store.{Ghosts}
use Rattle.posting_rules.specs.declared.{fault.Rule.TheVariants.Key, rows.RequestRow.RequestRow}
use Rattle.posting_rules.specs.believed.Tables.{request_key}
use Rattle.sql_meanings.specs.believed.{Entries.Entry, Entries.has_two, StatementAnswers.is_taken_key}
use Rattle.sql_meanings.specs.SeveralRows.{put_each}
use Rattle.sql_meanings.specs.believed.Tables.{Holds, placed_at, tree_of}
use Rattle.sql_meanings.proofs.{NewPairs.has_each, NewPairs.none_had, PutRows.PutsEachAs, PutRows.puts_rows}
use Rattle.sql_meanings.proofs.{TablesBeside.standing, TablesBeside.stepped, TwoColumns.Clear, TwoColumns.clear}
use Rattle.store_rows.specs.{believed.BankTables.request, Faults.added, believed.SeveralRows.given_each}
use Rattle.store_rows.specs.{Statements.PutsRow, believed.View.request_entry, declared.fault.TableFault.TableFault}
use Rattle.store_rows.specs.SeveralRows.{IsNew, PutsNew}
use Rattle.store_rows.specs.declared.fault.TableFault.TheVariants.{Sqlite, Damaged}
use Rattle.store_rows.specs.declared.texts.TheConstants.{ADD_EIGHT_REQUESTS}
use Rattle.store_rows.proofs.{SeveralTexts.eight_requests, SeveralWrites.HoldsOfEight, TheTables.requests}

own : (a b : ℕ) → (int_eq (pos a) (pos a) && int_eq (pos b) (pos b)) ≡ true
own a b = grind (arith, ints)

each_new : (rows : List Entry) (news : List RequestRow)
    → AllByRecursion (λ e. (one two : ℤ) → has_two one two e ≡ true → find (has_two one two) rows ≡ None)
    (map request_entry news)
    → AllByRecursion (IsNew rows) news
each_new rows [] all = tt
each_new rows (r ∷ news) all =
    (all.0 (pos r.teller) (pos r.number) (own r.teller r.number), each_new rows news all.1)

-- where the call succeeded, whatever requests were held, these were new
abbrev WereNew : {S : Type 0} → Ghosts S → Transaction S → Transaction S → Result (Unit {0}) TableFault
    → List RequestRow → Type 0
WereNew g old new result news = OnOk result (HasCleanDisk (state g new.conn.now)
    → IsTrue (state g old.conn.now).in_transaction
    → PutsNew (state g old.conn.now).now (state g new.conn.now).now news)

-- the text puts these requests in
module _ (text : List ℕ) (news : List RequestRow)
    (puts : PutsEachAs request text (given_each request_entry news) (map request_entry news)) where
  abbrev entries : List Entry
  entries = map request_entry news

  were_new : (old new : State) (count : ℕ)
      → ExecutesInside 0 text (given_each request_entry news) old new (Ok count) → PutsNew old.now new.now news
  were_new old new count h rows holds =
      let done = puts_rows old new request requests.is_plain holds.sound rows holds.holds text
      (given_each request_entry news) entries puts count h.0 in
      let left = done.0 in
      let after : Holds new.now request (put_each entries rows) =
      stepped old.now new.now request left.rows left.steps refl (put_each entries rows) holds.holds.defined
      left.tree in
      let apart : Clear (put_each entries rows) =
      clear new.now.schema new.now.trees (placed_at request (tree_of new.now.schema request.name))
      (put_each entries rows) left.sound
      (standing new.now request refl ∣ left.sound ∣₁ after.defined).stands.listed refl refl after.rows.are in (
        each_new rows news (none_had rows entries rows (λ x has. has) done.1 apart),
        record {
          all = put_each entries rows;
          holds = record { sound = ∣ left.sound ∣₁; holds = after };
          still = λ e has. has_each entries rows e done.1 has;
        },
      )

  not_ok : (done : Unit {0}) (b : Bool) (e : Error) → Ok done ≡ cond b (Err (Damaged Key)) (Err (Sqlite e)) → ⊥
  not_ok done true e is = absurd (let h = is in cc)
  not_ok done false e is = absurd (let h = is in cc)

  by_answer : (old new : State) (done : Unit {0}) (answer : Result ℕ Error)
      → ExecutesInside 0 text (given_each request_entry news) old new answer → Ok done ≡ added answer
      → PutsNew old.now new.now news
  by_answer old new done (Ok count) h is = were_new old new count h
  by_answer old new done (Err e) h is = absurd (not_ok done (is_taken_key e) e is)

  -- a call that runs the text says so
  pub puts_new : {S : Type 0} (g : Ghosts S) (old new : Transaction S) (result : Result (Unit {0}) TableFault)
      → PutsRow g old new text (given_each request_entry news) result → WereNew g old new result news
  puts_new g old new (Ok done) says = λ clean live.
      let it = says.answers clean live in
      by_answer (state g old.conn.now) (state g new.conn.now) done it.0 it.1 it.2
  puts_new g old new (Err fault) says = tt

-- a call that runs the text of eight says so
pub eight_new : {S : Type 0} (gh : Ghosts S) (old new : Transaction S) (result : Result (Unit {0}) TableFault)
    → HoldsOfEight request_key request_entry
    (λ values. PutsRow gh old new ADD_EIGHT_REQUESTS.now values result) (WereNew gh old new result)
eight_new gh old new result = record {
  each = λ a b c d e f g h low. puts_new ADD_EIGHT_REQUESTS.now (a ∷ b ∷ c ∷ d ∷ e ∷ f ∷ g ∷ h ∷ [])
      (eight_requests a b c d e f g h) gh old new result;
}
