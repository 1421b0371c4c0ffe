-- The rows of a bank in memory show a log, and what a call does to them shows the log with its command.
use Rattle.std.proofs.Common.{◌≡◌, List, [], length, Option, Some, None, Result, Ok, Err, refl, sym, subst, ◌∙◌}
use Rattle.std.proofs.Common.{ℕ, ◌+◌, ◌≤◌, ◌<◌, IfOk, ap, arith}
use Rattle.std.specs.{Prelude.ℤ, Option.option_map, Result.IsErrAnd}
use Rattle.std.proofs.lemmas.Result.{err_from_is_err_and}
use Rattle.posting_rules.specs.declared.{rows.BranchRow.BranchRow, rows.TellerRow.TellerRow, fault.Fault.Fault}
use Rattle.posting_rules.specs.declared.{rows.AccountRow.AccountRow, rows.HistoryRow.HistoryRow}
use Rattle.posting_rules.specs.declared.{rows.RequestRow.RequestRow, rows.FloorRow.FloorRow}
use Rattle.posting_rules.specs.declared.{rows.ReferenceRow.ReferenceRow, fault.Fault.TheVariants.Memory}
use Rattle.posting_rules.specs.believed.AnyTables.{AnswersByTables}
use Rattle.posting_rules.specs.believed.Changes.{replies_past_all, tables_past_all}
use Rattle.posting_rules.specs.believed.Commands.{Command, AreCommands}
use Rattle.posting_rules.specs.believed.{Runs.followed_by, Tables.Tables, Tables.AreTablesOf}
use Rattle.posting_rules.specs.believed.Counter.{IsCounterCall, IsSeenUnchanged, ShowsLog, StandsAt, Takes}
use Rattle.posting_rules.specs.Counter.{StaysByTables}
use Rattle.posting_batch.specs.Slots.{in_slot}
use Rattle.posting_core.specs.declared.plain_bank.PlainBank.{PlainBank}
use Rattle.posting_core.specs.Plain.{plain_reason, plain_tables, plain_seen}
use Rattle.posting_rules.proofs.{CounterCalls.call_answered, CounterCalls.call_spared, Sequence.commands_after}

-- a row that is found tells its balance
pub row_told : {R : Type 0} (balance : R → ℤ) (o : Option R)
    → in_slot (λ r. Some (balance r)) o ≡ option_map balance o
row_told balance None = refl
row_told balance (Some r) = refl

-- ---- the rows after room was made for more

-- the tables with these rows of history, requests and references
abbrev pub with_requests : Tables → List HistoryRow → List RequestRow → List ReferenceRow → Tables
with_requests t hs rs gs = record t { decided = length rs; history = hs; requests = rs; references = gs }

pub requests_as_before : (t : Tables) (hs : List HistoryRow) (rs : List RequestRow) (gs : List ReferenceRow)
    → t.decided ≡ length t.requests → hs ≡ t.history → rs ≡ t.requests → gs ≡ t.references
    → with_requests t hs rs gs ≡ t
requests_as_before t hs rs gs em eh er eg = rw (eh, er, eg, ← em) refl

-- the tables with these rows of branches, tellers, accounts and floors
abbrev pub with_branches : Tables → List BranchRow → List TellerRow → List AccountRow → List FloorRow → Tables
with_branches t bs ts xs fs = record t { branches = bs; tellers = ts; accounts = xs; floors = fs }

pub branches_as_before : (t : Tables) (bs : List BranchRow) (ts : List TellerRow) (xs : List AccountRow)
    (fs : List FloorRow)
    → bs ≡ t.branches → ts ≡ t.tellers → xs ≡ t.accounts → fs ≡ t.floors → with_branches t bs ts xs fs ≡ t
branches_as_before t bs ts xs fs eb et ea ef = rw (eb, et, ea, ef) refl

-- ---- what the bank shows, whose rows are all that a crash leaves

pub plain_shows : (bank : PlainBank) (log : List Command) → ShowsLog (plain_seen bank) log
    → AreTablesOf (plain_tables bank) log
plain_shows bank log s = subst (λ (t : Tables). AreTablesOf t log) s.are s.shows

pub shows_plain : (bank : PlainBank) (log : List Command) → AreCommands log
    → AreTablesOf (plain_tables bank) log
    → ShowsLog (plain_seen bank) log
shows_plain bank log commands s = record {
  commands = commands;
  tables = plain_tables bank;
  are = refl;
  shows = s;
}

stands_plain : (bank : PlainBank) (log : List Command) → AreCommands log → AreTablesOf (plain_tables bank) log
    → StandsAt (plain_seen bank) log
stands_plain bank log commands s = record {
  shows = shows_plain bank log commands s;
  up = λ h. h;
  survives = λ remains is. (remains, refl, subst (λ t. AreTablesOf t log) (sym is) s);
}

-- commands that its rows took
pub takes_plain : (old new : PlainBank) (cs : List Command) → AreCommands cs
    → ((log : List Command) → AreTablesOf (plain_tables old) log
    → AreTablesOf (plain_tables new) (followed_by log cs))
    → Takes (plain_seen old) (plain_seen new) cs
takes_plain old new cs valid s = record {
  shows = λ h log l. shows_plain new (followed_by log cs) (commands_after log cs l.commands valid)
      (s log (plain_shows old log l));
  stands = λ h log st. stands_plain new (followed_by log cs) (commands_after log cs st.shows.commands valid)
      (s log (plain_shows old log st.shows));
}

-- they lead from its rows to those that a change leaves
pub after_plain : (old new : PlainBank) (cs : List Command) (change : Tables → Tables) → AreCommands cs
    → plain_tables new ≡ change (plain_tables old)
    → ((log : List Command) → AreTablesOf (plain_tables old) log
    → AreTablesOf (change (plain_tables old)) (followed_by log cs))
    → Takes (plain_seen old) (plain_seen new) cs
after_plain old new cs change valid is shows =
    takes_plain old new cs valid
    (λ log s. subst (λ (t : Tables). AreTablesOf t (followed_by log cs)) (sym is) (shows log s))

-- records led to its rows, whatever they were
pub by_tables_plain : (old new : PlainBank) (m : ℕ) (records answers : List (List ℕ))
    → answers ≡ replies_past_all (plain_tables old) m records
    → plain_tables new ≡ tables_past_all (plain_tables old) m records
    → AnswersByTables (plain_seen old) (plain_seen new) m records answers
by_tables_plain old new m records answers replies rows = record {
  are = λ h t room is. replies ∙ ap (λ (u : Tables). replies_past_all u m records) (sym is);
  shows = λ h t room is. ap (λ (u : Tables). tables_past_all u m records) is ∙ sym rows;
  survives = λ h t room is only remains left.
      (remains, refl, left ∙ rows ∙ ap (λ (u : Tables). tables_past_all u m records) (sym is));
}

-- ---- a call

-- it was answered
pub answered_plain : {X : Type 0} (old new : PlainBank) (cs : List Command) (x : X)
    → Takes (plain_seen old) (plain_seen new) cs
    → IsCounterCall plain_seen plain_tables plain_reason old new cs (Ok x)
answered_plain old new cs x takes =
    call_answered plain_seen plain_tables plain_reason old new cs (λ down. down) (λ honest. honest) x
    (λ down. down) takes

-- the rows are those that they were
stays_plain : (old new : PlainBank) → plain_tables new ≡ plain_tables old
    → IsSeenUnchanged (plain_seen old) (plain_seen new)
stays_plain old new same = record {
  tables = λ t is. is ∙ sym same;
  down = λ down. down;
  left = λ remains is. (remains, is ∙ same, λ t found. found);
}

-- so they are on whatever tables they were
pub stays_by_plain : (old new : PlainBank) → plain_tables new ≡ plain_tables old
    → StaysByTables (plain_seen old) (plain_seen new)
stays_by_plain old new same = record {
  shows = λ h t is. is ∙ sym same;
  survives = λ h t is only remains left. (remains, refl, left ∙ same ∙ sym is);
}

-- it only read
pub read_plain : {X : Type 0} (old new : PlainBank) (x : X) → plain_tables new ≡ plain_tables old
    → IsCounterCall plain_seen plain_tables plain_reason old new [] (Ok x)
read_plain old new x same =
    answered_plain old new [] x
    (takes_plain old new [] tt (λ log s. subst (λ (t : Tables). AreTablesOf t log) (sym same) s))

-- memory was refused
pub spared_plain : {X : Type 0} (old new : PlainBank) (cs : List Command) (result : Result X Fault)
    → result ≡ Err Memory → plain_tables new ≡ plain_tables old
    → IsCounterCall plain_seen plain_tables plain_reason old new cs result
spared_plain {X} old new cs result is same =
    subst (λ (r : Result X Fault). IsCounterCall plain_seen plain_tables plain_reason old new cs r) (sym is)
    (call_spared plain_seen plain_tables plain_reason old new cs (λ down. down) (λ honest. honest)
    (stays_plain old new same) tt same)

-- a refused allocation becomes this fault
pub memory_refused : {X : Type 0} (result : Result X Fault) → IsErrAnd result (λ fault. fault ≡ Memory)
    → result ≡ Err Memory
memory_refused result is = let p = err_from_is_err_and result is in rw (p.1, p.2) refl

-- and stays it where it is handed on
pub still_memory : {X : Type 0} (result : Result X Fault) (cause : Fault)
    → IsErrAnd result (λ fault. fault ≡ cause) → cause ≡ Memory → IsErrAnd result (λ fault. fault ≡ Memory)
still_memory {X} result cause is memory =
    subst (λ (f : Fault). IsErrAnd result (λ fault. fault ≡ f)) memory is

-- then there is no answer that could be wrong
pub no_answer : {X : Type 0} (result : Result X Fault) (P : X → Type 0)
    → IsErrAnd result (λ fault. fault ≡ Memory) → IfOk result P
no_answer result P is = rw (memory_refused result is) tt

-- ---- room

pub room_for_one : (n m : ℕ) → n + 1 ≤ m → n < m
room_for_one n m room = omega arith
