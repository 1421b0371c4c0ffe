-- All rows of a batch are written.
use Rattle.std.proofs.Common.{◌≡◌, ℕ, List, [], ◌∷◌, Option, Some, None, Ok, Result, refl, subst, sym, inl, inr}
use Rattle.std.specs.Prelude.{ℤ, IsSome, IfSome}
use Rattle.std.specs.List.{AllByRecursion}
use Rattle.message_records.specs.{believed.Ranges.whole_within, declared.limits.TheConstants.MAX_BRANCH}
use Rattle.sqlite.specs.{Order.Row, declared.transaction.Transaction.Transaction}
use Rattle.sqlite_rules.specs.Lists.{Has}
use Rattle.sqlite_trees.specs.declared.store.Store.{Ghosts}
use Rattle.posting_rules.specs.declared.rows.{BranchRow.BranchRow, RequestRow.RequestRow}
use Rattle.posting_rules.specs.believed.Tables.{Tables, row_at, branch_key}
use Rattle.posting_batch.specs.declared.slots.BranchSlot.{BranchSlot}
use Rattle.posting_batch.specs.Overlay.{Overlay, accounts_over, tellers_over, branches_over, history_put}
use Rattle.posting_batch.specs.Overlay.{requests_put, references_put, tables_over}
use Rattle.posting_batch.specs.Slots.{account_slot_key, teller_slot_key, branch_slot_key}
use Rattle.posting_batch.proofs.Orders.{rising_keys}
use Rattle.store_rows.specs.{believed.Failures.Additions, declared.fault.TableFault.TableFault}
use Rattle.store_rows.specs.believed.Inserts.{account_update, branch_update, teller_update}
use Rattle.bank_transactions.specs.believed.Additions.{AddsPostings, AddsReferences, AddsRequests}
use Rattle.bank_transactions.specs.{Additions.AddsNew, Additions.ChangesEach, Doing.Does}
use Rattle.bank_transactions.proofs.Chained.{does_adds, does_for, does_then}
use Rattle.bank_transactions.proofs.SoundRows.{within_or_none}
use Rattle.bank_transactions.specs.believed.Batches.{HasRoomFor}
use Rattle.bank_transactions.specs.Writing.{AreBranchNumbers, MayChangeAccounts, MayChangeTellers, MayAddPostings}
use Rattle.bank_transactions.specs.Writing.{MayAddReferences, MayAddRequests, MayChangeBranches, MayWriteAfter}
use Rattle.bank_transactions.specs.{Running.Writes, Writing.MayWrite, Writing.after_requests}
use Rattle.bank_transactions.proofs.Running.{writes_adds, writes_for, writes_then}

-- ---- the numbers of branches that have a row

not_there : (o : Option BranchRow) → IsSome o → None ≡ o → ⊥
not_there None there is = absurd cc
not_there (Some x) there is = absurd cc

number_is : (t : Tables) (n count : ℕ) → HasRoomFor count t → IsSome (row_at branch_key t.branches n)
    → whole_within 1 MAX_BRANCH n ≡ Some n
number_is t n count room there = elim (within_or_none n) [
  | inl is ↦ is
  | inr none ↦ absurd (not_there (row_at branch_key t.branches n) there (sym (room.branches n none)))
]

pub numbers : (t : Tables) (slots : List BranchSlot) (count : ℕ) → HasRoomFor count t
    → AllByRecursion (λ s. IfSome s.changed (λ z. IsSome (row_at branch_key t.branches s.branch))) slots
    → AreBranchNumbers slots
numbers t [] count room all = tt
numbers t (s ∷ slots) count room all = (one s.changed all.0, numbers t slots count room all.1)
  where
    one : (c : Option ℤ) → IfSome c (λ z. IsSome (row_at branch_key t.branches s.branch))
        → IfSome c (λ z. whole_within 1 MAX_BRANCH s.branch ≡ Some s.branch)
    one None h = tt
    one (Some z) h = number_is t s.branch count room h

-- ---- the tables one after another

abbrev So : Overlay → Tables → Type 0
So o t = MayWriteAfter o t

-- Changes of one table: how they are made of tables and when they may be, and that these may be made after
-- what stands so far.
pub record GoesAfter {A : Type 0} (o : Overlay) (before : Tables → Tables) (made : List A → Tables → Tables)
    (May : List A → Tables → Type 0) (Adds : List A → Additions) (changes : List A) : Type 0 where
  pub may : (t : Tables) → So o t → May changes (before t)
  pub adds : (text : List ℕ) (values : Row) → Adds changes text values → AddsNew o text values

-- the tables with the changes of the accounts; and of the tellers; and of the branches; and with the
-- postings
abbrev pub to_accounts : Overlay → Tables → Tables
to_accounts o t = accounts_over o.accounts t

abbrev pub to_tellers : Overlay → Tables → Tables
to_tellers o t = tellers_over o.tellers (to_accounts o t)

abbrev pub to_branches : Overlay → Tables → Tables
to_branches o t = branches_over o.branches (to_tellers o t)

abbrev pub to_postings : Overlay → Tables → Tables
to_postings o t = history_put o.history (to_branches o t)

pub accounts : (o : Overlay) → GoesAfter o (λ t. t) accounts_over MayChangeAccounts
    (ChangesEach account_update account_slot_key) o.accounts
accounts o = record {
  may = λ t so. (rising_keys account_slot_key o.accounts so.0.accounts, so.1.accounts);
  adds = λ text values it. inr (inr (inr (inl it)));
}

pub tellers : (o : Overlay) → GoesAfter o (to_accounts o) tellers_over MayChangeTellers
    (ChangesEach teller_update teller_slot_key) o.tellers
tellers o = record {
  may = λ t so. (rising_keys teller_slot_key o.tellers so.0.tellers, so.1.tellers);
  adds = λ text values it. inr (inr (inr (inr (inl it))));
}

pub branches : (o : Overlay) → GoesAfter o (to_tellers o) branches_over MayChangeBranches
    (ChangesEach branch_update branch_slot_key) o.branches
branches o = record {
  may = λ t so. ((rising_keys branch_slot_key o.branches so.0.branches, so.1.branches), so.2);
  adds = λ text values it. inr (inr (inr (inr (inr (inl it)))));
}

pub postings : (o : Overlay) → GoesAfter o (to_branches o) history_put MayAddPostings (λ rows. AddsPostings (Has rows))
    o.history
postings o = record { may = λ t so. so.3; adds = λ text values it. inl it }

pub references : (o : Overlay) → GoesAfter o (to_postings o) references_put MayAddReferences
    (λ rows. AddsReferences (Has rows)) o.references
references o = record { may = λ t so. so.4; adds = λ text values it. inr (inr (inl it)) }

-- the changes of one table more are made
pub step : {S A : Type 0} {g : Ghosts S} {a b c : Transaction S} {r : Result (Unit {0}) TableFault}
    {o : Overlay} {before : Tables → Tables} {made : List A → Tables → Tables}
    {May : List A → Tables → Type 0} {Adds : List A → Additions} {changes : List A} {xs : List A}
    → GoesAfter o before made May Adds changes → xs ≡ changes
    → Writes g (AddsNew o) a b (So o) before (Ok (tt {0})) → Writes g (Adds xs) b c (May xs) (made xs) r
    → Writes g (AddsNew o) a c (So o) (λ t. made changes (before t)) r
step {S} {A} {g} {a} {b} {c} {r} {o} {before} {made} {May} {Adds} after same first second =
    writes_then first
    (writes_adds (λ clean. after.adds)
    (subst (λ (ys : List A). Writes g (Adds ys) b c (May ys) (made ys) r) same second))
    after.may

-- ---- the requests first

-- the rest may be written after the requests
after : (o : Overlay) (t : Tables) → MayWrite o t → MayWriteAfter o (requests_put o.requests t)
after o t so = (
  so.1,
  record { branches = so.2.branches; tellers = so.2.tellers; accounts = so.2.accounts },
  so.0,
  so.3.history,
  so.3.references,
)

-- the requests of a batch are put in
pub requests_first : {S : Type 0} {g : Ghosts S} {old new : Transaction S} {r : Result (Unit {0}) TableFault}
    {rows : List RequestRow} (o : Overlay) → rows ≡ o.requests
    → Does {X = Unit {0}} g (AddsRequests (Has rows)) old new (MayAddRequests rows) (requests_put rows)
    (λ _. tt {0}) r
    → Does {X = Unit {0}} g (AddsNew o) old new (MayWrite o) (requests_put o.requests) (λ _. tt {0}) r
requests_first {S} {g} {old} {new} {r} o same puts =
    does_for (does_adds (λ clean text values it. inr (inl it))
    (subst (λ (rows : List RequestRow). Does {X = Unit {0}} g (AddsRequests (Has rows)) old new (MayAddRequests rows)
    (requests_put rows) (λ _. tt {0}) r) same puts))
    (λ t so. (so.3.requests, refl, refl))

-- what they ran
pub requests_ran : {S : Type 0} {g : Ghosts S} {old new : Transaction S} {rows : List RequestRow} (o : Overlay)
    → rows ≡ o.requests
    → Writes g (AddsRequests (Has rows)) old new (MayAddRequests rows) (requests_put rows) (Ok (tt {0}))
    → Writes g (AddsNew o) old new (MayWrite o) (requests_put o.requests) (Ok (tt {0}))
requests_ran {g = g} {old = old} {new = new} o same puts =
    writes_for (writes_adds (λ clean text values it. inr (inl it))
    (subst (λ (rows : List RequestRow). Writes g (AddsRequests (Has rows)) old new (MayAddRequests rows)
    (requests_put rows) (Ok (tt {0}))) same puts))
    (λ t so. (so.3.requests, refl))

-- and what all did
pub all_ran : {S : Type 0} {g : Ghosts S} {old mid new : Transaction S} {r : Result (Unit {0}) TableFault} (o : Overlay)
    → Writes g (AddsNew o) old mid (MayWrite o) (requests_put o.requests) (Ok (tt {0}))
    → Writes g (AddsNew o) mid new (MayWriteAfter o) (after_requests o) r
    → Writes g (AddsNew o) old new (MayWrite o) (tables_over o) r
all_ran o first second = writes_for (writes_then first second (after o)) (λ t so. (so, refl))

-- and then the rest
pub all_written : {S : Type 0} {g : Ghosts S} {old mid new : Transaction S} {r : Result (Unit {0}) TableFault}
    (o : Overlay)
    → Does {X = Unit {0}} g (AddsNew o) old mid (MayWrite o) (requests_put o.requests) (λ _. tt {0}) (Ok (tt {0}))
    → Does {X = Unit {0}} g (AddsNew o) mid new (MayWriteAfter o) (after_requests o) (λ _. tt {0}) r
    → Does {X = Unit {0}} g (AddsNew o) old new (MayWrite o) (λ t. tables_over o t) (λ _. tt {0}) r
all_written o first second = does_for (does_then first second (after o)) (λ t so. (so, refl, refl))
