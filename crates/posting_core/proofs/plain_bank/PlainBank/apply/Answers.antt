-- The rows of branches stay in their ranges.
use Rattle.std.proofs.Common.{◌≡◌, ℕ, Bool, true, false, cond, eqb, List, length, get_or, sym, subst, ap, ◌∙◌, arith}
use Rattle.std.proofs.Common.{◌+◌, ◌≤◌, rules}
use Rattle.std.specs.Prelude.{ℤ, All, map}
use Rattle.std.proofs.lemmas.{Grind.common_steps, List.with_items_is, List.Elements.All-map}
use Rattle.posting_rules.specs.{declared.rows.BranchRow.BranchRow, Branches.IsInRange, believed.Changes.row_changed}
use Rattle.posting_rules.specs.{ChangesByKey.with_branch_balance, believed.Tables.branch_key}
use Rattle.posting_rules.specs.believed.Entries.{posted_entry, refused_entry}
use Rattle.posting_rules.proofs.RowChanges.{changed_at}
use Rattle.posting_core.specs.Plain.{plain_tables}
use Rattle.posting_core.proofs.Appending.{kept_is, posted_is}
use Rattle.posting_core.proofs.plain_bank.PlainBank.apply.Goals as goal

-- another balance leaves number and count
still_in_range : (test : Bool) (balance : ℤ) (row : BranchRow) → IsInRange row
    → IsInRange (cond test (with_branch_balance balance row) row)
still_in_range true balance row h = record { branch = h.branch; some = h.some; few = h.few }
still_in_range false balance row h = h

changed_in_range : (number : ℕ) (balance : ℤ) (rows : List BranchRow) → All IsInRange rows
    → All IsInRange (row_changed branch_key (with_branch_balance balance) number rows)
changed_in_range number balance rows h =
    All-map IsInRange (changed_at branch_key number (with_branch_balance balance)) rows
    (λ k d lt. still_in_range (eqb (branch_key (get_or rows k d)) number) balance (get_or rows k d)
    (h k d lt))

pub invariant_of-self-in-Posted-1-clause-in_range : goal.invariant_of-self-in-Posted-1-clause-in_range
invariant_of-self-in-Posted-1-clause-in_range c =
    let vec = c.args.self.now.branches in
    let after = c.change_at-in-Posted-2.new.rows in
    let change = changed_at branch_key c.branch_of_teller-home.result
    (with_branch_balance c.in-Posted.branch) in
    let is : after ≡ map change vec.items =
    c.change_at-in-Posted-2.ensures ∙ ap (map change) c.deref_mut-in-Posted-2.ensures.value in
    let long : length after ≡ vec.len = search rules in
    subst (λ (rows : List BranchRow). All IsInRange rows) (sym (with_items_is vec after long ∙ is))
    (changed_in_range c.branch_of_teller-home.result c.in-Posted.branch vec.items c.args.self.now.in_range)

-- the last step first, which says what the first one comes to
last : {A : Type 0} {x y z : A} → y ≡ z → x ≡ y → x ≡ z
last is first = first ∙ is

pub returns-in-Refused-clause-tables : goal.returns-in-Refused-clause-tables
returns-in-Refused-clause-tables c =
    let bank = c.args.self.now in
    let e = refused_entry c.args.moment c.args.request.now c.in-Refused.outcome in
    rw c.in-Refused.is (last (kept_is (plain_tables bank) e bank.counted) (grind (arith, common_steps)))

pub returns-in-Posted-clause-tables : goal.returns-in-Posted-clause-tables
returns-in-Posted-clause-tables c =
    let bank = c.args.self.now in
    let e = posted_entry c.args.moment c.args.request.now c.in-Posted.account in
    rw c.in-Posted.is
    (last (posted_is (plain_tables bank) e c.in-Posted.teller c.in-Posted.branch bank.counted)
    (grind (arith, common_steps)))

pub keep-requires-clause-room : goal.keep-requires-clause-room
keep-requires-clause-room c = c.requires.requests

pub keep-requires-clause-references : goal.keep-requires-clause-references
keep-requires-clause-references c = c.requires.references

pub put-requires : goal.put-requires
put-requires c = c.requires.history

pub keep-requires-in-Posted-clause-room : goal.keep-requires-in-Posted-clause-room
keep-requires-in-Posted-clause-room c = c.requires.requests

pub keep-requires-in-Posted-clause-references : goal.keep-requires-in-Posted-clause-references
keep-requires-in-Posted-clause-references c = c.requires.references

-- one row more
one_longer : (n m : ℕ) → m ≡ n + 1 → m ≤ n + 1
one_longer n m is = omega arith

pub returns-in-Refused-clause-requests : goal.returns-in-Refused-clause-requests
returns-in-Refused-clause-requests c = (one_longer _ _ c.keep.ensures.len, c.keep.ensures.capacity)

pub returns-in-Refused-clause-references : goal.returns-in-Refused-clause-references
returns-in-Refused-clause-references c = (c.keep.ensures.references_len, c.keep.ensures.references_capacity)

pub returns-in-Posted-clause-requests : goal.returns-in-Posted-clause-requests
returns-in-Posted-clause-requests c =
    (one_longer _ _ c.keep-in-Posted.ensures.len, c.keep-in-Posted.ensures.capacity)

pub returns-in-Posted-clause-history : goal.returns-in-Posted-clause-history
returns-in-Posted-clause-history c = (one_longer _ _ c.put.ensures.len, c.put.ensures.capacity)

pub returns-in-Posted-clause-references : goal.returns-in-Posted-clause-references
returns-in-Posted-clause-references c =
    (c.keep-in-Posted.ensures.references_len, c.keep-in-Posted.ensures.references_capacity)
