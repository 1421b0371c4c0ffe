-- What has an older stamp is forgotten.
use Rattle.std.proofs.Common.{◌≡◌, ◌≤◌, ◌+◌, ℕ, None, Option, Some, arith, refl}
use Rattle.std.proofs.lemmas.Grind.{common_steps}
use Rattle.bank_transactions.specs.{Known.known_under, Known.places, Known.value_for, Stamps.stamp_of}
use Rattle.bank_transactions.specs.declared.known_rows.entry.Entry.{Entry}
use Rattle.bank_transactions.proofs.known_rows.table.Known.forget.Goals as goal

older_entry : {V : Type 0} (stamp key : ℕ) (entry : Entry V) → entry.stamp ≤ stamp
    → value_for (stamp + 1) key (Some entry) ≡ None
older_entry stamp key entry until = grind (arith, common_steps)

older : {V : Type 0} (stamp key : ℕ) (entry : Option (Entry V)) → stamp_of entry ≤ stamp
    → value_for (stamp + 1) key entry ≡ None
older stamp key None until = refl
older stamp key (Some entry) until = older_entry stamp key entry until

pub invariant_of-table : goal.invariant_of-table
invariant_of-table g c = record {
  whole = c.in-Some.table.whole;
  until = λ i. let before = c.in-Some.table.until i in omega arith;
}

pub returns-then-table-lt18446744073709551615-clause-nothing :
    goal.returns-then-table-lt18446744073709551615-clause-nothing
unfolding known_under
returns-then-table-lt18446744073709551615-clause-nothing g c key =
    older c.in-Some.table.stamp key _ (c.in-Some.table.until _)

pub returns-then-table-lt18446744073709551615-clause-room :
    goal.returns-then-table-lt18446744073709551615-clause-room
unfolding places
returns-then-table-lt18446744073709551615-clause-room g c = rw c.in-Some.is refl
