use Rattle.std.proofs.Common.{◌≡◌, ◌<◌, ℕ, None, get_or}
use Rattle.bank_transactions.proofs.known_rows.entry.empty_all.Given as goal

-- the places so far are empty
abbrev pub invariant-loop-entry : goal.invariant-loop-entry
invariant-loop-entry g l = (i : ℕ) → i < l.entry-index → get_or l.entries i None ≡ None
