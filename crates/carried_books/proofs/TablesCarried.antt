-- What was found of the rows of two banks, together.
use Rattle.std.proofs.Common.{◌≡◌, ◌≤◌, ◌∙◌, ℕ, Bool, true, false, List, [], ◌∷◌, sym, subst, arith}
use Rattle.std.specs.Prelude.{◌||◌, ◌==◌}
use Rattle.std.specs.List.{AllByRecursion}
use Rattle.std.proofs.lemmas.List.Elements.{All-contains_itself, recursion_from_All}
use Rattle.message_records.specs.declared.limits.TheConstants.{MAX_NUMBER}
use Rattle.posting_rules.specs.declared.rows.{ClosingRow.ClosingRow, RequestRow.RequestRow}
use Rattle.posting_rules.specs.believed.Closings.{is_closed_in}
use Rattle.posting_rules.specs.believed.Commands.{AreCommands, Command, number_key}
use Rattle.posting_rules.specs.believed.Damage.{IsSoundRequest}
use Rattle.posting_rules.specs.believed.Numbering.{branch_of_teller}
use Rattle.posting_rules.specs.believed.Tables.{AreTablesOf, Tables}
use Rattle.posting_rules.proofs.Undamaged.{undamaged}
use Rattle.carried_books.specs.Carrying.{SameStanding, TablesCarry, is_of_desk, used_runs}
use Rattle.carried_books.specs.Gathering.{AreNumbered, HasClosed, HasUsed, NumbersCarry}
use Rattle.posting_rules.specs.Numbers.{SameNumbers}

-- the requests of a log have numbers in their range
pub numbered : (t : Tables) (log : List Command) → AreCommands log → AreTablesOf t log → AreNumbered t.requests
numbered t log are shows =
    each t.requests (recursion_from_All IsSoundRequest t.requests
    (λ n d low. (undamaged t log are shows).each_request _ (All-contains_itself t.requests n d low)))
  where
    each : (rs : List RequestRow) → AllByRecursion IsSoundRequest rs → AreNumbered rs
    each [] all = tt
    each (r ∷ rs) all = ((all.0.number_above, all.0.number), each rs all.1)

within : (rs : List RequestRow) → AreNumbered rs → AllByRecursion (λ r. r.number ≤ MAX_NUMBER) rs
within [] all = tt
within (r ∷ rs) all = (all.0.1, within rs all.1)

some_key : (t n : ℕ) → 1 ≤ n → 1 ≤ number_key t n
some_key t n low = omega (arith, low)

-- numbers that are used by either are the same
desk_alike : (desk : ℕ) (one other : List ClosingRow) → ((x : ℕ) → 1 ≤ x → is_closed_in one x ≡ is_closed_in other x)
    → (rs : List RequestRow) → AreNumbered rs → AllByRecursion (λ r. is_of_desk desk one r ≡ true) rs
    → AllByRecursion (λ r. is_of_desk desk other r ≡ true) rs
desk_alike desk one other same [] numbers all = tt
desk_alike desk one other same (r ∷ rs) numbers all = (
  subst (λ (b : Bool). ((branch_of_teller r.teller == desk) || b) ≡ true)
      (same (number_key r.teller r.number) (some_key r.teller r.number numbers.0.0)) all.0,
  desk_alike desk one other same rs numbers.1 all.1,
)

-- new tables close just the numbers that were used, and aren't sealed
pub numbers_carry : (desk : ℕ) (used numbers : List ClosingRow) (sealed : Bool) (new : Tables)
    → HasClosed new sealed numbers → sealed ≡ false → SameNumbers used numbers
    → (AreNumbered new.requests → AllByRecursion (λ r. is_of_desk desk used r ≡ true) new.requests)
    → NumbersCarry desk used new
numbers_carry desk used numbers sealed new has none same alone = record {
  numbers = λ x low. sym (has.numbers x low) ∙ sym (same x);
  unsealed = sym has.seal ∙ none;
  desk_alone = alone;
}

pub tables_carry : (desk : ℕ) (used : List ClosingRow) (sealed : Bool) (old new : Tables) → HasUsed old sealed used
    → sealed ≡ true → SameStanding old new → NumbersCarry desk used new → AreNumbered old.requests
    → AreNumbered new.requests → TablesCarry desk old new
tables_carry desk used sealed old new has is stand carry of_old of_new = record {
  stand = stand;
  numbers = λ x low. carry.numbers x low ∙ has.numbers x low;
  old_sealed = sym has.seal ∙ is;
  new_unsealed = carry.unsealed;
  desk_alone = desk_alike desk used (used_runs old) has.numbers new.requests of_new (carry.desk_alone of_new);
  in_range = within old.requests of_old;
}
