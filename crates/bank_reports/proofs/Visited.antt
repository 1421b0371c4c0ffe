-- Postings that a walk visits, one after another.
use Rattle.std.proofs.Common.{◌≡◌, ◌+◌, ◌++◌, ℕ, List, [], ◌∷◌, length, map, Option, Result, Err, refl, ap, ◌∙◌}
use Rattle.std.proofs.Common.{inl, inr}
use Rattle.std.proofs.lemmas.List.{length-append}
use Rattle.sqlite.specs.Effect.{Database}
use Rattle.posting_rules.specs.declared.fault.{Fault.Fault}
use Rattle.posting_rules.specs.declared.fault.Fault.TheVariants.{Memory, Store, Down, Damaged}
use Rattle.walked_rows.specs.{declared.stated.StatedPosting.StatedPosting, Pairs.Pair}
use Rattle.walked_rows.specs.Stored.{BreaksStated, stated_pair}
use Rattle.bank_store.specs.Walking.{Steps}
use Rattle.bank_reports.specs.declared.fault.ReportFault.{ReportFault, TheVariants.Bank}
use Rattle.bank_reports.specs.{Leaving.HasStated, Postings.WhyRead, Visitors.VisitsPostings}
use Rattle.bank_reports.proofs.Further.{are_more}

-- why a step gave no row
pub step_why : (given : List StatedPosting) (coming after : List Pair) (fault : Fault)
    → Steps {R = StatedPosting} stated_pair BreaksStated coming after (Err fault)
    → WhyRead given coming (Err (Bank fault))
step_why given coming after Memory answers = absurd answers
step_why given coming after Store answers = tt
step_why given coming after Down answers = tt
step_why given coming after (Damaged rule) answers = inl answers

-- of the rows of a file these were visited, so many, and those to come weren't
pub record AreVisited {V : Type 0} (Visited : V → Option (List ℕ) → List StatedPosting → V → Option (List ℕ) → Type 0)
    (first : V) (old : Option (List ℕ)) (db : Database) (all : List Pair → List Pair) (clean : Type 0)
    (coming : List Pair → List Pair) (now : V) (new : Option (List ℕ)) (count : ℕ) : Type 0 where
  pub given : List StatedPosting
  pub many : length given ≡ count
  pub visited : Visited first old given now new
  pub are : clean → (rows : List Pair) → HasStated db rows → map stated_pair given ++ coming rows ≡ all rows

module _ {V : Type 0} {Visited : V → Option (List ℕ) → List StatedPosting → V → Option (List ℕ) → Type 0}
    {first : V} {old : Option (List ℕ)} {db : Database} {all : List Pair → List Pair} where
  pub none_visited : (clean : Type 0) → Visited first old [] first old
      → AreVisited Visited first old db all clean all first old 0
  none_visited clean none = record { given = []; many = refl; visited = none; are = λ c rows is. refl }

  module _ {clean : Type 0} {coming : List Pair → List Pair} {now : V} {new : Option (List ℕ)} {count : ℕ}
      (it : AreVisited Visited first old db all clean coming now new count) where
    pub one_visited : {late : Type 0} (left : List Pair → List Pair) {later : V} {last : Option (List ℕ)}
        (r : StatedPosting) → (late → clean)
        → (late → (rows : List Pair) → HasStated db rows → coming rows ≡ stated_pair r ∷ left rows)
        → Visited first old (it.given ++ r ∷ []) later last
        → AreVisited Visited first old db all late left later last (count + 1)
    one_visited left r before is visited = record {
      given = it.given ++ r ∷ [];
      many = length-append it.given (r ∷ []) ∙ ap (λ n. n + 1) it.many;
      visited = visited;
      are = λ c rows there.
          are_more it.given r (coming rows) (left rows) (is c rows there) (it.are (before c) rows there);
    }

    module _ {Refused : V → Option (List ℕ) → List StatedPosting → StatedPosting → ReportFault → Option (List ℕ)
        → Type 0} {rows : List Pair} (c : clean) (there : HasStated db rows) where
      -- the walk ended it
      pub end_reading : {result : Result (Unit {0}) ReportFault} → WhyRead it.given (coming rows) result
          → VisitsPostings Visited Refused first now (all rows) old new result
      end_reading why = record {
        given = it.given;
        rest = coming rows;
        are = it.are c rows there;
        ends = inl (record { visited = it.visited; why = why });
      }

      -- the visitor refused the next
      pub end_refused : (r : StatedPosting) {left : List Pair} → coming rows ≡ stated_pair r ∷ left → {later : V}
          {last : Option (List ℕ)} {fault : ReportFault} → Refused first old it.given r fault last
          → VisitsPostings Visited Refused first later (all rows) old last (Err fault)
      end_refused r {left} next {fault = fault} refusal = record {
        given = it.given;
        rest = coming rows;
        are = it.are c rows there;
        ends = inr (record { row = r; more = left; next = next; fault = fault; is = refl; refusal = refusal });
      }
