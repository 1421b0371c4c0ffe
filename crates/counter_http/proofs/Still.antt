-- What the calls of a round ask for: the same clients are here, and at first the batch is empty.
use Rattle.std.proofs.Common.{◌≡◌, ℕ, List, [], length, sym, ap, subst, ◌∙◌}
use Rattle.std.specs.{List.AllByRecursion}
use Rattle.std.proofs.lemmas.List.{length-map}
use Rattle.counter_http.specs.together.Rounds.{AllDiffer, number_in, numbers}
use Rattle.counter_http.specs.together.Submitting.{IsBatchOf}
use Rattle.counter_http.specs.declared.batch.Batch.{Batch}
use Rattle.counter_http.specs.declared.client.Client.{Client}

pub as_many : {R W : Type 0} (here here' : List (Client R W)) → numbers here' ≡ numbers here → length here' ≡ length here
as_many here here' same = sym (length-map here' number_in) ∙ ap length same ∙ length-map here number_in

pub differ_still : {R W : Type 0} (here here' : List (Client R W)) → numbers here' ≡ numbers here
    → AllDiffer (numbers here) → AllDiffer (numbers here')
differ_still here here' same differ = subst (λ (ns : List ℕ). AllDiffer ns) (sym same) differ

pub none_given : {R W : Type 0} (here : List (Client R W)) (batch : Batch) → batch.records.items ≡ []
    → batch.senders.items ≡ [] → IsBatchOf here batch
none_given here batch records senders = record {
  given = rw (records, senders) tt;
  apart = rw senders tt;
}

pub all_of_none : {A : Type 0} (P : A → Type 0) (xs : List A) → xs ≡ [] → AllByRecursion P xs
all_of_none {A} P xs none = subst (λ (ys : List A). AllByRecursion P ys) (sym none) tt
