-- Tables with no row show the empty log.
use Rattle.std.proofs.Common.{false, leb, [], refl}
use Rattle.std.specs.Prelude.{nat_eq}
use Rattle.std.specs.List.{IsDistinct}
use Rattle.std.proofs.lemmas.Bool.{and_right}
use Rattle.posting_rules.specs.believed.Tables.{AreTablesOf}

pub none_distinct : IsDistinct nat_eq []
unfolding IsDistinct
none_distinct = tt

pub empty_shown : AreTablesOf (record {
  decided = 0;
  branches = [];
  tellers = [];
  accounts = [];
  history = [];
  requests = [];
  floors = [];
  references = [];
  closings = [];
}) []
empty_shown = record {
  rows = record {
    decided = refl;
    branches = λ b. refl;
    tellers = λ n. rw (and_right (leb 1 n) false refl) refl;
    accounts = λ n. rw (and_right (leb 1 n) false refl) refl;
    history = λ o. refl;
    requests = λ o. refl;
    floors = λ b. refl;
    references = λ o. refl;
    closings = λ x. refl;
    branch_keys = none_distinct;
    teller_keys = none_distinct;
    account_keys = none_distinct;
    history_keys = none_distinct;
    request_keys = none_distinct;
    floor_keys = none_distinct;
    reference_keys = none_distinct;
    closing_keys = none_distinct;
  };
}
