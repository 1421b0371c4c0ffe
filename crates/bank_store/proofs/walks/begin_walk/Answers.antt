-- All rows are to come, or those of the account.
use Rattle.std.proofs.Common.{◌≡◌, ℕ, Bool, true, List, Option, Some, None, filter, refl, rules, ◌∙◌}
use Rattle.walked_rows.proofs.Sought.{all_pass}
use Rattle.bank_store.specs.Walking.{given_of}
use Rattle.bank_store.proofs.walks.begin_walk.Goals as goal

-- where no account is named, none is left out
passed : {X : Type 0} (is_given : Option ℕ → X → Bool) → ((x : X) → is_given None x ≡ true)
    → (of : Option ℕ) (items : List X) → filter (is_given of) items ≡ given_of is_given of items
passed is_given all None items = all_pass (is_given None) all items
passed is_given all (Some account) items = refl

pub returns : goal.returns
returns g c = (
  search rules,
  record {
    refused = tt;
    begins = record {
      same_reference = c.over.ensures.same_reference;
      same = c.over.ensures.same;
      all =
          λ all has. c.over.ensures.all all has
          ∙ passed g.R.WalkedRow.is_given g.met.R.WalkedRow.all_given c.args.of all;
      rises = c.over.ensures.rises;
      fresh = c.over.ensures.fresh;
      fault = tt;
      down = λ down. absurd (let tells = c.is_down.ensures in let up = c.if-is_down.false in cc);
    };
  },
)
