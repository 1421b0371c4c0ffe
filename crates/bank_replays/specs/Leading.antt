-- How kept rows lead from a log to another, whatever they are.
use Rattle.std.specs.Prelude.{◌≡◌, ◌⊎◌, ℕ, pos, Bool, nat_abs, List, [], ◌∷◌, Option, Ok, IfSome}
use Rattle.message_records.specs.believed.{Outcomes.code_of, Reading.request_of}
use Rattle.message_records.specs.declared.records.Outcome.{Outcome}
use Rattle.posting_rules.specs.believed.Commands.{Command, Post, Terms}
use Rattle.store_rows.specs.believed.Columns.{number_at}
use Rattle.walked_rows.specs.{KeptRows.KeptItem, Requests.IsRequestRow, Requests.request_in}
use Rattle.bank_replays.specs.Following.{had_account, prepared}

-- the request is posted at its moment, if it has one, after the branches that it needs were opened by a plan
pub record PostsRow (plan : ℕ → Option Terms) (k : KeptItem) (log next : List Command) : Type 0 where
  pub is : IsRequestRow k
  pub moment : ℕ
  pub own : IfSome k.posting (λ p. nat_abs (number_at 4 p) ≡ moment)
  pub bytes : List ℕ
  pub reads : request_of bytes ≡ Ok (request_in k)
  -- whether it was judged by its account, as the row's outcome says if it is one
  pub had : Bool
  pub judged : (o : Outcome) → number_at 5 k.entry ≡ pos (code_of o) → had ≡ had_account o
  pub posts : next ≡ Post moment bytes ∷ prepared plan had (request_in k) log

-- Each row that is that of a request is posted, in their order. Any other does nothing.
abbrev pub Leads : (plan : ℕ → Option Terms) → List KeptItem → (log now : List Command) → Type 0
Leads plan [] log now = now ≡ log
Leads plan (k ∷ ks) log now = (next : List Command)
    × (PostsRow plan k log next ⊎ ((IsRequestRow k → ⊥) × (next ≡ log))) × Leads plan ks next now
