-- Books that are sealed, and new books that carry them on.
use Rattle.std.specs.Prelude.{◌≡◌, ◌≢◌, ◌≤◌, ◌+◌, ◌⊎◌, ℕ, List, [], ◌∷◌, ◌++◌, length, Ok, Bool, true, false}
use Rattle.std.specs.Prelude.{◌||◌, Some, None, is_some, if◌then◌else◌}
use Rattle.message_records.specs.declared.limits.TheConstants.{MAX_NUMBER}
use Rattle.message_records.specs.declared.records.Outcome.TheVariants as outcome
use Rattle.message_records.specs.believed.Records.{RequestFields, unreferenced}
use Rattle.message_records.specs.believed.Reading.{request_of}
use Rattle.posting_rules.specs.declared.limits.TheConstants.{MAX_DECIDED}
use Rattle.posting_rules.specs.believed.Numbering.{branch_of_teller}
use Rattle.posting_rules.specs.believed.Commands.{Command, Open, Post, Close, AreCommands, opened, is_teller_open}
use Rattle.posting_rules.specs.believed.Closings.{closed, sealed}
use Rattle.posting_rules.specs.believed.Entries.{decided, kept, account_balance, teller_balance, branch_balance, reply}
use Rattle.posting_rules.specs.believed.Runs.{followed_by, ArePosts}

-- these books have decided the number, or closed books have
abbrev pub used : List Command → ℕ → ℕ → Bool
used log t n = is_some (kept (decided log) t n) || closed log t n

-- every account, teller and branch has one balance in both, and what is open is so on the same terms
pub record StandAlike (one two : List Command) : Type 0 where
  pub terms : (b : ℕ) → opened two b ≡ opened one b
  pub accounts : (a : ℕ) → account_balance (decided two) a ≡ account_balance (decided one) a
  pub tellers : (t : ℕ) → teller_balance (decided two) t ≡ teller_balance (decided one) t
  pub branches : (b : ℕ) → branch_balance (decided two) b ≡ branch_balance (decided one) b

-- what the old books used the new ones refuse or keep, and closed to the new ones is only what the old ones used
pub record RefusesUsed (old new : List Command) : Type 0 where
  pub numbers : (t n : ℕ) → 1 ≤ n → n ≤ MAX_NUMBER → used old t n ≡ true → used new t n ≡ true
  pub only : (t n : ℕ) → 1 ≤ n → n ≤ MAX_NUMBER → closed new t n ≡ true → used old t n ≡ true

-- The new books carry on the old ones, which are sealed: same branches on the same terms, same balances, and no number that
-- was used is free. Beside those they keep requests of the desk alone, the branch that brings the balances forward.
pub record Carries (desk : ℕ) (old new : List Command) : Type 0 where
  pub stand : StandAlike old new
  pub refuses : RefusesUsed old new
  pub old_sealed : sealed old ≡ true
  pub new_unsealed : sealed new ≡ false
  pub desk_alone : (t n : ℕ) → 1 ≤ n → n ≤ MAX_NUMBER → is_some (kept (decided new) t n) ≡ true
      → (branch_of_teller t ≡ desk) ⊎ (used old t n ≡ true)

-- one bank that never closed its books: what is open, decided and closed in the old books, without their seal
pub record IsUnsealed (old one : List Command) : Type 0 where
  pub terms : (b : ℕ) → opened one b ≡ opened old b
  pub requests : decided one ≡ decided old
  pub numbers : (t n : ℕ) → 1 ≤ n → n ≤ MAX_NUMBER → closed one t n ≡ closed old t n
  pub unsealed : sealed one ≡ false

-- no record among them is of a teller of the desk
abbrev pub NoneOfDesk : ℕ → List Command → Type 0
NoneOfDesk desk [] = Unit {0}
NoneOfDesk desk (Open branch terms ∷ cs) = NoneOfDesk desk cs
NoneOfDesk desk (Post moment bytes ∷ cs) =
    ((r : RequestFields) → request_of bytes ≡ Ok r → branch_of_teller r.teller ≢ desk) × NoneOfDesk desk cs
NoneOfDesk desk (Close first last ∷ cs) = NoneOfDesk desk cs

-- records come in after both, none of them from a teller of the desk, and there is room for them all
pub record ComeAfter (desk : ℕ) (one new cs : List Command) : Type 0 where
  pub posts : ArePosts cs
  pub commands : AreCommands cs
  pub ordinary : NoneOfDesk desk cs
  pub room_in_one : (length (decided one) + length cs) ≤ MAX_DECIDED
  pub room_in_new : (length (decided new) + length cs) ≤ MAX_DECIDED

-- a record whose number was used is decided in neither; the new books refuse it as closed, unless they keep its number
pub record IsRefusedForGood (one new : List Command) (moment : ℕ) (bytes : List ℕ) (r : RequestFields) : Type 0 where
  pub in_one : decided (Post moment bytes ∷ one) ≡ decided one
  pub in_new : decided (Post moment bytes ∷ new) ≡ decided new
  pub refused : is_teller_open (λ b. opened new b) r.teller ≡ true → kept (decided new) r.teller r.number ≡ None
      → reply new bytes ≡ record { outcome = outcome.Closed; request = Some (unreferenced r); balance = None }

-- Two years: whatever records come after the new books and after the one bank, at the place of each, a number that was used
-- before is refused for good, and any other record gets one reply in both, and both stand alike.
abbrev pub TwoYears : Type 0
TwoYears = (desk : ℕ) (old new one cs before after : List Command) (moment : ℕ) (bytes : List ℕ) (r : RequestFields)
    → Carries desk old new → IsUnsealed old one → ComeAfter desk one new cs
    → cs ≡ before ++ Post moment bytes ∷ after → request_of bytes ≡ Ok r
    → (used old r.teller r.number ≡ true
    → IsRefusedForGood (followed_by one before) (followed_by new before) moment bytes r)
    × (used old r.teller r.number ≡ false
    → reply (followed_by new before) bytes ≡ reply (followed_by one before) bytes)

-- and after them all the new books stand as the one bank does, and refuse what it used
abbrev pub StillCarries : Type 0
StillCarries = (desk : ℕ) (old new one cs : List Command)
    → Carries desk old new → IsUnsealed old one → ComeAfter desk one new cs
    → StandAlike (followed_by one cs) (followed_by new cs) × RefusesUsed (followed_by one cs) (followed_by new cs)

-- a seal changes nothing but that
abbrev pub SealsAlone : Type 0
SealsAlone = (log : List Command) → sealed log ≡ false → IsUnsealed (Close 0 0 ∷ log) log
    × (sealed (Close 0 0 ∷ log) ≡ true)

-- Sealed books stay sealed and decide nothing more: a request that they keep gets its first reply, and another of an open
-- teller is refused, as closed where closed books decided it, and as sealed elsewhere.
pub record IsSealed (log : List Command) (moment : ℕ) (bytes : List ℕ) : Type 0 where
  pub stays : (c : Command) → sealed (c ∷ log) ≡ true
  pub nothing : decided (Post moment bytes ∷ log) ≡ decided log
  pub refused : (r : RequestFields) → request_of bytes ≡ Ok r → is_teller_open (λ b. opened log b) r.teller ≡ true
      → kept (decided log) r.teller r.number ≡ None
      → reply log bytes ≡ record {
        outcome = if closed log r.teller r.number then outcome.Closed else outcome.Sealed;
        request = Some (unreferenced r);
        balance = None;
      }

abbrev pub SealedDecidesNothing : Type 0
SealedDecidesNothing = (log : List Command) (moment : ℕ) (bytes : List ℕ) → sealed log ≡ true
    → IsSealed log moment bytes
