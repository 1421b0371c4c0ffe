-- The slots of a batch are under the keys that its records ask for.
use Rattle.std.proofs.Common.{◌≡◌, ℕ, List, [], ◌∷◌, map, Result, Ok, Err, refl, sym, subst, inl, inr}
use Rattle.std.specs.Prelude.{◌⊎◌}
use Rattle.std.specs.List.{AllByRecursion}
use Rattle.sqlite_rules.specs.Lists.{Has}
use Rattle.message_records.specs.{believed.Reading.request_of, declared.fault.Bad.Bad, believed.Records.RequestFields}
use Rattle.posting_rules.specs.believed.Numbering.{branch_of_account, branch_of_teller}
use Rattle.posting_batch.specs.Batch.{blanked, covering, covering_all, no_slots, with_branch_slot}
use Rattle.posting_batch.specs.Overlay.{Overlay}
use Rattle.posting_batch.specs.declared.slots.{AccountSlot.AccountSlot, BranchSlot.BranchSlot, TellerSlot.TellerSlot}
use Rattle.posting_batch.specs.Placed.{number_below, number_same}
use Rattle.posting_batch.specs.Slots.{account_slot_key, branch_slot_key, empty_account, empty_branch, empty_teller}
use Rattle.posting_batch.specs.Slots.{teller_slot_key}
use Rattle.posting_batch.specs.{View.IsMadeOf, View.view, declared.batch.Batch.Batch}
use Rattle.posting_batch.proofs.Orders.{all-placed}
use Rattle.bank_transactions.specs.believed.Additions.{AskFor}
use Rattle.bank_transactions.specs.Filling.{emptied, emptied_account, emptied_branch, emptied_teller}

-- one of the reads is of a request that is so
abbrev Reads : List (Result RequestFields Bad) → (RequestFields → Type 0) → Type 0
Reads reads P = (r : RequestFields) × Has reads (Ok r) × P r

-- the slot is that of a request's account, of its teller, of the branch of either
abbrev pub OfAccount : AccountSlot → RequestFields → Type 0
OfAccount s r = s.account ≡ r.account

abbrev pub OfTeller : TellerSlot → RequestFields → Type 0
OfTeller s r = s.teller ≡ r.teller

abbrev pub OfBranch : BranchSlot → RequestFields → Type 0
OfBranch s r = (s.branch ≡ branch_of_teller r.teller) ⊎ (s.branch ≡ branch_of_account r.account)

-- each slot is that of a request of which Of says more
pub record AreAsked (Of : (RequestFields → Type 0) → Type 0) (o : Overlay) : Type 0 where
  pub branches : AllByRecursion (λ s. Of (OfBranch s)) o.branches
  pub tellers : AllByRecursion (λ s. Of (OfTeller s)) o.tellers
  pub accounts : AllByRecursion (λ s. Of (OfAccount s)) o.accounts

asked_with : (all : List (Result RequestFields Bad)) (o : Overlay) (read : Result RequestFields Bad) → Has all read
    → AreAsked (Reads all) o → AreAsked (Reads all) (covering o read)
asked_with all o (Err fault) has asked = asked
asked_with all o (Ok r) has asked =
    let IsBranch : BranchSlot → Type 0 = λ s. Reads all (OfBranch s) in
    let home = empty_branch (branch_of_teller r.teller) in
    let its = empty_branch (branch_of_account r.account) in
    let first = with_branch_slot (branch_of_teller r.teller) o.branches in
    record {
      branches = all-placed (number_below branch_slot_key) (number_same branch_slot_key) its IsBranch first
          (r, has, inr refl)
          (all-placed (number_below branch_slot_key) (number_same branch_slot_key) home IsBranch o.branches
          (r, has, inl refl) asked.branches);
      tellers = all-placed (number_below teller_slot_key) (number_same teller_slot_key) (empty_teller r.teller)
          (λ s. Reads all (OfTeller s)) o.tellers (r, has, refl) asked.tellers;
      accounts = all-placed (number_below account_slot_key) (number_same account_slot_key)
          (empty_account r.account) (λ s. Reads all (OfAccount s)) o.accounts (r, has, refl) asked.accounts;
    }

asked_on : (all : List (Result RequestFields Bad)) (o : Overlay) (reads : List (Result RequestFields Bad))
    → ((read : Result RequestFields Bad) → Has reads read → Has all read) → AreAsked (Reads all) o
    → AreAsked (Reads all) (covering_all o reads)
asked_on all o [] within asked = asked
asked_on all o (read ∷ reads) within asked =
    asked_on all (covering o read) reads (λ x has. within x (inr has))
    (asked_with all o read (within read (inl refl)) asked)

-- ---- slots that change and keep their keys

module _ {A : Type 0} (P : A → Type 0) (f : A → A) where
  onto : ((s : A) → P s → P (f s)) → (slots : List A) → AllByRecursion P slots → AllByRecursion P (map f slots)
  onto so [] all = tt
  onto so (s ∷ slots) all = (so s all.0, onto so slots all.1)

  back : ((s : A) → P (f s) → P s) → (slots : List A) → AllByRecursion P (map f slots) → AllByRecursion P slots
  back so [] all = tt
  back so (s ∷ slots) all = (so s all.0, back so slots all.1)

module _ (Of : (RequestFields → Type 0) → Type 0) (o : Overlay) where
  of_emptied : AreAsked Of (emptied o) → AreAsked Of o
  of_emptied asked = record {
    branches = back (λ s. Of (OfBranch s)) emptied_branch (λ s it. it) o.branches asked.branches;
    tellers = back (λ s. Of (OfTeller s)) emptied_teller (λ s it. it) o.tellers asked.tellers;
    accounts = back (λ s. Of (OfAccount s)) emptied_account (λ s it. it) o.accounts asked.accounts;
  }

  to_emptied : AreAsked Of o → AreAsked Of (emptied o)
  to_emptied asked = record {
    branches = onto (λ s. Of (OfBranch s)) emptied_branch (λ s it. it) o.branches asked.branches;
    tellers = onto (λ s. Of (OfTeller s)) emptied_teller (λ s it. it) o.tellers asked.tellers;
    accounts = onto (λ s. Of (OfAccount s)) emptied_account (λ s it. it) o.accounts asked.accounts;
  }

  of_blanked : AreAsked Of (blanked o) → AreAsked Of o
  of_blanked asked = record {
    branches = back (λ s. Of (OfBranch s)) (λ s. empty_branch s.branch) (λ s it. it) o.branches asked.branches;
    tellers = back (λ s. Of (OfTeller s)) (λ s. empty_teller s.teller) (λ s it. it) o.tellers asked.tellers;
    accounts = back (λ s. Of (OfAccount s)) (λ s. empty_account s.account) (λ s it. it) o.accounts asked.accounts;
  }

  to_blanked : AreAsked Of o → AreAsked Of (blanked o)
  to_blanked asked = record {
    branches = onto (λ s. Of (OfBranch s)) (λ s. empty_branch s.branch) (λ s it. it) o.branches asked.branches;
    tellers = onto (λ s. Of (OfTeller s)) (λ s. empty_teller s.teller) (λ s it. it) o.tellers asked.tellers;
    accounts = onto (λ s. Of (OfAccount s)) (λ s. empty_account s.account) (λ s it. it) o.accounts asked.accounts;
  }

-- ---- the records

read_of : (records : List (List ℕ)) (P : RequestFields → Type 0) (r : RequestFields)
    → Has (map request_of records) (Ok r) → P r → AskFor records P
read_of [] P r has so = absurd has
read_of (bytes ∷ records) P r (inl is) so = (bytes, inl refl, r, sym is, so)
read_of (bytes ∷ records) P r (inr has) so =
    let it = read_of records P r has so in
    (it.0, inr it.1, it.2, it.3, it.4)

-- what the reads ask for the records do
asked_of : (records : List (List ℕ)) (o : Overlay) → AreAsked (Reads (map request_of records)) o
    → AreAsked (AskFor records) o
asked_of records o asked = record {
  branches = each OfBranch o.branches asked.branches;
  tellers = each OfTeller o.tellers asked.tellers;
  accounts = each OfAccount o.accounts asked.accounts;
}
  where
    each : {A : Type 0} (Q : A → RequestFields → Type 0) (slots : List A)
        → AllByRecursion (λ s. Reads (map request_of records) (Q s)) slots
        → AllByRecursion (λ s. AskFor records (Q s)) slots
    each Q [] all = tt
    each Q (s ∷ slots) all = (read_of records (Q s) all.0.0 all.0.1 all.0.2, each Q slots all.1)

-- so it is with the slots of a batch that is filled and judged
pub asked_by : (b : Batch) (records : List (List ℕ)) (o judged : Overlay) → IsMadeOf b records
    → emptied o ≡ emptied (view b.overlay) → blanked judged ≡ blanked o → AreAsked (AskFor records) judged
asked_by b records o judged made same keys =
    let reads = map request_of records in
    let Of = AskFor records in
    let first : AreAsked Of (covering_all no_slots reads) = asked_of records (covering_all no_slots reads)
    (asked_on reads no_slots reads (λ x has. has) (record { branches = tt; tellers = tt; accounts = tt })) in
    let filled : AreAsked Of o = of_emptied Of o (subst (AreAsked Of) (sym same)
    (to_emptied Of (view b.overlay) (subst (AreAsked Of) (sym made.overlay) first))) in
    of_blanked Of judged (subst (AreAsked Of) (sym keys) (to_blanked Of o filled))
