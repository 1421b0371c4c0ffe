-- All slots of a batch are filled.
use Rattle.std.proofs.Common.{◌≡◌, ℕ, List, map, Ok, Err, Result, refl, ap, ◌∙◌}
use Rattle.std.specs.{Prelude.IsSome, Prelude.⊤, List.AllByRecursion}
use Rattle.sqlite.specs.declared.transaction.Transaction.{Transaction}
use Rattle.sqlite_trees.specs.declared.store.Store.{Ghosts}
use Rattle.sqlite_trees.proofs.ListLemmas.{all-map, all_of, map-map}
use Rattle.posting_rules.specs.believed.Numbering.{branch_of_teller, branch_of_account}
use Rattle.posting_rules.specs.{believed.Damage.IsUndamaged, believed.Tables.Tables, believed.Tables.branch_key}
use Rattle.posting_rules.specs.believed.Tables.{row_at}
use Rattle.posting_batch.specs.declared.slots.{AccountSlot.AccountSlot, TellerSlot.TellerSlot, BranchSlot.BranchSlot}
use Rattle.posting_batch.specs.declared.slots.{FloorSlot.FloorSlot, RequestSlot.RequestSlot}
use Rattle.posting_batch.specs.{Batch.HasHomes, Batch.branch_filled, Batch.floor_filled, Batch.teller_filled}
use Rattle.posting_batch.specs.{Batch.account_filled, Batch.filled, Overlay.Overlay}
use Rattle.posting_batch.specs.Slots.{branch_slot_key, row_of_slot}
use Rattle.store_rows.specs.declared.fault.TableFault.{TableFault}
use Rattle.bank_transactions.specs.{Doing.Reads, Doing.ReadsWhere, Filling.TellsBranch, Filling.emptied, Filling.handing}
use Rattle.bank_transactions.specs.Filling.{books_filled, kept_filled, known, with_rows}
use Rattle.bank_transactions.specs.Filling.{emptied_account, emptied_branch, emptied_floor, emptied_request, emptied_teller}
use Rattle.bank_transactions.proofs.{HeldSlots.know_all, LookUps.reads_both, LookUps.reads_but}
use Rattle.bank_transactions.proofs.{LookUps.reads_so}

-- nothing is damaged, and each branch that is asked for has its slot
abbrev pub So : Overlay → Tables → Type 0
So o t = IsUndamaged t × HasHomes o

-- ---- an overlay with another count, and with other slots

abbrev pub with_count : ℕ → Overlay → Overlay
with_count n o = record o { decided = n }

abbrev pub with_branches : List BranchSlot → Overlay → Overlay
with_branches slots o = record o { branches = slots }

abbrev pub with_floors : List FloorSlot → Overlay → Overlay
with_floors slots o = record o { floors = slots }

abbrev pub with_tellers : List TellerSlot → Overlay → Overlay
with_tellers slots o = record o { tellers = slots }

abbrev pub with_accounts : List AccountSlot → Overlay → Overlay
with_accounts slots o = record o { accounts = slots }

abbrev pub with_kept : List RequestSlot → Overlay → Overlay
with_kept slots o = record o { kept = slots }

-- the same slots, held elsewhere
pub same_known : (o : Overlay) (n : ℕ) (b b' : List BranchSlot) (f f' : List FloorSlot) (e e' : List TellerSlot)
    (a a' : List AccountSlot) → b ≡ b' → f ≡ f' → e ≡ e' → a ≡ a'
    → with_accounts a (with_tellers e (with_floors f (with_branches b (with_count n o))))
    ≡ with_accounts a' (with_tellers e' (with_floors f' (with_branches b' (with_count n o))))
same_known o n b b' f f' e e' a a' eb ef ee ea = rw (eb, ef, ee, ea) refl

-- ---- what is known of the branches

-- nothing is asked of them
pub nothing_asked : {A : Type 0} (xs : List A) → AllByRecursion (λ _. ⊤) xs
nothing_asked = all_of (λ _. ⊤) (λ x. tt)

-- the slots of branches that are filled tell, for those that ask of them
tells_so : {A : Type 0} (branch_of : A → ℕ) (t : Tables) (slots given : List BranchSlot) (others xs : List A)
    → AllByRecursion (λ s. IsSome (row_at branch_slot_key slots (branch_of s))) others
    → given ≡ map (branch_filled t) slots → xs ≡ others
    → AllByRecursion (λ s. TellsBranch given t (branch_of s)) xs
tells_so branch_of t slots given others xs asked is same =
    know_all branch_slot_key row_of_slot emptied_branch (λ n s. refl) (λ n row. row ≡ row_at branch_key t.branches n)
    branch_of slots given (map (branch_filled t) slots) others xs is same
    (map-map emptied_branch (branch_filled t) slots)
    (all-map _ (branch_filled t) slots (all_of _ (λ s. refl) slots)) asked

-- ---- the count, and the slots of one table more

part : {S A : Type 0} {g : Ghosts S} {a b c : Transaction S} {So' : Tables → Type 0} (o : Overlay)
    (put : List A → Overlay → Overlay) (fill : Tables → A → A) (p : Overlay) (f : Tables → Overlay)
    (xs zs ys : List A) → xs ≡ zs
    → ReadsWhere g a b (So o) f (Ok p) → ReadsWhere g b c So' (λ t. map (fill t) xs) (Ok ys)
    → ((t : Tables) → So o t → p ≡ f t → So' t)
    → ReadsWhere g a c (So o) (λ t. put (map (fill t) zs) (f t)) (Ok (put ys p))
part {S} {A} o put fill p f xs zs ys same first second ready =
    reads_both first second ready (λ t so e h.
    ap (put ys) e ∙ ap (λ (ws : List A). put ws (f t)) (h ∙ ap (λ (ws : List A). map (fill t) ws) same))

-- so far filled: the count; and the branches; and the floors; and the tellers; and the accounts
abbrev pub with_counted : Overlay → Tables → Overlay
with_counted o t = with_count t.decided o

abbrev pub to_branches : Overlay → Tables → Overlay
to_branches o t = with_branches (map (branch_filled t) o.branches) (with_counted o t)

abbrev pub to_floors : Overlay → Tables → Overlay
to_floors o t = with_floors (map (floor_filled t) o.floors) (to_branches o t)

abbrev pub to_tellers : Overlay → Tables → Overlay
to_tellers o t = with_tellers (map (teller_filled t) o.tellers) (to_floors o t)

abbrev pub to_accounts : Overlay → Tables → Overlay
to_accounts o t = with_accounts (map (account_filled t) o.accounts) (to_tellers o t)

-- the slots that are filled last: their error is that of all
pub handed_last : {S X Y Z : Type 0} {g : Ghosts S} {a b c : Transaction S} {So' So'' : Tables → Type 0}
    {f : Tables → X} {w : Tables → Y} {w' : Tables → Z} {p : X} {y : Y} {z : Z} (r : Result (Unit {0}) TableFault)
    → ReadsWhere g a b So' f (Ok p) → ReadsWhere g b c So'' w (handing y r)
    → (ReadsWhere g b c So'' w (Ok y) → ReadsWhere g a c So' w' (Ok z)) → ReadsWhere g a c So' w' (handing z r)
handed_last (Ok done) first second all = all second
handed_last (Err e) first second all = reads_but first second

-- slots of which nothing is asked of the branches
abbrev Plain : {A : Type 0} → List A → Tables → Type 0
Plain xs t = IsUndamaged t × AllByRecursion (λ _. ⊤) xs

-- slots of tellers, and of accounts, whose branches are told
abbrev OfTellers : List BranchSlot → List TellerSlot → Tables → Type 0
OfTellers given xs t = IsUndamaged t × AllByRecursion (λ s. TellsBranch given t (branch_of_teller s.teller)) xs

abbrev OfAccounts : List BranchSlot → List AccountSlot → Tables → Type 0
OfAccounts given xs t = IsUndamaged t
    × AllByRecursion (λ s. TellsBranch given t (branch_of_account s.account)) xs

module _ {S : Type 0} {g : Ghosts S} {a b : Transaction S} where
  pub count_in : (o : Overlay) (n : ℕ) → Reads g a b (λ t. t.decided) (Ok n)
      → ReadsWhere g a b (So o) (with_counted o) (Ok (with_count n o))
  count_in o n reads = reads_so reads (λ t so. (so.0, λ e. ap (λ (k : ℕ). with_count k o) e))

  module _ {c : Transaction S} {o p : Overlay} where
    pub branches_in : {xs ys : List BranchSlot} → ReadsWhere g a b (So o) (with_counted o) (Ok p)
        → xs ≡ o.branches → ReadsWhere g b c (Plain xs) (λ t. map (branch_filled t) xs) (Ok ys)
        → ReadsWhere g a c (So o) (to_branches o) (Ok (with_branches ys p))
    branches_in {xs} {ys} first is second =
        part o with_branches branch_filled p (with_counted o) xs o.branches ys is first second
        (λ t so e. (so.0, nothing_asked xs))

    pub floors_in : {xs ys : List FloorSlot} → ReadsWhere g a b (So o) (to_branches o) (Ok p) → xs ≡ o.floors
        → ReadsWhere g b c (Plain xs) (λ t. map (floor_filled t) xs) (Ok ys)
        → ReadsWhere g a c (So o) (to_floors o) (Ok (with_floors ys p))
    floors_in {xs} {ys} first is second =
        part o with_floors floor_filled p (to_branches o) xs o.floors ys is first second
        (λ t so e. (so.0, nothing_asked xs))

    pub tellers_in : {given : List BranchSlot} {xs ys : List TellerSlot}
        → ReadsWhere g a b (So o) (to_floors o) (Ok p) → given ≡ p.branches → xs ≡ o.tellers
        → ReadsWhere g b c (OfTellers given xs) (λ t. map (teller_filled t) xs) (Ok ys)
        → ReadsWhere g a c (So o) (to_tellers o) (Ok (with_tellers ys p))
    tellers_in {given} {xs} {ys} first same is second =
        part o with_tellers teller_filled p (to_floors o) xs o.tellers ys is first second
        (λ t so e. (
          so.0,
          tells_so (λ s. branch_of_teller s.teller) t o.branches given o.tellers xs so.1.tellers
              (same ∙ ap (λ (q : Overlay). q.branches) e) is,
        ))

    pub accounts_in : {given : List BranchSlot} {xs ys : List AccountSlot}
        → ReadsWhere g a b (So o) (to_tellers o) (Ok p) → given ≡ p.branches → xs ≡ o.accounts
        → ReadsWhere g b c (OfAccounts given xs) (λ t. map (account_filled t) xs) (Ok ys)
        → ReadsWhere g a c (So o) (to_accounts o) (Ok (with_accounts ys p))
    accounts_in {given} {xs} {ys} first same is second =
        part o with_accounts account_filled p (to_tellers o) xs o.accounts ys is first second
        (λ t so e. (
          so.0,
          tells_so (λ s. branch_of_account s.account) t o.branches given o.accounts xs so.1.accounts
              (same ∙ ap (λ (q : Overlay). q.branches) e) is,
        ))

    -- what closed books say of requests, after the rows
    pub books_after : {xs ys : List RequestSlot} → ReadsWhere g a b (So o) (λ t. with_rows t o) (Ok p) → xs ≡ o.kept
        → Reads g b c (λ t. map (books_filled t) xs) (Ok ys)
        → ReadsWhere g a c (So o) (λ t. known t o) (Ok (with_kept ys p))
    books_after {xs} {ys} first is second =
        part o with_kept books_filled p (λ t. with_rows t o) xs o.kept ys is first second (λ t so e. so.0)

    -- and what is kept of them, after all that
    pub kept_after : {xs ys : List RequestSlot} → ReadsWhere g a b (So o) (λ t. known t o) (Ok p) → xs ≡ p.kept
        → ReadsWhere g b c (Plain xs) (λ t. map (kept_filled t) xs) (Ok ys)
        → ReadsWhere g a c (So o) (λ t. filled t o) (Ok (with_kept ys p))
    kept_after {xs} {ys} first is second = reads_both first second (λ t so e. (so.0, nothing_asked xs)) (λ t so e h.
        ap (with_kept ys) e ∙ ap (λ (ws : List RequestSlot). with_kept ws (known t o))
        (h ∙ ap (map (kept_filled t)) (is ∙ ap (λ (q : Overlay). q.kept) e)
        ∙ map-map (kept_filled t) (books_filled t) o.kept))

-- ---- without what they are filled with

pub emptied_known : (o : Overlay) (n : ℕ) (b : List BranchSlot) (f : List FloorSlot) (e : List TellerSlot)
    (a : List AccountSlot) → map emptied_branch b ≡ map emptied_branch o.branches
    → map emptied_floor f ≡ map emptied_floor o.floors
    → map emptied_teller e ≡ map emptied_teller o.tellers
    → map emptied_account a ≡ map emptied_account o.accounts
    → emptied (with_accounts a (with_tellers e (with_floors f (with_branches b (with_count n o))))) ≡ emptied o
emptied_known o n b f e a eb ef ee ea = rw (eb, ef, ee, ea) refl

-- and with those of requests
pub emptied_kept : (p : Overlay) (k : List RequestSlot) → map emptied_request k ≡ map emptied_request p.kept
    → emptied (with_kept k p) ≡ emptied p
emptied_kept p k ek = rw ek refl
