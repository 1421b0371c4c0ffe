-- The parts of a batch that are filled one after another, but for its requests.
use Rattle.std.proofs.Common.{List, map, sym, ap, refl, subst, ◌∙◌}
use Rattle.std.specs.List.{AllByRecursion}
use Rattle.std.proofs.lemmas.Result.{on_ok_weaker}
use Rattle.sqlite.specs.Effect.{Database}
use Rattle.posting_rules.specs.believed.Numbering.{branch_of_account, branch_of_teller}
use Rattle.posting_batch.specs.{declared.slots.AccountSlot.AccountSlot, declared.slots.BranchSlot.BranchSlot}
use Rattle.posting_batch.specs.{declared.slots.FloorSlot.FloorSlot, declared.slots.TellerSlot.TellerSlot, View.view}
use Rattle.store_rows.specs.believed.Rules.{HoldsBank}
use Rattle.bank_transactions.specs.Filling.{AccountHeld, BranchHeld, FloorHeld, TellerHeld, emptied_account}
use Rattle.bank_transactions.specs.Filling.{HasOwnRow, emptied_branch, emptied_floor, emptied_teller}
use Rattle.bank_transactions.proofs.HeldSlots.{know_branches, know_floors, put_back}
use Rattle.smallvec.specs.SmallVec.{with_items}
use Rattle.sqlite_trees.proofs.ListLemmas.{all_both}
use Rattle.bank_transactions.proofs.LookUps.{reads_but, reads_ok, reads_so, reads_wider, strays_fail}
use Rattle.bank_transactions.proofs.FilledBatch.{accounts_in, branches_in, count_in, floors_in, nothing_asked}
use Rattle.bank_transactions.proofs.FilledBatch.{emptied_known, handed_last, same_known, tellers_in}
use Rattle.bank_transactions.proofs.Exits.{clean_at, handed_on}
use Rattle.bank_transactions.proofs.slots.fill_rows.Goals as goal

pub known_decided-requires : goal.known_decided-requires
known_decided-requires g c = c.requires

pub fill_all-requires : goal.fill_all-requires
fill_all-requires g c = c.in_ok-overlay.ensures.remembers

pub fill_all-requires-2 : goal.fill_all-requires-2
fill_all-requires-2 g c = c.in_ok-fill_all.ensures.remembers

pub fill_all-requires-3 : goal.fill_all-requires-3
fill_all-requires-3 g c = c.in_ok-fill_all-2.ensures.remembers

pub fill_all-requires-4 : goal.fill_all-requires-4
fill_all-requires-4 g c = c.in_ok-fill_all-3.ensures.remembers

pub returns-in_err-overlay : goal.returns-in_err-overlay
returns-in_err-overlay g c = rw (handed_on c.from_residual.result c.from_residual.ensures.1) (record {
  new_rows = (refl, refl, refl, refl);
  says = strays_fail c.in_err-overlay.ensures.says;
  same = tt;
  stored = tt;
  own = tt;
  remembers = tt;
})

pub returns-in_err-fill_all : goal.returns-in_err-fill_all
returns-in_err-fill_all g c =
    let s1 = count_in {g = g.S.Store} (view c.args.overlay.now) _ (reads_ok c.in_ok-overlay.ensures.says) in
    rw (handed_on c.from_residual-in_err-fill_all.result c.from_residual-in_err-fill_all.ensures.1) (record {
      new_rows = (refl, refl, refl, refl);
      says = reads_wider (reads_but s1 c.in_err-fill_all.ensures.says);
      same = tt;
      stored = tt;
      own = tt;
      remembers = tt;
    })

pub returns-in_err-fill_all-2 : goal.returns-in_err-fill_all-2
returns-in_err-fill_all-2 g c =
    let s1 = count_in {g = g.S.Store} (view c.args.overlay.now) _ (reads_ok c.in_ok-overlay.ensures.says) in
    let s2 = branches_in s1 c.deref_mut.ensures.value c.in_ok-fill_all.ensures.says in
    rw (handed_on c.from_residual-in_err-fill_all-2.result c.from_residual-in_err-fill_all-2.ensures.1) (record {
      new_rows = (refl, refl, refl, refl);
      says = reads_wider (reads_but s2 c.in_err-fill_all-2.ensures.says);
      same = tt;
      stored = tt;
      own = tt;
      remembers = tt;
    })

pub returns-in_err-fill_all-3 : goal.returns-in_err-fill_all-3
returns-in_err-fill_all-3 g c =
    let s1 = count_in {g = g.S.Store} (view c.args.overlay.now) _ (reads_ok c.in_ok-overlay.ensures.says) in
    let s2 = branches_in s1 c.deref_mut.ensures.value c.in_ok-fill_all.ensures.says in
    let s3 = floors_in s2 c.deref_mut-2.ensures.value c.in_ok-fill_all-2.ensures.says in
    rw (handed_on c.from_residual-in_err-fill_all-3.result c.from_residual-in_err-fill_all-3.ensures.1) (record {
      new_rows = (refl, refl, refl, refl);
      says = reads_wider (reads_but s3 c.in_err-fill_all-3.ensures.says);
      same = tt;
      stored = tt;
      own = tt;
      remembers = tt;
    })

pub returns-clause-says : goal.returns-clause-says
returns-clause-says g c =
    let o = view c.args.overlay.now in
    let bv = c.args.overlay.now.branches in
    let fv = c.args.overlay.now.floors in
    let tv = c.args.overlay.now.tellers in
    let av = c.args.overlay.now.accounts in
    let bs = put_back bv _ c.fill_all.new.slots c.deref_mut.ensures.value c.fill_all.auto.slots in
    let s1 = count_in {g = g.S.Store} o _ (reads_ok c.in_ok-overlay.ensures.says) in
    let s2 = branches_in s1 c.deref_mut.ensures.value c.in_ok-fill_all.ensures.says in
    let s3 = floors_in s2 c.deref_mut-2.ensures.value c.in_ok-fill_all-2.ensures.says in
    let s4 = tellers_in s3
    (c.deref.ensures ∙ bs) c.deref_mut-3.ensures.value c.in_ok-fill_all-3.ensures.says in
    let held = same_known o c.in_ok-overlay.field-0
    (with_items bv c.fill_all.new.slots).items c.fill_all.new.slots
    (with_items fv c.fill_all-2.new.slots).items c.fill_all-2.new.slots
    (with_items tv c.fill_all-3.new.slots).items c.fill_all-3.new.slots
    (with_items av c.fill_all-4.new.slots).items c.fill_all-4.new.slots
    bs (put_back fv _ c.fill_all-2.new.slots c.deref_mut-2.ensures.value c.fill_all-2.auto.slots)
    (put_back tv _ c.fill_all-3.new.slots c.deref_mut-3.ensures.value c.fill_all-3.auto.slots)
    (put_back av _ c.fill_all-4.new.slots c.deref_mut-4.ensures.value c.fill_all-4.auto.slots) in
    reads_wider (handed_last c.fill_all-4.result s4 c.fill_all-4.ensures.says (λ last.
    reads_so (accounts_in s4 (c.deref-2.ensures ∙ bs) c.deref_mut-4.ensures.value last)
    (λ t so. (so, λ e. held ∙ e))))

pub returns-clause-new_rows : goal.returns-clause-new_rows
returns-clause-new_rows g c = (refl, refl, refl, refl)

pub returns-clause-remembers : goal.returns-clause-remembers
returns-clause-remembers g c = c.fill_all-4.ensures.remembers

-- ---- of whatever rows a file holds

pub returns-clause-same : goal.returns-clause-same
returns-clause-same g c =
    let o = view c.args.overlay.now in
    let bv = c.args.overlay.now.branches in
    let fv = c.args.overlay.now.floors in
    let tv = c.args.overlay.now.tellers in
    let av = c.args.overlay.now.accounts in
    on_ok_weaker c.fill_all-4.result (λ last. emptied_known o c.in_ok-overlay.field-0
    (with_items bv c.fill_all.new.slots).items (with_items fv c.fill_all-2.new.slots).items
    (with_items tv c.fill_all-3.new.slots).items
    (with_items av c.fill_all-4.new.slots).items
    (ap (map emptied_branch) (put_back bv _ c.fill_all.new.slots c.deref_mut.ensures.value c.fill_all.auto.slots)
    ∙ c.in_ok-fill_all.ensures.same ∙ ap (map emptied_branch) c.deref_mut.ensures.value)
    (ap (map emptied_floor) (put_back fv _ c.fill_all-2.new.slots c.deref_mut-2.ensures.value c.fill_all-2.auto.slots)
    ∙ c.in_ok-fill_all-2.ensures.same ∙ ap (map emptied_floor) c.deref_mut-2.ensures.value)
    (ap (map emptied_teller) (put_back tv _ c.fill_all-3.new.slots c.deref_mut-3.ensures.value
    c.fill_all-3.auto.slots)
    ∙ c.in_ok-fill_all-3.ensures.same ∙ ap (map emptied_teller) c.deref_mut-3.ensures.value)
    (ap (map emptied_account) (put_back av _ c.fill_all-4.new.slots c.deref_mut-4.ensures.value
    c.fill_all-4.auto.slots)
    ∙ last ∙ ap (map emptied_account) c.deref_mut-4.ensures.value)) c.fill_all-4.ensures.same

pub returns-clause-stored : goal.returns-clause-stored
returns-clause-stored g c = on_ok_weaker c.fill_all-4.result (λ last clean homes rows has.
    let o = view c.args.overlay.now in
    let bv = c.args.overlay.now.branches in
    let fv = c.args.overlay.now.floors in
    let tv = c.args.overlay.now.tellers in
    let av = c.args.overlay.now.accounts in
    let zero = c.in_ok-overlay.ensures in
    let one = c.in_ok-fill_all.ensures in
    let two = c.in_ok-fill_all-2.ensures in
    let three = c.in_ok-fill_all-3.ensures in
    let clean3 = clean_at c.fill_all-4.ensures.says.says.survives clean in
    let clean2 = clean_at three.says.says.survives clean3 in
    let clean1 = clean_at two.says.says.survives clean2 in
    let clean0 = clean_at one.says.says.survives clean1 in
    let has0 = subst (λ (db : Database). HoldsBank db rows) (sym (zero.says.says.leaves clean0).0.now) has in
    let has1 = subst (λ (db : Database). HoldsBank db rows) (sym (one.says.says.leaves clean1).0.now) has0 in
    let has2 = subst (λ (db : Database). HoldsBank db rows) (sym (two.says.says.leaves clean2).0.now) has1 in
    let has3 = subst (λ (db : Database). HoldsBank db rows) (sym (three.says.says.leaves clean3).0.now) has2 in
    let bs = put_back bv _ c.fill_all.new.slots c.deref_mut.ensures.value c.fill_all.auto.slots in
    let branches = one.stored clean1 rows has0 (nothing_asked _) in
    let fs = put_back fv _ c.fill_all-2.new.slots c.deref_mut-2.ensures.value c.fill_all-2.auto.slots in
    let floors = two.stored clean2 rows has1 (nothing_asked _) in
    let same = one.same ∙ ap (map emptied_branch) c.deref_mut.ensures.value in
    record {
      branches = subst (λ (slots : List BranchSlot). AllByRecursion (BranchHeld rows) slots) (sym bs) branches;
      floors = subst (λ (slots : List FloorSlot). AllByRecursion (FloorHeld rows) slots) (sym fs) floors;
      tellers = subst (λ (slots : List TellerSlot). AllByRecursion (TellerHeld rows) slots)
          (sym (put_back tv _ c.fill_all-3.new.slots c.deref_mut-3.ensures.value c.fill_all-3.auto.slots))
          (three.stored clean3 rows has2
          (know_branches (λ s. branch_of_teller s.teller) rows o.branches _ c.fill_all.new.slots o.tellers _
          (c.deref.ensures ∙ bs) c.deref_mut-3.ensures.value same branches homes.tellers));
      accounts = subst (λ (slots : List AccountSlot). AllByRecursion (AccountHeld rows) slots)
          (sym (put_back av _ c.fill_all-4.new.slots c.deref_mut-4.ensures.value c.fill_all-4.auto.slots))
          (last clean rows has3
          (all_both _ _ _ (λ s branch floor. (branch, floor)) _
          (know_branches (λ s. branch_of_account s.account) rows o.branches _ c.fill_all.new.slots o.accounts _
          (c.deref-2.ensures ∙ bs) c.deref_mut-4.ensures.value same branches homes.accounts)
          (know_floors (λ s. branch_of_account s.account) rows o.floors _ c.fill_all-2.new.slots o.accounts _
          (c.deref-3.ensures ∙ fs) c.deref_mut-4.ensures.value
          (two.same ∙ ap (map emptied_floor) c.deref_mut-2.ensures.value) floors homes.floors)));
      decided = zero.stored clean0 rows has;
    }) c.fill_all-4.ensures.stored

-- ---- whatever tables it has

pub returns-clause-own : goal.returns-clause-own
returns-clause-own g c = on_ok_weaker c.fill_all-4.result (λ _ clean.
    let bv = c.args.overlay.now.branches in
    let one = c.in_ok-fill_all.ensures in
    let clean3 = clean_at c.fill_all-4.ensures.says.says.survives clean in
    let clean2 = clean_at c.in_ok-fill_all-3.ensures.says.says.survives clean3 in
    let clean1 = clean_at c.in_ok-fill_all-2.ensures.says.says.survives clean2 in
    subst (λ (slots : List BranchSlot). AllByRecursion HasOwnRow slots)
    (sym (put_back bv _ c.fill_all.new.slots c.deref_mut.ensures.value c.fill_all.auto.slots)) (one.own clean1)) c.fill_all-4.ensures.remembers
