-- Each slot tells of one row more.
use Rattle.std.proofs.Common.{◌++◌, ◌∷◌, ◌∙◌, [], map, refl, sym, ap, subst}
use Rattle.std.specs.List.{AllByRecursion}
use Rattle.bank_transactions.specs.Filling.{TellsBooks, told_more, unbooked}
use Rattle.bank_transactions.proofs.{HeldSlots.put_back, ToldBooks.all_more, ToldBooks.bare_told}
use Rattle.bank_transactions.proofs.closed.SmallVecRequestSlot1Gather.add.Goals as goal

pub returns-clause-told : goal.returns-clause-told
returns-clause-told c runs all =
    let back = put_back c.args.self.now _ c.tell_all.new.slots c.deref_mut.ensures.value c.tell_all.auto.slots in
    subst (AllByRecursion (TellsBooks (runs ++ c.args.row.now ∷ [])))
    (sym (back ∙ c.tell_all.ensures ∙ ap (map (told_more c.args.row.now)) c.deref_mut.ensures.value))
    (all_more runs c.args.row.now c.args.self.now.items all)

pub returns-clause-core : goal.returns-clause-core
returns-clause-core c =
    let back = put_back c.args.self.now _ c.tell_all.new.slots c.deref_mut.ensures.value c.tell_all.auto.slots in
    ap (map unbooked) (back ∙ c.tell_all.ensures ∙ ap (map (told_more c.args.row.now)) c.deref_mut.ensures.value)
    ∙ bare_told (told_more c.args.row.now) (λ s. refl) c.args.self.now.items
