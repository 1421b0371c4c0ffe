-- What is remembered of closed numbers is what their rows say.
use Rattle.std.proofs.Common.{◌∙◌, [], List, Option, map, refl, sym, ap, subst}
use Rattle.std.proofs.Math.Logic.{∥∥₁_elim}
use Rattle.std.proofs.lemmas.Result.{on_ok_weaker}
use Rattle.std.specs.{Coded.coded_bool, List.AllByRecursion, Prelude.IfSome}
use base.Stored.{Coded-set}
use Rattle.sqlite.specs.{Held.state}
use Rattle.posting_rules.specs.declared.rows.ClosingRow.{ClosingRow}
use Rattle.bank_transactions.specs.Filling.{TellsBooks, told_by, unbooked}
use Rattle.bank_transactions.specs.{Memory.NumbersLie, Memory.Remembers, believed.Stored.HasNumbers}
use Rattle.bank_transactions.proofs.{ClosedRows.has_numbers, HeldSlots.put_back}
use Rattle.bank_transactions.proofs.ToldBooks.{all_told, all_unread, bare_told}
use Rattle.bank_transactions.proofs.closed.tell_books.Goals as goal

pub gather_closings-requires : goal.gather_closings-requires
gather_closings-requires g c =
    let back = put_back c.args.slots.now _ c.tell_all-in-None.new.slots c.deref_mut-in-None.ensures.value
    c.tell_all-in-None.auto.slots in
    subst (AllByRecursion (TellsBooks []))
    (sym (back ∙ c.tell_all-in-None.ensures ∙ ap (map unbooked) c.deref_mut-in-None.ensures.value))
    (all_unread c.args.slots.now.items)

pub returns-in-Some-clause-same : goal.returns-in-Some-clause-same
returns-in-Some-clause-same g c =
    let back = put_back c.args.slots.now _ c.tell_all.new.slots c.deref_mut.ensures.value c.tell_all.auto.slots in
    ap (map unbooked) (back ∙ c.tell_all.ensures ∙ ap (map (told_by c.in-Some.closed)) c.deref_mut.ensures.value)
    ∙ bare_told (told_by c.in-Some.closed) (λ s. refl) c.args.slots.now.items

pub returns-in-Some-clause-closed : goal.returns-in-Some-clause-closed
returns-in-Some-clause-closed g c =
    let closed = c.in-Some.closed in
    let db = (state g.S.Store c.args.tx.now.conn.now).now in
    let back = put_back c.args.slots.now _ c.tell_all.new.slots c.deref_mut.ensures.value c.tell_all.auto.slots in (
      closed,
      subst (AllByRecursion (TellsBooks closed))
          (sym (back ∙ c.tell_all.ensures ∙ ap (map (told_by closed)) c.deref_mut.ensures.value))
          (all_told closed c.args.slots.now.items),
      λ clean file rows holds.
          let its : Remembers g.S.Store c.args.tx.now.conn.now c.args.memory.now → HasNumbers rows closed =
          (λ it. subst (λ (o : Option (List ClosingRow)). IfSome o (NumbersLie db)) c.in-Some.is (it clean file).closed rows
          holds.rows) in
          record {
            read = ∥∥₁_elim c.requires (Coded-set coded_bool _ _) (λ it. (its it).read);
            numbers = λ x. ∥∥₁_elim c.requires (Coded-set coded_bool _ _) (λ it. (its it).numbers x);
          },
    )

pub returns-in-None-clause-same : goal.returns-in-None-clause-same
returns-in-None-clause-same g c =
    let back = put_back c.args.slots.now _ c.tell_all-in-None.new.slots c.deref_mut-in-None.ensures.value
    c.tell_all-in-None.auto.slots in
    c.gather_closings.ensures.core
    ∙ ap (map unbooked) (back ∙ c.tell_all-in-None.ensures ∙ ap (map unbooked) c.deref_mut-in-None.ensures.value)
    ∙ bare_told unbooked (λ s. refl) c.args.slots.now.items

pub returns-in-None-clause-closed : goal.returns-in-None-clause-closed
returns-in-None-clause-closed g c = on_ok_weaker c.gather_closings.result (λ it. (
  it.0,
  it.1,
  λ clean file rows holds.
      has_numbers rows it.0 it.0 (it.2 clean file rows holds) (λ x. refl),
)) c.gather_closings.ensures.told
