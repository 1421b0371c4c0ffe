-- Records whose slots are filled, judged and written.
use Rattle.std.proofs.Common.{◌≡◌, ℕ, List, length, map, Result, Ok, Err, refl, sym, ap, subst, ◌∙◌}
use Rattle.sqlite.specs.{Held.state, State.HasCleanDisk, declared.transaction.Transaction.Transaction}
use Rattle.sqlite_trees.specs.declared.store.Store.{Ghosts}
use Rattle.message_records.specs.believed.Reading.{request_of}
use Rattle.posting_rules.specs.believed.Changes.{tables_past_all, replies_past_all}
use Rattle.posting_rules.specs.believed.Tables.{Tables}
use Rattle.posting_batch.specs.{declared.batch.Batch.Batch, Overlay.Overlay}
use Rattle.posting_batch.specs.{Overlay.tables_over, View.view, View.reads_of, View.IsMadeOf, View.IsFilledFrom}
use Rattle.posting_batch.specs.Batch.{HasRisingSlots, filled}
use Rattle.posting_batch.specs.{Batch.IsJudged, believed.Batch.HasFreeOrdinals}
use Rattle.posting_batch.proofs.Covered.{stands}
use Rattle.store_rows.specs.{believed.Failures.Additions, believed.Rules.OfRows, declared.fault.TableFault.TableFault}
use Rattle.bank_transactions.specs.{believed.Batches.HasRoomFor, Filling.AreHeld, Filling.Closes, Filling.emptied}
use Rattle.bank_transactions.specs.Doing.{Acts, Does, Looks, ReadsWhere}
use Rattle.bank_transactions.proofs.Chained.{acts_read, acts_wrote, does_both, does_but, does_for, does_tell}
use Rattle.bank_transactions.proofs.{LookUps.finds_so, ShownSlots.shown_filled, Together.numbers}
use Rattle.bank_transactions.specs.Writing.{MayWrite}

-- what judging records comes to, whose slots were these and are filled now
pub record Judging {X : Type 0} (So : Tables → Type 0) (after : Tables → Tables) (wanted : Tables → X)
    (slots filled_slots judged : Overlay) (x : X) : Type 0 where
  pub tables : (t : Tables) → So t → filled_slots ≡ filled t slots → tables_over judged t ≡ after t
  pub answers : (t : Tables) → So t → filled_slots ≡ filled t slots → x ≡ wanted t
  pub writes : (t : Tables) → So t → filled_slots ≡ filled t slots → MayWrite judged t
  -- where nothing is decided, the tables are as they were
  pub back : judged.decided ≡ filled_slots.decided → (t : Tables) → So t → filled_slots ≡ filled t slots
      → after t ≡ t

module _ {X : Type 0} {So : Tables → Type 0} {after : Tables → Tables} {wanted : Tables → X} {p p' o : Overlay}
    {x : X} (so : Judging So after wanted p p' o x) where
  abbrev pub Knows : Tables → Type 0
  Knows t = So t × (p' ≡ filled t p)

  pub written_so : {S : Type 0} {g : Ghosts S} {Adds : Additions} {mid new : Transaction S}
      {r : Result (Unit {0}) TableFault}
      → Does {X = Unit {0}} g Adds mid new (MayWrite o) (λ t. tables_over o t) (λ _. tt {0}) r
      → Does {X = Unit {0}} g Adds mid new Knows after (λ _. tt {0}) r
  written_so second = does_for second (λ t it. (so.writes t it.0 it.1, so.tables t it.0 it.1, refl))

  module _ {S : Type 0} {g : Ghosts S} {Adds : Additions} {old mid : Transaction S}
      (first : Looks g Adds old mid So (λ t. t) (λ t. filled t p) (Ok p')) where
    -- where the count stays, it is the one that was read
    pub counts_none : (t : Tables) → So t → p' ≡ filled t p → (after t).decided ≡ t.decided
        → o.decided ≡ p'.decided
    counts_none t it e none = ap (λ (u : Tables). u.decided) (so.tables t it e) ∙ none
        ∙ sym (ap (λ (q : Overlay). q.decided) e)

    -- nothing is written, and the tables are as they were
    pub answered_idle : o.decided ≡ p'.decided → Acts g Adds old mid So after wanted (Ok x)
    answered_idle none =
        acts_read (does_tell first (λ t it. (it, λ e. (sym (so.back none t it e), so.answers t it e))))

    pub answered_written : {new : Transaction S}
        → Does {X = Unit {0}} g Adds mid new (MayWrite o) (λ t. tables_over o t) (λ _. tt {0}) (Ok (tt {0}))
        → Acts g Adds old new So after wanted (Ok x)
    answered_written second =
        acts_wrote (does_both first (written_so second) (λ t it e. ((it, e), refl, so.answers t it e)))

    pub answered_not : {new : Transaction S} {e : TableFault}
        → Does {X = Unit {0}} g Adds mid new (MayWrite o) (λ t. tables_over o t) (λ _. tt {0}) (Err e)
        → Acts {X = X} g Adds old new So after wanted (Err e)
    answered_not second = acts_wrote (does_but first (written_so second) (λ t it e. (it, e)))

-- ---- a batch

-- the slots are filled from the tables that are shown
pub fills : {S : Type 0} {g : Ghosts S} {old new : Transaction S} {So : Tables → Type 0} {w : Tables → Overlay}
    (count : ℕ) (p' p : Overlay) → ReadsWhere g old new So w (Ok p') → emptied p' ≡ emptied p
    → (HasCleanDisk (state g new.conn.now) → OfRows (λ rows. AreHeld rows p') (state g old.conn.now).now)
    → (HasCleanDisk (state g new.conn.now) → Closes (state g old.conn.now).now p'.kept)
    → ReadsWhere g old new (HasRoomFor count) (λ t. filled t p) (Ok p')
fills {g = g} {old = old} count p' p reads same held closed = finds_so reads (λ clean t shows room.
    shown_filled (state g old.conn.now).now t count p' p shows room same (held clean) (closed clean))

pub judging_all : (b b' : Batch) (records : List (List ℕ)) (m : ℕ) (o : Overlay) (items : List (List ℕ))
    → IsMadeOf b records → reads_of b' ≡ reads_of b
    → ((t : Tables) (rs : List (List ℕ)) → IsFilledFrom b' t rs → HasFreeOrdinals t (length rs)
    → IsJudged o items t m rs)
    → (HasRisingSlots (view b'.overlay) → HasRisingSlots o)
    → (o.decided ≡ b'.overlay.decided → o ≡ view b'.overlay)
    → Judging (HasRoomFor (length records)) (λ t. tables_past_all t m records)
    (λ t. replies_past_all t m records) (view b.overlay) (view b'.overlay) o items
judging_all b b' records m o items made same judged rising idle =
    let is : (t : Tables) → view b'.overlay ≡ filled t (view b.overlay) → IsFilledFrom b' t records =
    λ t e. record {
      reads = same ∙ made.reads;
      overlay = e ∙ ap (λ (p : Overlay). filled t p) made.overlay;
    } in
    let so : (t : Tables) → HasRoomFor (length records) t → view b'.overlay ≡ filled t (view b.overlay)
    → IsJudged o items t m records =
    λ t it e. judged t records (is t e) it.free in
    record {
      tables = λ t it e. (so t it e).tables;
      answers = λ t it e. (so t it e).answers;
      writes = λ t it e. (
        numbers t o.branches (length records) it (so t it e).changes.branches,
        rising (subst HasRisingSlots (sym (is t e).overlay) (stands t (map request_of records)).rising),
        (so t it e).changes,
        (so t it e).adds,
      );
      back = λ none t it e.
          sym (so t it e).tables
          ∙ ap (λ (p : Overlay). tables_over p t) (idle none ∙ (is t e).overlay)
          ∙ (stands t (map request_of records)).same;
    }
