use Rattle.std.proofs.Common.{◌≡◌, ◌∙◌, ◌++◌, ℕ, List, Result, map, sym, ap, subst}
use Rattle.message_records.specs.{declared.fault.Bad.Bad, believed.Reading.request_of, believed.Records.RequestFields}
use Rattle.posting_batch.specs.Batch.{CoversAll, HasRisingSlots, covering_all, no_slots}
use Rattle.posting_batch.specs.declared.overlay.Overlay as held
use Rattle.posting_batch.specs.{Overlay.Overlay, View.view, View.IsForRecords}
use Rattle.posting_batch.proofs.{SlotsForRecords.covers_all, SlotsInOrder.made_all}
use Rattle.posting_batch.proofs.batch.Batch.new.Goals as goal

none_yet : (o : held.Overlay) (count : ℕ) → IsForRecords count o → view o ≡ no_slots
none_yet o count is = cc

is_covered : (c : goal.After-result-1)
    → view c.decode_all.new.overlay ≡ covering_all no_slots (map request_of c.args.records.now)
is_covered c =
    c.decode_all.ensures.overlay
    ∙ ap (λ (o : Overlay). covering_all o (map request_of c.args.records.now))
    (none_yet c.in_ok-overlay.overlay _ c.in_ok-overlay.ensures)

pub returns-clause-made : goal.returns-clause-made
returns-clause-made c = record {
  reads =
      c.decode_all.ensures.reads
      ∙ ap (λ (reads : List (Result RequestFields Bad)). reads ++ map request_of c.args.records.now)
      c.in_ok-reads.ensures.items;
  overlay = is_covered c;
}

pub returns-clause-covers : goal.returns-clause-covers
returns-clause-covers c =
    let reads : List (Result RequestFields Bad) = map request_of c.args.records.now in
    subst (λ (o : Overlay). CoversAll o reads) (sym (is_covered c)) (covers_all no_slots reads)

pub returns-clause-rising : goal.returns-clause-rising
returns-clause-rising c =
    subst (λ (o : Overlay). HasRisingSlots o) (sym (is_covered c)) (made_all (map request_of c.args.records.now)).rising
