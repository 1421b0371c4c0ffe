use Rattle.std.proofs.Common.{◌≡◌, ◌∙◌, ◌+◌, ◌++◌, ℕ, List, Result, length, map, refl, sym, ap, subst}
use Rattle.std.proofs.lemmas.List.{length-map}
use Rattle.message_records.specs.declared.fault.Bad.{Bad}
use Rattle.message_records.specs.believed.{Reading.request_of, Records.RequestFields, Spelling.reply_spelling}
use Rattle.posting_rules.specs.believed.Changes.{tables_past_all, replies_past_all}
use Rattle.posting_rules.specs.believed.Tables.{Tables}
use Rattle.posting_batch.specs.Batch.{ChangesRows, HasRisingSlots, AddsFreeRows, covering_all, no_slots, filled}
use Rattle.posting_batch.specs.Batch.{HasNextOrdinals, KeepsNew, blanked}
use Rattle.posting_batch.specs.believed.Batch.{HasFreeOrdinals}
use Rattle.posting_batch.specs.{Judging.overlay_with_all, Judging.replies_over, View.view}
use Rattle.posting_batch.specs.Overlay.{Overlay, tables_over}
use Rattle.posting_batch.proofs.{Blanked.blank_all, Blanked.keeps_all, Covered.stands}
use Rattle.posting_batch.proofs.{NewRows.all_changes, NewRows.all_adds, NextOrdinals.next_all}
use Rattle.posting_batch.proofs.Idle.{all_answered, all_idle, all_rows}
use Rattle.posting_batch.proofs.InOrder.{all_tables, all_replies, all_rising, judged}
use Rattle.posting_batch.proofs.batch.Batch.judge.Goals as goal

pub returns-clause-judged : goal.returns-clause-judged
returns-clause-judged c t records is free =
    let m = c.args.moment in
    let reads : List (Result RequestFields Bad) = map request_of records in
    let old = filled t (covering_all no_slots reads) in
    let it = stands t reads in
    let over : HasFreeOrdinals (tables_over old t) (length records) =
    subst (λ (u : Tables). HasFreeOrdinals u (length records)) (sym it.same) free in
    let each = subst (λ (n : ℕ). HasFreeOrdinals (tables_over old t) n) (sym (length-map records request_of)) over in
    let after = judged m c.judge_records.ensures.overlay (c.as_slice.ensures ∙ is.reads) is.overlay in
    let are : c.judge_records.new.replies.items ≡ replies_past_all t m records =
    c.judge_records.ensures.replies
    ∙ ap (λ (items : List (List ℕ)). items
    ++ map reply_spelling (replies_over (view c.args.self.overlay) m c.as_slice.result.now)) c.args.self.fresh
    ∙ ap (λ (rs : List (Result RequestFields Bad)). map reply_spelling
    (replies_over (view c.args.self.overlay) m rs)) (c.as_slice.ensures ∙ is.reads)
    ∙ ap (λ (o : Overlay). map reply_spelling (replies_over o m reads)) is.overlay
    ∙ all_replies old t m records over it.fits it.covers ∙ ap
    (λ (u : Tables). replies_past_all u m records) it.same in
    record {
      tables =
          ap (λ (o : Overlay). tables_over o t) after ∙ all_tables old t m records over it.fits it.covers
          ∙ ap (λ (u : Tables). tables_past_all u m records) it.same;
      answers = are;
      changes = subst (λ (o : Overlay). ChangesRows o t) (sym after)
          (all_changes old t m reads each it.fits it.unchanged it.covers);
      adds = subst (λ (o : Overlay). AddsFreeRows o t) (sym after)
          (all_adds old t m reads each it.fits it.unchanged it.covers);
    }

pub returns-clause-rising : goal.returns-clause-rising
returns-clause-rising c rising =
    subst (λ (o : Overlay). HasRisingSlots o) (sym c.judge_records.ensures.overlay)
    (all_rising (view c.args.self.overlay) c.args.moment c.as_slice.result.now rising)

pub returns-clause-count : goal.returns-clause-count
returns-clause-count c =
    let old = view c.args.self.overlay in
    let reads = c.as_slice.result.now in
    ap length c.judge_records.ensures.replies
    ∙ ap (λ (items : List (List ℕ)). length (items
    ++ map reply_spelling (replies_over old c.args.moment reads))) c.args.self.fresh
    ∙ all_answered old c.args.moment reads ∙ ap length c.as_slice.ensures

pub returns-clause-next : goal.returns-clause-next
returns-clause-next c none =
    let old = view c.args.self.overlay in
    subst (λ (reads : List (Result RequestFields Bad)).
    HasNextOrdinals old.decided (length reads) (view c.judge_records.new.self)) c.as_slice.ensures
    (subst (HasNextOrdinals old.decided (length c.as_slice.result.now)) (sym c.judge_records.ensures.overlay)
    (next_all old c.args.moment c.as_slice.result.now none))

pub returns-clause-counts : goal.returns-clause-counts
returns-clause-counts c =
    let old = view c.args.self.overlay in
    subst (λ (o : Overlay). o.decided + length old.requests ≡ old.decided + length o.requests)
    (sym c.judge_records.ensures.overlay)
    (all_rows old c.args.moment c.as_slice.result.now)

pub returns-clause-idle : goal.returns-clause-idle
returns-clause-idle c none =
    let old = view c.args.self.overlay in
    let reads = c.as_slice.result.now in
    let is : view c.judge_records.new.self ≡ overlay_with_all old c.args.moment reads =
    c.judge_records.ensures.overlay in
    is ∙ all_idle old c.args.moment reads (ap (λ (o : Overlay). o.decided) (sym is) ∙ none)

pub returns-clause-again : goal.returns-clause-again
returns-clause-again c = record {
  reads = refl;
  keys =
      ap blanked c.judge_records.ensures.overlay
      ∙ blank_all (view c.args.self.overlay) c.args.moment c.as_slice.result.now;
  own = λ keeps. subst KeepsNew (sym c.judge_records.ensures.overlay)
      (keeps_all (view c.args.self.overlay) c.args.moment c.as_slice.result.now keeps);
}
