-- Texts of kept rows, one row more, and those of a log.
use Rattle.std.proofs.Common.{◌≡◌, ◌++◌, ℕ, true, List, [], ◌∷◌, map, Option, Result, Ok, Err}
use Rattle.std.proofs.Common.{refl, sym, ap, subst, ◌∙◌, append-nil, append_assoc, inl, inr}
use Rattle.std.specs.{Io.KnownBytes.Appends, Prelude.IfErr, Prelude.OnOk}
use Rattle.std.specs.List.{AllByRecursion}
use Rattle.std.proofs.KnownBytes.{Appends-trans}
use Rattle.std.proofs.lemmas.List.{map-append}
use Rattle.report_contents.specs.Written.{AppendsPart}
use Rattle.report_contents.proofs.Written.{later_failed, same_all, same_part, then_part, whole_part}
use Rattle.posting_core.specs.EndCalls.{HasWriteFailed, WriteCall}
use Rattle.posting_core.proofs.Telling.{more_more}
use Rattle.posting_rules.specs.declared.fault.Fault.{Fault}
use Rattle.posting_rules.specs.declared.fault.Fault.TheVariants.{Damaged, Down, Memory, Store}
use Rattle.walked_rows.proofs.RisingRows.{all-append}
use Rattle.walked_rows.specs.{KeptRows.BreaksKept, KeptRows.KeptItem, KeptRows.kept_item, declared.kept.KeptRequest.KeptRequest}
use Rattle.posting_rules.specs.declared.fault.Rule.{Rule}
use Rattle.bank_replays.specs.{Visiting.AreTooMany, Visiting.Bars, Visiting.Why, Refusing.RefusesAfter}
use Rattle.bank_replays.specs.Prefixes.{memory_is, not_write}
use Rattle.bank_replays.specs.Writing.{BreaksWritten, IsWritten, Puts, WhyNoMore, WritesRows, WritesSound, WroteRows}
use Rattle.bank_replays.specs.Writing.{WroteSomeRows, is_after, texts_after}
use Rattle.bank_replays.specs.declared.fault.ReplayFault.{ReplayFault, TheVariants.Bank, TheVariants.Write}
use Rattle.bank_replays.proofs.TextsAfter.{one_text, text_more, texts-append, texts_part}
use Rattle.bank_replays.proofs.Wrote.{end_part, end_wrote}

-- ---- what is left of the writer, one row more

module _ {Is : KeptItem → Type 0} {text : KeptItem → List ℕ} (after : ℕ) (rows : List KeptRequest) (row : KeptRequest)
    {old mid : Option (List ℕ)} {t t' : Option (List WriteCall)}
    (visited : WroteRows Is text after (map kept_item rows) old mid t t') where
  each_more : IsWritten Is after (kept_item row) → AllByRecursion (IsWritten Is after) (map kept_item (rows ++ row ∷ []))
  each_more is =
      subst (AllByRecursion (IsWritten Is after)) (sym (map-append kept_item rows (row ∷ [])))
      (all-append (IsWritten Is after) (map kept_item rows) (kept_item row ∷ []) visited.each (is, tt))

  -- it is no such one
  pub rows_refused : (fault : Fault) → (fault ≡ Memory → ⊥)
      → WroteSomeRows Is text after (map kept_item rows) (kept_item row ∷ []) old mid t t' (Bank fault)
  rows_refused fault other = record {
    wrote = visited.wrote;
    each = visited.each;
    last = λ is. absurd (not_write fault is);
    many = λ is. absurd (other (memory_is fault is));
  }

  module _ (is : is_after after (kept_item row) ≡ true) (such : Is (kept_item row)) (bytes : List ℕ)
      (same : bytes ≡ text (kept_item row)) {new : Option (List ℕ)} {t'' : Option (List WriteCall)} where
    -- it was written
    pub rows_put : (result : Result (Unit {0}) ReplayFault) → Puts bytes mid new t' t'' result
        → OnOk result (WroteRows Is text after (map kept_item (rows ++ row ∷ [])) old new t t'')
    rows_put (Ok done) puts = record {
      wrote = (
        same_all old new
            (ap (λ (x : List ℕ). texts_after text after (map kept_item rows) ++ x) same ∙ text_more text after rows row is)
            (Appends-trans old mid new (texts_after text after (map kept_item rows)) bytes visited.wrote.0 puts.text),
        more_more visited.wrote.1 puts.more,
      );
      each = each_more (λ above. such);
    }
    rows_put (Err fault) puts = tt

    -- or a prefix of it was
    pub rows_part : (result : Result (Unit {0}) ReplayFault) → Puts bytes mid new t' t'' result
        → IfErr result (λ fault. WroteSomeRows Is text after (map kept_item rows) (kept_item row ∷ []) old new t t'' fault)
    rows_part (Ok done) puts = tt
    rows_part (Err fault) puts =
        subst (λ (fault : ReplayFault). WroteSomeRows Is text after (map kept_item rows) (kept_item row ∷ []) old new t t'' fault)
        (sym puts.only)
        (record {
          wrote = (
            same_part old new
                (ap (λ (x : List ℕ). texts_after text after (map kept_item rows) ++ x)
                (same ∙ sym (one_text text after (kept_item row) is)))
                (then_part old mid new (texts_after text after (map kept_item rows)) bytes visited.wrote.0 puts.text),
            later_failed visited.wrote.1 puts.failed,
          );
          each = visited.each;
          last = λ write. (λ above. such, tt);
          many = λ memory. absurd cc;
        })

-- ---- the end

-- where the writer is said to have failed it did
pub rows_failed : {Is : KeptItem → Type 0} {text : KeptItem → List ℕ} {after : ℕ} {items next : List KeptItem} {old new : Option (List ℕ)}
    {t t' : Option (List WriteCall)} (fault : ReplayFault) → WroteSomeRows Is text after items next old new t t' fault
    → fault ≡ Write → HasWriteFailed t t'
rows_failed Write some is = some.wrote.1
rows_failed (Bank fault) some is = absurd (not_write fault is)

as_written : (Is : KeptItem → Type 0) (after : ℕ) (rule : Rule) (k : KeptItem)
    → Bars kept_item BreaksKept (RefusesAfter Is after) rule k → BreaksWritten Is after rule k
as_written Is after rule k (inl breaks) = inl breaks
as_written Is after rule k (inr refused) = inr (
  refused.2.0,
  subst (λ k. is_after after k ≡ true) (sym refused.1) refused.2.1,
  λ such. refused.2.2 (subst Is refused.1 such),
)

-- why a fault of the bank ended it
no_more : (Is : KeptItem → Type 0) (after : ℕ) (Failed WasDown : Type 0) (items coming : List KeptItem) (fault : Fault)
    → ((let f : ReplayFault = Bank fault in f) ≡ Bank Memory → AreTooMany items)
    → Why (Bars kept_item BreaksKept (RefusesAfter Is after)) Failed WasDown coming (Bank fault)
    → WhyNoMore Is after items coming (Err (Bank fault))
no_more Is after Failed WasDown items coming Memory many why = many refl
no_more Is after Failed WasDown items coming Store many why = tt
no_more Is after Failed WasDown items coming Down many why = tt
no_more Is after Failed WasDown items coming (Damaged rule) many why =
    (why.0, why.1, why.2, as_written Is after rule why.0 why.3)

module _ {Is : KeptItem → Type 0} {text : KeptItem → List ℕ} (after : ℕ) (all : List KeptItem) where
  -- a fault came at the next of the rows, or at none of them
  pub writes_part : (Failed WasDown : Type 0) {old new : Option (List ℕ)} {t t' : Option (List WriteCall)}
      (items next rest : List KeptItem) → items ++ (next ++ rest) ≡ all
      → (fault : ReplayFault) → WroteSomeRows Is text after items next old new t t' fault
      → Why (Bars kept_item BreaksKept (RefusesAfter Is after)) Failed WasDown (next ++ rest) fault
      → WritesRows Is text after all old new (Err fault)
  writes_part Failed WasDown {old} {new} items next rest are Write part why = record {
    given = items ++ next;
    rest = rest;
    are = append_assoc items next rest ∙ are;
    each = all-append (IsWritten Is after) items next part.each (part.last refl);
    wrote = same_part old new (sym (texts-append text after items next)) part.wrote.0;
    why = tt;
  }
  writes_part Failed WasDown {old} {new} items next rest are (Bank fault) part why = record {
    given = items;
    rest = next ++ rest;
    are = are;
    each = part.each;
    wrote = part.wrote.0;
    why = no_more Is after Failed WasDown items (next ++ rest) fault part.many why;
  }

  module _ {old mid new : Option (List ℕ)} {t t' : Option (List WriteCall)} (items : List KeptItem) (are : items ≡ all)
      (visited : WroteRows Is text after items old mid t t') where
    -- all were written, and what comes at the end couldn't be
    pub writes_end : AppendsPart mid new [] → WritesRows Is text after all old new (Err Write)
    writes_end end = record {
      given = items;
      rest = [];
      are = append-nil items ∙ are;
      each = visited.each;
      wrote = end_part old mid new (texts_after text after items) visited.wrote.0 end;
      why = tt;
    }

    pub writes_all : Appends mid new [] → WritesRows Is text after all old new (Ok tt)
    writes_all end = record {
      given = items;
      rest = [];
      are = append-nil items ∙ are;
      each = visited.each;
      wrote = end_wrote old mid new (texts_after text after items) visited.wrote.0 end;
      why = refl;
    }

  -- of a bank that shows a log they are never cut short by damage
  pub writes_sound : (old new : Option (List ℕ)) (whole : List ℕ) → texts_after text after all ≡ whole
      → (result : Result (Unit {0}) ReplayFault) → WritesRows Is text after all old new result
      → ((rule : Rule) → result ≡ Err (Bank (Damaged rule)) → ⊥) → WritesSound whole old new result
  writes_sound old new whole is (Ok done) it sound =
      same_all old new (ap (texts_after text after) (sym (append-nil it.given)
      ∙ ap (λ (l : List KeptItem). it.given ++ l) (sym it.why) ∙ it.are) ∙ is) it.wrote
  writes_sound old new whole is (Err Write) it sound =
      same_part old new is (texts_part text after old new it.given it.rest all it.are it.wrote)
  writes_sound old new whole is (Err (Bank (Damaged rule))) it sound = absurd (sound rule refl)
  writes_sound old new whole is (Err (Bank Memory)) it sound =
      same_part old new is (texts_part text after old new it.given it.rest all it.are (whole_part old new _ it.wrote))
  writes_sound old new whole is (Err (Bank Store)) it sound =
      same_part old new is (texts_part text after old new it.given it.rest all it.are (whole_part old new _ it.wrote))
  writes_sound old new whole is (Err (Bank Down)) it sound =
      same_part old new is (texts_part text after old new it.given it.rest all it.are (whole_part old new _ it.wrote))
