-- What a seal comes to.
use Rattle.std.proofs.Common.{◌≡◌, ◌∙◌, List, Bool, true, false, inl, refl}
use Rattle.std.proofs.lemmas.Result.{IfOk-weaker}
use Rattle.std.specs.Prelude.{◌&&◌, if◌then◌else◌, nat_le, not}
use Rattle.posting_rules.specs.{believed.Closings.closings, believed.Closings.is_closed_in, Closings.closing_for}
use Rattle.posting_rules.specs.believed.Closings.{seal}
use Rattle.posting_rules.specs.declared.{closed_numbers.Closing.TheVariants.Already, rows.ClosingRow.ClosingRow}
use Rattle.posting_rules.specs.declared.closed_numbers.Closing.TheVariants.{Closed, Overlaps}
use Rattle.bank_store.proofs.ApartRows.{row_sound}
use Rattle.bank_store.proofs.bank.Bank.seal.Goals as goal

-- the answer of a seal, by whether there is one
by_seal : (is : Bool) → (if nat_le 0 0 && not is then Closed else if is then Already else Overlaps)
    ≡ (if is then Already else Closed)
by_seal true = refl
by_seal false = refl

seal_answer : (runs : List ClosingRow) → closing_for runs 0 0 ≡ if is_closed_in runs 0 then Already else Closed
seal_answer runs = by_seal (is_closed_in runs 0)

pub close_run-requires : goal.close_run-requires
close_run-requires g c = rw c.seal.ensures (row_sound seal (inl (refl, refl)))

pub returns : goal.returns
returns g c =
    let it = rw c.seal.ensures at c.close_run.ensures in
    record {
      answer = IfOk-weaker c.close_run.result _ _ (λ closing told clean log s. told clean log s ∙ seal_answer (closings log))
          it.answer;
      call = it.call;
      frugal = it.frugal;
      stored = it.stored;
      own = it.own;
      spares = it.spares;
    }
