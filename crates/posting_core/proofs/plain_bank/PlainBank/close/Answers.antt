-- What is answered where numbers aren't all free, and what is added where they are.
use Rattle.std.proofs.Common.{◌∙◌, [], ◌∷◌, ap, refl, sym}
use Rattle.posting_rules.specs.{Closings.closing_for, believed.Closings.closings}
use Rattle.posting_rules.specs.believed.Commands.{Close}
use Rattle.posting_rules.specs.believed.Tables.{Tables}
use Rattle.posting_rules.specs.declared.closed_numbers.Closing.TheVariants.{Closed}
use Rattle.posting_rules.proofs.Closings.{answer_shown, closing_keys}
use Rattle.posting_core.specs.{Appended.appended_run, Plain.plain_tables}
use Rattle.posting_core.proofs.Appending.{closed_shown, unclosed_shown}
use Rattle.posting_core.proofs.InMemory.{after_plain, answered_plain, memory_refused, no_answer, plain_shows}
use Rattle.posting_core.proofs.InMemory.{spared_plain}
use Rattle.posting_core.proofs.plain_bank.PlainBank.close.Goals as goal

pub returns-in_default : goal.returns-in_default
returns-in_default c =
    let bank = c.args.self.now in
    let t = plain_tables bank in
    let first = c.args.run.first in
    let last = c.args.run.last in
    let is = c.closing_for-closing.ensures ∙ ap (λ rows. closing_for rows first last) c.deref.ensures.value in
    record {
      answer = λ h log s.
          let shows = (plain_shows bank log s).rows in
          is ∙ answer_shown t.closings (closings log) shows.closing_keys (closing_keys log) shows.closings first last;
      call = answered_plain bank bank (Close first last ∷ []) c.closing_for-closing.result
          (after_plain bank bank (Close first last ∷ []) (λ u. u) (c.requires, tt) refl
          (λ log s. unclosed_shown t log first last (λ closed. c.in_default.not-Closed (is ∙ closed)) s));
    }

pub returns : goal.returns
returns c =
    let bank = c.args.self.now in
    let t = plain_tables bank in
    let first = c.args.run.first in
    let last = c.args.run.last in
    let is = sym c.in-Closed.is ∙ c.closing_for-closing.ensures ∙ ap (λ rows. closing_for rows first last) c.deref.ensures.value in
    let same = ap (λ rows. (let x : Tables = record t { closings = rows } in x)) c.reserve.ensures.items in
    record {
      answer = λ h log s.
          let shows = (plain_shows bank log s).rows in
          is ∙ answer_shown t.closings (closings log) shows.closing_keys (closing_keys log) shows.closings first last;
      call = answered_plain bank c.add_run.new.self (Close first last ∷ []) Closed
          (after_plain bank c.add_run.new.self (Close first last ∷ []) (λ u. appended_run u c.args.run) (c.requires, tt)
          (c.add_run.ensures.tables ∙ ap (λ (u : Tables). appended_run u c.args.run) same)
          (λ log s. closed_shown t log first last (sym is) s));
    }

pub returns-in_err-reserve : goal.returns-in_err-reserve
returns-in_err-reserve c =
    let refused = c.from_residual.ensures.1 in
    record {
      answer = no_answer _ _ refused;
      call = spared_plain _ _ _ _ (memory_refused _ refused) (rw (c.reserve.ensures.items) refl);
    }
