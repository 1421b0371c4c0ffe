-- The numbers, the branches that differ, and the verdict.
use Rattle.std.proofs.Common.{◌≡◌, ℕ, List, [], ◌∷◌, ◌++◌, map, Option, sym, ap, ◌∙◌, append-nil}
use Rattle.std.proofs.{lemmas.Result.on_err_weaker, lemmas.Result.on_ok_weaker, KnownBytes.Appends-trans}
use Rattle.std.specs.Io.KnownBytes.{Appends}
use Rattle.posting_core.specs.EndCalls.{IsFlush}
use Rattle.posting_core.proofs.Telling.{more_more, more_last}
use Rattle.report_contents.specs.declared.{audit.BranchLine.BranchLine, audit.Audit.Audit}
use Rattle.report_contents.specs.{Audit.is_sound, Lines.text_of, Written.AppendsPart}
use Rattle.report_contents.specs.AuditText.{audit_text, branch_line, number_lines, verdict_line}
use Rattle.report_contents.proofs.Joined.{text_of-append}
use Rattle.report_contents.proofs.Written.{first_part, same_part, same_all, then_part, later_failed, on_err_any}
use Rattle.report_contents.proofs.writing.write_audit.Goals as goal

numbers : Audit → List ℕ
numbers a = text_of (number_lines a)

abbrev shown : List BranchLine → List ℕ
shown lines = text_of (map branch_line lines)

abbrev branches : Audit → List ℕ
branches a = shown a.lines

abbrev verdict : Audit → List ℕ
verdict a = verdict_line (is_sound a)

-- the text in three parts
parts : (a : Audit) → numbers a ++ (branches a ++ verdict a) ≡ audit_text a
unfolding numbers audit_text
parts a = sym (text_of-append (number_lines a) (map branch_line a.lines ++ verdict a ∷ [])
    ∙ ap (λ (t : List ℕ). text_of (number_lines a) ++ t)
    (text_of-append (map branch_line a.lines) (verdict a ∷ [])
    ∙ ap (λ (t : List ℕ). branches a ++ t) (append-nil (verdict a))))

numbers_are : (a : Audit) (bytes shown : List ℕ) → shown ≡ bytes → bytes ≡ text_of (number_lines a)
    → shown ≡ numbers a
unfolding numbers
numbers_are a bytes shown e f = e ∙ f

module _ (a : Audit) (old mid late new : Option (List ℕ)) (one : Appends old mid (numbers a))
    (two : Appends mid late (branches a)) where
  -- the third after the first two
  all_three : Appends late new (verdict a) → Appends old new (audit_text a)
  all_three last =
      same_all old new (parts a) (Appends-trans old mid new (numbers a) (branches a ++ verdict a) one
      (Appends-trans mid late new (branches a) (verdict a) two last))

  -- a prefix of it after them
  two_and_part : AppendsPart late new (verdict a) → AppendsPart old new (audit_text a)
  two_and_part last =
      same_part old new (parts a) (then_part old mid new (numbers a) (branches a ++ verdict a) one
      (then_part mid late new (branches a) (verdict a) two last))

pub returns-in_err-put-clause-err : goal.returns-in_err-put-clause-err
returns-in_err-put-clause-err g c =
    let a = c.args.audit.now in
    let old = g.W.Sink.contents c.args.writer.now in
    let new = g.W.Sink.contents c.put.new.writer in
    on_err_any c.from_residual.result
    (same_part old new (parts a) (first_part old new (numbers a) (branches a ++ verdict a)
    (same_part old new (numbers_are a _ _ c.as_str.ensures.value c.numbers_text.ensures)
    c.in_err-put.ensures.err)))

pub returns-in_err-put_branches-clause-err : goal.returns-in_err-put_branches-clause-err
returns-in_err-put_branches-clause-err g c =
    let a = c.args.audit.now in
    let old = g.W.Sink.contents c.args.writer.now in
    let mid = g.W.Sink.contents c.put.new.writer in
    let new = g.W.Sink.contents c.put_branches.new.writer in
    let front : Appends old mid (numbers a) =
    same_all old mid (numbers_are a _ _ c.as_str.ensures.value c.numbers_text.ensures)
    c.in_ok-put.ensures.ok in
    let lines : AppendsPart mid new (branches a) =
    same_part mid new (ap shown c.as_slice.ensures) c.in_err-put_branches.ensures.err in
    on_err_any c.from_residual-in_err-put_branches.result
    (same_part old new (parts a)
    (then_part old mid new (numbers a) (branches a ++ verdict a) front
    (first_part mid new (branches a) (verdict a) lines)))

pub returns-in_err-put_branches-clause-failed : goal.returns-in_err-put_branches-clause-failed
returns-in_err-put_branches-clause-failed g c =
    on_err_any c.from_residual-in_err-put_branches.result
    (later_failed c.in_ok-put.ensures.more c.in_err-put_branches.ensures.failed)

pub returns-clause-ok : goal.returns-clause-ok
returns-clause-ok g c =
    let said = c.verdict_text.ensures ∙ ap verdict_line c.is_consistent.ensures in
    on_ok_weaker c.put_last.result (λ last. all_three c.args.audit.now _ _ _ _
    (same_all _ _ (numbers_are _ _ _ c.as_str.ensures.value c.numbers_text.ensures) c.in_ok-put.ensures.ok)
    (same_all _ _ (ap shown c.as_slice.ensures) c.in_ok-put_branches.ensures.ok) (same_all _ _ said last))
    c.put_last.ensures.ok

pub returns-clause-err : goal.returns-clause-err
returns-clause-err g c =
    let said = c.verdict_text.ensures ∙ ap verdict_line c.is_consistent.ensures in
    on_err_weaker c.put_last.result (λ last. two_and_part c.args.audit.now _ _ _ _
    (same_all _ _ (numbers_are _ _ _ c.as_str.ensures.value c.numbers_text.ensures) c.in_ok-put.ensures.ok)
    (same_all _ _ (ap shown c.as_slice.ensures) c.in_ok-put_branches.ensures.ok) (same_part _ _ said last))
    c.put_last.ensures.err

pub returns-clause-flushed : goal.returns-clause-flushed
returns-clause-flushed g c =
    on_ok_weaker c.put_last.result
    (λ e. more_last IsFlush (more_more c.in_ok-put.ensures.more c.in_ok-put_branches.ensures.more) e)
    c.put_last.ensures.flushed

pub returns-clause-failed : goal.returns-clause-failed
returns-clause-failed g c =
    on_err_weaker c.put_last.result
    (λ e. later_failed (more_more c.in_ok-put.ensures.more c.in_ok-put_branches.ensures.more) e)
    c.put_last.ensures.failed
