-- What a caller knows after a plain SELECT, whose text is known to be understood.
use Rattle.sql_meanings.specs.Names.{ℕ, List, [], length, None, Ok, Err, true, false, Schema, Row, Query}
use Rattle.sql_meanings.specs.Names.{IsSureAnswer, has_no_fold, overlay, understood, reads_listing, State}
use Rattle.sql_meanings.specs.Names.{IsUnchanged, IsNotRun, QueriesRow, QueriesRowInside, FailsToQuery}
use Rattle.sql_meanings.specs.Names.{accepts_program, Error, QueryReturnedNoRows}
use Rattle.sql_meanings.proofs.Names.{inl, inr, append-nil, sym, ap, subst, ◌∙◌, no_fold_overflows, IsPlain}
use Rattle.sql_meanings.proofs.Names.{command_of}
use Rattle.std.proofs.Common.{subst₂}
use Rattle.sqlite.specs.{Command.TheVariants.Select, Effect.RefusesToRead, Listing.IsSourceOf, State.Shown}
use Rattle.sqlite.proofs.Callers.{reads_as, first_as}
use Rattle.sql_meanings.proofs.Means.{Means, meant_is, plain_is, no_refusal}
use Rattle.sql_meanings.specs.StatementAnswers.{ReadFails}
use Rattle.std.specs.Prelude.{◌≡◌, ◌⊎◌, ◌∷◌}

module _ (schema : Schema) (text : List ℕ) (params : Row) (q : Query) (names : List (List ℕ))
    (m : Means schema text (length params) (Select (record { lets = []; body = q }) names))
    (typed : accepts_program schema [] q params
    ≡ true) (folds : has_no_fold q.from ≡ true)
    (flat : q.group ≡ None) (old new : State) (has : old.now.schema ≡ schema) where
  is : command_of (understood schema text) ≡ Select (record { lets = []; body = q }) names
  is = meant_is schema text (length params) (Select (record { lets = []; body = q }) names) m

  plain : IsPlain (understood schema text)
  plain = plain_is schema text (length params) (Select (record { lets = []; body = q }) names) m

  unlisted : reads_listing schema text ≡ false
  unlisted = m.unlisted

  here : Means old.now.schema text (length params) (Select (record { lets = []; body = q }) names)
  here = subst (λ s. Means s text (length params) (Select (record { lets = []; body = q }) names)) (sym has) m

  -- all rows that are shown are an answer
  pub shown_answers : (rows : List Row) → Shown text params old new rows
      → IsSureAnswer q (overlay old.now.trees []) params rows
      × IsUnchanged old new
  unfolding Shown
  shown_answers rows h =
      let known : understood schema text ≡ Ok h.0 = sym (ap (λ s. understood s text) has) ∙ h.1.is in
      let bare = subst IsPlain known plain in
      let it = rw bare.0 at h.2 in
      ((reads_as text params old new schema has _ is plain unlisted rows h).answer, it.3)

  refused : (e : Error) → IsUnchanged old new → RefusesToRead old.step_limit
      (Select (record { lets = []; body = q }) names) old.now params e → ReadFails old new e
  refused e same (inl mismatch) = absurd
      (let no = ap (λ s. accepts_program s [] q params) has in let wrong = mismatch.1 in
      let right = typed in cc)
  refused e same (inr (inl overflow)) = elim overflow.1 [
    | inl group ↦ absurd (rw flat at group)
    | inr folded ↦ absurd (no_fold_overflows _ q.from (params ∷ []) folds folded)
  ]
  refused e same (inr (inr limit)) = inr (limit.0, limit.1, same)

  -- why it fails
  pub fails_reading : (e : Error) → FailsToQuery text params old new e → ReadFails old new e
  unfolding FailsToQuery IsNotRun
  fails_reading e (inl (inl h)) = absurd (no_refusal text params _ old e here h.0)
  fails_reading e (inl (inr h)) = inl h
  fails_reading e (inr h) =
      let known : understood schema text ≡ Ok h.0 = sym (ap (λ s. understood s text) has) ∙ h.1.is in
      let bare = subst IsPlain known plain in
      let it = rw (bare.0, bare.1, append-nil params) at h.2 in
      let db : it.0 ≡ old.now = subst (λ b. IsSourceOf b old.now it.0)
      (ap (λ s. reads_listing s text) has ∙ unlisted) it.1 in
      let why : RefusesToRead old.step_limit (Select (record { lets = []; body = q }) names) old.now params
      e =
      subst₂ (λ k d. RefusesToRead old.step_limit k d params e) (ap command_of (sym known) ∙ is) db it.2 in
      refused e it.3 why

  -- the first row begins an answer
  pub first_answers : (row : Row) → QueriesRowInside text params old new (Ok row)
      → ((tail : List Row) × IsSureAnswer q (overlay old.now.trees []) params (row ∷ tail))
      × IsUnchanged old new
  unfolding QueriesRow
  first_answers row h = (
    (first_as text params old new schema has _ is plain unlisted row h).1,
    elim h [ inl begun ↦ begun.1 | inr whole ↦ (shown_answers whole.0 whole.1).1 ],
  )

  -- there is no row, or the read failed
  pub none_or_fails : (e : Error) → QueriesRowInside text params old new (Err e)
      → ((e ≡ QueryReturnedNoRows) × IsSureAnswer q (overlay old.now.trees []) params []
      × IsUnchanged old new) ⊎ ReadFails old new e
  unfolding QueriesRow
  none_or_fails e (inl (inl h)) = inr (fails_reading e h)
  none_or_fails e (inl (inr h)) = let a = shown_answers [] h.1 in inl (h.0, a.0, a.1)
  none_or_fails e (inr late) =
      let known : understood schema text ≡ Ok late.0 = sym (ap (λ s. understood s text) has) ∙ late.1.is in
      let bare = subst IsPlain known plain in
      absurd (let shows = rw bare.0 at late.2 in cc)
