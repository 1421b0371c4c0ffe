-- Senders that are answered one after another, and how all clients stand then.
use Rattle.std.proofs.Common.{◌≡◌, ℕ, suc, List, [], ◌∷◌, ◌++◌, length, slice_set, Some}
use Rattle.std.proofs.Common.{refl, sym, ap, subst, ◌∙◌, append_assoc, append-nil, inl, inr, true}
use Rattle.std.specs.{Prelude.◌≢◌, List.AllByRecursion, List.slice_get}
use Rattle.std.proofs.lemmas.List.{length-set}
use Rattle.posting_rules.specs.declared.fault.Fault.{Fault}
use Rattle.posting_rules.specs.believed.{AnyTables.AnswersByTables, AnyTables.HasRoom, ByCommands.tables_past_commands}
use Rattle.posting_rules.specs.believed.Changes.{replies_past_all, reply_past, tables_past, tables_past_all}
use Rattle.posting_rules.specs.believed.{Commands.Command, Commands.Post, Counter.LeavesOnly, Counter.Seen, Counter.ShowsLog}
use Rattle.posting_rules.specs.believed.{Tables.Tables}
use Rattle.posting_rules.specs.believed.Runs.{followed_by, posts, replies_to}
use Rattle.posting_rules.proofs.AnyTables.{room_past_all}
use Rattle.counter_http.specs.Connections.{Known}
use Rattle.counter_http.specs.together.Due.{AnswersAll, AreDue, AreDueOn}
use Rattle.counter_http.specs.together.Order.{Step, is_posted_under, submitted_by}
use Rattle.counter_http.specs.together.Rounds.{AllDiffer, IsOfOneOf, numbers}
use Rattle.counter_http.specs.together.Standing.{AnswersRecord, AreRefused, HasEndedWith, StandsHere, StandsRefused}
use Rattle.counter_http.specs.together.Submitting.{AnswersAt, AnswersEach, AreApart, AreGiven, GivesAt, IsElsewhere, RefusesAt}
use Rattle.counter_http.specs.together.Submitting.{RefusesEach}
use Rattle.counter_http.specs.believed.Answers.{answer_text, asked_by, bare}
use Rattle.counter_http.specs.believed.Turns.{commands_for}
use Rattle.counter_http.specs.declared.batch.Sender.{Sender}
use Rattle.counter_http.specs.declared.client.Client.{Client}
use Rattle.counter_http.specs.declared.parting.Parting.TheVariants as parting
use Rattle.counter_http.proofs.AnsweredTurns.{posting_commands}
use Rattle.counter_http.proofs.Answering.{step_of}
use Rattle.counter_http.proofs.Beside.{stands_beside}
use Rattle.counter_http.proofs.Fronts.{number_ended, number_of_record, record_answer, record_due, record_step, record_text, refused_here}
use Rattle.counter_http.proofs.Gathering.{given_still}
use Rattle.counter_http.proofs.Placed.{at_other, at_same, found_too, number_kept, numbers_apart, numbers_at, one_of_these}
use Rattle.counter_http.proofs.Placed.{same_or_not, some_is}
use Rattle.counter_http.proofs.Refused.{refused_now}

-- ---- the messages of the records

-- the first of the replies, and those after it; none is nothing
abbrev pub first_text : List (List ℕ) → List ℕ
first_text [] = []
first_text (q ∷ qs) = q

abbrev pub texts_after : List (List ℕ) → List (List ℕ)
texts_after [] = []
texts_after (q ∷ qs) = qs

-- answered by this reply
abbrev pub step_at : {R W : Type 0} (moment : ℕ) {here : List (Client R W)} {s : Sender} {r : List ℕ} → List ℕ
    → GivesAt here s r → Step
step_at moment {s = s} q g = step_of g.client.number moment g.gives.is.message (record_answer s.head q)

abbrev pub steps_at : {R W : Type 0} (moment : ℕ) (here : List (Client R W)) (ss : List Sender)
    (rs qs : List (List ℕ)) → AreGiven here ss rs → List Step
steps_at moment here [] rs qs g = []
steps_at moment here (s ∷ ss) [] qs g = []
steps_at moment here (s ∷ ss) (r ∷ rs) qs g =
    step_at moment (first_text qs) g.0 ∷ steps_at moment here ss rs (texts_after qs) g.1

one_post : {R W : Type 0} (moment : ℕ) {here : List (Client R W)} {s : Sender} (r : List ℕ) (g : GivesAt here s r)
    → commands_for moment (asked_by g.gives.is.message) ≡ Post moment r ∷ []
one_post moment r g =
    posting_commands (asked_by g.gives.is.message) moment g.gives.is.posting
    ∙ ap (λ (b : List ℕ). Post moment b ∷ []) (sym g.gives.is.body)

pub steps_submit : {R W : Type 0} (moment : ℕ) (here : List (Client R W)) (ss : List Sender) (rs qs : List (List ℕ))
    (g : AreGiven here ss rs) → submitted_by (steps_at moment here ss rs qs g) ≡ posts moment rs
steps_submit moment here [] [] qs g = refl
steps_submit moment here [] (r ∷ rs) qs g = absurd g
steps_submit moment here (s ∷ ss) [] qs g = absurd g
steps_submit moment here (s ∷ ss) (r ∷ rs) qs g =
    ap (λ (cs : List Command). cs ++ submitted_by (steps_at moment here ss rs (texts_after qs) g.1)) (one_post moment r g.0)
    ∙ ap (λ (cs : List Command). Post moment r ∷ cs) (steps_submit moment here ss rs (texts_after qs) g.1)

pub steps_posted : {R W : Type 0} (moment : ℕ) (here : List (Client R W)) (ss : List Sender) (rs qs : List (List ℕ))
    (g : AreGiven here ss rs) → AllByRecursion (is_posted_under (moment ∷ [])) (steps_at moment here ss rs qs g)
steps_posted moment here [] rs qs g = tt
steps_posted moment here (s ∷ ss) [] qs g = tt
steps_posted moment here (s ∷ ss) (r ∷ rs) qs g =
    ((g.0.gives.is.posting, refl, refl), steps_posted moment here ss rs (texts_after qs) g.1)

pub steps_whose : {R W : Type 0} (moment : ℕ) (here : List (Client R W)) (ss : List Sender) (rs qs : List (List ℕ))
    (g : AreGiven here ss rs) → AllByRecursion (IsOfOneOf (numbers here)) (steps_at moment here ss rs qs g)
steps_whose moment here [] rs qs g = tt
steps_whose moment here (s ∷ ss) [] qs g = tt
steps_whose moment here (s ∷ ss) (r ∷ rs) qs g =
    (one_of_these here s.place g.0.client g.0.at, steps_whose moment here ss rs (texts_after qs) g.1)

pub steps_long : {R W : Type 0} (moment : ℕ) (here : List (Client R W)) (ss : List Sender) (rs qs : List (List ℕ))
    (g : AreGiven here ss rs) → length (steps_at moment here ss rs qs g) ≡ length rs
steps_long moment here [] [] qs g = refl
steps_long moment here [] (r ∷ rs) qs g = absurd g
steps_long moment here (s ∷ ss) [] qs g = absurd g
steps_long moment here (s ∷ ss) (r ∷ rs) qs g = ap suc (steps_long moment here ss rs (texts_after qs) g.1)

pub steps_kept : {R W : Type 0} (moment : ℕ) (here one : List (Client R W)) (p : ℕ) (client : Client R W)
    (ss : List Sender) (rs qs : List (List ℕ)) (e : one ≡ slice_set here p client) (g : AreGiven here ss rs)
    (all : AllByRecursion (IsElsewhere p) ss)
    → steps_at moment one ss rs qs (given_still here one p client ss rs e g all) ≡ steps_at moment here ss rs qs g
steps_kept moment here one p client [] [] qs e g all = refl
steps_kept moment here one p client [] (r ∷ rs) qs e g all = absurd g
steps_kept moment here one p client (s ∷ ss) [] qs e g all = absurd g
steps_kept moment here one p client (s ∷ ss) (r ∷ rs) qs e g all =
    ap (λ (xs : List Step). step_at moment (first_text qs) g.0 ∷ xs)
    (steps_kept moment here one p client ss rs (texts_after qs) e g.1 all.1)

-- ---- what is due to them

first_reply : (q x : List ℕ) (qs xs : List (List ℕ)) → q ∷ qs ≡ x ∷ xs → q ≡ x
first_reply q x qs xs e = cc

more_replies : (q x : List ℕ) (qs xs : List (List ℕ)) → q ∷ qs ≡ x ∷ xs → qs ≡ xs
more_replies q x qs xs e = cc

due_posts : {R W : Type 0} (moment : ℕ) (here : List (Client R W)) (ss : List Sender) (rs qs : List (List ℕ))
    (g : AreGiven here ss rs) (log : List Command) → qs ≡ replies_to log (posts moment rs)
    → AreDue log (steps_at moment here ss rs qs g)
due_posts moment here [] rs qs g log says = tt
due_posts moment here (s ∷ ss) [] qs g log says = tt
due_posts moment here (s ∷ ss) (r ∷ rs) [] g log says = cc says
due_posts moment here (s ∷ ss) (r ∷ rs) (q ∷ qs) g log says = (
  record_text log s.head g.0.gives.is q (first_reply q _ qs _ says),
  subst (λ (cs : List Command). AreDue (followed_by log cs) (steps_at moment here ss rs qs g.1)) (sym (one_post moment r g.0))
      (due_posts moment here ss rs qs g.1 (Post moment r ∷ log) (more_replies q _ qs _ says)),
)

due_posts_on : {R W : Type 0} (moment : ℕ) (here : List (Client R W)) (ss : List Sender) (rs qs : List (List ℕ))
    (g : AreGiven here ss rs) (t : Tables) → qs ≡ replies_past_all t moment rs
    → AreDueOn t (steps_at moment here ss rs qs g)
due_posts_on moment here [] rs qs g t says = tt
due_posts_on moment here (s ∷ ss) [] qs g t says = tt
due_posts_on moment here (s ∷ ss) (r ∷ rs) [] g t says = cc says
due_posts_on moment here (s ∷ ss) (r ∷ rs) (q ∷ qs) g t says = (
  (λ posting. record_due s.head g.0.gives.is q _
      (first_reply q _ qs _ says ∙ ap (λ (b : List ℕ). reply_past t b) g.0.gives.is.body)),
  subst (λ (cs : List Command). AreDueOn (tables_past_commands t cs) (steps_at moment here ss rs qs g.1))
      (sym (one_post moment r g.0))
      (due_posts_on moment here ss rs qs g.1 (tables_past t moment r) (more_replies q _ qs _ says)),
)

past_posts : (t : Tables) (moment : ℕ) (rs : List (List ℕ))
    → tables_past_commands t (posts moment rs) ≡ tables_past_all t moment rs
past_posts t moment [] = refl
past_posts t moment (r ∷ rs) = past_posts (tables_past t moment r) moment rs

pub posts_due : {R W : Type 0} (c c' : Seen) (moment : ℕ) (here : List (Client R W)) (ss : List Sender)
    (rs qs : List (List ℕ)) (g : AreGiven here ss rs) → c'.honest
    → ((log : List Command) → ShowsLog c log → qs ≡ replies_to log (posts moment rs))
    → AnswersByTables c c' moment rs qs → AnswersAll c c' (steps_at moment here ss rs qs g)
posts_due c c' moment here ss rs qs g h says by = record {
  by_log = λ log shown. due_posts moment here ss rs qs g log (says log shown);
  by_tables = λ t room there.
      let same : tables_past_all t moment rs ≡ tables_past_commands t (submitted_by (steps_at moment here ss rs qs g)) =
      sym (ap (tables_past_commands t) (steps_submit moment here ss rs qs g) ∙ past_posts t moment rs) in
      record {
        due = due_posts_on moment here ss rs qs g t (by.are h t room there);
        shows = subst (λ (u : Tables). c'.tables u) same (by.shows h t room there);
        room = subst (λ (u : Tables). HasRoom u) same (room_past_all t moment rs room);
        survives = λ only. subst (λ (u : Tables). LeavesOnly c' (λ left. left ≡ u)) same (by.survives h t room there only);
      };
}

-- ---- one sender

-- it is the one that gives the record
pub answers_given : {R W : Type 0} (here one : List (Client R W)) (s : Sender) (r q : List ℕ) (g : GivesAt here s r)
    (a : AnswersAt here one s q) → AnswersRecord g.client a.after s.head q
answers_given {R} {W} here one s r q g a =
    subst (λ (x : Client R W). AnswersRecord x a.after s.head q) (some_is a.before g.client (sym a.at ∙ g.at)) a.answers

pub numbers_answered : {R W : Type 0} (here one : List (Client R W)) (s : Sender) (r q : List ℕ)
    → GivesAt here s r → AnswersAt here one s q → numbers one ≡ numbers here
numbers_answered here one s r q g a =
    ap numbers a.is ∙ numbers_at here s.place g.client a.after g.at
    (number_of_record g.client a.after s.head q r g.gives.is (answers_given here one s r q g a))

pub refuses_given : {R W : Type 0} (here one : List (Client R W)) (s : Sender) (r : List ℕ) (why : Fault)
    (g : GivesAt here s r) (a : RefusesAt here one s why)
    → HasEndedWith g.client a.after (answer_text (bare 503) s.head.shows_body true) (parting.Bank why)
refuses_given {R} {W} here one s r why g a =
    subst (λ (x : Client R W). HasEndedWith x a.after (answer_text (bare 503) s.head.shows_body true)
    (parting.Bank why)) (some_is a.before g.client (sym a.at ∙ g.at)) a.tells

pub numbers_refused : {R W : Type 0} (here one : List (Client R W)) (s : Sender) (r : List ℕ) (why : Fault)
    → GivesAt here s r → RefusesAt here one s why → numbers one ≡ numbers here
numbers_refused here one s r why g a =
    ap numbers a.is ∙ numbers_at here s.place g.client a.after g.at
    (number_ended g.client a.after (refuses_given here one s r why g a))

-- who is at a place after one at some place was exchanged: that one, or who was there
changed_at : {R W : Type 0} (here one : List (Client R W)) (s p : ℕ) (client after y : Client R W)
    → slice_get here s ≡ Some client → one ≡ slice_set here s after → slice_get one p ≡ Some y → p ≡ s → after ≡ y
changed_at {R} {W} here one s p client after y at is there e =
    some_is after y (sym (at_same here s client after at) ∙ ap (λ (n : ℕ). slice_get (slice_set here s after) n) (sym e)
    ∙ ap (λ (cs : List (Client R W)). slice_get cs p) (sym is) ∙ there)

kept_at : {R W : Type 0} (here one : List (Client R W)) (s p : ℕ) (x after y : Client R W)
    → slice_get here p ≡ Some x → one ≡ slice_set here s after → slice_get one p ≡ Some y → p ≢ s → x ≡ y
kept_at {R} {W} here one s p x after y at is there ne =
    some_is x y (sym at ∙ sym (at_other here s p after ne) ∙ ap (λ (cs : List (Client R W)). slice_get cs p) (sym is)
    ∙ there)

same_client : {R W : Type 0} (here : List (Client R W)) (s p : ℕ) (client x : Client R W)
    → slice_get here s ≡ Some client → slice_get here p ≡ Some x → p ≡ s → x ≡ client
same_client here s p client x at there e =
    some_is x client (sym there ∙ ap (λ (n : ℕ). slice_get here n) e ∙ at)

answered_one : {R W : Type 0} {known : R × W → Known} {k : Known} {steps : List Step} (moment : ℕ)
    (here one : List (Client R W)) (s : Sender) (r q : List ℕ) (g : GivesAt here s r) (a : AnswersAt here one s q)
    (p : ℕ) (x y : Client R W) → AllDiffer (numbers here) → slice_get here p ≡ Some x → slice_get one p ≡ Some y
    → StandsHere known k steps x → StandsHere known k (steps ++ step_at moment q g ∷ []) y
answered_one {R} {W} {known} {k} {steps} moment here one s r q g a p x y all at there is =
    elim (same_or_not p s.place) [
      | inl e ↦
          subst (λ (z : Client R W). StandsHere known k (steps ++ step_at moment q g ∷ []) z)
          (changed_at here one s.place p g.client a.after y g.at a.is there e)
          (record_step g.client a.after moment s.head q r g.gives.going g.gives.is
          (answers_given here one s r q g a)
          (subst (λ (z : Client R W). StandsHere known k steps z)
          (same_client here s.place p g.client x g.at at e) is))
      | inr ne ↦
          subst (λ (z : Client R W). StandsHere known k (steps ++ step_at moment q g ∷ []) z)
          (kept_at here one s.place p x a.after y at a.is there ne)
          (record {
            is = stands_beside x.parting (step_at moment q g ∷ [])
                ((λ e. numbers_apart here s.place p g.client x all g.at at ne (sym e)), tt) is.is;
          })
    ]

refused_one : {R W : Type 0} {known : R × W → Known} {k : Known} {steps : List Step}
    (here one : List (Client R W)) (s : Sender) (r : List ℕ) (why : Fault) (g : GivesAt here s r)
    (a : RefusesAt here one s why) (p : ℕ) (x y : Client R W) → slice_get here p ≡ Some x → slice_get one p ≡ Some y
    → StandsHere known k steps x → StandsHere known k steps y
refused_one {R} {W} {known} {k} {steps} here one s r why g a p x y at there is =
    elim (same_or_not p s.place) [
      | inl e ↦
          subst (λ (z : Client R W). StandsHere known k steps z)
          (changed_at here one s.place p g.client a.after y g.at a.is there e)
          (refused_here g.client a.after g.gives.is.message s.head why g.gives.going g.gives.is.is
          (refuses_given here one s r why g a)
          (subst (λ (z : Client R W). StandsHere known k steps z)
          (same_client here s.place p g.client x g.at at e) is))
      | inr ne ↦
          subst (λ (z : Client R W). StandsHere known k steps z)
          (kept_at here one s.place p x a.after y at a.is there ne) is
    ]

-- ---- senders in turn

pub differ_still : (ms ns : List ℕ) → ms ≡ ns → AllDiffer ns → AllDiffer ms
differ_still ms ns e all = subst (λ (l : List ℕ). AllDiffer l) (sym e) all

pub numbers_all_answered : {R W : Type 0} (here here' : List (Client R W)) (ss : List Sender)
    (rs qs : List (List ℕ)) → AreGiven here ss rs → AreApart ss → AnswersEach here here' ss qs
    → numbers here' ≡ numbers here
numbers_all_answered here here' [] rs qs g apart a = ap numbers a
numbers_all_answered here here' (s ∷ ss) [] qs g apart a = absurd g
numbers_all_answered here here' (s ∷ ss) (r ∷ rs) [] g apart a = absurd a
numbers_all_answered here here' (s ∷ ss) (r ∷ rs) (q ∷ qs) g apart (mid, one, more) =
    numbers_all_answered mid here' ss rs qs
    (given_still here mid s.place one.after ss rs one.is g.1 apart.0) apart.1 more
    ∙ numbers_answered here mid s r q g.0 one

pub numbers_all_refused : {R W : Type 0} (here here' : List (Client R W)) (ss : List Sender)
    (rs : List (List ℕ)) (why : Fault) → AreGiven here ss rs → AreApart ss → RefusesEach here here' ss why
    → numbers here' ≡ numbers here
numbers_all_refused here here' [] rs why g apart a = ap numbers a
numbers_all_refused here here' (s ∷ ss) [] why g apart a = absurd g
numbers_all_refused here here' (s ∷ ss) (r ∷ rs) why g apart (mid, one, more) =
    numbers_all_refused mid here' ss rs why
    (given_still here mid s.place one.after ss rs one.is g.1 apart.0) apart.1 more
    ∙ numbers_refused here mid s r why g.0 one

pub answered_each : {R W : Type 0} {known : R × W → Known} {k : Known} (moment : ℕ)
    (here here' : List (Client R W)) (ss : List Sender) (rs qs : List (List ℕ)) (g : AreGiven here ss rs)
    → AreApart ss → AllDiffer (numbers here) → AnswersEach here here' ss qs → (p : ℕ) (x x' : Client R W)
    → slice_get here p ≡ Some x → slice_get here' p ≡ Some x' → (steps : List Step)
    → StandsHere known k steps x
    → StandsHere known k (steps ++ steps_at moment here ss rs qs g) x'
answered_each {R} {W} {known} {k} moment here here' [] rs qs g apart all a p x x' at at' steps is =
    subst (λ (l : List Step). StandsHere known k l x') (sym (append-nil steps))
    (subst (λ (z : Client R W). StandsHere known k steps z)
    (some_is x x' (sym at ∙ ap (λ (cs : List (Client R W)). slice_get cs p) (sym a) ∙ at')) is)
answered_each moment here here' (s ∷ ss) [] qs g apart all a p x x' at at' steps is = absurd g
answered_each moment here here' (s ∷ ss) (r ∷ rs) [] g apart all a p x x' at at' steps is = absurd a
answered_each {R} {W} {known} {k} moment here here' (s ∷ ss) (r ∷ rs) (q ∷ qs) g apart all (mid, one, more)
    p x x' at at' steps is =
    let same = numbers_answered here mid s r q g.0 one in
    let there = found_too here mid p x same at in
    let later = given_still here mid s.place one.after ss rs one.is g.1 apart.0 in
    let step = step_at moment q g.0 in
    let stands : StandsHere known k (steps ++ step ∷ []) there.0 =
    answered_one moment here mid s r q g.0 one p x there.0 all at there.1 is in
    subst (λ (l : List Step). StandsHere known k l x')
    (append_assoc steps (step ∷ []) (steps_at moment mid ss rs qs later)
    ∙ ap (λ (l : List Step). steps ++ step ∷ l) (steps_kept moment here mid s.place one.after ss rs qs one.is g.1 apart.0))
    (answered_each moment mid here' ss rs qs later apart.1 (differ_still _ _ same all) more p there.0 x' there.1 at'
    (steps ++ step ∷ []) stands)

pub refused_each : {R W : Type 0} {known : R × W → Known} {k : Known} (here here' : List (Client R W))
    (ss : List Sender) (rs : List (List ℕ)) (why : Fault) (g : AreGiven here ss rs) → AreApart ss
    → RefusesEach here here' ss why → (p : ℕ) (x x' : Client R W) → slice_get here p ≡ Some x
    → slice_get here' p ≡ Some x' → (steps : List Step) → StandsHere known k steps x
    → StandsHere known k steps x'
refused_each {R} {W} {known} {k} here here' [] rs why g apart a p x x' at at' steps is =
    subst (λ (z : Client R W). StandsHere known k steps z)
    (some_is x x' (sym at ∙ ap (λ (cs : List (Client R W)). slice_get cs p) (sym a) ∙ at')) is
refused_each here here' (s ∷ ss) [] why g apart a p x x' at at' steps is = absurd g
refused_each {R} {W} {known} {k} here here' (s ∷ ss) (r ∷ rs) why g apart (mid, one, more) p x x' at at' steps
    is =
    let there = found_too here mid p x (numbers_refused here mid s r why g.0 one) at in
    refused_each mid here' ss rs why (given_still here mid s.place one.after ss rs one.is g.1 apart.0) apart.1 more p
    there.0 x' there.1 at' steps (refused_one here mid s r why g.0 one p x there.0 at there.1 is)

-- what is elsewhere stays
pub refused_elsewhere : {R W : Type 0} (here here' : List (Client R W)) (ss : List Sender) (why : Fault) (p : ℕ)
    → RefusesEach here here' ss why → AllByRecursion (IsElsewhere p) ss → slice_get here' p ≡ slice_get here p
refused_elsewhere {R} {W} here here' [] why p a all = ap (λ (cs : List (Client R W)). slice_get cs p) a
refused_elsewhere {R} {W} here here' (s ∷ ss) why p (mid, one, more) all =
    refused_elsewhere mid here' ss why p more all.1
    ∙ ap (λ (cs : List (Client R W)). slice_get cs p) one.is
    ∙ at_other here s.place p one.after (λ e. all.0 (sym e))

-- a record of the one at a place was refused
told_one : {R W : Type 0} {known : R × W → Known} {k : Known} {steps : List Step} (moment : ℕ)
    (here mid here' : List (Client R W)) (s : Sender) (r : List ℕ) (ss : List Sender) (why : Fault) (g : GivesAt here s r)
    (one : RefusesAt here mid s why) → AllByRecursion (IsElsewhere s.place) ss → RefusesEach mid here' ss why
    → AllDiffer (numbers here) → numbers here' ≡ numbers here → (p : ℕ) (x x' : Client R W) → slice_get here p ≡ Some x
    → slice_get here' p ≡ Some x' → StandsHere known k steps x → g.client.number ≡ x'.number
    → StandsRefused known k steps why (step_at moment [] g).turn x'
told_one {R} {W} {known} {k} {steps} moment here mid here' s r ss why g one apart more all same p x x' at at' is
    own =
    elim (same_or_not p s.place) [
      | inl e ↦
          let there : slice_get here' s.place ≡ Some one.after =
          refused_elsewhere mid here' ss why s.place more apart
          ∙ ap (λ (cs : List (Client R W)). slice_get cs s.place) one.is ∙ at_same here s.place one.before one.after one.at in
          subst (λ (z : Client R W). StandsRefused known k steps why (step_at moment [] g).turn z)
          (same_client here' s.place p x' one.after (sym (ap (λ (n : ℕ). slice_get here' n) e) ∙ at')
          (ap (λ (n : ℕ). slice_get here' n) e ∙ there) e)
          (refused_now g.client one.after moment g.gives.is.message s.head why g.gives.going g.gives.is.is
          (refuses_given here mid s r why g one)
          (subst (λ (z : Client R W). StandsHere known k steps z)
          (same_client here s.place p g.client x g.at at e) is))
      | inr ne ↦
          absurd (numbers_apart here s.place p g.client x all g.at at ne
          (sym (own ∙ number_kept here here' p x x' same at at')))
    ]

-- each was told
pub told_each : {R W : Type 0} {known : R × W → Known} {k : Known} {steps : List Step} (moment : ℕ)
    (here here' : List (Client R W)) (ss : List Sender) (rs : List (List ℕ)) (why : Fault) (g : AreGiven here ss rs)
    → AreApart ss → AllDiffer (numbers here) → RefusesEach here here' ss why → (p : ℕ) (x x' : Client R W)
    → slice_get here p ≡ Some x → slice_get here' p ≡ Some x' → StandsHere known k steps x
    → AreRefused known k steps (Some why) (steps_at moment here ss rs [] g) x'
told_each moment here here' [] rs why g apart all a p x x' at at' is = tt
told_each moment here here' (s ∷ ss) [] why g apart all a p x x' at at' is = absurd g
told_each {R} {W} {known} {k} {steps} moment here here' (s ∷ ss) (r ∷ rs) why g apart all (mid, one, more) p x x'
    at at' is =
    let same = numbers_refused here mid s r why g.0 one in
    let there = found_too here mid p x same at in
    let later = given_still here mid s.place one.after ss rs one.is g.1 apart.0 in (
      (λ own. told_one moment here mid here' s r ss why g.0 one apart.0 more all
          (numbers_all_refused mid here' ss rs why later apart.1 more ∙ same) p x x' at at' is own),
      subst (λ (l : List Step). AreRefused known k steps (Some why) l x')
          (steps_kept moment here mid s.place one.after ss rs [] one.is g.1 apart.0)
          (told_each moment mid here' ss rs why later apart.1 (differ_still _ _ same all) more p there.0 x' there.1 at'
          (refused_one here mid s r why g.0 one p x there.0 at there.1 is)),
    )

-- ---- the chain, one sender more

pub answers_one_more : {R W : Type 0} (here mid here' : List (Client R W)) (ss : List Sender) (qs : List (List ℕ))
    (s : Sender) (q : List ℕ) → AnswersEach here mid ss qs → length ss ≡ length qs → AnswersAt mid here' s q
    → AnswersEach here here' (ss ++ s ∷ []) (qs ++ q ∷ [])
answers_one_more {R} {W} here mid here' [] [] s q a long one =
    (here', subst (λ (cs : List (Client R W)). AnswersAt cs here' s q) a one, refl)
answers_one_more here mid here' [] (x ∷ qs) s q a long one = absurd (cc)
answers_one_more here mid here' (t ∷ ss) [] s q a long one = absurd a
answers_one_more here mid here' (t ∷ ss) (x ∷ qs) s q (next, first, more) long one =
    (next, first, answers_one_more next mid here' ss qs s q more (cc) one)

pub refuses_one_more : {R W : Type 0} (here mid here' : List (Client R W)) (ss : List Sender) (s : Sender)
    (why : Fault) → RefusesEach here mid ss why → RefusesAt mid here' s why → RefusesEach here here' (ss ++ s ∷ []) why
refuses_one_more {R} {W} here mid here' [] s why a one =
    (here', subst (λ (cs : List (Client R W)). RefusesAt cs here' s why) a one, refl)
refuses_one_more here mid here' (t ∷ ss) s why (next, first, more) one =
    (next, first, refuses_one_more next mid here' ss s why more one)

pub answers_long : {R W : Type 0} (here one : List (Client R W)) (s : Sender) (q : List ℕ) → AnswersAt here one s q
    → length one ≡ length here
answers_long here one s q a = ap length a.is ∙ length-set here s.place a.after

pub refuses_long : {R W : Type 0} (here one : List (Client R W)) (s : Sender) (why : Fault) → RefusesAt here one s why
    → length one ≡ length here
refuses_long here one s why a = ap length a.is ∙ length-set here s.place a.after
