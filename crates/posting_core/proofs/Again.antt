-- A record that comes again gets the reply that it got.
use Rattle.std.proofs.Common.{◌≡◌, ◌⊎◌, ◌<◌, ◌≤◌, ℕ, zero, suc, ◌+◌, ◌-◌, ◌*◌, true, false, leb, List, [], ◌∷◌, ◌++◌}
use Rattle.std.proofs.Common.{length, get_or, take, drop, Result, Ok, Err, Vec, inl, inr, refl, sym, ap, ◌∙◌, arith}
use Rattle.std.specs.{Prelude.IfOk, List.AllByRecursion, declared.alloc.Global.Global}
use Rattle.std.proofs.lemmas.List.{take_at, drop_at, drop_all, drop-drop, drop-take, length-take}
use Rattle.std.proofs.lemmas.Bool.Decides.{leb_tells}
use Rattle.message_records.specs.{believed.Spelling.reply_spelling, declared.limits.TheConstants.REPLY_BYTES}
use Rattle.message_records.proofs.Prefixes.{length-reply}
use Rattle.posting_rules.specs.{declared.fault.Fault.Fault, believed.Entries.reply, Resends.Place}
use Rattle.posting_rules.specs.believed.Commands.{Command, Open, Post, Close}
use Rattle.posting_rules.specs.believed.Counter.{Answers, IsCounterCall, Seen, ShowsLog, Takes}
use Rattle.posting_rules.specs.believed.Runs.{followed_by, posts, replies_to, ArePosts}
use Rattle.posting_rules.proofs.Resends.{replies_in_place, shows_log_left_out}
use Rattle.posting_core.specs.{Again.AnswersAgain, believed.Batches.joined, Stream.reply_at}

-- ---- a call

-- commands that a counter took, and the replies to them
pub again_of : (c c' : Seen) (commands : List Command) (answers : List (List ℕ)) → ArePosts commands
    → Takes c c' commands
    → (c'.honest → (log : List Command) → ShowsLog c log → answers ≡ replies_to log commands)
    → AnswersAgain c c' commands answers
again_of c c' commands answers hc takes are = record {
  replies = λ h log p hp shows bytes first again.
      ap (λ (xs : List (List ℕ)). get_or xs (length again.before) []) (are h (followed_by log p) shows)
      ∙ replies_in_place log p commands bytes first again hp hc;
  tables = λ h log p added hp skips shows.
      shows_log_left_out c' log p commands added hp hc skips (takes.shows h (followed_by log p) shows);
}

pub posts_are : (moment : ℕ) (records : List (List ℕ)) → ArePosts (posts moment records)
posts_are moment [] = tt
posts_are moment (r ∷ rs) = posts_are moment rs

module _ {C K : Type 0} (seen : C → Seen) (contents : C → K) (reason : Fault → C → C → Type 0)
    (old new : C) where
  pub submitted : (moment : ℕ) (bytes : List ℕ) (result : Result (List ℕ) Fault)
      → IsCounterCall seen contents reason old new (Post moment bytes ∷ []) result
      → Answers (seen old) (seen new) result (λ log out. out ≡ reply_spelling (reply log bytes))
      → IfOk result (λ out. AnswersAgain (seen old) (seen new) (Post moment bytes ∷ []) (out ∷ []))
  submitted moment bytes (Ok out) call answer =
      again_of (seen old) (seen new) (Post moment bytes ∷ []) (out ∷ []) tt call.done
      (λ h log shows. ap (λ (x : List ℕ). x ∷ []) (answer h log shows))
  submitted moment bytes (Err fault) call answer = tt

  pub submitted_all : (moment : ℕ) (records : List (List ℕ)) (result : Result (Vec (List ℕ) Global) Fault)
      → IsCounterCall seen contents reason old new (posts moment records) result
      → Answers (seen old) (seen new) result
      (λ log replies. replies.items ≡ replies_to log (posts moment records))
      → IfOk result (λ replies. AnswersAgain (seen old) (seen new) (posts moment records) replies.items)
  submitted_all moment records (Ok replies) call answer =
      again_of (seen old) (seen new) (posts moment records) replies.items (posts_are moment records) call.done
      (λ h log shows. answer h log shows)
  submitted_all moment records (Err fault) call answer = tt

-- ---- a text of replies

-- each reply has so many bytes
whole_replies : (log cs : List Command) → AllByRecursion (λ r. length r ≡ REPLY_BYTES) (replies_to log cs)
whole_replies log [] = tt
whole_replies log (Open b n ∷ cs) = whole_replies (Open b n ∷ log) cs
whole_replies log (Close first last ∷ cs) = whole_replies (Close first last ∷ log) cs
whole_replies log (Post m bytes ∷ cs) = (length-reply (reply log bytes), whole_replies (Post m bytes ∷ log) cs)

at_place : (rs : List (List ℕ)) (place : ℕ) → AllByRecursion (λ r. length r ≡ REPLY_BYTES) rs
    → reply_at place (joined rs) ≡ get_or rs place []
at_place [] place h =
    let none : List ℕ = [] in
    ap (λ (t : List ℕ). take 200 t) (drop_all (200 * place) none (omega arith))
at_place (r ∷ rs) zero h = take_at r (joined rs) 200 h.0
at_place (r ∷ rs) (suc place) h =
    let parts : 200 * suc place ≡ 200 + 200 * place = omega arith in
    let text = r ++ joined rs in
    ap (λ (j : ℕ). take 200 (drop j text)) parts
    ∙ ap (λ (t : List ℕ). take 200 t) (sym (drop-drop (200 * place) 200 text))
    ∙ ap (λ (t : List ℕ). take 200 (drop (200 * place) t)) (drop_at r (joined rs) 200 h.0)
    ∙ at_place rs place h.1

-- in the text of the replies, at its place, stands the reply that it got
pub reply_stands : (log p r : List Command) (one : List ℕ) (first : Place one p) (again : Place one r)
    → ArePosts p → ArePosts r
    → reply_at (length again.before) (joined (replies_to (followed_by log p) r))
    ≡ reply_spelling (reply (followed_by log first.before) one)
reply_stands log p r one first again hp hr =
    at_place (replies_to (followed_by log p) r) (length again.before) (whole_replies (followed_by log p) r)
    ∙ replies_in_place log p r one first again hp hr

-- ---- a prefix of it

both_begin : (a b : ℕ) (xs : List ℕ) → take a (take b xs) ≡ take (length (take a (take b xs))) (take a xs)
both_begin zero b xs = refl
both_begin (suc a) zero xs = refl
both_begin (suc a) (suc b) [] = refl
both_begin (suc a) (suc b) (x ∷ xs) = ap (λ (t : List ℕ). x ∷ t) (both_begin a b xs)

part_stands : (place n : ℕ) (text : List ℕ) → reply_at place (take n text)
    ≡ take (length (reply_at place (take n text))) (reply_at place text)
part_stands place n text = by (leb_tells (200 * place) n)
  where
    by : ((leb (200 * place) n ≡ true) × (200 * place ≤ n)) ⊎ ((leb (200 * place) n ≡ false) × (n < 200 * place))
        → reply_at place (take n text) ≡ take (length (reply_at place (take n text))) (reply_at place text)
    by (inl within) =
        let j = 200 * place in
        let parts : n ≡ 200 * place + (n - 200 * place) = omega (arith, within.1) in
        let rest : drop (200 * place) (take n text) ≡ take (n - 200 * place) (drop (200 * place) text) =
        ap (λ (k : ℕ). drop j (take k text)) parts ∙ drop-take j (n - j) text in
        rw rest (both_begin 200 (n - j) (drop j text))
    by (inr past) =
        let short : drop (200 * place) (take n text) ≡ [] =
        drop_all (200 * place) (take n text) (omega (arith, length-take n text, past.1)) in
        rw short refl

-- where so much of the text was written
pub reply_begins : (place n : ℕ) (written text whole : List ℕ) → written ≡ take n text
    → reply_at place text ≡ whole → reply_at place written ≡ take (length (reply_at place written)) whole
reply_begins place n written text whole is stands =
    rw is (part_stands place n text ∙ ap (take (length (reply_at place (take n text)))) stands)
