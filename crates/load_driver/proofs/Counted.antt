-- The replies that tell of a posting are counted by their outcomes.
use Rattle.std.proofs.Common.{◌≡◌, ◌+◌, ℕ, Bool, cond, List, [], ◌∷◌, ◌++◌, codes, refl, sym, ap, ◌∙◌, zero-add}
use Rattle.std.proofs.Common.{add_assoc}
use Rattle.std.specs.Prelude.{count_by}
use Rattle.std.proofs.lemmas.List.Sums.{sum_by-cons}
use Rattle.message_records.specs.declared.records.Outcome.{Outcome}
use Rattle.message_records.specs.believed.{Outcomes.code_of, Outcomes.has_balance, Records.ReplyFields}
use Rattle.message_records.specs.believed.Spelling.{digits, reply_spelling}
use Rattle.message_records.specs.declared.records.Outcome.TheVariants.{Posted}
use Rattle.posting_rules.specs.believed.Commands.{Command, Open, Post, Close}
use Rattle.posting_rules.specs.believed.{Entries.reply, Runs.followed_by, Runs.replies_to}
use Rattle.load_driver.specs.believed.Records.{is_posted, posted_among}

by_outcome : (outcome : Outcome) (rest : List ℕ)
    → is_posted (codes "DR01" ++ (digits 2 (code_of outcome) ++ rest)) ≡ has_balance outcome
unfolding digits
by_outcome Posted rest = refl
by_outcome other rest = refl

-- a reply tells of a posting just where its outcome is that
is_posted-spelling : (r : ReplyFields) → is_posted (reply_spelling r) ≡ has_balance r.outcome
unfolding reply_spelling
is_posted-spelling r = by_outcome r.outcome _

pub counted : (log commands : List Command)
    → count_by is_posted (replies_to log commands) ≡ posted_among log commands
unfolding posted_among
counted log [] = refl
counted log (Open branch count ∷ commands) = counted (Open branch count ∷ log) commands
counted log (Close first last ∷ commands) = counted (Close first last ∷ log) commands
counted log (Post moment bytes ∷ commands) =
    let rest = replies_to (Post moment bytes ∷ log) commands in
    sum_by-cons (λ (bytes : List ℕ). cond (is_posted bytes) 1 0) (reply_spelling (reply log bytes)) rest
    ∙ ap (λ (b : Bool). cond b 1 0 + count_by is_posted rest) (is_posted-spelling (reply log bytes))
    ∙ ap (λ (n : ℕ). cond (has_balance (reply log bytes).outcome) 1 0 + n)
    (counted (Post moment bytes ∷ log) commands)

-- the posts among commands, and then among others
pub posted_among-append : (log cs ds : List Command)
    → posted_among log (cs ++ ds) ≡ posted_among log cs + posted_among (followed_by log cs) ds
unfolding posted_among
posted_among-append log [] ds = sym (zero-add (posted_among log ds))
posted_among-append log (Open branch count ∷ cs) ds = posted_among-append (Open branch count ∷ log) cs ds
posted_among-append log (Close first last ∷ cs) ds = posted_among-append (Close first last ∷ log) cs ds
posted_among-append log (Post moment bytes ∷ cs) ds =
    let one = cond (has_balance (reply log bytes).outcome) 1 0 in
    ap (λ (n : ℕ). one + n) (posted_among-append (Post moment bytes ∷ log) cs ds)
    ∙ sym (add_assoc one (posted_among (Post moment bytes ∷ log) cs)
    (posted_among (followed_by (Post moment bytes ∷ log) cs) ds))
