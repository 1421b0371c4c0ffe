-- The reply that a record gets at its place.
use Rattle.std.proofs.Common.{◌≡◌, ℕ, List, [], ◌∷◌, ◌++◌, length, get_or, sym, ap, subst, ◌∙◌}
use Rattle.std.proofs.Math.Seq.{get_or-append_seam}
use Rattle.message_records.specs.believed.Spelling.{reply_spelling}
use Rattle.posting_rules.specs.believed.Commands.{Command, Open, Post, Close}
use Rattle.posting_rules.specs.{believed.Entries.reply, Resends.Place, believed.Runs.followed_by}
use Rattle.posting_rules.specs.{believed.Runs.replies_to, believed.Runs.ArePosts}
use Rattle.posting_rules.proofs.{Resends.replies_in_place, Sequence.one_reply_each, Sequence.replies_to-append}

front_posts : (front rest : List Command) → ArePosts (front ++ rest) → ArePosts front
front_posts [] rest h = tt
front_posts (Open b n ∷ front) rest h = absurd h
front_posts (Close first last ∷ front) rest h = absurd h
front_posts (Post m r ∷ front) rest h = front_posts front rest h

reply_at : (log p : List Command) (bytes : List ℕ) (at : Place bytes p) → ArePosts p
    → get_or (replies_to log p) (length at.before) [] ≡ reply_spelling (reply (followed_by log at.before) bytes)
reply_at log p bytes at hp =
    let one = Post at.moment bytes in
    let posts : ArePosts at.before = front_posts at.before (one ∷ at.after) (subst ArePosts at.is hp) in
    let first = replies_to log at.before in
    let out = reply_spelling (reply (followed_by log at.before) bytes) in
    let rest = replies_to (one ∷ followed_by log at.before) at.after in
    let split : replies_to log p ≡ first ++ out ∷ rest =
    ap (replies_to log) at.is ∙ replies_to-append log at.before (one ∷ at.after) in
    ap (λ (xs : List (List ℕ)). get_or xs (length at.before) []) split
    ∙ ap (λ (i : ℕ). get_or (first ++ out ∷ rest) i []) (sym (one_reply_each log at.before posts))
    ∙ get_or-append_seam first out rest []

-- where it comes again it gets the reply that it got
pub replied_again : (log p r : List Command) (bytes : List ℕ) (first : Place bytes p) (again : Place bytes r)
    → ArePosts p → ArePosts r
    → get_or (replies_to (followed_by log p) r) (length again.before) []
    ≡ get_or (replies_to log p) (length first.before) []
replied_again log p r bytes first again hp hr =
    replies_in_place log p r bytes first again hp hr ∙ sym (reply_at log p bytes first hp)
