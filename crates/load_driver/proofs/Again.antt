-- Posts of the same records, made again: nothing is added, and they get the same replies.
use Rattle.std.proofs.Common.{◌≡◌, ◌+◌, ℕ, cond, List, [], ◌∷◌, ◌++◌, refl, sym, ap, ◌∙◌, append_assoc, inl}
use Rattle.message_records.specs.{believed.Outcomes.has_balance, believed.Records.ReplyFields}
use Rattle.posting_rules.specs.believed.Commands.{Command, Open, Post, Close}
use Rattle.posting_rules.specs.{believed.Entries.reply, Resends.Place, Resends.Skips, believed.Runs.followed_by}
use Rattle.posting_rules.specs.{believed.Runs.ArePosts}
use Rattle.posting_rules.proofs.{Resends.adds_nothing, Resends.posts_both, Sequence.after-append}
use Rattle.posting_core.specs.believed.Stream.{posted_records}
use Rattle.load_driver.specs.believed.Records.{posted_among}

-- the posts p, of which some stand before the rest
module _ (log p : List Command) (posts : ArePosts p) where
  place : (before rest : List Command) (m : ℕ) (one two : List ℕ) → p ≡ before ++ Post m one ∷ rest
      → one ≡ two
      → Place two p
  place before rest m one two is same = record {
    before = before;
    moment = m;
    after = rest;
    is = is ∙ ap (λ (bytes : List ℕ). before ++ Post m bytes ∷ rest) same;
  }

  next : (before rest : List Command) (c : Command) → p ≡ before ++ c ∷ rest → p ≡ (before ++ c ∷ []) ++ rest
  next before rest c is = is ∙ sym (append_assoc before (c ∷ []) rest)

  -- the records of the rest stand in p
  pub skips_again : (before rest r : List Command) → p ≡ before ++ rest → ArePosts rest → ArePosts r
      → posted_records rest ≡ posted_records r → Skips p r []
  skips_again before rest [] is hrest hr same = refl
  skips_again before rest (Open b n ∷ r) is hrest hr same = absurd hr
  skips_again before rest (Close first last ∷ r) is hrest hr same = absurd hr
  skips_again before [] (Post m bytes ∷ r) is hrest hr same = absurd cc
  skips_again before (Open b n ∷ rest) (Post m bytes ∷ r) is hrest hr same = absurd hrest
  skips_again before (Close first last ∷ rest) (Post m bytes ∷ r) is hrest hr same = absurd hrest
  skips_again before (Post m one ∷ rest) (Post k two ∷ r) is hrest hr same =
      inl (
        place before rest m one two is cc,
        skips_again (before ++ Post m one ∷ []) rest r (next before rest (Post m one) is) hrest hr cc,
      )

  -- after p and the posts q they get the replies that the rest got
  pub posted_again : (before rest q r : List Command) → p ≡ before ++ rest → ArePosts rest → ArePosts q
      → ArePosts r
      → posted_records rest ≡ posted_records r
      → posted_among (followed_by (followed_by log p) q) r ≡ posted_among (followed_by log before) rest
  unfolding posted_among place
  posted_again before [] q [] is hrest hq hr same = refl
  posted_again before (Open b n ∷ rest) q r is hrest hq hr same = absurd hrest
  posted_again before (Close first last ∷ rest) q r is hrest hq hr same = absurd hrest
  posted_again before (Post m one ∷ rest) q [] is hrest hq hr same = absurd cc
  posted_again before rest q (Open b n ∷ r) is hrest hq hr same = absurd hr
  posted_again before rest q (Close first last ∷ r) is hrest hq hr same = absurd hr
  posted_again before [] q (Post k two ∷ r) is hrest hq hr same = absurd cc
  posted_again before (Post m one ∷ rest) q (Post k two ∷ r) is hrest hq hr same =
      let equal : one ≡ two = cc in
      let count : ReplyFields → ℕ = λ f. cond (has_balance f.outcome) 1 0 in
      let now = followed_by (followed_by log p) q in
      let later = posted_among (Post k two ∷ now) r in
      let given : reply now two ≡ reply (followed_by log before) two =
      (adds_nothing log p q k two (place before rest m one two is equal) posts hq).0 in
      let more = posted_again (before ++ Post m one ∷ []) rest (q ++ Post k two ∷ []) r
      (next before rest (Post m one) is)
      hrest (posts_both q (Post k two ∷ []) hq tt) hr cc in
      ap (λ (f : ReplyFields). count f + later) (given ∙ ap (reply (followed_by log before)) (sym equal))
      ∙ ap (λ (n : ℕ). count (reply (followed_by log before) one) + n)
      (ap (λ (l : List Command). posted_among l r) (sym (after-append (followed_by log p) q (Post k two ∷ [])))
      ∙ more ∙ ap (λ (l : List Command). posted_among l rest) (after-append log before (Post m one ∷ [])))
