-- Records that are posted after others of the same list, from a place on: which of them are new, and what they
-- are replied.
use Rattle.std.proofs.Common.{◌≡◌, ◌≤◌, ℕ, zero, suc, ◌+◌, List, [], ◌∷◌, ◌++◌, length, take, drop, Option, refl, sym}
use Rattle.std.proofs.Common.{ap, subst, ◌∙◌, arith, append_assoc, append-nil, take_all, take-take, inl, inr}
use Rattle.message_records.specs.believed.{Reading.request_of, Records.ReplyFields, Spelling.reply_spelling}
use Rattle.posting_rules.specs.believed.Commands.{Command, Open, Post, Close, Terms, opened}
use Rattle.posting_rules.specs.believed.Entries.{DecidedRequest, decided, reply, reply_given, with_record}
use Rattle.posting_rules.specs.Resends.{Place, Skips}
use Rattle.posting_rules.specs.believed.Runs.{followed_by, posts, replies_to, ArePosts}
use Rattle.posting_rules.proofs.Resends.{adds_nothing, posts_both}
use Rattle.posting_rules.proofs.Sequence.{after-append, one_reply_each}
use Rattle.posting_core.specs.believed.Stream.{posted_records}
use Rattle.posting_core.proofs.{Again.posts_are, Timeless.zeroed, Timeless.record_zeroed, Timeless.reply_zeroed}
use Rattle.posting_rules.specs.declared.rows.ClosingRow.{ClosingRow}
use Rattle.posting_rules.specs.believed.Closings.{closings}
use Rattle.posting_rules.proofs.Resends.{closings_after}

-- ---- what replies depend on

-- what each branch was opened with
abbrev Openings : Type 0
Openings = ℕ → Option Terms

-- posts open nothing
opens_nothing : (log cs : List Command) → ArePosts cs
    → ◌≡◌ {A = Openings} (λ b. opened (followed_by log cs) b) (λ b. opened log b)
opens_nothing log [] h = refl
opens_nothing log (Open b n ∷ cs) h = absurd h
opens_nothing log (Close first last ∷ cs) h = absurd h
opens_nothing log (Post m r ∷ cs) h = opens_nothing (Post m r ∷ log) cs h

reply_alike : (one two : List Command) (r : List ℕ)
    → ◌≡◌ {A = Openings} (λ b. opened one b) (λ b. opened two b) → closings one ≡ closings two
    → zeroed (decided one) ≡ zeroed (decided two) → reply one r ≡ reply two r
reply_alike one two r eo ec ed =
    sym (reply_zeroed (λ b. opened one b) (closings one) (decided one) (request_of r))
    ∙ ap (λ (o : Openings). reply_given (request_of r) o (closings one) (zeroed (decided one))) eo
    ∙ ap (λ (runs : List ClosingRow). reply_given (request_of r) (λ b. opened two b) runs (zeroed (decided one))) ec
    ∙ ap (λ (es : List DecidedRequest). reply_given (request_of r) (λ b. opened two b) (closings two) es) ed
    ∙ reply_zeroed (λ b. opened two b) (closings two) (decided two) (request_of r)

decided_alike : (one two : List Command) (m n : ℕ) (r : List ℕ)
    → ◌≡◌ {A = Openings} (λ b. opened one b) (λ b. opened two b) → closings one ≡ closings two
    → zeroed (decided one) ≡ zeroed (decided two)
    → zeroed (decided (Post m r ∷ one)) ≡ zeroed (decided (Post n r ∷ two))
decided_alike one two m n r eo ec ed =
    record_zeroed m (λ b. opened one b) (closings one) (decided one) (request_of r)
    ∙ ap (λ (o : Openings). with_record 0 (request_of r) o (closings one) (zeroed (decided one))) eo
    ∙ ap (λ (runs : List ClosingRow). with_record 0 (request_of r) (λ b. opened two b) runs (zeroed (decided one))) ec
    ∙ ap (λ (es : List DecidedRequest). with_record 0 (request_of r) (λ b. opened two b) (closings two) es) ed
    ∙ sym (record_zeroed n (λ b. opened two b) (closings two) (decided two) (request_of r))

-- the replies to posts depend on their records, on what is open, and on what is decided but for moments
pub replies_alike : (one two cs ds : List Command)
    → ◌≡◌ {A = Openings} (λ b. opened one b) (λ b. opened two b) → closings one ≡ closings two
    → zeroed (decided one) ≡ zeroed (decided two) → ArePosts cs → ArePosts ds
    → posted_records cs ≡ posted_records ds → replies_to one cs ≡ replies_to two ds
replies_alike one two [] [] eo ec ed hc hd e = refl
replies_alike one two [] (Open b n ∷ ds) eo ec ed hc hd e = absurd hd
replies_alike one two [] (Close first last ∷ ds) eo ec ed hc hd e = absurd hd
replies_alike one two [] (Post n s ∷ ds) eo ec ed hc hd e = absurd (cc)
replies_alike one two (Open b n ∷ cs) ds eo ec ed hc hd e = absurd hc
replies_alike one two (Close first last ∷ cs) ds eo ec ed hc hd e = absurd hc
replies_alike one two (Post m r ∷ cs) [] eo ec ed hc hd e = absurd (cc)
replies_alike one two (Post m r ∷ cs) (Open b n ∷ ds) eo ec ed hc hd e = absurd hd
replies_alike one two (Post m r ∷ cs) (Close first last ∷ ds) eo ec ed hc hd e = absurd hd
replies_alike one two (Post m r ∷ cs) (Post n s ∷ ds) eo ec ed hc hd e =
    let head : r ≡ s = cc in
    let tail : posted_records cs ≡ posted_records ds = cc in
    subst (λ (x : List ℕ). replies_to one (Post m r ∷ cs) ≡ replies_to two (Post n x ∷ ds)) head
    (ap (λ (out : ReplyFields). reply_spelling out ∷ replies_to (Post m r ∷ one) cs)
    (reply_alike one two r eo ec ed)
    ∙ ap (λ (rest : List (List ℕ)). reply_spelling (reply two r) ∷ rest)
    (replies_alike (Post m r ∷ one) (Post n r ∷ two) cs ds eo ec (decided_alike one two m n r eo ec ed) hc hd tail))

-- posts after others that decide nothing
replies_still : (log q r : List Command) → ArePosts q → ArePosts r → decided (followed_by log q) ≡ decided log
    → replies_to (followed_by log q) r ≡ replies_to log r
replies_still log q r hq hr same =
    replies_alike (followed_by log q) log r r (opens_nothing log q hq) (closings_after log q hq) (ap zeroed same) hr hr refl

-- ---- posts of a list from a place on

same_list : (x y : List ℕ) (xs ys : List (List ℕ)) → x ≡ y → xs ≡ ys → x ∷ xs ≡ y ∷ ys
same_list x y xs ys e es = ap (λ (z : List ℕ). z ∷ xs) e ∙ ap (λ (zs : List (List ℕ)). y ∷ zs) es

-- none of them stands in p
none_skipped : (p r : List Command) → ArePosts r → Skips p r r
none_skipped p [] h = refl
none_skipped p (Open b n ∷ r) h = absurd h
none_skipped p (Close first last ∷ r) h = absurd h
none_skipped p (Post m bytes ∷ r) h = inr (r, refl, none_skipped p r h)

-- Posts p of the first records of a list stand at the end of all, after a front. Posts r of the records from
-- a place on add these, and get the replies of one run.
pub record IsResend (all front p r : List Command) (place : ℕ) (records : List (List ℕ)) : Type 0 where
  pub added : List Command
  pub skips : Skips all r added
  pub posts : ArePosts added
  pub are : posted_records (p ++ added) ≡ take (length (p ++ added)) records
  pub long : place + length r ≤ length (p ++ added)
  pub replies : (log q : List Command) → ArePosts q
      → decided (followed_by (followed_by log all) q) ≡ decided (followed_by log all)
      → replies_to (followed_by (followed_by log all) q) r
      ≡ take (length r) (drop place (replies_to (followed_by log front) (p ++ added)))

-- a record that came before gets its reply again, and those after it get the next ones
resent_reply : (log all q front p added r : List Command) (m n : ℕ) (b c : List ℕ) (at : Place c all) → b ≡ c
    → at.before ≡ front → ArePosts all → ArePosts q
    → decided (followed_by (followed_by log all) q) ≡ decided (followed_by log all)
    → ((more : List Command) → ArePosts more → decided (followed_by (followed_by log all) more) ≡ decided (followed_by log all)
    → replies_to (followed_by (followed_by log all) more) r
    ≡ take (length r) (replies_to (followed_by log (front ++ Post m b ∷ [])) (p ++ added)))
    → replies_to (followed_by (followed_by log all) q) (Post n c ∷ r)
    ≡ take (suc (length r)) (replies_to (followed_by log front) (Post m b ∷ p ++ added))
resent_reply log all q front p added r m n b c at e is ha hq same next =
    let again = adds_nothing log all q n c at ha hq in
    let more = q ++ Post n c ∷ [] in
    let on : followed_by (followed_by log all) more ≡ Post n c ∷ followed_by (followed_by log all) q =
    after-append (followed_by log all) q (Post n c ∷ []) in
    let still : decided (followed_by (followed_by log all) more) ≡ decided (followed_by log all) =
    ap (λ (l : List Command). decided l) on ∙ again.1 ∙ same in
    let first : reply (followed_by (followed_by log all) q) c ≡ reply (followed_by log front) b =
    again.0 ∙ ap (λ (l : List Command). reply (followed_by log l) c) is
    ∙ ap (λ (y : List ℕ). reply (followed_by log front) y) (sym e) in
    let rest : replies_to (Post n c ∷ followed_by (followed_by log all) q) r
    ≡ take (length r) (replies_to (Post m b ∷ followed_by log front) (p ++ added)) =
    ap (λ (l : List Command). replies_to l r) (sym on)
    ∙ next more (posts_both q (Post n c ∷ []) hq tt) still
    ∙ ap (λ (l : List Command). take (length r) (replies_to l (p ++ added)))
    (after-append log front (Post m b ∷ [])) in
    ap (λ (out : ReplyFields). reply_spelling out ∷ replies_to (Post n c ∷ followed_by (followed_by log all) q) r) first
    ∙ ap (λ (outs : List (List ℕ)). reply_spelling (reply (followed_by log front) b) ∷ outs) rest

one_more : (all front p : List Command) (c : Command) → all ≡ front ++ c ∷ p → all ≡ (front ++ c ∷ []) ++ p
one_more all front p c e = e ∙ sym (append_assoc front (c ∷ []) p)

pub resend : (all front p r : List Command) (place : ℕ) (records : List (List ℕ)) → all ≡ front ++ p
    → ArePosts all → ArePosts p → ArePosts r → place ≤ length p
    → posted_records p ≡ take (length p) records
    → posted_records r ≡ take (length r) (drop place records) → IsResend all front p r place records
resend all front [] r (suc place) records e ha hp hr le ep er = absurd (omega arith)
resend all front [] r zero records e ha hp hr le ep er = record {
  added = r;
  skips = none_skipped all r hr;
  posts = hr;
  are = er;
  long = omega arith;
  replies = λ log q hq same.
      let after_front : all ≡ front = e ∙ append-nil front in
      let each = one_reply_each (followed_by log front) r hr in
      replies_still (followed_by log all) q r hq hr same
      ∙ ap (λ (x : List Command). replies_to (followed_by log x) r) after_front
      ∙ sym (take_all (length r) (replies_to (followed_by log front) r) (omega (arith, each)));
}
resend all front (Open b n ∷ p) r place records e ha hp hr le ep er = absurd hp
resend all front (Close first last ∷ p) r place records e ha hp hr le ep er = absurd hp
resend all front (Post m b ∷ p) r place [] e ha hp hr le ep er = absurd (cc)
resend all front (Post m b ∷ p) r (suc place) (x ∷ records) e ha hp hr le ep er =
    let one = Post m b ∷ [] in
    let head : b ≡ x = cc in
    let tail : posted_records p ≡ take (length p) records = cc in
    let it = resend all (front ++ one) p r place records (one_more all front p (Post m b) e) ha hp hr
    (omega arith) tail er in
    record {
      added = it.added;
      skips = it.skips;
      posts = it.posts;
      are = same_list b x (posted_records (p ++ it.added)) (take (length (p ++ it.added)) records) head it.are;
      long = let some = it.long in omega arith;
      replies = λ log q hq same. it.replies log q hq same
          ∙ ap (λ (l : List Command). take (length r) (drop place (replies_to l (p ++ it.added))))
          (after-append log front one);
    }
resend all front (Post m b ∷ p) [] zero (x ∷ records) e ha hp hr le ep er = record {
  added = [];
  skips = refl;
  posts = tt;
  are = rw (append-nil p) ep;
  long = omega arith;
  replies = λ log q hq same. refl;
}
resend all front (Post m b ∷ p) (Open c n ∷ r) zero (x ∷ records) e ha hp hr le ep er = absurd hr
resend all front (Post m b ∷ p) (Close first last ∷ r) zero (x ∷ records) e ha hp hr le ep er = absurd hr
resend all front (Post m b ∷ p) (Post n c ∷ r) zero (x ∷ records) e ha hp hr le ep er =
    let one = Post m b ∷ [] in
    let head : b ≡ x = cc in
    let tail : posted_records p ≡ take (length p) records = cc in
    let same_head : b ≡ c = cc in
    let rest : posted_records r ≡ take (length r) records = cc in
    let it = resend all (front ++ one) p r zero records (one_more all front p (Post m b) e) ha hp hr
    (omega arith) tail rest in
    let at : Place c all = record {
      before = front;
      moment = m;
      after = p;
      is = subst (λ (y : List ℕ). all ≡ front ++ Post m y ∷ p) same_head e;
    } in
    record {
      added = it.added;
      skips = inl (at, it.skips);
      posts = it.posts;
      are = same_list b x (posted_records (p ++ it.added)) (take (length (p ++ it.added)) records) head it.are;
      long = let some = it.long in omega arith;
      replies = λ log q hq same.
          resent_reply log all q front p it.added r m n b c at same_head refl ha hq same
          (λ more hm still. it.replies log more hm still);
    }

-- ---- the replies of one run

records_posted : (m : ℕ) (records : List (List ℕ)) → posted_records (posts m records) ≡ records
records_posted m [] = refl
records_posted m (r ∷ rs) = ap (λ (xs : List (List ℕ)). r ∷ xs) (records_posted m rs)

front_replies : (log : List Command) (m n : ℕ) (records : List (List ℕ))
    → replies_to log (posts m (take n records)) ≡ take n (replies_to log (posts m records))
front_replies log m zero records = refl
front_replies log m (suc n) [] = refl
front_replies log m (suc n) (r ∷ rs) = ap (λ (outs : List (List ℕ)). reply_spelling (reply log r) ∷ outs)
    (front_replies (Post m r ∷ log) m n rs)

-- posts of the first records get the first replies to all
pub first_replies : (log p : List Command) (records : List (List ℕ)) → ArePosts p
    → posted_records p ≡ take (length p) records
    → replies_to log p ≡ take (length p) (replies_to log (posts 0 records))
first_replies log p records hp e =
    replies_alike log log p (posts 0 (take (length p) records)) refl refl refl hp
    (posts_are 0 (take (length p) records)) (e ∙ sym (records_posted 0 (take (length p) records)))
    ∙ front_replies log 0 (length p) records

pub within_front : (n place most : ℕ) (xs : List (List ℕ)) → place + n ≤ most
    → take n (drop place (take most xs)) ≡ take n (drop place xs)
within_front n zero most xs le = take-take n most xs (omega arith)
within_front n (suc place) zero xs le = absurd (omega arith)
within_front n (suc place) (suc most) [] le = refl
within_front n (suc place) (suc most) (x ∷ xs) le = within_front n place most xs (omega arith)

-- the first of some posts
pub first_posts : (n : ℕ) (r : List Command) (records : List (List ℕ)) → ArePosts r
    → posted_records r ≡ take (length r) records
    → ArePosts (take n r) × (posted_records (take n r) ≡ take (length (take n r)) records)
first_posts zero r records h e = (tt, refl)
first_posts (suc n) [] records h e = (tt, refl)
first_posts (suc n) (Open b m ∷ r) records h e = absurd h
first_posts (suc n) (Close first last ∷ r) records h e = absurd h
first_posts (suc n) (Post m b ∷ r) [] h e = absurd (cc)
first_posts (suc n) (Post m b ∷ r) (x ∷ records) h e =
    let head : b ≡ x = cc in
    let tail : posted_records r ≡ take (length r) records = cc in
    let it = first_posts n r records h tail in
    (it.0, same_list b x (posted_records (take n r)) (take (length (take n r)) records) head it.1)
