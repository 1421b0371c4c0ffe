-- Records that come again among others may be left out.
use Rattle.std.proofs.Common.{◌≡◌, ℕ, List, [], ◌∷◌, ◌++◌, length, get_or, Option, refl, sym, ap, subst, ◌∙◌}
use Rattle.std.proofs.Common.{append_assoc, inl, inr}
use Rattle.std.proofs.Math.Seq.{get_or-append_seam}
use Rattle.message_records.specs.believed.{Spelling.reply_spelling, Reading.request_of}
use Rattle.posting_rules.specs.believed.Commands.{Command, Open, Post, Close, AreCommands, opened, Terms}
use Rattle.posting_rules.specs.believed.Entries.{DecidedRequest, decided, with_record, reply}
use Rattle.posting_rules.specs.believed.{Tables.Tables, Tables.HasRows, Tables.AreTablesOf, Counter.Seen}
use Rattle.posting_rules.specs.believed.{Counter.ShowsLog, Runs.followed_by, Runs.replies_to, Runs.ArePosts}
use Rattle.posting_rules.specs.Resends.{Place, Skips}
use Rattle.posting_rules.proofs.{Sequence.commands_after, Sequence.commands_apart, Sequence.after-append}
use Rattle.posting_rules.proofs.{Sequence.replies_to-append, Sequence.one_reply_each, Settled.again}
use Rattle.posting_rules.specs.believed.Closings.{closings}

-- ---- posts

-- posts open nothing
opened_after : (log cs : List Command) → ArePosts cs
    → ◌≡◌ {A = ℕ → Option Terms} (λ b. opened (followed_by log cs) b)
    (λ b. opened log b)
opened_after log [] h = refl
opened_after log (Open b terms ∷ cs) h = absurd h
opened_after log (Close first last ∷ cs) h = absurd h
opened_after log (Post m r ∷ cs) h = opened_after (Post m r ∷ log) cs h

-- and close nothing
pub closings_after : (log cs : List Command) → ArePosts cs → closings (followed_by log cs) ≡ closings log
closings_after log [] h = refl
closings_after log (Open b terms ∷ cs) h = absurd h
closings_after log (Close first last ∷ cs) h = absurd h
closings_after log (Post m r ∷ cs) h = closings_after (Post m r ∷ log) cs h

-- what is decided after a log depends on what is open, closed and decided there
decided_same : (one two cs : List Command) → ArePosts cs → ◌≡◌ {A = ℕ → Option Terms} (λ b. opened one b)
    (λ b. opened two b) → closings one ≡ closings two → decided one ≡ decided two
    → decided (followed_by one cs) ≡ decided (followed_by two cs)
decided_same one two [] h eo ec ed = ed
decided_same one two (Open b terms ∷ cs) h eo ec ed = absurd h
decided_same one two (Close first last ∷ cs) h eo ec ed = absurd h
decided_same one two (Post m r ∷ cs) h eo ec ed =
    decided_same (Post m r ∷ one) (Post m r ∷ two) cs h eo ec
    (ap (λ (o : ℕ → Option Terms). with_record m (request_of r) o (closings one) (decided one)) eo
    ∙ ap (λ runs. with_record m (request_of r) (λ b. opened two b) runs (decided one)) ec
    ∙ ap (λ (es : List DecidedRequest). with_record m (request_of r) (λ b. opened two b) (closings two) es) ed)

pub posts_both : (xs ys : List Command) → ArePosts xs → ArePosts ys → ArePosts (xs ++ ys)
posts_both [] ys a b = b
posts_both (Open branch terms ∷ xs) ys a b = absurd a
posts_both (Close first last ∷ xs) ys a b = absurd a
posts_both (Post m r ∷ xs) ys a b = posts_both xs ys a b

posts_end : (xs ys : List Command) → ArePosts (xs ++ ys) → ArePosts ys
posts_end [] ys h = h
posts_end (Open b terms ∷ xs) ys h = absurd h
posts_end (Close first last ∷ xs) ys h = absurd h
posts_end (Post m r ∷ xs) ys h = posts_end xs ys h

-- what is kept of posts are posts
posts_skip : (p r f : List Command) → ArePosts r → Skips p r f → ArePosts f
posts_skip p [] f h s = subst ArePosts (sym s) tt
posts_skip p (Open b terms ∷ r) f h s = absurd h
posts_skip p (Close first last ∷ r) f h s = absurd h
posts_skip p (Post m bytes ∷ r) f h (inl s) = posts_skip p r f h s.1
posts_skip p (Post m bytes ∷ r) f h (inr s) = subst ArePosts (sym s.1) (posts_skip p r s.0 h s.2)

-- ---- records that stand in p

-- a record that stands in p adds nothing after p and further posts
pub adds_nothing : (log p q : List Command) (m : ℕ) (bytes : List ℕ) (at : Place bytes p) → ArePosts p
    → ArePosts q
    → (reply (followed_by (followed_by log p) q) bytes ≡ reply (followed_by log at.before) bytes)
    × (decided (Post m bytes ∷ followed_by (followed_by log p) q) ≡ decided (followed_by (followed_by log p) q))
adds_nothing log p q m bytes at hp hq =
    let first = Post at.moment bytes in
    let split : p ≡ (at.before ++ first ∷ []) ++ at.after = at.is ∙ sym
    (append_assoc at.before (first ∷ []) at.after) in
    let rest : ArePosts at.after = posts_end (at.before ++ first ∷ []) at.after (subst ArePosts split hp) in
    let law = again (followed_by log at.before) (at.after ++ q) at.moment m bytes
    (posts_both at.after q rest hq) in
    let same : followed_by (followed_by log p) q ≡ followed_by (first ∷ followed_by log at.before) (at.after ++ q) =
    ap (λ (x : List Command). followed_by (followed_by log x) q) at.is ∙ ap (λ (x : List Command). followed_by x q)
    (after-append log at.before (first ∷ at.after))
    ∙ sym (after-append (first ∷ followed_by log at.before) at.after q) in
    rw same law

posts_start : (xs ys : List Command) → ArePosts (xs ++ ys) → ArePosts xs
posts_start [] ys h = tt
posts_start (Open b terms ∷ xs) ys h = absurd h
posts_start (Close first last ∷ xs) ys h = absurd h
posts_start (Post m r ∷ xs) ys h = posts_start xs ys h

-- it gets its reply again, at its place
pub replies_in_place : (log p r : List Command) (bytes : List ℕ) (at : Place bytes p) (again : Place bytes r)
    → ArePosts p → ArePosts r
    → get_or (replies_to (followed_by log p) r) (length again.before) [] ≡ reply_spelling
    (reply (followed_by log at.before) bytes)
replies_in_place log p r bytes at again hp hr =
    let front = again.before in
    let one = Post again.moment bytes in
    let now = followed_by log p in
    let posts : ArePosts front = posts_start front (one ∷ again.after) (subst ArePosts again.is hr) in
    let before = replies_to now front in
    let out = reply_spelling (reply (followed_by now front) bytes) in
    let rest = replies_to (one ∷ followed_by now front) again.after in
    let split : replies_to now r ≡ before ++ out ∷ rest = ap (replies_to now) again.is
    ∙ replies_to-append now front (one ∷ again.after) in
    ap (λ (xs : List (List ℕ)). get_or xs (length front) []) split
    ∙ ap (λ (i : ℕ). get_or (before ++ out ∷ rest) i []) (sym (one_reply_each now front posts))
    ∙ get_or-append_seam before out rest [] ∙ ap reply_spelling
    ((adds_nothing log p front again.moment bytes at hp posts).0)

-- they may be left out, in whatever order and number they come
left_out : (log p q r f : List Command) → ArePosts p → ArePosts q → ArePosts r → Skips p r f
    → decided (followed_by (followed_by (followed_by log p) q) r) ≡ decided (followed_by (followed_by (followed_by log p) q) f)
left_out log p q [] f hp hq hr s = ap (λ (x : List Command). decided (followed_by (followed_by (followed_by log p) q) x))
    (sym s)
left_out log p q (Open b terms ∷ r) f hp hq hr s = absurd hr
left_out log p q (Close first last ∷ r) f hp hq hr s = absurd hr
left_out log p q (Post m bytes ∷ r) f hp hq hr (inl s) =
    let now = followed_by (followed_by log p) q in
    decided_same (Post m bytes ∷ now) now r hr refl refl ((adds_nothing log p q m bytes s.0 hp hq).1)
    ∙ left_out log p q r f hp hq hr s.1
left_out log p q (Post m bytes ∷ r) f hp hq hr (inr s) =
    let now = followed_by (followed_by log p) q in
    let more = q ++ Post m bytes ∷ [] in
    let one : followed_by (followed_by log p) more ≡ Post m bytes ∷ now = after-append (followed_by log p) q
    (Post m bytes ∷ []) in
    ap (λ (x : List Command). decided (followed_by x r)) (sym one) ∙ left_out log p more r s.0 hp
    (posts_both q (Post m bytes ∷ []) hq tt) hr s.2
    ∙ ap (λ (x : List Command). decided (followed_by x s.0)) one ∙ ap
    (λ (x : List Command). decided (followed_by now x)) (sym s.1)

-- tables that show them show what is left without them
pub shows_left_out : (t : Tables) (log p r f : List Command) → ArePosts p → ArePosts r → Skips p r f
    → AreTablesOf t (followed_by (followed_by log p) r)
    → AreTablesOf t (followed_by (followed_by log p) f)
shows_left_out t log p r f hp hr s shows =
    let after = followed_by (followed_by log p) f in
    let all = opened_after (followed_by log p) r hr in
    let less = opened_after (followed_by log p) f (posts_skip p r f hr s) in
    record {
      rows = subst (λ (es : List DecidedRequest). HasRows t (λ b. opened after b) (closings after) es)
          (left_out log p [] r f hp tt hr s)
          (subst (λ runs. HasRows t (λ b. opened after b) runs (decided (followed_by (followed_by log p) r)))
          (closings_after (followed_by log p) r hr ∙ sym (closings_after (followed_by log p) f (posts_skip p r f hr s)))
          (subst (λ (o : ℕ → Option Terms). HasRows t o (closings (followed_by (followed_by log p) r))
          (decided (followed_by (followed_by log p) r))) (all ∙ sym less) shows.rows));
    }

-- ---- what is left are commands of the bank

skip_are : (p r f : List Command) → Skips p r f → AreCommands r → AreCommands f
skip_are p [] f s are = subst AreCommands (sym s) tt
skip_are p (Open b terms ∷ r) f s are = absurd s
skip_are p (Close first last ∷ r) f s are = absurd s
skip_are p (Post m bytes ∷ r) f (inl s) are = skip_are p r f s.1 are.1
skip_are p (Post m bytes ∷ r) f (inr s) are = subst AreCommands (sym s.1) (are.0, skip_are p r s.0 s.2 are.1)

pub commands_left_out : (log p r f : List Command) → Skips p r f → AreCommands (followed_by (followed_by log p) r)
    → AreCommands (followed_by (followed_by log p) f)
commands_left_out log p r f s are =
    let each = commands_apart (followed_by log p) r are in
    commands_after (followed_by log p) f each.0 (skip_are p r f s each.1)

-- a counter that shows them shows what is left without them
pub shows_log_left_out : (seen : Seen) (log p r f : List Command) → ArePosts p → ArePosts r → Skips p r f
    → ShowsLog seen (followed_by (followed_by log p) r)
    → ShowsLog seen (followed_by (followed_by log p) f)
shows_log_left_out seen log p r f hp hr s shows = record {
  commands = commands_left_out log p r f s shows.commands;
  tables = shows.tables;
  are = shows.are;
  shows = shows_left_out shows.tables log p r f hp hr s shows.shows;
}
