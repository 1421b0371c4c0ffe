-- A client that is written to, lost, or whose connection is closed.
use Rattle.std.proofs.Common.{◌≡◌, ℕ, List, [], ◌++◌, length, take, drop, Option, Some, None, Bool}
use Rattle.std.proofs.Common.{refl, sym, ap, subst, ◌∙◌, append_assoc, append-nil, inr}
use Rattle.std.specs.{Prelude.◌≢◌, Prelude.⊤, Io.KnownBytes.Appends, Io.KnownBytes.Consumes}
use Rattle.std.proofs.{KnownBytes.Appends-trans}
use Rattle.std.proofs.lemmas.List.{take-append-drop}
use Rattle.std.proofs.Math.Seq.{take-append_seam}
use Rattle.posting_rules.specs.{believed.Counter.Seen}
use Rattle.posting_core.specs.{believed.Batches.joined}
use Rattle.posting_core.specs.EndCalls.{HasMore, IsFlush, IsThrough, WriteCall}
use Rattle.posting_core.specs.believed.EndCalls.{EndsWith}
use Rattle.posting_core.proofs.Telling.{more_last, more_more}
use Rattle.counter_http.specs.Connections.{Known}
use Rattle.counter_http.specs.together.Standing.{IsGoing, IsParted, MayBeLeft, StandsAs}
use Rattle.counter_http.specs.together.Serving.{AnswersBeforeItsReads, Broken_off, ClientIsServed, Goes_on, IsWrittenAs, PartingIsOfItsEnd}
use Rattle.counter_http.specs.together.Serving.{PartsAs, Stands, Walk_ended}
use Rattle.counter_http.specs.believed.Ends.{HasEnded}
use Rattle.counter_http.specs.together.Order.{Step, answers_of, of_client}
use Rattle.counter_http.specs.believed.Turns.{Turn, texts_of}
use Rattle.counter_http.specs.declared.parting.Parting.{Parting}
use Rattle.counter_http.specs.declared.parting.Parting.TheVariants as parting

-- ---- lists

pub all_first : {A : Type 0} (xs ys : List A) → take (length xs) (xs ++ ys) ≡ xs
all_first xs ys = take-append_seam xs ys

-- what was written and is left of a text is all of it, and so the first is a prefix
pub begins_with : (xs ys text : List ℕ) → xs ++ ys ≡ text → xs ≡ take (length xs) text
begins_with xs ys text e = sym (all_first xs ys) ∙ ap (take (length xs)) e

-- a prefix of a prefix
pub begins_less : (xs ys text : List ℕ) → xs ++ ys ≡ take (length (xs ++ ys)) text → xs ≡ take (length xs) text
begins_less xs ys text e =
    begins_with xs (ys ++ drop (length (xs ++ ys)) text) text
    (sym (append_assoc xs ys (drop (length (xs ++ ys)) text))
    ∙ ap (λ (x : List ℕ). x ++ drop (length (xs ++ ys)) text) e ∙ take-append-drop (length (xs ++ ys)) text)

-- ---- why it was parted from

unfoldable pub stands_of : {has_ended : Type 0} {own lost : List Turn} {rest : List ℕ} {last : List (List ℕ)} (p : Parting)
    → PartsAs p has_ended own lost rest last → Stands has_ended own lost rest last
stands_of parting.Served is = Walk_ended is
stands_of parting.Read is = Goes_on (record { stays = is.stays; none_lost = is.none_refused; nothing = is.nothing })
stands_of parting.Write is = is
stands_of (parting.Bank fault) is = Broken_off is
stands_of parting.Memory is = is
stands_of parting.GivenUp is = is
stands_of parting.Stopped is = is

pub prefix_of : (p : Parting) (written more text : List ℕ) → IsWrittenAs p (written ++ more) text
    → written ≡ take (length written) text
prefix_of parting.Served w m text e = begins_with w m text e
prefix_of parting.Read w m text e = begins_with w m text e
prefix_of parting.Write w m text e = begins_less w m text e
prefix_of (parting.Bank fault) w m text e = begins_with w m text e
prefix_of parting.Memory w m text e = begins_less w m text e
prefix_of parting.GivenUp w m text e = begins_less w m text e
prefix_of parting.Stopped w m text e = begins_less w m text e

-- ---- a client that isn't written to any more

-- a prefix of its answers was written
pub record IsLeft (i : ℕ) (k l : Known) (steps : List Step) : Type 0 where
  pub lost : List Turn
  pub rest : List ℕ
  pub last : List (List ℕ)
  pub read : Consumes k.reader l.reader (texts_of (of_client i steps ++ lost) ++ rest)
  pub written : List ℕ
  pub wrote : Appends k.writer l.writer written
  pub stands : Stands (HasEnded l.reader k.reads l.reads) (of_client i steps) lost rest last
  pub answers : written ≡ take (length written) (joined (answers_of i steps ++ last))
  pub more : HasMore k.writes l.writes
  pub prompt : AnswersBeforeItsReads i k.reads l.reads k.beside l.beside k.writer k.writes steps
      (texts_of (of_client i steps ++ lost) ++ rest)

unfoldable pub left_as : {i : ℕ} {k l : Known} {steps : List Step} (p : Option Parting) {has_more shown : Bool}
    {rest pending : List ℕ} → StandsAs p i k l steps has_more shown rest pending → IsLeft i k l steps
left_as {i} {k} {l} {steps} None {has_more} {shown} {rest} {pending} so =
    let g : IsGoing i k l steps has_more shown rest pending = so.is in
    let own = of_client i steps in
    let none = ap (λ (ts : List Turn). texts_of ts ++ rest) (sym (append-nil own)) in
    record {
      lost = [];
      rest = rest;
      last = [];
      read = subst (λ (x : List ℕ). Consumes k.reader l.reader x) none g.read;
      written = g.written;
      wrote = g.wrote;
      stands = Goes_on (record { stays = g.stays; none_lost = refl; nothing = refl });
      answers = begins_with g.written pending (joined (answers_of i steps ++ []))
          (g.answers ∙ ap joined (sym (append-nil (answers_of i steps))));
      more = g.more;
      prompt = subst (λ (x : List ℕ). AnswersBeforeItsReads i k.reads l.reads k.beside l.beside k.writer k.writes
          steps x) none g.prompt;
    }
left_as {i} {k} {l} {steps} (Some p) {pending = pending} so = let g : IsParted i k l steps pending p = so.is in record {
  lost = g.lost;
  rest = g.rest;
  last = g.last;
  read = g.read;
  written = g.written;
  wrote = g.wrote;
  stands = stands_of p g.parts;
  answers = prefix_of p g.written pending (joined (answers_of i steps ++ g.last)) g.answers;
  more = g.more;
  prompt = g.prompt;
}

-- the faults after which a prefix of the answers was written
abbrev pub IsLoss : Parting → Type 0
IsLoss parting.Write = ⊤
IsLoss parting.Memory = ⊤
IsLoss _ = ⊥

unfoldable pub loses : {i : ℕ} {k l : Known} {steps : List Step} (p : Parting) (is : IsLeft i k l steps)
    → PartsAs p (HasEnded l.reader k.reads l.reads) (of_client i steps) is.lost is.rest is.last
    → IsWrittenAs p (is.written ++ []) (joined (answers_of i steps ++ is.last))
    → MayBeLeft p [] → PartingIsOfItsEnd p k.reads l.reads k.writes l.writes
    → IsParted i k l steps [] p
loses p is parts answers left ends = record {
  lost = is.lost;
  rest = is.rest;
  last = is.last;
  read = is.read;
  written = is.written;
  wrote = is.wrote;
  parts = parts;
  answers = answers;
  more = is.more;
  left = left;
  ends = λ none. ends;
  prompt = is.prompt;
}

pub no_more_written : (written text : List ℕ) → written ≡ take (length written) text
    → written ++ [] ≡ take (length (written ++ [])) text
no_more_written written text e =
    append-nil written ∙ e ∙ ap (λ (x : List ℕ). take (length x) text) (sym (append-nil written))

unfoldable pub lost_as : {i : ℕ} {k l : Known} {steps : List Step} (p : Parting) → IsLoss p
    → IsLeft i k l steps → PartingIsOfItsEnd p k.reads l.reads k.writes l.writes
    → IsParted i k l steps [] p
lost_as parting.Served loss is ends = absurd loss
lost_as parting.Read loss is ends = absurd loss
lost_as (parting.Bank fault) loss is ends = absurd loss
lost_as parting.Write loss is ends = loses parting.Write is is.stands
    (no_more_written is.written _ is.answers) refl ends
lost_as parting.Memory loss is ends = loses parting.Memory is is.stands
    (no_more_written is.written _ is.answers) refl ends
lost_as parting.GivenUp loss is ends = absurd loss
lost_as parting.Stopped loss is ends = absurd loss

-- ---- its connection is closed

-- the causes that are not of the client itself
abbrev pub IsCause : Parting → Type 0
IsCause parting.Memory = ⊤
IsCause parting.GivenUp = ⊤
IsCause parting.Stopped = ⊤
IsCause _ = ⊥

unfoldable pub closed_for : {i : ℕ} {k l : Known} {steps : List Step} (cause : Parting)
    (is : IsLeft i k l steps) → PartsAs cause (HasEnded l.reader k.reads l.reads) (of_client i steps) is.lost is.rest is.last
    → IsWrittenAs cause is.written (joined (answers_of i steps ++ is.last))
    → PartingIsOfItsEnd cause k.reads l.reads k.writes l.writes → ClientIsServed i k l steps cause
closed_for cause is parts answers ends = record {
  lost = is.lost;
  rest = is.rest;
  last = is.last;
  read = is.read;
  written = is.written;
  wrote = is.wrote;
  parts = parts;
  answers = answers;
  ends = ends;
  prompt = is.prompt;
}

unfoldable pub closed_early : {i : ℕ} {k l : Known} {steps : List Step} (cause : Parting) → IsCause cause
    → IsLeft i k l steps → ClientIsServed i k l steps cause
closed_early parting.Memory ours is = closed_for parting.Memory is is.stands is.answers tt
closed_early parting.GivenUp ours is = closed_for parting.GivenUp is is.stands is.answers tt
closed_early parting.Stopped ours is = closed_for parting.Stopped is is.stands is.answers tt
closed_early parting.Served ours is = absurd ours
closed_early parting.Read ours is = absurd ours
closed_early parting.Write ours is = absurd ours
closed_early (parting.Bank fault) ours is = absurd ours

unfoldable pub closed_as : {i : ℕ} {k l : Known} {steps : List Step} {pending : List ℕ} {p : Parting}
    → pending ≡ [] → IsParted i k l steps pending p → ClientIsServed i k l steps p
closed_as {i} {steps = steps} {pending} {p} none is = record {
  lost = is.lost;
  rest = is.rest;
  last = is.last;
  read = is.read;
  written = is.written;
  wrote = is.wrote;
  parts = is.parts;
  answers = subst (λ (x : List ℕ). IsWrittenAs p x (joined (answers_of i steps ++ is.last)))
      (ap (λ (x : List ℕ). is.written ++ x) none ∙ append-nil is.written) is.answers;
  ends = is.ends none;
  prompt = is.prompt;
}

-- ---- it is written to

-- what is left of so many more written bytes
pub regrouped : (written pending : List ℕ) (n : ℕ)
    → (written ++ take n pending) ++ drop n pending ≡ written ++ pending
regrouped written pending n =
    append_assoc written (take n pending) (drop n pending)
    ∙ ap (λ (x : List ℕ). written ++ x) (take-append-drop n pending)

pub wrote_flushed : (p : Parting) (k l : Known) (v' : Option (List WriteCall)) (pending : List ℕ)
    → MayBeLeft p pending → pending ≢ [] → IsThrough k.writes v'
    → PartingIsOfItsEnd p k.reads l.reads k.writes v'
wrote_flushed parting.Served k l v' pending left some through = through
wrote_flushed parting.Read k l v' pending left some through = absurd (some left)
wrote_flushed parting.Write k l v' pending left some through = absurd (some left)
wrote_flushed (parting.Bank fault) k l v' pending left some through = through
wrote_flushed parting.Memory k l v' pending left some through = tt
wrote_flushed parting.GivenUp k l v' pending left some through = absurd left
wrote_flushed parting.Stopped k l v' pending left some through = absurd left

pub still_left : (p : Parting) (pending : List ℕ) (n : ℕ) → MayBeLeft p pending → pending ≢ []
    → MayBeLeft p (drop n pending)
still_left parting.Served pending n left some = tt
still_left parting.Read pending n left some = absurd (some left)
still_left parting.Write pending n left some = absurd (some left)
still_left (parting.Bank fault) pending n left some = tt
still_left parting.Memory pending n left some = absurd (some left)
still_left parting.GivenUp pending n left some = absurd left
still_left parting.Stopped pending n left some = absurd left

-- so many bytes of what was left were written, and where no more is left they were flushed
unfoldable pub wrote_to : {i : ℕ} {k l : Known} {steps : List Step} (p : Option Parting) {has_more shown : Bool}
    {rest pending : List ℕ} (n : ℕ) (w' : Option (List ℕ)) (v' : Option (List WriteCall))
    → Appends l.writer w' (take n pending) → HasMore l.writes v' → pending ≢ []
    → (drop n pending ≡ [] → EndsWith IsFlush l.writes v')
    → StandsAs p i k l steps has_more shown rest pending
    → StandsAs p i k (record l { writer = w'; writes = v' }) steps has_more shown rest (drop n pending)
wrote_to {i} {k} {l} {steps} None {has_more} {shown} {rest} {pending} n w' v' wrote more some flushed so =
    let g : IsGoing i k l steps has_more shown rest pending = so.is in record {
      is = record {
        read = g.read;
        stays = g.stays;
        waits = g.waits;
        written = g.written ++ take n pending;
        wrote = Appends-trans k.writer l.writer w' g.written (take n pending) g.wrote wrote;
        answers = regrouped g.written pending n ∙ g.answers;
        more = more_more g.more more;
        through = λ none. inr (more_last IsFlush g.more (flushed none));
        prompt = g.prompt;
      };
    }
wrote_to {i} {k} {l} {steps} (Some p) {pending = pending} n w' v' wrote more some flushed so =
    let g : IsParted i k l steps pending p = so.is in record {
      is = record {
        lost = g.lost;
        rest = g.rest;
        last = g.last;
        read = g.read;
        written = g.written ++ take n pending;
        wrote = Appends-trans k.writer l.writer w' g.written (take n pending) g.wrote wrote;
        parts = g.parts;
        answers = subst (λ (x : List ℕ). IsWrittenAs p x (joined (answers_of i steps ++ g.last)))
            (sym (regrouped g.written pending n)) g.answers;
        more = more_more g.more more;
        left = still_left p pending n g.left some;
        ends = λ none. wrote_flushed p k l v' pending g.left some (inr (more_last IsFlush g.more (flushed none)));
        prompt = g.prompt;
      };
    }

prefix_more : (p : Parting) (written pending text : List ℕ) (n : ℕ) → IsWrittenAs p (written ++ pending) text
    → written ++ take n pending ≡ take (length (written ++ take n pending)) text
prefix_more p written pending text n is =
    prefix_of p (written ++ take n pending) (drop n pending) text
    (subst (λ (x : List ℕ). IsWrittenAs p x text) (sym (regrouped written pending n)) is)

pub take_written : {i : ℕ} {k l : Known} {steps : List Step} (p : Option Parting)
    {has_more shown : Bool} {rest pending : List ℕ} (n : ℕ)
    (g : StandsAs p i k l steps has_more shown rest pending)
    → (left_as p g).written ++ take n pending
    ≡ take (length ((left_as p g).written ++ take n pending)) (joined (answers_of i steps ++ (left_as p g).last))
unfolding left_as
take_written {i} {k} {l} {steps} None {has_more} {shown} {rest} {pending} n so =
    let g : IsGoing i k l steps has_more shown rest pending = so.is in
    begins_with (g.written ++ take n pending) (drop n pending) (joined (answers_of i steps ++ []))
    (regrouped g.written pending n ∙ g.answers ∙ ap joined (sym (append-nil (answers_of i steps))))
take_written {i} {k} {l} {steps} (Some p) {pending = pending} n so =
    let g : IsParted i k l steps pending p = so.is in
    prefix_more p g.written pending (joined (answers_of i steps ++ g.last)) n g.answers

-- some were written, and no more will be
unfoldable pub left_after : {i : ℕ} {k l : Known} {steps : List Step} (p : Option Parting)
    {has_more shown : Bool} {rest pending : List ℕ} (n : ℕ) (w' : Option (List ℕ)) (v' : Option (List WriteCall))
    → Appends l.writer w' (take n pending) → HasMore l.writes v'
    → StandsAs p i k l steps has_more shown rest pending
    → IsLeft i k (record l { writer = w'; writes = v' }) steps
left_after {i} {k} {l} {steps} p {has_more} {shown} {rest} {pending} n w' v' wrote more g =
    let is = left_as p g in
    let text = take_written p n g in
    record {
      lost = is.lost;
      rest = is.rest;
      last = is.last;
      read = is.read;
      written = is.written ++ take n pending;
      wrote = Appends-trans k.writer l.writer w' is.written (take n pending) is.wrote wrote;
      stands = is.stands;
      answers = text;
      more = more_more is.more more;
      prompt = is.prompt;
    }
