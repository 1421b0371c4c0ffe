use Rattle.std.proofs.Common.{◌≡◌, ◌<◌, ℕ, List, [], ◌∷◌, arith, get_or, length, subst, sym, take}
use Rattle.std.proofs.lemmas.List.{take_all, take_more}
use Rattle.counter_http.specs.Figures.{Counts, IsMore, how_many, tallied}
use Rattle.counter_http.proofs.Counted.{counts_none, counts_then, more_then, tallied_commits}
use Rattle.counter_http.proofs.figures.Tally.count_commit.Goals as goal

pub loop-reply-init : goal.loop-reply-init
loop-reply-init c = counts_none c.args.self.now

pub loop-reply-preserved : goal.loop-reply-preserved
loop-reply-preserved c =
    let rs = c.args.replies.now in
    let i = c.loop-reply.reply-index in
    let under : i < length rs = omega (arith, c.loop-reply-test.true) in
    rw (take_more rs i [] under)
    (counts_then (take i rs) (get_or rs i [] ∷ []) 0 0 c.loop-reply.invariant c.count.ensures)

pub returns : goal.returns
returns c =
    let rs = c.args.replies.now in
    let old = c.args.self.now in
    let mid = c.loop-reply.self in
    let all : take c.loop-reply.reply-index rs ≡ rs =
    take_all c.loop-reply.reply-index rs (omega (arith, c.loop-reply-test.false)) in
    let counted : Counts old mid rs 0 = subst (λ (xs : List (List ℕ)). Counts old mid xs 0) all c.loop-reply.invariant in
    record {
      records_are = counted.records_are;
      commits_are = more_then old.commits mid.commits _ 0 1 counted.commits_are c.one_more-self.ensures;
      outcomes_are = λ o. subst (λ (x : ℕ). IsMore (tallied old o) x (how_many o rs))
          (sym (tallied_commits mid c.one_more-self.result o)) (counted.outcomes_are o);
    }
