-- What a crash leaves of commands that were given, and what a text holds of others.
use Rattle.std.proofs.Common.{◌≡◌, ℕ, ◌+◌, ◌≤◌, List, ◌++◌, length, take, sym, ap, subst, ◌∙◌, arith}
use Rattle.std.proofs.{Math.Seq.take-append-add, lemmas.List.length-append, lemmas.List.take_all}
use Rattle.posting_rules.specs.{declared.fault.Fault.Fault, believed.Commands.Command, believed.Commands.AreCommands}
use Rattle.posting_rules.specs.{believed.Tables.Tables, believed.Tables.AreTablesOf, believed.Runs.followed_by}
use Rattle.posting_rules.specs.declared.fault.Fault.TheVariants.{Memory, Store, Down, Damaged}
use Rattle.posting_rules.specs.believed.Counter.{Seen, LeavesOnly, StandsAt, ShowsPrefix, Refuses}
use Rattle.posting_rules.proofs.{Remaining.leaves_still, Remaining.leaves_weaker, Sequence.after-append}

-- a crash leaves all that was taken
pub stop_all : (c : Seen) (log cs ds : List Command) → cs ≡ ds → StandsAt c (followed_by log ds)
    → LeavesOnly c (ShowsPrefix log cs (length ds))
stop_all c log cs ds e s = leaves_weaker c (λ t. AreTablesOf t (followed_by log ds))
    (ShowsPrefix log cs (length ds))
    (λ t shown.
    let all : take (length ds) cs ≡ ds = ap (take (length ds)) e ∙ take_all (length ds) ds (omega arith) in
    record {
      count = length ds;
      holds = omega arith;
      within = omega (arith, ap length e);
      are = subst (λ (l : List Command). AreCommands (followed_by log l)) (sym all) s.shows.commands;
      shows = subst (λ (l : List Command). AreTablesOf t (followed_by log l)) (sym all) shown;
    })
    s.survives

-- who finds so many of the commands finds fewer too
pub at_least : (log cs : List Command) (n k : ℕ) (t : Tables) → k ≤ n → ShowsPrefix log cs n t
    → ShowsPrefix log cs k t
at_least log cs n k t le b = record {
  count = b.count;
  holds = omega (arith, b.holds);
  within = b.within;
  are = b.are;
  shows = b.shows;
}

-- what a crash leaves where the last commands were refused
pub stop_part : (c : Seen) (log cs ds es : List Command) → es ≡ cs ++ ds
    → LeavesOnly c (ShowsPrefix (followed_by log cs) ds 0)
    → LeavesOnly c (ShowsPrefix log es (length cs))
stop_part c log cs ds es e stop = leaves_weaker c (ShowsPrefix (followed_by log cs) ds 0)
    (ShowsPrefix log es (length cs))
    (λ t b.
    let begins : take (length cs + b.count) es ≡ cs ++ take b.count ds = ap (take (length cs + b.count)) e
    ∙ take-append-add cs ds b.count in
    let same : followed_by log (take (length cs + b.count) es) ≡ followed_by (followed_by log cs) (take b.count ds) =
    ap (followed_by log) begins ∙ after-append log cs (take b.count ds) in
    record {
      count = length cs + b.count;
      holds = omega arith;
      within = omega (arith, b.within, length-append cs ds, ap length e);
      are = subst AreCommands (sym same) b.are;
      shows = subst (λ (l : List Command). AreTablesOf t l) (sym same) b.shows;
    })
    stop

-- refused commands leave a prefix of them
pub refused_stop : (fault : Fault) (c c' : Seen) (log cs : List Command) → Refuses fault c c' cs → c'.honest
    → StandsAt c log → LeavesOnly c' (ShowsPrefix log cs 0)
refused_stop Memory c c' log cs u h s = leaves_weaker c' (λ t. AreTablesOf t log) (ShowsPrefix log cs 0)
    (λ t shown. record {
      count = 0;
      holds = omega arith;
      within = omega arith;
      are = s.shows.commands;
      shows = shown;
    })
    (leaves_still c c' (λ t. AreTablesOf t log) u.left s.survives)
refused_stop Store c c' log cs u h s = u.survives h log s
refused_stop Down c c' log cs u h s = absurd (s.up u.before)
refused_stop (Damaged rule) c c' log cs u h s = absurd (u.never_shown h log s.shows)

-- all of one text and a prefix of the next are a prefix of both
pub written_part : (a b t u : List ℕ) → a ≡ t → b ≡ take (length b) u
    → a ++ b ≡ take (length (a ++ b)) (t ++ u)
written_part a b t u ea eb =
    ap (λ (x : List ℕ). x ++ b) ea ∙ ap (λ (x : List ℕ). t ++ x) eb ∙ sym (take-append-add t u (length b))
    ∙ ap (λ (j : ℕ). take j (t ++ u))
    (ap (λ (x : List ℕ). length x + length b) (sym ea) ∙ sym (length-append a b))
