use Rattle.std.proofs.Common.{rules, ◌≡◌, ◌<◌, ◌-◌, ◌++◌, length, take, drop, Option, Some, sym, ap, ◌∙◌, arith}
use Rattle.posting_core.specs.Plain.{plain_tables}
use Rattle.posting_core.specs.believed.{Batches.joined, LogEntries.answered_of, LogEntries.entry_of, LogEntries.log_entries}
use Rattle.posting_core.proofs.LogPlaces.{entry_at, joined_more, length-entries, none_between}
use Rattle.posting_core.proofs.plain_bank.PlainBank.entries_between.Goals.{in-Some+in_ok-extend_from_slice, in_default}
use Rattle.posting_core.proofs.plain_bank.PlainBank.entries_between.Goals as goal

some_same : {X : Type 0} {x y : X} → ◌≡◌ {A = Option X} (Some x) (Some y) → x ≡ y
some_same is = cc

pub loop-place-init : goal.loop-place-init
loop-place-init c log commands shows =
    c.new-bytes.ensures.items ∙ none_between (log_entries log) c.args.from

pub loop-place-preserved : goal.loop-place-preserved
loop-place-preserved c log commands shows =
    let t = plain_tables c.args.self.now in
    let place = c.loop-place.place in
    let before = c.loop-place.invariant log commands shows in
    let below : place < length (log_entries log) =
    (let n = length-entries log in let d = shows.rows.decided in
    omega (arith, n, d, c.loop-place-test.true, c.requires.within)) in
    let found = entry_at t log commands shows place below in
    let more = joined_more (log_entries log) c.args.from place c.loop-place.auto.place below in
    let is = c.entry_at.ensures found.0 found.1.stands in
    elim c.match-entry_at.branch [
      | in-Some+in_ok-extend_from_slice w ↦
          let same : w.in-Some.entry ≡ entry_of (answered_of found.0) = some_same (sym w.in-Some.is ∙ is) in
          let text : w.as_slice.result.now ≡ w.in-Some.entry = search rules in
          ap (λ v. v.items) w.bytes-is ∙ w.in_ok-extend_from_slice.ensures.items
          ∙ ap (λ b. b ++ w.as_slice.result.now) before
          ∙ ap (λ e. joined (take (place - c.args.from) (drop c.args.from (log_entries log))) ++ e)
          (text ∙ same ∙ sym found.1.entry)
          ∙ more
      | in_default w ↦ absurd (w.in_default.not-Some (entry_of (answered_of found.0)) is)
    ]

pub returns : goal.returns
returns c log commands shows =
    c.loop-place.invariant log commands shows
    ∙ ap (λ n. joined (take (n - c.args.from) (drop c.args.from (log_entries log))))
    (let last = c.loop-place.auto.place-end c.requires.order in omega (arith, last, c.loop-place-test.false))
