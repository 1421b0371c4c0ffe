-- The others are read from where the first row is. Each clause is named: a search for them takes long.
use Rattle.std.proofs.Common.{◌++◌, map, drop, inr, refl, sym, ap, ◌∙◌, rules, w64, to_z}
use Rattle.std.proofs.lemmas.Result.{MatchResult-weaker}
use Rattle.sqlite.specs.Held.{state}
use Rattle.store_rows.proofs.Lookups.{as_integer}
use Rattle.sql_meanings.specs.StatementAnswers.{IsStoreError}
use Rattle.walked_rows.specs.{StepOutcomes.BreaksBy, Pairs.pair_of, Rows.entry_key, Rows.rows_after}
use Rattle.walked_rows.proofs.Filling.{breaks_first, first_is, from_first, joined_first, none_joined, nothing_is}
use Rattle.walked_rows.proofs.Filling.{nothing_joined, rises_itself, rises_too}
use Rattle.walked_rows.proofs.Leaving.{if_any}
use Rattle.walked_rows.proofs.joined.join_first.Goals as goal

pub join_ahead-requires : goal.join_ahead-requires
join_ahead-requires g c =
    let entry = g.R.StoredRow.kind.entry in
    let n = c.key-start.result in
    let rises = rises_itself (λ r. entry_key (entry r)) c.requires.rises.0 c.args.own.now
    (drop 1 c.args.own.now) c.in-Some.first.now c.args.rest
    (first_is c.args.own.now c.in-Some.first.now c.in-Some.ensures.value) c.requires.rises.1 (to_z w64 n)
    (as_integer n n refl c.key-start.ensures.most ∙ sym c.key-start.ensures.key) in
    (search rules, (search rules, (c.requires.few, rises)))

pub returns-in-Some : goal.returns-in-Some
returns-in-Some g c =
    let entry = g.R.StoredRow.kind.entry in
    let own = c.args.own.now in
    let row = c.in-Some.first.now in
    let more = drop 1 own in
    let n = c.key-start.result in
    let start = to_z w64 n in
    let at = as_integer n n refl c.key-start.ensures.most ∙ sym c.key-start.ensures.key in
    let first = first_is own row c.in-Some.ensures.value in
    record {
      answers = λ clean base others rise has from answers.
          let after = map entry more ++ rows_after c.args.rest base in
          let is = answers ∙ ap (λ l. map entry l ++ rows_after c.args.rest base) first in
          MatchResult-weaker c.join_ahead.result
          (c.join_ahead.ensures.answers clean base others rise has
          (sym (from_first base rise from start (entry row) after is at) ∙ answers))
          (joined_first (pair_of entry g.O.StoredRow.kind.entry) others base rise from start (entry row) after
          is at
          c.join_ahead.new.rows.items)
          (breaks_first others base from start (entry row) after is at
          (IsStoreError (state g.S.Store c.args.conn.now) (state g.S.Store c.join_ahead.new.conn))
          (BreaksBy g.R.StoredRow.kind.reading) (BreaksBy g.O.StoredRow.kind.reading));
      ended =
          none_joined c.join_ahead.new.rows.items c.join_ahead.result
          (c.join_ahead.ensures.some row more first at);
      rises = λ from rises.
          rises_too (λ r. entry_key (entry r)) from own more row c.args.rest first rises
          (λ j. entry_key (entry j.stored)) start at c.join_ahead.new.rows.items c.join_ahead.result
          c.join_ahead.ensures.rises;
      reads = if_any c.join_ahead.ensures.reads;
      cause = c.join_ahead.ensures.cause;
    }

pub returns-in-None : goal.returns-in-None
returns-in-None g c =
    record {
      answers = λ clean base others rise has from is.
          let none = nothing_is c.args.own.now c.in-None.ensures.value in
          nothing_joined g.R.StoredRow.kind.entry (pair_of g.R.StoredRow.kind.entry g.O.StoredRow.kind.entry)
          others base from c.args.own.now c.args.rest c.clear.new.self.items none (c.requires.ended none)
          c.clear.ensures is;
      ended = λ none. refl;
      rises = λ from rises. rw c.clear.ensures tt;
      reads = record {
        same = λ clean. inr refl;
        err = λ clean. tt;
        mode = λ outside. outside;
        survives = search rules;
      };
      cause = λ clean. tt;
    }
