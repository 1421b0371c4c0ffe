-- What an error of `prepare` means: that the text is refused, or that the store failed.
use Rattle.std.proofs.Common.{◌≡◌, Bool, List, [], ℕ, Ok, Err, true, false, refl, rules}
use Rattle.std.specs.Prelude.{if◌then◌else◌}
use Rattle.sqlite.specs.{Held.state, Listing.understood, State.IsNotRun, State.State, declared.error.Error.Error}
use Rattle.sql_meanings.specs.StatementAnswers.{OnlyShows, TellsUnderstood, is_text_refused}
use Rattle.sql_meanings.proofs.Probing.{fails_to_tell, refuses_text}
use Rattle.store_rows.proofs.probes.is_understood.Goals as goal
use Rattle.store_rows.proofs.probes.is_understood.Goals.{in-Err, in-Ok}

tells : (old new : State) (text : List ℕ) → OnlyShows text 0 (understood old.now.schema text) → (e : Error)
    → IsNotRun old new text [] e → (refuses : Bool) → is_text_refused e ≡ refuses
    → TellsUnderstood old new text (if refuses then Ok false else Err e)
tells old new text only e fails true is = refuses_text old new text only e is fails
tells old new text only e fails false is = fails_to_tell old new text only e is fails

pub returns-clause-answers : goal.returns-clause-answers
returns-clause-answers g c clean only = elim c.match-prepare.branch [
  | in-Ok w ↦ rw w.result-is (search rules)
  | in-Err w ↦
      rw (w.result-is, w.refused.ensures)
      (tells (state g.S.Store c.args.conn.now) (state g.S.Store c.prepare.new.self) c.args.text.now only w.in-Err.e
      (w.in-Err.ensures.err clean []) _ refl)
]
