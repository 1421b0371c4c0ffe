-- A connection that was just opened.
use Rattle.std.proofs.Common.{◌≡◌, ◌∙◌, ℕ, List, sym, ap, subst}
use Rattle.sqlite.specs.{Effect.Database, Effect.IsDatabase, Schema.Schema, State.State, State.Opens, Tree.Trees}
use Rattle.posting_rules.specs.believed.Commands.{Command, AreCommands}
use Rattle.posting_rules.specs.{believed.Counter.StandsAt, believed.Tables.Tables, believed.Tables.AreTablesOf}
use Rattle.sql_meanings.proofs.Trees.{same_schema}
use Rattle.store_rows.specs.believed.View.{Shows, ShowsTrees}
use Rattle.bank_store.specs.Migration.{ShowsEarlier, ShowsEarlierTrees, StandsEarlier}
use Rattle.bank_store.specs.believed.Seen.{seen_in}

-- it stands at what its trees show
pub stands_opened : (s : State) (D : Type 0) → (D → ⊥) → Opens s
    → ((db : Trees) → s.may_leave db → db ≡ s.committed.trees)
    → (t : Tables) (log : List Command) → AreCommands log → ShowsTrees s.now.trees t → Shows s.now t
    → AreTablesOf t log → StandsAt (seen_in s D) log
stands_opened s D up opens settled t log are left shown shows = record {
  shows = record { commands = are; tables = t; are = shown; shows = shows };
  up = up;
  survives = λ db may.
      let same = settled db may ∙ ap (λ (it : Database). it.trees) (sym opens.clean) in
      (t, subst (λ (trees : Trees). ShowsTrees trees t) (sym same) left, shows);
}

-- the same of a file of an earlier version
pub stands_earlier : (from : ℕ) (s : State) → Opens s → ((db : Trees) → s.may_leave db → db ≡ s.committed.trees)
    → IsDatabase s.now → (log : List Command) → ShowsEarlierTrees from s.now.trees log → StandsEarlier from s log
stands_earlier from s opens settled sound log left = record {
  shows = subst (λ (schema : Schema). ShowsEarlier from (record { schema = schema; trees = s.now.trees }) log)
      (same_schema s.now left.0 ∣ sound ∣₁ left.1.are.sound) left.1;
  survives = λ db may.
      let same = settled db may ∙ ap (λ (it : Database). it.trees) (sym opens.clean) in
      subst (λ (trees : Trees). ShowsEarlierTrees from trees log) (sym same) left;
}
