-- What is answered where a branch is open, and what is added where it isn't.
use Rattle.std.proofs.Common.{◌≡◌, ◌≤◌, ℕ, Option, None, Some, Ok, Err, rules, refl, sym, ◌∙◌, ap, arith, subst}
use Rattle.posting_rules.specs.believed.Changes.{opened_where, tables_opened, tables_with_branch}
use Rattle.posting_rules.specs.{believed.Commands.Terms, believed.Commands.opened_with, believed.Counter.opening_for}
use Rattle.posting_rules.specs.{believed.LookUps.floor_in, believed.LookUps.terms_of_branch}
use Rattle.posting_rules.specs.{declared.counter.Opening.TheVariants.Opened, declared.rows.BranchRow.BranchRow}
use Rattle.posting_rules.specs.believed.Tables.{Tables, row_at, branch_key}
use Rattle.std.specs.Option.{option_map}
use Rattle.bank_transactions.proofs.Chained.{acts_read, acts_wrote, does_both, does_but, does_tell, still_in}
use Rattle.bank_transactions.proofs.{LookUps.acts_stray, LookUps.does_look, LookUps.finds_so, LookUps.reads_ok}
use Rattle.bank_transactions.proofs.ShownSlots.{shown_terms}
use Rattle.bank_transactions.specs.believed.{Stored.AnswersStored}
use Rattle.posting_rules.specs.believed.AnyTables.{IsReadyToOpen}
use Rattle.bank_transactions.specs.Doing.{ReadsWhere}
use Rattle.message_records.specs.declared.limits.TheConstants.{MAX_BRANCH}
use Rattle.posting_rules.specs.believed.LookUps.{terms_in}
use Rattle.posting_rules.specs.declared.counter.Opening.{Opening}
use Rattle.sqlite.specs.declared.transaction.Transaction.{Transaction}
use Rattle.sqlite_trees.specs.declared.store.Store.{Ghosts}
use Rattle.sqlite.specs.{Effect.Database, Held.state, State.HasCleanDisk}
use Rattle.store_rows.specs.believed.View.{Shows}
use Rattle.bank_transactions.proofs.Exits.{clean_at, handed_on}
use Rattle.bank_transactions.proofs.Running.{ran_since}
use Rattle.bank_transactions.proofs.new_branch.open_inside.Goals as goal

-- a branch that is open stays as it is
stays_open : (t : Tables) (b : ℕ) (terms : Terms) (row : Option BranchRow)
    → (Opened ≡ opening_for (option_map (terms_of_branch (floor_in t b)) row) terms → ⊥)
    → t ≡ opened_where row t b terms
stays_open t b terms None other = absurd (other refl)
stays_open t b terms (Some row) other = refl

-- where it isn't, it is added
not_there : (t : Tables) (b : ℕ) (terms : Terms) (row : Option BranchRow)
    → Opened ≡ opening_for (option_map (terms_of_branch (floor_in t b)) row) terms → row ≡ None
not_there t b terms None is = refl
not_there t b terms (Some row) is = absurd (search rules)

opened_now : (t : Tables) (b : ℕ) (terms : Terms) → row_at branch_key t.branches b ≡ None
    → tables_opened t b terms ≡ tables_with_branch t b terms
opened_now t b terms is = rw is refl

-- what was looked up is what tables show, whatever they are
looked : {S : Type 0} {g : Ghosts S} {old mid : Transaction S} {So : Tables → Type 0} {w : Tables → Opening}
    (b : ℕ) (terms : Terms) (opening : Opening) → 1 ≤ b → b ≤ MAX_BRANCH → ReadsWhere g old mid So w (Ok opening)
    → (HasCleanDisk (state g mid.conn.now) → AnswersStored (state g old.conn.now).now b terms opening)
    → ReadsWhere g old mid (IsReadyToOpen b terms) (λ t. opening_for (terms_in t b) terms) (Ok opening)
looked {g = g} {old = old} b terms opening low high reads stored = finds_so reads (λ clean t shows ready.
    let it = stored clean in
    it.is ∙ ap (λ (f : Option Terms). opening_for f terms)
    (shown_terms (state g old.conn.now).now t b low high it.first shows it.stored))

pub returns-in_err-opening : goal.returns-in_err-opening
returns-in_err-opening g c =
    let same = handed_on c.from_residual.result c.from_residual.ensures.1 in
    rw same (record {
      acts = acts_stray c.in_err-opening.ensures.says;
      stored = tt;
    })

pub returns-in_default-clause-acts : goal.returns-in_default-clause-acts
returns-in_default-clause-acts g c =
    let b = c.args.branch in
    let terms = opened_with c.args.count c.args.floor in
    acts_read (does_tell (does_look (looked b terms _ c.in_ok-opening.ensures.above (omega arith) (reads_ok c.in_ok-opening.ensures.says)
    c.in_ok-opening.ensures.stored))
    (λ t ready. (
      ready,
      λ found. (
        stays_open t b terms (row_at branch_key t.branches b)
            (λ opened. c.in_default.not-Opened (found ∙ sym opened)),
        found,
      ),
    )))

pub returns-in_err-add_whole_branch-in-Opened : goal.returns-in_err-add_whole_branch-in-Opened
returns-in_err-add_whole_branch-in-Opened g c =
    let b = c.args.branch in
    let terms = opened_with c.args.count c.args.floor in
    let same : c.from_residual-in_err-add_whole_branch-in-Opened.result
    ≡ Err c.in_err-add_whole_branch-in-Opened.field-0.0 = search rules in
    rw same (record {
      acts = acts_wrote (does_but (does_look (looked b terms _ c.in_ok-opening.ensures.above (omega arith)
          (reads_ok c.in_ok-opening.ensures.says)
          c.in_ok-opening.ensures.stored))
          c.in_err-add_whole_branch-in-Opened.ensures.writes.does
          (λ t ready found.
          let at = not_there t b terms (row_at branch_key t.branches b) (sym c.in-Opened.is ∙ found) in
          (ready at, at)));
      stored = tt;
    })

pub returns-in_ok-add_whole_branch-in-Opened-clause-acts : goal.returns-in_ok-add_whole_branch-in-Opened-clause-acts
returns-in_ok-add_whole_branch-in-Opened-clause-acts g c =
    let b = c.args.branch in
    let terms = opened_with c.args.count c.args.floor in
    acts_wrote (does_both (does_look (looked b terms _ c.in_ok-opening.ensures.above (omega arith) (reads_ok c.in_ok-opening.ensures.says)
    c.in_ok-opening.ensures.stored))
    c.in_ok-add_whole_branch-in-Opened.ensures.writes.does
    (λ t ready found.
    let at = not_there t b terms (row_at branch_key t.branches b) (sym c.in-Opened.is ∙ found) in
    ((ready at, at), opened_now t b terms at, sym c.in-Opened.is ∙ found)))

-- ---- of whatever rows the file holds

pub returns-in_default-clause-stored : goal.returns-in_default-clause-stored
returns-in_default-clause-stored g c clean live = record {
  answers = record {
    answers = c.in_ok-opening.ensures.stored clean;
    stays = λ other. (c.in_ok-opening.ensures.says.says.leaves clean).0.now;
    opens = λ is t shows. absurd (c.in_default.not-Opened is);
  };
  wrote = λ is. absurd (c.in_default.not-Opened is);
}

pub returns-in_ok-add_whole_branch-in-Opened-clause-stored : goal.returns-in_ok-add_whole_branch-in-Opened-clause-stored
returns-in_ok-add_whole_branch-in-Opened-clause-stored g c clean live =
    let added = c.in_ok-add_whole_branch-in-Opened.ensures in
    let mid = clean_at added.writes.does.says.survives clean in
    let looked = (c.in_ok-opening.ensures.says.says.leaves mid).0 in
    let goes_on = still_in (state g.S.Store c.args.tx.now.conn.now) (state g.S.Store c.opening_of.new.tx.conn.now)
    looked.goes_on live in
    record {
      answers = record {
        answers = rw c.in-Opened.is at (c.in_ok-opening.ensures.stored mid);
        stays = λ other. absurd (other refl);
        opens = λ is t shows.
            added.leaves.shown clean goes_on t (subst (λ (db : Database). Shows db t) (sym looked.now) shows);
      };
      wrote = λ is. ran_since looked.now (λ text values own. own) (added.writes.ran clean goes_on);
    }
