-- An opening of a bank in memory, on whatever rows it has.
use Rattle.std.proofs.Common.{◌≡◌, ℕ, List, Option, Some, None, refl, sym, subst, ◌∙◌}
use Rattle.std.specs.{Prelude.ℤ, Prelude.pos, Prelude.IfSome}
use Rattle.posting_rules.specs.declared.{counter.Opening.Opening, rows.BranchRow.BranchRow, rows.FloorRow.FloorRow}
use Rattle.posting_rules.specs.believed.AnyTables.{HasKeysOfBranches, HasRoomToOpen, HasSameRows, IsReadyToOpen}
use Rattle.posting_rules.specs.believed.AnyTables.{OpensByTables, OpensOn}
use Rattle.posting_rules.specs.believed.Changes.{floor_put, new_account, new_teller, opened_where, tables_opened}
use Rattle.posting_rules.specs.believed.Changes.{tables_with_branch, with_accounts, with_branch, with_floor, with_tellers}
use Rattle.posting_rules.specs.believed.{Commands.Terms, Counter.opening_for, LookUps.terms_in}
use Rattle.posting_rules.specs.believed.Numbering.{first_account, first_teller}
use Rattle.posting_rules.specs.believed.Tables.{HasKeys, Tables, account_key, branch_key, branch_row_of, floor_key}
use Rattle.posting_rules.specs.believed.Tables.{floor_row_of, row_at, teller_key}
use Rattle.posting_rules.proofs.{RowChanges.row_at-put, RowChanges.row_at-rows_put, SameRows.same_itself}
use Rattle.posting_core.specs.Appended.{appended_opened, floor_after}
use Rattle.posting_core.specs.{Plain.plain_seen, Plain.plain_tables, declared.plain_bank.PlainBank.PlainBank}
use Rattle.posting_core.proofs.RowsAfter.{row_after, row_at-after, row_at-from, rows_after}

floor_same : (b : ℕ) (floor : Option ℤ) (rows : List FloorRow) → IfSome floor (λ _. row_at floor_key rows b ≡ None)
    → (n : ℕ) → row_at floor_key (floor_after b floor rows) n ≡ row_at floor_key (floor_put b floor rows) n
floor_same b None rows free n = refl
floor_same b (Some lowest) rows free n =
    row_at-after floor_key rows (floor_row_of b lowest) free n ∙ sym (row_at-put floor_key (floor_row_of b lowest) rows n)

floor_keys : (b : ℕ) (floor : Option ℤ) (rows : List FloorRow) → IfSome floor (λ _. row_at floor_key rows b ≡ None)
    → HasKeys floor_key rows → HasKeys floor_key (floor_after b floor rows)
floor_keys b None rows free keys = keys
floor_keys b (Some lowest) rows free keys = (row_after floor_key rows (floor_row_of b lowest) keys free).keys

module _ (t : Tables) (b : ℕ) (terms : Terms) (none : row_at branch_key t.branches b ≡ None)
    (room : HasRoomToOpen b terms t) where
  -- the rows that are put after the others are those that are put in their places
  appended_same : HasSameRows (tables_opened t b terms) (appended_opened t b terms)
  unfolding with_branch with_tellers with_accounts with_floor
  appended_same =
      let row = branch_row_of b (pos 0) terms in
      record {
        branches = λ n. row_at-after branch_key t.branches row none n ∙ sym (row_at-put branch_key row t.branches n);
        tellers = λ n. row_at-from teller_key new_teller (first_teller b) 10 t.tellers (λ k. refl) room.tellers n
            ∙ sym (row_at-rows_put teller_key new_teller (first_teller b) 10 t.tellers (λ k. refl) n);
        accounts = λ n.
            row_at-from account_key new_account (first_account b) terms.accounts t.accounts (λ k. refl) room.accounts n
            ∙ sym (row_at-rows_put account_key new_account (first_account b) terms.accounts t.accounts (λ k. refl) n);
        floors = floor_same b terms.floor t.floors room.floor;
        decided = refl;
        history = refl;
        requests = refl;
        references = refl;
        closings = refl;
      }

  appended_keys : HasKeysOfBranches t → HasKeysOfBranches (appended_opened t b terms)
  appended_keys keys = record {
    branches = (row_after branch_key t.branches (branch_row_of b (pos 0) terms) keys.branches none).keys;
    tellers = (rows_after teller_key new_teller (first_teller b) 10 t.tellers (λ k. refl) keys.tellers room.tellers).keys;
    accounts = (rows_after account_key new_account (first_account b) terms.accounts t.accounts (λ k. refl) keys.accounts
        room.accounts).keys;
    floors = floor_keys b terms.floor t.floors room.floor keys.floors;
  }

module _ (old new : PlainBank) (b : ℕ) (terms : Terms) (opening : Opening)
    (is : opening ≡ opening_for (terms_in (plain_tables old) b) terms) where
  abbrev t : Tables
  t = plain_tables old

  -- the branch is open, and its rows stay
  pub stays_on : plain_tables new ≡ t → t ≡ tables_with_branch t b terms
      → OpensByTables (plain_seen old) (plain_seen new) b terms opening
  stays_on stays same h u ready there =
      subst (λ (v : Tables). OpensOn (plain_seen old) (plain_seen new) v b terms opening) (sym there)
      (record {
        answer = is;
        leads = record {
          tables = t;
          same = subst (λ (v : Tables). HasSameRows v t) same (same_itself t);
          are = sym stays;
          survives = λ only remains left. (remains, refl, left ∙ stays);
        };
        keys = λ keys. keys;
      })

  -- it wasn't, and has them now
  pub opens_on : row_at branch_key t.branches b ≡ None → plain_tables new ≡ appended_opened t b terms
      → OpensByTables (plain_seen old) (plain_seen new) b terms opening
  opens_on none led h u ready there =
      let room = subst (IsReadyToOpen b terms) there ready none in
      subst (λ (v : Tables). OpensOn (plain_seen old) (plain_seen new) v b terms opening) (sym there)
      (record {
        answer = is;
        leads = record {
          tables = plain_tables new;
          same = subst (λ (v : Tables). HasSameRows (tables_with_branch t b terms) v) (sym led)
              (subst (λ (row : Option BranchRow). HasSameRows (opened_where row t b terms) (appended_opened t b terms))
              (sym none) (appended_same t b terms none room));
          are = refl;
          survives = λ only remains left. (remains, refl, left);
        };
        keys = λ keys. subst HasKeysOfBranches (sym led) (appended_keys t b terms none room keys);
      })
