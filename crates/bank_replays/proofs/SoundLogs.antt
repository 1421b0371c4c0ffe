-- No row of a file that shows a log is damaged, so that no fault says it is.
use Rattle.std.proofs.Common.{◌≡◌, ◌++◌, ◌∷◌, ◌∙◌, List, map, Err, Result, inl, inr, refl, sym, ap, subst}
use Rattle.std.specs.{Prelude.IfErr, List.AllByRecursion, List.Contains}
use Rattle.std.proofs.lemmas.{Bool.and_parts, List.Elements.All-contains_itself, List.Elements.recursion_from_All}
use Rattle.sqlite.specs.{State.HasCleanDisk}
use Rattle.sqlite_trees.specs.declared.store.Store.{Ghosts}
use Rattle.posting_rules.specs.{believed.Commands.Command, believed.Commands.AreCommands, believed.Counter.ShowsLog}
use Rattle.posting_rules.specs.believed.{Damage.IsSoundRequest, Tables.AreTablesOf, Tables.Tables}
use Rattle.posting_rules.specs.declared.{fault.Fault.Fault, fault.Rule.Rule, rows.RequestRow.RequestRow}
use Rattle.posting_rules.specs.declared.fault.Fault.TheVariants.{Damaged}
use Rattle.posting_rules.proofs.Undamaged.{undamaged}
use Rattle.sql_meanings.specs.believed.Entries.{Entry}
use Rattle.store_rows.specs.believed.View as view
use Rattle.walked_rows.specs.{Broken.HasBroken, KeptRows.KeptItem, KeptRows.kept_all, KeptRows.kept_with}
use Rattle.walked_rows.proofs.Unbroken.{all_after, no_account, no_branch, no_closing, no_floor, no_kept, no_meta, no_posting}
use Rattle.walked_rows.proofs.Unbroken.{no_reference, no_request, no_teller, split_map}
use Rattle.bank_store.specs.{believed.Seen.bank_seen, believed.Seen.database_of, believed.Seen.file_of}
use Rattle.bank_store.specs.declared.bank.Bank.{Bank}
use Rattle.bank_replays.specs.Damaged.{BreaksAnswered, HasBrokenRow, Tells, TellsWhy}
use Rattle.walked_rows.specs.Requests.{IsAnsweredRow}
use Rattle.bank_replays.specs.{FileTables.rows_due}
use Rattle.bank_replays.proofs.Tables.{due_tables}

-- ---- kept requests

module _ (P Q : List Entry) where
  answered : (r : RequestRow) → IsSoundRequest r → IsAnsweredRow (kept_with P Q (view.request_entry r))
  answered r s = (
    record {
      account = (r.decision.account, refl, s.fields.account_above, s.fields.account);
      teller = (r.teller, refl, s.fields.teller_above, s.fields.teller);
      branch = (r.decision.branch, refl, s.fields.branch_above, s.fields.branch);
      number = (r.number, refl, s.number_above, s.number);
      delta = s.fields.delta;
    },
    record { outcome = (r.decision.outcome, refl, (and_parts _ _ s.decision).0); balance = λ posted. s.balance },
  )

  -- each of them is answered, of rows that are sound
  each_answered : (rs : List RequestRow) → ((r : RequestRow) → Contains rs r → IsSoundRequest r)
      → (before : List KeptItem) (k : KeptItem) (more : List KeptItem)
      → kept_all P Q (map view.request_entry rs) ≡ before ++ k ∷ more → IsAnsweredRow k
  each_answered rs sound before k more are =
      let all = recursion_from_All IsSoundRequest rs (λ n d low. sound _ (All-contains_itself rs n d low)) in
      let one = split_map (kept_with P Q) (map view.request_entry rs) before k more are in
      let two = split_map view.request_entry rs one.0 one.1 one.2 one.3 in
      let here = all_after IsSoundRequest two.0 (two.1 ∷ two.2) (subst (AllByRecursion IsSoundRequest) two.3 all) in
      subst IsAnsweredRow (sym (one.4 ∙ ap (kept_with P Q) two.4)) (answered two.1 here.0)

module _ (t : Tables) (log : List Command) (are : AreCommands log) (shows : AreTablesOf t log) (rule : Rule) where
  pub all_answered : HasBroken (BreaksAnswered rule) (kept_all (map view.history_entry t.history)
      (map view.reference_entry t.references) (map view.request_entry t.requests)) → ⊥
  all_answered h = elim h.4 [
    | inl breaks ↦ no_kept t log are shows rule (h.0, h.1, h.2, h.3, breaks)
    | inr bare ↦
        bare.1 (each_answered (map view.history_entry t.history) (map view.reference_entry t.references) t.requests
        (undamaged t log are shows).each_request h.0 h.1 h.2 h.3)
  ]

  -- ---- all rows

  pub none_broken : HasBrokenRow rule (rows_due t) → ⊥
  none_broken (inl h) = no_meta t log are shows rule h
  none_broken (inr (inl h)) = no_branch t log are shows rule h
  none_broken (inr (inr (inl h))) = no_teller t log are shows rule h
  none_broken (inr (inr (inr (inl h)))) = no_account t log are shows rule h
  none_broken (inr (inr (inr (inr (inl h))))) = no_posting t log are shows rule h
  none_broken (inr (inr (inr (inr (inr (inl h)))))) = no_request t log are shows rule h
  none_broken (inr (inr (inr (inr (inr (inr (inl h))))))) = no_floor t log are shows rule h
  none_broken (inr (inr (inr (inr (inr (inr (inr (inl h)))))))) = no_reference t log are shows rule h
  none_broken (inr (inr (inr (inr (inr (inr (inr (inr (inl h))))))))) = no_closing t log are shows rule h
  none_broken (inr (inr (inr (inr (inr (inr (inr (inr (inr h))))))))) = all_answered h

-- ---- a fault

module _ {S : Type 0} {g : Ghosts S} {old new : Bank S g} (clean : HasCleanDisk (file_of new)) (log : List Command)
    (s : ShowsLog (bank_seen g old) log) where
  pub sound_log : {X E : Type 0} {fault_of : E → Fault} (r : Result X E) (e : E) → TellsWhy g fault_of old new r
      → r ≡ Err e → (rule : Rule) → fault_of e ≡ Damaged rule → ⊥
  sound_log {X} {E} {fault_of} r e why is rule same =
      none_broken s.tables log s.commands s.shows rule
      (subst (Tells g old new (rows_due s.tables)) same
      (subst (λ (r : Result X E). IfErr r (λ e. Tells g old new (rows_due s.tables) (fault_of e))) is
      (why.answers clean (rows_due s.tables) (due_tables (database_of g old) s.tables s.are))))
