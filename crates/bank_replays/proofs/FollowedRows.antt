-- The kept rows of a file that shows a log are those of its decided requests.
use Rattle.std.proofs.Common.{◌≡◌, ◌∙◌, ◌+◌, ◌++◌, Bool, true, cond, eqb, List, [], ◌∷◌, length, map, Option, Some}
use Rattle.std.proofs.Common.{refl, sym, ap, subst, arith}
use Rattle.std.specs.Prelude.{◌&&◌, IsSomeAnd, nat_abs, option_map}
use Rattle.std.proofs.lemmas.{Bool.eq-eqb, List.map-append}
use Rattle.sqlite.specs.Effect.{Database}
use Rattle.posting_core.specs.believed.LogEntries.{AnsweredRequest}
use Rattle.posting_rules.specs.believed.Commands.{AreCommands, Command}
use Rattle.posting_rules.specs.believed.Entries.{DecidedRequest, decided, is_posted}
use Rattle.posting_rules.specs.believed.Tables.{AreTablesOf, Tables, history_row, history_row_of, request_row_of}
use Rattle.posting_rules.specs.declared.rows.HistoryRow.{HistoryRow}
use Rattle.posting_rules.proofs.SoundEntries.{AreSound, are_sound}
use Rattle.sql_meanings.specs.believed.Entries.{Entry}
use Rattle.store_rows.specs.believed.Columns.{number_at}
use Rattle.store_rows.specs.believed.View.{Shows, history_entry}
use Rattle.walked_rows.specs.KeptRows.{KeptItem}
use Rattle.bank_store.proofs.LogRows.{Stand, item_of, kept_is, kept_of, last_answered, postings, references, requests_of}
use Rattle.bank_store.proofs.LogRows.{stand_earlier, stand_in}
use Rattle.bank_replays.specs.FollowedRows.{AreRowsOf, IsRowOf}

-- ---- of a log

posted_row : (b c : Bool) (h : HistoryRow) (x : Option HistoryRow) → b ≡ true → c ≡ true → cond (b && c) (Some h) x ≡ Some h
posted_row b c h x posted at = rw (posted, at) refl

module _ (P Q : List Entry) where
  row_is : (e : DecidedRequest) (es : List DecidedRequest) → Stand P Q (e ∷ es) → AreSound (e ∷ es)
      → IsRowOf (item_of P Q (request_row_of (length es + 1) e)) e
  row_is e es stand sound =
      let n = length es + 1 in
      let r = e.request in
      record {
        request = ap (λ (a : AnsweredRequest). a.request) (last_answered P Q e es stand);
        is = record {
          account = (r.account, refl, sound.0.request.account_above, sound.0.request.account);
          teller = (r.teller, refl, sound.0.request.teller_above, sound.0.request.teller);
          branch = (r.branch, refl, sound.0.request.branch_above, sound.0.request.branch);
          number = (r.number, refl, sound.0.request.number_above, sound.0.request.number);
          delta = sound.0.request.delta;
        };
        outcome = refl;
        moment = λ posted.
            let there = stand.history n (omega arith) ∙ ap (option_map history_entry)
            (posted_row (is_posted e) (eqb n n) (history_row_of n e) (history_row es n) posted (eq-eqb n n refl)) in
            subst (λ (o : Option Entry). IsSomeAnd o (λ p. nat_abs (number_at 4 p) ≡ e.moment)) (sym there) refl;
      }

  rows_are : (es : List DecidedRequest) → Stand P Q es → AreSound es → AreRowsOf (map (item_of P Q) (requests_of es)) es
  rows_are [] stand sound = refl
  rows_are (e ∷ es) stand sound = (
    map (item_of P Q) (requests_of es),
    item_of P Q (request_row_of (length es + 1) e),
    map-append (item_of P Q) (requests_of es) (request_row_of (length es + 1) e ∷ []),
    row_is e es stand sound,
    rows_are es (stand_earlier P Q e es stand) sound.2,
  )

pub kept_rows : (db : Database) (t : Tables) (log : List Command) (in_file : Shows db t) (shows : AreTablesOf t log)
    → AreCommands log → AreRowsOf (kept_of db t log in_file shows) (decided log)
kept_rows db t log in_file shows are =
    subst (λ (ks : List KeptItem). AreRowsOf ks (decided log)) (sym (kept_is db t log in_file shows))
    (rows_are (postings db t log in_file shows) (references db t log in_file shows) (decided log)
    (stand_in db t log in_file shows) (are_sound log are))
