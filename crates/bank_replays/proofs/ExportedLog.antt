-- The records of the kept rows of a log are those of its requests.
use Rattle.std.proofs.Common.{filter, ◌≡◌, ◌++◌, ℕ, List, map, Option}
use Rattle.std.proofs.Common.{Result, Ok, Err, refl, sym, ap, ◌∙◌, append-nil}
use Rattle.std.specs.{Prelude.int_lt, Prelude.pos, List.flat_map}
use Rattle.sqlite.specs.Effect.{Database}
use Rattle.message_records.specs.believed.Spelling.{request_spelling}
use Rattle.posting_rules.specs.believed.{Commands.Command}
use Rattle.posting_rules.specs.believed.Tables.{AreTablesOf, Tables}
use Rattle.posting_rules.specs.declared.{fault.Rule.Rule}
use Rattle.posting_rules.specs.declared.fault.Fault.TheVariants.{Damaged, Down, Memory, Store}
use Rattle.store_rows.specs.believed.View.{Shows}
use Rattle.walked_rows.specs.KeptRows.{KeptItem}
use Rattle.posting_core.specs.believed.LogEntries.{answered_after}
use Rattle.posting_core.specs.believed.LogEntries.{AnsweredRequest}
use Rattle.bank_replays.specs.{declared.fault.ReplayFault.ReplayFault}
use Rattle.bank_replays.specs.declared.fault.ReplayFault.TheVariants.{Bank, Write}
use Rattle.bank_replays.specs.Writing.{is_after, record_of, records_of, texts_after}
use Rattle.report_contents.specs.Written.{AppendsPart}
use Rattle.report_contents.proofs.Written.{same_all, same_part, whole_part}
use Rattle.std.proofs.lemmas.List.Folds.{flat_map-map}
use Rattle.bank_store.specs.KeptEntries.{answered_in}
use Rattle.bank_store.proofs.LogEntries.{answered_since}
use Rattle.bank_replays.proofs.Logged.{tells_after}
use Rattle.bank_store.proofs.LogRows.{kept_of}

-- the record of a request
abbrev spelled : AnsweredRequest → List ℕ
spelled a = request_spelling a.request

each_record : (ks : List KeptItem) → flat_map record_of ks ≡ flat_map spelled (map answered_in ks)
each_record ks = sym (flat_map-map spelled answered_in ks)

pub records_log : (db : Database) (t : Tables) (log : List Command) (in_file : Shows db t) (shows : AreTablesOf t log)
    (after : ℕ) → texts_after record_of after (kept_of db t log in_file shows) ≡ records_of after (answered_after log)
records_log db t log in_file shows after =
    each_record (filter (is_after after) (kept_of db t log in_file shows))
    ∙ ap (flat_map spelled) (answered_since after (int_lt (pos after)) (tells_after after) db t log in_file shows)
