-- The bank that was filled is the one that was given, and it closes what the first has closed.
use Rattle.std.proofs.Common.{◌≡◌, [], List, Result, Ok, Err, refl, sym, subst}
use Rattle.std.specs.Prelude.{IfOk}
use Rattle.sqlite.specs.Effect.{Database}
use Rattle.sqlite_trees.specs.declared.store.Store.{Ghosts}
use Rattle.posting_rules.specs.believed.Commands.{Command}
use Rattle.posting_rules.specs.believed.Counter.{ShowsLog}
use Rattle.posting_rules.specs.declared.fault.Fault.{Fault}
use Rattle.sql_meanings.specs.believed.Entries.{Entry}
use Rattle.store_rows.specs.believed.BankTables.{closing}
use Rattle.walked_rows.specs.Rows.{HasStoredRows}
use Rattle.bank_store.specs.{believed.Seen.bank_seen, believed.Seen.database_of, declared.bank.Bank.Bank}
use Rattle.bank_replays.specs.Replayed.{ShowsFilled, ShowsReplay}
use Rattle.bank_replays.specs.Closed.{closed_by}
use Rattle.bank_replays.proofs.{Read.clean_before, Read.read_fails, Read.read_then, Whys.why_err, Whys.why_then}
use Rattle.bank_replays.proofs.replays.refilled.Goals as goal

module _ {S T : Type 0} {g : Ghosts S} {h : Ghosts T} (old mid : Bank S g) (due : Bank T h)
    (same : database_of g mid ≡ database_of g old) (filled : ShowsFilled g h old due) where
  closed : (r : Result (Bank T h) Fault)
      → ((rows : List Entry) → HasStoredRows (database_of g mid) closing rows → (log : List Command)
      → ShowsLog (bank_seen h due) log → IfOk r (λ b. ShowsLog (bank_seen h b) (closed_by rows log)))
      → IfOk r (ShowsReplay g h old)
  closed (Err fault) closes = tt
  closed (Ok bank) closes = λ f has.
      let it = filled f has in (
        closed_by f.closings it.0,
        closes f.closings (subst (λ (db : Database). HasStoredRows db closing f.closings) (sym same) has.closings) it.0 it.1,
        record { filled = it.0; is = it.2; closes = refl },
      )

pub returns-in-Ok : goal.returns-in-Ok
returns-in-Ok g c =
    let fill = c.in-Ok.ensures in
    let closes = c.close_as.ensures in
    record {
      bank = read_then fill.bank closes.bank;
      why = why_then fill.bank closes.bank closes.why;
      replays = λ clean sure new.
          let earlier = clean_before closes.bank clean in
          let due = c.into_bank-due.result in
          closed c.args.bank.now c.fill-filled.new.bank due (fill.bank.still earlier).0
          (subst (ShowsFilled g.S.Store g.T.Store c.args.bank.now) (sym c.into_bank-due.ensures)
          (fill.replays earlier sure c.in_ok-refill.ensures.nothing
          (subst (λ (b : Bank _ _). ShowsLog (bank_seen g.T.Store b) []) (sym c.in_ok-refill.ensures.bank) new)))
          c.close_as.result (closes.closes clean sure);
    }

pub returns-in-Err : goal.returns-in-Err
returns-in-Err g c = record {
  bank = read_fails _ c.in-Err.ensures.bank;
  why = why_err c.in-Err.fault _ (sym c.bank_fault.ensures) c.in-Err.ensures.why;
  replays = λ clean sure new. tt;
}
