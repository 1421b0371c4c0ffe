-- A file that defines a bank's tables as they are made has rows of each.
use Rattle.std.proofs.Common.{[], ◌∷◌, codes, lit≤, refl}
use Rattle.sqlite.specs.State.{State}
use Rattle.store_rows.specs.believed.BankTables as bank
use Rattle.store_rows.specs.believed.BankTables.{HasBankTables}
use Rattle.bank_replays.specs.FileTables.{FileTables, HasTables, IsKept}
use Rattle.bank_replays.proofs.AnyRows.{any_rows}

pub has_tables : (s : State) → HasBankTables s.now.schema → IsKept s → (f : FileTables) × HasTables s.now f
has_tables s so kept =
    let db = s.now in
    let rows = kept.rows in
    let metas = any_rows db kept.sound bank.meta (codes "id") (codes "version" ∷ codes "decided" ∷ []) [] (lit≤ tt)
    refl refl refl refl so.0 rows.0 in
    let branches = any_rows db kept.sound bank.branch (codes "bid") (codes "accounts" ∷ codes "balance" ∷ []) []
    (lit≤ tt) refl refl refl refl so.1.0 rows.1.0 in
    let tellers = any_rows db kept.sound bank.teller (codes "tid") (codes "balance" ∷ []) [] (lit≤ tt)
    refl refl refl refl so.1.1.0 rows.1.1.0 in
    let accounts = any_rows db kept.sound bank.account (codes "aid") (codes "balance" ∷ []) [] (lit≤ tt)
    refl refl refl refl so.1.1.1.0 rows.1.1.1.0 in
    let history = any_rows db kept.sound bank.history (codes "ordinal")
    (codes "aid" ∷ codes "tid" ∷ codes "bid" ∷ codes "delta" ∷ codes "moment" ∷ []) [] (lit≤ tt)
    refl refl refl refl so.1.1.1.1.0 rows.1.1.1.1.0 in
    let requests = any_rows db kept.sound bank.request (codes "ordinal")
    (codes "tid" ∷ codes "number" ∷ codes "aid" ∷ codes "bid" ∷ codes "delta" ∷ codes "outcome" ∷ codes "balance" ∷ [])
    [] (lit≤ tt) refl refl refl refl so.1.1.1.1.1.0 rows.1.1.1.1.1.0 in
    let floors = any_rows db kept.sound bank.floor (codes "bid") (codes "lowest" ∷ []) [] (lit≤ tt)
    refl refl refl refl so.1.1.1.1.1.1.0 rows.1.1.1.1.1.1.0 in
    let references = any_rows db kept.sound bank.reference (codes "ordinal") [] (codes "reference" ∷ []) (lit≤ tt)
    refl refl refl refl so.1.1.1.1.1.1.1.0 rows.1.1.1.1.1.1.1.0 in
    let closings = any_rows db kept.sound bank.closing (codes "last") (codes "first" ∷ []) [] (lit≤ tt)
    refl refl refl refl so.1.1.1.1.1.1.1.1.0 rows.1.1.1.1.1.1.1.1.0 in (
      record {
        metas = metas.0;
        branches = branches.0;
        tellers = tellers.0;
        accounts = accounts.0;
        history = history.0;
        requests = requests.0;
        floors = floors.0;
        references = references.0;
        closings = closings.0;
      },
      record {
        metas = metas.1;
        branches = branches.1;
        tellers = tellers.1;
        accounts = accounts.1;
        history = history.1;
        requests = requests.1;
        floors = floors.1;
        references = references.1;
        closings = closings.1;
      },
    )
