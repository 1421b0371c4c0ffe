-- What a balance and a floor tell.
use Rattle.std.proofs.Common.{◌≡◌, ◌≤◌, ◌≤ℤ◌, ℕ, ℤ, true, Option, Some, None, Ok, rules, refl, sym, ap, subst}
use Rattle.std.proofs.Common.{◌∙◌, arith}
use Rattle.std.specs.Prelude.{int_lt}
use Rattle.std.proofs.lemmas.Int.{ints}
use Rattle.message_records.specs.declared.limits.TheConstants.{MAX_ACCOUNT}
use Rattle.sqlite.specs.{Effect.Database, Held.state}
use Rattle.posting_rules.specs.believed.{Numbering.branch_of_account, LookUps.account_balance_in, LookUps.floor_in}
use Rattle.posting_rules.specs.declared.fault.Rule.TheVariants.{Balance}
use Rattle.store_rows.specs.believed.{Readings.read_balance, Rules.row_under, Stored.FindsStored}
use Rattle.bank_transactions.specs.{Floors.falls_below, believed.Stored.IsStoredFloor}
use Rattle.bank_transactions.proofs.{Broken.below_broken, FittingAccounts.is_above}
use Rattle.bank_transactions.proofs.LookUps.{reads_broken, reads_but, reads_pair, reads_so}
use Rattle.bank_transactions.proofs.Exits.{clean_at, handed_on}
use Rattle.bank_transactions.proofs.floors.balance_and_floor.Goals as goal

-- there are both, and the balance is below the floor
both_there : (b f : Option ℤ) → falls_below b f ≡ true
    → (balance : ℤ) × (lowest : ℤ) × (b ≡ Some balance) × (f ≡ Some lowest) × (int_lt balance lowest ≡ true)
both_there None f below = absurd cc
both_there (Some z) None below = absurd cc
both_there (Some z) (Some lowest) below = (z, lowest, refl, refl, below)

not_above : (balance lowest : ℤ) → int_lt balance lowest ≡ true → lowest ≤ℤ balance → ⊥
not_above balance lowest below above = grind (arith, ints)

pub returns-in_err-balance : goal.returns-in_err-balance
returns-in_err-balance g c =
    let same = handed_on c.from_residual.result c.from_residual.ensures.1 in
    rw same (record {
      says = record { says = c.in_err-balance.ensures.says.says };
      stored = tt;
    })

pub returns-in_err-floor : goal.returns-in_err-floor
returns-in_err-floor g c =
    let same = handed_on c.from_residual-in_err-floor.result c.from_residual-in_err-floor.ensures.1 in
    rw same (record {
      says = reads_but c.in_ok-balance.ensures.says c.in_err-floor.ensures.says;
      stored = tt;
    })

pub returns-clause-says : goal.returns-clause-says
returns-clause-says g c =
    let key = c.branch_of_account.ensures in
    reads_so (reads_pair c.in_ok-balance.ensures.says c.in_ok-floor.ensures.says)
    (λ t sound. (sound, λ answers. answers ∙ ap (λ k. (account_balance_in t c.args.account, floor_in t k)) key))

pub returns-then-is_below : goal.returns-then-is_below
returns-then-is_below g c =
    let n = c.args.account in
    let one = c.in_ok-balance.ensures in
    let two = c.in_ok-floor.ensures in
    let key = c.branch_of_account.ensures in
    let it = both_there c.in_ok-balance.balance c.in_ok-floor.floor
    (sym c.is_below.ensures ∙ c.if-is_below.true) in
    let some : 1 ≤ n = search rules in
    let most : n ≤ MAX_ACCOUNT = search rules in
    let db = (state g.S.Store c.args.tx.now.conn.now).now in
    record {
      says = reads_broken Balance (reads_pair one.says two.says) (λ clean.
          let before = clean_at two.says.says.survives clean in
          below_broken db n it.0 it.1 some most
          (λ rows has. subst (λ (b : Option ℤ). FindsStored (row_under rows.accounts n) read_balance (Ok b))
          it.2 ((one.stored before).found rows has))
          (subst (IsStoredFloor db (branch_of_account n)) it.3
          (subst (λ (k : ℕ). IsStoredFloor db k c.in_ok-floor.floor) key
          (subst (λ (d : Database). IsStoredFloor d c.branch_of_account.result c.in_ok-floor.floor)
          (one.says.says.leaves before).0.now (two.stored clean))))
          (not_above it.0 it.1 it.4));
      stored = tt;
    }

pub returns-clause-stored : goal.returns-clause-stored
returns-clause-stored g c clean =
    let before = clean_at c.in_ok-floor.ensures.says.says.survives clean in
    let still = (c.in_ok-balance.ensures.says.says.leaves before).0.now in
    let stored = c.in_ok-balance.ensures.stored before in
    let floor = subst (λ (k : ℕ). IsStoredFloor (state g.S.Store c.args.tx.now.conn.now).now k c.in_ok-floor.floor)
    c.branch_of_account.ensures
    (subst (λ (d : Database). IsStoredFloor d c.branch_of_account.result c.in_ok-floor.floor) still
    (c.in_ok-floor.ensures.stored clean)) in (
      λ rows has. record {
        found = stored.found rows has;
        fits = stored.fits rows has;
        above = is_above rows c.args.account c.in_ok-balance.balance c.in_ok-floor.floor (stored.found rows has)
            (floor rows has) (sym c.is_below.ensures ∙ c.if-is_below.false);
      },
      floor,
    )
