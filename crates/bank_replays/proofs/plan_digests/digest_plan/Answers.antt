-- The first line and the lines of all branches were hashed.
use Rattle.std.proofs.Common.{rules, ◌≡◌, ◌++◌, ◌∙◌, ℕ, List, Err, map, refl, sym, ap, subst}
use Rattle.sha2.specs.Sha256.{sha256}
use Rattle.store_rows.specs.believed.BankTables.{branch as branch_table}
use Rattle.walked_rows.specs.{Rows.HasStoredRows, Stored.branch_entry, StoredBeside.floor_entry}
use Rattle.bank_replays.specs.Writing.{plan_lines, plan_names}
use Rattle.bank_replays.proofs.Read.{clean_before, read_any, read_fails, read_then}
use Rattle.bank_replays.proofs.Whys.{why_err, why_none, why_then}
use Rattle.bank_replays.proofs.plan_digests.digest_plan.Goals as goal

pub returns-in_err-floors_of : goal.returns-in_err-floors_of
returns-in_err-floors_of g c =
    let fault = c.in_err-floors_of.field-0.0 in
    let same : c.from_residual.result ≡ Err fault = search rules in
    record {
      bank = rw same (read_fails fault c.in_err-floors_of.ensures.bank);
      rows = λ clean. rw same tt;
      why = rw same (why_err fault fault refl c.in_err-floors_of.ensures.why);
    }

pub returns-in-Ok : goal.returns-in-Ok
returns-in-Ok g c =
    let one = c.in_ok-floors_of.ensures in
    let two = c.in-Ok.ensures in
    record {
      bank = read_any (read_then one.bank two.bank) _;
      rows = λ clean floors branches has_floors has.
          let before = clean_before two.bank clean in
          let there = subst (λ db. HasStoredRows db branch_table branches) (sym (one.bank.still before).0) has in
          let are : map floor_entry c.in_ok-floors_of.field-0.floors.items ≡ floors = one.rows before floors has_floors in
          let all : map branch_entry two.visits.0 ≡ branches = two.visits.2 clean branches there in
          c.finalize.ensures _ (two.visits.1 _ (c.update.ensures _ c.new-hasher.ensures))
          ∙ ap (λ (l : List ℕ). sha256 (plan_names ++ l))
          (ap (λ l. plan_lines l (map branch_entry two.visits.0)) are ∙ ap (plan_lines floors) all);
      why = why_none _;
    }

pub returns : goal.returns
returns g c =
    let one = c.in_ok-floors_of.ensures in
    let two = c.in-Err.ensures in
    record {
      bank = read_fails _ (read_then one.bank two.bank);
      rows = λ clean. tt;
      why = why_err c.in-Err.fault _ (sym c.bank_fault.ensures) (why_then one.bank two.bank two.why);
    }
