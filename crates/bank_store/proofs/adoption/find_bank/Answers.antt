-- A bank is sought where `meta` has no other version, and then has no other row.
use Rattle.std.proofs.Common.{◌≡◌, Err, Result, rules, sym, subst}
use Rattle.sqlite.specs.Held.{state}
use Rattle.posting_rules.specs.declared.open_fault.OpenFault.{OpenFault}
use Rattle.bank_store.specs.FoundBank.{SeeksBank}
use Rattle.bank_store.proofs.Causes.{looks_then, still_clean}
use Rattle.bank_store.proofs.FoundBank.{found_at, missed_at, no_other_yet, only_checked}
use Rattle.bank_store.proofs.adoption.find_bank.Goals as goal

pub find_tables-requires-clause-ours : goal.find_tables-requires-clause-ours
find_tables-requires-clause-ours g c clean =
    let old = state g.S.Store c.args.conn.now in
    let mid = state g.S.Store c.refuse_other_version.new.conn in
    let looked = c.in_ok-refuse_other_version.ensures.answers clean in
    no_other_yet old mid looked.1 looked.0

pub returns-in_err-find_tables : goal.returns-in_err-find_tables
returns-in_err-find_tables g c =
    let s = state g.S.Store in
    let old = c.args.conn.now in
    let mid = c.refuse_other_version.new.conn in
    let new = c.find_tables.new.conn in
    let e = c.in_err-find_tables in
    let is : c.from_residual-in_err-find_tables.result ≡ Err e.field-0.0 = search rules in
    record {
      answers = λ clean.
          let looked = c.in_ok-refuse_other_version.ensures.answers (still_clean e.ensures.looks.survives clean) in
          subst (λ (r : Result (Unit {0}) OpenFault). SeeksBank (s old) (s new) r) (sym is)
          (missed_at (s old) (s mid) looked.1 (s new) e.field-0.0 (e.ensures.answers clean));
      looks = rw is (looks_then g.S.Store old mid new (Err e.field-0.0) (Err e.field-0.0) (λ knows. knows)
          c.refuse_other_version.ensures.looks.survives e.ensures.looks);
    }

pub returns-clause-answers : goal.returns-clause-answers
returns-clause-answers g c clean =
    let s = state g.S.Store in
    let old = s c.args.conn.now in
    let mid = s c.refuse_other_version.new.conn in
    let at = s c.find_tables.new.conn in
    let found_clean = still_clean c.check_only.ensures.looks.survives clean in
    let looked = c.in_ok-refuse_other_version.ensures.answers
    (still_clean c.find_tables.ensures.looks.survives found_clean) in
    only_checked old at (s c.check_only.new.conn)
    (found_at old mid looked.1 at (c.in_ok-find_tables.ensures.answers found_clean)) c.check_only.result
    (c.check_only.ensures.answers clean)

pub returns-clause-looks : goal.returns-clause-looks
returns-clause-looks g c =
    let mid = c.refuse_other_version.new.conn in
    let new = c.check_only.new.conn in
    let result = c.check_only.result in
    looks_then g.S.Store c.args.conn.now mid new result result (λ knows. knows)
    c.refuse_other_version.ensures.looks.survives
    (looks_then g.S.Store mid c.find_tables.new.conn new result result (λ knows. knows)
    c.find_tables.ensures.looks.survives c.check_only.ensures.looks)
