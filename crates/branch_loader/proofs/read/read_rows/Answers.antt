use Rattle.std.proofs.Common.{◌≡◌, ◌+◌, ◌∙◌, true, inr, length, arith, sym, rules, ap}
use Rattle.std.specs.Result.{is_ok}
use Rattle.csv.specs.Records.{fields_of}
use Rattle.branch_loader.specs.{declared.fault.PlanFault.TheVariants.Memory, Records.WasRecord}
use Rattle.branch_loader.specs.Plans.{plan_of_records, row_of_fields}
use Rattle.posting_core.proofs.Telling.{last_some, more_last, more_more}
use Rattle.branch_loader.proofs.{SourceRead.fault_told, SourceRead.row_told, Rows.fields-more, Rows.no-rows}
use Rattle.branch_loader.proofs.{Rows.plan-short, Stated.plan-empty, Stated.plan-no_header, Stated.rows_by-done}
use Rattle.branch_loader.proofs.{Stated.tells-fault, Stated.took-fault, Stated.took-header, Stated.took-row}
use Rattle.std.proofs.lemmas.{List.length_push, Result.err_from_is_err_and}
use Rattle.branch_loader.proofs.read.read_rows.Goals as goal

pub returns-then-not-branch-clause-plan : goal.returns-then-not-branch-clause-plan
returns-then-not-branch-clause-plan g c all left =
    let none = rw c.if-not-branch.true at (c.in_ok-next_record.ensures.takes all left) in
    rw none plan-empty

pub returns-in_default-clause-plan : goal.returns-in_default-clause-plan
returns-in_default-clause-plan g c all left =
    let (rest, first, after) = rw c.if-not-branch.false at (c.in_ok-next_record.ensures.takes all left) in
    rw first (plan-no_header (fields_of c.next_record.new.fields) rest
    (sym c.header_of.ensures ∙ c.in_default.is))

pub rows-init : goal.rows-init
rows-init g c = record {
  plain = c.in_ok-next_record.ensures.plain;
  more = last_some WasRecord (c.in_ok-next_record.ensures.found c.if-not-branch.false);
  plan = rw c.new-rows.ensures.items no-rows;
  states = λ all left. took-header c.in-Some.has_floors c.in_ok-next_record.field-0
      (fields_of c.next_record.new.fields) all c.new-rows.result.items
      (c.in_ok-next_record.ensures.takes all left) c.if-not-branch.false
      (sym (rw c.in-Some.is at c.header_of.ensures))
      c.new-rows.ensures.items;
}

pub row_of_fields-requires : goal.row_of_fields-requires
row_of_fields-requires g c = rw c.as_slice.ensures.value
    (let short = plan-short c.rows.rows.items c.rows.invariant.plan in omega arith)

pub rows-smaller : goal.rows-smaller
rows-smaller g c =
    let short = plan-short c.rows.rows.items c.rows.invariant.plan in
    let good : is_ok c.push.result ≡ true = search rules in
    let more : length c.push.new.self.items ≡ length c.rows.rows.items + 1 =
    ap length (rw good at c.push.ensures.items) ∙ length_push c.rows.rows.items c.in_ok-row.row in
    omega arith

pub returns-in_err-row-clause-plan : goal.returns-in_err-row-clause-plan
returns-in_err-row-clause-plan g c all left =
    let inv = c.rows.invariant.states all left in
    let fault = took-fault (g.S.RecordSource.has_left c.next_record-in-rows.new.source) c.in-Some.has_floors
    c.in_ok-next_record-2.field-0
    (fields_of c.next_record-in-rows.new.fields) inv.0 c.rows.rows.items c.in_err-row.field-0.0
    (plan_of_records all)
    (c.in_ok-next_record-2.ensures.takes inv.0 inv.1) c.if-branch.true inv.2
    (sym (rw c.as_slice.ensures.value at c.in_err-row.ensures)) in
    let p = err_from_is_err_and c.from_residual-in_err-row.result c.from_residual-in_err-row.ensures.1 in
    rw (p.1, p.2) (tells-fault (plan_of_records all) c.in_err-row.field-0.0 fault)

pub returns-in_err-row-clause-calls : goal.returns-in_err-row-clause-calls
returns-in_err-row-clause-calls g c =
    let p = err_from_is_err_and c.from_residual-in_err-row.result c.from_residual-in_err-row.ensures.1 in
    rw (p.1, p.2) (row_told c.in-Some.has_floors c.rows.rows.items (fields_of c.next_record-in-rows.new.fields)
    c.in_err-row.field-0.0 _ _
    (sym (rw c.as_slice.ensures.value at c.in_err-row.ensures)))

pub returns-in_err-next_record-2-clause-calls : goal.returns-in_err-next_record-2-clause-calls
returns-in_err-next_record-2-clause-calls g c =
    let p = err_from_is_err_and c.from_residual-in_err-next_record-2.result
    c.from_residual-in_err-next_record-2.ensures.1 in
    rw (p.1, p.2) (fault_told _ _ _ c.in_err-next_record-2.field-0.0 c.in_err-next_record-2.ensures.fault
    c.in_err-next_record-2.ensures.failed c.rows.invariant.more)

pub returns-in_err-map_err-clause-calls : goal.returns-in_err-map_err-clause-calls
returns-in_err-map_err-clause-calls g c =
    let refused : c.in_err-map_err.field-0.0 ≡ Memory = search rules in
    let p = err_from_is_err_and c.from_residual-in_err-map_err.result
    c.from_residual-in_err-map_err.ensures.1 in
    rw (p.1, p.2, refused) (inr (more_last WasRecord c.rows.invariant.more
    (c.in_ok-next_record-2.ensures.found c.if-branch.true)))

pub rows-preserved : goal.rows-preserved
rows-preserved g c =
    let good : is_ok c.push.result ≡ true = search rules in
    let items = rw good at c.push.ensures.items in
    let row = sym (rw c.as_slice.ensures.value at c.in_ok-row.ensures) in
    record {
      plain = c.in_ok-next_record-2.ensures.plain;
      more = more_more c.rows.invariant.more
          (last_some WasRecord (c.in_ok-next_record-2.ensures.found c.if-branch.true));
      plan = rw items
          (fields-more c.in-Some.has_floors c.rows.rows.items (fields_of c.next_record-in-rows.new.fields) c.in_ok-row.row
          c.rows.invariant.plan row);
      states = λ all left.
          let inv = c.rows.invariant.states all left in
          took-row c.in-Some.has_floors c.in_ok-next_record-2.field-0
          (fields_of c.next_record-in-rows.new.fields) inv.0 c.rows.rows.items c.push.new.self.items
          c.in_ok-row.row (plan_of_records all)
          (c.in_ok-next_record-2.ensures.takes inv.0 inv.1) c.if-branch.true inv.2 row items;
    }

pub returns-clause-plan : goal.returns-clause-plan
returns-clause-plan g c all left =
    let (rest, there, states) = c.rows.invariant.states all left in
    let none = rw c.if-branch.false at (c.in_ok-next_record-2.ensures.takes rest there) in
    rw c.new.ensures (states ∙ rw none (rows_by-done (row_of_fields c.in-Some.has_floors) c.rows.rows.items))
