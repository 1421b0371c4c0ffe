-- The record was written, or a prefix of it, or the row is that of no request.
use Rattle.std.proofs.Common.{rules, ◌≡◌, Bool, true, false, not, refl, sym, ap, ◌∙◌}
use Rattle.message_records.specs.believed.Spelling.{request_spelling}
use Rattle.walked_rows.specs.KeptRows.{kept_item}
use Rattle.posting_rules.specs.declared.fault.{Fault.TheVariants.Damaged, Rule.TheVariants.Request}
use Rattle.walked_rows.specs.Requests.{request_in}
use Rattle.bank_replays.specs.{Writing.is_after}
use Rattle.walked_rows.proofs.Came.{request_is}
use Rattle.bank_replays.proofs.{WrittenRows.rows_part, WrittenRows.rows_put}
use Rattle.bank_replays.proofs.{WrittenRows.rows_refused, Wrote.writer_refuses}
use Rattle.bank_replays.proofs.exports.AfterVisitorKeptRequest.visit.Given.{Over}
use Rattle.bank_replays.proofs.exports.AfterVisitorKeptRequest.visit.Goals as goal

not_not : (b : Bool) → not b ≡ false → b ≡ true
not_not true is = refl
not_not false is = sym is

pub returns-in_default-clause-part : goal.returns-in_default-clause-part
returns-in_default-clause-part g c first rows visited =
    rows_refused c.args.self.now.after rows c.args.row visited (Damaged Request) (λ is. absurd cc)

pub returns-in_default-clause-why : goal.returns-in_default-clause-why
returns-in_default-clause-why g c =
    let is : is_after c.args.self.now.after (kept_item c.args.row) ≡ true =
    sym c.is_after.ensures ∙ search (rules, not_not) in
    (refl, is, c.in_default.ensures.none)

module _ (g : Over) (c : goal.After-put_bytes g) where
  after_is : is_after c.args.self.now.after (kept_item c.args.row) ≡ true
  after_is = sym c.is_after.ensures ∙ search (rules, not_not)

  bytes_are : c.as_slice.result.now ≡ request_spelling (request_in (kept_item c.args.row))
  bytes_are =
      let bytes : c.as_slice.result.now ≡ request_spelling c.in-Some.request = search rules in
      bytes ∙ ap request_spelling (request_is c.args.row c.in-Some.request c.in-Some.ensures.some.0)

pub returns-clause-visited : goal.returns-clause-visited
returns-clause-visited g c first rows visited =
    rows_put c.args.self.now.after rows c.args.row visited (after_is g c) c.in-Some.ensures.some.1
    c.as_slice.result.now (bytes_are g c) _ c.put_bytes.ensures

pub returns-clause-part : goal.returns-clause-part
returns-clause-part g c first rows visited =
    rows_part c.args.self.now.after rows c.args.row visited (after_is g c) c.in-Some.ensures.some.1
    c.as_slice.result.now (bytes_are g c) _ c.put_bytes.ensures

pub returns-clause-why : goal.returns-clause-why
returns-clause-why g c = writer_refuses _ c.put_bytes.result c.put_bytes.ensures.only
