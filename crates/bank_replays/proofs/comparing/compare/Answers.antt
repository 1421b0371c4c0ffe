-- There is room for the walks, and what was told of their rows to come is told of all rows of the banks.
use Rattle.std.proofs.Common.{rules, refl}
use Rattle.bank_store.proofs.RoomForWalks.{walk_fits}
use Rattle.posting_rules.specs.declared.fault.Fault.TheVariants.{Memory}
use Rattle.bank_replays.proofs.{Begun.differs_of_all, Begun.stops_of_all, Comparisons.compared_none, Whys.stopped_why}
use Rattle.bank_replays.proofs.{Exits.at_err, Exits.fails_by, Whys.why_memory}
use Rattle.bank_replays.proofs.comparing.compare.Goals as goal

pub each_row-requires : goal.each_row-requires
each_row-requires g c = walk_fits g.row.R g.met.R.SmallRow.few_bytes

pub each_row-requires-2 : goal.each_row-requires-2
each_row-requires-2 g c = walk_fits g.row.R g.met.R.SmallRow.few_bytes

pub drop-stood-requires : goal.drop-stood-requires
drop-stood-requires g c = walk_fits g.row.R g.met.R.SmallRow.few_bytes

pub drop-rules-requires : goal.drop-rules-requires
drop-rules-requires g c = walk_fits g.row.R g.met.R.SmallRow.few_bytes

-- the bank was down
pub returns-in_err-stood : goal.returns-in_err-stood
returns-in_err-stood g c =
    let down = c.in_err-stood.ensures.begins.fault in
    compared_none c.in_err-stood.field-0.0 (fails_by c.from_residual.ensures.1)
    (at_err c.in_err-stood.was c.each_row.follows.holds-at-none) refl
    (record { answers = λ clean f has. rw down.0 down.1 })

-- or the other one
pub returns-in_default : goal.returns-in_default
returns-in_default g c =
    compared_none Memory refl (search rules) (at_err c.in_default.is c.each_row-2.follows.holds-at-none)
    (why_memory Memory refl)

pub returns : goal.returns
returns g c = record {
  bank = search rules;
  due = search rules;
  same = search rules;
  differs = λ clean clean_due d is.
      differs_of_all c.in_ok-stood.ensures.begins c.in-Ok.ensures.begins g.R.Compared.Says g.met.R.Compared.rise d
      (c.compare_rows.ensures.differs (search rules) (search rules) d is);
  why = stopped_why g.R.WalkedRow.Breaks g.R.WalkedRow.HasItems g.met.R.Compared.held c.compare_rows.result
      (stops_of_all c.in_ok-stood.ensures.begins g.R.WalkedRow.Breaks (search rules) _ c.compare_rows.result
      c.compare_rows.ensures.why (λ late. search rules));
}
