-- What an opening comes to.
use Rattle.std.proofs.Common.{◌≤◌, [], ◌∷◌, ◌∙◌, refl, sym}
use Rattle.posting_rules.specs.declared.fault.Fault.TheVariants.{Down}
use Rattle.posting_rules.specs.believed.Commands.{Open, AreCommands, opened_with}
use Rattle.posting_rules.specs.believed.Changes.{tables_with_branch}
use Rattle.posting_rules.proofs.{Calls.opens, Calls.answers, SameRows.keys_with_branch, SameRows.same_itself}
use Rattle.bank_store.proofs.{AsFound.down_keeps, AsFound.idle_keeps, Broke.breaks_shown, Countered.ready_to_open}
use Rattle.bank_store.proofs.bank.BankCounter.open_branch.Given.{Over}
use Rattle.bank_store.specs.Seen.{fault_of}
use Rattle.bank_store.proofs.OtherTables.{spares_done, spares_down, spares_untouched}
use Rattle.bank_store.proofs.Refusing.{committed_call, breaks_opening, is_up, refused_call, transaction_refused}
use Rattle.bank_store.proofs.{Either.either_after, Either.either_opened, Either.untried_opening}
use Rattle.bank_store.proofs.Refusing.{untried_call, Refusal}
use Rattle.bank_transactions.proofs.Remembered.{blank}
use Rattle.bank_store.proofs.FileTables.{tables_kept}
use Rattle.bank_transactions.specs.{believed.Additions.AddsBranch, believed.Causes.IsBrokenOrMet}
use Rattle.bank_store.proofs.bank.BankCounter.open_branch.Goals as goal

-- what its refusal says
refused : (g : Over) (c : goal.After-go_down g)
    → Refusal g.S.Store c.args.self.now c.go_down.new.self (Open c.args.branch (opened_with c.args.count c.args.floor) ∷ [])
    (IsBrokenOrMet g.S.Store (AddsBranch c.args.branch (opened_with c.args.count c.args.floor)))
    c.go_down.result
refused g c =
    let b = c.args.branch in
    let terms = opened_with c.args.count c.args.floor in
    let above : 1 ≤ b = c.range_law.ensures.least in
    let are : AreCommands (Open b terms ∷ []) =
    ((above, c.requires.branch, c.requires.some, c.requires.few, c.floor_law.ensures), tt) in
    transaction_refused g.S.Store c.args.self.now c.go_down.new.self c.open_branch.new.conn
    (ready_to_open b terms above c.requires.few)
    (Open b terms ∷ [])
    (opens b terms above c.requires.few) are c.in-Err.fault c.go_down.result c.go_down.ensures.down
    c.go_down.ensures.survives c.in-Err.ensures.undone c.go_down.ensures.undone
    c.in-Err.ensures.transacts

pub floor_law-requires : goal.floor_law-requires
floor_law-requires g c = c.requires.floor

pub open_branch-requires : goal.open_branch-requires
open_branch-requires g c =
    record { mode = c.args.self.now.idle; branch = c.requires.branch; few = c.requires.few }

pub invariant_of-self : goal.invariant_of-self
invariant_of-self g c = record {
  idle = c.open_branch.ensures.transacts.mode;
  remembers = blank g.S.Store c.open_branch.new.conn c.forget.new.self c.forget.ensures.blank;
  tables = tables_kept g.S.Store c.args.self.now.conn c.open_branch.new.conn c.open_branch.result c.open_branch.ensures.transacts.spares
      c.open_branch.ensures.undone c.args.self.now.tables;
}

pub returns-in-Ok : goal.returns-in-Ok
returns-in-Ok g c =
    let b = c.args.branch in
    let terms = opened_with c.args.count c.args.floor in
    let above : 1 ≤ b = c.range_law.ensures.least in
    let are : AreCommands (Open b terms ∷ []) =
    ((above, c.requires.branch, c.requires.some, c.requires.few, c.floor_law.ensures), tt) in
    let says = c.in-Ok.ensures.transacts in
    record {
      answer =
          λ clean log s. (says.answers clean s.tables s.are
          (ready_to_open b terms above c.requires.few s.tables log s.commands s.shows)).0
          ∙ answers s.tables log b terms s.shows;
      call =
          committed_call g.S.Store c.args.self.now _ (ready_to_open b terms above c.requires.few) (Open b terms ∷ []) (opens b terms above c.requires.few) are _ (is_up c.args.self.now.fault c.is_down.ensures c.if-is_down.false) (is_up c.args.self.now.fault c.is_down.ensures c.if-is_down.false)
          says;
      by_tables = λ clean t ready shown.
          let it = says.answers clean t shown ready in
          record {
            answer = it.0;
            leads = record {
              tables = tables_with_branch t b terms;
              same = same_itself (tables_with_branch t b terms);
              are = it.1;
              survives = λ only trees may. (tables_with_branch t b terms, it.2 trees may, refl);
            };
            keys = keys_with_branch t b terms ready;
          };
      frugal = λ same. (let it = same in cc);
      stored = record { answers = c.in-Ok.ensures.stored; whole = c.in-Ok.ensures.whole };
      own = tt;
      spares = spares_done g.S.Store c.args.self.now _ _ (is_up c.args.self.now.fault c.is_down.ensures c.if-is_down.false) says.spares;
    }

pub returns-in-Err : goal.returns-in-Err
returns-in-Err g c =
    let no = refused g c in
    let b = c.args.branch in
    let terms = opened_with c.args.count c.args.floor in
    record {
      answer = tt;
      call = refused_call g.S.Store c.args.self.now c.go_down.new.self _ c.go_down.result no
          (is_up c.args.self.now.fault c.is_down.ensures c.if-is_down.false);
      by_tables = tt;
      frugal = λ same. no.frugal (let it = same in cc);
      stored = record {
        answers = tt;
        whole = down_keeps g.S.Store c.args.self.now c.go_down.new.self c.open_branch.new.conn _ c.in-Err.ensures.whole
            c.go_down.ensures.survives;
      };
      own = record {
        damage = breaks_opening g.S.Store b terms c.args.self.now c.go_down.new.self c.go_down.result no.broken
            (breaks_shown g.S.Store c.args.self.now.conn c.open_branch.new.conn c.go_down.new.self.conn
            (fault_of c.go_down.new.self) c.go_down.result c.go_down.ensures.survives _ c.in-Err.fault
            c.in-Err.ensures.transacts c.go_down.ensures.down);
        left = λ t shows so. either_opened g.S.Store c.args.self.now c.go_down.new.self t b terms
            (either_after g.S.Store c.args.self.now c.go_down.new.self c.open_branch.new.conn
            c.in-Err.ensures.transacts c.go_down.ensures.survives t shows so);
      };
      spares = spares_down g.S.Store c.args.self.now c.go_down.new.self c.open_branch.new.conn c.in-Err.fault
          c.go_down.result (is_up c.args.self.now.fault c.is_down.ensures c.if-is_down.false) c.in-Err.ensures.transacts.spares
          c.in-Err.ensures.undone
          c.go_down.ensures.down c.go_down.ensures.undone c.go_down.ensures.survives;
    }

pub returns-then-is_down : goal.returns-then-is_down
returns-then-is_down g c =
    let down = sym c.is_down.ensures ∙ c.if-is_down.true in
    record {
      answer = tt;
      call = untried_call g.S.Store c.args.self.now _ down;
      by_tables = tt;
      frugal = λ same. (let it = same in cc);
      stored = record { answers = tt; whole = idle_keeps g.S.Store c.args.self.now _ };
      own = untried_opening g.S.Store c.args.self.now c.args.branch (opened_with c.args.count c.args.floor) Down refl;
      spares = spares_untouched g.S.Store c.args.self.now;
    }
