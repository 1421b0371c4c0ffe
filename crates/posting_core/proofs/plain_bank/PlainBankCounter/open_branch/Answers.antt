-- What is answered where a branch is open, and what is added where it isn't.
use Rattle.std.proofs.Common.{◌≡◌, ◌∙◌, [], ◌∷◌, All, None, Option, Some, ℕ, ap, refl, rules, subst, sym}
use Rattle.std.specs.Option.{option_map}
use Rattle.posting_rules.specs.{declared.rows.BranchRow.BranchRow, declared.counter.Opening.TheVariants.Opened}
use Rattle.posting_rules.specs.Branches.{IsAtMostZero, IsInRange}
use Rattle.posting_rules.specs.{believed.Changes.opened_where, believed.Counter.opening_for, believed.LookUps.floor_in}
use Rattle.posting_rules.specs.believed.{Commands.Open, Commands.Terms, Commands.opened_with}
use Rattle.posting_rules.specs.believed.LookUps.{terms_of_branch}
use Rattle.posting_rules.specs.believed.Tables.{AreTablesOf, Tables, branch_key, row_at}
use Rattle.posting_rules.proofs.Calls.{answers, opens}
use Rattle.posting_core.specs.{Appended.appended_opened, Plain.plain_tables}
use Rattle.posting_core.proofs.{Appending.opened_shown, Opened.opens_on, Opened.stays_on}
use Rattle.posting_core.proofs.InMemory.{after_plain, answered_plain, branches_as_before, memory_refused, no_answer}
use Rattle.posting_core.proofs.InMemory.{plain_shows, room_for_one, spared_plain}
use Rattle.posting_core.proofs.plain_bank.PlainBankCounter.open_branch.Goals as goal

-- a branch that is open stays as it is
stays_open : (t : Tables) (b : ℕ) (terms : Terms) (row : Option BranchRow)
    → (opening_for (option_map (terms_of_branch (floor_in t b)) row) terms ≡ Opened → ⊥)
    → t ≡ opened_where row t b terms
stays_open t b terms None other = absurd (other refl)
stays_open t b terms (Some row) other = refl

-- where it isn't, it is added
not_there : (t : Tables) (b : ℕ) (terms : Terms) (row : Option BranchRow)
    → opening_for (option_map (terms_of_branch (floor_in t b)) row) terms ≡ Opened → row ≡ None
not_there t b terms None is = refl
not_there t b terms (Some row) is = absurd (search rules)

pub returns-in_default : goal.returns-in_default
returns-in_default c =
    let bank = c.args.self.now in
    let t = plain_tables bank in
    let b = c.args.branch in
    let terms = opened_with c.args.count c.args.floor in
    let is = c.opening_of-opening.ensures.value in
    let same = stays_open t b terms (row_at branch_key t.branches b) (λ opened. c.in_default.not-Opened (is ∙ opened)) in
    record {
      answer = λ h log s. is ∙ answers t log b terms (plain_shows bank log s);
      call = answered_plain bank bank (Open b terms ∷ []) c.opening_of-opening.result
          (after_plain bank bank (Open b terms ∷ []) (λ u. u)
          ((c.opening_of-opening.ensures.above, c.requires.branch, c.requires.some, c.requires.few, c.read_floor.ensures), tt)
          refl
          (λ log s. subst (λ (u : Tables). AreTablesOf u (Open b terms ∷ log)) (sym same)
          (opens b terms c.opening_of-opening.ensures.above c.requires.few t log s)));
      by_tables = stays_on bank bank b terms c.opening_of-opening.result is refl same;
      spares = tt;
    }

pub returns : goal.returns
returns c =
    let bank = c.args.self.now in
    let t = plain_tables bank in
    let b = c.args.branch in
    let terms = opened_with c.args.count c.args.floor in
    let is = sym c.in-Opened.is ∙ c.opening_of-opening.ensures.value in
    let above = c.opening_of-opening.ensures.above in
    let none = not_there t b terms (row_at branch_key t.branches b) (sym is) in
    let same = branches_as_before t _ _ _ _ c.reserve.ensures.items c.reserve-2.ensures.items
    c.reserve-3.ensures.items c.reserve-4.ensures.items in
    record {
      answer = λ h log s. is ∙ answers t log b terms (plain_shows bank log s);
      call = answered_plain bank c.add_branch.new.self (Open b terms ∷ []) Opened
          (after_plain bank c.add_branch.new.self (Open b terms ∷ []) (λ u. appended_opened u b terms)
          ((above, c.requires.branch, c.requires.some, c.requires.few, c.read_floor.ensures), tt)
          (c.add_branch.ensures.tables ∙ ap (λ (u : Tables). appended_opened u b terms) same)
          (λ log s. opened_shown t log b terms none above c.requires.few s));
      by_tables = opens_on bank c.add_branch.new.self b terms Opened is none
          (c.add_branch.ensures.tables ∙ ap (λ (u : Tables). appended_opened u b terms) same);
      spares = tt;
    }

pub returns-in_err-reserve : goal.returns-in_err-reserve
returns-in_err-reserve c =
    let refused = c.from_residual.ensures.1 in
    record {
      answer = no_answer _ _ refused;
      by_tables = no_answer _ _ refused;
      call = spared_plain _ _ _ _ (memory_refused _ refused) (rw (c.reserve.ensures.items) refl);
      spares = tt;
    }

pub returns-in_err-reserve-2 : goal.returns-in_err-reserve-2
returns-in_err-reserve-2 c =
    let refused = c.from_residual-in_err-reserve-2.ensures.1 in
    record {
      answer = no_answer _ _ refused;
      by_tables = no_answer _ _ refused;
      call = spared_plain _ _ _ _ (memory_refused _ refused) (rw (c.reserve.ensures.items, c.reserve-2.ensures.items) refl);
      spares = tt;
    }

pub returns-in_err-reserve-3 : goal.returns-in_err-reserve-3
returns-in_err-reserve-3 c =
    let refused = c.from_residual-in_err-reserve-3.ensures.1 in
    record {
      answer = no_answer _ _ refused;
      by_tables = no_answer _ _ refused;
      call = spared_plain _ _ _ _ (memory_refused _ refused) (rw (c.reserve.ensures.items, c.reserve-2.ensures.items, c.reserve-3.ensures.items) refl);
      spares = tt;
    }

pub returns-in_err-reserve-4 : goal.returns-in_err-reserve-4
returns-in_err-reserve-4 c =
    let refused = c.from_residual-in_err-reserve-4.ensures.1 in
    record {
      answer = no_answer _ _ refused;
      by_tables = no_answer _ _ refused;
      call = spared_plain _ _ _ _ (memory_refused _ refused) (branches_as_before (plain_tables c.args.self.now) _ _ _ _
          c.reserve.ensures.items c.reserve-2.ensures.items c.reserve-3.ensures.items c.reserve-4.ensures.items);
      spares = tt;
    }

pub invariant_of-self : goal.invariant_of-self
invariant_of-self c = record {
  few = c.args.self.now.few;
  in_range = subst (All IsInRange) (sym c.reserve.ensures.items) c.args.self.now.in_range;
  at_most_zero = c.args.self.now.at_most_zero;
  counted = c.args.self.now.counted;
}

pub invariant_of-self-2 : goal.invariant_of-self-2
invariant_of-self-2 c = record {
  few = c.args.self.now.few;
  in_range = subst (All IsInRange) (sym c.reserve.ensures.items) c.args.self.now.in_range;
  at_most_zero = subst (All IsAtMostZero) (sym c.reserve-4.ensures.items) c.args.self.now.at_most_zero;
  counted = c.args.self.now.counted;
}

pub add_branch-requires : goal.add_branch-requires
add_branch-requires c = record {
  branch = c.requires.branch;
  some = c.requires.some;
  few = c.requires.few;
  floor = c.requires.floor;
  branches = room_for_one _ _ c.in_ok-reserve.ensures.ok;
  tellers = c.in_ok-reserve-2.ensures.ok;
  accounts = c.in_ok-reserve-3.ensures.ok;
  floors = room_for_one _ _ c.in_ok-reserve-4.ensures.ok;
}
