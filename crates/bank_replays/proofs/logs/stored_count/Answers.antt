-- The one row of `meta` was visited.
use Rattle.std.proofs.Common.{◌≡◌, ◌∙◌, ℕ, Result, inl, inr, true, refl, sym, subst, arith}
use Rattle.std.specs.Prelude.{◌-◌, ◌^◌, IfErr, int_lt, pos}
use Rattle.std.proofs.lemmas.List.{take_all}
use Rattle.std.proofs.lemmas.Result.{IfErr-weaker, IfOk-weaker}
use Rattle.posting_rules.specs.declared.fault.Fault.{Fault}
use Rattle.posting_rules.specs.declared.fault.{Fault.TheVariants.Damaged, Fault.TheVariants.Memory, Rule.TheVariants.Meta}
use Rattle.bank_store.specs.believed.Seen.{database_of}
use Rattle.bank_replays.proofs.{Logged.none_below, Logged.one_below, Logged.one_decided, Read.read_any, Read.read_fails}
use Rattle.bank_replays.proofs.{SoundLogs.sound_log, Visits.never_memory, Whys.err_is}
use Rattle.bank_replays.proofs.logs.stored_count.Goals as goal

not_meta : Memory ≡ Damaged Meta → ⊥
not_meta is = cc

pub returns-in-Ok : goal.returns-in-Ok
returns-in-Ok g c =
    let it = c.in-Ok.ensures in
    let last = c.visit_first.new.target in
    let most = 2 ^ 64 - 1 in
    record {
      bank = read_any it.bank _;
      rows = λ clean version decided has.
          IfOk-weaker c.counted.result _ _
          (λ count is. is ∙ it.visits.1 ∙ one_decided _ version decided it.visits.0 (it.visits.3 clean _ has ∙ take_all most _ (omega arith)))
          c.counted.ensures.count;
      sound = λ clean log shows rule is.
          none_below (database_of g.S.Store c.args.bank.now) shows.tables shows.are last.decided
          (λ version decided has. it.visits.1 ∙ one_decided _ version decided it.visits.0 (it.visits.3 clean _ has ∙ take_all most _ (omega arith)))
          (subst (λ (r : Result ℕ Fault). IfErr r (λ fault. (fault ≡ Damaged Meta) × (int_lt last.decided (pos 0) ≡ true)))
          is c.counted.ensures.below).1;
      why = record {
        answers = λ clean f has.
            IfErr-weaker c.counted.result _ _
            (λ fault below.
            inr (below.0, one_below it.visits.0 most f.metas last.decided it.visits.1 (it.visits.3 clean f.metas has.metas) below.1))
            c.counted.ensures.below;
      };
      frugal = λ is.
          not_meta (subst (λ (r : Result ℕ Fault). IfErr r (λ fault. (fault ≡ Damaged Meta) × (int_lt last.decided (pos 0) ≡ true)))
          is c.counted.ensures.below).0;
    }

pub returns-in-Err : goal.returns-in-Err
returns-in-Err g c = record {
  bank = read_fails _ c.in-Err.ensures.bank;
  rows = λ clean version decided has. tt;
  sound = λ clean log shows rule is.
      sound_log clean log shows _ c.in-Err.fault c.in-Err.ensures.why refl rule (sym c.bank_fault.ensures ∙ err_is _ _ is);
  why = record {
    answers = λ clean f has. inl (rw c.bank_fault.ensures (c.in-Err.ensures.why.answers clean f has));
  };
  frugal = λ is.
      let it = c.in-Err.ensures.visits in
      never_memory it.0 c.in-Err.fault it.2 it.3 (sym c.bank_fault.ensures ∙ err_is _ _ is);
}
