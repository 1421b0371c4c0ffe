-- What records come to.
use Rattle.std.proofs.Common.{◌≡◌, ◌++◌, ℕ, List, length, Err, arith, rules, refl, sym, ap, subst, ◌∙◌, inl, inr}
use Rattle.std.specs.Prelude.{IsSome}
use Rattle.std.proofs.lemmas.{Result.err_from_is_err_and, List.length-map}
use Rattle.smallvec.specs.SmallVec.{small_vec_len}
use Rattle.message_records.specs.believed.Reading.{request_of}
use Rattle.posting_rules.specs.declared.fault.Fault.TheVariants.{Down}
use Rattle.posting_rules.specs.believed.{Changes.tables_past_all, Commands.AreCommands, Runs.posts}
use Rattle.posting_rules.proofs.Records.{all_replies, are_posts, posts_all}
use Rattle.bank_store.specs.believed.Seen.{bank_seen, database_of}
use Rattle.bank_store.proofs.{bank.BankCounter.submit_all.Given.Over}
use Rattle.bank_store.proofs.Countered.{none_or_all, none_or_all_down, none_or_all_untried, of_logs}
use Rattle.bank_store.proofs.OtherTables.{spares_done, spares_down, spares_untouched}
use Rattle.bank_store.proofs.{AsFound.down_keeps, AsFound.idle_keeps, ByTables.leaves_all}
use Rattle.bank_store.proofs.{Broke.breaks_shown, Either.either_after, Either.untried_records}
use Rattle.bank_store.proofs.Refusing.{committed_call, breaks, is_up, refused_call, spared_call, transaction_refused}
use Rattle.bank_store.proofs.Refusing.{untried_call}
use Rattle.bank_store.specs.Seen.{fault_of}
use Rattle.bank_store.proofs.Refusing.{Refusal}
use Rattle.bank_transactions.specs.believed.{Additions.AddsForRecords, Answered.AnswersAll, Causes.IsBrokenOrMet}
use Rattle.bank_transactions.proofs.Remembered.{blank}
use Rattle.bank_store.proofs.FileTables.{tables_kept}
use Rattle.bank_store.proofs.bank.BankCounter.submit_all.Goals as goal

pub new-requires : goal.new-requires
new-requires g c = c.requires.few

pub post_all-requires : goal.post_all-requires
post_all-requires g c = record {
  mode = search rules;
  remembers = rw c.take-memory.ensures.given (search rules);
}

pub invariant_of-self : goal.invariant_of-self
invariant_of-self g c = record {
  idle = (c.post_all.ensures.says c.args.records.now c.in_ok-batch.ensures.made).mode;
  remembers = c.in-Ok.ensures.remembers;
  tables = tables_kept g.S.Store c.args.self.now.conn c.post_all.new.conn _
      (c.post_all.ensures.says c.args.records.now c.in_ok-batch.ensures.made).spares
      (c.post_all.ensures.undone c.args.records.now c.in_ok-batch.ensures.made) c.args.self.now.tables;
}

pub invariant_of-self-in-Err-1 : goal.invariant_of-self-in-Err-1
invariant_of-self-in-Err-1 g c = record {
  idle = (c.post_all.ensures.says c.args.records.now c.in_ok-batch.ensures.made).mode;
  remembers = blank g.S.Store c.post_all.new.conn c.take-memory.new.self c.take-memory.ensures.blank;
  tables = tables_kept g.S.Store c.args.self.now.conn c.post_all.new.conn _
      (c.post_all.ensures.says c.args.records.now c.in_ok-batch.ensures.made).spares
      (c.post_all.ensures.undone c.args.records.now c.in_ok-batch.ensures.made) c.args.self.now.tables;
}

pub put_replies-requires : goal.put_replies-requires
put_replies-requires g c =
    let made = c.in_ok-batch.ensures.made in
    let many : small_vec_len c.in-Ok.given ≡ length c.args.records.now =
    c.in-Ok.ensures.count ∙ ap length made.reads ∙ length-map c.args.records.now request_of in
    omega (arith, many, c.in_ok-replies.ensures.len, c.in_ok-replies.ensures.capacity)

pub returns-in-Ok : goal.returns-in-Ok
returns-in-Ok g c =
    let m = c.args.moment in
    let rs = c.args.records.now in
    let made = c.in_ok-batch.ensures.made in
    let says = c.in-Ok.ensures.says rs made in
    let are : AreCommands (posts m rs) =
    are_posts m rs (c.range_law.ensures.most) c.told-records in
    let Failed = IsSome c.args.self.now.fault in
    let same : c.put_replies.new.room.items ≡ c.in-Ok.given.items =
    c.put_replies.ensures ∙ ap (λ (items : List (List ℕ)). items ++ c.in-Ok.given.items) c.in_ok-replies.ensures.items in
    record {
      count = ap length same ∙ c.in-Ok.ensures.count ∙ ap length made.reads ∙ length-map rs request_of;
      answer =
          λ clean log s. same
          ∙ (says.answers clean s.tables s.are (of_logs (length rs) s.tables log s.commands s.shows)).0
          ∙ all_replies s.tables log m rs s.shows;
      call =
          committed_call g.S.Store c.args.self.now _ (of_logs (length rs)) (posts m rs) (posts_all m rs) are _ (is_up c.args.self.now.fault c.is_down.ensures c.if-is_down.false) (is_up c.args.self.now.fault c.is_down.ensures c.if-is_down.false)
          says;
      none_or_all = none_or_all (of_logs (length rs)) (posts m rs) (posts_all m rs) says _ Failed Failed says.survives;
      leaves = leaves_all g.S.Store c.args.self.now _ m rs _
          (λ clean t shows so.
          let answers = says.answers clean t shows so in
          record {
            leaves = record {
              tables = answers.1;
              survives = λ trees may. (tables_past_all t m rs, answers.2 trees may, refl);
              answers = same ∙ answers.0;
            };
            idle = λ none. let it = c.in-Ok.ensures.idle clean rs made t shows so none in (it.leads, it.same);
          });
      stored = record {
        answers = λ clean. subst (AnswersAll _ _ m rs) (sym same) (c.in-Ok.ensures.stored clean rs made);
        whole = c.in-Ok.ensures.whole rs made;
      };
      own = tt;
      spares = spares_done g.S.Store c.args.self.now _ _ (is_up c.args.self.now.fault c.is_down.ensures c.if-is_down.false) says.spares;
    }

-- what its refusal says
refused : (g : Over) (c : goal.After-drop-replies-in-Err-1 g)
    → Refusal g.S.Store c.args.self.now c.go_down.new.self (posts c.args.moment c.args.records.now)
    (IsBrokenOrMet g.S.Store (AddsForRecords (database_of g.S.Store c.args.self.now) c.args.records.now))
    c.go_down.result
refused g c =
    let m = c.args.moment in
    let rs = c.args.records.now in
    let are : AreCommands (posts m rs) =
    are_posts m rs (c.range_law.ensures.most) c.told-records in
    transaction_refused g.S.Store c.args.self.now c.go_down.new.self c.post_all.new.conn (of_logs (length rs))
    (posts m rs) (posts_all m rs) are
    c.in-Err.fault c.go_down.result c.go_down.ensures.down c.go_down.ensures.survives
    (c.in-Err.ensures.undone rs c.in_ok-batch.ensures.made) c.go_down.ensures.undone
    (c.in-Err.ensures.says rs c.in_ok-batch.ensures.made)

pub returns-in-Err : goal.returns-in-Err
returns-in-Err g c =
    let rs = c.args.records.now in
    let all = posts c.args.moment rs in
    let no = refused g c in
    record {
      count = tt;
      answer = tt;
      call = refused_call g.S.Store c.args.self.now c.go_down.new.self all c.go_down.result no
          (is_up c.args.self.now.fault c.is_down.ensures c.if-is_down.false);
      none_or_all =
          none_or_all_down g.S.Store c.args.self.now.conn c.post_all.new.conn c.go_down.new.self.conn _
          (of_logs (length rs)) all (posts_all c.args.moment rs) (IsSome c.args.self.now.fault)
          (IsSome c.go_down.new.self.fault) (c.in-Err.ensures.says rs c.in_ok-batch.ensures.made)
          c.go_down.ensures.survives;
      leaves = tt;
      stored = record {
        answers = tt;
        whole = down_keeps g.S.Store c.args.self.now c.go_down.new.self c.post_all.new.conn _
            (c.in-Err.ensures.whole rs c.in_ok-batch.ensures.made) c.go_down.ensures.survives;
      };
      own = record {
        damage = breaks g.S.Store rs c.args.self.now c.go_down.new.self c.go_down.result no.broken
            (breaks_shown g.S.Store c.args.self.now.conn c.post_all.new.conn c.go_down.new.self.conn
            (fault_of c.go_down.new.self) c.go_down.result c.go_down.ensures.survives _ c.in-Err.fault
            (c.in-Err.ensures.says rs c.in_ok-batch.ensures.made) c.go_down.ensures.down);
        left = either_after g.S.Store c.args.self.now c.go_down.new.self c.post_all.new.conn
            (c.in-Err.ensures.says rs c.in_ok-batch.ensures.made) c.go_down.ensures.survives;
      };
      spares = spares_down g.S.Store c.args.self.now c.go_down.new.self c.post_all.new.conn c.in-Err.fault
          c.go_down.result (is_up c.args.self.now.fault c.is_down.ensures c.if-is_down.false) (c.in-Err.ensures.says rs c.in_ok-batch.ensures.made).spares
          (c.in-Err.ensures.undone rs c.in_ok-batch.ensures.made)
          c.go_down.ensures.down c.go_down.ensures.undone c.go_down.ensures.survives;
    }

-- ---- nothing was tried

pub returns-then-is_down : goal.returns-then-is_down
returns-then-is_down g c =
    let down = sym c.is_down.ensures ∙ c.if-is_down.true in
    record {
      count = tt;
      answer = tt;
      call = untried_call g.S.Store c.args.self.now _ down;
      none_or_all = none_or_all_untried (bank_seen g.S.Store c.args.self.now) (posts c.args.moment c.args.records.now);
      leaves = tt;
      stored = record { answers = tt; whole = idle_keeps g.S.Store c.args.self.now _ };
      own = untried_records g.S.Store c.args.self.now c.args.moment c.args.records.now Down (inl refl);
      spares = spares_untouched g.S.Store c.args.self.now;
    }

pub returns-in_err-replies : goal.returns-in_err-replies
returns-in_err-replies g c =
    let p = err_from_is_err_and c.from_residual.result c.from_residual.ensures.1 in
    rw p.1 (record {
      count = tt;
      answer = tt;
      call = spared_call g.S.Store c.args.self.now _ (Err p.0) p.0 refl p.2 (is_up c.args.self.now.fault c.is_down.ensures c.if-is_down.false);
      none_or_all = none_or_all_untried (bank_seen g.S.Store c.args.self.now) (posts c.args.moment c.args.records.now);
      leaves = tt;
      stored = record { answers = tt; whole = idle_keeps g.S.Store c.args.self.now _ };
      own = untried_records g.S.Store c.args.self.now c.args.moment c.args.records.now p.0 (inr p.2);
      spares = spares_untouched g.S.Store c.args.self.now;
    })

pub returns-in_err-batch : goal.returns-in_err-batch
returns-in_err-batch g c =
    let p = err_from_is_err_and c.from_residual-in_err-batch.result c.from_residual-in_err-batch.ensures.1 in
    rw p.1 (record {
      count = tt;
      answer = tt;
      call = spared_call g.S.Store c.args.self.now _ (Err p.0) p.0 refl p.2 (is_up c.args.self.now.fault c.is_down.ensures c.if-is_down.false);
      none_or_all = none_or_all_untried (bank_seen g.S.Store c.args.self.now) (posts c.args.moment c.args.records.now);
      leaves = tt;
      stored = record { answers = tt; whole = idle_keeps g.S.Store c.args.self.now _ };
      own = untried_records g.S.Store c.args.self.now c.args.moment c.args.records.now p.0 (inr p.2);
      spares = spares_untouched g.S.Store c.args.self.now;
    })
