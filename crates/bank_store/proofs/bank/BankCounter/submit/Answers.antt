-- What a record comes to.
use Rattle.std.proofs.Common.{◌≡◌, ℕ, List, [], ◌∷◌, Ok, Err, Result, length, refl, sym, ap, subst, ◌∙◌, inl}
use Rattle.message_records.specs.believed.Spelling.{reply_spelling}
use Rattle.message_records.specs.{believed.Reading.request_of, believed.Records.RequestFields, declared.fault.Bad.Bad}
use Rattle.bank_transactions.specs.believed.{Additions.AddsForRecords, Stored.RepliesToAllStored}
use Rattle.bank_transactions.specs.believed.Answered.{AnswersAll}
use Rattle.bank_transactions.specs.believed.Causes.{IsBrokenOrMet}
use Rattle.bank_transactions.proofs.{OneRequest.one_stored, Remembered.blank}
use Rattle.bank_transactions.specs.{Memory.Remembers, declared.memory.Memory.Memory}
use Rattle.posting_rules.specs.declared.fault.Fault.TheVariants.{Down}
use Rattle.posting_rules.specs.believed.{Changes.tables_past_all, Commands.AreCommands, Commands.Command}
use Rattle.posting_rules.specs.believed.{Commands.Post, Commands.opened, Entries.decided, Entries.malformed_reply}
use Rattle.posting_rules.specs.believed.{Entries.reply, Entries.reply_given, Runs.posts}
use Rattle.bank_store.specs.believed.Seen.{bank_seen, database_of}
use Rattle.posting_rules.proofs.{Calls.IsChange, Records.all_replies, Records.posts_all}
use Rattle.posting_rules.proofs.TablesWithRecord.{malformed_shown}
use Rattle.bank_store.proofs.{AsFound.down_keeps, AsFound.idle_keeps, Countered.of_logs, Countered.takes_untried}
use Rattle.bank_store.proofs.FileTables.{tables_kept}
use Rattle.bank_store.proofs.OtherTables.{spares_done, spares_down, spares_untouched}
use Rattle.bank_store.proofs.ByTables.{leaves_malformed, leaves_request}
use Rattle.bank_store.proofs.{Broke.breaks_shown, Either.either_after, Either.untried_records}
use Rattle.bank_store.proofs.Refusing.{answered_call, committed_call, breaks, is_up, refused_call, transaction_refused, untried_call, Refusal}
use Rattle.bank_store.specs.Seen.{fault_of}
use Rattle.bank_store.proofs.bank.BankCounter.submit.Goals as goal
use Rattle.posting_rules.specs.believed.Closings.{closings}

no_request : {a : RequestFields} {bad : Bad} → ◌≡◌ {A = Result RequestFields Bad} (Ok a) (Err bad) → ⊥
no_request is = cc

first : {x y : List ℕ} → ◌≡◌ {A = List (List ℕ)} (x ∷ []) (y ∷ []) → x ≡ y
first is = cc

-- bytes that are no request
module _ (bytes : List ℕ) (bad : Bad) (read : request_of bytes ≡ Err bad) where
  is_told : (log : List Command) → reply_spelling malformed_reply ≡ reply_spelling (reply log bytes)
  is_told log =
      ap (λ (x : Result RequestFields Bad). reply_spelling (reply_given x (λ b. opened log b) (closings log) (decided log))) (sym read)

  changes_nothing : (m : ℕ) → IsChange (λ t. t) (Post m bytes ∷ [])
  changes_nothing m t log shows = malformed_shown t log m bytes bad read shows

pub invariant_of-self : goal.invariant_of-self
invariant_of-self g c =
    let read : request_of c.args.bytes.now ≡ Ok c.in-Ok.request = sym c.in-Ok.ensures.exact in
    let says = c.post_looked_up.ensures.says (c.args.bytes.now ∷ []) (c.of_one-batch.ensures c.args.bytes.now read) in
    record {
      idle = says.mode;
      remembers = c.in-Ok-post_looked_up.ensures.remembers;
      tables = tables_kept g.S.Store c.args.self.now.conn c.post_looked_up.new.conn _ says.spares
          (c.post_looked_up.ensures.undone (c.args.bytes.now ∷ [])
          (c.of_one-batch.ensures c.args.bytes.now read)) c.args.self.now.tables;
    }

pub invariant_of-self-in-Err-post_looked_up : goal.invariant_of-self-in-Err-post_looked_up
invariant_of-self-in-Err-post_looked_up g c =
    let read : request_of c.args.bytes.now ≡ Ok c.in-Ok.request = sym c.in-Ok.ensures.exact in
    let says = c.post_looked_up.ensures.says (c.args.bytes.now ∷ []) (c.of_one-batch.ensures c.args.bytes.now read) in
    record {
      idle = says.mode;
      remembers = blank g.S.Store c.post_looked_up.new.conn c.take-memory.new.self c.take-memory.ensures.blank;
      tables = tables_kept g.S.Store c.args.self.now.conn c.post_looked_up.new.conn _ says.spares
          (c.post_looked_up.ensures.undone (c.args.bytes.now ∷ [])
          (c.of_one-batch.ensures c.args.bytes.now read)) c.args.self.now.tables;
    }

pub post_looked_up-requires : goal.post_looked_up-requires
post_looked_up-requires g c = record {
  mode = c.args.self.now.idle;
  remembers = subst (λ (m : Memory). ∥ Remembers g.S.Store c.args.self.now.conn m ∥₁) (sym c.take-memory.ensures.given)
      c.args.self.now.remembers;
}

pub only_reply-requires : goal.only_reply-requires
only_reply-requires g c =
    let read : request_of c.args.bytes.now ≡ Ok c.in-Ok.request = sym c.in-Ok.ensures.exact in
    c.in-Ok-post_looked_up.ensures.count ∙ ap length (c.of_one-batch.ensures c.args.bytes.now read).reads

pub returns-in_default : goal.returns-in_default
returns-in_default g c =
    let m = c.args.moment in
    let bytes = c.args.bytes.now in
    let bad = c.in_default.field-0 in
    let read : request_of bytes ≡ Err bad = sym c.in_default.ensures.exact in
    let out = c.encode_reply.ensures.spelling ∙ ap reply_spelling c.malformed_reply.ensures in
    let are : AreCommands (posts m (bytes ∷ [])) = ((c.range_law.ensures.most, c.told-bytes), tt) in
    let up = is_up c.args.self.now.fault c.is_down.ensures c.if-is_down.false in
    record {
      answer = λ clean log s. out ∙ is_told bytes bad read log;
      call =
          answered_call g.S.Store c.args.self.now c.args.self.now (posts m (bytes ∷ [])) _ up up
          (takes_untried (bank_seen g.S.Store c.args.self.now) (posts m (bytes ∷ []))
          (changes_nothing bytes bad read m) are) (λ clean. clean);
      frugal = λ same. (let it = same in cc);
      stored = record {
        answers = λ clean r is. absurd (no_request (sym is ∙ read));
        whole = idle_keeps g.S.Store c.args.self.now _;
      };
      leaves = leaves_malformed g.S.Store c.args.self.now m bytes _ bad read out;
      malformed = λ up bad is. (ap Ok out, refl);
      own = tt;
      spares = spares_untouched g.S.Store c.args.self.now;
    }

pub returns-in-Ok-post_looked_up : goal.returns-in-Ok-post_looked_up
returns-in-Ok-post_looked_up g c =
    let m = c.args.moment in
    let rs = c.args.bytes.now ∷ [] in
    let read : request_of c.args.bytes.now ≡ Ok c.in-Ok.request = sym c.in-Ok.ensures.exact in
    let made = c.of_one-batch.ensures c.args.bytes.now read in
    let it = c.in-Ok-post_looked_up.ensures in
    let says = it.says rs made in
    let are : AreCommands (posts m rs) = ((c.range_law.ensures.most, c.told-bytes), tt) in
    record {
      answer =
          λ clean log s. first (sym c.only_reply.ensures
          ∙ (says.answers clean s.tables s.are (of_logs 1 s.tables log s.commands s.shows)).0
          ∙ all_replies s.tables log m rs s.shows);
      call =
          committed_call g.S.Store c.args.self.now _ (of_logs 1) (posts m rs) (posts_all m rs) are _ (is_up c.args.self.now.fault c.is_down.ensures c.if-is_down.false) (is_up c.args.self.now.fault c.is_down.ensures c.if-is_down.false)
          says;
      frugal = λ same. (let it = same in cc);
      stored = record {
        answers = λ clean r is. record {
          answers = one_stored is (subst (RepliesToAllStored _ _ m rs) c.only_reply.ensures (it.stored clean rs made));
          alone = subst (AnswersAll _ _ m rs) c.only_reply.ensures (it.wrote clean rs made);
        };
        whole = it.whole rs made;
      };
      leaves = leaves_request g.S.Store c.args.self.now _ m c.args.bytes.now _ c.in-Ok.request read
          (λ clean r is t shows so.
          let answers = says.answers clean t shows so in
          record {
            tables = answers.1;
            survives = λ trees may. (tables_past_all t m rs, answers.2 trees may, refl);
            answers = sym c.only_reply.ensures ∙ answers.0;
          });
      malformed = λ up bad is. absurd (no_request (sym read ∙ is));
      own = tt;
      spares = spares_done g.S.Store c.args.self.now _ _ (is_up c.args.self.now.fault c.is_down.ensures c.if-is_down.false) says.spares;
    }

pub returns-in-Err : goal.returns-in-Err
returns-in-Err g c =
    let m = c.args.moment in
    let read : request_of c.args.bytes.now ≡ Ok c.in-Ok.request = sym c.in-Ok.ensures.exact in
    let rs = c.args.bytes.now ∷ [] in
    let made = c.of_one-batch.ensures c.args.bytes.now read in
    let are : AreCommands (posts m rs) = ((c.range_law.ensures.most, c.told-bytes), tt) in
    let no : Refusal g.S.Store c.args.self.now c.go_down.new.self (posts m rs)
    (IsBrokenOrMet g.S.Store (AddsForRecords (database_of g.S.Store c.args.self.now) rs)) c.go_down.result =
    transaction_refused g.S.Store c.args.self.now c.go_down.new.self c.post_looked_up.new.conn (of_logs 1)
    (posts m rs) (posts_all m rs) are c.in-Err.refused c.go_down.result c.go_down.ensures.down
    c.go_down.ensures.survives (c.in-Err.ensures.undone rs made) c.go_down.ensures.undone
    (c.in-Err.ensures.says rs made) in
    record {
      answer = tt;
      call = refused_call g.S.Store c.args.self.now c.go_down.new.self _ c.go_down.result no
          (is_up c.args.self.now.fault c.is_down.ensures c.if-is_down.false);
      frugal = λ same. no.frugal (let it = same in cc);
      stored = record {
        answers = tt;
        whole = down_keeps g.S.Store c.args.self.now c.go_down.new.self c.post_looked_up.new.conn _
            (c.in-Err.ensures.whole rs made) c.go_down.ensures.survives;
      };
      leaves = tt;
      malformed = λ up bad is. absurd (no_request (sym read ∙ is));
      own = record {
        damage = breaks g.S.Store rs c.args.self.now c.go_down.new.self c.go_down.result no.broken
            (breaks_shown g.S.Store c.args.self.now.conn c.post_looked_up.new.conn c.go_down.new.self.conn
            (fault_of c.go_down.new.self) c.go_down.result c.go_down.ensures.survives _ c.in-Err.refused
            (c.in-Err.ensures.says rs made) c.go_down.ensures.down);
        left = either_after g.S.Store c.args.self.now c.go_down.new.self c.post_looked_up.new.conn
            (c.in-Err.ensures.says rs made) c.go_down.ensures.survives;
      };
      spares = spares_down g.S.Store c.args.self.now c.go_down.new.self c.post_looked_up.new.conn c.in-Err.refused
          c.go_down.result (is_up c.args.self.now.fault c.is_down.ensures c.if-is_down.false) (c.in-Err.ensures.says rs made).spares
          (c.in-Err.ensures.undone rs made)
          c.go_down.ensures.down c.go_down.ensures.undone c.go_down.ensures.survives;
    }

pub returns-then-is_down : goal.returns-then-is_down
returns-then-is_down g c =
    let down = sym c.is_down.ensures ∙ c.if-is_down.true in
    record {
      answer = tt;
      call = untried_call g.S.Store c.args.self.now _ down;
      frugal = λ same. (let it = same in cc);
      stored = record { answers = tt; whole = idle_keeps g.S.Store c.args.self.now _ };
      leaves = tt;
      malformed = λ up bad is. absurd (up down);
      own = untried_records g.S.Store c.args.self.now c.args.moment (c.args.bytes.now ∷ []) Down (inl refl);
      spares = spares_untouched g.S.Store c.args.self.now;
    }
