-- A batch that is answered as if none of its requests were kept.
use Rattle.std.proofs.Common.{◌∙◌, ap, length, sym, refl, rules, inr}
use Rattle.sqlite.specs.Held.{state}
use Rattle.posting_rules.specs.believed.Tables.{Tables}
use Rattle.posting_batch.specs.{Overlay.Overlay, View.view}
use Rattle.bank_transactions.proofs.{Added.adds_records, JudgedSlots.judging_all, ShownSlots.shown_filled}
use Rattle.bank_transactions.proofs.{Chained.does_adds, HeldBatch.homes_made}
use Rattle.bank_transactions.proofs.{Remembered.followed_next, Remembered.keeps_followed}
use Rattle.bank_transactions.proofs.{Remembered.recalls_read, Remembered.recalls_then}
use Rattle.bank_transactions.proofs.{Chained.still_in, Running.ran_since, Together.all_ran, Together.requests_ran}
use Rattle.bank_transactions.proofs.{HeldBatch.answers_all, LookUps.acts_stray, LookUps.does_look, LookUps.reads_ok, NewBatch.all_held}
use Rattle.bank_transactions.proofs.{NewBatch.answered_new, NewBatch.decided_all, NewBatch.is_again, NewBatch.refused_new}
use Rattle.bank_transactions.proofs.{NewBatch.blind, NewBatch.quiet, NewBatch.unanswered_new, Together.all_written}
use Rattle.bank_transactions.proofs.Together.{requests_first}
use Rattle.bank_transactions.proofs.{Exits.clean_at, Exits.handed_on, ToldBooks.closes}
use Rattle.bank_transactions.proofs.first_try.answer_unkept.Goals as goal

pub fill_known-requires : goal.fill_known-requires
fill_known-requires g c = c.requires

pub returns-in_err-fill_known : goal.returns-in_err-fill_known
returns-in_err-fill_known g c =
    let failed = c.in_err-fill_known.ensures.says in
    rw (handed_on c.from_residual.result c.from_residual.ensures.1) (record {
      says = λ records made. acts_stray failed;
      count = tt;
      busy = tt;
      stored = tt;
      again = tt;
      quiet = quiet (acts_stray {Adds = λ text values. ⊥} {So' = λ _. ⊥} {after = λ t. t} {w' = λ _. tt {0}} failed);
      remembers = tt;
      recalls = tt;
    })

pub returns-then-not-all_decided : goal.returns-then-not-all_decided
returns-then-not-all_decided g c =
    let fk = c.in_ok-fill_known.ensures in
    let j = c.judge-judged.ensures in
    let o = view c.judge-judged.result.overlay in
    record {
      says = tt;
      count = tt;
      busy = tt;
      stored = tt;
      again = is_again c.args.batch c.again.result (view c.fill_known.new.overlay) o fk.same j.again.keys
          (c.again.ensures.reads ∙ j.again.reads) c.again.ensures.overlay;
      quiet = quiet (does_look {Adds = λ text values. ⊥} (reads_ok fk.says));
      remembers = tt;
      recalls = recalls_read c.fill_known.new.memory (reads_ok fk.says) fk.remembers;
    }

pub returns-in-Err : goal.returns-in-Err
returns-in-Err g c =
    let fk = c.in_ok-fill_known.ensures in
    let j = c.judge-judged.ensures in
    let o = view c.judge-judged.result.overlay in
    record {
      says = tt;
      count = tt;
      busy = tt;
      stored = tt;
      again = is_again c.args.batch c.again-in-Err.result (view c.fill_known.new.overlay) o fk.same j.again.keys
          (c.again-in-Err.ensures.reads ∙ j.again.reads) c.again-in-Err.ensures.overlay;
      quiet = quiet (blind (does_look (reads_ok fk.says)) (requests_first o c.deref.ensures c.in-Err.ensures.puts));
      remembers = tt;
      recalls = recalls_then g.S.Store c.args.tx.now c.fill_known.new.tx c.put_requests.new.tx c.fill_known.new.memory
          (clean_at c.in-Err.ensures.puts.says.survives) (recalls_read c.fill_known.new.memory (reads_ok fk.says) fk.remembers);
    }

pub returns-in-Err-2 : goal.returns-in-Err-2
returns-in-Err-2 g c =
    let fk = c.in_ok-fill_known.ensures in
    let puts = requests_first (view c.judge-judged.result.overlay) c.deref.ensures c.in-Err.ensures.puts in
    record {
      says = λ records made.
          refused_new c.in-Err.fault (search rules) (does_look (reads_ok fk.says)) (does_adds (λ clean.
          let first = clean_at puts.says.survives clean in
          adds_records c.args.batch records (view c.fill_known.new.overlay) (view c.judge-judged.result.overlay) _ made
          fk.same (λ rows has. (fk.stored first (homes_made c.args.batch records made) rows has).decided)
          c.judge-judged.ensures.next c.judge-judged.ensures.again.keys) puts);
      count = tt;
      busy = tt;
      stored = tt;
      again = tt;
      quiet = quiet (blind (does_look (reads_ok fk.says)) puts);
      remembers = tt;
      recalls = tt;
    }

pub returns-in_err-write_after-in-Ok : goal.returns-in_err-write_after-in-Ok
returns-in_err-write_after-in-Ok g c =
    let puts = requests_first (view c.judge-judged.result.overlay) c.deref.ensures c.in-Ok.ensures.puts in
    rw (handed_on c.from_residual-in_err-write_after-in-Ok.result c.from_residual-in_err-write_after-in-Ok.ensures.1)
    (record {
      says = λ records made.
          let p' = view c.fill_known.new.overlay in
          let o = view c.judge-judged.result.overlay in
          let fk = c.in_ok-fill_known.ensures in
          let j = c.judge-judged.ensures in
          let end = c.in_err-write_after-in-Ok.ensures.does in
          let so = judging_all c.args.batch _ records c.args.moment o c.judge-judged.result.replies.items made refl
          j.judged j.rising j.idle in
          unanswered_new so (reads_ok fk.says)
          (λ clean live t shows room.
          let before = clean_at end.says.survives clean in
          let first = clean_at c.in-Ok.ensures.puts.says.survives before in
          shown_filled (state g.S.Store c.args.tx.now.conn.now).now t (length records) p' (view c.args.batch.overlay)
          shows
          room fk.same
          (all_held c.args.batch p' o c.deref.result.now records made (reads_ok fk.says)
          fk.new_rows.3 j.again.keys j.again.own
          (decided_all _ _ _ _ c.all_decided.ensures c.if-not-all_decided.false).1 c.deref.ensures c.in-Ok.ensures.puts
          c.in-Ok.ensures.unknown before live
          (fk.stored first (homes_made c.args.batch records made)))
          (closes g.S.Store c.args.tx.now c.fill_known.new.tx p'.kept fk.closed first))
          (does_adds (λ clean.
          let before = clean_at end.says.survives clean in
          let first = clean_at c.in-Ok.ensures.puts.says.survives before in
          adds_records c.args.batch records p' o _ made fk.same
          (λ rows has. (fk.stored first (homes_made c.args.batch records made) rows has).decided) j.next j.again.keys)
          (all_written o (requests_first o c.deref.ensures c.in-Ok.ensures.puts) end));
      count = tt;
      busy = tt;
      stored = tt;
      again = tt;
      quiet = quiet (blind (does_look (reads_ok c.in_ok-fill_known.ensures.says))
          (all_written (view c.judge-judged.result.overlay) puts c.in_err-write_after-in-Ok.ensures.does));
      remembers = tt;
      recalls = tt;
    })

pub returns-in_ok-write_after-in-Ok-clause-says : goal.returns-in_ok-write_after-in-Ok-clause-says
returns-in_ok-write_after-in-Ok-clause-says g c records made =
    let p' = view c.fill_known.new.overlay in
    let o = view c.judge-judged.result.overlay in
    let fk = c.in_ok-fill_known.ensures in
    let j = c.judge-judged.ensures in
    let end = c.in_ok-write_after-in-Ok.ensures.does in
    let so = judging_all c.args.batch _ records c.args.moment o c.judge-judged.result.replies.items made refl
    j.judged j.rising j.idle in
    rw c.into_replies.ensures (answered_new so (reads_ok fk.says)
    (λ clean live t shows room.
    let before = clean_at end.says.survives clean in
    let first = clean_at c.in-Ok.ensures.puts.says.survives before in
    shown_filled (state g.S.Store c.args.tx.now.conn.now).now t (length records) p' (view c.args.batch.overlay) shows
    room fk.same
    (all_held c.args.batch p' o c.deref.result.now records made (reads_ok fk.says)
    fk.new_rows.3 j.again.keys j.again.own
    (decided_all _ _ _ _ c.all_decided.ensures c.if-not-all_decided.false).1 c.deref.ensures c.in-Ok.ensures.puts
    c.in-Ok.ensures.unknown before live
    (fk.stored first (homes_made c.args.batch records made)))
    (closes g.S.Store c.args.tx.now c.fill_known.new.tx p'.kept fk.closed first))
    (does_adds (λ clean.
    let before = clean_at end.says.survives clean in
    let first = clean_at c.in-Ok.ensures.puts.says.survives before in
    adds_records c.args.batch records p' o _ made fk.same
    (λ rows has. (fk.stored first (homes_made c.args.batch records made) rows has).decided) j.next j.again.keys)
    (all_written o (requests_first o c.deref.ensures c.in-Ok.ensures.puts) end)))

pub returns-in_ok-write_after-in-Ok-clause-busy : goal.returns-in_ok-write_after-in-Ok-clause-busy
returns-in_ok-write_after-in-Ok-clause-busy g c clean live records made t shows it none =
    let p' = view c.fill_known.new.overlay in
    let o = view c.judge-judged.result.overlay in
    let fk = c.in_ok-fill_known.ensures in
    let j = c.judge-judged.ensures in
    let so = judging_all c.args.batch _ records c.args.moment o c.judge-judged.result.replies.items made refl
    j.judged j.rising j.idle in
    let before = clean_at c.in_ok-write_after-in-Ok.ensures.does.says.survives clean in
    let first = clean_at c.in-Ok.ensures.puts.says.survives before in
    let e = shown_filled (state g.S.Store c.args.tx.now.conn.now).now t (length records) p' (view c.args.batch.overlay)
    shows it fk.same
    (all_held c.args.batch p' o c.deref.result.now records made (reads_ok fk.says)
    fk.new_rows.3 j.again.keys j.again.own
    (decided_all _ _ _ _ c.all_decided.ensures c.if-not-all_decided.false).1 c.deref.ensures c.in-Ok.ensures.puts
    c.in-Ok.ensures.unknown before live
    (fk.stored first (homes_made c.args.batch records made)))
    (closes g.S.Store c.args.tx.now c.fill_known.new.tx p'.kept fk.closed first) in
    absurd ((decided_all _ _ _ _ c.all_decided.ensures c.if-not-all_decided.false).0 (ap (λ (u : Tables). u.decided)
    (so.tables t it e) ∙ none
    ∙ sym (ap (λ (q : Overlay). q.decided) e)))

pub returns-in_ok-write_after-in-Ok-clause-stored : goal.returns-in_ok-write_after-in-Ok-clause-stored
returns-in_ok-write_after-in-Ok-clause-stored g c clean live records made =
    let p' = view c.fill_known.new.overlay in
    let o = view c.judge-judged.result.overlay in
    let fk = c.in_ok-fill_known.ensures in
    let j = c.judge-judged.ensures in
    let before = clean_at c.in_ok-write_after-in-Ok.ensures.does.says.survives clean in
    let first = clean_at c.in-Ok.ensures.puts.says.survives before in
    let all = decided_all _ _ _ _ c.all_decided.ensures c.if-not-all_decided.false in
    let held = all_held c.args.batch p' o c.deref.result.now records made (reads_ok fk.says)
    fk.new_rows.3 j.again.keys j.again.own
    all.1 c.deref.ensures c.in-Ok.ensures.puts c.in-Ok.ensures.unknown before live
    (fk.stored first (homes_made c.args.batch records made)) in
    let stays = (fk.says.says.leaves first).0 in
    let on = still_in _ _ stays.goes_on live in
    let puts = c.in-Ok.ensures in
    let end = c.in_ok-write_after-in-Ok.ensures in
    let ran = all_ran o (requests_ran o c.deref.ensures (record { does = puts.puts; ran = puts.ran }))
    (record { does = end.does; ran = end.ran }) in
    rw c.into_replies.ensures (answers_all _ _ c.args.batch _ records c.args.moment o c.judge-judged.result.replies.items
    made refl fk.same (fk.own first) held (closes g.S.Store c.args.tx.now c.fill_known.new.tx p'.kept fk.closed first) j.judged
    (λ same. absurd (all.0 same)) j.rising
    (inr (ran_since stays.now (adds_records c.args.batch records p' o _ made fk.same
    (λ rows has. (fk.stored first (homes_made c.args.batch records made) rows has).decided) j.next j.again.keys)
    (ran.ran clean on))))

pub returns-in_ok-write_after-in-Ok-clause-quiet : goal.returns-in_ok-write_after-in-Ok-clause-quiet
returns-in_ok-write_after-in-Ok-clause-quiet g c =
    let o = view c.judge-judged.result.overlay in
    quiet (blind (does_look (reads_ok c.in_ok-fill_known.ensures.says))
    (all_written o (requests_first o c.deref.ensures c.in-Ok.ensures.puts) c.in_ok-write_after-in-Ok.ensures.does))

pub returns-in_ok-write_after-in-Ok-clause-count : goal.returns-in_ok-write_after-in-Ok-clause-count
returns-in_ok-write_after-in-Ok-clause-count g c = rw c.into_replies.ensures c.judge-judged.ensures.count

pub returns-in_ok-write_after-in-Ok-clause-again : goal.returns-in_ok-write_after-in-Ok-clause-again
returns-in_ok-write_after-in-Ok-clause-again g c = tt

pub returns-in_ok-write_after-in-Ok-clause-recalls : goal.returns-in_ok-write_after-in-Ok-clause-recalls
returns-in_ok-write_after-in-Ok-clause-recalls g c = tt

-- ---- what is remembered

pub returns-in_ok-write_after-in-Ok-clause-remembers : goal.returns-in_ok-write_after-in-Ok-clause-remembers
returns-in_ok-write_after-in-Ok-clause-remembers g c =
    let o = view c.judge-judged.result.overlay in
    let puts = requests_first o c.deref.ensures c.in-Ok.ensures.puts in
    let end = c.in_ok-write_after-in-Ok.ensures in
    let m = c.fill_known.new.memory in
    keeps_followed m c.write_after.new.memory (reads_ok c.in_ok-fill_known.ensures.says) (all_written o puts end.does)
    (followed_next c.write_after.new.tx m m c.write_after.new.memory puts (clean_at end.does.says.survives)
    (c.in-Ok.ensures.follows m) end.follows) c.in_ok-fill_known.ensures.remembers
