use Rattle.std.proofs.Common.{◌≡◌, ◌<◌, ◌∙◌, arith, length, take, sym}
use Rattle.std.proofs.{KnownBytes.Keeps-refl, lemmas.List.length-take-le}
use Rattle.posting_rules.proofs.CounterCalls.{unchanged_seen}
use Rattle.posting_core.proofs.Transferred.{read_whole, wrote_all, wrote_some}
use Rattle.posting_core.proofs.once.answer_once.Goals as goal

pub returns-in-Ok-clause-ok : goal.returns-in-Ok-clause-ok
returns-in-Ok-clause-ok g c = tt

pub returns-in-Ok-clause-fault : goal.returns-in-Ok-clause-fault
returns-in-Ok-clause-fault g c =
    let n = c.in-Ok.field-0 in
    let bytes = c.read_full.new.buffer in
    let few : n < length bytes = omega
    (arith, c.read_full.auto.buffer, c.in-Ok.ensures.within, c.in-Ok.field-0-test.1) in
    record {
      bytes = take n bytes;
      few = omega (arith, few, c.read_full.auto.buffer, length-take-le n bytes c.in-Ok.ensures.within);
      read = c.in-Ok.ensures.bytes;
      ended = c.in-Ok.ensures.end few;
      written = Keeps-refl _;
      unchanged = unchanged_seen _;
    }

pub returns-in-Err-clause-fault : goal.returns-in-Err-clause-fault
returns-in-Err-clause-fault g c = record { written = Keeps-refl _; unchanged = unchanged_seen _ }

pub returns-in-Err-submit-clause-fault : goal.returns-in-Err-submit-clause-fault
returns-in-Err-submit-clause-fault g c =
    let long : length c.read_full.new.buffer ≡ 100 = omega (arith, c.read_full.auto.buffer) in
    record {
      bytes = c.read_full.new.buffer;
      whole = long;
      read = read_whole _ _ _ _ (c.in-Ok-eq100.field-0-test ∙ sym long) c.in-Ok-eq100.ensures.bytes;
      written = Keeps-refl _;
      refuses = c.in-Err-submit.ensures.call.fault;
    }

pub returns-in-Err-submit-clause-why : goal.returns-in-Err-submit-clause-why
returns-in-Err-submit-clause-why g c = c.in-Err-submit.ensures.call.why

pub returns-in-Ok-write_out-clause-ok : goal.returns-in-Ok-write_out-clause-ok
returns-in-Ok-write_out-clause-ok g c =
    let w = c.in-Ok-write_out.ensures.written in
    let long : length c.read_full.new.buffer ≡ 100 = omega (arith, c.read_full.auto.buffer) in
    record {
      bytes = c.read_full.new.buffer;
      whole = long;
      read = read_whole _ _ _ _ (c.in-Ok-eq100.field-0-test ∙ sym long) c.in-Ok-eq100.ensures.bytes;
      takes = c.in-Ok-submit.ensures.call.done;
      up = c.in-Ok-submit.ensures.call.up;
      written = λ h log s. wrote_all _ _ _ _ _ w.2 w.3 (c.in-Ok-submit.ensures.answer h log s);
    }

pub returns-in-Ok-write_out-clause-flushed : goal.returns-in-Ok-write_out-clause-flushed
returns-in-Ok-write_out-clause-flushed g c = c.in-Ok-write_out.ensures.flushed

pub returns-in-Err-write_out-clause-fault : goal.returns-in-Err-write_out-clause-fault
returns-in-Err-write_out-clause-fault g c =
    let w = c.in-Err-write_out.ensures.written in
    let long : length c.read_full.new.buffer ≡ 100 = omega (arith, c.read_full.auto.buffer) in
    record {
      bytes = c.read_full.new.buffer;
      whole = long;
      read = read_whole _ _ _ _ (c.in-Ok-eq100.field-0-test ∙ sym long) c.in-Ok-eq100.ensures.bytes;
      takes = c.in-Ok-submit.ensures.call.done;
      up = c.in-Ok-submit.ensures.call.up;
      count = w.0;
      written = λ h log s. wrote_some _ _ _ _ _ w.2 (c.in-Ok-submit.ensures.answer h log s);
    }

pub returns-in-Err-write_out-clause-unwritten : goal.returns-in-Err-write_out-clause-unwritten
returns-in-Err-write_out-clause-unwritten g c = λ _. c.in-Err-write_out.ensures.failed

-- ---- what no call of the counter touches

pub returns-in-Ok-clause-spared : goal.returns-in-Ok-clause-spared
returns-in-Ok-clause-spared g c =
    record { honest = λ h. h; others = g.met.C.Counter.spares_itself c.args.bank.now }

pub returns-in-Err-clause-spared : goal.returns-in-Err-clause-spared
returns-in-Err-clause-spared g c =
    record { honest = λ h. h; others = g.met.C.Counter.spares_itself c.args.bank.now }

pub returns-in-Err-submit-clause-spared : goal.returns-in-Err-submit-clause-spared
returns-in-Err-submit-clause-spared g c =
    record { honest = c.in-Err-submit.ensures.call.honest; others = c.in-Err-submit.ensures.spares }

pub returns-in-Ok-write_out-clause-spared : goal.returns-in-Ok-write_out-clause-spared
returns-in-Ok-write_out-clause-spared g c =
    record { honest = c.in-Ok-submit.ensures.call.honest; others = c.in-Ok-submit.ensures.spares }

pub returns-in-Err-write_out-clause-spared : goal.returns-in-Err-write_out-clause-spared
returns-in-Err-write_out-clause-spared g c =
    record { honest = c.in-Ok-submit.ensures.call.honest; others = c.in-Ok-submit.ensures.spares }
