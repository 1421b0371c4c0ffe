use Rattle.std.proofs.Common.{◌≡◌, ◌∙◌, refl, sym, ap, subst, Bool, false, true, Option, Some, None, take, Ok, [], inl, inr}
use Rattle.std.proofs.lemmas.{Bool.true≢false}
use Rattle.std.specs.Prelude.{is_some, not}
use Rattle.counter_http.specs.{Next.IsHopeless, Next.IsUnfinished, Next.IsWhole, Next.asked, Tasks.IsTaskOf}
use Rattle.posting_core.specs.believed.LogEntries.{entries_given}
use Rattle.counter_http.specs.Listing.{listing_answer}
use Rattle.counter_http.specs.Figures.{asks_figures, figures_answer}
use Rattle.counter_http.specs.believed.Answers.{Asked, answer_to, asked_by, balance_answer, entries_answer}
use Rattle.counter_http.specs.believed.Answers.{is_posting}
use Rattle.counter_http.specs.Telling.{said}
use Rattle.counter_http.specs.declared.parting.Parting.TheVariants as parting
use Rattle.counter_http.specs.declared.tasks.Task.TheVariants.{Submit}
use Rattle.counter_http.specs.Holders.{balance_of, holder_line}
use Rattle.counter_http.proofs.AnsweredTurns.{IsReadFor, answers_as, asks_as, read_for, submits_as}
use Rattle.counter_http.proofs.Asked.{answered_nothing, asked_none}
use Rattle.counter_http.proofs.Faring.{fares_ended, fares_same, told_still}
use Rattle.counter_http.proofs.Fronts.{number_ended}
use Rattle.counter_http.proofs.Looked.{read_gives, says_gives, within_front}
use Rattle.counter_http.proofs.Moves.{ended_so, read_so, said_so}
use Rattle.counter_http.proofs.Replies.{as_told, as_untold, head_of, hopeless_here, read_answered, record_of}
use Rattle.counter_http.proofs.Replies.{says_answered, unfinished_here}
use Rattle.counter_http.proofs.client.Client.answer_front.Goals as goal
use Rattle.counter_http.proofs.client.Client.answer_front.Goals.{in-Balance, in-Branches, in-Entries}

none_if : {A : Type 0} (o : Option A) (b : Bool) → b ≡ is_some o → b ≡ false → o ≡ None
none_if None b e f = refl
none_if (Some x) b e f = absurd (true≢false (sym e ∙ f))

-- nothing is done
pub returns-then-not-self-clause-answers : goal.returns-then-not-self-clause-answers
returns-then-not-self-clause-answers g c =
    answered_nothing g.C.Counter.seen c.args.bank.now c.args.bank.now c.args.self.now c.args.self.now _
    (asked_none g.C.Counter.seen c.args.bank.now _) tt (λ fault refused among. fares_same c.args.self.now) refl
    (λ k steps is. is)

-- a record
pub returns-in-Submit : goal.returns-in-Submit
returns-in-Submit g c =
    let whole : IsWhole (take c.args.self.now.filled c.args.self.now.input.items) c.in-Message.message =
    rw c.deref.ensures.value at c.in-Message.ensures in
    let task : IsTaskOf (asked c.in-Message.message) (Submit c.in-Submit.bytes) = c.in-Submit.ensures in
    record {
      answers = answered_nothing g.C.Counter.seen c.args.bank.now c.args.bank.now c.args.self.now c.args.self.now _
          (asked_none g.C.Counter.seen c.args.bank.now _) tt (λ fault refused among. fares_same c.args.self.now) refl
          (λ k steps is. is);
      «record» = record {
        going = none_if c.args.self.now.parting c.is_some.result c.is_some.ensures c.if-is_some.false;
        is = record_of _ whole c.in-Submit.bytes (head_of _ whole refl (ap not c.is_head.ensures) refl) task;
      };
      rests = tt;
      spares = g.met.C.Counter.spares_itself c.args.bank.now;
    }

-- an answer that needs no bank
pub returns-in-Say : goal.returns-in-Say
returns-in-Say g c =
    let whole : IsWhole (take c.args.self.now.filled c.args.self.now.input.items) c.in-Message.message =
    rw c.deref.ensures.value at c.in-Message.ensures in
    let a = asked c.in-Message.message in
    record {
      answers = says_answered g.C.Counter.seen c.args.figures.now c.args.bank.now c.args.bank.now c.args.self.now c.say.new.self whole.message _
          (said c.in-Say.response) c.say.result (Ok c.say.result) c.say.ensures
          (head_of _ whole refl (ap not c.is_head.ensures) refl)
          (none_if c.args.self.now.parting c.is_some.result c.is_some.ensures c.if-is_some.false)
          (ap is_posting (sym whole.asks) ∙ submits_as a false c.in-Say.ensures.0)
          (asked_none g.C.Counter.seen c.args.bank.now c.say.result) (λ more. tt)
          (λ h log s. as_untold c.args.figures.now (asked_by whole.message) log (said c.in-Say.response)
          (ap asks_figures (sym whole.asks) ∙ asks_as a false c.in-Say.ensures.2)
          (sym (ap (answer_to log) (sym whole.asks)
          ∙ answers_as a log (said c.in-Say.response) (c.in-Say.ensures.1 log))));
      «record» = says_gives c.args.self.now c.say.new.self (said c.in-Say.response) _ c.say.result c.say.ensures;
      rests = said_so c.args.self.now c.say.new.self whole.message (said c.in-Say.response) _ c.say.result
          (head_of _ whole refl (ap not c.is_head.ensures) refl) c.say.ensures;
      spares = g.met.C.Counter.spares_itself c.args.bank.now;
    }

-- the figures
pub returns-in-Metrics : goal.returns-in-Metrics
returns-in-Metrics g c =
    let whole : IsWhole (take c.args.self.now.filled c.args.self.now.input.items) c.in-Message.message =
    rw c.deref.ensures.value at c.in-Message.ensures in
    let a = asked c.in-Message.message in
    record {
      answers = says_answered g.C.Counter.seen c.args.figures.now c.args.bank.now c.args.bank.now c.args.self.now
          c.say_figures.new.self whole.message _ (figures_answer c.args.figures.now) c.say_figures.result
          (Ok c.say_figures.result) c.say_figures.ensures (head_of _ whole refl (ap not c.is_head.ensures) refl)
          (none_if c.args.self.now.parting c.is_some.result c.is_some.ensures c.if-is_some.false)
          (ap is_posting (sym whole.asks) ∙ submits_as a false c.in-Metrics.ensures.0)
          (asked_none g.C.Counter.seen c.args.bank.now c.say_figures.result) (λ more. tt)
          (λ h log s. as_told c.args.figures.now (asked_by whole.message) log
          (ap asks_figures (sym whole.asks) ∙ asks_as a true c.in-Metrics.ensures.2));
      «record» = says_gives c.args.self.now c.say_figures.new.self (figures_answer c.args.figures.now) _ c.say_figures.result c.say_figures.ensures;
      rests = said_so c.args.self.now c.say_figures.new.self whole.message (figures_answer c.args.figures.now) _ c.say_figures.result
          (head_of _ whole refl (ap not c.is_head.ensures) refl) c.say_figures.ensures;
      spares = g.met.C.Counter.spares_itself c.args.bank.now;
    }

-- what was read of the bank
pub returns-after-task_of : goal.returns-after-task_of
returns-after-task_of g c =
    let whole : IsWhole (take c.args.self.now.filled c.args.self.now.input.items) c.in-Message.message =
    rw c.deref.ensures.value at c.in-Message.ensures in
    let found : IsReadFor g.C.Counter.seen g.C.Counter.reason c.args.bank.now c.match-task_of.bank
    (asked c.in-Message.message) c.match-task_of.read =
    elim c.match-task_of.branch [
      | in-Balance w ↦ rw (w.bank-is, w.read-is) (read_for g.C.Counter.seen c.args.bank.now _ (asked c.in-Message.message) _
          (λ log. balance_answer (holder_line w.in-Balance.holder) (balance_of log w.in-Balance.holder))
          w.in-Balance.ensures w.read_balance-read.ensures.asked w.read_balance-read.ensures.answer)
      | in-Branches w ↦ rw (w.bank-is, w.read-is) (read_for g.C.Counter.seen c.args.bank.now _ (asked c.in-Message.message) _
          (λ log. listing_answer w.in-Branches.listing log) w.in-Branches.ensures w.read_branches-read.ensures.asked
          w.read_branches-read.ensures.answer)
      | in-Entries w ↦ rw (w.bank-is, w.read-is) (read_for g.C.Counter.seen c.args.bank.now _ (asked c.in-Message.message) _
          (λ log. entries_answer (entries_given log w.in-Entries.after)) w.in-Entries.ensures
          w.read_entries-read.ensures.asked w.read_entries-read.ensures.answer)
    ] in
    let read = subst (λ (a : Asked). IsReadFor g.C.Counter.seen g.C.Counter.reason c.args.bank.now c.match-task_of.bank a
    c.match-task_of.read) whole.asks found in
    record {
      answers = read_answered g.C.Counter.seen c.args.figures.now c.args.bank.now c.match-task_of.bank c.args.self.now
          c.answer_reading.new.self whole.message _ c.match-task_of.read c.answer_reading.result c.answer_reading.ensures
          (head_of _ whole refl (ap not c.is_head.ensures) refl)
          (none_if c.args.self.now.parting c.is_some.result c.is_some.ensures c.if-is_some.false) read.posts read.figures
          read.asked read.says;
      «record» = read_gives c.args.self.now c.answer_reading.new.self c.match-task_of.read _ c.answer_reading.result
          c.answer_reading.ensures;
      rests = read_so c.args.self.now c.answer_reading.new.self whole.message c.match-task_of.read _ c.answer_reading.result
          (head_of _ whole refl (ap not c.is_head.ensures) refl) c.answer_reading.ensures;
      spares = elim c.match-task_of.branch [
        | in-Balance w ↦ rw w.bank-is w.read_balance-read.ensures.spares
        | in-Branches w ↦ rw w.bank-is w.read_branches-read.ensures.spares
        | in-Entries w ↦ rw w.bank-is w.read_entries-read.ensures.spares
      ];
    }

-- the rest is waited for
pub returns-in-Unfinished : goal.returns-in-Unfinished
returns-in-Unfinished g c =
    let old = c.args.self.now in
    let waits : IsUnfinished (take old.filled old.input.items) c.in-Unfinished.shows =
    rw c.deref.ensures.value at c.in-Unfinished.ensures in
    let going = none_if old.parting c.is_some.result c.is_some.ensures c.if-is_some.false in
    record {
      answers = answered_nothing g.C.Counter.seen c.args.bank.now c.args.bank.now old _ _
          (asked_none g.C.Counter.seen c.args.bank.now _) tt
          (λ fault refused among. record { did = inr (inl (inl refl)); told = told_still [] }) refl
          (λ k steps is. unfinished_here old _ c.in-Unfinished.shows refl refl refl going going refl refl refl refl
          waits is);
      «record» = tt;
      rests = inl refl;
      spares = g.met.C.Counter.spares_itself c.args.bank.now;
    }

-- it is no message
pub returns-in-Refused : goal.returns-in-Refused
returns-in-Refused g c =
    let old = c.args.self.now in
    let is : IsHopeless (take old.filled old.input.items) c.in-Refused.shows =
    rw c.deref.ensures.value at c.in-Refused.ensures in
    record {
      answers = answered_nothing g.C.Counter.seen c.args.bank.now c.args.bank.now old c.end_with.new.self _
          (asked_none g.C.Counter.seen c.args.bank.now _) tt
          (λ fault refused among. fares_ended old c.end_with.new.self c.end_with.ensures)
          (number_ended old c.end_with.new.self c.end_with.ensures)
          (λ k steps stands. hopeless_here old c.end_with.new.self c.in-Refused.shows _ c.bad_request.ensures
          (none_if old.parting c.is_some.result c.is_some.ensures c.if-is_some.false) is c.end_with.ensures stands);
      «record» = tt;
      rests = ended_so c.args.self.now c.end_with.new.self parting.Served c.end_with.ensures;
      spares = g.met.C.Counter.spares_itself c.args.bank.now;
    }

-- ---- the message is within what was read

pub say-requires : goal.say-requires
say-requires g c = within_front c.deref.ensures.value c.in-Message.ensures

pub say_figures-requires : goal.say_figures-requires
say_figures-requires g c = within_front c.deref.ensures.value c.in-Message.ensures

pub answer_reading-requires : goal.answer_reading-requires
answer_reading-requires g c = within_front c.deref.ensures.value c.in-Message.ensures

-- ---- no record is given

pub returns-then-not-self-clause-record : goal.returns-then-not-self-clause-record
returns-then-not-self-clause-record g c = tt

-- ---- what no call touches

pub returns-then-not-self-clause-spares : goal.returns-then-not-self-clause-spares
returns-then-not-self-clause-spares g c = g.met.C.Counter.spares_itself c.args.bank.now
