-- A try that was given up, and then the batch with its look-ups.
use Rattle.std.proofs.Common.{◌≡◌, List, length, subst}
use Rattle.std.specs.Prelude.{IfOk}
use Rattle.sqlite.specs.Held.{state}
use Rattle.posting_batch.specs.View.{IsMadeOf}
use Rattle.bank_transactions.specs.believed.Answered.{AnswersAll}
use Rattle.bank_transactions.proofs.Tries.{faults_undone, idle_again, stored_again, transacts_again, whole_again}
use Rattle.bank_transactions.proofs.Remembered.{still_fits}
use Rattle.bank_transactions.proofs.Exits.{clean_at, handed_on}
use Rattle.bank_transactions.proofs.batches.post_all.Goals as goal

pub post_looked_up-requires-clause-remembers : goal.post_looked_up-requires-clause-remembers
post_looked_up-requires-clause-remembers g c =
    still_fits g.S.Store c.args.conn.now c.args.memory.now c.note_requests-is_new.new.self
    c.note_requests-is_new.ensures.fits c.requires.remembers

pub try_new-requires-clause-remembers : goal.try_new-requires-clause-remembers
try_new-requires-clause-remembers g c =
    still_fits g.S.Store c.args.conn.now c.args.memory.now c.note_requests-is_new.new.self
    c.note_requests-is_new.ensures.fits c.requires.remembers

pub post_looked_up-requires-in-Again-clause-remembers : goal.post_looked_up-requires-in-Again-clause-remembers
post_looked_up-requires-in-Again-clause-remembers g c =
    still_fits g.S.Store c.try_new.new.conn c.try_new.new.memory c.expect_repeat.new.self c.expect_repeat.ensures.fits
    c.in_ok-replies.ensures.remembers

pub post_looked_up-requires-in-Again-clause-mode : goal.post_looked_up-requires-in-Again-clause-mode
post_looked_up-requires-in-Again-clause-mode g c = (rw c.in-Again.is at c.in_ok-replies.ensures.again).1.mode

pub returns-then-not-is_new : goal.returns-then-not-is_new
returns-then-not-is_new g c =
    let it = c.post_looked_up.ensures in record {
      says = it.says;
      count = it.count;
      idle = it.idle;
      stored = it.wrote;
      whole = it.whole;
      undone = it.undone;
      remembers = it.remembers;
    }

pub returns-in_err-replies : goal.returns-in_err-replies
returns-in_err-replies g c =
    let failed = c.in_err-replies.ensures in
    rw (handed_on c.from_residual.result c.from_residual.ensures.1) (record {
      says = failed.says;
      count = tt;
      idle = tt;
      stored = tt;
      whole = failed.whole;
      undone = failed.undone;
      remembers = tt;
    })

pub returns-in-Answered : goal.returns-in-Answered
returns-in-Answered g c =
    let tried = c.in_ok-replies.ensures in record {
      says = rw c.in-Answered.is at tried.says;
      count = rw c.in-Answered.is at tried.count;
      idle = λ clean records made t shows so none.
          absurd ((rw c.in-Answered.is at tried.busy) clean records made t shows so none);
      stored = rw c.in-Answered.is at tried.stored;
      whole = tried.whole;
      undone = rw c.in-Answered.is at tried.undone;
      remembers = tried.remembers;
    }

pub returns-in-Again-clause-remembers : goal.returns-in-Again-clause-remembers
returns-in-Again-clause-remembers g c = c.post_looked_up-in-Again.ensures.remembers

pub returns-in-Again-clause-says : goal.returns-in-Again-clause-says
returns-in-Again-clause-says g c records made =
    let again = rw c.in-Again.is at c.in_ok-replies.ensures.again in
    transacts_again g.S.Store c.args.conn.now c.try_new.new.conn c.post_looked_up-in-Again.new.conn again.1
    records (c.post_looked_up-in-Again.ensures.says records (again.0.made records made))

pub returns-in-Again-clause-count : goal.returns-in-Again-clause-count
returns-in-Again-clause-count g c =
    let again = rw c.in-Again.is at c.in_ok-replies.ensures.again in
    subst (λ (reads : List _).
    IfOk c.post_looked_up-in-Again.result (λ replies. length replies.items ≡ length reads)) again.0.reads
    c.post_looked_up-in-Again.ensures.count

pub returns-in-Again-clause-idle : goal.returns-in-Again-clause-idle
returns-in-Again-clause-idle g c =
    let again = rw c.in-Again.is at c.in_ok-replies.ensures.again in
    idle_again g.S.Store c.args.conn.now c.try_new.new.conn c.post_looked_up-in-Again.new.conn again.1
    (IsMadeOf c.args.batch) (IsMadeOf c.in-Again.batch) again.0.made
    (λ records made. clean_at (c.post_looked_up-in-Again.ensures.says records made).survives) c.args.moment
    c.post_looked_up-in-Again.result
    c.post_looked_up-in-Again.ensures.idle

pub returns-in-Again-clause-stored : goal.returns-in-Again-clause-stored
returns-in-Again-clause-stored g c =
    let again = rw c.in-Again.is at c.in_ok-replies.ensures.again in
    stored_again g.S.Store c.args.conn.now c.try_new.new.conn c.post_looked_up-in-Again.new.conn again.1
    (IsMadeOf c.args.batch) (IsMadeOf c.in-Again.batch) again.0.made
    (λ records made. clean_at (c.post_looked_up-in-Again.ensures.says records made).survives)
    (λ db records replies. AnswersAll db (state g.S.Store c.post_looked_up-in-Again.new.conn).now c.args.moment records
    replies.items) c.post_looked_up-in-Again.result c.post_looked_up-in-Again.ensures.wrote

pub returns-in-Again-clause-whole : goal.returns-in-Again-clause-whole
returns-in-Again-clause-whole g c records made =
    let again = rw c.in-Again.is at c.in_ok-replies.ensures.again in
    whole_again g.S.Store c.args.conn.now c.try_new.new.conn c.post_looked_up-in-Again.new.conn again.1 records
    (c.post_looked_up-in-Again.ensures.whole records (again.0.made records made))

pub returns-in-Again-clause-undone : goal.returns-in-Again-clause-undone
returns-in-Again-clause-undone g c records made =
    let again = rw c.in-Again.is at c.in_ok-replies.ensures.again in
    faults_undone g.S.Store c.args.conn.now c.try_new.new.conn c.post_looked_up-in-Again.new.conn again.1
    (IsMadeOf c.args.batch) (IsMadeOf c.in-Again.batch) again.0.made
    (λ records made. clean_at (c.post_looked_up-in-Again.ensures.says records made).survives) _ records made
    (c.post_looked_up-in-Again.ensures.undone records (again.0.made records made))
