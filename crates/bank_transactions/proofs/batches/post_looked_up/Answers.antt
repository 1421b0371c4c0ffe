-- The parts of the transaction are one: the batch is answered.
use Rattle.std.proofs.Common.{ℕ, List, refl, rules}
use Rattle.std.proofs.lemmas.Result.{IfOk-weaker}
use Rattle.posting_batch.specs.View.{IsMadeOf}
use Rattle.sqlite.specs.Effect.{Database}
use Rattle.bank_transactions.specs.believed.Additions.{AddsForRecords}
use Rattle.bank_transactions.specs.believed.{Answered.AnswersAll, Stored.RepliesToAllStored}
use Rattle.bank_transactions.proofs.{HeldBatch.answered_after, HeldBatch.stored_after, Transacted.undoes, Idle.ends_items, Idle.idle_after}
use Rattle.bank_transactions.proofs.{Remembered.begins, Remembered.ends_live, Transacted.of_given, Transacted.transacts_records}
use Rattle.bank_transactions.proofs.Transacted.{whole_after}
use Rattle.bank_transactions.proofs.batches.post_looked_up.Goals as goal

pub returns-clause-says : goal.returns-clause-says
returns-clause-says g c records made =
    transacts_records (λ (db : Database). AddsForRecords db records) g.S.Store c.args.conn.now c.begin-tx.result c.answer_batch-replies.new.tx
    c.finish.new.tx.0 _ c.begin-tx.ensures.begun c.begin-tx.ensures.settled
    (c.answer_batch-replies.ensures.says records made)
    (ends_items g.S.Store _ _ c.answer_batch-replies.result c.finish.result c.finish.ensures) (search rules)

pub returns-clause-count : goal.returns-clause-count
returns-clause-count g c =
    of_given _ c.answer_batch-replies.result c.finish.result c.finish.ensures.given
    c.answer_batch-replies.ensures.count

pub returns-clause-idle : goal.returns-clause-idle
returns-clause-idle g c =
    idle_after (IsMadeOf c.args.batch) c.args.moment g.S.Store c.args.conn.now c.begin-tx.result.conn.now
    c.answer_batch-replies.new.tx.conn.now c.finish.new.tx.0 c.conn-1.given.0 c.answer_batch-replies.result
    c.finish.result
    c.begin-tx.ensures.begun c.finish.ensures
    (λ records made. let does = c.answer_batch-replies.ensures.says records made in search rules)
    c.answer_batch-replies.ensures.idle

pub returns-clause-stored : goal.returns-clause-stored
returns-clause-stored g c =
    stored_after g.S.Store (IsMadeOf c.args.batch)
    (λ old new records replies. RepliesToAllStored old new c.args.moment records replies.items) c.args.conn.now
    c.begin-tx.result.conn.now c.answer_batch-replies.new.tx.conn.now c.finish.new.tx.0 c.conn-1.given.0
    c.answer_batch-replies.result c.finish.result c.begin-tx.ensures.begun c.finish.ensures
    (λ records made. let does = c.answer_batch-replies.ensures.says records made in search rules)
    c.answer_batch-replies.ensures.stored

pub returns-clause-wrote : goal.returns-clause-wrote
returns-clause-wrote g c =
    answered_after g.S.Store (IsMadeOf c.args.batch)
    (λ old new records replies. AnswersAll old new c.args.moment records replies.items) c.args.conn.now
    c.begin-tx.result.conn.now c.answer_batch-replies.new.tx.conn.now c.finish.new.tx.0 c.conn-1.given.0
    c.answer_batch-replies.result c.finish.result c.begin-tx.ensures.begun c.finish.ensures
    (λ records made. let does = c.answer_batch-replies.ensures.says records made in search rules)
    c.answer_batch-replies.ensures.wrote

pub returns-clause-whole : goal.returns-clause-whole
returns-clause-whole g c records made =
    whole_after g.S.Store (λ old after. (replies : List (List ℕ)) × AnswersAll old after c.args.moment records replies)
    c.args.conn.now c.begin-tx.result.conn.now c.answer_batch-replies.new.tx.conn.now c.finish.new.tx.0
    c.conn-1.given.0 c.answer_batch-replies.result c.begin-tx.ensures.begun
    (c.answer_batch-replies.ensures.says records made).says.survives c.finish.ensures.survives
    (let does = c.answer_batch-replies.ensures.says records made in search rules)
    (IfOk-weaker c.answer_batch-replies.result _ _ (λ replies it clean live.
    (replies.items, it clean live records made)) c.answer_batch-replies.ensures.wrote)

pub returns-clause-undone : goal.returns-clause-undone
returns-clause-undone g c records made =
    undoes g.S.Store c.args.conn.now c.begin-tx.result c.answer_batch-replies.new.tx c.finish.new.tx.0
    c.conn-1.given.0 c.begin-tx.ensures.begun c.begin-tx.ensures.settled
    (c.answer_batch-replies.ensures.says records made)
    (ends_items g.S.Store _ _ c.answer_batch-replies.result c.finish.result c.finish.ensures) (search rules)

-- ---- what is remembered

pub answer_batch-replies-requires : goal.answer_batch-replies-requires
answer_batch-replies-requires g c =
    begins g.S.Store c.args.conn.now c.begin-tx.result.conn.now c.args.memory.now c.begin-tx.ensures.begun
    c.requires.remembers

pub returns-clause-remembers : goal.returns-clause-remembers
returns-clause-remembers g c =
    ends_live g.S.Store c.begin-tx.result c.answer_batch-replies.new.tx c.finish.new.tx.0
    c.conn-1.given.0 c.answer_batch-replies.result c.finish.result c.answer_batch-replies.new.memory c.finish.ensures
    (search rules) (rw c.begin-tx.ensures.begun refl) c.answer_batch-replies.ensures.remembers
