-- A batch that is filled, judged and written.
use Rattle.std.proofs.Common.{◌∙◌, arith, length, refl, inl, inr}
use Rattle.std.proofs.Math.Logic.{∥∥₁_map}
use Rattle.sqlite.specs.{State.HasCleanDisk, Held.state}
use Rattle.posting_batch.specs.View.{view}
use Rattle.bank_transactions.proofs.Chained.{does_adds, still_in}
use Rattle.bank_transactions.proofs.{Added.adds_records, HeldBatch.homes_made, HeldBatch.in_turn}
use Rattle.bank_transactions.proofs.{HeldBatch.answers_all, Running.ran_since}
use Rattle.bank_transactions.proofs.{LookUps.acts_stray, LookUps.does_look, LookUps.reads_ok, Remembered.keeps_followed}
use Rattle.bank_transactions.proofs.JudgedSlots.{answered_idle, answered_not, answered_written, counts_none}
use Rattle.bank_transactions.proofs.JudgedSlots.{fills, judging_all}
use Rattle.bank_transactions.proofs.batches.answer_batch.Goals.{then-judged-before+in_ok-write, else-judged-before}
use Rattle.bank_transactions.proofs.{Exits.clean_at, Exits.handed_on, ToldBooks.closes}
use Rattle.bank_transactions.proofs.batches.answer_batch.Goals as goal

pub fill-requires : goal.fill-requires
fill-requires g c = c.requires

pub returns-in_err-fill : goal.returns-in_err-fill
returns-in_err-fill g c =
    let failed = c.in_err-fill.ensures.says in
    rw (handed_on c.from_residual.result c.from_residual.ensures.1) (record {
      same_reference = failed.says.same_reference;
      says = λ records made. acts_stray failed;
      count = tt;
      idle = tt;
      stored = tt;
      wrote = tt;
      remembers = tt;
    })

pub returns-in_err-write : goal.returns-in_err-write
returns-in_err-write g c =
    let j = c.judge-judged.ensures in
    let fill = c.in_ok-fill.ensures in
    let failed = c.in_err-write.ensures.does in
    rw (handed_on c.from_residual-in_err-write.result c.from_residual-in_err-write.ensures.1) (record {
      same_reference = failed.says.same_reference ∙ fill.says.says.same_reference;
      says = λ records made.
          let so = judging_all c.args.batch _ records
          c.args.moment (view c.judge-judged.result.overlay) c.judge-judged.result.replies.items made refl
          j.judged j.rising j.idle in
          answered_not so (does_look (fills (length records) (view c.fill.new.overlay) (view c.args.batch.overlay)
          (reads_ok fill.says) fill.same (λ clean. fill.stored clean (homes_made c.args.batch records made))
          (closes g.S.Store c.args.tx.now c.fill.new.tx (view c.fill.new.overlay).kept fill.closed))) (does_adds (λ clean.
          let before = clean_at failed.says.survives clean in
          adds_records c.args.batch records (view c.fill.new.overlay) (view c.judge-judged.result.overlay) _ made
          fill.same
          (λ rows has. (fill.stored before (homes_made c.args.batch records made) rows has).decided) j.next j.again.keys)
          failed);
      count = tt;
      idle = tt;
      stored = tt;
      wrote = tt;
      remembers = tt;
    })

pub returns-clause-wrote : goal.returns-clause-wrote
returns-clause-wrote g c clean live records made =
    let o = view c.judge-judged.result.overlay in
    let j = c.judge-judged.ensures in
    let fill = c.in_ok-fill.ensures in
    let before : HasCleanDisk (state g.S.Store c.fill.new.tx.conn.now) =
    elim c.if-judged-before.branch [
      | then-judged-before+in_ok-write w ↦
          clean_at w.in_ok-write.ensures.does.says.survives (rw w.tx-is at clean)
      | else-judged-before w ↦ rw w.tx-is at clean
    ] in
    let stays = (fill.says.says.leaves before).0 in
    let held = fill.stored before (homes_made c.args.batch records made) in
    rw c.into_replies.ensures (answers_all _ _ c.args.batch _ records c.args.moment o c.judge-judged.result.replies.items
    made refl fill.same (fill.own before) held (closes g.S.Store c.args.tx.now c.fill.new.tx (view c.fill.new.overlay).kept fill.closed before) j.judged
    (λ none. elim c.if-judged-before.branch [
      | then-judged-before+in_ok-write w ↦ absurd (w.if-judged-before.true none)
      | else-judged-before w ↦ rw w.tx-is stays.now
    ]) j.rising
    (elim c.if-judged-before.branch [
      | then-judged-before+in_ok-write w ↦ inr (rw w.tx-is (ran_since stays.now
          (adds_records c.args.batch records (view c.fill.new.overlay) o _ made fill.same
          (λ rows has. (held rows has).decided) j.next j.again.keys)
          (w.in_ok-write.ensures.ran (rw w.tx-is at clean) (still_in _ _ stays.goes_on live))))
      | else-judged-before w ↦ inl (j.idle (omega (arith, w.if-judged-before.false)), rw w.tx-is stays.now)
    ]))

pub returns-clause-says : goal.returns-clause-says
returns-clause-says g c records made =
    let j = c.judge-judged.ensures in
    let so = judging_all c.args.batch _ records
    c.args.moment (view c.judge-judged.result.overlay) c.judge-judged.result.replies.items made refl
    j.judged j.rising j.idle in
    let fill = c.in_ok-fill.ensures in
    let reads = fills (length records) (view c.fill.new.overlay) (view c.args.batch.overlay) (reads_ok fill.says) fill.same (λ clean.
    fill.stored clean (homes_made c.args.batch records made)) (closes g.S.Store c.args.tx.now c.fill.new.tx (view c.fill.new.overlay).kept fill.closed) in
    rw c.into_replies.ensures (elim c.if-judged-before.branch [
      | then-judged-before+in_ok-write w ↦
          rw w.tx-is (answered_written so (does_look reads) (does_adds (λ clean.
          let before = clean_at w.in_ok-write.ensures.does.says.survives clean in
          adds_records c.args.batch records (view c.fill.new.overlay) (view c.judge-judged.result.overlay) _
          made c.in_ok-fill.ensures.same
          (λ rows has. (c.in_ok-fill.ensures.stored before (homes_made c.args.batch records made) rows has).decided)
          j.next j.again.keys)
          w.in_ok-write.ensures.does))
      | else-judged-before w ↦
          rw w.tx-is (answered_idle so (does_look reads) (omega (arith, w.if-judged-before.false)))
    ])

pub returns-clause-idle : goal.returns-clause-idle
returns-clause-idle g c clean records made t shows so none =
    let j = c.judge-judged.ensures in
    let fill = c.in_ok-fill.ensures in
    let it = judging_all c.args.batch _ records
    c.args.moment (view c.judge-judged.result.overlay) c.judge-judged.result.replies.items made refl
    j.judged j.rising j.idle in
    let reads = fills (length records) (view c.fill.new.overlay) (view c.args.batch.overlay) (reads_ok fill.says) fill.same (λ clean.
    fill.stored clean (homes_made c.args.batch records made)) (closes g.S.Store c.args.tx.now c.fill.new.tx (view c.fill.new.overlay).kept fill.closed) in
    let first = does_look {Adds = λ text values. ⊥} reads in
    elim c.if-judged-before.branch [
      | then-judged-before+in_ok-write w ↦
          let before = clean_at w.in_ok-write.ensures.does.says.survives (rw w.tx-is at clean) in
          let answers = reads.says.answers before t shows so in
          absurd (w.if-judged-before.true (counts_none it first t so answers none))
      | else-judged-before w ↦
          let answers = reads.says.answers (rw w.tx-is at clean) t shows so in
          rw w.tx-is (record {
            leads = it.back (omega (arith, w.if-judged-before.false)) t so answers;
            stays = (fill.says.says.leaves (rw w.tx-is at clean)).0;
          })
    ]

pub returns-clause-stored : goal.returns-clause-stored
returns-clause-stored g c clean records made =
    let fill = c.in_ok-fill.ensures in
    let before : HasCleanDisk (state g.S.Store c.fill.new.tx.conn.now) =
    elim c.if-judged-before.branch [
      | then-judged-before+in_ok-write w ↦
          clean_at w.in_ok-write.ensures.does.says.survives (rw w.tx-is at clean)
      | else-judged-before w ↦ rw w.tx-is at clean
    ] in
    rw c.into_replies.ensures (in_turn _ _ c.args.batch _ records c.args.moment
    (view c.judge-judged.result.overlay) c.judge-judged.result.replies.items made refl fill.same
    (fill.own before) (fill.stored before (homes_made c.args.batch records made))
    (closes g.S.Store c.args.tx.now c.fill.new.tx (view c.fill.new.overlay).kept fill.closed before)
    c.judge-judged.ensures.judged
    (λ none. elim c.if-judged-before.branch [
      | then-judged-before+in_ok-write w ↦ absurd (w.if-judged-before.true none)
      | else-judged-before w ↦ rw w.tx-is ((fill.says.says.leaves before).0.now)
    ]))

pub returns-clause-count : goal.returns-clause-count
returns-clause-count g c = rw c.into_replies.ensures c.judge-judged.ensures.count

pub returns-clause-same_reference : goal.returns-clause-same_reference
returns-clause-same_reference g c =
    elim c.if-judged-before.branch [
      | then-judged-before+in_ok-write w ↦
          rw w.tx-is (w.in_ok-write.ensures.does.says.same_reference ∙ c.in_ok-fill.ensures.says.says.same_reference)
      | else-judged-before w ↦ rw w.tx-is (c.in_ok-fill.ensures.says.says.same_reference)
    ]

-- ---- what is remembered

pub returns-clause-remembers : goal.returns-clause-remembers
returns-clause-remembers g c =
    elim c.if-judged-before.branch [
      | then-judged-before+in_ok-write w ↦
          rw (w.tx-is, w.memory-is) (keeps_followed c.fill.new.memory w.write.new.memory (reads_ok c.in_ok-fill.ensures.says)
          w.in_ok-write.ensures.does w.in_ok-write.ensures.follows c.in_ok-fill.ensures.remembers)
      | else-judged-before w ↦ rw (w.tx-is, w.memory-is) (∥∥₁_map c.in_ok-fill.ensures.remembers (λ it live. it))
    ]
