-- The tables of a batch that are written one after another, after its requests.
use Rattle.std.proofs.Common.{◌≡◌, Ok, refl, inr, ℕ}
use Rattle.posting_rules.specs.believed.{Changes.with_decided, Tables.Tables}
use Rattle.posting_batch.specs.{Overlay.decided_put, View.view}
use Rattle.bank_transactions.specs.{Additions.AddsNew, Running.Writes, Writing.MayWriteAfter, Writing.after_requests}
use Rattle.bank_transactions.proofs.{Chained.does_adds, Chained.does_err, Chained.does_then, batch_changes.write_after.Given.Over}
use Rattle.bank_transactions.proofs.Running.{writes_adds, writes_for, writes_none, writes_then}
use Rattle.bank_transactions.proofs.Remembered.{counts_after, followed_change, followed_next}
use Rattle.bank_transactions.proofs.Together.{step, accounts, tellers, branches, postings, references}
use Rattle.store_rows.specs.believed.BankTables as bank
use Rattle.store_rows.specs.{Lying.CountLies, believed.Inserts.meta_key}
use Rattle.bank_transactions.proofs.Exits.{clean_at, handed_on, survives_itself}
use Rattle.bank_transactions.proofs.batch_changes.write_after.Goals as goal

counted : (n : ℕ) (t : Tables) → with_decided n t ≡ decided_put n t
unfolding with_decided
counted n t = refl

pub returns-in_err-make_all : goal.returns-in_err-make_all
returns-in_err-make_all g c =
    let o = view c.args.overlay.now in
    rw (handed_on c.from_residual.result c.from_residual.ensures.1) (record {
      does = does_err (step (accounts o) c.deref.ensures (writes_none (survives_itself _))
          c.in_err-make_all.ensures.writes).does
          (λ t so. so);
      ran = tt;
      counts = tt;
      follows = tt;
    })

pub returns-in_err-make_all-2 : goal.returns-in_err-make_all-2
returns-in_err-make_all-2 g c =
    let o = view c.args.overlay.now in
    let s1 = step (accounts o) c.deref.ensures (writes_none (survives_itself _)) c.in_ok-make_all.ensures.writes in
    rw (handed_on c.from_residual-in_err-make_all-2.result c.from_residual-in_err-make_all-2.ensures.1) (record {
      does = does_err (step (tellers o) c.deref-2.ensures s1 c.in_err-make_all-2.ensures.writes).does (λ t so. so);
      ran = tt;
      counts = tt;
      follows = tt;
    })

pub returns-in_err-make_all-3 : goal.returns-in_err-make_all-3
returns-in_err-make_all-3 g c =
    let o = view c.args.overlay.now in
    let s1 = step (accounts o) c.deref.ensures (writes_none (survives_itself _)) c.in_ok-make_all.ensures.writes in
    let s2 = step (tellers o) c.deref-2.ensures s1 c.in_ok-make_all-2.ensures.writes in
    rw (handed_on c.from_residual-in_err-make_all-3.result c.from_residual-in_err-make_all-3.ensures.1) (record {
      does = does_err (step (branches o) c.deref-3.ensures s2 c.in_err-make_all-3.ensures.writes).does (λ t so. so);
      ran = tt;
      counts = tt;
      follows = tt;
    })

pub returns-in_err-make_rows : goal.returns-in_err-make_rows
returns-in_err-make_rows g c =
    let o = view c.args.overlay.now in
    let s1 = step (accounts o) c.deref.ensures (writes_none (survives_itself _)) c.in_ok-make_all.ensures.writes in
    let s2 = step (tellers o) c.deref-2.ensures s1 c.in_ok-make_all-2.ensures.writes in
    let s3 = step (branches o) c.deref-3.ensures s2 c.in_ok-make_all-3.ensures.writes in
    rw (handed_on c.from_residual-in_err-make_rows.result c.from_residual-in_err-make_rows.ensures.1) (record {
      does = does_err (step (postings o) c.deref-4.ensures s3 c.in_err-make_rows.ensures.writes).does (λ t so. so);
      ran = tt;
      counts = tt;
      follows = tt;
    })

pub returns-in_err-make_all-4 : goal.returns-in_err-make_all-4
returns-in_err-make_all-4 g c =
    let o = view c.args.overlay.now in
    let s1 = step (accounts o) c.deref.ensures (writes_none (survives_itself _)) c.in_ok-make_all.ensures.writes in
    let s2 = step (tellers o) c.deref-2.ensures s1 c.in_ok-make_all-2.ensures.writes in
    let s3 = step (branches o) c.deref-3.ensures s2 c.in_ok-make_all-3.ensures.writes in
    let s4 = step (postings o) c.deref-4.ensures s3 c.in_ok-make_rows.ensures.writes in
    rw (handed_on c.from_residual-in_err-make_all-4.result c.from_residual-in_err-make_all-4.ensures.1) (record {
      does = does_err (step (references o) c.deref-5.ensures s4 c.in_err-make_all-4.ensures.writes).does (λ t so. so);
      ran = tt;
      counts = tt;
      follows = tt;
    })

pub returns-in_err-write_decided : goal.returns-in_err-write_decided
returns-in_err-write_decided g c =
    let o = view c.args.overlay.now in
    let s1 = step (accounts o) c.deref.ensures (writes_none (survives_itself _)) c.in_ok-make_all.ensures.writes in
    let s2 = step (tellers o) c.deref-2.ensures s1 c.in_ok-make_all-2.ensures.writes in
    let s3 = step (branches o) c.deref-3.ensures s2 c.in_ok-make_all-3.ensures.writes in
    let s4 = step (postings o) c.deref-4.ensures s3 c.in_ok-make_rows.ensures.writes in
    let s5 = step (references o) c.deref-5.ensures s4 c.in_ok-make_all-4.ensures.writes in
    rw (handed_on c.from_residual-in_err-write_decided.result c.from_residual-in_err-write_decided.ensures.1) (record {
      does = does_err (does_then s5.does (does_adds (λ clean text values it. inr (inr (inr (inr (inr (inr it))))))
          c.in_err-write_decided.ensures.writes.does) (λ t so. tt)) (λ t so. so);
      ran = tt;
      counts = tt;
      follows = tt;
    })

-- all of it, and what it ran
whole : (g : Over) (c : goal.After-note g) → Writes g.S.Store (AddsNew (view c.args.overlay.now)) c.args.tx.now
    c.write_decided.new.tx (MayWriteAfter (view c.args.overlay.now)) (after_requests (view c.args.overlay.now)) (Ok (tt {0}))
whole g c =
    let o = view c.args.overlay.now in
    let s1 = step (accounts o) c.deref.ensures (writes_none (survives_itself _)) c.in_ok-make_all.ensures.writes in
    let s2 = step (tellers o) c.deref-2.ensures s1 c.in_ok-make_all-2.ensures.writes in
    let s3 = step (branches o) c.deref-3.ensures s2 c.in_ok-make_all-3.ensures.writes in
    let s4 = step (postings o) c.deref-4.ensures s3 c.in_ok-make_rows.ensures.writes in
    let s5 = step (references o) c.deref-5.ensures s4 c.in_ok-make_all-4.ensures.writes in
    writes_for (writes_then s5 (writes_adds (λ clean text values it. inr (inr (inr (inr (inr (inr it))))))
    c.in_ok-write_decided.ensures.writes) (λ t so. tt))
    (λ t so. (so, counted o.decided _))

pub returns-clause-does : goal.returns-clause-does
returns-clause-does g c = (whole g c).does

-- ---- whatever rows the file holds

pub returns-clause-ran : goal.returns-clause-ran
returns-clause-ran g c = (whole g c).ran

pub returns-clause-counts : goal.returns-clause-counts
returns-clause-counts g c =
    let o = view c.args.overlay.now in
    let s1 = step (accounts o) c.deref.ensures (writes_none (survives_itself _)) c.in_ok-make_all.ensures.writes in
    let s2 = step (tellers o) c.deref-2.ensures s1 c.in_ok-make_all-2.ensures.writes in
    let s3 = step (branches o) c.deref-3.ensures s2 c.in_ok-make_all-3.ensures.writes in
    let s4 = step (postings o) c.deref-4.ensures s3 c.in_ok-make_rows.ensures.writes in
    let s5 = step (references o) c.deref-5.ensures s4 c.in_ok-make_all-4.ensures.writes in
    counts_after o.decided s5.does c.in_ok-write_decided.ensures.writes.does c.in_ok-write_decided.ensures.counts

-- ---- what is remembered

pub returns-clause-follows : goal.returns-clause-follows
returns-clause-follows g c =
    let o = view c.args.overlay.now in
    let s1 = step (accounts o) c.deref.ensures (writes_none (survives_itself _)) c.in_ok-make_all.ensures.writes in
    let s2 = step (tellers o) c.deref-2.ensures s1 c.in_ok-make_all-2.ensures.writes in
    let s3 = step (branches o) c.deref-3.ensures s2 c.in_ok-make_all-3.ensures.writes in
    let s4 = step (postings o) c.deref-4.ensures s3 c.in_ok-make_rows.ensures.writes in
    let s5 = step (references o) c.deref-5.ensures s4 c.in_ok-make_all-4.ensures.writes in
    let m = c.args.memory.now in
    let m1 = c.make_all.new.memory in
    let m2 = c.make_all-2.new.memory in
    let m3 = c.make_all-3.new.memory in
    let m4 = c.make_rows.new.memory in
    let m5 = c.make_all-4.new.memory in
    let f1 = c.in_ok-make_all.ensures.follows in
    let f2 = followed_next c.make_all-2.new.tx m m1 m2 s1.does (clean_at c.in_ok-make_all-2.ensures.writes.does.says.survives)
    f1 c.in_ok-make_all-2.ensures.follows in
    let f3 = followed_next c.make_all-3.new.tx m m2 m3 s2.does (clean_at c.in_ok-make_all-3.ensures.writes.does.says.survives)
    f2 c.in_ok-make_all-3.ensures.follows in
    let f4 = followed_next c.make_rows.new.tx m m3 m4 s3.does (clean_at c.in_ok-make_rows.ensures.writes.does.says.survives)
    f3 c.in_ok-make_rows.ensures.follows in
    let f5 = followed_next c.make_all-4.new.tx m m4 m5 s4.does (clean_at c.in_ok-make_all-4.ensures.writes.does.says.survives)
    f4 c.in_ok-make_all-4.ensures.follows in
    followed_next c.write_decided.new.tx m m5 c.note.new.self s5.does
    (clean_at c.in_ok-write_decided.ensures.writes.does.says.survives) f5
    (followed_change g.S.Store c.make_all-4.new.tx c.write_decided.new.tx bank.meta meta_key
    (λ was now. CountLies now o.decided) m5 c.note.new.self c.in_ok-write_decided.ensures.lies c.note.ensures.fits)
