-- Texts that are written one after another.
use Rattle.std.proofs.Common.{◌≡◌, ◌++◌, ℕ, List, [], Option, Result, Ok, Err, append-nil}
use Rattle.std.specs.{Prelude.IfErr, Prelude.OnOk, Io.KnownBytes.Appends}
use Rattle.std.proofs.KnownBytes.{Appends-trans}
use Rattle.posting_core.specs.believed.EndCalls.{EndsWith}
use Rattle.posting_core.specs.EndCalls.{HasMore, HasWriteFailed, IsFlush, WriteCall}
use Rattle.posting_core.proofs.Telling.{more_last, more_more}
use Rattle.posting_rules.specs.declared.{fault.Fault.Fault, fault.Rule.Rule}
use Rattle.report_contents.specs.Written.{AppendsPart}
use Rattle.report_contents.proofs.Written.{later_failed, same_all, same_part, then_part}
use Rattle.bank_replays.specs.Visiting.{IsRefusal}
use Rattle.bank_replays.specs.Writing.{LeavesWriter, Puts, Wrote, WrotePart}
use Rattle.bank_replays.specs.declared.fault.ReplayFault.{ReplayFault, TheVariants.Bank, TheVariants.Write}

module _ (old mid new : Option (List ℕ)) {t t' t'' : Option (List WriteCall)} (a b text : List ℕ)
    (wrote : Wrote a old mid t t') (same : a ++ b ≡ text) where
  -- bytes more
  pub puts_visited : (result : Result (Unit {0}) ReplayFault) → Puts b mid new t' t'' result
      → OnOk result (Wrote text old new t t'')
  puts_visited (Ok done) puts =
      (same_all old new same (Appends-trans old mid new a b wrote.0 puts.text), more_more wrote.1 puts.more)
  puts_visited (Err fault) puts = tt

  pub puts_part : (result : Result (Unit {0}) ReplayFault) → Puts b mid new t' t'' result
      → IfErr result (λ fault. WrotePart text old new t t'' fault)
  puts_part (Ok done) puts = tt
  puts_part (Err fault) puts = (
    same_part old new same (then_part old mid new a b wrote.0 puts.text),
    λ is. later_failed wrote.1 puts.failed,
  )

-- the writer's fault is no row's
pub writer_refuses : (Breaks : Rule → Type 0) (result : Result (Unit {0}) ReplayFault)
    → IfErr result (λ fault. fault ≡ Write) → IfErr result (IsRefusal Breaks)
writer_refuses Breaks (Ok done) only = tt
writer_refuses Breaks (Err fault) only = rw only tt

-- ---- the end

module _ (old mid new : Option (List ℕ)) (text : List ℕ) where
  pub end_wrote : Appends old mid text → Appends mid new [] → Appends old new text
  end_wrote one two = same_all old new (append-nil text) (Appends-trans old mid new text [] one two)

  pub end_part : Appends old mid text → AppendsPart mid new [] → AppendsPart old new text
  end_part one two = same_part old new (append-nil text) (then_part old mid new text [] one two)

pub writer_ok : {t t' t'' : Option (List WriteCall)} → HasMore t t' → EndsWith IsFlush t' t''
    → LeavesWriter t t'' (Ok tt)
writer_ok more ends = record { flushed = more_last IsFlush more ends; failed = λ is. absurd cc }

pub writer_err : {t t' : Option (List WriteCall)} (fault : ReplayFault) → (fault ≡ Write → HasWriteFailed t t')
    → LeavesWriter t t' (Err fault)
writer_err fault failed = record { flushed = tt; failed = λ is. failed (fault_is fault is) }
  where
    fault_is : (f : ReplayFault) → (let r : Result (Unit {0}) ReplayFault = Err f in r) ≡ Err Write → f ≡ Write
    fault_is f is = cc

-- a fault of the bank isn't the writer's
pub bank_err : {t t' : Option (List WriteCall)} (fault : Fault) → LeavesWriter t t' (Err (Bank fault))
bank_err fault = record { flushed = tt; failed = λ is. absurd cc }
