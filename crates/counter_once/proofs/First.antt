-- What is answered by a bank that shows two branches.
use Rattle.std.proofs.Common.{◌≡◌, ℕ, List, [], ◌∷◌, Option, None, Result, Ok, Err, refl, subst, arith}
use Rattle.std.specs.Prelude.{OnOk, IfErr}
use Rattle.posting_core.specs.declared.{once.OnceFault.OnceFault, plain_bank.PlainBank.PlainBank}
use Rattle.posting_core.specs.declared.once.OnceFault.TheVariants.{Short, Read, Write, Bank}
use Rattle.posting_rules.specs.{declared.fault.Fault.Fault, believed.Tables.Tables, believed.Tables.AreTablesOf}
use Rattle.posting_rules.specs.declared.fault.Fault.TheVariants.{Memory, Store, Down, Damaged}
use Rattle.posting_core.specs.Plain.{plain_seen}
use Rattle.posting_rules.specs.believed.Commands.{Command, Open, AreCommands, opened_with}
use Rattle.posting_rules.specs.believed.Counter.{Seen, ShowsLog, Refuses}
use Rattle.posting_core.specs.Once as once
use Rattle.counter_once.specs.First.{two_branches, FirstIsAnswered, FirstLeaves}

pub answered : {T : Type 0} (result : Result T OnceFault) (r r' w w' : Option (List ℕ)) (c c' : Seen)
    (moment : ℕ) → c'.honest → ShowsLog c two_branches
    → OnOk result (once.RecordIsAnswered r r' w w' c c' moment) → OnOk result (FirstIsAnswered r r' w w')
answered (Ok x) r r' w w' c c' moment honest shows a =
    record { bytes = a.bytes; whole = a.whole; read = a.read; written = a.written honest two_branches shows }
answered (Err fault) r r' w w' c c' moment honest shows a = tt

-- a bank in memory is never down, so that it refuses for want of memory alone
only_memory : (fault : Fault) (a b : PlainBank) (cs : List Command)
    → Refuses fault (plain_seen a) (plain_seen b) cs → fault ≡ Memory
only_memory Memory a b cs u = refl
only_memory Store a b cs u = absurd u.down
only_memory Down a b cs u = absurd u.after
only_memory (Damaged rule) a b cs u = absurd u.down

left : (fault : OnceFault) (r r' w w' : Option (List ℕ)) (a b : PlainBank) (moment : ℕ)
    → ShowsLog (plain_seen a) two_branches
    → once.LeavesAfterFault fault r r' w w' (plain_seen a) (plain_seen b) moment → FirstLeaves fault r r' w w'
left Short r r' w w' a b moment shows x = record {
  bytes = x.bytes;
  few = x.few;
  read = x.read;
  ended = x.ended;
  written = x.written;
}
left Read r r' w w' a b moment shows x = x.written
left Write r r' w w' a b moment shows x =
    record {
      bytes = x.bytes;
      whole = x.whole;
      read = x.read;
      count = x.count;
      written = x.written tt two_branches shows;
    }
left (Bank fault) r r' w w' a b moment shows x = record {
  memory = only_memory fault a b _ x.refuses;
  written = x.written;
}

pub faulted : {T : Type 0} (result : Result T OnceFault) (r r' w w' : Option (List ℕ)) (a b : PlainBank)
    (moment : ℕ) → ShowsLog (plain_seen a) two_branches
    → IfErr result (λ fault. once.LeavesAfterFault fault r r' w w' (plain_seen a) (plain_seen b) moment)
    → IfErr result (λ fault. FirstLeaves fault r r' w w')
faulted (Ok x) r r' w w' a b moment shows left_so = tt
faulted {T} (Err fault) r r' w w' a b moment shows left_so = left fault r r' w w' a b moment shows left_so

pub two_are_commands : AreCommands two_branches
two_are_commands = (
  (omega arith, omega arith, omega arith, omega arith, tt),
  ((omega arith, omega arith, omega arith, omega arith, tt), tt),
)

-- the two branches by their numbers
pub numbered : (t : Tables) (one two : ℕ) → one ≡ 1 → two ≡ 2
    → AreTablesOf t (Open two (opened_with 2 None) ∷ Open one (opened_with 3 None) ∷ [])
    → AreTablesOf t two_branches
numbered t one two e f s =
    let log : Open two (opened_with 2 None) ∷ Open one (opened_with 3 None) ∷ [] ≡ two_branches = rw
    (e, f) refl in
    subst (λ (l : List Command). AreTablesOf t l) log s
