-- What holds before the first row is visited, and of a fault of the bank.
use Rattle.std.specs.Prelude.{◌≡◌, ◌≤◌, ◌-◌, ◌^◌, ◌++◌, ⊤, ℕ, List, [], ◌∷◌, None, Option, map}
use Rattle.std.proofs.Common.{append-nil, inr, refl, sym, subst, arith}
use Rattle.std.proofs.Math.Nat.{zero-add}
use Rattle.std.proofs.KnownBytes.{Appends-nil}
use Rattle.std.proofs.lemmas.List.{length-map}
use Rattle.sha2.specs.Hashers.{Holds256}
use Rattle.sha2.specs.declared.Sha256.{Sha256}
use Rattle.posting_core.specs.EndCalls.{WriteCall}
use Rattle.posting_core.proofs.Telling.{more_none}
use Rattle.posting_rules.specs.declared.fault.Fault.{Fault}
use Rattle.posting_rules.specs.declared.fault.Fault.TheVariants.{Memory}
use Rattle.report_contents.proofs.Written.{first_part, whole_part}
use Rattle.walked_rows.specs.KeptRows.{KeptItem, kept_item}
use Rattle.walked_rows.specs.declared.kept.KeptRequest.{KeptRequest}
use Rattle.bank_replays.specs.Digests.{EndsDigest, GoesOnBy}
use Rattle.sqlite_trees.specs.declared.store.Store.{Ghosts}
use Rattle.bank_replays.specs.Refilling.{FollowsRows, Plans}
use Rattle.bank_replays.specs.declared.refill.{Planned.Planned, Refill.Refill}
use Rattle.bank_replays.specs.Visiting.{AreTooMany, AsksMemory}
use Rattle.bank_replays.specs.Writing.{Wrote, WrotePart, WroteRows, WroteSomeRows}
use Rattle.bank_replays.specs.declared.chain.Digest.{Digest}
use Rattle.bank_replays.specs.declared.fault.ReplayFault.{ReplayFault}
use Rattle.bank_replays.specs.declared.fault.ReplayFault.TheVariants.{Bank, Write}

-- no row yet
pub none_after : (d : Digest) → GoesOnBy d d []
none_after d = record { requests = sym (zero-add d.requests); sha256 = refl; each = tt }

-- nothing was written yet
pub wrote_none : (w : Option (List ℕ)) (t : Option (List WriteCall)) → Wrote [] w w t t
wrote_none w t = (Appends-nil w, more_none t)

pub rows_none : (Is : KeptItem → Type 0) (text : KeptItem → List ℕ) (after : ℕ) (w : Option (List ℕ))
    (t : Option (List WriteCall)) → WroteRows Is text after [] w w t t
rows_none Is text after w t = record { wrote = wrote_none w t; each = tt }

-- nothing was hashed yet
pub hashed_none : (hasher : Sha256) (message : List ℕ) → Holds256 hasher message → Holds256 hasher (message ++ [])
hashed_none hasher message holds = subst (Holds256 hasher) (sym (append-nil message)) holds

-- it isn't the writer's
abbrev IsBank : ReplayFault → Type 0
IsBank Write = ⊥
IsBank (Bank fault) = ⊤

pub not_write : (fault : Fault) → (let f : ReplayFault = Bank fault in f) ≡ Write → ⊥
not_write fault is = subst IsBank is tt

-- it is for want of memory
abbrev IsMemory : ReplayFault → Type 0
IsMemory Write = ⊥
IsMemory (Bank fault) = fault ≡ Memory

pub memory_is : (fault : Fault) → (let f : ReplayFault = Bank fault in f) ≡ Bank Memory → fault ≡ Memory
memory_is fault is = subst IsMemory (sym is) refl

-- none is asked for where no row is kept
pub asks_none : {R : Type 0} (rows : List R) (fault : Fault) → (fault ≡ Memory → AreTooMany rows)
    → AsksMemory rows None (Bank fault)
asks_none rows fault many = (not_write fault, λ is. inr (many (memory_is fault is)))

-- all of a text is a prefix of it and more
pub all_part : (old new : Option (List ℕ)) (text more : List ℕ) {t t' : Option (List WriteCall)}
    → Wrote text old new t t' → (fault : Fault) → WrotePart (text ++ more) old new t t' (Bank fault)
all_part old new text more wrote fault =
    (first_part old new text more (whole_part old new text wrote.0), λ is. absurd (not_write fault is))

-- nothing was planned, and no request was taken
pub plans_none : {S W R : Type 0} {g : Ghosts S} (branch_of : R → ℕ) (change : R → Planned → Planned)
    (refill : Refill S W g) → Plans g branch_of change refill refill []
plans_none branch_of change refill = record { bank = refl; batch = refl; count = refl; each = λ b low. refl }

pub follows_none : {S W : Type 0} {g : Ghosts S} (refill : Refill S W g) → FollowsRows g refill refill []
follows_none refill sure plan is log holds = (log, holds, refl)

-- ---- a fault of the bank

pub digest_ends : {R : Type 0} (first : Digest) (rows : List R) (fault : Fault) → (fault ≡ Memory → AreTooMany rows)
    → EndsDigest first rows (Bank fault)
digest_ends first rows fault many =
    (not_write fault, λ is. let all = many (memory_is fault is) in omega (arith, all))

mapped_many : (rows : List KeptRequest) → AreTooMany rows → AreTooMany (map kept_item rows)
mapped_many rows many = subst (λ (n : ℕ). 2 ^ 64 - 1 ≤ n) (sym (length-map rows kept_item)) many

pub rows_end : {Is : KeptItem → Type 0} {text : KeptItem → List ℕ} {after : ℕ} (rows : List KeptRequest)
    {w w' : Option (List ℕ)} {t t' : Option (List WriteCall)} (fault : Fault) → (fault ≡ Memory → AreTooMany rows)
    → WroteRows Is text after (map kept_item rows) w w' t t'
    → WroteSomeRows Is text after (map kept_item rows) [] w w' t t' (Bank fault)
rows_end rows fault many visited = record {
  wrote = visited.wrote;
  each = visited.each;
  last = λ is. tt;
  many = λ is. mapped_many rows (many (memory_is fault is));
}
